-- The promises of specs/Promises, specs/Outcomes and specs/Answers, each by its law. Assumes nothing.
use Rattle.queue.proofs.EveryLaws as every
use Rattle.queue.proofs.QueueLaws as queues
use Rattle.muxer_rxq.specs.Queue.{rxq}
use Rattle.muxer_rxq.specs.Promises.{QueueIsItsList, EdgesHold}
use Rattle.muxer_rxq.specs.Outcomes.{SoundMeans, SoundStaysSound, FrontAtPlaceZero, LooksMean, RefusalsChangeNothing, RefusedIsEmpty, EveryNewIsEmpty, BuiltHolds, EveryLastConnMeans, EveryPushMeans, EveryPeekMeans, EveryPopMeans}
use Rattle.muxer_rxq.specs.Answers.{LookAnswers, NewAnswers, PopAnswers, PushAnswers, BuildAnswers}
use Rattle.muxer_rxq.proofs.AnswerLaws as answers
use Rattle.muxer_rxq.proofs.Edges as edges
use Rattle.muxer_rxq.proofs.OutcomeLaws as outcomes
use Rattle.muxer_rxq.proofs.QueueLaws as laws
use Rattle.muxer_rxq.proofs.QueueLaws.{lawful}
use Rattle.muxer_rxq.proofs.SoundLaws as sounds

pub queue-is-its-list : QueueIsItsList
queue-is-its-list = queues.queue-is-its-list rxq lawful

pub sound-stays-sound : SoundStaysSound
sound-stays-sound = sounds.sound-stays-sound

pub sound-means : SoundMeans
sound-means = laws.sound-means

pub front-at-place-zero : FrontAtPlaceZero
front-at-place-zero = laws.front-at-place-zero

pub looks-mean : LooksMean
looks-mean q g = every.looks-mean rxq lawful q g

pub refusals-change-nothing : RefusalsChangeNothing
refusals-change-nothing = outcomes.refusals-change-nothing

pub refused-is-empty : RefusedIsEmpty
refused-is-empty = outcomes.refused-is-empty

pub every-new-is-empty : EveryNewIsEmpty
every-new-is-empty = outcomes.every-new-is-empty

pub built-holds : BuiltHolds
built-holds = outcomes.built-holds

pub every-last-conn-means : EveryLastConnMeans
every-last-conn-means = outcomes.every-last-conn-means

pub every-push-means : EveryPushMeans
every-push-means = outcomes.every-push-means

pub every-peek-means : EveryPeekMeans
every-peek-means = outcomes.every-peek-means

pub every-pop-means : EveryPopMeans
every-pop-means = outcomes.every-pop-means

pub look-answers : LookAnswers
look-answers = answers.look-answers

pub new-answers : NewAnswers
new-answers = answers.new-answers

pub pop-answers : PopAnswers
pop-answers = answers.pop-answers

pub push-answers : PushAnswers
push-answers = answers.push-answers

pub build-answers : BuildAnswers
build-answers = answers.build-answers

pub edges-hold : EdgesHold
edges-hold = edges.edges-hold
