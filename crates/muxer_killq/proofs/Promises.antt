-- The promises of specs/Promises, specs/Outcomes and specs/Answers, each by its law. Assumes nothing.
use Rattle.queue.proofs.EveryLaws as every
use Rattle.queue.proofs.QueueLaws as queues
use Rattle.muxer_killq.specs.Queue.{killq}
use Rattle.muxer_killq.specs.Promises.{QueueIsItsList, EverySortIsStable, EdgesHold}
use Rattle.muxer_killq.specs.Outcomes.{SoundMeans, SoundStaysSound, FrontAtPlaceZero, LooksMean, RefusalsChangeNothing, RefusedIsEmpty, EveryNewIsEmpty, BuiltHolds, EveryPushMeans, EveryPeekMeans, EveryPopMeans, EqualityMeans}
use Rattle.muxer_killq.specs.Answers.{LookAnswers, NewAnswers, PopAnswers, PushAnswers, BuildAnswers}
use Rattle.muxer_killq.proofs.AnswerLaws as answers
use Rattle.muxer_killq.proofs.Edges as edges
use Rattle.muxer_killq.proofs.OutcomeLaws as outcomes
use Rattle.muxer_killq.proofs.QueueLaws as laws
use Rattle.muxer_killq.proofs.QueueLaws.{lawful}
use Rattle.muxer_killq.proofs.SoundLaws as sounds
use Rattle.muxer_killq.proofs.SortLaws as sorts

pub queue_is_its_list : QueueIsItsList
queue_is_its_list = queues.queue_is_its_list killq lawful

pub sound_stays_sound : SoundStaysSound
sound_stays_sound = sounds.sound_stays_sound

pub every_sort_is_stable : EverySortIsStable
every_sort_is_stable = sorts.every_sort_is_stable

pub sound_means : SoundMeans
sound_means = laws.sound_means

pub front_at_place_zero : FrontAtPlaceZero
front_at_place_zero = laws.front_at_place_zero

pub looks_mean : LooksMean
looks_mean q g = every.looks_mean killq lawful q g

pub refusals_change_nothing : RefusalsChangeNothing
refusals_change_nothing = outcomes.refusals_change_nothing

pub refused_is_empty : RefusedIsEmpty
refused_is_empty = outcomes.refused_is_empty

pub every_new_is_empty : EveryNewIsEmpty
every_new_is_empty = outcomes.every_new_is_empty

pub built_holds : BuiltHolds
built_holds = outcomes.built_holds

pub every_push_means : EveryPushMeans
every_push_means = outcomes.every_push_means

pub every_peek_means : EveryPeekMeans
every_peek_means = outcomes.every_peek_means

pub every_pop_means : EveryPopMeans
every_pop_means = outcomes.every_pop_means

pub equality_means : EqualityMeans
equality_means = outcomes.equality_means

pub look_answers : LookAnswers
look_answers = answers.look_answers

pub new_answers : NewAnswers
new_answers = answers.new_answers

pub pop_answers : PopAnswers
pop_answers = answers.pop_answers

pub push_answers : PushAnswers
push_answers = answers.push_answers

pub build_answers : BuildAnswers
build_answers = answers.build_answers

pub edges_hold : EdgesHold
edges_hold = edges.edges_hold
