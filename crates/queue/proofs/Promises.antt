-- The promises of specs/Promises, each by its law. Assumes nothing.
use Rattle.queue.specs.Promises.{EveryQueueIsItsList, SoundStaysSound, EverySoundMeans, PlaceAfterMeans, UsedMeans, EveryMadeIsEmpty, RefusalsChangeNothing, EveryLookMeans, EveryQueueFills, RoomMeans, EveryPushBackMeans, EveryPeekMeans, EveryPopMeans, EveryLookAnswers, EveryNewAnswers, EdgesHold}
use Rattle.queue.proofs.Edges as edges
use Rattle.queue.proofs.AnswerLaws as answers
use Rattle.queue.proofs.EveryLaws as every
use Rattle.queue.proofs.FillLaws as fills
use Rattle.queue.proofs.QueueLaws as queues
use Rattle.queue.proofs.TurnLaws as turns

pub every_queue_is_its_list : EveryQueueIsItsList
every_queue_is_its_list Q A k w = queues.queue_is_its_list k w

pub sound_stays_sound : SoundStaysSound
sound_stays_sound Q A k w = queues.sound_stays_sound k w

pub every_sound_means : EverySoundMeans
every_sound_means Q A k w = every.sound_means k w.zero_passes w.zero_alone

pub place_after_means : PlaceAfterMeans
place_after_means = turns.place_mod

pub used_means : UsedMeans
used_means = turns.used_means

pub every_made_is_empty : EveryMadeIsEmpty
every_made_is_empty = record { done = λ Q A k w. every.new_empty k w; refused = λ Q A k w. every.refused_empty k w }

pub refusals_change_nothing : RefusalsChangeNothing
refusals_change_nothing Q A k q = every.refusals_keep k q

pub every_look_means : EveryLookMeans
every_look_means Q A k w q g = every.looks_mean k w q g

pub every_queue_fills : EveryQueueFills
every_queue_fills Q A k w limit h l = fills.all_filled k w limit h l

pub room_means : RoomMeans
room_means = answers.room_means

pub every_push_back_means : EveryPushBackMeans
every_push_back_means Q A k w x q left e g = every.push_back_means k w q g x left e

pub every_peek_means : EveryPeekMeans
every_peek_means Q A k w q left e g = every.peek_means k w q g left e

pub every_pop_means : EveryPopMeans
every_pop_means Q A G k w nothing due give Due says q left e g = every.pop_means k w q g nothing due give Due says left e

pub every_look_answers : EveryLookAnswers
every_look_answers Q A k = answers.look_answers k

pub every_new_answers : EveryNewAnswers
every_new_answers Q A k = answers.new_answers k

pub edges_hold : EdgesHold
edges_hold = edges.edges_hold
