-- The calls of the kill queue answer by 01's rows. Assumes nothing.
use mathlib.Core.Path.{◌≡◌, refl}
use mathlib.Core.Bool.{Bool, true, false, not}
use lib.ListN.{length}
use Rattle.defs.specs.Choice.{when}
use Rattle.defs.specs.Answer.{told}
use Rattle.defs.proofs.MeansLaws.{not_means, and_means}
use Rattle.defs.proofs.LadderLaws.{by_clock}
use Rattle.conn_map.proofs.Promises.{sound_means as table_means}
use Rattle.queue.specs.Queued.{ListLeft, has_room}
use Rattle.queue.specs.Means.{Room}
use Rattle.queue.proofs.AnswerLaws as answers
use Rattle.muxer_killq.specs.Queue.{killq, items}
use Rattle.muxer_killq.specs.Push.{item_at, push_list}
use Rattle.muxer_killq.specs.Build.{build_answer, build_of}
use Rattle.muxer_killq.specs.Outcomes.{Sound}
use Rattle.muxer_killq.specs.Answers.{InRange, LookAnswers, NewAnswers, PopAnswers, PushAnswers, BuildAnswers}
use Rattle.muxer_killq.specs.declared.item.MuxerKillQItem.{MuxerKillQItem}
use Rattle.muxer_killq.proofs.QueueLaws.{in_range, limit_means, sound_means}

pub look_answers : LookAnswers
look_answers = answers.look_answers killq Sound sound_means

pub new_answers : NewAnswers
new_answers = answers.new_answers killq InRange in_range

pub pop_answers : PopAnswers
pop_answers i left says = by_clock _ _ i.clock _ (answers.pop_told killq _ _ _ _ i.queue left says) (sound_means i.queue)

by_room : (room : Bool) (a b : ListLeft MuxerKillQItem) → (told a.answer).number ≡ 0 → (told b.answer).number ≡ 11 → (told (when room a b).answer).number ≡ when (not room) 11 0
unfolding when
by_room true a b e f = e
by_room false a b e f = f

pub push_answers : PushAnswers
unfolding push_list
push_answers i =
    let q = i.queue in
    answers.push_answers killq Sound sound_means (push_list (item_at i.key i.kill_time)) q _ (Room killq q → ⊥) (not_means (answers.room_of killq q))
    (by_room (has_room q.synced (length (items q)) q.limit) _ _ refl refl)

pub build_answers : BuildAnswers
unfolding build_of build_answer
build_answers i left says =
    by_clock _ _ i.clock _ (answers.made_told killq _ _ left says) (and_means (limit_means i.limit) (table_means i.ports i.used (length i.times)))
