-- The calls of the RX queue answer by 01's rows. Assumes nothing.
use mathlib.Core.Path.{◌≡◌, refl}
use mathlib.Core.Bool.{Bool, true, false, not, ◌&&◌, ◌||◌}
use lib.Dec.{eqb}
use lib.ListN.{length}
use Rattle.defs.specs.Choice.{when}
use Rattle.defs.specs.Answer.{told}
use Rattle.defs.specs.Promises.{Exactly}
use Rattle.defs.proofs.MeansLaws.{not_as_is, in_words, equal_means, not_means, and_means, or_means}
use Rattle.defs.proofs.LadderLaws.{by_record}
use Rattle.conn_map.proofs.Promises.{sound_means as table_means}
use Rattle.queue.specs.Queued.{ListLeft, has_room}
use Rattle.queue.proofs.AnswerLaws as answers
use Rattle.muxer_rxq.specs.Queue.{rxq, items}
use Rattle.muxer_rxq.specs.Push.{last_conn, evict_list, push_list, PushIn}
use Rattle.muxer_rxq.specs.Build.{build_answer, build_of}
use Rattle.muxer_rxq.specs.Outcomes.{Sound}
use Rattle.muxer_rxq.specs.Answers.{InRange, LookAnswers, NewAnswers, PopAnswers, TurnedDown, PushAnswers, BuildAnswers}
use Rattle.muxer_rxq.specs.declared.rxq.MuxerRx.{MuxerRx}
use Rattle.muxer_rxq.proofs.QueueLaws.{in_range, limit_means, sound_means}
use Rattle.muxer_rxq.proofs.OutcomeLaws.{every_last_conn_means}

pub look_answers : LookAnswers
look_answers = answers.look_answers rxq Sound sound_means

pub new_answers : NewAnswers
new_answers = answers.new_answers rxq InRange in_range

pub pop_answers : PopAnswers
pop_answers q left says = by_record _ _ _ (answers.pop_told rxq _ _ _ _ q left says) (sound_means q)

by_tests : (room rst none : Bool) (a b c d : ListLeft MuxerRx) → (told a.answer).number ≡ 0 → (told b.answer).number ≡ 11 → (told c.answer).number ≡ 0 → (told d.answer).number ≡ 11
    → (told (when room a (when rst (when none b c) d)).answer).number ≡ when (not room && (not rst || none)) 11 0
unfolding when
by_tests true rst none a b c d e f g h = e
by_tests false true true a b c d e f g h = f
by_tests false true false a b c d e f g h = g
by_tests false false none a b c d e f g h = h

turned_down_means : (i : PushIn)
    → Exactly (not (has_room i.queue.synced (length (items i.queue)) i.queue.limit) && (not i.rx.rst || eqb (last_conn (items i.queue)) 0) ≡ true) (TurnedDown i)
turned_down_means i =
    let l = items i.queue in
    and_means (not_means (answers.room_of rxq i.queue)) (or_means (not_as_is i.rx.rst) (in_words (equal_means (last_conn l) 0) (every_last_conn_means l).none))

pub push_answers : PushAnswers
unfolding push_list evict_list
push_answers i =
    let q = i.queue in
    answers.push_answers rxq Sound sound_means (push_list i.rx) q _ (TurnedDown i) (turned_down_means i)
    (by_tests (has_room q.synced (length (items q)) q.limit) i.rx.rst (eqb (last_conn (items q)) 0) _ _ _ _ refl refl refl refl)

pub build_answers : BuildAnswers
unfolding build_of build_answer
build_answers i left says =
    by_record _ _ _ (answers.made_told rxq _ _ left says) (and_means (limit_means i.limit) (table_means i.ports i.used (length i.pending)))
