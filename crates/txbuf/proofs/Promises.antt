-- The promises of specs/Promises, specs/Means, specs/Answers and specs/Outcomes, each by its law. Assumes nothing.
use mathlib.Core.Path.{refl}
use Rattle.defs.specs.Choice.{when}
use Rattle.defs.specs.Answer.{when_done}
use Rattle.defs.specs.Limits.{is_ring_size, is_packet_length}
use Rattle.defs.specs.Ladder.{door_of, late_of, lowest_of, record_answer}
use Rattle.defs.specs.Copying.{copied}
use Rattle.txbuf.specs.Record.{sound_record, sound_of, held_from, held, new_of}
use Rattle.txbuf.specs.Push.{runs, push_answer, push_done, push_kept, push_of}
use Rattle.txbuf.specs.Flush.{first_piece, taken_by, over_by, ends_by, flush_count, flush_over, flush_answer, second_piece, flush_done, flush_kept, flush_of}
use Rattle.txbuf.specs.Edges.{reading_bcd, reading_f, reading_r}
use Rattle.txbuf.specs.Promises.{TwoRunsAreOneWrite, HeldIsCounted, PushAppends, FirstPieceIsOldest, UnsoundHasNoPiece, PiecesAreHeld, FlushTakesOldest, FlushProgresses, EdgesHold}
use Rattle.txbuf.specs.Answers.{PushAnswers, NumberedAnswers, FlushAnswers, NewAnswers, LookAnswers}
use Rattle.txbuf.specs.Means.{SoundMeans}
use Rattle.txbuf.specs.Outcomes.{RefusalsChangeNothing, NineAndTenChangeNothing, SoundStaysSound, NewIsEmpty, EveryPushMeans, NumberedIsPush, EveryFlushMeans, UnreachedIsIgnored, LooksMean}
use Rattle.txbuf.proofs.AnswerLaws as answers
use Rattle.txbuf.proofs.DoneLaws as done
use Rattle.txbuf.proofs.RecordLaws as records
use Rattle.txbuf.proofs.RingLaws as rings
use Rattle.txbuf.proofs.PushLaws as pushes
use Rattle.txbuf.proofs.FlushLaws as flushes

pub sound_means : SoundMeans
sound_means = records.sound_means

pub two_runs_are_one_write : TwoRunsAreOneWrite
two_runs_are_one_write = rings.two_runs

pub held_is_counted : HeldIsCounted
held_is_counted = records.held_length

pub push_appends : PushAppends
push_appends = pushes.push_appends

pub first_piece_is_oldest : FirstPieceIsOldest
first_piece_is_oldest = flushes.first_piece_is_oldest

pub unsound_has_no_piece : UnsoundHasNoPiece
unsound_has_no_piece = flushes.unsound_has_no_piece

pub pieces_are_held : PiecesAreHeld
pieces_are_held = flushes.pieces_are_held

pub flush_takes_oldest : FlushTakesOldest
flush_takes_oldest = flushes.flush_takes_oldest

pub flush_progresses : FlushProgresses
flush_progresses = flushes.flush_progresses

pub push_answers : PushAnswers
push_answers = answers.push_answers

pub numbered_answers : NumberedAnswers
numbered_answers = answers.numbered_answers

pub flush_answers : FlushAnswers
flush_answers = answers.flush_answers

pub new_answers : NewAnswers
new_answers = answers.new_answers

pub look_answers : LookAnswers
look_answers = answers.look_answers

pub refusals_change_nothing : RefusalsChangeNothing
refusals_change_nothing = answers.refusals_change_nothing

pub nine_and_ten_change_nothing : NineAndTenChangeNothing
nine_and_ten_change_nothing = answers.nine_and_ten_change_nothing

pub sound_stays_sound : SoundStaysSound
sound_stays_sound = done.sound_stays_sound

pub new_is_empty : NewIsEmpty
new_is_empty = done.new_is_empty

pub every_push_means : EveryPushMeans
every_push_means = done.every_push_means

pub numbered_is_push : NumberedIsPush
numbered_is_push = answers.numbered_is_push

pub every_flush_means : EveryFlushMeans
every_flush_means = done.every_flush_means

pub unreached_is_ignored : UnreachedIsIgnored
unreached_is_ignored = done.unreached_is_ignored

pub looks_mean : LooksMean
looks_mean = done.looks_mean

pub edges_hold : EdgesHold
unfolding when when_done is_ring_size is_packet_length door_of late_of lowest_of copied sound_record sound_of record_answer held_from held runs push_answer push_done push_kept push_of first_piece taken_by over_by ends_by flush_count flush_over flush_answer second_piece flush_done flush_kept flush_of new_of reading_bcd reading_f reading_r
edges_hold = record {
  bcd = (refl, (refl, (refl, tt)));
  f = (refl, (refl, (refl, (refl, tt))));
  r = (refl, (refl, (refl, (refl, (refl, (refl, (refl, (refl, (refl, (refl, (refl, (refl, (refl, tt)))))))))))));
}
