-- The promises of specs/Promises, each by its law. Assumes nothing.
use Rattle.std.proofs.Common.{refl}
use Rattle.defs.specs.Choice.{when}
use Rattle.defs.specs.Credit.{peer_avail_credit, peer_needs_credit_update}
use Rattle.defs.specs.Edges.{reading_e, reading_h}
use Rattle.defs.specs.Promises.{ToldTellsApart, DoneIsZero, LowestNumber, RecordAnswers, ClockAnswers, RefusedTellsNothing, StreamMeans, RingSizes, LimitsMean, WrapsAround, KeepsPlace, CreditIsFreeSpace, ThresholdTells, EdgesHold}
use Rattle.defs.proofs.AnswerLaws as answers
use Rattle.defs.proofs.LadderLaws as ladder
use Rattle.defs.proofs.LookLaws as looks
use Rattle.defs.proofs.StreamLaws as stream
use Rattle.defs.proofs.LimitLaws as limits
use Rattle.defs.proofs.WrappingLaws as wrapping
use Rattle.defs.proofs.CreditLaws as credit

pub told_tells_apart : ToldTellsApart
told_tells_apart = answers.told_tells_apart

pub done_is_zero : DoneIsZero
done_is_zero = answers.done_is_zero

pub lowest_number : LowestNumber
lowest_number = ladder.lowest_number

pub record_answers : RecordAnswers
record_answers = ladder.record_answers

pub clock_answers : ClockAnswers
clock_answers = ladder.clock_answers

pub refused_tells_nothing : RefusedTellsNothing
refused_tells_nothing = looks.refused_tells_nothing

pub stream_means : StreamMeans
stream_means = stream.stream_means

pub ring_sizes : RingSizes
ring_sizes = limits.ring_sizes

pub limits_mean : LimitsMean
limits_mean = limits.limits_mean

pub wraps_around : WrapsAround
wraps_around = wrapping.wraps_around

pub keeps_place : KeepsPlace
keeps_place = wrapping.keeps_place

pub credit_is_free_space : CreditIsFreeSpace
credit_is_free_space = credit.credit_is_free_space

pub threshold_tells : ThresholdTells
threshold_tells = credit.threshold_tells

pub edges_hold : EdgesHold
unfolding when reading_e reading_h peer_avail_credit peer_needs_credit_update
edges_hold = record { e = (refl, (refl, (refl, tt))); h = (refl, tt) }
