-- The promises of specs/Promises, each by its law. Assumes nothing.
use Rattle.csm.specs.Promises.{SaysWhatWasRead, TurnAnswers, LastToldMoves, ShutOnlyGrows}
use Rattle.csm.specs.Said.{SaysFirstPending, SevenAndEightAlwaysLeave, ResetIsSaidAlone}
use Rattle.csm.specs.Means.{EveryStateMeans, EveryTimerMeans, EveryShutdownMeans}
use Rattle.csm.proofs.FirstLaws as first
use Rattle.csm.proofs.MeansLaws as means
use Rattle.csm.proofs.SaidLaws as said
use Rattle.csm.proofs.StateLaws as states
use Rattle.csm.proofs.TurnLaws as turns

pub says_what_was_read : SaysWhatWasRead
says_what_was_read = turns.says_what_was_read

pub turn_answers : TurnAnswers
turn_answers = first.turn_answers

pub last_told_moves : LastToldMoves
last_told_moves = first.last_told_moves

pub shut_only_grows : ShutOnlyGrows
shut_only_grows = states.shut_only_grows

pub every_state_means : EveryStateMeans
every_state_means = means.every_state_means

pub every_timer_means : EveryTimerMeans
every_timer_means = means.every_timer_means

pub every_shutdown_means : EveryShutdownMeans
every_shutdown_means = means.every_shutdown_means

pub says_first_pending : SaysFirstPending
says_first_pending = said.says_first_pending

pub seven_and_eight : SevenAndEightAlwaysLeave
seven_and_eight = said.seven_and_eight

pub reset_is_said_alone : ResetIsSaidAlone
reset_is_said_alone = said.reset_is_said_alone
