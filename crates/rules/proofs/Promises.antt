-- The promises of specs/Promises and specs/Answers, Outcomes, Runs and Stories, each by its law. Assumes nothing.
use Rattle.rules.specs.Promises.{SendMoves, NotifyMoves, SendCountedOff, NotifyCountedOff, NotifyOffersPieces, ReadWithinAsked, ReceiveKeeps, KillKeeps, EdgesHold}
use Rattle.rules.specs.Answers.{SoundMeans, OpenAnswers, LookAnswers, DoorAnswers, SendAnswers, RecvAnswers, NotifyAnswers, RawAnswers}
use Rattle.rules.specs.Outcomes.{RefusalsChangeNothing, EverySendHears, EverySendAccepts, UpdateIsDue, EveryTurnLeaves, HeaderTells, SevenAndEightLeave, EveryKillKills, EveryPollPolls, ExpiryMeans, LooksTell, RefusedTellsNothing}
use Rattle.rules.specs.Leaves.{EverySendLeaves, EveryNotifyLeaves, OpeningMeans, RefusedIsZero, EveryRawLeaves}
use Rattle.rules.specs.Common.{KillsAlike, TimersArm, ShutdownArms, LastToldMoves, UnreachedIsIgnored, SoundStaysSound, OffersMean, DataFitsPeer, NoRoomAsks}
use Rattle.rules.specs.Runs.{EveryRunForwards, CutsDoNotMatter, FlagsOnlyGrow, KilledStays, ClosingIsTimed, Drains}
use Rattle.rules.specs.Stories.{StoriesHold}
use Rattle.rules.proofs.Edges as edges
use Rattle.rules.proofs.RecordLaws as records
use Rattle.rules.proofs.AnswerLaws as answers
use Rattle.rules.proofs.MovesLaws as moves
use Rattle.rules.proofs.CallLaws as outcomes
use Rattle.rules.proofs.ChangeLaws as leaves
use Rattle.rules.proofs.CommonLaws as common
use Rattle.rules.proofs.RunLaws as forwarding
use Rattle.rules.proofs.FlagLaws as flags
use Rattle.rules.proofs.TimerLaws as timers
use Rattle.rules.proofs.DrainLaws as draining
use Rattle.rules.proofs.Stories as stories
use Rattle.rules.proofs.OfferLaws as offers

pub sound_means : SoundMeans
sound_means = records.sound_means

pub open_answers : OpenAnswers
open_answers = answers.open_answers

pub look_answers : LookAnswers
look_answers = answers.look_answers

pub door_answers : DoorAnswers
door_answers = answers.door_answers

pub send_answers : SendAnswers
send_answers = answers.send_answers

pub recv_answers : RecvAnswers
recv_answers = answers.recv_answers

pub notify_answers : NotifyAnswers
notify_answers = answers.notify_answers

pub raw_answers : RawAnswers
raw_answers = answers.raw_answers

pub send_moves : SendMoves
send_moves = moves.send_moves

pub notify_moves : NotifyMoves
notify_moves = moves.notify_moves

pub send_counted_off : SendCountedOff
send_counted_off = offers.send_counted_off

pub notify_counted_off : NotifyCountedOff
notify_counted_off = offers.notify_counted_off

pub notify_offers_pieces : NotifyOffersPieces
notify_offers_pieces = offers.notify_offers_pieces

pub read_within_asked : ReadWithinAsked
read_within_asked = offers.read_within_asked

pub receive_keeps : ReceiveKeeps
receive_keeps = moves.receive_keeps

pub kill_keeps : KillKeeps
kill_keeps = moves.kill_keeps

pub refusals_change_nothing : RefusalsChangeNothing
refusals_change_nothing = outcomes.refusals_change_nothing

pub every_send_hears : EverySendHears
every_send_hears = outcomes.every_send_hears

pub every_send_accepts : EverySendAccepts
every_send_accepts = outcomes.every_send_accepts

pub update_is_due : UpdateIsDue
update_is_due = outcomes.update_is_due

pub every_turn_leaves : EveryTurnLeaves
every_turn_leaves = outcomes.every_turn_leaves

pub header_tells : HeaderTells
header_tells = outcomes.header_tells

pub seven_and_eight_leave : SevenAndEightLeave
seven_and_eight_leave = outcomes.seven_and_eight_leave

pub every_kill_kills : EveryKillKills
every_kill_kills = outcomes.every_kill_kills

pub every_poll_polls : EveryPollPolls
every_poll_polls = outcomes.every_poll_polls

pub expiry_means : ExpiryMeans
expiry_means = outcomes.expiry_means

pub every_send_leaves : EverySendLeaves
every_send_leaves = leaves.every_send_leaves

pub every_notify_leaves : EveryNotifyLeaves
every_notify_leaves = leaves.every_notify_leaves

pub opening_means : OpeningMeans
opening_means = leaves.opening_means

pub refused_is_zero : RefusedIsZero
refused_is_zero = leaves.refused_is_zero

pub every_raw_leaves : EveryRawLeaves
every_raw_leaves = leaves.every_raw_leaves

pub unreached_is_ignored : UnreachedIsIgnored
unreached_is_ignored = common.unreached_is_ignored

pub sound_stays_sound : SoundStaysSound
sound_stays_sound = common.sound_stays_sound

pub offers_mean : OffersMean
offers_mean = common.offers_mean

pub looks_tell : LooksTell
looks_tell = outcomes.looks_tell

pub refused_tells_nothing : RefusedTellsNothing
refused_tells_nothing = outcomes.refused_tells_nothing

pub data_fits_peer : DataFitsPeer
data_fits_peer = common.data_fits_peer

pub no_room_asks : NoRoomAsks
no_room_asks = common.no_room_asks

pub kills_alike : KillsAlike
kills_alike = leaves.kills_alike

pub timers_arm : TimersArm
timers_arm = leaves.timers_arm

pub shutdown_arms : ShutdownArms
shutdown_arms = timers.shutdown_arms

pub last_told_moves : LastToldMoves
last_told_moves = leaves.last_told_moves

pub every_run_forwards : EveryRunForwards
every_run_forwards = forwarding.every_run_forwards

pub cuts_do_not_matter : CutsDoNotMatter
cuts_do_not_matter = forwarding.cuts_do_not_matter

pub flags_only_grow : FlagsOnlyGrow
flags_only_grow = flags.flags_only_grow

pub killed_stays : KilledStays
killed_stays = flags.killed_stays

pub closing_is_timed : ClosingIsTimed
closing_is_timed = timers.closing_is_timed

pub drains : Drains
drains = draining.drains

pub stories_hold : StoriesHold
stories_hold = stories.stories_hold

pub edges_hold : EdgesHold
edges_hold = edges.edges_hold
