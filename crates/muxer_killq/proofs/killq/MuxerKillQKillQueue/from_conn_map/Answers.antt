use Rattle.std.proofs.Common.{rules, arith, ◌≡◌, refl, ap, length}
use Rattle.defs.specs.Answer.{is_done}
use Rattle.defs.specs.Limits.{max_killq}
use Rattle.defs.proofs.AnswerLaws.{not_done}
use Rattle.queue.proofs.QueueLaws.{sound_says}
use Rattle.queue.proofs.QueuedLaws.{made_kept, made_done}
use Rattle.muxer_killq.specs.Queue.{killq}
use Rattle.muxer_killq.proofs.QueueLaws.{lawful}
use Rattle.muxer_killq.specs.Build.{BuildIn, build_answer, build_of}
use Rattle.muxer_killq.proofs.BuildLaws.{ready, build_answer_lem, sorted_collected}
use Rattle.muxer_killq.proofs.SoundLaws.{collected_sound}
use Rattle.muxer_killq.proofs.killq.MuxerKillQKillQueue.from_conn_map.Goals as goal
use Rattle.muxer_killq.proofs.killq.MuxerKillQKillQueue.from_conn_map.Goals.{After-clock_answer-answer}

given : After-clock_answer-answer → BuildIn
given c = record { limit = c.args.limit; clock = c.args.clock; ports = c.args.ports.now; used = c.args.used.now; times = c.args.times.now }

-- what the answer is
answered : (c : After-clock_answer-answer) → c.clock_answer-answer.result ≡ build_answer (given c)
unfolding given
answered c = build_answer_lem _ _ _ _ c.clock_answer-answer.ensures c.is_killq_limit-limited.ensures c.is_sound-sound.ensures

pub returns-in_default : goal.returns-in_default
unfolding given build_of
returns-in_default c =
    made_kept _ _ _ (answered (goal.at.returns-in_default c).After-clock_answer-answer) _ _ (not_done _ (c.in_default.not-Ok tt)) c.empty.ensures

pub collect-queue-requires : goal.collect-queue-requires
unfolding given
collect-queue-requires c =
    let r = ready _ _ (answered (goal.at.collect-queue-requires c).After-clock_answer-answer) c.in-Ok.is in
    (r.in_range, r.used_long, r.marks_long)

pub sort-requires : goal.sort-requires
unfolding given
sort-requires c =
    let q = c.collect-queue.result in
    let n : length q.q ≡ max_killq = search rules in
    let s = sound_says killq lawful q n (collected_sound _ _ (answered (goal.at.sort-requires c).After-clock_answer-answer) c.in-Ok.is _ _ c.collect-queue.ensures) in
    omega (arith, s.most, s.within)

pub returns : goal.returns
unfolding given build_of
returns c =
    let q = c.collect-queue.result in
    let n : length q.q ≡ max_killq = search rules in
    let a = answered (goal.at.returns c).After-clock_answer-answer in
    let s = collected_sound _ _ a c.in-Ok.is _ _ c.collect-queue.ensures in
    made_done _ _ _ a _ _ (ap is_done c.in-Ok.is) (sorted_collected _ _ _ q _ _ n c.collect-queue.ensures s refl c.sort.ensures)
