use Rattle.std.proofs.Common.{◌≡◌, ap}
use Rattle.defs.specs.Answer.{is_done}
use Rattle.defs.proofs.AnswerLaws.{not_done}
use Rattle.queue.proofs.QueuedLaws.{made_kept, made_done}
use Rattle.muxer_rxq.specs.Build.{BuildIn, build_answer, build_of}
use Rattle.muxer_rxq.proofs.BuildLaws.{ready, build_answer_lem}
use Rattle.muxer_rxq.proofs.rxq.MuxerRxQRxQueue.from_conn_map.Goals as goal
use Rattle.muxer_rxq.proofs.rxq.MuxerRxQRxQueue.from_conn_map.Goals.{After-record_answer-answer}

given : After-record_answer-answer → BuildIn
given c = record { limit = c.args.limit; ports = c.args.ports.now; used = c.args.used.now; pending = c.args.pending.now }

-- what the answer is
answered : (c : After-record_answer-answer) → c.record_answer-answer.result ≡ build_answer (given c)
unfolding given
answered c = build_answer_lem _ _ _ _ c.record_answer-answer.ensures c.is_rxq_limit-limited.ensures c.is_sound-sound.ensures

pub returns-in_default : goal.returns-in_default
unfolding given build_of
returns-in_default c =
    made_kept _ _ _ (answered (goal.at.returns-in_default c).After-record_answer-answer) _ _ (not_done _ (c.in_default.not-Ok tt)) c.empty.ensures

pub walk-requires : goal.walk-requires
unfolding given
walk-requires c =
    let r = ready _ _ (answered (goal.at.walk-requires c).After-record_answer-answer) c.in-Ok.is in
    (r.in_range, r.used_long, r.marks_long)

pub returns : goal.returns
unfolding given build_of
returns c = made_done _ _ _ (answered (goal.at.returns c).After-record_answer-answer) _ _ (ap is_done c.in-Ok.is) c.walk.ensures
