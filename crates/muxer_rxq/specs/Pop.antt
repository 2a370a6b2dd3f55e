-- `peek` and `pop` (01, "The two queues"). Assumes nothing.
use Rattle.std.specs.Prelude.{◌≡◌, true}
use Rattle.defs.specs.Ladder.{record_answer}
use Rattle.queue.specs.Look.{PeekLeft, peek_of}
use Rattle.queue.specs.Pop as pops
use Rattle.muxer_rxq.specs.Item.{zero_item}
use Rattle.muxer_rxq.specs.Queue.{rxq, sound_q, MuxerRxQ}
use Rattle.muxer_rxq.specs.declared.rxq.MuxerRx.{MuxerRx}

-- THE STATEMENT of `peek`
abbrev pub PeekSays : MuxerRxQ → PeekLeft MuxerRx → Type 0
PeekSays q left = left ≡ peek_of rxq q

abbrev pub PopLeft : Type 0
PopLeft = pops.PopLeft MuxerRx MuxerRxQ

-- the front item goes, whatever it is, and is given as it is; the zero item where there is none
abbrev pub pop_of : MuxerRxQ → PopLeft
pop_of q = pops.pop_of rxq zero_item (λ it. true) (λ it. it) (record_answer (sound_q q)) q

-- THE STATEMENT of `pop`
abbrev pub PopSays : MuxerRxQ → PopLeft → Type 0
PopSays q left = left ≡ pop_of q
