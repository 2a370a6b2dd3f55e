-- What this crate promises besides specs/Answers and specs/Runs, in statements only; proofs/Promises has a line for each. Assumes nothing.
use Rattle.std.specs.Prelude.{ℕ, ◌≤◌, ◌≡◌, Bool, List, [], ◌++◌, take}
use Rattle.defs.specs.Reading.{Hold}
use Rattle.txbuf.specs.Record.{held}
use Rattle.rules.specs.Open.{ConnLeft}
use Rattle.rules.specs.Look.{KillSays}
use Rattle.rules.specs.Receive.{RecvIn, RecvLeft, RecvSays}
use Rattle.rules.specs.Send.{SendIn, SendLeft, SendSays, accepted}
use Rattle.rules.specs.Notify.{NotifyIn, NotifyLeft, NotifySays}
use Rattle.rules.specs.Offer.{send_offers, recv_taken, recv_asks, notify_offered, notify_offers, notify_first, notify_second}
use Rattle.rules.specs.Moves.{Numbers, account, send_taken, notify_taken, Moved}
use Rattle.rules.specs.Edges.{reading_a, reading_bcd, reading_e, reading_f, reading_g, reading_h, reading_i, reading_k, reading_l, reading_r}
use Rattle.rules.specs.declared.record.VsockConnection.{VsockConnection}

-- a packet: what the stream took, then what is held, is what was held, then what was accepted
abbrev pub SendMoves : Type 0
SendMoves =
    (i : SendIn) (left : SendLeft) → Numbers i.conn → SendSays i left
    → Moved i.conn left.conn (held i.conn.tx_buf i.store) (held left.conn.tx_buf left.store) (take (send_taken i) left.out) (accepted i)

-- an event: the oldest bytes leave the ring, and nothing is accepted
abbrev pub NotifyMoves : Type 0
NotifyMoves =
    (i : NotifyIn) (left : NotifyLeft) → Numbers i.conn → NotifySays i left
    → Moved i.conn left.conn (held i.conn.tx_buf i.store) (held left.conn.tx_buf i.store) (take (notify_taken i) left.out) []

-- what stands at the front of the outgoing buffer is counted off what the call offers
abbrev pub SendCountedOff : Type 0
SendCountedOff = (i : SendIn) (left : SendLeft) → SendSays i left → take (send_taken i) left.out ≡ take (send_taken i) (send_offers i)

abbrev pub NotifyCountedOff : Type 0
NotifyCountedOff = (i : NotifyIn) (left : NotifyLeft) → Numbers i.conn → NotifySays i left → take (notify_taken i) left.out ≡ take (notify_taken i) (notify_offers i)

-- the two pieces that an event offers are all that it offers
abbrev pub NotifyOffersPieces : Type 0
NotifyOffersPieces = (c : VsockConnection) (writable : Bool) (store : List ℕ) → Numbers c → notify_first c writable store ++ notify_second c writable store ≡ notify_offered c writable store

-- no more is read than was asked for
abbrev pub ReadWithinAsked : Type 0
ReadWithinAsked = (i : RecvIn) → recv_taken i ≤ (recv_asks i).count

-- receiving and killing leave ring, count and settings
abbrev pub ReceiveKeeps : Type 0
ReceiveKeeps = (i : RecvIn) (left : RecvLeft) → RecvSays i left → account left.conn ≡ account i.conn

abbrev pub KillKeeps : Type 0
KillKeeps = (c : VsockConnection) (left : ConnLeft) → KillSays c left → account left.conn ≡ account c

-- 01's readings at the edges of this crate
pub record EdgesHold : Type 0 where
  pub a : Hold reading_a
  pub bcd : Hold reading_bcd
  pub e : Hold reading_e
  pub f : Hold reading_f
  pub g : Hold reading_g
  pub h : Hold reading_h
  pub i : Hold reading_i
  pub k : Hold reading_k
  pub l : Hold reading_l
  pub r : Hold reading_r
