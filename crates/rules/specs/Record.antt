-- The record of a connection (01, "The numbers of a connection"): what is sound, and the numbers that rules go by. Assumes nothing.
use Rattle.std.specs.Prelude.{ℕ, Bool, ◌&&◌, eqb}
use Rattle.defs.specs.Limits.{is_threshold, is_timeout}
use Rattle.defs.specs.Credit.{peer_avail_credit}
use Rattle.txbuf.specs.Record.{is_empty, sound_record, sound_of}
use Rattle.txbuf.specs.declared.record.TxBuf.{TxBuf}
use Rattle.csm.specs.Pending.{reset_only}
use Rattle.csm.specs.declared.pending.PendingRxSet.{PendingRxSet}
use Rattle.csm.specs.Timer.{Timer}
use Rattle.csm.specs.declared.state.ConnState.{ConnState}
use Rattle.csm.specs.declared.state.ConnState.TheVariants.{Killed}
use Rattle.rules.specs.declared.record.Settings.{Settings}
use Rattle.rules.specs.declared.record.VsockConnection.{VsockConnection}

-- T from 1 to R, both timeouts from 1 to 60,000 ms
unfoldable pub ok_settings : Settings → ℕ → Bool
ok_settings g size = is_threshold g.threshold size && is_timeout g.request_timeout && is_timeout g.shutdown_timeout

-- sound, where no ring storage is lent
unfoldable pub sound_conn : VsockConnection → Bool
sound_conn c = sound_record c.tx_buf && ok_settings c.settings c.tx_buf.size

-- sound over a ring storage of so many bytes
unfoldable pub sound_over : VsockConnection → ℕ → Bool
sound_over c storage = sound_of c.tx_buf storage && ok_settings c.settings c.tx_buf.size

-- THE RING COUNTS AS EMPTY
unfoldable pub quiet : TxBuf → Bool
quiet ring = is_empty ring

-- the guest's credit
unfoldable pub credit_of : VsockConnection → ℕ
credit_of c = peer_avail_credit c.peer_buf_alloc c.rx_cnt c.peer_fwd_cnt

-- the guest has no room
abbrev pub no_credit : VsockConnection → Bool
no_credit c = eqb (credit_of c) 0

-- ---- what moves: settings and addresses never do, the other fields in four groups

-- the guest's space as it last said it
pub record Peer : Type 0 where
  pub alloc : ℕ
  pub fwd : ℕ

-- what the guest sent: the ring, and how much of it the stream has taken
pub record Onward : Type 0 where
  pub ring : TxBuf
  pub count : ℕ

-- what was sent to the guest: how much, and our count as it last heard it
pub record Sent : Type 0 where
  pub count : ℕ
  pub last_told : ℕ

-- where the connection stands
pub record Phase : Type 0 where
  pub state : ConnState
  pub expiry : Timer
  pub pending : PendingRxSet

abbrev pub peer_of : VsockConnection → Peer
peer_of c = record { alloc = c.peer_buf_alloc; fwd = c.peer_fwd_cnt }

abbrev pub onward_of : VsockConnection → Onward
onward_of c = record { ring = c.tx_buf; count = c.fwd_cnt }

abbrev pub sent_of : VsockConnection → Sent
sent_of c = record { count = c.rx_cnt; last_told = c.last_fwd_cnt_to_peer }

abbrev pub phase_of : VsockConnection → Phase
phase_of c = record { state = c.state; expiry = c.expiry; pending = c.pending_rx }

-- the record with these groups
abbrev pub regrouped : VsockConnection → Peer → Onward → Sent → Phase → VsockConnection
regrouped c peer onward sent phase = record {
  settings = c.settings;
  state = phase.state;
  local_cid = c.local_cid;
  peer_cid = c.peer_cid;
  local_port = c.local_port;
  peer_port = c.peer_port;
  tx_buf = onward.ring;
  fwd_cnt = onward.count;
  peer_buf_alloc = peer.alloc;
  peer_fwd_cnt = peer.fwd;
  rx_cnt = sent.count;
  last_fwd_cnt_to_peer = sent.last_told;
  pending_rx = phase.pending;
  expiry = phase.expiry;
}

-- another state, timer and set of indications
unfoldable pub with_state : VsockConnection → ConnState → Timer → PendingRxSet → VsockConnection
with_state c state expiry pending = regrouped c (peer_of c) (onward_of c) (sent_of c) (record { state = state; expiry = expiry; pending = pending })

-- KILLED (2026-07): the state, and only the reset pending. `kill`, a failed write, a full ring and a failed flush all kill by this
unfoldable pub killed_of : VsockConnection → VsockConnection
killed_of c = with_state c Killed c.expiry reset_only
