-- The two openings of a connection (01, "The numbers of a connection"). Assumes nothing.
use Rattle.std.specs.Prelude.{ℕ, ◌≡◌, true, false, ◌&&◌, None}
use Rattle.defs.specs.Ladder.{record_answer}
use Rattle.defs.specs.Answer.{Told, told, when_done, Answer}
use Rattle.defs.specs.Limits.{is_ring_size}
use Rattle.csm.specs.Pending.{none}
use Rattle.csm.specs.declared.pending.PendingRxSet.{PendingRxSet}
use Rattle.csm.specs.declared.state.ConnState.{ConnState}
use Rattle.csm.specs.declared.state.ConnState.TheVariants.{LocalInit, PeerInit}
use Rattle.rules.specs.Record.{ok_settings}
use Rattle.rules.specs.declared.record.Settings.{Settings}
use Rattle.rules.specs.declared.record.VsockConnection.{VsockConnection}

-- what an opening is given: ring size, the other settings, addresses, and the guest's space
pub record Opening : Type 0 where
  pub size : ℕ
  pub settings : Settings
  pub local_cid : ℕ
  pub peer_cid : ℕ
  pub local_port : ℕ
  pub peer_port : ℕ
  pub alloc : ℕ

-- what a call leaves that gives back an answer and a record
pub record ConnLeft : Type 0 where
  pub answer : Told
  pub conn : VsockConnection

-- an empty ring, all counters 0, no timer
unfoldable pub fresh_of : Opening → ConnState → PendingRxSet → VsockConnection
fresh_of o state pending = record {
  settings = o.settings;
  state = state;
  local_cid = o.local_cid;
  peer_cid = o.peer_cid;
  local_port = o.local_port;
  peer_port = o.peer_port;
  tx_buf = record { size = o.size; head = 0; tail = 0 };
  fwd_cnt = 0;
  peer_buf_alloc = o.alloc;
  peer_fwd_cnt = 0;
  rx_cnt = 0;
  last_fwd_cnt_to_peer = 0;
  pending_rx = pending;
  expiry = None;
}

-- the all-zero record (LocalInit, no timer)
unfoldable pub zero_conn : VsockConnection
zero_conn =
    fresh_of
    (record {
      size = 0;
      settings = record { threshold = 0; request_timeout = 0; shutdown_timeout = 0 };
      local_cid = 0;
      peer_cid = 0;
      local_port = 0;
      peer_port = 0;
      alloc = 0;
    })
    LocalInit none

-- answer 1 exactly where a setting is out of range
unfoldable pub open_answer : ℕ → Settings → Answer
open_answer size settings = record_answer (is_ring_size size && ok_settings settings size)

-- by the guest: PeerInit, Response pending, the given space
unfoldable pub peer_init_of : Opening → ConnLeft
peer_init_of o = record {
  answer = told (open_answer o.size o.settings);
  conn =
      when_done (open_answer o.size o.settings)
      (fresh_of o PeerInit (record { request = false; response = true; rst = false; rw = false; credit_update = false })) zero_conn;
}

-- the same with another space
abbrev pub allocated : Opening → ℕ → Opening
allocated o alloc = record {
  size = o.size;
  settings = o.settings;
  local_cid = o.local_cid;
  peer_cid = o.peer_cid;
  local_port = o.local_port;
  peer_port = o.peer_port;
  alloc = alloc;
}

-- by the host: LocalInit, Request pending, space 0: the guest's is not known yet
unfoldable pub local_init_of : Opening → ConnLeft
local_init_of o = record {
  answer = told (open_answer o.size o.settings);
  conn =
      when_done (open_answer o.size o.settings)
      (fresh_of (allocated o 0) LocalInit (record { request = true; response = false; rst = false; rw = false; credit_update = false })) zero_conn;
}

abbrev pub PeerInitSays : Opening → ConnLeft → Type 0
PeerInitSays o left = left ≡ peer_init_of o

abbrev pub LocalInitSays : Opening → ConnLeft → Type 0
LocalInitSays o left = left ≡ local_init_of o
