-- What each state of a connection allows, and what a SHUTDOWN makes of it (01, `recv_pkt` and `send_pkt`). Assumes nothing.
use Rattle.std.specs.Prelude.{ℕ, ◌/◌, ◌%◌, ◌≡◌, Bool, true, false, not, ◌&&◌, ◌||◌, eqb}
use Rattle.packet.specs.Uapi.{flag_shutdown_rcv, flag_shutdown_send}
use Rattle.csm.specs.declared.state.ConnState.{ConnState}
use Rattle.csm.specs.declared.state.ConnState.TheVariants.{LocalInit, PeerInit, Established, LocalClosed, PeerClosed, Killed}

-- the stream is watched for data, credit permitting: as the Rust's `get_polled_evset`
abbrev pub polls : ConnState → Bool
polls LocalInit = true
polls PeerInit = true
polls Established = true
polls LocalClosed = false
polls (PeerClosed recv_off send_off) = not recv_off
polls Killed = false

-- data may go to the guest: Established or PeerClosed(no receive-off, any)
abbrev pub gives : ConnState → Bool
gives LocalInit = false
gives PeerInit = false
gives Established = true
gives LocalClosed = false
gives (PeerClosed recv_off send_off) = not recv_off
gives Killed = false

-- the guest's data is taken: Established or PeerClosed(any, no send-off)
abbrev pub takes : ConnState → Bool
takes LocalInit = false
takes PeerInit = false
takes Established = true
takes LocalClosed = false
takes (PeerClosed recv_off send_off) = not send_off
takes Killed = false

-- the guest may ask for our numbers: Established, PeerInit or PeerClosed(any, no send-off)
abbrev pub asks : ConnState → Bool
asks LocalInit = false
asks PeerInit = true
asks Established = true
asks LocalClosed = false
asks (PeerClosed recv_off send_off) = not send_off
asks Killed = false

-- opened by the host, and not confirmed by the guest yet
abbrev pub is_local_init : ConnState → Bool
is_local_init LocalInit = true
is_local_init PeerInit = false
is_local_init Established = false
is_local_init LocalClosed = false
is_local_init (PeerClosed recv_off send_off) = false
is_local_init Killed = false

-- shutdown flags: 1 receive, 2 send; the guest will receive no more
abbrev pub recv_off : ℕ → Bool
recv_off flags = eqb (flags / flag_shutdown_rcv % 2) 1

-- the guest will send no more
abbrev pub send_off : ℕ → Bool
send_off flags = eqb (flags / flag_shutdown_send % 2) 1

-- SHUTDOWN in Established: PeerClosed with the flags; in PeerClosed: flags are ORed
abbrev pub shut_by : ConnState → Bool → Bool → ConnState
shut_by LocalInit recv_off send_off = LocalInit
shut_by PeerInit recv_off send_off = PeerInit
shut_by Established recv_off send_off = PeerClosed recv_off send_off
shut_by LocalClosed recv_off send_off = LocalClosed
shut_by (PeerClosed a b) recv_off send_off = PeerClosed (a || recv_off) (b || send_off)
shut_by Killed recv_off send_off = Killed

-- PeerClosed(true, true)
abbrev pub both_off : ConnState → Bool
both_off LocalInit = false
both_off PeerInit = false
both_off Established = false
both_off LocalClosed = false
both_off (PeerClosed a b) = a && b
both_off Killed = false

-- what may follow PeerClosed(r, s): flags that have only grown, or LocalClosed, or Killed
pub data Grown (r s : Bool) : ConnState → Type 0 where
  grown : (a b : Bool) → (r ≡ true → a ≡ true) → (s ≡ true → b ≡ true) → Grown r s (PeerClosed a b)
  closed : Grown r s LocalClosed
  dead : Grown r s Killed
