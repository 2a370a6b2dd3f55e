-- Credit, by virtio 1.2, section 5.10.6.3, and 01's threshold rule. Both are shut: use the laws of Promises. Assumes nothing.
use Rattle.std.specs.Prelude.{ℕ, ◌-◌, Bool, nat_le, nat_lt}
use Rattle.defs.specs.Choice.{when}
use Rattle.defs.specs.Wrapping.{wsub}

-- the peer's free space (2026-03): 0 when the outstanding bytes, tx_cnt - peer_fwd_cnt modulo 2^32, are at least peer_buf_alloc, the difference otherwise
unfoldable pub peer_avail_credit : ℕ → ℕ → ℕ → ℕ
peer_avail_credit alloc sent fwd = when (nat_le alloc (wsub sent fwd)) 0 (alloc - wsub sent fwd)

-- 01, `send_pkt`: a credit update is set if (R - (fwd_cnt - last told)), wrapping, is below T
unfoldable pub peer_needs_credit_update : ℕ → ℕ → ℕ → ℕ → Bool
peer_needs_credit_update size threshold fwd told = nat_lt (wsub size (wsub fwd told)) threshold
