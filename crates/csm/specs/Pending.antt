-- The indications that are pending (01, `recv_pkt`; csm/mod.rs, PendingRxSet). Assumes nothing.
use Rattle.std.specs.Prelude.{Bool, true, false, not, ◌&&◌, ◌||◌}
use Rattle.csm.specs.declared.pending.PendingRxSet.{PendingRxSet}

-- no indication is pending
abbrev pub none : PendingRxSet
none = record { request = false; response = false; rst = false; rw = false; credit_update = false }

-- what a kill leaves pending (2026-07): the reset, and nothing else
abbrev pub reset_only : PendingRxSet
reset_only = record { request = false; response = false; rst = true; rw = false; credit_update = false }

-- any indication is pending
unfoldable pub is_pending : PendingRxSet → Bool
is_pending p = p.request || p.response || p.rst || p.rw || p.credit_update

-- what is set of Rst, Rw and CreditUpdate besides
abbrev pub marked : PendingRxSet → Bool → Bool → Bool → PendingRxSet
marked p rst rw update = record {
  request = p.request;
  response = p.response;
  rst = p.rst || rst;
  rw = p.rw || rw;
  credit_update = p.credit_update || update;
}

-- the used indication is gone, those behind it stay
abbrev pub left_of : PendingRxSet → Bool → PendingRxSet
left_of p ends = record {
  request = p.request && (p.rst || p.response);
  response = p.response && p.rst;
  rst = false;
  rw = p.rw && (p.rst || p.response || p.request);
  credit_update = p.credit_update && not ends;
}
