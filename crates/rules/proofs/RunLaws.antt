-- Demand 3 over every run: each call moves bytes as its own law says, and `runs` does the rest. Assumes nothing.
use Prim.Native.Nat.{ℕ}
use mathlib.Core.Path.{◌≡◌, refl, ap}
use mathlib.Core.Bool.{Bool, true, false}
use mathlib.Core.List.{List, []}
use native.Mathlib.Omega.{arith}
use Rattle.defs.specs.Answer.{is_done, when_done, Answer}
use Rattle.defs.proofs.ChoiceLaws.{when_holds}
use Rattle.runs.specs.Promises.{Keeps, EachMoves, Begins}
use Rattle.runs.proofs.Promises as any
use Rattle.txbuf.specs.Record.{used_of, held_from, held}
use Rattle.csm.specs.declared.pending.PendingRxSet.{PendingRxSet}
use Rattle.csm.specs.declared.state.ConnState.{ConnState}
use Rattle.rules.specs.Open.{Opening, ConnLeft, fresh_of, zero_conn, open_answer, peer_init_of, local_init_of}
use Rattle.rules.specs.Moves.{Numbers, Moved}
use Rattle.rules.specs.Runs.{Event, sends, receives, notifies, kills, looks, after, store_after, Made, connections, Start, Opens, Run, took_by, accepted_by, bytes, EveryRunForwards, CutsDoNotMatter}
use Rattle.rules.specs.declared.record.VsockConnection.{VsockConnection}
use Rattle.rules.proofs.CommonLaws.{took_sent, accepted_sent, took_notified}
use Rattle.rules.proofs.MovesLaws.{stays, send_moves, notify_moves, receive_keeps, kill_keeps}

-- what a call moves, whichever it is
pub event_moves : (c : VsockConnection) (store : List ℕ) (e : Event) → Numbers c → Made c store e
    → Moved c (after e) (held c.tx_buf store) (held (after e).tx_buf (store_after store e)) (took_by e) (accepted_by e)
event_moves c store (sends i o) n m = rw (← m.0, ← m.1, took_sent i o m.2, accepted_sent i o m.2) (send_moves i o (rw m.0 n) m.2)
event_moves c store (receives i o) n m = rw (← m.0) (stays i.conn o.conn store (rw m.0 n) (receive_keeps i o m.1))
event_moves c store (notifies i o) n m = rw (← m.0, ← m.1, took_notified i o m.2) (notify_moves i o (rw m.0 n) m.2)
event_moves c store (kills d o) n m = rw (← m.0) (stays d o.conn store (rw m.0 n) (kill_keeps d o m.1))
event_moves c store (looks l) n m = rw m.0 (stays c c store n refl)

moves : EachMoves connections bytes Numbers
moves c store e n m = let v = event_moves c store e n m in record { bytes = v.bytes; count = v.counted }

pub numbers_kept : Keeps connections Numbers
numbers_kept c store e n m = (event_moves c store e n m).numbers

-- ---- openings

-- an empty ring, and nothing counted
pub record Begun (c : VsockConnection) : Type 0 where
  pub head : c.tx_buf.head ≡ 0
  pub tail : c.tx_buf.tail ≡ 0
  count : c.fwd_cnt ≡ 0

begun_fresh : (o : Opening) (state : ConnState) (pending : PendingRxSet) → Begun (fresh_of o state pending)
unfolding fresh_of
begun_fresh o state pending = record { head = refl; tail = refl; count = refl }

begun_either : (a : Answer) (x y : VsockConnection) → Begun x → Begun y → Begun (when_done a x y)
unfolding when_done
begun_either a x y p q = when_holds Begun (is_done a) x y (λ t. p) (λ t. q)

begun : (guest : Bool) (o : Opening) (left : ConnLeft) → Opens guest o left → Begun left.conn
unfolding peer_init_of local_init_of zero_conn
begun true o left e = rw e (begun_either (open_answer o.size o.settings) _ _ (begun_fresh o _ _) (begun_fresh _ _ _))
begun false o left e = rw e (begun_either (open_answer o.size o.settings) _ _ (begun_fresh _ _ _) (begun_fresh _ _ _))

begins : (c : VsockConnection) (store : List ℕ) → Begun c → Begins connections bytes c store
unfolding held held_from
begins c store b = record { empty = rw (b.head, b.tail); count = b.count }

pub begun_numbers : (c : VsockConnection) → Begun c → Numbers c
begun_numbers c b = record { ring = record { head = rw b.head (omega arith); tail = rw b.tail (omega arith) }; fwd_cnt = rw b.count (omega arith) }

-- ---- every run

pub opening : {s : Start} {t : List Event} {c : VsockConnection} {store : List ℕ} → Run s t c store → Begun s.left.conn
opening {s} r = begun s.guest s.given s.left r.opened

pub run_numbers : {s : Start} {t : List Event} {c : VsockConnection} {store : List ℕ} → Run s t c store → Numbers c
run_numbers r = any.every_run_keeps connections Numbers numbers_kept _ _ _ _ _ (begun_numbers _ (opening r)) r.steps

pub every_run_forwards : EveryRunForwards
every_run_forwards s t c store r =
    any.every_run_forwards connections bytes Numbers numbers_kept moves _ _ _ _ _ (begun_numbers _ (opening r)) (begins _ _ (opening r)) r.steps

-- ---- two runs

none_held : (c : VsockConnection) (store : List ℕ) → used_of c.tx_buf ≡ 0 → held c.tx_buf store ≡ []
unfolding held held_from
none_held c store e = ap (held_from store c.tx_buf.size c.tx_buf.tail) e

pub cuts_do_not_matter : CutsDoNotMatter
cuts_do_not_matter r s t u c d x y p q same e f =
    any.cuts_do_not_matter connections bytes t u c d x y (every_run_forwards r t c x p) (every_run_forwards s u d y q) same (none_held c x e) (none_held d y f)
