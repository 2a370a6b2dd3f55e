-- `send_pkt`, put together as the code does. Assumes nothing.
use Prim.Native.Nat.{ℕ, ◌-◌, ◌≤◌}
use mathlib.Core.Path.{◌≡◌, refl, sym, ap, ◌∙◌}
use mathlib.Core.Bool.{Bool, true, false, not, ◌&&◌}
use mathlib.Core.List.{List, ◌++◌}
use native.Mathlib.Omega.{arith}
use lib.ListN.{length, take, drop, length-drop}
use lib.Seq.{take_all, length-take-le}
use Rattle.defs.specs.Choice.{when}
use Rattle.std.specs.Prelude.{Result, Ok, Err}
use Rattle.std.specs.Result.{IsOk, result_and}
use Rattle.defs.specs.Answer.{told, is_done, Answer, done, when_done, answer_of}
use Rattle.defs.specs.declared.answer.Refusal.{Refusal}
use Rattle.defs.specs.Limits.{max_packet}
use Rattle.defs.specs.Copying.{copied}
use Rattle.defs.proofs.Basics.{never}
use Rattle.defs.proofs.ChoiceLaws.{when_true, when_false}
use Rattle.defs.proofs.AnswerLaws.{told_tells_apart, when_done_lem, result_ok}
use Rattle.defs.proofs.LadderLaws.{lowest_refused, lowest_on}
use Rattle.defs.specs.Stream.{failed}
use Rattle.defs.specs.declared.stream.StreamAnswer.{StreamAnswer}
use Rattle.defs.specs.declared.stream.StreamAnswer.TheVariants.{Count}
use Rattle.defs.proofs.StreamLaws.{NotCount, takes_none}
use Rattle.defs.proofs.CopyLaws.{copied_fits}
use Rattle.packet.specs.declared.hdr.VsockPacketHdr.{VsockPacketHdr}
use Rattle.txbuf.specs.Push.{PushIn, PushLeft, PushSays, push_seen, push_answer, push_answer_of, push_done, push_of}
use Rattle.txbuf.specs.declared.record.TxBuf.{TxBuf}
use Rattle.txbuf.proofs.PushLaws.{push_is_done}
use Rattle.rules.specs.Record.{quiet}
use Rattle.rules.specs.Send.{SendPlan, goes_of, plan_of, kills_of, send_late, send_door_in, Lingers, Killable, carried, Carries, SendIn, SendLeft, pkt_of, send_plan, send_answer, send_kills, send_carried, heard_of, rule_of, send_done, send_kept, send_of}
use Rattle.rules.specs.declared.record.VsockConnection.{VsockConnection}
use Rattle.rules.proofs.SendLaws.{Passed, carries}

-- ---- where the bytes go

-- all of what is left of a list
rest_whole : (bytes : List ℕ) (written : ℕ) → take (length bytes - written) (drop written bytes) ≡ drop written bytes
rest_whole bytes written = let l : length (drop written bytes) ≡ length bytes - written = length-drop written bytes in take_all (length bytes - written) (drop written bytes) (omega arith)

all_of_rest : (ring : TxBuf) (store bytes : List ℕ) (written : ℕ) → push_answer ring (length store) (length bytes - written) ≡ done
    → push_answer_of (record { ring = ring; store = store; src = take (length bytes - written) (drop written bytes) }) ≡ done
all_of_rest ring store bytes written d = ap (λ (s : List ℕ). push_answer ring (length store) (length s)) (rest_whole bytes written) ∙ ap (push_answer ring (length store)) (length-drop written bytes) ∙ d

-- a push that is done gives a ring
pub pushes : (ring : TxBuf) (store bytes y : List ℕ) (written : ℕ) (r : Result TxBuf Refusal) → push_answer ring (length store) (length bytes - written) ≡ done
    → PushSays (record { ring = ring; store = store; src = take (length bytes - written) (drop written bytes) }) (push_seen ring r y) → IsOk r
unfolding push_done
pushes ring store bytes y written r d says = ok_where_done r (told_tells_apart _ _ (ap (λ (o : PushLeft). o.answer) (says ∙ push_is_done _ (all_of_rest ring store bytes written d))))
  where
    ok_where_done : (r : Result TxBuf Refusal) → answer_of r ≡ done → IsOk r
    ok_where_done (Ok x) e = refl
    ok_where_done (Err q) e = absurd (never (ap is_done e))

pub pushed_is : (ring r : TxBuf) (store bytes y : List ℕ) (written : ℕ) (keeps : Bool) (a : Result TxBuf Refusal) → keeps ≡ true
    → push_answer ring (length store) (length bytes - written) ≡ done
    → PushSays (record { ring = ring; store = store; src = take (length bytes - written) (drop written bytes) }) (push_seen ring a y) → a ≡ Ok r
    → ◌≡◌ {A = PushLeft} (record { answer = told done; ring = r; store = y }) (carried keeps ring store (drop written bytes))
unfolding carried push_done
pushed_is ring r store bytes y written keeps a k d says e =
    let i : PushIn = record { ring = ring; store = store; src = drop written bytes } in
    let x : ◌≡◌ {A = PushLeft} (push_seen ring a y) (push_done i) =
    says ∙ ap (λ (s : List ℕ). push_of (record { ring = ring; store = store; src = s })) (rest_whole bytes written) ∙ push_is_done i (ap (push_answer ring (length store)) (length-drop written bytes) ∙ d) in
    ap (λ (q : Result TxBuf Refusal). push_seen ring q y) (sym e) ∙ x ∙ sym (when_true _ _ keeps k)

pub not_pushed : (ring : TxBuf) (store rest : List ℕ) (keeps : Bool) → keeps ≡ false
    → ◌≡◌ {A = PushLeft} (record { answer = told done; ring = ring; store = store }) (carried keeps ring store rest)
unfolding carried
not_pushed ring store rest keeps k = sym (when_false _ _ keeps k)

pub out_is : (out bytes x : List ℕ) (written : ℕ) → written ≤ length bytes → written ≤ length out → x ≡ copied out (take written bytes)
    → x ≡ take written bytes ++ drop written out
out_is out bytes x written p q e =
    let l : length (take written bytes) ≡ written = length-take-le written bytes p in
    e ∙ copied_fits out (take written bytes) (omega arith) ∙ ap (λ (n : ℕ). take written bytes ++ drop n out) l

-- ---- the plan, put together as the code does

module _ (c : VsockConnection) (pkt : VsockPacketHdr) (present : Bool) (a : StreamAnswer) where
  pub plan_none : goes_of c pkt.op present ≡ false → ◌≡◌ {A = SendPlan} (record { goes = false; len = 0; written = 0; broken = false }) (plan_of c pkt present a)
  unfolding plan_of when
  plan_none g = rw g refl

  -- data goes, to the ring
  pub plan_held : goes_of c pkt.op present ≡ true → quiet c.tx_buf ≡ false → ◌≡◌ {A = SendPlan} (record { goes = true; len = pkt.len; written = 0; broken = false }) (plan_of c pkt present a)
  unfolding plan_of when
  plan_held g q = rw (g, q) refl

  -- to the stream, which blocks or fails
  pub plan_stopped : goes_of c pkt.op present ≡ true → quiet c.tx_buf ≡ true → NotCount a
      → ◌≡◌ {A = SendPlan} (record { goes = true; len = pkt.len; written = 0; broken = failed a }) (plan_of c pkt present a)
  unfolding plan_of when
  plan_stopped g q k = rw (g, q, takes_none a k) refl

  -- or counts
  pub plan_counted : (n : ℕ) → goes_of c pkt.op present ≡ true → quiet c.tx_buf ≡ true → a ≡ Count n
      → ◌≡◌ {A = SendPlan} (record { goes = true; len = pkt.len; written = n; broken = false }) (plan_of c pkt present a)
  unfolding plan_of when
  plan_counted n g q e = rw (g, q, e) refl

-- ---- what a refusal that passed says

pub rules : (i : SendIn) (pkt : VsockPacketHdr) (p : SendPlan) (h : VsockConnection) → Passed i → p ≡ send_plan i → h ≡ heard_of i.conn pkt → Lingers h i.clock × (p.written ≤ max_packet)
unfolding heard_of
rules i pkt p h s e f =
    let k = s.killable in
    let w : (send_plan i).written ≤ max_packet = omega arith in
    rw (f, e) (s.lingers, w)

pub killable : (i : SendIn) (p : SendPlan) → Passed i → p ≡ send_plan i → Killable p
killable i p s e = rw e s.killable

pub carries_by : (i : SendIn) (p : SendPlan) (k : Bool) → Passed i → p ≡ send_plan i → k ≡ kills_of i.conn p
    → Carries i.conn.tx_buf i.store (take p.len i.buf) p.written (p.goes && not k) i.out
carries_by i p k s e f = rw (f, e) (carries i s)

-- ---- the ends of the call

-- what is left of a call that is refused
pub send_kept_lem : (i : SendIn) (r : Refusal) → send_answer i ≡ Err r
    → ◌≡◌ {A = SendLeft} (record { answer = told (Err r); conn = i.conn; store = i.store; out = i.out }) (send_of i)
unfolding send_of send_kept when_done when
send_kept_lem i r e = rw e refl

-- by its door
pub send_shut : (i : SendIn) (r : Refusal) → send_door_in i ≡ Err r
    → ◌≡◌ {A = SendLeft} (record { answer = told (Err r); conn = i.conn; store = i.store; out = i.out }) (send_of i)
unfolding send_answer
send_shut i r e = send_kept_lem i r (rw e (lowest_refused (Err r) _ refl))

-- past it: the header's, and the plan of it
pub record Found (i : SendIn) (pkt : VsockPacketHdr) (p : SendPlan) : Type 0 where
  pub door : send_door_in i ≡ done
  pub header : pkt ≡ pkt_of i
  pub plan : p ≡ send_plan i

pub found : (i : SendIn) (pkt : VsockPacketHdr) (p : SendPlan) → Ok pkt ≡ result_and (send_door_in i) (Ok (pkt_of i)) → p ≡ plan_of i.conn pkt i.present i.answers.first → Found i pkt p
found i pkt p e q =
    let k = result_ok _ _ _ e in
    record { door = k.0; header = k.1; plan = q ∙ ap (λ (z : VsockPacketHdr). plan_of i.conn z i.present i.answers.first) k.1 }

pub answers_late : (i : SendIn) (pkt : VsockPacketHdr) (p : SendPlan) (l : Answer) → Found i pkt p → l ≡ send_late p (length i.out) → send_answer i ≡ l
unfolding send_answer
answers_late i pkt p l f e = lowest_on _ _ _ (sym f.door) refl ∙ ap (λ (z : SendPlan). send_late z (length i.out)) (sym f.plan) ∙ sym e

pub send_left : (i : SendIn) (pkt : VsockPacketHdr) (p : SendPlan) (k empty : Bool) (ring : TxBuf) (heard c : VsockConnection) (x y : List ℕ) → Found i pkt p → send_answer i ≡ done
    → k ≡ kills_of i.conn p
    → ◌≡◌ {A = PushLeft} (record { answer = told done; ring = ring; store = x }) (carried (p.goes && not k) i.conn.tx_buf i.store (drop p.written (take p.len i.buf)))
    → y ≡ take p.written (take p.len i.buf) ++ drop p.written i.out
    → empty ≡ quiet i.conn.tx_buf → heard ≡ heard_of i.conn pkt → c ≡ rule_of heard empty pkt p k ring i.clock
    → ◌≡◌ {A = SendLeft} (record { answer = told done; conn = c; store = x; out = y }) (send_of i)
unfolding send_of send_done
send_left i pkt p k empty ring heard c x y f d e g h u j m =
    let z : k ≡ send_kills i = e ∙ ap (kills_of i.conn) f.plan in
    let q : ◌≡◌ {A = PushLeft} (record { answer = told done; ring = ring; store = x }) (send_carried i) = rw (f.plan, z) at g in
    let r : ring ≡ (send_carried i).ring = ap (λ (o : PushLeft). o.ring) q in
    let s : x ≡ (send_carried i).store = ap (λ (o : PushLeft). o.store) q in
    rw (m, h, s, r, j, u, z, f.plan, f.header) (sym (when_done_lem (send_answer i) (send_done i) (send_kept i) d))
