-- Every public call is pinned by its own contract, which only proofs/ can name (`Learnt`: what a caller learns of it). Assumes nothing.
use Prim.Native.Nat.{ℕ}
use mathlib.Core.Bool.{Bool}
use mathlib.Core.List.{List}
use mathlib.Core.Path.{◌≡◌, refl, sym, ap, ◌∙◌}
use Rattle.std.specs.Prelude.{Result, Option, Some, None, is_some, unwrap_or}
use Rattle.defs.specs.Answer.{Told, told, answer_of, given_or}
use Rattle.defs.specs.declared.answer.Refusal.{Refusal}
use Rattle.defs.proofs.Basics.{never}
use Rattle.defs.proofs.AnswerLaws.{seen_apart}
use Rattle.defs.proofs.LookLaws.{flag_apart}
use Rattle.csm.specs.Timer.{Timer}
use Rattle.csm.specs.declared.state.ConnState.{ConnState}
use Rattle.csm.specs.declared.state.ConnState.TheVariants.{LocalInit}
use Rattle.rules.specs.declared.record.VsockConnection.{VsockConnection}
use Rattle.connection.specs.Look.{no_events}
use Rattle.connection.specs.declared.look.EvSet.{EvSet}
use Rattle.defs.specs.Pinned.{Pinned}
use Rattle.rules.specs.Open.{ConnLeft}
use Rattle.rules.specs.Look.{ExpiryLeft, StateLeft, EvSetLeft}
use Rattle.rules.specs.Raw.{RawLeft}
use Rattle.rules.specs.Receive.{RecvLeft}
use Rattle.rules.specs.Send.{SendLeft}
use Rattle.rules.specs.Notify.{NotifyLeft}
use Rattle.rules.specs.Offer.{AskedLeft}
use Rattle.defs.proofs.Pins.{by_equation, by_result}
use Rattle.connection.proofs.open.new_peer_init.Reads as new_peer_init
use Rattle.connection.proofs.open.new_local_init.Reads as new_local_init
use Rattle.connection.proofs.look.has_pending_rx.Reads as has_pending_rx
use Rattle.connection.proofs.look.will_expire.Reads as will_expire
use Rattle.connection.proofs.look.has_expired.Reads as has_expired
use Rattle.connection.proofs.look.expiry.Reads as expiry
use Rattle.connection.proofs.look.state.Reads as state
use Rattle.connection.proofs.look.get_polled_evset.Reads as get_polled_evset
use Rattle.connection.proofs.look.kill.Reads as kill
use Rattle.connection.proofs.raw.send_bytes_raw.Reads as send_bytes_raw
use Rattle.connection.proofs.receive.recv_pkt.Reads as recv_pkt
use Rattle.connection.proofs.send.send_pkt.Reads as send_pkt
use Rattle.connection.proofs.event.notify.Reads as notify
use Rattle.connection.proofs.offer.send_door.Reads as send_door
use Rattle.connection.proofs.offer.send_writes.Reads as send_writes
use Rattle.connection.proofs.offer.send_offered.Reads as send_offered
use Rattle.connection.proofs.offer.recv_door.Reads as recv_door
use Rattle.connection.proofs.offer.recv_asked.Reads as recv_asked
use Rattle.connection.proofs.event.notify_door.Reads as notify_door
use Rattle.connection.proofs.offer.notify_offered.Reads as notify_offered
use Rattle.connection.proofs.offer.notify_offered_next.Reads as notify_offered_next
use Rattle.connection.proofs.raw.raw_door.Reads as raw_door
use Rattle.connection.proofs.offer.raw_offered.Reads as raw_offered

-- ---- what is seen of a result tells it from any other

expiry_apart : (r s : Result Timer Refusal) → ◌≡◌ {A = ExpiryLeft} (record { answer = told (answer_of r); expiry = given_or None r }) (record { answer = told (answer_of s); expiry = given_or None s }) → r ≡ s
expiry_apart r s e = seen_apart None r s (ap (λ (o : ExpiryLeft). o.answer) e) (ap (λ (o : ExpiryLeft). o.expiry) e)

state_apart : (r s : Result ConnState Refusal) → ◌≡◌ {A = StateLeft} (record { answer = told (answer_of r); state = given_or LocalInit r }) (record { answer = told (answer_of s); state = given_or LocalInit s }) → r ≡ s
state_apart r s e = seen_apart LocalInit r s (ap (λ (o : StateLeft). o.answer) e) (ap (λ (o : StateLeft). o.state) e)

abbrev ev_set_seen : Result EvSet Refusal → EvSetLeft
ev_set_seen r = record { answer = told (answer_of r); readable = (given_or no_events r).readable; writable = (given_or no_events r).writable }

ev_set_apart : (r s : Result EvSet Refusal) → ev_set_seen r ≡ ev_set_seen s → r ≡ s
ev_set_apart r s e =
    let given : given_or no_events r ≡ given_or no_events s = λ i. record { readable = (e i).readable; writable = (e i).writable } in
    seen_apart no_events r s (ap (λ (o : EvSetLeft). o.answer) e) given

abbrev asked_seen : Result (Option ℕ) Refusal → AskedLeft
asked_seen r = record { answer = told (answer_of r); reads = is_some (given_or None r); count = unwrap_or (given_or None r) 0 }

some_apart : (p q : Option ℕ) → is_some p ≡ is_some q → unwrap_or p 0 ≡ unwrap_or q 0 → p ≡ q
some_apart (Some x) (Some y) e f = ap Some f
some_apart (Some x) None e f = absurd (never (sym e))
some_apart None (Some y) e f = absurd (never e)
some_apart None None e f = refl

asked_apart : (r s : Result (Option ℕ) Refusal) → asked_seen r ≡ asked_seen s → r ≡ s
asked_apart r s e =
    seen_apart None r s (ap (λ (o : AskedLeft). o.answer) e) (some_apart _ _ (ap (λ (o : AskedLeft). o.reads) e) (ap (λ (o : AskedLeft). o.count) e))

kill_apart : (c : VsockConnection) (r s : Result VsockConnection Refusal)
    → ◌≡◌ {A = ConnLeft} (record { answer = told (answer_of r); conn = given_or c r }) (record { answer = told (answer_of s); conn = given_or c s }) → r ≡ s
kill_apart c r s e = seen_apart c r s (ap (λ (o : ConnLeft). o.answer) e) (ap (λ (o : ConnLeft). o.conn) e)

raw_apart : (r s : Result ℕ Refusal) (x y : List ℕ)
    → ◌≡◌ {A = RawLeft} (record { answer = told (answer_of r); count = given_or 0 r; out = x }) (record { answer = told (answer_of s); count = given_or 0 s; out = y })
    → ◌≡◌ {A = Result ℕ Refusal × List ℕ} (r, x) (s, y)
raw_apart r s x y e =
    let f = seen_apart 0 r s (ap (λ (o : RawLeft). o.answer) e) (ap (λ (o : RawLeft). o.count) e) in
    let g = ap (λ (o : RawLeft). o.out) e in
    λ i. (f i, g i)

notify_apart : (c : VsockConnection) (r s : Result VsockConnection Refusal) (x y : List ℕ)
    → ◌≡◌ {A = NotifyLeft} (record { answer = told (answer_of r); conn = given_or c r; out = x }) (record { answer = told (answer_of s); conn = given_or c s; out = y })
    → ◌≡◌ {A = Result VsockConnection Refusal × List ℕ} (r, x) (s, y)
notify_apart c r s x y e =
    let f = seen_apart c r s (ap (λ (o : NotifyLeft). o.answer) e) (ap (λ (o : NotifyLeft). o.conn) e) in
    let g = ap (λ (o : NotifyLeft). o.out) e in
    λ i. (f i, g i)

send_apart : (c : VsockConnection) (r s : Result VsockConnection Refusal) (x y u v : List ℕ)
    → ◌≡◌ {A = SendLeft} (record { answer = told (answer_of r); conn = given_or c r; store = x; out = u }) (record { answer = told (answer_of s); conn = given_or c s; store = y; out = v })
    → ◌≡◌ {A = Result VsockConnection Refusal × List ℕ × List ℕ} (r, x, u) (s, y, v)
send_apart c r s x y u v e =
    let f = seen_apart c r s (ap (λ (o : SendLeft). o.answer) e) (ap (λ (o : SendLeft). o.conn) e) in
    let g = ap (λ (o : SendLeft). o.store) e in
    let h = ap (λ (o : SendLeft). o.out) e in
    λ i. (f i, g i, h i)

-- any two outcomes that meet a call's contract are identical: what it gives back (of an opening and of `recv_pkt` its answer by `told`), and what it leaves behind each `&mut`; the first parameter's end is `e.0`, the second's `e.1.0`
pub record EachCallPinned : Type 0 where
  pub new_peer_init : Pinned new_peer_init.Learnt ConnLeft (λ l r e. record { answer = told r.answer; conn = r.conn })
  pub new_local_init : Pinned new_local_init.Learnt ConnLeft (λ l r e. record { answer = told r.answer; conn = r.conn })
  pub has_pending_rx : Pinned has_pending_rx.Learnt (Result Bool Refusal) (λ l r e. r)
  pub will_expire : Pinned will_expire.Learnt (Result Bool Refusal) (λ l r e. r)
  pub has_expired : Pinned has_expired.Learnt (Result Bool Refusal) (λ l r e. r)
  pub expiry : Pinned expiry.Learnt (Result Timer Refusal) (λ l r e. r)
  pub state : Pinned state.Learnt (Result ConnState Refusal) (λ l r e. r)
  pub get_polled_evset : Pinned get_polled_evset.Learnt (Result EvSet Refusal) (λ l r e. r)
  pub kill : Pinned kill.Learnt (Result VsockConnection Refusal) (λ l r e. r)
  pub send_bytes_raw : Pinned send_bytes_raw.Learnt (Result ℕ Refusal × List ℕ) (λ l r e. (r, e.1.1.1.0.now))
  pub recv_pkt : Pinned recv_pkt.Learnt RecvLeft (λ l r e. record { answer = told r.answer; conn = r.conn; hdr = e.1.0.now; buf = e.1.1.1.0.now })
  pub send_pkt : Pinned send_pkt.Learnt (Result VsockConnection Refusal × List ℕ × List ℕ) (λ l r e. (r, e.1.1.1.0.now, e.1.1.1.1.1.0.now))
  pub notify : Pinned notify.Learnt (Result VsockConnection Refusal × List ℕ) (λ l r e. (r, e.1.1.1.1.1.0.now))
  pub send_door : Pinned send_door.Learnt Told (λ l r e. told r)
  pub send_writes : Pinned send_writes.Learnt Bool (λ l r e. r)
  pub send_offered : Pinned send_offered.Learnt (List ℕ) (λ l r e. r.now)
  pub recv_door : Pinned recv_door.Learnt Told (λ l r e. told r)
  pub recv_asked : Pinned recv_asked.Learnt (Result (Option ℕ) Refusal) (λ l r e. r)
  pub notify_door : Pinned notify_door.Learnt Told (λ l r e. told r)
  pub notify_offered : Pinned notify_offered.Learnt (List ℕ) (λ l r e. r.now)
  pub notify_offered_next : Pinned notify_offered_next.Learnt (List ℕ) (λ l r e. r.now)
  pub raw_door : Pinned raw_door.Learnt Told (λ l r e. told r)
  pub raw_offered : Pinned raw_offered.Learnt (List ℕ) (λ l r e. r.now)

pub each_call_pinned : EachCallPinned
each_call_pinned = record {
  new_peer_init = by_equation _ _ _;
  new_local_init = by_equation _ _ _;
  has_pending_rx = by_result _ _ flag_apart _;
  will_expire = by_result _ _ flag_apart _;
  has_expired = by_result _ _ flag_apart _;
  expiry = by_result _ _ expiry_apart _;
  state = by_result _ _ state_apart _;
  get_polled_evset = by_result _ _ ev_set_apart _;
  kill = λ l i r s d e p q. kill_apart _ r s (p ∙ sym q);
  send_bytes_raw = λ l i r s d e p q. raw_apart r s _ _ (p ∙ sym q);
  recv_pkt = by_equation _ _ _;
  send_pkt = λ l i r s d e p q. send_apart _ r s _ _ _ _ (p ∙ sym q);
  notify = λ l i r s d e p q. notify_apart _ r s _ _ (p ∙ sym q);
  send_door = by_equation _ _ _;
  send_writes = by_equation _ _ _;
  send_offered = by_equation _ _ _;
  recv_door = by_equation _ _ _;
  recv_asked = by_result _ _ asked_apart _;
  notify_door = by_equation _ _ _;
  notify_offered = by_equation _ _ _;
  notify_offered_next = by_equation _ _ _;
  raw_door = by_equation _ _ _;
  raw_offered = by_equation _ _ _;
}
