-- Every public call is pinned by its own contract, which only proofs/ can name (`Learnt`: what a caller learns of it). Assumes nothing.
use Prim.Native.Nat.{ℕ, ◌+◌, ◌<◌}
use mathlib.Core.Path.{refl, sym, ap, ◌∙◌}
use mathlib.Core.List.{List}
use denote.RattleType.{RattleType}
use denote.Param.Laws.{Laws}
use mir.Syntax.{Dict}
use native.Mathlib.Omega.{arith}
use borrow.Author.Rules.{rules}
use Rattle.std.specs.Prelude.{◌≡◌, [], length, take, drop, Option, None, Some, IsOk, Result, Ok, Err}
use Rattle.std.proofs.lemmas.List.{length-append, take_at, drop_at}
use Rattle.std.specs.declared.io.traits.Write as write
use Rattle.std.specs.declared.io.traits.Read as read
use Rattle.text.specs.Print.{WriteSays}
use Rattle.text.specs.Read.{FillSays}
use Rattle.defs.specs.Pinned.{Pinned}
use Rattle.defs.proofs.Pins.{by_equation}
use Rattle.text.proofs.hex.Reads as hex
use Rattle.text.proofs.part.fitting.Reads as fitting
use Rattle.text.proofs.part.front.Reads as front
use Rattle.text.proofs.print.say.Reads as say
use Rattle.text.proofs.print.digits.Reads as digits
use Rattle.text.proofs.print.number.Reads as number
use Rattle.text.proofs.print.named.Reads as named
use Rattle.text.proofs.print.yes.Reads as yes
use Rattle.text.proofs.print.bytes.Reads as bytes
use Rattle.text.proofs.read.fill.Reads as fill

-- a call that may fail is pinned where it ends well: any two outcomes that do, of the same call, are seen alike
abbrev pub PinnedOnOk : {A E L : Type 0} {In Out End : L → Type 0} → ((l : L) → In l → Out l → End l → Type 0) → (Seen : Type 0) → ((l : L) → Out l → Result A E) → ((l : L) → In l → Out l → End l → Seen) → Type 0
PinnedOnOk {L = L} {In = In} {Out = Out} {End = End} Contract Seen answer seen =
    (l : L) (given : In l) (r s : Out l) (e f : End l) →
    Contract l given r e →
    Contract l given s f →
    IsOk (answer l r) →
    IsOk (answer l s) →
    seen l given r e ≡ seen l given s f

-- what is seen only where something is known at the start
abbrev pub if_known : {A B : Type 0} → Option A → Option B → Option B
if_known None q = None
if_known (Some x) q = q

-- what a call that writes gives back and leaves
abbrev pub Written : Type 0 → Type 0
Written E = Result (Unit {0}) E × Option (List ℕ)

abbrev pub written : {E : Type 0} → Option (List ℕ) → Result (Unit {0}) E → Option (List ℕ) → Written E
written o r p = (r, if_known o p)

-- what a call that reads gives back, has at the front of its room, and leaves
abbrev pub Filled : Type 0 → Type 0
Filled E = Option (Result ℕ E × List ℕ × Option (List ℕ))

abbrev pub front_of : {E : Type 0} → Result ℕ E → List ℕ → List ℕ
front_of (Ok n) room = take n room
front_of (Err a) room = []

abbrev pub filled : {E : Type 0} → Option (List ℕ) → Result ℕ E → List ℕ → Option (List ℕ) → Filled E
filled o r room p = if_known o (Some (r, front_of r room, p))

write_alike : {E : Type 0} (o p q : Option (List ℕ)) (bs : List ℕ) (r s : Result (Unit {0}) E) → WriteSays bs o p r → WriteSays bs o q s → IsOk r → IsOk s → written o r p ≡ written o s q
write_alike o p q bs (Err x) s h k a b = search rules
write_alike o p q bs (Ok x) (Err y) h k a b = search rules
write_alike None p q bs (Ok x) (Ok y) h k a b = refl
write_alike (Some xs) None q bs (Ok x) (Ok y) h k a b = elim h.1 [ ]
write_alike (Some xs) (Some ys) None bs (Ok x) (Ok y) h k a b = elim k.1 [ ]
write_alike (Some xs) (Some ys) (Some zs) bs (Ok x) (Ok y) h k a b = rw (h.1, k.1) refl

fill_alike : {E : Type 0} (room e f : List ℕ) (o p q : Option (List ℕ)) (r s : Result ℕ E) → FillSays room e o p r → FillSays room f o q s → IsOk r → IsOk s → filled o r e p ≡ filled o s f q
fill_alike room e f None p q r s h k a b = refl
fill_alike room e f (Some zs) p q (Err x) s h k a b = search rules
fill_alike room e f (Some zs) p q (Ok n) (Err y) h k a b = search rules
fill_alike room e f (Some zs) None q (Ok n) (Ok m) h k a b = elim h.2 [ ]
fill_alike room e f (Some zs) (Some xs) None (Ok n) (Ok m) h k a b = elim k.2 [ ]
fill_alike room e f (Some zs) (Some xs) (Some ys) (Ok n) (Ok m) h k a b =
    let u : length zs ≡ n + length xs = ap length h.2 ∙ length-append (take n e) xs ∙ ap (λ (j : ℕ). j + length xs) (sym h.0.1) in
    let v : length zs ≡ m + length ys = ap length k.2 ∙ length-append (take m f) ys ∙ ap (λ (j : ℕ). j + length ys) (sym k.0.1) in
    let x : n < length e → length xs ≡ 0 = λ t. ap length (h.3 t) in
    let y : m < length f → length ys ≡ 0 = λ t. ap length (k.3 t) in
    let same : n ≡ m = grind (arith, u, v, x, y, h.0.0, k.0.0, h.1, k.1) in
    let front : take n e ≡ take m f = sym (ap (take n) h.2 ∙ take_at (take n e) xs n (sym h.0.1)) ∙ rw same (ap (take m) k.2 ∙ take_at (take m f) ys m (sym k.0.1)) in
    let rest : xs ≡ ys = sym (ap (drop n) h.2 ∙ drop_at (take n e) xs n (sym h.0.1)) ∙ rw same (ap (drop m) k.2 ∙ drop_at (take m f) ys m (sym k.0.1)) in
    λ i. Some (Ok (same i), front i, Some (rest i))

-- any two outcomes that meet a call's contract are identical: what it gives back, and what it leaves behind each `&mut`; the first parameter's end is `e.0`, the second's `e.1.0`
-- (of those that write or read: any two that end well, for each type of writer or reader; what it holds is seen where that is known)
pub record EachCallPinned : Type 2 where
  pub hex : Pinned hex.Learnt (List ℕ) (λ l r e. e.1.0.now)
  pub fitting : Pinned fitting.Learnt ℕ (λ l r e. r)
  pub front : Pinned front.Learnt (List ℕ) (λ l r e. r.now)
  pub say : (W : RattleType) (laws : Laws W) (g : write.Ghosts W.Denot) (d : Dict) → PinnedOnOk (say.Learnt W laws g d) (Written _) (λ l r. r) (λ l i r e. written (g.contents i.0.now) r (g.contents e.0.now))
  pub digits : (W : RattleType) (laws : Laws W) (g : write.Ghosts W.Denot) (d : Dict) → PinnedOnOk (digits.Learnt W laws g d) (Written _) (λ l r. r) (λ l i r e. written (g.contents i.0.now) r (g.contents e.0.now))
  pub number : (W : RattleType) (laws : Laws W) (g : write.Ghosts W.Denot) (d : Dict) → PinnedOnOk (number.Learnt W laws g d) (Written _) (λ l r. r) (λ l i r e. written (g.contents i.0.now) r (g.contents e.0.now))
  pub named : (W : RattleType) (laws : Laws W) (g : write.Ghosts W.Denot) (d : Dict) → PinnedOnOk (named.Learnt W laws g d) (Written _) (λ l r. r) (λ l i r e. written (g.contents i.0.now) r (g.contents e.0.now))
  pub yes : (W : RattleType) (laws : Laws W) (g : write.Ghosts W.Denot) (d : Dict) → PinnedOnOk (yes.Learnt W laws g d) (Written _) (λ l r. r) (λ l i r e. written (g.contents i.0.now) r (g.contents e.0.now))
  pub bytes : (W : RattleType) (laws : Laws W) (g : write.Ghosts W.Denot) (d : Dict) → PinnedOnOk (bytes.Learnt W laws g d) (Written _) (λ l r. r) (λ l i r e. written (g.contents i.0.now) r (g.contents e.0.now))
  pub fill : (R : RattleType) (laws : Laws R) (g : read.Ghosts R.Denot) (d : Dict) → PinnedOnOk (fill.Learnt R laws g d) (Filled _) (λ l r. r) (λ l i r e. filled (g.remaining i.0.now) r e.1.0.now (g.remaining e.0.now))

pub each_call_pinned : EachCallPinned
each_call_pinned = record {
  hex = by_equation _ _ _;
  fitting = λ l i r s d e p q. p.1 ∙ sym q.1;
  front = by_equation _ _ _;
  say = λ W laws g d l i r s e f p q. write_alike _ _ _ _ r s p q;
  digits = λ W laws g d l i r s e f p q. write_alike _ _ _ _ r s p q;
  number = λ W laws g d l i r s e f p q. write_alike _ _ _ _ r s p q;
  named = λ W laws g d l i r s e f p q. write_alike _ _ _ _ r s p q;
  yes = λ W laws g d l i r s e f p q. write_alike _ _ _ _ r s p q;
  bytes = λ W laws g d l i r s e f p q. write_alike _ _ _ _ r s p q;
  fill = λ R laws g d l i r s e f p q. fill_alike _ _ _ _ _ _ r s p q;
}
