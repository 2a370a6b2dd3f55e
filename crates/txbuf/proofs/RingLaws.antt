-- Laws of the storage seen modulo the size: what is held, and what a write leaves. Assumes nothing.
use mathlib.Core.Path.{◌≡◌, refl, sym, ap, ◌∙◌, subst}
use mathlib.Core.List.{List, [], ◌∷◌, ◌++◌, append_assoc, append-nil}
use mathlib.Core.Logic.{⊎_elim}
use Prim.Native.Nat.{ℕ, zero, suc, ◌+◌, ◌-◌, ◌<◌, ◌≤◌, ◌%◌}
use native.Mathlib.Nat.{suc-mod, mod-lt, mod-eq_of_lt, mod-add-mod, mod-eq-sub-mod, mod_self, zero-add, add-zero, add-suc, suc-add, sub-zero, suc-sub-suc, not-suc-le-zero}
use native.Mathlib.Omega.{arith}
use lib.ListN.{length, take, drop, get_or, set, length-set, length-append, length-drop, take-append-drop, drop_of_length-le}
use lib.Seq.{drop-cons, append_snoc, get_or-set_same, get_or-set_other, sets, sets-eq, drop-drop, length-take-le}
use Rattle.defs.specs.Copying.{copied}
use Rattle.defs.proofs.Basics.{lt_or_ge}
use Rattle.defs.proofs.CopyLaws.{copied_fits, copied_over}
use Rattle.txbuf.specs.Record.{held_from}
use Rattle.txbuf.specs.Push.{runs, written}

-- a write and what is held go by the offset modulo R alone
pub write_cong : (R : ℕ) (src st : List ℕ) (h k : ℕ) → h % R ≡ k % R → written st R h src ≡ written st R k src
unfolding written
write_cong R [] st h k e = refl
write_cong R (x ∷ xs) st h k e =
    write_cong R xs (set st (h % R) x) (suc h) (suc k) (suc-mod h R ∙ ap (λ (i : ℕ). suc i % R) e ∙ sym (suc-mod k R))
    ∙ ap (λ (i : ℕ). written (set st i x) R (suc k) xs) e

pub held_cong : (R n : ℕ) (st : List ℕ) (h k : ℕ) → h % R ≡ k % R → held_from st R h n ≡ held_from st R k n
unfolding held_from
held_cong R zero st h k e = refl
held_cong R (suc n) st h k e =
    ap (λ (l : List ℕ). get_or st (h % R) 0 ∷ l) (held_cong R n st (suc h) (suc k) (suc-mod h R ∙ ap (λ (i : ℕ). suc i % R) e ∙ sym (suc-mod k R)))
    ∙ ap (λ (i : ℕ). get_or st i 0 ∷ held_from st R (suc k) n) e

pub write_append : (R : ℕ) (a b st : List ℕ) (h : ℕ) → written st R h (a ++ b) ≡ written (written st R h a) R (h + length a) b
unfolding written
write_append R [] b st h = ap (λ (k : ℕ). written st R k b) (sym (add-zero h))
write_append R (x ∷ a) b st h =
    write_append R a b (set st (h % R) x) (suc h)
    ∙ ap (λ (k : ℕ). written (written (set st (h % R) x) R (suc h) a) R k b) (suc-add h (length a) ∙ sym (add-suc h (length a)))

-- the next offset, where it does not wrap
suc_at : (R h a : ℕ) → h % R ≡ a → suc a < R → suc h % R ≡ suc a
suc_at R h a e l = suc-mod h R ∙ ap (λ (i : ℕ). suc i % R) e ∙ mod-eq_of_lt l

-- a write that does not reach the storage's end is a run of stores
pub write_run : (R : ℕ) (src st : List ℕ) (h a : ℕ) → h % R ≡ a → a + length src ≤ R → written st R h src ≡ sets st a src
unfolding written
write_run R [] st h a e l = refl
write_run R (x ∷ []) st h a e l = ap (λ (i : ℕ). set st i x) e
write_run R (x ∷ y ∷ ys) st h a e l =
    ap (λ (i : ℕ). written (set st i x) R (suc h) (y ∷ ys)) e
    ∙ write_run R (y ∷ ys) (set st a x) (suc h) (suc a) (suc_at R h a e (omega arith)) (omega arith)

-- what is held up to the storage's end is a part of it
pub held_run : (R n : ℕ) (st : List ℕ) (h a : ℕ) → h % R ≡ a → a + n ≤ R → length st ≡ R → held_from st R h n ≡ take n (drop a st)
unfolding held_from
held_run R zero st h a e l s = refl
held_run R (suc zero) st h a e l s =
    let i : a < length st = omega arith in
    rw (e, drop-cons st a 0 i)
held_run R (suc (suc n)) st h a e l s =
    let i : a < length st = omega arith in
    rw (e, held_run R (suc n) st (suc h) (suc a) (suc_at R h a e (omega arith)) (omega arith) s, drop-cons st a 0 i)

pub held_snoc : (R n : ℕ) (st : List ℕ) (t : ℕ) → held_from st R t (suc n) ≡ held_from st R t n ++ (get_or st ((t + n) % R) 0 ∷ [])
unfolding held_from
held_snoc R zero st t = ap (λ (k : ℕ). get_or st (k % R) 0 ∷ []) (sym (add-zero t))
held_snoc R (suc n) st t =
    ap (λ (l : List ℕ). get_or st (t % R) 0 ∷ l) (held_snoc R n st (suc t)
    ∙ ap (λ (k : ℕ). held_from st R (suc t) n ++ (get_or st (k % R) 0 ∷ [])) (suc-add t n ∙ sym (add-suc t n)))

-- two offsets less than R apart differ
apart : (R t d : ℕ) → 0 < d → d < R → t % R ≡ (t + d) % R → ⊥
apart R t d p l e =
    let r : t % R < R = mod-lt t (omega arith) in
    let f : t % R ≡ (t % R + d) % R = e ∙ sym (mod-add-mod t R d) in
    ⊎_elim
    (λ (u : t % R + d < R). let g : t % R ≡ t % R + d = f ∙ mod-eq_of_lt u in omega arith)
    (λ (u : R ≤ t % R + d).
    let v : t % R + d - R < R = omega arith in
    let g : t % R ≡ t % R + d - R = f ∙ mod-eq-sub-mod u ∙ mod-eq_of_lt v in omega arith)
    (lt_or_ge (t % R + d) R)

-- a store past what is held leaves it
held_other : (R n k : ℕ) (st : List ℕ) (t x : ℕ) → n + k < R → held_from (set st ((t + (n + k)) % R) x) R t n ≡ held_from st R t n
unfolding held_from
held_other R zero k st t x l = refl
held_other R (suc n) k st t x l =
    let e : t + (suc n + k) ≡ suc t + (n + k) = omega arith in
    let rest : held_from (set st ((t + (suc n + k)) % R) x) R (suc t) n ≡ held_from st R (suc t) n =
    ap (λ (i : ℕ). held_from (set st (i % R) x) R (suc t) n) e ∙ held_other R n k st (suc t) x (omega arith) in
    rw (get_or-set_other st ((t + (suc n + k)) % R) (t % R) x 0 (apart R t (suc n + k) (omega arith) l)) (ap (λ (m : List ℕ). get_or st (t % R) 0 ∷ m) rest)

-- what is held after a write at the head is what was held, and then the source
pub held_write : (R : ℕ) (src st : List ℕ) (t n : ℕ) → n + length src ≤ R → length st ≡ R
    → held_from (written st R (t + n) src) R t (n + length src) ≡ held_from st R t n ++ src
unfolding written
held_write R [] st t n l s = ap (λ (k : ℕ). held_from st R t k) (add-zero n) ∙ sym (append-nil (held_from st R t n))
held_write R (x ∷ xs) st t n l s =
    let i : (t + n) % R < length st = subst (λ (k : ℕ). (t + n) % R < k) (sym s) (mod-lt (t + n) (omega arith)) in
    let st' : List ℕ = set st ((t + n) % R) x in
    let e : n + suc (length xs) ≡ suc n + length xs = omega arith in
    let one : held_from st' R t (suc n) ≡ held_from st R t n ++ (x ∷ []) = held_snoc R n st' t
    ∙ ap (λ (b : ℕ). held_from st' R t n ++ (b ∷ [])) (get_or-set_same st ((t + n) % R) x 0 i)
    ∙ ap (λ (l : List ℕ). l ++ (x ∷ [])) (rw add-zero at (held_other R n 0 st t x (omega arith))) in
    ap (λ (k : ℕ). held_from (written st' R (suc (t + n)) xs) R t k) e
    ∙ ap (λ (k : ℕ). held_from (written st' R k xs) R t (suc n + length xs)) (sym (add-suc t n))
    ∙ held_write R xs st' t (suc n) (omega arith) (length-set st ((t + n) % R) x ∙ s)
    ∙ ap (λ (l : List ℕ). l ++ xs) one
    ∙ append_snoc (held_from st R t n) x xs

-- ---- parts of what is held

pub held_take : (R n k : ℕ) (st : List ℕ) (t : ℕ) → k ≤ n → take k (held_from st R t n) ≡ held_from st R t k
unfolding held_from
held_take R n zero st t l = refl
held_take R zero (suc k) st t l = absurd (omega arith)
held_take R (suc n) (suc k) st t l = rw (held_take R n k st (suc t) (omega arith))

pub held_drop : (R n k : ℕ) (st : List ℕ) (t : ℕ) → k ≤ n → drop k (held_from st R t n) ≡ held_from st R (t + k) (n - k)
unfolding held_from
held_drop R n zero st t l = rw (add-zero, sub-zero)
held_drop R zero (suc k) st t l = absurd (omega arith)
held_drop R (suc n) (suc k) st t l =
    held_drop R n k st (suc t) (omega arith)
    ∙ ap (λ (i : ℕ). held_from st R i (n - k)) (suc-add t k ∙ sym (add-suc t k))
    ∙ ap (λ (i : ℕ). held_from st R (t + suc k) i) (sym (suc-sub-suc n k))

-- ---- the two runs of a push are one write modulo the size

pub two_runs : (st src : List ℕ) (h : ℕ) → 0 < length st → length src ≤ length st → runs st (h % length st) src ≡ written st (length st) h src
unfolding runs
two_runs st src h p l =
    let R : ℕ = length st in
    let a : ℕ = h % R in
    let i : a < R = mod-lt h p in
    let k : ℕ = R - a in
    let n : length (drop a st) ≡ k = length-drop a st in
    ⊎_elim
    (λ (u : k < length src).
    let q : List ℕ = drop k src in
    let lq : length q ≡ length src - k = length-drop k src in
    let lp : length (take k src) ≡ k = length-take-le k src (omega arith) in
    let wraps : (h + length (take k src)) % R ≡ 0 =
    ap (λ (x : ℕ). (h + x) % R) lp ∙ sym (mod-add-mod h R k) ∙ ap (λ (x : ℕ). x % R) (let s : a + k ≡ R = omega arith in s) ∙ mod_self R in
    let x : List ℕ = take a st ++ take k src in
    let lx : length x ≡ R = length-append (take a st) (take k src) ∙ (let s = length-take-le a st (omega arith) in omega arith) in
    let one : written st R h (take k src) ≡ x =
    write_run R (take k src) st h a refl (omega arith) ∙ sets-eq (take k src) st a (omega arith)
    ∙ ap (λ (z : List ℕ). take a st ++ take k src ++ z) (drop_of_length-le st {i = a + length (take k src)} (omega arith))
    ∙ append-nil x in
    ap (λ (z : List ℕ). copied (take a st ++ z) q) (copied_over (drop a st) src (omega arith) ∙ ap (λ (j : ℕ). take j src) n)
    ∙ copied_fits x q (omega arith)
    ∙ sym
    (ap (written st R h) (sym (take-append-drop k src)) ∙ write_append R (take k src) q st h
    ∙ ap (λ (z : List ℕ). written z R (h + length (take k src)) q) one
    ∙ write_run R q x (h + length (take k src)) 0 wraps (omega arith)
    ∙ sets-eq q x 0 (omega arith) ∙ ap (λ (j : ℕ). q ++ drop j x) (zero-add (length q))))
    (λ (u : length src ≤ k).
    let z : drop k src ≡ [] = drop_of_length-le src u in
    ap (copied (take a st ++ copied (drop a st) src)) z
    ∙ copied_fits (take a st ++ copied (drop a st) src) [] (omega arith)
    ∙ ap (λ (y : List ℕ). take a st ++ y) (copied_fits (drop a st) src (omega arith) ∙ ap (λ (y : List ℕ). src ++ y) (drop-drop (length src) a st))
    ∙ sym (append_assoc (take a st) src (drop (a + length src) st))
    ∙ sym (sets-eq src st a (omega arith))
    ∙ sym (write_run R src st h a refl (omega arith)))
    (lt_or_ge k (length src))

-- the same for a ring whose size is the storage's length
pub runs_written : (st src : List ℕ) (h R : ℕ) → length st ≡ R → 0 < R → length src ≤ R → runs st (h % R) src ≡ written st R h src
runs_written st src h R e p l =
    ap (λ (n : ℕ). runs st (h % n) src) (sym e) ∙ two_runs st src h (omega arith) (omega arith) ∙ ap (λ (n : ℕ). written st n h src) e

-- a write leaves the length, and every place that it does not meet
pub written_length : (R : ℕ) (src st : List ℕ) (h : ℕ) → length (written st R h src) ≡ length st
unfolding written
written_length R [] st h = refl
written_length R (x ∷ xs) st h = written_length R xs (set st (h % R) x) (suc h) ∙ length-set st (h % R) x

pub written_other : (R : ℕ) (src st : List ℕ) (h place : ℕ) → ((k : ℕ) → k < length src → (h + k) % R ≡ place → ⊥)
    → get_or (written st R h src) place 0 ≡ get_or st place 0
unfolding written
written_other R [] st h place n = refl
written_other R (x ∷ xs) st h place n =
    written_other R xs (set st (h % R) x) (suc h) place
    (λ (k : ℕ) l e. n (suc k) (omega arith) (ap (λ (y : ℕ). y % R) (let z : h + suc k ≡ suc h + k = omega arith in z) ∙ e))
    ∙ get_or-set_other st (h % R) place x 0 (λ (e : place ≡ h % R). n 0 (omega arith) (ap (λ (y : ℕ). y % R) (add-zero h) ∙ sym e))

-- and each byte stands at its place
pub written_at : (R : ℕ) (src st : List ℕ) (h k : ℕ) → length st ≡ R → length src ≤ R → k < length src
    → get_or (written st R h src) ((h + k) % R) 0 ≡ get_or src k 0
unfolding written
written_at R [] st h k e l m = absurd (not-suc-le-zero m)
written_at R (x ∷ xs) st h zero e l m =
    let i : h % R < length st = subst (λ (n : ℕ). h % R < n) (sym e) (mod-lt h (omega arith)) in
    ap (λ (n : ℕ). get_or (written (set st (h % R) x) R (suc h) xs) (n % R) 0) (add-zero h)
    ∙ written_other R xs (set st (h % R) x) (suc h) (h % R)
    (λ (j : ℕ) b c. apart R h (suc j) (omega arith) (omega arith) (sym c ∙ ap (λ (n : ℕ). n % R) (let z : suc h + j ≡ h + suc j = omega arith in z)))
    ∙ get_or-set_same st (h % R) x 0 i
written_at R (x ∷ xs) st h (suc k) e l m =
    ap (λ (n : ℕ). get_or (written (set st (h % R) x) R (suc h) xs) (n % R) 0) (let z : h + suc k ≡ suc h + k = omega arith in z)
    ∙ written_at R xs (set st (h % R) x) (suc h) k (length-set st (h % R) x ∙ e) (omega arith) (omega arith)

-- each byte that is held is read at its place
pub held_at : (R n : ℕ) (st : List ℕ) (t k : ℕ) → k < n → get_or (held_from st R t n) k 0 ≡ get_or st ((t + k) % R) 0
unfolding held_from
held_at R zero st t k l = absurd (not-suc-le-zero l)
held_at R (suc n) st t zero l = ap (λ (i : ℕ). get_or st (i % R) 0) (sym (add-zero t))
held_at R (suc n) st t (suc k) l =
    held_at R n st (suc t) k (omega arith) ∙ ap (λ (i : ℕ). get_or st (i % R) 0) (let z : suc t + k ≡ t + suc k = omega arith in z)
