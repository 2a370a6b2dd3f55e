-- Laws of a copy: what it leaves, for callers that know the lengths. Assumes nothing.
use Rattle.std.proofs.Common.{◌≡◌, ℕ, ◌+◌, ◌-◌, ◌<◌, ◌≤◌, min, List, ◌++◌, length, get_or, take, drop, set, sym, ap, ◌∙◌, ⊎_elim, append_assoc, append-nil, add-one, arith, length-append, length-drop, drop_of_length-le, length-take, take_all, take-suc, take-suc-set, take_at, take-add}
use Rattle.defs.specs.Copying.{copied}
use Rattle.defs.proofs.Basics.{lt_or_ge}

-- the source fits: all of it stands at the front
pub copied_fits : (dst src : List ℕ) → length src ≤ length dst → copied dst src ≡ src ++ drop (length src) dst
unfolding copied
copied_fits dst src l = rw (take_all (length dst) src l)

-- the source is as long as the destination, or longer: only its front is left
pub copied_over : (dst src : List ℕ) → length dst ≤ length src → copied dst src ≡ take (length dst) src
unfolding copied
copied_over dst src l = rw (drop_of_length-le dst l, append-nil)

-- the first n of both, where n is the shorter length
pub copied_least : (dst src : List ℕ) (n : ℕ) → n ≡ min (length dst) (length src) → take n src ++ drop n dst ≡ copied dst src
copied_least dst src n e =
    ⊎_elim
    (λ (l : length dst < length src).
    let m : n ≡ length dst = omega arith in
    rw (m, drop_of_length-le dst {i = length dst} (omega arith), append-nil) (sym (copied_over dst src (omega arith))))
    (λ (l : length src ≤ length dst).
    let m : n ≡ length src = omega arith in
    rw (m, take_all (length src) src (omega arith)) (sym (copied_fits dst src l)))
    (lt_or_ge (length dst) (length src))

-- ---- the loops: the first bytes of the destination are those of the source

pub one_more : (d s : List ℕ) (i : ℕ) → i < length d → i < length s → take i d ≡ take i s → take (i + 1) (set d i (get_or s i 0)) ≡ take (i + 1) s
one_more d s i hd hs e = rw (add-one, take-suc-set, take-suc s i 0, e)

-- the bytes from `at` to `end` in one run: the list keeps its length, and its front reaches to `end`
pub one_run : (d s x : List ℕ) (at end : ℕ) → at ≤ end → end ≤ length d → end ≤ length s → x ≡ take (end - at) (drop at s) → take at d ≡ take at s
    → (length (take at d ++ (x ++ drop (end - at) (drop at d))) ≡ length d) × (take end (take at d ++ (x ++ drop (end - at) (drop at d))) ≡ take end s)
one_run d s x at end l hd hs e f =
    let w : end ≡ at + (end - at) = omega arith in
    let n : length (take at d ++ x) ≡ end = rw e (simp (length-append, length-take, length-drop) (omega arith)) in (
      rw (← append_assoc) (simp (length-append (take at d ++ x), n, length-drop) (omega arith)),
      rw (← append_assoc, take_at (take at d ++ x) (drop (end - at) (drop at d)) end n, f, e) (sym (ap (λ (k : ℕ). take k s) w ∙ take-add at (end - at) s)),
    )

pub all_of_it : (d s : List ℕ) (i : ℕ) → length d ≡ length s → length s ≤ i → take i d ≡ take i s → d ≡ s
all_of_it d s i l h e = sym (take_all i d (omega arith)) ∙ e ∙ take_all i s h
