-- What a writer holds and a reader has left after one piece, and after one more. Assumes nothing.
use Rattle.std.proofs.Common.{◌≤◌, ◌+◌, take, length, ap, ◌∙◌, ◌≡◌, refl, sym, ℕ, List, [], ◌∷◌, ◌++◌, Option, None, Some}
use Rattle.std.specs.Io.KnownBytes.{Appends, Consumes}
use Rattle.std.proofs.lemmas.List.{append-nil, append_assoc, length-take-le, take-append-le}
use Rattle.std.proofs.Math.Seq.{take-append-add}
use borrow.Rule.Slice.PartMut.{put_mid}
use Rattle.text.specs.Hex.{hex_of, hexed}

pub appends_nothing : (o : Option (List ℕ)) → Appends o o []
appends_nothing None = tt
appends_nothing (Some xs) = sym (append-nil xs)

pub appends_more : (o p q : Option (List ℕ)) (more bs : List ℕ) → Appends o p more → Appends p q bs → Appends o q (more ++ bs)
appends_more None p q more bs h k = tt
appends_more (Some xs) None q more bs h k = elim h [ ]
appends_more (Some xs) (Some ys) None more bs h k = elim k [ ]
appends_more (Some xs) (Some ys) (Some zs) more bs h k = rw (k, h) (append_assoc xs more bs)

pub hexed_one : (b : ℕ) → hexed (0 ∷ 0 ∷ []) (b ∷ []) ≡ hex_of (b ∷ [])
unfolding hexed
hexed_one b = refl

pub consumes_nothing : (o : Option (List ℕ)) → Consumes o o []
consumes_nothing None = tt
consumes_nothing (Some xs) = refl

pub consumes_more : (o p q : Option (List ℕ)) (bs more : List ℕ) → Consumes o p bs → Consumes p q more → Consumes o q (bs ++ more)
consumes_more None p q bs more h k = tt
consumes_more (Some xs) None q bs more h k = elim h [ ]
consumes_more (Some xs) (Some ys) None bs more h k = elim k [ ]
consumes_more (Some xs) (Some ys) (Some zs) bs more h k = rw (h, k) (sym (append_assoc bs more zs))

-- a part of a list, written anew from its start, of which the first bytes count
pub taken_more : (a k : ℕ) (xs ys : List ℕ) (n : ℕ) → a ≤ length xs → n ≤ length ys → take (a + n) (put_mid a k xs ys) ≡ take a xs ++ take n ys
taken_more a k xs ys n p q =
    ap (λ (j : ℕ). take (j + n) (put_mid a k xs ys)) (sym (length-take-le a xs p))
    ∙ take-append-add (take a xs) _ n
    ∙ ap (λ (l : List ℕ). take a xs ++ l) (take-append-le n ys _ q)
