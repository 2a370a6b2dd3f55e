-- Laws of hexadecimal text, for the loop that writes it. Assumes nothing.
use Prim.Native.Nat.{ℕ, ◌+◌, ◌*◌, ◌/◌, ◌%◌, ◌<◌, ◌≤◌}
use mathlib.Core.Path.{◌≡◌, refl, sym, ap, ◌∙◌}
use mathlib.Core.List.{List, [], ◌∷◌, ◌++◌}
use native.Mathlib.Omega.{arith}
use native.Mathlib.Numerals.{add-one}
use lib.ListN.{length, take, drop, set, get_or, length-append, length-drop}
use lib.Seq.{take-suc, take_at, drop_at, drop-drop, sets-eq, length-take-le}
use Rattle.io.specs.Digits.{hex_digit_ascii}
use Rattle.text.specs.Hex.{hex_of}

length_hex_of : (l : List ℕ) → length (hex_of l) ≡ length l + length l
length_hex_of [] = refl
length_hex_of (b ∷ bs) = let e = length_hex_of bs in omega arith

pub hex_of_append : (xs ys : List ℕ) → hex_of (xs ++ ys) ≡ hex_of xs ++ hex_of ys
hex_of_append [] ys = refl
hex_of_append (x ∷ xs) ys = rw (hex_of_append xs ys)

-- one turn: the digits of one byte more, stored after those so far
pub one_byte : (bytes out : List ℕ) (i a b : ℕ) → i < length bytes → i + i + 1 < length out → a ≡ hex_digit_ascii (get_or bytes i 0 / 16) → b ≡ hex_digit_ascii (get_or bytes i 0 % 16)
    → set (set (hex_of (take i bytes) ++ drop (i + i) out) (2 * i) a) (2 * i + 1) b ≡ hex_of (take (i + 1) bytes) ++ drop (i + 1 + (i + 1)) out
one_byte bytes out i a b h k e f =
    let digits : List ℕ = hex_of (take i bytes) in
    let rest : List ℕ = drop (i + i) out in
    let t : length (take i bytes) ≡ i = length-take-le i bytes (omega arith) in
    let n : length digits ≡ 2 * i = omega (arith, length_hex_of (take i bytes)) in
    let m : 2 * i + 2 ≤ length (digits ++ rest) = rw (length-append, n, length-drop) (omega arith) in
    let u : i + i + 2 ≡ i + 1 + (i + 1) = omega arith in
    let d : drop (2 * i + 2) (digits ++ rest) ≡ drop (i + 1 + (i + 1)) out =
    sym (drop-drop 2 (2 * i) (digits ++ rest)) ∙ ap (drop 2) (drop_at digits rest (2 * i) n) ∙ drop-drop 2 (i + i) out ∙ ap (λ (j : ℕ). drop j out) u in
    let x : hex_of (take (i + 1) bytes) ≡ digits ++ (a ∷ b ∷ []) = rw (add-one, take-suc bytes i 0 h, hex_of_append, e, f) in
    rw (add-one (2 * i), sets-eq (a ∷ b ∷ []) (digits ++ rest) (2 * i) m, take_at digits rest (2 * i) n, d, x)
