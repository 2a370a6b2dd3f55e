-- Laws for crates that call decode and encode: what each case of the answer says. Assumes nothing.
use Prim.Native.Nat.{ℕ}
use mathlib.Core.Path.{◌≡◌, refl, ap, sym, ◌∙◌}
use mathlib.Core.Logic.{⊎_elim}
use mathlib.Core.Bool.{true, false}
use mathlib.Core.List.{List}
use native.Mathlib.Omega.{arith}
use lib.ListN.{length}
use Rattle.std.specs.Prelude.{Ok, Err}
use Rattle.defs.specs.Answer.{told, done}
use Rattle.defs.specs.Limits.{is_header_length}
use Rattle.defs.specs.declared.answer.Refusal.{Refusal}
use Rattle.defs.specs.declared.answer.Refusal.TheVariants.{BadHeader}
use Rattle.defs.proofs.AnswerLaws as answers
use Rattle.defs.proofs.Basics.{true_or_false}
use Rattle.defs.proofs.ChoiceLaws.{when_true, when_false}
use Rattle.packet.specs.Header.{decoded, told_decoded, DecodeLeft, decode_of, DecodeSays}
use Rattle.packet.specs.Promises.{ToldTellsApart}
use Rattle.packet.specs.declared.hdr.VsockPacketHdr.{VsockPacketHdr}

abbrev number_of : DecodeLeft → ℕ
number_of left = left.answer.number

is_refusal : (r : Refusal) → told (Err r) ≡ told done → ⊥
is_refusal r e = answers.refusal_not_done (Err r) r refl (answers.told_tells_apart (Err r) done e)

same_refusal : (a b : Refusal) → told (Err a) ≡ told (Err b) → a ≡ b
same_refusal a b e = let k = answers.told_tells_apart (Err a) (Err b) e in cc

-- a header was decoded: the buffer is 44 bytes, and the header is theirs
pub header_is : (s : List ℕ) (h : VsockPacketHdr) → DecodeSays s (told_decoded (Ok h)) → (is_header_length (length s) ≡ true) × (h ≡ decoded s)
unfolding decode_of
header_is s h says =
    ⊎_elim
    (λ (t : is_header_length (length s) ≡ true). (t, ap (λ (o : DecodeLeft). o.hdr) (says ∙ when_true _ _ _ t)))
    (λ (t : is_header_length (length s) ≡ false).
    let z : ◌≡◌ {A = ℕ} 0 2 = ap number_of (says ∙ when_false _ _ _ t) in absurd (omega arith))
    (true_or_false (is_header_length (length s)))

-- none was: it is not, and the refusal is 2
pub no_header : (s : List ℕ) (r : Refusal) → DecodeSays s (told_decoded (Err r)) → (is_header_length (length s) ≡ false) × (r ≡ BadHeader)
unfolding decode_of
no_header s r says =
    ⊎_elim
    (λ (t : is_header_length (length s) ≡ true). absurd (is_refusal r (ap (λ (o : DecodeLeft). o.answer) (says ∙ when_true _ _ _ t))))
    (λ (t : is_header_length (length s) ≡ false). (t, same_refusal r BadHeader (ap (λ (o : DecodeLeft). o.answer) (says ∙ when_false _ _ _ t))))
    (true_or_false (is_header_length (length s)))

pub told_tells_apart : ToldTellsApart
told_tells_apart (Ok a) (Ok b) e = ap (λ (o : DecodeLeft). Ok o.hdr) e
told_tells_apart (Ok a) (Err r) e = absurd (is_refusal r (sym (ap (λ (o : DecodeLeft). o.answer) e)))
told_tells_apart (Err r) (Ok b) e = absurd (is_refusal r (ap (λ (o : DecodeLeft). o.answer) e))
told_tells_apart (Err a) (Err b) e = rw (same_refusal a b (ap (λ (o : DecodeLeft). o.answer) e)) refl
