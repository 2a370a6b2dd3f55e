-- Decode and encode answer by 01's row, and a refusal changes nothing. Assumes nothing.
use mathlib.Core.Path.{◌≡◌, refl, ap, subst, ◌∙◌}
use mathlib.Core.Bool.{Bool, true, false, not}
use mathlib.Core.List.{[], ◌∷◌}
use native.Mathlib.Omega.{arith}
use lib.ListN.{length}
use Rattle.defs.specs.Choice.{when}
use Rattle.defs.specs.Answer.{Told}
use Rattle.defs.specs.Limits.{is_header_length}
use Rattle.defs.specs.Promises.{Refuses}
use Rattle.defs.proofs.LimitLaws.{header_length}
use Rattle.defs.proofs.MeansLaws.{not_means}
use Rattle.defs.proofs.LadderLaws.{first_in_turn, by_turn, row}
use Rattle.packet.specs.Header.{fields, DecodeLeft, decode_of, EncodeLeft, encode_of}
use Rattle.packet.specs.Promises.{DecodeAnswers, EncodeAnswers, RefusalsChangeNothing}

-- of a call that is done where a test passes, and refused as 2 where not
module _ {Out : Type 0} (answer : Out → Told) (done kept : Out) (d : (answer done).number ≡ 0) where
  two_number : (answer kept).number ≡ 2 → (ok : Bool) → (answer (when ok done kept)).number ≡ first_in_turn ((2, not ok) ∷ [])
  unfolding when
  two_number k true = d
  two_number k false = k

  refused_keeps : (ok : Bool) → Refuses (answer (when ok done kept)) → when ok done kept ≡ kept
  unfolding when
  refused_keeps true r = absurd (omega (arith, d, r.0))
  refused_keeps false r = refl

pub decode_answers : DecodeAnswers
unfolding decode_of
decode_answers bytes left says =
    by_turn left.answer (row 2 (not_means (header_length (length bytes))) ∷ [])
    (ap (λ (o : DecodeLeft). o.answer.number) says ∙ two_number (λ (o : DecodeLeft). o.answer) _ _ refl refl (is_header_length (length bytes)))

pub encode_answers : EncodeAnswers
unfolding encode_of
encode_answers i left says =
    by_turn left.answer (row 2 (not_means (header_length (length i.out))) ∷ [])
    (ap (λ (o : EncodeLeft). o.answer.number) says ∙ two_number (λ (o : EncodeLeft). o.answer) _ _ refl refl (is_header_length (length i.out)))

pub refusals_change_nothing : RefusalsChangeNothing
unfolding decode_of encode_of
refusals_change_nothing = record {
  decode = λ bytes left says r.
      ap (λ (o : DecodeLeft). fields o.hdr) (says ∙ refused_keeps (λ (o : DecodeLeft). o.answer) _ _ refl _ (subst (λ (o : DecodeLeft). Refuses o.answer) says r));
  encode = λ i left says r. ap (λ (o : EncodeLeft). o.out) (says ∙ refused_keeps (λ (o : EncodeLeft). o.answer) _ _ refl _ (subst (λ (o : EncodeLeft). Refuses o.answer) says r));
}
