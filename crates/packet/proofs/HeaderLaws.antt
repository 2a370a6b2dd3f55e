-- Laws of the header: what reads and stores at its offsets make, and both ways there and back. Assumes nothing.
use Prim.Native.Nat.{ℕ, ◌+◌}
use mathlib.Core.Path.{◌≡◌, refl, ap, ◌∙◌, sym}
use mathlib.Core.Logic.{⊎_elim}
use mathlib.Core.Bool.{true, false}
use mathlib.Core.List.{List, [], append-nil}
use native.Mathlib.Omega.{arith}
use lib.ListN.{length, drop_of_length-le}
use lib.Seq.{sets, sets-eq, take_all}
use Rattle.std.specs.Prelude.{Err}
use Rattle.defs.specs.Answer.{told, done}
use Rattle.defs.specs.Limits.{header_size, is_header_length}
use Rattle.defs.specs.declared.answer.Refusal.TheVariants.{BadHeader}
use Rattle.defs.proofs.Basics.{true_or_false}
use Rattle.defs.proofs.LimitLaws.{header_length}
use Rattle.defs.proofs.ChoiceLaws.{when_true, when_false}
use Rattle.packet.specs.Le.{packed, unpacked}
use Rattle.packet.specs.Header.{layout, fields, of_fields, encoded, decoded, decode_of, encode_of, DecodeLeft, EncodeLeft}
use Rattle.packet.specs.Promises.{Bytes, Fit, DecodeReads, DecodeAfterEncode, EncodeAfterDecode}
use Rattle.packet.specs.declared.hdr.VsockPacketHdr.{VsockPacketHdr}
use Rattle.packet.proofs.LeLaws.{unpacked_packed, packed_unpacked, nums_at, unpacked_at, stores, stores_packed}

-- a header whose fields were read at their offsets
pub decode_fields : (s : List ℕ) (h : VsockPacketHdr) → fields h ≡ nums_at 0 layout s → h ≡ decoded s
unfolding decoded
decode_fields s h e = ap of_fields e ∙ ap of_fields (sym (unpacked_at 0 layout s))

sets_whole : (l ns : List ℕ) → length ns ≡ length l → sets l 0 ns ≡ ns
sets_whole l ns e = sets-eq ns l 0 (omega arith) ∙ rw (drop_of_length-le l {i = 0 + length ns} (omega arith), append-nil ns)

-- a buffer in which each field was stored at its offset
pub encode_stores : (h : VsockPacketHdr) (l : List ℕ) → length l ≡ header_size → stores l 0 layout (fields h) ≡ encoded h
unfolding encoded
encode_stores h l e = stores_packed l 0 layout (fields h) ∙ sets_whole l (packed layout (fields h)) (sym e)

pub length_encoded : (h : VsockPacketHdr) → length (encoded h) ≡ header_size
unfolding encoded
length_encoded h = refl

pub decoded_encoded : (h : VsockPacketHdr) → Fit layout (fields h) → decoded (encoded h) ≡ h
unfolding decoded encoded
decoded_encoded h f =
    ap of_fields (ap (unpacked layout) (sym (append-nil (packed layout (fields h)))) ∙ unpacked_packed layout (fields h) [] f)

encoded_decoded : (s : List ℕ) → Bytes s → length s ≡ header_size → encoded (decoded s) ≡ s
unfolding decoded encoded
encoded_decoded s b e = packed_unpacked layout s b (omega arith) ∙ take_all header_size s (omega arith)

-- ---- what the two calls leave, by the buffer's length

pub decode_done : (s : List ℕ) → length s ≡ header_size → decode_of s ≡ record { answer = told done; hdr = decoded s }
unfolding decode_of
decode_done s e = when_true _ _ _ ((header_length (length s)).1 e)

pub encode_done : (h : VsockPacketHdr) (out : List ℕ) → length out ≡ header_size
    → encode_of (record { hdr = h; out = out }) ≡ record { answer = told done; out = encoded h }
unfolding encode_of
encode_done h out e = when_true _ _ _ ((header_length (length out)).1 e)

pub decode_refused : (s : List ℕ) → is_header_length (length s) ≡ false → decode_of s ≡ record { answer = told (Err BadHeader); hdr = of_fields [] }
unfolding decode_of
decode_refused s e = when_false _ _ _ e

pub encode_refused : (h : VsockPacketHdr) (out : List ℕ) → is_header_length (length out) ≡ false
    → encode_of (record { hdr = h; out = out }) ≡ record { answer = told (Err BadHeader); out = out }
unfolding encode_of
encode_refused h out e = when_false _ _ _ e

-- each field's number, read at its place
pub decode_reads : DecodeReads
unfolding decoded
decode_reads s left says n =
    ⊎_elim
    (λ (t : is_header_length (length s) ≡ true).
    ap (λ (o : DecodeLeft). o.hdr) (says ∙ decode_done s ((header_length (length s)).0 t)) ∙ ap of_fields (unpacked_at 0 layout s))
    (λ (t : is_header_length (length s) ≡ false).
    let e : ◌≡◌ {A = ℕ} 2 0 = ap (λ (o : DecodeLeft). o.answer.number) (sym (says ∙ decode_refused s t)) ∙ n in
    absurd (omega arith))
    (true_or_false (is_header_length (length s)))

-- ---- both round trips

pub decode_after_encode : DecodeAfterEncode
decode_after_encode h out f e =
    ap (λ (o : EncodeLeft). decode_of o.out) (encode_done h out e) ∙ decode_done (encoded h) (length_encoded h) ∙ rw (decoded_encoded h f)

pub encode_after_decode : EncodeAfterDecode
encode_after_decode s out b e l =
    ap (λ (o : DecodeLeft). encode_of (record { hdr = o.hdr; out = out })) (decode_done s e) ∙ encode_done (decoded s) out l ∙ rw (encoded_decoded s b e)
