-- The promises of specs/Promises, each by its law. Assumes nothing.
use mathlib.Core.Path.{refl}
use Rattle.defs.specs.Choice.{when}
use Rattle.defs.specs.Limits.{is_header_length}
use Rattle.packet.specs.Header.{encoded, decoded, decode_of, encode_of}
use Rattle.packet.specs.Edges.{reading_a, wrong_lengths}
use Rattle.packet.specs.Promises.{FieldsStandAt, DecodeReads, NumbersAre, EveryFlagAdds, DecodeAfterEncode, EncodeAfterDecode, DecodeAnswers, EncodeAnswers, RefusalsChangeNothing, ToldTellsApart, EdgesHold}
use Rattle.packet.proofs.AnswerLaws as answers
use Rattle.packet.proofs.FlagLaws as flags
use Rattle.packet.proofs.HeaderLaws as header
use Rattle.packet.proofs.Callers as callers

pub fields_stand_at : FieldsStandAt
fields_stand_at = refl

pub decode_reads : DecodeReads
decode_reads = header.decode_reads

pub numbers_are : NumbersAre
numbers_are = record {
  request = refl;
  response = refl;
  rst = refl;
  shutdown = refl;
  rw = refl;
  credit_update = refl;
  credit_request = refl;
  stream = refl;
  receive_off = refl;
  send_off = refl;
}

pub every_flag_adds : EveryFlagAdds
every_flag_adds = flags.every_flag_adds

pub decode_after_encode : DecodeAfterEncode
decode_after_encode = header.decode_after_encode

pub encode_after_decode : EncodeAfterDecode
encode_after_decode = header.encode_after_decode

pub decode_answers : DecodeAnswers
decode_answers = answers.decode_answers

pub encode_answers : EncodeAnswers
encode_answers = answers.encode_answers

pub refusals_change_nothing : RefusalsChangeNothing
refusals_change_nothing = answers.refusals_change_nothing

pub told_tells_apart : ToldTellsApart
told_tells_apart = callers.told_tells_apart

pub edges_hold : EdgesHold
unfolding reading_a wrong_lengths encode_of decode_of encoded decoded is_header_length when
edges_hold = record { a = (refl, (refl, tt)); lengths = (refl, (refl, tt)) }
