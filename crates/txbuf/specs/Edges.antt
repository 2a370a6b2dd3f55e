-- The readings of 01 that the ring decides: f and the ring's share of b, c and d (R = 16), and the sizes on both sides of R's limit. Assumes nothing.
use Rattle.std.specs.Prelude.{ℕ, List, [], ◌∷◌, ◌++◌, take, drop, replicate, Err}
use Rattle.defs.specs.Answer.{told, done}
use Rattle.defs.specs.Reading.{Reading, ◌reads◌}
use Rattle.defs.specs.declared.answer.Refusal.TheVariants.{BadRecord, TxBufFull}
use Rattle.defs.specs.declared.stream.StreamAnswer.TheVariants.{Count, Failed}
use Rattle.txbuf.specs.Record.{held, NewLeft, new_of}
use Rattle.txbuf.specs.Push.{PushLeft, push_of}
use Rattle.txbuf.specs.Flush.{first_piece, second_piece, FlushLeft, flush_of}
use Rattle.txbuf.specs.declared.record.TxBuf.{TxBuf}

abbrev ring : ℕ → ℕ → TxBuf
ring head tail = record { size = 16; head = head; tail = tail }

-- a storage whose bytes tell their place
abbrev pub places : List ℕ
places = 0 ∷ 1 ∷ 2 ∷ 3 ∷ 4 ∷ 5 ∷ 6 ∷ 7 ∷ 8 ∷ 9 ∷ 10 ∷ 11 ∷ 12 ∷ 13 ∷ 14 ∷ 15 ∷ []

-- the last 6 of b's 10 bytes, which the stream did not take, c's 10 and d's 11
abbrev pub untaken : List ℕ
untaken = 34 ∷ 35 ∷ 36 ∷ 37 ∷ 38 ∷ 39 ∷ []

abbrev pub ten : List ℕ
ten = 50 ∷ 51 ∷ 52 ∷ 53 ∷ 54 ∷ 55 ∷ 56 ∷ 57 ∷ 58 ∷ 59 ∷ []

abbrev pub eleven : List ℕ
eleven = 49 ∷ ten

-- b's rest goes to an empty ring
abbrev after_b : PushLeft
after_b = push_of (record { ring = ring 0 0; store = places; src = untaken })

-- b: 6 held. c: 10 more, 16 held. d: 11 instead, no room, 6 held
unfoldable pub reading_bcd : List Reading
reading_bcd =
    (held after_b.ring after_b.store reads untaken)
    ∷ (push_of (record { ring = after_b.ring; store = after_b.store; src = ten })
    reads record { answer = told done; ring = ring 16 0; store = untaken ++ ten })
    ∷ (push_of (record { ring = after_b.ring; store = after_b.store; src = eleven })
    reads record { answer = told (Err TxBufFull); ring = ring 6 0; store = untaken ++ drop 6 places })
    ∷ []

-- f: head 20, tail 12: the pieces at 12..16 and 0..4, both one after the other, and 4 taken, then failure
unfoldable pub reading_f : List Reading
reading_f =
    (first_piece (ring 20 12) places reads 12 ∷ 13 ∷ 14 ∷ 15 ∷ [])
    ∷ (second_piece (ring 20 12) places reads 0 ∷ 1 ∷ 2 ∷ 3 ∷ [])
    ∷ (held (ring 20 12) places reads 12 ∷ 13 ∷ 14 ∷ 15 ∷ 0 ∷ 1 ∷ 2 ∷ 3 ∷ [])
    ∷ (flush_of (record { ring = ring 20 12; store = places; answers = record { first = Count 4; second = Failed }; out = take 8 ten })
    reads record { answer = told done; count = 4; ring = ring 20 16; out = 12 ∷ 13 ∷ 14 ∷ 15 ∷ 54 ∷ 55 ∷ 56 ∷ 57 ∷ [] })
    ∷ []

-- an empty ring of a size; a size that no ring has: answer 1 and the all-zero ring
abbrev opened : ℕ → NewLeft
opened size = record { answer = told done; ring = record { size = size; head = 0; tail = 0 } }

abbrev refused : NewLeft
refused = record { answer = told (Err BadRecord); ring = record { size = 0; head = 0; tail = 0 } }

-- a ring of 131,072 bytes, by its head and tail; five bytes pushed where both are two before the end of its storage
abbrev wide : ℕ → ℕ → TxBuf
wide head tail = record { size = 131072; head = head; tail = tail }

abbrev round : PushLeft
round = push_of (record { ring = wide 131070 131070; store = replicate 131072 9; src = 1 ∷ 2 ∷ 3 ∷ 4 ∷ 5 ∷ [] })

-- a full one, all of which is one piece, taken whole
abbrev whole : FlushLeft
whole =
    flush_of
    (record {
      ring = wide 131072 0;
      store = replicate 131072 9;
      answers = record { first = Count 131072; second = Failed };
      out = replicate 131072 0;
    })

-- R, as 2026-10 has it: over the 65,536 of before, up to 1,048,576; then one less, one more, and the next power of two.
-- On a ring over 65,536: a push that runs round its end, with the pieces that then lie there, and a flush of more than 65,536 bytes
unfoldable pub reading_r : List Reading
reading_r =
    (new_of 131072 reads opened 131072)
    ∷ (new_of 524288 reads opened 524288)
    ∷ (new_of 1048576 reads opened 1048576)
    ∷ (new_of 1048575 reads refused)
    ∷ (new_of 1048577 reads refused)
    ∷ (new_of 2097152 reads refused)
    ∷ (round.answer reads told done)
    ∷ (round.ring reads wide 131075 131070)
    ∷ (first_piece round.ring round.store reads 1 ∷ 2 ∷ [])
    ∷ (second_piece round.ring round.store reads 3 ∷ 4 ∷ 5 ∷ [])
    ∷ (whole.answer reads told done)
    ∷ (whole.count reads 131072)
    ∷ (whole.ring reads wide 131072 131072)
    ∷ []
