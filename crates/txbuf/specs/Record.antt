-- The ring's record (01, "The ring"): what is sound, what it holds, and the calls that only look at it. Assumes nothing.
use Rattle.std.specs.Prelude.{ℕ, zero, suc, ◌%◌, ◌^◌, ◌<◌, ◌≡◌, Bool, ◌&&◌, List, [], ◌∷◌, get_or, leb, eqb}
use Rattle.defs.specs.Answer.{Told, Answer, told, when_done}
use Rattle.defs.specs.Limits.{is_ring_size}
use Rattle.defs.specs.Ladder.{record_answer}
use Rattle.defs.specs.Wrapping.{wsub}
use Rattle.txbuf.specs.declared.record.TxBuf.{TxBuf}

-- how many bytes are held: head minus tail, 32-bit wrapping
abbrev pub used_of : TxBuf → ℕ
used_of b = wsub b.head b.tail

-- the counters are 32 bits wide, as in every record that code holds
pub record Wide (b : TxBuf) : Type 0 where
  pub head : b.head < 2 ^ 32
  pub tail : b.tail < 2 ^ 32

-- 01, "The numbers of a connection": the size in range, and no more held than that
unfoldable pub sound_record : TxBuf → Bool
sound_record b = is_ring_size b.size && leb (used_of b) b.size

-- and the lent storage, of so many bytes, exactly the size
unfoldable pub sound_of : TxBuf → ℕ → Bool
sound_of b storage = sound_record b && eqb storage b.size

-- the n bytes from the place t on, each at its place modulo the size
unfoldable pub held_from : List ℕ → ℕ → ℕ → ℕ → List ℕ
held_from store size t zero = []
held_from store size t (suc n) = get_or store (t % size) 0 ∷ held_from store size (suc t) n

-- THE ABSTRACTION: the bytes that a ring holds, oldest first
unfoldable pub held : TxBuf → List ℕ → List ℕ
held b store = held_from store b.size b.tail (used_of b)

-- ---- the calls that only look, and the constructor

pub record NewLeft : Type 0 where
  pub answer : Told
  pub ring : TxBuf

abbrev empty_ring : ℕ → TxBuf
empty_ring size = record { size = size; head = 0; tail = 0 }

-- an empty ring, or the all-zero record
unfoldable pub new_of : ℕ → NewLeft
new_of size = record {
  answer = told (record_answer (is_ring_size size));
  ring = when_done (record_answer (is_ring_size size)) (empty_ring size) (empty_ring 0);
}

abbrev pub NewSays : ℕ → NewLeft → Type 0
NewSays size left = left ≡ new_of size

-- the answer of a call that only looks
abbrev pub look_answer : TxBuf → Answer
look_answer b = record_answer (sound_record b)

-- nothing is held
abbrev pub is_empty : TxBuf → Bool
is_empty b = eqb (used_of b) 0
