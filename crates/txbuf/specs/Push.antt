-- `push` (01, "The ring"): all or nothing. Assumes nothing.
use Rattle.std.specs.Prelude.{ℕ, suc, ◌+◌, ◌-◌, ◌%◌, ◌≡◌, not, false, List, [], ◌∷◌, ◌++◌, length, take, drop, set, ltb, Result, Err}
use Rattle.defs.specs.Choice.{when}
use Rattle.defs.specs.Answer.{Told, Answer, told, done, when_done, answer_of, given_or}
use Rattle.defs.specs.Limits.{is_packet_length}
use Rattle.defs.specs.Ladder.{door_of, lowest_of}
use Rattle.defs.specs.Wrapping.{wadd}
use Rattle.defs.specs.Copying.{copied}
use Rattle.defs.specs.declared.answer.Refusal.{Refusal}
use Rattle.defs.specs.declared.answer.Refusal.TheVariants.{TxBufFull}
use Rattle.txbuf.specs.Record.{used_of, sound_of}
use Rattle.txbuf.specs.declared.record.TxBuf.{TxBuf}

-- bytes written from an offset to the storage's end, then from its start
unfoldable pub runs : List ℕ → ℕ → List ℕ → List ℕ
runs store at src = copied (take at store ++ copied (drop at store) src) (drop (length store - at) src)

-- each byte written at its place modulo the size: the same, by `TwoRunsAreOneWrite` of Promises
unfoldable pub written : List ℕ → ℕ → ℕ → List ℕ → List ℕ
written store size h [] = store
written store size h (x ∷ xs) = written (set store (h % size) x) size (suc h) xs

pub record PushIn : Type 0 where
  pub ring : TxBuf
  pub store : List ℕ
  pub src : List ℕ

pub record PushLeft : Type 0 where
  pub answer : Told
  pub ring : TxBuf
  pub store : List ℕ

-- what is seen of a push: its answer, the ring that it gives, or that stays where it is refused, and the storage
abbrev pub push_seen : TxBuf → Result TxBuf Refusal → List ℕ → PushLeft
push_seen b r store = record { answer = told (answer_of r); ring = given_or b r; store = store }

-- 01's table: 1 and 4, then 9 where held plus new exceeds the size
unfoldable pub push_answer : TxBuf → ℕ → ℕ → Answer
push_answer b storage bytes =
    lowest_of (door_of (not (sound_of b storage)) false false (not (is_packet_length bytes))) (when (ltb storage (used_of b + bytes)) (Err TxBufFull) done)

abbrev pub push_answer_of : PushIn → Answer
push_answer_of i = push_answer i.ring (length i.store) (length i.src)

-- the bytes stand from the head offset on, and the head has moved past them
unfoldable pub push_done : PushIn → PushLeft
push_done i = record {
  answer = told done;
  ring = record { size = i.ring.size; head = wadd i.ring.head (length i.src); tail = i.ring.tail };
  store = runs i.store (i.ring.head % i.ring.size) i.src;
}

-- a refusal changes nothing
unfoldable pub push_kept : PushIn → PushLeft
push_kept i = record { answer = told (push_answer_of i); ring = i.ring; store = i.store }

unfoldable pub push_of : PushIn → PushLeft
push_of i = when_done (push_answer_of i) (push_done i) (push_kept i)

-- THE STATEMENT of `push`
abbrev pub PushSays : PushIn → PushLeft → Type 0
PushSays i left = left ≡ push_of i

-- ---- the same by number, for a host: the head is its to move

pub record NumberedLeft : Type 0 where
  pub number : ℕ
  pub store : List ℕ

abbrev pub numbered : PushLeft → NumberedLeft
numbered left = record { number = left.answer.number; store = left.store }

abbrev pub NumberedSays : PushIn → NumberedLeft → Type 0
NumberedSays i left = left ≡ numbered (push_of i)
