-- The edges of a queue, computed for one of numbers, of three places and limits 1 and 2. Assumes nothing.
use Rattle.std.specs.Prelude.{ℕ, Bool, true, false, ◌&&◌, List, [], ◌∷◌, leb, eqb}
use Rattle.defs.specs.Answer.{told, done}
use Rattle.defs.specs.Reading.{Reading, ◌reads◌}
use Rattle.queue.specs.Queue.{Queue, Kind, place_after, sound_q, pack}
use Rattle.queue.specs.Queued.{has_room}
use Rattle.queue.specs.Pop.{PopLeft, pop_of}

-- its items are numbers, 0 the zero item
abbrev numbers : Kind (Queue ℕ) ℕ
numbers = record {
  seen = λ q. q;
  made = λ q. q;
  zero_item = 0;
  is_zero = λ x. eqb x 0;
  size = 3;
  is_limit = λ n. leb 1 n && leb n 2;
}

-- soundness by places, length and limit
abbrev is_sound : List ℕ → ℕ → ℕ → Bool
is_sound places len limit = sound_q numbers (record { places = places; len = len; limit = limit; synced = true })

-- one item, also where the queue is full; a stray item behind it, within the limit and past it; a length over the limit; limits 0 and 3
unfoldable pub sounds : List Reading
sounds =
    (is_sound (5 ∷ 0 ∷ 0 ∷ []) 1 2 reads true)
    ∷ (is_sound (5 ∷ 0 ∷ 0 ∷ []) 1 1 reads true)
    ∷ (is_sound (5 ∷ 6 ∷ 0 ∷ []) 1 2 reads false)
    ∷ (is_sound (5 ∷ 0 ∷ 6 ∷ []) 1 2 reads false)
    ∷ (is_sound (5 ∷ 6 ∷ 0 ∷ []) 2 1 reads false)
    ∷ (is_sound (0 ∷ 0 ∷ 0 ∷ []) 0 0 reads false)
    ∷ (is_sound (0 ∷ 0 ∷ 0 ∷ []) 0 3 reads false)
    ∷ []

-- front at place 0, zero items past the list
unfoldable pub packs : List Reading
packs =
    (pack numbers (5 ∷ []) 2 true reads record { places = 5 ∷ 0 ∷ 0 ∷ []; len = 1; limit = 2; synced = true })
    ∷ (pack numbers [] 2 false reads record { places = 0 ∷ 0 ∷ 0 ∷ []; len = 0; limit = 2; synced = false })
    ∷ []

-- a pop of an unsynced queue that gives what is at most 5
abbrev popped : List ℕ → PopLeft ℕ (Queue ℕ)
popped l = pop_of numbers 0 (λ x. leb x 5) (λ x. x) done (pack numbers l 2 false)

-- the front goes, sync stays; a front that isn't due stays, also before one that is; there may be nothing to give
unfoldable pub pops : List Reading
pops =
    (popped (5 ∷ 6 ∷ []) reads record { answer = told done; found = true; given = 5; queue = pack numbers (6 ∷ []) 2 false })
    ∷ (popped (6 ∷ 5 ∷ []) reads record { answer = told done; found = false; given = 0; queue = pack numbers (6 ∷ 5 ∷ []) 2 false })
    ∷ (popped [] reads record { answer = told done; found = false; given = 0; queue = pack numbers [] 2 false })
    ∷ []

-- so many on from place 1 at limit 2, and from the one place of limit 1
unfoldable pub onwards : List Reading
onwards = (place_after 1 0 2 reads 1) ∷ (place_after 1 1 2 reads 0) ∷ (place_after 0 1 1 reads 0) ∷ []

-- room: synced and not full
unfoldable pub rooms : List Reading
rooms = (has_room true 1 2 reads true) ∷ (has_room true 2 2 reads false) ∷ (has_room false 1 2 reads false) ∷ []
