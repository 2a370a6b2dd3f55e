-- The reading of 01 that the kill queue decides, its share of i; what a build makes of equal times; and one from as many slots as the limit, and from
-- one more. Assumes nothing.
use Rattle.std.specs.Prelude.{ℕ, ◌+◌, ◌*◌, ◌^◌, true, false, List, [], ◌∷◌, take, Err}
use Rattle.defs.specs.Answer.{told, done}
use Rattle.defs.specs.Reading.{Reading, ◌reads◌}
use Rattle.defs.specs.declared.answer.Refusal.TheVariants.{BadRecord, BadClock}
use Rattle.conn_map.specs.Table.{Slot}
use Rattle.conn_map.specs.declared.key.ConnMapKey.{ConnMapKey}
use Rattle.queue.specs.Queued.{QueuedLeft}
use Rattle.muxer_killq.specs.Queue.{pack, MuxerKillQ}
use Rattle.muxer_killq.specs.Push.{item_at}
use Rattle.muxer_killq.specs.Pop.{no_key, pop_of}
use Rattle.muxer_killq.specs.Sort.{sort_by_time}
use Rattle.muxer_killq.specs.Build.{ahead_of, build_of}
use Rattle.muxer_killq.specs.declared.item.MuxerKillQItem.{MuxerKillQItem}

-- a queue of limit 1 with one item, at 500
abbrev key : ConnMapKey
key = record { local_port = 1024; peer_port = 5000 }

abbrev one : MuxerKillQ
one = pack (item_at key 500 ∷ []) 1 true

-- i: kill time 500: not popped at 500, popped at 501
unfoldable pub reading_i : List Reading
reading_i =
    (pop_of (record { queue = one; clock = 500 }) reads record { answer = told done; found = false; given = no_key; queue = one })
    ∷ (pop_of (record { queue = one; clock = 501 }) reads record { answer = told done; found = true; given = key; queue = pack [] 1 true })
    ∷ []

-- a slot and its item, told by their local port
abbrev of : ℕ → ConnMapKey
of n = record { local_port = n; peer_port = 0 }

abbrev slot : ℕ → ℕ → Slot
slot n time = record { used = true; key = of n; mark = time }

-- local port and time of five slots
abbrev slots : List Slot
slots = slot 1 700 ∷ slot 2 500 ∷ slot 3 700 ∷ slot 4 600 ∷ slot 5 700 ∷ []

-- sorted by time, ties in slot order; of too many the first in slot order, though a later slot's time is earlier
unfoldable pub ties : List Reading
ties =
    (sort_by_time (ahead_of 500 slots) reads item_at (of 4) 600 ∷ item_at (of 1) 700 ∷ item_at (of 3) 700 ∷ item_at (of 5) 700 ∷ [])
    ∷ (sort_by_time (take 2 (ahead_of 500 slots)) reads item_at (of 1) 700 ∷ item_at (of 3) 700 ∷ [])
    ∷ []

-- the ports of a slot, and its item at a time, told by the local port; the peer port is 7
abbrev ports : ℕ → ℕ
ports n = n * 2 ^ 32 + 7

abbrev kill_of : ℕ → ℕ → MuxerKillQItem
kill_of n time = record { local_port = n; peer_port = 7; kill_time = time }

-- a build from four slots, the last not used, by its limit, now and their times
abbrev built : ℕ → ℕ → List ℕ → QueuedLeft MuxerKillQ
built limit clock times =
    build_of (record { limit = limit; clock = clock; ports = ports 1 ∷ ports 2 ∷ ports 3 ∷ ports 4 ∷ []; used = 1 ∷ 1 ∷ 1 ∷ 0 ∷ []; times = times })

-- K = 2, now 500: two slots have a later time, and three: the first two, by time, and unsynced; none has; limits 0 and 129; a clock past the last
unfoldable pub builds : List Reading
builds =
    (built 2 500 (700 ∷ 500 ∷ 600 ∷ 600 ∷ []) reads record { answer = told done; queue = pack (kill_of 3 600 ∷ kill_of 1 700 ∷ []) 2 true })
    ∷ (built 2 500 (700 ∷ 650 ∷ 600 ∷ 600 ∷ []) reads record { answer = told done; queue = pack (kill_of 2 650 ∷ kill_of 1 700 ∷ []) 2 false })
    ∷ (built 2 500 (500 ∷ 0 ∷ 499 ∷ 600 ∷ []) reads record { answer = told done; queue = pack [] 2 true })
    ∷ (built 0 500 (700 ∷ 500 ∷ 600 ∷ 600 ∷ []) reads record { answer = told (Err BadRecord); queue = pack [] 0 true })
    ∷ (built 129 500 (700 ∷ 500 ∷ 600 ∷ 600 ∷ []) reads record { answer = told (Err BadRecord); queue = pack [] 0 true })
    ∷ (built 2 (2 ^ 62 + 1) (700 ∷ 500 ∷ 600 ∷ 600 ∷ []) reads record { answer = told (Err BadClock); queue = pack [] 0 true })
    ∷ []
