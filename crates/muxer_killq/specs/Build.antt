-- `from_conn_map` (01, "The two queues"), as a function of the list of slots. Assumes nothing.
use Rattle.std.specs.Prelude.{ℕ, ◌≡◌, Bool, not, ◌&&◌, List, leb, ltb, eqb, length, take}
use Rattle.defs.specs.Ladder.{clock_answer}
use Rattle.defs.specs.Limits.{is_killq_limit}
use Rattle.conn_map.specs.Table.{Slot, slots_of, gathered, sound_table}
use Rattle.queue.specs.Queued.{QueuedLeft, made_of}
use Rattle.muxer_killq.specs.Queue.{killq, pack, MuxerKillQ}
use Rattle.muxer_killq.specs.Push.{item_at}
use Rattle.muxer_killq.specs.Sort.{sort_by_time}
use Rattle.muxer_killq.specs.declared.item.MuxerKillQItem.{MuxerKillQItem}
use Rattle.defs.specs.Answer.{Answer}

-- a used slot whose time is after now
abbrev pub is_ahead : ℕ → Slot → Bool
is_ahead clock s = s.used && ltb clock s.mark

-- the item of a slot
abbrev pub item_of : Slot → MuxerKillQItem
item_of s = item_at s.key s.mark

-- their items, in slot order
abbrev pub ahead_of : ℕ → List Slot → List MuxerKillQItem
ahead_of clock slots = gathered (is_ahead clock) item_of slots

-- the first of them, as far as the limit goes, sorted by time; unsynced exactly if there are more
unfoldable pub built_from : ℕ → ℕ → List Slot → MuxerKillQ
built_from limit clock slots = pack (sort_by_time (take limit (ahead_of clock slots))) limit (leb (length (ahead_of clock slots)) limit)

pub record BuildIn : Type 0 where
  pub limit : ℕ
  pub clock : ℕ
  pub ports : List ℕ
  pub used : List ℕ
  pub times : List ℕ

-- 01's table: 1 where the limit or the table is not sound, then 3
unfoldable pub build_answer : BuildIn → Answer
build_answer i = clock_answer (is_killq_limit i.limit && sound_table i.ports i.used (length i.times)) i.clock

-- a refused build is an empty, synced queue of limit 0
unfoldable pub build_of : BuildIn → QueuedLeft MuxerKillQ
build_of i = made_of killq (build_answer i) (built_from i.limit i.clock (slots_of i.ports i.used i.times))

-- THE STATEMENT of `from_conn_map`
abbrev pub BuildSays : BuildIn → QueuedLeft MuxerKillQ → Type 0
BuildSays i left = left ≡ build_of i

-- ---- within a build

-- the same before the sort
unfoldable pub collected : ℕ → ℕ → List Slot → MuxerKillQ
collected limit clock slots = pack (take limit (ahead_of clock slots)) limit (leb (length (ahead_of clock slots)) limit)

-- `isAhead` on the numbers of a slot
abbrev pub marked : ℕ → ℕ → ℕ → Bool
marked used clock time = not (eqb used 0) && ltb clock time
