-- What a call does, said a second time: over what it was given and what it left, in 01's words, apart from the definitions that the code follows, so
-- that a wrong behaviour put into both is refused here. Assumes nothing.
use Rattle.std.specs.Prelude.{ℕ, ◌+◌, ◌/◌, ◌%◌, ◌^◌, ◌≤◌, ◌<◌, ◌≡◌, Bool, true, false, not, ◌&&◌, ltb, eqb, length, get_or, take}
use Rattle.defs.specs.Promises.{Exactly, Refuses}
use Rattle.conn_map.specs.Table.{chosen}
use Rattle.conn_map.specs.Order.{count_below, among_first, SmallerOf, InSlotOrder}
use Rattle.conn_map.specs.declared.key.ConnMapKey.{ConnMapKey}
use Rattle.queue.specs.Queued.{QueuedLeft}
use Rattle.queue.specs.Look.{PeekLeft}
use Rattle.queue.specs.Means as means
use Rattle.muxer_killq.specs.Item.{is_alike}
use Rattle.muxer_killq.specs.Queue.{killq, sound_q, items, NewSays, MuxerKillQ}
use Rattle.muxer_killq.specs.Push.{PushIn, PushSays}
use Rattle.muxer_killq.specs.Pop.{PeekSays, PopIn, PopLeft, PopSays}
use Rattle.muxer_killq.specs.Build.{BuildIn, BuildSays}
use Rattle.muxer_killq.specs.Promises.{Sorted}
use Rattle.muxer_killq.specs.declared.item.MuxerKillQItem.{MuxerKillQItem}

-- the zero item: ports 0, time 0
abbrev pub nothing : MuxerKillQItem
nothing = record { local_port = 0; peer_port = 0; kill_time = 0 }

-- the ports of an item
abbrev pub ports_of : MuxerKillQItem → ConnMapKey
ports_of it = record { local_port = it.local_port; peer_port = it.peer_port }

-- sound: K from 1 to 128, the length within it, the zero item in every place from the length on
abbrev pub Sound : MuxerKillQ → Type 0
Sound q = (1 ≤ q.limit) × (q.limit ≤ 128) × (q.len ≤ q.limit) × ((n : ℕ) → q.len ≤ n → get_or q.q n nothing ≡ nothing)

-- its test says just that
abbrev pub SoundMeans : Type 0
SoundMeans = (q : MuxerKillQ) → Exactly (sound_q q ≡ true) (Sound q)

-- what the calls leave is sound: a constructor or a build that is done, a push or a pop of a sound queue
pub record SoundStaysSound : Type 0 where
  pub new : (limit : ℕ) (o : QueuedLeft MuxerKillQ) → NewSays limit o → o.answer.number ≡ 0 → Sound o.queue
  pub from_conn_map : (i : BuildIn) (o : QueuedLeft MuxerKillQ) → BuildSays i o → o.answer.number ≡ 0 → Sound o.queue
  pub push : (i : PushIn) (o : QueuedLeft MuxerKillQ) → PushSays i o → Sound i.queue → Sound o.queue
  pub pop : (i : PopIn) (o : PopLeft) → PopSays i o → Sound i.queue → Sound o.queue

-- 01: queue places are an array of records, front at place 0. So `queue` sees this record, and what it calls the items stands there
pub record FrontAtPlaceZero : Type 0 where
  pub seen : (q : MuxerKillQ) → killq.seen q ≡ record { places = q.q; len = q.len; limit = q.limit; synced = q.synced }
  pub held : (q : MuxerKillQ) → items q ≡ take q.len q.q

-- a look tells what stands in the record, of a sound queue whose array is as long as its type says
abbrev pub LooksMean : Type 0
LooksMean = (q : MuxerKillQ) → means.Given killq q → means.LooksMean killq q

-- ---- refusals

-- DEMAND 1: answers 1 to 6 change nothing and give nothing
pub record RefusalsChangeNothing : Type 0 where
  pub push : (i : PushIn) (o : QueuedLeft MuxerKillQ) → PushSays i o → Refuses o.answer → o.queue ≡ i.queue
  pub pop : (i : PopIn) (o : PopLeft) → PopSays i o → Refuses o.answer → (o.queue ≡ i.queue) × (o.found ≡ false) × (o.given ≡ ports_of nothing)
  pub peek : (q : MuxerKillQ) (o : PeekLeft MuxerKillQItem) → PeekSays q o → Refuses o.answer → (o.found ≡ false) × (o.item ≡ nothing)

-- a refused opening or build gives an empty, synced queue of limit 0
pub record RefusedIsEmpty : Type 0 where
  pub new : (limit : ℕ) (o : QueuedLeft MuxerKillQ) → NewSays limit o → Refuses o.answer → means.EmptyOf killq 0 o.queue
  pub from_conn_map : (i : BuildIn) (o : QueuedLeft MuxerKillQ) → BuildSays i o → Refuses o.answer → means.EmptyOf killq 0 o.queue

-- an opening that is done gives one of its limit
abbrev pub EveryNewIsEmpty : Type 0
EveryNewIsEmpty = (limit : ℕ) (o : QueuedLeft MuxerKillQ) → NewSays limit o → o.answer.number ≡ 0 → means.EmptyOf killq limit o.queue

-- ---- a build

-- slot n is used, and its time is after now
abbrev pub ahead_at : BuildIn → ℕ → Bool
ahead_at i n = not (eqb (get_or i.used n 0) 0) && ltb i.clock (get_or i.times n 0)

-- its item: its ports are one number, the local port times 2^32 and the peer port
abbrev pub kill_at : BuildIn → ℕ → MuxerKillQItem
kill_at i n = record { local_port = get_or i.ports n 0 / 2 ^ 32; peer_port = get_or i.ports n 0 % 2 ^ 32; kill_time = get_or i.times n 0 }

-- 01: built from slots whose time is after now, the first K in slot order (unsynced exactly if there are more), then sorted by time, ties in slot
-- order: those of each time are in slot order, whatever stands between them
pub record BuiltMeans (i : BuildIn) (q : MuxerKillQ) : Type 0 where
  pub sorted : Sorted (items q)
  pub in_order : (time : ℕ)
      → InSlotOrder (length i.ports) (λ (n : ℕ). among_first i.limit (ahead_at i) n && eqb (get_or i.times n 0) time) (kill_at i) nothing
      (chosen (λ (it : MuxerKillQItem). eqb it.kill_time time) (items q))
  pub len : SmallerOf q.len i.limit (count_below (ahead_at i) (length i.ports))
  pub limit : q.limit ≡ i.limit
  pub unsynced : Exactly (q.synced ≡ false) (i.limit < count_below (ahead_at i) (length i.ports))

abbrev pub BuiltHolds : Type 0
BuiltHolds = (i : BuildIn) (o : QueuedLeft MuxerKillQ) → BuildSays i o → o.answer.number ≡ 0 → BuiltMeans i o.queue

-- ---- a push

-- what is pushed
abbrev pub pushed_in : PushIn → MuxerKillQItem
pushed_in i = record { local_port = i.key.local_port; peer_port = i.key.peer_port; kill_time = i.kill_time }

-- 01: turned down when full or unsynced, and unsyncs; otherwise appended, whatever its time
pub record PushMeans (i : PushIn) (o : QueuedLeft MuxerKillQ) : Type 0 where
  pub room : means.Room killq i.queue → means.Appends killq i.queue (pushed_in i) o
  pub no_room : (means.Room killq i.queue → ⊥) → means.Unsyncs killq i.queue o

abbrev pub EveryPushMeans : Type 0
EveryPushMeans = (i : PushIn) (o : QueuedLeft MuxerKillQ) → PushSays i o → means.Given killq i.queue → PushMeans i o

-- ---- the front

-- a peek shows it, whatever its time
abbrev pub EveryPeekMeans : Type 0
EveryPeekMeans = (q : MuxerKillQ) (o : PeekLeft MuxerKillQItem) → PeekSays q o → means.Given killq q → means.PeekMeans killq q o

-- a pop takes it where now is after its time, and gives its ports
abbrev pub EveryPopMeans : Type 0
EveryPopMeans =
    (i : PopIn) (o : PopLeft) → PopSays i o → means.Given killq i.queue → i.clock ≤ 2 ^ 62
    → means.PopMeans killq (λ it. it.kill_time < i.clock) ports_of (ports_of nothing) i.queue o

-- ---- an item

-- equality allows 10 ms: the same ports, and neither time more than 10 after the other
abbrev pub EqualityMeans : Type 0
EqualityMeans =
    (a b : MuxerKillQItem)
    → Exactly (is_alike a b ≡ true)
    ((a.local_port ≡ b.local_port) × (a.peer_port ≡ b.peer_port) × (a.kill_time ≤ b.kill_time + 10) × (b.kill_time ≤ a.kill_time + 10))
