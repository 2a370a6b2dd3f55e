-- What a call does, said a second time: over what it was given and what it left, in 01's words, apart from the definitions that the code follows, so
-- that a wrong behaviour put into both is refused here. Assumes nothing.
use Rattle.std.specs.Prelude.{ℕ, ◌+◌, ◌/◌, ◌%◌, ◌^◌, ◌≤◌, ◌<◌, ◌≡◌, Bool, true, false, not, ◌&&◌, List, eqb, length, get_or, take}
use Rattle.defs.specs.Promises.{Exactly, Refuses}
use Rattle.conn_map.specs.Order.{count_below, among_first, SmallerOf, InSlotOrder}
use Rattle.queue.specs.Queued.{QueuedLeft}
use Rattle.queue.specs.Look.{PeekLeft}
use Rattle.queue.specs.Means as means
use Rattle.muxer_rxq.specs.Queue.{rxq, sound_q, items, NewSays, MuxerRxQ}
use Rattle.muxer_rxq.specs.Push.{last_conn, PushIn, PushSays}
use Rattle.muxer_rxq.specs.Pop.{PeekSays, PopLeft, PopSays}
use Rattle.muxer_rxq.specs.Build.{BuildIn, BuildSays}
use Rattle.muxer_rxq.specs.declared.rxq.MuxerRx.{MuxerRx}

-- the zero item: a connection, ports 0
abbrev pub nothing : MuxerRx
nothing = record { rst = false; local_port = 0; peer_port = 0 }

-- sound: Q from 1 to 512, the length within it, the zero item in every place from the length on
abbrev pub Sound : MuxerRxQ → Type 0
Sound q = (1 ≤ q.limit) × (q.limit ≤ 512) × (q.len ≤ q.limit) × ((n : ℕ) → q.len ≤ n → get_or q.q n nothing ≡ nothing)

-- its test says just that
abbrev pub SoundMeans : Type 0
SoundMeans = (q : MuxerRxQ) → Exactly (sound_q q ≡ true) (Sound q)

-- what the calls leave is sound: a constructor or a build that is done, a push or a pop of a sound queue
pub record SoundStaysSound : Type 0 where
  pub new : (limit : ℕ) (o : QueuedLeft MuxerRxQ) → NewSays limit o → o.answer.number ≡ 0 → Sound o.queue
  pub from_conn_map : (i : BuildIn) (o : QueuedLeft MuxerRxQ) → BuildSays i o → o.answer.number ≡ 0 → Sound o.queue
  pub push : (i : PushIn) (o : QueuedLeft MuxerRxQ) → PushSays i o → Sound i.queue → Sound o.queue
  pub pop : (q : MuxerRxQ) (o : PopLeft) → PopSays q o → Sound q → Sound o.queue

-- 01: queue places are an array of records, front at place 0. So `queue` sees this record, and what it calls the items stands there
pub record FrontAtPlaceZero : Type 0 where
  pub seen : (q : MuxerRxQ) → rxq.seen q ≡ record { places = q.q; len = q.len; limit = q.limit; synced = q.synced }
  pub held : (q : MuxerRxQ) → items q ≡ take q.len q.q

-- a look tells what stands in the record, of a sound queue whose array is as long as its type says
abbrev pub LooksMean : Type 0
LooksMean = (q : MuxerRxQ) → means.Given rxq q → means.LooksMean rxq q

-- ---- refusals

-- DEMAND 1: answers 1 to 6 change nothing and give nothing
pub record RefusalsChangeNothing : Type 0 where
  pub push : (i : PushIn) (o : QueuedLeft MuxerRxQ) → PushSays i o → Refuses o.answer → o.queue ≡ i.queue
  pub pop : (q : MuxerRxQ) (o : PopLeft) → PopSays q o → Refuses o.answer → (o.queue ≡ q) × (o.found ≡ false) × (o.given ≡ nothing)
  pub peek : (q : MuxerRxQ) (o : PeekLeft MuxerRx) → PeekSays q o → Refuses o.answer → (o.found ≡ false) × (o.item ≡ nothing)

-- a refused opening or build gives an empty, synced queue of limit 0
pub record RefusedIsEmpty : Type 0 where
  pub new : (limit : ℕ) (o : QueuedLeft MuxerRxQ) → NewSays limit o → Refuses o.answer → means.EmptyOf rxq 0 o.queue
  pub from_conn_map : (i : BuildIn) (o : QueuedLeft MuxerRxQ) → BuildSays i o → Refuses o.answer → means.EmptyOf rxq 0 o.queue

-- an opening that is done gives one of its limit
abbrev pub EveryNewIsEmpty : Type 0
EveryNewIsEmpty = (limit : ℕ) (o : QueuedLeft MuxerRxQ) → NewSays limit o → o.answer.number ≡ 0 → means.EmptyOf rxq limit o.queue

-- ---- a build

-- slot n is used and pending
abbrev pub pends_at : BuildIn → ℕ → Bool
pends_at i n = not (eqb (get_or i.used n 0) 0) && not (eqb (get_or i.pending n 0) 0)

-- its connection: its ports are one number, the local port times 2^32 and the peer port
abbrev pub conn_at : BuildIn → ℕ → MuxerRx
conn_at i n = record { rst = false; local_port = get_or i.ports n 0 / 2 ^ 32; peer_port = get_or i.ports n 0 % 2 ^ 32 }

-- 01: built from the table in slot order, of the slots that are pending those with fewer than Q before them; unsynced exactly if more than Q are pending
pub record BuiltMeans (i : BuildIn) (q : MuxerRxQ) : Type 0 where
  pub in_order : InSlotOrder (length i.ports) (among_first i.limit (pends_at i)) (conn_at i) nothing (items q)
  pub len : SmallerOf q.len i.limit (count_below (pends_at i) (length i.ports))
  pub limit : q.limit ≡ i.limit
  pub unsynced : Exactly (q.synced ≡ false) (i.limit < count_below (pends_at i) (length i.ports))

abbrev pub BuiltHolds : Type 0
BuiltHolds = (i : BuildIn) (o : QueuedLeft MuxerRxQ) → BuildSays i o → o.answer.number ≡ 0 → BuiltMeans i o.queue

-- ---- a push

-- the item at n is a connection, and every item behind it is an RST
abbrev pub RearmostAt : List MuxerRx → ℕ → Type 0
RearmostAt l n = (n < length l) × ((get_or l n nothing).rst ≡ false) × ((m : ℕ) → n < m → m < length l → (get_or l m nothing).rst ≡ true)

-- every item is an RST
abbrev pub AllRsts : List MuxerRx → Type 0
AllRsts l = (n : ℕ) → n < length l → (get_or l n nothing).rst ≡ true

-- what `lastConn` encodes: one more than the place of the rearmost connection, or 0
pub record LastConnMeans (l : List MuxerRx) : Type 0 where
  pub none : Exactly (last_conn l ≡ 0) (AllRsts l)
  pub some : (n : ℕ) → Exactly (last_conn l ≡ n + 1) (RearmostAt l n)

abbrev pub EveryLastConnMeans : Type 0
EveryLastConnMeans = (l : List MuxerRx) → LastConnMeans l

-- 01: synced and not full, append. Otherwise an RST replaces the rearmost connection or, with none, is answered 11 and nothing changes; a connection is
-- answered 11 and unsyncs
pub record PushMeans (i : PushIn) (o : QueuedLeft MuxerRxQ) : Type 0 where
  pub room : means.Room rxq i.queue → means.Appends rxq i.queue i.rx o
  pub rst : (means.Room rxq i.queue → ⊥) → i.rx.rst ≡ true → (n : ℕ) → RearmostAt (items i.queue) n → means.Replaces rxq i.queue n i.rx o
  pub all_rsts : (means.Room rxq i.queue → ⊥) → i.rx.rst ≡ true → AllRsts (items i.queue) → (o.answer.number ≡ 11) × (o.queue ≡ i.queue)
  pub connection : (means.Room rxq i.queue → ⊥) → i.rx.rst ≡ false → means.Unsyncs rxq i.queue o

abbrev pub EveryPushMeans : Type 0
EveryPushMeans = (i : PushIn) (o : QueuedLeft MuxerRxQ) → PushSays i o → means.Given rxq i.queue → PushMeans i o

-- ---- the front

-- a peek shows it
abbrev pub EveryPeekMeans : Type 0
EveryPeekMeans = (q : MuxerRxQ) (o : PeekLeft MuxerRx) → PeekSays q o → means.Given rxq q → means.PeekMeans rxq q o

-- a pop takes it, whatever it is
abbrev pub EveryPopMeans : Type 0
EveryPopMeans = (q : MuxerRxQ) (o : PopLeft) → PopSays q o → means.Given rxq q → means.PopMeans rxq (λ it. Unit) (λ it. it) nothing q o
