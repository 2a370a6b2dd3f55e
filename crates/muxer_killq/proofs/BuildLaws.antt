-- Laws of `from_conn_map`: what a turn of the walk keeps, what a slot gives, the sort of what was collected, and the refusals. Assumes nothing.
use Prim.Native.Nat.{ℕ}
use mathlib.Core.Path.{◌≡◌, ap, sym, ◌∙◌}
use mathlib.Core.Bool.{Bool, true, ◌&&◌}
use mathlib.Core.List.{List, ◌++◌, map}
use lib.Dec.{leb}
use lib.ListN.{length, drop}
use Rattle.defs.specs.Ladder.{clock_answer}
use Rattle.defs.specs.Limits.{max_killq, is_killq_limit}
use Rattle.conn_map.specs.Table.{Slot, slots_of, sound_table}
use Rattle.std.specs.Prelude.{filter}
use Rattle.std.specs.List.{zip}
use Rattle.conn_map.proofs.TableLaws as tables
use Rattle.conn_map.proofs.TableLaws.{slot_in, gathered_in}
use Rattle.queue.specs.Queue.{holding}
use Rattle.queue.proofs.QueueLaws.{queue_is_its_list, sound_says, packs, rearranged}
use Rattle.muxer_killq.proofs.SortLaws.{sort_length}
use Rattle.muxer_killq.specs.Queue.{killq, sound_q, items, pack, MuxerKillQ}
use Rattle.muxer_killq.specs.Sort.{sort_by_time}
use Rattle.muxer_killq.specs.Build.{is_ahead, item_of, ahead_of, built_from, collected, BuildIn, build_answer}
use Rattle.muxer_killq.specs.declared.item.MuxerKillQItem.{MuxerKillQItem}
use Rattle.muxer_killq.proofs.QueueLaws.{lawful, limit_means, clock_passed}
use Rattle.defs.specs.Answer.{Answer, done}

-- what the walk gathers are the items whose time is after now
pub gathers : (clock : ℕ) (ports used times : List ℕ) → length used ≡ length ports → length times ≡ length ports
    → map (λ (s : (ℕ × ℕ) × ℕ). item_of (slot_in s)) (filter (λ (s : (ℕ × ℕ) × ℕ). is_ahead clock (slot_in s)) (zip (zip ports used) times)) ≡ ahead_of clock (slots_of ports used times)
gathers clock = gathered_in (is_ahead clock) item_of

-- ---- the sort of what was collected

pub sorted_collected : (limit clock : ℕ) (slots : List Slot) (q : MuxerKillQ) (places l : List MuxerKillQItem) → length q.q ≡ max_killq → q ≡ collected limit clock slots
    → sound_q q ≡ true → l ≡ sort_by_time (items q) → places ≡ l ++ drop q.len q.q
    → ◌≡◌ {A = MuxerKillQ} (record { q = places; len = q.len; limit = q.limit; synced = q.synced }) (built_from limit clock slots)
unfolding collected built_from
sorted_collected limit clock slots q places l n e s f g =
    let u = sound_says killq lawful q n s in
    let k : length l ≡ q.len = ap length f ∙ sort_length (items q) ∙ u.held in
    packs killq places l q.len q.limit q.synced (sym k) (g ∙ rearranged q u l k)
    ∙ ap (λ (x : List MuxerKillQItem). holding killq q x q.synced) f
    ∙ ap (λ (x : MuxerKillQ). holding killq x (sort_by_time (items x)) x.synced) e
    ∙ ap (λ (l : List MuxerKillQItem). pack (sort_by_time l) limit (leb (length (ahead_of clock slots)) limit))
    ((queue_is_its_list killq lawful).packed_items _ limit (leb (length (ahead_of clock slots)) limit))

-- ---- the refusals

module _ (i : BuildIn) (a : Answer) (e : a ≡ build_answer i) (d : a ≡ done) where
  passed : is_killq_limit i.limit && sound_table i.ports i.used (length i.times) ≡ true
  unfolding build_answer
  passed = clock_passed a _ _ e d

  pub ready : tables.Ready max_killq i.limit i.ports i.used i.times
  ready = tables.ready _ _ _ _ _ (is_killq_limit i.limit) (λ e. ((limit_means i.limit).0 e).1) passed

pub build_answer_lem : (i : BuildIn) (a : Answer) (l s : Bool) → a ≡ clock_answer (l && s) i.clock → l ≡ is_killq_limit i.limit
    → s ≡ sound_table i.ports i.used (length i.times) → a ≡ build_answer i
unfolding build_answer
build_answer_lem i a l s e f g = rw (← f, ← g) e
