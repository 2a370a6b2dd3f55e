-- What is said a second time in specs/Outcomes follows from the statements of the calls. Assumes nothing.
use Prim.Native.Nat.{ℕ, ◌^◌, ◌≤◌, ◌<◌}
use mathlib.Core.Path.{◌≡◌, ap, sym, subst, ◌∙◌}
use mathlib.Core.Bool.{Bool, true, ◌&&◌}
use mathlib.Core.List.{List}
use native.Mathlib.Omega.{arith}
use borrow.Author.Tests.{leb-true, leb-false, le-leb, lt-leb, ltb-true, lt-ltb, eqb-true, eq-eqb}
use lib.Dec.{leb, eqb}
use lib.ListN.{length, get_or, take}
use Rattle.defs.specs.Choice.{when}
use Rattle.defs.specs.Answer.{told, Answer, done}
use Rattle.defs.specs.Limits.{max_clock, is_clock}
use Rattle.defs.specs.Ladder.{door_of, clock_answer}
use Rattle.defs.specs.Promises.{Refuses}
use Rattle.defs.proofs.Basics.{both}
use Rattle.defs.proofs.AnswerLaws.{done_passes}
use Rattle.defs.proofs.ChoiceLaws.{when_true, when_false, when_holds}
use Rattle.conn_map.specs.Key.{key_of}
use Rattle.conn_map.specs.Table.{used_at, slots_of, chosen}
use Rattle.conn_map.specs.Order.{count_below, among_first, SmallerOf}
use Rattle.conn_map.proofs.OrderLaws.{listed, listed_length, listed_in_order, listed_first, take_smaller, listed_chosen, gathered_listed, by_list}
use Rattle.queue.specs.Queued.{ListLeft, new_of}
use Rattle.queue.specs.Pop.{pop_of}
use Rattle.queue.proofs.QueueLaws.{queue_is_its_list}
use Rattle.queue.proofs.AnswerLaws as answers
use Rattle.queue.proofs.EveryLaws as every
use Rattle.muxer_killq.specs.Item.{zero_item, times_apart, is_alike}
use Rattle.muxer_killq.specs.Queue.{killq, sound_q, items, pack, MuxerKillQ}
use Rattle.muxer_killq.specs.Push.{item_at, push_list}
use Rattle.muxer_killq.specs.Pop.{no_key, has_passed, key_in}
use Rattle.muxer_killq.specs.Sort.{sort_by_time}
use Rattle.muxer_killq.specs.Build.{ahead_of, built_from, BuildIn, build_of}
use Rattle.muxer_killq.specs.Promises.{Sorted}
use Rattle.muxer_killq.specs.Outcomes.{RefusalsChangeNothing, RefusedIsEmpty, EveryNewIsEmpty, ahead_at, kill_at, BuiltMeans, BuiltHolds, EveryPushMeans, EveryPeekMeans, EveryPopMeans, EqualityMeans}
use Rattle.muxer_killq.specs.declared.item.MuxerKillQItem.{MuxerKillQItem}
use Rattle.muxer_killq.proofs.QueueLaws.{lawful}
use Rattle.muxer_killq.proofs.SortLaws.{every_sort_is_stable, sort_length}

-- ---- refusals

not_refusing : (it : MuxerKillQItem) (l : List MuxerKillQItem) (limit : ℕ) (synced : Bool) → Refuses (told (push_list it l limit synced).answer) → ⊥
unfolding push_list
not_refusing it l limit synced =
    when_holds (λ (o : ListLeft MuxerKillQItem). Refuses (told o.answer) → ⊥) _ _ _
    (λ t. done_passes)
    (λ t r. absurd (omega (arith, r.1)))

pub refusals_change_nothing : RefusalsChangeNothing
refusals_change_nothing = record {
  push = λ i o e r. (every.refusals_keep killq i.queue).push (push_list (item_at i.key i.kill_time)) o e (not_refusing _ _ _ _) r;
  pop = λ i o e r. (every.refusals_keep killq i.queue).pop _ _ _ _ _ o e r;
  peek = λ q o e r. (every.refusals_keep killq q).peek o e r;
}

pub refused_is_empty : RefusedIsEmpty
unfolding new_of build_of
refused_is_empty = record { new = λ limit o e r. every.refused_empty killq lawful _ _ o e r; from_conn_map = λ i o e r. every.refused_empty killq lawful _ _ o e r }

pub every_new_is_empty : EveryNewIsEmpty
every_new_is_empty limit o e d = every.new_empty killq lawful limit o e d

-- ---- a build

module _ (i : BuildIn) where
  abbrev slots : ℕ
  slots = length i.ports

  -- the items of all slots whose time is after now, and of the first of them
  abbrev ahead : List MuxerKillQItem
  ahead = listed (ahead_at i) (kill_at i) slots

  abbrev first : List MuxerKillQItem
  first = listed (among_first i.limit (ahead_at i)) (kill_at i) slots

  gathers : ahead_of i.clock (slots_of i.ports i.used i.times) ≡ ahead
  unfolding used_at key_of
  gathers = gathered_listed _ _ i.ports i.used i.times

  built_is : built_from i.limit i.clock (slots_of i.ports i.used i.times) ≡ pack (sort_by_time first) i.limit (leb (length ahead) i.limit)
  unfolding built_from
  built_is =
      ap (λ (l : List MuxerKillQItem). pack (sort_by_time (take i.limit l)) i.limit (leb (length l) i.limit)) gathers
      ∙ ap (λ (l : List MuxerKillQItem). pack (sort_by_time l) i.limit (leb (length ahead) i.limit)) (listed_first (ahead_at i) (kill_at i) i.limit slots)

  built_means : (q : MuxerKillQ) → q ≡ built_from i.limit i.clock (slots_of i.ports i.used i.times) → BuiltMeans i q
  built_means q f =
      let e = f ∙ built_is in
      let n : length ahead ≡ count_below (ahead_at i) slots = listed_length (ahead_at i) (kill_at i) slots in
      let l : items q ≡ sort_by_time first = ap items e ∙ (queue_is_its_list killq lawful).packed_items (sort_by_time first) i.limit (leb (length ahead) i.limit) in
      let s = every_sort_is_stable first in
      record {
        sorted = subst Sorted (sym l) s.is_sorted;
        in_order =
            λ time.
            let timed : MuxerKillQItem → Bool = λ (it : MuxerKillQItem). eqb it.kill_time time in
            by_list
            (sym (ap (chosen timed) l ∙ s.stable time ∙ listed_chosen (among_first i.limit (ahead_at i)) (kill_at i) timed slots))
            (listed_in_order (λ (n : ℕ). among_first i.limit (ahead_at i) n && eqb (get_or i.times n 0) time) (kill_at i) zero_item slots);
        len =
            subst (λ (m : ℕ). SmallerOf m i.limit (count_below (ahead_at i) slots))
            (sym (ap (λ (q : MuxerKillQ). q.len) e ∙ sort_length first ∙ ap length (sym (listed_first (ahead_at i) (kill_at i) i.limit slots))))
            (take_smaller i.limit ahead (count_below (ahead_at i) slots) n);
        limit = ap (λ (q : MuxerKillQ). q.limit) e;
        unsynced = (
          λ u. (let h = leb-false (length ahead) i.limit (sym (ap (λ (q : MuxerKillQ). q.synced) e) ∙ u) in omega (arith, n)),
          λ h. ap (λ (q : MuxerKillQ). q.synced) e ∙ lt-leb (length ahead) i.limit (omega (arith, n)),
        );
      }

pub built_holds : BuiltHolds
unfolding build_of
built_holds i o e d = built_means i o.queue (every.made_is killq lawful _ _ o e d)

-- ---- a push

pub every_push_means : EveryPushMeans
unfolding push_list
every_push_means i o e g =
    let q = i.queue in
    let it = item_at i.key i.kill_time in
    record {
      room = λ r. every.push_appends killq lawful q g (push_list it) o e it r (when_true _ _ _ ((answers.room_of killq q).1 r));
      no_room = λ n. every.push_unsyncs killq lawful q g (push_list it) o e (when_false _ _ _ (answers.no_room killq q n));
    }

-- ---- the front

pub every_peek_means : EveryPeekMeans
every_peek_means q o e g = every.peek_means killq lawful q g o e

clock_done : (sound : Bool) (clock : ℕ) → sound ≡ true → clock ≤ 2 ^ 62 → clock_answer sound clock ≡ done
unfolding clock_answer door_of is_clock when
clock_done sound clock s h = rw (s, le-leb clock max_clock h)

pub every_pop_means : EveryPopMeans
every_pop_means i o e g h =
    let q = i.queue in
    every.pop_means killq lawful q g no_key (has_passed i.clock) key_in (λ (it : MuxerKillQItem). it.kill_time < i.clock)
    (λ it. (λ t. ltb-true it.kill_time i.clock t, λ l. lt-ltb it.kill_time i.clock l)) o
    (e ∙ ap (λ (a : Answer). pop_of killq no_key (has_passed i.clock) key_in a q) (clock_done (sound_q q) i.clock g.1 h))

-- ---- an item

pub equality_means : EqualityMeans
unfolding is_alike times_apart
equality_means a b = (
  λ e.
      let p = both (eqb a.local_port b.local_port && eqb a.peer_port b.peer_port) _ e in
      let k = both (eqb a.local_port b.local_port) _ p.0 in
      let h = leb-true (times_apart a.kill_time b.kill_time) 10 p.1 in
      (eqb-true _ _ k.0, eqb-true _ _ k.1, omega arith, omega arith),
  λ p. rw (eq-eqb a.local_port b.local_port p.0, eq-eqb a.peer_port b.peer_port p.1) (le-leb (times_apart a.kill_time b.kill_time) 10 (omega (arith, p.2, p.3))),
)
