-- What the calls leave is sound. Assumes nothing.
use Prim.Native.Nat.{ℕ, ◌≤◌}
use mathlib.Core.Path.{◌≡◌, refl, ap, sym, ◌∙◌}
use mathlib.Core.Bool.{Bool, true}
use mathlib.Core.List.{List}
use native.Mathlib.Omega.{arith}
use lib.ListN.{length, take, length-take}
use Rattle.defs.specs.Limits.{is_killq_limit}
use Rattle.defs.proofs.Basics.{both}
use Rattle.defs.proofs.ChoiceLaws.{when_holds}
use Rattle.conn_map.specs.Table.{Slot, slots_of}
use Rattle.queue.specs.Queued.{ListLeft, has_room}
use Rattle.queue.proofs.QueueLaws.{queue_is_its_list, items_within, append_within}
use Rattle.queue.proofs.QueuedLaws.{made_sound, new_sound, push_sound}
use Rattle.queue.proofs.PopLaws.{pop_sound}
use Rattle.muxer_killq.specs.Queue.{killq, sound_q, items, pack, MuxerKillQ}
use Rattle.muxer_killq.specs.Push.{item_at, push_list}
use Rattle.muxer_killq.specs.Sort.{sort_by_time}
use Rattle.muxer_killq.specs.Build.{ahead_of, built_from, collected, BuildIn, build_answer, build_of}
use Rattle.muxer_killq.specs.Outcomes.{SoundStaysSound}
use Rattle.muxer_killq.specs.declared.item.MuxerKillQItem.{MuxerKillQItem}
use Rattle.muxer_killq.proofs.QueueLaws.{lawful, limit_is, sound_means, clock_passed}
use Rattle.muxer_killq.proofs.SortLaws.{sort_length}
use Rattle.defs.specs.Answer.{Answer, done}

-- what a list of so many items makes
module _ (i : BuildIn) (a : Answer) (e : a ≡ build_answer i) (d : a ≡ done) where
  taken_sound : (l : List MuxerKillQItem) (synced : Bool) (slots : List Slot) → length l ≡ length (take i.limit (ahead_of i.clock slots)) → sound_q (pack l i.limit synced) ≡ true
  unfolding build_answer
  taken_sound l synced slots n =
      (queue_is_its_list killq lawful).packed_sound l i.limit synced (sym (limit_is i.limit) ∙ (both (is_killq_limit i.limit) _ (clock_passed a _ _ e d)).0) (omega (arith, length-take i.limit (ahead_of i.clock slots)))

  pub collected_sound : (q : MuxerKillQ) (slots : List Slot) → q ≡ collected i.limit i.clock slots → sound_q q ≡ true
  unfolding collected
  collected_sound q slots f = ap sound_q f ∙ taken_sound (take i.limit (ahead_of i.clock slots)) _ slots refl

built_sound : (i : BuildIn) → build_answer i ≡ done → sound_q (built_from i.limit i.clock (slots_of i.ports i.used i.times)) ≡ true
unfolding built_from
built_sound i d =
    let slots = slots_of i.ports i.used i.times in
    taken_sound i _ refl d (sort_by_time (take i.limit (ahead_of i.clock slots))) _ slots (sort_length _)

-- what a push leaves is within the limit
push_within : (it : MuxerKillQItem) (l : List MuxerKillQItem) (limit : ℕ) (synced : Bool) → length l ≤ limit → length (push_list it l limit synced).list ≤ limit
unfolding push_list
push_within it l limit synced h =
    when_holds (λ (o : ListLeft MuxerKillQItem). length o.list ≤ limit) (has_room synced (length l) limit) _ _
    (λ t. append_within l it limit synced t)
    (λ t. h)

pub sound_stays_sound : SoundStaysSound
unfolding build_of
sound_stays_sound = record {
  new = λ limit o says n. (sound_means o.queue).0 (new_sound killq o lawful limit says n);
  from_conn_map = λ i o says n. (sound_means o.queue).0 (made_sound killq o _ _ (built_sound i) says n);
  push = λ i o says s.
      let t = (sound_means i.queue).1 s in
      let it = item_at i.key i.kill_time in
      (sound_means o.queue).0
      (push_sound killq o lawful (push_list it) i.queue says t (push_within it (items i.queue) i.queue.limit i.queue.synced (items_within killq i.queue t)));
  pop = λ i o says s. (sound_means o.queue).0 (pop_sound killq lawful _ _ _ i.queue ((sound_means i.queue).1 s) _ o says);
}
