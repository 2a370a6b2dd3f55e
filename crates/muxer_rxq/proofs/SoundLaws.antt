-- What the calls leave is sound. Assumes nothing.
use Prim.Native.Nat.{ℕ, ◌-◌, ◌≤◌}
use mathlib.Core.Path.{◌≡◌, refl, sym, ◌∙◌}
use mathlib.Core.Bool.{Bool, true}
use mathlib.Core.List.{List}
use native.Mathlib.Omega.{arith}
use lib.Dec.{eqb}
use lib.ListN.{length, take, length-take, length-set}
use Rattle.defs.specs.Limits.{is_rxq_limit}
use Rattle.defs.proofs.Basics.{both}
use Rattle.defs.proofs.ChoiceLaws.{when_holds}
use Rattle.defs.proofs.LadderLaws.{record_passed}
use Rattle.conn_map.specs.Table.{slots_of}
use Rattle.queue.specs.Queued.{ListLeft, has_room}
use Rattle.queue.proofs.QueueLaws.{queue_is_its_list, items_within, append_within}
use Rattle.queue.proofs.QueuedLaws.{made_sound, new_sound, push_sound}
use Rattle.queue.proofs.PopLaws.{pop_sound}
use Rattle.muxer_rxq.specs.Queue.{rxq, sound_q, items}
use Rattle.muxer_rxq.specs.Push.{last_conn, evict_list, push_list}
use Rattle.muxer_rxq.specs.Build.{pending_of, built_from, BuildIn, build_answer, build_of}
use Rattle.muxer_rxq.specs.Outcomes.{SoundStaysSound}
use Rattle.muxer_rxq.specs.declared.rxq.MuxerRx.{MuxerRx}
use Rattle.muxer_rxq.proofs.QueueLaws.{lawful, limit_is, sound_means}
use Rattle.defs.specs.Answer.{done}

built_sound : (i : BuildIn) → build_answer i ≡ done → sound_q (built_from i.limit (slots_of i.ports i.used i.pending)) ≡ true
unfolding built_from build_answer
built_sound i d =
    let l = pending_of (slots_of i.ports i.used i.pending) in
    (queue_is_its_list rxq lawful).packed_sound (take i.limit l) i.limit _ (sym (limit_is i.limit) ∙ (both (is_rxq_limit i.limit) _ (record_passed _ _ refl d)).0) (omega (arith, length-take i.limit l))

-- what a push leaves is within the limit
push_within : (rx : MuxerRx) (l : List MuxerRx) (limit : ℕ) (synced : Bool) → length l ≤ limit → length (push_list rx l limit synced).list ≤ limit
unfolding push_list evict_list
push_within rx l limit synced h =
    when_holds (λ (o : ListLeft MuxerRx). length o.list ≤ limit) (has_room synced (length l) limit) _ _
    (λ t. append_within l rx limit synced t)
    (λ t.
    when_holds (λ (o : ListLeft MuxerRx). length o.list ≤ limit) rx.rst _ _
    (λ r. when_holds (λ (o : ListLeft MuxerRx). length o.list ≤ limit) (eqb (last_conn l) 0) _ _ (λ n. h) (λ n. omega (arith, length-set l (last_conn l - 1) rx)))
    (λ r. h))

pub sound_stays_sound : SoundStaysSound
unfolding build_of
sound_stays_sound = record {
  new = λ limit o says n. (sound_means o.queue).0 (new_sound rxq o lawful limit says n);
  from_conn_map = λ i o says n. (sound_means o.queue).0 (made_sound rxq o _ _ (built_sound i) says n);
  push = λ i o says s.
      let t = (sound_means i.queue).1 s in
      (sound_means o.queue).0
      (push_sound rxq o lawful (push_list i.rx) i.queue says t (push_within i.rx (items i.queue) i.queue.limit i.queue.synced (items_within rxq i.queue t)));
  pop = λ q o says s. (sound_means o.queue).0 (pop_sound rxq lawful _ _ _ q ((sound_means q).1 s) _ o says);
}
