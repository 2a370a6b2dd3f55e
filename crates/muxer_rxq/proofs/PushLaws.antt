-- Laws of `push`: an eviction, and each end of the call. Assumes nothing.
use Prim.Native.Nat.{ℕ, ◌+◌, ◌-◌, ◌<◌}
use mathlib.Core.Path.{◌≡◌, ap, sym, ◌∙◌}
use mathlib.Core.Bool.{Bool, true, false}
use mathlib.Core.List.{List, [], ◌∷◌, ◌++◌}
use native.Mathlib.Omega.{arith}
use borrow.Author.Tests.{ne_eqb, eq-eqb}
use lib.ListN.{length, set}
use Rattle.defs.specs.Choice.{when}
use Rattle.defs.specs.Answer.{told, done}
use Rattle.defs.specs.declared.answer.Refusal.TheVariants.{NotQueued}
use Rattle.defs.proofs.ChoiceLaws.{when_true, when_false}
use Rattle.queue.specs.Queued as queued
use Rattle.queue.specs.Queued.{QueuedLeft, ListLeft, leaves, has_room, laid}
use Rattle.queue.proofs.QueueLaws.{Sound, sound_packed, replaced}
use Rattle.muxer_rxq.specs.Queue.{rxq, items, MuxerRxQ}
use Rattle.muxer_rxq.specs.Outcomes.{RearmostAt, AllRsts}
use Rattle.muxer_rxq.proofs.OutcomeLaws.{every_last_conn_means}
use Rattle.muxer_rxq.specs.Push.{last_conn, evict_list, push_list}
use Rattle.muxer_rxq.specs.declared.rxq.MuxerRx.{MuxerRx}
use Rattle.muxer_rxq.proofs.QueueLaws.{lawful}
use Rattle.std.specs.Prelude.{Err}

-- ---- an RST on the places

module _ (q : MuxerRxQ) (rx : MuxerRx) (s : Sound rxq q) where
  pub evict_none : AllRsts (items q) → ◌≡◌ {A = QueuedLeft MuxerRxQ} (record { answer = told (Err NotQueued); queue = q }) (laid rxq q (evict_list rx (items q) q.synced))
  unfolding evict_list
  evict_none a =
      ap (λ (x : MuxerRxQ). record { answer = told (Err NotQueued); queue = x }) (sound_packed rxq lawful q s)
      ∙ ap (laid rxq q) (sym (when_true _ _ _ (eq-eqb _ 0 ((every_last_conn_means (items q)).none.1 a))))

  module _ (n : ℕ) (r : RearmostAt (items q) n) where
    pub evict_at : n < q.len
    evict_at = omega (arith, r.0, s.held)

    pub evict_some : ◌≡◌ {A = QueuedLeft MuxerRxQ}
        (record { answer = told done; queue = record { q = set q.q n rx; len = q.len; limit = q.limit; synced = false } })
        (laid rxq q (evict_list rx (items q) q.synced))
    unfolding evict_list
    evict_some =
        let l : last_conn (items q) ≡ n + 1 = ((every_last_conn_means (items q)).some n).1 r in
        ap (λ (x : MuxerRxQ). record { answer = told done; queue = x }) (replaced q s n rx false evict_at)
        ∙ ap (λ (k : ℕ). laid rxq q (leaves done (set (items q) k rx) false)) (let e : n ≡ last_conn (items q) - 1 = omega arith in e)
        ∙ ap (laid rxq q) (sym (when_false _ _ _ (ne_eqb _ 0 (λ z. omega arith))))

-- ---- the ends of the call, on the list

module _ (rx : MuxerRx) (l : List MuxerRx) (limit : ℕ) (synced : Bool) where
  pub evicts : rx.rst ≡ true → has_room synced (length l) limit ≡ false → push_list rx l limit synced ≡ evict_list rx l synced
  unfolding push_list
  evicts r t = when_false _ _ _ t ∙ when_true _ _ _ r

  -- else it is as with any queue
  pub alike_room : has_room synced (length l) limit ≡ true → push_list rx l limit synced ≡ queued.push_list rx l limit synced
  unfolding push_list queued.push_list
  alike_room t = when_true _ _ _ t ∙ sym (when_true _ _ _ t)

  pub alike_connection : rx.rst ≡ false → push_list rx l limit synced ≡ queued.push_list rx l limit synced
  unfolding push_list queued.push_list
  alike_connection r = ap (λ (o : ListLeft MuxerRx). when (has_room synced (length l) limit) (leaves done (l ++ (rx ∷ [])) synced) o) (when_false _ _ _ r)
