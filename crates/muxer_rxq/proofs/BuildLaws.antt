-- Laws of `from_conn_map`: what a turn of the walk keeps, what a slot gives, and the refusals. Assumes nothing.
use Prim.Native.Nat.{ℕ}
use mathlib.Core.Path.{◌≡◌}
use mathlib.Core.Bool.{Bool, true, ◌&&◌}
use mathlib.Core.List.{List, map}
use lib.ListN.{length}
use Rattle.defs.specs.Ladder.{record_answer}
use Rattle.defs.specs.Limits.{max_rxq, is_rxq_limit}
use Rattle.defs.proofs.LadderLaws.{record_passed}
use Rattle.conn_map.specs.Table.{slots_of, sound_table}
use Rattle.std.specs.Prelude.{filter}
use Rattle.std.specs.List.{zip}
use Rattle.conn_map.proofs.TableLaws as tables
use Rattle.conn_map.proofs.TableLaws.{slot_in, gathered_in}
use Rattle.muxer_rxq.specs.Build.{is_pending, item_of, pending_of, BuildIn, build_answer}
use Rattle.muxer_rxq.proofs.QueueLaws.{limit_means}
use Rattle.defs.specs.Answer.{Answer, done}

-- what the walk gathers are the pending connections
pub gathers : (ports used pending : List ℕ) → length used ≡ length ports → length pending ≡ length ports
    → map (λ (s : (ℕ × ℕ) × ℕ). item_of (slot_in s)) (filter (λ (s : (ℕ × ℕ) × ℕ). is_pending (slot_in s)) (zip (zip ports used) pending)) ≡ pending_of (slots_of ports used pending)
gathers = gathered_in is_pending item_of

-- ---- the refusals

module _ (i : BuildIn) (a : Answer) (e : a ≡ build_answer i) (d : a ≡ done) where
  passed : is_rxq_limit i.limit && sound_table i.ports i.used (length i.pending) ≡ true
  unfolding build_answer
  passed = record_passed a _ e d

  pub ready : tables.Ready max_rxq i.limit i.ports i.used i.pending
  ready = tables.ready _ _ _ _ _ (is_rxq_limit i.limit) (λ e. ((limit_means i.limit).0 e).1) passed

pub build_answer_lem : (i : BuildIn) (a : Answer) (l s : Bool) → a ≡ record_answer (l && s) → l ≡ is_rxq_limit i.limit
    → s ≡ sound_table i.ports i.used (length i.pending) → a ≡ build_answer i
unfolding build_answer
build_answer_lem i a l s e f g = rw (← f, ← g) e
