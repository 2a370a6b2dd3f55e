-- A call whose contract is an equation of what is seen of it is pinned, and so is one of what is seen of its result, where that tells results apart. Assumes nothing.
use Rattle.std.proofs.Common.{◌≡◌, sym, ◌∙◌}
use Rattle.defs.specs.Pinned.{Pinned}

module _ {L : Type 0} {In Out End : L → Type 0} (Seen : Type 0) (seen : (l : L) → Out l → End l → Seen) (f : (l : L) → In l → Seen) where
  pub by_equation : Pinned (λ l i r e. seen l r e ≡ f l i) Seen seen
  by_equation l i r s d e p q = p ∙ sym q

module _ {L R Seen : Type 0} {In : L → Type 0} (End : L → Type 0) (seen : R → Seen) (apart : (r s : R) → seen r ≡ seen s → r ≡ s) (f : (l : L) → In l → Seen) where
  pub by_result : Pinned {In = In} {Out = λ (l : L). R} {End = End} (λ l i r e. seen r ≡ f l i) R (λ l r e. r)
  by_result l i r s d e p q = apart r s (p ∙ sym q)
