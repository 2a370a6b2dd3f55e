-- Laws of the stream's answers: what each means, and what is known past a `let StreamAnswer::Count(n) = a else`. Assumes nothing.
use Rattle.std.proofs.Common.{◌≡◌, ℕ, ◌<◌, Bool, true, false, eqb, ◌⊎◌, sym, refl, ap, ◌∙◌, inl, inr, ⊎_elim, arith, eq-eqb, eqb-true}
use Rattle.defs.specs.Answer.{told, is_done}
use Rattle.defs.specs.Stream.{counted, failed, stops, stopped_by, blocks}
use Rattle.defs.specs.Promises.{Exactly, StreamMeans}
use Rattle.defs.specs.declared.stream.StreamAnswer.{StreamAnswer}
use Rattle.defs.specs.declared.stream.StreamAnswer.TheVariants.{Count, WouldBlock, Failed}
use Rattle.defs.proofs.Basics.{never}
use Rattle.defs.proofs.MeansLaws.{in_words}

-- ---- what each answer means

fails : (a : StreamAnswer) → Exactly (failed a ≡ true) (a ≡ Failed)
fails a = (from a, λ e. ap failed e)
  where
    from : (a : StreamAnswer) → failed a ≡ true → a ≡ Failed
    from (Count n) e = absurd (never e)
    from WouldBlock e = absurd (never e)
    from Failed e = refl

-- what blocks or fails, by a test of it
by_stop : (test : StreamAnswer → Bool) → ((n : ℕ) → test (Count n) ≡ false) → test WouldBlock ≡ true → test Failed ≡ true → (a : StreamAnswer)
    → Exactly (test a ≡ true) ((a ≡ WouldBlock) ⊎ (a ≡ Failed))
by_stop test c w f a = (from a, ⊎_elim (λ (e : a ≡ WouldBlock). ap test e ∙ w) (λ (e : a ≡ Failed). ap test e ∙ f))
  where
    from : (a : StreamAnswer) → test a ≡ true → (a ≡ WouldBlock) ⊎ (a ≡ Failed)
    from (Count n) e = absurd (never (sym (c n) ∙ e))
    from WouldBlock e = inl refl
    from Failed e = inr refl

pub stream_means : StreamMeans
stream_means = record {
  takes = λ a n p. (takes a n p, λ e. ap counted e);
  fails = fails;
  stops = by_stop stops (λ n. refl) refl refl;
  ten = λ a. in_words (number_means (told (stopped_by a)).number 10) (by_stop (λ (a : StreamAnswer). eqb (told (stopped_by a)).number 10) (λ n. refl) refl refl a);
  which = λ a. (which a, λ e. ap (λ (b : StreamAnswer). (told (stopped_by b)).failed) e);
  blocks = λ a. (only a, λ e. ap blocks e);
}
  where
    number_means : (a b : ℕ) → Exactly (a ≡ b) (eqb a b ≡ true)
    number_means a b = (eq-eqb a b, eqb-true a b)

    takes : (a : StreamAnswer) (n : ℕ) → 0 < n → counted a ≡ n → a ≡ Count n
    takes (Count m) n p e = ap Count e
    takes WouldBlock n p e = absurd (omega arith)
    takes Failed n p e = absurd (omega arith)

    which : (a : StreamAnswer) → (told (stopped_by a)).failed ≡ true → a ≡ Failed
    which (Count n) e = absurd (never e)
    which WouldBlock e = absurd (never e)
    which Failed e = refl

    only : (a : StreamAnswer) → blocks a ≡ true → a ≡ WouldBlock
    only (Count n) e = absurd (never e)
    only WouldBlock e = refl
    only Failed e = absurd (never e)

-- ---- past a `let .. else`

-- a would-block or a failure
abbrev pub NotCount : StreamAnswer → Type 0
NotCount a = (n : ℕ) → a ≡ Count n → ⊥

pub takes_none : (a : StreamAnswer) → NotCount a → counted a ≡ 0
takes_none (Count n) k = absurd (k n refl)
takes_none WouldBlock k = refl
takes_none Failed k = refl

pub not_count_stops : (a : StreamAnswer) → NotCount a → is_done (stopped_by a) ≡ false
not_count_stops (Count n) k = absurd (k n refl)
not_count_stops WouldBlock k = refl
not_count_stops Failed k = refl

-- what does not end a call as done takes nothing
pub stopped_takes_none : (a : StreamAnswer) → is_done (stopped_by a) ≡ false → counted a ≡ 0
stopped_takes_none (Count n) e = absurd (never (sym e))
stopped_takes_none WouldBlock e = refl
stopped_takes_none Failed e = refl
