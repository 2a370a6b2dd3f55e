-- Each induction over runs, once for any machine. Assumes nothing.
use Prim.Native.Nat.{ℕ, suc, ◌+◌, ◌%◌, ◌^◌, ◌≤◌}
use mathlib.Core.Path.{◌≡◌, refl, sym, ap, ◌∙◌}
use mathlib.Core.Bool.{Bool, true, false}
use mathlib.Core.List.{List, [], ◌∷◌, ◌++◌, append-nil, append_assoc}
use native.Mathlib.Omega.{arith}
use native.Mathlib.Nat.{le_trans}
use lib.ListN.{length, length-append}
use Rattle.defs.proofs.ChoiceLaws.{when_true, when_false}
use Rattle.runs.specs.Runs.{Machine, Steps, none, then, gathered, outs, Each, Account, Forwards}
use Rattle.runs.specs.Promises.{Keeps, Moves, Begins, Wanes, EveryRunKeeps, EveryRunForwards, CutsDoNotMatter, Drains}

-- ---- what every call keeps

module _ (m : Machine) (P : m.Record → Type 0) (keeps : Keeps m P) where
  pub kept_on : {c : m.Record} {x : m.Lent} {d : m.Record} {y : m.Lent} {t : List m.Event} → P c → Steps m c x t d y → P d
  kept_on p none = p
  kept_on p (then {t} {d} {y} r e made) = keeps d y e (kept_on p r) made

pub every_run_keeps : EveryRunKeeps
every_run_keeps m P keeps c d x y t p r = kept_on m P keeps p r

-- ---- nothing lost

module _ (m : Machine) (a : Account m) where
  start : (c : m.Record) (x : m.Lent) → Begins m a c x → Forwards m a [] c x
  unfolding gathered
  start c x b = record { bytes = b.empty; count = b.count }

  step : (t : List m.Event) (c : m.Record) (x : m.Lent) (e : m.Event) → Forwards m a t c x → Moves m a c x e → Forwards m a (e ∷ t) (m.after e) (m.lent_after x e)
  unfolding gathered
  step t c x e f v = record {
    bytes =
        append_assoc (gathered a.took t) (a.took e) _
        ∙ ap (λ (l : List a.Item). gathered a.took t ++ l) v.bytes
        ∙ sym (append_assoc (gathered a.took t) (a.held c x) (a.accepted e))
        ∙ ap (λ (l : List a.Item). l ++ a.accepted e) f.bytes;
    count = omega (arith, v.count, f.count, length-append (gathered a.took t) (a.took e));
  }

  -- what a run took that ends with nothing held
  all_taken : (t : List m.Event) (c : m.Record) (x : m.Lent) → Forwards m a t c x → a.held c x ≡ [] → gathered a.took t ≡ gathered a.accepted t
  all_taken t c x f e = sym (append-nil (gathered a.took t)) ∙ ap (λ (l : List a.Item). gathered a.took t ++ l) (sym e) ∙ f.bytes

pub every_run_forwards : EveryRunForwards
every_run_forwards m a P keeps moves c d x y t p b r = on r
  where
    on : {t : List m.Event} {d : m.Record} {y : m.Lent} → Steps m c x t d y → Forwards m a t d y
    on none = start m a c x b
    on (then {t} {d} {y} s e made) = step m a t d y e (on s) (moves d y e (kept_on m P keeps p s) made)

pub cuts_do_not_matter : CutsDoNotMatter
cuts_do_not_matter m a t u c d x y f g same e h =
    let z : gathered a.took t ≡ gathered a.took u = all_taken m a t c x f e ∙ same ∙ sym (all_taken m a u d y g h) in
    record { taken = z; count = f.count ∙ ap (λ (l : List a.Item). length l % 2 ^ 32) z ∙ sym g.count }

-- ---- draining

outs_none : {E : Type 0} (is_out : E → Bool) → outs is_out [] ≡ 0
unfolding outs
outs_none is_out = refl

outs_yes : {E : Type 0} (is_out : E → Bool) (e : E) (t : List E) → is_out e ≡ true → outs is_out (e ∷ t) ≡ suc (outs is_out t)
unfolding outs
outs_yes is_out e t x = when_true _ _ _ x

outs_no : {E : Type 0} (is_out : E → Bool) (e : E) (t : List E) → is_out e ≡ false → outs is_out (e ∷ t) ≡ outs is_out t
unfolding outs
outs_no is_out e t x = when_false _ _ _ x

module _ (m : Machine) (P : m.Record → Type 0) (backlog : m.Record → ℕ) (Pushless : m.Event → Type 0) (is_out : m.Event → Bool) (keeps : Keeps m P) (w : Wanes m P backlog Pushless is_out) where
  drain : {c : m.Record} {x : m.Lent} {d : m.Record} {y : m.Lent} {t : List m.Event} → P c → Steps m c x t d y → Each Pushless t → (n : ℕ) → backlog c ≤ outs is_out t + n → backlog d ≤ n
  unfolding Each
  drain p none q n b = omega (arith, outs_none is_out)
  drain {c} p (then {t} {d} {y} r e made) q n b = go (is_out e) refl (λ l. drain p r q.1 n l) (λ l. drain p r q.1 (suc n) l)
    where
      go : (o : Bool) → is_out e ≡ o → (backlog c ≤ outs is_out t + n → backlog d ≤ n) → (backlog c ≤ outs is_out t + suc n → backlog d ≤ suc n) → backlog (m.after e) ≤ n
      go true o ih more =
          let l = more (omega (arith, outs_yes is_out e t o)) in
          let f = w.falls d y e (kept_on m P keeps p r) made o in
          omega arith
      go false o ih more = le_trans (w.stays d y e (kept_on m P keeps p r) made q.0) (ih (omega (arith, outs_no is_out e t o)))

pub drains : Drains
drains m P backlog Pushless is_out keeps w c d x y t p r q b = let z = drain m P backlog Pushless is_out keeps w p r q 0 (omega arith) in omega arith
