-- Runs of calls on any machine: lists of calls with what each left, the newest first. What is said of a run is a function of its list. Assumes nothing.
use Rattle.std.specs.Prelude.{ℕ, suc, ◌%◌, ◌^◌, ◌≡◌, Bool, List, [], ◌∷◌, ◌++◌, length}
use Rattle.defs.specs.Choice.{when}

-- A MACHINE: its record, what is lent beside it, its calls with what each was given and left, and where a call leads. `Made`: the call was made
-- on this record and what is lent, and left what its contract says
pub record Machine : Type 1 where
  pub Record : Type 0
  pub Lent : Type 0
  pub Event : Type 0
  pub after : Event → Record
  pub lent_after : Lent → Event → Lent
  pub Made : Record → Lent → Event → Type 0

-- calls in turn from a record and what is lent on, the newest first, and where they lead
pub data Steps (m : Machine) (c : m.Record) (x : m.Lent) : List m.Event → m.Record → m.Lent → Type 0 where
  none : Steps m c x [] c x
  then : {t : List m.Event} {d : m.Record} {y : m.Lent} → Steps m c x t d y → (e : m.Event) → m.Made d y e → Steps m c x (e ∷ t) (m.after e) (m.lent_after y e)

-- ---- what a run comes to

-- over a run, oldest first
unfoldable pub gathered : {E A : Type 0} → (E → List A) → List E → List A
gathered f [] = []
gathered f (e ∷ t) = gathered f t ++ f e

-- how many of its calls pass a test
unfoldable pub outs : {E : Type 0} → (E → Bool) → List E → ℕ
outs is_out [] = 0
outs is_out (e ∷ t) = when (is_out e) (suc (outs is_out t)) (outs is_out t)

-- every call of it is such a one
unfoldable pub Each : {E : Type 0} → (E → Type 0) → List E → Type 0
Each P [] = Unit {0}
Each P (e ∷ t) = P e × Each P t

-- AN ACCOUNT of a machine: the items that a call took away, those that it accepted, those that a record holds, and the record's count
pub record Account (m : Machine) : Type 1 where
  pub Item : Type 0
  pub took : m.Event → List Item
  pub accepted : m.Event → List Item
  pub held : m.Record → m.Lent → List Item
  pub count : m.Record → ℕ

-- what was taken, then what is held, oldest first, is what was accepted in order; the count is the number taken, modulo 2^32
pub record Forwards (m : Machine) (a : Account m) (t : List m.Event) (c : m.Record) (x : m.Lent) : Type 0 where
  pub bytes : gathered a.took t ++ a.held c x ≡ gathered a.accepted t
  pub count : a.count c ≡ length (gathered a.took t) % 2 ^ 32

-- two runs took the same and show the same count
pub record Alike (m : Machine) (a : Account m) (t u : List m.Event) (c d : m.Record) : Type 0 where
  pub taken : gathered a.took t ≡ gathered a.took u
  pub count : a.count c ≡ a.count d
