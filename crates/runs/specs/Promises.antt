-- What holds of the runs of any machine, in statements only; proofs/Promises has a line for each. Assumes nothing.
use Rattle.std.specs.Prelude.{ℕ, ◌-◌, ◌≤◌, ◌≡◌, Bool, true, false, List, [], ◌∷◌, ◌++◌, length}
use Rattle.defs.specs.Wrapping.{wadd}
use Rattle.runs.specs.Runs.{Machine, Steps, gathered, outs, Each, Account, Forwards, Alike}

-- ---- what a machine has to show of one call

-- a fact about the record outlasts every call
abbrev pub Keeps : (m : Machine) → (m.Record → Type 0) → Type 0
Keeps m P = (c : m.Record) (x : m.Lent) (e : m.Event) → P c → m.Made c x e → P (m.after e)

-- one call: what it took, then what is held after it, is what was held, then what it accepted; the count rises by the number taken
pub record Moves (m : Machine) (a : Account m) (c : m.Record) (x : m.Lent) (e : m.Event) : Type 0 where
  pub bytes : a.took e ++ a.held (m.after e) (m.lent_after x e) ≡ a.held c x ++ a.accepted e
  pub count : a.count (m.after e) ≡ wadd (a.count c) (length (a.took e))

-- every call moves so, on a record of which a fact holds
abbrev pub EachMoves : (m : Machine) → Account m → (m.Record → Type 0) → Type 0
EachMoves m a P = (c : m.Record) (x : m.Lent) (e : m.Event) → P c → m.Made c x e → Moves m a c x e

-- nothing held and nothing counted: where a run begins
pub record Begins (m : Machine) (a : Account m) (c : m.Record) (x : m.Lent) : Type 0 where
  pub empty : a.held c x ≡ []
  pub count : a.count c ≡ 0

-- how much is held never rises by a call of this kind, and falls by one at least, unless it is 0, by one that passes the test
pub record Wanes (m : Machine) (P : m.Record → Type 0) (backlog : m.Record → ℕ) (Pushless : m.Event → Type 0) (is_out : m.Event → Bool) : Type 0 where
  pub stays : (c : m.Record) (x : m.Lent) (e : m.Event) → P c → m.Made c x e → Pushless e → backlog (m.after e) ≤ backlog c
  pub falls : (c : m.Record) (x : m.Lent) (e : m.Event) → P c → m.Made c x e → is_out e ≡ true → backlog (m.after e) ≤ backlog c - 1

-- ---- what holds of its runs

-- what every call keeps, every run keeps
abbrev pub EveryRunKeeps : Type 1
EveryRunKeeps =
    (m : Machine) (P : m.Record → Type 0) → Keeps m P → (c d : m.Record) (x y : m.Lent) (t : List m.Event) → P c → Steps m c x t d y → P d

-- NOTHING LOST, over any machine: where every call moves what it takes and accepts, every run from an empty record forwards
abbrev pub EveryRunForwards : Type 1
EveryRunForwards =
    (m : Machine) (a : Account m) (P : m.Record → Type 0) → Keeps m P → EachMoves m a P
    → (c d : m.Record) (x y : m.Lent) (t : List m.Event) → P c → Begins m a c x → Steps m c x t d y → Forwards m a t d y

-- two runs that accept the same and end with nothing held took the same and show the same count
abbrev pub CutsDoNotMatter : Type 1
CutsDoNotMatter =
    (m : Machine) (a : Account m) (t u : List m.Event) (c d : m.Record) (x y : m.Lent) → Forwards m a t c x → Forwards m a u d y
    → gathered a.accepted t ≡ gathered a.accepted u → a.held c x ≡ [] → a.held d y ≡ [] → Alike m a t u c d

-- what wanes is gone after as many such calls as were held
abbrev pub Drains : Type 1
Drains =
    (m : Machine) (P : m.Record → Type 0) (backlog : m.Record → ℕ) (Pushless : m.Event → Type 0) (is_out : m.Event → Bool) → Keeps m P → Wanes m P backlog Pushless is_out
    → (c d : m.Record) (x y : m.Lent) (t : List m.Event) → P c → Steps m c x t d y → Each Pushless t → backlog c ≤ outs is_out t → backlog d ≡ 0

-- computed: of four calls, the newest first, those that pass a test, what they come to, oldest first, and that each of them is such a one
pub record EdgesHold : Type 0 where
  pub outs : outs (λ (b : Bool). b) (true ∷ false ∷ true ∷ true ∷ []) ≡ 3
  pub gathered : gathered (λ (l : List ℕ). l) ((3 ∷ 4 ∷ []) ∷ [] ∷ (1 ∷ 2 ∷ []) ∷ []) ≡ 1 ∷ 2 ∷ 3 ∷ 4 ∷ []
  pub each : Each (λ (n : ℕ). n ≤ 2) (2 ∷ 1 ∷ [])
