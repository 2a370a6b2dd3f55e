-- What a turn says, said a second time (01, `recv_pkt`): a list that is walked from the front, apart from the steps that the code follows. Assumes nothing.
use Rattle.std.specs.Prelude.{ℕ, suc, ◌≡◌, ◌⊎◌, Bool, true, false, not, ◌&&◌, ◌||◌, List, [], ◌∷◌, eqb}
use Rattle.defs.specs.Choice.{when}
use Rattle.defs.specs.Answer.{Told, told}
use Rattle.defs.specs.Stream.{counted}
use Rattle.defs.specs.declared.stream.StreamAnswer.{StreamAnswer}
use Rattle.defs.specs.declared.stream.StreamAnswer.TheVariants.{Count, WouldBlock, Failed}
use Rattle.packet.specs.Uapi.{op_request, op_response, op_rst, op_shutdown, op_rw, op_credit_update, op_credit_request}
use Rattle.csm.specs.Pending.{none, reset_only, left_of}
use Rattle.csm.specs.Means.{serves_data}
use Rattle.csm.specs.Turn.{turn_step}
use Rattle.csm.specs.Row.{row_of, afterwards, armed}
use Rattle.csm.specs.declared.pending.PendingRxSet.{PendingRxSet}
use Rattle.csm.specs.declared.row.Row.{Row}
use Rattle.csm.specs.declared.state.ConnState.{ConnState}
use Rattle.csm.specs.declared.state.ConnState.TheVariants.{Established, LocalClosed}
use Rattle.csm.specs.Timer.{Timer}

-- the three answers to a read, and the end of the stream among them
abbrev pub brings : StreamAnswer → Bool
brings (Count n) = not (eqb n 0)
brings WouldBlock = false
brings Failed = false

abbrev pub ends : StreamAnswer → Bool
ends (Count n) = eqb n 0
ends WouldBlock = false
ends Failed = false

abbrev pub fails : StreamAnswer → Bool
fails (Count n) = false
fails WouldBlock = false
fails Failed = true

abbrev pub waits : StreamAnswer → Bool
waits (Count n) = false
waits WouldBlock = true
waits Failed = false

-- what a turn goes by, and what the timer would be set to for a request and for a shutdown
pub record Turn : Type 0 where
  pub pending : PendingRxSet
  pub state : ConnState
  pub no_credit : Bool
  pub present : Bool
  pub answer : StreamAnswer
  pub expiry : Timer
  pub wait : Timer
  pub linger : Timer

-- 01's order: what may be said, whether it is due, and the op that says it. Without a buffer nothing is said (answer 8); a would-block falls through
abbrev pub order : Turn → List (Bool × ℕ)
order t =
    (t.pending.rst, op_rst)
    ∷ (t.pending.response, op_response)
    ∷ (t.pending.request, op_request)
    ∷ (t.pending.rw && not (serves_data t.state), op_rst)
    ∷ (t.pending.rw && t.no_credit, op_credit_request)
    ∷ (t.pending.rw && not t.present, 0)
    ∷ (t.pending.rw && brings t.answer, op_rw)
    ∷ (t.pending.rw && ends t.answer, op_shutdown)
    ∷ (t.pending.rw && fails t.answer, op_rst)
    ∷ (t.pending.credit_update, op_credit_update)
    ∷ []

-- the op of the first that is due; 0 where none is (answer 7)
abbrev pub first_due : List (Bool × ℕ) → ℕ
first_due [] = 0
first_due (r ∷ rows) = when r.0 r.1 (first_due rows)

abbrev pub op_due : Turn → ℕ
op_due t = first_due (order t)

-- the place of the first indication that is pending, of Rst, Response, Request, Rw, CreditUpdate
abbrev pub first_place : List Bool → ℕ
first_place [] = 0
first_place (b ∷ l) = when b 0 (suc (first_place l))

abbrev pub place_of : PendingRxSet → ℕ
place_of p = first_place (p.rst ∷ p.response ∷ p.request ∷ p.rw ∷ p.credit_update ∷ [])

-- the stream is read, credit and buffer permitting
abbrev pub reads_now : Turn → Bool
reads_now t = eqb (place_of t.pending) 3 && serves_data t.state && not t.no_credit && t.present

-- the indication at a place is used: it is the first, or the update behind an Rw that would block
abbrev pub used : Turn → ℕ → Bool
used t place = eqb (place_of t.pending) place || (reads_now t && waits t.answer && eqb place 4)

-- what was pending less what was used
abbrev pub less_used : Turn → PendingRxSet
less_used t = record {
  request = t.pending.request && not (used t 2);
  response = t.pending.response && not (used t 1);
  rst = t.pending.rst && not (used t 0);
  rw = t.pending.rw && not (used t 3);
  credit_update = t.pending.credit_update && not (used t 4);
}

-- 01: last-told is updated on credit request, data, shutdown, read failure and credit update only
abbrev pub tells_now : Turn → Bool
tells_now t =
    eqb (op_due t) op_credit_request || eqb (op_due t) op_rw || eqb (op_due t) op_shutdown || eqb (op_due t) op_credit_update || (reads_now t && fails t.answer)

-- what a turn comes to: op, len and flags of its header, what is left pending, whether our count is told, state and timer
pub record Said : Type 0 where
  pub op : ℕ
  pub len : ℕ
  pub flags : ℕ
  pub pending : PendingRxSet
  pub tells : Bool
  pub state : ConnState
  pub expiry : Timer

-- in 01's words: data has its count as len, SHUTDOWN flags 3; RESPONSE makes it Established, SHUTDOWN LocalClosed; REQUEST sets the request timer,
-- SHUTDOWN the shutdown timer
abbrev pub said_now : Turn → Said
said_now t = record {
  op = op_due t;
  len = when (eqb (op_due t) op_rw) (counted t.answer) 0;
  flags = when (eqb (op_due t) op_shutdown) 3 0;
  pending = less_used t;
  tells = tells_now t;
  state = when (eqb (op_due t) op_response) Established (when (eqb (op_due t) op_shutdown) LocalClosed t.state);
  expiry = when (eqb (op_due t) op_request) t.wait (when (eqb (op_due t) op_shutdown) t.linger t.expiry);
}

-- by the row of the turn's step, as the code goes
abbrev pub said_by : Turn → Said
said_by t =
    let row : Row = row_of (turn_step t.pending t.state t.no_credit t.present t.answer) in
    record {
      op = row.op;
      len = row.count;
      flags = row.flags;
      pending = left_of t.pending row.ends;
      tells = row.tells;
      state = afterwards row.after t.state;
      expiry = armed row.arms t.expiry t.wait t.linger;
    }

-- 01's order, and what each thing said leaves
abbrev pub SaysFirstPending : Type 0
SaysFirstPending = (t : Turn) → said_by t ≡ said_now t

-- a turn's answer, by the row of its step, and its number
abbrev pub answer_of : Turn → Told
answer_of t = told (row_of (turn_step t.pending t.state t.no_credit t.present t.answer)).answer

abbrev pub number_of : Turn → ℕ
number_of t = (answer_of t).number

-- the same indications without Rw
abbrev pub rw_gone : PendingRxSet → PendingRxSet
rw_gone p = record { request = p.request; response = p.response; rst = p.rst; rw = false; credit_update = p.credit_update }

-- 01's table, 7 and 8, "leaves": after 7 nothing is pending, after 8 Rw is gone and all else stays; op, len and flags are 0
pub record SevenAndEightLeave (t : Turn) : Type 0 where
  pub seven : number_of t ≡ 7 → (said_by t).pending ≡ none
  pub eight : number_of t ≡ 8 → (said_by t).pending ≡ rw_gone t.pending
  pub blank : (number_of t ≡ 0 → ⊥) → ((said_by t).op ≡ 0) × ((said_by t).len ≡ 0) × ((said_by t).flags ≡ 0)

abbrev pub SevenAndEightAlwaysLeave : Type 0
SevenAndEightAlwaysLeave = (t : Turn) → SevenAndEightLeave t

-- 2026-07: where only the reset is pending a turn says RST, whatever the state, moves neither state nor timer, and leaves nothing pending
abbrev pub ResetIsSaidAlone : Type 0
ResetIsSaidAlone =
    (t : Turn) → t.pending ≡ reset_only
    → said_by t ≡ record { op = op_rst; len = 0; flags = 0; pending = none; tells = false; state = t.state; expiry = t.expiry }

-- ---- the same as facts about what is first

-- Rw is the first that is pending, in a state that serves data
abbrev pub DataFirst : Turn → Type 0
DataFirst t = (t.pending.rst ≡ false) × (t.pending.response ≡ false) × (t.pending.request ≡ false) × (t.pending.rw ≡ true) × (serves_data t.state ≡ true)

-- its read is made: credit isn't 0, and there is a buffer
abbrev pub Reads : Turn → Type 0
Reads t = DataFirst t × (t.no_credit ≡ false) × (t.present ≡ true)

-- nothing comes before CreditUpdate: no Rst, Response or Request, and no Rw, or one whose read, credit and buffer permitting, would block
abbrev pub UpdateNext : Turn → Type 0
UpdateNext t =
    (t.pending.rst ≡ false) × (t.pending.response ≡ false) × (t.pending.request ≡ false) × ((t.pending.rw ≡ false) ⊎ (Reads t × (t.answer ≡ WouldBlock)))

-- 01, answer 7: nothing to say
abbrev pub NothingToSay : Turn → Type 0
NothingToSay t = UpdateNext t × (t.pending.credit_update ≡ false)

-- 01, answer 8: data due, credit not 0, no buffer
abbrev pub BufferMissing : Turn → Type 0
BufferMissing t = DataFirst t × (t.no_credit ≡ false) × (t.present ≡ false)

-- 01: a credit request; data, a shutdown or a read failure, which are the reads that do not block; or a credit update
abbrev pub TellsOurCount : Turn → Type 0
TellsOurCount t =
    (DataFirst t × (t.no_credit ≡ true)) ⊎ (Reads t × (t.answer ≡ WouldBlock → ⊥)) ⊎ (UpdateNext t × (t.pending.credit_update ≡ true))
