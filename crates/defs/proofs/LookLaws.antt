-- Laws of the calls that only look: where a call is refused nothing is told, where it is done what is known then. Assumes nothing.
use Rattle.std.proofs.Common.{◌≡◌, ℕ, Bool, true, false, sym, refl, ap, ◌∙◌}
use Rattle.defs.specs.Answer.{Told, Answer, told, done, when_done}
use Rattle.defs.specs.Ladder.{record_answer}
use Rattle.defs.specs.Look.{FlagLeft, flag_seen, flag_of, LenLeft, len_seen, len_of}
use Rattle.defs.specs.Promises.{RefusedTellsNothing}
use Rattle.defs.specs.declared.answer.Refusal.{Refusal}
use Rattle.std.specs.Prelude.{Result, Ok}
use Rattle.std.specs.Result.{result_and}
use Rattle.defs.proofs.AnswerLaws.{result_left, seen_apart, number_zero, when_done_lem, when_refused, when_done_alike}
use Rattle.defs.proofs.LadderLaws.{record_passed}

-- ---- what is told where it isn't done, and where it is

pub refused_tells_nothing : RefusedTellsNothing
unfolding flag_of len_of
refused_tells_nothing = record {
  flag = λ a value left says n. ap (λ (l : FlagLeft). l.holds) says ∙ when_refused a value false (λ z. n (ap (λ (l : FlagLeft). l.answer.number) says ∙ z));
  len = λ a value left says n. ap (λ (l : LenLeft). l.len) says ∙ when_refused a value 0 (λ z. n (ap (λ (l : LenLeft). l.answer.number) says ∙ z));
}

pub flag_done : (a : Answer) (value : Bool) (left : FlagLeft) → left ≡ flag_of a value → left.answer.number ≡ 0 → left.holds ≡ value
unfolding flag_of
flag_done a value left says n =
    ap (λ (l : FlagLeft). l.holds) says ∙ when_done_lem a value false (number_zero a (ap (λ (l : FlagLeft). l.answer.number) (sym says) ∙ n))

pub len_done : (a : Answer) (value : ℕ) (left : LenLeft) → left ≡ len_of a value → left.answer.number ≡ 0 → left.len ≡ value
unfolding len_of
len_done a value left says n =
    ap (λ (l : LenLeft). l.len) says ∙ when_done_lem a value 0 (number_zero a (ap (λ (l : LenLeft). l.answer.number) (sym says) ∙ n))

-- ---- a result: what is seen of it is what the statement says, and tells it from any other

pub flag_said : (a : Answer) (value : Bool) (r : Result Bool Refusal) → r ≡ result_and a (Ok value) → flag_seen r ≡ flag_of a value
unfolding flag_of
flag_said a value r e = result_left (λ t x. record { answer = t; holds = x }) false value a a r e refl

pub flag_apart : (r s : Result Bool Refusal) → flag_seen r ≡ flag_seen s → r ≡ s
flag_apart r s e = seen_apart false r s (ap (λ (l : FlagLeft). l.answer) e) (ap (λ (l : FlagLeft). l.holds) e)

pub len_said : (a : Answer) (value : ℕ) (r : Result ℕ Refusal) → r ≡ result_and a (Ok value) → len_seen r ≡ len_of a value
unfolding len_of
len_said a value r e = result_left (λ t x. record { answer = t; len = x }) 0 value a a r e refl

pub len_apart : (r s : Result ℕ Refusal) → len_seen r ≡ len_seen s → r ≡ s
len_apart r s e = seen_apart 0 r s (ap (λ (l : LenLeft). l.answer) e) (ap (λ (l : LenLeft). l.len) e)

-- ---- two that tell alike

told_alike : {A Out : Type 0} (make : Told → A → Out) (none : A) (left : Out) (a b : Answer) (x y : A) → left ≡ make (told a) (when_done a x none) → a ≡ b
    → (b ≡ done → x ≡ y) → left ≡ make (told b) (when_done b y none)
told_alike make none left a b x y e f alike =
    e ∙ ap (λ (c : Answer). make (told c) (when_done c x none)) f ∙ ap (make (told b)) (when_done_alike b x y none alike)

pub flag_told : (left : FlagLeft) (a b : Answer) (x y : Bool) → left ≡ flag_of a x → a ≡ b → (b ≡ done → x ≡ y) → left ≡ flag_of b y
unfolding flag_of
flag_told left a b x y e f alike = told_alike (λ t v. record { answer = t; holds = v }) false left a b x y e f alike

pub len_told : (left : LenLeft) (a b : Answer) (x y : ℕ) → left ≡ len_of a x → a ≡ b → (b ≡ done → x ≡ y) → left ≡ len_of b y
unfolding len_of
len_told left a b x y e f alike = told_alike (λ t v. record { answer = t; len = v }) 0 left a b x y e f alike

-- ---- of a call that tests nothing but its record

pub record_flag_told : (left : FlagLeft) (a : Answer) (t sound x y : Bool) → left ≡ flag_of a x → a ≡ record_answer t → t ≡ sound → (sound ≡ true → x ≡ y)
    → left ≡ flag_of (record_answer sound) y
record_flag_told left a t sound x y e f g alike = flag_told left a _ x y e (f ∙ ap record_answer g) (λ d. alike (record_passed _ sound refl d))

pub record_len_told : (left : LenLeft) (a : Answer) (t sound : Bool) (x y : ℕ) → left ≡ len_of a x → a ≡ record_answer t → t ≡ sound → (sound ≡ true → x ≡ y)
    → left ≡ len_of (record_answer sound) y
record_len_told left a t sound x y e f g alike = len_told left a _ x y e (f ∙ ap record_answer g) (λ d. alike (record_passed _ sound refl d))
