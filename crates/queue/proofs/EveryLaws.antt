-- What the calls of every queue mean, by place. Assumes nothing.
use Prim.Native.Nat.{ℕ, zero, suc, ◌+◌, ◌-◌, ◌≤◌, ◌<◌}
use mathlib.Core.Path.{◌≡◌, refl, ap, sym, subst, ◌∙◌}
use mathlib.Core.Logic.{⊎_elim}
use mathlib.Core.Bool.{Bool, true, false}
use mathlib.Core.List.{List, [], ◌∷◌, ◌++◌}
use native.Mathlib.Omega.{arith}
use borrow.Author.Tests.{le-leb}
use lib.ListN.{length, get_or, set, drop, replicate, length-append, length-replicate}
use lib.Seq.{get_or-drop}
use Rattle.defs.specs.Choice.{when}
use Rattle.defs.specs.Answer.{told, is_done, Answer, done}
use Rattle.defs.specs.Ladder.{door_of, record_answer}
use Rattle.defs.specs.Promises.{Exactly, Refuses}
use Rattle.defs.specs.declared.answer.Refusal.TheVariants.{NotQueued}
use Rattle.defs.proofs.Basics.{both, never, true_or_false}
use Rattle.defs.proofs.AnswerLaws.{is_done_lem, done_passes, number_zero, when_done_lem, when_not_done, left_kept}
use Rattle.defs.proofs.ChoiceLaws.{when_true, when_false, when_holds}
use Rattle.defs.proofs.LookLaws.{flag_done, len_done}
use Rattle.defs.proofs.MeansLaws.{in_words, equal_means}
use Rattle.queue.specs.Queue.{Queue, Kind, Lawful, all, padded, clear_q, sound_q, items, pack, holding, front_gone}
use Rattle.queue.specs.Queued.{QueuedLeft, ListLeft, leaves, push_list, made_of, new_of, laid, push_of}
use Rattle.queue.specs.Look.{PeekLeft, peek_list, peek_of}
use Rattle.queue.specs.Pop.{PopLeft, pop_list, pop_of}
use Rattle.queue.specs.Promises.{RefusalKeeps}
use Rattle.queue.specs.Means.{place_of, Sound as SoundIn, SoundMeans, Given, EmptyOf, LooksMean, Room, Appends, Replaces, Unsyncs, PushBackMeans, PeekMeans, PopMeans}
use Rattle.queue.proofs.AnswerLaws.{room_of, no_room}
use Rattle.queue.proofs.QueueLaws.{Sound, parts, sound_says, packed, synced_anew, sound_packed, appended, replaced}
use Rattle.std.specs.Prelude.{Err}

-- ---- places past the items

get_d_none : {A : Type 0} (n : ℕ) (d : A) → get_or [] n d ≡ d
get_d_none zero d = refl
get_d_none (suc n) d = refl

get_d_replicate : {A : Type 0} (m n : ℕ) (d : A) → get_or (replicate m d) n d ≡ d
get_d_replicate zero n d = get_d_none n d
get_d_replicate (suc m) zero d = refl
get_d_replicate (suc m) (suc n) d = get_d_replicate m n d

-- a list with zero items behind it has the list's places
get_d_padded : {A : Type 0} (N : ℕ) (z : A) (l : List A) (n : ℕ) → get_or (padded N z l) n z ≡ get_or l n z
get_d_padded N z l n = by l n (N - length l)
  where
    by : (l : List _) (n m : ℕ) → get_or (l ++ replicate m z) n z ≡ get_or l n z
    by [] n m = get_d_replicate m n z ∙ sym (get_d_none n z)
    by (x ∷ l) zero m = refl
    by (x ∷ l) (suc n) m = by l n m

padded_length : {A : Type 0} (N : ℕ) (z : A) (l : List A) → length l ≤ N → length (padded N z l) ≡ N
padded_length N z l h = omega (arith, length-append l (replicate (N - length l) z), length-replicate (N - length l) z)

-- ---- soundness

module _ {A : Type 0} (test : A → Bool) (z : A) (passes : test z ≡ true) (alone : (x : A) → test x ≡ true → x ≡ z) where
  all_each : (l : List A) → all test l ≡ true → (n : ℕ) → get_or l n z ≡ z
  unfolding all
  all_each [] e n = get_d_none n z
  all_each (x ∷ l) e zero = alone x (both (test x) (all test l) e).0
  all_each (x ∷ l) e (suc n) = all_each l (both (test x) (all test l) e).1 n

  each_all : (l : List A) → ((n : ℕ) → get_or l n z ≡ z) → all test l ≡ true
  unfolding all
  each_all [] h = refl
  each_all (x ∷ l) h = rw (ap test (h 0) ∙ passes) (each_all l (λ n. h (suc n)))

module _ {Q A : Type 0} (k : Kind Q A) where
  pub sound_means : k.is_zero k.zero_item ≡ true → ((x : A) → k.is_zero x ≡ true → x ≡ k.zero_item) → (least most : ℕ)
      → ((limit : ℕ) → Exactly (k.is_limit limit ≡ true) ((least ≤ limit) × (limit ≤ most))) → SoundMeans k (SoundIn k least most)
  unfolding sound_q clear_q
  sound_means passes alone least most range q = (
    λ e.
        let p = parts k q e in
        let r = (range (k.seen q).limit).0 p.0 in (
          r.0,
          r.1,
          p.1,
          λ n h.
              ap (place_of k q) (let m : n ≡ (k.seen q).len + (n - (k.seen q).len) = omega arith in m)
              ∙ sym (get_or-drop (k.seen q).len (k.seen q).places (n - (k.seen q).len) k.zero_item)
              ∙ all_each k.is_zero k.zero_item passes alone (drop (k.seen q).len (k.seen q).places) p.2 (n - (k.seen q).len),
        ),
    λ p.
        rw ((range (k.seen q).limit).1 (p.0, p.1), le-leb (k.seen q).len (k.seen q).limit p.2)
        (each_all k.is_zero k.zero_item passes alone (drop (k.seen q).len (k.seen q).places)
        (λ n. get_or-drop (k.seen q).len (k.seen q).places n k.zero_item ∙ p.3 ((k.seen q).len + n) (omega arith))),
  )

module _ {Q A : Type 0} (k : Kind Q A) (w : Lawful k) where
  empty_of : (limit : ℕ) (q : Q) → q ≡ pack k [] limit true → EmptyOf k limit q
  empty_of limit q e =
      let s : k.seen q ≡ record { places = padded k.size k.zero_item []; len = 0; limit = limit; synced = true } = ap k.seen e ∙ packed k w [] limit true in
      record {
        places = (
          ap (λ (r : Queue A). length r.places) s ∙ length-replicate (k.size - 0) k.zero_item ∙ (let z : k.size - 0 ≡ k.size = omega arith in z),
          λ n. ap (λ (r : Queue A). get_or r.places n k.zero_item) s ∙ get_d_padded k.size k.zero_item [] n ∙ get_d_none n k.zero_item,
        );
        len = ap (λ (r : Queue A). r.len) s;
        limit = ap (λ (r : Queue A). r.limit) s;
        synced = ap (λ (r : Queue A). r.synced) s;
      }

  -- ---- what is made, and what is refused

  pub made_is : (a : Answer) (made : Q) (left : QueuedLeft Q) → left ≡ made_of k a made → left.answer.number ≡ 0 → left.queue ≡ made
  unfolding made_of
  made_is a made left e n =
      ap (λ (o : QueuedLeft Q). o.queue) e ∙ when_done_lem a made _ (number_zero a (ap (λ (o : QueuedLeft Q). o.answer.number) (sym e) ∙ n))

  pub refused_empty : (a : Answer) (made : Q) (left : QueuedLeft Q) → left ≡ made_of k a made → Refuses left.answer → EmptyOf k 0 left.queue
  unfolding made_of
  refused_empty a made left e r =
      empty_of 0 left.queue
      (ap (λ (o : QueuedLeft Q). o.queue) e
      ∙ when_not_done a made _ (refused_not_done a (subst (λ (o : QueuedLeft Q). Refuses o.answer) e r)))
    where
      refused_not_done : (a : Answer) → Refuses (told a) → is_done a ≡ false
      refused_not_done a r =
          ⊎_elim (λ (t : is_done a ≡ true). absurd (done_passes (subst (λ (x : Answer). Refuses (told x)) (is_done_lem a t) r))) (λ (t : is_done a ≡ false). t) (true_or_false (is_done a))

  pub new_empty : (limit : ℕ) (left : QueuedLeft Q) → left ≡ new_of k limit → left.answer.number ≡ 0 → EmptyOf k limit left.queue
  unfolding new_of
  new_empty limit left e n = empty_of limit left.queue (made_is _ _ left e n)

  -- ---- calls on a sound queue

  module _ (q : Q) (g : Given k q) where
    s : Sound k q
    s = sound_says k w q g.0 g.1

    -- a place holds its item, or the zero item past the last
    place_is : (n : ℕ) → place_of k q n ≡ get_or (items k q) n k.zero_item
    place_is n = ap (λ (l : List A). get_or l n k.zero_item) s.cleared ∙ get_d_padded k.size k.zero_item (items k q) n

    pub passed : record_answer (sound_q k q) ≡ done
    unfolding record_answer door_of when
    passed = ap record_answer g.1

    -- its looks

    pub looks_mean : LooksMean k q
    looks_mean = record {
      synced = λ o says n. flag_done _ _ o says n;
      empty = λ o says n. in_words (rw (flag_done _ _ o says n) (equal_means (length (items k q)) 0)) (λ e. sym s.held ∙ e, λ e. s.held ∙ e);
      full = λ o says n.
          in_words (rw (flag_done _ _ o says n) (equal_means (length (items k q)) (k.seen q).limit)) (λ e. sym s.held ∙ e, λ e. s.held ∙ e);
      len = λ o says n. len_done _ _ o says n ∙ s.held;
    }

    -- its front

    peek_by : (l : List A) → items k q ≡ l → PeekMeans k q (peek_list k l)
    unfolding peek_list
    peek_by [] e = record {
      answer = refl;
      found = (λ f. absurd (never f), λ h. absurd (let z = ap length e in omega (arith, s.held)));
      item = sym (place_is 0 ∙ ap (λ (l : List A). get_or l 0 k.zero_item) e);
    }
    peek_by (x ∷ l) e = record {
      answer = refl;
      found = (λ f. (let z = ap length e in omega (arith, s.held)), λ h. refl);
      item = sym (place_is 0 ∙ ap (λ (l : List A). get_or l 0 k.zero_item) e);
    }

    pub peek_means : (left : PeekLeft A) → left ≡ peek_of k q → PeekMeans k q left
    unfolding peek_of
    peek_means left e = subst (PeekMeans k q) (sym (e ∙ when_done_lem _ _ _ passed)) (peek_by (items k q) refl)

    -- its front taken

    module _ {G : Type 0} (nothing : G) (due : A → Bool) (give : A → G) (Due : A → Type 0) (says : (x : A) → Exactly (due x ≡ true) (Due x)) where
      idle_means : ((1 ≤ (k.seen q).len) × Due (place_of k q 0) → ⊥) → PopMeans k Due give nothing q (record { answer = told done; found = false; given = nothing; queue = q })
      idle_means n = record {
        answer = refl;
        found = (λ f. absurd (never f), λ h. absurd (n h));
        given = λ f. absurd (never f);
        moved = λ f m. absurd (never f);
        shorter = λ f. absurd (never f);
        size = λ f. absurd (never f);
        limit = refl;
        synced = refl;
        idle = λ f. (refl, refl);
      }

      front_means : (x : A) (l : List A) → items k q ≡ x ∷ l → Due x → PopMeans k Due give nothing q (record { answer = told done; found = true; given = give x; queue = front_gone k q })
      front_means x l e d =
          let front : x ≡ place_of k q 0 = sym (place_is 0 ∙ ap (λ (l : List A). get_or l 0 k.zero_item) e) in
          let len : suc (length l) ≡ (k.seen q).len = sym (ap length e) ∙ s.held in
          let rest : List A = drop 1 (items k q) in
          let seen : k.seen (front_gone k q) ≡ record { places = padded k.size k.zero_item rest; len = length rest; limit = (k.seen q).limit; synced = (k.seen q).synced } =
          packed k w rest _ _ in
          let n : length rest ≡ length l = ap (λ (m : List A). length (drop 1 m)) e in
          record {
            answer = refl;
            found = (λ f. ((let z = len in omega arith), subst Due front d), λ h. refl);
            given = λ f. ap give front;
            moved =
                λ f m.
                ap (λ (r : Queue A). get_or r.places m k.zero_item) seen
                ∙ get_d_padded k.size k.zero_item rest m
                ∙ get_or-drop 1 (items k q) m k.zero_item
                ∙ ap (λ (i : ℕ). get_or (items k q) i k.zero_item) (let z : 1 + m ≡ m + 1 = omega arith in z)
                ∙ sym (place_is (m + 1));
            shorter = λ f. ap (λ (r : Queue A). r.len + 1) seen ∙ (let z : length rest + 1 ≡ (k.seen q).len = omega (arith, n, len) in z);
            size = λ f. ap (λ (r : Queue A). length r.places) seen ∙ padded_length k.size k.zero_item rest (omega (arith, n, len, s.within, s.most));
            limit = ap (λ (r : Queue A). r.limit) seen;
            synced = ap (λ (r : Queue A). r.synced) seen;
            idle = λ f. absurd (never (sym f));
          }

      pop_by : (l : List A) → items k q ≡ l → PopMeans k Due give nothing q (pop_list k nothing due give q l)
      unfolding pop_list
      pop_by [] e = idle_means (λ h. absurd (let z = ap length e in let p = h.0 in omega (arith, s.held)))
      pop_by (x ∷ l) e =
          when_holds (λ (o : PopLeft G Q). PopMeans k Due give nothing q o) (due x) _ _
          (λ t. front_means x l e ((says x).0 t))
          (λ t.
          idle_means
          (λ h. never (sym t ∙ (says x).1 (subst Due (place_is 0 ∙ ap (λ (l : List A). get_or l 0 k.zero_item) e) h.1))))

      pub pop_means : (left : PopLeft G Q) → left ≡ pop_of k nothing due give done q → PopMeans k Due give nothing q left
      unfolding pop_of
      pop_means left e = subst (PopMeans k Due give nothing q) (sym (e ∙ when_done_lem _ _ _ refl)) (pop_by (items k q) refl)

    -- one item more

    module _ (push : List A → ℕ → Bool → ListLeft A) (left : QueuedLeft Q) (e : left ≡ push_of k push q) where
      laid_means : (a : Answer) (l : List A) (synced : Bool) (next : Q) → push (items k q) (k.seen q).limit (k.seen q).synced ≡ leaves a l synced → next ≡ holding k q l synced
          → (left.answer.number ≡ (told a).number) × (left.queue ≡ next)
      unfolding push_of
      laid_means a l synced next f h =
          let o : left ≡ laid k q (leaves a l synced) = e ∙ when_done_lem _ _ _ passed ∙ ap (laid k q) f in
          (ap (λ (o : QueuedLeft Q). o.answer.number) o, ap (λ (o : QueuedLeft Q). o.queue) o ∙ sym h)

      pub push_appends : (x : A) → Room k q → push (items k q) (k.seen q).limit (k.seen q).synced ≡ leaves done (items k q ++ (x ∷ [])) (k.seen q).synced → Appends k q x left
      push_appends x r f = laid_means done _ _ _ f (appended q s x (k.seen q).synced (let h = r.1 in omega (arith, s.held, s.most)))

      pub push_replaces : (n : ℕ) (x : A) → n < (k.seen q).len → push (items k q) (k.seen q).limit (k.seen q).synced ≡ leaves done (set (items k q) n x) false → Replaces k q n x left
      push_replaces n x h f = laid_means done _ _ _ f (replaced q s n x false h)

      pub push_unsyncs : push (items k q) (k.seen q).limit (k.seen q).synced ≡ leaves (Err NotQueued) (items k q) false → Unsyncs k q left
      push_unsyncs f = laid_means (Err NotQueued) _ _ _ f (synced_anew k w q false s)

      pub push_stays : push (items k q) (k.seen q).limit (k.seen q).synced ≡ leaves (Err NotQueued) (items k q) (k.seen q).synced → (left.answer.number ≡ 11) × (left.queue ≡ q)
      push_stays f = laid_means (Err NotQueued) _ _ _ f (sound_packed k w q s)

    pub push_back_means : (x : A) (left : QueuedLeft Q) → left ≡ push_of k (push_list x) q → PushBackMeans k x q left
    unfolding push_list
    push_back_means x left e = record {
      room = λ r. push_appends (push_list x) left e x r (when_true _ _ _ ((room_of k q).1 r));
      no_room = λ n. push_unsyncs (push_list x) left e (when_false _ _ _ (no_room k q n));
    }

-- ---- refusals

module _ {Q A : Type 0} (k : Kind Q A) (q : Q) where
  push_refused : (push : List A → ℕ → Bool → ListLeft A) (left : QueuedLeft Q) → left ≡ push_of k push q
      → (Refuses (told (push (items k q) (k.seen q).limit (k.seen q).synced).answer) → ⊥) → Refuses left.answer → left.queue ≡ q
  unfolding push_of
  push_refused push left e n r = ap (λ (o : QueuedLeft Q). o.queue) (left_kept (λ (o : QueuedLeft Q). o.answer) _ _ _ left n e r)

  -- a call that looks at the list is done
  looks : (l : List A) → (peek_list k l).answer ≡ told done
  unfolding peek_list
  looks [] = refl
  looks (x ∷ l) = refl

  takes : {G : Type 0} (nothing : G) (due : A → Bool) (give : A → G) (l : List A) → (pop_list k nothing due give q l).answer ≡ told done
  unfolding pop_list
  takes nothing due give [] = refl
  takes {G = G} nothing due give (x ∷ l) = when_holds (λ (o : PopLeft G Q). o.answer ≡ told done) (due x) _ _ (λ t. refl) (λ t. refl)

  peek_refused : (left : PeekLeft A) → left ≡ peek_of k q → Refuses left.answer → (left.found ≡ false) × (left.item ≡ k.zero_item)
  unfolding peek_of
  peek_refused left e r =
      let f = left_kept (λ (o : PeekLeft A). o.answer) _ _ _ left (λ x. done_passes (subst Refuses (looks (items k q)) x)) e r in
      (ap (λ (o : PeekLeft A). o.found) f, ap (λ (o : PeekLeft A). o.item) f)

  pop_refused : {G : Type 0} (nothing : G) (due : A → Bool) (give : A → G) (a : Answer) (left : PopLeft G Q) → left ≡ pop_of k nothing due give a q → Refuses left.answer
      → (left.queue ≡ q) × (left.found ≡ false) × (left.given ≡ nothing)
  unfolding pop_of
  pop_refused {G = G} nothing due give a left e r =
      let f = left_kept (λ (o : PopLeft G Q). o.answer) _ _ _ left (λ x. done_passes (subst Refuses (takes nothing due give (items k q)) x)) e r in
      (ap (λ (o : PopLeft G Q). o.queue) f, ap (λ (o : PopLeft G Q). o.found) f, ap (λ (o : PopLeft G Q). o.given) f)

  pub refusals_keep : RefusalKeeps k q
  refusals_keep = record { push = push_refused; peek = peek_refused; pop = λ G. pop_refused }
