-- What is said a second time in specs/Outcomes follows from the statements of the calls. Assumes nothing.
use Prim.Native.Nat.{ℕ, zero, suc, ◌+◌, ◌-◌, ◌≤◌, ◌<◌}
use mathlib.Core.Path.{◌≡◌, refl, ap, sym, subst, ◌∙◌}
use mathlib.Core.Logic.{⊎_elim}
use mathlib.Core.Bool.{Bool, true, false}
use mathlib.Core.List.{List, [], ◌∷◌}
use native.Mathlib.Nat.{eq-zero-or-pos, le_of_suc-le-suc}
use native.Mathlib.Numerals.{add-one}
use native.Mathlib.Omega.{arith}
use borrow.Author.Tests.{leb-false, lt-leb, eqb-true, eqb-false, eq-eqb, ne_eqb}
use lib.Dec.{leb, eqb}
use lib.ListN.{length, get_or, take, set}
use Rattle.defs.specs.Choice.{when}
use Rattle.defs.specs.Answer.{told, Answer, done}
use Rattle.defs.specs.Promises.{Refuses}
use Rattle.defs.specs.declared.answer.Refusal.TheVariants.{NotQueued}
use Rattle.defs.proofs.Basics.{never, lt_or_ge, positive}
use Rattle.defs.proofs.AnswerLaws.{done_passes}
use Rattle.defs.proofs.ChoiceLaws.{when_true, when_false, when_holds}
use Rattle.conn_map.specs.Key.{key_of}
use Rattle.conn_map.specs.Table.{used_at, slots_of}
use Rattle.conn_map.specs.Order.{count_below, among_first, SmallerOf}
use Rattle.conn_map.proofs.OrderLaws.{listed, listed_length, listed_in_order, listed_first, take_smaller, gathered_listed, by_list}
use Rattle.queue.specs.Queued.{ListLeft, leaves, new_of}
use Rattle.queue.specs.Pop.{pop_of}
use Rattle.queue.proofs.QueueLaws.{queue_is_its_list, sound_says}
use Rattle.queue.proofs.AnswerLaws as answers
use Rattle.queue.proofs.EveryLaws as every
use Rattle.muxer_rxq.specs.Item.{zero_item}
use Rattle.muxer_rxq.specs.Queue.{rxq, items, pack, MuxerRxQ}
use Rattle.muxer_rxq.specs.Push.{last_conn, evict_list, push_list}
use Rattle.muxer_rxq.specs.Build.{pending_of, built_from, BuildIn, build_of}
use Rattle.muxer_rxq.specs.Outcomes.{RefusalsChangeNothing, RefusedIsEmpty, EveryNewIsEmpty, pends_at, conn_at, BuiltMeans, BuiltHolds, RearmostAt, AllRsts, EveryLastConnMeans, EveryPushMeans, EveryPeekMeans, EveryPopMeans}
use Rattle.muxer_rxq.specs.declared.rxq.MuxerRx.{MuxerRx}
use Rattle.muxer_rxq.proofs.QueueLaws.{lawful}
use Rattle.std.specs.Prelude.{Err}

-- ---- refusals

not_refusing : (rx : MuxerRx) (l : List MuxerRx) (limit : ℕ) (synced : Bool) → Refuses (told (push_list rx l limit synced).answer) → ⊥
unfolding push_list evict_list
not_refusing rx l limit synced =
    let Keeps : ListLeft MuxerRx → Type 0 = λ (o : ListLeft MuxerRx). Refuses (told o.answer) → ⊥ in
    when_holds Keeps _ _ _
    (λ t. done_passes)
    (λ t. when_holds Keeps _ _ _ (λ r. when_holds Keeps _ _ _ (λ n. turned) (λ n. done_passes)) (λ r. turned))
  where
    turned : Refuses (told (Err NotQueued)) → ⊥
    turned r = omega (arith, r.1)

pub refusals_change_nothing : RefusalsChangeNothing
refusals_change_nothing = record {
  push = λ i o e r. (every.refusals_keep rxq i.queue).push (push_list i.rx) o e (not_refusing i.rx _ _ _) r;
  pop = λ q o e r. (every.refusals_keep rxq q).pop _ _ _ _ _ o e r;
  peek = λ q o e r. (every.refusals_keep rxq q).peek o e r;
}

pub refused_is_empty : RefusedIsEmpty
unfolding new_of build_of
refused_is_empty = record { new = λ limit o e r. every.refused_empty rxq lawful _ _ o e r; from_conn_map = λ i o e r. every.refused_empty rxq lawful _ _ o e r }

pub every_new_is_empty : EveryNewIsEmpty
every_new_is_empty limit o e d = every.new_empty rxq lawful limit o e d

-- ---- a build

module _ (i : BuildIn) where
  abbrev pending : List MuxerRx
  pending = listed (pends_at i) (conn_at i) (length i.ports)

  gathers : pending_of (slots_of i.ports i.used i.pending) ≡ pending
  unfolding used_at key_of
  gathers = gathered_listed _ _ i.ports i.used i.pending

  built_is : built_from i.limit (slots_of i.ports i.used i.pending) ≡ pack (take i.limit pending) i.limit (leb (length pending) i.limit)
  unfolding built_from
  built_is = ap (λ (l : List MuxerRx). pack (take i.limit l) i.limit (leb (length l) i.limit)) gathers

  built_means : (q : MuxerRxQ) → q ≡ built_from i.limit (slots_of i.ports i.used i.pending) → BuiltMeans i q
  built_means q f =
      let e = f ∙ built_is in
      let n : length pending ≡ count_below (pends_at i) (length i.ports) = listed_length (pends_at i) (conn_at i) (length i.ports) in
      record {
        in_order =
            by_list
            (sym (ap items e ∙ (queue_is_its_list rxq lawful).packed_items (take i.limit pending) i.limit (leb (length pending) i.limit) ∙ listed_first (pends_at i) (conn_at i) i.limit (length i.ports)))
            (listed_in_order (among_first i.limit (pends_at i)) (conn_at i) zero_item (length i.ports));
        len =
            subst (λ (m : ℕ). SmallerOf m i.limit (count_below (pends_at i) (length i.ports))) (sym (ap (λ (q : MuxerRxQ). q.len) e))
            (take_smaller i.limit pending (count_below (pends_at i) (length i.ports)) n);
        limit = ap (λ (q : MuxerRxQ). q.limit) e;
        unsynced = (
          λ u. (let h = leb-false (length pending) i.limit (sym (ap (λ (q : MuxerRxQ). q.synced) e) ∙ u) in omega (arith, n)),
          λ h. ap (λ (q : MuxerRxQ). q.synced) e ∙ lt-leb (length pending) i.limit (omega (arith, n)),
        );
      }

pub built_holds : BuiltHolds
unfolding build_of
built_holds i o e d = built_means i o.queue (every.made_is rxq lawful _ _ o e d)

-- ---- the rearmost connection

-- one item more in front
cons_rsts : (x : MuxerRx) (l : List MuxerRx) → x.rst ≡ true → AllRsts l → AllRsts (x ∷ l)
cons_rsts x l e a zero h = e
cons_rsts x l e a (suc n) h = a n (le_of_suc-le-suc h)

cons_first : (x : MuxerRx) (l : List MuxerRx) → x.rst ≡ false → AllRsts l → RearmostAt (x ∷ l) 0
cons_first x l e a = (omega arith, e, λ n h k. behind n h k)
  where
    behind : (n : ℕ) → 0 < n → n < suc (length l) → (get_or (x ∷ l) n zero_item).rst ≡ true
    behind zero h k = absurd (omega arith)
    behind (suc n) h k = a n (le_of_suc-le-suc k)

cons_rearmost : (x : MuxerRx) (l : List MuxerRx) (n : ℕ) → RearmostAt l n → RearmostAt (x ∷ l) (suc n)
cons_rearmost x l n r = ((let h = r.0 in omega arith), r.1, λ m h k. behind m h k)
  where
    behind : (m : ℕ) → suc n < m → m < suc (length l) → (get_or (x ∷ l) m zero_item).rst ≡ true
    behind zero h k = absurd (omega arith)
    behind (suc m) h k = r.2 m (le_of_suc-le-suc h) (le_of_suc-le-suc k)

none_is : (l : List MuxerRx) → last_conn l ≡ 0 → AllRsts l
unfolding last_conn when
none_is [] e = λ n h. absurd (omega arith)
none_is (x ∷ l) e = by (eqb (last_conn l) 0) x.rst refl refl e (none_is l)
  where
    by : (b c : Bool) → eqb (last_conn l) 0 ≡ b → x.rst ≡ c → when b (when c 0 1) (last_conn l + 1) ≡ 0 → (last_conn l ≡ 0 → AllRsts l) → AllRsts (x ∷ l)
    by true true p q e rest = cons_rsts x l q (rest (eqb-true _ _ p))
    by true false p q e rest = absurd (omega arith)
    by false c p q e rest = absurd (omega arith)

some_is : (l : List MuxerRx) (n : ℕ) → last_conn l ≡ suc n → RearmostAt l n
unfolding last_conn when
some_is [] n e = absurd (omega arith)
some_is (x ∷ l) n e = by (eqb (last_conn l) 0) x.rst refl refl e (some_is l (n - 1))
  where
    by : (b c : Bool) → eqb (last_conn l) 0 ≡ b → x.rst ≡ c → when b (when c 0 1) (last_conn l + 1) ≡ suc n → (last_conn l ≡ suc (n - 1) → RearmostAt l (n - 1)) → RearmostAt (x ∷ l) n
    by true true p q e rest = absurd (omega arith)
    by true false p q e rest = subst (RearmostAt (x ∷ l)) (let z : 0 ≡ n = omega arith in z) (cons_first x l q (none_is l (eqb-true _ _ p)))
    by false c p q e rest =
        let h = positive (last_conn l) (eqb-false _ _ p) in
        subst (RearmostAt (x ∷ l)) (let z : suc (n - 1) ≡ n = omega arith in z) (cons_rearmost x l (n - 1) (rest (omega arith)))

not_both : (l : List MuxerRx) (n : ℕ) → RearmostAt l n → AllRsts l → ⊥
not_both l n r a = never (sym r.1 ∙ a n r.0)

one_rearmost : (l : List MuxerRx) (n m : ℕ) → RearmostAt l n → RearmostAt l m → n ≡ m
one_rearmost l n m r t =
    ⊎_elim
    (λ (h : n < m). absurd (never (sym t.1 ∙ r.2 m h t.0)))
    (λ (h : m ≤ n). ⊎_elim (λ (k : m < n). absurd (never (sym r.1 ∙ t.2 n k r.0))) (λ (k : n ≤ m). omega arith) (lt_or_ge m n))
    (lt_or_ge n m)

pub every_last_conn_means : EveryLastConnMeans
every_last_conn_means l =
    let rear : 0 < last_conn l → RearmostAt l (last_conn l - 1) = λ h. some_is l (last_conn l - 1) (omega arith) in
    record {
      none = (
        none_is l,
        λ a. ⊎_elim (λ (z : last_conn l ≡ 0). z) (λ (h : 0 < last_conn l). absurd (not_both l _ (rear h) a)) (eq-zero-or-pos (last_conn l)),
      );
      some = λ n. (
        λ e. some_is l n (e ∙ add-one n),
        λ r.
            ⊎_elim
            (λ (z : last_conn l ≡ 0). absurd (not_both l n r (none_is l z)))
            (λ (h : 0 < last_conn l). let z = one_rearmost l n (last_conn l - 1) r (rear h) in omega arith)
            (eq-zero-or-pos (last_conn l)),
      );
    }

-- ---- a push

pub every_push_means : EveryPushMeans
unfolding push_list evict_list
every_push_means i o e g =
    let q = i.queue in
    let l = items q in
    let means = every_last_conn_means l in
    record {
      room = λ r. every.push_appends rxq lawful q g (push_list i.rx) o e i.rx r (when_true _ _ _ ((answers.room_of rxq q).1 r));
      rst =
          λ n r m t.
          let c : last_conn l ≡ m + 1 = (means.some m).1 t in
          every.push_replaces rxq lawful q g (push_list i.rx) o e m i.rx (omega (arith, t.0, (sound_says rxq lawful q g.0 g.1).held))
          (when_false _ _ _ (answers.no_room rxq q n)
          ∙ when_true _ _ _ r
          ∙ when_false _ _ _ (ne_eqb (last_conn l) 0 (λ z. omega arith))
          ∙ ap (λ (k : ℕ). leaves done (set l k i.rx) false) (let z : last_conn l - 1 ≡ m = omega arith in z));
      all_rsts =
          λ n r a.
          every.push_stays rxq lawful q g (push_list i.rx) o e
          (when_false _ _ _ (answers.no_room rxq q n) ∙ when_true _ _ _ r ∙ when_true _ _ _ (eq-eqb _ 0 (means.none.1 a)));
      connection = λ n r. every.push_unsyncs rxq lawful q g (push_list i.rx) o e (when_false _ _ _ (answers.no_room rxq q n) ∙ when_false _ _ _ r);
    }

-- ---- the front

pub every_peek_means : EveryPeekMeans
every_peek_means q o e g = every.peek_means rxq lawful q g o e

pub every_pop_means : EveryPopMeans
every_pop_means q o e g =
    every.pop_means rxq lawful q g zero_item (λ it. true) (λ it. it) (λ it. Unit) (λ it. (λ t. tt, λ u. refl)) o
    (e ∙ ap (λ (a : Answer). pop_of rxq zero_item (λ it. true) (λ it. it) a q) (every.passed rxq lawful q g))
