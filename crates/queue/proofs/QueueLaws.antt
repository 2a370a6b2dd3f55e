-- A sound queue is the packing of its items; what a call does to the places of one, as what it does to the list. Assumes nothing.
use Prim.Native.Nat.{ℕ, ◌+◌, ◌≤◌, ◌<◌}
use mathlib.Core.Path.{◌≡◌, ap, sym, ◌∙◌}
use mathlib.Core.Bool.{Bool, true, ◌&&◌}
use mathlib.Core.List.{List, [], ◌∷◌, ◌++◌}
use native.Mathlib.Omega.{arith}
use borrow.Author.Tests.{le-leb, leb-true, ltb-true}
use lib.Dec.{leb, ltb}
use lib.ListN.{length, take, drop, set, length-append, length-take, length-set}
use lib.Seq.{length-take-le}
use Rattle.defs.specs.Ladder.{record_answer}
use Rattle.defs.proofs.Basics.{both}
use Rattle.defs.proofs.LadderLaws.{record_passed}
use Rattle.queue.specs.Queue.{Queue, Kind, Lawful, padded, clear_q, sound_q, items, pack, holding}
use Rattle.queue.specs.Queued.{has_room}
use Rattle.queue.specs.Promises.{QueueIsItsList}
use Rattle.queue.proofs.PlacesLaws.{places_are, items_of, places_append, places_set, places_rearranged, places_clear}
use Rattle.defs.specs.Answer.{Answer, done}

-- what soundness says of a queue whose array is as long as its type says
pub record Sound {Q A : Type 0} (k : Kind Q A) (q : Q) : Type 0 where
  pub most : (k.seen q).limit ≤ k.size
  pub within : (k.seen q).len ≤ (k.seen q).limit
  pub held : length (items k q) ≡ (k.seen q).len
  pub cleared : (k.seen q).places ≡ padded k.size k.zero_item (items k q)

module _ {Q A : Type 0} (k : Kind Q A) where
  -- places and a length that are those of a list
  pub packs : (places l : List A) (len limit : ℕ) (synced : Bool) → len ≡ length l → places ≡ padded k.size k.zero_item l
      → k.made (record { places = places; len = len; limit = limit; synced = synced }) ≡ pack k l limit synced
  packs places l len limit synced e f = rw (e, f)

  -- the limit of a sound queue, its length within it, and the places past that
  pub parts : (q : Q) → sound_q k q ≡ true → (k.is_limit (k.seen q).limit ≡ true) × ((k.seen q).len ≤ (k.seen q).limit) × (clear_q k q ≡ true)
  unfolding sound_q
  parts q e =
      let u = both (k.is_limit (k.seen q).limit && leb (k.seen q).len (k.seen q).limit) (clear_q k q) e in
      let v = both (k.is_limit (k.seen q).limit) (leb (k.seen q).len (k.seen q).limit) u.0 in
      (v.0, leb-true _ _ v.1, u.1)

  -- the items of a sound queue are within its limit
  pub items_within : (q : Q) → sound_q k q ≡ true → length (items k q) ≤ (k.seen q).limit
  items_within q e = let h = (parts q e).1 in omega (arith, length-take (k.seen q).len (k.seen q).places)

  module _ (w : Lawful k) where
    pub sound_says : (q : Q) → length (k.seen q).places ≡ k.size → sound_q k q ≡ true → Sound k q
    unfolding clear_q
    sound_says q n e =
        let u = parts q e in
        let m : (k.seen q).limit ≤ k.size = w.limit_fits _ u.0 in
        let h : (k.seen q).len ≤ (k.seen q).limit = u.1 in
        record {
          most = m;
          within = h;
          held = length-take-le (k.seen q).len (k.seen q).places (omega arith);
          cleared = places_are k.size k.zero_item k.is_zero w.zero_alone (k.seen q).places (k.seen q).len n (omega arith) u.2;
        }

    -- past a refusal
    pub sound_past : (q : Q) (a : Answer) → a ≡ record_answer (sound_q k q) → a ≡ done → length (k.seen q).places ≡ k.size → Sound k q
    sound_past q a e d n = sound_says q n (record_passed a (sound_q k q) e d)

    pub packed : (l : List A) (limit : ℕ) (synced : Bool)
        → k.seen (pack k l limit synced) ≡ record { places = padded k.size k.zero_item l; len = length l; limit = limit; synced = synced }
    packed l limit synced = w.forth _

    packed_sound : (l : List A) (limit : ℕ) (synced : Bool) → k.is_limit limit ≡ true → length l ≤ limit → sound_q k (pack k l limit synced) ≡ true
    unfolding sound_q clear_q
    packed_sound l limit synced e h =
        rw (packed l limit synced, e, le-leb _ _ h) (places_clear k.size k.zero_item k.is_zero w.zero_passes l)

    pub sound_stays_sound : (q : Q) (l : List A) (synced : Bool) → sound_q k q ≡ true → length l ≤ (k.seen q).limit → sound_q k (holding k q l synced) ≡ true
    sound_stays_sound q l synced e h = packed_sound l (k.seen q).limit synced (parts q e).0 h

    -- another sync, the items as they were
    pub synced_anew : (q : Q) (synced : Bool) → Sound k q
        → k.made (record { places = (k.seen q).places; len = (k.seen q).len; limit = (k.seen q).limit; synced = synced }) ≡ holding k q (items k q) synced
    synced_anew q synced s = packs (k.seen q).places (items k q) (k.seen q).len (k.seen q).limit synced (sym s.held) s.cleared

    pub sound_packed : (q : Q) → Sound k q → q ≡ holding k q (items k q) (k.seen q).synced
    sound_packed q s = sym (w.back q) ∙ synced_anew q (k.seen q).synced s

    pub queue_is_its_list : QueueIsItsList k
    queue_is_its_list = record {
      packed_sound = packed_sound;
      packed_items = λ l limit synced. ap (λ (r : Queue A). take r.len r.places) (packed l limit synced) ∙ items_of k.size k.zero_item l;
      sound_packed = λ q n e. sound_packed q (sound_says q n e);
    }

-- where there is room, a list with one item more is within the limit
pub append_within : {A : Type 0} (l : List A) (x : A) (limit : ℕ) (synced : Bool) → has_room synced (length l) limit ≡ true → length (l ++ (x ∷ [])) ≤ limit
unfolding has_room
append_within l x limit synced t =
    let h = ltb-true (length l) limit (both synced (ltb (length l) limit) t).1 in omega (arith, length-append l (x ∷ []))

-- where there is room, a queue is not full
pub room_under : (synced : Bool) (len limit : ℕ) → has_room synced len limit ≡ true → len < limit
unfolding has_room
room_under synced len limit t = ltb-true len limit (both synced (ltb len limit) t).1

-- ---- calls on the places of a sound queue

module _ {Q A : Type 0} {k : Kind Q A} (q : Q) (s : Sound k q) where
  pub room_is : (synced b : Bool) → has_room synced (k.seen q).len (k.seen q).limit ≡ b → has_room synced (length (items k q)) (k.seen q).limit ≡ b
  room_is synced b t = ap (λ (n : ℕ). has_room synced n (k.seen q).limit) s.held ∙ t

  -- an item more
  pub appended : (x : A) (synced : Bool) → (k.seen q).len < k.size
      → k.made (record { places = set (k.seen q).places (k.seen q).len x; len = (k.seen q).len + 1; limit = (k.seen q).limit; synced = synced })
      ≡ holding k q (items k q ++ (x ∷ [])) synced
  appended x synced h =
      packs k _ (items k q ++ (x ∷ [])) _ (k.seen q).limit synced
      (omega (arith, s.held, length-append (items k q) (x ∷ [])))
      (ap (λ (l : List A). set l (k.seen q).len x) s.cleared
      ∙ ap (λ (n : ℕ). set (padded k.size k.zero_item (items k q)) n x) (sym s.held)
      ∙ places_append k.size k.zero_item (items k q) x (omega (arith, s.held)))

  -- an item in the place of another
  pub replaced : (n : ℕ) (x : A) (synced : Bool) → n < (k.seen q).len
      → k.made (record { places = set (k.seen q).places n x; len = (k.seen q).len; limit = (k.seen q).limit; synced = synced })
      ≡ holding k q (set (items k q) n x) synced
  replaced n x synced h =
      packs k _ (set (items k q) n x) _ (k.seen q).limit synced
      (sym (length-set (items k q) n x ∙ s.held))
      (ap (λ (l : List A). set l n x) s.cleared ∙ places_set k.size k.zero_item (items k q) n x (omega (arith, s.held)))

  -- other items, as many
  pub rearranged : (l : List A) → length l ≡ (k.seen q).len → l ++ drop (k.seen q).len (k.seen q).places ≡ padded k.size k.zero_item l
  rearranged l e =
      ap (λ (r : List A). l ++ drop (k.seen q).len r) s.cleared
      ∙ ap (λ (n : ℕ). l ++ drop n (padded k.size k.zero_item (items k q))) (sym s.held)
      ∙ places_rearranged k.size k.zero_item (items k q) l (e ∙ sym s.held)
