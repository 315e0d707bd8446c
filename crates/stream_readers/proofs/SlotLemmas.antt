-- Targets at their places, and the conditions that name these.
use Rattle.std.proofs.Common.{◌≡◌, ◌∙◌, sym, ap, refl, subst, inl, inr, ℕ, zero, suc, ◌+◌, ◌<◌, ◌≤◌, ◌==◌, ◌⊎◌, ◌||◌, ◌&&◌, Bool, true, false, cond, nat_lt, length, get_or, take, List, [], ◌∷◌, ◌++◌, map, append-nil}
use Rattle.std.specs.Prelude.{Contains, Option, Some, None, is_some, slice_get, option_to_list}
use Rattle.std.specs.List.{All, filter}
use Rattle.std.specs.List.Sorted.{IsPermutation}
use Rattle.std.proofs.lemmas.Grind.{flat_map-append}
use Rattle.std.proofs.lemmas.List.{take_more}
use Rattle.std.proofs.lemmas.List.Elements.{All-cons, All-contains, All-head, All-nil, All-tail, All-weaker}
use Rattle.std.proofs.lemmas.List.Sorted.{IsPermutation-append_comm, IsPermutation-cons, IsPermutation-middle, IsPermutation-refl, IsPermutation-trans}
use Rattle.event_types.specs.Tuple.{TupleView}
use Rattle.event_types.proofs.NumberLemmas.{other_number, same_number, self_equal}
use Rattle.scalar_expr.proofs.Bags.{flat_map_each, flat_map_permuted, permuted_from}
use Rattle.static_index.specs.Conditions.{Condition, HasId, ids_of, matched, with_condition}
use Rattle.static_index.specs.FixedParts.{all_hold}
use Rattle.static_index.proofs.TableLemmas.{id_first, id_later}
use Rattle.stream_readers.specs.Filing.{AreAtPlaces, Filed, Slots, at_places, filed_by, filed_in, filed_under, has_id, slot_at, targets_met}
use Rattle.stream_readers.specs.declared.target.Target.{Target}
use Rattle.stream_readers.proofs.KeyTableLemmas.{below_or_past, default_past}

cond_same : {X : Type 0} (b : Bool) (x : X) → cond b x x ≡ x
cond_same true x = refl
cond_same false x = refl

or_true : (b : Bool) → (b || true) ≡ true
or_true true = refl
or_true false = refl

and_false : (b : Bool) → (b && false) ≡ false
and_false true = refl
and_false false = refl

-- an item that is listed, at its place
pub at_got : {X : Type 0} (xs : List X) (i : ℕ) (d x : X) → slice_get xs i ≡ Some x → get_or xs i d ≡ x
at_got [] i d x is = absurd (cc)
at_got (y ∷ xs) zero d x is = cc
at_got (y ∷ xs) (suc i) d x is = at_got xs i d x is

-- a place that isn't free is listed
pub slot_within : (slots : Slots) (place : ℕ) → is_some (slot_at slots place) ≡ true → place < length slots
slot_within slots place some = go (below_or_past place (length slots))
  where
    go : (place < length slots) ⊎ (length slots ≤ place) → place < length slots
    go (inl lt) = lt
    go (inr le) = let none = ap (λ (o : Option Target). is_some o) (default_past None slots place le) in absurd (let e : false ≡ true = sym none ∙ some in cc)

-- what has an id is told so
pub has_to : (conditions : List Condition) → All (λ id. has_id id conditions ≡ true) (ids_of conditions)
has_to [] = All-nil (λ id. has_id id [] ≡ true)
has_to (c ∷ cs) =
    All-cons (λ id. has_id id (c ∷ cs) ≡ true) c.id (ids_of cs) (ap (λ b. b || has_id c.id cs) (self_equal c.id))
    (All-weaker (λ id. has_id id cs ≡ true) (λ id. has_id id (c ∷ cs) ≡ true) (λ id is. ap (λ b. (c.id == id) || b) is ∙ or_true (c.id == id)) (ids_of cs) (has_to cs))

-- and has it where this is told
pub has_from : (id : ℕ) (conditions : List Condition) → has_id id conditions ≡ true → HasId id conditions
has_from id [] is = absurd (cc)
has_from id (c ∷ cs) is = go (has_from id cs) (c.id == id) refl is
  where
    go : (has_id id cs ≡ true → HasId id cs) → (b : Bool) → (c.id == id) ≡ b → (b || has_id id cs) ≡ true → HasId id (c ∷ cs)
    go more true same told = subst (λ (k : ℕ). Contains (k ∷ ids_of cs) id) (sym (same_number c.id id same)) (id_first id (ids_of cs))
    go more false differs told = id_later c.id id (ids_of cs) (more told)

-- where it isn't told, no condition has the id
pub has_not : (id : ℕ) (conditions : List Condition) → has_id id conditions ≡ false → HasId id conditions → ⊥
has_not id conditions none has = let told = All-contains (λ (k : ℕ). has_id k conditions ≡ true) (ids_of conditions) id (has_to conditions) has in absurd (let e : false ≡ true = sym none ∙ told in cc)

or_swap : (a b c : Bool) → (a || (b || c)) ≡ (b || (a || c))
or_swap true true c = refl
or_swap true false c = refl
or_swap false b c = refl

-- the ids with one condition more
pub with_has : (id : ℕ) (c : Condition) (cs : List Condition) → has_id id (with_condition c cs) ≡ ((c.id == id) || has_id id cs)
with_has id c [] = refl
with_has id c (first ∷ rest) = go (with_has id c rest) (nat_lt c.id first.id)
  where
    go : has_id id (with_condition c rest) ≡ ((c.id == id) || has_id id rest) → (b : Bool) → has_id id (cond b (c ∷ first ∷ rest) (first ∷ with_condition c rest)) ≡ ((c.id == id) || ((first.id == id) || has_id id rest))
    go more true = refl
    go more false = ap (λ b. (first.id == id) || b) more ∙ or_swap (first.id == id) (c.id == id) (has_id id rest)

-- the ids of the conditions whose ids pass a test
pub filter_has : (r : ℕ → Bool) (id : ℕ) (cs : List Condition) → has_id id (filter (λ c. r c.id) cs) ≡ (r id && has_id id cs)
filter_has r id [] = sym (and_false (r id))
filter_has r id (c ∷ cs) = go (filter_has r id cs) (r c.id) refl (c.id == id) refl
  where
    rest : List Condition
    rest = filter (λ (c : Condition). r c.id) cs

    go : has_id id rest ≡ (r id && has_id id cs) → (b : Bool) → r c.id ≡ b → (d : Bool) → (c.id == id) ≡ d → has_id id (cond b (c ∷ rest) rest) ≡ (r id && (d || has_id id cs))
    go more true passes true same = ap (λ b. b || has_id id rest) same ∙ sym (ap (λ b. b && true) (ap r (sym (same_number c.id id same)) ∙ passes))
    go more true passes false differs = ap (λ b. b || has_id id rest) differs ∙ more
    go more false fails true same = more ∙ ap (λ b. b && has_id id cs) (ap r (sym (same_number c.id id same)) ∙ fails) ∙ sym (ap (λ b. b && true) (ap r (sym (same_number c.id id same)) ∙ fails))
    go more false fails false differs = more

-- one condition more, in whatever order
pub with_front : (c : Condition) (cs : List Condition) → IsPermutation (with_condition c cs) (c ∷ cs)
with_front c [] = IsPermutation-refl (c ∷ [])
with_front c (first ∷ rest) = go (with_front c rest) (nat_lt c.id first.id)
  where
    go : IsPermutation (with_condition c rest) (c ∷ rest) → (b : Bool) → IsPermutation (cond b (c ∷ first ∷ rest) (first ∷ with_condition c rest)) (c ∷ first ∷ rest)
    go more true = IsPermutation-refl (c ∷ first ∷ rest)
    go more false = IsPermutation-trans _ _ _ (IsPermutation-cons first _ _ more) (IsPermutation-middle (first ∷ []) c rest)

-- places that have the same
pub same_filed : (old new : Slots) → ((place : ℕ) → slot_at new place ≡ slot_at old place) → (cs : List Condition) → filed_in new cs ≡ filed_in old cs
same_filed old new same cs = flat_map_each (filed_by new) (filed_by old) (λ (c : Condition). ap (filed_under c.parts) (same c.id)) cs

-- places of which one that no condition names changes
pub others_filed : (old new : Slots) (id : ℕ) → ((place : ℕ) → (place ≡ id → ⊥) → slot_at new place ≡ slot_at old place) → (cs : List Condition) → has_id id cs ≡ false → filed_in new cs ≡ filed_in old cs
others_filed old new id same [] none = refl
others_filed old new id same (c ∷ cs) none = go (others_filed old new id same cs) (c.id == id) refl none
  where
    go : (has_id id cs ≡ false → filed_in new cs ≡ filed_in old cs) → (b : Bool) → (c.id == id) ≡ b → (b || has_id id cs) ≡ false → filed_in new (c ∷ cs) ≡ filed_in old (c ∷ cs)
    go more true is told = absurd (cc)
    go more false differs told =
        ap (λ fs. fs ++ filed_in new cs) (ap (filed_under c.parts) (same c.id (other_number c.id id differs))) ∙ ap (λ fs. filed_by old c ++ fs) (more told)

-- no condition names a free place
pub free_absent : (slots : Slots) (cs : List Condition) (place : ℕ) → AreAtPlaces slots cs → slot_at slots place ≡ None → has_id place cs ≡ false
free_absent slots cs place at free = at place ∙ ap is_some free

module _ (old new : Slots) (c : Condition) (cs : List Condition) (target : Target) (at : AreAtPlaces old cs) (free : slot_at old c.id ≡ None) (here : slot_at new c.id ≡ Some target) (others : (place : ℕ) → (place ≡ c.id → ⊥) → slot_at new place ≡ slot_at old place) where
  -- a target that comes to a free place is named
  pub added_places : AreAtPlaces new (with_condition c cs)
  added_places place = with_has place c cs ∙ go (c.id == place) refl
    where
      go : (b : Bool) → (c.id == place) ≡ b → (b || has_id place cs) ≡ is_some (slot_at new place)
      go true same = sym (ap (λ k. is_some (slot_at new k)) (sym (same_number c.id place same)) ∙ ap is_some here)
      go false differs = at place ∙ ap is_some (sym (others place (λ e. other_number c.id place differs (sym e))))

  -- and filed besides the others
  pub added_is : IsPermutation (filed_in new (with_condition c cs)) (filed_in old cs ++ record { target = target; parts = c.parts } ∷ [])
  added_is =
      let one : List Filed = record { target = target; parts = c.parts } ∷ [] in
      IsPermutation-trans _ _ _ (flat_map_permuted (filed_by new) (with_condition c cs) (c ∷ cs) (with_front c cs))
      (permuted_from (ap (λ fs. fs ++ filed_in new cs) (ap (filed_under c.parts) here) ∙ ap (λ fs. one ++ fs) (others_filed old new c.id others cs (free_absent old cs c.id at free)))
      (IsPermutation-append_comm one (filed_in old cs)))

-- a place that was written and is free again
pub cleared_same : (old mid new : Slots) (id : ℕ) → slot_at old id ≡ None → ((place : ℕ) → (place ≡ id → ⊥) → slot_at mid place ≡ slot_at old place) → slot_at new id ≡ None → ((place : ℕ) → (place ≡ id → ⊥) → slot_at new place ≡ slot_at mid place)
    → (place : ℕ) → slot_at new place ≡ slot_at old place
cleared_same old mid new id free others cleared rest place = go (place == id) refl
  where
    go : (b : Bool) → (place == id) ≡ b → slot_at new place ≡ slot_at old place
    go true same = ap (slot_at new) (same_number place id same) ∙ cleared ∙ sym free ∙ ap (slot_at old) (sym (same_number place id same))
    go false differs = let other = other_number place id differs in rest place other ∙ others place other

-- conditions name places as before
pub same_places : (old new : Slots) (cs : List Condition) → ((place : ℕ) → slot_at new place ≡ slot_at old place) → AreAtPlaces old cs → AreAtPlaces new cs
same_places old new cs same at place = at place ∙ ap is_some (sym (same place))

-- the targets that are met, found by the places of their conditions
pub targets_found : (tuple : TupleView) (slots : Slots) (conditions : List Condition) → at_places slots (matched tuple conditions) ≡ targets_met tuple (filed_in slots conditions)
targets_found tuple slots [] = refl
targets_found tuple slots (c ∷ cs) =
    placed (all_hold tuple c.parts) ∙ ap (λ ts. cond (all_hold tuple c.parts) (option_to_list (slot_at slots c.id) ++ ts) ts) (targets_found tuple slots cs) ∙ sym (filed (slot_at slots c.id))
  where
    kept : List Condition
    kept = filter (λ (condition : Condition). all_hold tuple condition.parts) cs

    met : List Target
    met = targets_met tuple (filed_in slots cs)

    test : Filed → Bool
    test one = all_hold tuple one.parts

    placed : (b : Bool) → at_places slots (ids_of (cond b (c ∷ kept) kept)) ≡ cond b (option_to_list (slot_at slots c.id) ++ at_places slots (ids_of kept)) (at_places slots (ids_of kept))
    placed true = refl
    placed false = refl

    one_more : (b : Bool) (target : Target) → map (λ (one : Filed). one.target) (cond b (record { target = target; parts = c.parts } ∷ filter test (filed_in slots cs)) (filter test (filed_in slots cs))) ≡ cond b (target ∷ met) met
    one_more true target = refl
    one_more false target = refl

    filed : (o : Option Target) → targets_met tuple (filed_under c.parts o ++ filed_in slots cs) ≡ cond (all_hold tuple c.parts) (option_to_list o ++ met) met
    filed None = sym (cond_same (all_hold tuple c.parts) met)
    filed (Some target) = one_more (all_hold tuple c.parts) target

-- the places that are met are listed
pub places_met : (tuple : TupleView) (slots : Slots) (conditions : List Condition) → AreAtPlaces slots conditions → All (λ place. place < length slots) (matched tuple conditions)
places_met tuple slots conditions at =
    kept conditions (All-weaker (λ id. has_id id conditions ≡ true) (λ place. place < length slots) (λ id told. slot_within slots id (sym (at id) ∙ told)) (ids_of conditions) (has_to conditions))
  where
    P : ℕ → Type 0
    P place = place < length slots

    kept : (cs : List Condition) → All P (ids_of cs) → All P (matched tuple cs)
    kept [] all = all
    kept (c ∷ cs) all = go (kept cs (All-tail P c.id (ids_of cs) all)) (all_hold tuple c.parts)
      where
        rest : List Condition
        rest = filter (λ (condition : Condition). all_hold tuple condition.parts) cs

        go : All P (ids_of rest) → (b : Bool) → All P (ids_of (cond b (c ∷ rest) rest))
        go more true = All-cons P c.id (ids_of rest) (All-head P c.id (ids_of cs) all) more
        go more false = more

-- one place more
pub places_more : (slots : Slots) (places : List ℕ) (i : ℕ) (slot : Option Target) (found new : List Target) → i < length places → slice_get slots (get_or places i 0) ≡ Some slot → found ≡ at_places slots (take i places) → new ≡ found ++ option_to_list slot
    → new ≡ at_places slots (take (i + 1) places)
places_more slots places i slot found new lt here was is =
    is ∙ ap (λ ts. ts ++ option_to_list slot) was ∙ ap (λ (o : Option Target). at_places slots (take i places) ++ option_to_list o) (sym (at_got slots (get_or places i 0) None slot here))
    ∙ ap (λ ts. at_places slots (take i places) ++ ts) (sym (append-nil (option_to_list (slot_at slots (get_or places i 0)))))
    ∙ sym (ap (at_places slots) (take_more places i 0 lt) ∙ flat_map-append (λ place. option_to_list (slot_at slots place)) (take i places) (get_or places i 0 ∷ []))

pub and_left : (a b : Bool) → (a && b) ≡ true → a ≡ true
and_left true b is = refl
and_left false b is = is
