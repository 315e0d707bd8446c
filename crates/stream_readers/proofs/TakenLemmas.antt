-- Targets of which one leaves, place by place.
use Rattle.std.proofs.Common.{◌≡◌, ◌∙◌, sym, ap, refl, inl, inr, ℕ, ◌<◌, ◌≤◌, ◌==◌, ◌⊎◌, ◌&&◌, not, Bool, true, false, cond, length, get_or, set, List, [], ◌∷◌, ◌++◌, append-nil, arith}
use Rattle.std.specs.Prelude.{Option, Some, None, is_some}
use Rattle.std.specs.List.{All, filter, flat_map}
use Rattle.std.proofs.lemmas.Grind.{flat_map-append}
use Rattle.std.proofs.lemmas.List.Elements.{All-cons, All-head, All-nil, All-tail, All-weaker, filter_agree}
use Rattle.event_types.proofs.NumberLemmas.{is_other, self_equal}
use Rattle.static_index.specs.Conditions.{Condition, HasId, ids_of, without}
use Rattle.stream_readers.specs.Filing.{AreAtPlaces, Slots, filed_by, filed_in, filed_under, has_id, slot_at}
use Rattle.stream_readers.specs.Leaving.{left_by, moved, moved_in}
use Rattle.stream_readers.specs.declared.leaving.Gone.{Gone}
use Rattle.stream_readers.specs.declared.target.Target.{Target}
use Rattle.stream_readers.proofs.KeyTableLemmas.{ChangedBelow, below_or_past, default_past, is_set}
use Rattle.stream_readers.proofs.SlotLemmas.{filter_has, has_from, has_to}

-- whether a place isn't free
abbrev pub is_taken : Slots → ℕ → Bool
is_taken slots place = is_some (slot_at slots place)

-- the conditions that name a place that isn't free
abbrev pub still_named : Slots → List Condition → List Condition
still_named slots conditions = filter (λ condition. is_taken slots condition.id) conditions

all_pass : {X : Type 0} (p : X → Bool) (xs : List X) → All (λ x. p x ≡ true) xs → filter p xs ≡ xs
all_pass p [] all = refl
all_pass p (x ∷ xs) all = ap (λ b. cond b (x ∷ filter p xs) (filter p xs)) (All-head (λ x. p x ≡ true) x xs all) ∙ ap (λ ys. x ∷ ys) (all_pass p xs (All-tail (λ x. p x ≡ true) x xs all))

pub twice : {X : Type 0} (p q : X → Bool) (xs : List X) → filter q (filter p xs) ≡ filter (λ x. p x && q x) xs
twice p q [] = refl
twice p q (x ∷ xs) = go (twice p q xs) (p x)
  where
    go : filter q (filter p xs) ≡ filter (λ x. p x && q x) xs → (b : Bool) → filter q (cond b (x ∷ filter p xs) (filter p xs)) ≡ cond (b && q x) (x ∷ filter (λ x. p x && q x) xs) (filter (λ x. p x && q x) xs)
    go more true = ap (λ ys. cond (q x) (x ∷ ys) ys) more
    go more false = more

and_true : (b : Bool) → (b && true) ≡ b
and_true true = refl
and_true false = refl

-- at first each condition names a place that isn't free
pub all_named : (slots : Slots) (conditions : List Condition) → AreAtPlaces slots conditions → conditions ≡ still_named slots conditions
all_named slots conditions at =
    sym (all_pass (λ c. is_taken slots c.id) conditions (each conditions (All-weaker (λ id. has_id id conditions ≡ true) (λ id. is_taken slots id ≡ true) (λ id told. sym (at id) ∙ told) (ids_of conditions) (has_to conditions))))
  where
    each : (cs : List Condition) → All (λ id. is_taken slots id ≡ true) (ids_of cs) → All (λ (c : Condition). is_taken slots c.id ≡ true) cs
    each [] all = All-nil (λ (c : Condition). is_taken slots c.id ≡ true)
    each (c ∷ cs) all = All-cons (λ (c : Condition). is_taken slots c.id ≡ true) c cs (All-head (λ id. is_taken slots id ≡ true) c.id (ids_of cs) all) (each cs (All-tail (λ id. is_taken slots id ≡ true) c.id (ids_of cs) all))

-- what a place has once a target has left, where it has something
abbrev pub moves : Gone → Option Target → Option Target → Type 0
moves gone old new = new ≡ moved_in gone old

module _ (gone : Gone) (old mid : Slots) (conditions : List Condition) (at : AreAtPlaces old conditions) (i : ℕ) (lt : i < length old) (was : ChangedBelow (moves gone) None i old mid) where
  -- a target that still stands at its place is named
  pub still_has : (now : List Condition) → now ≡ still_named mid conditions → is_taken mid i ≡ true → HasId i now
  still_has now is taken =
      has_from i now (ap (has_id i) is ∙ filter_has (is_taken mid) i conditions ∙ ap (λ b. b && has_id i conditions) taken ∙ at i ∙ ap is_some (sym (was.others i (omega arith))) ∙ taken)

  module _ (x : Option Target) (left : Bool) (is : x ≡ moved_in gone (slot_at mid i)) (leaves : left ≡ (is_taken mid i && not (is_some x))) where
    within : i < length mid
    within = omega (arith, lt, was.as_many)

    none_of_none : (o : Option Target) → is_some o ≡ false → is_some (moved_in gone o) ≡ false
    none_of_none None none = refl
    none_of_none (Some target) none = absurd (cc)

    now_taken : (k : ℕ) → is_taken (set mid i x) k ≡ (is_taken mid k && not (left && (k == i)))
    now_taken k = go (is_set None mid i x within k)
      where
        here : (a b c : Bool) → c ≡ (a && not b) → (a ≡ false → b ≡ false) → b ≡ (a && not (c && true))
        here true true c e imp = sym (ap (λ c. not (c && true)) e)
        here true false c e imp = sym (ap (λ c. not (c && true)) e)
        here false true c e imp = absurd (let f : true ≡ false = imp refl in cc)
        here false false c e imp = refl

        there : (a c : Bool) → a ≡ (a && not (c && false))
        there a true = sym (and_true a)
        there a false = sym (and_true a)

        go : ((i ≡ k) × (get_or (set mid i x) k None ≡ x)) ⊎ ((i ≡ k → ⊥) × (get_or (set mid i x) k None ≡ get_or mid k None)) → is_taken (set mid i x) k ≡ (is_taken mid k && not (left && (k == i)))
        go (inl both) =
            ap is_some both.1 ∙ here (is_taken mid i) (is_some x) left leaves (λ none. ap is_some is ∙ none_of_none (slot_at mid i) none)
            ∙ ap (λ b. is_taken mid i && not (left && b)) (sym (self_equal i)) ∙ ap (λ j. is_taken mid j && not (left && (j == i))) both.0
        go (inr both) = ap is_some both.1 ∙ there (is_taken mid k) left ∙ ap (λ b. is_taken mid k && not (left && b)) (sym (is_other k i (λ e. both.0 (sym e))))

    -- the condition of a target that leaves isn't named any more
    pub named_left : (now : List Condition) → now ≡ still_named mid conditions → left ≡ true → without i now ≡ still_named (set mid i x) conditions
    named_left now same told =
        ap (without i) same ∙ twice (λ (c : Condition). is_taken mid c.id) (λ (c : Condition). not (c.id == i)) conditions
        ∙ filter_agree (λ (c : Condition). is_taken mid c.id && not (c.id == i)) (λ (c : Condition). is_taken (set mid i x) c.id) (λ c. sym (now_taken c.id ∙ ap (λ b. is_taken mid c.id && not (b && (c.id == i))) told)) conditions

    -- all else stays
    pub named_on : (now : List Condition) → now ≡ still_named mid conditions → left ≡ false → now ≡ still_named (set mid i x) conditions
    named_on now same told =
        same ∙ filter_agree (λ (c : Condition). is_taken mid c.id) (λ (c : Condition). is_taken (set mid i x) c.id) (λ c. sym (now_taken c.id ∙ ap (λ b. is_taken mid c.id && not (b && (c.id == i))) told ∙ and_true (is_taken mid c.id))) conditions

module _ (gone : Gone) (old new : Slots) (conditions : List Condition) (at : AreAtPlaces old conditions) (was : ChangedBelow (moves gone) None (length old) old new) where
  -- at the end each place has what is left
  each_moved : (k : ℕ) → slot_at new k ≡ moved_in gone (slot_at old k)
  each_moved k = go (below_or_past k (length old))
    where
      go : (k < length old) ⊎ (length old ≤ k) → slot_at new k ≡ moved_in gone (slot_at old k)
      go (inl lt) = was.changed k lt
      go (inr le) = default_past None new k (omega (arith, le, was.as_many)) ∙ ap (moved_in gone) (sym (default_past None old k le))

  pub left_places : AreAtPlaces new (still_named new conditions)
  left_places place = filter_has (is_taken new) place conditions ∙ ap (λ b. is_taken new place && b) (at place) ∙ go (slot_at old place) (each_moved place)
    where
      go : (o : Option Target) → slot_at new place ≡ moved_in gone o → (is_taken new place && is_some o) ≡ is_taken new place
      go None is = ap (λ o. is_some o && false) is ∙ sym (ap is_some is)
      go (Some target) is = and_true (is_taken new place)

  pub left_filed : (cs : List Condition) → filed_in new (still_named new cs) ≡ flat_map (left_by gone) (filed_in old cs)
  left_filed [] = refl
  left_filed (c ∷ cs) =
      named (is_taken new c.id) refl ∙ ap (λ fs. filed_by new c ++ fs) (left_filed cs) ∙ ap (λ fs. fs ++ flat_map (left_by gone) (filed_in old cs)) (ap (filed_under c.parts) (each_moved c.id) ∙ sym (one (slot_at old c.id)))
      ∙ sym (flat_map-append (left_by gone) (filed_by old c) (filed_in old cs))
    where
      rest : List Condition
      rest = still_named new cs

      none : (o : Option Target) → is_some o ≡ false → filed_under c.parts o ≡ []
      none None is = refl
      none (Some target) is = absurd (cc)

      named : (b : Bool) → is_taken new c.id ≡ b → filed_in new (cond b (c ∷ rest) rest) ≡ filed_by new c ++ filed_in new rest
      named true is = refl
      named false is = ap (λ fs. fs ++ filed_in new rest) (sym (none (slot_at new c.id) is))

      one : (o : Option Target) → flat_map (left_by gone) (filed_under c.parts o) ≡ filed_under c.parts (moved_in gone o)
      one None = refl
      one (Some target) = append-nil (filed_under c.parts (moved gone target))
