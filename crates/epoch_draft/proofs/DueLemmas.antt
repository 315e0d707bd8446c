-- The streams that are due stand in the order of work.
use Rattle.std.proofs.Common.{◌≡◌, ◌∙◌, sym, ap, refl, subst, inl, inr, ℕ, ◌==◌, ◌<◌, ◌⊎◌, false, cond, length, get_or, set, List, [], ◌∷◌, arith}
use Rattle.std.specs.Prelude.{Contains}
use Rattle.std.specs.List.{All, filter, flat_map, range_with_len}
use Rattle.std.proofs.lemmas.Bool.Decides.{nat_tests}
use Rattle.std.proofs.lemmas.List.{get_or-set_other}
use Rattle.std.proofs.lemmas.List.Elements.{All-contains, All-contains_itself, All-head, All-tail, All-weaker}
use Rattle.std.proofs.lemmas.List.Sorted.{length_permutation}
use Rattle.event_types.specs.Tuple.{TupleView}
use Rattle.semantics.specs.Denotation.{Streams}
use Rattle.semantics.proofs.ReportLemmas.{flat_map_same}
use Rattle.automaton.specs.States.{Net, ends_at}
use Rattle.automaton.specs.declared.network.End.{End}
use Rattle.automaton.proofs.NumberLemmas.{are_same_or_not}
use Rattle.epoch_laws.specs.Closing.{Stores, given_by_end, given_by_ends, given_by_ends_at, leaving_state}
use Rattle.epoch_laws.proofs.Lists.{every}
use Rattle.epoch_draft.specs.Drafts.{EndsBelow, EndsIn, Grows, HaveTuples, without}
use Rattle.epoch_draft.specs.Drawn.{Drawn}
use Rattle.epoch_draft.specs.Marks.{MarksNoOther}
use Rattle.epoch_draft.specs.Moves.{Move}
use Rattle.epoch_draft.specs.declared.draft.Draft.{Draft}
use Rattle.epoch_draft.proofs.Concats.{nothing_of}
use Rattle.epoch_draft.proofs.Lists.{contains_or_not}

-- the streams of an order are below a number, and so are those of the ends
pub ends_below : (net : Net) (order : List ℕ) (streams : ℕ) → EndsIn net order → All (λ s. s < streams) order → EndsBelow net streams
ends_below net order streams ends below n =
    All-weaker (λ (e : End). Contains order e.out) (λ (e : End). e.out < streams) (λ e c. All-contains (λ s. s < streams) order e.out below c) (ends_at net n) (ends n)

other_test : (m n : ℕ) → (m ≡ n → ⊥) → (m == n) ≡ false
other_test m n ne = grind (arith, nat_tests)

module _ (net : Net) (order : List ℕ) (ends : EndsIn net order) where
  -- no end has a stream that isn't of the order
  no_end : (s : ℕ) → (Contains order s → ⊥) → (here : List End) → All (λ (e : End). Contains order e.out) here → filter (λ (e : End). e.out == s) here ≡ []
  no_end s absent [] all = refl
  no_end s absent (e ∷ here) all =
      ap (λ b. cond b (e ∷ filter (λ (e : End). e.out == s) here) (filter (λ (e : End). e.out == s) here))
      (other_test e.out s (λ same. absent (subst (Contains order) same (All-head (λ (e : End). Contains order e.out) e here all))))
      ∙ no_end s absent here (All-tail (λ (e : End). Contains order e.out) e here all)

  module _ (stores : Stores) (seen : Streams) where
    none_at : (s : ℕ) → (Contains order s → ⊥) → (n : ℕ) → given_by_ends_at net seen stores s n ≡ []
    none_at s absent n = ap (flat_map (given_by_end (leaving_state net seen stores n))) (no_end s absent (ends_at net n) (ends n))

    -- so the ends give nothing for it
    none_given : (s : ℕ) → (Contains order s → ⊥) → given_by_ends net seen stores s ≡ []
    none_given s absent =
        let range = range_with_len 0 (length net) in
        flat_map_same (given_by_ends_at net seen stores s) (λ n. []) range (every (λ n. given_by_ends_at net seen stores s n ≡ []) (none_at s absent) range) ∙ nothing_of range

    -- a stream that has tuples is of the order
    pub made_in_order : (draft : Draft) → Drawn net stores seen draft → (s : ℕ) → 0 < length (get_or draft.made s []) → Contains order s
    made_in_order draft drawn s some = go (contains_or_not order s)
      where
        go : Contains order s ⊎ (Contains order s → ⊥) → Contains order s
        go (inl c) = c
        go (inr absent) =
            let same = length_permutation _ _ (drawn.made s) in
            let none = ap (λ (rows : List TupleView). length rows) (none_given s absent) in absurd (omega (arith, same, none, some))

    -- and so are the streams that are newly due
    pub due_met : (old new : Draft) → Drawn net stores seen new → HaveTuples old new → All (Contains order) old.due.numbers → All (Contains order) new.due.numbers
    due_met old new drawn newly was = All-weaker (Contains new.due.numbers) (Contains order) (λ s c. go s (newly s c)) new.due.numbers (All-contains_itself new.due.numbers)
      where
        go : (s : ℕ) → Contains old.due.numbers s ⊎ (0 < length (get_or new.made s [])) → Contains order s
        go s (inl c) = All-contains (Contains order) old.due.numbers s was c
        go s (inr some) = made_in_order new drawn s some

    -- with the stream that is met
    pub due_derived : (old new : Draft) (s : ℕ) → Contains order s → Drawn net stores seen new → ((t : ℕ) → Contains new.due.numbers t → Contains old.due.numbers t ⊎ (t ≡ s) ⊎ (0 < length (get_or new.made t []))) → All (Contains order) old.due.numbers
        → All (Contains order) new.due.numbers
    due_derived old new s here drawn newly was = All-weaker (Contains new.due.numbers) (Contains order) (λ t c. go t (newly t c)) new.due.numbers (All-contains_itself new.due.numbers)
      where
        other : (t : ℕ) → (t ≡ s) ⊎ (0 < length (get_or new.made t [])) → Contains order t
        other t (inl same) = subst (Contains order) (sym same) here
        other t (inr some) = made_in_order new drawn t some

        go : (t : ℕ) → Contains old.due.numbers t ⊎ (t ≡ s) ⊎ (0 < length (get_or new.made t [])) → Contains order t
        go t (inl c) = All-contains (Contains order) old.due.numbers t was c
        go t (inr this) = other t this

-- a stream that is newly due once the tuples of one are met is that one, or has tuples
pub newly_met : (net : Net) (moves : List Move) (s : ℕ) (tuples : List TupleView) (old met new : Draft) → Grows net moves (without old s) met → new.made ≡ set met.made s tuples → MarksNoOther s met.due new.due
    → (t : ℕ) → Contains new.due.numbers t → Contains old.due.numbers t ⊎ (t ≡ s) ⊎ (0 < length (get_or new.made t []))
newly_met net moves s tuples old met new grows made alone t c = go (are_same_or_not t s)
  where
    stays : (t ≡ s → ⊥) → get_or new.made t [] ≡ get_or met.made t []
    stays other = ap (λ (lists : List (List TupleView)). get_or lists t []) made ∙ get_or-set_other met.made s t tuples [] other

    before : (t ≡ s → ⊥) → Contains old.due.numbers t ⊎ (0 < length (get_or met.made t [])) → Contains old.due.numbers t ⊎ (t ≡ s) ⊎ (0 < length (get_or new.made t []))
    before other (inl c) = inl c
    before other (inr some) = inr (inr (let same = ap (λ (rows : List TupleView). length rows) (stays other) in omega (arith, same, some)))

    marked : (t ≡ s → ⊥) → Contains met.due.numbers t ⊎ (t ≡ s) → Contains old.due.numbers t ⊎ (t ≡ s) ⊎ (0 < length (get_or new.made t []))
    marked other (inl c) = before other (grows.newly_due t c)
    marked other (inr same) = inr (inl same)

    go : (t ≡ s) ⊎ (t ≡ s → ⊥) → Contains old.due.numbers t ⊎ (t ≡ s) ⊎ (0 < length (get_or new.made t []))
    go (inl same) = inr (inl same)
    go (inr other) = marked other (alone t c)
