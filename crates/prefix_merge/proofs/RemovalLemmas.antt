-- A line that leaves a merged network.
use Rattle.std.proofs.Common.{◌≡◌, ◌≢◌, ◌⊎◌, ◌∙◌, ◌↔◌, sym, ap, refl, subst, inl, inr, ℕ, zero, suc, ◌≤◌, ◌==◌, Bool, true, false, IsTrue, length, List, [], ◌∷◌, map, arith}
use Rattle.std.specs.Prelude.{Contains, Option, Some, None, is_some, slice_get}
use Rattle.std.specs.HashMap.{HashMap}
use Rattle.std.specs.List.{filter, flat_map, list_any, range_with_len, swap_remove}
use Rattle.std.specs.List.Sorted.{IsPermutation}
use Rattle.std.specs.Option.{option_and_then, option_map}
use Rattle.std.proofs.lemmas.List.Sorted.{IsPermutation-append_left, IsPermutation-append_right, IsPermutation-map, IsPermutation-refl, IsPermutation-trans, list_any-IsPermutation, sum_by-IsPermutation}
use Rattle.scalar_expr.proofs.Bags.{filter-flat_map, filter_permuted, permuted_from, permuted_to}
use Rattle.automaton.specs.declared.network.End.{End}
use Rattle.automaton.specs.declared.network.State.{State}
use Rattle.automaton.specs.Changes.{RemovesEnd, with_ends}
use Rattle.automaton.specs.NetworkLines.{Ending, HasEndings, ending_at, endings_by}
use Rattle.automaton.specs.Networks.{IsAt, IsNetwork}
use Rattle.automaton.specs.Prefixes.{Prefix, beginnings}
use Rattle.automaton.specs.States.{Net, edges_at, edges_in, ends_at, ends_in, entrance_at, entrance_in, is_used, root_at, root_by, state_at}
use Rattle.automaton.proofs.ChangeLemmas.{ends_entry, reads_alike, removes_end_network}
use Rattle.automaton.proofs.CountLemmas.{bit}
use Rattle.automaton.proofs.NumberLemmas.{are_same_or_not}
use Rattle.automaton.proofs.SlotLemmas.{KeepsEntries, at_kept, at_one, at_used, entry_there}
use Rattle.prefix_merge.specs.declared.holders.EndSpot.{EndSpot}
use Rattle.prefix_merge.specs.Growth.{IsTable}
use Rattle.prefix_merge.specs.Holders.{StandsAt}
use Rattle.prefix_merge.specs.Insertion.{without_numbered}
use Rattle.prefix_merge.specs.Merging.{HasEnd, HasOwnNumbers, IsMerged, IsUsedBy, ends_numbered, number_at}
use Rattle.prefix_merge.specs.Pruning.{IsPruned, IsPruning}
use Rattle.prefix_merge.specs.Removal.{AreLeft, Removes}
use Rattle.stream_readers.proofs.TargetLemmas.{edges_used}
use Rattle.prefix_merge.proofs.AnyLemmas.{none_unused}
use Rattle.prefix_merge.proofs.EndingLemmas.{ends_none}
use Rattle.prefix_merge.proofs.GrowthLemmas.{any_end}
use Rattle.prefix_merge.proofs.NumberedLemmas.{any_left, counted_gone, counted_other, ends_put, lines_left, none_numbered, other_end, other_ending, others_left, there_counted, with_number}
use Rattle.prefix_merge.proofs.PrefixLemmas.{at_beginning}

-- what gives a permutation of each gives one of all
each_permuted : {X Y : Type 0} (f g : X → List Y) → ((x : X) → IsPermutation (f x) (g x)) → (xs : List X) → IsPermutation (flat_map f xs) (flat_map g xs)
each_permuted f g same [] = IsPermutation-refl []
each_permuted f g same (x ∷ xs) =
    IsPermutation-trans _ _ _ (IsPermutation-append_left (flat_map f xs) (f x) (g x) (same x)) (IsPermutation-append_right (g x) (flat_map f xs) (flat_map g xs) (each_permuted f g same xs))

-- the end leaves
module _ (old middle : Net) (state place end : ℕ) (network : IsNetwork old) (merged : IsMerged old) (own : HasOwnNumbers old) (there : number_at old state place ≡ Some end) (removes : RemovesEnd state place old middle) where
  has : 1 ≤ ends_numbered old end state
  has = there_counted end (ends_at old state) place there

  middle_entry : (number : ℕ) → entrance_at middle number ≡ entrance_at old number
  middle_entry = reads_alike entrance_in old middle state (ap entrance_in removes.here ∙ ends_entry (swap_remove (ends_at old state) place removes.gone) (state_at old state)) removes.others

  -- without the end the states are the same
  pub middle_used : (number : ℕ) → is_used middle number ≡ is_used old number
  middle_used number = sym (entry_there (state_at middle number)) ∙ ap is_some (middle_entry number) ∙ entry_there (state_at old number)

  -- the others are left, and the last one has its place
  ends_here : ends_at middle state ≡ swap_remove (ends_at old state) place removes.gone
  ends_here = ap ends_in removes.here ∙ ends_put (swap_remove (ends_at old state) place removes.gone) (state_at old state) place removes.gone removes.there

  its_number : removes.gone.number ≡ end
  its_number = let same : Some removes.gone.number ≡ Some end = ap (option_map (λ (e : End). e.number)) (sym removes.there) ∙ there in cc

  -- no end has the number at another state
  none_else : (number : ℕ) → (number ≡ state → ⊥) → ends_numbered old end number ≡ 0
  none_else number ne = by_count (ends_numbered old end number) refl
    where
      by_count : (n : ℕ) → ends_numbered old end number ≡ n → n ≡ 0
      by_count zero is = refl
      by_count (suc n) is = absurd (ne (own.apart end number state (omega (arith, is)) has))

  -- at each state stand the ends but it, in whatever order
  middle_ends : (number : ℕ) → IsPermutation (ends_at middle number) (without_numbered end (ends_at old number))
  middle_ends number = by_number (are_same_or_not number state)
    where
      by_number : (number ≡ state) ⊎ (number ≡ state → ⊥) → IsPermutation (ends_at middle number) (without_numbered end (ends_at old number))
      by_number (inl same) =
          subst (λ n. IsPermutation (ends_at middle n) (without_numbered end (ends_at old n))) (sym same)
          (permuted_from ends_here (others_left end place removes.gone (ends_at old state) removes.there its_number (own.one end state)))
      by_number (inr ne) = permuted_from (ap ends_in (removes.others number ne) ∙ sym (none_numbered end (ends_at old number) (none_else number ne))) (IsPermutation-refl (without_numbered end (ends_at old number)))

  -- where no end has the number, the ends are the same
  middle_others : (number : ℕ) → ends_numbered old end number ≡ 0 → ends_at middle number ≡ ends_at old number
  middle_others number none = by_number (are_same_or_not number state)
    where
      by_number : (number ≡ state) ⊎ (number ≡ state → ⊥) → ends_at middle number ≡ ends_at old number
      by_number (inl same) = let none_here : ends_numbered old end state ≡ 0 = ap (ends_numbered old end) (sym same) ∙ none in let some = has in absurd (omega (arith, none_here, some))
      by_number (inr ne) = ap ends_in (removes.others number ne)

  -- and where it stands, the last one takes its place
  middle_left : ((spot : EndSpot) → StandsAt old end spot → spot ≡ record { state = state; place = place }) → (number at : ℕ) (gone : End) → slice_get (ends_at old number) at ≡ Some gone → gone.number ≡ end → ends_at middle number ≡ swap_remove (ends_at old number) at gone
  middle_left only number at gone stands its =
      let same = only (record { state = number; place = at }) (ap (option_map (λ (e : End). e.number)) stands ∙ ap (λ n. Some n) its) in
      let at_state : number ≡ state = ap (λ (spot : EndSpot). spot.state) same in
      let at_place : at ≡ place = ap (λ (spot : EndSpot). spot.place) same in
      let here : slice_get (ends_at old state) place ≡ Some gone = (λ i. slice_get (ends_at old (sym at_state i)) (sym at_place i)) ∙ stands in
      let one : Some removes.gone ≡ Some gone = sym removes.there ∙ here in
      let both : removes.gone ≡ gone = cc in
      ap (ends_at middle) at_state ∙ ends_here ∙ (λ i. swap_remove (ends_at old (sym at_state i)) (sym at_place i) (both i))

  -- the end stands at a state
  pub state_used : is_used old state ≡ true
  state_used = by_use (is_used old state) refl
    where
      by_use : (b : Bool) → is_used old state ≡ b → b ≡ true
      by_use true used = refl
      by_use false free = let none = none_unused old end state free in absurd (omega (arith, none, has))

  on : KeepsEntries old middle
  on number e is = middle_entry number ∙ is

  off : KeepsEntries middle old
  off number e is = sym (middle_entry number) ∙ is

  -- pruning begins at that state
  pub end_pruning : (prefix : Prefix) → IsAt old state prefix → IsPruning middle prefix state middle
  end_pruning prefix here = record {
    left = record { network = removes_end_network state place old middle removes network; stay = λ number used. refl; ends = λ number. refl; edges = λ number used. inl (edges_used middle (removes_end_network state place old middle removes network) number, refl); places = refl };
    here = at_kept old middle on state prefix here;
    apart = λ number other p at_number at_other. merged.apart number other p (at_kept middle old off number p at_number) (at_kept middle old off other p at_other);
    needed = λ number p at_number. by_use p (merged.needed number p (at_kept middle old off number p at_number));
    edges = λ number used apart. refl;
  }
    where
      by_use : (p : Prefix) → IsUsedBy old any_end p → (IsUsedBy middle any_end p) ⊎ (Contains (beginnings prefix) p)
      by_use p use' = by_number (are_same_or_not use'.last state)
        where
          by_number : (use'.last ≡ state) ⊎ (use'.last ≡ state → ⊥) → (IsUsedBy middle any_end p) ⊎ (Contains (beginnings prefix) p)
          by_number (inl same) = inr (subst (λ whole. Contains (beginnings whole) p) (at_one old state use'.whole prefix (subst (λ n. IsAt old n use'.whole) same use'.here) here) use'.begins)
          by_number (inr ne) = inl (record {
            last = use'.last;
            whole = use'.whole;
            here = at_kept old middle on use'.last use'.whole use'.here;
            ends = subst (λ ends. IsTrue (list_any any_end ends)) (sym (ap ends_in (removes.others use'.last ne))) use'.ends;
            begins = use'.begins;
          })

  -- and the states that it alone used
  module _ (new : Net) (pruned : IsPruned middle new) where
    new_entry : (number : ℕ) → IsTrue (is_used new number) → entrance_at new number ≡ entrance_at old number
    new_entry number used = pruned.left.stay number used ∙ middle_entry number

    new_keeps : KeepsEntries new old
    new_keeps number e is = let used : is_used new number ≡ true = sym (entry_there (state_at new number)) ∙ ap is_some is in sym (new_entry number used) ∙ is

    new_ends : (number : ℕ) → IsPermutation (ends_at new number) (without_numbered end (ends_at old number))
    new_ends number = permuted_from (pruned.left.ends number) (middle_ends number)

    used_before : (number : ℕ) → is_used new number ≡ true → is_used old number ≡ true
    used_before number used = sym (entry_there (state_at old number)) ∙ ap is_some (sym (new_entry number used)) ∙ entry_there (state_at new number) ∙ used

    at_new : (number : ℕ) (p : Prefix) → is_used new number ≡ true → IsAt old number p → IsAt new number p
    at_new number p used here =
        let place = pruned.left.network.places number used in
        subst (IsAt new number) (at_one old number place.0 p (at_kept new old new_keeps number place.0 place.1) here) place.1

    any_new : (number : ℕ) → list_any any_end (ends_at new number) ≡ list_any (other_end end) (ends_at old number)
    any_new number = list_any-IsPermutation any_end (ends_at new number) (without_numbered end (ends_at old number)) (new_ends number) ∙ any_left end (ends_at old number)

    -- an end stands at a state that is there
    used_by_ends : (number : ℕ) → IsTrue (list_any any_end (ends_at new number)) → is_used new number ≡ true
    used_by_ends number some = by_use (is_used new number) refl
      where
        by_use : (b : Bool) → is_used new number ≡ b → b ≡ true
        by_use true used = refl
        by_use false free = let no : false ≡ true = sym (ap (list_any any_end) (ends_none new number free)) ∙ some in cc

    states_are : (number : ℕ) (p : Prefix) → IsAt old number p → IsTrue (is_used new number) ↔ IsUsedBy old (other_end end) p
    states_are number p here = (fore, back)
      where
        fore : IsTrue (is_used new number) → IsUsedBy old (other_end end) p
        fore used =
            let use' = pruned.merged.needed number p (at_new number p used here) in
            record { last = use'.last; whole = use'.whole; here = at_kept new old new_keeps use'.last use'.whole use'.here; ends = sym (any_new use'.last) ∙ use'.ends; begins = use'.begins }

        back : IsUsedBy old (other_end end) p → IsTrue (is_used new number)
        back use' =
            let last_used = used_by_ends use'.last (any_new use'.last ∙ use'.ends) in
            let there = at_beginning new use'.last use'.whole p (at_new use'.last use'.whole last_used use'.here) use'.begins in
            let same = merged.apart there.0 number p (at_kept new old new_keeps there.0 p there.1) here in
            subst (λ n. IsTrue (is_used new n)) same (at_used new there.0 p there.1)

    counted_new : (number other : ℕ) → ends_numbered new other number ≡ with_number other (without_numbered end (ends_at old number))
    counted_new number other = sym (sum_by-IsPermutation (λ (e : End). bit (e.number == other)) (ends_at new number) (without_numbered end (ends_at old number)) (new_ends number))

    numbered_same : (number other : ℕ) → (other ≡ end → ⊥) → ends_numbered new other number ≡ ends_numbered old other number
    numbered_same number other ne = counted_new number other ∙ counted_other end other (ends_at old number) (λ e. ne (sym e))

    numbered_gone : (number : ℕ) → ends_numbered new end number ≡ 0
    numbered_gone number = counted_new number end ∙ counted_gone end (ends_at old number)

    gone_not : (number other : ℕ) → 1 ≤ ends_numbered new other number → other ≡ end → ⊥
    gone_not number other some same = let none : ends_numbered new other number ≡ 0 = ap (λ n. ends_numbered new n number) same ∙ numbered_gone number in absurd (omega (arith, none, some))

    ends_are : (other : ℕ) → HasEnd new other ↔ ((HasEnd old other) × (other ≢ end))
    ends_are other = (
      (λ (some : HasEnd new other). ((some.0, subst (λ n. 1 ≤ n) (numbered_same some.0 other (gone_not some.0 other some.1)) some.1), gone_not some.0 other some.1)),
      λ (some : (HasEnd old other) × (other ≢ end)). (some.0.0, subst (λ n. 1 ≤ n) (sym (numbered_same some.0.0 other some.1)) some.0.1),
    )

    -- the other lines keep their own numbers
    pub numbers_kept : HasOwnNumbers new
    numbers_kept = record {
      one = λ number at_state. elim (are_same_or_not number end) [
        | inl same ↦ (let none : ends_numbered new number at_state ≡ 0 = ap (λ n. ends_numbered new n at_state) same ∙ numbered_gone at_state in omega (arith, none))
        | inr ne ↦ subst (λ n. n ≤ 1) (sym (numbered_same at_state number ne)) (own.one number at_state)
      ];
      apart = λ number at_state other here there.
          own.apart number at_state other (subst (λ n. 1 ≤ n) (numbered_same at_state number (gone_not at_state number here)) here) (subst (λ n. 1 ≤ n) (numbered_same other number (gone_not other number there)) there);
    }

    endings_are : (endings : List Ending) → HasEndings old endings → HasEndings new (filter (other_ending end) endings)
    endings_are endings had = record {
      places = had.places;
      are_places = λ number used. at_new number (had.places number) used (had.are_places number (used_before number used));
      same = IsPermutation-trans _ _ _ left (filter_permuted (other_ending end) (endings_by had.places old) endings had.same);
    }
      where
        after : ℕ → List Ending
        after number = map (ending_at (had.places number)) (ends_at new number)

        before : ℕ → List Ending
        before number = map (ending_at (had.places number)) (ends_at old number)

        each : (number : ℕ) → IsPermutation (after number) (filter (other_ending end) (before number))
        each number =
            permuted_to (IsPermutation-map (ending_at (had.places number)) (ends_at new number) (without_numbered end (ends_at old number)) (new_ends number))
            (lines_left end (had.places number) (ends_at old number))

        left : IsPermutation (endings_by had.places new) (filter (other_ending end) (endings_by had.places old))
        left =
            permuted_from (ap (λ n. flat_map after (range_with_len 0 n)) (pruned.left.places ∙ removes.places))
            (permuted_to (each_permuted after (λ number. filter (other_ending end) (before number)) each (range_with_len 0 (length old)))
            (sym (filter-flat_map (other_ending end) before (range_with_len 0 (length old)))))

    edges_same : (ends : List End) (slot : Option State) → edges_in (with_ends ends slot) ≡ edges_in slot
    edges_same ends None = refl
    edges_same ends (Some present) = refl

    middle_edges : (number : ℕ) → edges_at middle number ≡ edges_at old number
    middle_edges = reads_alike edges_in old middle state (ap edges_in removes.here ∙ edges_same (swap_remove (ends_at old state) place removes.gone) (state_at old state)) removes.others

    -- so the line has left
    pub line_removed : ((spot : EndSpot) → StandsAt old end spot → spot ≡ record { state = state; place = place }) → Removes end old new
    line_removed only = record {
      stay = new_entry;
      states = states_are;
      endings = endings_are;
      edges_left = λ number used. subst (λ edges. AreLeft (is_used new) edges (edges_at new number)) (middle_edges number) (pruned.left.edges number used);
      other_ends = λ number none. pruned.left.ends number ∙ middle_others number none;
      ends_left = λ number at gone stands its. pruned.left.ends number ∙ middle_left only number at gone stands its;
      ends = ends_are;
    }

  -- the table stays while the end leaves
  pub middle_table : {S : Type 0} (table : HashMap ℕ ℕ S) → IsTable table old → IsTable table middle
  middle_table table is stream number =
      let same : root_at middle number ≡ root_at old number = ap (option_and_then root_by) (middle_entry number) in
      ((λ found. same ∙ (is stream number).0 found), λ root. (is stream number).1 (sym same ∙ root))
