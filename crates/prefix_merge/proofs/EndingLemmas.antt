-- The lines of the ends of a network that an end comes to.
use Rattle.std.proofs.Common.{◌≡◌, ◌⊎◌, ◌∙◌, ◌↔◌, sym, ap, refl, subst, inl, inr, ℕ, zero, suc, ◌+◌, ◌-◌, ◌<◌, ◌≤◌, ◌==◌, Bool, true, false, length, List, [], ◌∷◌, ◌++◌, map, add-zero, append-nil, arith}
use Rattle.std.specs.Prelude.{Option, count_by}
use Rattle.std.specs.List.{flat_map, range_with_len}
use Rattle.std.specs.List.Sorted.{IsPermutation}
use Rattle.std.proofs.lemmas.List.{get_or_past, map-append}
use Rattle.std.proofs.lemmas.List.Sorted.{IsPermutation-append_left, IsPermutation-trans}
use Rattle.automaton.specs.declared.line.Line.{Line}
use Rattle.automaton.specs.declared.network.End.{End}
use Rattle.automaton.specs.NetworkLines.{ArePlaces, Ending, HasEndings, ending_at, endings_by}
use Rattle.automaton.specs.Networks.{IsAt, IsNetwork}
use Rattle.automaton.specs.Prefixes.{Prefix, Root, path}
use Rattle.automaton.specs.States.{Net, ends_at, ends_in, is_used, state_at}
use Rattle.automaton.proofs.ChangeLemmas.{nothing_there}
use Rattle.automaton.proofs.CountLemmas.{bit, count-push, range_more, range-push}
use Rattle.event_types.proofs.NumberLemmas.{is_other, is_same}
use Rattle.automaton.proofs.NumberLemmas.{are_same_or_not}
use Rattle.automaton.proofs.PlaceLemmas.{path-ending}
use Rattle.automaton.proofs.SlotLemmas.{at_kept, at_one, at_used, used_below}
use Rattle.prefix_merge.specs.Growth.{end_of}
use Rattle.prefix_merge.specs.Merging.{HasEnd, HasOwnNumbers, ends_numbered}
use Rattle.prefix_merge.proofs.StartLemmas.{HasGrown, stay_keeps}

-- the prefixes of the states of a network
module _ (net : Net) (is : IsNetwork net) where
  -- the prefix of a state, where there is one
  abbrev pub place_of : (number : ℕ) (b : Bool) → is_used net number ≡ b → Prefix
  place_of number true used = (is.places number used).0
  place_of number false free = Root 0

  place_is : (number : ℕ) (b : Bool) (e : is_used net number ≡ b) → b ≡ true → IsAt net number (place_of number b e)
  place_is number true used so = (is.places number used).1
  place_is number false free so = cc

  -- the prefix at each number
  abbrev pub places_of : ℕ → Prefix
  places_of number = place_of number (is_used net number) refl

  -- which are the places of the network
  pub are_places_of : ArePlaces net places_of
  are_places_of number used = place_is number (is_used net number) refl used

-- no ends stand where no state is
pub ends_none : (net : Net) (number : ℕ) → is_used net number ≡ false → ends_at net number ≡ []
ends_none net number free = ap ends_in (nothing_there (state_at net number) free)

-- past the last place there are no ends
pub ends_past : (net : Net) (number : ℕ) → length net ≤ number → ends_at net number ≡ []
ends_past net number past = ap ends_in (get_or_past net number _ past)

-- more numbers at which nothing stands
pub range_longer : {X : Type 0} (f : ℕ → List X) (m k : ℕ) → ((n : ℕ) → m ≤ n → f n ≡ []) → flat_map f (range_with_len 0 (m + k)) ≡ flat_map f (range_with_len 0 m)
range_longer f m zero none = ap (λ n. flat_map f (range_with_len 0 n)) (add-zero m)
range_longer f m (suc k) none =
    (let e : m + suc k ≡ suc (m + k) = omega arith in ap (λ n. flat_map f (range_with_len 0 n)) e) ∙ range-push f 0 (m + k)
    ∙ (λ i. range_longer f m k none i ++ none (0 + (m + k)) (omega arith) i) ∙ append-nil (flat_map f (range_with_len 0 m))

-- an end more among the ends of a state
more_numbered : (ends : List End) (end : End) (number : ℕ) → count_by (λ (e : End). e.number == number) (ends ++ end ∷ []) ≡ count_by (λ (e : End). e.number == number) ends + bit (end.number == number)
more_numbered ends end number = count-push (λ (e : End). e.number == number) ends end

module _ (old base new : Net) (line : Line) (end : ℕ) (birth : Option ℕ) (grown : HasGrown old base (path line) (end_of line end birth) new) where
  numbered_last : (number : ℕ) → ends_numbered new number grown.last ≡ ends_numbered old number grown.last + bit (end == number)
  numbered_last number = ap (count_by (λ (e : End). e.number == number)) grown.more ∙ more_numbered (ends_at old grown.last) (end_of line end birth) number

  numbered_other : (number state : ℕ) → (state ≡ grown.last → ⊥) → ends_numbered new number state ≡ ends_numbered old number state
  numbered_other number state ne = ap (count_by (λ (e : End). e.number == number)) (grown.others state ne)

  numbered_same : (number state : ℕ) → (number ≡ end → ⊥) → ends_numbered new number state ≡ ends_numbered old number state
  numbered_same number state ne = by_number (are_same_or_not state grown.last)
    where
      by_number : (state ≡ grown.last) ⊎ (state ≡ grown.last → ⊥) → ends_numbered new number state ≡ ends_numbered old number state
      by_number (inl same) =
          let zero' : bit (end == number) ≡ 0 = ap bit (is_other end number (λ e. ne (sym e))) in
          let at_last = numbered_last number in
          subst (λ n. ends_numbered new number n ≡ ends_numbered old number n) (sym same) (omega (arith, at_last, zero'))
      by_number (inr other) = numbered_other number state other

  new_has : HasEnd new end
  new_has = (grown.last, (let at_last = numbered_last end in let one : bit (end == end) ≡ 1 = ap bit (is_same end end refl) in omega (arith, at_last, one)))

  -- the numbers of the ends are the old ones and this one
  pub ends_are : (other : ℕ) → HasEnd new other ↔ ((HasEnd old other) ⊎ (other ≡ end))
  ends_are other = by_number (are_same_or_not other end)
    where
      by_number : (other ≡ end) ⊎ (other ≡ end → ⊥) → HasEnd new other ↔ ((HasEnd old other) ⊎ (other ≡ end))
      by_number (inl same) = (λ has. inr same, λ has. subst (HasEnd new) (sym same) new_has)
      by_number (inr ne) = (
        (λ (has : HasEnd new other). inl (has.0, subst (λ n. 1 ≤ n) (numbered_same other has.0 ne) has.1)),
        λ has. elim has [
          | inl was ↦ (was.0, subst (λ n. 1 ≤ n) (sym (numbered_same other was.0 ne)) was.1)
          | inr same ↦ absurd (ne same)
        ],
      )

  module _ (fresh : HasEnd old end → ⊥) where
    none_had : (state : ℕ) → ends_numbered old end state ≡ 0
    none_had state = by_count (ends_numbered old end state) refl
      where
        by_count : (n : ℕ) → ends_numbered old end state ≡ n → n ≡ 0
        by_count zero is = refl
        by_count (suc n) is = absurd (fresh (state, omega (arith, is)))

    only_last : (state : ℕ) → 1 ≤ ends_numbered new end state → state ≡ grown.last
    only_last state has = by_number (are_same_or_not state grown.last)
      where
        by_number : (state ≡ grown.last) ⊎ (state ≡ grown.last → ⊥) → state ≡ grown.last
        by_number (inl same) = same
        by_number (inr other) = let none = numbered_other end state other ∙ none_had state in absurd (omega (arith, has, none))

    -- no two ends have one number still
    pub own_numbers : HasOwnNumbers old → HasOwnNumbers new
    own_numbers own = record {
      one = λ number state. elim (are_same_or_not number end) [ inl same ↦ one_new number state same | inr ne ↦ subst (λ n. n ≤ 1) (sym (numbered_same number state ne)) (own.one number state) ];
      apart = λ number state other here there. elim (are_same_or_not number end) [
        | inl same ↦ only_last state (subst (λ n. 1 ≤ ends_numbered new n state) same here) ∙ sym (only_last other (subst (λ n. 1 ≤ ends_numbered new n other) same there))
        | inr ne ↦ own.apart number state other (subst (λ n. 1 ≤ n) (numbered_same number state ne) here) (subst (λ n. 1 ≤ n) (numbered_same number other ne) there)
      ];
    }
      where
        one_new : (number state : ℕ) → number ≡ end → ends_numbered new number state ≤ 1
        one_new number state same = by_number (are_same_or_not state grown.last)
          where
            by_number : (state ≡ grown.last) ⊎ (state ≡ grown.last → ⊥) → ends_numbered new number state ≤ 1
            by_number (inl at) =
                let at_last = numbered_last end in
                let none = none_had grown.last in
                let one : bit (end == end) ≡ 1 = ap bit (is_same end end refl) in
                let counted : ends_numbered new number state ≡ ends_numbered new end grown.last = λ i. ends_numbered new (same i) (at i) in omega (arith, at_last, none, one, counted)
            by_number (inr other) = let none : ends_numbered new number state ≡ 0 = ap (λ n. ends_numbered new n state) same ∙ numbered_other end state other ∙ none_had state in omega (arith, none)

  -- the endings are the old ones and the line's
  pub endings_are : IsNetwork new → (endings : List Ending) → HasEndings old endings → HasEndings new (endings ++ record { line = line; number = end; birth = birth } ∷ [])
  endings_are network endings had = record {
    places = places;
    are_places = are;
    same = subst (IsPermutation (endings_by places new)) (ap (λ e. endings ++ e ∷ []) its)
        (IsPermutation-trans _ _ _ more (IsPermutation-append_left (its_ending ∷ []) (endings_by had.places old) endings had.same));
  }
    where
      places : ℕ → Prefix
      places = places_of new network

      are : ArePlaces new places
      are = are_places_of new network

      its_ending : Ending
      its_ending = ending_at (places grown.last) (end_of line end birth)

      last_place : places grown.last ≡ path line
      last_place = at_one new grown.last (places grown.last) (path line) (are grown.last (at_used new grown.last (path line) grown.here)) grown.here

      its : its_ending ≡ record { line = line; number = end; birth = birth }
      its = ap (λ p. ending_at p (end_of line end birth)) last_place ∙ path-ending line end birth

      after : ℕ → List Ending
      after number = map (ending_at (places number)) (ends_at new number)

      before : ℕ → List Ending
      before number = map (ending_at (had.places number)) (ends_at old number)

      same_places : (number : ℕ) → map (ending_at (places number)) (ends_at old number) ≡ before number
      same_places number = by_use (is_used old number) refl
        where
          by_use : (b : Bool) → is_used old number ≡ b → map (ending_at (places number)) (ends_at old number) ≡ before number
          by_use true used =
              let there = at_kept old new (stay_keeps old new grown.stay) number (had.places number) (had.are_places number used) in
              ap (λ p. map (ending_at p) (ends_at old number)) (at_one new number (places number) (had.places number) (are number (at_used new number (had.places number) there)) there)
          by_use false free = ap (map (ending_at (places number))) (ends_none old number free) ∙ sym (ap (map (ending_at (had.places number))) (ends_none old number free))

      at_last : after grown.last ≡ before grown.last ++ its_ending ∷ []
      at_last =
          ap (map (ending_at (places grown.last))) grown.more ∙ map-append (ending_at (places grown.last)) (ends_at old grown.last) (end_of line end birth ∷ [])
          ∙ ap (λ es. es ++ its_ending ∷ []) (same_places grown.last)

      at_other : (number : ℕ) → (number ≡ grown.last → ⊥) → after number ≡ before number
      at_other number ne = ap (map (ending_at (places number))) (grown.others number ne) ∙ same_places number

      last_inside : grown.last < length new
      last_inside = used_below new grown.last (at_used new grown.last (path line) grown.here)

      shorter : flat_map before (range_with_len 0 (length new)) ≡ endings_by had.places old
      shorter =
          let longer = grown.longer in
          let e : length new ≡ length old + (length new - length old) = omega (arith, longer) in
          ap (λ n. flat_map before (range_with_len 0 n)) e
          ∙ range_longer before (length old) (length new - length old) (λ n past. ap (map (ending_at (had.places n))) (ends_past old n past))

      more : IsPermutation (endings_by places new) (endings_by had.places old ++ its_ending ∷ [])
      more =
          subst (λ es. IsPermutation (endings_by places new) (es ++ its_ending ∷ [])) shorter
          (range_more before after grown.last its_ending at_last at_other 0 (length new) (omega arith) (omega (arith, last_inside)))
