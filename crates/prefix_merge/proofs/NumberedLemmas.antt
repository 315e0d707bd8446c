-- Ends that have a number, and those that don't.
use Rattle.std.proofs.Common.{◌≡◌, ◌⊎◌, ◌∙◌, sym, ap, refl, inl, inr, ℕ, zero, suc, ◌+◌, ◌<◌, ◌≤◌, ◌==◌, Bool, true, false, not, ◌||◌, cond, length, length-append, get_or, take, List, [], ◌∷◌, ◌++◌, map, append-nil, arith}
use Rattle.std.specs.Prelude.{Option, Some, None, count_by, slice_get}
use Rattle.std.specs.List.{filter, list_any, swap_remove}
use Rattle.std.specs.List.Sorted.{IsPermutation}
use Rattle.std.specs.Option.{option_map}
use Rattle.std.proofs.lemmas.List.{get_or-take, length-take, take_all, take_more}
use Rattle.std.proofs.lemmas.List.Elements.{filter-append}
use Rattle.std.proofs.lemmas.List.Sorted.{sum_by-IsPermutation, IsPermutation-sym}
use Rattle.std.proofs.Math.ListN.{get_or-append}
use Rattle.std.proofs.Math.Seq.{get_or-append_seam}
use Rattle.std.proofs.lemmas.Bool.{cases_lt}
use Rattle.std.proofs.lemmas.Option.{get_or_from_slice_get, slice_get-get_or, slice_get_past, slice_get_within}
use Rattle.automaton.specs.declared.network.End.{End}
use Rattle.automaton.specs.declared.network.State.{State}
use Rattle.automaton.specs.Changes.{with_ends}
use Rattle.automaton.specs.NetworkLines.{Ending, ending_at}
use Rattle.automaton.specs.Prefixes.{Prefix}
use Rattle.automaton.specs.States.{Net, ends_at, ends_in}
use Rattle.automaton.proofs.CountLemmas.{bit, count-cons, count-has}
use Rattle.event_types.proofs.NumberLemmas.{is_other, is_same, same_number}
use Rattle.scalar_expr.proofs.Bags.{filter_permuted, permuted_to}
use Rattle.prefix_merge.specs.Insertion.{without_numbered}
use Rattle.prefix_merge.specs.Merging.{HasEnd, number_at}
use Rattle.prefix_merge.proofs.GrowthLemmas.{any_end}
use Rattle.prefix_merge.proofs.SwapLemmas.{swapped_all}

-- how many of some ends have a number
abbrev pub with_number : ℕ → List End → ℕ
with_number number ends = count_by (λ (end : End). end.number == number) ends

-- whether an end has another number
abbrev pub other_end : ℕ → End → Bool
other_end number end = not (end.number == number)

-- the number of the end at a place
abbrev pub number_in : List End → ℕ → Option ℕ
number_in ends place = option_map (λ (end : End). end.number) (slice_get ends place)

-- ends without those of a number
pub none_numbered : (number : ℕ) (ends : List End) → with_number number ends ≡ 0 → without_numbered number ends ≡ ends
none_numbered number [] none = refl
none_numbered number (end ∷ ends) none = go (none_numbered number ends) (end.number == number) refl
  where
    go : (with_number number ends ≡ 0 → without_numbered number ends ≡ ends) → (b : Bool) → (end.number == number) ≡ b → cond (not b) (end ∷ without_numbered number ends) (without_numbered number ends) ≡ end ∷ ends
    go rest true is =
        let counted = count-cons (λ (e : End). e.number == number) end ends in let one : bit (end.number == number) ≡ 1 = ap bit is in absurd (omega (arith, none, counted, one))
    go rest false is = let counted = count-cons (λ (e : End). e.number == number) end ends in ap (λ es. end ∷ es) (rest (omega (arith, none, counted)))

pub counted_other : (number other : ℕ) (ends : List End) → (number ≡ other → ⊥) → with_number other (without_numbered number ends) ≡ with_number other ends
counted_other number other [] ne = refl
counted_other number other (end ∷ ends) ne = go (counted_other number other ends ne) (end.number == number) refl ∙ sym (count-cons (λ (e : End). e.number == other) end ends)
  where
    go : with_number other (without_numbered number ends) ≡ with_number other ends → (b : Bool) → (end.number == number) ≡ b
        → with_number other (cond (not b) (end ∷ without_numbered number ends) (without_numbered number ends)) ≡ bit (end.number == other) + with_number other ends
    go rest true is =
        let same = same_number end.number number is in
        let zero' : bit (end.number == other) ≡ 0 = ap bit (is_other end.number other (λ e. ne (sym same ∙ e))) in
        omega (arith, rest, zero')
    go rest false is = count-cons (λ (e : End). e.number == other) end (without_numbered number ends) ∙ ap (λ n. bit (end.number == other) + n) rest

pub counted_gone : (number : ℕ) (ends : List End) → with_number number (without_numbered number ends) ≡ 0
counted_gone number [] = refl
counted_gone number (end ∷ ends) = go (counted_gone number ends) (end.number == number) refl
  where
    go : with_number number (without_numbered number ends) ≡ 0 → (b : Bool) → (end.number == number) ≡ b → with_number number (cond (not b) (end ∷ without_numbered number ends) (without_numbered number ends)) ≡ 0
    go rest true is = rest
    go rest false is =
        let counted = count-cons (λ (e : End). e.number == number) end (without_numbered number ends) in
        let zero' : bit (end.number == number) ≡ 0 = ap bit is in
        omega (arith, rest, counted, zero')

-- some end is left where one has another number
pub any_left : (number : ℕ) (ends : List End) → list_any any_end (without_numbered number ends) ≡ list_any (other_end number) ends
any_left number [] = refl
any_left number (end ∷ ends) = go (any_left number ends) (not (end.number == number))
  where
    go : list_any any_end (without_numbered number ends) ≡ list_any (other_end number) ends → (b : Bool) → list_any any_end (cond b (end ∷ without_numbered number ends) (without_numbered number ends)) ≡ (b || list_any (other_end number) ends)
    go rest true = refl
    go rest false = rest

-- the lines of the ends but that of a number
abbrev pub other_ending : ℕ → Ending → Bool
other_ending number ending = not (ending.number == number)

pub lines_left : (number : ℕ) (prefix : Prefix) (ends : List End) → map (ending_at prefix) (without_numbered number ends) ≡ filter (other_ending number) (map (ending_at prefix) ends)
lines_left number prefix [] = refl
lines_left number prefix (end ∷ ends) = go (lines_left number prefix ends) (not (end.number == number))
  where
    go : map (ending_at prefix) (without_numbered number ends) ≡ filter (other_ending number) (map (ending_at prefix) ends) → (b : Bool)
        → map (ending_at prefix) (cond b (end ∷ without_numbered number ends) (without_numbered number ends))
        ≡ cond b (ending_at prefix end ∷ filter (other_ending number) (map (ending_at prefix) ends)) (filter (other_ending number) (map (ending_at prefix) ends))
    go rest true = ap (λ es. ending_at prefix end ∷ es) rest
    go rest false = rest

-- an end that has a number, and its place
pub record Stands (number : ℕ) (ends : List End) (place : ℕ) : Type 0 where
  pub end : End
  pub there : slice_get ends place ≡ Some end
  pub its : end.number ≡ number

-- the end that is told stands there
pub end_there : (number : ℕ) (ends : List End) (place : ℕ) → number_in ends place ≡ Some number → Stands number ends place
end_there number ends place told = go (slice_get ends place) refl told
  where
    go : (o : Option End) → slice_get ends place ≡ o → option_map (λ (end : End). end.number) o ≡ Some number → Stands number ends place
    go None is told = absurd (let no : ◌≡◌ {A = Option ℕ} None (Some number) = told in cc)
    go (Some end) is told = record { end = end; there = is; its = (let same : ◌≡◌ {A = Option ℕ} (Some end.number) (Some number) = told in cc) }

-- an end that stands there is counted
pub there_counted : (number : ℕ) (ends : List End) (place : ℕ) → number_in ends place ≡ Some number → 1 ≤ with_number number ends
there_counted number ends place told =
    let stands = end_there number ends place told in
    let inside = slice_get_within ends place stands.end stands.there in
    let is = get_or_from_slice_get ends place stands.end stands.end stands.there in
    count-has (λ (end : End). end.number == number) ends place stands.end inside (is_same (get_or ends place stands.end).number number (ap (λ (end : End). end.number) is ∙ stands.its))

-- one that is counted stands somewhere
pub counted_there : (number : ℕ) (ends : List End) → 1 ≤ with_number number ends → (place : ℕ) × (number_in ends place ≡ Some number)
counted_there number [] some = absurd (omega (arith, some))
counted_there number (end ∷ ends) some = go (counted_there number ends) (end.number == number) refl
  where
    go : (1 ≤ with_number number ends → (place : ℕ) × (number_in ends place ≡ Some number)) → (b : Bool) → (end.number == number) ≡ b → (place : ℕ) × (number_in (end ∷ ends) place ≡ Some number)
    go rest true is = (0, ap (λ n. Some n) (same_number end.number number is))
    go rest false is =
        let counted = count-cons (λ (e : End). e.number == number) end ends in
        let zero' : bit (end.number == number) ≡ 0 = ap bit is in
        let later = rest (omega (arith, some, counted, zero')) in
        (suc later.0, later.1)

-- an end more
module _ (ends : List End) (end : End) where
  -- stands behind the others
  pub pushed_here : number_in (ends ++ end ∷ []) (length ends) ≡ Some end.number
  pushed_here =
      let longer = length-append ends (end ∷ []) in
      ap (option_map (λ (e : End). e.number)) (slice_get-get_or (ends ++ end ∷ []) (length ends) end (omega (arith, longer)) ∙ ap (λ e. Some e) (get_or-append_seam ends end [] end))

  -- which stand where they stood
  pub pushed_else : (place : ℕ) → (place ≡ length ends → ⊥) → number_in (ends ++ end ∷ []) place ≡ number_in ends place
  pushed_else place other = ap (option_map (λ (e : End). e.number)) (by_order (cases_lt place (length ends)))
    where
      longer : length (ends ++ end ∷ []) ≡ length ends + 1
      longer = length-append ends (end ∷ [])

      by_order : (place < length ends) ⊎ (length ends ≤ place) → slice_get (ends ++ end ∷ []) place ≡ slice_get ends place
      by_order (inl lt) =
          slice_get-get_or (ends ++ end ∷ []) place end (let more = longer in omega (arith, lt, more)) ∙ ap (λ e. Some e) (get_or-append ends (end ∷ []) end place lt)
          ∙ sym (slice_get-get_or ends place end lt)
      by_order (inr le) = slice_get_past (ends ++ end ∷ []) place (let more = longer in omega (arith, le, other, more)) ∙ sym (slice_get_past ends place le)

-- behind the ends none stands
pub none_behind : (ends : List End) (place : ℕ) → length ends ≤ place → number_in ends place ≡ None
none_behind ends place past = ap (option_map (λ (end : End). end.number)) (slice_get_past ends place past)

-- an end that is told stands before the end of the list
pub told_inside : (number : ℕ) (ends : List End) (place : ℕ) → number_in ends place ≡ Some number → place < length ends
told_inside number ends place told = let stands = end_there number ends place told in slice_get_within ends place stands.end stands.there

-- without the ends of a number, where none but the last has it
pub last_left : (number place : ℕ) (gone : End) (ends : List End) → slice_get ends place ≡ Some gone → gone.number ≡ number → ((k : ℕ) → number_in ends k ≡ Some number → k + 1 ≡ length ends) → without_numbered number ends ≡ take place ends
last_left number place gone ends there its last =
    ap (without_numbered number) whole ∙ filter-append (other_end number) (take place ends) (gone ∷ [])
    ∙ (λ i. none_numbered number (take place ends) (none (with_number number (take place ends)) refl) i ++ cond (not (is_same gone.number number its i)) (gone ∷ []) []) ∙ append-nil (take place ends)
  where
    ends_there : place + 1 ≡ length ends
    ends_there = last place (ap (option_map (λ (end : End). end.number)) there ∙ ap (λ n. Some n) its)

    whole : ends ≡ take place ends ++ gone ∷ []
    whole =
        sym (take_all (place + 1) ends (let is = ends_there in omega (arith, is))) ∙ take_more ends place gone (slice_get_within ends place gone there)
        ∙ ap (λ e. take place ends ++ e ∷ []) (get_or_from_slice_get ends place gone gone there)

    none : (n : ℕ) → with_number number (take place ends) ≡ n → with_number number (take place ends) ≡ 0
    none zero is = is
    none (suc n) is =
        let k = counted_there number (take place ends) (omega (arith, is)) in
        let inside = told_inside number (take place ends) k.0 k.1 in
        let short = length-take place ends in
        let below : k.0 < place = omega (arith, inside, short) in
        let end = ends_there in
        let same : number_in ends k.0 ≡ number_in (take place ends) k.0 = ap (option_map (λ (e : End). e.number))
        (slice_get-get_or ends k.0 gone (omega (arith, below, end)) ∙ ap (λ e. Some e) (sym (get_or-take place ends k.0 gone below)) ∙ sym (slice_get-get_or (take place ends) k.0 gone inside)) in
        let at = last k.0 (same ∙ k.1) in absurd (omega (arith, at, below, end))

-- what is left where the only end of a number leaves, and the last takes its place, are the others
pub others_left : (number place : ℕ) (gone : End) (ends : List End) → slice_get ends place ≡ Some gone → gone.number ≡ number → with_number number ends ≤ 1 → IsPermutation (swap_remove ends place gone) (without_numbered number ends)
others_left number place gone ends there its one = IsPermutation-sym (without_numbered number ends) left (permuted_to kept (rest_is ∙ none_numbered number left none))
  where
    left : List End
    left = swap_remove ends place gone

    all : IsPermutation ends (gone ∷ left)
    all = swapped_all ends place gone there

    has : (gone.number == number) ≡ true
    has = is_same gone.number number its

    none : with_number number left ≡ 0
    none =
        let same = sum_by-IsPermutation (λ (end : End). bit (end.number == number)) ends (gone ∷ left) all in
        let counted = count-cons (λ (end : End). end.number == number) gone left in
        let its_one : bit (gone.number == number) ≡ 1 = ap bit has in omega (arith, one, same, counted, its_one)

    kept : IsPermutation (without_numbered number ends) (without_numbered number (gone ∷ left))
    kept = filter_permuted (other_end number) ends (gone ∷ left) all

    rest_is : without_numbered number (gone ∷ left) ≡ without_numbered number left
    rest_is = ap (λ b. cond (not b) (gone ∷ without_numbered number left) (without_numbered number left)) has

-- the number of an end at a state, and where it stands
pub has_there : (net : Net) (number : ℕ) → HasEnd net number → (state : ℕ) × (place : ℕ) × (number_at net state place ≡ Some number)
has_there net number has = let place = counted_there number (ends_at net has.0) has.1 in (has.0, place.0, place.1)

pub there_has : (net : Net) (number state place : ℕ) → number_at net state place ≡ Some number → HasEnd net number
there_has net number state place there = (state, there_counted number (ends_at net state) place there)

-- a state with other ends, where one stood
pub ends_put : (ends : List End) (slot : Option State) (place : ℕ) (end : End) → slice_get (ends_in slot) place ≡ Some end → ends_in (with_ends ends slot) ≡ ends
ends_put ends None place end there = let inside = slice_get_within [] place end there in absurd (omega (arith, inside))
ends_put ends (Some state) place end there = refl
