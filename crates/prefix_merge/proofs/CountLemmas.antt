-- The states of a merged network, one for each distinct prefix of its lines.
use Rattle.std.proofs.Common.{◌≡◌, ◌≢◌, ◌⊎◌, ◌∙◌, ◌↔◌, sym, ap, refl, subst, inl, inr, ℕ, zero, suc, ◌+◌, ◌<◌, true, false, length, get_or, List, [], ◌∷◌, map, arith}
use Rattle.std.specs.Prelude.{All, AllPairs, Contains, Some, None, count_by, is_some}
use Rattle.std.specs.Option.{option_and_then}
use Rattle.std.proofs.lemmas.List.{get_or_default, length-map}
use Rattle.std.proofs.lemmas.List.Kept.{AllPairs-cons}
use Rattle.automaton.specs.declared.line.Line.{Line}
use Rattle.automaton.specs.NetworkLines.{HasLines}
use Rattle.automaton.specs.Networks.{IsAt}
use Rattle.automaton.specs.Prefixes.{Prefix, Root, After, prefixes}
use Rattle.automaton.specs.States.{Net, is_used, root_at, root_by, root_in}
use Rattle.automaton.proofs.CountLemmas.{bit, count-cons}
use Rattle.automaton.proofs.SlotLemmas.{at_one, at_used}
use Rattle.prefix_merge.specs.Counts.{ListPrefixes, is_root}
use Rattle.prefix_merge.specs.Laws.{ListsStates, StatesAreCounted, StatesAreListed}
use Rattle.prefix_merge.specs.Merging.{HasPrefix, IsMerged}
use Rattle.prefix_merge.proofs.ContainLemmas.{first_in, from_map, in_cases, in_map, later_in, no_longer, none_in}
use Rattle.prefix_merge.proofs.LawLemmas.{states_are}

-- the numbers of states, from a number on
abbrev pub numbers_from : Net → ℕ → List ℕ
numbers_from [] number = []
numbers_from (None ∷ net) number = numbers_from net (number + 1)
numbers_from (Some state ∷ net) number = number ∷ numbers_from net (number + 1)

numbers_count : (net : Net) (number : ℕ) → length (numbers_from net number) ≡ count_by is_some net
numbers_count [] number = refl
numbers_count (None ∷ net) number = let counted = count-cons is_some None net in let rest = numbers_count net (number + 1) in omega (arith, counted, rest)
numbers_count (Some state ∷ net) number = let counted = count-cons is_some (Some state) net in let rest = numbers_count net (number + 1) in omega (arith, counted, rest)

-- each is that of a state
numbers_used : (net : Net) (first number : ℕ) → Contains (numbers_from net first) number → (k : ℕ) × (number ≡ first + k) × (is_used net k ≡ true)
numbers_used [] first number has = absurd (none_in number has)
numbers_used (None ∷ net) first number has = let k = numbers_used net (first + 1) number has in (suc k.0, (let e = k.1 in omega (arith, e)), k.2)
numbers_used (Some state ∷ net) first number has = go (numbers_used net (first + 1) number) (in_cases first (numbers_from net (first + 1)) number has)
  where
    go : (Contains (numbers_from net (first + 1)) number → (k : ℕ) × (number ≡ first + 1 + k) × (is_used net k ≡ true)) → (number ≡ first) ⊎ (Contains (numbers_from net (first + 1)) number)
        → (k : ℕ) × (number ≡ first + k) × (is_used (Some state ∷ net) k ≡ true)
    go rest (inl same) = (0, omega (arith, same), refl)
    go rest (inr later) = let k = rest later in (suc k.0, (let e = k.1 in omega (arith, e)), k.2)

-- and each state's is there
used_number : (net : Net) (first k : ℕ) → is_used net k ≡ true → Contains (numbers_from net first) (first + k)
used_number [] first k used = let no : false ≡ true = used in cc
used_number (None ∷ net) first zero used = let no : false ≡ true = used in cc
used_number (None ∷ net) first (suc k) used = let e : first + 1 + k ≡ first + suc k = omega arith in subst (Contains (numbers_from net (first + 1))) e (used_number net (first + 1) k used)
used_number (Some state ∷ net) first zero used = let e : first ≡ first + 0 = omega arith in subst (Contains (first ∷ numbers_from net (first + 1))) e (first_in first (numbers_from net (first + 1)))
used_number (Some state ∷ net) first (suc k) used =
    let e : first + 1 + k ≡ first + suc k = omega arith in
    later_in first (numbers_from net (first + 1)) (first + suc k) (subst (Contains (numbers_from net (first + 1))) e (used_number net (first + 1) k used))

-- none comes twice
numbers_apart : (net : Net) (first : ℕ) → AllPairs (λ m n. m ≢ n) (numbers_from net first)
numbers_apart [] first = λ i j d lt below. absurd (omega (arith, below))
numbers_apart (None ∷ net) first = numbers_apart net (first + 1)
numbers_apart (Some state ∷ net) first =
    AllPairs-cons (λ m n. m ≢ n) first (numbers_from net (first + 1)) each (numbers_apart net (first + 1))
  where
    each : All (λ n. first ≢ n) (numbers_from net (first + 1))
    each k d lt same =
        let later = numbers_used net (first + 1) (get_or (numbers_from net (first + 1)) k d) (k, lt, get_or_default (numbers_from net (first + 1)) k _ d lt) in
        let e = later.1 in absurd (omega (arith, e, same))

map_read : {X Y : Type 0} (f : X → Y) (xs : List X) (k : ℕ) (d : Y) (e : X) → k < length xs → get_or (map f xs) k d ≡ f (get_or xs k e)
map_read f [] k d e lt = absurd (omega (arith, lt))
map_read f (x ∷ xs) zero d e lt = refl
map_read f (x ∷ xs) (suc k) d e lt = map_read f xs k d e (omega (arith, lt))

-- where a state stands for a root it is a root state, and else a waiting state
root_there : (net : Net) (number : ℕ) (prefix : Prefix) → IsAt net number prefix → is_root prefix ≡ is_some (root_at net number)
root_there net number (Root stream) here = sym (ap is_some here)
root_there net number (After prefix hop) here = sym (ap (λ entrance. is_some (option_and_then root_by entrance)) here.1)

-- as many of the prefixes of states are roots as there are root states
roots_count : (net : Net) (first : ℕ) (places : ℕ → Prefix) → ((k : ℕ) → is_used net k ≡ true → is_root (places (first + k)) ≡ is_some (root_at net k))
    → count_by is_root (map places (numbers_from net first)) ≡ count_by (λ slot. is_some (root_in slot)) net
roots_count [] first places roots = refl
roots_count (None ∷ net) first places roots =
    let rest = roots_count net (first + 1) places (λ k used. (let e : first + suc k ≡ first + 1 + k = omega arith in subst (λ n. is_root (places n) ≡ is_some (root_at net k)) e (roots (suc k) used))) in
    let counted = count-cons (λ slot. is_some (root_in slot)) None net in omega (arith, rest, counted)
roots_count (Some state ∷ net) first places roots =
    let rest = roots_count net (first + 1) places (λ k used. (let e : first + suc k ≡ first + 1 + k = omega arith in subst (λ n. is_root (places n) ≡ is_some (root_at net k)) e (roots (suc k) used))) in
    let here : is_root (places first) ≡ is_some (root_in (Some state)) = (let e : first + 0 ≡ first = omega arith in subst (λ n. is_root (places n) ≡ is_some (root_in (Some state))) e (roots 0 refl)) in
    let bits : bit (is_root (places first)) ≡ bit (is_some (root_in (Some state))) = ap bit here in
    let prefixes = count-cons is_root (places first) (map places (numbers_from net (first + 1))) in
    let slots = count-cons (λ slot. is_some (root_in slot)) (Some state) net in omega (arith, rest, bits, prefixes, slots)

module _ (net : Net) (lines : List Line) (merged : IsMerged net) (has : HasLines net lines) where
  -- the numbers of the states
  abbrev pub numbers : List ℕ
  numbers = numbers_from net 0

  -- their prefixes
  abbrev pub places : ℕ → Prefix
  places = has.1.places

  -- the prefixes of the states, in the order of their numbers
  abbrev pub states : List Prefix
  states = map places numbers

  -- a number of these is that of a state
  pub used_at : (number : ℕ) → Contains numbers number → is_used net number ≡ true
  used_at number has = let k = numbers_used net 0 number has in let e = k.1 in let e' : k.0 ≡ number = omega (arith, e) in subst (λ n. is_used net n ≡ true) e' k.2

  states_apart : AllPairs (λ prefix other. prefix ≢ other) states
  states_apart i j d lt below equal =
      let inside : j < length numbers = let len = length-map numbers places in omega (arith, below, len) in
      let inside' : i < length numbers = omega (arith, lt, inside) in
      let m = get_or numbers i 0 in
      let n = get_or numbers j 0 in
      let at_m = has.1.are_places m (used_at m (i, inside', get_or_default numbers i m 0 inside')) in
      let at_n = has.1.are_places n (used_at n (j, inside, get_or_default numbers j n 0 inside)) in
      let both : places m ≡ places n = sym (map_read places numbers i d 0 inside') ∙ equal ∙ map_read places numbers j d 0 inside in
      numbers_apart net 0 i j 0 lt inside (merged.apart m n (places m) at_m (subst (IsAt net n) (sym both) at_n))

  -- a state stands for each prefix of the lines, and for no other
  state_of : (prefix : Prefix) → HasPrefix net prefix ↔ Contains (prefixes lines) prefix
  state_of prefix = subst (λ (ls : List Line). HasPrefix net prefix ↔ Contains (prefixes ls) prefix) has.2 (states_are net has.0 merged has.1 prefix)

  states_same : (prefix : Prefix) → Contains states prefix ↔ Contains (prefixes lines) prefix
  states_same prefix = (fore, back)
    where
      fore : Contains states prefix → Contains (prefixes lines) prefix
      fore listed =
          let number = from_map places numbers prefix listed in
          (state_of prefix).0 (number.0, subst (IsAt net number.0) number.2 (has.1.are_places number.0 (used_at number.0 number.1)))

      back : Contains (prefixes lines) prefix → Contains states prefix
      back within =
          let state = (state_of prefix).1 within in
          let used = at_used net state.0 prefix state.1 in
          let e : 0 + state.0 ≡ state.0 = omega arith in
          let there = subst (Contains numbers) e (used_number net 0 state.0 used) in
          subst (Contains states) (at_one net state.0 (places state.0) prefix (has.1.are_places state.0 used) state.1) (in_map places numbers state.0 there)

  -- the prefixes of the states are those of the lines, each once
  pub states_distinct : ListPrefixes lines states
  states_distinct = record { apart = states_apart; same = states_same }

  states_length : count_by is_some net ≡ length states
  states_length = let len = length-map numbers places in let counted = numbers_count net 0 in omega (arith, len, counted)

  -- the prefixes of the states are distinct prefixes of the lines
  listed : ListsStates net lines
  listed = record {
    distinct = states;
    are = states_distinct;
    states = states_length;
    roots = sym (roots_count net 0 places (λ k used.
        (let e : k ≡ 0 + k = omega arith in subst (λ n. is_root (places n) ≡ is_some (root_at net k)) e (root_there net k (places k) (has.1.are_places k used)))));
  }

  -- any distinct prefixes of the lines are as many
  counted : (distinct : List Prefix) → ListPrefixes lines distinct → count_by is_some net ≡ length distinct
  counted distinct are =
      let most = no_longer states distinct states_apart (λ prefix listed. (are.same prefix).1 ((states_same prefix).0 listed)) in
      let least = no_longer distinct states are.apart (λ prefix listed. (states_same prefix).1 ((are.same prefix).0 listed)) in
      let len = states_length in omega (arith, most, least, len)

-- a merged network has as many states as its lines have distinct prefixes
pub states_are_counted : StatesAreCounted
states_are_counted net lines distinct merged has are = counted net lines merged has distinct are

-- and there are such prefixes, as many roots among them as it has root states
pub states_are_listed : StatesAreListed
states_are_listed net lines merged has = listed net lines merged has
