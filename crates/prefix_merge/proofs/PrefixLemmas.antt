-- States that stand for prefixes, and the prefixes with which a prefix begins.
use Rattle.std.proofs.Common.{◌≡◌, ◌⊎◌, ◌∙◌, sym, ap, refl, subst, inl, inr, ℕ, zero, suc, get_or, ◌+◌, ◌<◌, List, [], ◌∷◌, ◌++◌, take, arith}
use Rattle.std.specs.Prelude.{Contains, Option, Some, None, slice_get}
use Rattle.std.specs.Option.{option_and_then}
use Rattle.std.proofs.lemmas.List.Elements.{Contains-append_cases, Contains-append_left, Contains-append_right}
use Rattle.automaton.specs.declared.line.Hop.{Hop}
use Rattle.automaton.specs.declared.network.Entrance.{Entrance}
use Rattle.automaton.specs.declared.network.Entrance.TheVariants as entrance
use Rattle.automaton.specs.Networks.{IsAt}
use Rattle.automaton.specs.Prefixes.{Prefix, Root, After, beginnings, extended}
use Rattle.automaton.specs.States.{Net, root_by}
use Rattle.automaton.proofs.EqualityLemmas.{take_read}
use Rattle.automaton.proofs.PlaceLemmas.{extended-push}
use Rattle.prefix_merge.specs.Merging.{HasPrefix}

-- a root state isn't entered from another
pub root_or_waiting : (o : Option Entrance) (stream before : ℕ) (hop : Hop) → option_and_then root_by o ≡ Some stream → o ≡ Some (entrance.Waiting before hop) → ⊥
root_or_waiting o stream before hop root waiting = let none : option_and_then root_by o ≡ None = ap (option_and_then root_by) waiting in cc

last_item : {X : Type 0} (xs : List X) (x : X) → Contains (xs ++ x ∷ []) x
last_item xs x = Contains-append_right xs (x ∷ []) x (0, omega arith, refl)

only_item : {X : Type 0} (x y : X) → Contains (x ∷ []) y → y ≡ x
only_item x y has = go has.0 has.1 has.2
  where
    go : (k : ℕ) → k < 1 → get_or (x ∷ []) k y ≡ y → y ≡ x
    go zero lt is = sym is
    go (suc k) lt is = absurd (omega (arith, lt))

-- a prefix begins with itself
pub begins_itself : (prefix : Prefix) → Contains (beginnings prefix) prefix
begins_itself (Root stream) = (0, omega arith, refl)
begins_itself (After prefix hop) = last_item (beginnings prefix) (After prefix hop)

-- with a hop more it begins with the same prefixes and itself
pub begins_before : (prefix : Prefix) (hop : Hop) (first : Prefix) → Contains (beginnings prefix) first → Contains (beginnings (After prefix hop)) first
begins_before prefix hop first = Contains-append_left (beginnings prefix) (After prefix hop ∷ []) first

-- a beginning of a longer prefix is one of the shorter, or it itself
pub begins_cases : (prefix : Prefix) (hop : Hop) (first : Prefix) → Contains (beginnings (After prefix hop)) first → (Contains (beginnings prefix) first) ⊎ (first ≡ After prefix hop)
begins_cases prefix hop first has = elim (Contains-append_cases (beginnings prefix) (After prefix hop ∷ []) first has) [ inl before ↦ inl before | inr last ↦ inr (only_item (After prefix hop) first last) ]

-- the beginning of a root is the root
pub begins_root : (stream : ℕ) (first : Prefix) → Contains (beginnings (Root stream)) first → first ≡ Root stream
begins_root stream first = only_item (Root stream) first

-- where a prefix has a state, each of its beginnings has one
pub at_beginning : (net : Net) (number : ℕ) (whole prefix : Prefix) → IsAt net number whole → Contains (beginnings whole) prefix → HasPrefix net prefix
at_beginning net number (Root stream) prefix here has = (number, subst (IsAt net number) (sym (begins_root stream prefix has)) here)
at_beginning net number (After whole hop) prefix here has =
    go (at_beginning net here.0 whole prefix here.2) (begins_cases whole hop prefix has)
  where
    go : (Contains (beginnings whole) prefix → HasPrefix net prefix) → (Contains (beginnings whole) prefix) ⊎ (prefix ≡ After whole hop) → HasPrefix net prefix
    go before (inl earlier) = before earlier
    go before (inr same) = (number, subst (IsAt net number) (sym same) here)

-- one hop more
pub one_hop_more : (first : Prefix) (hops : List Hop) (place : ℕ) (hop : Hop) → slice_get hops place ≡ Some hop → extended first (take (place + 1) hops) ≡ After (extended first (take place hops)) hop
one_hop_more first hops place hop is = ap (extended first) (take_read hops place hop is) ∙ extended-push first (take place hops) hop
