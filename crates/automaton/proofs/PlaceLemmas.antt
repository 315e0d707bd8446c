-- The prefixes of states and the lines of ends, where a network gets one more state or one more end.
use Rattle.std.proofs.Common.{◌≡◌, ◌⊎◌, ◌∙◌, sym, ap, refl, subst, inl, inr, ℕ, suc, ◌+◌, ◌<◌, ◌==◌, true, cond, length, List, [], ◌∷◌, ◌++◌, map, append_assoc, append-nil, arith}
use Rattle.std.specs.Prelude.{Option, None, Contains, is_some}
use Rattle.std.specs.List.{flat_map, range_with_len}
use Rattle.std.specs.List.Sorted.{IsPermutation}
use Rattle.std.proofs.lemmas.List.{get_or_past, map-append}
use Rattle.automaton.specs.declared.line.Hop.{Hop}
use Rattle.automaton.specs.declared.line.Line.{Line}
use Rattle.automaton.specs.declared.network.End.{End}
use Rattle.automaton.specs.NetworkLines.{ArePlaces, Ending, ending_at, endings_by}
use Rattle.automaton.specs.Networks.{IsAt}
use Rattle.automaton.specs.Plain.{numbered}
use Rattle.automaton.specs.Prefixes.{Prefix, Root, After, extended, hops_of, path, root_of}
use Rattle.automaton.specs.States.{Net, before_at, before_in, edges_at, edges_in, ends_at, ends_in, entrance_at, entrance_in, is_used, state_at}
use Rattle.automaton.proofs.CountLemmas.{range_more, range-push, range_same}
use Rattle.event_types.proofs.NumberLemmas.{is_other, is_same}
use Rattle.automaton.proofs.NumberLemmas.{are_same_or_not}
use Rattle.automaton.proofs.SlotLemmas.{KeepsEntries, at_kept, entry_there}

-- no state has the number behind all others
pub none_behind : (net : Net) → state_at net (length net) ≡ None
none_behind net = get_or_past net (length net) None (omega arith)

-- and so nothing leads there or from there
pub nothing_before : (net : Net) → before_at net (length net) ≡ None
nothing_before net = ap before_in (none_behind net)

-- past the last place there are no edges
pub nothing_edged : (net : Net) → edges_at net (length net) ≡ []
nothing_edged net = ap edges_in (none_behind net)

-- the prefixes with one more at a number
abbrev pub with_place : ℕ → Prefix → (ℕ → Prefix) → ℕ → Prefix
with_place new prefix places number = cond (number == new) prefix (places number)

-- the new place has the new prefix
pub place_here : (new : ℕ) (prefix : Prefix) (places : ℕ → Prefix) → with_place new prefix places new ≡ prefix
place_here new prefix places = ap (λ b. cond b prefix (places new)) (is_same new new refl)

-- each other place has its prefix
pub place_other : (new : ℕ) (prefix : Prefix) (places : ℕ → Prefix) (number : ℕ) → (number ≡ new → ⊥) → with_place new prefix places number ≡ places number
place_other new prefix places number ne = ap (λ b. cond b prefix (places number)) (is_other number new ne)

-- one more state, without ends
module _ (net grown : Net) (longer : length grown ≡ suc (length net)) (entries : (number : ℕ) → (number ≡ length net → ⊥) → entrance_at grown number ≡ entrance_at net number) where
  -- growth keeps the entries
  pub entries_kept : KeepsEntries net grown
  entries_kept number e is = entries number (λ same. let gone : entrance_at net number ≡ None = ap (entrance_at net) same ∙ ap entrance_in (none_behind net) in cc) ∙ is

  was_used : (number : ℕ) → (number ≡ length net → ⊥) → is_used grown number ≡ true → is_used net number ≡ true
  was_used number ne used = sym (entry_there (state_at net number)) ∙ ap is_some (sym (entries number ne)) ∙ entry_there (state_at grown number) ∙ used

  module _ (places : ℕ → Prefix) (are : ArePlaces net places) (prefix : Prefix) (here : IsAt grown (length net) prefix) where
    -- the places of prefixes are right in the grown network
    pub places_kept : ArePlaces grown (with_place (length net) prefix places)
    places_kept number used = by_number (are_same_or_not number (length net))
      where
        by_number : (number ≡ length net) ⊎ (number ≡ length net → ⊥) → IsAt grown number (with_place (length net) prefix places number)
        by_number (inl same) = subst (λ n. IsAt grown n (with_place (length net) prefix places n)) (sym same) (subst (IsAt grown (length net)) (sym (place_here (length net) prefix places)) here)
        by_number (inr ne) = subst (IsAt grown number) (sym (place_other (length net) prefix places number ne)) (at_kept net grown entries_kept number (places number) (are number (was_used number ne used)))

    -- so the prefixes are among those
    pub prefixes_kept : (among : List Prefix) → ((number : ℕ) → is_used net number ≡ true → Contains among (places number)) → Contains among prefix → (number : ℕ) → is_used grown number ≡ true → Contains among (with_place (length net) prefix places number)
    prefixes_kept among each new number used = by_number (are_same_or_not number (length net))
      where
        by_number : (number ≡ length net) ⊎ (number ≡ length net → ⊥) → Contains among (with_place (length net) prefix places number)
        by_number (inl same) = subst (λ n. Contains among (with_place (length net) prefix places n)) (sym same) (subst (Contains among) (sym (place_here (length net) prefix places)) new)
        by_number (inr ne) = subst (Contains among) (sym (place_other (length net) prefix places number ne)) (each number (was_used number ne used))

    -- where the ends are the same, so are the endings
    pub endings_kept : ((number : ℕ) → ends_at grown number ≡ ends_at net number) → endings_by (with_place (length net) prefix places) grown ≡ endings_by places net
    endings_kept ends =
        ap (λ n. flat_map after (range_with_len 0 n)) longer ∙ range-push after 0 (length net)
        ∙ (λ i. range_same after before 0 (length net) (λ k low high. same k (λ e. absurd (omega arith))) i ++ last i) ∙ append-nil _
      where
        after : ℕ → List Ending
        after number = map (ending_at (with_place (length net) prefix places number)) (ends_at grown number)

        before : ℕ → List Ending
        before number = map (ending_at (places number)) (ends_at net number)

        same : (number : ℕ) → (number ≡ length net → ⊥) → after number ≡ before number
        same number ne = λ i. map (ending_at (place_other (length net) prefix places number ne i)) (ends number i)

        last : after (0 + length net) ≡ []
        last =
            let none : ends_at grown (0 + length net) ≡ [] = ends (0 + length net) ∙ (let e : 0 + length net ≡ length net = omega arith in ap (ends_at net) e) ∙ ap ends_in (none_behind net) in
            ap (map (ending_at (with_place (length net) prefix places (0 + length net)))) none

-- one more end
module _ (net grown : Net) (same_length : length grown ≡ length net) (places : ℕ → Prefix) (tip : ℕ) (end : End) where
  -- one more end gives one more ending
  pub endings_more : tip < length net → ends_at grown tip ≡ ends_at net tip ++ end ∷ [] → ((number : ℕ) → (number ≡ tip → ⊥) → ends_at grown number ≡ ends_at net number)
      → IsPermutation (endings_by places grown) (endings_by places net ++ ending_at (places tip) end ∷ [])
  endings_more inside here other =
      subst (λ n. IsPermutation (flat_map after (range_with_len 0 n)) (endings_by places net ++ ending_at (places tip) end ∷ [])) (sym same_length)
      (range_more before after tip (ending_at (places tip) end) at_tip (λ k ne. ap (map (ending_at (places k))) (other k ne)) 0 (length net) (omega arith) (omega arith))
    where
      after : ℕ → List Ending
      after number = map (ending_at (places number)) (ends_at grown number)

      before : ℕ → List Ending
      before number = map (ending_at (places number)) (ends_at net number)

      at_tip : after tip ≡ before tip ++ ending_at (places tip) end ∷ []
      at_tip = ap (map (ending_at (places tip))) here ∙ map-append (ending_at (places tip)) (ends_at net tip) (end ∷ [])

-- the prefix of a line
extended-root : (prefix : Prefix) (hops : List Hop) → root_of (extended prefix hops) ≡ root_of prefix
extended-root prefix [] = refl
extended-root prefix (hop ∷ hops) = extended-root (After prefix hop) hops

extended-hops : (prefix : Prefix) (hops : List Hop) → hops_of (extended prefix hops) ≡ hops_of prefix ++ hops
extended-hops prefix [] = sym (append-nil (hops_of prefix))
extended-hops prefix (hop ∷ hops) = extended-hops (After prefix hop) hops ∙ append_assoc (hops_of prefix) (hop ∷ []) hops

-- the path of a line begins at its root
pub path-root : (line : Line) → root_of (path line) ≡ line.root
path-root line = extended-root (Root line.root) line.hops

-- it has the line's hops
pub path-hops : (line : Line) → hops_of (path line) ≡ line.hops
path-hops line = extended-hops (Root line.root) line.hops

-- one more hop is behind the others
pub extended-push : (prefix : Prefix) (hops : List Hop) (hop : Hop) → extended prefix (hops ++ hop ∷ []) ≡ After (extended prefix hops) hop
extended-push prefix [] hop = refl
extended-push prefix (first ∷ hops) hop = extended-push (After prefix first) hops hop

-- the line of its own end
pub path-ending : (line : Line) (number : ℕ) (birth : Option ℕ)
    → ending_at (path line) (record { step = line.last; out = line.out; number = number; birth = birth }) ≡ record { line = line; number = number; birth = birth }
path-ending line number birth = λ i. record { line = record { root = path-root line i; hops = path-hops line i; last = line.last; out = line.out }; number = number; birth = birth }

-- one more line
pub numbered-push : (number : ℕ) (lines : List Line) (line : Line) → numbered number (lines ++ line ∷ []) ≡ numbered number lines ++ record { line = line; number = number + length lines; birth = None } ∷ []
numbered-push number [] line = let e : number ≡ number + 0 = omega arith in ap (λ n. record { line = line; number = n; birth = None } ∷ []) e
numbered-push number (first ∷ lines) line =
    ap (λ es. record { line = first; number = number; birth = None } ∷ es)
    (numbered-push (number + 1) lines line ∙ (let e : number + 1 + length lines ≡ number + suc (length lines) = omega arith in ap (λ n. numbered (number + 1) lines ++ record { line = line; number = n; birth = None } ∷ []) e))
