-- The states of a merged network are the prefixes of its lines.
use Rattle.std.proofs.Common.{◌≡◌, ◌∙◌, ◌↔◌, sym, ap, refl, subst, ℕ, ◌+◌, Bool, true, false, IsTrue, length, List, [], ◌∷◌, ◌++◌, map, arith}
use Rattle.std.specs.Prelude.{None, Contains}
use Rattle.std.specs.List.{list_any, range_with_len}
use Rattle.automaton.specs.declared.line.Line.{Line}
use Rattle.automaton.specs.declared.network.End.{End}
use Rattle.automaton.specs.NetworkLines.{Ending, HasEndings, HasLines, ending_at, endings_by}
use Rattle.automaton.specs.Plain.{numbered}
use Rattle.automaton.specs.Prefixes.{Prefix, Root, After, beginnings, extended, hops_of, path, prefixes, root_of}
use Rattle.automaton.specs.States.{Net, ends_at, is_used}
use Rattle.automaton.proofs.PlaceLemmas.{extended-push, numbered-push}
use Rattle.automaton.proofs.SlotLemmas.{at_one, at_used, used_below}
use Rattle.std.proofs.lemmas.List.Sorted.{IsPermutation-refl, IsPermutation-sym}
use Rattle.prefix_merge.specs.Laws.{LinesComeInTurn}
use Rattle.prefix_merge.specs.Merging.{HasPrefix, IsMerged}
use Rattle.prefix_merge.proofs.ContainLemmas.{first_in, from_flat_map, from_map, in_flat_map, in_map, in_permuted, in_range, none_in}
use Rattle.prefix_merge.proofs.EndingLemmas.{ends_none}
use Rattle.prefix_merge.proofs.GrowthLemmas.{any_end}
use Rattle.prefix_merge.proofs.PrefixLemmas.{at_beginning}

-- the path of a prefix's root and hops is the prefix
whole_again : (prefix : Prefix) → extended (Root (root_of prefix)) (hops_of prefix) ≡ prefix
whole_again (Root stream) = refl
whole_again (After prefix hop) = extended-push (Root (root_of prefix)) (hops_of prefix) hop ∙ ap (λ p. After p hop) (whole_again prefix)

-- where some end stands there is one
an_end : (ends : List End) → IsTrue (list_any any_end ends) → (end : End) × Contains ends end
an_end [] has = let no : false ≡ true = has in cc
an_end (end ∷ ends) has = (end, first_in end ends)

-- an end's place is used
pub end_used : (net : Net) (number : ℕ) (end : End) → Contains (ends_at net number) end → is_used net number ≡ true
end_used net number end has = by_use (is_used net number) refl
  where
    by_use : (b : Bool) → is_used net number ≡ b → b ≡ true
    by_use true used = refl
    by_use false free = absurd (none_in end (subst (λ ends. Contains ends end) (ends_none net number free) has))

module _ (net : Net) (endings : List Ending) (merged : IsMerged net) (had : HasEndings net endings) where
  abbrev lines : List Line
  lines = map (λ ending. ending.line) endings

  -- each end's line is among them
  pub its_ending : (number : ℕ) (end : End) → Contains (ends_at net number) end → Contains endings (ending_at (had.places number) end)
  its_ending number end has =
      let used = end_used net number end has in
      let lt = used_below net number used in
      let e : 0 + number ≡ number = omega arith in
      let inside = subst (Contains (range_with_len 0 (length net))) e (in_range 0 (length net) number lt) in
      in_permuted (endings_by had.places net) endings (ending_at (had.places number) end) had.same
      (in_flat_map (λ number. map (ending_at (had.places number)) (ends_at net number)) (range_with_len 0 (length net)) number (ending_at (had.places number) end) inside
      (in_map (ending_at (had.places number)) (ends_at net number) end has))

  -- the states are those of the prefixes of the lines
  pub states_are : (prefix : Prefix) → HasPrefix net prefix ↔ Contains (prefixes lines) prefix
  states_are prefix = (fore, back)
    where
      fore : HasPrefix net prefix → Contains (prefixes lines) prefix
      fore has =
          let use' = merged.needed has.0 prefix has.1 in
          let end = an_end (ends_at net use'.last) use'.ends in
          let place = at_one net use'.last (had.places use'.last) use'.whole (had.are_places use'.last (at_used net use'.last use'.whole use'.here)) use'.here in
          let ending = ending_at (had.places use'.last) end.0 in
          let whole : path ending.line ≡ use'.whole = whole_again (had.places use'.last) ∙ place in
          in_flat_map (λ line. beginnings (path line)) lines ending.line prefix (in_map (λ (e : Ending). e.line) endings ending (its_ending use'.last end.0 end.1))
          (subst (λ p. Contains (beginnings p) prefix) (sym whole) use'.begins)

      back : Contains (prefixes lines) prefix → HasPrefix net prefix
      back has =
          let line = from_flat_map (λ line. beginnings (path line)) lines prefix has in
          let ending = from_map (λ (e : Ending). e.line) endings line.0 line.1 in
          let standing = in_permuted endings (endings_by had.places net) ending.0 (IsPermutation-sym (endings_by had.places net) endings had.same) ending.1 in
          let number = from_flat_map (λ number. map (ending_at (had.places number)) (ends_at net number)) (range_with_len 0 (length net)) ending.0 standing in
          let end = from_map (ending_at (had.places number.0)) (ends_at net number.0) ending.0 number.2 in
          let used = end_used net number.0 end.0 end.1 in
          let whole : path line.0 ≡ had.places number.0 = ap path (sym ending.2) ∙ ap (λ (e : Ending). path e.line) (sym end.2) ∙ whole_again (had.places number.0) in
          at_beginning net number.0 (had.places number.0) prefix (had.are_places number.0 used) (subst (λ p. Contains (beginnings p) prefix) whole line.2)

-- a merged network has the lines of its endings
pub own_lines : (net : Net) (endings : List Ending) → IsMerged net → HasEndings net endings → HasLines net (map (λ ending. ending.line) endings)
own_lines net endings merged had = (endings, had, refl, λ number prefix here. (states_are net endings merged had prefix).0 (number, here))

numbered_lines : (number : ℕ) (lines : List Line) → map (λ (ending : Ending). ending.line) (numbered number lines) ≡ lines
numbered_lines number [] = refl
numbered_lines number (line ∷ lines) = λ i. line ∷ numbered_lines (number + 1) lines i

-- lines come in turn
pub come_in_turn : LinesComeInTurn
come_in_turn = record {
  none = record { places = λ number. Root 0; are_places = λ number used. absurd (let no : false ≡ true = used in cc); same = IsPermutation-refl [] };
  next = λ lines line old new had inserts.
      (let same : numbered 0 lines ++ record { line = line; number = length lines; birth = None } ∷ [] ≡ numbered 0 (lines ++ line ∷ []) =
      (let e : length lines ≡ 0 + length lines = omega arith in ap (λ (n : ℕ). numbered 0 lines ++ record { line = line; number = n; birth = None } ∷ []) e) ∙ sym (numbered-push 0 lines line) in
      subst (HasEndings new) same (inserts.endings (numbered 0 lines) had));
  all = λ lines net merged had. subst (HasLines net) (numbered_lines 0 lines) (own_lines net (numbered 0 lines) merged had);
}
