-- The ends that use a state of a merged network are those of the lines that use its prefix.
use Rattle.std.proofs.Common.{◌≡◌, ◌∙◌, ◌⊎◌, inl, inr, refl, sym, ap, subst, ℕ, zero, suc, length, List, [], ◌∷◌, ◌++◌, map, arith}
use Rattle.std.specs.Prelude.{Contains, Option, Some, None}
use Rattle.std.specs.Option.{option_and_then}
use Rattle.std.specs.List.{range_with_len}
use Rattle.std.proofs.lemmas.List.Sorted.{IsPermutation-sym}
use Rattle.automaton.specs.Networks.{IsAt}
use Rattle.automaton.specs.NetworkLines.{Ending, ending_at, endings_by}
use Rattle.automaton.specs.Prefixes.{Prefix, Root, After, beginnings, extended, path}
use Rattle.automaton.specs.States.{Net, before_by, ends_at, entrance_at}
use Rattle.automaton.specs.declared.line.Hop.{Hop}
use Rattle.automaton.specs.declared.line.Line.{Line}
use Rattle.automaton.proofs.PlaceLemmas.{extended-push}
use Rattle.automaton.proofs.SlotLemmas.{at_one}
use Rattle.epoch_laws.specs.Births.{IsLeastBirth, IsNoLater}
use Rattle.epoch_laws.specs.BornLines.{BornLine, HasBornLines, IsReadAfter, born_by, lines_in}
use Rattle.epoch_laws.proofs.Networks.{path_back}
use Rattle.epoch_draft.specs.Behind.{IsBehind, IsBirthBehind}
use Rattle.epoch_draft.proofs.BehindLemmas.{behind_first, entered_by}
use Rattle.prefix_merge.specs.Merging.{IsMerged}
use Rattle.prefix_merge.proofs.ContainLemmas.{from_flat_map, from_map, in_map, in_permuted}
use Rattle.prefix_merge.proofs.LawLemmas.{end_used, its_ending}
use Rattle.prefix_merge.proofs.PrefixLemmas.{begins_cases, begins_root}

-- two births that are no later than one another are one
same_birth : (a b : Option ℕ) → IsNoLater a b → IsNoLater b a → a ≡ b
same_birth None None le ge = refl
same_birth None (Some b) le ge = absurd ge
same_birth (Some a) None le ge = absurd le
same_birth (Some a) (Some b) le ge = let e : a ≡ b = omega (arith, le, ge) in ap Some e

-- there is one least birth, where there is a birth
pub one_least : (IsBirth : Option ℕ → Type 0) (a b birth : Option ℕ) → IsLeastBirth IsBirth a → IsLeastBirth IsBirth b → IsBirth birth → a ≡ b
one_least IsBirth a b birth one other is = same_birth a b (one.no_later b (other.is_one birth is)) (other.no_later a (one.is_one birth is))

-- a prefix is each of its beginnings with more hops
begins_extended : (whole first : Prefix) → Contains (beginnings whole) first → (more : List Hop) × (whole ≡ extended first more)
begins_extended (Root s) first has = ([], sym (begins_root s first has))
begins_extended (After p h) first has = go (begins_extended p first) (begins_cases p h first has)
  where
    go : (Contains (beginnings p) first → (more : List Hop) × (p ≡ extended first more)) → (Contains (beginnings p) first) ⊎ (first ≡ After p h) → (more : List Hop) × (After p h ≡ extended first more)
    go rest (inl before) = let is = rest before in (is.0 ++ h ∷ [], ap (λ q. After q h) is.1 ∙ sym (extended-push first is.0 h))
    go rest (inr same) = ([], sym same)

-- a state behind one that stands for a prefix stands for a longer one
behind_prefix : (net : Net) (number hops last : ℕ) (p : Prefix) → IsAt net number p → IsBehind net number hops last → (more : List Hop) × IsAt net last (extended p more)
behind_prefix net number zero last p at behind = ([], subst (λ (n : ℕ). IsAt net n p) (sym behind) at)
behind_prefix net number (suc hops) last p at behind =
    let before = behind_prefix net number hops behind.0 p at behind.2 in
    let entered = entered_by (entrance_at net last) behind.0 behind.1 in
    (before.0 ++ entered.0 ∷ [], subst (IsAt net last) (sym (extended-push p before.0 entered.0)) (behind.0, entered.1, before.1))

-- and a state that stands for a longer one is behind one that stands for the prefix
walk_back : (net : Net) (more : List Hop) (p : Prefix) (last : ℕ) → IsAt net last (extended p more) → (number : ℕ) × (hops : ℕ) × IsAt net number p × IsBehind net number hops last
walk_back net [] p last at = (last, 0, at, refl)
walk_back net (h ∷ more) p last at =
    let rest = walk_back net more (After p h) last at in
    let here = rest.2 in
    (here.0, suc rest.1, here.2, behind_first net here.0 rest.0 rest.1 last (ap (option_and_then before_by) here.1) rest.3)

module _ (net : Net) (lines : List BornLine) (merged : IsMerged net) (has : HasBornLines net lines) (number : ℕ) (p : Prefix) (at : IsAt net number p) where
  abbrev endings : List Ending
  endings = has.0

  abbrev places : ℕ → Prefix
  places = has.1.places

  -- an end that uses the state is that of a line that uses the prefix
  reads_behind : (birth : Option ℕ) → IsBirthBehind net number birth → IsReadAfter lines p birth
  reads_behind birth h =
      let last = h.1 in
      let end = h.2 in
      let place = behind_prefix net number h.0 last p at h.3 in
      let one = at_one net last (places last) (extended p place.0) (has.1.are_places last (end_used net last end h.4)) place.1 in
      let ending = ending_at (places last) end in
      (born_by ending, place.0, subst (λ (ls : List BornLine). Contains ls (born_by ending)) has.2 (in_map born_by endings ending (its_ending net endings merged has.1 last end h.4)), path_back (places last) ∙ one, h.5)

  -- and each such line has one
  pub behind_reads : (birth : Option ℕ) → IsReadAfter lines p birth → IsBirthBehind net number birth
  behind_reads birth used =
      let ending = from_map born_by endings used.0 (subst (λ (ls : List BornLine). Contains ls used.0) (sym has.2) used.2) in
      let standing = in_permuted endings (endings_by places net) ending.0 (IsPermutation-sym (endings_by places net) endings has.1.same) ending.1 in
      let last = from_flat_map (λ n. map (ending_at (places n)) (ends_at net n)) (range_with_len 0 (length net)) ending.0 standing in
      let end = from_map (ending_at (places last.0)) (ends_at net last.0) ending.0 last.2 in
      let whole : places last.0 ≡ extended p used.1 = sym (path_back (places last.0)) ∙ ap (λ (e : Ending). path e.line) end.2 ∙ ap (λ (b : BornLine). path b.line) ending.2 ∙ used.3 in
      let back = walk_back net used.1 p last.0 (subst (IsAt net last.0) whole (has.1.are_places last.0 (end_used net last.0 end.0 end.1))) in
      let same = merged.apart back.0 number p back.2 at in
      (back.1, last.0, end.0, subst (λ (n : ℕ). IsBehind net n back.1 last.0) same back.3, end.1, ap (λ (e : Ending). e.birth) end.2 ∙ ap (λ (b : BornLine). b.birth) ending.2 ∙ used.4)

  -- some line uses it
  pub some_reads : (birth : Option ℕ) × IsReadAfter lines p birth
  some_reads =
      let line = from_flat_map (λ (l : Line). beginnings (path l)) (lines_in lines) p (has.3 number p at) in
      let born = from_map (λ (b : BornLine). b.line) lines line.0 line.1 in
      let more = begins_extended (path line.0) p line.2 in
      (born.0.birth, (born.0, more.0, born.1, ap path born.2 ∙ more.1, refl))

  -- the least birth of the ends that use the state is that of the lines that use its prefix
  pub least_reads : (since : Option ℕ) → IsLeastBirth (IsBirthBehind net number) since → IsLeastBirth (IsReadAfter lines p) since
  least_reads since least = record {
    no_later = λ birth read. least.no_later birth (behind_reads birth read);
    is_one = λ birth read. reads_behind since (least.is_one birth (behind_reads birth read));
  }
