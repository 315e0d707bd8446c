-- A line that comes to a merged network.
use Rattle.std.proofs.Common.{◌≡◌, ◌⊎◌, ◌∙◌, ◌↔◌, sym, ap, refl, subst, inl, inr, ℕ, zero, suc, ◌+◌, ◌<◌, ◌≤◌, ◌==◌, true, false, not, cond, nat_eq, length, length-append, get_or, drop, take, List, [], ◌∷◌, ◌++◌, append-nil, arith}
use Rattle.std.specs.Prelude.{Option, Some, None, slice_get}
use Rattle.std.specs.HashMap.{HashMap, get}
use Rattle.std.specs.Option.{option_and_then}
use Rattle.std.proofs.Math.Seq.{drop-cons}
use Rattle.std.proofs.lemmas.Bool.{cases_lt}
use Rattle.std.proofs.lemmas.List.Elements.{filter-append}
use Rattle.std.proofs.lemmas.List.{drop_all, take-append-drop}
use Rattle.std.proofs.lemmas.Option.{slice_get-get_or}
use Rattle.automaton.specs.declared.line.Hop.{Hop}
use Rattle.automaton.specs.declared.line.Line.{Line}
use Rattle.automaton.specs.declared.network.End.{End}
use Rattle.automaton.specs.Changes.{AddsRoot}
use Rattle.automaton.specs.Networks.{IsAt, IsNetwork}
use Rattle.automaton.specs.Prefixes.{Prefix, Root, extended, path}
use Rattle.automaton.specs.States.{Net, before_by, ends_at, is_used, root_at, root_in}
use Rattle.automaton.proofs.ChangeLemmas.{free_reads}
use Rattle.event_types.proofs.NumberLemmas.{is_other, is_same}
use Rattle.automaton.proofs.NumberLemmas.{are_same_or_not}
use Rattle.automaton.proofs.RootLemmas.{whole_none}
use Rattle.automaton.proofs.SlotLemmas.{at_used}
use Rattle.prefix_merge.specs.Growth.{Grows, IsTable, Keeps, Reaches, end_of}
use Rattle.prefix_merge.specs.Insertion.{Inserts, without_numbered}
use Rattle.prefix_merge.specs.Merging.{EndsInState, HasEnd, HasOwnNumbers, IsLowestFree, IsMerged, ends_numbered, number_at}
use Rattle.prefix_merge.proofs.EndingLemmas.{endings_are, ends_are, own_numbers}
use Rattle.prefix_merge.proofs.NumberedLemmas.{none_numbered, number_in, pushed_else, there_has}
use Rattle.prefix_merge.proofs.StartLemmas.{HasGrown, found_growing, line_grown, none_from_root, root_growing}

-- a prefix with hops behind it, and more hops
extended-append : (prefix : Prefix) (hops more : List Hop) → extended (extended prefix hops) more ≡ extended prefix (hops ++ more)
extended-append prefix [] more = refl
extended-append prefix (hop ∷ hops) more = extended-append _ hops more

-- the first of the hops from a place on
first_hop : (hops : List Hop) (place : ℕ) (hop : Hop) (rest : List Hop) → drop place hops ≡ hop ∷ rest → slice_get hops place ≡ Some hop
first_hop hops place hop rest is = by_order (cases_lt place (length hops))
  where
    by_order : (place < length hops) ⊎ (length hops ≤ place) → slice_get hops place ≡ Some hop
    by_order (inl lt) = let cut = drop-cons hops place hop lt in let same : get_or hops place hop ≡ hop = cc in slice_get-get_or hops place hop lt ∙ ap (λ h. Some h) same
    by_order (inr past) = let none = drop_all place hops past in let no : [] ≡ hop ∷ rest = sym none ∙ is in cc

-- the line grows from a state that it has reached
pub grown_from : (old new : Net) (line : Line) (state place end : ℕ) (birth : Option ℕ) → IsNetwork old → IsMerged old → EndsInState old → Reaches old line state place → Grows state (drop place line.hops) (end_of line end birth) old new → HasGrown old old (path line) (end_of line end birth) new
grown_from old new line state place end birth network merged last reached grows =
    subst (λ whole. HasGrown old old whole (end_of line end birth) new) (extended-append (Root line.root) (take place line.hops) (drop place line.hops) ∙ ap (extended (Root line.root)) (take-append-drop place line.hops))
    (line_grown old old (drop place line.hops) (extended (Root line.root) (take place line.hops)) state (end_of line end birth) old new (found_growing old (extended (Root line.root) (take place line.hops)) state network merged last reached.here)
    (λ hop rest next is. reached.last hop next (first_hop line.hops place hop rest is)) grows)

-- and from a root state of its own
pub grown_whole : (old new base : Net) (line : Line) (number end : ℕ) (birth : Option ℕ) → IsNetwork old → IsMerged old → EndsInState old → ((n : ℕ) → root_at old n ≡ Some line.root → ⊥) → IsLowestFree old number → AddsRoot number line.root old base
    → Grows number line.hops (end_of line end birth) base new → HasGrown old base (path line) (end_of line end birth) new
grown_whole old new base line number end birth network merged last no_root lowest adds grows =
    line_grown old base line.hops (Root line.root) number (end_of line end birth) base new (root_growing old base number line.root network merged last no_root lowest adds)
    (λ hop rest next is entered. none_from_root old base number line.root network merged last no_root lowest adds next (ap (option_and_then before_by) entered)) grows

-- the ends of before, where none had the number
module _ (old base new : Net) (line : Line) (end : ℕ) (birth : Option ℕ) (grown : HasGrown old base (path line) (end_of line end birth) new) (fresh : HasEnd old end → ⊥) where
  without_old : (number : ℕ) → without_numbered end (ends_at old number) ≡ ends_at old number
  without_old number = none_numbered end (ends_at old number) (none_there (ends_numbered old end number) refl)
    where
      none_there : (n : ℕ) → ends_numbered old end number ≡ n → n ≡ 0
      none_there zero is = refl
      none_there (suc n) is = absurd (fresh (number, omega (arith, is)))

  old_ends : (number : ℕ) → without_numbered end (ends_at new number) ≡ ends_at old number
  old_ends number = by_number (are_same_or_not number grown.last)
    where
      by_number : (number ≡ grown.last) ⊎ (number ≡ grown.last → ⊥) → without_numbered end (ends_at new number) ≡ ends_at old number
      by_number (inl same) =
          ap (λ n. without_numbered end (ends_at new n)) same ∙ ap (without_numbered end) grown.more
          ∙ filter-append (λ (e : End). not (e.number == end)) (ends_at old grown.last) (end_of line end birth ∷ [])
          ∙ (λ i. without_old grown.last i ++ cond (not (is_same end end refl i)) (end_of line end birth ∷ []) []) ∙ append-nil (ends_at old grown.last) ∙ ap (ends_at old) (sym same)
      by_number (inr ne) = ap (without_numbered end) (grown.others number ne) ∙ without_old number

  -- the line's end stands behind the others
  end_last : (number place : ℕ) → number_at new number place ≡ Some end → place + 1 ≡ length (ends_at new number)
  end_last number place there = by_number (are_same_or_not number grown.last)
    where
      here : (place ≡ length (ends_at old grown.last)) ⊎ (place ≡ length (ends_at old grown.last) → ⊥) → number_in (ends_at old grown.last ++ end_of line end birth ∷ []) place ≡ Some end → place ≡ length (ends_at old grown.last)
      here (inl is) told = is
      here (inr other) told = absurd (fresh (there_has old end grown.last place (sym (pushed_else (ends_at old grown.last) (end_of line end birth) place other) ∙ told)))

      by_number : (number ≡ grown.last) ⊎ (number ≡ grown.last → ⊥) → place + 1 ≡ length (ends_at new number)
      by_number (inl same) =
          let is = here (are_same_or_not place (length (ends_at old grown.last))) (ap (λ ends. number_in ends place) (sym grown.more) ∙ ap (λ n. number_at new n place) (sym same) ∙ there) in
          let longer = length-append (ends_at old grown.last) (end_of line end birth ∷ []) in
          let whole : length (ends_at new number) ≡ length (ends_at old grown.last ++ end_of line end birth ∷ []) = ap (λ n. length (ends_at new n)) same ∙ ap length grown.more in omega (arith, is, longer, whole)
      by_number (inr ne) = absurd (fresh (there_has old end number place (ap (λ ends. number_in ends place) (sym (grown.others number ne)) ∙ there)))

-- so the line has been inserted
pub line_inserted : (old base new : Net) (line : Line) (end : ℕ) (birth : Option ℕ) → HasGrown old base (path line) (end_of line end birth) new → (HasEnd old end → ⊥) → Inserts line end birth old new
line_inserted old base new line end birth grown fresh = record {
  stay = grown.stay;
  prefixes = grown.prefixes;
  numbers = grown.numbers;
  endings = endings_are old base new line end birth grown grown.network;
  old_edges = grown.old_edges;
  edge_last = grown.edge_last;
  old_ends = old_ends old base new line end birth grown fresh;
  end_last = end_last old base new line end birth grown fresh;
  ends = ends_are old base new line end birth grown;
}

-- and what a merged network keeps is kept
pub line_kept : {S : Type 0} (table : HashMap ℕ ℕ S) (old base new : Net) (line : Line) (end : ℕ) (birth : Option ℕ) → HasGrown old base (path line) (end_of line end birth) new → (HasEnd old end → ⊥) → IsTable table base → HasOwnNumbers old → Keeps table new
line_kept table old base new line end birth grown fresh roots numbers = record {
  network = grown.network;
  merged = grown.merged;
  numbers = own_numbers old base new line end birth grown fresh numbers;
  roots = λ stream number. (
    (λ has. grown.roots number ∙ (roots stream number).0 has),
    λ has. (roots stream number).1 (sym (grown.roots number) ∙ has),
  );
  last = grown.in_state;
}

-- the table with one more root state
module _ {S : Type 0} (table more : HashMap ℕ ℕ S) (old base : Net) (stream number : ℕ) (is : IsTable table old) (no_root : (n : ℕ) → root_at old n ≡ Some stream → ⊥) (free : is_used old number ≡ false) (adds : AddsRoot number stream old base)
    (updates : (q : ℕ) → get nat_eq more q ≡ cond (nat_eq stream q) (Some number) (get nat_eq table q)) where
  here : root_at base number ≡ Some stream
  here = ap root_in adds.here

  other_root : (n : ℕ) → (n ≡ number → ⊥) → root_at base n ≡ root_at old n
  other_root n ne = ap root_in (adds.others n ne)

  told : (q : ℕ) → stream ≡ q → get nat_eq more q ≡ Some number
  told q same = updates q ∙ ap (λ b. cond b (Some number) (get nat_eq table q)) (is_same stream q same)

  told_other : (q : ℕ) → (stream ≡ q → ⊥) → get nat_eq more q ≡ get nat_eq table q
  told_other q ne = updates q ∙ ap (λ b. cond b (Some number) (get nat_eq table q)) (is_other stream q ne)

  not_free : (q : ℕ) → root_at old number ≡ Some q → ⊥
  not_free q has = let none : root_at old number ≡ None = free_reads old base number free root_in in cc

  -- the table with the new root tells the roots of the grown network
  pub table_more : IsTable more base
  table_more q n = by_stream (are_same_or_not stream q) (are_same_or_not n number)
    where
      by_stream : (stream ≡ q) ⊎ (stream ≡ q → ⊥) → (n ≡ number) ⊎ (n ≡ number → ⊥) → (get nat_eq more q ≡ Some n) ↔ (root_at base n ≡ Some q)
      by_stream (inl same) (inl at) = (
        (λ has. ap (root_at base) at ∙ here ∙ ap (λ s. Some s) same),
        λ has. told q same ∙ ap (λ m. Some m) (sym at),
      )
      by_stream (inl same) (inr ne) = (
        (λ has. let e : Some n ≡ Some number = sym has ∙ told q same in let e' : n ≡ number = cc in absurd (ne e')),
        λ has. absurd (no_root n (sym (other_root n ne) ∙ has ∙ ap (λ s. Some s) (sym same))),
      )
      by_stream (inr apart) (inl at) = (
        (λ has. absurd (not_free q (ap (root_at old) (sym at) ∙ (is q n).0 (sym (told_other q apart) ∙ has)))),
        λ has. let e : Some stream ≡ Some q = sym here ∙ ap (root_at base) (sym at) ∙ has in let e' : stream ≡ q = cc in absurd (apart e'),
      )
      by_stream (inr apart) (inr ne) = (
        (λ has. other_root n ne ∙ (is q n).0 (sym (told_other q apart) ∙ has)),
        λ has. told_other q apart ∙ (is q n).1 (sym (other_root n ne) ∙ has),
      )

-- no states are merged
pub none_merged : IsMerged []
none_merged = record {
  apart = λ number other prefix here there. absurd (none number prefix here);
  needed = λ number prefix here. absurd (none number prefix here);
}
  where
    none : (number : ℕ) (prefix : Prefix) → IsAt [] number prefix → ⊥
    none number prefix here = let no : false ≡ true = at_used [] number prefix here in cc

-- at first there are no states
pub nothing_kept : {S : Type 0} (table : HashMap ℕ ℕ S) → ((q : ℕ) → get nat_eq table q ≡ None) → Keeps table []
nothing_kept table empty = record {
  network = whole_none.network;
  merged = none_merged;
  numbers = record { one = λ number state. omega arith; apart = λ number state other here there. absurd (omega (arith, here)) };
  roots = λ stream number. (
    (λ has. let no : None ≡ Some number = sym (empty stream) ∙ has in cc),
    λ has. let no : None ≡ Some stream = has in cc,
  );
  last = λ some. absurd (omega (arith, some));
}
