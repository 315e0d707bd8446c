-- A line that begins to grow, and one that has come to its end.
use Rattle.std.proofs.Common.{◌≡◌, ◌⊎◌, ◌∙◌, ◌↔◌, sym, ap, refl, subst, inl, inr, ℕ, ◌+◌, ◌-◌, ◌<◌, ◌≤◌, true, false, IsTrue, length, List, [], ◌∷◌, ◌++◌, arith}
use Rattle.std.specs.Prelude.{All, Contains, Some, is_some, slice_get}
use Rattle.std.specs.List.{filter, list_any}
use Rattle.std.specs.Option.{option_and_then}
use Rattle.std.proofs.lemmas.Bool.{cases_lt}
use Rattle.std.proofs.lemmas.List.Elements.{All-get_or}
use Rattle.std.proofs.lemmas.Option.{get_or_from_slice_get, slice_get_within}
use Rattle.automaton.specs.declared.line.Hop.{Hop}
use Rattle.automaton.specs.declared.network.End.{End}
use Rattle.automaton.specs.declared.network.Entrance.TheVariants as entrance
use Rattle.automaton.specs.Changes.{AddsEnd, AddsRoot}
use Rattle.automaton.specs.Networks.{IsAt, IsNetwork}
use Rattle.automaton.specs.Prefixes.{Prefix, Root, After, beginnings, extended}
use Rattle.automaton.specs.States.{Net, before_at, before_by, before_in, edges_at, edges_in, ends_at, ends_in, entrance_at, entrance_in, is_used, root_at, root_by, state_at}
use Rattle.automaton.proofs.ChangeLemmas.{adds_end_network, adds_root_network, free_reads, reads_alike}
use Rattle.automaton.proofs.ClearedLemmas.{before_used}
use Rattle.automaton.proofs.NumberLemmas.{are_same_or_not}
use Rattle.automaton.proofs.SlotLemmas.{KeepsEntries, at_kept, at_one, at_used, end_edges, end_ends, end_entry, entry_there}
use Rattle.prefix_merge.specs.Growth.{Grows}
use Rattle.prefix_merge.specs.Insertion.{TakesLowest}
use Rattle.prefix_merge.specs.Merging.{EndsInState, HasPrefix, IsLowestFree, IsMerged, IsUsedBy}
use Rattle.stream_readers.proofs.TargetLemmas.{edges_used}
use Rattle.prefix_merge.proofs.EdgeLemmas.{all_stay}
use Rattle.prefix_merge.proofs.GrowthLemmas.{IsGrowing, any_end, back, forth, hop_growing, none_from, not_before, not_both, used_back, used_forth, used_still}
use Rattle.prefix_merge.proofs.PrefixLemmas.{at_beginning, begins_itself}

-- a state keeps the number by which it was entered
pub stay_keeps : (old net : Net) → ((number : ℕ) → IsTrue (is_used old number) → entrance_at net number ≡ entrance_at old number) → KeepsEntries old net
stay_keeps old net stay number e is = stay number (sym (entry_there (state_at old number)) ∙ ap is_some is) ∙ is

-- edges lead to states that are there
edges_stay : (net : Net) → IsNetwork net → (number : ℕ) → filter (is_used net) (edges_at net number) ≡ edges_at net number
edges_stay net network number = all_stay (is_used net) (edges_at net number) (edges_used net network number)

-- so none leads to another
none_new : (net : Net) → IsNetwork net → (number place next : ℕ) → slice_get (edges_at net number) place ≡ Some next → is_used net next ≡ false → ⊥
none_new net network number place next there =
    let inside = slice_get_within (edges_at net number) place next there in
    let used = All-get_or (λ edge. IsTrue (is_used net edge)) (edges_at net number) place next inside (edges_used net network number) in
    not_both net next (subst (λ edge. is_used net edge ≡ true) (get_or_from_slice_get (edges_at net number) place next next there) used)

-- the line begins where a state is there
pub found_growing : (old : Net) (prefix : Prefix) (tip : ℕ) → IsNetwork old → IsMerged old → EndsInState old → IsAt old tip prefix → IsGrowing old old prefix tip old
found_growing old prefix tip network merged last here = record {
  network = network;
  here = here;
  apart = merged.apart;
  needed = λ number p at_number. inl (merged.needed number p at_number);
  stay = λ number used. refl;
  same_ends = λ number. refl;
  old_edges = edges_stay old network;
  edge_last = λ number place next there new. absurd (none_new old network number place next there new);
  tip_edges = edges_used old network tip;
  came = λ p has. inl has;
  numbers = record {
    lowest = λ number below free used lt. absurd (not_both old number used free);
    rising = λ number before free from. absurd (not_both old before (before_used old network number before from) free);
  };
  roots = λ number. refl;
  longer = omega arith;
  last = last;
}

-- the line begins at a new root state
module _ (old base : Net) (number stream : ℕ) (network : IsNetwork old) (merged : IsMerged old) (last : EndsInState old) (no_root : (n : ℕ) → root_at old n ≡ Some stream → ⊥) (lowest : IsLowestFree old number) (adds : AddsRoot number stream old base) where
  entries : (other : ℕ) → (other ≡ number → ⊥) → entrance_at base other ≡ entrance_at old other
  entries other ne = ap entrance_in (adds.others other ne)

  root_here : IsAt base number (Root stream)
  root_here = ap (λ slot. option_and_then root_by (entrance_in slot)) adds.here

  root_place : (other : ℕ) (p : Prefix) → other ≡ number → IsAt base other p → p ≡ Root stream
  root_place other p same there = at_one base number p (Root stream) (subst (λ n. IsAt base n p) same there) root_here

  root_only : (other : ℕ) → (other ≡ number → ⊥) → IsAt base other (Root stream) → ⊥
  root_only other ne there = no_root other (back old base number network lowest.free entries other (Root stream) ne there)

  root_ends : (other : ℕ) → ends_at base other ≡ ends_at old other
  root_ends = reads_alike ends_in old base number (ap ends_in adds.here ∙ sym (free_reads old base number lowest.free ends_in)) adds.others

  root_befores : (other : ℕ) → before_at base other ≡ before_at old other
  root_befores = reads_alike before_in old base number (ap before_in adds.here ∙ sym (free_reads old base number lowest.free before_in)) adds.others

  root_alone : (m n : ℕ) (p : Prefix) → IsAt base m p → IsAt base n p → m ≡ n
  root_alone m n p at_m at_n = by_number (are_same_or_not m number) (are_same_or_not n number)
    where
      by_number : (m ≡ number) ⊎ (m ≡ number → ⊥) → (n ≡ number) ⊎ (n ≡ number → ⊥) → m ≡ n
      by_number (inl e) (inl f) = e ∙ sym f
      by_number (inl e) (inr nf) = absurd (root_only n nf (subst (IsAt base n) (root_place m p e at_m) at_n))
      by_number (inr ne) (inl f) = absurd (root_only m ne (subst (IsAt base m) (root_place n p f at_n) at_m))
      by_number (inr ne) (inr nf) = merged.apart m n p (back old base number network lowest.free entries m p ne at_m) (back old base number network lowest.free entries n p nf at_n)

  root_needed : (n : ℕ) (p : Prefix) → IsAt base n p → (IsUsedBy base any_end p) ⊎ (Contains (beginnings (Root stream)) p)
  root_needed n p there = by_number (are_same_or_not n number)
    where
      by_number : (n ≡ number) ⊎ (n ≡ number → ⊥) → (IsUsedBy base any_end p) ⊎ (Contains (beginnings (Root stream)) p)
      by_number (inl e) = inr (subst (Contains (beginnings (Root stream))) (sym (root_place n p e there)) (begins_itself (Root stream)))
      by_number (inr ne) =
          inl (used_still old base (forth old base number network lowest.free entries) any_end (λ m has. subst (λ ends. IsTrue (list_any any_end ends)) (sym (root_ends m)) has) p
          (merged.needed n p (back old base number network lowest.free entries n p ne there)))

  root_came : (p : Prefix) → HasPrefix base p → (HasPrefix old p) ⊎ (Contains (beginnings (Root stream)) p)
  root_came p (n, there) = by_number (are_same_or_not n number)
    where
      by_number : (n ≡ number) ⊎ (n ≡ number → ⊥) → (HasPrefix old p) ⊎ (Contains (beginnings (Root stream)) p)
      by_number (inl e) = inr (subst (Contains (beginnings (Root stream))) (sym (root_place n p e there)) (begins_itself (Root stream)))
      by_number (inr ne) = inl (n, back old base number network lowest.free entries n p ne there)

  root_lowest : (n below : ℕ) → is_used old n ≡ false → IsTrue (is_used base n) → below < n → IsTrue (is_used base below)
  root_lowest n below came used lt = used_forth old base number network lowest.free entries below (by_number (are_same_or_not n number))
    where
      by_number : (n ≡ number) ⊎ (n ≡ number → ⊥) → is_used old below ≡ true
      by_number (inl e) = lowest.lowest below (omega (arith, lt, e))
      by_number (inr ne) = absurd (not_both old n (used_back old base number network lowest.free entries n ne used) came)

  -- none is entered from it
  pub none_from_root : (next : ℕ) → before_at base next ≡ Some number → ⊥
  none_from_root next from = not_before old base number network lowest.free entries next (sym (root_befores next) ∙ from)

  root_edges : (other : ℕ) → edges_at base other ≡ edges_at old other
  root_edges = reads_alike edges_in old base number (ap edges_in adds.here ∙ sym (free_reads old base number lowest.free edges_in)) adds.others

  root_last : EndsInState base
  root_last some = by_order (cases_lt number (length old))
    where
      by_order : (number < length old) ⊎ (length old ≤ number) → is_used base (length base - 1) ≡ true
      by_order (inl inside) =
          let same : length base - 1 ≡ length old - 1 = let places = adds.places in omega (arith, places, inside) in
          ap (is_used base) same ∙ used_forth old base number network lowest.free entries (length old - 1) (last (omega (arith, inside)))
      by_order (inr past) = let same : length base - 1 ≡ number = let places = adds.places in omega (arith, places, past) in ap (is_used base) same ∙ ap is_some adds.here

  -- a network grows from a root
  pub root_growing : IsGrowing old base (Root stream) number base
  root_growing = record {
    network = adds_root_network number stream old base lowest.free adds network;
    here = root_here;
    apart = root_alone;
    needed = root_needed;
    stay = λ n used. entries n (λ e. not_both old n used (ap (is_used old) e ∙ lowest.free));
    same_ends = root_ends;
    old_edges = λ n. ap (filter (is_used old)) (root_edges n) ∙ edges_stay old network n;
    edge_last = λ n place next there new. absurd (none_new old network n place next (ap (λ edges. slice_get edges place) (sym (root_edges n)) ∙ there) new);
    tip_edges = subst (All (λ next. IsTrue (is_used old next))) (sym (root_edges number)) (edges_used old network number);
    came = root_came;
    numbers = record {
      lowest = root_lowest;
      rising = λ n before free from. absurd (not_both old before (before_used old network n before (sym (root_befores n) ∙ from)) free);
    };
    roots = λ n. refl;
    longer = (let places = adds.places in omega arith);
    last = root_last;
  }

-- the network has grown by a line: its last state has the end
pub record HasGrown (old base : Net) (whole : Prefix) (end : End) (new : Net) : Type 0 where
  pub network : IsNetwork new
  pub merged : IsMerged new
  pub stay : (number : ℕ) → IsTrue (is_used old number) → entrance_at new number ≡ entrance_at old number
  pub prefixes : (p : Prefix) → HasPrefix new p ↔ ((HasPrefix old p) ⊎ (Contains (beginnings whole) p))
  pub numbers : TakesLowest old new
  pub roots : (number : ℕ) → root_at new number ≡ root_at base number
  pub last : ℕ
  pub here : IsAt new last whole
  pub more : ends_at new last ≡ ends_at old last ++ end ∷ []
  -- each other state has the same ends
  pub others : (number : ℕ) → (number ≡ last → ⊥) → ends_at new number ≡ ends_at old number
  pub old_edges : (number : ℕ) → filter (is_used old) (edges_at new number) ≡ edges_at old number
  pub edge_last : (number place next : ℕ) → slice_get (edges_at new number) place ≡ Some next → is_used old next ≡ false → place + 1 ≡ length (edges_at new number)
  pub longer : length old ≤ length new
  pub in_state : EndsInState new

-- some end stands among more of them
any_more : (ends more : List End) → IsTrue (list_any any_end ends) → IsTrue (list_any any_end (ends ++ more))
any_more [] more has = absurd (let no : false ≡ true = has in cc)
any_more (end ∷ ends) more has = refl

any_last : (ends : List End) (end : End) → IsTrue (list_any any_end (ends ++ end ∷ []))
any_last [] end = refl
any_last (first ∷ ends) end = refl

-- the line has come to its end
module _ (old base : Net) (whole : Prefix) (last : ℕ) (end : End) (net new : Net) (growing : IsGrowing old base whole last net) (adds : AddsEnd last end net new) where
  same_entries : (number : ℕ) → entrance_at new number ≡ entrance_at net number
  same_entries = reads_alike entrance_in net new last (ap entrance_in adds.here ∙ end_entry end (state_at net last)) adds.others

  on : KeepsEntries net new
  on number e is = same_entries number ∙ is

  off : KeepsEntries new net
  off number e is = sym (same_entries number) ∙ is

  last_ends : ends_at new last ≡ ends_at net last ++ end ∷ []
  last_ends = ap ends_in adds.here ∙ end_ends end (state_at net last) (at_used net last whole growing.here)

  other_ends : (number : ℕ) → (number ≡ last → ⊥) → ends_at new number ≡ ends_at net number
  other_ends number ne = ap ends_in (adds.others number ne)

  still_ends : (number : ℕ) → IsTrue (list_any any_end (ends_at net number)) → IsTrue (list_any any_end (ends_at new number))
  still_ends number has = by_number (are_same_or_not number last)
    where
      by_number : (number ≡ last) ⊎ (number ≡ last → ⊥) → IsTrue (list_any any_end (ends_at new number))
      by_number (inl e) = subst (λ n. IsTrue (list_any any_end (ends_at new n))) (sym e) (subst (λ ends. IsTrue (list_any any_end ends)) (sym last_ends) (any_last (ends_at net last) end))
      by_number (inr ne) = subst (λ ends. IsTrue (list_any any_end ends)) (sym (other_ends number ne)) has

  used_now : (p : Prefix) → (IsUsedBy net any_end p) ⊎ (Contains (beginnings whole) p) → IsUsedBy new any_end p
  used_now p (inl use') = used_still net new on any_end still_ends p use'
  used_now p (inr begins) = record {
    last = last;
    whole = whole;
    here = at_kept net new on last whole growing.here;
    ends = subst (λ ends. IsTrue (list_any any_end ends)) (sym last_ends) (any_last (ends_at net last) end);
    begins = begins;
  }

  used_same : (number : ℕ) → is_used new number ≡ is_used net number
  used_same number = sym (entry_there (state_at new number)) ∙ ap is_some (same_entries number) ∙ entry_there (state_at net number)

  stays : (number : ℕ) → IsTrue (is_used old number) → entrance_at new number ≡ entrance_at old number
  stays number used = same_entries number ∙ growing.stay number used

  end_edges_same : (number : ℕ) → edges_at new number ≡ edges_at net number
  end_edges_same = reads_alike edges_in net new last (ap edges_in adds.here ∙ end_edges end (state_at net last)) adds.others

  -- behind all hops the network has grown by the line
  pub end_grown : HasGrown old base whole end new
  end_grown = record {
    network = adds_end_network last end net new adds growing.network;
    merged = record {
      apart = λ number other p here there. growing.apart number other p (at_kept new net off number p here) (at_kept new net off other p there);
      needed = λ number p here. used_now p (growing.needed number p (at_kept new net off number p here));
    };
    stay = stays;
    prefixes = λ p. (
      (λ (has : HasPrefix new p). growing.came p (has.0, at_kept new net off has.0 p has.1)),
      λ has. elim has [
        | inl was ↦ (was.0, at_kept old new (stay_keeps old new stays) was.0 p was.1)
        | inr begins ↦ at_beginning new last whole p (at_kept net new on last whole growing.here) begins
      ],
    );
    numbers = record {
      lowest = λ number below free used lt. used_same below ∙ growing.numbers.lowest number below free (sym (used_same number) ∙ used) lt;
      rising = λ number before free from. growing.numbers.rising number before free (ap (option_and_then before_by) (sym (same_entries number)) ∙ from);
    };
    roots = λ number. ap (option_and_then root_by) (same_entries number) ∙ growing.roots number;
    last = last;
    here = at_kept net new on last whole growing.here;
    more = last_ends ∙ ap (λ ends. ends ++ end ∷ []) (growing.same_ends last);
    others = λ number ne. other_ends number ne ∙ growing.same_ends number;
    old_edges = λ number. ap (filter (is_used old)) (end_edges_same number) ∙ growing.old_edges number;
    edge_last = λ number.
        subst (λ edges. (place next : ℕ) → slice_get edges place ≡ Some next → is_used old next ≡ false → place + 1 ≡ length edges) (sym (end_edges_same number)) (growing.edge_last number);
    longer = (let places = adds.places in let was = growing.longer in omega arith);
    in_state = λ some.
        (let places = adds.places in
        let same : length new - 1 ≡ length net - 1 = omega (arith, places) in ap (is_used new) same ∙ used_same (length net - 1) ∙ growing.last (omega (arith, places, some)));
  }

-- the line grows to its end
pub line_grown : (old base : Net) (hops : List Hop) (prefix : Prefix) (tip : ℕ) (end : End) (net new : Net) → IsGrowing old base prefix tip net
    → ((hop : Hop) (rest : List Hop) (next : ℕ) → hops ≡ hop ∷ rest → entrance_at net next ≡ Some (entrance.Waiting tip hop) → ⊥) → Grows tip hops end net new → HasGrown old base (extended prefix hops) end new
line_grown old base [] prefix tip end net new growing absent grows = end_grown old base prefix tip end net new growing grows
line_grown old base (hop ∷ hops) prefix tip end net new growing absent (number, grown, lowest, adds, grows) =
    let here_absent : (next : ℕ) → entrance_at net next ≡ Some (entrance.Waiting tip hop) → ⊥ = λ next entered. absent hop hops next refl entered in
    line_grown old base hops (After prefix hop) number end grown new (hop_growing old base prefix tip number hop net grown growing here_absent lowest adds)
    (λ later rest next is entered. none_from old base prefix tip number hop net grown growing here_absent lowest adds next (ap (option_and_then before_by) entered)) grows
