-- Merged networks that grow by a state, an end, and a line.
use Rattle.std.proofs.Common.{◌≡◌, ◌⊎◌, ◌∙◌, sym, ap, refl, subst, inl, inr, ℕ, ◌+◌, ◌-◌, ◌<◌, ◌≤◌, Bool, true, false, cond, IsTrue, length, [], ◌∷◌, ◌++◌, append-nil, arith}
use Rattle.std.specs.Prelude.{All, Contains, Some, is_some, slice_get}
use Rattle.std.specs.List.{filter, list_any}
use Rattle.std.specs.Option.{option_and_then}
use Rattle.std.proofs.lemmas.Bool.{cases_lt}
use Rattle.std.proofs.lemmas.List.Elements.{All-nil, filter-append}
use Rattle.automaton.specs.declared.line.Hop.{Hop}
use Rattle.automaton.specs.declared.network.End.{End}
use Rattle.automaton.specs.declared.network.Entrance.TheVariants as entrance
use Rattle.automaton.specs.Changes.{AddsHop}
use Rattle.automaton.specs.Networks.{IsAt, IsNetwork}
use Rattle.automaton.specs.Prefixes.{Prefix, Root, After, beginnings}
use Rattle.automaton.specs.States.{Net, before_at, before_by, edges_at, edges_in, ends_at, ends_in, entrance_at, entrance_in, is_used, root_at, root_by, root_in, state_at}
use Rattle.automaton.proofs.ChangeLemmas.{adds_hop_network, edges_before, free_kept, free_reads, hop_apart, hop_edges, hop_entry}
use Rattle.automaton.proofs.ClearedLemmas.{before_used}
use Rattle.automaton.proofs.NumberLemmas.{are_same_or_not}
use Rattle.automaton.proofs.SlotLemmas.{KeepsEntries, at_kept, at_one, at_used, edge_ends, entry_there, used_below}
use Rattle.prefix_merge.specs.Insertion.{TakesLowest}
use Rattle.prefix_merge.specs.Merging.{EndsInState, HasPrefix, IsLowestFree, IsUsedBy}
use Rattle.prefix_merge.proofs.EdgeLemmas.{new_behind}
use Rattle.prefix_merge.proofs.PrefixLemmas.{begins_before, begins_itself}

-- a state isn't both there and not there
pub not_both : (net : Net) (number : ℕ) → is_used net number ≡ true → is_used net number ≡ false → ⊥
not_both net number used free = let no : true ≡ false = sym used ∙ free in cc

-- the lowest free number is the next one at most
pub lowest_within : (net : Net) (number : ℕ) → IsLowestFree net number → number ≤ length net
lowest_within net number is = by_order (cases_lt (length net) number)
  where
    by_order : (length net < number) ⊎ (number ≤ length net) → number ≤ length net
    by_order (inl past) = let below = used_below net (length net) (is.lowest (length net) past) in absurd (omega (arith, below))
    by_order (inr le) = le

-- any end
abbrev pub any_end : End → Bool
any_end end = true

-- what is used is used still, where states and ends stay
pub used_still : (net grown : Net) → KeepsEntries net grown → (kind : End → Bool) → ((number : ℕ) → IsTrue (list_any kind (ends_at net number)) → IsTrue (list_any kind (ends_at grown number))) → (prefix : Prefix) → IsUsedBy net kind prefix → IsUsedBy grown kind prefix
used_still net grown keeps kind ends prefix use' = record {
  last = use'.last;
  whole = use'.whole;
  here = at_kept net grown keeps use'.last use'.whole use'.here;
  ends = ends use'.last use'.ends;
  begins = use'.begins;
}

-- a network in the midst of growth: the line has come to a state by a prefix, and each other state is used
pub record IsGrowing (old base : Net) (prefix : Prefix) (tip : ℕ) (net : Net) : Type 0 where
  pub network : IsNetwork net
  pub here : IsAt net tip prefix
  -- two states of one prefix are one
  pub apart : (number other : ℕ) (p : Prefix) → IsAt net number p → IsAt net other p → number ≡ other
  pub needed : (number : ℕ) (p : Prefix) → IsAt net number p → (IsUsedBy net any_end p) ⊎ (Contains (beginnings prefix) p)
  pub stay : (number : ℕ) → IsTrue (is_used old number) → entrance_at net number ≡ entrance_at old number
  pub same_ends : (number : ℕ) → ends_at net number ≡ ends_at old number
  pub old_edges : (number : ℕ) → filter (is_used old) (edges_at net number) ≡ edges_at old number
  pub edge_last : (number place next : ℕ) → slice_get (edges_at net number) place ≡ Some next → is_used old next ≡ false → place + 1 ≡ length (edges_at net number)
  -- the edges of the state that the line has come to lead to old states
  pub tip_edges : All (λ next. IsTrue (is_used old next)) (edges_at net tip)
  pub came : (p : Prefix) → HasPrefix net p → (HasPrefix old p) ⊎ (Contains (beginnings prefix) p)
  pub numbers : TakesLowest old net
  pub roots : (number : ℕ) → root_at net number ≡ root_at base number
  pub longer : length old ≤ length net
  pub last : EndsInState net

-- a state that wasn't there comes
module _ (net grown : Net) (number : ℕ) (is : IsNetwork net) (free : is_used net number ≡ false) (entries : (other : ℕ) → (other ≡ number → ⊥) → entrance_at grown other ≡ entrance_at net other) where
  -- no state stands behind the new one
  pub not_before : (next : ℕ) → before_at net next ≡ Some number → ⊥
  not_before next from = not_both net number (before_used net is next number from) free

  -- each other state had its prefix before
  pub back : (other : ℕ) (p : Prefix) → (other ≡ number → ⊥) → IsAt grown other p → IsAt net other p
  back other (Root stream) ne here = ap (option_and_then root_by) (sym (entries other ne)) ∙ here
  back other (After p hop) ne here =
      let same = sym (entries other ne) ∙ here.1 in
      (here.0, same, back here.0 p (λ e. not_before other (ap (option_and_then before_by) same ∙ ap (λ n. Some n) e)) here.2)

  -- growth keeps the entries
  pub forth : KeepsEntries net grown
  forth = free_kept net grown number free entries

  -- each other state was there before
  pub used_back : (other : ℕ) → (other ≡ number → ⊥) → is_used grown other ≡ true → is_used net other ≡ true
  used_back other ne used = sym (entry_there (state_at net other)) ∙ ap is_some (sym (entries other ne)) ∙ entry_there (state_at grown other) ∙ used

  -- each state of before is there
  pub used_forth : (other : ℕ) → is_used net other ≡ true → is_used grown other ≡ true
  used_forth other used =
      let ne : other ≡ number → ⊥ = λ e. not_both net other used (ap (is_used net) e ∙ free) in
      sym (entry_there (state_at grown other)) ∙ ap is_some (entries other ne) ∙ entry_there (state_at net other) ∙ used

-- the lowest free number is above each state that came before
above_tip : (old net : Net) (tip number : ℕ) → TakesLowest old net → is_used old tip ≡ false → is_used net tip ≡ true → IsLowestFree net number → tip < number
above_tip old net tip number numbers came used lowest = by_order (cases_lt tip number)
  where
    by_order : (tip < number) ⊎ (number ≤ tip) → tip < number
    by_order (inl lt) = lt
    by_order (inr le) = by_number (are_same_or_not number tip)
      where
        by_number : (number ≡ tip) ⊎ (number ≡ tip → ⊥) → tip < number
        by_number (inl same) = absurd (not_both net tip used (ap (is_used net) (sym same) ∙ lowest.free))
        by_number (inr ne) = absurd (not_both net number (numbers.lowest tip number came used (omega (arith, le, ne))) lowest.free)

-- a hop's state comes
module _ (old base : Net) (prefix : Prefix) (tip number : ℕ) (hop : Hop) (net grown : Net) (growing : IsGrowing old base prefix tip net)
    (absent : (next : ℕ) → entrance_at net next ≡ Some (entrance.Waiting tip hop) → ⊥) (lowest : IsLowestFree net number) (adds : AddsHop number tip hop net grown) where
  tip_used : is_used net tip ≡ true
  tip_used = at_used net tip prefix growing.here

  entries : (other : ℕ) → (other ≡ number → ⊥) → entrance_at grown other ≡ entrance_at net other
  entries = hop_entry number tip hop net grown lowest.free tip_used adds growing.network

  apart_tip : tip ≡ number → ⊥
  apart_tip = hop_apart number tip hop net grown lowest.free tip_used adds growing.network

  new_entry : entrance_at grown number ≡ Some (entrance.Waiting tip hop)
  new_entry = ap entrance_in adds.here

  new_here : IsAt grown number (After prefix hop)
  new_here = (tip, new_entry, at_kept net grown (forth net grown number growing.network lowest.free entries) tip prefix growing.here)

  -- none is entered from it
  pub none_from : (next : ℕ) → before_at grown next ≡ Some number → ⊥
  none_from next from = by_number (are_same_or_not next number)
    where
      by_number : (next ≡ number) ⊎ (next ≡ number → ⊥) → ⊥
      by_number (inl same) =
          let told : before_at grown number ≡ Some tip = ap (option_and_then before_by) new_entry in
          let told' : before_at grown number ≡ Some number = ap (before_at grown) (sym same) ∙ from in
          apart_tip (let e : tip ≡ number = cc in e)
      by_number (inr ne) = not_before net grown number growing.network lowest.free entries next (ap (option_and_then before_by) (sym (entries next ne)) ∙ from)

  ends_kept : (other : ℕ) → ends_at grown other ≡ ends_at net other
  ends_kept other = by_number (are_same_or_not other number) (are_same_or_not other tip)
    where
      by_number : (other ≡ number) ⊎ (other ≡ number → ⊥) → (other ≡ tip) ⊎ (other ≡ tip → ⊥) → ends_at grown other ≡ ends_at net other
      by_number (inl same) t = ap (ends_at grown) same ∙ ap ends_in adds.here ∙ sym (free_reads net grown number lowest.free ends_in) ∙ ap (ends_at net) (sym same)
      by_number (inr ne) (inl same) = ap (ends_at grown) same ∙ ap ends_in adds.edge ∙ edge_ends number (state_at net tip) ∙ ap (ends_at net) (sym same)
      by_number (inr ne) (inr nt) = ap ends_in (adds.others other ne nt)

  new_alone : (other : ℕ) → (other ≡ number → ⊥) → IsAt grown other (After prefix hop) → ⊥
  new_alone other ne there =
      let was = back net grown number growing.network lowest.free entries other (After prefix hop) ne there in
      let same = growing.apart was.0 tip prefix was.2 growing.here in
      absent other (was.1 ∙ ap (λ n. Some (entrance.Waiting n hop)) same)

  new_place : (other : ℕ) (p : Prefix) → other ≡ number → IsAt grown other p → p ≡ After prefix hop
  new_place other p same there = at_one grown number p (After prefix hop) (subst (λ n. IsAt grown n p) same there) new_here

  hop_alone : (m n : ℕ) (p : Prefix) → IsAt grown m p → IsAt grown n p → m ≡ n
  hop_alone m n p at_m at_n = by_number (are_same_or_not m number) (are_same_or_not n number)
    where
      by_number : (m ≡ number) ⊎ (m ≡ number → ⊥) → (n ≡ number) ⊎ (n ≡ number → ⊥) → m ≡ n
      by_number (inl e) (inl f) = e ∙ sym f
      by_number (inl e) (inr nf) = absurd (new_alone n nf (subst (IsAt grown n) (new_place m p e at_m) at_n))
      by_number (inr ne) (inl f) = absurd (new_alone m ne (subst (IsAt grown m) (new_place n p f at_n) at_m))
      by_number (inr ne) (inr nf) =
          growing.apart m n p (back net grown number growing.network lowest.free entries m p ne at_m) (back net grown number growing.network lowest.free entries n p nf at_n)

  hop_needed : (n : ℕ) (p : Prefix) → IsAt grown n p → (IsUsedBy grown any_end p) ⊎ (Contains (beginnings (After prefix hop)) p)
  hop_needed n p there = by_number (are_same_or_not n number)
    where
      still : (IsUsedBy net any_end p) ⊎ (Contains (beginnings prefix) p) → (IsUsedBy grown any_end p) ⊎ (Contains (beginnings (After prefix hop)) p)
      still (inl use') = inl (used_still net grown (forth net grown number growing.network lowest.free entries) any_end (λ m has. subst (λ ends. IsTrue (list_any any_end ends)) (sym (ends_kept m)) has) p use')
      still (inr begins) = inr (begins_before prefix hop p begins)

      by_number : (n ≡ number) ⊎ (n ≡ number → ⊥) → (IsUsedBy grown any_end p) ⊎ (Contains (beginnings (After prefix hop)) p)
      by_number (inl e) = inr (subst (Contains (beginnings (After prefix hop))) (sym (new_place n p e there)) (begins_itself (After prefix hop)))
      by_number (inr ne) = still (growing.needed n p (back net grown number growing.network lowest.free entries n p ne there))

  hop_came : (p : Prefix) → HasPrefix grown p → (HasPrefix old p) ⊎ (Contains (beginnings (After prefix hop)) p)
  hop_came p (n, there) = by_number (are_same_or_not n number)
    where
      still : (HasPrefix old p) ⊎ (Contains (beginnings prefix) p) → (HasPrefix old p) ⊎ (Contains (beginnings (After prefix hop)) p)
      still (inl was) = inl was
      still (inr begins) = inr (begins_before prefix hop p begins)

      by_number : (n ≡ number) ⊎ (n ≡ number → ⊥) → (HasPrefix old p) ⊎ (Contains (beginnings (After prefix hop)) p)
      by_number (inl e) = inr (subst (Contains (beginnings (After prefix hop))) (sym (new_place n p e there)) (begins_itself (After prefix hop)))
      by_number (inr ne) = still (growing.came p (n, back net grown number growing.network lowest.free entries n p ne there))

  hop_lowest : (n below : ℕ) → is_used old n ≡ false → IsTrue (is_used grown n) → below < n → IsTrue (is_used grown below)
  hop_lowest n below came used lt = used_forth net grown number growing.network lowest.free entries below (by_number (are_same_or_not n number))
    where
      by_number : (n ≡ number) ⊎ (n ≡ number → ⊥) → is_used net below ≡ true
      by_number (inl e) = lowest.lowest below (omega (arith, lt, e))
      by_number (inr ne) = growing.numbers.lowest n below came (used_back net grown number growing.network lowest.free entries n ne used) lt

  hop_rising : (n before : ℕ) → is_used old before ≡ false → before_at grown n ≡ Some before → before < n
  hop_rising n before came from = by_number (are_same_or_not n number)
    where
      by_number : (n ≡ number) ⊎ (n ≡ number → ⊥) → before < n
      by_number (inl e) =
          let told : before_at grown number ≡ Some tip = ap (option_and_then before_by) new_entry in
          let told' : before_at grown number ≡ Some before = ap (before_at grown) (sym e) ∙ from in
          let same : tip ≡ before = cc in
          let above = above_tip old net tip number growing.numbers (ap (is_used old) same ∙ came) tip_used lowest in omega (arith, above, same, e)
      by_number (inr ne) = growing.numbers.rising n before came (ap (option_and_then before_by) (sym (entries n ne)) ∙ from)

  hop_roots : (n : ℕ) → root_at grown n ≡ root_at base n
  hop_roots n = by_number (are_same_or_not n number) ∙ growing.roots n
    where
      by_number : (n ≡ number) ⊎ (n ≡ number → ⊥) → root_at grown n ≡ root_at net n
      by_number (inl e) = ap (root_at grown) e ∙ ap (option_and_then root_by) new_entry ∙ sym (free_reads net grown number lowest.free root_in) ∙ ap (root_at net) (sym e)
      by_number (inr ne) = ap (option_and_then root_by) (entries n ne)

  hop_stay : (n : ℕ) → IsTrue (is_used old n) → entrance_at grown n ≡ entrance_at old n
  hop_stay n used =
      let was : is_used net n ≡ true = sym (entry_there (state_at net n)) ∙ ap is_some (growing.stay n used) ∙ entry_there (state_at old n) ∙ used in
      entries n (λ e. not_both net n was (ap (is_used net) e ∙ lowest.free)) ∙ growing.stay n used

  -- the new state isn't an old one
  new_free : is_used old number ≡ false
  new_free = by_use (is_used old number) refl
    where
      by_use : (b : Bool) → is_used old number ≡ b → b ≡ false
      by_use false free = refl
      by_use true used = absurd (not_both net number (sym (entry_there (state_at net number)) ∙ ap is_some (growing.stay number used) ∙ entry_there (state_at old number) ∙ used) lowest.free)

  hop_old_edges : (n : ℕ) → filter (is_used old) (edges_at grown n) ≡ edges_at old n
  hop_old_edges n = by_number (are_same_or_not n tip)
    where
      by_number : (n ≡ tip) ⊎ (n ≡ tip → ⊥) → filter (is_used old) (edges_at grown n) ≡ edges_at old n
      by_number (inl same) =
          ap (λ m. filter (is_used old) (edges_at grown m)) same ∙ ap (filter (is_used old)) (edges_before number tip hop net grown lowest.free tip_used adds growing.network)
          ∙ filter-append (is_used old) (edges_at net tip) (number ∷ []) ∙ (λ i. filter (is_used old) (edges_at net tip) ++ cond (new_free i) (number ∷ []) []) ∙ append-nil (filter (is_used old) (edges_at net tip))
          ∙ growing.old_edges tip ∙ ap (edges_at old) (sym same)
      by_number (inr nt) = ap (filter (is_used old)) (hop_edges number tip hop net grown lowest.free tip_used adds growing.network n nt) ∙ growing.old_edges n

  hop_edge_last : (n place next : ℕ) → slice_get (edges_at grown n) place ≡ Some next → is_used old next ≡ false → place + 1 ≡ length (edges_at grown n)
  hop_edge_last n = by_number (are_same_or_not n tip)
    where
      by_number : (n ≡ tip) ⊎ (n ≡ tip → ⊥) → (place next : ℕ) → slice_get (edges_at grown n) place ≡ Some next → is_used old next ≡ false → place + 1 ≡ length (edges_at grown n)
      by_number (inl same) =
          subst (λ edges. (place next : ℕ) → slice_get edges place ≡ Some next → is_used old next ≡ false → place + 1 ≡ length edges) (sym (ap (edges_at grown) same ∙ edges_before number tip hop net grown lowest.free tip_used adds growing.network))
          (new_behind (is_used old) (edges_at net tip) number growing.tip_edges)
      by_number (inr nt) =
          subst (λ edges. (place next : ℕ) → slice_get edges place ≡ Some next → is_used old next ≡ false → place + 1 ≡ length edges) (sym (hop_edges number tip hop net grown lowest.free tip_used adds growing.network n nt)) (growing.edge_last n)

  hop_tip_edges : All (λ next. IsTrue (is_used old next)) (edges_at grown number)
  hop_tip_edges = subst (All (λ next. IsTrue (is_used old next))) (sym (ap edges_in adds.here)) (All-nil (λ next. IsTrue (is_used old next)))

  -- the last place is a state's
  hop_last : EndsInState grown
  hop_last some = by_order (cases_lt number (length net))
    where
      by_order : (number < length net) ⊎ (length net ≤ number) → is_used grown (length grown - 1) ≡ true
      by_order (inl inside) =
          let same : length grown - 1 ≡ length net - 1 = let places = adds.places in omega (arith, places, inside) in
          ap (is_used grown) same ∙ used_forth net grown number growing.network lowest.free entries (length net - 1) (growing.last (omega (arith, inside)))
      by_order (inr past) = let same : length grown - 1 ≡ number = let places = adds.places in omega (arith, places, past) in ap (is_used grown) same ∙ ap is_some adds.here

  -- a network grows by a hop
  pub hop_growing : IsGrowing old base (After prefix hop) number grown
  hop_growing = record {
    network = adds_hop_network number tip hop net grown lowest.free tip_used adds growing.network;
    here = new_here;
    apart = hop_alone;
    needed = hop_needed;
    stay = hop_stay;
    same_ends = λ n. ends_kept n ∙ growing.same_ends n;
    old_edges = hop_old_edges;
    edge_last = hop_edge_last;
    tip_edges = hop_tip_edges;
    came = hop_came;
    numbers = record { lowest = hop_lowest; rising = hop_rising };
    roots = hop_roots;
    longer = (let places = adds.places in let was = growing.longer in omega arith);
    last = hop_last;
  }
