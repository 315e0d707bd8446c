-- Merged networks that lose the states that no end uses.
use Rattle.std.proofs.Common.{◌≡◌, ◌⊎◌, ◌∙◌, ◌↔◌, cond, nat_eq, sym, ap, refl, subst, inl, inr, ℕ, suc, ◌<◌, ◌≤◌, Bool, true, false, IsTrue, length, get_or, List, [], ◌∷◌, arith}
use Rattle.std.specs.Prelude.{All, Contains, Option, Some, None, is_some, slice_get}
use Rattle.std.specs.List.{list_any, swap_remove}
use Rattle.std.specs.HashMap.{HashMap, get}
use Rattle.std.specs.Option.{option_and_then}
use Rattle.automaton.specs.declared.line.Hop.{Hop}
use Rattle.automaton.specs.declared.network.End.{End}
use Rattle.automaton.specs.Changes.{RemovesState}
use Rattle.automaton.specs.Networks.{IsAt, IsNetwork}
use Rattle.automaton.specs.Prefixes.{Prefix, Root, After, beginnings}
use Rattle.automaton.specs.States.{Net, before_at, before_by, edges_at, edges_in, ends_at, ends_in, entrance_at, is_used, root_at, root_by, root_in, state_at, tells}
use Rattle.automaton.proofs.ClearedLemmas.{before_used, edge_leads, left_at, left_entry, left_reads, lost_edges, none_entered, removes_state_network, told_not, waiting_before}
use Rattle.event_types.proofs.NumberLemmas.{is_other, is_same}
use Rattle.automaton.proofs.NumberLemmas.{are_same_or_not}
use Rattle.automaton.proofs.SlotLemmas.{at_used, entry_there}
use Rattle.stream_readers.proofs.TargetLemmas.{edges_used}
use Rattle.prefix_merge.specs.Growth.{IsTable}
use Rattle.prefix_merge.specs.Merging.{IsUsedBy}
use Rattle.prefix_merge.specs.Pruning.{IsWithoutUnused, IsPruned, IsPruning, IsWanted}
use Rattle.prefix_merge.specs.Removal.{AreLeft, LoseOne}
use Rattle.prefix_merge.proofs.EdgeLemmas.{lost_ends}
use Rattle.prefix_merge.proofs.GrowthLemmas.{any_end, not_both}
use Rattle.prefix_merge.proofs.PrefixLemmas.{begins_before, begins_cases, begins_root, root_or_waiting}

-- how many hops a prefix has
abbrev depth : Prefix → ℕ
depth (Root stream) = 0
depth (After prefix hop) = suc (depth prefix)

begins_no_deeper : (whole prefix : Prefix) → Contains (beginnings whole) prefix → depth prefix ≤ depth whole
begins_no_deeper (Root stream) prefix has = let same = ap depth (begins_root stream prefix has) in omega (arith, same)
begins_no_deeper (After whole hop) prefix has = go (begins_no_deeper whole prefix) (begins_cases whole hop prefix has)
  where
    go : (Contains (beginnings whole) prefix → depth prefix ≤ depth whole) → (Contains (beginnings whole) prefix) ⊎ (prefix ≡ After whole hop) → depth prefix ≤ suc (depth whole)
    go rest (inl before) = let le = rest before in omega (arith, le)
    go rest (inr same) = let e = ap depth same in omega (arith, e)

-- a prefix doesn't begin with a longer one
not_longer : (prefix : Prefix) (hop : Hop) → Contains (beginnings prefix) (After prefix hop) → ⊥
not_longer prefix hop has = let le = begins_no_deeper prefix (After prefix hop) has in absurd (omega (arith, le))

-- the beginnings of a beginning are beginnings
pub begins_through : (whole middle first : Prefix) → Contains (beginnings whole) middle → Contains (beginnings middle) first → Contains (beginnings whole) first
begins_through (Root stream) middle first has then' = subst (λ p. Contains (beginnings p) first) (begins_root stream middle has) then'
begins_through (After whole hop) middle first has then' = go (begins_through whole middle first) (begins_cases whole hop middle has)
  where
    go : (Contains (beginnings whole) middle → Contains (beginnings middle) first → Contains (beginnings whole) first) → (Contains (beginnings whole) middle) ⊎ (middle ≡ After whole hop) → Contains (beginnings (After whole hop)) first
    go rest (inl before) = begins_before whole hop first (rest before then')
    go rest (inr same) = subst (λ p. Contains (beginnings p) first) same then'

-- where something stands, some end does
some_end : (ends : List End) → (ends ≡ [] → ⊥) → IsTrue (list_any any_end ends)
some_end [] some = absurd (some refl)
some_end (end ∷ ends) some = refl

-- where there are no ends, none counts
pub no_end : (ends : List End) → ends ≡ [] → IsTrue (list_any any_end ends) → ⊥
no_end ends none has = let no : false ≡ true = sym (ap (list_any any_end) none) ∙ has in cc

-- a state that is wanted ends the pruning
module _ (whole : Net) (prefix : Prefix) (tip : ℕ) (net : Net) (pruning : IsPruning whole prefix tip net) where
  used_at_tip : IsTrue (list_any any_end (ends_at net tip)) → (p : Prefix) → (IsUsedBy net any_end p) ⊎ (Contains (beginnings prefix) p) → IsUsedBy net any_end p
  used_at_tip has p (inl use') = use'
  used_at_tip has p (inr begins) = record { last = tip; whole = prefix; here = pruning.here; ends = has; begins = begins }

  -- a state that has an end stays
  pub ends_wanted : (ends_at net tip ≡ [] → ⊥) → IsPruned whole net
  ends_wanted some = record {
    left = pruning.left;
    merged = record { apart = pruning.apart; needed = λ number p here. used_at_tip (some_end (ends_at net tip) some) p (pruning.needed number p here) };
  }

  used_behind : (hop : Hop) → (IsUsedBy net any_end (After prefix hop)) ⊎ (Contains (beginnings prefix) (After prefix hop)) → (p : Prefix) → (IsUsedBy net any_end p) ⊎ (Contains (beginnings prefix) p) → IsUsedBy net any_end p
  used_behind hop next p (inl use') = use'
  used_behind hop (inr longer) p (inr begins) = absurd (not_longer prefix hop longer)
  used_behind hop (inl use') p (inr begins) = record {
    last = use'.last;
    whole = use'.whole;
    here = use'.here;
    ends = use'.ends;
    begins = begins_through use'.whole (After prefix hop) p use'.begins (begins_before prefix hop p begins);
  }

  -- a state that has an edge stays
  pub edges_wanted : (edges_at net tip ≡ [] → ⊥) → IsPruned whole net
  edges_wanted some = go (edges_at net tip) refl
    where
      go : (edges : List ℕ) → edges_at net tip ≡ edges → IsPruned whole net
      go [] none = absurd (some none)
      go (edge ∷ edges) is =
          let inside : 0 < length (edges_at net tip) = let longer = ap length is in omega (arith, longer) in
          let next = get_or (edges_at net tip) 0 0 in
          let from = waiting_before (entrance_at net next) tip (edge_leads net pruning.left.network tip 0 0 inside) in
          let behind : IsAt net next (After prefix from.0) = (tip, from.1, pruning.here) in
          record {
            left = pruning.left;
            merged = record { apart = pruning.apart; needed = λ number p here. used_behind from.0 (pruning.needed next (After prefix from.0) behind) p (pruning.needed number p here) };
          }

  -- a state that isn't wanted leaves
  module _ (left : Net) (removes : RemovesState tip net left) (no_edges : edges_at net tip ≡ []) (no_ends : ends_at net tip ≡ []) where
    gone : is_used left tip ≡ false
    gone = ap is_some removes.here

    not_tip : (number : ℕ) → is_used left number ≡ true → number ≡ tip → ⊥
    not_tip number used same = not_both left number used (ap (is_used left) same ∙ gone)

    entry_left : (number : ℕ) → (number ≡ tip → ⊥) → entrance_at left number ≡ entrance_at net number
    entry_left = left_entry tip net left removes no_edges pruning.left.network

    -- each state that is left had its prefix before
    pub at_before : (number : ℕ) (p : Prefix) → IsAt left number p → IsAt net number p
    at_before number (Root stream) here = ap (option_and_then root_by) (sym (entry_left number (not_tip number (at_used left number (Root stream) here)))) ∙ here
    at_before number (After p hop) here =
        (here.0, sym (entry_left number (not_tip number (at_used left number (After p hop) here))) ∙ here.1, at_before here.0 p here.2)

    ends_left : (number : ℕ) → ends_at left number ≡ ends_at net number
    ends_left number = by_number (are_same_or_not number tip)
      where
        by_number : (number ≡ tip) ⊎ (number ≡ tip → ⊥) → ends_at left number ≡ ends_at net number
        by_number (inl same) = ap (ends_at left) same ∙ ap ends_in removes.here ∙ sym no_ends ∙ ap (ends_at net) (sym same)
        by_number (inr ne) = left_reads tip net left removes no_edges pruning.left.network ends_in (lost_ends tip) number ne

    network_left : IsNetwork left
    network_left = removes_state_network tip net left removes no_edges pruning.left.network

    used_net : (number : ℕ) → is_used left number ≡ true → is_used net number ≡ true
    used_net number used = sym (entry_there (state_at net number)) ∙ ap is_some (sym (entry_left number (not_tip number used))) ∙ entry_there (state_at left number) ∙ used

    -- each state that is left but the one before the tip has the edges that it had
    pub edges_kept : (number : ℕ) → is_used left number ≡ true → tells number (before_at net tip) ≡ false → edges_at left number ≡ edges_at whole number
    edges_kept number used told = ap edges_in (removes.others number (not_tip number used) told) ∙ pruning.edges number (used_net number used) (not_tip number used)

    -- and that one lost the edge to the tip
    edges_less : (number : ℕ) → is_used left number ≡ true → before_at net tip ≡ Some number → LoseOne (is_used left) (edges_at whole number) (edges_at left number)
    edges_less number used from =
        let loses = removes.edge number from in
        let had = pruning.edges number (used_net number used) (not_tip number used) in
        record {
          place = loses.place;
          next = tip;
          led = ap (λ edges. slice_get edges loses.place) (sym had) ∙ loses.there;
          gone = gone;
          rest = lost_edges tip (state_at net number) (state_at left number) loses ∙ ap (λ edges. swap_remove edges loses.place tip) had;
        }

    edges_left : (number : ℕ) → is_used left number ≡ true → AreLeft (is_used left) (edges_at whole number) (edges_at left number)
    edges_left number used = by_before (before_at net tip) refl
      where
        untold : tells number (before_at net tip) ≡ false → AreLeft (is_used left) (edges_at whole number) (edges_at left number)
        untold told = let same = edges_kept number used told in inl (subst (All (λ next. IsTrue (is_used left next))) same (edges_used left network_left number), same)

        by_before : (o : Option ℕ) → before_at net tip ≡ o → AreLeft (is_used left) (edges_at whole number) (edges_at left number)
        by_before None from = untold (ap (tells number) from)
        by_before (Some before) from = by_number (are_same_or_not before number)
          where
            by_number : (before ≡ number) ⊎ (before ≡ number → ⊥) → AreLeft (is_used left) (edges_at whole number) (edges_at left number)
            by_number (inl same) = inr (edges_less number used (from ∙ ap (λ n. Some n) same))
            by_number (inr apart) = untold (ap (tells number) from ∙ is_other before number apart)

    -- what is left has the prefixes that are wanted
    pub still_left : IsWithoutUnused whole left
    still_left = record {
      network = network_left;
      stay = λ number used. entry_left number (not_tip number used) ∙ pruning.left.stay number (used_net number used);
      ends = λ number. ends_left number ∙ pruning.left.ends number;
      edges = edges_left;
      places = removes.places ∙ pruning.left.places;
    }

    still_apart : (number other : ℕ) (p : Prefix) → IsAt left number p → IsAt left other p → number ≡ other
    still_apart number other p here there = pruning.apart number other p (at_before number p here) (at_before other p there)

    -- no state has the prefix any more
    none_has : (number : ℕ) → IsAt left number prefix → ⊥
    none_has number here = not_tip number (at_used left number prefix here) (pruning.apart number tip prefix (at_before number prefix here) pruning.here)

    use_left : (p : Prefix) → IsUsedBy net any_end p → IsUsedBy left any_end p
    use_left p use' = record {
      last = use'.last;
      whole = use'.whole;
      here = left_at tip net left removes no_edges pruning.left.network use'.last use'.whole (λ same. no_end (ends_at net use'.last) (ap (ends_at net) same ∙ no_ends) use'.ends) use'.here;
      ends = subst (λ ends. IsTrue (list_any any_end ends)) (sym (ends_left use'.last)) use'.ends;
      begins = use'.begins;
    }

-- from a root state the pruning comes to its end
pub root_pruned : (whole : Net) (prefix : Prefix) (tip : ℕ) (net left : Net) → IsPruning whole prefix tip net → RemovesState tip net left → edges_at net tip ≡ [] → ends_at net tip ≡ [] → before_at net tip ≡ None → IsPruned whole left
root_pruned whole (After prefix hop) tip net left pruning removes no_edges no_ends none =
    absurd (let some = ap (option_and_then before_by) pruning.here.1 in let no : None ≡ Some pruning.here.0 = sym none ∙ some in cc)
root_pruned whole (Root stream) tip net left pruning removes no_edges no_ends none = record {
  left = still_left whole (Root stream) tip net pruning left removes no_edges no_ends;
  merged = record {
    apart = still_apart whole (Root stream) tip net pruning left removes no_edges no_ends;
    needed = λ number p here. by_need number p here (pruning.needed number p (at_before whole (Root stream) tip net pruning left removes no_edges no_ends number p here));
  };
}
  where
    by_need : (number : ℕ) (p : Prefix) → IsAt left number p → (IsUsedBy net any_end p) ⊎ (Contains (beginnings (Root stream)) p) → IsUsedBy left any_end p
    by_need number p here (inl use') = use_left whole (Root stream) tip net pruning left removes no_edges no_ends p use'
    by_need number p here (inr begins) = absurd (none_has whole (Root stream) tip net pruning left removes no_edges no_ends number (subst (IsAt left number) (begins_root stream p begins) here))

-- from a waiting state it goes on at the state before
pub hop_pruning : (whole : Net) (prefix : Prefix) (hop : Hop) (tip before : ℕ) (net left : Net) → IsPruning whole (After prefix hop) tip net → RemovesState tip net left → edges_at net tip ≡ [] → ends_at net tip ≡ [] → before_at net tip ≡ Some before
    → IsPruning whole prefix before left
hop_pruning whole prefix hop tip before net left pruning removes no_edges no_ends from = record {
  left = still_left whole (After prefix hop) tip net pruning left removes no_edges no_ends;
  here = subst (λ n. IsAt left n prefix) same here;
  apart = still_apart whole (After prefix hop) tip net pruning left removes no_edges no_ends;
  needed = λ number p at_left. by_need number p at_left (pruning.needed number p (at_before whole (After prefix hop) tip net pruning left removes no_edges no_ends number p at_left));
  edges = λ number used apart. edges_kept whole (After prefix hop) tip net pruning left removes no_edges no_ends number used (ap (tells number) from ∙ is_other before number (λ e. apart (sym e)));
}
  where
    told : before_at net tip ≡ Some pruning.here.0
    told = ap (option_and_then before_by) pruning.here.1

    same : pruning.here.0 ≡ before
    same = let e : Some pruning.here.0 ≡ Some before = sym told ∙ from in cc

    here : IsAt left pruning.here.0 prefix
    here = left_at tip net left removes no_edges pruning.left.network pruning.here.0 prefix (λ e. none_entered net pruning.left.network tip tip no_edges (told ∙ ap (λ n. Some n) e)) pruning.here.2

    by_need : (number : ℕ) (p : Prefix) → IsAt left number p → (IsUsedBy net any_end p) ⊎ (Contains (beginnings (After prefix hop)) p) → (IsUsedBy left any_end p) ⊎ (Contains (beginnings prefix) p)
    by_need number p at_left (inl use') = inl (use_left whole (After prefix hop) tip net pruning left removes no_edges no_ends p use')
    by_need number p at_left (inr begins) = by_case (begins_cases prefix hop p begins)
      where
        by_case : (Contains (beginnings prefix) p) ⊎ (p ≡ After prefix hop) → (IsUsedBy left any_end p) ⊎ (Contains (beginnings prefix) p)
        by_case (inl earlier) = inr earlier
        by_case (inr itself) = absurd (none_has whole (After prefix hop) tip net pruning left removes no_edges no_ends number (subst (IsAt left number) itself at_left))

-- so where the rest is pruned from there, all is
pub goes_on : (whole : Net) (prefix : Prefix) (tip before : ℕ) (net left new : Net) → ((w : Net) (p : Prefix) → IsPruning w p before left → IsPruned w new) → IsPruning whole prefix tip net → RemovesState tip net left → edges_at net tip ≡ [] → ends_at net tip ≡ []
    → before_at net tip ≡ Some before → IsPruned whole new
goes_on whole (Root stream) tip before net left new rest pruning removes no_edges no_ends from =
    absurd (let w = waiting_before (entrance_at net tip) before from in root_or_waiting (entrance_at net tip) stream before w.0 pruning.here w.1)
goes_on whole (After prefix hop) tip before net left new rest pruning removes no_edges no_ends from = rest whole prefix (hop_pruning whole prefix hop tip before net left pruning removes no_edges no_ends from)

-- the pruning is over where the state is wanted
pub wanted_pruned : (whole : Net) (prefix : Prefix) (tip : ℕ) (net : Net) → IsWanted net tip → IsPruning whole prefix tip net → IsPruned whole net
wanted_pruned whole prefix tip net (inl edges) pruning = edges_wanted whole prefix tip net pruning edges
wanted_pruned whole prefix tip net (inr ends) pruning = ends_wanted whole prefix tip net pruning ends

-- the state before stays
pub before_stays : (net left : Net) (tip before : ℕ) → IsNetwork net → edges_at net tip ≡ [] → RemovesState tip net left → before_at net tip ≡ Some before → is_used left before ≡ true
before_stays net left tip before network no_edges removes from =
    let apart : before ≡ tip → ⊥ = λ same. none_entered net network tip tip no_edges (from ∙ ap (λ n. Some n) same) in
    sym (entry_there (state_at left before)) ∙ ap is_some (left_entry tip net left removes no_edges network before apart) ∙ entry_there (state_at net before) ∙ before_used net network tip before from

-- the table without the root state that leaves
module _ {S : Type 0} (table less : HashMap ℕ ℕ S) (net left : Net) (tip : ℕ) (stream : Option ℕ) (network : IsNetwork net) (no_edges : edges_at net tip ≡ []) (removes : RemovesState tip net left) (its : stream ≡ root_at net tip)
    (forgets : (other : ℕ) → get nat_eq less other ≡ cond (tells other stream) None (get nat_eq table other)) (is : IsTable table net) where
  root_left : (number : ℕ) → (number ≡ tip → ⊥) → root_at left number ≡ root_at net number
  root_left number ne = ap (option_and_then root_by) (left_entry tip net left removes no_edges network number ne)

  root_gone : root_at left tip ≡ None
  root_gone = ap root_in removes.here

  -- the table without the stream tells the roots that are left
  pub table_less : IsTable less left
  table_less other number = (fore, back)
    where
      fore : get nat_eq less other ≡ Some number → root_at left number ≡ Some other
      fore has = by_told (tells other stream) refl
        where
          by_told : (b : Bool) → tells other stream ≡ b → root_at left number ≡ Some other
          by_told true told = let none = forgets other ∙ ap (λ b. cond b None (get nat_eq table other)) told in let no : None ≡ Some number = sym none ∙ has in cc
          by_told false told =
              let there : root_at net number ≡ Some other = (is other number).0 (sym (forgets other ∙ ap (λ b. cond b None (get nat_eq table other)) told) ∙ has) in
              let apart : number ≡ tip → ⊥ = λ same. (let root : stream ≡ Some other = its ∙ ap (root_at net) (sym same) ∙ there in
              let no : true ≡ false = sym (ap (tells other) root ∙ is_same other other refl) ∙ told in cc) in
              root_left number apart ∙ there

      back : root_at left number ≡ Some other → get nat_eq less other ≡ Some number
      back has =
          let apart : number ≡ tip → ⊥ = λ same. (let no : None ≡ Some other = sym root_gone ∙ ap (root_at left) (sym same) ∙ has in cc) in
          let there : root_at net number ≡ Some other = sym (root_left number apart) ∙ has in
          let untold : tells other stream ≡ false = told_not other stream (λ root. apart (same_number' (is other tip) (is other number) (sym its ∙ root) there)) in
          forgets other ∙ ap (λ b. cond b None (get nat_eq table other)) untold ∙ (is other number).1 there
        where
          same_number' : (get nat_eq table other ≡ Some tip) ↔ (root_at net tip ≡ Some other) → (get nat_eq table other ≡ Some number) ↔ (root_at net number ≡ Some other) → root_at net tip ≡ Some other → root_at net number ≡ Some other → number ≡ tip
          same_number' at_tip at_number root there = let e : Some number ≡ Some tip = sym (at_number.1 there) ∙ at_tip.1 root in cc
