-- Networks without places at the end that no state has.
use Rattle.std.proofs.Common.{◌≡◌, ◌∙◌, sym, ap, subst, ℕ, zero, suc, ◌+◌, ◌-◌, ◌≤◌, ◌==◌, Bool, not, IsTrue, length, List, [], ◌++◌, map, append-nil, add-zero, arith}
use Rattle.std.specs.Prelude.{None, count_by, is_some}
use Rattle.std.specs.HashMap.{HashMap}
use Rattle.std.specs.List.{filter, flat_map, list_any, range_with_len}
use Rattle.std.specs.List.Sorted.{IsPermutation}
use Rattle.std.proofs.lemmas.List.{get_or_past}
use Rattle.automaton.specs.declared.network.End.{End}
use Rattle.automaton.specs.NetworkLines.{Ending, HasEndings, ending_at, endings_by}
use Rattle.automaton.specs.Networks.{IsNetwork}
use Rattle.automaton.specs.Prefixes.{Prefix}
use Rattle.automaton.specs.States.{Net, before_in, edges_at, edges_in, ends_at, ends_in, entrance_in, is_used, root_in, tells}
use Rattle.automaton.proofs.CountLemmas.{bit, range-push}
use Rattle.automaton.proofs.SlotLemmas.{KeepsEntries, at_kept}
use Rattle.prefix_merge.specs.Growth.{IsTable}
use Rattle.prefix_merge.specs.Merging.{HasEnd, HasOwnNumbers, IsMerged, IsUsedBy, ends_numbered}
use Rattle.prefix_merge.specs.Pruning.{IsShortened}
use Rattle.prefix_merge.specs.Removal.{AreLeft, Removes}
use Rattle.prefix_merge.proofs.GrowthLemmas.{any_end, used_still}

-- beyond a number there is nothing
range_cut : {X : Type 0} (f : ℕ → List X) (n d : ℕ) → ((k : ℕ) → n ≤ k → f k ≡ []) → flat_map f (range_with_len 0 (n + d)) ≡ flat_map f (range_with_len 0 n)
range_cut f n zero empty = ap (λ m. flat_map f (range_with_len 0 m)) (add-zero n)
range_cut f n (suc d) empty =
    let longer : n + suc d ≡ suc (n + d) = omega arith in
    ap (λ m. flat_map f (range_with_len 0 m)) longer ∙ range-push f 0 (n + d) ∙ ap (λ ys. flat_map f (range_with_len 0 (n + d)) ++ ys) (empty (0 + (n + d)) (omega arith))
    ∙ append-nil (flat_map f (range_with_len 0 (n + d))) ∙ range_cut f n d empty

module _ (whole short : Net) (is : IsShortened whole short) where
  on : KeepsEntries whole short
  on number e has = ap entrance_in (is.same number) ∙ has

  off : KeepsEntries short whole
  off number e has = ap entrance_in (sym (is.same number)) ∙ has

  -- the states are there
  pub used_short : (number : ℕ) → is_used short number ≡ is_used whole number
  used_short number = ap is_some (is.same number)

  -- it is a network
  pub network_short : IsNetwork whole → IsNetwork short
  network_short network = record {
    places = λ number used. (let place = network.places number (sym (used_short number) ∙ used) in (place.0, at_kept whole short on number place.0 place.1));
    edges = λ number next. ap (λ slot. count_by (λ edge. edge == next) (edges_in slot)) (is.same number) ∙ network.edges number next ∙ ap (λ slot. bit (tells number (before_in slot))) (sym (is.same next));
  }

  used_by_short : (kind : End → Bool) (prefix : Prefix) → IsUsedBy whole kind prefix → IsUsedBy short kind prefix
  used_by_short kind prefix = used_still whole short on kind (λ number has. subst (λ slot. IsTrue (list_any kind (ends_in slot))) (sym (is.same number)) has) prefix

  -- it is merged
  pub merged_short : IsMerged whole → IsMerged short
  merged_short merged = record {
    apart = λ number other prefix here there. merged.apart number other prefix (at_kept short whole off number prefix here) (at_kept short whole off other prefix there);
    needed = λ number prefix here. used_by_short any_end prefix (merged.needed number prefix (at_kept short whole off number prefix here));
  }

  numbered_short : (number state : ℕ) → ends_numbered short number state ≡ ends_numbered whole number state
  numbered_short number state = ap (λ slot. count_by (λ (end : End). end.number == number) (ends_in slot)) (is.same state)

  -- the ends have numbers of their own
  pub numbers_short : HasOwnNumbers whole → HasOwnNumbers short
  numbers_short own = record {
    one = λ number state. subst (λ n. n ≤ 1) (sym (numbered_short number state)) (own.one number state);
    apart = λ number state other here there. own.apart number state other (subst (λ n. 1 ≤ n) (numbered_short number state) here) (subst (λ n. 1 ≤ n) (numbered_short number other) there);
  }

  -- the table tells its roots
  pub table_short : {S : Type 0} (table : HashMap ℕ ℕ S) → IsTable table whole → IsTable table short
  table_short table tells' stream number = (
    (λ found. ap root_in (is.same number) ∙ (tells' stream number).0 found),
    λ root. (tells' stream number).1 (ap root_in (sym (is.same number)) ∙ root),
  )

  endings_same : (places : ℕ → Prefix) → endings_by places short ≡ endings_by places whole
  endings_same places =
      let length_is : length whole ≡ length short + (length whole - length short) = let le = is.shorter in omega (arith, le) in
      (λ i. flat_map (λ number. map (ending_at (places number)) (ends_in (is.same number i))) (range_with_len 0 (length short)))
      ∙ sym (range_cut (λ number. map (ending_at (places number)) (ends_at whole number)) (length short) (length whole - length short)
      (λ k past. ap (λ slot. map (ending_at (places k)) (ends_in slot)) (sym (is.same k) ∙ get_or_past short k None past)))
      ∙ ap (λ n. flat_map (λ number. map (ending_at (places number)) (ends_at whole number)) (range_with_len 0 n)) (sym length_is)

  -- the endings are the same
  pub endings_short : (endings : List Ending) → HasEndings whole endings → HasEndings short endings
  endings_short endings had = record {
    places = had.places;
    are_places = λ number used. at_kept whole short on number (had.places number) (had.are_places number (sym (used_short number) ∙ used));
    same = subst (λ es. IsPermutation es endings) (sym (endings_same had.places)) had.same;
  }

  -- a line has left
  pub removed_short : (end : ℕ) (old : Net) → Removes end old whole → Removes end old short
  removed_short end old removes = record {
    stay = λ number used. ap entrance_in (is.same number) ∙ removes.stay number (sym (used_short number) ∙ used);
    states = λ number prefix here. (
      (λ used. (removes.states number prefix here).0 (sym (used_short number) ∙ used)),
      λ used. used_short number ∙ (removes.states number prefix here).1 used,
    );
    endings = λ endings had. endings_short (filter (λ (ending : Ending). not (ending.number == end)) endings) (removes.endings endings had);
    edges_left = λ number used.
        subst (λ (left : (ℕ → Bool) × List ℕ). AreLeft left.0 (edges_at old number) left.1) (λ i. ((λ m. is_some (sym (is.same m) i)), edges_in (sym (is.same number) i))) (removes.edges_left number (sym (used_short number) ∙ used));
    other_ends = λ number none. ap ends_in (is.same number) ∙ removes.other_ends number none;
    ends_left = λ number place gone there its. ap ends_in (is.same number) ∙ removes.ends_left number place gone there its;
    ends = λ other. (
      (λ (has : HasEnd short other). (removes.ends other).0 (has.0, subst (λ n. 1 ≤ n) (numbered_short other has.0) has.1)),
      λ has. let there = (removes.ends other).1 has in (there.0, subst (λ n. 1 ≤ n) (sym (numbered_short other there.0)) there.1),
    );
  }
