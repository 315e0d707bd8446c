-- Stores that were purged in whole.
use Rattle.std.proofs.Common.{◌≡◌, ◌∙◌, refl, sym, ap, subst, ℕ, ◌&&◌, nat_lt, ◌≤◌, List, arith}
use Rattle.std.specs.Prelude.{Option, Some, None}
use Rattle.std.specs.Option.{option_and_then}
use Rattle.std.specs.List.Sorted.{IsPermutation}
use Rattle.std.proofs.lemmas.Bool.Decides.{nat_tests}
use Rattle.std.proofs.lemmas.List.Elements.{filter_agree}
use Rattle.std.proofs.lemmas.List.Sorted.{IsPermutation-sym}
use Rattle.semantics.specs.Births.{is_after}
use Rattle.semantics.specs.Scalars.{Pr}
use Rattle.instances.specs.Alive.{is_alive}
use Rattle.instances.specs.Births.{began_after}
use Rattle.instances.specs.Bounds.{alive_instances}
use Rattle.instances.specs.declared.instance.Instance.{Instance}
use Rattle.instances.proofs.BirthLemmas.{began_unborn}
use Rattle.automaton.specs.Prefixes.{After}
use Rattle.automaton.specs.States.{Net, wait_by}
use Rattle.epoch_laws.specs.Births.{IsNoLater}
use Rattle.epoch_laws.specs.BornLines.{BornLine, IsReadAfter}
use Rattle.epoch_laws.specs.Closing.{ArePurged, Stores}
use Rattle.epoch_laws.specs.Stores.{IsWithin, Purged}
use Rattle.epoch_laws.proofs.Bags.{filter_inside, filter_within, within_permuted, within_through, within_to}
use Rattle.epoch_laws.proofs.Lists.{filter-filter}
use Rattle.epoch_engine.specs.Closes.{ArePurgedWhole}

-- what began after a birth began after each that is no later
later_within : (since birth : Option ℕ) (store : List Instance) → IsNoLater since birth → IsWithin (began_after birth store) (began_after since store)
later_within since birth store le =
    subst (λ xs. IsWithin xs (began_after since store)) twice (filter_inside (λ (n : Instance). is_after birth n.first) (began_after since store))
  where
    both : (a b : Option ℕ) → IsNoLater a b → (time : ℕ) → (is_after a time && is_after b time) ≡ is_after b time
    both None b le time = refl
    both (Some a) None le time = absurd le
    both (Some a) (Some b) le time = go a b le time
      where
        go : (a b : ℕ) → a ≤ b → (time : ℕ) → (nat_lt a time && nat_lt b time) ≡ nat_lt b time
        go a b le time = grind (arith, nat_tests)

    twice : began_after birth (began_after since store) ≡ began_after birth store
    twice =
        filter-filter (λ (n : Instance). is_after birth n.first) (λ (n : Instance). is_after since n.first) store
        ∙ filter_agree (λ (n : Instance). is_after since n.first && is_after birth n.first) (λ (n : Instance). is_after birth n.first) (λ n. both since birth le n.first) store

-- a store that was purged for a time and a birth that is no later than those that count
pub purged_whole : (time : ℕ) (IsRead : Option ℕ → Type 0) (since : Option ℕ) (choose : List Pr) (store kept : List Instance) → ((birth : Option ℕ) → IsRead birth → IsNoLater since birth)
    → IsPermutation kept (alive_instances time choose (began_after since store)) → Purged time IsRead choose store kept
purged_whole time IsRead since choose store kept least h = record {
  at_least = λ birth read.
      within_to _ _ _ (filter_within (λ (n : Instance). is_alive time choose n.tuple) (began_after birth store) (began_after since store) (later_within since birth store (least birth read))) (IsPermutation-sym _ _ h);
  at_most =
      within_permuted _ _ _ h
      (within_through _ _ _ (filter_inside (λ (n : Instance). is_alive time choose n.tuple) (began_after since store)) (filter_inside (λ (n : Instance). is_after since n.first) store));
}

-- they were purged
pub are_purged : (time : ℕ) (lines : List BornLine) (net : Net) (stores kept : Stores) → ArePurgedWhole time net stores kept → ArePurged time lines net stores kept
are_purged time lines net stores kept whole number p h at =
    purged_whole time (IsReadAfter lines (After p h)) None h.wait.choose (stores number) (kept number) (λ birth read. tt)
    (subst (λ xs. IsPermutation (kept number) (alive_instances time h.wait.choose xs)) (sym (began_unborn (stores number))) (whole number h.wait (ap (option_and_then wait_by) at.1)))
