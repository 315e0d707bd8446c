-- Stores, and what comes of them in an epoch, cut at a birth; and within others.
use Rattle.std.proofs.Common.{◌≡◌, ◌∙◌, sym, ap, refl, subst, ℕ, Bool, List, [], ◌++◌}
use Rattle.std.specs.Prelude.{Option, Some, None}
use Rattle.std.specs.List.{filter_map, flat_map}
use Rattle.std.specs.List.Sorted.{IsPermutation}
use Rattle.std.proofs.lemmas.List.Elements.{filter-append, filter_passes}
use Rattle.std.proofs.lemmas.List.Sorted.{IsPermutation-refl}
use Rattle.event_types.specs.Tuple.{TupleView}
use Rattle.semantics.specs.Births.{is_after}
use Rattle.semantics.specs.Scalars.{Pr}
use Rattle.semantics.proofs.ListLemmas.{filter_swap}
use Rattle.semantics.proofs.ReportLemmas.{filter_all}
use Rattle.instances.specs.Alive.{is_alive}
use Rattle.instances.specs.Births.{began_after}
use Rattle.instances.specs.Bounds.{alive_instances}
use Rattle.instances.specs.declared.instance.Instance.{Instance}
use Rattle.automaton.specs.Steps.{pass}
use Rattle.automaton.specs.declared.step.Stage.{Stage}
use Rattle.automaton.specs.declared.wait.Turn.{Turn}
use Rattle.epoch_laws.specs.Epochs.{again, is_unmet, stepped, taken, taken_from, took, unmatched_after}
use Rattle.epoch_laws.specs.Instances.{pass_instance}
use Rattle.epoch_laws.specs.Stores.{IsWithin, Purged}
use Rattle.epoch_laws.proofs.Bags.{append_within, filter_within, flat_within, within_permuted}
use Rattle.epoch_laws.proofs.Each.{each_after, each_passing, each_took}
use Rattle.epoch_laws.proofs.Purges.{IsStored, between_holds, left_alike, took_permuted}

-- a cut at a birth may come before what an epoch does, or after it
module _ (birth : Option ℕ) where
  abbrev late : Instance → Bool
  late instance = is_after birth instance.first

  pub cut_took : (p : List Pr) (turn : Option Turn) (new : List TupleView) (xs : List Instance) → began_after birth (took p turn new xs) ≡ took p turn new (began_after birth xs)
  cut_took p turn new xs = ap (began_after birth) (sym (each_took p turn new xs)) ∙ each_after birth (flat_map (taken p turn new)) xs ∙ each_took p turn new (began_after birth xs)

  pub cut_passing : (step : List Stage) (xs : List Instance) → began_after birth (filter_map (pass_instance step) xs) ≡ filter_map (pass_instance step) (began_after birth xs)
  cut_passing step xs = ap (began_after birth) (sym (each_passing step xs)) ∙ each_after birth (filter_map (pass step)) xs ∙ each_passing step (began_after birth xs)

  cut_again : (turn : Option Turn) (xs : List Instance) → began_after birth (again turn xs) ≡ again turn (began_after birth xs)
  cut_again None xs = refl
  cut_again (Some t) xs = refl

  pub cut_stepped : (p : List Pr) (turn : Option Turn) (new : List TupleView) (entered store : List Instance)
      → began_after birth (stepped p turn new entered store) ≡ stepped p turn new (began_after birth entered) (began_after birth store)
  cut_stepped p turn new entered store =
      filter-append late (unmatched_after p new store) (entered ++ again turn (took p turn new store))
      ∙ (λ i. filter_swap late (λ (n : Instance). is_unmet p new n.tuple) store i ++ comes i)
    where
      comes : began_after birth (entered ++ again turn (took p turn new store)) ≡ began_after birth entered ++ again turn (took p turn new (began_after birth store))
      comes =
          filter-append late entered (again turn (took p turn new store))
          ∙ ap (λ xs. began_after birth entered ++ xs) (cut_again turn (took p turn new store) ∙ ap (again turn) (cut_took p turn new store))

  cut_twice : (xs : List Instance) → began_after birth (began_after birth xs) ≡ began_after birth xs
  cut_twice xs = filter_all late (began_after birth xs) (filter_passes late xs)

  -- what is alive of what began late enough did so
  cut_alive : (time : ℕ) (p : List Pr) (xs : List Instance) → began_after birth (alive_instances time p (began_after birth xs)) ≡ alive_instances time p (began_after birth xs)
  cut_alive time p xs = filter_swap late (λ (n : Instance). is_alive time p n.tuple) (began_after birth xs) ∙ ap (alive_instances time p) (cut_twice xs)

  -- of what began after a birth that counts, a purged store stores what waits
  pub cut_holds : (now : ℕ) (IsRead : Option ℕ → Type 0) (p : List Pr) (waits store : List Instance) → Purged now IsRead p waits store → IsRead birth → IsStored now p (began_after birth store) (began_after birth waits)
  cut_holds now IsRead p waits store purged read =
      between_holds now p (began_after birth store) (began_after birth waits)
      (subst (λ xs. IsWithin xs (began_after birth store)) (cut_alive now p waits) (filter_within late (alive_instances now p (began_after birth waits)) store (purged.at_least birth read)))
      (filter_within late store waits purged.at_most)

-- where stores lie within others, so does what comes of them
module _ (p : List Pr) (turn : Option Turn) (new news : List TupleView) (same : IsPermutation news new) where
  pub took_within : (store waits : List Instance) → IsWithin store waits → IsWithin (took p turn news store) (took p turn new waits)
  took_within store waits h = within_permuted (took p turn news store) (took p turn new store) (took p turn new waits) (took_permuted p turn news new same store) (flat_within (taken_from p turn new) store waits h)

  again_within : (turn : Option Turn) (xs ys : List Instance) → IsWithin xs ys → IsWithin (again turn xs) (again turn ys)
  again_within None xs ys h = ([], IsPermutation-refl [])
  again_within (Some t) xs ys h = h

  pub stepped_within : (enters entered store waits : List Instance) → IsWithin enters entered → IsWithin store waits → IsWithin (stepped p turn news enters store) (stepped p turn new entered waits)
  stepped_within enters entered store waits k h =
      append_within (unmatched_after p news store) (unmatched_after p new waits) (enters ++ again turn (took p turn news store)) (entered ++ again turn (took p turn new waits))
      (subst (λ xs. IsWithin xs (unmatched_after p new waits)) (sym (left_alike p turn news new same store)) (filter_within (λ (n : Instance). is_unmet p new n.tuple) store waits h))
      (append_within enters entered (again turn (took p turn news store)) (again turn (took p turn new waits)) k (again_within turn (took p turn news store) (took p turn new waits) (took_within store waits h)))
