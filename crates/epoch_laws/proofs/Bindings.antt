-- The bindings of instances through an epoch.
use Rattle.std.proofs.Common.{◌≡◌, ◌∙◌, sym, ap, refl, ℕ, List, [], ◌∷◌, ◌++◌, map}
use Rattle.std.specs.Prelude.{Option, Some, None}
use Rattle.std.specs.Option.{option_map}
use Rattle.std.specs.List.{cons_option, filter_map, flat_map}
use Rattle.std.proofs.lemmas.List.Folds.{flat_map-map}
use Rattle.std.proofs.lemmas.List.{map-append}
use Rattle.event_types.specs.Tuple.{TupleView}
use Rattle.instances.specs.declared.instance.Instance.{Instance}
use Rattle.semantics.specs.Scalars.{Pr}
use Rattle.semantics.proofs.ListLemmas.{filter-map}
use Rattle.semantics.proofs.ReportLemmas.{flat_map_same}
use Rattle.automaton.specs.Flow.{entering}
use Rattle.automaton.specs.Steps.{pass}
use Rattle.automaton.specs.declared.line.Hop.{Hop}
use Rattle.automaton.specs.declared.step.Stage.{Stage}
use Rattle.automaton.specs.declared.wait.Turn.{Turn}
use Rattle.epoch_laws.specs.Epochs.{again, is_unmet, stepped, taken, taken_from, took, unmatched_after}
use Rattle.epoch_laws.specs.Instances.{began, begins, bindings_of, instances_entering, pass_instance}
use Rattle.epoch_laws.proofs.Lists.{every, map-flat_map}
use Rattle.epoch_laws.proofs.Purges.{rows_stepped}

-- the bindings of instances that began at one time
pub began_bindings : (first : ℕ) (ts : List TupleView) → bindings_of (map (began first) ts) ≡ ts
began_bindings first [] = refl
began_bindings first (t ∷ ts) = ap (λ us. t ∷ us) (began_bindings first ts)

-- the bindings of tuples that begin are these tuples
pub begins_bindings : (ts : List TupleView) → bindings_of (map begins ts) ≡ ts
begins_bindings [] = refl
begins_bindings (t ∷ ts) = ap (λ us. t ∷ us) (begins_bindings ts)

-- the bindings of what passes a step are what passes of the bindings
pub passing_bindings : (step : List Stage) (store : List Instance) → bindings_of (filter_map (pass_instance step) store) ≡ filter_map (pass step) (bindings_of store)
passing_bindings step [] = refl
passing_bindings step (i ∷ store) = go (pass step i.tuple) (passing_bindings step store)
  where
    go : (o : Option TupleView) → bindings_of (filter_map (pass_instance step) store) ≡ filter_map (pass step) (bindings_of store)
        → bindings_of (cons_option (option_map (began i.first) o) (filter_map (pass_instance step) store)) ≡ cons_option o (filter_map (pass step) (bindings_of store))
    go None rest = rest
    go (Some t) rest = ap (λ us. t ∷ us) rest

-- the bindings of what enters a wait are what enters of the bindings
pub entering_bindings : (h : Hop) (store : List Instance) → bindings_of (instances_entering h store) ≡ entering h (bindings_of store)
entering_bindings h store = passing_bindings h.step store

-- the bindings of what instances give are what their bindings give
pub took_bindings : (p : List Pr) (turn : Option Turn) (new : List TupleView) (store : List Instance) → bindings_of (took p turn new store) ≡ flat_map (taken p turn new) (bindings_of store)
took_bindings p turn new store =
    map-flat_map (λ (i : Instance). i.tuple) (taken_from p turn new) store
    ∙ flat_map_same (λ i. bindings_of (taken_from p turn new i)) (λ (i : Instance). taken p turn new i.tuple) store
    (every (λ (i : Instance). bindings_of (taken_from p turn new i) ≡ taken p turn new i.tuple) (λ i. began_bindings i.first (taken p turn new i.tuple)) store)
    ∙ sym (flat_map-map (taken p turn new) (λ (i : Instance). i.tuple) store)

again_bindings : (turn : Option Turn) (store : List Instance) → bindings_of (again turn store) ≡ again turn (bindings_of store)
again_bindings None store = refl
again_bindings (Some t) store = refl

-- the bindings of a store after an epoch are those after the step
pub stepped_bindings : (p : List Pr) (turn : Option Turn) (new : List TupleView) (entered store : List Instance)
    → bindings_of (stepped p turn new entered store) ≡ rows_stepped p turn new (bindings_of entered) (bindings_of store)
stepped_bindings p turn new entered store =
    map-append (λ (i : Instance). i.tuple) (unmatched_after p new store) (entered ++ again turn (took p turn new store))
    ∙ (λ i. sym (filter-map (is_unmet p new) (λ (n : Instance). n.tuple) store) i ++ comes i)
  where
    comes : bindings_of (entered ++ again turn (took p turn new store)) ≡ bindings_of entered ++ again turn (flat_map (taken p turn new) (bindings_of store))
    comes =
        map-append (λ (i : Instance). i.tuple) entered (again turn (took p turn new store))
        ∙ ap (λ ts. bindings_of entered ++ ts) (again_bindings turn (took p turn new store) ∙ ap (again turn) (took_bindings p turn new store))
