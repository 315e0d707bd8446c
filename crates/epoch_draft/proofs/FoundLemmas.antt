-- What a tuple has still to pass of a step by whose fixed parts it was found.
use Rattle.std.proofs.Common.{◌≡◌, ◌∙◌, refl, sym, ap, ℕ, ℤ, drop, subst, Bool, true, false, cond, List, [], ◌∷◌, arith}
use Rattle.std.specs.Prelude.{◌&&◌, Option, Some, None, IsSome, IsTrue, slice_get}
use Rattle.std.specs.List.{cons_option}
use Rattle.std.specs.Option.{option_and_then}
use Rattle.event_types.specs.Tuple.{TupleView}
use Rattle.event_types.specs.declared.comparison.Cmp.{Cmp}
use Rattle.event_types.specs.declared.comparison.Cmp.TheVariants as cmp
use Rattle.event_types.specs.declared.value.Value.{Value}
use Rattle.event_types.specs.declared.value.Value.TheVariants as value
use Rattle.semantics.specs.Scalars.{Pr, Test, Lit, Event, Binding, Dur}
use Rattle.semantics.specs.Truth.{all_true, is_met, order_of, truth}
use Rattle.semantics.specs.Values.{value_at}
use Rattle.scalar_expr.proofs.CanonicalLaws.{turned_met}
use Rattle.scalar_expr.specs.Classes.{Class, Fixed, Key, Bound, Rest, are_fixed, bounded, class_of, exchanged, fixed, is_fixed, is_fixed_class, keyed}
use Rattle.automaton.specs.Steps.{pass}
use Rattle.automaton.specs.declared.step.Stage.{Stage}
use Rattle.automaton.specs.declared.step.Stage.TheVariants.{Keep, Make}
use Rattle.static_index.specs.FixedParts.{all_hold, fixed_part_of, fixed_parts, holds_if_any, part_holds}
use Rattle.static_index.specs.declared.fixed_part.FixedPart.{FixedPart}
use Rattle.stream_readers.specs.Targets.{only_fixed}
use Rattle.epoch_draft.specs.Found.{IsFixedStage, IsLeftOf}

-- each class of comparison
fixed_true : (event : TupleView) (place : ℕ) (c : Cmp) (v : Value) → is_fixed_class (fixed place c v) ≡ true → holds_if_any event (fixed_part_of (fixed place c v)) ≡ true → is_met c (order_of (value_at event place) v) ≡ true
fixed_true event place cmp.Eq v some e = e
fixed_true event place cmp.Ne v some e = absurd (cc)
fixed_true event place cmp.Lt v some e = e
fixed_true event place cmp.Le v some e = e
fixed_true event place cmp.Gt v some e = e
fixed_true event place cmp.Ge v some e = e

keyed_isnt : {G : Type 0} (place : ℕ) (c : Cmp) (bound : ℕ) → is_fixed_class (keyed place c bound) ≡ true → G
keyed_isnt place cmp.Eq bound some = absurd (cc)
keyed_isnt place c bound some = absurd (cc)

bounded_isnt : {G : Type 0} (c : Cmp) (most : ℤ) → is_fixed_class (bounded c most) ≡ true → G
bounded_isnt cmp.Lt most some = absurd (cc)
bounded_isnt cmp.Le most some = absurd (cc)
bounded_isnt c most some = absurd (cc)

-- a fixed part that holds is true
part_true : (p : Pr) (event : TupleView) (binding : Option TupleView) → is_fixed p ≡ true → holds_if_any event (fixed_part_of (class_of p)) ≡ true → truth p event binding ≡ true
part_true (Test (Event place) c (Lit v)) event binding some e = fixed_true event place c v some e
part_true (Test (Lit v) c (Event place)) event binding some e = turned_met c (value_at event place) v ∙ fixed_true event place (exchanged c) v some e
part_true (Test (Event place) c (Binding bound)) event binding some e = keyed_isnt place c bound some
part_true (Test (Binding bound) c (Event place)) event binding some e = keyed_isnt place c bound some
part_true (Test Dur c (Lit (value.Int most))) event binding some e = bounded_isnt c most some
part_true p event binding some e = absurd (cc)

-- a fixed part is some part
some_part : (class : Class) → is_fixed_class class ≡ true → IsSome (fixed_part_of class)
some_part (Fixed place c v) is = refl
some_part (Key event binding) is = absurd (cc)
some_part (Bound strict most) is = absurd (cc)
some_part Rest is = absurd (cc)

-- so where all parts are fixed and hold, the condition is true
fixed_condition : (condition : List Pr) (event : TupleView) (binding : Option TupleView) → are_fixed condition ≡ true → all_hold event (fixed_parts condition) ≡ true → all_true condition event binding ≡ true
fixed_condition [] event binding all e = refl
fixed_condition (p ∷ ps) event binding all e =
    go (fixed_part_of (class_of p)) refl (some_part (class_of p) (left (is_fixed p) (are_fixed ps) all)) e (fixed_condition ps event binding (right (is_fixed p) (are_fixed ps) all))
  where
    both : (a b : Bool) → a ≡ true → b ≡ true → (a && b) ≡ true
    both a b one two = λ i. one i && two i

    left : (a b : Bool) → (a && b) ≡ true → a ≡ true
    left true b is = refl
    left false b is = is

    right : (a b : Bool) → (a && b) ≡ true → b ≡ true
    right true b is = is
    right false b is = absurd (cc)

    go : (o : Option FixedPart) → fixed_part_of (class_of p) ≡ o → IsSome o → all_hold event (cons_option o (fixed_parts ps)) ≡ true → (all_hold event (fixed_parts ps) ≡ true → all_true ps event binding ≡ true) → all_true (p ∷ ps) event binding ≡ true
    go None is some holds rest = absurd (cc)
    go (Some part) is some holds rest =
        both (truth p event binding) (all_true ps event binding)
        (part_true p event binding (left (is_fixed p) (are_fixed ps) all) (ap (holds_if_any event) is ∙ left (part_holds event part) (all_hold event (fixed_parts ps)) holds))
        (rest (right (part_holds event part) (all_hold event (fixed_parts ps)) holds))

-- a condition of fixed parts alone is passed
pub behind_fixed : (condition : List Pr) (step : List Stage) → IsTrue (are_fixed condition) → IsLeftOf (Keep condition ∷ step) step
behind_fixed condition step all = record {
  passes = λ tuple holds. sym (ap (λ b. option_and_then (pass step) (cond b (Some tuple) None)) (fixed_condition condition tuple None all holds));
  suits = λ tuple both. both.1;
  fewer = omega arith;
}

abbrev stage_in : Option Stage → Stage → Stage
stage_in None d = d
stage_in (Some stage) d = stage

-- the same of a step that begins with such a stage
pub left_behind : (step : List Stage) (stage : Stage) → slice_get step 0 ≡ Some stage → IsFixedStage stage → IsLeftOf step (drop 1 step)
left_behind [] stage is fixed = absurd (cc)
left_behind (Keep condition ∷ step) stage is fixed = behind_fixed condition step (subst IsFixedStage (sym (ap (λ o. stage_in o stage) is)) fixed)
left_behind (Make m ∷ step) stage is fixed = absurd (subst IsFixedStage (sym (ap (λ o. stage_in o stage) is)) fixed)

-- a step is left of itself
pub left_whole : (step : List Stage) → IsLeftOf step step
left_whole step = record { passes = λ tuple holds. refl; suits = λ tuple suits. suits; fewer = omega arith }

-- of a step that asks nothing but fixed parts and changes nothing there is nothing left
pub none_left : (step : List Stage) → only_fixed step ≡ true → IsLeftOf step []
none_left [] all = left_whole []
none_left (Keep condition ∷ []) all = left_behind (Keep condition ∷ []) (Keep condition) refl all
none_left (Keep condition ∷ stage ∷ step) all = absurd (cc)
none_left (Make m ∷ step) all = absurd (cc)
