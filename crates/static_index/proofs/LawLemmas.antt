-- What follows from a condition's truth for its fixed parts.
use Rattle.std.proofs.Common.{◌≡◌, ◌∙◌, refl, sym, ℕ, ℤ, Bool, true, false, ◌&&◌, List, [], ◌∷◌}
use Rattle.std.specs.Prelude.{Option, Some, None}
use Rattle.std.specs.List.{cons_option}
use Rattle.event_types.specs.Tuple.{TupleView}
use Rattle.event_types.specs.declared.comparison.Cmp.{Cmp}
use Rattle.event_types.specs.declared.comparison.Cmp.TheVariants as cmp
use Rattle.event_types.specs.declared.value.Value.{Value}
use Rattle.event_types.specs.declared.value.Value.TheVariants as value
use Rattle.semantics.specs.Scalars.{Pr, Test, Lit, Event, Binding, Dur}
use Rattle.semantics.specs.Truth.{all_true, is_met, order_of, truth}
use Rattle.semantics.specs.Values.{value_at}
use Rattle.scalar_expr.proofs.CanonicalLaws.{turned_met}
use Rattle.scalar_expr.specs.Classes.{bounded, class_of, exchanged, fixed, keyed}
use Rattle.static_index.specs.FixedParts.{all_hold, first_holds, fixed_part_of, fixed_parts, holds_if_any, part_holds}
use Rattle.static_index.specs.declared.fixed_part.FixedPart.{FixedPart}

-- each class of comparison
fixed_given : (event : TupleView) (place : ℕ) (c : Cmp) (v : Value) → is_met c (order_of (value_at event place) v) ≡ true → holds_if_any event (fixed_part_of (fixed place c v)) ≡ true
fixed_given event place cmp.Eq v e = e
fixed_given event place cmp.Ne v e = refl
fixed_given event place cmp.Lt v e = e
fixed_given event place cmp.Le v e = e
fixed_given event place cmp.Gt v e = e
fixed_given event place cmp.Ge v e = e

keyed_given : (event : TupleView) (place : ℕ) (c : Cmp) (bound : ℕ) → holds_if_any event (fixed_part_of (keyed place c bound)) ≡ true
keyed_given event place cmp.Eq bound = refl
keyed_given event place c bound = refl

bounded_given : (event : TupleView) (c : Cmp) (most : ℤ) → holds_if_any event (fixed_part_of (bounded c most)) ≡ true
bounded_given event cmp.Lt most = refl
bounded_given event cmp.Le most = refl
bounded_given event c most = refl

-- a part that holds, holds as far as it is fixed
part_given : (p : Pr) (event : TupleView) (binding : Option TupleView) → truth p event binding ≡ true → holds_if_any event (fixed_part_of (class_of p)) ≡ true
part_given (Test (Event place) c (Lit v)) event binding e = fixed_given event place c v e
part_given (Test (Lit v) c (Event place)) event binding e = fixed_given event place (exchanged c) v (sym (turned_met c (value_at event place) v) ∙ e)
part_given (Test (Event place) c (Binding bound)) event binding e = keyed_given event place c bound
part_given (Test (Binding bound) c (Event place)) event binding e = keyed_given event place c bound
part_given (Test Dur c (Lit (value.Int most))) event binding e = bounded_given event c most
part_given p event binding e = refl

-- so do all of them, by induction on the parts
pub holding_is_matched : (condition : List Pr) (event : TupleView) (binding : Option TupleView) → all_true condition event binding ≡ true → all_hold event (fixed_parts condition) ≡ true
holding_is_matched [] event binding e = refl
holding_is_matched (p ∷ ps) event binding e = go (truth p event binding) refl e (holding_is_matched ps event binding)
  where
    join : (o : Option FixedPart) → holds_if_any event o ≡ true → all_hold event (fixed_parts ps) ≡ true → all_hold event (cons_option o (fixed_parts ps)) ≡ true
    join None one rest = rest
    join (Some part) one rest = λ i. one i && rest i

    go : (b : Bool) → truth p event binding ≡ b → (b && all_true ps event binding) ≡ true → (all_true ps event binding ≡ true → all_hold event (fixed_parts ps) ≡ true) → all_hold event (fixed_parts (p ∷ ps)) ≡ true
    go true is all rest = join (fixed_part_of (class_of p)) (part_given p event binding is) (rest all)
    go false is all rest = absurd (cc)

-- where all parts hold, the first one does, if there is one
pub matched_is_looked_up : (event : TupleView) (parts : List FixedPart) → all_hold event parts ≡ true → first_holds event parts ≡ true
matched_is_looked_up event [] e = refl
matched_is_looked_up event (p ∷ ps) e = go (part_holds event p) e
  where
    go : (b : Bool) → (b && all_hold event ps) ≡ true → b ≡ true
    go true e = refl
    go false e = e
