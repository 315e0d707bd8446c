-- A source has at most one first fault.
use Rattle.std.proofs.Common.{◌≡◌, ◌∙◌, ◌+◌, List, [], length, sym, ap, subst, arith}
use Rattle.std.specs.Prelude.{Some}
use Rattle.stream_schema.specs.Schema.{Attr}
use Rattle.stream_schema.specs.Streams.{Entry}
use Rattle.cel_grammar.specs.Trees.{Source}
use Rattle.cel_types.specs.declared.fault.TypeFault.{TypeFault}
use Rattle.cel_types.specs.declared.fault.TypeFault.TheVariants.{UnionMismatch, TooWide}
use Rattle.cel_types.specs.Aggregates.{FailToAssign}
use Rattle.cel_types.specs.Items.{Make, FailToMake}
use Rattle.cel_types.specs.Predicates.{Means, Fails}
use Rattle.cel_types.specs.Scopes.{Alone, Sequence, Iteration}
use Rattle.cel_types.specs.Sources.{FailsToElaborate, filter_source, filter_condition, select_source, select_items, select_wide, union_left, union_right, union_schemas, next_left, next_right, next_wide, next_condition, fold_left, fold_right, fold_choose, fold_on, fold_sets}
use Rattle.cel_types.specs.Unions.{difference_from}
use Rattle.cel_types.proofs.AssignLaws.{FailToAssign-one}
use Rattle.cel_types.proofs.MakeLaws.{Make-one, Make-no_fault, FailToMake-one}
use Rattle.cel_types.proofs.PredicateLaws.{Means-no_fault, Fails-one}
use Rattle.cel_types.proofs.SourceLaws.{at-both, Gives-one, Gives-no_fault}

module _ {streams : List Entry} where
  -- by induction on the first fault
  pub FailsToGive-one : {e : Source} {f g : TypeFault} → FailsToElaborate streams e f → FailsToElaborate streams e g → f ≡ g
  FailsToGive-one (filter_source i) (filter_source i') = FailsToGive-one i i'
  FailsToGive-one (filter_source i) (filter_condition g' i') = absurd (Gives-no_fault g' i)
  FailsToGive-one (filter_condition g i) (filter_source i') = absurd (Gives-no_fault g i')
  FailsToGive-one {g = fault} (filter_condition {p = p} g i) (filter_condition g' i') = Fails-one i (subst (λ (attrs : List Attr). Fails (Alone attrs) p fault) (Gives-one g' g).0 i')
  FailsToGive-one (select_source i) (select_source i') = FailsToGive-one i i'
  FailsToGive-one (select_source i) (select_items g' i') = absurd (Gives-no_fault g' i)
  FailsToGive-one (select_source i) (select_wide g' m' wide') = absurd (Gives-no_fault g' i)
  FailsToGive-one (select_items g i) (select_source i') = absurd (Gives-no_fault g i')
  FailsToGive-one {g = fault} (select_items {items = items} g i) (select_items g' i') = FailToMake-one i (subst (λ (attrs : List Attr). FailToMake attrs [] items fault) (Gives-one g' g).0 i')
  FailsToGive-one (select_items {items = items} g i) (select_wide {made = made} {terms = terms} g' m' wide') = absurd (Make-no_fault (subst (λ (attrs : List Attr). Make attrs [] items made terms) (Gives-one g' g).0 m') i)
  FailsToGive-one (select_wide g m wide) (select_source i') = absurd (Gives-no_fault g i')
  FailsToGive-one {g = fault} (select_wide {items = items} g m wide) (select_items g' i') = absurd (Make-no_fault m (subst (λ (attrs : List Attr). FailToMake attrs [] items fault) (Gives-one g' g).0 i'))
  FailsToGive-one (select_wide {items = items} g m wide) (select_wide {made = made} {terms = terms} g' m' wide') = ap (λ attrs. TooWide (length attrs)) (Make-one m (subst (λ (attrs : List Attr). Make attrs [] items made terms) (Gives-one g' g).0 m')).0
  FailsToGive-one (union_left i) (union_left i') = FailsToGive-one i i'
  FailsToGive-one (union_left i) (union_right g' i') = absurd (Gives-no_fault g' i)
  FailsToGive-one (union_right g i) (union_left i') = absurd (Gives-no_fault g i')
  FailsToGive-one (union_right g i) (union_right g' i') = FailsToGive-one i i'
  FailsToGive-one (union_left i) (union_schemas g' h' e') = absurd (Gives-no_fault g' i)
  FailsToGive-one (union_right g i) (union_schemas g' h' e') = absurd (Gives-no_fault h' i)
  FailsToGive-one (union_schemas g h e) (union_left i') = absurd (Gives-no_fault g i')
  FailsToGive-one (union_schemas g h e) (union_right g' i') = absurd (Gives-no_fault h i')
  FailsToGive-one (union_schemas {place = place} g h e) (union_schemas {place = other} g' h' e') =
      let there = at-both (λ l r. difference_from 1 l r ≡ Some other) (Gives-one g g').0 (Gives-one h h').0 e' in let found : Some place ≡ Some other = sym e ∙ there in let same : place ≡ other = cc in ap UnionMismatch same
  FailsToGive-one (next_left i) (next_left i') = FailsToGive-one i i'
  FailsToGive-one (next_left i) (next_right g' i') = absurd (Gives-no_fault g' i)
  FailsToGive-one (next_right g i) (next_left i') = absurd (Gives-no_fault g i')
  FailsToGive-one (next_right g i) (next_right g' i') = FailsToGive-one i i'
  FailsToGive-one (next_left i) (next_wide g' h' wide') = absurd (Gives-no_fault g' i)
  FailsToGive-one (next_right g i) (next_wide g' h' wide') = absurd (Gives-no_fault h' i)
  FailsToGive-one (next_wide g h wide) (next_left i') = absurd (Gives-no_fault g i')
  FailsToGive-one (next_wide g h wide) (next_right g' i') = absurd (Gives-no_fault h i')
  FailsToGive-one (next_left i) (next_condition g' h' narrow' i') = absurd (Gives-no_fault g' i)
  FailsToGive-one (next_right g i) (next_condition g' h' narrow' i') = absurd (Gives-no_fault h' i)
  FailsToGive-one (next_condition g h narrow i) (next_left i') = absurd (Gives-no_fault g i')
  FailsToGive-one (next_condition g h narrow i) (next_right g' i') = absurd (Gives-no_fault h i')
  FailsToGive-one (next_wide g h wide) (next_wide g' h' wide') = let left = (Gives-one g g').0 in let right = (Gives-one h h').0 in λ n. TooWide (length (left n) + length (right n))
  FailsToGive-one (next_wide g h wide) (next_condition g' h' narrow' i') = let left = ap length (Gives-one g g').0 in let right = ap length (Gives-one h h').0 in absurd (omega (arith, left, right))
  FailsToGive-one (next_condition g h narrow i) (next_wide g' h' wide') = let left = ap length (Gives-one g g').0 in let right = ap length (Gives-one h h').0 in absurd (omega (arith, left, right))
  FailsToGive-one {g = fault} (next_condition {p = p} g h narrow i) (next_condition g' h' narrow' i') = Fails-one i (at-both (λ l r. Fails (Sequence l r) p fault) (Gives-one g g').0 (Gives-one h h').0 i')
  FailsToGive-one (fold_left i) (fold_left i') = FailsToGive-one i i'
  FailsToGive-one (fold_left i) (fold_right g' i') = absurd (Gives-no_fault g' i)
  FailsToGive-one (fold_right g i) (fold_left i') = absurd (Gives-no_fault g i')
  FailsToGive-one (fold_right g i) (fold_right g' i') = FailsToGive-one i i'
  FailsToGive-one (fold_left i) (fold_choose g' h' i') = absurd (Gives-no_fault g' i)
  FailsToGive-one (fold_right g i) (fold_choose g' h' i') = absurd (Gives-no_fault h' i)
  FailsToGive-one (fold_choose g h i) (fold_left i') = absurd (Gives-no_fault g i')
  FailsToGive-one (fold_choose g h i) (fold_right g' i') = absurd (Gives-no_fault h i')
  FailsToGive-one (fold_left i) (fold_on g' h' m' i') = absurd (Gives-no_fault g' i)
  FailsToGive-one (fold_right g i) (fold_on g' h' m' i') = absurd (Gives-no_fault h' i)
  FailsToGive-one (fold_on g h m i) (fold_left i') = absurd (Gives-no_fault g i')
  FailsToGive-one (fold_on g h m i) (fold_right g' i') = absurd (Gives-no_fault h i')
  FailsToGive-one (fold_left i) (fold_sets g' h' m' o' i') = absurd (Gives-no_fault g' i)
  FailsToGive-one (fold_right g i) (fold_sets g' h' m' o' i') = absurd (Gives-no_fault h' i)
  FailsToGive-one (fold_sets g h m o i) (fold_left i') = absurd (Gives-no_fault g i')
  FailsToGive-one (fold_sets g h m o i) (fold_right g' i') = absurd (Gives-no_fault h i')
  FailsToGive-one {g = fault} (fold_choose {p = p} g h i) (fold_choose g' h' i') = Fails-one i (at-both (λ l r. Fails (Iteration l r) p fault) (Gives-one g g').0 (Gives-one h h').0 i')
  FailsToGive-one (fold_choose {p = p} g h i) (fold_on {u = u} g' h' m' i') = absurd (Means-no_fault (at-both (λ l r. Means (Iteration l r) p u) (Gives-one g g').0 (Gives-one h h').0 m') i)
  FailsToGive-one (fold_choose {p = p} g h i) (fold_sets {u = u} g' h' m' o' i') = absurd (Means-no_fault (at-both (λ l r. Means (Iteration l r) p u) (Gives-one g g').0 (Gives-one h h').0 m') i)
  FailsToGive-one {g = fault} (fold_on {p = p} g h m i) (fold_choose g' h' i') = absurd (Means-no_fault m (at-both (λ l r. Fails (Iteration l r) p fault) (Gives-one g g').0 (Gives-one h h').0 i'))
  FailsToGive-one {g = fault} (fold_sets {p = p} g h m o i) (fold_choose g' h' i') = absurd (Means-no_fault m (at-both (λ l r. Fails (Iteration l r) p fault) (Gives-one g g').0 (Gives-one h h').0 i'))
  FailsToGive-one {g = fault} (fold_on {q = q} g h m i) (fold_on g' h' m' i') = Fails-one i (at-both (λ l r. Fails (Iteration l r) q fault) (Gives-one g g').0 (Gives-one h h').0 i')
  FailsToGive-one (fold_on {q = q} g h m i) (fold_sets {v = v} g' h' m' o' i') = absurd (Means-no_fault (at-both (λ l r. Means (Iteration l r) q v) (Gives-one g g').0 (Gives-one h h').0 o') i)
  FailsToGive-one {g = fault} (fold_sets {q = q} g h m o i) (fold_on g' h' m' i') = absurd (Means-no_fault o (at-both (λ l r. Fails (Iteration l r) q fault) (Gives-one g g').0 (Gives-one h h').0 i'))
  FailsToGive-one {g = fault} (fold_sets {aggs = aggs} g h m o i) (fold_sets g' h' m' o' i') = FailToAssign-one i (at-both (λ l r. FailToAssign l r [] aggs fault) (Gives-one g g').0 (Gives-one h h').0 i')
