-- A source has at most one schema and expression, at most one fault, and not both.
use Rattle.std.proofs.Common.{◌≡◌, ◌∙◌, ℕ, List, [], length, sym, ap, subst, arith}
use Rattle.std.specs.Prelude.{Some, slice_get}
use Rattle.semantics.specs.Expressions.{Ex}
use Rattle.semantics.specs.Expressions as ex
use Rattle.scalar_expr.specs.Canonical.{canonical}
use Rattle.stream_schema.specs.Joining.{joined_schema}
use Rattle.stream_schema.specs.Schema.{Attr}
use Rattle.stream_schema.specs.Streams.{Entry, number_of, schemas_of}
use Rattle.cel_grammar.specs.Trees.{Source}
use Rattle.cel_types.specs.declared.fault.TypeFault.{TypeFault}
use Rattle.cel_types.specs.Aggregates.{Assign, FailToAssign, rebinding}
use Rattle.cel_types.specs.Items.{Make, FailToMake}
use Rattle.cel_types.specs.Predicates.{Means, Fails}
use Rattle.cel_types.specs.Scopes.{Alone, Sequence, Iteration}
use Rattle.cel_types.specs.Sources.{Elaborates, name, filter, select, union, next, fold, over, FailsToElaborate, filter_source, filter_condition, select_source, select_items, select_wide, union_left, union_right, union_schemas, next_left, next_right, next_wide, next_condition, fold_left, fold_right, fold_choose, fold_on, fold_sets}
use Rattle.cel_types.specs.Unions.{difference_from}
use Rattle.cel_types.proofs.AssignLaws.{Assign-one, Assign-no_fault}
use Rattle.cel_types.proofs.MakeLaws.{Make-one, Make-no_fault}
use Rattle.cel_types.proofs.PredicateLaws.{Means-one, Means-no_fault}

-- what holds of two schemas holds of equal ones
pub at-both : (P : List Attr → List Attr → Type 0) {left left' right right' : List Attr} → left ≡ left' → right ≡ right' → P left' right' → P left right
at-both P e f h = rw (e, f) h

-- a number has one schema
one-stream : (streams : List Entry) (a : List ℕ) (n m : ℕ) (schema other : List Attr) → number_of a streams ≡ Some n → slice_get (schemas_of streams) n ≡ Some schema → number_of a streams ≡ Some m
    → slice_get (schemas_of streams) m ≡ Some other → (schema ≡ other) × (n ≡ m)
one-stream streams a n m schema other found there found' there' =
    let both : Some n ≡ Some m = sym found ∙ found' in
    let numbers : n ≡ m = cc in
    let schemas : Some schema ≡ Some other = sym there ∙ ap (slice_get (schemas_of streams)) numbers ∙ there' in
    let same : schema ≡ other = cc in
    (same, numbers)

module _ {streams : List Entry} where
  -- by induction on the first derivation
  pub Gives-one : {e : Source} {schema other : List Attr} {x y : Ex} → Elaborates streams e schema x → Elaborates streams e other y → (schema ≡ other) × (x ≡ y)
  Gives-one {schema = schema} {other = other} (name {a = a} {n = n} found there) (name {n = m} found' there') =
      let one = one-stream streams a n m schema other found there found' there' in (one.0, ap ex.Read one.1)
  Gives-one (filter {p = p} g m) (filter {u = v} g' m') =
      let one = Gives-one g g' in
      let u = Means-one m (subst (λ (attrs : List Attr). Means (Alone attrs) p v) (sym one.0) m') in
      (one.0, λ n. ex.Filter (canonical (u n)) (one.1 n))
  Gives-one (select {items = items} g m narrow) (select {made = made} {terms = terms} g' m' narrow') =
      let one = Gives-one g g' in
      let makes = Make-one m (subst (λ (attrs : List Attr). Make attrs [] items made terms) (sym one.0) m') in
      (makes.0, λ n. ex.Select (over (one.0 n) (makes.1 n)) (one.1 n))
  Gives-one (union g h d) (union g' h' d') =
      let left = Gives-one g g' in
      let right = Gives-one h h' in
      (left.0, λ n. ex.Union (left.1 n) (right.1 n))
  Gives-one (next {p = p} g h narrow m) (next {u = v} g' h' narrow' m') =
      let left = Gives-one g g' in
      let right = Gives-one h h' in
      let u = Means-one m (at-both (λ l r. Means (Sequence l r) p v) left.0 right.0 m') in
      ((λ n. joined_schema (left.0 n) (right.0 n)), (λ n. ex.Next (canonical (u n)) (left.1 n) (right.1 n)))
  Gives-one (fold {p = p} {q = q} {aggs = aggs} g h m o a) (fold {u = u'} {v = v'} {assignments = others} g' h' m' o' a') =
      let left = Gives-one g g' in
      let right = Gives-one h h' in
      let u = Means-one m (at-both (λ l r. Means (Iteration l r) p u') left.0 right.0 m') in
      let v = Means-one o (at-both (λ l r. Means (Iteration l r) q v') left.0 right.0 o') in
      let sets = Assign-one a (at-both (λ l r. Assign l r [] aggs others) left.0 right.0 a') in
      (left.0, λ n. ex.Fold (canonical (u n)) (canonical (v n)) (over (right.0 n) (rebinding (left.0 n) (sets n))) (left.1 n) (right.1 n))

  -- by induction on the fault
  pub Gives-no_fault : {e : Source} {schema : List Attr} {x : Ex} {f : TypeFault} → Elaborates streams e schema x → FailsToElaborate streams e f → ⊥
  Gives-no_fault (name found there) h = elim h [ ]
  Gives-no_fault (filter g m) (filter_source h) = Gives-no_fault g h
  Gives-no_fault {f = f} (filter {p = p} g m) (filter_condition g' h) = Means-no_fault m (subst (λ (attrs : List Attr). Fails (Alone attrs) p f) (Gives-one g' g).0 h)
  Gives-no_fault (select g m narrow) (select_source h) = Gives-no_fault g h
  Gives-no_fault {f = f} (select {items = items} g m narrow) (select_items g' h) = Make-no_fault m (subst (λ (attrs : List Attr). FailToMake attrs [] items f) (Gives-one g' g).0 h)
  Gives-no_fault (select {items = items} g m narrow) (select_wide {made = made} {terms = terms} g' m' wide) =
      let size = ap length (Make-one m (subst (λ (attrs : List Attr). Make attrs [] items made terms) (Gives-one g' g).0 m')).0 in omega (arith, size)
  Gives-no_fault (union g h d) (union_left i) = Gives-no_fault g i
  Gives-no_fault (union g h d) (union_right g' i) = Gives-no_fault h i
  Gives-no_fault (union g h d) (union_schemas {place = place} g' h' e) =
      let there = at-both (λ l r. difference_from 1 l r ≡ Some place) (Gives-one g g').0 (Gives-one h h').0 e in let both = sym d ∙ there in cc
  Gives-no_fault (next g h narrow m) (next_left i) = Gives-no_fault g i
  Gives-no_fault (next g h narrow m) (next_right g' i) = Gives-no_fault h i
  Gives-no_fault (next g h narrow m) (next_wide g' h' wide) =
      let left = ap length (Gives-one g g').0 in let right = ap length (Gives-one h h').0 in omega (arith, left, right)
  Gives-no_fault {f = f} (next {p = p} g h narrow m) (next_condition g' h' narrow' i) = Means-no_fault m (at-both (λ l r. Fails (Sequence l r) p f) (Gives-one g g').0 (Gives-one h h').0 i)
  Gives-no_fault (fold g h m o a) (fold_left i) = Gives-no_fault g i
  Gives-no_fault (fold g h m o a) (fold_right g' i) = Gives-no_fault h i
  Gives-no_fault {f = f} (fold {p = p} g h m o a) (fold_choose g' h' i) = Means-no_fault m (at-both (λ l r. Fails (Iteration l r) p f) (Gives-one g g').0 (Gives-one h h').0 i)
  Gives-no_fault {f = f} (fold {q = q} g h m o a) (fold_on g' h' m' i) = Means-no_fault o (at-both (λ l r. Fails (Iteration l r) q f) (Gives-one g g').0 (Gives-one h h').0 i)
  Gives-no_fault {f = f} (fold {aggs = aggs} g h m o a) (fold_sets g' h' m' o' i) = Assign-no_fault a (at-both (λ l r. FailToAssign l r [] aggs f) (Gives-one g g').0 (Gives-one h h').0 i)
