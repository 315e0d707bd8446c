use Rattle.std.proofs.Common.{◌≡◌, ◌∙◌, ◌++◌, ◌∷◌, ◌<◌, ℕ, List, [], length, map, get_or, subst, sym, ap, arith}
use Rattle.std.specs.Prelude.{Some, slice_get}
use Rattle.std.proofs.lemmas.List.{length-map}
use Rattle.std.proofs.lemmas.Result.{err_from_is_err_and}
use Rattle.expressions.specs.declared.expression.Expr.{Expr}
use Rattle.cel_grammar.specs.Views.{statement_of}
use Rattle.catalogue.specs.Typing.{ArePublished}
use Rattle.catalogue.proofs.PlaceLemmas.{slice_get-map}
use Rattle.catalogue.proofs.WorkLemmas.{new_stream, none_published, number_within, over, place_within, published-with, tells_query}
use Rattle.catalogue.proofs.publishing.publish_all.Goals as goal

-- no query was worked on
pub loop-number-init : goal.loop-number-init
loop-number-init c = record {
  published = subst (λ (xs : List Expr). ArePublished (map statement_of c.args.file.now.statements) c.args.streams.now [] c.args.streams.now xs) (sym c.new-expressions.ensures) (none_published (map statement_of c.args.file.now.statements) c.args.streams.now);
  there = λ were. were;
}

-- the number is that of a query
pub get-place-requires : goal.get-place-requires
get-place-requires c =
    let same : c.as_slice-number-items.result.now ≡ c.args.order.now = c.as_slice-number-items.ensures in
    let long : length c.as_slice-number-items.result.now ≡ length c.args.order.now = ap length same in
    let within : c.loop-number.number-index < length c.args.order.now = omega arith in
    subst (λ (xs : List ℕ). get_or xs c.loop-number.number-index 0 < length c.in_ok-places.places) (sym same) (number_within (map statement_of c.args.file.now.statements) c.args.file.now.lines c.args.streams.now c.args.order.now c.in_ok-places.places c.loop-number.streams c.loop-number.expressions c.loop-number.number-index c.requires.sound c.requires.in_order c.requires.declared within c.loop-number.invariant.published c.in_ok-places.ensures)

-- the place is that of a statement
pub line-line-requires : goal.line-line-requires
line-line-requires c =
    let same : c.as_slice-number-items.result.now ≡ c.args.order.now = c.as_slice-number-items.ensures in
    let long : length c.as_slice-number-items.result.now ≡ length c.args.order.now = ap length same in
    let within : c.loop-number.number-index < length c.args.order.now = omega arith in
    let at : slice_get c.in_ok-places.places (get_or c.args.order.now c.loop-number.number-index 0) ≡ Some c.get-place.result.now = ap (λ xs. slice_get c.in_ok-places.places (get_or xs c.loop-number.number-index 0)) (sym same) ∙ c.get-place.ensures in
    subst (λ (n : ℕ). c.get-place.result.now < n) (length-map c.args.file.now.statements statement_of) (place_within (map statement_of c.args.file.now.statements) c.args.file.now.lines c.args.streams.now c.args.order.now c.in_ok-places.places c.loop-number.streams c.loop-number.expressions c.loop-number.number-index c.requires.sound c.requires.in_order c.requires.declared within c.loop-number.invariant.published c.in_ok-places.ensures c.get-place.result.now at)

pub statement-requires : goal.statement-requires
statement-requires c =
    let same : c.as_slice-number-items.result.now ≡ c.args.order.now = c.as_slice-number-items.ensures in
    let long : length c.as_slice-number-items.result.now ≡ length c.args.order.now = ap length same in
    let within : c.loop-number.number-index < length c.args.order.now = omega arith in
    let at : slice_get c.in_ok-places.places (get_or c.args.order.now c.loop-number.number-index 0) ≡ Some c.get-place.result.now = ap (λ xs. slice_get c.in_ok-places.places (get_or xs c.loop-number.number-index 0)) (sym same) ∙ c.get-place.ensures in
    subst (λ (n : ℕ). c.get-place.result.now < n) (length-map c.args.file.now.statements statement_of) (place_within (map statement_of c.args.file.now.statements) c.args.file.now.lines c.args.streams.now c.args.order.now c.in_ok-places.places c.loop-number.streams c.loop-number.expressions c.loop-number.number-index c.requires.sound c.requires.in_order c.requires.declared within c.loop-number.invariant.published c.in_ok-places.ensures c.get-place.result.now at)

-- the streams that it reads stand
pub publish_one-requires-clause-over : goal.publish_one-requires-clause-over
publish_one-requires-clause-over c =
    let same : c.as_slice-number-items.result.now ≡ c.args.order.now = c.as_slice-number-items.ensures in
    let long : length c.as_slice-number-items.result.now ≡ length c.args.order.now = ap length same in
    let within : c.loop-number.number-index < length c.args.order.now = omega arith in
    let at : slice_get c.in_ok-places.places (get_or c.args.order.now c.loop-number.number-index 0) ≡ Some c.get-place.result.now = ap (λ xs. slice_get c.in_ok-places.places (get_or xs c.loop-number.number-index 0)) (sym same) ∙ c.get-place.ensures in
    let there : slice_get (map statement_of c.args.file.now.statements) c.get-place.result.now ≡ Some (statement_of c.statement.result.now) = slice_get-map statement_of c.args.file.now.statements c.get-place.result.now c.statement.result.now c.statement.ensures in
    over (map statement_of c.args.file.now.statements) c.args.file.now.lines c.args.streams.now c.args.order.now c.in_ok-places.places c.loop-number.streams c.loop-number.expressions c.loop-number.number-index c.requires.sound c.requires.in_order c.requires.declared within c.loop-number.invariant.published c.in_ok-places.ensures c.get-place.result.now at (statement_of c.statement.result.now) there

-- its own is new
pub publish_one-requires-clause-new : goal.publish_one-requires-clause-new
publish_one-requires-clause-new c =
    let same : c.as_slice-number-items.result.now ≡ c.args.order.now = c.as_slice-number-items.ensures in
    let long : length c.as_slice-number-items.result.now ≡ length c.args.order.now = ap length same in
    let within : c.loop-number.number-index < length c.args.order.now = omega arith in
    let at : slice_get c.in_ok-places.places (get_or c.args.order.now c.loop-number.number-index 0) ≡ Some c.get-place.result.now = ap (λ xs. slice_get c.in_ok-places.places (get_or xs c.loop-number.number-index 0)) (sym same) ∙ c.get-place.ensures in
    let there : slice_get (map statement_of c.args.file.now.statements) c.get-place.result.now ≡ Some (statement_of c.statement.result.now) = slice_get-map statement_of c.args.file.now.statements c.get-place.result.now c.statement.result.now c.statement.ensures in
    new_stream (map statement_of c.args.file.now.statements) c.args.file.now.lines c.args.streams.now c.args.order.now c.in_ok-places.places c.loop-number.streams c.loop-number.expressions c.loop-number.number-index c.requires.sound c.requires.in_order c.requires.declared within c.loop-number.invariant.published c.in_ok-places.ensures c.get-place.result.now at (statement_of c.statement.result.now) there

-- it has a fault
pub returns-in_err-expression-clause-err : goal.returns-in_err-expression-clause-err
returns-in_err-expression-clause-err c =
    let same : c.as_slice-number-items.result.now ≡ c.args.order.now = c.as_slice-number-items.ensures in
    let long : length c.as_slice-number-items.result.now ≡ length c.args.order.now = ap length same in
    let within : c.loop-number.number-index < length c.args.order.now = omega arith in
    let at : slice_get c.in_ok-places.places (get_or c.args.order.now c.loop-number.number-index 0) ≡ Some c.get-place.result.now = ap (λ xs. slice_get c.in_ok-places.places (get_or xs c.loop-number.number-index 0)) (sym same) ∙ c.get-place.ensures in
    let there : slice_get (map statement_of c.args.file.now.statements) c.get-place.result.now ≡ Some (statement_of c.statement.result.now) = slice_get-map statement_of c.args.file.now.statements c.get-place.result.now c.statement.result.now c.statement.ensures in
    let p = err_from_is_err_and c.from_residual-in_err-expression.result c.from_residual-in_err-expression.ensures.1 in
    rw (p.1, p.2) (tells_query (map statement_of c.args.file.now.statements) c.args.file.now.lines c.args.streams.now c.args.order.now c.in_ok-places.places c.loop-number.streams c.loop-number.expressions c.loop-number.number-index c.requires.sound c.requires.in_order c.requires.declared within c.loop-number.invariant.published c.in_ok-places.ensures c.get-place.result.now at (statement_of c.statement.result.now) there c.line-line.result _ c.line-line.ensures c.in_err-expression.ensures.err)

-- it is published
pub loop-number-preserved : goal.loop-number-preserved
loop-number-preserved c =
    let put : c.add.new.self ≡ c.loop-number.expressions ++ c.in_ok-expression.expression ∷ [] = c.in_ok-add.ensures.ok in
    let same : c.as_slice-number-items.result.now ≡ c.args.order.now = c.as_slice-number-items.ensures in
    let long : length c.as_slice-number-items.result.now ≡ length c.args.order.now = ap length same in
    let within : c.loop-number.number-index < length c.args.order.now = omega arith in
    let at : slice_get c.in_ok-places.places (get_or c.args.order.now c.loop-number.number-index 0) ≡ Some c.get-place.result.now = ap (λ xs. slice_get c.in_ok-places.places (get_or xs c.loop-number.number-index 0)) (sym same) ∙ c.get-place.ensures in
    let there : slice_get (map statement_of c.args.file.now.statements) c.get-place.result.now ≡ Some (statement_of c.statement.result.now) = slice_get-map statement_of c.args.file.now.statements c.get-place.result.now c.statement.result.now c.statement.ensures in
    record {
      published = published-with (map statement_of c.args.file.now.statements) c.args.file.now.lines c.args.streams.now c.args.order.now c.in_ok-places.places c.loop-number.streams c.loop-number.expressions c.loop-number.number-index c.requires.sound c.requires.in_order c.requires.declared within c.loop-number.invariant.published c.in_ok-places.ensures c.get-place.result.now at (statement_of c.statement.result.now) there c.publish_one.new.streams c.in_ok-expression.expression c.add.new.self c.in_ok-expression.ensures.ok put;
      there = λ were. c.in_ok-expression.ensures.there (c.loop-number.invariant.there were);
    }
