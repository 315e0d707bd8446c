use Rattle.std.proofs.Common.{map}
use Rattle.std.proofs.lemmas.Result.{err_from_is_err_and}
use Rattle.cel_grammar.specs.Views.{statement_of}
use Rattle.catalogue.proofs.LoadLemmas.{tells_declarations, tells_names, tells_queries}
use Rattle.catalogue.proofs.PartLemmas.{accepts, expressions_count}
use Rattle.catalogue.proofs.loading.type_file.Goals as goal

-- the file is accepted
pub returns-clause-ok : goal.returns-clause-ok
returns-clause-ok c text file =
    accepts text c.args.file.now c.in_ok-streams.streams c.publish_all.new.streams c.in_ok-order.order c.in_ok-expressions.expressions file c.in_ok-order.ensures.sound c.in_ok-order.ensures.ok c.in_ok-streams.ensures.ok c.in_ok-expressions.ensures.ok

-- each query that is worked on has an expression
pub returns-clause-typed : goal.returns-clause-typed
returns-clause-typed c =
    expressions_count (map statement_of c.args.file.now.statements) c.in_ok-streams.streams c.in_ok-order.order c.publish_all.new.streams c.in_ok-expressions.expressions c.in_ok-expressions.ensures.ok

-- a query has a fault
pub returns-in_err-expressions-clause-err : goal.returns-in_err-expressions-clause-err
returns-in_err-expressions-clause-err c =
    let p = err_from_is_err_and c.from_residual-in_err-expressions.result c.from_residual-in_err-expressions.ensures.1 in
    rw (p.1, p.2) (λ text file.
    tells_queries text (map statement_of c.args.file.now.statements) c.args.file.now.lines file c.in_ok-order.order c.in_ok-order.ensures.sound c.in_ok-order.ensures.ok c.in_ok-streams.streams _ c.in_ok-streams.ensures.ok c.in_err-expressions.ensures.err)

-- a declaration has one
pub returns-in_err-streams-clause-err : goal.returns-in_err-streams-clause-err
returns-in_err-streams-clause-err c =
    let p = err_from_is_err_and c.from_residual-in_err-streams.result c.from_residual-in_err-streams.ensures.1 in
    rw (p.1, p.2) (λ text file.
    tells_declarations text (map statement_of c.args.file.now.statements) c.args.file.now.lines file c.in_ok-order.order c.in_ok-order.ensures.sound c.in_ok-order.ensures.ok _ c.in_err-streams.ensures.err)

-- a name has one, or the queries have a cycle
pub returns-in_err-order-clause-err : goal.returns-in_err-order-clause-err
returns-in_err-order-clause-err c =
    let p = err_from_is_err_and c.from_residual.result c.from_residual.ensures.1 in
    rw (p.1, p.2) (λ text file. tells_names text (map statement_of c.args.file.now.statements) c.args.file.now.lines file _ c.in_err-order.ensures.err)
