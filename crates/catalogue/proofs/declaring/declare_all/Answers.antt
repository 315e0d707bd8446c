use Rattle.std.proofs.Common.{◌≡◌, ◌<◌, List, [], length, map, subst, sym}
use Rattle.std.specs.Prelude.{Some, slice_get}
use Rattle.std.proofs.lemmas.Result.{err_from_is_err_and}
use Rattle.cel_grammar.specs.Views.{statement_of}
use Rattle.stream_schema.specs.Streams.{AreThere, Entry}
use Rattle.catalogue.specs.Typing.{FileDeclares, none}
use Rattle.catalogue.proofs.DeclareLemmas.{Declare-more, absent_at, tells_declared}
use Rattle.catalogue.proofs.PlaceLemmas.{slice_get-map, slice_get-within}
use Rattle.catalogue.proofs.declaring.declare_all.Goals as goal

-- no statement was looked at
pub loop-place-init : goal.loop-place-init
loop-place-init c = record {
  declares = subst (λ (streams : List Entry). FileDeclares [] streams) (sym c.new-streams.ensures) none;
  there = subst AreThere (sym c.new-streams.ensures) (λ number is. cc);
}

-- the name of the statement is new
pub declare_one-requires : goal.declare_one-requires
declare_one-requires c =
    let there : slice_get (map statement_of c.args.file.now.statements) c.loop-place.place ≡ Some (statement_of c.statement.result.now) = slice_get-map statement_of c.args.file.now.statements c.loop-place.place c.statement.result.now c.statement.ensures in
    let within : c.loop-place.place < length (map statement_of c.args.file.now.statements) = slice_get-within (map statement_of c.args.file.now.statements) c.loop-place.place (statement_of c.statement.result.now) there in
    absent_at (map statement_of c.args.file.now.statements) c.loop-place.place (statement_of c.statement.result.now) there c.loop-place.streams c.loop-place.invariant.declares (c.requires.names c.loop-place.place within)

-- the declaration has a fault
pub returns-in_err-declare_one-clause-err : goal.returns-in_err-declare_one-clause-err
returns-in_err-declare_one-clause-err c =
    let there : slice_get (map statement_of c.args.file.now.statements) c.loop-place.place ≡ Some (statement_of c.statement.result.now) = slice_get-map statement_of c.args.file.now.statements c.loop-place.place c.statement.result.now c.statement.ensures in
    let p = err_from_is_err_and c.from_residual.result c.from_residual.ensures.1 in
    rw (p.1, p.2) (tells_declared (map statement_of c.args.file.now.statements) c.loop-place.place (statement_of c.statement.result.now) there c.loop-place.streams c.args.file.now.lines c.line-line.result _ c.loop-place.invariant.declares c.line-line.ensures c.in_err-declare_one.ensures.err)

-- one more statement
pub loop-place-preserved : goal.loop-place-preserved
loop-place-preserved c =
    let there : slice_get (map statement_of c.args.file.now.statements) c.loop-place.place ≡ Some (statement_of c.statement.result.now) = slice_get-map statement_of c.args.file.now.statements c.loop-place.place c.statement.result.now c.statement.ensures in
    record {
      declares = Declare-more (map statement_of c.args.file.now.statements) c.loop-place.place (statement_of c.statement.result.now) there c.loop-place.streams c.declare_one.new.streams c.loop-place.invariant.declares c.in_ok-declare_one.ensures.ok;
      there = c.in_ok-declare_one.ensures.there c.loop-place.invariant.there;
    }
