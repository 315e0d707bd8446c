use Rattle.std.proofs.Common.{◌≡◌, ◌<◌, get_or, length, map, arith}
use Rattle.std.specs.Prelude.{Some, slice_get}
use Rattle.std.proofs.lemmas.Option.{slice_get-get_or}
use Rattle.cel_grammar.specs.Views.{statement_of}
use Rattle.catalogue.proofs.PlaceLemmas.{slice_get-map}
use Rattle.catalogue.proofs.PlacesLemmas.{places-with}
use Rattle.catalogue.proofs.publishing.places_of.Goals as goal

-- one more statement
pub loop-place-preserved : goal.loop-place-preserved
loop-place-preserved c =
    let there : slice_get (map statement_of c.args.file.now.statements) c.loop-place.place ≡ Some (statement_of c.statement.result.now) = slice_get-map statement_of c.args.file.now.statements c.loop-place.place c.statement.result.now c.statement.ensures in
    let within : c.loop-place.place < length c.args.file.now.lines = (let lines : c.size-place-end.result ≡ length c.args.file.now.lines = c.size-place-end.ensures.lines in omega arith) in
    let on_line : slice_get c.args.file.now.lines c.loop-place.place ≡ Some (get_or c.args.file.now.lines c.loop-place.place 0) = slice_get-get_or c.args.file.now.lines c.loop-place.place 0 within in
    places-with (map statement_of c.args.file.now.statements) c.args.file.now.lines c.loop-place.place (statement_of c.statement.result.now) (get_or c.args.file.now.lines c.loop-place.place 0) c.loop-place.places c.admit.new.places there on_line c.loop-place.invariant c.in_ok-admit.ensures
