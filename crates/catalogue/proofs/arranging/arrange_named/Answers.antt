use Rattle.std.proofs.Common.{length, map, sym}
use Rattle.std.proofs.lemmas.List.{length-map}
use Rattle.std.proofs.lemmas.Result.{IfErr-weaker, err_from_is_err_and}
use Rattle.cel_grammar.specs.Views.{statement_of}
use Rattle.stream_schema.specs.Streams.{stream_names}
use Rattle.catalogue.specs.Arranging.{AreSound, FailInNames, HaveCycle}
use Rattle.catalogue.specs.Telling.{AreOfCycle, Tells, TellsCycle}
use Rattle.catalogue.proofs.ArrangeLemmas.{on_ok_always, small, sound_from, tells_cycle, tells_read}
use Rattle.catalogue.proofs.arranging.arrange_named.Goals as goal

-- what is read is a query's number
pub order_of-requires-clause-small : goal.order_of-requires-clause-small
order_of-requires-clause-small c = small (map statement_of c.args.file.now.statements) c.in_ok-reads.reads c.in_ok-reads.ensures.ok

-- no name has a fault
pub returns-clause-sound : goal.returns-clause-sound
returns-clause-sound c =
    on_ok_always c.order_of.result
    (sound_from (map statement_of c.args.file.now.statements) (length c.args.file.now.statements) (sym (length-map c.args.file.now.statements statement_of)) c.requires.none c.in_ok-reads.ensures.none)

-- the queries have a cycle
pub returns-clause-err : goal.returns-clause-err
returns-clause-err c =
    let sound : AreSound (map statement_of c.args.file.now.statements) =
    sound_from (map statement_of c.args.file.now.statements) (length c.args.file.now.statements) (sym (length-map c.args.file.now.statements statement_of)) c.requires.none c.in_ok-reads.ensures.none in
    IfErr-weaker c.order_of.result (TellsCycle (AreOfCycle c.in_ok-reads.reads (stream_names c.args.named.now.queries)))
    (Tells (FailInNames (map statement_of c.args.file.now.statements) c.args.file.now.lines) (HaveCycle (map statement_of c.args.file.now.statements)))
    (λ told. tells_cycle (map statement_of c.args.file.now.statements) c.args.file.now.lines c.in_ok-reads.reads (stream_names c.args.named.now.queries) told sound c.in_ok-reads.ensures.ok c.requires.named.queries)
    c.order_of.ensures.err

-- a name that is read has a fault
pub returns-in_err-reads-clause-err : goal.returns-in_err-reads-clause-err
returns-in_err-reads-clause-err c =
    let p = err_from_is_err_and c.from_residual.result c.from_residual.ensures.1 in
    rw (p.1, p.2) (tells_read (map statement_of c.args.file.now.statements) c.args.file.now.lines (length c.args.file.now.statements) _ (sym (length-map c.args.file.now.statements statement_of)) c.requires.none c.in_err-reads.ensures.err)
