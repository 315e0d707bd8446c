use Rattle.catalogue.proofs.LaidLemmas.{hops_few, made_holds, made_kept, made_unchanged, room_up, streams_many}
use Rattle.catalogue.proofs.accepted.Catalogue.make.Goals as goal

-- the streams that are there are those of the statements
pub hold-requires-clause-there : goal.hold-requires-clause-there
hold-requires-clause-there c = streams_many c.args.file c.args.typed c.requires.accepted c.requires.typed c.size.result c.size.ensures.value

-- the layout has them all
pub hold-requires-clause-up : goal.hold-requires-clause-up
hold-requires-clause-up c = room_up c.args.file c.args.typed c.requires.accepted c.requires.typed c.requires.there c.in_ok-laid.laid.chains c.in_ok-laid.ensures.chained c.size.result c.size.ensures.value

-- the lines and the hops on them are few
pub hold-requires-clause-few : goal.hold-requires-clause-few
hold-requires-clause-few c = hops_few c.args.file c.args.typed c.requires.accepted c.requires.typed c.requires.there c.in_ok-laid.laid.chains c.in_ok-laid.ensures.chained

-- so it stands in order
pub invariant_of-result : goal.invariant_of-result
invariant_of-result c =
    made_kept c.args.file c.args.typed c.requires.accepted c.requires.typed c.requires.there c.in_ok-laid.laid c.in_ok-laid.ensures c.size.result c.size.ensures.value c.in_ok-held.held c.in_ok-held.ensures

-- holds what the text is judged to be
pub returns-clause-holds : goal.returns-clause-holds
returns-clause-holds c =
    made_holds c.args.file c.args.typed c.requires.accepted c.requires.typed c.requires.there c.in_ok-laid.laid c.in_ok-laid.ensures c.size.result c.size.ensures.value c.in_ok-held.held c.in_ok-held.ensures

-- and no query came or left
pub returns-clause-unchanged : goal.returns-clause-unchanged
returns-clause-unchanged c =
    made_unchanged c.args.file c.args.typed c.requires.accepted c.requires.typed c.requires.there c.in_ok-laid.laid c.in_ok-laid.ensures c.size.result c.size.ensures.value c.in_ok-held.held c.in_ok-held.ensures
