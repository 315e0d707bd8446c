use Rattle.std.proofs.Common.{◌∙◌, ap, sym}
use Rattle.std.specs.Option.{option_copied}
use Rattle.stream_readers.proofs.PlaceLemmas.{told_absent, told_stands, untold_absent}
use Rattle.stream_readers.proofs.target_places.standing.Goals as goal

-- it stands where it is noted
pub returns-in-Some-clause-here : goal.returns-in-Some-clause-here
returns-in-Some-clause-here c = told_stands c.args.table.now c.args.slots.now c.args.name c.requires c.in-Some.place.now (sym (ap option_copied c.in-Some.is) ∙ c.get.ensures.value) (c.stands.ensures.yes c.if-stands.true)

-- it doesn't
pub returns-in_default-clause-absent : goal.returns-in_default-clause-absent
returns-in_default-clause-absent c = told_absent c.args.table.now c.args.slots.now c.args.name c.requires c.in-Some.place.now (sym (ap option_copied c.in-Some.is) ∙ c.get.ensures.value) (c.stands.ensures.no c.if-stands.false)

-- it is not noted
pub returns-in_default-2-clause-absent : goal.returns-in_default-2-clause-absent
returns-in_default-2-clause-absent c = untold_absent c.args.table.now c.args.slots.now c.args.name c.requires (sym (ap option_copied c.in_default.is) ∙ c.get.ensures.value)
