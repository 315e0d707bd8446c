use Rattle.std.proofs.Common.{◌∙◌, subst, sym}
use Rattle.std.specs.Prelude.{None, Some}
use Rattle.stream_readers.specs.Places.{MayHavePlaces, StandsOnlyAt, TellsOf}
use Rattle.stream_readers.proofs.PlaceLemmas.{passed_on}
use Rattle.stream_readers.proofs.target_places.part.Goals as goal

-- the table told of both
pub returns-clause-table : goal.returns-clause-table
returns-clause-table c =
    let slots = c.args.slots.now in
    let last = c.in-Some-standing-2.last in
    passed_on c.args.gone slots c.free.new.slots c.free.ensures.each c.in-Some.table c.renote.new.table c.forget.new.table last (subst (λ name. StandsOnlyAt slots name last) c.last_name.ensures c.in-Some-standing-2.ensures.here)
    (subst (λ places. MayHavePlaces places slots) (sym c.take.ensures.value ∙ c.in-Some.is) c.requires.table)
    (subst (λ name. TellsOf name (Some last) c.in-Some.table c.renote.new.table) c.gone_name-2.ensures c.renote.ensures) (subst (λ name. TellsOf name None c.renote.new.table c.forget.new.table) c.last_name-2.ensures c.forget.ensures)
