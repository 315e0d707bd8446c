use Rattle.std.proofs.Common.{◌∙◌}
use Rattle.stream_readers.proofs.PlaceLemmas.{each_left, freed_filed, freed_places, is_taken_at}
use Rattle.stream_readers.proofs.SlotLemmas.{has_from}
use Rattle.stream_readers.proofs.target_places.free.Goals as goal

-- the target that leaves is filed
pub remove-requires : goal.remove-requires
remove-requires c = has_from c.args.place c.args.conditions.now (c.requires.places c.args.place ∙ is_taken_at c.args.slots.now c.args.place c.requires.here)

pub returns-clause-each : goal.returns-clause-each
returns-clause-each c =
    each_left c.args.gone c.args.slots.now c.move_slot.new.slots c.move_slot-2.new.slots c.args.place c.args.last c.requires.here c.requires.last c.move_slot.ensures.here c.move_slot.ensures.others c.move_slot-2.ensures.here c.move_slot-2.ensures.others

pub returns-clause-places : goal.returns-clause-places
returns-clause-places c =
    freed_places c.args.gone c.args.slots.now c.move_slot-2.new.slots (returns-clause-each c) c.args.place c.requires.here (c.move_slot-2.ensures.as_many ∙ c.move_slot.ensures.as_many) c.args.conditions.now c.remove.new.self c.remove.ensures c.requires.places

pub returns-clause-left : goal.returns-clause-left
returns-clause-left c =
    freed_filed c.args.gone c.args.slots.now c.move_slot-2.new.slots (returns-clause-each c) c.args.place c.requires.here (c.move_slot-2.ensures.as_many ∙ c.move_slot.ensures.as_many) c.args.conditions.now c.remove.new.self c.remove.ensures c.requires.places
