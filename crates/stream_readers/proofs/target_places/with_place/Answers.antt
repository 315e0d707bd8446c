use Rattle.stream_readers.proofs.PlaceLemmas.{noted_came}
use Rattle.stream_readers.proofs.target_places.with_place.Goals as goal

pub returns-clause-came : goal.returns-clause-came
returns-clause-came c = λ new comes.
    noted_came c.args.target c.name_of-name.result c.args.place c.args.slots.now new c.args.table c.note.new.table c.name_of-name.ensures c.in-None.ensures.absent c.in_ok-note.ensures c.requires.table comes
