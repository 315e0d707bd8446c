use Rattle.binding_index.proofs.LeadLemmas.{new_leads, note_kept, note_leads}
use Rattle.binding_index.proofs.MapLemmas.{items_stand}
use Rattle.binding_index.proofs.OnceLemmas.{once_put, once_written}
use Rattle.binding_index.proofs.PairLemmas.{pairs_noted, pairs_put}
use Rattle.binding_index.proofs.directory.lead.Goals as goal

pub returns-in-Some-clause-ok : goal.returns-in-Some-clause-ok
returns-in-Some-clause-ok c =
    note_leads c.args.states.now.entries c.in-Some.place c.args.key.now c.args.state c.index_mut.result.now c.add.new.states c.add.result c.place_of.ensures.distinct
    (items_stand c.args.states.now.entries c.args.key.now c.in-Some.place c.in-Some.ensures.found) c.index_mut.ensures.value c.add.ensures.ok

pub returns-in-Some-clause-kept : goal.returns-in-Some-clause-kept
returns-in-Some-clause-kept c =
    note_kept c.args.states.now.entries c.in-Some.place c.args.key.now c.args.state c.index_mut.result.now c.add.new.states c.add.result c.place_of.ensures.distinct
    (items_stand c.args.states.now.entries c.args.key.now c.in-Some.place c.in-Some.ensures.found) c.index_mut.ensures.value c.add.ensures.kept

pub returns-in-Ok-clause-ok : goal.returns-in-Ok-clause-ok
returns-in-Ok-clause-ok c =
    new_leads c.args.states.now.entries c.insert.new.self.entries c.args.key.now c.in_ok-key.key c.args.state c.new-numbers.result c.add-2.new.states c.in_ok-key.ensures c.in_default.ensures.absent c.new-numbers.ensures c.in_ok-added.ensures.ok
    c.in-Ok.ensures.updates.0

pub returns-in-Some-clause-added : goal.returns-in-Some-clause-added
returns-in-Some-clause-added c = pairs_noted c.args.states.now.entries c.in-Some.place c.index_mut.result.now c.add.new.states c.add.result c.index_mut.ensures.value c.add.ensures.added

pub returns-in-Ok-clause-added : goal.returns-in-Ok-clause-added
returns-in-Ok-clause-added c =
    pairs_put c.args.states.now c.args.key.now c.in_ok-key.key c.new-numbers.result c.add-2.new.states c.insert.new.self.entries c.in_ok-added.added c.in_ok-key.ensures c.in_default.ensures.absent c.new-numbers.ensures c.in_ok-added.ensures.added
    c.in-Ok.ensures.entries

pub returns-in-Some-clause-once : goal.returns-in-Some-clause-once
returns-in-Some-clause-once c =
    once_written c.args.states.now.entries c.in-Some.place c.args.key.now c.index_mut.result.now c.add.new.states (items_stand c.args.states.now.entries c.args.key.now c.in-Some.place c.in-Some.ensures.found) c.index_mut.ensures.value c.add.ensures.once

pub returns-in-Ok-clause-once : goal.returns-in-Ok-clause-once
returns-in-Ok-clause-once c =
    once_put c.args.states.now c.args.key.now c.in_ok-key.key c.new-numbers.result c.add-2.new.states c.insert.new.self.entries c.in_ok-key.ensures c.in_default.ensures.absent c.new-numbers.ensures c.in_ok-added.ensures.once c.in-Ok.ensures.entries
