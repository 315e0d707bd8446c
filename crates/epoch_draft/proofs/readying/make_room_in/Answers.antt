use Rattle.std.proofs.Common.{sym, subst}
use Rattle.std.specs.Prelude.{Contains, Option}
use Rattle.std.specs.List.{All}
use Rattle.binding_index.specs.Leads.{ready_in}
use Rattle.binding_index.specs.Stores.{ready_of}
use Rattle.binding_index.specs.declared.store.Store.{Store}
use Rattle.epoch_draft.specs.Led.{LeadTo}
use Rattle.epoch_draft.proofs.LeadLemmas.{on_none}
use Rattle.epoch_draft.proofs.readying.make_room_in.Goals as goal

pub make_room_for-requires-clause-led : goal.make_room_for-requires-clause-led
make_room_for-requires-clause-led c = subst (LeadTo c.args.network.now c.args.keys.now c.args.number) c.in-Some.is c.requires.led

pub returns-in-Some-clause-more : goal.returns-in-Some-clause-more
returns-in-Some-clause-more c = subst (λ (o : Option Store). All (Contains (ready_of c.make_room_for.new.store)) (ready_in o)) (sym c.in-Some.is) c.make_room_for.ensures.more

pub returns-in-None-clause-leads : goal.returns-in-None-clause-leads
returns-in-None-clause-leads c = on_none c.args.keys.now
