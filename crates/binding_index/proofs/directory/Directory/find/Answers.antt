use Rattle.std.proofs.Common.{◌∙◌, subst, sym}
use Rattle.std.specs.Prelude.{None, Some}
use Rattle.binding_index.proofs.LeadLemmas.{found_items}
use Rattle.binding_index.proofs.OnceLemmas.{Apart, once_at}
use Rattle.binding_index.proofs.directory.Directory.find.Goals as goal

pub returns-in-Some-clause-states : goal.returns-in-Some-clause-states
returns-in-Some-clause-states c = rw (← c.self.view_is) (c.as_slice.ensures ∙ found_items c.self.inside.states.entries c.args.key.now (Some c.in-Some.states.now) c.in-Some.ensures.value)

-- the states are those of one key
pub returns-in-Some-clause-once : goal.returns-in-Some-clause-once
returns-in-Some-clause-once c =
    let found = c.as_slice.ensures ∙ found_items c.self.inside.states.entries c.args.key.now (Some c.in-Some.states.now) c.in-Some.ensures.value in
    subst Apart (sym found) (once_at c.self.inside.states.entries c.args.key.now c.self.invariant.1)

pub returns-in-None-clause-states : goal.returns-in-None-clause-states
returns-in-None-clause-states c = rw (← c.self.view_is) (found_items c.self.inside.states.entries c.args.key.now None c.in-None.ensures.value)
