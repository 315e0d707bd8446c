use Rattle.std.proofs.Common.{◌∙◌, sym}
use Rattle.automaton.proofs.ClearedLemmas.{before_used}
use Rattle.stream_readers.proofs.GoneLemmas.{edge_leaves, no_edge_leaves, no_edge_there}
use Rattle.stream_readers.proofs.filing.drop_edge.Goals as goal

-- it is a root
pub returns-in_default-clause-targets : goal.returns-in_default-clause-targets
returns-in_default-clause-targets c = λ new removes.
    no_edge_there c.args.network.now new c.places.ensures.network c.args.number removes c.requires.last c.requires.endless c.args.readers.now (sym c.in_default.is ∙ c.before-from.ensures) (λ s. (c.requires.readers s).targets)

pub root-requires : goal.root-requires
root-requires c = before_used c.args.network.now c.places.ensures.network c.args.number c.in-Some.before (sym c.before-from.ensures ∙ c.in-Some.is)

-- the state before is a root
pub returns-in-Some-root-clause-targets : goal.returns-in-Some-root-clause-targets
returns-in-Some-root-clause-targets c = λ new removes.
    edge_leaves c.args.network.now new c.places.ensures.network c.args.number removes c.requires.last c.requires.endless c.in-Some.before c.in-Some-root.stream c.args.readers.now c.drop_target.new.readers (sym c.in-Some.is ∙ c.before-from.ensures) (sym c.in-Some-root.is ∙ c.root.ensures) c.drop_target.ensures (λ s. (c.requires.readers s).targets)

-- it isn't
pub returns-in_default-root-clause-targets : goal.returns-in_default-root-clause-targets
returns-in_default-root-clause-targets c = λ new removes.
    no_edge_leaves c.args.network.now new c.places.ensures.network c.args.number removes c.requires.last c.requires.endless c.in-Some.before c.args.readers.now (sym c.in-Some.is ∙ c.before-from.ensures) (sym c.in_default-root.is ∙ c.root.ensures) (λ s. (c.requires.readers s).targets)
