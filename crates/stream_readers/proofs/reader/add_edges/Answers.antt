use Rattle.std.proofs.Common.{ap, append-nil, get_or, ◌++◌, ◌∷◌, [], List, sym}
use Rattle.std.proofs.lemmas.List.Sorted.{IsPermutation-refl}
use Rattle.scalar_expr.proofs.Bags.{permuted_to}
use Rattle.stream_readers.specs.Filing.{filed_to}
use Rattle.stream_readers.specs.Ways.{first_parts}
use Rattle.automaton.specs.declared.step.Stage.{Stage}
use Rattle.stream_readers.specs.declared.target.Target.TheVariants.{Edge}
use Rattle.stream_readers.proofs.FilingLemmas.{mapped_more}
use Rattle.stream_readers.proofs.reader.add_edges.Goals as goal

pub loop-state-init : goal.loop-state-init
loop-state-init c = permuted_to (IsPermutation-refl c.args.index.now) (sym (append-nil c.args.index.now))

-- one edge more
pub loop-state-preserved : goal.loop-state-preserved
loop-state-preserved c =
    let net = c.args.network.now in
    let states = c.args.states.now in
    let i = c.loop-state.state-index in
    mapped_more (λ state. filed_to net (Edge state)) states i 0 c.args.index.now c.loop-state.index c.add_target.new.index c.loop-state-test.true c.loop-state.invariant
    (permuted_to c.in_ok-add_target.ensures (ap (λ (step : List Stage). c.loop-state.index ++ record { target = Edge (get_or states i 0); parts = first_parts step } ∷ []) c.step.ensures))
