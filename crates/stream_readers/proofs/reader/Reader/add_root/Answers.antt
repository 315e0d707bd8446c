use Rattle.std.proofs.Common.{◌∙◌, ap, sym, subst, IsTrue, List, ℕ, ◌++◌, map}
use Rattle.std.specs.List.{All}
use Rattle.std.proofs.lemmas.Result.{on_ok_weaker}
use Rattle.scalar_expr.proofs.Bags.{permuted_to}
use Rattle.automaton.specs.States.{is_used}
use Rattle.stream_readers.specs.Filing.{filed_to}
use Rattle.stream_readers.specs.declared.target.Target.TheVariants.{Edge}
use Rattle.stream_readers.proofs.FilingLemmas.{both_added}
use Rattle.stream_readers.proofs.TargetLemmas.{edges_used}
use Rattle.stream_readers.proofs.reader.Reader.add_root.Goals as goal

pub add_edges-requires : goal.add_edges-requires
add_edges-requires c =
    let net = c.args.network.now in subst (All (λ state. IsTrue (is_used net state))) (sym (c.as_slice.ensures ∙ c.edges.ensures)) (edges_used net c.requires.network c.args.number)

pub returns-clause-targets : goal.returns-clause-targets
returns-clause-targets c =
    let net = c.args.network.now in
    let old = c.args.self.now.targets in
    let edges = permuted_to c.in_ok-add_edges.ensures (ap (λ (states : List ℕ). old ++ map (λ state. filed_to net (Edge state)) states) (c.as_slice.ensures ∙ c.edges.ensures)) in
    on_ok_weaker c.add_ends.result (λ ends. both_added net c.args.number old c.add_edges.new.index c.add_ends.new.index edges ends) c.add_ends.ensures
