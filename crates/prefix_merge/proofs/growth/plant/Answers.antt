use Rattle.std.proofs.Common.{◌≤◌, subst, sym}
use Rattle.automaton.specs.Changes.{RemovesState}
use Rattle.automaton.specs.States.{Net}
use Rattle.prefix_merge.proofs.ComingLemmas.{come_twice, root_come}
use Rattle.prefix_merge.proofs.GrowthLemmas.{lowest_within}
use Rattle.prefix_merge.proofs.UndoneLemmas.{root_undone}
use Rattle.prefix_merge.proofs.growth.plant.Goals as goal

-- the number is the next one at most
pub take_back-requires-clause-next : goal.take_back-requires-clause-next
take_back-requires-clause-next c = subst (λ places. c.args.number ≤ places) (sym c.places-places.ensures.value) (lowest_within c.args.network.now c.args.number c.requires.number)

-- the root state is taken away again
pub returns-in-Err-clause-kept : goal.returns-in-Err-clause-kept
returns-in-Err-clause-kept c =
    let removes = subst (λ (net : Net). RemovesState c.args.number net c.take_back.ensures.0) c.in-Err.ensures.kept c.take_back.ensures.1 in
    root_undone c.args.number c.places-places.result c.args.line.now.root c.args.network.now c.add_root.new.self c.take_back.ensures.0 c.take_back.new.network c.requires.number.free (lowest_within c.args.network.now c.args.number c.requires.number)
    c.places-places.ensures.value c.in_ok-add_root.ensures.added removes c.take_back.ensures.2

-- the root state comes, and then those of the hops, and each is listed
pub returns-in-Ok-clause-came : goal.returns-in-Ok-clause-came
returns-in-Ok-clause-came c =
    come_twice c.args.network.now c.add_root.new.self c.grow.new.network c.args.came.now c.add.new.self c.grow.new.came
    (root_come c.args.number c.args.line.now.root c.args.network.now c.add_root.new.self c.args.came.now c.add.new.self c.in_ok-add_root.ensures.added c.in_ok-add.ensures.ok) c.in-Ok.ensures.came
