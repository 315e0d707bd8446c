use Rattle.std.proofs.Common.{◌≤◌, List, subst, sym}
use Rattle.automaton.specs.declared.line.Hop.{Hop}
use Rattle.automaton.specs.Changes.{RemovesState}
use Rattle.automaton.specs.States.{Net}
use Rattle.prefix_merge.specs.Growth.{Grows}
use Rattle.prefix_merge.proofs.ComingLemmas.{come_twice, hop_come}
use Rattle.prefix_merge.proofs.GrowthLemmas.{lowest_within}
use Rattle.prefix_merge.proofs.UndoneLemmas.{hop_undone}
use Rattle.prefix_merge.proofs.growth.+grow.Goals as goal

-- the number is the next one at most
pub take_back-requires-clause-next : goal.take_back-requires-clause-next
take_back-requires-clause-next t c =
    subst (λ places. c.lowest_free-number.result ≤ places) (sym c.places-places.ensures.value) (lowest_within c.args.network.now c.lowest_free-number.result c.lowest_free-number.ensures)

-- the hop's state comes, and then those of the rest
pub returns-in-Ok-clause-grown : goal.returns-in-Ok-clause-grown
returns-in-Ok-clause-grown t c =
    subst (λ (hops : List Hop). Grows c.args.tip hops c.args.end c.args.network.now c.grow.new.network) (sym c.in-Some.ensures.cases.0)
    (c.lowest_free-number.result, c.add_hop.new.self, c.lowest_free-number.ensures, c.in_ok-add_hop.ensures.added, c.in-Ok.ensures.grown)

-- the state is taken away again
pub returns-in-Err-clause-kept : goal.returns-in-Err-clause-kept
returns-in-Err-clause-kept t c =
    let removes = subst (λ (net : Net). RemovesState c.lowest_free-number.result net c.take_back.ensures.0) c.in-Err.ensures.kept c.take_back.ensures.1 in
    hop_undone c.lowest_free-number.result c.places-places.result c.args.tip c.in-Some.hop.now c.args.network.now c.add_hop.new.self c.take_back.ensures.0 c.take_back.new.network c.places-places.ensures.network c.requires.tip
    c.lowest_free-number.ensures.free (lowest_within c.args.network.now c.lowest_free-number.result c.lowest_free-number.ensures) c.places-places.ensures.value c.in_ok-add_hop.ensures.added removes c.take_back.ensures.2

-- the hop's state comes, and then those of the rest, and each is listed
pub returns-in-Ok-clause-came : goal.returns-in-Ok-clause-came
returns-in-Ok-clause-came t c =
    come_twice c.args.network.now c.add_hop.new.self c.grow.new.network c.args.came.now c.add.new.self c.grow.new.came
    (hop_come c.lowest_free-number.result c.args.tip c.in-Some.hop.now c.args.network.now c.add_hop.new.self c.args.came.now c.add.new.self c.in_ok-add_hop.ensures.added c.in_ok-add.ensures.ok) c.in-Ok.ensures.came
