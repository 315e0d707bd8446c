use Rattle.std.proofs.Common.{arith, subst, sym}
use Rattle.std.proofs.lemmas.Option.{slice_get_within}
use Rattle.automaton.specs.Networks.{IsAt}
use Rattle.automaton.specs.Prefixes.{Root}
use Rattle.prefix_merge.proofs.PrefixLemmas.{one_hop_more}
use Rattle.prefix_merge.proofs.growth.reach.Goals as goal

-- a hop more leads to the next state
pub loop-place-preserved : goal.loop-place-preserved
loop-place-preserved c = (
  omega (arith, c.loop-place-test.true, c.len.ensures),
  subst (IsAt c.args.network.now c.in-Some.next) (sym (one_hop_more (Root c.args.line.now.root) c.args.line.now.hops c.loop-place.place c.get.result.now c.get.ensures)) (c.loop-place.state, c.in-Some.ensures.found, c.loop-place.invariant.1),
)

-- there is no hop more
pub returns-clause-reached : goal.returns-clause-reached
returns-clause-reached c = record {
  here = c.loop-place.invariant.1;
  last = λ hop next is entered. let inside = slice_get_within c.args.line.now.hops c.loop-place.place hop is in omega (arith, c.loop-place-test.false, c.len.ensures);
}
