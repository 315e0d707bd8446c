use Rattle.std.proofs.Common.{◌≡◌, ◌==◌, ◌∙◌, None, Some, arith, sym}
use Rattle.std.specs.Prelude.{position}
use Rattle.automaton.proofs.CountLemmas.{none_counted}
use Rattle.automaton.proofs.NumberLemmas.{found_at}
use Rattle.automaton.proofs.network.growing.scan.Goals as goal

-- an edge leads there
pub unreachable-requires : goal.unreachable-requires
unreachable-requires c =
    let none : position (λ edge. edge == c.args.next) c.args.edges.now ≡ None = sym c.find_edge.ensures ∙ c.in-None.is in
    let counted = none_counted (λ edge. edge == c.args.next) c.args.edges.now none in
    absurd (let one = c.requires in omega (arith, counted, one))

-- it stands at the place
pub returns : goal.returns
returns c =
    let found : position (λ edge. edge == c.args.next) c.args.edges.now ≡ Some c.in-Some.place = sym c.find_edge.ensures ∙ c.in-Some.is in
    found_at c.args.next c.args.edges.now c.in-Some.place found
