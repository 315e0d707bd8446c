use Rattle.std.proofs.Common.{◌<◌, List, length, take}
use Rattle.automaton.specs.declared.line.Line.{Line}
use Rattle.automaton.specs.Growing.{IsGrown, IsWhole}
use Rattle.automaton.specs.Prefixes.{Root, extended}
use Rattle.automaton.proofs.plain.add_line.Given as goal

-- the line has come to its state by the hops so far
abbrev pub invariant-loop-hop : goal.invariant-loop-hop
invariant-loop-hop l =
    (l.tip < length l.slots.items)
    × ((lines : List Line) → IsWhole lines l.fn.slots.items → IsGrown lines l.tip (extended (Root l.line.root) (take l.hop-index l.hop-items)) l.slots.items)
