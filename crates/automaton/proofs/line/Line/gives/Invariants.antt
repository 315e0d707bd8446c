use Rattle.automaton.proofs.TypingLemmas.{LineLeads}
use Rattle.automaton.proofs.line.Line.gives.Given as goal

-- the hops from here on are typed over the kinds so far
abbrev pub invariant-loop-hop : goal.invariant-loop-hop
invariant-loop-hop l = LineLeads l.streams l.self l.hop-index l.kinds
