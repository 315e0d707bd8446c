use Rattle.std.proofs.Common.{◌∙◌, ◌<◌, List, ap, get_or, length, subst}
use Rattle.automaton.specs.declared.line.Hop.{Hop}
use Rattle.automaton.proofs.TypingLemmas.{hop_leads}
use Rattle.automaton.proofs.line.Line.gives.Goals as goal

-- the next hop leads on
pub loop-hop-preserved : goal.loop-hop-preserved
loop-hop-preserved c =
    let hops = c.as_slice-hop-items.ensures in
    let inside = subst (λ (hs : List Hop). c.loop-hop.hop-index < length hs) hops c.loop-hop-test.true in
    let is = c.hop-item.is ∙ ap (λ (hs : List Hop). get_or hs c.loop-hop.hop-index c.hop-item.result) hops in
    hop_leads c.args.streams.now c.args.self.now c.loop-hop.hop-index c.loop-hop.kinds c.hop-item.result inside is c.loop-hop.invariant c.in_ok-kinds-2.kinds c.in_ok-kinds-2.ensures
