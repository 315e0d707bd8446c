use Rattle.std.proofs.Common.{◌<◌, ◌^◌, List, sym, subst}
use Rattle.automaton.specs.declared.line.Line.{Line}
use Rattle.splitter.proofs.FewLemmas.{size}
use Rattle.catalogue.specs.Catalogued.{Catalogued}
use Rattle.catalogue.specs.Tables.{IsHeld}
use Rattle.catalogue.proofs.accepted.Catalogue.lines.Goals as goal

pub returns-clause-value : goal.returns-clause-value
returns-clause-value c =
    let held : IsHeld c.args.self.now c.self.inside.chains.lines c.self.inside.chains.shares c.self.inside.reads = subst (λ (v : Catalogued). IsHeld v c.self.inside.chains.lines c.self.inside.chains.shares c.self.inside.reads) c.self.view_is c.self.invariant.held in held.lines_are

pub returns-clause-few : goal.returns-clause-few
returns-clause-few c =
    let held : IsHeld c.args.self.now c.self.inside.chains.lines c.self.inside.chains.shares c.self.inside.reads = subst (λ (v : Catalogued). IsHeld v c.self.inside.chains.lines c.self.inside.chains.shares c.self.inside.reads) c.self.view_is c.self.invariant.held in
    subst (λ (lines : List Line). size lines < 2 ^ 64) (sym held.lines_are) held.stands.few
