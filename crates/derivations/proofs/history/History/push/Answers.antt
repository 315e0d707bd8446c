use Rattle.std.proofs.Common.{subst, sym, List}
use Rattle.derivations.specs.HeardLines.{IsNotBefore}
use Rattle.derivations.specs.declared.history.Heard.{Heard}
use Rattle.derivations.proofs.HistoryLemmas.{pushed_in_order}
use Rattle.derivations.proofs.history.History.push.Goals as goal

-- one more event that is not before the others, or none more
pub invariant_of-self : goal.invariant_of-self
invariant_of-self c =
    pushed_in_order c.self.inside.heard c.args.heard c.push.result c.push.new.self (subst (λ (lines : List Heard). IsNotBefore lines c.args.heard) (sym c.self.view_is) c.requires) c.from.ensures.in_order c.self.invariant c.push.ensures.ok c.push.ensures.kept
