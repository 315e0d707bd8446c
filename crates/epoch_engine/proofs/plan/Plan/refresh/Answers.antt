use Rattle.std.proofs.Common.{sym, subst}
use Rattle.automaton.specs.States.{Net}
use Rattle.epoch_engine.specs.Running.{IsPlan}
use Rattle.epoch_engine.proofs.plan.Plan.refresh.Goals as goal

-- the plan is as it was
pub returns-clause-is : goal.returns-clause-is
returns-clause-is c = let plan = c.args.self.now in subst (λ (net : Net). IsPlan (record plan { merged = net })) (sym c.refile.ensures) c.requires
