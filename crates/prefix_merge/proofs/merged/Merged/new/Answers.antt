use Rattle.std.proofs.Common.{nat_eq, ap, subst, sym}
use Rattle.std.specs.Map.{lookup}
use Rattle.automaton.specs.States.{Net}
use Rattle.prefix_merge.specs.Growth.{Keeps}
use Rattle.prefix_merge.proofs.InsertionLemmas.{nothing_kept}
use Rattle.prefix_merge.proofs.merged.Merged.new.Goals as goal

-- there is nothing
pub invariant_of-result : goal.invariant_of-result
invariant_of-result c = subst (λ (net : Net). Keeps c.new-2.result net) (sym c.new.ensures) (nothing_kept c.new-2.result (λ stream. ap (lookup (nat_eq stream)) c.new-2.ensures.empty))
