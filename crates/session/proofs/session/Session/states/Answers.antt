use Rattle.std.proofs.Common.{List, subst}
use Rattle.semantics.specs.Histories.{Event}
use Rattle.splitter.specs.Chains.{lines_of}
use Rattle.prefix_merge.specs.Counts.{CountsStates}
use Rattle.session.specs.SessionView.{SessionView, WorksFor, program_in}
use Rattle.session.proofs.CountingLemmas.{states_counted}
use Rattle.session.proofs.session.Session.states.Goals as goal

-- there are as many states as distinct prefixes
pub returns : goal.returns
returns c = record {
  counted =
      subst (λ (s : SessionView). (history : List Event) → WorksFor s history → CountsStates (lines_of (program_in s)) c.states.result) c.self.view_is
      (λ history works. states_counted _ history works c.states.result (rw c.network.ensures.value at c.states.ensures));
}
