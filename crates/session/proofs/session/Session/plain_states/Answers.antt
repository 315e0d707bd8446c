use Rattle.std.proofs.Common.{List, subst}
use Rattle.semantics.specs.Histories.{Event}
use Rattle.splitter.specs.Chains.{lines_of}
use Rattle.prefix_merge.specs.Counts.{CountsPlain}
use Rattle.session.specs.SessionView.{SessionView, WorksFor, program_in}
use Rattle.session.proofs.CountingLemmas.{plain_counted}
use Rattle.session.proofs.session.Session.plain_states.Goals as goal

-- there are as many root states and hops as states of the plain network
pub returns : goal.returns
returns c = record {
  counted =
      subst (λ (s : SessionView). (history : List Event) → WorksFor s history → CountsPlain (lines_of (program_in s)) c.saturating_add.result) c.self.view_is
      (λ history works.
      plain_counted _ history works (rw c.lines.ensures.value at c.lines.ensures.few) c.root_states.result c.hops_of.result c.saturating_add.result (rw c.network.ensures.value at c.root_states.ensures)
      (rw c.lines.ensures.value at c.hops_of.ensures) c.saturating_add.ensures);
}
