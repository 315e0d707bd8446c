use Rattle.splitter.proofs.LeadLemmas.{Leads}
use Rattle.splitter.proofs.chains.Chains.make.Given as goal

-- the queries so far are there
abbrev pub invariant-loop-place : goal.invariant-loop-place
invariant-loop-place l = Leads l.fn.declared l.expressions l.fn.places l.fn.kinds l.place l.namer l.lines l.layout
