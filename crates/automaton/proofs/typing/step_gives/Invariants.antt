use Rattle.automaton.proofs.TypingLemmas.{StepLeads}
use Rattle.automaton.proofs.typing.step_gives.Given as goal

-- the stages from here on are typed over the kinds so far
abbrev pub invariant-loop-stage : goal.invariant-loop-stage
invariant-loop-stage l = StepLeads l.fn.kinds l.stage-items l.stage-index l.kinds
