use Rattle.std.proofs.Common.{◌<◌, ℕ, get_or}
use Rattle.semantics.specs.Kinds.{HasKinds}
use Rattle.cel_types.specs.SourceLaws.{kinds_in}
use Rattle.derivations.specs.declared.history.Heard.{Heard}
use Rattle.public_calls.proofs.tests.derived.have_their_kinds.Given as goal

-- the events so far have the kinds of their streams
abbrev pub invariant-loop-event : goal.invariant-loop-event
invariant-loop-event g l = (k : ℕ) → k < l.event-index → (d : Heard) → HasKinds (kinds_in l.catalogue.streams (get_or l.events k d).stream) (get_or l.events k d).tuple
