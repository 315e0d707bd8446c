-- What is heard of an event text in which no control line is taken, over the streams of an accepted query text.
use Rattle.std.specs.Prelude.{ℕ, List, Bool, true, Option}
use Rattle.catalogue.specs.Judgement.{Judged}
use Rattle.derivations.specs.declared.history.Heard.{Heard}
use Rattle.courses.specs.EventLines.{readings_here, refused}
use Rattle.courses.specs.QuerySet.{set_of}
use Rattle.courses.specs.declared.refusal.Refusal.{Refusal}
use Rattle.explanation.specs.HeardLines.{numbered_events}

-- the first refused line of an event text that has ended or not
abbrev pub refused_here : Judged → List ℕ → Bool → Option Refusal
refused_here judged text ended = refused (readings_here (set_of judged).streams text ended)

-- the events of an event text, each with the number of its line
abbrev pub events_here : Judged → List ℕ → List Heard
events_here judged text = numbered_events (readings_here (set_of judged).streams text true)
