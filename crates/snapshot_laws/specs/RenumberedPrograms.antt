-- Programs whose streams have other numbers: they report the same.
use Rattle.std.specs.Prelude.{◌≡◌, ℕ, ◌<◌, ◌≤◌, List, map}
use Rattle.semantics.specs.Expressions.{Ex, Read, Filter, Select, Union, Next, Fold}
use Rattle.semantics.specs.Histories.{Event}
use Rattle.semantics.specs.Programs.{Program, Query}
use Rattle.semantics.specs.Report.{epoch, report}
use Rattle.semantics.specs.Results.{results}

-- the same expression over the streams with the other numbers
abbrev pub renumbered_expr : (ℕ → ℕ) → Ex → Ex
renumbered_expr number (Read stream) = Read (number stream)
renumbered_expr number (Filter p e) = Filter p (renumbered_expr number e)
renumbered_expr number (Select m e) = Select m (renumbered_expr number e)
renumbered_expr number (Union e f) = Union (renumbered_expr number e) (renumbered_expr number f)
renumbered_expr number (Next p e f) = Next p (renumbered_expr number e) (renumbered_expr number f)
renumbered_expr number (Fold p q m e f) = Fold p q m (renumbered_expr number e) (renumbered_expr number f)

-- the same query; its hidden streams begin anywhere
abbrev pub renumbered_query : (ℕ → ℕ) → (ℕ → ℕ) → Query → Query
renumbered_query number hidden query = record { name = query.name; stream = number query.stream; hidden = hidden query.stream; expr = renumbered_expr number query.expr; birth = query.birth }

-- the same program
abbrev pub renumbered_program : (ℕ → ℕ) → (ℕ → ℕ) → Program → Program
renumbered_program number hidden program = record {
  declared = program.declared;
  queries = map (renumbered_query number hidden) program.queries;
  order = map (renumbered_query number hidden) program.order;
}

-- each number given to a stream leads back to it; declared streams keep theirs, and no other stream gets one of these
pub record KeepsDeclared (number back : ℕ → ℕ) (declared : ℕ) : Type 0 where
  pub returns : (stream : ℕ) → back (number stream) ≡ stream
  pub keeps : (stream : ℕ) → stream < declared → number stream ≡ stream
  pub others : (stream : ℕ) → declared ≤ stream → declared ≤ number stream

-- whatever events were heard, each stream of a program has the same results under its new number, and the program reports the same
pub record RenumberedProgramsReportAlike : Type 0 where
  pub results_are :
      (number back hidden : ℕ → ℕ) (program : Program) → KeepsDeclared number back program.declared
      → (history : List Event) (stream time : ℕ) → results (renumbered_program number hidden program) history (number stream) time ≡ results program history stream time
  pub epochs_are :
      (number back hidden : ℕ → ℕ) (program : Program) → KeepsDeclared number back program.declared
      → (history : List Event) (time : ℕ) → epoch (renumbered_program number hidden program) history time ≡ epoch program history time
  pub reports_are :
      (number back hidden : ℕ → ℕ) (program : Program) → KeepsDeclared number back program.declared
      → (history : List Event) → report (renumbered_program number hidden program) history ≡ report program history
