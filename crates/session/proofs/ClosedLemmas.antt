-- The rows of an epoch that is closed.
use Rattle.std.proofs.Common.{◌≡◌, ◌∙◌, sym, ap, subst, ℕ, ◌<◌, cond, List, [], ◌++◌, append_assoc, append-nil, Option, Some}
use Rattle.std.proofs.lemmas.Bool.{lt-ltb}
use Rattle.cay_host.specs.Told.{Told}
use Rattle.event_types.specs.Tuple.{TupleView}
use Rattle.semantics.specs.Histories.{Event}
use Rattle.semantics.specs.Programs.{Program}
use Rattle.semantics.specs.Results.{results}
use Rattle.splitter.specs.Chains.{outs_of}
use Rattle.epoch_engine.specs.Closes.{Closes, KeepsPlan}
use Rattle.epoch_engine.specs.EngineStandsFor as engines
use Rattle.epoch_engine.specs.EngineView as engine
use Rattle.epoch_engine.specs.Results.{results_of}
use Rattle.epoch_engine.proofs.StandsLemmas.{closed_stands}
use Rattle.catalogue.specs.Catalogued.{Catalogued}
use Rattle.catalogue.specs.Standing.{StandsInOrder}
use Rattle.change_laws.specs.AtOne.{AreAtOne}
use Rattle.session.specs.BatchLines.{batch_lines}
use Rattle.session.specs.Standing.{StandsFor, lines_over, program_over}
use Rattle.session.specs.Owes.{Owes, closing, epoch_rows, is_later}
use Rattle.session.proofs.BatchLinesLemmas.{lines_are, lines_by_streams}
use Rattle.session.proofs.NamesLemmas.{all_named}
use Rattle.session.proofs.PlanLemmas.{laid_over}
use Rattle.session.proofs.ResultLemmas.{closing_gives_results_of_catalogue}

module _ (c : Catalogued) (standing : StandsInOrder c) (old new : engine.EngineView) (batch : List (ℕ × List TupleView)) (at_one : AreAtOne c old) (closes : Closes old new batch) (history : List Event) (stands : StandsFor c history old) where
  -- the batch has the results of the queries over what was heard
  batch_is : batch ≡ results_of (outs_of (program_over c)) (λ stream. results (program_over c) history stream closes.time)
  batch_is = closing_gives_results_of_catalogue c old new history batch standing (laid_over c old standing at_one) stands.engine stands.declared closes

  -- its lines are the rows of the open epoch
  pub rows_closed : (rows put : List ℕ) → put ≡ rows ++ batch_lines c.streams batch → put ≡ rows ++ epoch_rows (program_over c) history old.time
  rows_closed rows put e =
      let program = program_over c in
      e ∙ ap (λ given. rows ++ batch_lines c.streams given) batch_is
      ∙ ap (λ lines. rows ++ lines) (lines_by_streams c.streams (outs_of program) (λ stream. results program history stream closes.time) ∙ lines_are c.streams program history closes.time program.queries (all_named c standing))
      ∙ ap (λ o. rows ++ epoch_rows program history o) (sym closes.was_open)

  -- the engine stands for the same events
  pub still_stands : KeepsPlan old new → engines.EngineStandsFor new (lines_over c) history
  still_stands plan = closed_stands old new (lines_over c) history batch stands.engine closes plan

-- a later event closes the open epoch
closing_is : (program : Program) (history : List Event) (seen : Option ℕ) (last at : ℕ) → seen ≡ Some last → last < at → closing program history seen at ≡ epoch_rows program history seen
closing_is program history seen last at e less = ap (λ b. cond b (epoch_rows program history seen) []) (ap (λ o. is_later o at) e ∙ lt-ltb last at less)

-- what is owed of rows to which others were put is owed of both
pub owes_put : (old put rows new : List ℕ) (a b : Told) → put ≡ old ++ rows → ((rest : List ℕ) → Owes (put ++ rest) (new ++ rest) a b) → (rest : List ℕ) → Owes (old ++ (rows ++ rest)) (new ++ rest) a b
owes_put old put rows new a b e owes rest = subst (λ t. Owes t (new ++ rest) a b) (ap (λ rs. rs ++ rest) e ∙ append_assoc old rows rest) (owes rest)

-- and of both alone
pub owes_both : (old rows new : List ℕ) (a b : Told) → ((rest : List ℕ) → Owes (old ++ (rows ++ rest)) (new ++ rest) a b) → Owes (old ++ rows) new a b
owes_both old rows new a b owes = subst (λ (s : List ℕ × List ℕ). Owes s.0 s.1 a b) (λ i. (old ++ append-nil rows i, append-nil new i)) (owes [])

module _ (program : Program) (history : List Event) (seen : Option ℕ) (last at : ℕ) (e : seen ≡ Some last) (less : last < at) (old closed : List ℕ) (f : closed ≡ old ++ epoch_rows program history seen) where
  -- the rows with those of the epoch that it closed
  pub closed_rows : closed ≡ old ++ closing program history seen at
  closed_rows = f ∙ ap (λ rows. old ++ rows) (sym (closing_is program history seen last at e less))

  -- what is owed of the closed rows is owed of what the closing adds
  pub owes_closed : (new : List ℕ) (a b : Told) → ((rest : List ℕ) → Owes (closed ++ rest) (new ++ rest) a b) → (rest : List ℕ) → Owes (old ++ (closing program history seen at ++ rest)) (new ++ rest) a b
  owes_closed new a b owes = owes_put old closed (closing program history seen at) new a b closed_rows owes
