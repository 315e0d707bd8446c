-- What the closing of an epoch gives is what the queries denote.
use Rattle.std.proofs.Common.{◌≡◌, ◌∙◌, sym, ap, refl, subst, ℕ, ◌<◌, ◌==◌, Bool, true, false, cond, nat_lt, List, [], ◌∷◌, map, arith}
use Rattle.std.specs.Prelude.{Option, Some}
use Rattle.std.specs.List.{All}
use Rattle.std.specs.List.Sorted.{IsPermutation}
use Rattle.std.proofs.lemmas.Bool.Decides.{nat_tests}
use Rattle.std.proofs.lemmas.List.Elements.{All-head, All-map, All-tail, All-weaker}
use Rattle.event_types.specs.declared.kind.Kind.{Kind}
use Rattle.event_types.specs.Order.{sorted}
use Rattle.event_types.specs.Tuple.{TupleView, IsSound}
use Rattle.semantics.specs.Denotation.{Streams, streams_of}
use Rattle.semantics.specs.Histories.{Event, heard_on}
use Rattle.semantics.specs.Programs.{Program, Query, declared_streams, env}
use Rattle.semantics.specs.Results.{results}
use Rattle.semantics.specs.TypedPrograms.{HaveTheirKinds}
use Rattle.epoch_laws.specs.Batch.{Agree}
use Rattle.epoch_laws.specs.InstanceFlow.{completed_after}
use Rattle.epoch_laws.specs.Standing as standing
use Rattle.epoch_laws.proofs.Lists.{filter_false}
use Rattle.epoch_laws.proofs.Bags.{permuted_is}
use Rattle.epoch_laws.proofs.Standing.{closing_is_results}
use Rattle.epoch_engine.specs.Closes.{Closes}
use Rattle.epoch_engine.specs.EngineStandsFor.{EngineStandsFor}
use Rattle.epoch_engine.specs.EngineView.{EngineView, stores_in}
use Rattle.epoch_engine.specs.Results.{results_of}
use Rattle.splitter.specs.Chains.{outs_of, work_order}
use Rattle.splitter.specs.ProgramLaws.{IsWideProgram}
use Rattle.birth_laws.specs.BornChains.{born_lines}
use Rattle.birth_laws.proofs.BornLemmas.{unborn_chain}
use Rattle.birth_laws.proofs.ProgramLemmas.{program_meant}
use Rattle.catalogue.specs.Catalogued.{program_in}
use Rattle.catalogue.specs.Judgement.{program_of}
use Rattle.cel_types.specs.SourceLaws.{kinds_in}
use Rattle.change_laws.proofs.ResultLemmas.{same_results}
use Rattle.catalogue.proofs.ProgramLemmas.{accepted_are_wide_programs}
use Rattle.session.specs.ClosingGivesResults.{ClosingGivesResults, ClosingGivesResultsOfCatalogue, ClosingGivesResultsOfText}
use Rattle.session.proofs.UnbornLemmas.{queries_unborn}

-- an event of a declared stream is of no other stream
other_stream : (at stream declared : ℕ) → at < declared → nat_lt stream declared ≡ false → (at == stream) ≡ false
other_stream at stream declared within past = grind (arith, nat_tests)

-- over events of the declared streams, the lines of a program give its streams up to order
module _ (kinds : ℕ → List Kind) (program : Program) (wide : IsWideProgram kinds program) (history : List Event) (all : HaveTheirKinds kinds history) (inside : All (λ event. event.stream < program.declared) history) where
  -- nothing is heard on another stream
  heard_none : (stream : ℕ) → nat_lt stream program.declared ≡ false → heard_on history stream ≡ []
  heard_none stream past =
      ap (map (λ (event : Event). event.tuple))
      (filter_false (λ (event : Event). event.stream == stream) history
      (All-weaker (λ (event : Event). event.stream < program.declared) (λ event. (event.stream == stream) ≡ false) (λ event within. other_stream event.stream stream program.declared within past) history inside))

  heard_declared : (stream : ℕ) → heard_on history stream ≡ declared_streams program.declared history stream
  heard_declared stream = by_test (nat_lt stream program.declared) refl
    where
      by_test : (b : Bool) → nat_lt stream program.declared ≡ b → heard_on history stream ≡ cond b (heard_on history stream) []
      by_test true e = refl
      by_test false e = heard_none stream e

  agree : All (λ event. IsSound event.tuple) history → (order : List ℕ) → order ≡ work_order program → All (λ query. Agree (born_lines program) order program history query.stream) program.queries
  agree sound order same =
      subst (λ (s : Streams × List ℕ). All (λ (query : Query). IsPermutation (completed_after (born_lines program) s.1 s.0 query.stream) (env program history query.stream)) program.queries)
      (λ i. (λ stream. sym (heard_declared stream) i, sym same i))
      (All-weaker (λ (query : Query). made query.stream ≡ env program history query.stream) (λ query. IsPermutation (made query.stream) (env program history query.stream)) (λ query. permuted_is) program.queries
      (program_meant kinds program history wide all sound).1)
    where
      made : Streams
      made = completed_after (born_lines program) (work_order program) (declared_streams program.declared history)

  module _ (old new : EngineView) (batch : List (ℕ × List TupleView)) (in_order : old.layout.order ≡ work_order program) (outs : old.layout.outs ≡ outs_of program) (stands : EngineStandsFor old (born_lines program) history) (closes : Closes old new batch) where
    open_stands : standing.PartsStandFor old.network (born_lines program) old.layout.order (stores_in old) (Some closes.time) (streams_of old.opened) old.closed_time history
    open_stands =
        subst (λ (t : Option ℕ). standing.PartsStandFor old.network (born_lines program) old.layout.order (stores_in old) t (streams_of old.opened) old.closed_time history) closes.was_open stands.stands

    each : All (λ query. sorted (closes.taken.news query.stream) ≡ results program history query.stream closes.time) program.queries
    each =
        All-weaker (λ (query : Query). Agree (born_lines program) old.layout.order program history query.stream) (λ query. sorted (closes.taken.news query.stream) ≡ results program history query.stream closes.time)
        (λ query. closing_is_results old.network (born_lines program) old.layout.order (stores_in old) closes.time (streams_of old.opened) closes.taken.news old.closed_time history stands.serves open_stands closes.taken.epoch program query.stream)
        program.queries (agree stands.stands.sound old.layout.order in_order)

    -- what a closing gives is the results of the queries, by their streams
    batch_is_results : batch ≡ results_of (outs_of program) (λ stream. results program history stream closes.time)
    batch_is_results =
        closes.taken.results ∙ ap (λ streams. results_of streams (λ stream. sorted (closes.taken.news stream))) outs
        ∙ same_results (outs_of program) (λ stream. sorted (closes.taken.news stream)) (λ stream. results program history stream closes.time)
        (All-map (λ stream. sorted (closes.taken.news stream) ≡ results program history stream closes.time) (λ (query : Query). query.stream) program.queries each)

-- a closing gives the results of each query of a program
pub closing_gives_results : ClosingGivesResults
closing_gives_results kinds program old new history batch wide in_order outs stands have inside closes = batch_is_results kinds program wide history have inside old new batch in_order outs stands closes

-- of a catalogue
pub closing_gives_results_of_catalogue : ClosingGivesResultsOfCatalogue
closing_gives_results_of_catalogue c old new history batch standing layout stands are closes =
    closing_gives_results (kinds_in c.streams) (program_in c) old new history batch standing.wide layout.order layout.outs stands are.1 are.0 closes

-- and of an accepted text
pub closing_gives_results_of_text : ClosingGivesResultsOfText
closing_gives_results_of_text text judged old new history batch accepts in_order outs stands have inside closes =
    closing_gives_results (kinds_in judged.streams) (program_of judged) old new history batch (accepted_are_wide_programs text judged accepts) in_order outs
    (subst (λ lines. EngineStandsFor old lines history) (sym (unborn_chain judged.published (queries_unborn accepts.publishes))) stands) have inside closes
