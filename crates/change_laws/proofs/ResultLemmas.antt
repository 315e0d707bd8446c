-- What a closing gives is what the queries denote.
use Rattle.std.proofs.Common.{◌≡◌, ◌∙◌, ap, refl, subst, ℕ, ◌<◌, ◌==◌, Bool, true, false, cond, nat_lt, List, [], ◌∷◌, ◌++◌, map, arith}
use Rattle.std.specs.Prelude.{Option, Some}
use Rattle.std.specs.List.{All}
use Rattle.std.proofs.lemmas.Bool.Decides.{nat_tests}
use Rattle.std.proofs.lemmas.List.Elements.{All-head, All-map, All-tail, All-weaker}
use Rattle.automaton.specs.declared.layout.Layout.{Layout}
use Rattle.birth_laws.specs.BornChains.{born_lines}
use Rattle.birth_laws.proofs.ProgramLemmas.{program_meant}
use Rattle.catalogue.specs.Catalogued.{program_in}
use Rattle.cel_types.specs.SourceLaws.{kinds_in}
use Rattle.epoch_engine.specs.Closes.{Closes}
use Rattle.epoch_engine.specs.EngineView.{EngineView, stores_in}
use Rattle.epoch_engine.specs.Results.{result_of, results_of}
use Rattle.epoch_laws.specs.Batch.{Agree}
use Rattle.epoch_laws.specs.InstanceFlow.{completed_after}
use Rattle.epoch_laws.specs.Standing.{PartsStandFor}
use Rattle.epoch_laws.proofs.Bags.{permuted_is}
use Rattle.epoch_laws.proofs.Standing.{closing_is_results}
use Rattle.event_types.specs.Order.{sorted}
use Rattle.event_types.specs.Tuple.{TupleView}
use Rattle.semantics.specs.Denotation.{Streams, streams_of}
use Rattle.semantics.specs.Histories.{Event, heard_on}
use Rattle.semantics.specs.Programs.{Program, Query, declared_streams, env}
use Rattle.semantics.specs.Results.{results}
use Rattle.semantics.proofs.ReportLemmas.{filter_none}
use Rattle.splitter.specs.Chains.{outs_of, work_order}
use Rattle.change_laws.specs.Courses.{Monitor, StandsForProgram}
use Rattle.change_laws.specs.Laws.{ClosingsGiveResults}

-- an event of a declared stream is of no other stream
other_stream : (at stream declared : ℕ) → at < declared → nat_lt stream declared ≡ false → (at == stream) ≡ false
other_stream at stream declared within past = grind (arith, nat_tests)

-- streams that have the same tuples have the same results, by induction on these
pub same_results : (outs : List ℕ) (f g : Streams) → All (λ stream. f stream ≡ g stream) outs → results_of outs f ≡ results_of outs g
same_results [] f g all = refl
same_results (stream ∷ outs) f g all =
    let first : f stream ≡ g stream = All-head (λ s. f s ≡ g s) stream outs all in
    let rest = same_results outs f g (All-tail (λ s. f s ≡ g s) stream outs all) in
    λ i. result_of stream (first i) ++ rest i

module _ (monitor : Monitor) (stands : StandsForProgram monitor) where
  abbrev program : Program
  program = program_in monitor.catalogue

  abbrev history : List Event
  history = monitor.events

  abbrev engine : EngineView
  engine = monitor.engine

  -- what is heard is heard on declared streams
  heard_declared : heard_on history ≡ declared_streams program.declared history
  heard_declared i stream = by_test (nat_lt stream program.declared) refl i
    where
      by_test : (b : Bool) → nat_lt stream program.declared ≡ b → heard_on history stream ≡ cond b (heard_on history stream) []
      by_test true e = refl
      by_test false e =
          ap (map (λ (event : Event). event.tuple))
          (filter_none (λ (event : Event). event.stream == stream) history
          (All-weaker (λ (event : Event). event.stream < program.declared) (λ event. (event.stream == stream) ≡ false) (λ event within. other_stream event.stream stream program.declared within e) history stands.events.declared))

  same_order : engine.layout.order ≡ work_order program
  same_order = ap (λ (layout : Layout). layout.order) stands.at_one.layout ∙ stands.in_order.laid.order

  -- so the lines give each query's stream what it denotes
  agree : All (λ query. Agree (born_lines program) engine.layout.order program history query.stream) program.queries
  agree =
      All-weaker (λ (query : Query). completed_after (born_lines program) (work_order program) (declared_streams program.declared history) query.stream ≡ env program history query.stream)
      (λ query. Agree (born_lines program) engine.layout.order program history query.stream)
      (λ query is. permuted_is ((λ i. completed_after (born_lines program) (same_order i) (heard_declared i) query.stream) ∙ is)) program.queries
      (program_meant (kinds_in monitor.catalogue.streams) program history stands.in_order.wide stands.events.kinds stands.engine.stands.sound).1

  module _ (after : EngineView) (batch : List (ℕ × List TupleView)) (closes : Closes engine after batch) where
    open_stands : PartsStandFor engine.network (born_lines program) engine.layout.order (stores_in engine) (Some closes.time) (streams_of engine.opened) engine.closed_time history
    open_stands =
        subst (λ (t : Option ℕ). PartsStandFor engine.network (born_lines program) engine.layout.order (stores_in engine) t (streams_of engine.opened) engine.closed_time history) closes.was_open stands.engine.stands

    each : All (λ query. sorted (closes.taken.news query.stream) ≡ results program history query.stream closes.time) program.queries
    each =
        All-weaker (λ (query : Query). Agree (born_lines program) engine.layout.order program history query.stream) (λ query. sorted (closes.taken.news query.stream) ≡ results program history query.stream closes.time)
        (λ query. closing_is_results engine.network (born_lines program) engine.layout.order (stores_in engine) closes.time (streams_of engine.opened) closes.taken.news engine.closed_time history stands.engine.serves open_stands
        closes.taken.epoch program query.stream) program.queries agree

    gives : batch ≡ results_of (outs_of program) (λ stream. results program history stream closes.time)
    gives =
        closes.taken.results ∙ ap (λ outs. results_of outs (λ stream. sorted (closes.taken.news stream))) (ap (λ (layout : Layout). layout.outs) stands.at_one.layout ∙ stands.in_order.laid.outs)
        ∙ same_results (outs_of program) (λ stream. sorted (closes.taken.news stream)) (λ stream. results program history stream closes.time)
        (All-map (λ stream. sorted (closes.taken.news stream) ≡ results program history stream closes.time) (λ (query : Query). query.stream) program.queries each)

-- each closing gives the results of the queries
pub closings_give_results : ClosingsGiveResults
closings_give_results monitor after batch stands closes = gives monitor stands after batch closes
