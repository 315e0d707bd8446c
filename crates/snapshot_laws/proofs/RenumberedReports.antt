-- Programs whose streams have other numbers report the same.
use Rattle.std.proofs.Common.{◌≡◌, ◌∙◌, sym, ap, refl, ℕ, false, cond, eqb, ltb, List, [], ◌∷◌, ◌++◌, map, inl, inr}
use Rattle.std.specs.List.{filter, flat_map}
use Rattle.std.proofs.lemmas.Bool.{cases_lt, le-ltb}
use Rattle.std.proofs.lemmas.List.Concat.{flat_map-cons}
use Rattle.event_types.specs.Order.{sorted}
use Rattle.event_types.specs.Tuple.{TupleView}
use Rattle.semantics.specs.Births.{after, streams_after}
use Rattle.semantics.specs.Denotation.{Streams, denote, matches, selected}
use Rattle.semantics.specs.Expressions.{Ex, Read, Filter, Select, Union, Next, Fold}
use Rattle.semantics.specs.Histories.{Event, heard_on, times, upto}
use Rattle.semantics.specs.Programs.{Program, Query, declared_streams, env, published, with_stream}
use Rattle.semantics.specs.Report.{line, lines_at}
use Rattle.semantics.specs.Results.{results}
use Rattle.semantics.specs.Runs.{runs}
use Rattle.semantics.specs.Truth.{all_true}
use Rattle.std.specs.Prelude.{None}
use Rattle.snapshot_laws.specs.RenumberedPrograms.{KeepsDeclared, RenumberedProgramsReportAlike, renumbered_expr, renumbered_program, renumbered_query}
use Rattle.snapshot_laws.proofs.Renumbered.{apart, same_test}

module _ (number : ℕ → ℕ) (streams others : Streams) (same : (stream : ℕ) → others (number stream) ≡ streams stream) where
  -- an expression denotes the same
  denote_same : (e : Ex) → denote (renumbered_expr number e) others ≡ denote e streams
  denote_same (Read stream) = same stream
  denote_same (Filter p e) = ap (filter (λ tuple. all_true p tuple None)) (denote_same e)
  denote_same (Select m e) = ap (map (selected m.parts)) (denote_same e)
  denote_same (Union e f) = λ i. denote_same e i ++ denote_same f i
  denote_same (Next p e f) = λ i. flat_map (matches p (denote_same f i)) (denote_same e i)
  denote_same (Fold p q m e f) = λ i. flat_map (runs p q m.parts (denote_same f i)) (denote_same e i)

-- each query publishes the same
published_same : (number hidden : ℕ → ℕ) → ((stream other : ℕ) → number stream ≡ number other → stream ≡ other) → (order : List Query) (streams others : Streams) → ((stream : ℕ) → others (number stream) ≡ streams stream)
    → (stream : ℕ) → published others (map (renumbered_query number hidden) order) (number stream) ≡ published streams order stream
published_same number hidden distinct [] streams others same stream = same stream
published_same number hidden distinct (query ∷ order) streams others same stream =
    let cut : (s : ℕ) → streams_after query.birth others (number s) ≡ streams_after query.birth streams s = λ s. ap (after query.birth) (same s) in
    let denotes : denote (renumbered_expr number query.expr) (streams_after query.birth others) ≡ denote query.expr (streams_after query.birth streams) = denote_same number (streams_after query.birth streams) (streams_after query.birth others) cut query.expr in
    published_same number hidden distinct order (with_stream streams query.stream (denote query.expr (streams_after query.birth streams))) (with_stream others (number query.stream) (denote (renumbered_expr number query.expr) (streams_after query.birth others)))
    (λ other. λ i. cond (same_test number distinct other query.stream i) (denotes i) (same other i)) stream

-- on declared streams the same is heard, and nothing on the others
declared_same : (number back : ℕ → ℕ) (declared : ℕ) → KeepsDeclared number back declared → (history : List Event) (stream : ℕ) → declared_streams declared history (number stream) ≡ declared_streams declared history stream
declared_same number back declared keeps history stream =
    elim (cases_lt stream declared) [
      | inl lt ↦ ap (declared_streams declared history) (keeps.keeps stream lt)
      | inr le ↦
          let one : ltb (number stream) declared ≡ false = le-ltb _ _ (keeps.others stream le) in
          let two : ltb stream declared ≡ false = le-ltb _ _ le in
          (λ i. cond (one i) (heard_on history (number stream)) []) ∙ sym (λ i. cond (two i) (heard_on history stream) [])
    ]

module _ (number back hidden : ℕ → ℕ) (program : Program) (keeps : KeepsDeclared number back program.declared) where
  -- each stream is the same
  env_same : (history : List Event) (stream : ℕ) → env (renumbered_program number hidden program) history (number stream) ≡ env program history stream
  env_same history stream = published_same number hidden (apart number back keeps.returns) program.order (declared_streams program.declared history) (declared_streams program.declared history) (declared_same number back program.declared keeps history) stream

  -- and so are its results
  results_same : (history : List Event) (stream time : ℕ) → results (renumbered_program number hidden program) history (number stream) time ≡ results program history stream time
  results_same history stream time = ap (λ (tuples : List TupleView). sorted (filter (λ tuple. eqb tuple.at time) tuples)) (env_same (upto time history) stream)

  -- and the lines of queries
  lines_same : (history : List Event) (time : ℕ) (queries : List Query) → flat_map (lines_at (renumbered_program number hidden program) history time) (map (renumbered_query number hidden) queries) ≡ flat_map (lines_at program history time) queries
  lines_same history time [] = refl
  lines_same history time (query ∷ queries) =
      let own : lines_at (renumbered_program number hidden program) history time (renumbered_query number hidden query) ≡ lines_at program history time query = ap (flat_map (line query.name)) (results_same history query.stream time) in
      flat_map-cons (lines_at (renumbered_program number hidden program) history time) (renumbered_query number hidden query) (map (renumbered_query number hidden) queries)
      ∙ (λ i. own i ++ lines_same history time queries i)
      ∙ sym (flat_map-cons (lines_at program history time) query queries)

-- renumbered programs report the same
pub renumbered_programs_report_alike : RenumberedProgramsReportAlike
renumbered_programs_report_alike = record {
  results_are = λ number back hidden program keeps history stream time. results_same number back hidden program keeps history stream time;
  epochs_are = λ number back hidden program keeps history time. lines_same number back hidden program keeps history time program.queries;
  reports_are = λ number back hidden program keeps history. λ i. flat_map (λ time. lines_same number back hidden program keeps history time program.queries i) (times history);
}
