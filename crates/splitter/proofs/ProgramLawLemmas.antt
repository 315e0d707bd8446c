-- The laws over the lines of programs.
use Rattle.std.proofs.Common.{◌≡◌, ◌∙◌, sym, ap, refl, subst, ℕ, ◌<◌, List, ◌++◌, map}
use Rattle.std.specs.Prelude.{Contains}
use Rattle.std.specs.List.{All, range_with_len}
use Rattle.std.specs.List.Sorted.{IsPermutation}
use Rattle.std.proofs.lemmas.List.{get_or-map, length-map}
use Rattle.std.proofs.lemmas.List.Elements.{All-contains_itself, All-weaker, Contains-append_left, Contains-append_right}
use Rattle.std.proofs.lemmas.List.Sorted.{All-permutation, IsPermutation-refl, IsPermutation-sym}
use Rattle.event_types.specs.declared.kind.Kind.{Kind}
use Rattle.semantics.proofs.StatementLemmas.{declared_there}
use Rattle.semantics.specs.Denotation.{Streams}
use Rattle.semantics.specs.Histories.{Event}
use Rattle.semantics.specs.Programs.{IsUnborn, Program, Query, declared_streams, env}
use Rattle.semantics.specs.TypedPrograms.{HaveTheirKinds, IsProgram}
use Rattle.expressions.proofs.ProgramLemmas.{declared_kinds}
use Rattle.automaton.specs.Work.{IsInOrder, completed}
use Rattle.splitter.specs.Chains.{HideApart, lines_of, work_order}
use Rattle.splitter.specs.ProgramLaws.{IsWideProgram}
use Rattle.splitter.proofs.ChainLemmas.{chain_means, chain_ordered}

-- the lines of a program whose queries hide streams apart are in order
pub ordered : (kinds : ℕ → List Kind) (program : Program) → IsProgram kinds program → HideApart program.order → IsInOrder (lines_of program) (work_order program)
ordered kinds program typed apart = chain_ordered kinds (range_with_len 0 program.declared) program.order typed.in_turn apart

-- the stream of a query is one of theirs
pub stream_among : (order : List Query) (query : Query) → Contains order query → Contains (map (λ q. q.stream) order) query.stream
stream_among order query has =
    let stream_of : Query → ℕ = λ q. q.stream in
    (has.0, subst (λ n. has.0 < n) (sym (length-map order stream_of)) has.1, get_or-map stream_of order has.0 query query.stream has.1 ∙ ap stream_of has.2)

module _ (kinds : ℕ → List Kind) (program : Program) (history : List Event) (is : IsWideProgram kinds program) (unborn : All IsUnborn program.order) (all : HaveTheirKinds kinds history) where
  abbrev made : Streams
  made = completed (lines_of program) (work_order program) (declared_streams program.declared history)

  abbrev numbers : List ℕ
  numbers = range_with_len 0 program.declared

  abbrev IsMade : Query → Type 0
  IsMade query = made query.stream ≡ env program history query.stream

  each_meant : (stream : ℕ) → Contains (numbers ++ map (λ q. q.stream) program.order) stream → made stream ≡ env program history stream
  each_meant =
      let streams = declared_streams program.declared history in
      chain_means kinds numbers program.order streams streams is.typed.in_turn is.apart unborn is.wide (declared_kinds kinds program.declared history all) (λ s has. refl)

  -- each query's stream is what its expression denotes, and the declared ones are as they were heard
  pub meant : ((stream : ℕ) → stream < program.declared → made stream ≡ env program history stream) × All IsMade program.queries
  meant = (
    λ stream less. each_meant stream (Contains-append_left numbers (map (λ (q : Query). q.stream) program.order) stream (declared_there program.declared stream less)),
    All-permutation IsMade program.order program.queries (IsPermutation-sym program.queries program.order is.typed.same_queries)
        (All-weaker (Contains program.order) IsMade (λ query has. each_meant query.stream (Contains-append_right numbers (map (λ (q : Query). q.stream) program.order) query.stream (stream_among program.order query has))) program.order
        (All-contains_itself program.order)),
  )

  -- so the lines give exactly the streams of the program
  pub derived_so : All (λ query. IsPermutation (made query.stream) (env program history query.stream)) program.queries
  derived_so =
      All-weaker IsMade (λ query. IsPermutation (made query.stream) (env program history query.stream)) (λ query same. subst (IsPermutation (made query.stream)) same (IsPermutation-refl (made query.stream))) program.queries meant.1
