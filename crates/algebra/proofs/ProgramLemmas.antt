-- The queries of a typed program may be evaluated in turn.
use Rattle.std.proofs.Common.{ℕ, List, [], ◌∷◌, ◌++◌}
use Rattle.event_types.specs.declared.kind.Kind.{Kind}
use Rattle.semantics.specs.Births.{streams_after}
use Rattle.semantics.specs.Denotation.{Streams, denote}
use Rattle.semantics.specs.Programs.{Query, with_stream}
use Rattle.semantics.specs.TypedPrograms.{PublishInTurn}
use Rattle.expressions.proofs.ProgramLemmas.{AllHaveKinds, after_kinds, with_kinds}
use Rattle.expressions.proofs.TypingLemmas.{typed_kinds}
use Rattle.algebra.specs.SuitedQueries.{SuitInTurn}
use Rattle.algebra.proofs.TypingLemmas.{typed_suits}

-- queries that are typed in turn suit in turn: by induction on the queries
pub suit_in_turn : (kinds : ℕ → List Kind) (there : List ℕ) (streams : Streams) (order : List Query) → AllHaveKinds kinds streams → PublishInTurn kinds there order → SuitInTurn streams order
suit_in_turn kinds there streams [] all h = tt
suit_in_turn kinds there streams (query ∷ order) all h =
    let own = kinds query.stream in
    let cut = streams_after query.birth streams in
    let cut_all = after_kinds kinds streams query.birth all in
    let tuples = denote query.expr cut in
    let one = typed_kinds query.expr query.stream kinds own cut (λ s lt. cut_all s) h.2 in (
      typed_suits query.expr query.stream kinds own cut (λ s lt. cut_all s) h.2,
      suit_in_turn kinds (there ++ query.stream ∷ []) (with_stream streams query.stream tuples) order (with_kinds kinds streams query.stream tuples all one) h.3,
    )
