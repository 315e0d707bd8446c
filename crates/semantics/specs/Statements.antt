-- Streams that have the same statements in two programs.
use Rattle.std.specs.Prelude.{◌≡◌, ℕ, ◌<◌, Bool, false, IsTrue, List, [], Option}
use Rattle.std.specs.List.{All, Contains}
use Rattle.event_types.specs.declared.kind.Kind.{Kind}
use Rattle.semantics.specs.Births.{is_after, streams_after}
use Rattle.semantics.specs.Denotation.{denote}
use Rattle.semantics.specs.Expressions.{Ex}
use Rattle.semantics.specs.Histories.{Event, heard_on}
use Rattle.semantics.specs.Programs.{Program, Query, env}
use Rattle.semantics.specs.Reading.{ReadsOnly, renumbered}
use Rattle.semantics.specs.Results.{results}
use Rattle.semantics.specs.TypedPrograms.{IsProgram}

-- a query of the program publishes this stream by this expression, with this birth
abbrev pub Publishes : Program → ℕ → Ex → Option ℕ → Type 0
Publishes program stream expr birth = (query : Query) × Contains program.queries query × (query.stream ≡ stream) × (query.expr ≡ expr) × (query.birth ≡ birth)

-- some streams of a program, with all that their queries read, are declared or published in the other program too, by the same statements up to the numbers of the streams, with the same births
pub record HaveSameStatements (is_shared : ℕ → Bool) (number : ℕ → ℕ) (program other : Program) : Type 0 where
  pub declared : (stream : ℕ) → IsTrue (is_shared stream) → stream < program.declared → number stream < other.declared
  pub published : All (λ query. IsTrue (is_shared query.stream) → ReadsOnly (λ stream. IsTrue (is_shared stream)) query.expr × Publishes other (number query.stream) (renumbered number query.expr) query.birth) program.queries

-- over these histories the shared declared streams have the same tuples
abbrev pub HearTheSame : (ℕ → Bool) → (ℕ → ℕ) → ℕ → List Event → List Event → Type 0
HearTheSame is_shared number declared history others = (stream : ℕ) → IsTrue (is_shared stream) → stream < declared → heard_on history stream ≡ heard_on others (number stream)

-- a declared stream has what was heard on it, and a published one what its query's expression denotes over the streams of the program after the query's birth (CIDR 2007, resubscription)
abbrev pub StreamsAreDenoted : Type 0
StreamsAreDenoted =
    (kinds : ℕ → List Kind) (program : Program) (history : List Event) → IsProgram kinds program
    → ((stream : ℕ) → stream < program.declared → env program history stream ≡ heard_on history stream)
    × All (λ query. env program history query.stream ≡ denote query.expr (streams_after query.birth (env program history))) program.queries

-- a query has no results at a time that isn't after its birth
abbrev pub NoResultsBeforeBirth : Type 0
NoResultsBeforeBirth =
    (kinds : ℕ → List Kind) (program : Program) (history : List Event) → IsProgram kinds program
    → All (λ query. (time : ℕ) → is_after query.birth time ≡ false → results program history query.stream time ≡ []) program.queries

-- a query whose stream has the same statement and birth in two programs, with all that it reads, directly or through published streams, has the same results in both
abbrev pub SameStatementsGiveSameResults : Type 0
SameStatementsGiveSameResults =
    (is_shared : ℕ → Bool) (number : ℕ → ℕ) (kinds other_kinds : ℕ → List Kind) (program other : Program) (history others : List Event)
    → IsProgram kinds program → IsProgram other_kinds other → HaveSameStatements is_shared number program other → HearTheSame is_shared number program.declared history others
    → All (λ query. IsTrue (is_shared query.stream) → (time : ℕ) → results program history query.stream time ≡ results other others (number query.stream) time) program.queries
