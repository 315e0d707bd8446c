-- Of a query its stream and its expression alone are of account, where no query has a birth.
use Rattle.std.proofs.Common.{◌≡◌, ◌∙◌, sym, ap, refl, subst, ℕ, List, [], ◌∷◌, map}
use Rattle.std.specs.Prelude.{⊤}
use Rattle.std.specs.List.{All}
use Rattle.std.proofs.lemmas.List.Elements.{All-cons, All-head, All-nil, All-tail}
use Rattle.semantics.specs.Births.{streams_after}
use Rattle.semantics.specs.Denotation.{Streams, denote}
use Rattle.semantics.specs.Expressions.{Ex}
use Rattle.semantics.specs.Histories.{Event}
use Rattle.semantics.specs.Programs.{IsUnborn, Program, Query, declared_streams, with_stream}
use Rattle.semantics.proofs.BirthLemmas.{streams_after-none}
use Rattle.algebra.specs.SuitedQueries.{SuitInTurn}
use Rattle.algebra.specs.Suits.{Suits}
use Rattle.derivations.specs.DerivedPrograms.{derived_declared, derived_env, derived_in_turn, with_derived}
use Rattle.derivations.specs.DerivedTuples.{DerivedStreams, derived}
use Rattle.derivations.specs.Queries.{query_of, work_of}
use Rattle.derivations.specs.declared.publishing.Query.{Query as Asked}

-- the streams once so much was published in turn
abbrev worked : ℕ → DerivedStreams → List (ℕ × Ex) → DerivedStreams
worked declared streams [] = streams
worked declared streams (work ∷ rest) = worked declared (with_derived streams work.0 (derived declared work.1 streams)) rest

-- each expression in turn may be evaluated over the streams before it
abbrev SuitWork : Streams → List (ℕ × Ex) → Type 0
SuitWork streams [] = ⊤
SuitWork streams (work ∷ rest) = Suits work.1 work.0 streams × SuitWork (with_stream streams work.0 (denote work.1 streams)) rest

works_in_turn : (declared : ℕ) (streams : DerivedStreams) (order : List Query) → derived_in_turn declared streams order ≡ worked declared streams (map work_of order)
works_in_turn declared streams [] = refl
works_in_turn declared streams (query ∷ order) = works_in_turn declared (with_derived streams query.stream (derived declared query.expr streams)) order

-- queries that publish alike give the same streams
pub in_turn_alike : (declared : ℕ) (streams : DerivedStreams) (some others : List Query) → map work_of some ≡ map work_of others → derived_in_turn declared streams some ≡ derived_in_turn declared streams others
in_turn_alike declared streams some others same = works_in_turn declared streams some ∙ ap (worked declared streams) same ∙ sym (works_in_turn declared streams others)

-- a query without a birth reads its streams whole
uncut : (query : Query) (streams : Streams) → IsUnborn query → streams_after query.birth streams ≡ streams
uncut query streams unborn = ap (λ birth. streams_after birth streams) unborn ∙ streams_after-none streams

works_suit : (streams : Streams) (order : List Query) → All IsUnborn order → SuitInTurn streams order → SuitWork streams (map work_of order)
works_suit streams [] unborn suits = suits
works_suit streams (query ∷ order) unborn suits =
    let one = subst (λ (cut : Streams). Suits query.expr query.stream cut × SuitInTurn (with_stream streams query.stream (denote query.expr cut)) order) (uncut query streams (All-head IsUnborn query order unborn)) suits in
    (one.0, works_suit (with_stream streams query.stream (denote query.expr streams)) order (All-tail IsUnborn query order unborn) one.1)

suit_works : (streams : Streams) (order : List Query) → All IsUnborn order → SuitWork streams (map work_of order) → SuitInTurn streams order
suit_works streams [] unborn suits = suits
suit_works streams (query ∷ order) unborn suits =
    subst (λ (cut : Streams). Suits query.expr query.stream cut × SuitInTurn (with_stream streams query.stream (denote query.expr cut)) order) (sym (uncut query streams (All-head IsUnborn query order unborn)))
    (suits.0, suit_works (with_stream streams query.stream (denote query.expr streams)) order (All-tail IsUnborn query order unborn) suits.1)

-- and suit alike
pub suit_alike : (streams : Streams) (some others : List Query) → All IsUnborn some → All IsUnborn others → map work_of some ≡ map work_of others → SuitInTurn streams others → SuitInTurn streams some
suit_alike streams some others unborn others_unborn same suits = suit_works streams some unborn (subst (SuitWork streams) (sym same) (works_suit streams others others_unborn suits))

-- no query that is derived has a birth
pub asked_unborn : (asked : List Asked) → All IsUnborn (map query_of asked)
asked_unborn [] = All-nil IsUnborn
asked_unborn (query ∷ asked) = All-cons IsUnborn (query_of query) (map query_of asked) refl (asked_unborn asked)

module _ (program : Program) (history : List Event) (asked : List Asked) (same : map work_of (map query_of asked) ≡ map work_of program.order) where
  -- the queries of a program, derived in turn, give its streams
  pub asked_env : derived_in_turn program.declared (derived_declared program.declared history) (map query_of asked) ≡ derived_env program history
  asked_env = in_turn_alike program.declared (derived_declared program.declared history) (map query_of asked) program.order same

  -- where they may be worked out they may be derived
  pub asked_suit : All IsUnborn program.order → SuitInTurn (declared_streams program.declared history) program.order → SuitInTurn (declared_streams program.declared history) (map query_of asked)
  asked_suit unborn suits = suit_alike (declared_streams program.declared history) (map query_of asked) program.order (asked_unborn asked) unborn same suits
