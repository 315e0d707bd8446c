use Rattle.std.proofs.Common.{◌≡◌, ◌∙◌, ◌<◌, arith, length, map, subst, sym, ℕ, List}
use Rattle.std.specs.Prelude.{IfOk}
use Rattle.std.specs.List.{All}
use Rattle.semantics.specs.Programs.{declared_streams}
use Rattle.algebra.specs.SuitedQueries.{SuitInTurn}
use Rattle.catalogue.specs.Catalogued.{program_in}
use Rattle.derivations.specs.DerivedPrograms.{derived_declared, derived_env, derived_in_turn}
use Rattle.derivations.specs.DerivedTuples.{DerivedStreams, DerivedTuple}
use Rattle.derivations.specs.HeardLines.{events_of}
use Rattle.derivations.specs.Queries.{query_of}
use Rattle.derivations.specs.Tables.{streams_of}
use Rattle.derivations.specs.declared.publishing.Query.{Query}
use Rattle.derivations.proofs.WorkLemmas.{asked_env}
use Rattle.lineage.proofs.AskedLemmas.{declared_within}
use Rattle.lineage.proofs.ListedLemmas.{queries_suit}
use Rattle.lineage.proofs.tables.work_out.Goals as goal

-- there are kinds for each stream of the catalogue, so for each declared one
pub derive_streams-requires-clause-declared : goal.derive_streams-requires-clause-declared
derive_streams-requires-clause-declared g c =
    let within = declared_within c.args.catalogue.now c.declared-declared.ensures.stands in
    let many = c.layout.ensures.laid.long in
    let same = c.layout.ensures.value in omega (arith, within, many, same, c.declared-declared.ensures.value, c.len.ensures)

-- and for each that a query publishes
pub derive_streams-requires-clause-within : goal.derive_streams-requires-clause-within
derive_streams-requires-clause-within g c =
    let many : length c.args.catalogue.now.streams ≡ c.len.result = sym c.layout.ensures.laid.long ∙ sym c.len.ensures in
    let all = c.in_ok-queries.ensures.within in
    subst (λ (queries : List Query). All (λ query. query.stream < c.len.result) queries) (sym c.as_slice.ensures) (subst (λ (n : ℕ). All (λ (query : Query). query.stream < n) c.in_ok-queries.queries) many all)

-- the queries may be derived in turn
pub derive_streams-requires-clause-suited : goal.derive_streams-requires-clause-suited
derive_streams-requires-clause-suited g c =
    let history = events_of c.args.history.now in
    let suits = queries_suit c.args.catalogue.now c.declared-declared.ensures.stands history c.requires.unborn c.requires.kinds c.in_ok-queries.queries c.in_ok-queries.ensures.work in
    subst (λ (queries : List Query). SuitInTurn (declared_streams c.declared-declared.result history) (map query_of queries)) (sym c.as_slice.ensures)
    (subst (λ (n : ℕ). SuitInTurn (declared_streams n history) (map query_of c.in_ok-queries.queries)) (sym c.declared-declared.ensures.value) suits)

-- so they give the streams of the program
pub returns-clause-streams : goal.returns-clause-streams
returns-clause-streams g c =
    let history = events_of c.args.history.now in
    let is : derived_in_turn c.declared-declared.result (derived_declared c.declared-declared.result history) (map query_of c.as_slice.result.now) ≡ derived_env (program_in c.args.catalogue.now) history =
    (λ i. derived_in_turn (c.declared-declared.ensures.value i) (derived_declared (c.declared-declared.ensures.value i) history) (map query_of (c.as_slice.ensures i)))
    ∙ asked_env (program_in c.args.catalogue.now) history c.in_ok-queries.queries c.in_ok-queries.ensures.work in
    subst (λ (streams : DerivedStreams). IfOk c.derive_streams.result (λ table. streams_of table ≡ streams)) is c.derive_streams.ensures.streams

pub returns-clause-count : goal.returns-clause-count
returns-clause-count g c =
    let many : c.len.result ≡ length c.args.catalogue.now.streams = c.len.ensures ∙ c.layout.ensures.laid.long in
    subst (λ (n : ℕ). IfOk c.derive_streams.result (λ (table : List (List DerivedTuple)). length table ≡ n)) many c.derive_streams.ensures.count
