-- The results of queries can be told: their queries are there, and so are the lines of their events.
use Rattle.std.proofs.Common.{◌≡◌, ◌∙◌, sym, ap, subst, refl, ℕ, ◌+◌, ◌<◌, ◌≤◌, ◌-◌, List, [], ◌∷◌, ◌++◌, map, length, arith}
use Rattle.std.specs.Prelude.{Contains}
use Rattle.std.specs.List.{All, AllZip}
use Rattle.std.proofs.lemmas.List.{length-map}
use Rattle.std.proofs.lemmas.List.Elements.{All-append, All-cons, All-head, All-nil, All-tail}
use Rattle.std.proofs.lemmas.Option.{slice_get_within}
use Rattle.event_types.specs.Tuple.{TupleView}
use Rattle.semantics.specs.Expressions.{Ex}
use Rattle.semantics.specs.Histories.{Event}
use Rattle.semantics.specs.Programs.{Program, Query}
use Rattle.semantics.specs.Scalars.{Pr, Projection}
use Rattle.derivations.specs.Derivation.{Derivation, Derivations}
use Rattle.derivations.specs.DerivedTuples.{DerivedTuple}
use Rattle.derivations.specs.Derives.{Derives, IsEventAt, Iterates}
use Rattle.derivations.specs.Derives as row
use Rattle.derivations.specs.HeardLines.{event_of, events_of}
use Rattle.derivations.specs.Texts.{HasPlaces, HavePlaces}
use Rattle.derivations.specs.declared.history.Heard.{Heard}
use Rattle.lineage.specs.Listed.{AreDerivations, IsListed}
use Rattle.explanation.specs.Explained.{result_of, results_from}
use Rattle.explanation.specs.Telling.{CanBeTold}
use Rattle.explanation.specs.declared.results.Explained.{Explained}

module _ (program : Program) (lines : List Heard) where
  abbrev history : List Event
  history = events_of lines

  -- the event at a place has a line
  place_within : (stream place : ℕ) (tuple : TupleView) → IsEventAt program history stream place tuple → (1 ≤ place) × (place ≤ length lines)
  place_within stream place tuple at =
      let within = slice_get_within history at.index (record { stream = stream; tuple = tuple }) at.heard in
      let same = length-map lines event_of in
      let counted = at.counted in
      (omega (arith, counted), omega (arith, within, same, counted))

  mutual
    -- a derivation names lines that are there: by induction on how it derives its tuple
    pub derived_have_places : {e : Ex} {by : Derivation} {tuple : TupleView} → Derives program history e by tuple → HasPlaces lines by
    derived_have_places (row.event {stream} {place} {tuple} at) = place_within stream place tuple at
    derived_have_places (row.query {stream} {e} {by} {tuple} is d) = derived_have_places d
    derived_have_places (row.filter {p} {e} {by} {tuple} d passes) = derived_have_places d
    derived_have_places (row.select {m} {e} {by} {source} {tuple} d is) = derived_have_places d
    derived_have_places (row.left {e} {f} {by} {tuple} d) = derived_have_places d
    derived_have_places (row.right {e} {f} {by} {tuple} d) = derived_have_places d
    derived_have_places (row.next {p} {e} {f} {by} {next_by} {binding} {event} {tuple} d n next is) = (derived_have_places d, derived_have_places n)
    derived_have_places (row.fold {p} {q} {m} {e} {f} {by} {all_by} {binding} {tuple} d runs) = (derived_have_places d, iterations_have_places runs)

    iterations_have_places : {p q : List Pr} {m : Projection} {f : Ex} {binding : TupleView} {all_by : Derivations} {tuple : TupleView} → Iterates program history p q m f binding all_by tuple → HavePlaces lines all_by
    iterations_have_places (row.last {p} {q} {m} {f} {by} {binding} {event} {tuple} d goes is) = (derived_have_places d, tt)
    iterations_have_places (row.more {p} {q} {m} {f} {by} {later} {binding} {event} {tuple} d goes rest) = (derived_have_places d, iterations_have_places rest)

  -- the results of one query
  can_be_told_of : (query : ℕ) (e : Ex) (found : List DerivedTuple) → query < length program.queries → All (λ x. Derives program history e x.by x.tuple) found
      → All (CanBeTold program lines) (map (result_of query) found)
  can_be_told_of query e [] small all = All-nil (CanBeTold program lines)
  can_be_told_of query e (x ∷ found) small all =
      All-cons (CanBeTold program lines) (result_of query x) (map (result_of query) found)
      (record { query = small; places = derived_have_places (All-head (λ (y : DerivedTuple). Derives program history e y.by y.tuple) x found all) })
      (can_be_told_of query e found small (All-tail (λ (y : DerivedTuple). Derives program history e y.by y.tuple) x found all))

  -- and those of all: by induction on the queries
  pub can_be_told : (query : ℕ) (queries : List Query) (table : List (List DerivedTuple)) → query + length queries ≡ length program.queries → AllZip (IsListed program history) queries table
      → All (CanBeTold program lines) (results_from query table)
  can_be_told query [] [] same listed = All-nil (CanBeTold program lines)
  can_be_told query [] (found ∷ table) same listed = absurd listed
  can_be_told query (q ∷ queries) [] same listed = absurd listed
  can_be_told query (q ∷ queries) (found ∷ table) same listed =
      All-append (CanBeTold program lines) (map (result_of query) found) (results_from (query + 1) table) (can_be_told_of query q.expr found (omega (arith, same)) listed.0.derives)
      (can_be_told (query + 1) queries table (omega (arith, same)) listed.1)
