-- The results of queries as they are explained: each with the event lines behind it.
use Rattle.std.specs.Prelude.{◌≡◌, ℕ, ◌+◌, List, [], ◌∷◌, ◌++◌, codes, map, slice_get}
use Rattle.std.specs.List.{flat_map}
use Rattle.std.specs.Option.{option_map_or}
use Rattle.std.specs.Ordering.{nat_cmp, on, then_cmp}
use Rattle.std.specs.declared.cmp.Ordering.{Ordering}
use Rattle.event_types.specs.Order.{sort_by}
use Rattle.semantics.specs.Programs.{Program, Query}
use Rattle.semantics.specs.Report.{line}
use Rattle.derivations.specs.DerivationOrder.{derived_cmp}
use Rattle.derivations.specs.DerivedTuples.{DerivedTuple}
use Rattle.derivations.specs.HeardLines.{events_of}
use Rattle.derivations.specs.Texts.{by_text}
use Rattle.derivations.specs.declared.history.Heard.{Heard}
use Rattle.lineage.specs.Listed.{AreDerivations}
use Rattle.explanation.specs.declared.results.Explained.{Explained}

-- the order of results: by detection, then by their queries as these stand in the file, then by the tuple, then by the derivation
abbrev pub explained_cmp : Explained → Explained → Ordering
explained_cmp = then_cmp (then_cmp (on (λ x. x.derived.tuple.at) nat_cmp) (on (λ x. x.query) nat_cmp)) (on (λ x. x.derived) derived_cmp)

-- a result of the query with this number
abbrev pub result_of : ℕ → DerivedTuple → Explained
result_of query x = record { query = query; derived = x }

-- the results of queries that have numbers from this one on
abbrev pub results_from : ℕ → List (List DerivedTuple) → List Explained
results_from query [] = []
results_from query (found ∷ table) = map (result_of query) found ++ results_from (query + 1) table

-- all results in order
abbrev pub results_in_order : List (List DerivedTuple) → List Explained
results_in_order table = sort_by explained_cmp (results_from 0 table)

-- the name of the query with this number
abbrev pub name_of_query : List Query → ℕ → List ℕ
name_of_query queries query = option_map_or (λ q. q.name) (slice_get queries query) []

-- a result: the result line, then two spaces and the text of its derivation on a line of its own
abbrev pub explained_text : Program → List Heard → Explained → List ℕ
explained_text program lines x = line (name_of_query program.queries x.query) x.derived.tuple ++ (codes "  " ++ (by_text lines x.derived.by ++ 10 ∷ []))

-- the text of all results
abbrev pub explanation_by : Program → List Heard → List (List DerivedTuple) → List ℕ
explanation_by program lines table = flat_map (explained_text program lines) (results_in_order table)

-- the text explains the results of a program over these lines: each tuple of a query is there with each derivation that it has, once
pub record IsExplanation (program : Program) (lines : List Heard) (text : List ℕ) : Type 0 where
  pub table : List (List DerivedTuple)
  pub listed : AreDerivations program (events_of lines) table
  pub value : text ≡ explanation_by program lines table
