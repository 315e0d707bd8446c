-- Queries of which none has a birth, by number.
use Rattle.std.proofs.Common.{◌==◌, ℕ, zero, suc, List, [], ◌∷◌, length, refl, get_or}
use Rattle.std.specs.List.{All, position_or_len, range_with_len}
use Rattle.std.proofs.lemmas.List.Elements.{All-head, All-map, All-tail}
use Rattle.semantics.specs.Expressions.{Read}
use Rattle.semantics.specs.Programs.{IsUnborn, Query}
use Rattle.std.specs.Prelude.{None}
use Rattle.semantics.proofs.ListLemmas.{every}
use Rattle.catalogue.specs.Catalogued.{Catalogued, program_in, query_in, work_in}

-- the query that stands where there is none
abbrev none_such : Query
none_such = record { name = []; stream = 0; hidden = 0; expr = Read 0; birth = None }

-- a query at a place has no birth where none has one
unborn_at : (queries : List Query) (place : ℕ) → All IsUnborn queries → IsUnborn (get_or queries place none_such)
unborn_at [] place all = refl
unborn_at (query ∷ queries) zero all = All-head IsUnborn query queries all
unborn_at (query ∷ queries) (suc place) all = unborn_at queries place (All-tail IsUnborn query queries all)

-- so none of the queries has one by number, where none has one in the order of work
pub unborn_queries : (c : Catalogued) → All IsUnborn (work_in c) → All IsUnborn (program_in c).queries
unborn_queries c all =
    All-map IsUnborn (query_in c) (range_with_len 0 (length c.order))
    (every (λ (number : ℕ). IsUnborn (query_in c number)) (λ number. unborn_at (work_in c) (position_or_len (λ other. number == other) c.order) all) (range_with_len 0 (length c.order)))
