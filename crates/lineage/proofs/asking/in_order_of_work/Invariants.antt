use Rattle.std.proofs.Common.{◌≡◌, ◌<◌, length, map, take}
use Rattle.std.specs.List.{All}
use Rattle.catalogue.specs.Catalogued.{work_in}
use Rattle.derivations.specs.Queries.{query_of, work_of}
use Rattle.derivations.specs.declared.publishing.Query.{Query}
use Rattle.lineage.proofs.asking.in_order_of_work.Given as goal

-- the queries so far publish as the first ones in the order of work do, on streams that are there
abbrev pub invariant-loop-place : goal.invariant-loop-place
invariant-loop-place l = (map work_of (map query_of l.queries) ≡ map work_of (take l.place (work_in l.catalogue))) × All (λ (query : Query). query.stream < length l.catalogue.streams) l.queries
