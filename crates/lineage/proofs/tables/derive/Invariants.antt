use Rattle.std.proofs.Common.{◌≡◌, map}
use Rattle.std.specs.List.{range_with_len}
use Rattle.catalogue.specs.Catalogued.{query_in}
use Rattle.derivations.specs.Tables.{streams_of}
use Rattle.lineage.proofs.tables.derive.Given as goal

-- the queries so far have the lists of their streams
abbrev pub invariant-loop-query : goal.invariant-loop-query
invariant-loop-query g l = l.table ≡ map (λ number. streams_of l.streams (query_in l.catalogue number).stream) (range_with_len 0 l.query)
