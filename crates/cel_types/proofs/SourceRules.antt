-- The rules of sources that hand on the fault of a source within, for searches.
use Rattle.cel_types.specs.Sources as sources

-- the types and the faults of sources
pub ruleset source_rules =
    (sources.filter_source, sources.select_source, sources.union_left, sources.union_right, sources.next_left, sources.next_right, sources.fold_left, sources.fold_right)
