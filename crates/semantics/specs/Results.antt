-- The results of a query at a time.
use Rattle.std.specs.Prelude.{ℕ, ◌==◌, List}
use Rattle.std.specs.List.{filter}
use Rattle.event_types.specs.Tuple.{TupleView}
use Rattle.event_types.specs.Order.{sorted}
use Rattle.semantics.specs.Histories.{Event, upto}
use Rattle.semantics.specs.Programs.{Program, env}

-- the tuples that a query's stream has at a detection time, over the events up to that time, in the order of tuples
abbrev pub results : Program → List Event → ℕ → ℕ → List TupleView
results program history stream time = sorted (filter (λ tuple. tuple.at == time) (env program (upto time history) stream))
