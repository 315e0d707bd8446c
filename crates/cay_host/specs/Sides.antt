-- What differs by side.
use Rattle.cay_host.specs.declared.side.Side.{Side}
use Rattle.cay_host.specs.declared.side.Side.TheVariants.{Queries, Events}

-- the same but for one side, which has this
abbrev pub with_side : {A : Type 0} → Side → A → (Side → A) → Side → A
with_side Queries x f Queries = x
with_side Queries x f Events = f Events
with_side Events x f Queries = f Queries
with_side Events x f Events = x

-- of one thing for the queries and one for the events, that of the side
abbrev pub of_side : {A : Type 0} → A → A → Side → A
of_side q e Queries = q
of_side q e Events = e
