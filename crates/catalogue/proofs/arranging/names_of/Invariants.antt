use Rattle.std.proofs.Common.{◌≡◌, ℕ, [], map, take, get_or}
use Rattle.stream_schema.specs.Streams.{stream_names}
use Rattle.catalogue.proofs.arranging.names_of.Given as goal

-- the names so far were added
abbrev pub invariant-loop-number : goal.invariant-loop-number
invariant-loop-number l = l.names ≡ map (λ (n : ℕ). get_or (stream_names l.queries) n []) (take l.number-index l.numbers)
