use Rattle.std.proofs.Common.{◌≡◌, ◌++◌}
use Rattle.std.specs.Prelude.{replicate}
use Rattle.stream_schema.specs.Table.{unnamed}
use Rattle.stream_schema.proofs.streams.add_unnamed.Given as goal

-- so many streams were put so far
abbrev pub invariant-loop : goal.invariant-loop
invariant-loop l = l.streams ≡ l.initial.streams ++ replicate l.counter unnamed
