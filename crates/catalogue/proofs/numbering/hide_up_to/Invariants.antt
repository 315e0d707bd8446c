use Rattle.std.proofs.Common.{◌≡◌, ◌++◌, ◌-◌}
use Rattle.stream_schema.specs.Streams.{hidden_entries}
use Rattle.catalogue.proofs.numbering.hide_up_to.Given as goal

-- the hidden streams so far are there
abbrev pub invariant-loop : goal.invariant-loop
invariant-loop l = l.streams ≡ l.initial.streams ++ hidden_entries l.fn.many (l.counter - l.fn.many)
