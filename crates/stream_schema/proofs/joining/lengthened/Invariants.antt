use Rattle.std.proofs.Common.{◌≡◌, ◌-◌, not}
use Rattle.stream_schema.specs.Joining.{is_taken, least_from, suffix_of, suffixed}
use Rattle.stream_schema.proofs.joining.lengthened.Given as goal

abbrev pub invariant-loop-number : goal.invariant-loop-number
invariant-loop-number l =
    suffix_of l.schema l.name ≡ least_from (λ number. not (is_taken l.schema (suffixed l.name number))) l.number (l.last - l.number)
