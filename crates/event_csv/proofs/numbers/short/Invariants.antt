use Rattle.std.proofs.Common.{◌≡◌, ◌<◌, ◌^◌, drop, Some, None}
use Rattle.std.specs.Prelude.{if◌then◌else◌}
use Rattle.std.specs.Str.Parse.{digits_value, digits_value_after}
use Rattle.event_csv.specs.Numbers.{are_digits}
use Rattle.event_csv.proofs.numbers.short.Given as goal

abbrev pub invariant-loop-byte : goal.invariant-loop-byte
invariant-loop-byte l = record {
  small : l.number < 10 ^ l.byte-index;
  value : (if are_digits l.text then Some (digits_value 10 l.text) else None) ≡ (if are_digits (drop l.byte-index l.text) then Some (digits_value_after 10 l.number (drop l.byte-index l.text)) else None);
}
