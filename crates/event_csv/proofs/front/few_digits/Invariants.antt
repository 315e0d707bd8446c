use Rattle.std.proofs.Common.{◌≡◌, ◌<◌, ◌^◌, take, true}
use Rattle.std.specs.Str.Parse.{digits_value}
use Rattle.event_csv.specs.Numbers.{are_digits}
use Rattle.event_csv.proofs.front.few_digits.Given as goal

abbrev pub invariant-loop-place : goal.invariant-loop-place
invariant-loop-place l = record {
  small : l.number < 10 ^ l.place;
  digits : are_digits (take l.place l.text) ≡ true;
  value : digits_value 10 (take l.place l.text) ≡ l.number;
}
