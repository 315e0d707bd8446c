-- What a function that reads symbols returns. No public clause cites this module.
use Rattle.std.specs.Prelude.{◌≡◌, Option, Some, None, Result, Ok, Err}
use Rattle.cel_parser.specs.declared.unread.Unread.{Unread}
use Rattle.cel_parser.specs.declared.unread.Unread.TheVariants as unread

-- nothing is read, unless memory ran out
abbrev pub ReturnsNothing : {Y : Type 0} → Unread → Option Y → Type 0
ReturnsNothing unread.Memory read = Unit {0}
ReturnsNothing unread.Bad read = read ≡ None

-- what was returned is what is read, unless memory ran out
abbrev pub ReturnsReading : {X Y : Type 0} → (X → Y) → Result X Unread → Option Y → Type 0
ReturnsReading view (Ok x) read = read ≡ Some (view x)
ReturnsReading view (Err e) read = ReturnsNothing e read
