-- The table of where ends stand. No public clause cites this.
use Rattle.std.specs.Prelude.{◌≡◌, ◌↔◌, ◌==◌, ℕ, if◌then◌else◌, Option, Some, nat_eq}
use Rattle.std.specs.HashMap.{HashMap, get}
use Rattle.automaton.specs.States.{Net, tells}
use Rattle.prefix_merge.specs.declared.holders.EndSpot.{EndSpot}
use Rattle.prefix_merge.specs.Merging.{number_at}

-- an end of the number stands there
abbrev pub StandsAt : Net → ℕ → EndSpot → Type 0
StandsAt net number spot = number_at net spot.state spot.place ≡ Some number

-- the table tells where the end of each number stands, and of no other number
abbrev pub AreHolders : {S : Type 0} → HashMap ℕ EndSpot S → Net → Type 0
AreHolders table net = (number : ℕ) (spot : EndSpot) → (get nat_eq table number ≡ Some spot) ↔ StandsAt net number spot

-- the table tells this of one number, and of the others what it told
abbrev pub TellsOf : {S : Type 0} → ℕ → Option EndSpot → HashMap ℕ EndSpot S → HashMap ℕ EndSpot S → Type 0
TellsOf number told old new = (other : ℕ) → get nat_eq new other ≡ (if number == other then told else get nat_eq old other)

-- the table tells this of the number, if there is one, and of the others what it told
abbrev pub TellsOfSome : {S : Type 0} → Option ℕ → EndSpot → HashMap ℕ EndSpot S → HashMap ℕ EndSpot S → Type 0
TellsOfSome number spot old new = (other : ℕ) → get nat_eq new other ≡ (if tells other number then Some spot else get nat_eq old other)
