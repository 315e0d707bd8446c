-- Where targets stand. No public clause cites this module.
use Rattle.std.specs.Prelude.{◌≡◌, ◌≢◌, ℕ, if◌then◌else◌, IfSome, Option, Some}
use Rattle.std.specs.HashMap.{HashMap, get}
use Rattle.std.specs.Option.{option_map}
use Rattle.stream_readers.specs.Filing.{Slots, slot_at}
use Rattle.stream_readers.specs.Naming.{is_same, name_of}
use Rattle.stream_readers.specs.declared.naming.Name.{Name}
use Rattle.stream_readers.specs.declared.target.Target.{Target}

-- a target of this name stands at a place
abbrev pub StandsAt : Slots → Name → ℕ → Type 0
StandsAt slots name place = option_map name_of (slot_at slots place) ≡ Some name

-- a target of this name stands at a place, and at no other
pub record StandsOnlyAt (slots : Slots) (name : Name) (place : ℕ) : Type 0 where
  pub here : StandsAt slots name place
  pub alone : (other : ℕ) → StandsAt slots name other → other ≡ place

-- the table tells the place of each target that stands at one
abbrev pub HavePlaces : {S : Type 0} → HashMap Name ℕ S → Slots → Type 0
HavePlaces table slots = (place : ℕ) (name : Name) → StandsAt slots name place → get is_same table name ≡ Some place

-- the same of a table that is there
abbrev pub MayHavePlaces : {S : Type 0} → Option (HashMap Name ℕ S) → Slots → Type 0
MayHavePlaces places slots = IfSome places (λ table. HavePlaces table slots)

-- a target comes to a place, and all else stays
pub record ComesTo (place : ℕ) (target : Target) (old new : Slots) : Type 0 where
  pub here : slot_at new place ≡ Some target
  pub others : (other : ℕ) → other ≢ place → slot_at new other ≡ slot_at old other

-- the table tells this of one name, and of the others what it told
abbrev pub TellsOf : {S : Type 0} → Name → Option ℕ → HashMap Name ℕ S → HashMap Name ℕ S → Type 0
TellsOf name told old new = (other : Name) → get is_same new other ≡ (if is_same name other then told else get is_same old other)
