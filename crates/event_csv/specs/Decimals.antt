-- The decimals that fields write.
use Rattle.std.specs.Prelude.{ℕ, ◌-◌, ◌==◌, ◌&&◌, nat_le, ℤ, pos, neg_ℤ, List, [], ◌∷◌, ◌++◌, length, replicate, Option, Some, None, option_map, if◌then◌else◌}
use Rattle.std.specs.Option.{option_and_then}
use Rattle.event_csv.specs.Numbers.{number_up_to}

-- the places behind a point: one digit at least and as many as there are places at most, with zeros for the missing ones
abbrev pub places_behind : ℕ → List ℕ → Option (List ℕ)
places_behind places bytes =
    if nat_le 1 (length bytes) && nat_le (length bytes) places then Some (bytes ++ replicate (places - length bytes) 48) else None

-- the digits with all their places and without their point, which may be missing
abbrev pub with_all_places : ℕ → List ℕ → Option (List ℕ)
with_all_places places [] = Some (replicate places 48)
with_all_places places (byte ∷ more) = if byte == 46 then places_behind places more else option_map (λ digits. byte ∷ digits) (with_all_places places more)

-- the units, at most `most`, of a decimal without its sign, which begins with a digit
abbrev pub units_up_to : ℕ → ℕ → List ℕ → Option ℕ
units_up_to most places [] = None
units_up_to most places (byte ∷ more) = if byte == 46 then None else option_and_then (number_up_to most) (with_all_places places (byte ∷ more))

-- the units of a decimal behind a minus, down to -2^127
abbrev pub units_below : ℕ → List ℕ → Option ℤ
units_below places bytes = option_map (λ n. neg_ℤ (pos n)) (units_up_to 170141183460469231731687303715884105728 places bytes)

-- the units of a decimal without a minus, up to 2^127-1
abbrev pub units_above : ℕ → List ℕ → Option ℤ
units_above places bytes = option_map pos (units_up_to 170141183460469231731687303715884105727 places bytes)

-- the units of a DEC of so many places: a sign that may be missing, one digit or more, and perhaps a point and one digit up to so many places; missing places are zeros
abbrev pub units_of : ℕ → List ℕ → Option ℤ
units_of places [] = None
units_of places (byte ∷ more) = if byte == 45 then units_below places more else if byte == 43 then units_above places more else units_above places (byte ∷ more)
