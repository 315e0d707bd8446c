-- The numbers and times that fields write.
use Rattle.std.specs.Char.{is_ascii_digit}
use Rattle.std.specs.List.{list_all}
use Rattle.std.specs.Prelude.{ℕ, ℤ, pos, neg_ℤ, Bool, ◌&&◌, ◌==◌, nat_le, List, [], ◌∷◌, length, Option, Some, None, option_map, if◌then◌else◌}
use Rattle.std.specs.Str.Parse.{digits_value}

-- each byte is an ASCII digit
abbrev pub are_digits : List ℕ → Bool
are_digits bytes = list_all is_ascii_digit bytes

-- the number that one digit or more write, where it is at most `most`
abbrev pub number_up_to : ℕ → List ℕ → Option ℕ
number_up_to most bytes =
    if nat_le 1 (length bytes) && (are_digits bytes && nat_le (digits_value 10 bytes) most) then Some (digits_value 10 bytes) else None

-- a time: one digit or more, with a value of at most 2^64-1
abbrev pub time_of : List ℕ → Option ℕ
time_of field = number_up_to 18446744073709551615 field

-- a number below zero, down to -2^127, by its digits
abbrev pub negative_of : List ℕ → Option ℤ
negative_of digits = option_map (λ n. neg_ℤ (pos n)) (number_up_to 170141183460469231731687303715884105728 digits)

-- a number from zero up to 2^127-1, by its digits
abbrev pub positive_of : List ℕ → Option ℤ
positive_of digits = option_map pos (number_up_to 170141183460469231731687303715884105727 digits)

-- an INT: a sign that may be missing, and one digit or more
abbrev pub int_of : List ℕ → Option ℤ
int_of [] = None
int_of (byte ∷ more) = if byte == 45 then negative_of more else if byte == 43 then positive_of more else positive_of (byte ∷ more)
