-- The numbers that words write.
use Rattle.std.specs.Char.{is_ascii_digit}
use Rattle.std.specs.List.{list_all}
use Rattle.std.specs.Prelude.{ℕ, Bool, ◌&&◌, nat_le, length, Option, Some, None, if◌then◌else◌}
use Rattle.std.specs.Str.Parse.{digits_value}
use Rattle.clap.specs.Walk.{Text}

-- each byte of the word is a decimal digit
abbrev pub are_digits : Text → Bool
are_digits word = list_all is_ascii_digit word

-- the number that one decimal digit or more write, where it is at least and at most so much
abbrev pub number_within : ℕ → ℕ → Text → Option ℕ
number_within least most word =
    if nat_le 1 (length word) && (are_digits word && (nat_le least (digits_value 10 word) && nat_le (digits_value 10 word) most)) then Some (digits_value 10 word) else None
