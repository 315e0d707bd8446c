-- What a control line asks for.
use Rattle.std.specs.Prelude.{ℕ, Bool, false, ◌==◌, List, [], ◌∷◌, codes, drop, length, nat_eq, if◌then◌else◌, Result, Ok, Err}
use Rattle.std.specs.List.{starts_with}
use Rattle.std.specs.Str.{is_utf8}
use Rattle.event_csv.specs.declared.control.Control.{Control}
use Rattle.event_csv.specs.declared.control.Control.TheVariants as control
use Rattle.event_csv.specs.declared.control.ControlError.{ControlError}
use Rattle.event_csv.specs.declared.control.ControlError.TheVariants as fault

-- the line begins with >
abbrev pub is_control : List ℕ → Bool
is_control [] = false
is_control (byte ∷ rest) = byte == 62

-- a query of this text is to come, or the query of this name is to leave
pub data Asked : Type 0 where
  Adding : List ℕ → Asked
  Removing : List ℕ → Asked

-- what the call's answer asks for
abbrev pub asked : Control → Asked
asked (control.Add text) = Asked.Adding text.now
asked (control.Remove name) = Asked.Removing name.now

-- what comes before the text of a query
abbrev pub add_word : List ℕ
add_word = codes ">ADD "

-- what comes before the name of a query
abbrev pub drop_word : List ℕ
drop_word = codes ">DROP "

-- what a line of characters asks for: what follows one of the two words
abbrev pub control_of_text : List ℕ → Result Asked ControlError
control_of_text line =
    if starts_with nat_eq line add_word then Ok (Asked.Adding (drop (length add_word) line))
    else if starts_with nat_eq line drop_word then Ok (Asked.Removing (drop (length drop_word) line))
    else Err fault.BadForm

-- what a line asks for, or why it is no control line
abbrev pub control_of : List ℕ → Result Asked ControlError
control_of line = if is_utf8 line then control_of_text line else Err fault.NotUtf8
