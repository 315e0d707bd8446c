-- What control lines ask for, by what they begin with.
use Rattle.std.proofs.Common.{◌≡◌, ◌≢◌, ℕ, false, List, ◌++◌, drop, length, refl, inl, inr, nat_eq, Ok, Err}
use Rattle.std.specs.Prelude.{IsUtf8}
use Rattle.std.specs.List.{starts_with}
use Rattle.std.specs.Str.{is_utf8}
use Rattle.std.proofs.lemmas.Bool.{cases_Bool}
use Rattle.std.proofs.lemmas.Bool.Decides.{Decides-eqb}
use Rattle.std.proofs.lemmas.Slice.Eq.{starts_is}
use Rattle.std.proofs.lemmas.Str.{IsUtf8-from_is_utf8, is_utf8-from_IsUtf8}
use Rattle.event_csv.specs.Control.{Asked, add_word, control_of, drop_word}
use Rattle.event_csv.specs.declared.control.ControlError.TheVariants as fault

-- a line that isn't UTF-8 has that fault
pub not_text : (line : List ℕ) → ¬ (IsUtf8 line) → control_of line ≡ Err fault.NotUtf8
not_text line other = elim (cases_Bool (is_utf8 line)) [
  | inl text ↦ absurd (other (IsUtf8-from_is_utf8 line text))
  | inr broken ↦ rw broken refl
]

-- behind the first word stands the text of a query
pub adds : (line query : List ℕ) → IsUtf8 line → line ≡ add_word ++ query → control_of line ≡ Ok (Asked.Adding query)
adds line query text e = rw (is_utf8-from_IsUtf8 line text, e) refl

-- behind the second one a name
pub removes : (line name : List ℕ) → IsUtf8 line → line ≡ drop_word ++ name → control_of line ≡ Ok (Asked.Removing name)
removes line name text e = rw (is_utf8-from_IsUtf8 line text, e) refl

-- the line does not begin with the word
lacks : (line word : List ℕ) → ((rest : List ℕ) → line ≢ word ++ rest) → starts_with nat_eq line word ≡ false
lacks line word none = elim (cases_Bool (starts_with nat_eq line word)) [
  | inl there ↦ absurd (none (drop (length word) line) ((starts_is Decides-eqb line word (starts_with nat_eq line word) refl).0 there))
  | inr other ↦ other
]

-- a line that begins with neither is refused
pub no_word : (line : List ℕ) → IsUtf8 line → ((rest : List ℕ) → line ≢ add_word ++ rest) → ((rest : List ℕ) → line ≢ drop_word ++ rest) → control_of line ≡ Err fault.BadForm
no_word line text no_add no_drop = rw (is_utf8-from_IsUtf8 line text, lacks line add_word no_add, lacks line drop_word no_drop) refl
