-- The fields of an event line, as the one record that `csv` reads of the line by itself.
use Rattle.std.specs.Prelude.{◌==◌, ◌||◌, ℕ, Bool, not, List, [], drop, Option, Some, None, option_map}
use Rattle.std.specs.List.{slice_split}
use Rattle.csv.specs.Machine.{line_feed, next_record}
use Rattle.csv.specs.Reading.{default_config, strip_bom}
use Rattle.csv.specs.Records.{fields_of}
use Rattle.csv.specs.declared.parser.Config.{Config}
use Rattle.csv.specs.declared.parser.State.TheVariants as st
use Rattle.csv.specs.declared.parser.Terminator.TheVariants as term
use Rattle.event_csv.specs.declared.fields.Fields.{Fields}
use Rattle.event_csv.specs.declared.fields.Fields.TheVariants as from

-- commas, double quotes, and a line feed as the only end of a record
abbrev pub line_config : Config
line_config = record default_config { terminator = term.Any line_feed }

-- the fields of the record of a line read by itself, if it has one
unfoldable pub line_fields : List ℕ → Option (List (List ℕ))
line_fields line = option_map (λ p. p.0) (next_record line_config st.StartRecord [] [] (strip_bom line))

-- `,`
abbrev pub comma : ℕ
comma = 44

-- `"`
abbrev pub quote : ℕ
quote = 34

-- a byte that is no quote and ends no line
abbrev pub is_plain : ℕ → Bool
is_plain c = not ((c == quote) || (c == line_feed))

-- the parts of a text around its commas
abbrev pub parts_of : List ℕ → List (List ℕ)
parts_of text = slice_split (λ b. b == comma) text

-- the same of a text that may be missing
abbrev pub parts_left : Option (List ℕ) → List (List ℕ)
parts_left None = []
parts_left (Some text) = parts_of text

-- the fields that are still to come
abbrev pub fields_left : Fields → List (List ℕ)
fields_left (from.Line rest) = parts_left (option_map (λ s. s.now) rest)
fields_left (from.Row row place) = drop place (fields_of row.now)
