-- The text of the results.
use Rattle.std.specs.Prelude.{ℕ, zero, suc, ◌+◌, ◌/◌, ◌%◌, ℤ, pos, negsuc, Bool, ◌||◌, ◌==◌, if◌then◌else◌, List, [], ◌∷◌, ◌++◌, map, codes}
use Rattle.std.specs.List.{flat_map, list_any, join_with_byte}
use Rattle.std.specs.Fmt.{decimal, signed_decimal}
use Rattle.event_types.specs.declared.value.Value.{Value}
use Rattle.event_types.specs.declared.value.Value.TheVariants as value
use Rattle.event_types.specs.Tuple.{TupleView}
use Rattle.semantics.specs.Histories.{Event, times}
use Rattle.semantics.specs.Programs.{Program, Query}
use Rattle.semantics.specs.Results.{results}

-- a comma, a quote, a CR or an LF
abbrev pub is_special : ℕ → Bool
is_special byte = (byte == 44) || (byte == 34) || (byte == 13) || (byte == 10)

-- the text with each quote doubled
abbrev pub doubled : List ℕ → List ℕ
doubled text = flat_map (λ byte. if byte == 34 then 34 ∷ 34 ∷ [] else byte ∷ []) text

-- the text as a field: in quotes exactly where it holds a comma, a quote, a CR or an LF (RFC 4180, quotes)
abbrev pub quoted : List ℕ → List ℕ
quoted text = if list_any is_special text then 34 ∷ (doubled text ++ 34 ∷ []) else text

-- a number without its last so many digits, a point, and these digits
abbrev pub with_point : ℕ → ℕ → List ℕ
with_point zero n = decimal n ++ 46 ∷ []
with_point (suc places) n = with_point places (n / 10) ++ (48 + n % 10) ∷ []

-- the same without the point where no digit follows it
abbrev pub with_places : ℕ → ℕ → List ℕ
with_places zero n = decimal n
with_places places n = with_point places n

-- a decimal: a minus where it is below zero, the whole part without leading zeros, and, where the scale is above 0, a point and as many digits as the scale
abbrev pub decimal_text : ℕ → ℤ → List ℕ
decimal_text scale (pos n) = with_places scale n
decimal_text scale (negsuc n) = 45 ∷ with_places scale (suc n)

-- a value as a field: a number in decimal, OVER as its name, a text in quotes where it has to be, a decimal with its places
abbrev pub value_text : Value → List ℕ
value_text (value.Int number) = signed_decimal number
value_text value.Over = codes "OVER"
value_text (value.Text text) = quoted text
value_text (value.Dec scale units) = decimal_text scale units

-- a result line: the query's name, the start, the detection and the values, joined by commas, and an LF
abbrev pub line : List ℕ → TupleView → List ℕ
line name tuple = join_with_byte 44 (quoted name ∷ decimal tuple.from ∷ decimal tuple.at ∷ map value_text tuple.vals) ++ 10 ∷ []

-- the lines of a query's results at a time
abbrev pub lines_at : Program → List Event → ℕ → Query → List ℕ
lines_at program history time query = flat_map (line query.name) (results program history query.stream time)

-- the lines of an epoch: those of each query in the order of the file
abbrev pub epoch : Program → List Event → ℕ → List ℕ
epoch program history time = flat_map (lines_at program history time) program.queries

-- the report: the lines of each epoch of the history
abbrev pub report : Program → List Event → List ℕ
report program history = flat_map (epoch program history) (times history)
