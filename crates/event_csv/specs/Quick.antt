-- What stands at the front of the fields of a line that is read quickly. No public contract cites this module.
use Rattle.std.specs.Prelude.{◌≡◌, ◌==◌, ◌||◌, ◌<◌, ◌≤◌, ℕ, ℤ, Bool, true, not, List, [], ◌∷◌, ◌++◌, take, length, slice_index, Option, Some, None, Ok, IsUtf8, ⊤}
use Rattle.std.specs.List.{list_all}
use Rattle.std.specs.Str.{IsAscii}
use Rattle.std.specs.Str.Parse.{digits_value}
use Rattle.csv.specs.Machine.{Read, line_feed, next_record}
use Rattle.csv.specs.declared.parser.State.TheVariants as st
use Rattle.event_types.specs.declared.kind.Kind.{Kind}
use Rattle.event_types.specs.declared.kind.Kind.TheVariants as kind
use Rattle.event_types.specs.declared.value.Value.{Value}
use Rattle.event_types.specs.declared.value.Value.TheVariants as value
use Rattle.stream_schema.specs.Schema.{Attr, kinds_of}
use Rattle.stream_schema.specs.Streams.{Entry, number_of, schemas_of}
use Rattle.event_csv.specs.Event.{Span, declared_stream, span_of, stream_with, value_of, values_of}
use Rattle.event_csv.specs.Fields.{comma, line_config, quote}
use Rattle.event_csv.specs.Numbers.{are_digits}

-- a byte that ends no field without quotes: no comma and no line feed
abbrev pub is_inner : ℕ → Bool
is_inner c = not ((c == comma) || (c == line_feed))

-- a byte that is no quote
abbrev pub no_quote : ℕ → Bool
no_quote c = not (c == quote)

-- no quote stands first
abbrev pub NoQuoteFirst : List ℕ → Type 0
NoQuoteFirst [] = ⊤
NoQuoteFirst (b ∷ text) = b ≡ quote → ⊥

-- the record of which these fields were read, where text is left behind a comma, or nothing is left
abbrev pub read_left : Option (List ℕ) → List (List ℕ) → Option Read
read_left None fields = Some (fields, st.StartRecord, [])
read_left (Some text) fields = next_record line_config st.StartField fields [] text

-- what is left, if anything is, is UTF-8
abbrev pub IsText : Option (List ℕ) → Type 0
IsText None = ⊤
IsText (Some text) = IsUtf8 text

-- a field stands first, and this is left, and the text is UTF-8 where that is
pub record IsFirst (text field : List ℕ) (left : Option (List ℕ)) : Type 0 where
  pub reads : (before : List (List ℕ)) → next_record line_config st.StartField before [] text ≡ read_left left (before ++ field ∷ [])
  pub utf8 : IsText left → IsUtf8 text

-- the rest of a field that isn't between quotes stands first, and this is left, and the text is UTF-8 where that is
pub record IsRest (text rest : List ℕ) (left : Option (List ℕ)) : Type 0 where
  pub reads : (before : List (List ℕ)) (begun : List ℕ) → next_record line_config st.InField before begun text ≡ read_left left (before ++ (begun ++ rest) ∷ [])
  pub utf8 : IsText left → IsUtf8 text

-- the field that has begun ends so, and is this one whole
pub record EndsField (text begun field : List ℕ) (left : Option (List ℕ)) : Type 0 where
  pub reads : (before : List (List ℕ)) → next_record line_config st.InField before begun text ≡ read_left left (before ++ field ∷ [])
  pub utf8 : IsText left → IsUtf8 text

-- a field stands first whose first quote is gone, and this is left, and the text is UTF-8 where that is
pub record IsQuoted (text field : List ℕ) (left : Option (List ℕ)) : Type 0 where
  pub reads : (before : List (List ℕ)) → next_record line_config st.InQuoted before [] text ≡ read_left left (before ++ field ∷ [])
  pub utf8 : IsText left → IsUtf8 text

-- the name of a declared stream stands first, and this is left
pub record StreamFirst (streams : List Entry) (text : List ℕ) (stream : ℕ) (left : List ℕ) : Type 0 where
  pub name : List ℕ
  pub first : IsFirst text name (Some left)
  pub within : stream < length streams
  pub declared : declared_stream streams (number_of name streams) ≡ stream_with (schemas_of streams) (Some stream)

-- up to this place no byte ends a field, each is of ASCII if the flag is true, and there a comma stands or the text ends
pub record IsPlainEnd (text : List ℕ) (end : ℕ) (is_ascii : Bool) : Type 0 where
  pub within : end ≤ length text
  pub inner : list_all is_inner (take end text) ≡ true
  pub ascii : is_ascii ≡ true → IsAscii (take end text)
  pub ends : end < length text → slice_index text end ≡ comma

-- the first quote, before which each byte is of ASCII if the flag is true
pub record IsQuoteAt (text : List ℕ) (end : ℕ) (is_ascii : Bool) : Type 0 where
  pub within : end < length text
  pub none : list_all no_quote (take end text) ≡ true
  pub ascii : is_ascii ≡ true → IsAscii (take end text)
  pub here : slice_index text end ≡ quote

-- a text without quotes stands first, and this is left behind the quote that ends it
pub record IsPiece (text piece left : List ℕ) : Type 0 where
  pub cut : text ≡ piece ++ quote ∷ left
  pub none : list_all no_quote piece ≡ true
  pub utf8 : IsUtf8 piece

-- so many digits, few of them, stand first, and write the number
pub record HasDigits (text : List ℕ) (number many : ℕ) : Type 0 where
  pub within : many ≤ length text
  pub few : many ≤ 19
  pub digits : are_digits (take many text) ≡ true
  pub value : digits_value 10 (take many text) ≡ number
  pub fits : number ≤ 18446744073709551615

-- a field of digits stands first, or ends one that has begun, and writes the number, which has 64 bits
pub record NumberFirst (text : List ℕ) (number : ℕ) (left : Option (List ℕ)) : Type 0 where
  pub field : List ℕ
  pub first : IsFirst text field left
  pub rest : IsRest text field left
  pub some : 1 ≤ length field
  pub digits : are_digits field ≡ true
  pub value : digits_value 10 field ≡ number
  pub fits : number ≤ 18446744073709551615

-- the fields of the times stand first
pub record SpanFirst (text : List ℕ) (span : Span) (left : Option (List ℕ)) : Type 0 where
  pub start : List ℕ
  pub detection : List ℕ
  pub reads : (before : List (List ℕ)) → next_record line_config st.StartField before [] text ≡ read_left left (before ++ start ∷ detection ∷ [])
  pub times : span_of start detection ≡ Ok span
  pub utf8 : IsText left → IsUtf8 text

-- a field stands first that writes the value of the kind
pub record ValueFirst (kind : Kind) (text : List ℕ) (value : Value) (left : Option (List ℕ)) : Type 0 where
  pub field : List ℕ
  pub first : IsFirst text field left
  pub writes : value_of kind field ≡ Some value

-- a field stands first that writes a value of the kind, which was put behind the others
pub record PutsValue (kind : Kind) (text : List ℕ) (vals more : List Value) (left : Option (List ℕ)) : Type 0 where
  pub value : Value
  pub first : ValueFirst kind text value left
  pub put : more ≡ vals ++ value ∷ []

-- a field stands first that writes the INT
abbrev pub IntFirst : List ℕ → ℤ → Option (List ℕ) → Type 0
IntFirst text number left = ValueFirst kind.Int text (value.Int number) left

-- a field stands first that writes the decimal of so many places
abbrev pub DecFirst : ℕ → List ℕ → ℤ → Option (List ℕ) → Type 0
DecFirst places text units left = ValueFirst (kind.Dec places) text (value.Dec places units) left

-- the fields that are left write the values of the attributes, one each
pub record WriteAll (schema : List Attr) (left : Option (List ℕ)) (vals : List Value) : Type 0 where
  pub fields : List (List ℕ)
  pub reads : (before : List (List ℕ)) → read_left left before ≡ Some (before ++ fields, st.StartRecord, [])
  pub values : values_of 4 (kinds_of schema) fields ≡ Ok vals
  pub many : length fields ≡ length schema
  pub utf8 : IsText left
