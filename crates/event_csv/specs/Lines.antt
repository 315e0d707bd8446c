-- The lines of an event text.
use Rattle.std.specs.Prelude.{ℕ, ◌+◌, Bool, true, false, not, ◌&&◌, ◌||◌, ◌==◌, nat_lt, List, [], ◌∷◌, ◌++◌, ◌≡◌, length, take, slice_index, filter, if◌then◌else◌}
use Rattle.std.specs.List.{slice_split}
use Rattle.std.specs.Str.{bytes_eq}
use Rattle.std.specs.Str.Lines.{strip_carriage_return}
use Rattle.csv.specs.Machine.{line_feed}
use Rattle.csv.specs.Reading.{strip_bom}

-- a line of the text: its number, counted from 1, and its bytes
pub record Line : Type 0 where
  pub number : ℕ
  pub bytes : List ℕ

-- the greatest number of bytes of a line that is read
abbrev pub line_limit : ℕ
line_limit = 65536

-- there are more bytes than a line may have
abbrev pub is_long : List ℕ → Bool
is_long bytes = nat_lt line_limit (length bytes)

-- there is no byte
abbrev pub is_empty : List ℕ → Bool
is_empty bytes = length bytes == 0

-- a line feed
abbrev pub is_line_feed : ℕ → Bool
is_line_feed byte = byte == line_feed

-- the text between the line feeds
abbrev pub pieces_of : List ℕ → List (List ℕ)
pieces_of text = slice_split is_line_feed text

-- the pieces that are lines: each that a line feed ends, and the last one where it is too long already, or the text ends behind it and it isn't empty
abbrev pub line_pieces : Bool → List (List ℕ) → List (List ℕ)
line_pieces ended [] = []
line_pieces ended (last ∷ []) = if is_long last || (ended && not (is_empty last)) then last ∷ [] else []
line_pieces ended (piece ∷ next ∷ more) = piece ∷ line_pieces ended (next ∷ more)

-- the bytes of a line: one carriage return at its end is dropped, but too long a line stands by its first 65,537 bytes
abbrev pub body_of : List ℕ → List ℕ
body_of piece = if is_long piece then take (line_limit + 1) piece else strip_carriage_return piece

-- the lines that are pieces, numbered from n on
abbrev pub numbered_lines : ℕ → List (List ℕ) → List Line
numbered_lines n [] = []
numbered_lines n (piece ∷ more) = record { number = n; bytes = body_of piece } ∷ numbered_lines (n + 1) more

-- the lines that have a byte
abbrev pub nonempty_lines : List Line → List Line
nonempty_lines lines = filter (λ line. not (is_empty line.bytes)) lines

-- `stream`
abbrev pub header_name : List ℕ
header_name = 115 ∷ 116 ∷ 114 ∷ 101 ∷ 97 ∷ 109 ∷ []

-- `"stream"`
abbrev pub quoted_header_name : List ℕ
quoted_header_name = 34 ∷ 115 ∷ 116 ∷ 114 ∷ 101 ∷ 97 ∷ 109 ∷ 34 ∷ []

-- the bytes begin with the name, and a comma or their end follows
abbrev pub begins_with_field : List ℕ → List ℕ → Bool
begins_with_field name bytes =
    bytes_eq (take (length name) bytes) name && ((length bytes == length name) || (slice_index bytes (length name) == 44))

-- the bytes of a header: their first field is `stream`, and they aren't too long
abbrev pub is_header : List ℕ → Bool
is_header bytes = not (is_long bytes) && (begins_with_field header_name bytes || begins_with_field quoted_header_name bytes)

-- the lines without the header that may come first, unless a line came before them
abbrev pub lines_past_header : Bool → List Line → List Line
lines_past_header true lines = lines
lines_past_header false [] = []
lines_past_header false (line ∷ more) = if is_header line.bytes then more else line ∷ more

-- the lines of a part of a text that comes after `gone` lines, and after one that isn't empty or not
abbrev pub lines_from : ℕ → Bool → List ℕ → Bool → List Line
lines_from gone met text ended =
    lines_past_header met (nonempty_lines (numbered_lines (gone + 1) (line_pieces ended (pieces_of text))))

-- the lines of an event text, or of its front where it hasn't ended: without a mark at the front, cut at each line feed
abbrev pub lines : List ℕ → Bool → List Line
lines text ended = lines_from 0 false (strip_bom text) ended

-- the later lines are the earlier ones, and maybe more behind them
pub record GoOn (earlier later : List Line) : Type 0 where
  pub more : List Line
  pub is : later ≡ earlier ++ more
