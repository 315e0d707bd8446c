-- The canonical text of a file: its words with their spaces.
use Rattle.std.specs.Prelude.{ℕ, Bool, true, false, ◌||◌, ◌==◌, List, [], ◌∷◌, ◌++◌, codes, decimal, if◌then◌else◌}
use Rattle.std.specs.List.{flat_map}
use Rattle.event_types.specs.declared.comparison.Cmp.TheVariants as cmp
use Rattle.semantics.specs.Report.{with_places}
use Rattle.cel_grammar.specs.Symbols.{Symbol}
use Rattle.cel_grammar.specs.Symbols as the
use Rattle.cel_grammar.specs.Trees.{Statement}
use Rattle.cel_print.specs.Words.{Word, Of, Negative, NegativeDecimal}
use Rattle.cel_print.specs.StatementWords.{statement_words}

-- a text in which each quote stands twice
abbrev pub doubled : List ℕ → List ℕ
doubled text = flat_map (λ b. if b == 39 then 39 ∷ 39 ∷ [] else b ∷ []) text

-- how a symbol is spelled: a number without leading zeros, a decimal with all its places, a text between quotes
abbrev pub spelling : Symbol → List ℕ
spelling the.Stream = codes "STREAM"
spelling the.Int = codes "INT"
spelling the.Text = codes "TEXT"
spelling the.Select = codes "SELECT"
spelling the.As = codes "AS"
spelling the.From = codes "FROM"
spelling the.Publish = codes "PUBLISH"
spelling the.Filter = codes "FILTER"
spelling the.Next = codes "NEXT"
spelling the.Fold = codes "FOLD"
spelling the.Union = codes "UNION"
spelling the.And = codes "AND"
spelling the.Or = codes "OR"
spelling the.Not = codes "NOT"
spelling the.True = codes "TRUE"
spelling the.Dur = codes "DUR"
spelling the.Min = codes "MIN"
spelling the.Max = codes "MAX"
spelling (the.Name name) = name
spelling (the.Number n) = decimal n
spelling (the.Quoted text) = 39 ∷ (doubled text ++ codes "'")
spelling the.Dollar1 = codes "$1"
spelling the.Dollar2 = codes "$2"
spelling the.Dollar = codes "$"
spelling the.Open = codes "("
spelling the.Close = codes ")"
spelling the.BraceOpen = codes "{"
spelling the.BraceClose = codes "}"
spelling the.Comma = codes ","
spelling the.End = codes ";"
spelling the.Dot = codes "."
spelling the.Star = codes "*"
spelling the.Plus = codes "+"
spelling the.Minus = codes "-"
spelling (the.Compare cmp.Eq) = codes "="
spelling (the.Compare cmp.Ne) = codes "<>"
spelling (the.Compare cmp.Lt) = codes "<"
spelling (the.Compare cmp.Le) = codes "<="
spelling (the.Compare cmp.Gt) = codes ">"
spelling (the.Compare cmp.Ge) = codes ">="
spelling (the.Decimal scale n) = with_places scale n

-- how a word is spelled: no space stands behind the minus of a negative number or decimal
abbrev pub word_spelling : Word → List ℕ
word_spelling (Of symbol) = spelling symbol
word_spelling (Negative n) = 45 ∷ decimal n
word_spelling (NegativeDecimal scale n) = 45 ∷ with_places scale n

-- the opening parenthesis of what may not stand as it is, and nothing before what may
abbrev pub opening : Bool → List ℕ
opening bare = if bare then [] else codes "("

-- the closing parenthesis of what may not stand as it is, and nothing behind what may
abbrev pub closing : Bool → List ℕ
closing bare = if bare then [] else codes ")"

-- no space stands before , ) }
abbrev pub joins_left : Word → Bool
joins_left (Of the.Comma) = true
joins_left (Of the.Close) = true
joins_left (Of the.BraceClose) = true
joins_left word = false

-- no space stands behind ( { .
abbrev pub joins_right : Word → Bool
joins_right (Of the.Open) = true
joins_right (Of the.BraceOpen) = true
joins_right (Of the.Dot) = true
joins_right word = false

-- no space stands between MIN or MAX and its (, nor between a mark and its point
abbrev pub is_tight : Word → Word → Bool
is_tight (Of the.Min) (Of the.Open) = true
is_tight (Of the.Max) (Of the.Open) = true
is_tight (Of the.Dollar1) (Of the.Dot) = true
is_tight (Of the.Dollar2) (Of the.Dot) = true
is_tight (Of the.Dollar) (Of the.Dot) = true
is_tight left right = false

-- what stands between two words: one space, or nothing
abbrev pub space : Word → Word → List ℕ
space left right = if joins_right left || joins_left right || is_tight left right then [] else codes " "

-- the text of some words behind a word
abbrev pub text_behind : Word → List Word → List ℕ
text_behind left [] = []
text_behind left (word ∷ words) = space left word ++ (word_spelling word ++ text_behind word words)

-- the text of some words
abbrev pub text_of : List Word → List ℕ
text_of [] = []
text_of (word ∷ words) = word_spelling word ++ text_behind word words

-- the line of a statement: its text, with its semicolon and an LF right behind it
abbrev pub line_of : Statement → List ℕ
line_of statement = text_of (statement_words statement []) ++ codes ";\n"

-- the canonical text of a file: each statement on its line
abbrev pub canon : List Statement → List ℕ
canon statements = flat_map line_of statements
