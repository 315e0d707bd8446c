-- The symbols of tokens.
use Rattle.std.specs.Prelude.{ℕ, ℤ, pos, ◌-◌, ◌==◌, ◌&&◌, List, [], ◌∷◌, drop, take, length, codes, if◌then◌else◌}
use Rattle.std.specs.Str.{bytes_eq}
use Rattle.event_types.specs.declared.comparison.Cmp.TheVariants as cmp
use Rattle.cel_lexer.specs.declared.token.What.{What}
use Rattle.cel_lexer.specs.declared.token.What.TheVariants as what
use Rattle.cel_grammar.specs.Symbols.{Symbol}
use Rattle.cel_grammar.specs.Symbols as the

-- a spelling and what it stands for
pub record Entry : Type 0 where
  pub word : List ℕ
  pub symbol : Symbol

-- a spelling with its symbol
abbrev pub entry : List ℕ → Symbol → Entry
entry word symbol = record { word = word; symbol = symbol }

-- the symbol of the first entry with this spelling, else another
abbrev pub looked_up : List Entry → Symbol → List ℕ → Symbol
looked_up [] other word = other
looked_up (e ∷ es) other word = if bytes_eq e.word word then e.symbol else looked_up es other word

-- the keywords but MAX
abbrev pub keyword_entries : List Entry
keyword_entries =
    entry (codes "STREAM") the.Stream ∷ entry (codes "INT") the.Int ∷ entry (codes "TEXT") the.Text
    ∷ entry (codes "SELECT") the.Select ∷ entry (codes "AS") the.As ∷ entry (codes "FROM") the.From
    ∷ entry (codes "PUBLISH") the.Publish ∷ entry (codes "FILTER") the.Filter ∷ entry (codes "NEXT") the.Next
    ∷ entry (codes "FOLD") the.Fold ∷ entry (codes "UNION") the.Union ∷ entry (codes "AND") the.And
    ∷ entry (codes "OR") the.Or ∷ entry (codes "NOT") the.Not ∷ entry (codes "TRUE") the.True
    ∷ entry (codes "DUR") the.Dur ∷ entry (codes "MIN") the.Min ∷ []

-- the signs but >=
abbrev pub sign_entries : List Entry
sign_entries =
    entry (codes "(") the.Open ∷ entry (codes ")") the.Close ∷ entry (codes "{") the.BraceOpen
    ∷ entry (codes "}") the.BraceClose ∷ entry (codes ",") the.Comma ∷ entry (codes ";") the.End
    ∷ entry (codes ".") the.Dot ∷ entry (codes "*") the.Star ∷ entry (codes "+") the.Plus
    ∷ entry (codes "-") the.Minus ∷ entry (codes "=") (the.Compare cmp.Eq) ∷ entry (codes "<>") (the.Compare cmp.Ne)
    ∷ entry (codes "<") (the.Compare cmp.Lt) ∷ entry (codes "<=") (the.Compare cmp.Le)
    ∷ entry (codes ">") (the.Compare cmp.Gt) ∷ []

-- the marks but $ alone
abbrev pub mark_entries : List Entry
mark_entries = entry (codes "$1") the.Dollar1 ∷ entry (codes "$2") the.Dollar2 ∷ []

-- a text in which each doubled quote stands once
abbrev pub undoubled : List ℕ → List ℕ
undoubled [] = []
undoubled (b ∷ []) = b ∷ []
undoubled (b ∷ next ∷ rest) = if (b == 39) && (next == 39) then b ∷ undoubled rest else b ∷ undoubled (next ∷ rest)

-- what stands between the quotes of a text literal
abbrev pub inside : List ℕ → List ℕ
inside word = take (length word - 2) (drop 1 word)

-- a number, which no token has below 0
abbrev pub number_symbol : ℤ → Symbol
number_symbol (pos n) = the.Number n
number_symbol z = the.Number 0

-- a decimal, whose units no token has below 0
abbrev pub decimal_symbol : ℕ → ℤ → Symbol
decimal_symbol scale (pos n) = the.Decimal scale n
decimal_symbol scale z = the.Decimal scale 0

-- the symbol of a token of this kind and spelling
abbrev pub symbol_of : What → List ℕ → Symbol
symbol_of what.Keyword word = looked_up keyword_entries the.Max word
symbol_of what.Name word = the.Name word
symbol_of (what.Number z) word = number_symbol z
symbol_of (what.Decimal scale z) word = decimal_symbol scale z
symbol_of what.Quoted word = the.Quoted (undoubled (inside word))
symbol_of what.Mark word = looked_up mark_entries the.Dollar word
symbol_of what.Sign word = looked_up sign_entries (the.Compare cmp.Ge) word
