-- The one query that sentences are, or why they are none, by computing.
use Rattle.std.specs.Prelude.{ℕ, ◌*◌, nat_lt, List, [], ◌∷◌, length, Some, Result, Ok, Err, if◌then◌else◌}
use Rattle.cel_grammar.specs.Sentences.{Sentence, is_deep}
use Rattle.cel_grammar.specs.Trees.{Item, Query, Source, Statement, Stream}
use Rattle.cel_parser.specs.ScalarReader.{Read}
use Rattle.cel_parser.specs.StatementReader.{statement_at}
use Rattle.cel_parser.specs.declared.fault.SyntaxFault.{SyntaxFault}
use Rattle.cel_parser.specs.declared.fault.SyntaxFault.TheVariants.{BadStatement, TooDeep, TooManyTokens}
use Rattle.courses.specs.FirstFault.{◌>>=◌}

-- a query with its items, its source and the name that it publishes, which begins on a line
pub record PlacedQuery : Type 0 where
  pub items : List Item
  pub source : Source
  pub name : List ℕ
  pub line : ℕ

-- the statement that was read, where no symbols are left; else the grammar doesn't have the sentence
abbrev pub whole : ℕ → ℕ → Read Statement → Result Statement SyntaxFault
whole number line (Some (statement, [])) = Ok statement
whole number line read = Err (BadStatement number line)

-- the statement of the sentence with this number, or its fault: a sentence without its semicolon isn't in the grammar; too many symbols come before too deep, and that before the grammar. 16 for each symbol bounds how deep the calls go, and no statement needs more
abbrev pub sentence_read : ℕ → Sentence → Result Statement SyntaxFault
sentence_read number sentence =
    if sentence.ended
    then (if nat_lt 1024 (length sentence.symbols) then Err (TooManyTokens number sentence.line)
    else if is_deep 0 sentence.symbols then Err (TooDeep number sentence.line)
    else whole number sentence.line (statement_at (16 * length sentence.symbols) sentence.symbols))
    else Err (BadStatement number sentence.line)

-- the fault of the sentence behind a query: its own, and if it has none, that it is there
abbrev pub second_fault : Sentence → Result Statement SyntaxFault → SyntaxFault
second_fault sentence (Ok statement) = BadStatement 2 sentence.line
second_fault sentence (Err fault) = fault

-- the one query that a first statement on a line is, with the sentences behind it: a declaration is the fault BadStatement of the first; a query with no sentence behind it is the one; else the second sentence's fault
abbrev pub only_query : ℕ → List Sentence → Statement → Result PlacedQuery SyntaxFault
only_query line later (Stream name columns) = Err (BadStatement 1 line)
only_query line [] (Query items source name) = Ok (record { items = items; source = source; name = name; line = line })
only_query line (next ∷ later) (Query items source name) = Err (second_fault next (sentence_read 2 next))

-- the one query that sentences are, or why they are none: no sentence at all is BadStatement of the first on line 1
abbrev pub one_query : List Sentence → Result PlacedQuery SyntaxFault
one_query [] = Err (BadStatement 1 1)
one_query (sentence ∷ later) = sentence_read 1 sentence >>= λ statement. only_query sentence.line later statement
