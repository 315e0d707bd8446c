-- The verdict on the text of an added query, by computing.
use Rattle.std.specs.Prelude.{ℕ, ◌+◌, nat_lt, List, length, take, count_by, Option, Some, None, Result, Ok, Err, if◌then◌else◌}
use Rattle.cel_lexer.specs.Bytes.{is_line_feed}
use Rattle.cel_lexer.specs.Faults.{tokens_of}
use Rattle.cel_lexer.specs.Tokens.{Lexed}
use Rattle.stream_schema.specs.Streams.{Entry, stream_names}
use Rattle.cel_grammar.specs.Sentences.{placed_of, sentences}
use Rattle.cel_grammar.specs.Trees as tree
use Rattle.cel_parser.specs.declared.fault.SyntaxFault.{SyntaxFault}
use Rattle.cel_types.specs.declared.fault.TypeFault.{TypeFault}
use Rattle.cel_types.specs.Statements.{read_names}
use Rattle.catalogue.specs.declared.fault.QueryFault.{QueryFault}
use Rattle.catalogue.specs.declared.fault.QueryFault.TheVariants.{TooLong}
use Rattle.catalogue.specs.Adding.{AddedVerdict, NotTaken, Taken}
use Rattle.catalogue.specs.Filing.{most_bytes}
use Rattle.catalogue.specs.Naming.{name_fault, read_fault}
use Rattle.courses.specs.QuerySentences.{PlacedQuery, one_query}
use Rattle.courses.specs.SourceTypes.{SourceType, source_type}
use Rattle.courses.specs.ToldFaults.{sentences_refused, tokens_refused, type_told}

-- where there is a fault of names, the query is refused with it on its line, and else it is judged so
abbrev pub unless_fault : Option QueryFault → ℕ → AddedVerdict → AddedVerdict
unless_fault (Some why) line verdict = NotTaken line why
unless_fault None line verdict = verdict

-- the verdict on a query by its types
abbrev pub typed_verdict : PlacedQuery → Result SourceType TypeFault → AddedVerdict
typed_verdict q (Ok found) = Taken (record { statement = tree.Query q.items q.source q.name; schema = found.schema; expr = found.expr })
typed_verdict q (Err why) = NotTaken q.line (type_told why)

-- the verdict on a query: by its own name, then by the names that it reads, then by its types
abbrev pub query_verdict : List Entry → PlacedQuery → AddedVerdict
query_verdict streams q =
    unless_fault (name_fault (stream_names streams) q.name) q.line
    (unless_fault (read_fault (stream_names streams) (read_names q.source)) q.line (typed_verdict q (source_type streams (tree.Select q.items q.source))))

-- the verdict on the one query that the text is, or why the text isn't one
abbrev pub read_verdict : List Entry → Result PlacedQuery SyntaxFault → AddedVerdict
read_verdict streams (Ok q) = query_verdict streams q
read_verdict streams (Err why) = sentences_refused why

-- the verdict by the tokens of the text, or by their fault
abbrev pub tokens_verdict : List Entry → List ℕ → Lexed → AddedVerdict
tokens_verdict streams text (Ok tokens) = read_verdict streams (one_query (sentences (placed_of (record { source = text; items = tokens }))))
tokens_verdict streams text (Err why) = tokens_refused why

-- the verdict on a text over the streams that are there: a text that is too long is refused on the line at which it passes the limit
unfoldable pub verdict_of : List Entry → List ℕ → AddedVerdict
verdict_of streams text =
    if nat_lt most_bytes (length text) then NotTaken (count_by is_line_feed (take most_bytes text) + 1) TooLong else tokens_verdict streams text (tokens_of text)
