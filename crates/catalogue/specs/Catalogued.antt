-- What contracts see of a `Catalogue`.
use Rattle.std.specs.Prelude.{◌==◌, ℕ, List, [], ◌∷◌, length, map, slice_index_or, refl, None}
use Rattle.std.specs.Coded.{Coded, code_by, coded×, coded_list, coded_ℕ}
use Rattle.std.specs.List.{position_or_len, range_with_len}
use Rattle.automaton.specs.contracts.layout.Layout as layout
use Rattle.automaton.specs.declared.layout.Layout.{Layout}
use Rattle.expressions.specs.contracts.expression.Expr as expression
use Rattle.expressions.specs.declared.expression.Expr.{Expr}
use Rattle.expressions.specs.Views.{ex_of}
use Rattle.semantics.specs.Expressions.{Read}
use Rattle.semantics.specs.Programs.{Program, Query}
use Rattle.stream_schema.specs.contracts.streams.Streams as table
use Rattle.stream_schema.specs.Streams.{Entry, stream_names}
use Rattle.cel_parser.specs.Filed.{Filed, filed_code}
use Rattle.catalogue.specs.contracts.numbering.Published as publication
use Rattle.catalogue.specs.declared.numbering.Published.{Published}

-- a file; how many streams it declares; all streams by number: the declared ones first, and behind them those that queries publish, hidden and retired ones; the numbers of the queries in the order of work; what these publish and their expressions, in this order; the numbers of the ends of their lines, in the lines' order; the next number of an end; and the layout of the lines
pub record Catalogued : Type 0 where
  pub file : Filed
  pub declared : ℕ
  pub streams : List Entry
  pub order : List ℕ
  pub published : List Published
  pub expressions : List Expr
  pub ends : List ℕ
  pub next_end : ℕ
  pub layout : Layout

abbrev StreamParts : Type 0
StreamParts = Filed × (ℕ × List Entry)

abbrev QueryParts : Type 0
QueryParts = List ℕ × (List Published × List Expr)

abbrev LineParts : Type 0
LineParts = List ℕ × (ℕ × Layout)

-- a catalogue is stored as its parts
abbrev pub catalogued_code : Coded Catalogued
catalogued_code =
    code_by (StreamParts × (QueryParts × LineParts))
    (coded× (coded× filed_code (coded× coded_ℕ table.the_row.coded))
    (coded× (coded× (coded_list coded_ℕ) (coded× (coded_list publication.the_row.coded) (coded_list expression.the_row.coded)))
    (coded× (coded_list coded_ℕ) (coded× coded_ℕ layout.the_row.coded))))
    (λ c. ((c.file, (c.declared, c.streams)), ((c.order, (c.published, c.expressions)), (c.ends, (c.next_end, c.layout)))))
    (λ p. record { file = p.0.0; declared = p.0.1.0; streams = p.0.1.1; order = p.1.0.0; published = p.1.0.1.0; expressions = p.1.0.1.1; ends = p.1.1.0; next_end = p.1.1.1.0; layout = p.1.1.1.1 }) (λ _. refl)

-- a query: it has the name of its stream, what it publishes, and its expression
abbrev pub query_of : List Entry → Published → Expr → Query
query_of streams publication x =
    record { name = slice_index_or (stream_names streams) publication.stream []; stream = publication.stream; hidden = publication.hidden; expr = ex_of x; birth = publication.birth }

-- queries by what they publish and by their expressions
abbrev pub queries_of : List Entry → List Published → List Expr → List Query
queries_of streams [] expressions = []
queries_of streams (publication ∷ published) [] = []
queries_of streams (publication ∷ published) (x ∷ expressions) = query_of streams publication x ∷ queries_of streams published expressions

-- the queries of a catalogue in the order of work
abbrev pub work_in : Catalogued → List Query
work_in c = queries_of c.streams c.published c.expressions

-- the query with a number, which it has at its place in the order of work
abbrev pub query_in : Catalogued → ℕ → Query
query_in c number = slice_index_or (work_in c) (position_or_len (λ other. number == other) c.order) (record { name = []; stream = 0; hidden = 0; expr = Read 0; birth = None })

-- the program of a catalogue: how many streams are declared, the queries by number, and the same in the order of work
abbrev pub program_in : Catalogued → Program
program_in c = record {
  declared = c.declared;
  queries = map (query_in c) (range_with_len 0 (length c.order));
  order = work_in c;
}
