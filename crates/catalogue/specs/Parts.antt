-- The parts of a file that is typed, and what a query text with these parts is judged to be. No public clause cites this.
use Rattle.std.specs.Prelude.{◌+◌, ◌-◌, ℕ, List, [], ◌∷◌, ◌++◌, length, map, take, drop, None}
use Rattle.expressions.specs.declared.expression.Expr.{Expr}
use Rattle.expressions.specs.Views.{ex_of}
use Rattle.semantics.specs.Expressions.{Ex}
use Rattle.semantics.specs.Programs.{Query}
use Rattle.splitter.specs.Splitting as split
use Rattle.stream_schema.specs.Streams.{Entry}
use Rattle.cel_grammar.specs.Views.{statement_of}
use Rattle.cel_parser.specs.Filed.{Filed}
use Rattle.catalogue.specs.declared.numbering.Published.{Published}
use Rattle.catalogue.specs.Judgement.{Accepts, Judged}

-- a file, its declared streams, the streams that its queries publish, the numbers of the queries in the order of work, and their expressions in this order
pub record Parts : Type 0 where
  pub file : Filed
  pub declared : List Entry
  pub published : List Entry
  pub order : List ℕ
  pub expressions : List Expr

-- the parts of a file whose queries are worked on in this order: as many streams are declared as statements are no queries, and the others are published
abbrev pub parts_of : Filed → List Entry → List ℕ → List Expr → Parts
parts_of file streams order expressions = record {
  file = file;
  declared = take (length file.statements - length order) streams;
  published = drop (length file.statements - length order) streams;
  order = order;
  expressions = expressions;
}

-- queries that publish these streams, from a number on, by these expressions, and whose hidden streams have the numbers from another on
abbrev pub queries_by : ℕ → ℕ → List Entry → List Expr → List Query
queries_by number hidden [] expressions = []
queries_by number hidden (s ∷ streams) [] = []
queries_by number hidden (s ∷ streams) (x ∷ expressions) =
    record { name = s.name; stream = number; hidden = hidden; expr = ex_of x; birth = None } ∷ queries_by (number + 1) (split.parts_of (ex_of x) hidden).next streams expressions

-- what a query text is judged to be that has these parts
abbrev pub judged_of : Parts → Judged
judged_of c = record {
  statements = map statement_of c.file.statements;
  lines = c.file.lines;
  declared = c.declared;
  streams = c.declared ++ c.published;
  order = c.order;
  published = queries_by (length c.declared) (length c.file.statements) c.published c.expressions;
}

-- some text is accepted as this
pub record IsAccepted (c : Parts) : Type 0 where
  pub text : List ℕ
  pub accepts : Accepts text (judged_of c)

-- what queries publish that have these expressions: streams from a number on, and hidden ones from another on, all from the start
abbrev pub published_from : ℕ → ℕ → List Ex → List Published
published_from number hidden [] = []
published_from number hidden (e ∷ expressions) = record { stream = number; hidden = hidden; birth = None } ∷ published_from (number + 1) (split.parts_of e hidden).next expressions
