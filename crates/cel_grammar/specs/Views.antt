-- The trees of a program as trees of the grammar, without where they lie in memory.
use Rattle.std.specs.Prelude.{map}
use Rattle.cel_grammar.specs.declared.scalar.Raw.{Raw}
use Rattle.cel_grammar.specs.declared.scalar.Raw.TheVariants as raw
use Rattle.cel_grammar.specs.declared.predicate.RawPred.{RawPred}
use Rattle.cel_grammar.specs.declared.predicate.RawPred.TheVariants as pred
use Rattle.cel_grammar.specs.declared.source.Item.{Item}
use Rattle.cel_grammar.specs.declared.source.Item.TheVariants as item
use Rattle.cel_grammar.specs.declared.source.Agg.{Agg}
use Rattle.cel_grammar.specs.declared.source.Source.{Source}
use Rattle.cel_grammar.specs.declared.source.Source.TheVariants as source
use Rattle.cel_grammar.specs.declared.statement.Attr.{Attr}
use Rattle.cel_grammar.specs.declared.statement.Statement.{Statement}
use Rattle.cel_grammar.specs.declared.statement.Statement.TheVariants as statement
use Rattle.cel_grammar.specs.Trees as tree

-- the scalar as a tree
abbrev pub scalar_of : Raw → tree.Scalar
scalar_of (raw.Number n) = tree.Number n
scalar_of (raw.Quoted t) = tree.Quoted t
scalar_of (raw.Attr m a) = tree.Attr m a
scalar_of raw.Dur = tree.Dur
scalar_of (raw.Decimal scale units) = tree.Decimal scale units
scalar_of (raw.Add' p x q y) = tree.Two tree.Add (scalar_of x) (scalar_of y)
scalar_of (raw.Sub' p x q y) = tree.Two tree.Sub (scalar_of x) (scalar_of y)
scalar_of (raw.Mul' p x q y) = tree.Two tree.Mul (scalar_of x) (scalar_of y)
scalar_of (raw.Min' p x q y) = tree.Two tree.Min (scalar_of x) (scalar_of y)
scalar_of (raw.Max' p x q y) = tree.Two tree.Max (scalar_of x) (scalar_of y)

-- the predicate as a tree
abbrev pub pred_of : RawPred → tree.Pred
pred_of pred.True = tree.True
pred_of (pred.Test x c y) = tree.Test (scalar_of x) c (scalar_of y)
pred_of (pred.And' a p b q) = tree.And (pred_of p) (pred_of q)
pred_of (pred.Or' a p b q) = tree.Or (pred_of p) (pred_of q)
pred_of (pred.Not' a p) = tree.Not (pred_of p)

-- the item as a tree
abbrev pub item_of : Item → tree.Item
item_of item.Star = tree.All
item_of (item.Named x a) = tree.Named (scalar_of x) a

-- the aggregate as a tree
abbrev pub agg_of : Agg → tree.Agg
agg_of agg = tree.Set (scalar_of agg.value) agg.name

-- the source as a tree
abbrev pub source_of : Source → tree.Source
source_of (source.Name a) = tree.Name a
source_of (source.Filter' p a e) = tree.Filter (pred_of p) (source_of e)
source_of (source.Select' items a e) = tree.Select (map item_of items) (source_of e)
source_of (source.Union' a e b f) = tree.Union (source_of e) (source_of f)
source_of (source.Next' p a e b f) = tree.Next (pred_of p) (source_of e) (source_of f)
source_of (source.Fold' p q aggs a e b f) = tree.Fold (pred_of p) (pred_of q) (map agg_of aggs) (source_of e) (source_of f)

-- the attribute of a declaration as a tree
abbrev pub column_of : Attr → tree.Column
column_of attr = tree.Col attr.name attr.kind

-- the statement as a tree
abbrev pub statement_of : Statement → tree.Statement
statement_of (statement.Stream name attrs) = tree.Stream name (map column_of attrs)
statement_of (statement.Query items source name) = tree.Query (map item_of items) (source_of source) name
