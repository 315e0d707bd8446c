-- The schema and the expression of a source, or its first fault, by computing.
use Rattle.std.specs.Prelude.{ℕ, ◌+◌, nat_lt, List, [], length, Option, Some, None, Result, Ok, Err, slice_index_or, unwrap_or, if◌then◌else◌}
use Rattle.semantics.specs.Expressions.{Ex}
use Rattle.semantics.specs.Expressions as ex
use Rattle.scalar_expr.specs.Canonical.{canonical}
use Rattle.stream_schema.specs.Joining.{joined_schema}
use Rattle.stream_schema.specs.Schema.{Attr}
use Rattle.stream_schema.specs.Streams.{Entry, number_of, schemas_of}
use Rattle.cel_grammar.specs.Trees.{Agg, Item, Pred, Source}
use Rattle.cel_grammar.specs.Trees as tree
use Rattle.cel_types.specs.declared.fault.TypeFault.{TypeFault}
use Rattle.cel_types.specs.declared.fault.TypeFault.TheVariants.{TooWide, UnionMismatch}
use Rattle.cel_types.specs.Aggregates.{rebinding}
use Rattle.cel_types.specs.Scopes.{Alone, Iteration, Sequence}
use Rattle.cel_types.specs.Sources.{over}
use Rattle.cel_types.specs.Unions.{difference_from}
use Rattle.courses.specs.AggregateTypes.{aggregates_type}
use Rattle.courses.specs.ConditionTypes.{condition_type}
use Rattle.courses.specs.FirstFault.{◌>>=◌}
use Rattle.courses.specs.ItemTypes.{Selected, items_type}

-- a schema and an expression
pub record SourceType : Type 0 where
  pub schema : List Attr
  pub expr : Ex

-- the number of the stream that has the name, or the one behind all where none has it
abbrev pub stream_number : List Entry → List ℕ → ℕ
stream_number streams name = unwrap_or (number_of name streams) (length streams)

-- a stream by its number
abbrev pub stream_type : List Entry → ℕ → SourceType
stream_type streams number = record { schema = slice_index_or (schemas_of streams) number []; expr = ex.Read number }

-- FILTER over a source
abbrev pub filter_type : Pred → SourceType → Result SourceType TypeFault
filter_type p e = condition_type (Alone e.schema) p >>= λ u. Ok (record { schema = e.schema; expr = ex.Filter (canonical u) e.expr })

-- SELECT over a source, by what its items make, which are at most 256 attributes
abbrev pub selection_type : SourceType → Selected → Result SourceType TypeFault
selection_type e made =
    if nat_lt 256 (length made.attributes) then Err (TooWide (length made.attributes)) else Ok (record { schema = made.attributes; expr = ex.Select (over e.schema made.terms) e.expr })

-- UNION of two sources, by the place at which their schemas differ
abbrev pub union_type : SourceType → SourceType → Option ℕ → Result SourceType TypeFault
union_type e f (Some place) = Err (UnionMismatch place)
union_type e f None = Ok (record { schema = e.schema; expr = ex.Union e.expr f.expr })

-- NEXT of two sources, which have at most 256 attributes together: that they are too wide together comes before the faults of the condition
abbrev pub next_type : Pred → SourceType → SourceType → Result SourceType TypeFault
next_type p e f =
    if nat_lt 256 (length e.schema + length f.schema) then Err (TooWide (length e.schema + length f.schema))
    else (condition_type (Sequence e.schema f.schema) p >>= λ u. Ok (record { schema = joined_schema e.schema f.schema; expr = ex.Next (canonical u) e.expr f.expr }))

-- FOLD of two sources: the faults of its first condition, its second one, then its aggregates
abbrev pub fold_type : Pred → Pred → List Agg → SourceType → SourceType → Result SourceType TypeFault
fold_type p q aggs e f =
    condition_type (Iteration e.schema f.schema) p >>= λ u. condition_type (Iteration e.schema f.schema) q >>= λ v. aggregates_type e.schema f.schema [] aggs >>= λ sets.
    Ok (record { schema = e.schema; expr = ex.Fold (canonical u) (canonical v) (over f.schema (rebinding e.schema sets)) e.expr f.expr })

-- the schema and the expression of a source whose names are there: its sources' faults come first, from left to right, and then its own; a name that isn't there was refused before
abbrev pub source_type : List Entry → Source → Result SourceType TypeFault
source_type streams (tree.Name a) = Ok (stream_type streams (stream_number streams a))
source_type streams (tree.Filter p e) = source_type streams e >>= λ inner. filter_type p inner
source_type streams (tree.Select items e) = source_type streams e >>= λ inner. items_type inner.schema [] items >>= λ made. selection_type inner made
source_type streams (tree.Union e f) = source_type streams e >>= λ left. source_type streams f >>= λ right. union_type left right (difference_from 1 left.schema right.schema)
source_type streams (tree.Next p e f) = source_type streams e >>= λ left. source_type streams f >>= λ right. next_type p left right
source_type streams (tree.Fold p q aggs e f) = source_type streams e >>= λ left. source_type streams f >>= λ right. fold_type p q aggs left right
