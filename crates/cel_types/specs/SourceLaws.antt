-- Laws over queries: each has one schema and expression or one first fault, and its expression is typed.
use Rattle.std.specs.Prelude.{◌≡◌, ℕ, List, [], length, slice_index_or}
use Rattle.event_types.specs.declared.kind.Kind.{Kind}
use Rattle.semantics.specs.Expressions.{Ex}
use Rattle.semantics.specs.Typing.{IsTypedOver}
use Rattle.stream_schema.specs.Schema.{Attr, kinds_of}
use Rattle.stream_schema.specs.Streams.{Entry, schemas_of}
use Rattle.cel_grammar.specs.Trees.{Statement}
use Rattle.cel_types.specs.declared.fault.TypeFault.{TypeFault}
use Rattle.cel_types.specs.Statements.{Queries, FailsAsQuery}

-- a query has at most one schema and one expression
abbrev pub OneExpression : Type 0
OneExpression = (streams : List Entry) (statement : Statement) (schema other : List Attr) (x y : Ex) → Queries streams statement schema x → Queries streams statement other y → (schema ≡ other) × (x ≡ y)

-- a query has at most one first fault
abbrev pub OneQueryFault : Type 0
OneQueryFault = (streams : List Entry) (statement : Statement) (f g : TypeFault) → FailsAsQuery streams statement f → FailsAsQuery streams statement g → f ≡ g

-- no query has both an expression and a fault
abbrev pub ExpressionOrFault : Type 0
ExpressionOrFault = (streams : List Entry) (statement : Statement) (schema : List Attr) (x : Ex) (f : TypeFault) → Queries streams statement schema x → FailsAsQuery streams statement f → ⊥

-- the kinds of a stream's tuples, by its number
abbrev pub kinds_in : List Entry → ℕ → List Kind
kinds_in streams number = kinds_of (slice_index_or (schemas_of streams) number [])

-- a query's expression reads streams of the table and gives tuples of the kinds of its schema
abbrev pub QueriesAreTyped : Type 0
QueriesAreTyped = (streams : List Entry) (statement : Statement) (schema : List Attr) (x : Ex) → Queries streams statement schema x → IsTypedOver x (length streams) (kinds_in streams) (kinds_of schema)
