-- A query has at most one schema and expression, at most one fault, and not both; its expression is typed.
use Rattle.std.proofs.Common.{◌≡◌, List, length}
use Rattle.semantics.specs.Expressions.{Ex}
use Rattle.semantics.specs.Typing.{IsTypedOver}
use Rattle.stream_schema.specs.Schema.{Attr, kinds_of}
use Rattle.stream_schema.specs.Streams.{Entry}
use Rattle.cel_grammar.specs.Trees.{Statement, Stream, Query}
use Rattle.cel_types.specs.declared.fault.TypeFault.{TypeFault}
use Rattle.cel_types.specs.SourceLaws.{kinds_in}
use Rattle.cel_types.specs.Statements.{Queries, FailsAsQuery}
use Rattle.cel_types.proofs.SourceLaws.{Gives-one, Gives-no_fault}
use Rattle.cel_types.proofs.SourceFaults.{FailsToGive-one}
use Rattle.cel_types.proofs.TypedSources.{gives-typed}

-- a query has one schema and one expression
pub Queries-one : (streams : List Entry) (statement : Statement) (schema other : List Attr) (x y : Ex) → Queries streams statement schema x → Queries streams statement other y → (schema ≡ other) × (x ≡ y)
Queries-one streams (Stream name columns) schema other x y q r = absurd q
Queries-one streams (Query items e name) schema other x y q r = Gives-one q r

-- a query has one first fault
pub FailsAsQuery-one : (streams : List Entry) (statement : Statement) (f g : TypeFault) → FailsAsQuery streams statement f → FailsAsQuery streams statement g → f ≡ g
FailsAsQuery-one streams (Stream name columns) f g q r = absurd q
FailsAsQuery-one streams (Query items e name) f g q r = FailsToGive-one q r

-- a query that has a schema has no fault
pub Queries-no_fault : (streams : List Entry) (statement : Statement) (schema : List Attr) (x : Ex) (f : TypeFault) → Queries streams statement schema x → FailsAsQuery streams statement f → ⊥
Queries-no_fault streams (Stream name columns) schema x f q r = q
Queries-no_fault streams (Query items e name) schema x f q r = Gives-no_fault q r

-- the expression of a query is typed over the streams' kinds
pub query-typed : (streams : List Entry) (statement : Statement) (schema : List Attr) (x : Ex) → Queries streams statement schema x → IsTypedOver x (length streams) (kinds_in streams) (kinds_of schema)
query-typed streams (Stream name columns) schema x q = absurd q
query-typed streams (Query items e name) schema x q = gives-typed q
