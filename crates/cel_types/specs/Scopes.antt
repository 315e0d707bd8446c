-- Where a scalar stands, and which attribute a mark and a name mean there.
use Rattle.std.specs.Prelude.{ℕ, List, Option, Some, None, ◌++◌, codes, slice_index_or}
use Rattle.event_types.specs.declared.kind.Kind.{Kind}
use Rattle.event_types.specs.declared.kind.Kind.TheVariants as kind
use Rattle.semantics.specs.Scalars.{Sc, Event, Binding}
use Rattle.stream_schema.specs.Schema.{Attr, kinds_of, place_of}
use Rattle.cel_grammar.specs.declared.mark.Mark.{Mark}
use Rattle.cel_grammar.specs.declared.mark.Mark.TheVariants as mark

-- over one tuple, in FILTER and SELECT; over the left tuple and the right event of NEXT; over the binding and the event of FOLD
pub data Scope : Type 0 where
  Alone : List Attr → Scope
  Sequence : List Attr → List Attr → Scope
  Iteration : List Attr → List Attr → Scope

-- a term and its kind
pub record Typed : Type 0 where
  pub term : Sc
  pub kind : Kind

-- the attribute at a place of a schema, as a term of one side
abbrev pub at_place : (ℕ → Sc) → List Attr → Option ℕ → Option Typed
at_place side attrs None = None
at_place side attrs (Some place) = Some (record { term = side place; kind = slice_index_or (kinds_of attrs) place kind.Int })

-- the attribute of this name in a schema, if it has one
abbrev pub named : (ℕ → Sc) → List Attr → List ℕ → Option Typed
named side attrs name = at_place side attrs (place_of name attrs)

-- the attribute that a mark and a name mean, if the mark may stand there and the schema has the name (this project's profile)
abbrev pub attribute : Scope → Mark → List ℕ → Option Typed
attribute (Alone attrs) mark.Bare name = named Event attrs name
attribute (Sequence left right) mark.First name = named Binding left name
attribute (Sequence left right) mark.Second name = named Event right name
attribute (Iteration binding event) mark.So name = named Binding binding name
attribute (Iteration binding event) mark.Second name = named Event event name
attribute scope m name = None

-- an attribute as it is written
abbrev pub written : Mark → List ℕ → List ℕ
written mark.Bare name = name
written mark.First name = codes "$1." ++ name
written mark.Second name = codes "$2." ++ name
written mark.So name = codes "$." ++ name
