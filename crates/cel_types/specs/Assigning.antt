-- What holds while aggregates assign. No public clause cites this module.
use Rattle.std.specs.Prelude.{◌≡◌, ℕ, List, [], ◌∷◌, slice_set, map}
use Rattle.semantics.specs.Scalars.{Sc}
use Rattle.stream_schema.specs.Schema.{Attr}
use Rattle.cel_grammar.specs.Trees.{Agg, Set}
use Rattle.cel_types.specs.Aggregates.{Assign, Assignment, rebinding}

-- the name that an aggregate assigns
abbrev pub name_in : Agg → List ℕ
name_in (Set x name) = name

-- the names that aggregates assign, in order
abbrev pub names_in : List Agg → List (List ℕ)
names_in aggs = map name_in aggs

-- behind aggregates of these names, the aggregate assigns a term, which stands at its place in the new terms
pub record Assigns (binding event : List Attr) (names : List (List ℕ)) (agg : Agg) (before after : List Sc) : Type 0 where
  pub one : Assignment
  pub assigns : Assign binding event names (agg ∷ []) (one ∷ [])
  pub terms : after ≡ slice_set before one.place one.term

-- the aggregates assign, and these are the terms of the new binding
pub record Rebinds (binding event : List Attr) (aggs : List Agg) (terms : List Sc) : Type 0 where
  pub assignments : List Assignment
  pub assigns : Assign binding event [] aggs assignments
  pub value : terms ≡ rebinding binding assignments
