-- A result line, field by field.
use Rattle.std.proofs.Common.{◌≡◌, ℕ, List, [], ◌∷◌, ◌++◌, refl, sym, map, append-nil, append_assoc}
use Rattle.std.specs.List.{flat_map, join_with_byte}
use Rattle.event_types.specs.declared.value.Value.{Value}
use Rattle.event_types.specs.Tuple.{TupleView}
use Rattle.semantics.specs.Report.{line, value_text}
use Rattle.result_text.specs.Front.{front_of}
use Rattle.result_text.specs.Tails.{tail_text}

-- each value behind a comma, by induction on the values
join-values : (first : List ℕ) (vals : List Value) → join_with_byte 44 (first ∷ map value_text vals) ≡ first ++ flat_map (λ value. 44 ∷ value_text value) vals
join-values first [] = sym (append-nil first)
join-values first (value ∷ vals) = rw (join-values (value_text value) vals) refl

-- the times and the values, and then the LF
pub join-fields : (from at : List ℕ) (vals : List Value) → from ++ 44 ∷ at ++ flat_map (λ value. 44 ∷ value_text value) vals ++ 10 ∷ [] ≡ join_with_byte 44 (from ∷ at ∷ map value_text vals) ++ 10 ∷ []
join-fields from at vals = rw (join-values at vals) (simp append_assoc)

-- the front of a name and a tail are a line
pub front-line : (name front : List ℕ) (tuple : TupleView) → front ≡ front_of name → front ++ tail_text tuple ≡ line name tuple
front-line name front tuple made = rw made (simp append_assoc)
