-- The kind of a typed scalar.
use Rattle.std.proofs.Common.{◌≡◌, ◌∙◌, ap, ℕ, zero, suc, ◌<◌, length, List, [], ◌∷◌, arith}
use Rattle.std.specs.Prelude.{Option, Some, None, slice_get, slice_index_or}
use Rattle.event_types.specs.declared.kind.Kind.{Kind}
use Rattle.event_types.specs.declared.kind.Kind.TheVariants as kind
use Rattle.semantics.specs.Scalars.{Sc, Lit, Event, Binding, Dur, Two}
use Rattle.semantics.specs.Typing.{IsOfKind}
use Rattle.semantics.specs.OpKinds.{op_kind}
use Rattle.scalar_expr.specs.Kinds.{HasPlace, or_int, sc_kind}

-- a kind that is had at a place stands there
at_place : (kinds : List Kind) (place : ℕ) (k : Kind) → slice_get kinds place ≡ Some k → (place < length kinds) × (slice_index_or kinds place kind.Int ≡ k)
at_place [] place k e = cc
at_place (first ∷ kinds) zero k e = (omega arith, cc)
at_place (first ∷ kinds) (suc place) k e = let more = at_place kinds place k e in (omega (arith, more.0), more.1)

-- a scalar of a kind reads places that are there, and its kind is that one
pub typed_has_its_kind : (s : Sc) (event : List Kind) (binding : Option (List Kind)) (k : Kind) → IsOfKind s event binding k → HasPlace s event binding × (sc_kind s event binding ≡ k)
typed_has_its_kind (Lit v) event binding k h = (tt, h)
typed_has_its_kind (Event place) event binding k h = at_place event place k h
typed_has_its_kind (Binding place) event None k h = absurd h
typed_has_its_kind (Binding place) event (Some kinds) k h = at_place kinds place k h
typed_has_its_kind Dur event binding k h = (tt, h)
typed_has_its_kind (Two op x y) event binding k (left, right, hx, hy, e) =
    let first = typed_has_its_kind x event binding left hx in
    let second = typed_has_its_kind y event binding right hy in
    ((first.0, second.0), (λ i. or_int (op_kind op (first.1 i) (second.1 i))) ∙ ap or_int e)
