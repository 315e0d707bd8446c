-- Hashes that go on with a scalar, a predicate, a conjunction and a projection.
use Rattle.std.specs.Prelude.{ℕ, List}
use Rattle.std.specs.Hash as fed
use Rattle.std.specs.Hash.DefaultHasher as sip
use Rattle.std.specs.List.{fold}
use Rattle.std.specs.declared.hash.DefaultHasher.{DefaultHasher}
use Rattle.event_types.specs.declared.value.Value.{Value}
use Rattle.event_types.specs.declared.value.Value.TheVariants as value
use Rattle.semantics.specs.Scalars.{Sc, Lit, Event, Binding, Dur, Two, Pr, Projection, True, Test, And, Or, Not}
use Rattle.scalar_expr.specs.TermOrder.{cmp_place, pr_place, sc_place}

-- a hash that goes on with more writes
abbrev pub with_writes : DefaultHasher → List (List ℕ) → DefaultHasher
with_writes hasher writes = fold sip.write hasher writes

-- a hash that goes on with a literal
abbrev pub with_value : DefaultHasher → Value → DefaultHasher
with_value hasher (value.Int number) = with_writes hasher (fed.i128 number)
with_value hasher value.Over = hasher
with_value hasher (value.Text text) = sip.write hasher text
with_value hasher (value.Dec scale units) = with_writes hasher (fed.i128 units)

-- a hash that goes on with a scalar: its variant, and then its parts from left to right
abbrev pub with_scalar : DefaultHasher → Sc → DefaultHasher
with_scalar hasher (Lit v) = with_value (with_writes hasher (fed.u8 (sc_place (Lit v)))) v
with_scalar hasher (Event place) = with_writes (with_writes hasher (fed.u8 (sc_place (Event place)))) (fed.usize place)
with_scalar hasher (Binding place) = with_writes (with_writes hasher (fed.u8 (sc_place (Binding place)))) (fed.usize place)
with_scalar hasher Dur = with_writes hasher (fed.u8 (sc_place Dur))
with_scalar hasher (Two op x y) = with_scalar (with_scalar (with_writes hasher (fed.u8 (sc_place (Two op x y)))) x) y

-- a hash that goes on with a predicate: its variant, and then its parts from left to right
abbrev pub with_pred : DefaultHasher → Pr → DefaultHasher
with_pred hasher True = with_writes hasher (fed.u8 (pr_place True))
with_pred hasher (Test x cmp y) = with_scalar (with_scalar (with_writes (with_writes hasher (fed.u8 (pr_place (Test x cmp y)))) (fed.u8 (cmp_place cmp))) x) y
with_pred hasher (And p q) = with_pred (with_pred (with_writes hasher (fed.u8 (pr_place (And p q)))) p) q
with_pred hasher (Or p q) = with_pred (with_pred (with_writes hasher (fed.u8 (pr_place (Or p q)))) p) q
with_pred hasher (Not p) = with_pred (with_writes hasher (fed.u8 (pr_place (Not p)))) p

-- a hash that goes on with the parts of a conjunction
abbrev pub with_condition : DefaultHasher → List Pr → DefaultHasher
with_condition hasher condition = fold with_pred hasher condition

-- a hash that goes on with the width of a projection and its scalars
abbrev pub with_projection : DefaultHasher → Projection → DefaultHasher
with_projection hasher projection = fold with_scalar (with_writes hasher (fed.usize projection.width)) projection.parts
