-- The equality of values, as the program tests it and as their order tells.
use Rattle.std.proofs.Common.{◌≡◌, sym, refl, subst, Bool, true, false, List}
use Rattle.std.specs.Bool.{Decides}
use Rattle.std.specs.List.{IsDistinct}
use Rattle.event_types.specs.Order.{value_cmp}
use Rattle.event_types.specs.OrderLaws.{value_exact, value_total}
use Rattle.event_types.specs.declared.value.Value.{Value}
use Rattle.event_types.specs.contracts.value.ValuePartialEq.TheImpl as derived
use Rattle.scalar_expr.proofs.EqualityLemmas.{ties_decide}
use Rattle.binding_index.specs.Among.{is_key}

-- two tests of one fact agree
agreed : {P : Type 0} (b c : Bool) → Decides b P → Decides c P → b ≡ c
agreed true true h k = refl
agreed true false h k = sym (k.1 (h.0 refl))
agreed false true h k = h.1 (k.0 refl)
agreed false false h k = refl

-- the program's equality is the order's tie
pub eq_same : (derived.eq-value).it ≡ is_key
eq_same = refl

-- a value is the key where the two are one
pub key_decides : (key value : Value) → Decides (is_key key value) (key ≡ value)
key_decides key value = ties_decide value_cmp value_total value_exact key value

-- keys that differ by the program's equality
pub distinct_keys : (keys : List Value) → IsDistinct (derived.eq-value).it keys → IsDistinct is_key keys
distinct_keys keys h = subst (λ (e : Value → Value → Bool). IsDistinct e keys) eq_same h

-- a key is itself
pub key_itself : (key : Value) → is_key key key ≡ true
key_itself key = (key_decides key key).1 refl

-- whether two values are one is the same either way round
pub key_flips : (x y : Value) → is_key x y ≡ is_key y x
key_flips x y = agreed _ _ (key_decides x y) (λ e. sym ((key_decides y x).0 e), λ e. (key_decides y x).1 (sym e))
