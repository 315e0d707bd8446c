-- Ids in spans.
use Rattle.std.proofs.Common.{◌≡◌, refl, sym, subst, ℕ, ℤ, pos, negsuc, ◌≤◌, ◌+ℤ◌, ◌-ℤ◌, ◌≤ℤ◌, unsigned_abs, ◌⊎◌, true, List, [], ◌∷◌, ◌++◌, length, inl, inr, Contains, arith}
use Rattle.std.specs.Prelude.{IfSome, Option, Some, None, slice_get}
use Rattle.std.specs.BTreeMap.{BTreeMap, btree_map_len, get, is_at}
use Rattle.std.specs.Map.{lookup}
use Rattle.std.specs.Ordering.{int_cmp, nat_cmp}
use Rattle.std.proofs.lemmas.Int.{ints}
use Rattle.std.proofs.lemmas.List.Elements.{Contains-push_cases}
use Rattle.std.proofs.lemmas.Map.Views.{Contains-from_lookup}
use Rattle.event_types.specs.Tuple.{TupleView}
use Rattle.event_types.specs.declared.value.Value.{Value}
use Rattle.semantics.specs.Values.{value_at}
use Rattle.event_types.specs.declared.value.Value.TheVariants.{Int}
use Rattle.static_index.specs.Buckets.{ids_in, numbered_ids}
use Rattle.static_index.specs.Choosing.{LiesWithin}
use Rattle.static_index.specs.FixedParts.{all_hold, holds_if_any, part_holds}
use Rattle.static_index.specs.Spans.{FindsNear, FindsSpans, IsFrom, IsUpTo, LiesIn, low_ids}
use Rattle.static_index.specs.declared.fixed_part.FixedPart.{FixedPart}
use Rattle.static_index.specs.declared.span.Span.{Span}
use Rattle.static_index.proofs.BucketLemmas.{nat_exact}
use Rattle.static_index.proofs.HoldingLemmas.{part_given}
use Rattle.static_index.proofs.IdLemmas.{none_of_nil}

-- what is found among the low ends of several reaches for a value
abbrev pub FoundAmong : Value → List (ℕ × BTreeMap ℤ (List ℕ)) → List ℕ → Type 0
FoundAmong value reaches found = (reach : ℕ) (lows : BTreeMap ℤ (List ℕ)) → Contains reaches (reach, lows) → FindsNear reach value lows found

-- one reach more
pub FoundAmong-more : (value : Value) (reaches : List (ℕ × BTreeMap ℤ (List ℕ))) (one : ℕ × BTreeMap ℤ (List ℕ)) (old new : List ℕ) → ((n : ℕ) → Contains old n → Contains new n)
    → FindsNear one.0 value one.1 new → FoundAmong value reaches old → FoundAmong value (reaches ++ one ∷ []) new
FoundAmong-more value reaches one old new kept found before reach lows there =
    elim (Contains-push_cases reaches one (reach, lows) there) [
      | inl earlier ↦ λ low n near has. kept n (before reach lows earlier low n near has)
      | inr same ↦ subst (λ (p : ℕ × BTreeMap ℤ (List ℕ)). FindsNear p.0 value p.1 new) same found
    ]

-- what is found among all reaches
pub found_spans : (value : Value) (spans : BTreeMap ℕ (BTreeMap ℤ (List ℕ))) (found : List ℕ) → FoundAmong value spans.entries found → FindsSpans value spans found
found_spans value spans found all span n lies has = go (get nat_cmp spans span.reach) refl has
  where
    go : (o : Option (BTreeMap ℤ (List ℕ))) → get nat_cmp spans span.reach ≡ o → Contains (low_ids o span.low) n → Contains found n
    go None is there = absurd (none_of_nil n there)
    go (Some lows) is there =
        all span.reach lows (Contains-from_lookup {eq = λ x y. is_at (nat_cmp x) y} nat_exact span.reach lows spans.entries is) span.low n lies there

-- an empty map has no low ends
pub none_low : (lows : BTreeMap ℤ (List ℕ)) (low : ℤ) (n : ℕ) → btree_map_len lows ≡ 0 → Contains (numbered_ids lows low) n → ⊥
none_low lows low n empty has = go lows.entries empty has
  where
    go : (es : List (ℤ × List ℕ)) → length es ≡ 0 → Contains (ids_in (lookup (is_at (int_cmp low)) es)) n → ⊥
    go [] empty there = none_of_nil n there
    go (e ∷ es) empty there = omega (arith, empty)

-- a value that is at most a number is at most a greater one
up_to_more : (high more : ℤ) (v : Value) → high ≤ℤ more → IsUpTo high v → IsUpTo more v
up_to_more high more (Int x) le is = omega (arith, ints, le, is)
up_to_more high more v le is = is

-- a value between two ends lies in their span
pub lies_between : (low high : ℤ) (reach : ℕ) (event : TupleView) (attr other : ℕ) → attr ≡ other → high ≤ℤ (low +ℤ pos reach) → IsFrom low (value_at event attr) → IsUpTo high (value_at event other) → LiesIn (record { attr = attr; low = low; reach = reach }) (value_at event attr)
lies_between low high reach event attr other same le from up_to =
    (from, up_to_more high (low +ℤ pos reach) (value_at event attr) le (subst (λ (k : ℕ). IsUpTo high (value_at event k)) (sym same) up_to))

-- a part at a place holds where all do
holds_at : (event : TupleView) (parts : List FixedPart) (place : ℕ) (part : FixedPart) → slice_get parts place ≡ Some part → all_hold event parts ≡ true → part_holds event part ≡ true
holds_at event parts place part at all = subst (λ (o : Option FixedPart). holds_if_any event o ≡ true) at (part_given event parts place all)

-- the span of two parts is one of all of them
pub within_all : (parts : List FixedPart) (low high : ℕ) (x y : FixedPart) (o : Option Span) → slice_get parts low ≡ Some x → slice_get parts high ≡ Some y
    → IfSome o (λ span. (event : TupleView) → part_holds event x ≡ true → part_holds event y ≡ true → LiesIn span (value_at event span.attr)) → IfSome o (LiesWithin parts)
within_all parts low high x y None at_low at_high lies = tt
within_all parts low high x y (Some span) at_low at_high lies = λ event all. lies event (holds_at event parts low x at_low all) (holds_at event parts high y at_high all)

-- what holds of two spans, if they are there, holds of the one that is taken
pub either : (P : Span → Type 0) (one other taken : Option Span) → (taken ≡ one) ⊎ (taken ≡ other) → IfSome one P → IfSome other P → IfSome taken P
either P one other taken (inl same) first second = subst (λ (o : Option Span). IfSome o P) (sym same) first
either P one other taken (inr same) first second = subst (λ (o : Option Span). IfSome o P) (sym same) second

-- two numbers that are at most a reach apart
pub within_reach : (low high : ℤ) (reach : ℕ) → unsigned_abs (high -ℤ low) ≤ reach → high ≤ℤ (low +ℤ pos reach)
within_reach low high reach le = go (high -ℤ low) refl le
  where
    go : (z : ℤ) → high -ℤ low ≡ z → unsigned_abs z ≤ reach → high ≤ℤ (low +ℤ pos reach)
    go (pos n) is le = omega (arith, ints, is, le)
    go (negsuc n) is le = omega (arith, ints, is)
