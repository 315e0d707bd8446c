-- Ids in columns.
use Rattle.std.proofs.Common.{◌≡◌, ◌==◌, ap, refl, sym, subst, eqb-true, cond, ℕ, Bool, true, false, List, ◌++◌, Contains}
use Rattle.std.specs.Prelude.{Option, Some, None}
use Rattle.std.specs.declared.cmp.Ordering.{Ordering}
use Rattle.std.specs.declared.cmp.Ordering.TheVariants.{Less, Equal, Greater}
use Rattle.std.specs.Ordering.{int_cmp, nat_cmp}
use Rattle.std.specs.Cmp.Lexicographic.{slice_cmp}
use Rattle.std.proofs.lemmas.List.Elements.{Contains-append_left, Contains-append_right}
use Rattle.std.proofs.lemmas.Map.Lookups.{exact_signed, exact_bytes}
use Rattle.event_types.specs.declared.comparison.Cmp.{Cmp}
use Rattle.event_types.specs.declared.comparison.Cmp.TheVariants as cmp
use Rattle.event_types.specs.declared.value.Value.{Value}
use Rattle.event_types.specs.declared.value.Value.TheVariants.{Int, Text, Dec}
use Rattle.semantics.specs.Truth.{is_met, order_of}
use Rattle.static_index.specs.Buckets.{hashed_ids}
use Rattle.static_index.specs.Columns.{ids_compared, ids_under}
use Rattle.static_index.specs.Headings.{IsMetBy, Label, Part, Within}
use Rattle.static_index.specs.Limits.{limit_ids}
use Rattle.static_index.specs.Spans.{LiesIn, span_ids}
use Rattle.static_index.specs.declared.column.Column.{Column}
use Rattle.static_index.specs.declared.span.Span.{Span}
use Rattle.static_index.proofs.BucketLemmas.{tie}

-- an id stays in a column where each part of it keeps the id
pub column_kept : (old new : Column) (n : ℕ) → ((l : Value) → Contains (hashed_ids old.equal l) n → Contains (hashed_ids new.equal l) n)
    → ((l : Value) → Contains (limit_ids old.above l) n → Contains (limit_ids new.above l) n)
    → ((l : Value) → Contains (limit_ids old.below l) n → Contains (limit_ids new.below l) n)
    → (Contains old.unequal n → Contains new.unequal n)
    → ((span : Span) → Contains (span_ids old.spans span) n → Contains (span_ids new.spans span) n)
    → (label : Label) → Contains (ids_under old label) n → Contains (ids_under new label) n
column_kept old new n equal above below unequal spans (Within span) has = spans span has
column_kept old new n equal above below unequal spans (Part part) has = go part.cmp has
  where
    go : (c : Cmp) → Contains (ids_compared old c part.lit) n → Contains (ids_compared new c part.lit) n
    go cmp.Eq has = equal part.lit has
    go cmp.Ne has = unequal has
    go cmp.Lt has = below part.lit has
    go cmp.Le has = below part.lit has
    go cmp.Gt has = above part.lit has
    go cmp.Ge has = above part.lit has

-- values that meet `=` are one
met_equal : (v l : Value) → is_met cmp.Eq (order_of v l) ≡ true → v ≡ l
met_equal (Int x) (Int y) e = ap Int (exact_signed x y (tie (int_cmp x y) e))
met_equal (Text x) (Text y) e = ap Text (exact_bytes x y (tie (slice_cmp nat_cmp x y) e))
met_equal (Dec s x) (Dec t y) e = one_scale (s == t) refl e
  where
    one_scale : (b : Bool) → (s == t) ≡ b → is_met cmp.Eq (cond b (Some (int_cmp x y)) None) ≡ true → Dec s x ≡ Dec t y
    one_scale true is e = λ i. Dec (eqb-true s t is i) (exact_signed x y (tie (int_cmp x y) e) i)
    one_scale false is e = absurd (cc)
met_equal v l e = absurd (cc)

-- what is above is not below, and what is below is not above
above_at : (o : Option Ordering) → is_met cmp.Gt o ≡ true → is_met cmp.Ge o ≡ true
above_at None e = e
above_at (Some Less) e = absurd (cc)
above_at (Some Equal) e = refl
above_at (Some Greater) e = refl

below_at : (o : Option Ordering) → is_met cmp.Lt o ≡ true → is_met cmp.Le o ≡ true
below_at None e = e
below_at (Some Less) e = refl
below_at (Some Equal) e = refl
below_at (Some Greater) e = absurd (cc)

-- what a column's five steps find
module _ (column : Column) (value : Value) (n : ℕ) (none equal above below within all : List ℕ) (first : equal ≡ none ++ hashed_ids column.equal value)
    (kept : Contains equal n → Contains above n) (second : (l : Value) → is_met cmp.Ge (order_of value l) ≡ true → Contains (limit_ids column.above l) n → Contains above n)
    (kept_on : Contains above n → Contains below n) (third : (l : Value) → is_met cmp.Le (order_of value l) ≡ true → Contains (limit_ids column.below l) n → Contains below n)
    (kept_within : Contains below n → Contains within n) (fourth : (span : Span) → LiesIn span value → Contains (span_ids column.spans span) n → Contains within n)
    (last : all ≡ within ++ column.unequal) where
  at_last : Contains within n → Contains all n
  at_last has = subst (λ (ids : List ℕ). Contains ids n) (sym last) (Contains-append_left within column.unequal n has)

  after : Contains below n → Contains all n
  after has = at_last (kept_within has)

  -- an id that was there before the steps is there after them
  pub stays : Contains none n → Contains all n
  stays has = after (kept_on (kept (subst (λ (ids : List ℕ). Contains ids n) (sym first) (Contains-append_left none (hashed_ids column.equal value) n has))))

  compared : (c : Cmp) (l : Value) → is_met c (order_of value l) ≡ true → Contains (ids_compared column c l) n → Contains all n
  compared cmp.Eq l met has =
      let here = subst (λ (v : Value). Contains (hashed_ids column.equal v) n) (sym (met_equal value l met)) has in
      after (kept_on (kept (subst (λ (ids : List ℕ). Contains ids n) (sym first) (Contains-append_right none (hashed_ids column.equal value) n here))))
  compared cmp.Ne l met has = subst (λ (ids : List ℕ). Contains ids n) (sym last) (Contains-append_right within column.unequal n has)
  compared cmp.Lt l met has = after (third l (below_at (order_of value l) met) has)
  compared cmp.Le l met has = after (third l met has)
  compared cmp.Gt l met has = after (kept_on (second l (above_at (order_of value l) met) has))
  compared cmp.Ge l met has = after (kept_on (second l met has))

  -- an id under a label that the value meets is there after them
  pub collected : (label : Label) → IsMetBy value label → Contains (ids_under column label) n → Contains all n
  collected (Part part) met has = compared part.cmp part.lit met has
  collected (Within span) met has = at_last (fourth span met has)
