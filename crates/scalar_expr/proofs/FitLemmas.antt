-- What is typed fits, and its values have its kinds.
use Rattle.std.proofs.Common.{◌≡◌, ◌∙◌, ℕ, ◌+◌, ℤ, refl, subst, true, false, cond, List, [], ◌∷◌, map}
use Rattle.std.specs.Prelude.{◌==◌, ◌*ℤ◌, nat_le, if◌then◌else◌, ⊤, Option, Some, None}
use Rattle.std.specs.List.{All}
use Rattle.std.proofs.lemmas.List.Elements.{All-nil, All-cons, All-weaker}
use Rattle.event_types.specs.declared.kind.Kind.{Kind}
use Rattle.event_types.specs.declared.kind.Kind.TheVariants as kind
use Rattle.event_types.specs.declared.value.Value.{Value}
use Rattle.event_types.specs.declared.value.Value.TheVariants as value
use Rattle.event_types.specs.Tuple.{TupleView}
use Rattle.semantics.specs.Scalars.{Op, Add, Sub, Mul, Min, Max, Sc, Lit, Event, Binding, Dur, Two, Pr, True, Test, And, Or, Not}
use Rattle.scalar_expr.specs.Fits.{Fits, PredFits, AllFit}
use Rattle.semantics.specs.Values.{val, clipped, combined, is_in_range, result_of, scaled}
use Rattle.semantics.specs.Kinds.{TakesOver, ValuesHaveKinds, ValueHasKind, HasKinds}
use Rattle.semantics.specs.OpKinds.{alike_kind, op_kind, product_kind}
use Rattle.semantics.proofs.KindLemmas.{kind_at_place, of_its_kind}
use Rattle.semantics.specs.Typing.{IsOfKind, IsTyped, AreTyped, AreOfKinds}

-- a binding of these kinds, where there is to be one
abbrev pub BindingHasKinds : Option (List Kind) → Option TupleView → Type 0
BindingHasKinds None None = ⊤
BindingHasKinds (Some ks) (Some b) = HasKinds ks b
BindingHasKinds None (Some b) = ⊥
BindingHasKinds (Some ks) None = ⊥

-- OVER is of the kind of any operation
over_of_product : (k l m : Kind) → product_kind k l ≡ Some m → TakesOver m
over_of_product kind.Int kind.Int m e = let same : kind.Int ≡ m = cc in subst TakesOver same tt
over_of_product kind.Int (kind.Dec t) m e = let same : kind.Dec t ≡ m = cc in subst TakesOver same tt
over_of_product (kind.Dec s) kind.Int m e = let same : kind.Dec s ≡ m = cc in subst TakesOver same tt
over_of_product (kind.Dec s) (kind.Dec t) m e =
    elim (nat_le (s + t) 18) as (λ b. cond b (Some (kind.Dec (s + t))) None ≡ Some m → TakesOver m) [
      | true ↦ λ some. let same : kind.Dec (s + t) ≡ m = cc in subst TakesOver same tt
      | false ↦ λ none. absurd cc
    ] e
over_of_product k l m e = absurd cc

over_of_alike : (k l m : Kind) → alike_kind k l ≡ Some m → TakesOver m
over_of_alike kind.Int kind.Int m e = let same : kind.Int ≡ m = cc in subst TakesOver same tt
over_of_alike (kind.Dec s) (kind.Dec t) m e =
    elim (s == t) as (λ b. cond b (Some (kind.Dec s)) None ≡ Some m → TakesOver m) [
      | true ↦ λ some. let same : kind.Dec s ≡ m = cc in subst TakesOver same tt
      | false ↦ λ none. absurd cc
    ] e
over_of_alike k l m e = absurd cc

over_of_op : (o : Op) (k l m : Kind) → op_kind o k l ≡ Some m → TakesOver m
over_of_op Mul k l m e = over_of_product k l m e
over_of_op o k l m e = over_of_alike k l m e

-- what is clipped is a whole number, or OVER
clipped_kind : (z : ℤ) → ValueHasKind kind.Int (clipped z)
clipped_kind z = elim (is_in_range z) as (λ b. ValueHasKind kind.Int (cond b (value.Int z) value.Over)) [ true ↦ refl | false ↦ tt ]

-- units of a scale are a decimal of it, or OVER
scaled_kind : (s : ℕ) (z : ℤ) → ValueHasKind (kind.Dec s) (scaled s z)
scaled_kind s z = elim (is_in_range z) as (λ b. ValueHasKind (kind.Dec s) (cond b (value.Dec s z) value.Over)) [ true ↦ refl | false ↦ tt ]

-- no operation has a text as an operand
no_text : (o : Op) (l m : Kind) → op_kind o kind.Text l ≡ Some m → ⊥
no_text Mul l m e = cc
no_text o l m e = cc

no_text_behind : (o : Op) (k m : Kind) → op_kind o k kind.Text ≡ Some m → ⊥
no_text_behind Mul kind.Int m e = cc
no_text_behind Mul kind.Text m e = cc
no_text_behind Mul (kind.Dec s) m e = cc
no_text_behind o kind.Int m e = cc
no_text_behind o kind.Text m e = cc
no_text_behind o (kind.Dec s) m e = cc

-- an operation on whole numbers is one
ints_kind : (o : Op) (m : Kind) → op_kind o kind.Int kind.Int ≡ Some m → kind.Int ≡ m
ints_kind Mul m e = cc
ints_kind o m e = cc

-- only a product has operands of two sorts
int_dec : (o : Op) (t : ℕ) (x y : ℤ) (m : Kind) → op_kind o kind.Int (kind.Dec t) ≡ Some m → ValueHasKind m (combined o (value.Int x) (value.Dec t y))
int_dec Mul t x y m e = let same : kind.Dec t ≡ m = cc in subst (λ j. ValueHasKind j (scaled t (x *ℤ y))) same (scaled_kind t (x *ℤ y))
int_dec o t x y m e = absurd cc

dec_int : (o : Op) (s : ℕ) (x y : ℤ) (m : Kind) → op_kind o (kind.Dec s) kind.Int ≡ Some m → ValueHasKind m (combined o (value.Dec s x) (value.Int y))
dec_int Mul s x y m e = let same : kind.Dec s ≡ m = cc in subst (λ j. ValueHasKind j (scaled s (x *ℤ y))) same (scaled_kind s (x *ℤ y))
dec_int o s x y m e = absurd cc

-- an operation on decimals of one scale is a decimal of that scale
same_scale : (s t : ℕ) (z : ℤ) (m : Kind) → alike_kind (kind.Dec s) (kind.Dec t) ≡ Some m → ValueHasKind m (if s == t then scaled s z else value.Over)
same_scale s t z m e =
    elim (s == t) as (λ b. cond b (Some (kind.Dec s)) None ≡ Some m → ValueHasKind m (cond b (scaled s z) value.Over)) [
      | true ↦ λ some. let same : kind.Dec s ≡ m = cc in subst (λ j. ValueHasKind j (scaled s z)) same (scaled_kind s z)
      | false ↦ λ none. absurd cc
    ] e

-- a product of decimals has the places of both
both_scales : (s t : ℕ) (z : ℤ) (m : Kind) → product_kind (kind.Dec s) (kind.Dec t) ≡ Some m → ValueHasKind m (if nat_le (s + t) 18 then scaled (s + t) z else value.Over)
both_scales s t z m e =
    elim (nat_le (s + t) 18) as (λ b. cond b (Some (kind.Dec (s + t))) None ≡ Some m → ValueHasKind m (cond b (scaled (s + t) z) value.Over)) [
      | true ↦ λ some. let same : kind.Dec (s + t) ≡ m = cc in subst (λ j. ValueHasKind j (scaled (s + t) z)) same (scaled_kind (s + t) z)
      | false ↦ λ none. absurd cc
    ] e

decs_kind : (o : Op) (s t : ℕ) (x y : ℤ) (m : Kind) → op_kind o (kind.Dec s) (kind.Dec t) ≡ Some m → ValueHasKind m (combined o (value.Dec s x) (value.Dec t y))
decs_kind Mul s t x y m e = both_scales s t (x *ℤ y) m e
decs_kind Add s t x y m e = same_scale s t (result_of Add x y) m e
decs_kind Sub s t x y m e = same_scale s t (result_of Sub x y) m e
decs_kind Min s t x y m e = same_scale s t (result_of Min x y) m e
decs_kind Max s t x y m e = same_scale s t (result_of Max x y) m e

dec_over : (o : Op) (s : ℕ) (x : ℤ) (m : Kind) → TakesOver m → ValueHasKind m (combined o (value.Dec s x) value.Over)
dec_over Mul s x m h = h
dec_over o s x m h = h

-- an operation on values of kinds that it takes gives a value of its kind
module _ (o : Op) (k l m : Kind) (e : op_kind o k l ≡ Some m) where
  of_both : {i j : Kind} → i ≡ k → j ≡ l → op_kind o i j ≡ Some m
  of_both hx hy = (λ n. op_kind o (hx n) (hy n)) ∙ e

  combined_kind : (x y : Value) → ValueHasKind k x → ValueHasKind l y → ValueHasKind m (combined o x y)
  combined_kind value.Over y hx hy = over_of_op o k l m e
  combined_kind (value.Text x) y hx hy = absurd (no_text o l m (of_both hx refl))
  combined_kind (value.Int x) value.Over hx hy = over_of_op o k l m e
  combined_kind (value.Int x) (value.Text y) hx hy = absurd (no_text_behind o k m (of_both refl hy))
  combined_kind (value.Int x) (value.Int y) hx hy = subst (λ j. ValueHasKind j (clipped (result_of o x y))) (ints_kind o m (of_both hx hy)) (clipped_kind (result_of o x y))
  combined_kind (value.Int x) (value.Dec t y) hx hy = int_dec o t x y m (of_both hx hy)
  combined_kind (value.Dec s x) value.Over hx hy = dec_over o s x m (over_of_op o k l m e)
  combined_kind (value.Dec s x) (value.Text y) hx hy = absurd (no_text_behind o k m (of_both refl hy))
  combined_kind (value.Dec s x) (value.Int y) hx hy = dec_int o s x y m (of_both hx hy)
  combined_kind (value.Dec s x) (value.Dec t y) hx hy = decs_kind o s t x y m (of_both hx hy)

-- a scalar of a kind fits, and its value is of that kind
typed_scalar : (s : Sc) (es : List Kind) (bs : Option (List Kind)) (k : Kind) (e : TupleView) (b : Option TupleView) → IsOfKind s es bs k → HasKinds es e → BindingHasKinds bs b → Fits s e b × ValueHasKind k (val s e b)
typed_scalar (Lit v) es bs k e b h he hb = (tt, of_its_kind v k h)
typed_scalar (Event i) es bs k e b h he hb = kind_at_place es e.vals i k he h
typed_scalar (Binding i) es None k e b h he hb = absurd h
typed_scalar (Binding i) es (Some bs) k e None h he hb = absurd hb
typed_scalar (Binding i) es (Some bs) k e (Some b) h he hb = kind_at_place bs b.vals i k hb h
typed_scalar Dur es bs k e b h he hb = (tt, h)
typed_scalar (Two o x y) es bs k e b (left, right, hx, hy, is) he hb =
    let first = typed_scalar x es bs left e b hx he hb in
    let second = typed_scalar y es bs right e b hy he hb in
    ((first.0, second.0), combined_kind o left right k is (val x e b) (val y e b) first.1 second.1)

-- a typed predicate fits
typed_test : (p : Pr) (es : List Kind) (bs : Option (List Kind)) (e : TupleView) (b : Option TupleView) → IsTyped p es bs → HasKinds es e → BindingHasKinds bs b → PredFits p e b
typed_test True es bs e b h he hb = tt
typed_test (Test x c y) es bs e b h he hb = ((typed_scalar x es bs h.0 e b h.1 he hb).0, (typed_scalar y es bs h.0 e b h.2 he hb).0)
typed_test (And p q) es bs e b h he hb = (typed_test p es bs e b h.0 he hb, typed_test q es bs e b h.1 he hb)
typed_test (Or p q) es bs e b h he hb = (typed_test p es bs e b h.0 he hb, typed_test q es bs e b h.1 he hb)
typed_test (Not p) es bs e b h he hb = typed_test p es bs e b h he hb

-- a typed condition fits
pub typed_tests : (ps : List Pr) (es : List Kind) (bs : Option (List Kind)) (e : TupleView) (b : Option TupleView) → AreTyped ps es bs → HasKinds es e → BindingHasKinds bs b → AllFit ps e b
typed_tests ps es bs e b h he hb = All-weaker (λ p. IsTyped p es bs) (λ p. PredFits p e b) (λ p hp. typed_test p es bs e b hp he hb) ps h

-- scalars of these kinds fit
pub typed_fits : (m : List Sc) (es : List Kind) (bs : Option (List Kind)) (ks : List Kind) (e : TupleView) (b : Option TupleView) → AreOfKinds m es bs ks → HasKinds es e → BindingHasKinds bs b → All (λ s. Fits s e b) m
typed_fits [] es bs [] e b h he hb = All-nil _
typed_fits [] es bs (k ∷ ks) e b h he hb = All-nil _
typed_fits (s ∷ m) es bs [] e b h he hb = absurd h
typed_fits (s ∷ m) es bs (k ∷ ks) e b h he hb = All-cons (λ s. Fits s e b) s m (typed_scalar s es bs k e b h.0 he hb).0 (typed_fits m es bs ks e b h.1 he hb)

-- their values have these kinds
pub typed_image : (m : List Sc) (es : List Kind) (bs : Option (List Kind)) (ks : List Kind) (e : TupleView) (b : Option TupleView) → AreOfKinds m es bs ks → HasKinds es e → BindingHasKinds bs b → ValuesHaveKinds ks (map (λ s. val s e b) m)
typed_image [] es bs [] e b h he hb = tt
typed_image [] es bs (k ∷ ks) e b h he hb = absurd h
typed_image (s ∷ m) es bs [] e b h he hb = absurd h
typed_image (s ∷ m) es bs (k ∷ ks) e b h he hb = ((typed_scalar s es bs k e b h.0 he hb).1, typed_image m es bs ks e b h.1 he hb)
