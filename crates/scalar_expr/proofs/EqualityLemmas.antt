-- Lists of terms that are the same one by one.
use Rattle.std.proofs.Common.{◌≡◌, ◌∙◌, sym, ap, Bool, List, map}
use Rattle.std.specs.declared.cmp.Ordering.{Ordering}
use Rattle.std.specs.Bool.{Decides}
use Rattle.std.specs.Cmp.{IsTotalOrder, tied_itself}
use Rattle.std.specs.Cmp.Lexicographic.{pointwise}
use Rattle.std.specs.Cmp.Derive.Mapped.{pointwise-map}
use Rattle.std.specs.Ordering.{eq_by_cmp, is_eq}
use Rattle.std.proofs.lemmas.Map.Lookups.{CmpEqualImpliesEq}
use Rattle.std.proofs.lemmas.Slice.Eq.{slice_eq-Decides}
use Rattle.scalar_expr.proofs.CanonicalLaws.{tied}

-- items of a total order tie where they are one
module _ {X : Type 0} (R : X → X → Ordering) (total : IsTotalOrder R) (exact : CmpEqualImpliesEq R) where
  -- two tie exactly where they are one
  pub ties_decide : (x y : X) → Decides (eq_by_cmp R x y) (x ≡ y)
  ties_decide x y = (λ e. tied R exact x y e, λ e. ap (λ z. is_eq (R x z)) (sym e) ∙ ap is_eq (tied_itself total x))

  -- and lists of what is seen of them
  pub lists_decide : {Y : Type 0} (seen : Y → X) (xs ys : List Y) (r : Bool) → r ≡ pointwise (λ x y. eq_by_cmp R (seen x) (seen y)) xs ys → Decides r (map seen xs ≡ map seen ys)
  lists_decide seen xs ys r is = slice_eq-Decides ties_decide (map seen xs) (map seen ys) r (is ∙ sym (pointwise-map seen (eq_by_cmp R) xs ys))
