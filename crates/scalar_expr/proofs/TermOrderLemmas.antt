-- Terms that tie in the canonical order are one.
use Rattle.std.proofs.Common.{◌≡◌, ap, refl}
use Rattle.std.specs.declared.cmp.Ordering.{Ordering}
use Rattle.std.specs.declared.cmp.Ordering.TheVariants.{Less, Equal, Greater}
use Rattle.std.specs.Ordering.{nat_cmp, ordering_then}
use Rattle.std.proofs.lemmas.Map.Lookups.{CmpEqualImpliesEq, exact_unsigned}
use Rattle.event_types.specs.declared.comparison.Cmp.{Cmp}
use Rattle.event_types.specs.declared.comparison.Cmp.TheVariants as cmp
use Rattle.event_types.specs.OrderLaws.{value_exact}
use Rattle.semantics.specs.Scalars.{Op, Add, Sub, Mul, Min, Max, Lit, Event, Binding, Dur, Two, True, Test, And, Or, Not}
use Rattle.scalar_expr.specs.TermOrder.{op_place, cmp_place, sc_cmp, pr_cmp}

-- both parts of a tie tie
both_equal : (o p : Ordering) → ordering_then o p ≡ Equal → (o ≡ Equal) × (p ≡ Equal)
both_equal Less p e = cc
both_equal Equal p e = (refl, e)
both_equal Greater p e = cc

op_one : (o p : Op) → nat_cmp (op_place o) (op_place p) ≡ Equal → o ≡ p
op_one Add Add e = refl
op_one Sub Sub e = refl
op_one Mul Mul e = refl
op_one Min Min e = refl
op_one Max Max e = refl
op_one o p e = cc

cmp_one : (c d : Cmp) → nat_cmp (cmp_place c) (cmp_place d) ≡ Equal → c ≡ d
cmp_one cmp.Eq cmp.Eq e = refl
cmp_one cmp.Ne cmp.Ne e = refl
cmp_one cmp.Lt cmp.Lt e = refl
cmp_one cmp.Le cmp.Le e = refl
cmp_one cmp.Gt cmp.Gt e = refl
cmp_one cmp.Ge cmp.Ge e = refl
cmp_one c d e = cc

-- scalars that tie are one
pub sc_exact : CmpEqualImpliesEq sc_cmp
sc_exact (Lit v) (Lit w) e = ap Lit (value_exact v w e)
sc_exact (Event i) (Event j) e = ap Event (exact_unsigned i j e)
sc_exact (Binding i) (Binding j) e = ap Binding (exact_unsigned i j e)
sc_exact Dur Dur e = refl
sc_exact (Two op x y) (Two op' x' y') e =
    let first = both_equal (nat_cmp (op_place op) (op_place op')) _ e in
    let rest = both_equal (sc_cmp x x') (sc_cmp y y') first.1 in
    λ i. Two (op_one op op' first.0 i) (sc_exact x x' rest.0 i) (sc_exact y y' rest.1 i)
sc_exact (Two Add x y) z e = cc
sc_exact (Two Sub x y) z e = cc
sc_exact (Two Mul x y) z e = cc
sc_exact (Two Min x y) z e = cc
sc_exact (Two Max x y) z e = cc
sc_exact z (Two Add x y) e = cc
sc_exact z (Two Sub x y) e = cc
sc_exact z (Two Mul x y) e = cc
sc_exact z (Two Min x y) e = cc
sc_exact z (Two Max x y) e = cc
sc_exact x y e = cc

-- predicates that tie are one
pub pr_exact : CmpEqualImpliesEq pr_cmp
pr_exact True True e = refl
pr_exact (Test x c y) (Test x' c' y') e =
    let first = both_equal (sc_cmp x x') _ e in
    let rest = both_equal (nat_cmp (cmp_place c) (cmp_place c')) (sc_cmp y y') first.1 in
    λ i. Test (sc_exact x x' first.0 i) (cmp_one c c' rest.0 i) (sc_exact y y' rest.1 i)
pr_exact (And p q) (And p' q') e =
    let both = both_equal (pr_cmp p p') (pr_cmp q q') e in λ i. And (pr_exact p p' both.0 i) (pr_exact q q' both.1 i)
pr_exact (Or p q) (Or p' q') e =
    let both = both_equal (pr_cmp p p') (pr_cmp q q') e in λ i. Or (pr_exact p p' both.0 i) (pr_exact q q' both.1 i)
pr_exact (Not p) (Not p') e = ap Not (pr_exact p p' e)
pr_exact p q e = cc
