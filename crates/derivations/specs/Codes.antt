-- The codes by which a proof tells derivations apart. No contract is about them.
use Rattle.std.specs.Prelude.{◌≡◌, ℕ, List, refl}
use Rattle.std.proofs.Common.{ap}
use base.Stored.{Gv, gnil, gnum, gcons}
use Rattle.std.specs.Coded.{Coded, code_by, coded_list, coded×}
use Rattle.event_types.specs.contracts.tuple.Tuple as tuple
use Rattle.event_types.specs.Tuple.{TupleView}
use Rattle.derivations.specs.Derivation.{Derivation, Derivations}
use Rattle.derivations.specs.Derivation as the
use Rattle.derivations.specs.DerivedTuples.{DerivedTuple}

-- the first of a pair of codes
abbrev head : Gv → Gv
head (gcons a b) = a
head g = gnil

-- the second of them
abbrev tail : Gv → Gv
tail (gcons a b) = b
tail g = gnil

-- the number of a code
abbrev num : Gv → ℕ
num (gnum n) = n
num g = 0

abbrev mutual
  -- the code of a derivation: its variant, and the codes of its parts
  by_gv : Derivation → Gv
  by_gv (the.Event place) = gcons (gnum 0) (gnum place)
  by_gv (the.Query by) = gcons (gnum 1) (by_gv by)
  by_gv (the.Left by) = gcons (gnum 2) (by_gv by)
  by_gv (the.Right by) = gcons (gnum 3) (by_gv by)
  by_gv (the.Next by next_by) = gcons (gnum 4) (gcons (by_gv by) (by_gv next_by))
  by_gv (the.Fold by all_by) = gcons (gnum 5) (gcons (by_gv by) (all_gv all_by))

  all_gv : Derivations → Gv
  all_gv the.None = gnil
  all_gv (the.More by later) = gcons (by_gv by) (all_gv later)

mutual
  -- no two derivations have one code
  pub by_one : (x y : Derivation) → by_gv x ≡ by_gv y → x ≡ y
  by_one (the.Event i) (the.Event j) e = ap (λ g. the.Event (num (tail g))) e
  by_one (the.Query x) (the.Query y) e = ap the.Query (by_one x y (ap tail e))
  by_one (the.Left x) (the.Left y) e = ap the.Left (by_one x y (ap tail e))
  by_one (the.Right x) (the.Right y) e = ap the.Right (by_one x y (ap tail e))
  by_one (the.Next x x') (the.Next y y') e = λ i. the.Next (by_one x y (ap (λ g. head (tail g)) e) i) (by_one x' y' (ap (λ g. tail (tail g)) e) i)
  by_one (the.Fold x xs) (the.Fold y ys) e = λ i. the.Fold (by_one x y (ap (λ g. head (tail g)) e) i) (all_one xs ys (ap (λ g. tail (tail g)) e) i)
  by_one x y e = cc

  pub all_one : (xs ys : Derivations) → all_gv xs ≡ all_gv ys → xs ≡ ys
  all_one the.None the.None e = refl
  all_one (the.More x xs) (the.More y ys) e = λ i. the.More (by_one x y (ap head e) i) (all_one xs ys (ap tail e) i)
  all_one xs ys e = cc

-- the codes of tuples with their derivations
abbrev pub derived_code : Coded DerivedTuple
derived_code =
    code_by (TupleView × Derivation) (coded× tuple.the_row.coded (record { code = by_gv; inj = by_one })) (λ x. (x.tuple, x.by)) (λ p. record { tuple = p.0; by = p.1 }) (λ _. refl)

-- the codes of lists of them
abbrev pub deriveds_code : Coded (List DerivedTuple)
deriveds_code = coded_list derived_code
