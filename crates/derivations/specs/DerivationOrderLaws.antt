-- The order of derivations is total, and those that tie are one. No contract cites this; the impls of the order and proofs do.
use Rattle.std.proofs.Common.{◌≡◌, ◌∙◌, sym, ap, subst, refl, ℕ, List, [], ◌∷◌, ◌++◌, append_assoc, append-nil}
use Rattle.std.specs.declared.cmp.Ordering.{Ordering}
use Rattle.std.specs.declared.cmp.Ordering.TheVariants.{Less, Equal, Greater}
use Rattle.std.specs.Ordering.{nat_cmp, on, ordering_then}
use Rattle.std.specs.Cmp.{IsTotalOrder}
use Rattle.std.specs.Cmp.Lexicographic.{slice_cmp}
use Rattle.std.proofs.lemmas.Cmp.{lists_total, nat_cmp_total, on_total, then_total}
use Rattle.std.proofs.lemmas.Map.Lookups.{CmpEqualImpliesEq, exact_unsigned}
use Rattle.event_types.specs.Order.{tuple_cmp}
use Rattle.event_types.specs.OrderLaws.{tuple_total, tuple_exact}
use Rattle.derivations.specs.Derivation.{Derivation, Derivations}
use Rattle.derivations.specs.Derivation as the
use Rattle.derivations.specs.DerivationOrder.{all_cmp, by_cmp, deriv_cmp, derived_cmp}
use Rattle.derivations.specs.Views.{derivation_of}

abbrev mutual
  -- a derivation's variants and places from left to right
  words : Derivation → List ℕ
  words (the.Event place) = 0 ∷ place ∷ []
  words (the.Query by) = 1 ∷ words by
  words (the.Left by) = 2 ∷ words by
  words (the.Right by) = 3 ∷ words by
  words (the.Next by next_by) = 4 ∷ (words by ++ words next_by)
  words (the.Fold by all_by) = 5 ∷ (words by ++ all_words all_by)

  all_words : Derivations → List ℕ
  all_words the.None = 0 ∷ []
  all_words (the.More by later) = 1 ∷ (words by ++ all_words later)

-- the order of words
abbrev words_cmp : List ℕ → List ℕ → Ordering
words_cmp = slice_cmp nat_cmp

then_assoc : (a b c : Ordering) → ordering_then a (ordering_then b c) ≡ ordering_then (ordering_then a b) c
then_assoc Less b c = refl
then_assoc Equal b c = refl
then_assoc Greater b c = refl

then-equal : (a : Ordering) → ordering_then a Equal ≡ a
then-equal Less = refl
then-equal Equal = refl
then-equal Greater = refl

mutual
  -- the words of two derivations decide as the derivations do, and else what follows them decides
  words_decide : (x y : Derivation) (r s : List ℕ) → words_cmp (words x ++ r) (words y ++ s) ≡ ordering_then (by_cmp x y) (words_cmp r s)
  words_decide (the.Event i) (the.Event j) r s = refl
  words_decide (the.Query x) (the.Query y) r s = words_decide x y r s
  words_decide (the.Left x) (the.Left y) r s = words_decide x y r s
  words_decide (the.Right x) (the.Right y) r s = words_decide x y r s
  words_decide (the.Next x x') (the.Next y y') r s =
      (λ i. words_cmp (append_assoc (words x) (words x') r i) (append_assoc (words y) (words y') s i))
      ∙ words_decide x y (words x' ++ r) (words y' ++ s) ∙ ap (ordering_then (by_cmp x y)) (words_decide x' y' r s) ∙ then_assoc (by_cmp x y) (by_cmp x' y') (words_cmp r s)
  words_decide (the.Fold x xs) (the.Fold y ys) r s =
      (λ i. words_cmp (append_assoc (words x) (all_words xs) r i) (append_assoc (words y) (all_words ys) s i))
      ∙ words_decide x y (all_words xs ++ r) (all_words ys ++ s) ∙ ap (ordering_then (by_cmp x y)) (all_decide xs ys r s) ∙ then_assoc (by_cmp x y) (all_cmp xs ys) (words_cmp r s)
  words_decide x y r s = refl

  all_decide : (xs ys : Derivations) (r s : List ℕ) → words_cmp (all_words xs ++ r) (all_words ys ++ s) ≡ ordering_then (all_cmp xs ys) (words_cmp r s)
  all_decide (the.More x xs) (the.More y ys) r s =
      (λ i. words_cmp (append_assoc (words x) (all_words xs) r i) (append_assoc (words y) (all_words ys) s i))
      ∙ words_decide x y (all_words xs ++ r) (all_words ys ++ s) ∙ ap (ordering_then (by_cmp x y)) (all_decide xs ys r s) ∙ then_assoc (by_cmp x y) (all_cmp xs ys) (words_cmp r s)
  all_decide the.None the.None r s = refl
  all_decide the.None (the.More y ys) r s = refl
  all_decide (the.More x xs) the.None r s = refl

by_cmp_by_words : (x y : Derivation) → on words words_cmp x y ≡ by_cmp x y
by_cmp_by_words x y = (λ i. words_cmp (sym (append-nil (words x)) i) (sym (append-nil (words y)) i)) ∙ words_decide x y [] [] ∙ then-equal (by_cmp x y)

-- the order of derivations is total
pub by_total : IsTotalOrder by_cmp
by_total = let same : on words words_cmp ≡ by_cmp = λ i x y. by_cmp_by_words x y i in subst IsTotalOrder same (on_total words (lists_total nat_cmp_total))

-- so is the same order of the program's derivations
pub deriv_total : IsTotalOrder deriv_cmp
deriv_total = on_total derivation_of by_total

-- and that of tuples with derivations
pub derived_total : IsTotalOrder derived_cmp
derived_total = then_total (on_total (λ x. x.tuple) tuple_total) (on_total (λ x. x.by) by_total)

-- both parts of a tie tie
both_equal : (o p : Ordering) → ordering_then o p ≡ Equal → (o ≡ Equal) × (p ≡ Equal)
both_equal Less p e = cc
both_equal Equal p e = (refl, e)
both_equal Greater p e = cc

mutual
  -- derivations that tie are one
  pub by_exact : (x y : Derivation) → by_cmp x y ≡ Equal → x ≡ y
  by_exact (the.Event i) (the.Event j) e = ap the.Event (exact_unsigned i j e)
  by_exact (the.Query x) (the.Query y) e = ap the.Query (by_exact x y e)
  by_exact (the.Left x) (the.Left y) e = ap the.Left (by_exact x y e)
  by_exact (the.Right x) (the.Right y) e = ap the.Right (by_exact x y e)
  by_exact (the.Next x x') (the.Next y y') e = let both = both_equal (by_cmp x y) (by_cmp x' y') e in λ i. the.Next (by_exact x y both.0 i) (by_exact x' y' both.1 i)
  by_exact (the.Fold x xs) (the.Fold y ys) e = let both = both_equal (by_cmp x y) (all_cmp xs ys) e in λ i. the.Fold (by_exact x y both.0 i) (all_exact xs ys both.1 i)
  by_exact x y e = cc

  pub all_exact : (xs ys : Derivations) → all_cmp xs ys ≡ Equal → xs ≡ ys
  all_exact the.None the.None e = refl
  all_exact (the.More x xs) (the.More y ys) e = let both = both_equal (by_cmp x y) (all_cmp xs ys) e in λ i. the.More (by_exact x y both.0 i) (all_exact xs ys both.1 i)
  all_exact xs ys e = cc

-- so are tuples with derivations that tie
pub derived_exact : CmpEqualImpliesEq derived_cmp
derived_exact x y e =
    let both = both_equal (tuple_cmp x.tuple y.tuple) (by_cmp x.by y.by) e in λ i. record { tuple = tuple_exact x.tuple y.tuple both.0 i; by = by_exact x.by y.by both.1 i }
