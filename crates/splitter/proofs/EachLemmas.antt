-- A list whose items are changed one after another.
use Rattle.std.proofs.Common.{◌≡◌, ◌∙◌, sym, ap, refl, ℕ, zero, suc, ◌+◌, ◌<◌, length, get_or, set, take, drop, add-one, List, [], ◌∷◌, ◌++◌, map, arith}

module _ {X : Type 0} (f : X → X) where
  -- the next item is changed
  changed_more : (xs : List X) (index : ℕ) (d : X) → index < length xs → set (map f (take index xs) ++ drop index xs) index (f (get_or xs index d)) ≡ map f (take (suc index) xs) ++ drop (suc index) xs
  changed_more [] index d lt = absurd (omega arith)
  changed_more (x ∷ xs) zero d lt = refl
  changed_more (x ∷ xs) (suc index) d lt = ap (λ ys. f x ∷ ys) (changed_more xs index d (omega arith))

  still_there : (xs : List X) (index : ℕ) (d : X) → index < length xs → get_or (map f (take index xs) ++ drop index xs) index d ≡ get_or xs index d
  still_there [] index d lt = absurd (omega arith)
  still_there (x ∷ xs) zero d lt = refl
  still_there (x ∷ xs) (suc index) d lt = still_there xs index d (omega arith)

  -- one more item is mapped in place
  pub each_more : (xs now : List X) (index : ℕ) (old new : X) → index < length xs → now ≡ map f (take index xs) ++ drop index xs → new ≡ f (get_or now index old)
      → set now index new ≡ map f (take (index + 1) xs) ++ drop (index + 1) xs
  each_more xs now index old new lt is made =
      let same : get_or now index old ≡ get_or xs index old = ap (λ ys. get_or ys index old) is ∙ still_there xs index old lt in
      (λ i. set (is i) index ((made ∙ ap f same) i)) ∙ changed_more xs index old lt ∙ ap (λ n. map f (take n xs) ++ drop n xs) (sym (add-one index))
