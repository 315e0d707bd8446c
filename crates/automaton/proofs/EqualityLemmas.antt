-- Lists that are the same item by item.
use Rattle.std.proofs.Common.{◌≡◌, ◌∙◌, sym, ap, ℕ, ◌+◌, List, [], ◌∷◌, ◌++◌, take}
use Rattle.std.specs.Prelude.{Some, slice_get}
use Rattle.std.proofs.lemmas.List.{take_more}
use Rattle.std.proofs.lemmas.Option.{get_or_from_slice_get, slice_get_within}

module _ {X : Type 0} where
  -- the items up to one more
  pub take_read : (xs : List X) (place : ℕ) (x : X) → slice_get xs place ≡ Some x → take (place + 1) xs ≡ take place xs ++ x ∷ []
  take_read xs place x is = take_more xs place x (slice_get_within xs place x is) ∙ ap (λ y. take place xs ++ y ∷ []) (get_or_from_slice_get xs place x x is)

  -- lists that are the same up to a place, and there
  pub same_more : (xs ys : List X) (place : ℕ) (x y : X) → slice_get xs place ≡ Some x → slice_get ys place ≡ Some y → x ≡ y → take place xs ≡ take place ys → take (place + 1) xs ≡ take (place + 1) ys
  same_more xs ys place x y mine theirs same before = take_read xs place x mine ∙ (λ i. before i ++ same i ∷ []) ∙ sym (take_read ys place y theirs)
