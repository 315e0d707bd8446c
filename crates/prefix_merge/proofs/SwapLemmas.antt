-- Lists of which an item leaves, and the last one takes its place.
use Rattle.std.proofs.Common.{◌≡◌, ◌∙◌, sym, ap, ℕ, ◌+◌, ◌-◌, ◌<◌, ◌≤◌, length, get_or, set, take, List, ◌∷◌, arith}
use Rattle.std.specs.Prelude.{Some, None, slice_get}
use Rattle.std.specs.List.{swap_remove}
use Rattle.std.specs.List.Sorted.{IsPermutation}
use Rattle.std.proofs.lemmas.List.{get_or-set_other, get_or-set_same, get_or-take, length-set, length-take, take-set}
use Rattle.std.proofs.lemmas.List.Sorted.{IsPermutation-swap_remove}
use Rattle.std.proofs.lemmas.Option.{get_or_from_slice_get, slice_get-get_or, slice_get_past, slice_get_within}

module _ {X : Type 0} (xs : List X) (place : ℕ) (gone : X) (there : slice_get xs place ≡ Some gone) where
  inside : place < length xs
  inside = slice_get_within xs place gone there

  abbrev last : X
  last = get_or xs (length xs - 1) gone

  abbrev moved : List X
  moved = set xs place last

  fewer : length (take (length xs - 1) moved) ≡ length xs - 1
  fewer = let cut = length-take (length xs - 1) moved in let same = length-set xs place last in omega (arith, cut, same)

  -- the others stand where they stood
  pub swapped_other : (k : ℕ) → k < length xs - 1 → (k ≡ place → ⊥) → slice_get (swap_remove xs place gone) k ≡ slice_get xs k
  swapped_other k below other =
      slice_get-get_or (take (length xs - 1) moved) k gone (let short = fewer in omega (arith, short, below))
      ∙ ap (λ x. Some x) (get_or-take (length xs - 1) moved k gone below ∙ get_or-set_other xs place k last gone other)
      ∙ sym (slice_get-get_or xs k gone (omega (arith, below)))

  -- the last one has the place
  pub swapped_here : place < length xs - 1 → slice_get (swap_remove xs place gone) place ≡ slice_get xs (length xs - 1)
  swapped_here below =
      slice_get-get_or (take (length xs - 1) moved) place gone (let short = fewer in omega (arith, short, below))
      ∙ ap (λ x. Some x) (get_or-take (length xs - 1) moved place gone below ∙ get_or-set_same xs place last gone inside)
      ∙ sym (slice_get-get_or xs (length xs - 1) gone (omega (arith, below)))

  -- nothing stands behind them
  pub swapped_past : (k : ℕ) → length xs - 1 ≤ k → slice_get (swap_remove xs place gone) k ≡ None
  swapped_past k past = slice_get_past (take (length xs - 1) moved) k (let short = fewer in omega (arith, short, past))

  -- where it was the last, the others are left
  pub swapped_last : place + 1 ≡ length xs → swap_remove xs place gone ≡ take place xs
  swapped_last is = let same : length xs - 1 ≡ place = omega (arith, is) in ap (λ n. take n moved) same ∙ take-set xs place last

  -- the list is the others and the one that left
  pub swapped_all : IsPermutation xs (gone ∷ swap_remove xs place gone)
  swapped_all = IsPermutation-swap_remove xs place gone inside (sym (get_or_from_slice_get xs place gone gone there))
