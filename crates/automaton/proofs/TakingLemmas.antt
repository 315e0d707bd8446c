-- Lists in which the last item takes the place of another.
use Rattle.std.proofs.Common.{◌≡◌, ◌∙◌, sym, ap, refl, subst, ℕ, ◌+◌, ◌-◌, ◌<◌, ◌≤◌, get_or, length, set, take, List, [], ◌∷◌, ◌++◌, arith}
use Rattle.std.specs.Prelude.{Some, slice_get}
use Rattle.std.specs.List.{swap_remove}
use Rattle.std.proofs.lemmas.List.{get_or_push, length-append, length-set, set-append_left, set-append_right, take-append-le, take_all}
use Rattle.std.proofs.lemmas.Option.{slice_get-get_or}
use Rattle.automaton.specs.Growing.{IsTakenOver}

-- the items and the last one, which was popped
module _ {X : Type 0} (place : ℕ) (old body : List X) (last : X) (popped : old ≡ body ++ last ∷ []) where
  longer : length (body ++ last ∷ []) ≡ length body + 1
  longer = length-append body (last ∷ [])

  abbrev gone : X
  gone = get_or (body ++ last ∷ []) place last

  there : place ≤ length body → slice_get (body ++ last ∷ []) place ≡ Some gone
  there within = slice_get-get_or (body ++ last ∷ []) place last (omega (arith, longer, within))

  read : get_or (body ++ last ∷ []) (length (body ++ last ∷ []) - 1) gone ≡ last
  read = get_or_push body last gone (length (body ++ last ∷ []) - 1) (omega (arith, longer))

  taken : (new : List X) → take (length body) (set (body ++ last ∷ []) place last) ≡ new → new ≡ swap_remove (body ++ last ∷ []) place gone
  taken new is = sym is ∙ (λ i. take (shorter i) (set (body ++ last ∷ []) place (sym read i)))
    where
      shorter : length body ≡ length (body ++ last ∷ []) - 1
      shorter = omega (arith, longer)

  whole : (new : List X) → place ≤ length body → take (length body) (set (body ++ last ∷ []) place last) ≡ new → IsTakenOver place old new
  whole new within is = subst (λ xs. IsTakenOver place xs new) (sym popped) (record { gone = gone; there = there within; rest = taken new is })

  -- the last one stands where another stood
  pub taken_inside : place < length body → IsTakenOver place old (set body place last)
  taken_inside below = whole (set body place last) (omega (arith, below))
      (ap (take (length body)) (set-append_left body (last ∷ []) place last below)
      ∙ take-append-le (length body) (set body place last) (last ∷ []) (omega (arith, length-set body place last))
      ∙ take_all (length body) (set body place last) (omega (arith, length-set body place last)))

  -- the last one itself was taken out
  pub taken_last : length body ≤ place → place < length old → IsTakenOver place old body
  taken_last past below =
      let inside : place < length (body ++ last ∷ []) = subst (λ xs. place < length xs) popped below in
      whole body (omega (arith, longer, inside))
      (ap (take (length body)) (set-append_right body (last ∷ []) (length body) place last refl past)
      ∙ take-append-le (length body) body (set (last ∷ []) (place - length body) last) (omega arith)
      ∙ take_all (length body) body (omega arith))
