-- Lists as streams.
use Rattle.std.proofs.Common.{◌≡◌, refl, ℕ, zero, suc, ◌==◌, Bool, true, false, cond, length, get_or, List, [], ◌∷◌, ◌++◌, arith}
use Rattle.event_types.specs.Tuple.{TupleView}
use Rattle.semantics.specs.Denotation.{streams_of}
use Rattle.semantics.specs.Programs.{with_stream}
use Rattle.event_types.proofs.NumberLemmas.{same_number, other_number}

-- the list at a place behind which one more was put
pushed : (lists : List (List TupleView)) (tuples : List TupleView) (n : ℕ) → (n ≡ length lists → get_or (lists ++ tuples ∷ []) n [] ≡ tuples) × ((n ≡ length lists → ⊥) → get_or (lists ++ tuples ∷ []) n [] ≡ get_or lists n [])
pushed [] tuples zero = (λ e. refl, λ other. absurd (other refl))
pushed [] tuples (suc n) = (λ e. absurd (omega arith), λ other. refl)
pushed (list ∷ lists) tuples zero = (λ e. absurd (omega arith), λ other. refl)
pushed (list ∷ lists) tuples (suc n) = let more = pushed lists tuples n in (λ e. more.0 (omega arith), λ other. more.1 (λ e. other (omega arith)))

-- one more list is one more stream
pub streams_of-push : (lists : List (List TupleView)) (tuples : List TupleView) → streams_of (lists ++ tuples ∷ []) ≡ with_stream (streams_of lists) (length lists) tuples
streams_of-push lists tuples = λ i n. each n i
  where
    each : (n : ℕ) → streams_of (lists ++ tuples ∷ []) n ≡ with_stream (streams_of lists) (length lists) tuples n
    each n = go (n == length lists) refl
      where
        go : (b : Bool) → (n == length lists) ≡ b → get_or (lists ++ tuples ∷ []) n [] ≡ cond b tuples (get_or lists n [])
        go true e = (pushed lists tuples n).0 (same_number n (length lists) e)
        go false e = (pushed lists tuples n).1 (other_number n (length lists) e)
