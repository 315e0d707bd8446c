-- Queries that are written one after another.
use Rattle.std.proofs.Common.{◌≡◌, ◌+◌, ℕ, suc, zero, List, ◌++◌, ap, ◌∙◌, sym, arith, append_assoc, append-nil}
use Rattle.std.specs.List.{flat_map, range_with_len}

-- one number more, by induction on how many there are
pub flat_map-more : {A : Type 0} (f : ℕ → List A) (start many : ℕ) → flat_map f (range_with_len start (suc many)) ≡ flat_map f (range_with_len start many) ++ f (start + many)
flat_map-more f start zero = let none : start + 0 ≡ start = omega arith in rw none (append-nil (f start))
flat_map-more f start (suc many) =
    let next : start + 1 + many ≡ start + suc many = omega arith in
    ap (λ rest. f start ++ rest) (flat_map-more f (start + 1) many) ∙ rw next (sym (append_assoc (f start) _ _))

-- one number more from 0 on
pub flat_map-next : {A : Type 0} (f : ℕ → List A) (many : ℕ) → flat_map f (range_with_len 0 (many + 1)) ≡ flat_map f (range_with_len 0 many) ++ f many
flat_map-next f many =
    let next : many + 1 ≡ suc many = omega arith in
    let place : 0 + many ≡ many = omega arith in
    rw next (flat_map-more f 0 many ∙ ap (λ at. flat_map f (range_with_len 0 many) ++ f at) place)
