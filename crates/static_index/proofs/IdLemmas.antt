-- Ids in lists.
use Rattle.std.proofs.Common.{◌≡◌, ◌∙◌, ap, sym, subst, ℕ, zero, suc, ◌≢◌, inl, inr, Bool, true, false, not, cond, eqb, filter, List, [], ◌∷◌, length, Contains, arith}
use Rattle.std.proofs.lemmas.Bool.{cases_Bool, eqb-true}
use Rattle.std.proofs.lemmas.List.Elements.{Contains-append_right}

-- the others stay where one is taken out, by induction on the ids
pub others_stay : {id : ℕ} (ids new : List ℕ) → new ≡ filter (λ other. not (eqb other id)) ids → (n : ℕ) → n ≢ id → Contains ids n → Contains new n
others_stay {id} ids new is n apart has = subst (λ (xs : List ℕ). Contains xs n) (sym is) (go ids has)
  where
    go : (xs : List ℕ) → Contains xs n → Contains (filter (λ other. not (eqb other id)) xs) n
    go [] has = has
    go (x ∷ xs) (zero, lt, same) =
        let other : not (eqb x id) ≡ true = elim (cases_Bool (eqb x id)) [ inl one ↦ absurd (apart (sym same ∙ eqb-true x id one)) | inr two ↦ ap not two ] in
        subst (λ (b : Bool). Contains (cond b (x ∷ filter (λ other. not (eqb other id)) xs) (filter (λ other. not (eqb other id)) xs)) n) (sym other) (0, omega arith, same)
    go (x ∷ xs) (suc k, lt, is) = later (not (eqb x id)) (go xs (k, omega arith, is))
      where
        later : (b : Bool) → Contains (filter (λ other. not (eqb other id)) xs) n → Contains (cond b (x ∷ filter (λ other. not (eqb other id)) xs) (filter (λ other. not (eqb other id)) xs)) n
        later true there = Contains-append_right (x ∷ []) (filter (λ other. not (eqb other id)) xs) n there
        later false there = there

-- there is none where the list has no length
pub none_in : (ids : List ℕ) (id : ℕ) → length ids ≡ 0 → Contains ids id → ⊥
none_in ids id e (k, lt, is) = omega arith

-- no id is in an empty list
pub none_of_nil : (id : ℕ) → Contains [] id → ⊥
none_of_nil id (k, lt, is) = omega arith
