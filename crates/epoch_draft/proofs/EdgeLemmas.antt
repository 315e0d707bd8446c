-- Forward edges lead to the states before which a state stands.
use Rattle.std.proofs.Common.{◌≡◌, ◌∙◌, sym, ap, refl, subst, ℕ, ◌+◌, ◌==◌, ◌≤◌, Bool, true, false, cond, List, [], ◌∷◌, arith}
use Rattle.std.specs.Prelude.{Contains, Option, Some, None, count_by}
use Rattle.std.specs.List.{All}
use Rattle.std.proofs.lemmas.Bool.Decides.{nat_tests}
use Rattle.std.proofs.lemmas.List.Elements.{All-contains, All-cons, All-nil, Contains-append_left, Contains-append_right, Contains-push}
use Rattle.event_types.proofs.NumberLemmas.{same_number}
use Rattle.automaton.specs.Networks.{IsNetwork}
use Rattle.automaton.specs.States.{Net, before_at, edges_at, tells}
use Rattle.automaton.proofs.CountLemmas.{count-cons}

itself : (n : ℕ) → (n == n) ≡ false → ⊥
itself n e = grind (arith, nat_tests)

-- where none is counted, none passes
none_pass : {X : Type 0} (p : X → Bool) (xs : List X) → count_by p xs ≡ 0 → All (λ x. p x ≡ false) xs
none_pass p [] h = All-nil (λ x. p x ≡ false)
none_pass p (x ∷ xs) h = go (p x) refl (sym (count-cons p x xs) ∙ h) (none_pass p xs)
  where
    go : (b : Bool) → p x ≡ b → cond b 1 0 + count_by p xs ≡ 0 → (count_by p xs ≡ 0 → All (λ x. p x ≡ false) xs) → All (λ x. p x ≡ false) (x ∷ xs)
    go true e h rest = absurd (omega arith)
    go false e h rest = All-cons (λ x. p x ≡ false) x xs e (rest (omega arith))

-- a number that is counted is there
counted_there : (k : ℕ) (xs : List ℕ) → 1 ≤ count_by (λ x. x == k) xs → Contains xs k
counted_there k [] h = absurd (omega arith)
counted_there k (x ∷ xs) h = go (x == k) refl (subst (λ (n : ℕ). 1 ≤ n) (count-cons (λ y. y == k) x xs) h) (counted_there k xs)
  where
    go : (b : Bool) → (x == k) ≡ b → 1 ≤ cond b 1 0 + count_by (λ y. y == k) xs → (1 ≤ count_by (λ y. y == k) xs → Contains xs k) → Contains (x ∷ xs) k
    go true e h rest = subst (Contains (x ∷ xs)) (same_number x k e) (Contains-append_left (x ∷ []) xs x (Contains-push [] x))
    go false e h rest = Contains-append_right (x ∷ []) xs k (rest (omega arith))

-- an edge leads to a state before which this one stands
pub edge_before : (net : Net) → IsNetwork net → (n k : ℕ) → Contains (edges_at net n) k → before_at net k ≡ Some n
edge_before net network n k c = go (before_at net k) refl
  where
    not_counted : count_by (λ e. e == k) (edges_at net n) ≡ 0 → ⊥
    not_counted zero' = itself k (All-contains (λ e. (e == k) ≡ false) (edges_at net n) k (none_pass (λ e. e == k) (edges_at net n) zero') c)

    told : (m : ℕ) → before_at net k ≡ Some m → (b : Bool) → (m == n) ≡ b → before_at net k ≡ Some n
    told m is true e = is ∙ ap Some (same_number m n e)
    told m is false e = absurd (not_counted (network.edges n k ∙ ap (λ (o : Option ℕ). cond (tells n o) 1 0) is ∙ ap (λ b. cond b 1 0) e))

    go : (o : Option ℕ) → before_at net k ≡ o → before_at net k ≡ Some n
    go None is = absurd (not_counted (network.edges n k ∙ ap (λ (o : Option ℕ). cond (tells n o) 1 0) is))
    go (Some m) is = told m is (m == n) refl

-- and to each such state an edge leads
pub before_edge : (net : Net) → IsNetwork net → (n k : ℕ) → before_at net k ≡ Some n → Contains (edges_at net n) k
before_edge net network n k is =
    let one = network.edges n k ∙ ap (λ (o : Option ℕ). cond (tells n o) 1 0) is ∙ ap (λ b. cond b 1 0) (is_same n) in counted_there k (edges_at net n) (omega (arith, one))
  where
    is_same : (m : ℕ) → (m == m) ≡ true
    is_same m = grind (arith, nat_tests)
