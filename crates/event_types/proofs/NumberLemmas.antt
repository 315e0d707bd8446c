-- What tests of numbers say.
use Rattle.std.proofs.Common.{◌≡◌, ℕ, ◌<◌, ◌==◌, nat_lt, true, false, arith}
use Rattle.std.proofs.lemmas.Bool.Decides.{nat_tests}

-- numbers that pass the test are one
pub same_number : (m n : ℕ) → (m == n) ≡ true → m ≡ n
same_number m n e = grind (arith, nat_tests)

-- numbers that don't pass it aren't one
pub other_number : (m n : ℕ) → (m == n) ≡ false → m ≡ n → ⊥
other_number m n e same = grind (arith, nat_tests)

-- equal numbers pass it
pub is_same : (m n : ℕ) → m ≡ n → (m == n) ≡ true
is_same m n e = grind (arith, nat_tests)

-- other numbers don't
pub is_other : (m n : ℕ) → (m ≡ n → ⊥) → (m == n) ≡ false
is_other m n ne = grind (arith, nat_tests)

-- a number passes it for itself
pub self_equal : (m : ℕ) → (m == m) ≡ true
self_equal m = grind (arith, nat_tests)

-- a lesser number is another
pub less_other : (m n : ℕ) → m < n → (m == n) ≡ false
less_other m n lt = grind (arith, nat_tests)

-- a greater number is another
pub more_other : (m n : ℕ) → n < m → (m == n) ≡ false
more_other m n lt = grind (arith, nat_tests)

-- a lesser number passes the test for less
pub is_below : (m n : ℕ) → m < n → nat_lt m n ≡ true
is_below m n lt = grind (arith, nat_tests)
