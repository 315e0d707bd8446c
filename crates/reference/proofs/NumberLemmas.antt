-- What tests of numbers say.
use Rattle.std.proofs.Common.{◌≡◌, ℕ, ◌≤◌, nat_le, true, arith}
use Rattle.std.proofs.lemmas.Bool.Decides.{nat_tests}

-- a number that isn't greater passes the test for at most
pub is_at_most : (m n : ℕ) → m ≤ n → nat_le m n ≡ true
is_at_most m n le = grind (arith, nat_tests)
