-- Numbers of few digits fit 64 bits.
use Rattle.std.proofs.Common.{◌≤◌, ◌<◌, ◌+◌, ◌*◌, ◌^◌, ℕ, arith}
use Rattle.std.proofs.Math.Nat.{pow-le-pow_right}

-- one more digit behind so few
pub room : (n i d : ℕ) → n < 10 ^ i → i ≤ 18 → d ≤ 9 → n * 10 + d < 18446744073709551616
room n i d h lt le =
    let p : 10 ^ i ≤ 10 ^ 18 = pow-le-pow_right {n = 10} (omega arith) {i = i} {j = 18} lt in
    omega arith
