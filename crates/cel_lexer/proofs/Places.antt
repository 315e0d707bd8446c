-- A text from a place on.
use Rattle.std.proofs.Common.{◌≡◌, ℕ, ◌-◌, List, length, take, drop, arith, length-drop}
use Rattle.std.proofs.lemmas.List.{take_all}

-- the slice from a place to the end is what stands behind the place
pub tail-is : (s : List ℕ) (i : ℕ) → take (length s - i) (drop i s) ≡ drop i s
tail-is s i = rw (← length-drop i s) (take_all _ _ (omega arith))
