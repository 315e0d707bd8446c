-- Facts of all items of a list.
use Rattle.std.proofs.Common.{◌≡◌, ℕ, ◌<◌, length, get_or, List, subst, sym}
use Rattle.std.specs.List.{All}
use Rattle.std.proofs.lemmas.List.Elements.{All-same}

-- what holds of each element holds of one that was read
pub All_read : {X : Type 0} (P : X → Type 0) (xs ys : List X) → xs ≡ ys → All P ys → (i : ℕ) (x : X) → i < length xs → x ≡ get_or xs i x → P x
All_read P xs ys e all i x lt is = subst P (sym is) (All-same P xs ys e all i x lt)
