-- Lists without a part.
use Rattle.std.proofs.Common.{◌≡◌, ◌∙◌, ℕ, suc, ◌+◌, ◌≤◌, List, ◌++◌, length, take, drop, sym, ap, arith, length-take-le}
use Rattle.std.specs.List.{remove}
use Rattle.std.proofs.Math.Seq.{drop-append-add, take-append_seam}
use Rattle.std.proofs.lemmas.List.{drop-drop}

-- one item more is taken out behind those that are
pub cut_more : {X : Type 0} (xs : List X) (first end : ℕ) → first ≤ end → end ≤ length xs → remove (take first xs ++ drop end xs) first ≡ take first xs ++ drop (end + 1) xs
cut_more {X = X} xs first end up within =
    let left : List X = take first xs ++ drop end xs in
    let front : length (take first xs) ≡ first = length-take-le first xs (omega (arith, up, within)) in
    let start : take first left ≡ take first xs = ap (λ n. take n left) (sym front) ∙ take-append_seam (take first xs) (drop end xs) in
    let one : suc first ≡ length (take first xs) + 1 = omega (arith, front) in
    let rest : drop (suc first) left ≡ drop (end + 1) xs = ap (λ n. drop n left) one ∙ drop-append-add (take first xs) (drop end xs) 1 ∙ drop-drop 1 end xs in
    λ t. start t ++ rest t
