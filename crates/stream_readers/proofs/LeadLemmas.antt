-- The parts of a condition that ask for a literal.
use Rattle.std.proofs.Common.{◌≡◌, ap, ℕ, zero, suc, ◌||◌, drop, List, [], ◌∷◌}
use Rattle.std.specs.Prelude.{Some, slice_get}
use Rattle.std.specs.Option.{option_map}
use Rattle.std.specs.List.{list_any}
use Rattle.semantics.specs.Scalars.{Pr}
use Rattle.scalar_expr.specs.Classes.{Class, class_of}
use Rattle.stream_readers.specs.Leading.{asks_literal}

-- the part at a place is looked at before those behind it
pub literal_at : (parts : List Pr) (place : ℕ) (c : Class) → option_map class_of (slice_get parts place) ≡ Some c
    → list_any (λ part. asks_literal (class_of part)) (drop place parts) ≡ (asks_literal c || list_any (λ part. asks_literal (class_of part)) (drop (suc place) parts))
literal_at [] place c is = cc
literal_at (p ∷ ps) zero c is = let same : class_of p ≡ c = cc in ap (λ d. asks_literal d || list_any (λ part. asks_literal (class_of part)) ps) same
literal_at (p ∷ ps) (suc place) c is = literal_at ps place c is
