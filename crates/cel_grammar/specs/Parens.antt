-- What stands in a parenthesis.
use Rattle.std.specs.Prelude.{ℕ, zero, suc, Bool, true, false, List, [], ◌∷◌}
use Rattle.cel_grammar.specs.Symbols.{Symbol}
use Rattle.cel_grammar.specs.Symbols as the

-- whether a comparison, TRUE, NOT, AND or OR stands before the parenthesis closes that is open here,
-- behind d further ones.
abbrev pub holds_test : ℕ → List Symbol → Bool
holds_test d [] = false
holds_test d (the.Open ∷ ts) = holds_test (suc d) ts
holds_test zero (the.Close ∷ ts) = false
holds_test (suc d) (the.Close ∷ ts) = holds_test d ts
holds_test d (the.Compare c ∷ ts) = true
holds_test d (the.True ∷ ts) = true
holds_test d (the.Not ∷ ts) = true
holds_test d (the.And ∷ ts) = true
holds_test d (the.Or ∷ ts) = true
holds_test d (t ∷ ts) = holds_test d ts
