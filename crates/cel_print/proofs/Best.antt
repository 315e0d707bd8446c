-- The canonical symbols of a statement beside others that read as it. No public clause cites it.
use Rattle.std.proofs.Common.{◌≡◌, ℕ, ◌+◌, ◌-◌, ◌≤◌, Bool, true, false, List, [], ◌∷◌, refl, arith, nat_lt}
use Rattle.std.specs.Prelude.{◌||◌}
use Rattle.std.proofs.lemmas.Bool.Decides.{nat_tests}
use Rattle.cel_grammar.specs.Symbols.{Symbol}
use Rattle.cel_grammar.specs.Symbols as the
use Rattle.cel_grammar.specs.Sentences.{IsSmall, is_deep}
use Rattle.cel_grammar.specs.Statements.{IsStatement}
use Rattle.cel_grammar.specs.Trees.{Statement}
use Rattle.cel_print.specs.Laws.{IsBest, canonical_symbols, nesting}
use Rattle.cel_print.proofs.Bounds.{nesting_least}
use Rattle.cel_print.proofs.BoundStatements.{statement_bound}
use Rattle.cel_print.proofs.ReadStatements.{statement_reads}

-- they are read, and none are fewer or nested less
pub best : (ts : List Symbol) (s : Statement) → IsStatement ts s [] → IsBest ts s
best ts s h = record {
  read = statement_reads h [];
  shortest = omega (arith, (statement_bound h).few []);
  shallowest = omega (arith, (statement_bound h).shallow 0 0 [] (omega arith), (statement_bound h).after 0);
}

-- neither test holds
neither : (a b : Bool) → (a || b) ≡ false → (a ≡ false) × (b ≡ false)
neither true b e = cc
neither false b e = (refl, e)

low_enough : (d : ℕ) → nat_lt 64 d ≡ false → d ≤ 64
low_enough d h = grind (arith, nat_tests)

not_past : (d : ℕ) → d ≤ 64 → nat_lt 64 d ≡ false
not_past d h = grind (arith, nat_tests)

-- what is not too deep has at most 64 open at once
pub not_deep : (ts : List Symbol) (d : ℕ) → d ≤ 64 → is_deep d ts ≡ false → nesting d ts ≤ 64
not_deep [] d low h = low
not_deep (the.Open ∷ ts) d low h = let parts = neither (nat_lt 64 (d + 1)) (is_deep (d + 1) ts) h in omega (arith, not_deep ts (d + 1) (low_enough (d + 1) parts.0) parts.1)
not_deep (the.BraceOpen ∷ ts) d low h = let parts = neither (nat_lt 64 (d + 1)) (is_deep (d + 1) ts) h in omega (arith, not_deep ts (d + 1) (low_enough (d + 1) parts.0) parts.1)
not_deep (the.Close ∷ ts) d low h = omega (arith, not_deep ts (d - 1) (omega arith) h)
not_deep (the.BraceClose ∷ ts) d low h = omega (arith, not_deep ts (d - 1) (omega arith) h)
not_deep (t ∷ ts) d low h = not_deep ts d low h

-- and the other way round
pub few_deep : (ts : List Symbol) (d : ℕ) → nesting d ts ≤ 64 → is_deep d ts ≡ false
few_deep [] d h = refl
few_deep (the.Open ∷ ts) d h = rw (not_past (d + 1) (omega (arith, nesting_least ts (d + 1)))) (few_deep ts (d + 1) (omega arith))
few_deep (the.BraceOpen ∷ ts) d h = rw (not_past (d + 1) (omega (arith, nesting_least ts (d + 1)))) (few_deep ts (d + 1) (omega arith))
few_deep (the.Close ∷ ts) d h = few_deep ts (d - 1) (omega arith)
few_deep (the.BraceClose ∷ ts) d h = few_deep ts (d - 1) (omega arith)
few_deep (t ∷ ts) d h = few_deep ts d h

-- within the limits where others that read as it are
pub small : (ts : List Symbol) (s : Statement) → IsStatement ts s [] → IsSmall ts → IsSmall (canonical_symbols s)
small ts s h is =
    let is_best = best ts s h in
    record { few = omega (arith, is_best.shortest, is.few); shallow = few_deep (canonical_symbols s) 0 (omega (arith, is_best.shallowest, not_deep ts 0 (omega arith) is.shallow)) }
