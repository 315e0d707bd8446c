-- One step of each reader of predicates, over symbols of the program, where steps are left.
use Rattle.std.proofs.Common.{◌≡◌, ℕ, zero, suc, ◌-◌, ◌<◌, List, ◌∷◌, refl, arith, sub-one}
use Rattle.std.specs.Prelude.{pos, negsuc, map, Bool, true, false, if◌then◌else◌}
use Rattle.cel_grammar.specs.Parens.{holds_test}
use Rattle.cel_grammar.specs.Trees.{Pred, True, Not}
use Rattle.cel_parser.specs.declared.symbol.Symbol.{Symbol}
use Rattle.cel_parser.specs.declared.symbol.Symbol.TheVariants as symbol
use Rattle.cel_parser.specs.Grouping.{closed_at}
use Rattle.cel_parser.specs.GrammarSymbols.{grammar_symbol_of}
use Rattle.cel_parser.specs.ScalarReader.{◌>>=◌, Read, done}
use Rattle.cel_parser.specs.PredicateReader.{test_at, pred_at, neg_at, prim_at}

-- a negation by its first symbol
abbrev pub neg_step : ℕ → List Symbol → Read Pred
neg_step n (symbol.Not ∷ ts) = neg_at n (map grammar_symbol_of ts) >>= λ p. done (Not p.0) p.1
neg_step n ts = prim_at n (map grammar_symbol_of ts)

-- one step
neg_same : (n : ℕ) (ts : List Symbol) → neg_at (suc n) (map grammar_symbol_of ts) ≡ neg_step n ts
unfolding neg_at
neg_same n (symbol.Not ∷ ts) = refl
neg_same n (symbol.Number (pos k) ∷ ts) = refl
neg_same n (symbol.Number (negsuc k) ∷ ts) = refl
neg_same n (symbol.Decimal scale (pos k) ∷ ts) = refl
neg_same n (symbol.Decimal scale (negsuc k) ∷ ts) = refl
neg_same n ts = refl

-- one step
pub neg_next : (n : ℕ) (ts : List Symbol) → 0 < n → neg_at n (map grammar_symbol_of ts) ≡ neg_step (n - 1) ts
neg_next zero ts h = absurd (omega arith)
neg_next (suc n) ts h = rw sub-one (neg_same n ts)

-- TRUE, a comparison, or a predicate in parentheses, by the first symbol
abbrev pub prim_step : ℕ → List Symbol → Read Pred
prim_step n (symbol.True ∷ ts) = done True (map grammar_symbol_of ts)
prim_step n (symbol.Open ∷ ts) = if holds_test 0 (map grammar_symbol_of ts) then (pred_at n (map grammar_symbol_of ts) >>= λ p. closed_at p.0 p.1) else test_at n (map grammar_symbol_of (symbol.Open ∷ ts))
prim_step n ts = test_at n (map grammar_symbol_of ts)

-- one step
prim_same : (n : ℕ) (ts : List Symbol) → prim_at (suc n) (map grammar_symbol_of ts) ≡ prim_step n ts
unfolding prim_at
prim_same n (symbol.True ∷ ts) = refl
prim_same n (symbol.Open ∷ ts) = refl
prim_same n (symbol.Number (pos k) ∷ ts) = refl
prim_same n (symbol.Number (negsuc k) ∷ ts) = refl
prim_same n (symbol.Decimal scale (pos k) ∷ ts) = refl
prim_same n (symbol.Decimal scale (negsuc k) ∷ ts) = refl
prim_same n ts = refl

-- one step
pub prim_next : (n : ℕ) (ts : List Symbol) → 0 < n → prim_at n (map grammar_symbol_of ts) ≡ prim_step (n - 1) ts
prim_next zero ts h = absurd (omega arith)
prim_next (suc n) ts h = rw sub-one (prim_same n ts)

-- whether a test stands there, by the first symbol
abbrev pub holds_step : ℕ → Symbol → List Symbol → Bool
holds_step d symbol.Open ts = holds_test (suc d) (map grammar_symbol_of ts)
holds_step zero symbol.Close ts = false
holds_step (suc d) symbol.Close ts = holds_test d (map grammar_symbol_of ts)
holds_step d (symbol.Compare c) ts = true
holds_step d symbol.True ts = true
holds_step d symbol.Not ts = true
holds_step d symbol.And ts = true
holds_step d symbol.Or ts = true
holds_step d t ts = holds_test d (map grammar_symbol_of ts)

-- one step
pub holds_next : (d : ℕ) (t : Symbol) (ts : List Symbol) → holds_test d (map grammar_symbol_of (t ∷ ts)) ≡ holds_step d t ts
holds_next d symbol.Open ts = refl
holds_next zero symbol.Close ts = refl
holds_next (suc d) symbol.Close ts = refl
holds_next d (symbol.Compare c) ts = refl
holds_next d symbol.True ts = refl
holds_next d symbol.Not ts = refl
holds_next d symbol.And ts = refl
holds_next d symbol.Or ts = refl
holds_next d (symbol.Number (pos k)) ts = refl
holds_next d (symbol.Number (negsuc k)) ts = refl
holds_next d (symbol.Decimal scale (pos k)) ts = refl
holds_next d (symbol.Decimal scale (negsuc k)) ts = refl
holds_next d t ts = refl
