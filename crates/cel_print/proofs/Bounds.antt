-- How many symbols some words have, and how deep they are nested, beside symbols that are read.
use Rattle.std.proofs.Common.{◌≡◌, ℕ, ◌+◌, ◌-◌, ◌≤◌, List, [], ◌∷◌, length, refl, arith}
use Rattle.std.specs.Prelude.{max}
use Rattle.cel_grammar.specs.Symbols.{Symbol}
use Rattle.cel_grammar.specs.Symbols as the
use Rattle.cel_print.specs.Words.{Word, Of, symbols}
use Rattle.cel_print.specs.Laws.{nesting}

-- nesting is no less than what is open before
pub nesting_least : (ts : List Symbol) (d : ℕ) → d ≤ nesting d ts
nesting_least [] d = omega arith
nesting_least (the.Open ∷ ts) d = omega arith
nesting_least (the.BraceOpen ∷ ts) d = omega arith
nesting_least (the.Close ∷ ts) d = omega arith
nesting_least (the.BraceClose ∷ ts) d = omega arith
nesting_least (t ∷ ts) d = nesting_least ts d

-- where more is open before, it is no less
pub nesting_grows : (ts : List Symbol) (d e : ℕ) → d ≤ e → nesting d ts ≤ nesting e ts
nesting_grows [] d e h = omega arith
nesting_grows (the.Open ∷ ts) d e h = omega (arith, nesting_grows ts (d + 1) (e + 1) (omega arith))
nesting_grows (the.BraceOpen ∷ ts) d e h = omega (arith, nesting_grows ts (d + 1) (e + 1) (omega arith))
nesting_grows (the.Close ∷ ts) d e h = omega (arith, nesting_grows ts (d - 1) (e - 1) (omega arith))
nesting_grows (the.BraceClose ∷ ts) d e h = omega (arith, nesting_grows ts (d - 1) (e - 1) (omega arith))
nesting_grows (t ∷ ts) d e h = nesting_grows ts d e h

-- a symbol that opens and closes nothing
abbrev pub Plain : Symbol → Type 0
Plain t = (d : ℕ) (ts : List Symbol) → nesting d (t ∷ ts) ≡ nesting d ts

-- an opening and its closing symbol
pub record Pair (o c : Symbol) : Type 0 where
  pub opens : (d : ℕ) (ts : List Symbol) → nesting d (o ∷ ts) ≡ max d (nesting (d + 1) ts)
  pub closes : (d : ℕ) (ts : List Symbol) → nesting (d + 1) (c ∷ ts) ≡ max (d + 1) (nesting d ts)

-- behind one that is open, one closes to what was open before
one_closed : (d : ℕ) (ts : List Symbol) → max (d + 1) (nesting (d + 1 - 1) ts) ≡ max (d + 1) (nesting d ts)
one_closed d ts = let e : d + 1 - 1 ≡ d = omega arith in rw e refl

-- parentheses, and braces
pub parens : Pair the.Open the.Close
parens = record { opens = λ d ts. refl; closes = λ d ts. one_closed d ts }

-- parentheses, and braces
pub braces : Pair the.BraceOpen the.BraceClose
braces = record { opens = λ d ts. refl; closes = λ d ts. one_closed d ts }

-- the words, which come before others, are no more than the symbols ts before rest, nor nested deeper,
-- but for so many pairs of parentheses
pub record Bound (extra : ℕ) (words : List Word → List Word) (ts rest : List Symbol) : Type 0 where
  pub few : (r : List Word) → length (symbols (words r)) + length rest ≤ length ts + length (symbols r) + extra + extra
  pub shallow : (d e : ℕ) (r : List Word) → d + extra ≤ e → nesting d (symbols (words r)) ≤ max (nesting e ts) (nesting d (symbols r))
  pub after : (d : ℕ) → nesting d rest ≤ nesting d ts

-- no words beside no symbols
pub idle : (rest : List Symbol) → Bound 0 (λ r. r) rest rest
idle rest = record { few = λ r. omega arith; shallow = λ d e r h. omega arith; after = λ d. omega arith }

-- one symbol
pub leaf : (t : Symbol) (rest : List Symbol) → Plain t → Bound 0 (λ r. Of t ∷ r) (t ∷ rest) rest
leaf t rest plain = record {
  few = λ r. omega arith;
  shallow = λ d e r h. omega (arith, plain d (symbols r));
  after = λ d. omega (arith, plain d rest);
}

-- one pair more is allowed
pub loosened : (f : List Word → List Word) (ts rest : List Symbol) → Bound 0 f ts rest → Bound 1 f ts rest
loosened f ts rest b = record {
  few = λ r. omega (arith, b.few r);
  shallow = λ d e r h. b.shallow d e r (omega arith);
  after = b.after;
}

-- some words, a symbol, and other words
pub joined : (x : ℕ) (t : Symbol) (f g : List Word → List Word) (ts us rest : List Symbol) → Plain t → Bound x f ts (t ∷ us) → Bound 0 g us rest → Bound x (λ r. f (Of t ∷ g r)) ts rest
joined x t f g ts us rest plain b c = record {
  few = λ r. omega (arith, b.few (Of t ∷ g r), c.few r);
  shallow = λ d e r h. omega (arith, b.shallow d e (Of t ∷ g r) h, plain d (symbols (g r)), c.shallow d d r (omega arith), b.after d, plain d us, nesting_grows ts d e (omega arith));
  after = λ d. omega (arith, b.after d, plain d us, c.after d);
}

-- a symbol, and then words
pub prefixed : (t : Symbol) (f : List Word → List Word) (ts rest : List Symbol) → Plain t → Bound 0 f ts rest → Bound 0 (λ r. Of t ∷ f r) (t ∷ ts) rest
prefixed t f ts rest plain b = record {
  few = λ r. omega (arith, b.few r);
  shallow = λ d e r h. omega (arith, b.shallow d e r h, plain d (symbols (f r)), plain e ts);
  after = λ d. omega (arith, b.after d, plain d ts);
}

-- words in parentheses that the symbols lack
pub wrapped : (f : List Word → List Word) (ts rest : List Symbol) → Bound 0 f ts rest → Bound 1 (λ r. Of the.Open ∷ f (Of the.Close ∷ r)) ts rest
wrapped f ts rest b = record {
  few = λ r. omega (arith, b.few (Of the.Close ∷ r));
  shallow = λ d e r h. omega (arith, b.shallow (d + 1) e (Of the.Close ∷ r) (omega arith), one_closed d (symbols r), nesting_least ts e);
  after = b.after;
}

-- parentheses that the words lack
pub unwrapped : (f : List Word → List Word) (ts rest : List Symbol) → Bound 1 f ts (the.Close ∷ rest) → Bound 0 f (the.Open ∷ ts) rest
unwrapped f ts rest b = record {
  few = λ r. omega (arith, b.few r);
  shallow = λ d e r h. omega (arith, b.shallow d (e + 1) r (omega arith));
  after = λ d. omega (arith, b.after (d + 1), one_closed d rest);
}

-- words between an opening and its closing symbol, and other words
pub enclosed : (o c : Symbol) (f g : List Word → List Word) (ts us rest : List Symbol) → Pair o c → Bound 0 f ts (c ∷ us) → Bound 0 g us rest → Bound 0 (λ r. Of o ∷ f (Of c ∷ g r)) (o ∷ ts) rest
enclosed o c f g ts us rest pair b k = record {
  few = λ r. omega (arith, b.few (Of c ∷ g r), k.few r);
  shallow = λ d e r h. omega (arith, pair.opens d (symbols (f (Of c ∷ g r))), pair.opens e ts, b.shallow (d + 1) (e + 1) (Of c ∷ g r) (omega arith), pair.closes d (symbols (g r)), k.shallow d d r (omega arith), b.after (d + 1), pair.closes d us, nesting_grows ts (d + 1) (e + 1) (omega arith), nesting_least ts (e + 1));
  after = λ d. omega (arith, pair.opens d ts, b.after (d + 1), pair.closes d us, k.after d);
}

-- braces with what stands in them that the words lack
pub dropped : (f g : List Word → List Word) (ts us rest : List Symbol) → ((r : List Word) → length (symbols r) ≤ length (symbols (f r))) → Bound 0 f ts (the.BraceClose ∷ us) → Bound 0 g us rest → Bound 0 g (the.BraceOpen ∷ ts) rest
dropped f g ts us rest longer b k = record {
  few = λ r. omega (arith, longer [], b.few [], k.few r);
  shallow = λ d e r h. omega (arith, k.shallow d d r (omega arith), b.after (d + 1), braces.closes d us, nesting_grows ts (d + 1) (e + 1) (omega arith));
  after = λ d. omega (arith, b.after (d + 1), braces.closes d us, k.after d);
}
