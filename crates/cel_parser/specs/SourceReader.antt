-- Reading sources from left to right, of which statements are read. The number bounds how deep the calls go.
use Rattle.std.specs.Prelude.{ℕ, zero, suc, List, [], ◌∷◌, Option, Some, None}
use Rattle.cel_grammar.specs.declared.mark.Mark.TheVariants as mark
use Rattle.cel_grammar.specs.Symbols.{Symbol}
use Rattle.cel_grammar.specs.Symbols as the
use Rattle.cel_grammar.specs.Trees.{Attr}
use Rattle.cel_parser.specs.ScalarReader.{◌>>=◌, Read, done, comma_at, close_at, scalar_at}
use Rattle.cel_grammar.specs.Trees.{True}
use Rattle.cel_parser.specs.PredicateReader.{pred_at}
use Rattle.cel_grammar.specs.Trees.{Item, All, Named, Agg, Set, Source, Name, Filter, Select, Union, Next, Fold}

-- FROM
abbrev pub from_at : List Symbol → Option (List Symbol)
from_at (the.From ∷ ts) = Some ts
from_at ts = None

-- a closing brace
abbrev pub brace_at : List Symbol → Option (List Symbol)
brace_at (the.BraceClose ∷ ts) = Some ts
brace_at ts = None

-- AS and a name
abbrev pub as_at : List Symbol → Read (List ℕ)
as_at (the.As ∷ the.Name a ∷ ts) = done a ts
as_at ts = None

-- a scalar under a name
unfoldable pub named_at : ℕ → List Symbol → Read Item
named_at n ts = scalar_at n ts >>= λ p. as_at p.1 >>= λ a. done (Named p.0 a.0) a.1

-- an item
unfoldable pub item_at : ℕ → List Symbol → Read Item
item_at n (the.Star ∷ ts) = done All ts
item_at n (the.Name a ∷ the.Comma ∷ ts) = done (Named (Attr mark.Bare a) a) (the.Comma ∷ ts)
item_at n (the.Name a ∷ the.From ∷ ts) = done (Named (Attr mark.Bare a) a) (the.From ∷ ts)
item_at n ts = named_at n ts

unfoldable mutual
  -- items between commas
  pub items_at : ℕ → List Symbol → Read (List Item)
  items_at zero ts = None
  items_at (suc n) ts = item_at n ts >>= λ i. items_more n i.0 i.1

  -- and the same after the first of them
  pub items_more : ℕ → Item → List Symbol → Read (List Item)
  items_more zero i ts = None
  items_more (suc n) i (the.Comma ∷ ts) = items_at n ts >>= λ is. done (i ∷ is.0) is.1
  items_more (suc n) i ts = done (i ∷ []) ts

-- aggregates, each behind a comma
unfoldable pub aggs_at : ℕ → List Symbol → Read (List Agg)
aggs_at zero ts = None
aggs_at (suc n) (the.Comma ∷ ts) = scalar_at n ts >>= λ p. as_at p.1 >>= λ a. aggs_at n a.1 >>= λ as'. done (Set p.0 a.0 ∷ as'.0) as'.1
aggs_at (suc n) ts = done [] ts

unfoldable mutual
  -- a source
  pub source_at : ℕ → List Symbol → Read Source
  source_at zero ts = None
  source_at (suc n) ts = term_at n ts >>= λ e. source_more n e.0 e.1

  -- a source that goes on after this one
  pub source_more : ℕ → Source → List Symbol → Read Source
  source_more zero e ts = None
  source_more (suc n) e (the.Union ∷ ts) = term_at n ts >>= λ f. source_more n (Union e f.0) f.1
  source_more (suc n) e (the.Next ∷ the.BraceOpen ∷ ts) = pred_at n ts >>= λ p. brace_at p.1 >>= λ us. term_at n us >>= λ f. source_more n (Next p.0 e f.0) f.1
  source_more (suc n) e (the.Next ∷ ts) = term_at n ts >>= λ f. source_more n (Next True e f.0) f.1
  source_more (suc n) e (the.Fold ∷ the.BraceOpen ∷ ts) = pred_at n ts >>= λ p. comma_at p.1 >>= λ us. pred_at n us >>= λ q. aggs_at n q.1 >>= λ sets. brace_at sets.1 >>= λ vs. term_at n vs >>= λ f. source_more n (Fold p.0 q.0 sets.0 e f.0) f.1
  source_more (suc n) e ts = done e ts

  -- a term
  pub term_at : ℕ → List Symbol → Read Source
  term_at zero ts = None
  term_at (suc n) (the.Name a ∷ ts) = done (Name a) ts
  term_at (suc n) (the.Open ∷ the.Select ∷ ts) = items_at n ts >>= λ is. from_at is.1 >>= λ us. source_at n us >>= λ e. close_at e.1 >>= done (Select is.0 e.0)
  term_at (suc n) (the.Open ∷ ts) = source_at n ts >>= λ e. close_at e.1 >>= done e.0
  term_at (suc n) (the.Filter ∷ the.BraceOpen ∷ ts) = pred_at n ts >>= λ p. brace_at p.1 >>= λ us. term_at n us >>= λ e. done (Filter p.0 e.0) e.1
  term_at (suc n) ts = None
