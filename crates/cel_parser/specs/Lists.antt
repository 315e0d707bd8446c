-- Parts of lists of items and aggregates. No public clause cites this module.
use Rattle.std.specs.Prelude.{ℕ, zero, suc, Bool, true, false, List, [], ◌++◌, ◌∷◌, Some, None}
use Rattle.cel_grammar.specs.declared.mark.Mark.TheVariants as mark
use Rattle.cel_grammar.specs.Symbols.{Symbol}
use Rattle.cel_grammar.specs.Symbols as the
use Rattle.cel_grammar.specs.Trees.{Agg, All, Attr, Item, Named, Set}
use Rattle.cel_parser.specs.ScalarReader.{◌>>=◌, Read, done, scalar_at}
use Rattle.cel_parser.specs.SourceReader.{as_at, items_at, named_at}

-- whether a name is all of the item at the front
unfoldable pub is_bare : List Symbol → Bool
is_bare (the.Name a ∷ the.Comma ∷ ts) = true
is_bare (the.Name a ∷ the.From ∷ ts) = true
is_bare ts = false

-- an attribute under its own name
unfoldable pub bare_at : List Symbol → Read Item
bare_at (the.Name a ∷ ts) = done (Named (Attr mark.Bare a) a) ts
bare_at ts = None

-- *, or a scalar under a name
unfoldable pub full_at : ℕ → List Symbol → Read Item
full_at n (the.Star ∷ ts) = done All ts
full_at n ts = named_at n ts

-- an aggregate
unfoldable pub agg_at : ℕ → List Symbol → Read Agg
agg_at n ts = scalar_at n ts >>= λ p. as_at p.1 >>= λ a. done (Set p.0 a.0) a.1

-- a list that is read, with others before it
abbrev pub with_front : {A : Type 0} → List A → Read (List A) → Read (List A)
with_front xs None = None
with_front xs (Some p) = done (xs ++ p.0) p.1

-- items, with those that stand before them
unfoldable pub items_after : ℕ → List Item → List Symbol → Read (List Item)
items_after n xs ts = with_front xs (items_at n ts)

-- items that may go on behind a comma
unfoldable pub items_behind : ℕ → List Item → List Symbol → Read (List Item)
items_behind zero xs ts = None
items_behind (suc n) xs (the.Comma ∷ ts) = items_after n xs ts
items_behind (suc n) xs ts = done xs ts

-- aggregates, with those that stand before them
unfoldable pub aggs_after : ℕ → List Agg → List Symbol → Read (List Agg)
aggs_after zero xs ts = None
aggs_after (suc n) xs (the.Comma ∷ ts) = agg_at n ts >>= λ g. aggs_after n (xs ++ g.0 ∷ []) g.1
aggs_after (suc n) xs ts = done xs ts

-- aggregates behind a comma, with those that stand before it
unfoldable pub aggs_behind : ℕ → List Agg → List Symbol → Read (List Agg)
aggs_behind n xs ts = agg_at n ts >>= λ g. aggs_after n (xs ++ g.0 ∷ []) g.1
