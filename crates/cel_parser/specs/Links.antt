-- Links between the terms of a source. No public clause cites this module.
use Rattle.std.specs.Prelude.{ℕ, Bool, true, false, List, ◌∷◌, map, None}
use Rattle.cel_grammar.specs.Symbols.{Symbol}
use Rattle.cel_grammar.specs.Symbols as the
use Rattle.cel_grammar.specs.Trees as tree
use Rattle.cel_grammar.specs.Views.{agg_of, pred_of}
use Rattle.cel_parser.specs.declared.links.Link.{Link}
use Rattle.cel_parser.specs.declared.links.Link.TheVariants as link
use Rattle.cel_parser.specs.ScalarReader.{◌>>=◌, Read, comma_at, done}
use Rattle.cel_parser.specs.PredicateReader.{pred_at}
use Rattle.cel_parser.specs.SourceReader.{aggs_at, brace_at}

-- UNION, NEXT with its condition, or FOLD with its two and its aggregates
pub data TreeLink : Type 0 where
  Union : TreeLink
  Next : tree.Pred → TreeLink
  Fold : tree.Pred → tree.Pred → List tree.Agg → TreeLink

-- the link as trees
abbrev pub link_of : Link → TreeLink
link_of link.Union = Union
link_of (link.Next p) = Next (pred_of p)
link_of (link.Fold p q aggs) = Fold (pred_of p) (pred_of q) (map agg_of aggs)

-- two sources with a link between them
abbrev pub linked : TreeLink → tree.Source → tree.Source → tree.Source
linked Union e f = tree.Union e f
linked (Next p) e f = tree.Next p e f
linked (Fold p q aggs) e f = tree.Fold p q aggs e f

-- whether a link stands at the front
unfoldable pub is_link : List Symbol → Bool
is_link (the.Union ∷ ts) = true
is_link (the.Next ∷ ts) = true
is_link (the.Fold ∷ the.BraceOpen ∷ ts) = true
is_link ts = false

-- a condition behind its opening brace
unfoldable pub condition_at : ℕ → List Symbol → Read tree.Pred
condition_at n ts = pred_at n ts >>= λ p. brace_at p.1 >>= done p.0

-- the condition of NEXT, which may be left out
unfoldable pub next_at : ℕ → List Symbol → Read TreeLink
next_at n (the.BraceOpen ∷ ts) = condition_at n ts >>= λ p. done (Next p.0) p.1
next_at n ts = done (Next tree.True) ts

-- the parts of FOLD behind the opening brace
unfoldable pub fold_at : ℕ → List Symbol → Read TreeLink
fold_at n ts = pred_at n ts >>= λ p. comma_at p.1 >>= λ us. pred_at n us >>= λ q. aggs_at n q.1 >>= λ sets. brace_at sets.1 >>= done (Fold p.0 q.0 sets.0)

-- a link
unfoldable pub link_at : ℕ → List Symbol → Read TreeLink
link_at n (the.Union ∷ ts) = done Union ts
link_at n (the.Next ∷ ts) = next_at n ts
link_at n (the.Fold ∷ the.BraceOpen ∷ ts) = fold_at n ts
link_at n ts = None
