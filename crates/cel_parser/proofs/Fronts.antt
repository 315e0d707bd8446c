-- The symbols that a reading takes: none is a semicolon, and before any other symbols they read the same.
use Rattle.std.proofs.Common.{◌≡◌, ◌∙◌, List, [], ◌∷◌, ◌++◌, refl, sym, ap, subst, append_assoc}
use Rattle.std.specs.Prelude.{codes}
use Rattle.event_types.specs.declared.kind.Kind.{Kind}
use Rattle.cel_grammar.specs.Symbols.{Symbol}
use Rattle.cel_grammar.specs.Symbols as the
use Rattle.cel_grammar.specs.Trees.{Agg, Column, Item, Pred, Scalar, Source, Statement}
use Rattle.cel_grammar.specs.Scalars.{IsAttribute, IsFactor, IsProduct, IsScalar}
use Rattle.cel_grammar.specs.Scalars as scalar
use Rattle.cel_grammar.specs.Predicates.{IsConj, IsNeg, IsPred, IsPrim}
use Rattle.cel_grammar.specs.Predicates as pred
use Rattle.cel_grammar.specs.Sources.{IsAggs, IsItem, IsItems, IsSource, IsTerm}
use Rattle.cel_grammar.specs.Sources as source
use Rattle.cel_grammar.specs.Statements.{IsColumns, IsKind, IsStatement}
use Rattle.cel_grammar.specs.Statements as statement

-- the symbol is no semicolon
abbrev pub IsInside : Symbol → Type 0
IsInside the.End = ⊥
IsInside t = Unit {0}

-- none of them is
abbrev pub AreInside : List Symbol → Type 0
AreInside [] = Unit {0}
AreInside (t ∷ ts) = IsInside t × AreInside ts

-- what is read of some symbols, whatever it is, and what follows it
abbrev pub Reading : Type 1
Reading = List Symbol → List Symbol → Type 0

-- the symbols that were read, which hold no semicolon, and read so before any others
pub record Front (R : Reading) (ts rest : List Symbol) : Type 0 where
  pub front : List Symbol
  pub is : ts ≡ front ++ rest
  pub inside : AreInside front
  pub moves : (tail : List Symbol) → R (front ++ tail) tail

-- no semicolon stands in two lists of symbols, where none stands in either
inside_both : (xs ys : List Symbol) → AreInside xs → AreInside ys → AreInside (xs ++ ys)
inside_both [] ys h k = k
inside_both (x ∷ xs) ys h k = (h.0, inside_both xs ys h.1 k)

-- some symbols
these : (links : List Symbol) {rest : List Symbol} {R : Reading} → AreInside links → ((tail : List Symbol) → R (links ++ tail) tail) → Front R (links ++ rest) rest
these links inside moves = record { front = links; is = refl; inside = inside; moves = moves }

-- one reading behind another
both : {A B C : Reading} {ts us rest : List Symbol} → Front A ts us → Front B us rest → ((vs ws tail : List Symbol) → A vs ws → B ws tail → C vs tail) → Front C ts rest
both {A = A} {B = B} {C = C} {ts = ts} {us = us} {rest = rest} a b reads = record {
  front = a.front ++ b.front;
  is = a.is ∙ ap (λ vs. a.front ++ vs) b.is ∙ sym (append_assoc a.front b.front rest);
  inside = inside_both a.front b.front a.inside b.inside;
  moves = λ tail. subst (λ vs. C vs tail) (sym (append_assoc a.front b.front tail)) (reads (a.front ++ (b.front ++ tail)) (b.front ++ tail) tail (a.moves (b.front ++ tail)) (b.moves tail));
}

-- a reading with symbols behind it
upto : (links : List Symbol) {A : Reading} {ts us : List Symbol} → AreInside links → Front A ts (links ++ us) → Front (λ vs ws. A vs (links ++ ws)) ts us
upto links {A = A} {ts = ts} {us = us} inside a = record {
  front = a.front ++ links;
  is = a.is ∙ sym (append_assoc a.front links us);
  inside = inside_both a.front links a.inside inside;
  moves = λ tail. subst (λ vs. A vs (links ++ tail)) (sym (append_assoc a.front links tail)) (a.moves (links ++ tail));
}

-- a reading with symbols before it
behind : (links : List Symbol) {A C : Reading} {ts rest : List Symbol} → AreInside links → Front A ts rest → ((vs tail : List Symbol) → A vs tail → C (links ++ vs) tail) → Front C (links ++ ts) rest
behind links {A = A} {C = C} {ts = ts} {rest = rest} inside a reads = record {
  front = links ++ a.front;
  is = ap (λ vs. links ++ vs) a.is ∙ sym (append_assoc links a.front rest);
  inside = inside_both links a.front inside a.inside;
  moves = λ tail. subst (λ vs. C vs tail) (sym (append_assoc links a.front tail)) (reads (a.front ++ tail) tail (a.moves tail));
}

-- another reading of the same symbols
so : {A C : Reading} {ts rest : List Symbol} → Front A ts rest → ((vs tail : List Symbol) → A vs tail → C vs tail) → Front C ts rest
so a reads = record { front = a.front; is = a.is; inside = a.inside; moves = λ tail. reads (a.front ++ tail) tail (a.moves tail) }

-- the symbols of an attribute
attribute_front : {ts rest : List Symbol} {x : Scalar} → IsAttribute ts x rest → Front (λ vs ws. IsAttribute vs x ws) ts rest
attribute_front (scalar.bare {a = a}) = these (the.Name a ∷ []) (tt, tt) (λ _. scalar.bare)
attribute_front (scalar.of_first {a = a}) = these (the.Dollar1 ∷ the.Dot ∷ the.Name a ∷ []) (tt, (tt, (tt, tt))) (λ _. scalar.of_first)
attribute_front (scalar.of_second {a = a}) = these (the.Dollar2 ∷ the.Dot ∷ the.Name a ∷ []) (tt, (tt, (tt, tt))) (λ _. scalar.of_second)
attribute_front (scalar.of_so {a = a}) = these (the.Dollar ∷ the.Dot ∷ the.Name a ∷ []) (tt, (tt, (tt, tt))) (λ _. scalar.of_so)

mutual
  -- the symbols of a scalar
  scalar_front : {ts rest : List Symbol} {x : Scalar} → IsScalar ts x rest → Front (λ vs ws. IsScalar vs x ws) ts rest
  scalar_front (scalar.product h) = so (product_front h) (λ _ _ h. scalar.product h)
  scalar_front (scalar.sum h k) = both (upto (the.Plus ∷ []) (tt, tt) (scalar_front h)) (product_front k) (λ _ _ _ h k. scalar.sum h k)
  scalar_front (scalar.difference h k) = both (upto (the.Minus ∷ []) (tt, tt) (scalar_front h)) (product_front k) (λ _ _ _ h k. scalar.difference h k)

  -- the symbols of a product
  product_front : {ts rest : List Symbol} {x : Scalar} → IsProduct ts x rest → Front (λ vs ws. IsProduct vs x ws) ts rest
  product_front (scalar.factor h) = so (factor_front h) (λ _ _ h. scalar.factor h)
  product_front (scalar.times h k) = both (upto (the.Star ∷ []) (tt, tt) (product_front h)) (factor_front k) (λ _ _ _ h k. scalar.times h k)

  -- the symbols of a factor
  factor_front : {ts rest : List Symbol} {x : Scalar} → IsFactor ts x rest → Front (λ vs ws. IsFactor vs x ws) ts rest
  factor_front (scalar.number {n = n}) = these (the.Number n ∷ []) (tt, tt) (λ _. scalar.number)
  factor_front (scalar.less {n = n}) = these (the.Minus ∷ the.Number n ∷ []) (tt, (tt, tt)) (λ _. scalar.less)
  factor_front (scalar.decimal {scale = k} {n = n}) = these (the.Decimal k n ∷ []) (tt, tt) (λ _. scalar.decimal)
  factor_front (scalar.less_decimal {scale = k} {n = n}) = these (the.Minus ∷ the.Decimal k n ∷ []) (tt, (tt, tt)) (λ _. scalar.less_decimal)
  factor_front (scalar.text {t = t}) = these (the.Quoted t ∷ []) (tt, tt) (λ _. scalar.text)
  factor_front (scalar.attribute h) = so (attribute_front h) (λ _ _ h. scalar.attribute h)
  factor_front scalar.dur = these (the.Dur ∷ []) (tt, tt) (λ _. scalar.dur)
  factor_front (scalar.least {x = x} {y = y} h k) =
      behind (the.Min ∷ the.Open ∷ []) {A = λ vs ws. IsFactor (the.Min ∷ the.Open ∷ vs) _ ws} (tt, (tt, tt))
      (both (upto (the.Comma ∷ []) (tt, tt) (scalar_front h)) (upto (the.Close ∷ []) (tt, tt) (scalar_front k)) (λ _ _ _ h k. scalar.least h k)) (λ _ _ h. h)
  factor_front (scalar.greatest {x = x} {y = y} h k) =
      behind (the.Max ∷ the.Open ∷ []) {A = λ vs ws. IsFactor (the.Max ∷ the.Open ∷ vs) _ ws} (tt, (tt, tt))
      (both (upto (the.Comma ∷ []) (tt, tt) (scalar_front h)) (upto (the.Close ∷ []) (tt, tt) (scalar_front k)) (λ _ _ _ h k. scalar.greatest h k)) (λ _ _ h. h)
  factor_front (scalar.group h) = behind (the.Open ∷ []) (tt, tt) (upto (the.Close ∷ []) (tt, tt) (scalar_front h)) (λ _ _ h. scalar.group h)

mutual
  -- the symbols of a predicate
  pred_front : {ts rest : List Symbol} {p : Pred} → IsPred ts p rest → Front (λ vs ws. IsPred vs p ws) ts rest
  pred_front (pred.conj h) = so (conj_front h) (λ _ _ h. pred.conj h)
  pred_front (pred.or h k) = both (upto (the.Or ∷ []) (tt, tt) (pred_front h)) (conj_front k) (λ _ _ _ h k. pred.or h k)

  -- the symbols of a conjunction
  conj_front : {ts rest : List Symbol} {p : Pred} → IsConj ts p rest → Front (λ vs ws. IsConj vs p ws) ts rest
  conj_front (pred.neg h) = so (neg_front h) (λ _ _ h. pred.neg h)
  conj_front (pred.and h k) = both (upto (the.And ∷ []) (tt, tt) (conj_front h)) (neg_front k) (λ _ _ _ h k. pred.and h k)

  -- the symbols of a negation, or of what stands in its place
  neg_front : {ts rest : List Symbol} {p : Pred} → IsNeg ts p rest → Front (λ vs ws. IsNeg vs p ws) ts rest
  neg_front (pred.not h) = behind (the.Not ∷ []) (tt, tt) (neg_front h) (λ _ _ h. pred.not h)
  neg_front (pred.prim h) = so (prim_front h) (λ _ _ h. pred.prim h)

  -- the symbols of TRUE, a comparison, or a predicate in parentheses
  prim_front : {ts rest : List Symbol} {p : Pred} → IsPrim ts p rest → Front (λ vs ws. IsPrim vs p ws) ts rest
  prim_front pred.true = these (the.True ∷ []) (tt, tt) (λ _. pred.true)
  prim_front (pred.test {c = c} h k) = both (upto (the.Compare c ∷ []) (tt, tt) (scalar_front h)) (scalar_front k) (λ _ _ _ h k. pred.test h k)
  prim_front (pred.group h) = behind (the.Open ∷ []) (tt, tt) (upto (the.Close ∷ []) (tt, tt) (pred_front h)) (λ _ _ h. pred.group h)

-- the symbols of an item
item_front : {ts rest : List Symbol} {i : Item} → IsItem ts i rest → Front (λ vs ws. IsItem vs i ws) ts rest
item_front source.star = these (the.Star ∷ []) (tt, tt) (λ _. source.star)
item_front (source.name {a = a}) = these (the.Name a ∷ []) (tt, tt) (λ _. source.name)
item_front (source.named {a = a} h) = so (upto (the.As ∷ the.Name a ∷ []) (tt, (tt, tt)) (scalar_front h)) (λ _ _ h. source.named h)

-- the symbols of items
items_front : {ts rest : List Symbol} {is : List Item} → IsItems ts is rest → Front (λ vs ws. IsItems vs is ws) ts rest
items_front (source.one h) = so (item_front h) (λ _ _ h. source.one h)
items_front (source.more h k) = both (upto (the.Comma ∷ []) (tt, tt) (item_front h)) (items_front k) (λ _ _ _ h k. source.more h k)

-- the symbols of aggregates
aggs_front : {ts rest : List Symbol} {sets : List Agg} → IsAggs ts sets rest → Front (λ vs ws. IsAggs vs sets ws) ts rest
aggs_front source.none = these [] tt (λ _. source.none)
aggs_front (source.set {a = a} h k) =
    behind (the.Comma ∷ []) {A = λ vs ws. IsAggs (the.Comma ∷ vs) _ ws} (tt, tt)
    (both (upto (the.As ∷ the.Name a ∷ []) (tt, (tt, tt)) (scalar_front h)) (aggs_front k) (λ _ _ _ h k. source.set h k)) (λ _ _ h. h)

mutual
  -- the symbols of a source
  source_front : {ts rest : List Symbol} {e : Source} → IsSource ts e rest → Front (λ vs ws. IsSource vs e ws) ts rest
  source_front (source.term h) = so (term_front h) (λ _ _ h. source.term h)
  source_front (source.union h k) = both (upto (the.Union ∷ []) (tt, tt) (source_front h)) (term_front k) (λ _ _ _ h k. source.union h k)
  source_front (source.next h k) = both (upto (the.Next ∷ []) (tt, tt) (source_front h)) (term_front k) (λ _ _ _ h k. source.next h k)
  source_front (source.next_where {p = p} h m k) =
      both (upto (the.Next ∷ the.BraceOpen ∷ []) (tt, (tt, tt)) (source_front h))
      (both {C = λ vs ws. (us : List Symbol) × IsPred vs p (the.BraceClose ∷ us) × IsTerm us _ ws} (upto (the.BraceClose ∷ []) (tt, tt) (pred_front m)) (term_front k) (λ _ us _ m k. (us, m, k)))
      (λ _ _ _ h k. source.next_where h k.1 k.2)
  source_front (source.fold {p = p} {q = q} {sets = sets} h m n s k) =
      both (upto (the.Fold ∷ the.BraceOpen ∷ []) (tt, (tt, tt)) (source_front h))
      (both {C = λ vs zs. (us : List Symbol) × (ws : List Symbol) × (xs : List Symbol) × IsPred vs p (the.Comma ∷ us) × IsPred us q ws × IsAggs ws sets (the.BraceClose ∷ xs) × IsTerm xs _ zs}
      (upto (the.Comma ∷ []) (tt, tt) (pred_front m))
      (both {C = λ us zs. (ws : List Symbol) × (xs : List Symbol) × IsPred us q ws × IsAggs ws sets (the.BraceClose ∷ xs) × IsTerm xs _ zs}
      (pred_front n)
      (both {C = λ ws zs. (xs : List Symbol) × IsAggs ws sets (the.BraceClose ∷ xs) × IsTerm xs _ zs}
      (upto (the.BraceClose ∷ []) (tt, tt) (aggs_front s)) (term_front k) (λ _ xs _ s k. (xs, s, k)))
      (λ _ ws _ n k. (ws, k.0, n, k.1, k.2)))
      (λ _ us _ m k. (us, k.0, k.1, m, k.2, k.3, k.4)))
      (λ _ _ _ h k. source.fold h k.3 k.4 k.5 k.6)

  -- the symbols of a term
  term_front : {ts rest : List Symbol} {e : Source} → IsTerm ts e rest → Front (λ vs ws. IsTerm vs e ws) ts rest
  term_front (source.of {a = a}) = these (the.Name a ∷ []) (tt, tt) (λ _. source.of)
  term_front (source.group h) = behind (the.Open ∷ []) (tt, tt) (upto (the.Close ∷ []) (tt, tt) (source_front h)) (λ _ _ h. source.group h)
  term_front (source.select h k) =
      behind (the.Open ∷ the.Select ∷ []) {A = λ vs ws. IsTerm (the.Open ∷ the.Select ∷ vs) _ ws} (tt, (tt, tt))
      (both (upto (the.From ∷ []) (tt, tt) (items_front h)) (upto (the.Close ∷ []) (tt, tt) (source_front k)) (λ _ _ _ h k. source.select h k)) (λ _ _ h. h)
  term_front (source.filter h k) =
      behind (the.Filter ∷ the.BraceOpen ∷ []) {A = λ vs ws. IsTerm (the.Filter ∷ the.BraceOpen ∷ vs) _ ws} (tt, (tt, tt))
      (both (upto (the.BraceClose ∷ []) (tt, tt) (pred_front h)) (term_front k) (λ _ _ _ h k. source.filter h k)) (λ _ _ h. h)

-- the symbols of a kind
kind_front : {ts rest : List Symbol} {k : Kind} → IsKind ts k rest → Front (λ vs ws. IsKind vs k ws) ts rest
kind_front statement.int = these (the.Int ∷ []) (tt, tt) (λ _. statement.int)
kind_front statement.text = these (the.Text ∷ []) (tt, tt) (λ _. statement.text)
kind_front (statement.dec {places = n} few) = these (the.Name (codes "DEC") ∷ the.Number n ∷ []) (tt, (tt, tt)) (λ _. statement.dec few)

-- the symbols of columns
columns_front : {ts rest : List Symbol} {cs : List Column} → IsColumns ts cs rest → Front (λ vs ws. IsColumns vs cs ws) ts rest
columns_front (statement.one {a = a} h) = behind (the.Name a ∷ []) (tt, tt) (kind_front h) (λ _ _ h. statement.one h)
columns_front (statement.more {a = a} h k) =
    behind (the.Name a ∷ []) {A = λ vs ws. IsColumns (the.Name a ∷ vs) _ ws} (tt, tt)
    (both (upto (the.Comma ∷ []) (tt, tt) (kind_front h)) (columns_front k) (λ _ _ _ h k. statement.more h k)) (λ _ _ h. h)

-- the symbols of a statement hold no semicolon, and read so before any others
pub statement_front : {ts rest : List Symbol} {s : Statement} → IsStatement ts s rest → Front (λ vs ws. IsStatement vs s ws) ts rest
statement_front (statement.declaration {a = a} h) =
    behind (the.Stream ∷ the.Name a ∷ the.Open ∷ []) (tt, (tt, (tt, tt))) (upto (the.Close ∷ []) (tt, tt) (columns_front h)) (λ _ _ h. statement.declaration h)
statement_front (statement.query {a = a} h k) =
    behind (the.Select ∷ []) {A = λ vs ws. IsStatement (the.Select ∷ vs) _ ws} (tt, tt)
    (both (upto (the.From ∷ []) (tt, tt) (items_front h)) (upto (the.Publish ∷ the.Name a ∷ []) (tt, (tt, tt)) (source_front k)) (λ _ _ _ h k. statement.query h k)) (λ _ _ h. h)
