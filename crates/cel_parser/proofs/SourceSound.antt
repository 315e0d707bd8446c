-- What is read is in the grammar.
use Rattle.std.proofs.Common.{◌≡◌, ℕ, zero, suc, List, [], ◌∷◌, refl}
use Rattle.std.specs.Prelude.{Some}
use Rattle.cel_grammar.specs.Symbols.{Symbol}
use Rattle.cel_grammar.specs.Symbols as the
use Rattle.cel_grammar.specs.Scalars.{IsScalar}
use Rattle.cel_parser.specs.ScalarReader.{◌>>=◌, done, comma_at, close_at, scalar_at}
use Rattle.cel_parser.proofs.ScalarSound.{bind_some, same, scalar_sound, comma_is}
use Rattle.cel_grammar.specs.Trees.{True}
use Rattle.cel_grammar.specs.Predicates.{IsPred}
use Rattle.cel_parser.specs.PredicateReader.{pred_at}
use Rattle.cel_parser.proofs.PredicateSound.{pred_sound}
use Rattle.cel_grammar.specs.Trees.{Item, All, Named, Agg, Set, Source, Name, Filter, Select, Union, Next, Fold}
use Rattle.cel_grammar.specs.Sources.{IsItem, star, name, named, IsItems, one, more, IsAggs, none, set, IsSource, term, union, next, next_where, fold, IsTerm, of, group, select, filter}
use Rattle.cel_parser.specs.SourceReader.{from_at, brace_at, as_at, named_at, item_at, items_at, items_more, aggs_at, source_at, source_more, term_at}

-- the reader reads it from its parts
pub from_is : (ts us : List Symbol) → from_at ts ≡ Some us → ts ≡ the.From ∷ us
from_is (the.From ∷ ts) us e = cc
from_is ts us e = absurd cc

-- the reader reads it from its parts
brace_is : (ts us : List Symbol) → brace_at ts ≡ Some us → ts ≡ the.BraceClose ∷ us
brace_is (the.BraceClose ∷ ts) us e = cc
brace_is ts us e = absurd cc

-- the reader reads it from its parts
as_is : (ts : List Symbol) (a : List ℕ) (us : List Symbol) → as_at ts ≡ done a us → ts ≡ the.As ∷ the.Name a ∷ us
as_is (the.As ∷ the.Name b ∷ vs) a us e =
    let P : List ℕ → List Symbol → Type 0 = λ c ws. the.As ∷ the.Name b ∷ vs ≡ the.As ∷ the.Name c ∷ ws in
    same P b vs a us e refl
as_is ts a us e = absurd cc

-- what is read is in the grammar
named_sound : (n : ℕ) (ts : List Symbol) (i : Item) (rest : List Symbol) → named_at n ts ≡ Some (i, rest) → IsItem ts i rest
unfolding named_at
named_sound n ts i rest e =
    let a = bind_some (scalar_at n ts) _ (i, rest) e in
    let b = bind_some (as_at a.0.1) _ (i, rest) a.2 in
    let it : IsScalar ts a.0.0 (the.As ∷ the.Name b.0.0 ∷ b.0.1) = rw (as_is a.0.1 b.0.0 b.0.1 b.1) at (scalar_sound n ts a.0.0 a.0.1 a.1) in
    same (IsItem ts) (Named a.0.0 b.0.0) b.0.1 i rest b.2 (named it)

-- what is read is in the grammar
item_sound : (n : ℕ) (ts : List Symbol) (i : Item) (rest : List Symbol) → item_at n ts ≡ Some (i, rest) → IsItem ts i rest
unfolding item_at
item_sound n (the.Star ∷ ts) i rest e = same (IsItem (the.Star ∷ ts)) All ts i rest e star
item_sound n (the.Name a ∷ the.Comma ∷ ts) i rest e = same (IsItem (the.Name a ∷ the.Comma ∷ ts)) _ (the.Comma ∷ ts) i rest e name
item_sound n (the.Name a ∷ the.From ∷ ts) i rest e = same (IsItem (the.Name a ∷ the.From ∷ ts)) _ (the.From ∷ ts) i rest e name
item_sound n ts i rest e = named_sound n ts i rest e

mutual
  unfolding items_at

  -- what is read is in the grammar
  pub items_sound : (n : ℕ) (ts : List Symbol) (is : List Item) (rest : List Symbol) → items_at n ts ≡ Some (is, rest) → IsItems ts is rest
  items_sound zero ts is rest e = absurd cc
  items_sound (suc n) ts is rest e =
      let s = bind_some (item_at n ts) (λ i. items_more n i.0 i.1) (is, rest) e in
      items_more_sound n ts s.0.0 s.0.1 is rest (item_sound n ts s.0.0 s.0.1 s.1) s.2

  -- what is read is in the grammar
  pub items_more_sound : (n : ℕ) (front : List Symbol) (i : Item) (ts : List Symbol) (is : List Item) (rest : List Symbol) → IsItem front i ts → items_more n i ts ≡ Some (is, rest) → IsItems front is rest
  items_more_sound zero front i ts is rest h e = absurd cc
  items_more_sound (suc n) front i (the.Comma ∷ ts) is rest h e =
      let s = bind_some (items_at n ts) (λ js. done (i ∷ js.0) js.1) (is, rest) e in
      same (IsItems front) (i ∷ s.0.0) s.0.1 is rest s.2 (more h (items_sound n ts s.0.0 s.0.1 s.1))
  items_more_sound (suc n) front i ts is rest h e = same (IsItems front) (i ∷ []) ts is rest e (one h)

-- what is read is in the grammar
pub aggs_sound : (n : ℕ) (ts : List Symbol) (sets : List Agg) (rest : List Symbol) → aggs_at n ts ≡ Some (sets, rest) → IsAggs ts sets rest
unfolding aggs_at
aggs_sound zero ts sets rest e = absurd cc
aggs_sound (suc n) (the.Comma ∷ ts) sets rest e =
    let a = bind_some (scalar_at n ts) _ (sets, rest) e in
    let b = bind_some (as_at a.0.1) _ (sets, rest) a.2 in
    let c = bind_some (aggs_at n b.0.1) _ (sets, rest) b.2 in
    let it : IsScalar ts a.0.0 (the.As ∷ the.Name b.0.0 ∷ b.0.1) = rw (as_is a.0.1 b.0.0 b.0.1 b.1) at (scalar_sound n ts a.0.0 a.0.1 a.1) in
    same (IsAggs (the.Comma ∷ ts)) (Set a.0.0 b.0.0 ∷ c.0.0) c.0.1 sets rest c.2 (set it (aggs_sound n b.0.1 c.0.0 c.0.1 c.1))
aggs_sound (suc n) ts sets rest e = same (IsAggs ts) [] ts sets rest e none

-- it begins with no symbol that a predicate goes on with
group_end : (ts vs : List Symbol) (x y : Source) (rest : List Symbol) → IsSource ts x vs → (close_at vs >>= done x) ≡ done y rest → IsTerm (the.Open ∷ ts) y rest
group_end ts (the.Close ∷ us) x y rest h e = same (IsTerm (the.Open ∷ ts)) x us y rest e (group h)
group_end ts vs x y rest h e = absurd cc

-- it begins with no symbol that a predicate goes on with
select_end : (ts us vs : List Symbol) (is : List Item) (x y : Source) (rest : List Symbol) → IsItems ts is (the.From ∷ us) → IsSource us x vs → (close_at vs >>= done (Select is x)) ≡ done y rest → IsTerm (the.Open ∷ the.Select ∷ ts) y rest
select_end ts us (the.Close ∷ ws) is x y rest h k e = same (IsTerm (the.Open ∷ the.Select ∷ ts)) (Select is x) ws y rest e (select h k)
select_end ts us vs is x y rest h k e = absurd cc

mutual
  unfolding source_at

  -- what is read is in the grammar
  pub source_sound : (n : ℕ) (ts : List Symbol) (x : Source) (rest : List Symbol) → source_at n ts ≡ Some (x, rest) → IsSource ts x rest
  source_sound zero ts x rest e = absurd cc
  source_sound (suc n) ts x rest e =
      let s = bind_some (term_at n ts) (λ p. source_more n p.0 p.1) (x, rest) e in
      source_more_sound n ts s.0.0 s.0.1 x rest (term (term_sound n ts s.0.0 s.0.1 s.1)) s.2

  -- what is read is in the grammar
  pub source_more_sound : (n : ℕ) (front : List Symbol) (x : Source) (ts : List Symbol) (y : Source) (rest : List Symbol) → IsSource front x ts → source_more n x ts ≡ Some (y, rest) → IsSource front y rest
  source_more_sound zero front x ts y rest h e = absurd cc
  source_more_sound (suc n) front x (the.Union ∷ ts) y rest h e =
      let s = bind_some (term_at n ts) _ (y, rest) e in
      source_more_sound n front (Union x s.0.0) s.0.1 y rest (union h (term_sound n ts s.0.0 s.0.1 s.1)) s.2
  source_more_sound (suc n) front x (the.Next ∷ the.BraceOpen ∷ ts) y rest h e =
      let a = bind_some (pred_at n ts) _ (y, rest) e in
      let b = bind_some (brace_at a.0.1) _ (y, rest) a.2 in
      let c = bind_some (term_at n b.0) _ (y, rest) b.2 in
      let p : IsPred ts a.0.0 (the.BraceClose ∷ b.0) = rw (brace_is a.0.1 b.0 b.1) at (pred_sound n ts a.0.0 a.0.1 a.1) in
      source_more_sound n front (Next a.0.0 x c.0.0) c.0.1 y rest (next_where h p (term_sound n b.0 c.0.0 c.0.1 c.1)) c.2
  source_more_sound (suc n) front x (the.Next ∷ ts) y rest h e =
      let s = bind_some (term_at n ts) _ (y, rest) e in
      source_more_sound n front (Next True x s.0.0) s.0.1 y rest (next h (term_sound n ts s.0.0 s.0.1 s.1)) s.2
  source_more_sound (suc n) front x (the.Fold ∷ the.BraceOpen ∷ ts) y rest h e =
      let a = bind_some (pred_at n ts) _ (y, rest) e in
      let b = bind_some (comma_at a.0.1) _ (y, rest) a.2 in
      let c = bind_some (pred_at n b.0) _ (y, rest) b.2 in
      let d = bind_some (aggs_at n c.0.1) _ (y, rest) c.2 in
      let f = bind_some (brace_at d.0.1) _ (y, rest) d.2 in
      let g = bind_some (term_at n f.0) _ (y, rest) f.2 in
      let p : IsPred ts a.0.0 (the.Comma ∷ b.0) = rw (comma_is a.0.1 b.0 b.1) at (pred_sound n ts a.0.0 a.0.1 a.1) in
      let sets : IsAggs c.0.1 d.0.0 (the.BraceClose ∷ f.0) = rw (brace_is d.0.1 f.0 f.1) at (aggs_sound n c.0.1 d.0.0 d.0.1 d.1) in
      source_more_sound n front (Fold a.0.0 c.0.0 d.0.0 x g.0.0) g.0.1 y rest (fold h p (pred_sound n b.0 c.0.0 c.0.1 c.1) sets (term_sound n f.0 g.0.0 g.0.1 g.1)) g.2
  source_more_sound (suc n) front x ts y rest h e = same (IsSource front) x ts y rest e h

  -- what is read is in the grammar
  pub term_sound : (n : ℕ) (ts : List Symbol) (x : Source) (rest : List Symbol) → term_at n ts ≡ Some (x, rest) → IsTerm ts x rest
  term_sound zero ts x rest e = absurd cc
  term_sound (suc n) (the.Name a ∷ ts) x rest e = same (IsTerm (the.Name a ∷ ts)) (Name a) ts x rest e of
  term_sound (suc n) (the.Open ∷ the.Select ∷ ts) x rest e =
      let a = bind_some (items_at n ts) _ (x, rest) e in
      let b = bind_some (from_at a.0.1) _ (x, rest) a.2 in
      let c = bind_some (source_at n b.0) _ (x, rest) b.2 in
      let is : IsItems ts a.0.0 (the.From ∷ b.0) = rw (from_is a.0.1 b.0 b.1) at (items_sound n ts a.0.0 a.0.1 a.1) in
      select_end ts b.0 c.0.1 a.0.0 c.0.0 x rest is (source_sound n b.0 c.0.0 c.0.1 c.1) c.2
  term_sound (suc n) (the.Open ∷ ts) x rest e =
      let a = bind_some (source_at n ts) _ (x, rest) e in
      group_end ts a.0.1 a.0.0 x rest (source_sound n ts a.0.0 a.0.1 a.1) a.2
  term_sound (suc n) (the.Filter ∷ the.BraceOpen ∷ ts) x rest e =
      let a = bind_some (pred_at n ts) _ (x, rest) e in
      let b = bind_some (brace_at a.0.1) _ (x, rest) a.2 in
      let c = bind_some (term_at n b.0) _ (x, rest) b.2 in
      let p : IsPred ts a.0.0 (the.BraceClose ∷ b.0) = rw (brace_is a.0.1 b.0 b.1) at (pred_sound n ts a.0.0 a.0.1 a.1) in
      same (IsTerm (the.Filter ∷ the.BraceOpen ∷ ts)) (Filter a.0.0 c.0.0) c.0.1 x rest c.2 (filter p (term_sound n b.0 c.0.0 c.0.1 c.1))
  term_sound (suc n) ts x rest e = absurd cc
