-- What is in the grammar is read.
use Rattle.std.proofs.Common.{◌≡◌, ◌∙◌, ℕ, zero, suc, ◌+◌, ◌-◌, ◌*◌, ◌<◌, ◌≤◌, List, [], ◌∷◌, length, refl, arith}
use Rattle.std.specs.Prelude.{Option, Some}
use Rattle.cel_grammar.specs.declared.mark.Mark.TheVariants as mark
use Rattle.cel_grammar.specs.Symbols.{Symbol}
use Rattle.cel_grammar.specs.Symbols as the
use Rattle.cel_grammar.specs.Trees.{Scalar, Attr}
use Rattle.cel_grammar.specs.Scalars.{IsScalar}
use Rattle.cel_parser.specs.ScalarReader.{done, scalar_at}
use Rattle.cel_parser.proofs.ScalarSound.{same}
use Rattle.cel_parser.proofs.ScalarComplete.{NotOperator, scalar_complete, scalar_shorter, scalar_stays}
use Rattle.cel_grammar.specs.Trees.{Pred, True}
use Rattle.cel_grammar.specs.Predicates.{IsPred}
use Rattle.cel_parser.specs.PredicateReader.{pred_at}
use Rattle.cel_parser.proofs.PredicateComplete.{NotAnd, NotOr, pred_complete, pred_shorter, pred_stays}
use Rattle.cel_grammar.specs.Trees.{Item, Named, Agg, Source, Filter, Select, Union, Next, Fold}
use Rattle.cel_grammar.specs.Sources.{IsItem, star, name, named, IsItems, one, more, IsAggs, none, set, IsSource, term, union, next, next_where, fold, IsTerm, of, group, select, filter}
use Rattle.cel_parser.specs.SourceReader.{named_at, item_at, items_at, aggs_at, source_at, source_more, term_at}
use Rattle.cel_parser.proofs.SourceKeeps.{source_more_keeps}

-- what stands behind an item
abbrev pub EndsItem : List Symbol → Type 0
EndsItem (the.Comma ∷ ts) = Unit {0}
EndsItem (the.From ∷ ts) = Unit {0}
EndsItem ts = ⊥

-- an item that is more than * or a name
abbrev pub IsLong : List Symbol → Type 0
IsLong (the.Star ∷ ts) = ⊥
IsLong (the.Name a ∷ the.Comma ∷ ts) = ⊥
IsLong (the.Name a ∷ the.From ∷ ts) = ⊥
IsLong ts = Unit {0}

-- a scalar under a name is long
scalar_long : (ts : List Symbol) (x : Scalar) (us : List Symbol) → IsScalar ts x (the.As ∷ us) → IsLong ts
unfolding scalar_at
scalar_long (the.Star ∷ ts) x us h =
    let e : scalar_at (suc (suc (suc (suc (4 * length ts + 1))))) (the.Star ∷ ts) ≡ Some (x, the.As ∷ us) = scalar_complete h 1 (suc (suc (suc (suc (4 * length ts + 1))))) (x, the.As ∷ us) tt (omega arith) (scalar_stays 0 x (the.As ∷ us) tt) in
    absurd cc
scalar_long (the.Name a ∷ the.Comma ∷ ts) x us h =
    let e : scalar_at (suc (suc (suc (suc (4 * length ts + 5))))) (the.Name a ∷ the.Comma ∷ ts) ≡ Some (x, the.As ∷ us) = scalar_complete h 1 (suc (suc (suc (suc (4 * length ts + 5))))) (x, the.As ∷ us) tt (omega arith) (scalar_stays 0 x (the.As ∷ us) tt) in
    let P : Scalar → List Symbol → Type 0 = λ y vs. EndsItem vs in
    same P (Attr mark.Bare a) (the.Comma ∷ ts) x (the.As ∷ us) e tt
scalar_long (the.Name a ∷ the.From ∷ ts) x us h =
    let e : scalar_at (suc (suc (suc (suc (4 * length ts + 5))))) (the.Name a ∷ the.From ∷ ts) ≡ Some (x, the.As ∷ us) = scalar_complete h 1 (suc (suc (suc (suc (4 * length ts + 5))))) (x, the.As ∷ us) tt (omega arith) (scalar_stays 0 x (the.As ∷ us) tt) in
    let P : Scalar → List Symbol → Type 0 = λ y vs. EndsItem vs in
    same P (Attr mark.Bare a) (the.From ∷ ts) x (the.As ∷ us) e tt
scalar_long ts x us h = tt

-- the reader goes on to a scalar under a name
item_is_named : (n : ℕ) (ts : List Symbol) → IsLong ts → item_at n ts ≡ named_at n ts
unfolding item_at
item_is_named n (the.Star ∷ ts) h = absurd h
item_is_named n (the.Name a ∷ the.Comma ∷ ts) h = absurd h
item_is_named n (the.Name a ∷ the.From ∷ ts) h = absurd h
item_is_named n ts h = refl

-- the reader reads it from its parts
named_ok : (n : ℕ) (ts : List Symbol) (x : Scalar) (a : List ℕ) (rest : List Symbol) → scalar_at n ts ≡ Some (x, the.As ∷ the.Name a ∷ rest) → named_at n ts ≡ Some (Named x a, rest)
unfolding named_at
named_ok n ts x a rest p = rw p refl

-- the reader reads it from its parts
name_ok : (n : ℕ) (a : List ℕ) (rest : List Symbol) → EndsItem rest → item_at n (the.Name a ∷ rest) ≡ Some (Named (Attr mark.Bare a) a, rest)
unfolding item_at
name_ok n a (the.Comma ∷ rest) h = refl
name_ok n a (the.From ∷ rest) h = refl
name_ok n a rest h = absurd h

-- what is in the grammar is read
pub item_complete : {ts rest : List Symbol} {i : Item} → IsItem ts i rest → (m : ℕ) → EndsItem rest → 8 * length ts ≤ m + 8 * length rest → item_at m ts ≡ Some (i, rest)
unfolding item_at
item_complete star m ends le = refl
item_complete {rest = rest} (name {a = a}) m ends le = name_ok m a rest ends
item_complete {ts = ts} {rest = rest} (named {x = x} {a = a} h) m ends le =
    item_is_named m ts (scalar_long ts x (the.Name a ∷ rest) h) ∙ named_ok m ts x a rest (scalar_complete h 1 m (x, the.As ∷ the.Name a ∷ rest) tt (omega (arith, scalar_shorter h)) (scalar_stays 0 x (the.As ∷ the.Name a ∷ rest) tt))

-- it takes one symbol at least
pub item_shorter : {ts rest : List Symbol} {i : Item} → IsItem ts i rest → length rest < length ts
item_shorter star = omega arith
item_shorter name = omega arith
item_shorter (named h) = omega (arith, scalar_shorter h)

-- it takes one symbol at least
pub items_shorter : {ts rest : List Symbol} {is : List Item} → IsItems ts is rest → length rest < length ts
items_shorter (one h) = item_shorter h
items_shorter (more h k) = omega (arith, item_shorter h, items_shorter k)

-- items up to a FROM
pub items_complete : {ts us : List Symbol} {is : List Item} → IsItems ts is (the.From ∷ us) → (m : ℕ) → 8 * length ts ≤ m + 4 + 8 * length us → items_at m ts ≡ Some (is, the.From ∷ us)
unfolding items_at
items_complete h zero le = absurd (omega (arith, items_shorter h))
items_complete (one h) (suc zero) le = absurd (omega (arith, item_shorter h))
items_complete (one h) (suc (suc m)) le = rw (item_complete h (suc m) tt (omega arith)) refl
items_complete (more h k) (suc zero) le = absurd (omega (arith, item_shorter h, items_shorter k))
items_complete (more h k) (suc (suc m)) le = rw (item_complete h (suc m) tt (omega (arith, items_shorter k))) (rw (items_complete k m (omega (arith, item_shorter h))) refl)

-- it adds no symbols
pub aggs_shorter : {ts rest : List Symbol} {as' : List Agg} → IsAggs ts as' rest → length rest ≤ length ts
aggs_shorter none = omega arith
aggs_shorter (set h k) = omega (arith, scalar_shorter h, aggs_shorter k)

-- aggregates up to a brace
pub aggs_complete : {ts us : List Symbol} {as' : List Agg} → IsAggs ts as' (the.BraceClose ∷ us) → (m : ℕ) → 8 * length ts + 1 ≤ m + 8 + 8 * length us → aggs_at m ts ≡ Some (as', the.BraceClose ∷ us)
unfolding aggs_at
aggs_complete h zero le = absurd (omega (arith, aggs_shorter h))
aggs_complete none (suc m) le = refl
aggs_complete (set {us = vs} {x = x} {a = a} h k) (suc m) le =
    rw (scalar_complete h 1 m (x, the.As ∷ the.Name a ∷ vs) tt (omega (arith, scalar_shorter h, aggs_shorter k)) (scalar_stays 0 x (the.As ∷ the.Name a ∷ vs) tt))
    (rw (aggs_complete k m (omega (arith, scalar_shorter h))) refl)

-- no source goes on here
abbrev pub NotLink : List Symbol → Type 0
NotLink (the.Union ∷ ts) = ⊥
NotLink (the.Next ∷ ts) = ⊥
NotLink (the.Fold ∷ ts) = ⊥
NotLink ts = Unit {0}

-- what cannot go on here stays as it is
pub source_stays : (n : ℕ) (e : Source) (ts : List Symbol) → NotLink ts → source_more (suc n) e ts ≡ Some (e, ts)
unfolding source_more
source_stays n e (the.Union ∷ ts) h = absurd h
source_stays n e (the.Next ∷ ts) h = absurd h
source_stays n e (the.Fold ∷ ts) h = absurd h
source_stays n e ts h = refl

-- what a term begins with
abbrev pub BeginsTerm : List Symbol → Type 0
BeginsTerm (the.Name a ∷ ts) = Unit {0}
BeginsTerm (the.Open ∷ ts) = Unit {0}
BeginsTerm (the.Filter ∷ ts) = Unit {0}
BeginsTerm ts = ⊥

-- what it begins with
term_begins : {ts rest : List Symbol} {e : Source} → IsTerm ts e rest → BeginsTerm ts
term_begins of = tt
term_begins (group a) = tt
term_begins (select a b) = tt
term_begins (filter a b) = tt

-- what it begins with
source_begins : {ts rest : List Symbol} {e : Source} → IsSource ts e rest → BeginsTerm ts
source_begins (term a) = term_begins a
source_begins (union a b) = source_begins a
source_begins (next a b) = source_begins a
source_begins (next_where a p b) = source_begins a
source_begins (fold a p q s b) = source_begins a

-- the reader reads it from its parts
group_is : (n : ℕ) (ts : List Symbol) (e : Source) (rest : List Symbol) → BeginsTerm ts → source_at n ts ≡ Some (e, the.Close ∷ rest) → term_at (suc n) (the.Open ∷ ts) ≡ Some (e, rest)
unfolding term_at
group_is n (the.Name a ∷ ts) e rest h k = rw k refl
group_is n (the.Open ∷ ts) e rest h k = rw k refl
group_is n (the.Filter ∷ ts) e rest h k = rw k refl
group_is n ts e rest h k = absurd h

-- the reader reads it from its parts
next_is : (n : ℕ) (e f : Source) (us rest : List Symbol) (z : Source × List Symbol) → BeginsTerm us → term_at n us ≡ Some (f, rest) → source_more n (Next True e f) rest ≡ Some z → source_more (suc n) e (the.Next ∷ us) ≡ Some z
unfolding source_more
next_is n e f (the.Name a ∷ ts) rest z h k l = rw k l
next_is n e f (the.Open ∷ ts) rest z h k l = rw k l
next_is n e f (the.Filter ∷ ts) rest z h k l = rw k l
next_is n e f ts rest z h k l = absurd h

-- the reader reads it from its parts
next_where_is : (n : ℕ) (e f : Source) (p : Pred) (us vs rest : List Symbol) (z : Source × List Symbol) → pred_at n us ≡ Some (p, the.BraceClose ∷ vs) → term_at n vs ≡ Some (f, rest) → source_more n (Next p e f) rest ≡ Some z → source_more (suc n) e (the.Next ∷ the.BraceOpen ∷ us) ≡ Some z
unfolding source_more
next_where_is n e f p us vs rest z a b c = rw a (rw b c)

-- the reader reads it from its parts
fold_is : (n : ℕ) (e f : Source) (p q : Pred) (sets : List Agg) (us vs ws xs rest : List Symbol) (z : Source × List Symbol) → pred_at n us ≡ Some (p, the.Comma ∷ vs) → pred_at n vs ≡ Some (q, ws) → aggs_at n ws ≡ Some (sets, the.BraceClose ∷ xs) → term_at n xs ≡ Some (f, rest) → source_more n (Fold p q sets e f) rest ≡ Some z → source_more (suc n) e (the.Fold ∷ the.BraceOpen ∷ us) ≡ Some z
unfolding source_more
fold_is n e f p q sets us vs ws xs rest z a b c d g = rw a (rw b (rw c (rw d g)))

-- the reader reads it from its parts
select_is : (n : ℕ) (is : List Item) (e : Source) (ts us rest : List Symbol) → items_at n ts ≡ Some (is, the.From ∷ us) → source_at n us ≡ Some (e, the.Close ∷ rest) → term_at (suc n) (the.Open ∷ the.Select ∷ ts) ≡ Some (Select is e, rest)
unfolding term_at
select_is n is e ts us rest a b = rw a (rw b refl)

-- the reader reads it from its parts
filter_is : (n : ℕ) (p : Pred) (e : Source) (ts us rest : List Symbol) → pred_at n ts ≡ Some (p, the.BraceClose ∷ us) → term_at n us ≡ Some (e, rest) → term_at (suc n) (the.Filter ∷ the.BraceOpen ∷ ts) ≡ Some (Filter p e, rest)
unfolding term_at
filter_is n p e ts us rest a b = rw a (rw b refl)

mutual
  -- it takes one symbol at least
  pub source_shorter : {ts rest : List Symbol} {e : Source} → IsSource ts e rest → length rest < length ts
  source_shorter (term a) = term_shorter a
  source_shorter (union a b) = omega (arith, source_shorter a, term_shorter b)
  source_shorter (next a b) = omega (arith, source_shorter a, term_shorter b)
  source_shorter (next_where a p b) = omega (arith, source_shorter a, pred_shorter p, term_shorter b)
  source_shorter (fold a p q s b) = omega (arith, source_shorter a, pred_shorter p, pred_shorter q, aggs_shorter s, term_shorter b)

  -- it takes one symbol at least
  pub term_shorter : {ts rest : List Symbol} {e : Source} → IsTerm ts e rest → length rest < length ts
  term_shorter of = omega arith
  term_shorter (group a) = omega (arith, source_shorter a)
  term_shorter (select a b) = omega (arith, items_shorter a, source_shorter b)
  term_shorter (filter a b) = omega (arith, pred_shorter a, term_shorter b)

-- a predicate that ends at a token which can't go on
pred_ends : {ts rest : List Symbol} {p : Pred} → IsPred ts p rest → (m : ℕ) → NotOperator rest → NotAnd rest → NotOr rest → 8 * length ts ≤ m + 1 + 8 * length rest → pred_at m ts ≡ Some (p, rest)
pred_ends {ts} {rest} {p} h m a b c le = pred_complete h 1 m (p, rest) a b (omega arith) (pred_stays 0 p rest c)

-- what stands before a brace or at the end of a list of aggregates
aggs_end : {ts us : List Symbol} {sets : List Agg} → IsAggs ts sets (the.BraceClose ∷ us) → NotOperator ts × NotAnd ts × NotOr ts
aggs_end none = (tt, tt, tt)
aggs_end (set a b) = (tt, tt, tt)

mutual
  unfolding source_at

  -- what is in the grammar is read
  pub source_complete : {ts rest : List Symbol} {e : Source} → IsSource ts e rest → (n m : ℕ) (z : Source × List Symbol) → n + 16 * length ts ≤ m + 4 + 16 * length rest → source_more n e rest ≡ Some z → source_at m ts ≡ Some z
  source_complete h n zero z le k = absurd (omega (arith, source_shorter h))
  source_complete {rest = rest} {e = e} (term a) n (suc m) z le k =
      rw (term_complete a m (omega arith)) (source_more_keeps n m e rest z (omega (arith, term_shorter a)) k)
  source_complete {rest = rest} (union {us = us} {e = e} {f = f} a b) n (suc m) z le k =
      let j : ℕ = n + 16 * (length us - length rest) in
      let more : source_more (suc j) e (the.Union ∷ us) ≡ Some z = rw (term_complete b j (omega (arith, term_shorter b))) (source_more_keeps n j (Union e f) rest z (omega arith) k) in
      source_complete a (suc j) (suc m) z (omega (arith, source_shorter a, term_shorter b)) more
  source_complete {rest = rest} (next {us = us} {e = e} {f = f} a b) n (suc m) z le k =
      let j : ℕ = n + 16 * (length us - length rest) in
      let more : source_more (suc j) e (the.Next ∷ us) ≡ Some z = next_is j e f us rest z (term_begins b) (term_complete b j (omega (arith, term_shorter b))) (source_more_keeps n j (Next True e f) rest z (omega arith) k) in
      source_complete a (suc j) (suc m) z (omega (arith, source_shorter a, term_shorter b)) more
  source_complete {rest = rest} (next_where {us = us} {vs = vs} {e = e} {f = f} {p = p} a q b) n (suc m) z le k =
      let j : ℕ = n + 16 * (length us - length rest) in
      let first : pred_at j us ≡ Some (p, the.BraceClose ∷ vs) = pred_ends q j tt tt tt (omega (arith, pred_shorter q, term_shorter b)) in
      let more : source_more (suc j) e (the.Next ∷ the.BraceOpen ∷ us) ≡ Some z = next_where_is j e f p us vs rest z first (term_complete b j (omega (arith, pred_shorter q, term_shorter b))) (source_more_keeps n j (Next p e f) rest z (omega arith) k) in
      source_complete a (suc j) (suc m) z (omega (arith, source_shorter a, pred_shorter q, term_shorter b)) more
  source_complete {rest = rest} (fold {us = us} {vs = vs} {ws = ws} {xs = xs} {e = e} {f = f} {p = p} {q = q} {sets = sets} a h i s b) n (suc m) z le k =
      let j : ℕ = n + 16 * (length us - length rest) in
      let first : pred_at j us ≡ Some (p, the.Comma ∷ vs) = pred_ends h j tt tt tt (omega (arith, pred_shorter h, pred_shorter i, aggs_shorter s, term_shorter b)) in
      let ends = aggs_end s in
      let second : pred_at j vs ≡ Some (q, ws) = pred_ends i j ends.0 ends.1 ends.2 (omega (arith, pred_shorter h, pred_shorter i, aggs_shorter s, term_shorter b)) in
      let third : aggs_at j ws ≡ Some (sets, the.BraceClose ∷ xs) = aggs_complete s j (omega (arith, pred_shorter h, pred_shorter i, aggs_shorter s, term_shorter b)) in
      let last : term_at j xs ≡ Some (f, rest) = term_complete b j (omega (arith, pred_shorter h, pred_shorter i, aggs_shorter s, term_shorter b)) in
      let more : source_more (suc j) e (the.Fold ∷ the.BraceOpen ∷ us) ≡ Some z = fold_is j e f p q sets us vs ws xs rest z first second third last (source_more_keeps n j (Fold p q sets e f) rest z (omega arith) k) in
      source_complete a (suc j) (suc m) z (omega (arith, source_shorter a, pred_shorter h, pred_shorter i, aggs_shorter s, term_shorter b)) more

  -- what is in the grammar is read
  pub term_complete : {ts rest : List Symbol} {e : Source} → IsTerm ts e rest → (m : ℕ) → 16 * length ts ≤ m + 10 + 16 * length rest → term_at m ts ≡ Some (e, rest)
  term_complete h zero le = absurd (omega (arith, term_shorter h))
  term_complete of (suc m) le = refl
  term_complete (group {ts = ts} {rest = rest} {e = e} a) (suc m) le =
      group_is m ts e rest (source_begins a) (source_complete a 1 m (e, the.Close ∷ rest) (omega (arith, source_shorter a)) (source_stays 0 e (the.Close ∷ rest) tt))
  term_complete (select {ts = ts} {us = us} {rest = rest} {is = is} {e = e} a b) (suc m) le =
      select_is m is e ts us rest (items_complete a m (omega (arith, items_shorter a, source_shorter b)))
      (source_complete b 1 m (e, the.Close ∷ rest) (omega (arith, items_shorter a, source_shorter b)) (source_stays 0 e (the.Close ∷ rest) tt))
  term_complete (filter {ts = ts} {us = us} {rest = rest} {p = p} {e = e} a b) (suc m) le =
      filter_is m p e ts us rest (pred_ends a m tt tt tt (omega (arith, pred_shorter a, term_shorter b))) (term_complete b m (omega (arith, pred_shorter a)))

-- the reader reads it from its parts
some_is : {A : Type 0} (x y : A) (ts us : List Symbol) (r : Option (A × List Symbol)) → r ≡ done x ts → r ≡ done y us → done x ts ≡ done y us
some_is x y ts us r e f = cc

-- symbols spell at most one source
pub one_source : (ts : List Symbol) (e f : Source) → IsSource ts e [] → IsSource ts f [] → e ≡ f
one_source ts e f h k =
    let m : ℕ = 16 * length ts + 1 in
    let a = source_complete h 1 m (e, []) (omega arith) (source_stays 0 e [] tt) in
    let b = source_complete k 1 m (f, []) (omega arith) (source_stays 0 f [] tt) in
    let P : Source → List Symbol → Type 0 = λ y vs. e ≡ y in
    same P e [] f [] (some_is e f [] [] (source_at m ts) a b) refl
