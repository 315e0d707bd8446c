-- No symbols that read as a source are fewer, or nested less, than its canonical ones.
use Rattle.std.proofs.Common.{◌≡◌, ℕ, zero, suc, ◌≤◌, Bool, List, [], ◌∷◌, length, arith, refl, sym, subst}
use Rattle.std.proofs.Common as common
use Rattle.std.specs.Prelude.{if◌then◌else◌}
use Rattle.cel_grammar.specs.declared.mark.Mark.TheVariants as mark
use Rattle.cel_grammar.specs.Symbols.{Symbol}
use Rattle.cel_grammar.specs.Symbols as the
use Rattle.cel_grammar.specs.Trees.{Scalar, Attr, Pred, True, Item, Named, Agg, Source, Name, Filter, Select}
use Rattle.cel_grammar.specs.Sources.{IsItem, star, name, named, IsItems, one, more, IsAggs, none, set, IsSource, term, union, next, next_where, fold, IsTerm, of, group, select, filter}
use Rattle.cel_print.specs.declared.places.SourcePlace.TheVariants as source_place
use Rattle.cel_print.specs.declared.places.ScalarPlace.TheVariants as scalar_place
use Rattle.cel_print.specs.declared.places.PredPlace.TheVariants as pred_place
use Rattle.cel_print.specs.Words.{Word, Of}
use Rattle.cel_print.specs.ScalarWords.{scalar_words}
use Rattle.cel_print.specs.PredicateWords.{pred_words}
use Rattle.cel_print.specs.SourceWords.{is_own_name, named_words, item_words, items_words, aggs_words, condition_words, source_words}
use Rattle.cel_print.proofs.Names.{own_name_is, own_name}
use Rattle.cel_print.proofs.Bounds.{Bound, idle, leaf, loosened, joined, prefixed, wrapped, unwrapped, enclosed, dropped, parens, braces}
use Rattle.cel_print.proofs.BoundScalars.{scalar_bound}
use Rattle.cel_print.proofs.BoundPredicates.{pred_bound}

-- a scalar under a name
named_bound : (x : Scalar) (a : List ℕ) (ts rest : List Symbol) → Bound 0 (scalar_words scalar_place.Scalar x) ts (the.As ∷ the.Name a ∷ rest) → Bound 0 (named_words x a) ts rest
named_bound x a ts rest b = joined 0 the.As (scalar_words scalar_place.Scalar x) (λ r. Of (the.Name a) ∷ r) ts (the.Name a ∷ rest) rest (λ d ts. refl) b (leaf (the.Name a) rest (λ d ts. refl))

-- a name that is left out behind its attribute
short_bound : (a : List ℕ) (ts rest : List Symbol) → Bound 0 (λ r. Of (the.Name a) ∷ r) ts (the.As ∷ the.Name a ∷ rest) → Bound 0 (λ r. Of (the.Name a) ∷ r) ts rest
short_bound a ts rest b = record { few = λ r. omega (arith, b.few r); shallow = b.shallow; after = b.after }

-- an item, which is its name alone where its scalar is the attribute of this name
item_bound : (x : Scalar) (a : List ℕ) (ts rest : List Symbol) → Bound 0 (scalar_words scalar_place.Scalar x) ts (the.As ∷ the.Name a ∷ rest) → Bound 0 (item_words (Named x a)) ts rest
item_bound x a ts rest b =
    let P : Bool → Type 0 = λ own. is_own_name x a ≡ own → Bound 0 (λ r. if own then Of (the.Name a) ∷ r else named_words x a r) ts rest in
    (elim (is_own_name x a) as P [
      | common.true ↦ λ own. short_bound a ts rest (rw (own_name_is x a own) at b)
      | common.false ↦ λ other. named_bound x a ts rest b
    ]) refl

-- one item
one_bound : {ts rest : List Symbol} {i : Item} → IsItem ts i rest → Bound 0 (item_words i) ts rest
one_bound {rest = rest} star = leaf the.Star rest (λ d ts. refl)
one_bound {rest = rest} (name {a = a}) =
    let P : Bool → Type 0 = λ own. Bound 0 (λ r. if own then Of (the.Name a) ∷ r else named_words (Attr mark.Bare a) a r) (the.Name a ∷ rest) rest in
    subst P (sym (own_name a)) (leaf (the.Name a) rest (λ d ts. refl))
one_bound {ts} {rest} (named {x = x} {a = a} h) = item_bound x a ts rest (scalar_bound h).scalar

-- items between commas
pub items_bound : {ts rest : List Symbol} {is : List Item} → IsItems ts is rest → Bound 0 (items_words is) ts rest
items_bound (one h) = one_bound h
items_bound {ts} {rest} (more {us = us} {i = i} {is = j ∷ is} h k) = joined 0 the.Comma (item_words i) (items_words (j ∷ is)) ts us rest (λ d ts. refl) (one_bound h) (items_bound k)
items_bound (more {is = []} h k) = elim k [ ]

-- words, and other words right behind them
beside : (f g : List Word → List Word) (ts us rest : List Symbol) → Bound 0 f ts us → Bound 0 g us rest → Bound 0 (λ r. f (g r)) ts rest
beside f g ts us rest b c = record {
  few = λ r. omega (arith, b.few (g r), c.few r);
  shallow = λ d e r h. omega (arith, b.shallow d e (g r) h, c.shallow d e r h, b.after e);
  after = λ d. omega (arith, b.after d, c.after d);
}

-- aggregates
pub aggs_bound : {ts rest : List Symbol} {aggs : List Agg} → IsAggs ts aggs rest → Bound 0 (aggs_words aggs) ts rest
aggs_bound {rest = rest} none = idle rest
aggs_bound {rest = rest} (set {ts = ts} {us = us} {x = x} {a = a} {as' = aggs} h k) =
    prefixed the.Comma (λ r. named_words x a (aggs_words aggs r)) ts rest (λ d ts. refl) (beside (named_words x a) (aggs_words aggs) ts us rest (named_bound x a ts us (scalar_bound h).scalar) (aggs_bound k))

-- so many pairs more are needed at each place
pub record Bounds (t : ℕ) (e : Source) (ts rest : List Symbol) : Type 0 where
  pub source : Bound 0 (source_words source_place.Source e) ts rest
  pub term : Bound t (source_words source_place.Term e) ts rest

-- the same words at each place
same : (e : Source) (ts rest : List Symbol) → Bound 0 (source_words source_place.Source e) ts rest → Bound 0 (source_words source_place.Term e) ts rest → Bounds 0 e ts rest
same e ts rest a b = record { source = a; term = b }

-- a condition in braces, which TRUE loses
condition_bound : (p : Pred) (g : List Word → List Word) (ts us rest : List Symbol) → Bound 0 (pred_words pred_place.Pred p) ts (the.BraceClose ∷ us) → Bound 0 g us rest → Bound 0 (λ r. condition_words p (g r)) (the.BraceOpen ∷ ts) rest
condition_bound True g ts us rest b k = dropped (pred_words pred_place.Pred True) g ts us rest (λ r. omega arith) b k
condition_bound p g ts us rest b k = enclosed the.BraceOpen the.BraceClose (pred_words pred_place.Pred p) g ts us rest braces b k

mutual
  -- by induction on what the symbols read as
  pub source_bound : {ts rest : List Symbol} {e : Source} → IsSource ts e rest → Bounds 1 e ts rest
  source_bound {ts} {rest} (term h) = let b = term_bound h in record { source = b.source; term = loosened _ ts rest b.term }
  source_bound {ts} {rest} (union {us = us} {e = e} {f = f} h k) =
      let it = joined 0 the.Union (source_words source_place.Source e) (source_words source_place.Term f) ts us rest (λ d ts. refl) (source_bound h).source (term_bound k).term in
      record { source = it; term = wrapped _ ts rest it }
  source_bound {ts} {rest} (next {us = us} {e = e} {f = f} h k) =
      let it = joined 0 the.Next (source_words source_place.Source e) (source_words source_place.Term f) ts us rest (λ d ts. refl) (source_bound h).source (term_bound k).term in
      record { source = it; term = wrapped _ ts rest it }
  source_bound {ts} {rest} (next_where {us = us} {vs = vs} {e = e} {f = f} {p = p} h i k) =
      let it = joined 0 the.Next (source_words source_place.Source e) (λ r. condition_words p (source_words source_place.Term f r)) ts (the.BraceOpen ∷ us) rest (λ d ts. refl) (source_bound h).source
      (condition_bound p (source_words source_place.Term f) us vs rest (pred_bound i).pred (term_bound k).term) in
      record { source = it; term = wrapped _ ts rest it }
  source_bound {ts} {rest} (fold {us = us} {vs = vs} {ws = ws} {xs = xs} {e = e} {f = f} {p = p} {q = q} {sets = sets} h i j s k) =
      let parts : Bound 0 (λ r. pred_words pred_place.Pred p (Of the.Comma ∷ pred_words pred_place.Pred q (aggs_words sets r))) us (the.BraceClose ∷ xs) =
      joined 0 the.Comma (pred_words pred_place.Pred p) (λ r. pred_words pred_place.Pred q (aggs_words sets r)) us vs (the.BraceClose ∷ xs) (λ d ts. refl) (pred_bound i).pred
      (beside (pred_words pred_place.Pred q) (aggs_words sets) vs ws (the.BraceClose ∷ xs) (pred_bound j).pred (aggs_bound s)) in
      let inner : Bound 0 (λ r. Of the.BraceOpen ∷ pred_words pred_place.Pred p (Of the.Comma ∷ pred_words pred_place.Pred q (aggs_words sets (Of the.BraceClose ∷ source_words source_place.Term f r)))) (the.BraceOpen ∷ us) rest =
      enclosed the.BraceOpen the.BraceClose (λ r. pred_words pred_place.Pred p (Of the.Comma ∷ pred_words pred_place.Pred q (aggs_words sets r))) (source_words source_place.Term f) us xs rest braces parts (term_bound k).term in
      let it = joined 0 the.Fold (source_words source_place.Source e) (λ r. Of the.BraceOpen ∷ pred_words pred_place.Pred p (Of the.Comma ∷ pred_words pred_place.Pred q (aggs_words sets (Of the.BraceClose ∷ source_words source_place.Term f r)))) ts (the.BraceOpen ∷ us) rest (λ d ts. refl) (source_bound h).source inner in
      record { source = it; term = wrapped _ ts rest it }

  -- by induction on what the symbols read as
  pub term_bound : {ts rest : List Symbol} {e : Source} → IsTerm ts e rest → Bounds 0 e ts rest
  term_bound {rest = rest} (of {a = a}) = let it = leaf (the.Name a) rest (λ d ts. refl) in same (Name a) _ rest it it
  term_bound {rest = rest} (group {ts = ts} {e = e} h) =
      let b = source_bound h in
      same e (the.Open ∷ ts) rest (unwrapped _ ts rest (loosened _ ts (the.Close ∷ rest) b.source)) (unwrapped _ ts rest b.term)
  term_bound {rest = rest} (select {ts = ts} {us = us} {is = is} {e = e} h k) =
      let inside : Bound 0 (λ r. Of the.Select ∷ items_words is (Of the.From ∷ source_words source_place.Source e r)) (the.Select ∷ ts) (the.Close ∷ rest) =
      prefixed the.Select (λ r. items_words is (Of the.From ∷ source_words source_place.Source e r)) ts (the.Close ∷ rest) (λ d ts. refl)
      (joined 0 the.From (items_words is) (source_words source_place.Source e) ts us (the.Close ∷ rest) (λ d ts. refl) (items_bound h) (source_bound k).source) in
      let it = enclosed the.Open the.Close (λ r. Of the.Select ∷ items_words is (Of the.From ∷ source_words source_place.Source e r)) (λ r. r) (the.Select ∷ ts) rest rest parens inside (idle rest) in
      same (Select is e) _ rest it it
  term_bound {rest = rest} (filter {ts = ts} {us = us} {p = p} {e = e} h k) =
      let it = prefixed the.Filter (λ r. Of the.BraceOpen ∷ pred_words pred_place.Pred p (Of the.BraceClose ∷ source_words source_place.Term e r)) (the.BraceOpen ∷ ts) rest (λ d ts. refl)
      (enclosed the.BraceOpen the.BraceClose (pred_words pred_place.Pred p) (source_words source_place.Term e) ts us rest braces (pred_bound h).pred (term_bound k).term) in
      same (Filter p e) _ rest it it
