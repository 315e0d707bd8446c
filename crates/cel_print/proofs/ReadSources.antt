-- The canonical symbols of a source that some symbols read as are read as it.
use Rattle.std.proofs.Common.{◌≡◌, Bool, true, false, List, [], ◌∷◌, refl}
use Rattle.std.specs.Prelude.{if◌then◌else◌}
use Rattle.cel_grammar.specs.Symbols.{Symbol}
use Rattle.cel_grammar.specs.Symbols as the
use Rattle.cel_grammar.specs.Trees.{Pred, True, Item, All, Named, Agg, Set, Source, Name, Filter, Select, Union, Next, Fold}
use Rattle.cel_grammar.specs.Sources.{IsItem, star, name, named, IsItems, one, more, IsAggs, none, set, IsSource, term, union, next, next_where, fold, IsTerm, of, group, select, filter}
use Rattle.cel_print.specs.declared.places.SourcePlace.TheVariants as source_place
use Rattle.cel_print.specs.declared.places.PredPlace.TheVariants as pred_place
use Rattle.cel_print.specs.Words.{Word, Of, symbols}
use Rattle.cel_print.specs.PredicateWords.{pred_words}
use Rattle.cel_print.specs.SourceWords.{is_own_name, named_words, item_words, items_words, aggs_words, condition_words, source_words}
use Rattle.cel_print.proofs.ReadScalars as scalars
use Rattle.cel_print.proofs.ReadPredicates as preds
use Rattle.cel_print.proofs.Names.{own_name_is}

-- an item is read, whether its name stands alone or not
pub item_reads : (i : Item) (rest : List Word) → IsItem (symbols (item_words i rest)) i (symbols rest)
item_reads All rest = star
item_reads (Named x a) rest =
    let P : Bool → Type 0 = λ b. is_own_name x a ≡ b → IsItem (symbols (if b then Of (the.Name a) ∷ rest else named_words x a rest)) (Named x a) (symbols rest) in
    (elim (is_own_name x a) as P [
      | true ↦ λ own. rw (own_name_is x a own) name
      | false ↦ λ other. named (scalars.reads x (Of the.As ∷ Of (the.Name a) ∷ rest)).scalar
    ]) refl

-- items are read, of which there is one at least
pub items_read : {ts us : List Symbol} {is : List Item} → IsItems ts is us → (rest : List Word) → IsItems (symbols (items_words is rest)) is (symbols rest)
items_read (one {i = i} h) rest = one (item_reads i rest)
items_read (more {i = i} {is = j ∷ is} h k) rest = more (item_reads i (Of the.Comma ∷ items_words (j ∷ is) rest)) (items_read k rest)
items_read (more {i = i} {is = []} h k) rest = elim k [ ]

-- aggregates are read
pub aggs_read : (aggs : List Agg) (rest : List Word) → IsAggs (symbols (aggs_words aggs rest)) aggs (symbols rest)
aggs_read [] rest = none
aggs_read (Set x a ∷ aggs) rest = set (scalars.reads x (Of the.As ∷ Of (the.Name a) ∷ aggs_words aggs rest)).scalar (aggs_read aggs rest)

-- the words at each place are what the rule wants there
pub record Reads (e : Source) (rest : List Word) : Type 0 where
  pub source : IsSource (symbols (source_words source_place.Source e rest)) e (symbols rest)
  pub term : IsTerm (symbols (source_words source_place.Term e rest)) e (symbols rest)

-- a NEXT is read, whether its condition stands in braces or not
next_reads : (p : Pred) (e f : Source) (rest : List Word) → ((r : List Word) → Reads e r) → ((r : List Word) → Reads f r) → IsSource (symbols (source_words source_place.Source e (Of the.Next ∷ condition_words p (source_words source_place.Term f rest)))) (Next p e f) (symbols rest)
next_reads True e f rest left right = next (left (Of the.Next ∷ source_words source_place.Term f rest)).source (right rest).term
next_reads p e f rest left right =
    next_where (left (Of the.Next ∷ Of the.BraceOpen ∷ pred_words pred_place.Pred p (Of the.BraceClose ∷ source_words source_place.Term f rest))).source (preds.reads p (Of the.BraceClose ∷ source_words source_place.Term f rest)).pred (right rest).term

-- what a term reads as, it reads as at each place
as_term : (e : Source) (rest : List Word) → IsTerm (symbols (source_words source_place.Source e rest)) e (symbols rest) → IsTerm (symbols (source_words source_place.Term e rest)) e (symbols rest) → Reads e rest
as_term e rest a b = record { source = term a; term = b }

mutual
  -- by induction on what the symbols read as
  pub source_reads : {ts us : List Symbol} {e : Source} → IsSource ts e us → (rest : List Word) → Reads e rest
  source_reads (term h) rest = term_reads h rest
  source_reads (union {e = e} {f = f} h k) rest =
      let there : (r : List Word) → IsSource (symbols (source_words source_place.Source (Union e f) r)) (Union e f) (symbols r) = λ r. union (source_reads h (Of the.Union ∷ source_words source_place.Term f r)).source (term_reads k r).term in
      record { source = there rest; term = group (there (Of the.Close ∷ rest)) }
  source_reads (next {e = e} {f = f} h k) rest =
      let there : (r : List Word) → IsSource (symbols (source_words source_place.Source (Next True e f) r)) (Next True e f) (symbols r) = λ r. next_reads True e f r (λ w. source_reads h w) (λ w. term_reads k w) in
      record { source = there rest; term = group (there (Of the.Close ∷ rest)) }
  source_reads (next_where {e = e} {f = f} {p = p} h i k) rest =
      let there : (r : List Word) → IsSource (symbols (source_words source_place.Source (Next p e f) r)) (Next p e f) (symbols r) = λ r. next_reads p e f r (λ w. source_reads h w) (λ w. term_reads k w) in
      record { source = there rest; term = group (there (Of the.Close ∷ rest)) }
  source_reads (fold {e = e} {f = f} {p = p} {q = q} {sets = sets} h i j s k) rest =
      let end : List Word → List Word = λ r. Of the.BraceClose ∷ source_words source_place.Term f r in
      let there : (r : List Word) → IsSource (symbols (source_words source_place.Source (Fold p q sets e f) r)) (Fold p q sets e f) (symbols r) =
      λ r. fold (source_reads h (Of the.Fold ∷ Of the.BraceOpen ∷ pred_words pred_place.Pred p (Of the.Comma ∷ pred_words pred_place.Pred q (aggs_words sets (end r))))).source
      (preds.reads p (Of the.Comma ∷ pred_words pred_place.Pred q (aggs_words sets (end r)))).pred (preds.reads q (aggs_words sets (end r))).pred (aggs_read sets (end r)) (term_reads k r).term in
      record { source = there rest; term = group (there (Of the.Close ∷ rest)) }

  -- by induction on what the symbols read as
  pub term_reads : {ts us : List Symbol} {e : Source} → IsTerm ts e us → (rest : List Word) → Reads e rest
  term_reads (of {a = a}) rest = as_term (Name a) rest of of
  term_reads (group h) rest = source_reads h rest
  term_reads (select {is = is} {e = e} h k) rest =
      let it = select (items_read h (Of the.From ∷ source_words source_place.Source e (Of the.Close ∷ rest))) (source_reads k (Of the.Close ∷ rest)).source in
      as_term (Select is e) rest it it
  term_reads (filter {p = p} {e = e} h k) rest =
      let it = filter (preds.reads p (Of the.BraceClose ∷ source_words source_place.Term e rest)).pred (term_reads k rest).term in
      as_term (Filter p e) rest it it
