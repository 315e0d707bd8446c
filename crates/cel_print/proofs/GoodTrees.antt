-- The canonical words of a tree have the names, numbers and texts of the symbols that read as it.
use Rattle.std.proofs.Common.{ℕ, zero, suc, Bool, true, false, List, [], ◌∷◌, ◌<◌, ◌^◌}
use Rattle.std.specs.Prelude.{if◌then◌else◌}
use Rattle.event_types.specs.declared.kind.Kind.{Kind}
use Rattle.cel_grammar.specs.declared.mark.Mark.TheVariants as mark
use Rattle.cel_grammar.specs.Symbols.{Symbol}
use Rattle.cel_grammar.specs.Symbols as the
use Rattle.cel_grammar.specs.Trees.{Add, Sub, Mul, Min, Max, Scalar, Number, Quoted, Attr, Dur, Two}
use Rattle.cel_grammar.specs.Trees as tree
use Rattle.cel_grammar.specs.Scalars.{negative, IsAttribute, bare, of_first, of_second, of_so, IsScalar, product, sum, difference, IsProduct, factor, times, IsFactor, number, less, decimal, less_decimal, text, attribute, dur, least, greatest, group}
use Rattle.cel_grammar.specs.Predicates as pred
use Rattle.cel_grammar.specs.Sources as source
use Rattle.cel_grammar.specs.Statements as statement
use Rattle.cel_print.specs.declared.places.ScalarPlace.TheVariants as scalar_place
use Rattle.cel_print.specs.declared.places.PredPlace.TheVariants as pred_place
use Rattle.cel_print.specs.declared.places.SourcePlace.TheVariants as source_place
use Rattle.cel_print.specs.Words.{Word, Of}
use Rattle.cel_print.specs.ScalarWords.{takes_sum, takes_product, number_words, decimal_words, scalar_words}
use Rattle.cel_print.specs.PredicateWords.{takes_or, takes_and, pred_words}
use Rattle.cel_print.specs.SourceWords.{is_own_name, named_words, item_words, items_words, aggs_words, condition_words, takes_link, source_words}
use Rattle.cel_print.specs.StatementWords.{kind_words, columns_words, statement_words}
use Rattle.cel_print.proofs.ReadScalars.{negative_suc}
use Rattle.cel_print.proofs.Good.{IsName, Good, AllGood, Keeps, within_good}

-- what follows is good, and so are the words at each place
pub record Kept {Place : Type 0} (f : Place → List Word → List Word) (us : List Symbol) : Type 0 where
  pub left : AllGood us
  pub words : (place : Place) → Keeps (f place)

-- a number behind a minus
negative_good : (n : ℕ) → n < 2 ^ 127 → Keeps (number_words (negative n))
negative_good zero h = λ r good. (h, good)
negative_good (suc n) h = rw (negative_suc n) (λ r good. (tt, (h, good)))

-- a decimal behind a minus
negative_decimal_good : (scale n : ℕ) → Good (the.Decimal scale n) → Keeps (decimal_words scale (negative n))
negative_decimal_good scale zero h = λ r good. (h, good)
negative_decimal_good scale (suc n) h = rw (negative_suc n) (λ r good. (tt, (h, good)))

-- an attribute
attribute_good : {ts rest : List Symbol} {x : Scalar} → IsAttribute ts x rest → AllGood ts → Kept (λ place. scalar_words place x) rest
attribute_good bare good = record { left = good.1; words = λ place r end. (good.0, end) }
attribute_good of_first good = record { left = good.1.1.1; words = λ place r end. (tt, (tt, (good.1.1.0, end))) }
attribute_good of_second good = record { left = good.1.1.1; words = λ place r end. (tt, (tt, (good.1.1.0, end))) }
attribute_good of_so good = record { left = good.1.1.1; words = λ place r end. (tt, (tt, (good.1.1.0, end))) }

mutual
  -- by induction on what the symbols read as
  pub scalar_good : {ts rest : List Symbol} {x : Scalar} → IsScalar ts x rest → AllGood ts → Kept (λ place. scalar_words place x) rest
  scalar_good (product h) good = product_good h good
  scalar_good (sum {x = x} {y = y} h k) good =
      let a = scalar_good h good in let b = product_good k a.left.1 in
      record { left = b.left; words = λ place. within_good (takes_sum place) (λ r. scalar_words scalar_place.Scalar x (Of the.Plus ∷ scalar_words scalar_place.Product y r)) (λ r end. a.words scalar_place.Scalar _ (tt, b.words scalar_place.Product r end)) }
  scalar_good (difference {x = x} {y = y} h k) good =
      let a = scalar_good h good in let b = product_good k a.left.1 in
      record { left = b.left; words = λ place. within_good (takes_sum place) (λ r. scalar_words scalar_place.Scalar x (Of the.Minus ∷ scalar_words scalar_place.Product y r)) (λ r end. a.words scalar_place.Scalar _ (tt, b.words scalar_place.Product r end)) }

  -- by induction on what the symbols read as
  pub product_good : {ts rest : List Symbol} {x : Scalar} → IsProduct ts x rest → AllGood ts → Kept (λ place. scalar_words place x) rest
  product_good (factor h) good = factor_good h good
  product_good (times {x = x} {y = y} h k) good =
      let a = product_good h good in let b = factor_good k a.left.1 in
      record { left = b.left; words = λ place. within_good (takes_product place) (λ r. scalar_words scalar_place.Product x (Of the.Star ∷ scalar_words scalar_place.Factor y r)) (λ r end. a.words scalar_place.Product _ (tt, b.words scalar_place.Factor r end)) }

  -- by induction on what the symbols read as
  pub factor_good : {ts rest : List Symbol} {x : Scalar} → IsFactor ts x rest → AllGood ts → Kept (λ place. scalar_words place x) rest
  factor_good number good = record { left = good.1; words = λ place r end. (good.0, end) }
  factor_good (less {n = n}) good = record { left = good.1.1; words = λ place. negative_good n good.1.0 }
  factor_good decimal good = record { left = good.1; words = λ place r end. (good.0, end) }
  factor_good (less_decimal {scale = scale} {n = n}) good = record { left = good.1.1; words = λ place. negative_decimal_good scale n good.1.0 }
  factor_good text good = record { left = good.1; words = λ place r end. (good.0, end) }
  factor_good (attribute h) good = attribute_good h good
  factor_good dur good = record { left = good.1; words = λ place r end. (tt, end) }
  factor_good (least h k) good =
      let a = scalar_good h good.1.1 in let b = scalar_good k a.left.1 in
      record { left = b.left.1; words = λ place r end. (tt, (tt, a.words scalar_place.Scalar _ (tt, b.words scalar_place.Scalar _ (tt, end)))) }
  factor_good (greatest h k) good =
      let a = scalar_good h good.1.1 in let b = scalar_good k a.left.1 in
      record { left = b.left.1; words = λ place r end. (tt, (tt, a.words scalar_place.Scalar _ (tt, b.words scalar_place.Scalar _ (tt, end)))) }
  factor_good (group h) good = let a = scalar_good h good.1 in record { left = a.left.1; words = a.words }

mutual
  -- by induction on what the symbols read as
  pub pred_good : {ts rest : List Symbol} {p : tree.Pred} → pred.IsPred ts p rest → AllGood ts → Kept (λ place. pred_words place p) rest
  pred_good (pred.conj h) good = conj_good h good
  pred_good (pred.or {p = p} {q = q} h k) good =
      let a = pred_good h good in let b = conj_good k a.left.1 in
      record { left = b.left; words = λ place. within_good (takes_or place) (λ r. pred_words pred_place.Pred p (Of the.Or ∷ pred_words pred_place.Conj q r)) (λ r end. a.words pred_place.Pred _ (tt, b.words pred_place.Conj r end)) }

  -- by induction on what the symbols read as
  pub conj_good : {ts rest : List Symbol} {p : tree.Pred} → pred.IsConj ts p rest → AllGood ts → Kept (λ place. pred_words place p) rest
  conj_good (pred.neg h) good = neg_good h good
  conj_good (pred.and {p = p} {q = q} h k) good =
      let a = conj_good h good in let b = neg_good k a.left.1 in
      record { left = b.left; words = λ place. within_good (takes_and place) (λ r. pred_words pred_place.Conj p (Of the.And ∷ pred_words pred_place.Neg q r)) (λ r end. a.words pred_place.Conj _ (tt, b.words pred_place.Neg r end)) }

  -- by induction on what the symbols read as
  pub neg_good : {ts rest : List Symbol} {p : tree.Pred} → pred.IsNeg ts p rest → AllGood ts → Kept (λ place. pred_words place p) rest
  neg_good (pred.not h) good = let a = neg_good h good.1 in record { left = a.left; words = λ place r end. (tt, a.words pred_place.Neg r end) }
  neg_good (pred.prim h) good = prim_good h good

  -- by induction on what the symbols read as
  pub prim_good : {ts rest : List Symbol} {p : tree.Pred} → pred.IsPrim ts p rest → AllGood ts → Kept (λ place. pred_words place p) rest
  prim_good pred.true good = record { left = good.1; words = λ place r end. (tt, end) }
  prim_good (pred.test h k) good =
      let a = scalar_good h good in let b = scalar_good k a.left.1 in
      record { left = b.left; words = λ place r end. a.words scalar_place.Scalar _ (tt, b.words scalar_place.Scalar r end) }
  prim_good (pred.group h) good = let a = pred_good h good.1 in record { left = a.left.1; words = a.words }

-- what follows is good, and so are the words
pub record Follows (f : List Word → List Word) (us : List Symbol) : Type 0 where
  pub left : AllGood us
  pub words : Keeps f

-- an item, whether its name stands alone or not
item_case : (x : Scalar) (a : List ℕ) → IsName a → Keeps (scalar_words scalar_place.Scalar x) → (own : Bool) → Keeps (λ r. if own then Of (the.Name a) ∷ r else named_words x a r)
item_case x a name keeps true r end = (name, end)
item_case x a name keeps false r end = keeps _ (tt, (name, end))

-- an item
item_good : {ts rest : List Symbol} {i : tree.Item} → source.IsItem ts i rest → AllGood ts → Follows (item_words i) rest
item_good source.star good = record { left = good.1; words = λ r end. (tt, end) }
item_good (source.name {a = a}) good = record { left = good.1; words = item_case (Attr mark.Bare a) a good.0 (λ r end. (good.0, end)) (is_own_name (Attr mark.Bare a) a) }
item_good (source.named {x = x} {a = a} h) good =
    let s = scalar_good h good in
    record { left = s.left.1.1; words = item_case x a s.left.1.0 (s.words scalar_place.Scalar) (is_own_name x a) }

-- items
items_good : {ts rest : List Symbol} {is : List tree.Item} → source.IsItems ts is rest → AllGood ts → Follows (items_words is) rest
items_good (source.one h) good = item_good h good
items_good (source.more {is = j ∷ is} h k) good =
    let a = item_good h good in let b = items_good k a.left.1 in
    record { left = b.left; words = λ r end. a.words _ (tt, b.words r end) }
items_good (source.more {is = []} h k) good = elim k [ ]

-- aggregates
aggs_good : {ts rest : List Symbol} {aggs : List tree.Agg} → source.IsAggs ts aggs rest → AllGood ts → Follows (aggs_words aggs) rest
aggs_good source.none good = record { left = good; words = λ r end. end }
aggs_good (source.set h k) good =
    let s = scalar_good h good.1 in let b = aggs_good k s.left.1.1 in
    record { left = b.left; words = λ r end. (tt, s.words scalar_place.Scalar _ (tt, (s.left.1.0, b.words r end))) }

-- the condition of a NEXT
condition_good : (p : tree.Pred) → Keeps (pred_words pred_place.Pred p) → Keeps (condition_words p)
condition_good tree.True keeps r end = end
condition_good p keeps r end = (tt, keeps _ (tt, end))

mutual
  -- by induction on what the symbols read as
  pub source_good : {ts rest : List Symbol} {e : tree.Source} → source.IsSource ts e rest → AllGood ts → Kept (λ place. source_words place e) rest
  source_good (source.term h) good = term_good h good
  source_good (source.union {e = e} {f = f} h k) good =
      let a = source_good h good in let b = term_good k a.left.1 in
      record { left = b.left; words = λ place. within_good (takes_link place) (λ r. source_words source_place.Source e (Of the.Union ∷ source_words source_place.Term f r)) (λ r end. a.words source_place.Source _ (tt, b.words source_place.Term r end)) }
  source_good (source.next {e = e} {f = f} h k) good =
      let a = source_good h good in let b = term_good k a.left.1 in
      record { left = b.left; words = λ place. within_good (takes_link place) (λ r. source_words source_place.Source e (Of the.Next ∷ source_words source_place.Term f r)) (λ r end. a.words source_place.Source _ (tt, b.words source_place.Term r end)) }
  source_good (source.next_where {e = e} {f = f} {p = p} h i k) good =
      let a = source_good h good in let c = pred_good i a.left.1.1 in let b = term_good k c.left.1 in
      record { left = b.left; words = λ place. within_good (takes_link place) (λ r. source_words source_place.Source e (Of the.Next ∷ condition_words p (source_words source_place.Term f r))) (λ r end. a.words source_place.Source _ (tt, condition_good p (c.words pred_place.Pred) _ (b.words source_place.Term r end))) }
  source_good (source.fold {e = e} {f = f} {p = p} {q = q} {sets = sets} h i j s k) good =
      let a = source_good h good in let c = pred_good i a.left.1.1 in let d = pred_good j c.left.1 in let g = aggs_good s d.left in let b = term_good k g.left.1 in
      record {
        left = b.left;
        words = λ place. within_good (takes_link place) (λ r. source_words source_place.Source e (Of the.Fold ∷ Of the.BraceOpen ∷ pred_words pred_place.Pred p (Of the.Comma ∷ pred_words pred_place.Pred q (aggs_words sets (Of the.BraceClose ∷ source_words source_place.Term f r)))))
            (λ r end. a.words source_place.Source _ (tt, (tt, c.words pred_place.Pred _ (tt, d.words pred_place.Pred _ (g.words _ (tt, b.words source_place.Term r end))))));
      }

  -- by induction on what the symbols read as
  pub term_good : {ts rest : List Symbol} {e : tree.Source} → source.IsTerm ts e rest → AllGood ts → Kept (λ place. source_words place e) rest
  term_good source.of good = record { left = good.1; words = λ place r end. (good.0, end) }
  term_good (source.group h) good = let a = source_good h good.1 in record { left = a.left.1; words = a.words }
  term_good (source.select h k) good =
      let a = items_good h good.1.1 in let b = source_good k a.left.1 in
      record { left = b.left.1; words = λ place r end. (tt, (tt, a.words _ (tt, b.words source_place.Source _ (tt, end)))) }
  term_good (source.filter h k) good =
      let a = pred_good h good.1.1 in let b = term_good k a.left.1 in
      record { left = b.left; words = λ place r end. (tt, (tt, a.words pred_place.Pred _ (tt, b.words source_place.Term r end))) }

-- a kind
kind_good : {ts rest : List Symbol} {k : Kind} → statement.IsKind ts k rest → AllGood ts → Follows (kind_words k) rest
kind_good statement.int good = record { left = good.1; words = λ r end. (tt, end) }
kind_good statement.text good = record { left = good.1; words = λ r end. (tt, end) }
kind_good (statement.dec few) good = record { left = good.1.1; words = λ r end. (good.0, (good.1.0, end)) }

-- declared attributes
columns_good : {ts rest : List Symbol} {cs : List tree.Column} → statement.IsColumns ts cs rest → AllGood ts → Follows (columns_words cs) rest
columns_good (statement.one h) good = let a = kind_good h good.1 in record { left = a.left; words = λ r end. (good.0, a.words r end) }
columns_good (statement.more {cs = tree.Col b l ∷ cs} h j) good =
    let a = kind_good h good.1 in let c = columns_good j a.left.1 in record { left = c.left; words = λ r end. (good.0, a.words _ (tt, c.words r end)) }
columns_good (statement.more {cs = []} h j) good = elim j [ ]

-- a statement
pub statement_good : {ts rest : List Symbol} {s : tree.Statement} → statement.IsStatement ts s rest → AllGood ts → Follows (statement_words s) rest
statement_good (statement.declaration h) good =
    let a = columns_good h good.1.1.1 in
    record { left = a.left.1; words = λ r end. (tt, (good.1.0, (tt, a.words _ (tt, end)))) }
statement_good (statement.query h k) good =
    let a = items_good h good.1 in let b = source_good k a.left.1 in
    record { left = b.left.1.1; words = λ r end. (tt, a.words _ (tt, b.words source_place.Source _ (tt, (b.left.1.0, end)))) }
