-- No symbols that read as a predicate are fewer, or nested less, than its canonical ones.
use Rattle.std.proofs.Common.{ℕ, List, ◌∷◌, refl}
use Rattle.cel_grammar.specs.Symbols.{Symbol}
use Rattle.cel_grammar.specs.Symbols as the
use Rattle.cel_grammar.specs.Trees.{Pred, True, Test, Not}
use Rattle.cel_grammar.specs.Predicates.{IsPred, conj, or, IsConj, neg, and, IsNeg, not, prim, IsPrim, true, test, group}
use Rattle.cel_print.specs.declared.places.ScalarPlace.TheVariants as scalar_place
use Rattle.cel_print.specs.declared.places.PredPlace.TheVariants as pred_place
use Rattle.cel_print.specs.ScalarWords.{scalar_words}
use Rattle.cel_print.specs.PredicateWords.{pred_words}
use Rattle.cel_print.proofs.Bounds.{Bound, leaf, loosened, joined, prefixed, wrapped, unwrapped}
use Rattle.cel_print.proofs.BoundScalars.{scalar_bound}

-- so many pairs more are needed at each place
pub record Bounds (c n : ℕ) (p : Pred) (ts rest : List Symbol) : Type 0 where
  pub pred : Bound 0 (pred_words pred_place.Pred p) ts rest
  pub conj : Bound c (pred_words pred_place.Conj p) ts rest
  pub neg : Bound n (pred_words pred_place.Neg p) ts rest

-- the same words at each place
same : (p : Pred) (ts rest : List Symbol) → Bound 0 (pred_words pred_place.Pred p) ts rest → Bound 0 (pred_words pred_place.Conj p) ts rest → Bound 0 (pred_words pred_place.Neg p) ts rest → Bounds 0 0 p ts rest
same p ts rest a b c = record { pred = a; conj = b; neg = c }

mutual
  -- by induction on what the symbols read as
  pub pred_bound : {ts rest : List Symbol} {p : Pred} → IsPred ts p rest → Bounds 1 1 p ts rest
  pred_bound {ts} {rest} (conj h) = let b = conj_bound h in record { pred = b.pred; conj = loosened _ ts rest b.conj; neg = b.neg }
  pred_bound {ts} {rest} (or {us = us} {p = p} {q = q} h k) =
      let it = joined 0 the.Or (pred_words pred_place.Pred p) (pred_words pred_place.Conj q) ts us rest (λ d ts. refl) (pred_bound h).pred (conj_bound k).conj in
      record { pred = it; conj = wrapped _ ts rest it; neg = wrapped _ ts rest it }

  -- by induction on what the symbols read as
  pub conj_bound : {ts rest : List Symbol} {p : Pred} → IsConj ts p rest → Bounds 0 1 p ts rest
  conj_bound {ts} {rest} (neg h) = let b = neg_bound h in record { pred = b.pred; conj = b.conj; neg = loosened _ ts rest b.neg }
  conj_bound {ts} {rest} (and {us = us} {p = p} {q = q} h k) =
      let it = joined 0 the.And (pred_words pred_place.Conj p) (pred_words pred_place.Neg q) ts us rest (λ d ts. refl) (conj_bound h).conj (neg_bound k).neg in
      record { pred = it; conj = it; neg = wrapped _ ts rest it }

  -- by induction on what the symbols read as
  pub neg_bound : {ts rest : List Symbol} {p : Pred} → IsNeg ts p rest → Bounds 0 0 p ts rest
  neg_bound {rest = rest} (not {ts = ts} {p = p} h) = let it = prefixed the.Not (pred_words pred_place.Neg p) ts rest (λ d ts. refl) (neg_bound h).neg in same (Not p) _ rest it it it
  neg_bound (prim h) = prim_bound h

  -- by induction on what the symbols read as
  pub prim_bound : {ts rest : List Symbol} {p : Pred} → IsPrim ts p rest → Bounds 0 0 p ts rest
  prim_bound {rest = rest} true = let it = leaf the.True rest (λ d ts. refl) in same True _ rest it it it
  prim_bound {ts} {rest} (test {us = us} {x = x} {y = y} {c = c} h k) =
      let it = joined 0 (the.Compare c) (scalar_words scalar_place.Scalar x) (scalar_words scalar_place.Scalar y) ts us rest (λ d ts. refl) (scalar_bound h).scalar (scalar_bound k).scalar in
      same (Test x c y) ts rest it it it
  prim_bound {rest = rest} (group {ts = ts} {p = p} h) =
      let b = pred_bound h in
      same p (the.Open ∷ ts) rest (unwrapped _ ts rest (loosened _ ts (the.Close ∷ rest) b.pred)) (unwrapped _ ts rest b.conj) (unwrapped _ ts rest b.neg)
