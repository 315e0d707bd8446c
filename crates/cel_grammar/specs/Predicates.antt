-- The grammar of predicates. `IsPred ts p rest` says that a predicate which is p stands at the front
-- of the symbols ts, and that rest follows it.
use Rattle.std.specs.Prelude.{List, ◌∷◌}
use Rattle.event_types.specs.declared.comparison.Cmp.{Cmp}
use Rattle.cel_grammar.specs.Symbols.{Symbol}
use Rattle.cel_grammar.specs.Symbols as the
use Rattle.cel_grammar.specs.Scalars.{IsScalar}
use Rattle.cel_grammar.specs.Trees.{Scalar, Pred, True, Test, And, Or, Not}

mutual
  -- conj, zero or more of (OR conj), grouped from the left
  pub data IsPred : List Symbol → Pred → List Symbol → Type 0 where
    conj : {ts rest : List Symbol} {p : Pred} → IsConj ts p rest → IsPred ts p rest
    or : {ts us rest : List Symbol} {p q : Pred} → IsPred ts p (the.Or ∷ us) → IsConj us q rest → IsPred ts (Or p q) rest

  -- neg, zero or more of (AND neg), grouped from the left
  pub data IsConj : List Symbol → Pred → List Symbol → Type 0 where
    neg : {ts rest : List Symbol} {p : Pred} → IsNeg ts p rest → IsConj ts p rest
    and : {ts us rest : List Symbol} {p q : Pred} → IsConj ts p (the.And ∷ us) → IsNeg us q rest → IsConj ts (And p q) rest

  -- NOT neg, or prim
  pub data IsNeg : List Symbol → Pred → List Symbol → Type 0 where
    not : {ts rest : List Symbol} {p : Pred} → IsNeg ts p rest → IsNeg (the.Not ∷ ts) (Not p) rest
    prim : {ts rest : List Symbol} {p : Pred} → IsPrim ts p rest → IsNeg ts p rest

  -- TRUE; or scalar comparison scalar; or ( pred )
  pub data IsPrim : List Symbol → Pred → List Symbol → Type 0 where
    true : {rest : List Symbol} → IsPrim (the.True ∷ rest) True rest
    test : {ts us rest : List Symbol} {x y : Scalar} {c : Cmp} → IsScalar ts x (the.Compare c ∷ us) → IsScalar us y rest → IsPrim ts (Test x c y) rest
    group : {ts rest : List Symbol} {p : Pred} → IsPred ts p (the.Close ∷ rest) → IsPrim (the.Open ∷ ts) p rest
