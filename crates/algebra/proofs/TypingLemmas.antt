-- What is typed may be evaluated.
use Rattle.std.proofs.Common.{ℕ, zero, suc, length, List}
use Rattle.std.specs.Prelude.{Some, None}
use Rattle.std.specs.List.{All}
use Rattle.std.proofs.lemmas.List.Elements.{All-weaker}
use Rattle.event_types.specs.declared.kind.Kind.{Kind}
use Rattle.event_types.specs.Tuple.{TupleView}
use Rattle.semantics.specs.Scalars.{Sc, Pr}
use Rattle.semantics.specs.Runs.{goers, rebound}
use Rattle.semantics.specs.Expressions.{Ex, Read, Filter, Select, Union, Next, Fold}
use Rattle.semantics.specs.Denotation.{Streams, denote}
use Rattle.semantics.specs.Kinds.{HasKinds, HaveKinds}
use Rattle.semantics.specs.Typing.{AreTyped, AreOfKinds, IsTypedOver}
use Rattle.scalar_expr.specs.Fits.{Fits, AllFit}
use Rattle.scalar_expr.proofs.FitLemmas.{typed_image, typed_fits, typed_tests}
use Rattle.expressions.proofs.TypingLemmas.{goers_keep, typed_kinds}
use Rattle.algebra.specs.Suits.{FitsPairs, Suits, SuitsRuns}

-- it fits each tuple with the binding
typed_pairs : (ps : List Pr) (es bs : List Kind) (rs : List TupleView) (b : TupleView) → AreTyped ps es (Some bs) → All (HasKinds es) rs → HasKinds bs b → FitsPairs ps rs b
typed_pairs ps es bs rs b h all hb = All-weaker (HasKinds es) (λ r. AllFit ps r (Some b)) (λ r hr. typed_tests ps es (Some bs) r (Some b) h hr hb) rs all

-- typed runs are suited: by induction on their length
runs_suit : (n : ℕ) (p q : List Pr) (m : List Sc) (right out : List Kind) (rs : List TupleView) → AreTyped p right (Some out) → AreTyped q right (Some out) → AreOfKinds m right (Some out) out → All (HasKinds right) rs
    → (b : TupleView) → HasKinds out b → SuitsRuns n p q m rs b
runs_suit zero p q m right out rs hp hq hm all b hb = tt
runs_suit (suc n) p q m right out rs hp hq hm all b hb = (
  typed_pairs p right out rs b hp all hb,
  typed_pairs q right out rs b hq all hb,
  All-weaker (HasKinds right) (λ r. All (λ s. Fits s r (Some b)) m × SuitsRuns n p q m rs (rebound m b r))
      (λ r hr. (typed_fits m right (Some out) out r (Some b) hm hr hb, runs_suit n p q m right out rs hp hq hm all (rebound m b r) (typed_image m right (Some out) out r (Some b) hm hr hb)))
      (goers p q rs b) (goers_keep (HasKinds right) p q rs b all),
)

-- what is typed is suited: by induction on the expression
pub typed_suits : (e : Ex) (n : ℕ) (kinds : ℕ → List Kind) (out : List Kind) (env : Streams) → HaveKinds kinds n env → IsTypedOver e n kinds out → Suits e n env
typed_suits (Read s) n kinds out env all h = h.0
typed_suits (Filter p e) n kinds out env all h = (
  typed_suits e n kinds out env all h.0,
  All-weaker (HasKinds out) (λ t. AllFit p t None) (λ t ht. typed_tests p out None t None h.1 ht tt) (denote e env) (typed_kinds e n kinds out env all h.0),
)
typed_suits (Select m e) n kinds out env all h = (
  typed_suits e n kinds h.0 env all h.1,
  All-weaker (HasKinds h.0) (λ t. All (λ s. Fits s t None) m.parts) (λ t ht. typed_fits m.parts h.0 None out t None h.2 ht tt) (denote e env) (typed_kinds e n kinds h.0 env all h.1),
)
typed_suits (Union e f) n kinds out env all h = (typed_suits e n kinds out env all h.0, typed_suits f n kinds out env all h.1)
typed_suits (Next p e f) n kinds out env all h = (
  typed_suits e n kinds h.0 env all h.2,
  typed_suits f n kinds h.1 env all h.3,
  All-weaker (HasKinds h.0) (FitsPairs p (denote f env)) (λ l hl. typed_pairs p h.1 h.0 (denote f env) l h.4 (typed_kinds f n kinds h.1 env all h.3) hl) (denote e env) (typed_kinds e n kinds h.0 env all h.2),
)
typed_suits (Fold p q m e f) n kinds out env all h = (
  typed_suits e n kinds out env all h.1,
  typed_suits f n kinds h.0 env all h.2,
  All-weaker (HasKinds out) (λ l. SuitsRuns (length (denote f env)) p q m.parts (denote f env) l)
      (λ l hl. runs_suit (length (denote f env)) p q m.parts h.0 out (denote f env) h.3 h.4 h.5 (typed_kinds f n kinds h.0 env all h.2) l hl) (denote e env) (typed_kinds e n kinds out env all h.1),
)
