-- What is typed denotes tuples of its kinds.
use Rattle.std.proofs.Common.{subst, ℕ, zero, suc, length, List, ◌∷◌}
use Rattle.std.specs.Prelude.{Some, None}
use Rattle.std.specs.List.{All}
use Rattle.std.proofs.lemmas.List.Elements.{All-nil, All-cons, All-append, All-filter, All-map, All-weaker}
use Rattle.event_types.specs.declared.kind.Kind.{Kind}
use Rattle.event_types.specs.Tuple.{TupleView}
use Rattle.semantics.specs.Scalars.{Sc, Pr}
use Rattle.semantics.specs.Truth.{all_true}
use Rattle.semantics.specs.Nexts.{nexts}
use Rattle.semantics.specs.Runs.{goers, rebound, runs, runs_within}
use Rattle.semantics.specs.Expressions.{Ex, Read, Filter, Select, Union, Next, Fold}
use Rattle.semantics.specs.Denotation.{Streams, denote, selected, joined, matches}
use Rattle.semantics.specs.Kinds.{HasKinds, HaveKinds}
use Rattle.semantics.specs.Typing.{AreOfKinds, IsTypedOver}
use Rattle.semantics.proofs.KindLemmas.{kinds_append}
use Rattle.scalar_expr.proofs.NextsLemmas.{nexts_keep}
use Rattle.semantics.proofs.ListLemmas.{All-flat_map}
use Rattle.scalar_expr.proofs.FitLemmas.{typed_image}

-- what holds of each tuple of the list holds of each goer
pub goers_keep : (P : TupleView → Type 0) (p q : List Pr) (rs : List TupleView) (b : TupleView) → All P rs → All P (goers p q rs b)
goers_keep P p q rs b all = All-filter (λ r. all_true q r (Some b)) P (nexts p b rs) (nexts_keep P p b rs all)

-- the tuples of typed runs have the kinds of the binding: by induction on their length
runs_kinds : (n : ℕ) (p q : List Pr) (m : List Sc) (right out : List Kind) (rs : List TupleView) → AreOfKinds m right (Some out) out → All (HasKinds right) rs → (b : TupleView) → HasKinds out b
    → All (HasKinds out) (runs_within n p q m rs b)
runs_kinds zero p q m right out rs hm all b hb = All-nil (HasKinds out)
runs_kinds (suc n) p q m right out rs hm all b hb =
    All-flat_map (HasKinds out) (λ r. rebound m b r ∷ runs_within n p q m rs (rebound m b r)) (goers p q rs b)
    (All-weaker (HasKinds right) (λ r. All (HasKinds out) (rebound m b r ∷ runs_within n p q m rs (rebound m b r)))
    (λ r hr. let one = typed_image m right (Some out) out r (Some b) hm hr hb in
    All-cons (HasKinds out) (rebound m b r) (runs_within n p q m rs (rebound m b r)) one (runs_kinds n p q m right out rs hm all (rebound m b r) one))
    (goers p q rs b) (goers_keep (HasKinds right) p q rs b all))

-- the tuples of what is typed have its kinds: by induction on the expression
pub typed_kinds : (e : Ex) (n : ℕ) (kinds : ℕ → List Kind) (out : List Kind) (env : Streams) → HaveKinds kinds n env → IsTypedOver e n kinds out → All (HasKinds out) (denote e env)
typed_kinds (Read s) n kinds out env all h = subst (λ (ks : List Kind). All (HasKinds ks) (env s)) h.1 (all s h.0)
typed_kinds (Filter p e) n kinds out env all h = All-filter (λ t. all_true p t None) (HasKinds out) (denote e env) (typed_kinds e n kinds out env all h.0)
typed_kinds (Select m e) n kinds out env all h =
    All-map (HasKinds out) (selected m.parts) (denote e env)
    (All-weaker (HasKinds h.0) (λ t. HasKinds out (selected m.parts t)) (λ t ht. typed_image m.parts h.0 None out t None h.2 ht tt) (denote e env) (typed_kinds e n kinds h.0 env all h.1))
typed_kinds (Union e f) n kinds out env all h = All-append (HasKinds out) (denote e env) (denote f env) (typed_kinds e n kinds out env all h.0) (typed_kinds f n kinds out env all h.1)
typed_kinds (Next p e f) n kinds out env all h =
    All-flat_map (HasKinds out) (matches p (denote f env)) (denote e env)
    (All-weaker (HasKinds h.0) (λ l. All (HasKinds out) (matches p (denote f env) l))
    (λ l hl. All-map (HasKinds out) (joined l) (nexts p l (denote f env))
    (All-weaker (HasKinds h.1) (λ r. HasKinds out (joined l r)) (λ r hr. subst (λ ks. HasKinds ks (joined l r)) h.5 (kinds_append h.0 h.1 l.vals r.vals hl hr)) (nexts p l (denote f env))
    (nexts_keep (HasKinds h.1) p l (denote f env) (typed_kinds f n kinds h.1 env all h.3))))
    (denote e env) (typed_kinds e n kinds h.0 env all h.2))
typed_kinds (Fold p q m e f) n kinds out env all h =
    All-flat_map (HasKinds out) (runs p q m.parts (denote f env)) (denote e env)
    (All-weaker (HasKinds out) (λ l. All (HasKinds out) (runs p q m.parts (denote f env) l))
    (λ l hl. runs_kinds (length (denote f env)) p q m.parts h.0 out (denote f env) h.5 (typed_kinds f n kinds h.0 env all h.2) l hl)
    (denote e env) (typed_kinds e n kinds out env all h.1))
