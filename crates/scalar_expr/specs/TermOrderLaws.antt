-- The canonical order is total. No contract cites this; the impl of the order and proofs do.
use Rattle.std.proofs.Common.{◌≡◌, ◌∙◌, sym, ap, subst, refl, ℕ, List, [], ◌∷◌, ◌++◌, append_assoc, append-nil}
use Rattle.std.specs.declared.cmp.Ordering.{Ordering}
use Rattle.std.specs.declared.cmp.Ordering.TheVariants.{Less, Equal, Greater}
use Rattle.std.specs.Ordering.{nat_cmp, ordering_then, on}
use Rattle.std.specs.Cmp.{IsTotalOrder}
use Rattle.std.specs.Cmp.Lexicographic.{slice_cmp}
use Rattle.std.proofs.lemmas.Cmp.{on_total, lists_total}
use Rattle.event_types.specs.declared.value.Value.{Value}
use Rattle.event_types.specs.declared.value.Value.TheVariants as value
use Rattle.event_types.specs.OrderLaws.{value_total}
use Rattle.event_types.specs.Order.{value_cmp}
use Rattle.semantics.specs.Scalars.{Add, Sub, Mul, Min, Max, Sc, Lit, Event, Binding, Dur, Two, Pr, True, Test, And, Or, Not}
use Rattle.scalar_expr.specs.Views.{pr_of, sc_of}
use Rattle.scalar_expr.specs.TermOrder.{op_place, cmp_place, sc_cmp, pr_cmp, pred_cmp, scalar_cmp}

-- a place as a word
abbrev place : ℕ → Value
place n = value.Text (n ∷ [])

-- a scalar's variants and leaves from left to right
abbrev words : Sc → List Value
words (Lit v) = place 0 ∷ v ∷ []
words (Event i) = place 1 ∷ place i ∷ []
words (Binding i) = place 2 ∷ place i ∷ []
words Dur = place 3 ∷ []
words (Two op x y) = place (op_place op) ∷ (words x ++ words y)

-- a predicate's variants and leaves from left to right
abbrev pr_words : Pr → List Value
pr_words True = place 0 ∷ []
pr_words (Test x c y) = place 1 ∷ (words x ++ (place (cmp_place c) ∷ words y))
pr_words (And p q) = place 2 ∷ (pr_words p ++ pr_words q)
pr_words (Or p q) = place 3 ∷ (pr_words p ++ pr_words q)
pr_words (Not p) = place 4 ∷ pr_words p

-- the order of words
abbrev words_cmp : List Value → List Value → Ordering
words_cmp = slice_cmp value_cmp

then_assoc : (a b c : Ordering) → ordering_then a (ordering_then b c) ≡ ordering_then (ordering_then a b) c
then_assoc Less b c = refl
then_assoc Equal b c = refl
then_assoc Greater b c = refl

then-equal : (a : Ordering) → ordering_then a Equal ≡ a
then-equal Less = refl
then-equal Equal = refl
then-equal Greater = refl

-- places decide by size
places_decide : (m n : ℕ) (rest : Ordering) → ordering_then (value_cmp (place m) (place n)) rest ≡ ordering_then (nat_cmp m n) rest
places_decide m n rest = ap (λ o. ordering_then o rest) (then-equal (nat_cmp m n))

-- the words of two scalars decide as the scalars do, and else what follows them decides
words_decide : (x y : Sc) (r s : List Value) → words_cmp (words x ++ r) (words y ++ s) ≡ ordering_then (sc_cmp x y) (words_cmp r s)
words_decide (Lit v) (Lit w) r s = refl
words_decide (Event i) (Event j) r s = places_decide i j (words_cmp r s)
words_decide (Binding i) (Binding j) r s = places_decide i j (words_cmp r s)
words_decide Dur Dur r s = refl
words_decide (Two op x y) (Two op' x' y') r s =
    let first = nat_cmp (op_place op) (op_place op') in
    places_decide (op_place op) (op_place op') (words_cmp ((words x ++ words y) ++ r) ((words x' ++ words y') ++ s))
    ∙ (λ i. ordering_then first (words_cmp (append_assoc (words x) (words y) r i) (append_assoc (words x') (words y') s i)))
    ∙ ap (ordering_then first) (words_decide x x' (words y ++ r) (words y' ++ s) ∙ ap (ordering_then (sc_cmp x x')) (words_decide y y' r s) ∙ then_assoc (sc_cmp x x') (sc_cmp y y') (words_cmp r s))
    ∙ then_assoc first (ordering_then (sc_cmp x x') (sc_cmp y y')) (words_cmp r s)
words_decide (Two Add x y) z r s = refl
words_decide (Two Sub x y) z r s = refl
words_decide (Two Mul x y) z r s = refl
words_decide (Two Min x y) z r s = refl
words_decide (Two Max x y) z r s = refl
words_decide z (Two Add x y) r s = refl
words_decide z (Two Sub x y) r s = refl
words_decide z (Two Mul x y) r s = refl
words_decide z (Two Min x y) r s = refl
words_decide z (Two Max x y) r s = refl
words_decide x y r s = refl

sc_cmp_by_words : (x y : Sc) → on words words_cmp x y ≡ sc_cmp x y
sc_cmp_by_words x y = (λ i. words_cmp (sym (append-nil (words x)) i) (sym (append-nil (words y)) i)) ∙ words_decide x y [] [] ∙ then-equal (sc_cmp x y)

-- the order of scalars is total: of two one is below the other or they tie, and scalars that tie compare alike with a third
pub sc_total : IsTotalOrder sc_cmp
sc_total = let same : on words words_cmp ≡ sc_cmp = λ i x y. sc_cmp_by_words x y i in subst IsTotalOrder same (on_total words (lists_total value_total))

-- so is the same order of the program's scalars
pub scalar_total : IsTotalOrder scalar_cmp
scalar_total = on_total sc_of sc_total

-- the same of predicates
pr_words_decide : (p q : Pr) (r s : List Value) → words_cmp (pr_words p ++ r) (pr_words q ++ s) ≡ ordering_then (pr_cmp p q) (words_cmp r s)
pr_words_decide True True r s = refl
pr_words_decide (Test x c y) (Test x' c' y') r s =
    let second = nat_cmp (cmp_place c) (cmp_place c') in
    (λ i. words_cmp (append_assoc (words x) (place (cmp_place c) ∷ words y) r i) (append_assoc (words x') (place (cmp_place c') ∷ words y') s i))
    ∙ words_decide x x' (place (cmp_place c) ∷ (words y ++ r)) (place (cmp_place c') ∷ (words y' ++ s))
    ∙ ap (ordering_then (sc_cmp x x')) (places_decide (cmp_place c) (cmp_place c') (words_cmp (words y ++ r) (words y' ++ s)))
    ∙ ap (λ o. ordering_then (sc_cmp x x') (ordering_then second o)) (words_decide y y' r s)
    ∙ ap (ordering_then (sc_cmp x x')) (then_assoc second (sc_cmp y y') (words_cmp r s))
    ∙ then_assoc (sc_cmp x x') (ordering_then second (sc_cmp y y')) (words_cmp r s)
pr_words_decide (And p q) (And p' q') r s =
    (λ i. words_cmp (append_assoc (pr_words p) (pr_words q) r i) (append_assoc (pr_words p') (pr_words q') s i))
    ∙ pr_words_decide p p' (pr_words q ++ r) (pr_words q' ++ s) ∙ ap (ordering_then (pr_cmp p p')) (pr_words_decide q q' r s) ∙ then_assoc (pr_cmp p p') (pr_cmp q q') (words_cmp r s)
pr_words_decide (Or p q) (Or p' q') r s =
    (λ i. words_cmp (append_assoc (pr_words p) (pr_words q) r i) (append_assoc (pr_words p') (pr_words q') s i))
    ∙ pr_words_decide p p' (pr_words q ++ r) (pr_words q' ++ s) ∙ ap (ordering_then (pr_cmp p p')) (pr_words_decide q q' r s) ∙ then_assoc (pr_cmp p p') (pr_cmp q q') (words_cmp r s)
pr_words_decide (Not p) (Not p') r s = pr_words_decide p p' r s
pr_words_decide p q r s = refl

pr_cmp_by_words : (p q : Pr) → on pr_words words_cmp p q ≡ pr_cmp p q
pr_cmp_by_words p q =
    (λ i. words_cmp (sym (append-nil (pr_words p)) i) (sym (append-nil (pr_words q)) i)) ∙ pr_words_decide p q [] [] ∙ then-equal (pr_cmp p q)

-- the order of predicates is total
pub pr_total : IsTotalOrder pr_cmp
pr_total = let same : on pr_words words_cmp ≡ pr_cmp = λ i p q. pr_cmp_by_words p q i in subst IsTotalOrder same (on_total pr_words (lists_total value_total))

-- so is the same order of the program's predicates
pub pred_total : IsTotalOrder pred_cmp
pred_total = on_total pr_of pr_total
