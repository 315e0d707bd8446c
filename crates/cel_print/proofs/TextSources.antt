-- The text of items, aggregates and sources by their parts.
use Rattle.std.proofs.Common.{◌≡◌, ℕ, Bool, true, false, List, [], ◌∷◌, ◌++◌, refl, subst, append_assoc}
use Rattle.std.specs.Prelude.{codes, if◌then◌else◌}
use Rattle.std.specs.List.{flat_map}
use Rattle.std.proofs.lemmas.List.{append-nil}
use Rattle.cel_grammar.specs.Symbols as the
use Rattle.cel_grammar.specs.Trees.{Scalar, Pred, True, Item, All, Named, Agg, Set, Source, Name, Filter, Select, Union, Next, Fold}
use Rattle.cel_print.specs.declared.places.PredPlace.TheVariants as pred_place
use Rattle.cel_print.specs.declared.places.ScalarPlace.TheVariants as scalar_place
use Rattle.cel_print.specs.declared.places.SourcePlace.{SourcePlace}
use Rattle.cel_print.specs.declared.places.SourcePlace.TheVariants as source_place
use Rattle.cel_print.specs.Words.{Word, Of}
use Rattle.cel_print.specs.ScalarWords.{scalar_words}
use Rattle.cel_print.specs.PredicateWords.{pred_words}
use Rattle.cel_print.specs.SourceWords.{is_own_name, named_words, item_words, items_words, aggs_words, condition_words, takes_link, source_words}
use Rattle.cel_print.specs.Spelled.{text_of}
use Rattle.cel_print.specs.Parts.{scalar_text, pred_text, named_text, item_text, items_text, agg_text, condition_text, iteration_text, source_text}
use Rattle.cel_print.proofs.Spacing.{Front, Tail, own, whole, leaf, spaced, linked, followed, chained, prefixed, opened, braced, idle, wrapped}
use Rattle.cel_print.proofs.TextScalars.{joined, operation, operation_text, scalar_front}
use Rattle.cel_print.proofs.TextPredicates.{pred_front}

-- a scalar under a name
named_front : (x : Scalar) (a : List ℕ) → Front (named_words x a) (scalar_text scalar_place.Scalar x ++ (codes " AS " ++ a))
named_front x a = joined the.As (scalar_words scalar_place.Scalar x) (λ r. Of (the.Name a) ∷ r) _ _ (record { free = refl; loose = λ right. refl }) (scalar_front scalar_place.Scalar x) (leaf (Of (the.Name a)) refl (record { free = refl; loose = λ right. refl }))

-- a scalar under a name
pub named_is : (x : Scalar) (a : List ℕ) → named_text x a ≡ scalar_text scalar_place.Scalar x ++ (codes " AS " ++ a)
named_is x a = whole (named_words x a) _ (named_front x a)

-- an item
item_front : (i : Item) → Front (item_words i) (item_text i)
item_front All = own (λ r. Of the.Star ∷ r) _ (leaf (Of the.Star) refl (record { free = refl; loose = λ right. refl }))
item_front (Named x a) =
    let P : Bool → Type 0 = λ b. Front (λ r. if b then Of (the.Name a) ∷ r else named_words x a r) (text_of (if b then Of (the.Name a) ∷ [] else named_words x a [])) in
    elim (is_own_name x a) as P [
      | true ↦ own (λ r. Of (the.Name a) ∷ r) _ (leaf (Of (the.Name a)) refl (record { free = refl; loose = λ right. refl }))
      | false ↦ own (named_words x a) _ (named_front x a)
    ]

-- items of which there is one at least
some_items : (i : Item) (items : List Item) → Front (items_words (i ∷ items)) (item_text i ++ flat_map (λ j. codes ", " ++ item_text j) items)
some_items i [] = rw append-nil (item_front i)
some_items i (j ∷ items) = joined the.Comma (item_words i) (items_words (j ∷ items)) _ _ (record { free = refl; loose = λ right. refl }) (item_front i) (some_items j items)

-- items behind SELECT
pub items_tail : (items : List Item) → Tail (items_words items) (items_text items)
items_tail [] = λ r. refl
items_tail (i ∷ items) = spaced (items_words (i ∷ items)) _ (some_items i items)

-- aggregates, each behind a comma
aggs_tail : (aggs : List Agg) → Tail (aggs_words aggs) (flat_map agg_text aggs)
aggs_tail [] = λ r. refl
aggs_tail (Set x a ∷ aggs) =
    linked (Of the.Comma) (λ r. named_words x a (aggs_words aggs r)) (codes " " ++ (named_text x a ++ flat_map agg_text aggs)) (record { free = refl; loose = λ right. refl })
    (spaced (λ r. named_words x a (aggs_words aggs r)) _ (followed (named_words x a) (aggs_words aggs) _ _ (own (named_words x a) _ (named_front x a)) (aggs_tail aggs)))

-- what stands behind a closing brace
closed : (f g : List Word → List Word) (a b : List ℕ) → Front f a → Front g b → Front (λ r. f (Of the.BraceClose ∷ g r)) (a ++ (codes "} " ++ b))
closed f g a b left right = followed f (λ r. Of the.BraceClose ∷ g r) a _ left (linked (Of the.BraceClose) g (codes " " ++ b) (record { free = refl; loose = λ right. refl }) (spaced g b right))

-- the same text otherwise grouped
retexted : (f : List Word → List Word) (a b : List ℕ) → a ≡ b → Tail f a → Tail f b
retexted f a b e tail = subst (Tail f) e tail

-- text in braces, otherwise grouped
regrouped : (a b : List ℕ) → codes " {" ++ (a ++ (codes "} " ++ b)) ≡ codes " " ++ ((codes "{" ++ (a ++ codes "} ")) ++ b)
regrouped a b = simp append_assoc

-- a condition in braces, and what stands behind it
braced_front : (p : Pred) (g : List Word → List Word) (b : List ℕ) → Front g b → Tail (λ r. Of the.BraceOpen ∷ pred_words pred_place.Pred p (Of the.BraceClose ∷ g r)) (codes " " ++ ((codes "{" ++ (pred_text pred_place.Pred p ++ codes "} ")) ++ b))
braced_front p g b front =
    retexted (λ r. Of the.BraceOpen ∷ pred_words pred_place.Pred p (Of the.BraceClose ∷ g r)) _ _ (regrouped (pred_text pred_place.Pred p) b)
    (braced (λ r. pred_words pred_place.Pred p (Of the.BraceClose ∷ g r)) _ (closed (pred_words pred_place.Pred p) g _ b (pred_front pred_place.Pred p) front))

-- the condition of a NEXT, and what stands behind it
condition_front : (p : Pred) (g : List Word → List Word) (b : List ℕ) → Front g b → Tail (λ r. condition_words p (g r)) (codes " " ++ (condition_text p ++ b))
condition_front True g b front = spaced g b front
condition_front p g b front = braced_front p g b front

-- text of a FOLD in braces, otherwise grouped
iteration_regrouped : (p q s b : List ℕ) → codes " {" ++ ((p ++ (codes ", " ++ (q ++ s))) ++ (codes "} " ++ b)) ≡ codes " " ++ ((codes "{" ++ (p ++ (codes ", " ++ (q ++ (s ++ codes "} "))))) ++ b)
iteration_regrouped p q s b = simp append_assoc

-- what FOLD has in its braces, and what stands behind it
iteration_front : (p q : Pred) (aggs : List Agg) (g : List Word → List Word) (b : List ℕ) → Front g b → Tail (λ r. Of the.BraceOpen ∷ pred_words pred_place.Pred p (Of the.Comma ∷ pred_words pred_place.Pred q (aggs_words aggs (Of the.BraceClose ∷ g r)))) (codes " " ++ (iteration_text p q aggs ++ b))
iteration_front p q aggs g b front =
    let both : Front (λ r. pred_words pred_place.Pred p (Of the.Comma ∷ pred_words pred_place.Pred q (aggs_words aggs r))) (pred_text pred_place.Pred p ++ (codes ", " ++ (pred_text pred_place.Pred q ++ flat_map agg_text aggs))) =
    joined the.Comma (pred_words pred_place.Pred p) (λ r. pred_words pred_place.Pred q (aggs_words aggs r)) _ _ (record { free = refl; loose = λ right. refl }) (pred_front pred_place.Pred p)
    (followed (pred_words pred_place.Pred q) (aggs_words aggs) _ _ (pred_front pred_place.Pred q) (aggs_tail aggs)) in
    retexted (λ r. Of the.BraceOpen ∷ pred_words pred_place.Pred p (Of the.Comma ∷ pred_words pred_place.Pred q (aggs_words aggs (Of the.BraceClose ∷ g r)))) _ _ (iteration_regrouped (pred_text pred_place.Pred p) (pred_text pred_place.Pred q) (flat_map agg_text aggs) b)
    (braced (λ r. pred_words pred_place.Pred p (Of the.Comma ∷ pred_words pred_place.Pred q (aggs_words aggs (Of the.BraceClose ∷ g r)))) _
    (closed (λ r. pred_words pred_place.Pred p (Of the.Comma ∷ pred_words pred_place.Pred q (aggs_words aggs r))) g _ b both front))

-- the text of a source at a place
abbrev FrontAt : SourcePlace → Source → Type 0
FrontAt place e = Front (source_words place e) (source_text place e)

-- FILTER
filter_front : (place : SourcePlace) (p : Pred) (e : Source) → FrontAt source_place.Term e → Front (source_words place (Filter p e)) (codes "FILTER {" ++ (pred_text pred_place.Pred p ++ (codes "} " ++ source_text source_place.Term e)))
filter_front place p e a =
    prefixed (Of the.Filter) (λ r. Of the.BraceOpen ∷ pred_words pred_place.Pred p (Of the.BraceClose ∷ source_words source_place.Term e r)) _ refl (record { free = refl; loose = λ right. refl })
    (braced (λ r. pred_words pred_place.Pred p (Of the.BraceClose ∷ source_words source_place.Term e r)) _ (closed (pred_words pred_place.Pred p) (source_words source_place.Term e) _ _ (pred_front pred_place.Pred p) a))

-- an inner SELECT
select_front : (place : SourcePlace) (items : List Item) (e : Source) → FrontAt source_place.Source e → Front (source_words place (Select items e)) (codes "(SELECT" ++ (items_text items ++ (codes " FROM " ++ (source_text source_place.Source e ++ codes ")"))))
select_front place items e a =
    let close : Tail (λ r. Of the.Close ∷ r) (codes ")") = linked (Of the.Close) (λ r. r) [] (record { free = refl; loose = λ right. refl }) idle in
    let from : Tail (λ r. Of the.From ∷ source_words source_place.Source e (Of the.Close ∷ r)) (codes " FROM " ++ (source_text source_place.Source e ++ codes ")")) =
    linked (Of the.From) (λ r. source_words source_place.Source e (Of the.Close ∷ r)) (codes " " ++ (source_text source_place.Source e ++ codes ")")) (record { free = refl; loose = λ right. refl })
    (spaced (λ r. source_words source_place.Source e (Of the.Close ∷ r)) _ (followed (source_words source_place.Source e) (λ r. Of the.Close ∷ r) _ _ a close)) in
    opened (λ r. Of the.Select ∷ items_words items (Of the.From ∷ source_words source_place.Source e (Of the.Close ∷ r))) _
    (prefixed (Of the.Select) (λ r. items_words items (Of the.From ∷ source_words source_place.Source e (Of the.Close ∷ r))) (items_text items ++ (codes " FROM " ++ (source_text source_place.Source e ++ codes ")"))) refl (record { free = refl; loose = λ right. refl })
    (chained (items_words items) (λ r. Of the.From ∷ source_words source_place.Source e (Of the.Close ∷ r)) _ _ (items_tail items) from))

-- UNION
union_front : (place : SourcePlace) (e f : Source) → FrontAt source_place.Source e → FrontAt source_place.Term f → Front (source_words place (Union e f)) (operation_text (takes_link place) (source_text source_place.Source e) (codes " UNION ") (source_text source_place.Term f))
union_front place e f a b = operation (takes_link place) the.Union (source_words source_place.Source e) (source_words source_place.Term f) _ _ (record { free = refl; loose = λ right. refl }) a b

-- NEXT
next_front : (place : SourcePlace) (p : Pred) (e f : Source) → FrontAt source_place.Source e → FrontAt source_place.Term f → Front (source_words place (Next p e f)) (operation_text (takes_link place) (source_text source_place.Source e) (codes " NEXT ") (condition_text p ++ source_text source_place.Term f))
next_front place p e f a b =
    wrapped (takes_link place) (λ r. source_words source_place.Source e (Of the.Next ∷ condition_words p (source_words source_place.Term f r))) _
    (followed (source_words source_place.Source e) (λ r. Of the.Next ∷ condition_words p (source_words source_place.Term f r)) _ (codes " NEXT " ++ (condition_text p ++ source_text source_place.Term f)) a
    (linked (Of the.Next) (λ r. condition_words p (source_words source_place.Term f r)) (codes " " ++ (condition_text p ++ source_text source_place.Term f)) (record { free = refl; loose = λ right. refl }) (condition_front p (source_words source_place.Term f) _ b)))

-- FOLD
fold_front : (place : SourcePlace) (p q : Pred) (aggs : List Agg) (e f : Source) → FrontAt source_place.Source e → FrontAt source_place.Term f → Front (source_words place (Fold p q aggs e f)) (operation_text (takes_link place) (source_text source_place.Source e) (codes " FOLD ") (iteration_text p q aggs ++ source_text source_place.Term f))
fold_front place p q aggs e f a b =
    let inside : List Word → List Word = λ r. Of the.BraceOpen ∷ pred_words pred_place.Pred p (Of the.Comma ∷ pred_words pred_place.Pred q (aggs_words aggs (Of the.BraceClose ∷ source_words source_place.Term f r))) in
    wrapped (takes_link place) (λ r. source_words source_place.Source e (Of the.Fold ∷ inside r)) _
    (followed (source_words source_place.Source e) (λ r. Of the.Fold ∷ inside r) _ (codes " FOLD " ++ (iteration_text p q aggs ++ source_text source_place.Term f)) a
    (linked (Of the.Fold) inside (codes " " ++ (iteration_text p q aggs ++ source_text source_place.Term f)) (record { free = refl; loose = λ right. refl }) (iteration_front p q aggs (source_words source_place.Term f) _ b)))

-- by induction on the source
pub source_front : (place : SourcePlace) (e : Source) → FrontAt place e
source_front place (Name a) = own (λ r. Of (the.Name a) ∷ r) _ (leaf (Of (the.Name a)) refl (record { free = refl; loose = λ right. refl }))
source_front place (Filter p e) = own (source_words place (Filter p e)) _ (filter_front place p e (source_front source_place.Term e))
source_front place (Select items e) = own (source_words place (Select items e)) _ (select_front place items e (source_front source_place.Source e))
source_front place (Union e f) = own (source_words place (Union e f)) _ (union_front place e f (source_front source_place.Source e) (source_front source_place.Term f))
source_front place (Next p e f) = own (source_words place (Next p e f)) _ (next_front place p e f (source_front source_place.Source e) (source_front source_place.Term f))
source_front place (Fold p q aggs e f) = own (source_words place (Fold p q aggs e f)) _ (fold_front place p q aggs e f (source_front source_place.Source e) (source_front source_place.Term f))

-- FILTER
pub filter_text : (place : SourcePlace) (p : Pred) (e : Source) → source_text place (Filter p e) ≡ codes "FILTER {" ++ (pred_text pred_place.Pred p ++ (codes "} " ++ source_text source_place.Term e))
filter_text place p e = whole (source_words place (Filter p e)) _ (filter_front place p e (source_front source_place.Term e))

-- an inner SELECT
pub select_text : (place : SourcePlace) (items : List Item) (e : Source) → source_text place (Select items e) ≡ codes "(SELECT" ++ (items_text items ++ (codes " FROM " ++ (source_text source_place.Source e ++ codes ")")))
select_text place items e = whole (source_words place (Select items e)) _ (select_front place items e (source_front source_place.Source e))

-- UNION
pub union_text : (place : SourcePlace) (e f : Source) → source_text place (Union e f) ≡ operation_text (takes_link place) (source_text source_place.Source e) (codes " UNION ") (source_text source_place.Term f)
union_text place e f = whole (source_words place (Union e f)) _ (union_front place e f (source_front source_place.Source e) (source_front source_place.Term f))

-- NEXT
pub next_text : (place : SourcePlace) (p : Pred) (e f : Source) → source_text place (Next p e f) ≡ operation_text (takes_link place) (source_text source_place.Source e) (codes " NEXT ") (condition_text p ++ source_text source_place.Term f)
next_text place p e f = whole (source_words place (Next p e f)) _ (next_front place p e f (source_front source_place.Source e) (source_front source_place.Term f))

-- FOLD
pub fold_text : (place : SourcePlace) (p q : Pred) (aggs : List Agg) (e f : Source) → source_text place (Fold p q aggs e f) ≡ operation_text (takes_link place) (source_text source_place.Source e) (codes " FOLD ") (iteration_text p q aggs ++ source_text source_place.Term f)
fold_text place p q aggs e f = whole (source_words place (Fold p q aggs e f)) _ (fold_front place p q aggs e f (source_front source_place.Source e) (source_front source_place.Term f))
