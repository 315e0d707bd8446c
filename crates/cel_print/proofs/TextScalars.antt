-- The text of scalars by their parts.
use Rattle.std.proofs.Common.{◌≡◌, ◌∙◌, ℕ, suc, ℤ, pos, negsuc, Bool, false, List, [], ◌∷◌, ◌++◌, refl, sym, ap, append_assoc}
use Rattle.std.specs.Prelude.{codes}
use Rattle.std.specs.Fmt.{signed_decimal}
use Rattle.semantics.specs.Report.{decimal_text}
use Rattle.cel_grammar.specs.declared.mark.Mark.{Mark}
use Rattle.cel_grammar.specs.declared.mark.Mark.TheVariants as mark
use Rattle.cel_grammar.specs.Symbols.{Symbol}
use Rattle.cel_grammar.specs.Symbols as the
use Rattle.cel_grammar.specs.Trees.{Add, Sub, Mul, Min, Max, Scalar, Number, Quoted, Attr, Dur, Two, Decimal}
use Rattle.cel_print.specs.declared.places.ScalarPlace.{ScalarPlace}
use Rattle.cel_print.specs.declared.places.ScalarPlace.TheVariants as scalar_place
use Rattle.cel_print.specs.Words.{Word, Of, Negative, NegativeDecimal, within}
use Rattle.cel_print.specs.ScalarWords.{takes_sum, takes_product, number_words, decimal_words, attribute_words, scalar_words}
use Rattle.cel_print.specs.Spelled.{spelling, opening, closing, space, text_behind, joins_left}
use Rattle.cel_print.specs.Parts.{scalar_text}
use Rattle.cel_print.proofs.Spacing.{Ends, Front, after, before, behind, lead, prefixed, own, whole, leaf, spaced, linked, followed, wrapped, opened, idle}

-- words, a symbol, and words
pub joined : (t : Symbol) (f g : List Word → List Word) (a b : List ℕ) → Ends (Of t) → Front f a → Front g b → Front (λ r. f (Of t ∷ g r)) (a ++ (lead (Of t) ++ (spelling t ++ (codes " " ++ b))))
joined t f g a b ends left right = followed f (λ r. Of t ∷ g r) a _ left (linked (Of t) g (codes " " ++ b) ends (spaced g b right))

-- a number is one word
number_front : (n : ℤ) → Front (number_words n) (signed_decimal n)
number_front (pos n) = leaf (Of (the.Number n)) refl (record { free = refl; loose = λ right. refl })
number_front (negsuc n) = leaf (Negative (suc n)) refl (record { free = refl; loose = λ right. refl })

-- a decimal is one word
decimal_front : (scale : ℕ) (units : ℤ) → Front (decimal_words scale units) (decimal_text scale units)
decimal_front scale (pos n) = leaf (Of (the.Decimal scale n)) refl (record { free = refl; loose = λ right. refl })
decimal_front scale (negsuc n) = leaf (NegativeDecimal scale (suc n)) refl (record { free = refl; loose = λ right. refl })

-- MIN or MAX has its parenthesis right behind it, and a mark its point
called : (t o : Symbol) (f : List Word → List Word) (a : List ℕ) → joins_left (Of t) ≡ false → space (Of t) (Of o) ≡ [] → Front (λ r. Of o ∷ f r) a → Front (λ r. Of t ∷ Of o ∷ f r) (spelling t ++ a)
called t o f a free tight front = record {
  ends = λ r.
      ap (λ (s : List ℕ). spelling t ++ (s ++ (spelling o ++ text_behind (Of o) (f r)))) tight
      ∙ ap (λ (s : List ℕ). spelling t ++ s) (front.ends r) ∙ sym (append_assoc (spelling t) a (after r));
  begins = λ l r loose. ap (λ (s : List ℕ). s ++ (spelling t ++ text_behind (Of t) (Of o ∷ f r))) (before l (Of t) free loose);
}

-- a point has its name right behind it
pointed : (a : List ℕ) → Front (λ r. Of the.Dot ∷ Of (the.Name a) ∷ r) (codes "." ++ a)
pointed a =
    let name : Front (λ r. Of (the.Name a) ∷ r) a = leaf (Of (the.Name a)) refl (record { free = refl; loose = λ right. refl }) in
    record {
      ends = λ r. ap (λ (s : List ℕ). codes "." ++ s) (name.begins (Of the.Dot) r (λ right. refl) ∙ name.ends r);
      begins = λ l r loose. ap (λ (s : List ℕ). s ++ (codes "." ++ text_behind (Of the.Dot) (Of (the.Name a) ∷ r))) (before l (Of the.Dot) refl loose);
    }

-- a mark has its point and its name right behind it
marked : (t : Symbol) (a : List ℕ) → joins_left (Of t) ≡ false → space (Of t) (Of the.Dot) ≡ [] → Front (λ r. Of t ∷ Of the.Dot ∷ Of (the.Name a) ∷ r) (spelling t ++ (codes "." ++ a))
marked t a free tight = called t the.Dot (λ r. Of (the.Name a) ∷ r) (codes "." ++ a) free tight (pointed a)

-- the mark and its point
abbrev pub mark_text : Mark → List ℕ
mark_text mark.Bare = []
mark_text mark.First = codes "$1."
mark_text mark.Second = codes "$2."
mark_text mark.So = codes "$."

-- an attribute
attribute_front : (m : Mark) (a : List ℕ) → Front (attribute_words m a) (mark_text m ++ a)
attribute_front mark.Bare a = leaf (Of (the.Name a)) refl (record { free = refl; loose = λ right. refl })
attribute_front mark.First a = marked the.Dollar1 a refl refl
attribute_front mark.Second a = marked the.Dollar2 a refl refl
attribute_front mark.So a = marked the.Dollar a refl refl

-- two scalars with a sign between them, in parentheses or not
pub operation : (bare : Bool) (t : Symbol) (f g : List Word → List Word) (a b : List ℕ) → Ends (Of t) → Front f a → Front g b → Front (within bare (λ r. f (Of t ∷ g r))) (opening bare ++ ((a ++ (lead (Of t) ++ (spelling t ++ (codes " " ++ b)))) ++ closing bare))
operation bare t f g a b ends left right = wrapped bare (λ r. f (Of t ∷ g r)) _ (joined t f g a b ends left right)

-- two scalars in parentheses
both : (f g : List Word → List Word) (a b : List ℕ) → Front f a → Front g b → Front (λ r. Of the.Open ∷ f (Of the.Comma ∷ g (Of the.Close ∷ r))) (codes "(" ++ ((a ++ (codes ", " ++ b)) ++ codes ")"))
both f g a b left right =
    opened (λ r. f (Of the.Comma ∷ g (Of the.Close ∷ r))) _
    (followed (λ r. f (Of the.Comma ∷ g r)) (λ r. Of the.Close ∷ r) _ _ (joined the.Comma f g a b (record { free = refl; loose = λ right. refl }) left right) (linked (Of the.Close) (λ r. r) [] (record { free = refl; loose = λ right. refl }) idle))

-- the text of a sum, a difference or a product
abbrev pub operation_text : Bool → List ℕ → List ℕ → List ℕ → List ℕ
operation_text bare a sign b = opening bare ++ ((a ++ (sign ++ b)) ++ closing bare)

-- the text of MIN or MAX
abbrev pub call_text : List ℕ → List ℕ → List ℕ → List ℕ
call_text call a b = call ++ ((a ++ (codes ", " ++ b)) ++ codes ")")

-- the text of a scalar at a place
abbrev FrontAt : ScalarPlace → Scalar → Type 0
FrontAt place x = Front (scalar_words place x) (scalar_text place x)

-- a sum
sum_front : (place : ScalarPlace) (x y : Scalar) → FrontAt scalar_place.Scalar x → FrontAt scalar_place.Product y → Front (scalar_words place (Two Add x y)) (operation_text (takes_sum place) (scalar_text scalar_place.Scalar x) (codes " + ") (scalar_text scalar_place.Product y))
sum_front place x y a b = operation (takes_sum place) the.Plus (scalar_words scalar_place.Scalar x) (scalar_words scalar_place.Product y) _ _ (record { free = refl; loose = λ right. refl }) a b

-- a difference
difference_front : (place : ScalarPlace) (x y : Scalar) → FrontAt scalar_place.Scalar x → FrontAt scalar_place.Product y → Front (scalar_words place (Two Sub x y)) (operation_text (takes_sum place) (scalar_text scalar_place.Scalar x) (codes " - ") (scalar_text scalar_place.Product y))
difference_front place x y a b = operation (takes_sum place) the.Minus (scalar_words scalar_place.Scalar x) (scalar_words scalar_place.Product y) _ _ (record { free = refl; loose = λ right. refl }) a b

-- a product
product_front : (place : ScalarPlace) (x y : Scalar) → FrontAt scalar_place.Product x → FrontAt scalar_place.Factor y → Front (scalar_words place (Two Mul x y)) (operation_text (takes_product place) (scalar_text scalar_place.Product x) (codes " * ") (scalar_text scalar_place.Factor y))
product_front place x y a b = operation (takes_product place) the.Star (scalar_words scalar_place.Product x) (scalar_words scalar_place.Factor y) _ _ (record { free = refl; loose = λ right. refl }) a b

-- the lesser of two
least_front : (place : ScalarPlace) (x y : Scalar) → FrontAt scalar_place.Scalar x → FrontAt scalar_place.Scalar y → Front (scalar_words place (Two Min x y)) (call_text (codes "MIN(") (scalar_text scalar_place.Scalar x) (scalar_text scalar_place.Scalar y))
least_front place x y a b = called the.Min the.Open (λ r. scalar_words scalar_place.Scalar x (Of the.Comma ∷ scalar_words scalar_place.Scalar y (Of the.Close ∷ r))) _ refl refl (both _ _ _ _ a b)

-- the greater of two
greatest_front : (place : ScalarPlace) (x y : Scalar) → FrontAt scalar_place.Scalar x → FrontAt scalar_place.Scalar y → Front (scalar_words place (Two Max x y)) (call_text (codes "MAX(") (scalar_text scalar_place.Scalar x) (scalar_text scalar_place.Scalar y))
greatest_front place x y a b = called the.Max the.Open (λ r. scalar_words scalar_place.Scalar x (Of the.Comma ∷ scalar_words scalar_place.Scalar y (Of the.Close ∷ r))) _ refl refl (both _ _ _ _ a b)

-- by induction on the scalar
pub scalar_front : (place : ScalarPlace) (x : Scalar) → FrontAt place x
scalar_front place (Number n) = own (number_words n) _ (number_front n)
scalar_front place (Quoted t) = own (λ r. Of (the.Quoted t) ∷ r) _ (leaf (Of (the.Quoted t)) refl (record { free = refl; loose = λ right. refl }))
scalar_front place (Decimal scale units) = own (decimal_words scale units) _ (decimal_front scale units)
scalar_front place (Attr m a) = own (attribute_words m a) _ (attribute_front m a)
scalar_front place Dur = own (λ r. Of the.Dur ∷ r) _ (leaf (Of the.Dur) refl (record { free = refl; loose = λ right. refl }))
scalar_front place (Two Add x y) = own (scalar_words place (Two Add x y)) _ (sum_front place x y (scalar_front scalar_place.Scalar x) (scalar_front scalar_place.Product y))
scalar_front place (Two Sub x y) = own (scalar_words place (Two Sub x y)) _ (difference_front place x y (scalar_front scalar_place.Scalar x) (scalar_front scalar_place.Product y))
scalar_front place (Two Mul x y) = own (scalar_words place (Two Mul x y)) _ (product_front place x y (scalar_front scalar_place.Product x) (scalar_front scalar_place.Factor y))
scalar_front place (Two Min x y) = own (scalar_words place (Two Min x y)) _ (least_front place x y (scalar_front scalar_place.Scalar x) (scalar_front scalar_place.Scalar y))
scalar_front place (Two Max x y) = own (scalar_words place (Two Max x y)) _ (greatest_front place x y (scalar_front scalar_place.Scalar x) (scalar_front scalar_place.Scalar y))

-- a number
pub number_text : (place : ScalarPlace) (n : ℤ) → scalar_text place (Number n) ≡ signed_decimal n
number_text place n = whole (number_words n) (signed_decimal n) (number_front n)

-- a decimal
pub decimal_text_is : (place : ScalarPlace) (scale : ℕ) (units : ℤ) → scalar_text place (Decimal scale units) ≡ decimal_text scale units
decimal_text_is place scale units = whole (decimal_words scale units) (decimal_text scale units) (decimal_front scale units)

-- an attribute
pub attribute_text : (place : ScalarPlace) (m : Mark) (a : List ℕ) → scalar_text place (Attr m a) ≡ mark_text m ++ a
attribute_text place m a = whole (attribute_words m a) _ (attribute_front m a)

-- a sum
pub sum_text : (place : ScalarPlace) (x y : Scalar) → scalar_text place (Two Add x y) ≡ operation_text (takes_sum place) (scalar_text scalar_place.Scalar x) (codes " + ") (scalar_text scalar_place.Product y)
sum_text place x y = whole (scalar_words place (Two Add x y)) _ (sum_front place x y (scalar_front scalar_place.Scalar x) (scalar_front scalar_place.Product y))

-- a difference
pub difference_text : (place : ScalarPlace) (x y : Scalar) → scalar_text place (Two Sub x y) ≡ operation_text (takes_sum place) (scalar_text scalar_place.Scalar x) (codes " - ") (scalar_text scalar_place.Product y)
difference_text place x y = whole (scalar_words place (Two Sub x y)) _ (difference_front place x y (scalar_front scalar_place.Scalar x) (scalar_front scalar_place.Product y))

-- a product
pub product_text : (place : ScalarPlace) (x y : Scalar) → scalar_text place (Two Mul x y) ≡ operation_text (takes_product place) (scalar_text scalar_place.Product x) (codes " * ") (scalar_text scalar_place.Factor y)
product_text place x y = whole (scalar_words place (Two Mul x y)) _ (product_front place x y (scalar_front scalar_place.Product x) (scalar_front scalar_place.Factor y))

-- the lesser of two
pub least_text : (place : ScalarPlace) (x y : Scalar) → scalar_text place (Two Min x y) ≡ call_text (codes "MIN(") (scalar_text scalar_place.Scalar x) (scalar_text scalar_place.Scalar y)
least_text place x y = whole (scalar_words place (Two Min x y)) _ (least_front place x y (scalar_front scalar_place.Scalar x) (scalar_front scalar_place.Scalar y))

-- the greater of two
pub greatest_text : (place : ScalarPlace) (x y : Scalar) → scalar_text place (Two Max x y) ≡ call_text (codes "MAX(") (scalar_text scalar_place.Scalar x) (scalar_text scalar_place.Scalar y)
greatest_text place x y = whole (scalar_words place (Two Max x y)) _ (greatest_front place x y (scalar_front scalar_place.Scalar x) (scalar_front scalar_place.Scalar y))
