-- The text of words by their parts.
use Rattle.std.proofs.Common.{◌≡◌, ◌∙◌, ℕ, Bool, true, false, List, [], ◌∷◌, ◌++◌, refl, sym, ap, append_assoc}
use Rattle.std.specs.Prelude.{◌||◌, codes, if◌then◌else◌}
use Rattle.std.proofs.lemmas.List.{append-nil}
use Rattle.cel_grammar.specs.Symbols.{Symbol}
use Rattle.cel_grammar.specs.Symbols as the
use Rattle.cel_print.specs.Words.{Word, Of, within}
use Rattle.cel_print.specs.Spelled.{word_spelling, opening, closing, joins_left, joins_right, is_tight, space, text_behind, text_of}

-- what stands between a word and one that does not join it
abbrev pub gap : Word → List ℕ
gap left = if joins_right left then [] else codes " "

-- what stands before a word behind one that does not join it
abbrev pub lead : Word → List ℕ
lead word = if joins_left word then [] else codes " "

-- the text of some words behind one that does not join them
abbrev pub after : List Word → List ℕ
after [] = []
after (word ∷ words) = lead word ++ (word_spelling word ++ text_behind word words)

-- no call begins with the word
abbrev pub IsLoose : Word → Type 0
IsLoose left = (right : Word) → is_tight left right ≡ false

-- the word joins nothing behind it
pub record Ends (word : Word) : Type 0 where
  pub free : joins_right word ≡ false
  pub loose : IsLoose word

-- behind a word that joins nothing stands what stands behind any such word
pub behind : (word : Word) (words : List Word) → Ends word → text_behind word words ≡ after words
behind word [] ends = refl
behind word (next ∷ words) ends = rw (ends.free, ends.loose next) (by_case (joins_left next))
  where
    by_case : (b : Bool) → (if b || false then [] else codes " ") ++ (word_spelling next ++ text_behind next words) ≡ (if b then [] else codes " ") ++ (word_spelling next ++ text_behind next words)
    by_case true = refl
    by_case false = refl

-- before a word that joins nothing before it stands what its left word tells
pub before : (left word : Word) → joins_left word ≡ false → IsLoose left → space left word ≡ gap left
before left word free loose = rw (free, loose word) (by_case (joins_right left))
  where
    by_case : (b : Bool) → (if b || false || false then [] else codes " ") ≡ (if b then [] else codes " ")
    by_case true = refl
    by_case false = refl

-- the words put this text before what follows them, with no space before it but what the word before them tells
pub record Front (words : List Word → List Word) (text : List ℕ) : Type 0 where
  pub ends : (r : List Word) → text_of (words r) ≡ text ++ after r
  pub begins : (left : Word) (r : List Word) → IsLoose left → text_behind left (words r) ≡ gap left ++ text_of (words r)

-- the words put this text, its space included, before what follows them
abbrev pub Tail : (List Word → List Word) → List ℕ → Type 0
Tail words text = (r : List Word) → after (words r) ≡ text ++ after r

-- the text of the words alone
pub whole : (f : List Word → List Word) (a : List ℕ) → Front f a → text_of (f []) ≡ a
whole f a front = front.ends [] ∙ append-nil a

-- words have their own text
pub own : (f : List Word → List Word) (a : List ℕ) → Front f a → Front f (text_of (f []))
own f a front = rw (whole f a front) front

-- behind a word that joins nothing
after_is : (words : List Word) → after words ≡ text_behind (Of the.Plus) words
after_is words = sym (behind (Of the.Plus) words (record { free = refl; loose = λ right. refl }))

-- a word that joins nothing
pub leaf : (word : Word) → joins_left word ≡ false → Ends word → Front (λ r. word ∷ r) (word_spelling word)
leaf word free ends = record {
  ends = λ r. ap (λ (s : List ℕ). word_spelling word ++ s) (behind word r ends);
  begins = λ left r loose. ap (λ (s : List ℕ). s ++ (word_spelling word ++ text_behind word r)) (before left word free loose);
}

-- what begins behind a word that joins nothing has a space before it
pub spaced : (f : List Word → List Word) (a : List ℕ) → Front f a → Tail f (codes " " ++ a)
spaced f a front r = after_is (f r) ∙ front.begins (Of the.Plus) r (λ right. refl) ∙ ap (λ (s : List ℕ). codes " " ++ s) (front.ends r)

regroup : (a b c d : List ℕ) → a ++ (b ++ (c ++ d)) ≡ (a ++ (b ++ c)) ++ d
regroup a b c d = simp append_assoc

-- a word that joins nothing behind it, and what stands behind it
pub linked : (word : Word) (g : List Word → List Word) (b : List ℕ) → Ends word → Tail g b → Tail (λ r. word ∷ g r) (lead word ++ (word_spelling word ++ b))
linked word g b ends tail r = ap (λ (s : List ℕ). lead word ++ (word_spelling word ++ s)) (behind word (g r) ends ∙ tail r) ∙ regroup (lead word) (word_spelling word) b (after r)

-- words and what stands behind them
pub followed : (f g : List Word → List Word) (a b : List ℕ) → Front f a → Tail g b → Front (λ r. f (g r)) (a ++ b)
followed f g a b front tail = record {
  ends = λ r. front.ends (g r) ∙ (ap (λ (s : List ℕ). a ++ s) (tail r) ∙ sym (append_assoc a b (after r)));
  begins = λ l r loose. front.begins l (g r) loose;
}

-- the same of what stands behind others
pub chained : (f g : List Word → List Word) (a b : List ℕ) → Tail f a → Tail g b → Tail (λ r. f (g r)) (a ++ b)
chained f g a b front tail r = front (g r) ∙ (ap (λ (s : List ℕ). a ++ s) (tail r) ∙ sym (append_assoc a b (after r)))

-- a word that joins nothing, and what stands behind it
pub prefixed : (word : Word) (f : List Word → List Word) (a : List ℕ) → joins_left word ≡ false → Ends word → Tail f a → Front (λ r. word ∷ f r) (word_spelling word ++ a)
prefixed word f a free ends tail = record {
  ends = λ r. ap (λ (s : List ℕ). word_spelling word ++ s) (behind word (f r) ends ∙ tail r) ∙ sym (append_assoc (word_spelling word) a (after r));
  begins = λ l r loose. ap (λ (s : List ℕ). s ++ (word_spelling word ++ text_behind word (f r))) (before l word free loose);
}

-- words behind an opening parenthesis
pub opened : (f : List Word → List Word) (a : List ℕ) → Front f a → Front (λ r. Of the.Open ∷ f r) (codes "(" ++ a)
opened f a front = record {
  ends = λ r. ap (λ (s : List ℕ). codes "(" ++ s) (front.begins (Of the.Open) r (λ right. refl) ∙ front.ends r);
  begins = λ l r loose. ap (λ (s : List ℕ). s ++ (codes "(" ++ text_behind (Of the.Open) (f r))) (before l (Of the.Open) refl loose);
}

-- words behind an opening brace
pub braced : (f : List Word → List Word) (a : List ℕ) → Front f a → Tail (λ r. Of the.BraceOpen ∷ f r) (codes " {" ++ a)
braced f a front r = ap (λ (s : List ℕ). codes " {" ++ s) (front.begins (Of the.BraceOpen) r (λ right. refl) ∙ front.ends r)

-- nothing
pub idle : Tail (λ r. r) []
idle r = refl

-- words in parentheses or in nothing
pub wrapped : (bare : Bool) (f : List Word → List Word) (a : List ℕ) → Front f a → Front (within bare f) (opening bare ++ (a ++ closing bare))
wrapped true f a front = rw append-nil front
wrapped false f a front = opened (λ r. f (Of the.Close ∷ r)) (a ++ codes ")") (followed f (λ r. Of the.Close ∷ r) a (codes ")") front (linked (Of the.Close) (λ r. r) [] (record { free = refl; loose = λ right. refl }) idle))
