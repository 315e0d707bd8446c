-- Lists of lists.
use Rattle.std.proofs.Common.{◌≡◌, ◌∙◌, sym, ap, refl, Bool, true, false, cond, List, [], ◌∷◌, ◌++◌, map}
use Rattle.std.specs.Prelude.{Option, Some, None}
use Rattle.std.specs.Option.{option_and_then}
use Rattle.std.specs.List.{All, cons_option, filter, filter_map, flat_map}
use Rattle.std.proofs.lemmas.Grind.{flat_map-append}
use Rattle.std.proofs.lemmas.List.Elements.{All-nil, All-cons, All-head, All-tail, filter_map-append}
use Rattle.semantics.proofs.ListLemmas.{All-left, All-right}

module _ {X : Type 0} where
  -- what keeps all items keeps the list
  pub filter_map_all : (xs : List X) → filter_map (λ x. Some x) xs ≡ xs
  filter_map_all [] = refl
  filter_map_all (x ∷ xs) = ap (λ ys. x ∷ ys) (filter_map_all xs)

  test_one : (x : X) (kept : List X) (b : Bool) (tested : List X) → tested ≡ kept → cons_option (cond b (Some x) None) tested ≡ cond b (x ∷ kept) kept
  test_one x kept true tested same = ap (λ ys. x ∷ ys) same
  test_one x kept false tested same = same

  -- what keeps the items that pass is a filter
  pub filter_map_test : (test : X → Bool) (xs : List X) → filter_map (λ x. cond (test x) (Some x) None) xs ≡ filter test xs
  filter_map_test test [] = refl
  filter_map_test test (x ∷ xs) = test_one x (filter test xs) (test x) (filter_map (λ y. cond (test y) (Some y) None) xs) (filter_map_test test xs)

  -- a list that every item passes
  pub filter_whole : (p : X → Bool) (xs : List X) → All (λ x. p x ≡ true) xs → filter p xs ≡ xs
  filter_whole p [] all = refl
  filter_whole p (x ∷ xs) all =
      ap (λ b. cond b (x ∷ filter p xs) (filter p xs)) (All-head (λ x. p x ≡ true) x xs all) ∙ ap (λ ys. x ∷ ys) (filter_whole p xs (All-tail (λ x. p x ≡ true) x xs all))

module _ {X Y : Type 0} where
  -- what gives an image of each item is a map
  pub filter_map_some : (f : X → Y) (xs : List X) → filter_map (λ x. Some (f x)) xs ≡ map f xs
  filter_map_some f [] = refl
  filter_map_some f (x ∷ xs) = ap (λ ys. f x ∷ ys) (filter_map_some f xs)

  -- functions that agree on the items of a list
  pub flat_map_agree : (f g : X → List Y) (xs : List X) → All (λ x. f x ≡ g x) xs → flat_map f xs ≡ flat_map g xs
  flat_map_agree f g [] all = refl
  flat_map_agree f g (x ∷ xs) all = λ i. All-head (λ x. f x ≡ g x) x xs all i ++ flat_map_agree f g xs (All-tail (λ x. f x ≡ g x) x xs all) i

  -- what agrees on all items gives the same
  pub filter_map_agree : (f g : X → Option Y) (xs : List X) → All (λ x. f x ≡ g x) xs → filter_map f xs ≡ filter_map g xs
  filter_map_agree f g [] all = refl
  filter_map_agree f g (x ∷ xs) all = λ i. cons_option (All-head (λ x. f x ≡ g x) x xs all i) (filter_map_agree f g xs (All-tail (λ x. f x ≡ g x) x xs all) i)

  -- what is kept of the lists is what is kept of all of them together
  pub filter_map-flat_map : {W : Type 0} (g : X → Option Y) (f : W → List X) (ws : List W) → flat_map (λ w. filter_map g (f w)) ws ≡ filter_map g (flat_map f ws)
  filter_map-flat_map g f [] = refl
  filter_map-flat_map g f (w ∷ ws) = ap (λ ys. filter_map g (f w) ++ ys) (filter_map-flat_map g f ws) ∙ sym (filter_map-append g (f w) (flat_map f ws))

  -- lists of lists may be put together in either order
  pub flat_map-then : {W : Type 0} (g : X → List Y) (f : W → List X) (ws : List W) → flat_map (λ w. flat_map g (f w)) ws ≡ flat_map g (flat_map f ws)
  flat_map-then g f [] = refl
  flat_map-then g f (w ∷ ws) = ap (λ zs. flat_map g (f w) ++ zs) (flat_map-then g f ws) ∙ sym (flat_map-append g (f w) (flat_map f ws))

then_one : {Y Z : Type 0} (g : Y → Option Z) (o : Option Y) (rest : List Z) (ys : List Y) → rest ≡ filter_map g ys → cons_option (option_and_then g o) rest ≡ filter_map g (cons_option o ys)
then_one g None rest ys same = same
then_one g (Some y) rest ys same = ap (cons_option (g y)) same

-- what is kept in two steps is kept in one
pub filter_map-then : {X Y Z : Type 0} (g : Y → Option Z) (f : X → Option Y) (xs : List X) → filter_map (λ x. option_and_then g (f x)) xs ≡ filter_map g (filter_map f xs)
filter_map-then g f [] = refl
filter_map-then g f (x ∷ xs) = then_one g (f x) (filter_map (λ y. option_and_then g (f y)) xs) (filter_map f xs) (filter_map-then g f xs)

-- what holds of all lists together holds of each
pub All-parts : {X Y : Type 0} (P : Y → Type 0) (f : X → List Y) (xs : List X) → All P (flat_map f xs) → All (λ x. All P (f x)) xs
All-parts P f [] all = All-nil (λ x. All P (f x))
All-parts P f (x ∷ xs) all =
    All-cons (λ y. All P (f y)) x xs (All-left P (f x) (flat_map f xs) all) (All-parts P f xs (All-right P (f x) (flat_map f xs) all))
