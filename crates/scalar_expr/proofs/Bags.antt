-- Filters of lists up to order.
use Rattle.std.proofs.Common.{◌≡◌, ◌∙◌, sym, ap, refl, subst, ℕ, zero, suc, ◌<◌, Bool, true, false, not, ◌&&◌, ◌||◌, cond, length, get_or, List, [], ◌∷◌, ◌++◌, append_assoc, arith}
use Rattle.std.specs.List.{filter, flat_map, list_all, list_any, swap}
use Rattle.std.proofs.Math.ListN.{set}
use Rattle.std.specs.List.Sorted.{IsPermutation}
use Rattle.std.proofs.lemmas.List.Elements.{filter-append}
use Rattle.std.proofs.lemmas.List.Sorted.{list_any-IsPermutation, IsPermutation-refl, IsPermutation-trans, IsPermutation-append_left, IsPermutation-append_right, IsPermutation-append_comm, IsPermutation-keeps}

module _ {X : Type 0} where
  -- a list that equals one of these is a permutation too
  pub permuted_from : {xs ys zs : List X} → xs ≡ ys → IsPermutation ys zs → IsPermutation xs zs
  permuted_from {xs} {ys} {zs} e h = subst (λ ws. IsPermutation ws zs) (sym e) h

  -- so is a list that equals the other
  pub permuted_to : {xs ys zs : List X} → IsPermutation xs ys → ys ≡ zs → IsPermutation xs zs
  permuted_to {xs} {ys} {zs} h e = subst (λ ws. IsPermutation xs ws) e h

  -- the first two of three lists change places
  swap_first : (a b c : List X) → IsPermutation (a ++ (b ++ c)) (b ++ (a ++ c))
  swap_first a b c =
      permuted_from (sym (append_assoc a b c)) (permuted_to (IsPermutation-append_left c (a ++ b) (b ++ a) (IsPermutation-append_comm a b)) (append_assoc b a c))

module _ {X Y : Type 0} (f : X → List Y) where
  -- one item put in the place of another
  flat_map_set : (d x : X) (l : List X) (i : ℕ) → i < length l → IsPermutation (f x ++ flat_map f l) (f (get_or l i d) ++ flat_map f (set l i x))
  flat_map_set d x [] i h = absurd (omega arith)
  flat_map_set d x (y ∷ l) zero h = swap_first (f x) (f y) (flat_map f l)
  flat_map_set d x (y ∷ l) (suc i) h =
      IsPermutation-trans _ _ _ (swap_first (f x) (f y) (flat_map f l))
      (IsPermutation-trans _ _ _ (IsPermutation-append_right (f y) (f x ++ flat_map f l) (f (get_or l i d) ++ flat_map f (set l i x)) (flat_map_set d x l i (omega arith)))
      (swap_first (f y) (f (get_or l i d)) (flat_map f (set l i x))))

  -- two items that change places
  flat_map_swap : (d : X) (l : List X) (i j : ℕ) → i < length l → j < length l → IsPermutation (flat_map f l) (flat_map f (set (set l i (get_or l j d)) j (get_or l i d)))
  flat_map_swap d [] i j h k = absurd (omega arith)
  flat_map_swap d (x ∷ l) zero zero h k = IsPermutation-refl (flat_map f (x ∷ l))
  flat_map_swap d (x ∷ l) zero (suc j) h k = flat_map_set d x l j (omega arith)
  flat_map_swap d (x ∷ l) (suc i) zero h k = flat_map_set d x l i (omega arith)
  flat_map_swap d (x ∷ l) (suc i) (suc j) h k =
      IsPermutation-append_right (f x) (flat_map f l) (flat_map f (set (set l i (get_or l j d)) j (get_or l i d))) (flat_map_swap d l i j (omega arith) (omega arith))

  flat_map_exchange : (l : List X) (i j : ℕ) → i < length l → j < length l → IsPermutation (flat_map f l) (flat_map f (swap l i j))
  flat_map_exchange [] i j h k = absurd (omega arith)
  flat_map_exchange (x ∷ l) i j h k = flat_map_swap x (x ∷ l) i j h k

  -- a bag gives a bag
  pub flat_map_permuted : (xs ys : List X) → IsPermutation xs ys → IsPermutation (flat_map f xs) (flat_map f ys)
  flat_map_permuted xs ys h =
      IsPermutation-keeps xs (λ l. IsPermutation (flat_map f xs) (flat_map f l)) (IsPermutation-refl (flat_map f xs))
      (λ l i j p q s. IsPermutation-trans _ _ _ s (flat_map_exchange l i j p q)) ys h

module _ {X Y : Type 0} where
  -- what gives the same of each item gives the same list
  pub flat_map_each : (f g : X → List Y) → ((x : X) → f x ≡ g x) → (xs : List X) → flat_map f xs ≡ flat_map g xs
  flat_map_each f g same [] = refl
  flat_map_each f g same (x ∷ xs) = λ i. same x i ++ flat_map_each f g same xs i

  -- what a filter keeps of all that is given is what it keeps of each
  pub filter-flat_map : (test : Y → Bool) (f : X → List Y) (xs : List X) → filter test (flat_map f xs) ≡ flat_map (λ x. filter test (f x)) xs
  filter-flat_map test f [] = refl
  filter-flat_map test f (x ∷ xs) = filter-append test (f x) (flat_map f xs) ∙ ap (λ ys. filter test (f x) ++ ys) (filter-flat_map test f xs)

module _ {X : Type 0} (p : X → Bool) where
  -- a filter, as what is given of each item
  filter-as_flat_map : (xs : List X) → filter p xs ≡ flat_map (λ x. cond (p x) (x ∷ []) []) xs
  filter-as_flat_map [] = refl
  filter-as_flat_map (x ∷ xs) = go (filter-as_flat_map xs) (p x)
    where
      go : filter p xs ≡ flat_map (λ x. cond (p x) (x ∷ []) []) xs → (b : Bool) → cond b (x ∷ filter p xs) (filter p xs) ≡ cond b (x ∷ []) [] ++ flat_map (λ x. cond (p x) (x ∷ []) []) xs
      go rest true = ap (λ ys. x ∷ ys) rest
      go rest false = rest

  -- what a filter keeps of a bag
  pub filter_permuted : (xs ys : List X) → IsPermutation xs ys → IsPermutation (filter p xs) (filter p ys)
  filter_permuted xs ys h =
      permuted_from (filter-as_flat_map xs) (permuted_to (flat_map_permuted (λ x. cond (p x) (x ∷ []) []) xs ys h) (sym (filter-as_flat_map ys)))

  -- all pass where none fails
  list_all-any : (xs : List X) → list_all p xs ≡ not (list_any (λ x. not (p x)) xs)
  list_all-any [] = refl
  list_all-any (x ∷ xs) = go (list_all-any xs) (p x)
    where
      go : list_all p xs ≡ not (list_any (λ x. not (p x)) xs) → (b : Bool) → (b && list_all p xs) ≡ not (not b || list_any (λ x. not (p x)) xs)
      go rest true = rest
      go rest false = refl

  -- a permutation doesn't change whether all pass a test
  pub list_all_permuted : (xs ys : List X) → IsPermutation xs ys → list_all p xs ≡ list_all p ys
  list_all_permuted xs ys h = list_all-any xs ∙ ap not (list_any-IsPermutation (λ x. not (p x)) xs ys h) ∙ sym (list_all-any ys)
