-- Lists up to order, and lists within others.
use Rattle.std.proofs.Common.{◌≡◌, sym, ap, refl, subst, ◌≤◌, Bool, not, length, List, [], ◌∷◌, ◌++◌, map, append-nil, append_assoc, arith}
use Rattle.std.specs.Prelude.{Option, Some, None}
use Rattle.std.specs.List.{All, filter, filter_map, flat_map, cons_option}
use Rattle.std.proofs.lemmas.Grind.{flat_map-append}
use Rattle.std.specs.List.Sorted.{IsPermutation}
use Rattle.std.proofs.lemmas.List.Elements.{All-head, All-tail, filter-append, filter_map-append}
use Rattle.std.proofs.lemmas.List.Sorted.{IsPermutation-refl, IsPermutation-trans, IsPermutation-append, IsPermutation-append_left, IsPermutation-append_right, IsPermutation-append_comm, IsPermutation-filter_both, IsPermutation-map, IsPermutation-sym}
use Rattle.std.proofs.lemmas.List.{map-append}
use Rattle.scalar_expr.proofs.Bags.{permuted_from, permuted_to, filter_permuted, flat_map_permuted}
use Rattle.epoch_laws.specs.Stores.{IsWithin}

module _ {X : Type 0} where
  -- equal lists are permutations
  pub permuted_is : {xs ys : List X} → xs ≡ ys → IsPermutation xs ys
  permuted_is {xs} {ys} e = subst (λ zs. IsPermutation xs zs) e (IsPermutation-refl xs)

  -- the two in the middle change places
  pub swap_mid : (a b c : List X) → IsPermutation (a ++ (b ++ c)) (b ++ (a ++ c))
  swap_mid a b c =
      permuted_from (sym (append_assoc a b c)) (permuted_to (IsPermutation-append_left c (a ++ b) (b ++ a) (IsPermutation-append_comm a b)) (append_assoc b a c))

  -- the middle two of four lists may change places
  pub swap_four : (a b c d : List X) → IsPermutation ((a ++ b) ++ (c ++ d)) ((a ++ c) ++ (b ++ d))
  swap_four a b c d =
      permuted_from (append_assoc a b (c ++ d)) (permuted_to (IsPermutation-append_right a (b ++ (c ++ d)) (c ++ (b ++ d)) (swap_mid b c d)) (sym (append_assoc a c (b ++ d))))

  -- a list of no length is empty
  pub no_length : (xs : List X) → length xs ≤ 0 → xs ≡ []
  no_length [] h = refl
  no_length (x ∷ xs) h = absurd (omega arith)

  -- what is within a list that is within another is within that
  pub within_through : (xs ys zs : List X) → IsWithin xs ys → IsWithin ys zs → IsWithin xs zs
  within_through xs ys zs h g = (h.0 ++ g.0, permuted_from (sym (append_assoc xs h.0 g.0)) (IsPermutation-trans _ _ _ (IsPermutation-append_left g.0 (xs ++ h.0) ys h.1) g.1))

  -- a permutation of what lies within lies within
  pub within_permuted : (xs ys zs : List X) → IsPermutation xs ys → IsWithin ys zs → IsWithin xs zs
  within_permuted xs ys zs h g = (g.0, IsPermutation-trans _ _ _ (IsPermutation-append_left g.0 xs ys h) g.1)

  -- what lies within a list lies within its permutation
  pub within_to : (xs ys zs : List X) → IsWithin xs ys → IsPermutation ys zs → IsWithin xs zs
  within_to xs ys zs h g = (h.0, IsPermutation-trans _ _ _ h.1 g)

  -- a permutation lies within
  pub within_whole : (xs ys : List X) → IsPermutation xs ys → IsWithin xs ys
  within_whole xs ys h = ([], permuted_from (append-nil xs) h)

  -- what a test keeps of a list lies within it
  pub filter_inside : (test : X → Bool) (xs : List X) → IsWithin (filter test xs) xs
  filter_inside test xs = (filter (λ x. not (test x)) xs, IsPermutation-sym _ _ (IsPermutation-filter_both test (λ x. not (test x)) (λ _. refl) xs))

  -- and what it keeps of a list within another lies within what it keeps of that
  pub filter_within : (test : X → Bool) (xs ys : List X) → IsWithin xs ys → IsWithin (filter test xs) (filter test ys)
  filter_within test xs ys h = (filter test h.0, permuted_from (sym (filter-append test xs h.0)) (filter_permuted test (xs ++ h.0) ys h.1))

  -- two lists within two others
  pub append_within : (xs ys us vs : List X) → IsWithin xs ys → IsWithin us vs → IsWithin (xs ++ us) (ys ++ vs)
  append_within xs ys us vs h g = (h.0 ++ g.0, IsPermutation-trans _ _ _ (swap_four xs us h.0 g.0) (IsPermutation-append (xs ++ h.0) ys (us ++ g.0) vs h.1 g.1))

module _ {X Y : Type 0} where
  -- what items give lies within what those give among which they are
  pub flat_within : (f : X → List Y) (xs ys : List X) → IsWithin xs ys → IsWithin (flat_map f xs) (flat_map f ys)
  flat_within f xs ys h = (flat_map f h.0, permuted_from (sym (flat_map-append f xs h.0)) (flat_map_permuted f (xs ++ h.0) ys h.1))

  -- the images of what is within a list are within its images
  pub map_within : (f : X → Y) (xs ys : List X) → IsWithin xs ys → IsWithin (map f xs) (map f ys)
  map_within f xs ys h = (map f h.0, permuted_from (sym (map-append f xs h.0)) (IsPermutation-map f (xs ++ h.0) ys h.1))

  -- what each item gives in two parts
  pub flat_map_parts : (f g : X → List Y) (xs : List X) → IsPermutation (flat_map (λ x. f x ++ g x) xs) (flat_map f xs ++ flat_map g xs)
  flat_map_parts f g [] = IsPermutation-refl []
  flat_map_parts f g (x ∷ xs) =
      IsPermutation-trans _ _ _
      (IsPermutation-append_right (f x ++ g x) (flat_map (λ x. f x ++ g x) xs) (flat_map f xs ++ flat_map g xs) (flat_map_parts f g xs))
      (swap_four (f x) (g x) (flat_map f xs) (flat_map g xs))

  -- items that give the same bags
  pub flat_map_alike : (f g : X → List Y) (xs : List X) → All (λ x. IsPermutation (f x) (g x)) xs → IsPermutation (flat_map f xs) (flat_map g xs)
  flat_map_alike f g [] all = IsPermutation-refl []
  flat_map_alike f g (x ∷ xs) all =
      IsPermutation-append (f x) (g x) (flat_map f xs) (flat_map g xs) (first x xs all) (flat_map_alike f g xs (rest x xs all))
    where
      first : (x : X) (xs : List X) → All (λ x. IsPermutation (f x) (g x)) (x ∷ xs) → IsPermutation (f x) (g x)
      first x xs all = All-head (λ x. IsPermutation (f x) (g x)) x xs all

      rest : (x : X) (xs : List X) → All (λ x. IsPermutation (f x) (g x)) (x ∷ xs) → All (λ x. IsPermutation (f x) (g x)) xs
      rest x xs all = All-tail (λ x. IsPermutation (f x) (g x)) x xs all

  filter_map_flat : (f : X → Option Y) (xs : List X) → filter_map f xs ≡ flat_map (λ x. cons_option (f x) []) xs
  filter_map_flat f [] = refl
  filter_map_flat f (x ∷ xs) = go (filter_map_flat f xs) (f x)
    where
      go : filter_map f xs ≡ flat_map (λ x. cons_option (f x) []) xs → (o : Option Y) → cons_option o (filter_map f xs) ≡ cons_option o [] ++ flat_map (λ x. cons_option (f x) []) xs
      go rest None = rest
      go rest (Some y) = ap (λ ys. y ∷ ys) rest

  -- what is kept of a permutation is a permutation
  pub filter_map_permuted : (f : X → Option Y) (xs ys : List X) → IsPermutation xs ys → IsPermutation (filter_map f xs) (filter_map f ys)
  filter_map_permuted f xs ys h =
      permuted_from (filter_map_flat f xs) (permuted_to (flat_map_permuted (λ x. cons_option (f x) []) xs ys h) (sym (filter_map_flat f ys)))

  -- and what is kept of a list lies within what is kept of one among whose items it is
  pub filter_map_within : (f : X → Option Y) (xs ys : List X) → IsWithin xs ys → IsWithin (filter_map f xs) (filter_map f ys)
  filter_map_within f xs ys h = (filter_map f h.0, permuted_from (sym (filter_map-append f xs h.0)) (filter_map_permuted f (xs ++ h.0) ys h.1))
