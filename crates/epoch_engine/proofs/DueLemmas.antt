-- Printed streams that are due, in the order of their turns.
use Rattle.std.proofs.Common.{◌≡◌, ◌∙◌, sym, ap, refl, subst, inl, inr, ℕ, suc, ◌<◌, ◌≤◌, ◌≢◌, ◌⊎◌, Bool, true, false, cond, eqb, nat_lt, length, get_or, List, [], ◌∷◌, map, arith}
use Rattle.std.specs.Prelude.{Contains}
use Rattle.std.specs.List.{All, AllPairs, filter, flat_map}
use Rattle.std.specs.List.Sorted.{IsNonDecreasingBy, IsPermutation}
use Rattle.std.proofs.lemmas.Bool.{cases_lt, cases_order, lt-ltb, ltb-true}
use Rattle.std.proofs.lemmas.Bool.Decides.{Decides-eqb}
use Rattle.std.proofs.lemmas.List.{get_or-map, get_or_default, length-map, map-id}
use Rattle.std.proofs.lemmas.List.Elements.{All-cons, All-map, All-nil, Contains-get_or}
use Rattle.std.proofs.lemmas.List.Kept.{AllPairs-filter}
use Rattle.std.proofs.lemmas.List.Sorted.{All-permutation, Contains-permutation, IsPermutation-map}
use Rattle.std.proofs.lemmas.Simd.{map-map}
use Rattle.std.proofs.lemmas.Map.Keys.{IsDistinct-IsPermutation}
use Rattle.std.proofs.lemmas.Map.Made.{AllPairs-from_IsDistinct, IsDistinct-from_AllPairs}
use Rattle.epoch_draft.specs.Turns.{HaveTurns, turn_of}
use Rattle.epoch_draft.specs.declared.turns.Turns.{Turns}
use Rattle.epoch_engine.specs.Prints.{OthersHaveNone, due_of, is_printed}
use Rattle.epoch_engine.specs.declared.listing.Due.{Due}
use Rattle.epoch_engine.proofs.PrintedLemmas.{has_one}
use Rattle.epoch_engine.proofs.RiseLemmas.{first_or_behind, some_for_all}

-- a number that passes a test is among those that do
in_filter : (test : ℕ → Bool) (xs : List ℕ) (n : ℕ) → test n ≡ true → Contains xs n → Contains (filter test xs) n
in_filter test [] n passes here = absurd (let less = here.1 in omega (arith, less))
in_filter test (x ∷ xs) n passes here = go (test x) refl (first_or_behind x xs n here) (in_filter test xs n passes)
  where
    go : (b : Bool) → test x ≡ b → (n ≡ x) ⊎ Contains xs n → (Contains xs n → Contains (filter test xs) n) → Contains (cond b (x ∷ filter test xs) (filter test xs)) n
    go true is (inl same) rest = (0, omega arith, sym same)
    go true is (inr behind) rest = (let more = rest behind in (suc more.0, (let less = more.1 in omega (arith, less)), more.2))
    go false is (inl same) rest = absurd (let no : true ≡ false = sym passes ∙ ap test same ∙ is in cc)
    go false is (inr behind) rest = rest behind

-- and passes it
filter_passes : (test : ℕ → Bool) (xs : List ℕ) → All (λ n. test n ≡ true) (filter test xs)
filter_passes test [] = All-nil (λ n. test n ≡ true)
filter_passes test (x ∷ xs) = go (test x) refl (filter_passes test xs)
  where
    go : (b : Bool) → test x ≡ b → All (λ n. test n ≡ true) (filter test xs) → All (λ n. test n ≡ true) (cond b (x ∷ filter test xs) (filter test xs))
    go true is rest = All-cons (λ n. test n ≡ true) x (filter test xs) is rest
    go false is rest = rest

-- equality is the same from both sides
flips : (m n : ℕ) → eqb m n ≡ eqb n m
flips m n = grind arith

-- the streams that are due, each of which is listed once, in the order of the turns that they have among the printed ones
module _ (outs due : List ℕ) (turns : Turns) (noted sorted : List Due) (have : HaveTurns outs turns) (others : OthersHaveNone outs turns) (once : AllPairs (λ s t. s ≢ t) due)
    (are : noted ≡ map (due_of turns) (filter (is_printed turns) due)) (same : IsPermutation noted sorted) (rise : IsNonDecreasingBy (λ (d : Due). d.turn) sorted) where
  abbrev printed : List ℕ
  printed = filter (is_printed turns) due

  abbrev streams : List ℕ
  streams = map (λ (d : Due). d.stream) sorted

  -- they are the printed ones of these
  permuted : IsPermutation printed streams
  permuted =
      subst (λ (xs : List ℕ). IsPermutation xs streams) (ap (map (λ (d : Due). d.stream)) are ∙ map-map (λ (d : Due). d.stream) (due_of turns) printed ∙ map-id printed)
      (IsPermutation-map (λ (d : Due). d.stream) noted sorted same)

  -- each has the turn that is noted
  turned : All (λ (d : Due). d.turn ≡ turn_of turns d.stream) sorted
  turned =
      All-permutation (λ (d : Due). d.turn ≡ turn_of turns d.stream) noted sorted same
      (subst (All (λ (d : Due). d.turn ≡ turn_of turns d.stream)) (sym are) (All-map (λ (d : Due). d.turn ≡ turn_of turns d.stream) (due_of turns) printed (λ k d lt. refl)))

  -- and is one that is printed
  pub among : All (Contains outs) streams
  among = All-permutation (Contains outs) printed streams permuted (λ k d lt. here (get_or printed k d) (filter_passes (is_printed turns) due k d lt) (others (get_or printed k d)))
    where
      here : (s : ℕ) → nat_lt 0 (turn_of turns s) ≡ true → (turn_of turns s ≡ 0) ⊎ Contains outs s → Contains outs s
      here s some (inl none) = absurd (let above = ltb-true 0 (turn_of turns s) some in omega (arith, above, none))
      here s some (inr there) = there

  -- two that have one turn are one
  one_turn : (s t : ℕ) → Contains outs s → Contains outs t → turn_of turns s ≡ turn_of turns t → s ≡ t
  one_turn s t (k, inside, is) (l, within, too) equal = go (cases_order k l)
    where
      at : get_or outs l s ≡ t
      at = get_or_default outs l s t within ∙ too

      go : (k ≡ l) ⊎ ((k < l) ⊎ (l < k)) → s ≡ t
      go (inl e) = sym is ∙ ap (λ (m : ℕ). get_or outs m s) e ∙ at
      go (inr (inl less)) = absurd (let above = have.rise k l s less within in let one = ap (turn_of turns) is in let other = ap (turn_of turns) at in omega (arith, above, one, other, equal))
      go (inr (inr less)) = absurd (let above = have.rise l k s less inside in let one = ap (turn_of turns) is in let other = ap (turn_of turns) at in omega (arith, above, one, other, equal))

  -- no two are one
  apart : AllPairs (λ s t. s ≢ t) streams
  apart =
      AllPairs-from_IsDistinct Decides-eqb streams
      (IsDistinct-IsPermutation eqb flips printed streams permuted (IsDistinct-from_AllPairs Decides-eqb printed (AllPairs-filter (λ s t. s ≢ t) (is_printed turns) due once)))

  -- so their turns rise
  pub rises : AllPairs (λ s t. turn_of turns s < turn_of turns t) streams
  rises i j d less lt = go (cases_lt (turn_of turns (get_or streams i d)) (turn_of turns (get_or streams j d)))
    where
      many : length streams ≡ length sorted
      many = length-map sorted (λ (e : Due). e.stream)

      noted_at : (k : ℕ) → k < length streams → (get_or sorted k (due_of turns d)).turn ≡ turn_of turns (get_or streams k d)
      noted_at k inside =
          turned k (due_of turns d) (omega (arith, inside, many)) ∙ ap (turn_of turns) (sym (get_or-map (λ (e : Due). e.stream) sorted k (due_of turns d) d (omega (arith, inside, many))))

      go : (turn_of turns (get_or streams i d) < turn_of turns (get_or streams j d)) ⊎ (turn_of turns (get_or streams j d) ≤ turn_of turns (get_or streams i d)) → turn_of turns (get_or streams i d) < turn_of turns (get_or streams j d)
      go (inl above) = above
      go (inr below) =
          absurd
          (let one = noted_at i (omega (arith, less, lt)) in
          let other = noted_at j lt in
          let up = rise i j (due_of turns d) (omega (arith, less)) (omega (arith, lt, many)) in
          apart i j d less lt (one_turn (get_or streams i d) (get_or streams j d) (is_out i (omega (arith, less, lt))) (is_out j lt) (omega (arith, one, other, up, below))))
        where
          is_out : (k : ℕ) → k < length streams → Contains outs (get_or streams k d)
          is_out k inside = among k d inside

  -- what is joined of them is joined of all that are printed, where the others that are printed have nothing
  pub all_joined : {X : Type 0} (has : ℕ → List X) → ((s : ℕ) → (has s ≡ []) ⊎ Contains due s) → flat_map has streams ≡ flat_map has outs
  all_joined has none = some_for_all has (turn_of turns) outs streams have.rise rises among (λ k d lt. go (get_or outs k d) (Contains-get_or outs k d lt) (none (get_or outs k d)))
    where
      go : (s : ℕ) → Contains outs s → (has s ≡ []) ⊎ Contains due s → (has s ≡ []) ⊎ Contains streams s
      go s here (inl is) = inl is
      go s here (inr due_too) = inr (Contains-permutation printed streams s permuted (in_filter (is_printed turns) due s (lt-ltb 0 (turn_of turns s) (has_one outs turns s have here)) due_too))
