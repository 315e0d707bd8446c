-- The walk along leftmost untaken reads.
use Rattle.std.proofs.Common.{◌≡◌, ◌≢◌, ◌∙◌, ℕ, zero, suc, ◌+◌, ◌<◌, List, [], ◌∷◌, ◌++◌, Bool, true, false, not, cond, ◌&&◌, ◌||◌, length, get_or, drop, refl, sym, ap, subst, inl, inr, arith, one-add}
use Rattle.std.specs.Prelude.{◌==◌, Some, None, slice_get, AllPairs}
use Rattle.std.specs.List.{find, list_all, position_or_len}
use Rattle.std.proofs.lemmas.Bool.{cases_Bool, not-false}
use Rattle.std.proofs.lemmas.List.Elements.{All-from_get_or}
use Rattle.std.proofs.lemmas.List.Sums.{list_all-from_AllPass}
use Rattle.resubscribe.specs.Cycle.{IsCycle, Walks, untaken_read}
use Rattle.resubscribe.specs.Order.{TakesQuery, first_ready, first_untaken, is_among, is_ready, is_untaken, reads_of}
use Rattle.resubscribe.proofs.FindLemmas.{found_below}
use Rattle.event_types.proofs.NumberLemmas.{same_number}

-- one more query of the walk
pub Walks-push : (reads : List (List ℕ)) (taken xs : List ℕ) (q n : ℕ) → Walks reads taken (xs ++ q ∷ []) → untaken_read reads taken q ≡ Some n → Walks reads taken ((xs ++ q ∷ []) ++ n ∷ [])
Walks-push reads taken [] q n walks next = (next, tt)
Walks-push reads taken (x ∷ []) q n walks next = (walks.0, (next, tt))
Walks-push reads taken (x ∷ y ∷ xs) q n walks next = (walks.0, Walks-push reads taken (y ∷ xs) q n walks.1 next)

-- the first of some numbers stays the first
pub front-push : (xs ys : List ℕ) (q : ℕ) → slice_get ((xs ++ q ∷ []) ++ ys) 0 ≡ slice_get (xs ++ q ∷ []) 0
front-push [] ys q = refl
front-push (x ∷ xs) ys q = refl

-- the first that passes, where those before it don't
pub find_at_place : (p : ℕ → Bool) (xs : List ℕ) (i : ℕ) → i < length xs → ((k : ℕ) → k < i → p (get_or xs k 0) ≡ false) → p (get_or xs i 0) ≡ true → find p xs ≡ Some (get_or xs i 0)
find_at_place p [] i within none passes = absurd (omega arith)
find_at_place p (x ∷ xs) zero within none passes = ap (λ b. cond b (Some x) (find p xs)) passes
find_at_place p (x ∷ xs) (suc i) within none passes =
    ap (λ b. cond b (Some x) (find p xs)) (none 0 (omega arith)) ∙ find_at_place p xs i (omega arith) (λ k less. none (suc k) (omega arith)) passes

-- a query whose reads are all taken would be ready
pub some_untaken : (reads : List (List ℕ)) (taken xs : List ℕ) (q : ℕ) → first_ready reads taken ≡ None → q < length reads → is_among taken q ≡ false → xs ≡ reads_of reads q
    → ((k : ℕ) → k < length xs → is_untaken taken (get_or xs k 0) ≡ false) → ⊥
some_untaken reads taken xs q stuck small untaken same none =
    let all : list_all (is_among taken) xs ≡ true = list_all-from_AllPass (is_among taken) xs (All-from_get_or (λ x. is_among taken x ≡ true) xs 0 (λ i within. not-false (is_among taken (get_or xs i 0)) (none i within))) in
    let ready : is_ready reads taken q ≡ true = ap (λ b. not b && list_all (is_among taken) (reads_of reads q)) untaken ∙ ap (list_all (is_among taken)) (sym same) ∙ all in
    let unready : is_ready reads taken q ≡ false = found_below (is_ready reads taken) (length reads) None stuck q (omega arith) small in
    cc

-- numbers cut at the first place of one that is among them
pub record CutAt (xs : List ℕ) (q : ℕ) : Type 0 where
  pub before : List ℕ
  pub between : List ℕ
  pub whole : xs ≡ before ++ q ∷ between
  pub rest : drop (position_or_len (λ other. q == other) xs) xs ≡ q ∷ between

-- numbers can be cut at one that is among them
pub cut_at : (xs : List ℕ) (q : ℕ) → is_among xs q ≡ true → CutAt xs q
cut_at [] q there = cc
cut_at (x ∷ xs) q there = elim (cases_Bool (q == x)) [
  | inl here ↦ let same : q ≡ x = same_number q x here in record {
    before = [];
    between = xs;
    whole = ap (λ y. y ∷ xs) (sym same);
    rest = ap (λ b. drop (cond (not b) (1 + position_or_len (λ other. q == other) xs) 0) (x ∷ xs)) here ∙ ap (λ y. y ∷ xs) (sym same);
  }
  | inr other ↦ let later : CutAt xs q = cut_at xs q (sym (ap (λ b. b || is_among xs q) other) ∙ there) in record {
    before = x ∷ later.before;
    between = later.between;
    whole = ap (λ ys. x ∷ ys) later.whole;
    rest = ap (λ b. drop (cond (not b) (1 + position_or_len (λ other. q == other) xs) 0) (x ∷ xs)) other ∙ ap (λ n. drop n (x ∷ xs)) (one-add (position_or_len (λ other. q == other) xs)) ∙ later.rest;
  }
]

-- the front of some numbers with one behind them
pub front-nonempty : (before between : List ℕ) (q r : ℕ) → slice_get ((before ++ q ∷ between) ++ r ∷ []) 0 ≡ slice_get (before ++ q ∷ between) 0
front-nonempty [] between q r = refl
front-nonempty (x ∷ before) between q r = refl

-- the walk that comes to one of its queries again has the cycle
pub IsCycle-from_walk : (reads : List (List ℕ)) (taken walk rest : List ℕ) (start q : ℕ) → TakesQuery reads [] taken → first_ready reads taken ≡ None → first_untaken reads taken ≡ Some start
    → Walks reads taken (walk ++ q ∷ []) → slice_get (walk ++ q ∷ []) 0 ≡ Some start → AllPairs (λ x y. x ≢ y) walk → is_among walk q ≡ true → rest ≡ drop (position_or_len (λ other. q == other) walk) walk → IsCycle reads rest
IsCycle-from_walk reads taken walk rest start q takes stuck first walks begins distinct there is_rest =
    let cut : CutAt walk q = cut_at walk q there in
    record {
      taken = taken;
      before = cut.before;
      repeated = q;
      between = cut.between;
      takes = takes;
      none_ready = stuck;
      begins = first ∙ sym begins ∙ ap (λ xs. slice_get (xs ++ q ∷ []) 0) cut.whole ∙ front-nonempty cut.before cut.between q q;
      walks = subst (λ (xs : List ℕ). Walks reads taken (xs ++ q ∷ [])) cut.whole walks;
      all_new = subst (λ (xs : List ℕ). AllPairs (λ x y. x ≢ y) xs) cut.whole distinct;
      is_rest = is_rest ∙ cut.rest;
    }
