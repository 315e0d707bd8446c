-- Targets and conditions that stand side by side.
use Rattle.std.proofs.Common.{◌≡◌, ◌∙◌, sym, ap, refl, ℕ, zero, suc, ◌+◌, ◌<◌, ◌≤◌, false, cond, nat_lt, length, get_or, take, List, [], ◌∷◌, ◌++◌, map, append_assoc, arith}
use Rattle.std.specs.Prelude.{Contains, Option, Some, slice_get}
use Rattle.std.specs.List.{All, range_with_len}
use Rattle.std.proofs.lemmas.Bool.Decides.{nat_tests}
use Rattle.std.specs.List.Sorted.{IsPermutation}
use Rattle.std.proofs.lemmas.List.Sorted.{IsPermutation-append_left, IsPermutation-trans}
use Rattle.scalar_expr.proofs.Bags.{permuted_to}
use Rattle.std.proofs.lemmas.List.{map-append, take_more}
use Rattle.std.proofs.lemmas.Simd.{map-map}
use Rattle.std.proofs.lemmas.List.Elements.{All-cons, All-contains, All-head, All-nil, All-tail}
use Rattle.static_index.specs.Conditions.{Condition, ids_of, with_condition}
use Rattle.automaton.specs.States.{Net, edges_at, ends_at}
use Rattle.automaton.specs.declared.network.End.{End}
use Rattle.stream_readers.specs.Filing.{Filed, filed_to}
use Rattle.stream_readers.specs.Targets.{end_at, end_by, step_of, targets_at}
use Rattle.stream_readers.specs.Ways.{first_parts}
use Rattle.stream_readers.specs.declared.target.Target.TheVariants.{Edge}

-- one number more of a range
pub range_more : (a n : ℕ) → range_with_len a (n + 1) ≡ range_with_len a n ++ (a + n) ∷ []
range_more a zero = ap (λ k. k ∷ []) (let e : a ≡ a + 0 = omega arith in e)
range_more a (suc n) =
    ap (range_with_len a) (let e : suc n + 1 ≡ suc (n + 1) = omega arith in e) ∙ ap (λ xs. a ∷ xs) (range_more (a + 1) n)
    ∙ ap (λ k. a ∷ (range_with_len (a + 1) n ++ k ∷ [])) (let e : (a + 1) + n ≡ a + suc n = omega arith in e)

-- and of one from 0
pub numbers_more : (n : ℕ) → range_with_len 0 (n + 1) ≡ range_with_len 0 n ++ n ∷ []
numbers_more n = range_more 0 n ∙ ap (λ k. range_with_len 0 n ++ k ∷ []) (let e : 0 + n ≡ n = omega arith in e)

-- each number of a range is below its end
pub range_below : (a n m : ℕ) → a + n ≤ m → All (λ k. k < m) (range_with_len a n)
range_below a zero m le = All-nil (λ (k : ℕ). k < m)
range_below a (suc n) m le = All-cons (λ (k : ℕ). k < m) a (range_with_len (a + 1) n) (omega arith) (range_below (a + 1) n m (omega arith))

-- what is below a number isn't it
pub all_below : (n : ℕ) (xs : List ℕ) → All (λ k. k < n) xs → Contains xs n → ⊥
all_below n xs below there = let same : n < n = All-contains (λ (k : ℕ). k < n) xs n below there in absurd (omega arith)

-- a condition above all others comes last
pub with_last : (condition : Condition) (conditions : List Condition) → All (λ k. k < condition.id) (ids_of conditions) → with_condition condition conditions ≡ conditions ++ condition ∷ []
with_last condition [] below = refl
with_last condition (first ∷ rest) below =
    let one : first.id < condition.id = All-head (λ (k : ℕ). k < condition.id) first.id (ids_of rest) below in
    ap (λ b. cond b (condition ∷ first ∷ rest) (first ∷ with_condition condition rest)) (past one) ∙ ap (λ cs. first ∷ cs) (with_last condition rest (All-tail (λ (k : ℕ). k < condition.id) first.id (ids_of rest) below))
  where
    past : {m n : ℕ} → n < m → nat_lt m n ≡ false
    past {m} {n} lt = grind (arith, nat_tests)

-- the item behind the first ones of a list
pub at_seam : {X : Type 0} (before after : List X) (x : X) → slice_get (before ++ x ∷ after) (length before) ≡ Some x
at_seam [] after x = refl
at_seam (y ∷ before) after x = at_seam before after x

module _ {X : Type 0} where
  -- one item more behind those that came to a bag
  pub pushed_on : (old ys now new : List X) (x : X) → IsPermutation now (old ++ ys) → IsPermutation new (now ++ x ∷ []) → IsPermutation new (old ++ (ys ++ x ∷ []))
  pushed_on old ys now new x was is =
      IsPermutation-trans new (now ++ x ∷ []) (old ++ (ys ++ x ∷ [])) is (permuted_to (IsPermutation-append_left (x ∷ []) now (old ++ ys) was) (append_assoc old ys (x ∷ [])))

-- one item more that comes of a list
pub mapped_more : {X Y : Type 0} (f : X → Y) (xs : List X) (i : ℕ) (d : X) (old now new : List Y) → i < length xs → IsPermutation now (old ++ map f (take i xs)) → IsPermutation new (now ++ f (get_or xs i d) ∷ []) → IsPermutation new (old ++ map f (take (i + 1) xs))
mapped_more f xs i d old now new lt was is =
    permuted_to (pushed_on old (map f (take i xs)) now new (f (get_or xs i d)) was is)
    (ap (λ ys. old ++ ys) (sym (ap (map f) (take_more xs i d lt) ∙ map-append f (take i xs) (get_or xs i d ∷ []))))

-- one end more
pub ends_more : (net : Net) (number place : ℕ) (end : End) (old now new : List Filed) → slice_get (ends_at net number) place ≡ Some end → IsPermutation now (old ++ map (λ place. filed_to net (end_at net number place)) (range_with_len 0 place))
    → IsPermutation new (now ++ record { target = end_by number place end.step; parts = first_parts end.step } ∷ []) → IsPermutation new (old ++ map (λ place. filed_to net (end_at net number place)) (range_with_len 0 (place + 1)))
ends_more net number place end old now new here was is =
    let filed : ℕ → Filed = λ place. filed_to net (end_at net number place) in
    permuted_to
    (pushed_on old (map filed (range_with_len 0 place)) now new (filed place) was
    (permuted_to is (ap (λ (o : Option End). now ++ record { target = end_by number place (step_of o); parts = first_parts (step_of o) } ∷ []) (sym here))))
    (ap (λ ys. old ++ ys) (sym (ap (map filed) (numbers_more place) ∙ map-append filed (range_with_len 0 place) (place ∷ []))))

-- the edges and the ends of a root
pub both_added : (net : Net) (number : ℕ) (old now new : List Filed) → IsPermutation now (old ++ map (λ state. filed_to net (Edge state)) (edges_at net number))
    → IsPermutation new (now ++ map (λ place. filed_to net (end_at net number place)) (range_with_len 0 (length (ends_at net number)))) → IsPermutation new (old ++ map (filed_to net) (targets_at net number))
both_added net number old now new one two =
    let edges = edges_at net number in
    let places = range_with_len 0 (length (ends_at net number)) in
    let ends = map (λ place. filed_to net (end_at net number place)) places in
    let ways = map (λ state. filed_to net (Edge state)) edges in
    permuted_to (IsPermutation-trans new (now ++ ends) ((old ++ ways) ++ ends) two (IsPermutation-append_left ends now (old ++ ways) one))
    (append_assoc old ways ends
    ∙ ap (λ fs. old ++ fs)
    (sym (map-append (filed_to net) (map Edge edges) (map (end_at net number) places)
    ∙ ap (λ fs. fs ++ map (filed_to net) (map (end_at net number) places)) (map-map (filed_to net) Edge edges)
    ∙ ap (λ fs. ways ++ fs) (map-map (filed_to net) (end_at net number) places))))
