-- The tuples of the last time and those before it, and the nexts among both.
use Rattle.std.proofs.Common.{◌≡◌, ◌∙◌, sym, ap, refl, ℕ, ◌≤◌, ◌==◌, Bool, true, false, ◌&&◌, cond, nat_le, nat_lt, List, [], ◌∷◌, arith}
use Rattle.std.specs.Prelude.{Some}
use Rattle.std.specs.List.{All, filter}
use Rattle.std.proofs.lemmas.Bool.Decides.{nat_tests}
use Rattle.std.proofs.lemmas.List.Elements.{filter_agree, All-head, All-tail, All-filter}
use Rattle.event_types.specs.Tuple.{TupleView, IsSound}
use Rattle.semantics.specs.Scalars.{Pr}
use Rattle.semantics.specs.Truth.{all_true}
use Rattle.semantics.specs.Nexts.{is_eligible, is_earliest, earliest, nexts}
use Rattle.semantics.proofs.ListLemmas.{filter_swap}
use Rattle.scalar_expr.proofs.NextsLemmas.{nexts_keep}
use Rattle.automaton.specs.Waiting.{is_empty, waits}
use Rattle.epoch_laws.specs.Times.{before, during, IsPast}
use Rattle.epoch_laws.proofs.Lists.{and-true, and-false, filter-filter, filter_none}

-- tests of one time
pub now_or : (time at : ℕ) → at ≤ time → nat_lt at time ≡ false → (at == time) ≡ true
now_or time at h e = grind (arith, nat_tests)

-- what is before a time isn't at it
pub not_now : (time at : ℕ) → nat_lt at time ≡ true → (at == time) ≡ false
not_now time at e = grind (arith, nat_tests)

-- what passes the test is at the time
pub is_now : (time at : ℕ) → (at == time) ≡ true → at ≡ time
is_now time at e = grind (arith, nat_tests)

-- what doesn't isn't
pub not_less : (time at : ℕ) → nat_lt at time ≡ false → time ≤ at
not_less time at e = grind (arith, nat_tests)

-- a list that is empty has no items
pub empty_is : (xs : List TupleView) → is_empty xs ≡ true → xs ≡ []
empty_is [] e = refl
empty_is (x ∷ xs) e = cc

-- no tuple is before the time: all are at it
pub all_now : (time : ℕ) (xs : List TupleView) → All (IsPast time) xs → before time xs ≡ [] → during time xs ≡ xs
all_now time [] all e = refl
all_now time (x ∷ xs) all e = go (all_now time xs (All-tail (IsPast time) x xs all)) (nat_lt x.at time) refl e
  where
    go : (before time xs ≡ [] → during time xs ≡ xs) → (b : Bool) → nat_lt x.at time ≡ b → cond b (x ∷ before time xs) (before time xs) ≡ [] → during time (x ∷ xs) ≡ x ∷ xs
    go rest true t e = absurd (cc)
    go rest false t e =
        ap (λ b. cond b (x ∷ during time xs) (during time xs)) (now_or time x.at (All-head (IsPast time) x xs all).1 t) ∙ ap (λ ys. x ∷ ys) (rest e)

-- where nothing is at the time, all is before it
pub all_old : (time : ℕ) (xs : List TupleView) → All (IsPast time) xs → during time xs ≡ [] → before time xs ≡ xs
all_old time [] all e = refl
all_old time (x ∷ xs) all e = go (all_old time xs (All-tail (IsPast time) x xs all)) (nat_lt x.at time) refl
  where
    go : (during time xs ≡ [] → before time xs ≡ xs) → (b : Bool) → nat_lt x.at time ≡ b → cond b (x ∷ before time xs) (before time xs) ≡ x ∷ xs
    go rest true t =
        let none : during time xs ≡ [] = sym (ap (λ b. cond b (x ∷ during time xs) (during time xs)) (not_now time x.at t)) ∙ e in
        ap (λ ys. x ∷ ys) (rest none)
    go rest false t =
        let no : x ∷ during time xs ≡ [] = sym (ap (λ b. cond b (x ∷ during time xs) (during time xs)) (now_or time x.at (All-head (IsPast time) x xs all).1 t)) ∙ e in
        absurd (cc)

-- a list has no tuple where it has none at the time and none before it
pub nil_cut : (time : ℕ) (xs : List TupleView) → All (IsPast time) xs → is_empty xs ≡ (is_empty (before time xs) && is_empty (during time xs))
nil_cut time [] all = refl
nil_cut time (x ∷ xs) all = go (nat_lt x.at time) refl
  where
    go : (b : Bool) → nat_lt x.at time ≡ b → false ≡ (is_empty (cond b (x ∷ before time xs) (before time xs)) && is_empty (during time (x ∷ xs)))
    go true t = refl
    go false t =
        sym (and-false (is_empty (before time xs)))
        ∙ ap (λ b. is_empty (before time xs) && is_empty (cond b (x ∷ during time xs) (during time xs))) (sym (now_or time x.at (All-head (IsPast time) x xs all).1 t))

-- a tuple of the last time comes first where none is before that time
first_at_end : (time : ℕ) (r : TupleView) → (r.at == time) ≡ true → (xs : List TupleView) → All (IsPast time) xs → is_earliest xs r ≡ is_empty (before time xs)
first_at_end time r e [] all = refl
first_at_end time r e (x ∷ xs) all = go (first_at_end time r e xs (All-tail (IsPast time) x xs all)) (nat_lt x.at time) refl
  where
    go : is_earliest xs r ≡ is_empty (before time xs) → (b : Bool) → nat_lt x.at time ≡ b → (nat_le r.at x.at && is_earliest xs r) ≡ is_empty (cond b (x ∷ before time xs) (before time xs))
    go rest true t = let no : nat_le r.at x.at ≡ false = grind (arith, nat_tests) in ap (λ b. b && is_earliest xs r) no
    go rest false t = let yes' : nat_le r.at x.at ≡ true = grind (arith, nat_tests) in ap (λ b. b && is_earliest xs r) yes' ∙ rest

-- the earliest are at the time where none is before it
pub during_firsts : (time : ℕ) (xs : List TupleView) → All (IsPast time) xs → during time (earliest xs) ≡ cond (is_empty (before time xs)) (during time xs) []
during_firsts time xs all =
    filter-filter (λ r. r.at == time) (is_earliest xs) xs
    ∙ filter_agree (λ r. is_earliest xs r && (r.at == time)) (λ r. is_empty (before time xs) && (r.at == time)) (λ r. go r (r.at == time) refl) xs
    ∙ last (is_empty (before time xs))
  where
    go : (r : TupleView) (b : Bool) → (r.at == time) ≡ b → (is_earliest xs r && b) ≡ (is_empty (before time xs) && b)
    go r true e = ap (λ t. t && true) (first_at_end time r e xs all)
    go r false e = and-false (is_earliest xs r) ∙ sym (and-false (is_empty (before time xs)))

    last : (b : Bool) → filter (λ r. b && (r.at == time)) xs ≡ cond b (during time xs) []
    last true = refl
    last false = filter_none xs

-- some tuple comes first
least_at : (a b : ℕ) → nat_le a b ≡ false → nat_le b a ≡ true
least_at a b e = grind (arith, nat_tests)

le_through : (a b c : ℕ) → nat_le a b ≡ true → nat_le b c ≡ true → nat_le a c ≡ true
le_through a b c e f = grind (arith, nat_tests)

le_itself : (a : ℕ) → nat_le a a ≡ true
le_itself a = grind (arith, nat_tests)

and_parts : (a b : Bool) → (a && b) ≡ true → (a ≡ true) × (b ≡ true)
and_parts true b e = (refl, e)
and_parts false b e = absurd (cc)

first_lower : (a b : TupleView) → nat_le a.at b.at ≡ true → (xs : List TupleView) → is_earliest xs b ≡ true → is_earliest xs a ≡ true
first_lower a b e [] h = refl
first_lower a b e (x ∷ xs) h =
    let both = and_parts (nat_le b.at x.at) (is_earliest xs b) h in
    λ i. le_through a.at b.at x.at e both.0 i && first_lower a b e xs both.1 i

-- a tuple that comes first, so that each test that it passes leaves a tuple
record First (x : TupleView) (xs : List TupleView) : Type 0 where
  row : TupleView
  first : is_earliest (x ∷ xs) row ≡ true
  there : (test : TupleView → Bool) → test row ≡ true → is_empty (filter test (x ∷ xs)) ≡ false

first_of_all : (x : TupleView) (xs : List TupleView) → First x xs
first_of_all x [] = record { row = x; first = ap (λ b. b && true) (le_itself x.at); there = λ test e. ap (λ b. is_empty (cond b (x ∷ []) [])) e }
first_of_all x (y ∷ ys) = go (first_of_all y ys)
  where
    go : First y ys → First x (y ∷ ys)
    go f = choose (nat_le f.row.at x.at) refl
      where
        choose : (b : Bool) → nat_le f.row.at x.at ≡ b → First x (y ∷ ys)
        choose true e = record {
          row = f.row;
          first = λ i. e i && f.first i;
          there = λ test t. more test (f.there test t) (test x);
        }
          where
            more : (test : TupleView → Bool) → is_empty (filter test (y ∷ ys)) ≡ false → (b : Bool) → is_empty (cond b (x ∷ filter test (y ∷ ys)) (filter test (y ∷ ys))) ≡ false
            more test e true = refl
            more test e false = e
        choose false e = record {
          row = x;
          first = λ i. le_itself x.at i && first_lower x f.row (least_at f.row.at x.at e) (y ∷ ys) f.first i;
          there = λ test t. ap (λ b. is_empty (cond b (x ∷ filter test (y ∷ ys)) (filter test (y ∷ ys)))) t;
        }

-- there are earliest where there are any
pub nil_firsts : (xs : List TupleView) → is_empty (earliest xs) ≡ is_empty xs
nil_firsts [] = refl
nil_firsts (x ∷ xs) = let f = first_of_all x xs in f.there (is_earliest (x ∷ xs)) f.first

-- the nexts of one binding
pub waits_is : (p : List Pr) (rs : List TupleView) (b : TupleView) → waits p rs b ≡ is_empty (filter (is_eligible p b) rs)
waits_is p rs b = nil_firsts (filter (is_eligible p b) rs)

-- the nexts at a time are those that are eligible where the binding waited until then
pub during_nexts : (time : ℕ) (p : List Pr) (b : TupleView) (rs : List TupleView) → All (IsPast time) rs → during time (nexts p b rs) ≡ cond (waits p (before time rs) b) (filter (is_eligible p b) (during time rs)) []
during_nexts time p b rs all =
    during_firsts time (filter (is_eligible p b) rs) (All-filter (is_eligible p b) (IsPast time) rs all)
    ∙ (λ i. cond (is_empty (filter_swap (λ r. nat_lt r.at time) (is_eligible p b) rs i)) (filter_swap (λ r. r.at == time) (is_eligible p b) rs i) [])
    ∙ ap (λ t. cond t (filter (is_eligible p b) (during time rs)) []) (sym (waits_is p (before time rs) b))

-- a binding waits on where none of the epoch is eligible
pub waits_cut : (time : ℕ) (p : List Pr) (b : TupleView) (rs : List TupleView) → All (IsPast time) rs → waits p rs b ≡ (waits p (before time rs) b && is_empty (filter (is_eligible p b) (during time rs)))
waits_cut time p b rs all =
    waits_is p rs b
    ∙ nil_cut time (filter (is_eligible p b) rs) (All-filter (is_eligible p b) (IsPast time) rs all)
    ∙ (λ i. is_empty (filter_swap (λ r. nat_lt r.at time) (is_eligible p b) rs i) && is_empty (filter_swap (λ r. r.at == time) (is_eligible p b) rs i))
    ∙ ap (λ t. t && is_empty (filter (is_eligible p b) (during time rs))) (sym (waits_is p (before time rs) b))

-- later tuples don't matter to whether an early one comes first
first_before : (time : ℕ) (r : TupleView) → nat_lt r.at time ≡ true → (rs : List TupleView) → is_earliest rs r ≡ is_earliest (before time rs) r
first_before time r e [] = refl
first_before time r e (s ∷ rs) = go (first_before time r e rs) (nat_lt s.at time) refl
  where
    go : is_earliest rs r ≡ is_earliest (before time rs) r → (b : Bool) → nat_lt s.at time ≡ b → (nat_le r.at s.at && is_earliest rs r) ≡ is_earliest (cond b (s ∷ before time rs) (before time rs)) r
    go rest true _ = ap (λ b. nat_le r.at s.at && b) rest
    go rest false late =
        let t : nat_le r.at s.at ≡ true = grind (arith, nat_tests) in
        ap (λ b. b && is_earliest rs r) t ∙ rest

before_firsts : (time : ℕ) (rs : List TupleView) → before time (earliest rs) ≡ earliest (before time rs)
before_firsts time rs =
    filter-filter (λ r. nat_lt r.at time) (is_earliest rs) rs
    ∙ filter_agree (λ r. is_earliest rs r && nat_lt r.at time) (λ r. nat_lt r.at time && is_earliest (before time rs) r) (λ r. go r (nat_lt r.at time) refl) rs
    ∙ sym (filter-filter (is_earliest (before time rs)) (λ r. nat_lt r.at time) rs)
  where
    go : (r : TupleView) (b : Bool) → nat_lt r.at time ≡ b → (is_earliest rs r && b) ≡ (b && is_earliest (before time rs) r)
    go r true e = and-true (is_earliest rs r) ∙ first_before time r e rs
    go r false e = and-false (is_earliest rs r)

-- the nexts before a time are those among the tuples before it
pub before_nexts : (time : ℕ) (p : List Pr) (b : TupleView) (rs : List TupleView) → before time (nexts p b rs) ≡ nexts p b (before time rs)
before_nexts time p b rs = before_firsts time (filter (is_eligible p b) rs) ∙ ap earliest (filter_swap (λ r. nat_lt r.at time) (is_eligible p b) rs)

-- of the tuples before a time none is eligible for a binding of that time
pub none_early : (time : ℕ) (p : List Pr) (b : TupleView) → time ≤ b.at → (rs : List TupleView) → All IsSound rs → filter (is_eligible p b) (before time rs) ≡ []
none_early time p b late [] all = refl
none_early time p b late (r ∷ rs) all = go (none_early time p b late rs (All-tail IsSound r rs all)) (nat_lt r.at time) refl
  where
    go : filter (is_eligible p b) (before time rs) ≡ [] → (t : Bool) → nat_lt r.at time ≡ t → filter (is_eligible p b) (cond t (r ∷ before time rs) (before time rs)) ≡ []
    go rest true e =
        let sound : r.from ≤ r.at = All-head IsSound r rs all in
        let no : nat_lt b.at r.from ≡ false = grind (arith, nat_tests) in
        ap (λ t. cond (t && all_true p r (Some b)) (r ∷ filter (is_eligible p b) (before time rs)) (filter (is_eligible p b) (before time rs))) no ∙ rest
    go rest false e = rest

-- where a binding waited before, its nexts are the is_eligible tuples of the last time
pub nexts_now : (time : ℕ) (p : List Pr) (b : TupleView) (rs : List TupleView) → All (IsPast time) rs → waits p (before time rs) b ≡ true → nexts p b rs ≡ filter (is_eligible p b) (during time rs)
nexts_now time p b rs all e =
    sym (all_now time (nexts p b rs) (nexts_keep (IsPast time) p b rs all) (before_nexts time p b rs ∙ empty_is (nexts p b (before time rs)) e))
    ∙ during_nexts time p b rs all
    ∙ ap (λ t. cond t (filter (is_eligible p b) (during time rs)) []) e

-- where it didn't, they are those that it had before
pub nexts_then : (time : ℕ) (p : List Pr) (b : TupleView) (rs : List TupleView) → All (IsPast time) rs → waits p (before time rs) b ≡ false → nexts p b rs ≡ nexts p b (before time rs)
nexts_then time p b rs all e =
    sym (all_old time (nexts p b rs) (nexts_keep (IsPast time) p b rs all) (during_nexts time p b rs all ∙ ap (λ t. cond t (filter (is_eligible p b) (during time rs)) []) e))
    ∙ before_nexts time p b rs

-- no tuple is is_eligible for a binding of the last time
pub none_now : (time : ℕ) (p : List Pr) (b : TupleView) → time ≤ b.at → (rs : List TupleView) → All (IsPast time) rs → filter (is_eligible p b) rs ≡ []
none_now time p b late [] all = refl
none_now time p b late (r ∷ rs) all =
    let past : IsPast time r = All-head (IsPast time) r rs all in
    ap (λ t. cond (t && all_true p r (Some b)) (r ∷ filter (is_eligible p b) rs) (filter (is_eligible p b) rs)) (no_less r past.0 past.1) ∙ none_now time p b late rs (All-tail (IsPast time) r rs all)
  where
    no_less : (r : TupleView) → r.from ≤ r.at → r.at ≤ time → nat_lt b.at r.from ≡ false
    no_less r h g = grind (arith, nat_tests)

-- a binding of the time still waits
pub waits_now : (time : ℕ) (p : List Pr) (b : TupleView) → time ≤ b.at → (rs : List TupleView) → All (IsPast time) rs → waits p rs b ≡ true
waits_now time p b late rs all = waits_is p rs b ∙ ap is_empty (none_now time p b late rs all)
