-- The least detection time of some tuples.
use Rattle.std.proofs.Common.{◌≡◌, ◌∙◌, sym, ap, refl, ℕ, ◌<◌, ◌+◌, append-nil, get_or, length, take, nat_le, Bool, true, false, ◌&&◌, cond, List, [], ◌∷◌, ◌++◌, arith}
use Rattle.std.specs.Prelude.{Option, Some, None}
use Rattle.std.specs.List.{filter, list_all}
use Rattle.std.proofs.lemmas.Bool.Decides.{nat_tests}
use Rattle.std.proofs.lemmas.List.{take_more}
use Rattle.std.proofs.lemmas.List.Elements.{filter_agree, filter-append}
use Rattle.event_types.specs.Tuple.{TupleView}
use Rattle.semantics.specs.Nexts.{is_earliest, is_eligible}
use Rattle.semantics.specs.Scalars.{Pr}
use Rattle.semantics.proofs.ListLemmas.{filter-filter}
use Rattle.derivations.specs.DerivedTuples.{DerivedTuple, derived_earliest, derived_eligible, derived_nexts, tuples_in}
use Rattle.derivations.specs.Earliest.{least_at, lesser_if, lesser_of, up_to_least}

-- a time is at most the lesser of two exactly where it is at most both
least_splits : (time other at : ℕ) → nat_le time (cond (nat_le other at) other at) ≡ (nat_le time at && nat_le time other)
least_splits time other at = grind (arith, nat_tests)

-- a time is at most all exactly where it is at most the least
pub all_from : (time least : ℕ) (found : List DerivedTuple) → least_at found ≡ Some least → list_all (λ (other : TupleView). nat_le time other.at) (tuples_in found) ≡ nat_le time least
all_from time least [] is = absurd (let none : None ≡ Some least = is in cc)
all_from time least (x ∷ found) is = go (least_at found) refl (ap some_or is) (λ l same. all_from time l found same)
  where
    some_or : Option ℕ → ℕ
    some_or None = 0
    some_or (Some n) = n

    all : Bool
    all = list_all (λ (other : TupleView). nat_le time other.at) (tuples_in found)

    go : (o : Option ℕ) → least_at found ≡ o → lesser_of (least_at found) x.tuple.at ≡ least → ((l : ℕ) → least_at found ≡ Some l → all ≡ nat_le time l) → (nat_le time x.tuple.at && all) ≡ nat_le time least
    go None same noted rest = none found same ∙ ap (nat_le time) (sym (ap (λ o. lesser_of o x.tuple.at) same) ∙ noted)
      where
        none : (ys : List DerivedTuple) → least_at ys ≡ None → (nat_le time x.tuple.at && list_all (λ (other : TupleView). nat_le time other.at) (tuples_in ys)) ≡ nat_le time x.tuple.at
        none [] e = and_true (nat_le time x.tuple.at)
          where
            and_true : (b : Bool) → (b && true) ≡ b
            and_true true = refl
            and_true false = refl
        none (y ∷ ys) e = absurd (let no : Some (lesser_of (least_at ys) y.tuple.at) ≡ None = e in cc)
    go (Some l) same noted rest =
        ap (λ b. nat_le time x.tuple.at && b) (rest l same) ∙ sym (least_splits time l x.tuple.at) ∙ ap (nat_le time) (sym (ap (λ o. lesser_of o x.tuple.at) same) ∙ noted)

-- so the earliest ones are those that are detected by the least time
pub earliest_by : (least : ℕ) (found : List DerivedTuple) → least_at found ≡ Some least → up_to_least least found ≡ derived_earliest found
earliest_by least found is = filter_agree (λ x. nat_le x.tuple.at least) (λ x. is_earliest (tuples_in found) x.tuple) (λ x. sym (all_from x.tuple.at least found is)) found

-- and there are none where there is no time
pub earliest_none : (found : List DerivedTuple) → least_at found ≡ None → derived_earliest found ≡ []
earliest_none [] is = refl
earliest_none (x ∷ found) is = absurd (let no : Some (lesser_of (least_at found) x.tuple.at) ≡ None = is in cc)

-- one more tuple at the end is noted last
pub least_at-push : (found : List DerivedTuple) (x : DerivedTuple) → least_at (found ++ x ∷ []) ≡ Some (lesser_of (least_at found) x.tuple.at)
least_at-push [] x = refl
least_at-push (y ∷ found) x = ap (λ o. Some (lesser_of o y.tuple.at)) (least_at-push found x) ∙ ap Some (swapped (least_at found))
  where
    swapped : (o : Option ℕ) → lesser_of (Some (lesser_of o x.tuple.at)) y.tuple.at ≡ lesser_of (Some (lesser_of o y.tuple.at)) x.tuple.at
    swapped None = two x.tuple.at y.tuple.at
      where
        two : (m n : ℕ) → cond (nat_le m n) m n ≡ cond (nat_le n m) n m
        two m n = grind (arith, nat_tests)
    swapped (Some l) = three l x.tuple.at y.tuple.at
      where
        three : (l m n : ℕ) → cond (nat_le (cond (nat_le l m) l m) n) (cond (nat_le l m) l m) n ≡ cond (nat_le (cond (nat_le l n) l n) m) (cond (nat_le l n) l n) m
        three l m n = grind (arith, nat_tests)

-- one more tuple is noted where it is eligible
pub noted_step : (p : List Pr) (b : TupleView) (found : List DerivedTuple) (i : ℕ) (x : DerivedTuple) (first : Option ℕ) → i < length found → x ≡ get_or found i x → first ≡ least_at (derived_eligible p b (take i found))
    → lesser_if (is_eligible p b x.tuple) first x.tuple.at ≡ least_at (derived_eligible p b (take (i + 1) found))
noted_step p b found i x first lt is so =
    go (is_eligible p b x.tuple)
    ∙ ap least_at (sym (ap (derived_eligible p b) (take_more found i x lt ∙ ap (λ y. take i found ++ y ∷ []) (sym is)) ∙ filter-append (λ (y : DerivedTuple). is_eligible p b y.tuple) (take i found) (x ∷ [])))
  where
    go : (test : Bool) → lesser_if test first x.tuple.at ≡ least_at (derived_eligible p b (take i found) ++ cond test (x ∷ []) [])
    go true = ap (λ o. Some (lesser_of o x.tuple.at)) so ∙ sym (least_at-push (derived_eligible p b (take i found)) x)
    go false = so ∙ ap least_at (sym (append-nil (derived_eligible p b (take i found))))

-- so the nexts are the eligible ones that are detected by the least time
pub nexts_by : (p : List Pr) (b : TupleView) (found : List DerivedTuple) (time : ℕ) → least_at (derived_eligible p b found) ≡ Some time
    → filter (λ (x : DerivedTuple). is_eligible p b x.tuple && nat_le x.tuple.at time) found ≡ derived_nexts p b found
nexts_by p b found time is = sym (filter-filter (λ (x : DerivedTuple). nat_le x.tuple.at time) (λ (x : DerivedTuple). is_eligible p b x.tuple) found) ∙ earliest_by time (derived_eligible p b found) is
