-- States in buckets.
use Rattle.std.proofs.Common.{◌≡◌, ◌⊎◌, ◌∙◌, sym, ap, refl, inl, inr, subst, ℕ, ◌+◌, ◌-◌, ◌<◌, ◌≤◌, ◌==◌, ◌&&◌, Bool, true, false, cond, nat_eq, get_or, length, take, List, [], ◌∷◌, arith}
use Rattle.std.specs.Prelude.{Contains, Option, Some, None, Result, Ok, Err, count_by}
use Rattle.std.specs.List.{remove, swap_remove}
use Rattle.std.specs.HashMap.{HashMap}
use Rattle.std.specs.Option.{IfNone, unwrap_or}
use Rattle.std.specs.Result.{OnErr, OnOk, is_err}
use Rattle.std.proofs.lemmas.Bool.{cases_lt}
use Rattle.std.proofs.lemmas.List.{get_or_past, get_or-take, length-take}
use Rattle.automaton.specs.declared.line.Hop.{Hop}
use Rattle.automaton.specs.declared.network.End.{End}
use Rattle.automaton.specs.declared.network.Entrance.TheVariants as entrance
use Rattle.automaton.specs.Changes.{AddsEnd, AddsHop, AddsRoot, RemovesEnd, RemovesState}
use Rattle.automaton.specs.States.{Net, before_at, ends_at, entrance_at, entrance_in, is_used, state_at, tells}
use Rattle.automaton.proofs.ChangeLemmas.{ends_entry, nothing_there}
use Rattle.automaton.proofs.ClearedLemmas.{lost_entry}
use Rattle.automaton.proofs.CountLemmas.{bit, count-cons}
use Rattle.automaton.proofs.NumberLemmas.{are_same_or_not}
use Rattle.automaton.proofs.SlotLemmas.{edge_entry, end_entry}
use Rattle.event_types.proofs.NumberLemmas.{is_other, is_same, same_number}
use Rattle.prefix_merge.specs.Buckets.{AreInBuckets, IsPut, IsTakenFrom, IsTakenOut, bucket_at, copies_at, has_hash, hash_of}
use Rattle.prefix_merge.proofs.ContainLemmas.{first_in, later_in, sum_remove}

-- a test beside one that passes, and beside one that doesn't
both : (a b : Bool) → b ≡ true → bit (a && b) ≡ bit a
both true b passes = ap bit passes
both false b passes = refl

neither : (a b : Bool) → b ≡ false → bit (a && b) ≡ 0
neither true b fails = ap bit fails
neither false b fails = refl

-- how often a number stands in a list
abbrev pub copies : ℕ → List ℕ → ℕ
copies number numbers = count_by (λ n. n == number) numbers

-- a number that is counted stands there
pub counted_in : (number : ℕ) (numbers : List ℕ) → 1 ≤ copies number numbers → Contains numbers number
counted_in number [] more = absurd (omega (arith, more))
counted_in number (n ∷ numbers) more = go (counted_in number numbers) (n == number) refl
  where
    go : (1 ≤ copies number numbers → Contains numbers number) → (b : Bool) → (n == number) ≡ b → Contains (n ∷ numbers) number
    go rest true is = subst (Contains (n ∷ numbers)) (same_number n number is) (first_in n numbers)
    go rest false is =
        let counted = count-cons (λ m. m == number) n numbers in
        let none : bit (n == number) ≡ 0 = ap bit is in later_in n numbers number (rest (omega (arith, more, counted, none)))

-- where the number at a place is taken out, it stands there once less
pub one_less : (numbers : List ℕ) (place number n : ℕ) → place < length numbers → get_or numbers place n ≡ number → copies n (remove numbers place) ≡ copies n numbers - bit (number == n)
one_less numbers place number n inside here =
    let taken = sum_remove (λ m. bit (m == n)) numbers place n inside in
    let is : bit (get_or numbers place n == n) ≡ bit (number == n) = ap (λ m. bit (m == n)) here in omega (arith, taken, is)

-- a number that doesn't stand there is taken out of nothing
pub none_less : (numbers : List ℕ) (number n : ℕ) → copies number numbers ≡ 0 → copies n numbers ≡ copies n numbers - bit (number == n)
none_less numbers number n none = go (number == n) refl
  where
    go : (b : Bool) → (number == n) ≡ b → copies n numbers ≡ copies n numbers - bit (number == n)
    go true is = let zero : copies n numbers ≡ 0 = sym (ap (λ m. copies m numbers) (same_number number n is)) ∙ none in omega (arith, zero)
    go false is = let zero : bit (number == n) ≡ 0 = ap bit is in omega (arith, zero)

-- counts in buckets of which one changes as its list does
module _ (change : ℕ → Bool → ℕ) (same : (count : ℕ) → change count false ≡ count) where
  pub bucket_changed : (old new : ℕ → Option (List ℕ)) (hash number : ℕ) (with : Option (List ℕ)) → ((q : ℕ) → new q ≡ cond (nat_eq hash q) with (old q))
      → ((n : ℕ) → copies n (unwrap_or with []) ≡ change (copies n (unwrap_or (old hash) [])) (number == n)) → (q n : ℕ) → copies n (unwrap_or (new q) []) ≡ change (copies n (unwrap_or (old q) [])) (nat_eq hash q && number == n)
  bucket_changed old new hash number with updates changes q n = go (nat_eq hash q) refl
    where
      go : (b : Bool) → nat_eq hash q ≡ b → copies n (unwrap_or (new q) []) ≡ change (copies n (unwrap_or (old q) [])) (nat_eq hash q && number == n)
      go true is =
          ap (λ o. copies n (unwrap_or o [])) (updates q ∙ ap (λ b. cond b with (old q)) is) ∙ changes n
          ∙ (λ i. change (copies n (unwrap_or (old (same_number hash q is i)) [])) (sym is i && number == n))
      go false is =
          ap (λ o. copies n (unwrap_or o [])) (updates q ∙ ap (λ b. cond b with (old q)) is) ∙ sym (same (copies n (unwrap_or (old q) [])))
          ∙ (λ i. change (copies n (unwrap_or (old q) [])) (sym is i && number == n))

-- one more, where a test passes
abbrev pub one_more_if : ℕ → Bool → ℕ
one_more_if count b = count + bit b

-- one less, where it passes
abbrev pub one_less_if : ℕ → Bool → ℕ
one_less_if count b = count - bit b

-- where a state leaves, each other one is entered as before
pub left_entry : (number : ℕ) (old new : Net) → RemovesState number old new → (other : ℕ) → (other ≡ number → ⊥) → entrance_at new other ≡ entrance_at old other
left_entry number old new removes other ne = go (before_at old number) refl
  where
    by_number : (before : ℕ) → before_at old number ≡ Some before → (before ≡ other) ⊎ (before ≡ other → ⊥) → entrance_at new other ≡ entrance_at old other
    by_number before told (inl same) =
        ap (entrance_at new) (sym same) ∙ lost_entry number (state_at old before) (state_at new before) (removes.edge before told) ∙ ap (entrance_at old) same
    by_number before told (inr apart) = ap entrance_in (removes.others other ne (ap (tells other) told ∙ is_other before other apart))

    go : (o : Option ℕ) → before_at old number ≡ o → entrance_at new other ≡ entrance_at old other
    go None told = ap entrance_in (removes.others other ne (ap (tells other) told))
    go (Some before) told = by_number before told (are_same_or_not before other)

-- where a state leaves that was taken out of its bucket, the others are in theirs
pub buckets_less : {S : Type 0} (buckets less : HashMap ℕ (List ℕ) S) (number : ℕ) (old new : Net) → AreInBuckets buckets old → IsTakenFrom old number buckets less → RemovesState number old new → AreInBuckets less new
buckets_less buckets less number old new are taken removes hash n = by_number (are_same_or_not n number)
  where
    by_number : (n ≡ number) ⊎ (n ≡ number → ⊥) → copies_at less hash n ≡ bit (has_hash hash (entrance_at new n))
    by_number (inl same) =
        let was = are hash n in
        let less_one = taken hash n in
        let here : bit (has_hash hash (entrance_at old number) && number == n) ≡ bit (has_hash hash (entrance_at old n)) = (λ i. bit (has_hash hash (entrance_at old (sym same i)) && number == n)) ∙ both (has_hash hash (entrance_at old n)) (number == n) (is_same number n (sym same)) in
        let gone : bit (has_hash hash (entrance_at new n)) ≡ 0 = ap (λ m. bit (has_hash hash (entrance_at new m))) same ∙ ap (λ slot. bit (has_hash hash (entrance_in slot))) removes.here in
        omega (arith, was, less_one, here, gone)
    by_number (inr apart) =
        let was = are hash n in
        let less_one = taken hash n in
        let none : bit (has_hash hash (entrance_at old number) && number == n) ≡ 0 = neither (has_hash hash (entrance_at old number)) (number == n) (is_other number n (λ same. apart (sym same))) in
        let kept : bit (has_hash hash (entrance_at new n)) ≡ bit (has_hash hash (entrance_at old n)) = ap (λ e. bit (has_hash hash e)) (left_entry number old new removes n apart) in
        omega (arith, was, less_one, none, kept)

-- where a waiting state comes, each other one is entered as before
pub came_entry : (number before : ℕ) (hop : Hop) (old new : Net) → AddsHop number before hop old new → (other : ℕ) → (other ≡ number → ⊥) → entrance_at new other ≡ entrance_at old other
came_entry number before hop old new adds other ne = by_number (are_same_or_not other before)
  where
    by_number : (other ≡ before) ⊎ (other ≡ before → ⊥) → entrance_at new other ≡ entrance_at old other
    by_number (inl same) = ap (entrance_at new) same ∙ ap entrance_in adds.edge ∙ edge_entry number (state_at old before) ∙ ap (entrance_at old) (sym same)
    by_number (inr nb) = ap entrance_in (adds.others other ne nb)

-- where a state comes that was put into its bucket, each is in its own
pub buckets_more : {S : Type 0} (buckets more : HashMap ℕ (List ℕ) S) (number before : ℕ) (hop : Hop) (old new : Net) → AreInBuckets buckets old → is_used old number ≡ false
    → IsPut (hash_of before hop.step hop.wait) number buckets more → AddsHop number before hop old new → AreInBuckets more new
buckets_more buckets more number before hop old new are free put' adds hash n = by_number (are_same_or_not n number)
  where
    by_number : (n ≡ number) ⊎ (n ≡ number → ⊥) → copies_at more hash n ≡ bit (has_hash hash (entrance_at new n))
    by_number (inl same) =
        let was = are hash n in
        let one_more = put' hash n in
        let none : bit (has_hash hash (entrance_at old n)) ≡ 0 = ap (λ m. bit (has_hash hash (entrance_at old m))) same ∙ ap (λ slot. bit (has_hash hash (entrance_in slot))) (nothing_there (state_at old number) free) in
        let here : bit (hash_of before hop.step hop.wait == hash && number == n) ≡ bit (has_hash hash (entrance_at new n)) =
        both (hash_of before hop.step hop.wait == hash) (number == n) (is_same number n (sym same)) ∙ sym (ap (λ m. bit (has_hash hash (entrance_at new m))) same ∙ ap (λ slot. bit (has_hash hash (entrance_in slot))) adds.here) in
        omega (arith, was, one_more, none, here)
    by_number (inr apart) =
        let was = are hash n in
        let one_more = put' hash n in
        let none : bit (hash_of before hop.step hop.wait == hash && number == n) ≡ 0 = neither (hash_of before hop.step hop.wait == hash) (number == n) (is_other number n (λ same. apart (sym same))) in
        let kept : bit (has_hash hash (entrance_at new n)) ≡ bit (has_hash hash (entrance_at old n)) = ap (λ e. bit (has_hash hash e)) (came_entry number before hop old new adds n apart) in
        omega (arith, was, one_more, none, kept)

-- where each number has the hashes that it had, buckets stay as they are
same_hashes : {S : Type 0} (buckets : HashMap ℕ (List ℕ) S) (old new : Net) → AreInBuckets buckets old → ((hash n : ℕ) → has_hash hash (entrance_at new n) ≡ has_hash hash (entrance_at old n)) → AreInBuckets buckets new
same_hashes buckets old new are same hash n = are hash n ∙ ap bit (sym (same hash n))

-- where a root state comes
pub buckets_root : {S : Type 0} (buckets : HashMap ℕ (List ℕ) S) (number stream : ℕ) (old new : Net) → AreInBuckets buckets old → is_used old number ≡ false → AddsRoot number stream old new → AreInBuckets buckets new
buckets_root buckets number stream old new are free adds = same_hashes buckets old new are (λ hash n. by_number hash n (are_same_or_not n number))
  where
    by_number : (hash n : ℕ) → (n ≡ number) ⊎ (n ≡ number → ⊥) → has_hash hash (entrance_at new n) ≡ has_hash hash (entrance_at old n)
    by_number hash n (inl same) =
        ap (λ m. has_hash hash (entrance_at new m)) same ∙ ap (λ slot. has_hash hash (entrance_in slot)) adds.here
        ∙ sym (ap (λ m. has_hash hash (entrance_at old m)) same ∙ ap (λ slot. has_hash hash (entrance_in slot)) (nothing_there (state_at old number) free))
    by_number hash n (inr apart) = ap (λ slot. has_hash hash (entrance_in slot)) (adds.others n apart)

-- where one state is entered as before, and all others are the same
pub buckets_kept : {S : Type 0} (buckets : HashMap ℕ (List ℕ) S) (number : ℕ) (old new : Net) → AreInBuckets buckets old → entrance_at new number ≡ entrance_at old number
    → ((other : ℕ) → (other ≡ number → ⊥) → state_at new other ≡ state_at old other) → AreInBuckets buckets new
buckets_kept buckets number old new are here others = same_hashes buckets old new are (λ hash n. by_number hash n (are_same_or_not n number))
  where
    by_number : (hash n : ℕ) → (n ≡ number) ⊎ (n ≡ number → ⊥) → has_hash hash (entrance_at new n) ≡ has_hash hash (entrance_at old n)
    by_number hash n (inl same) = ap (λ m. has_hash hash (entrance_at new m)) same ∙ ap (has_hash hash) here ∙ sym (ap (λ m. has_hash hash (entrance_at old m)) same)
    by_number hash n (inr apart) = ap (λ slot. has_hash hash (entrance_in slot)) (others n apart)

-- where the last place goes, which no state has, each number has the same state
module _ (old : Net) (some : 0 < length old) (free : is_used old (length old - 1) ≡ false) where
  nothing_behind : (n : ℕ) → length old - 1 ≤ n → state_at old n ≡ None
  nothing_behind n past = go (are_same_or_not n (length old - 1))
    where
      go : (n ≡ length old - 1) ⊎ (n ≡ length old - 1 → ⊥) → state_at old n ≡ None
      go (inl same) = ap (state_at old) same ∙ nothing_there (state_at old (length old - 1)) free
      go (inr more) = get_or_past old n None (omega (arith, past, more, some))

  pub short_states : (n : ℕ) → state_at (take (length old - 1) old) n ≡ state_at old n
  short_states n = by_order (cases_lt n (length old - 1))
    where
      by_order : (n < length old - 1) ⊎ (length old - 1 ≤ n) → state_at (take (length old - 1) old) n ≡ state_at old n
      by_order (inl below) = get_or-take (length old - 1) old n None below
      by_order (inr past) = get_or_past (take (length old - 1) old) n None (let short = length-take (length old - 1) old in omega (arith, short, past)) ∙ sym (nothing_behind n past)

-- so buckets stay
pub buckets_shrunk : {S : Type 0} (buckets : HashMap ℕ (List ℕ) S) (old : Net) → AreInBuckets buckets old → 0 < length old → is_used old (length old - 1) ≡ false → AreInBuckets buckets (take (length old - 1) old)
buckets_shrunk buckets old are some free = same_hashes buckets old (take (length old - 1) old) are (λ hash n. ap (λ slot. has_hash hash (entrance_in slot)) (short_states old some free n))

-- a waiting state stands in the bucket of its hash
pub waiting_in : {S : Type 0} (buckets : HashMap ℕ (List ℕ) S) (net : Net) (number before : ℕ) (hop : Hop) → AreInBuckets buckets net → entrance_at net number ≡ Some (entrance.Waiting before hop) → Contains (bucket_at buckets (hash_of before hop.step hop.wait)) number
waiting_in buckets net number before hop are is =
    let hash = hash_of before hop.step hop.wait in
    let has : bit (has_hash hash (entrance_at net number)) ≡ 1 = ap (λ e. bit (has_hash hash e)) is ∙ ap bit (is_same hash hash refl) in
    let counted = are hash number in counted_in number (bucket_at buckets hash) (omega (arith, counted, has))

-- what is put into a bucket and taken out again
pub put_and_taken : {S : Type 0} (buckets more less : HashMap ℕ (List ℕ) S) (hash number : ℕ) (net : Net) → AreInBuckets buckets net → IsPut hash number buckets more → IsTakenOut hash number more less → AreInBuckets less net
put_and_taken buckets more less hash number net are put' taken other n =
    let was = are other n in
    let one_more = put' other n in
    let one_less = taken other n in omega (arith, was, one_more, one_less)

-- nothing is taken from a count
pub none_from : (count : ℕ) → one_less_if count false ≡ count
none_from count = omega arith

-- a number that was counted in no bucket is taken out of none
pub none_taken : {S : Type 0} (buckets : HashMap ℕ (List ℕ) S) (hash number : ℕ) → bucket_at buckets hash ≡ [] → IsTakenOut hash number buckets buckets
none_taken buckets hash number empty other n = go (nat_eq hash other) refl
  where
    go : (b : Bool) → nat_eq hash other ≡ b → copies_at buckets other n ≡ copies_at buckets other n - bit (nat_eq hash other && number == n)
    go true is = let zero : copies_at buckets other n ≡ 0 = sym (ap (λ q. copies_at buckets q n) (same_number hash other is)) ∙ ap (copies n) empty in omega (arith, zero)
    go false is = let none : bit (nat_eq hash other && number == n) ≡ 0 = ap (λ b. bit (b && number == n)) is in omega (arith, none)

-- whether a call gives a value or a fault
pub either_way : {T E P Q R : Type 0} (result : Result T E) → OnOk result P → OnErr result Q → (P → R) → (Q → R) → R
either_way (Ok value) ok err f g = f ok
either_way (Err fault) ok err f g = g err

-- a fault
pub failed : {T E P : Type 0} (result : Result T E) → is_err result ≡ true → OnErr result P → P
failed (Ok value) is err = absurd (let no : false ≡ true = is in cc)
failed (Err fault) is err = err

-- no fault
pub succeeded : {T E P : Type 0} (result : Result T E) → is_err result ≡ false → OnOk result P → P
succeeded (Ok value) is ok = ok
succeeded (Err fault) is ok = absurd (let no : true ≡ false = is in cc)

-- where an end comes, or didn't
pub buckets_end : {S : Type 0} (buckets : HashMap ℕ (List ℕ) S) (state : ℕ) (end : End) (old new : Net) → AreInBuckets buckets old → AddsEnd state end old new → AreInBuckets buckets new
buckets_end buckets state end old new are adds = buckets_kept buckets state old new are (ap entrance_in adds.here ∙ end_entry end (state_at old state)) adds.others

-- where one leaves
pub buckets_endless : {S : Type 0} (buckets : HashMap ℕ (List ℕ) S) (state place : ℕ) (old new : Net) → AreInBuckets buckets old → RemovesEnd state place old new → AreInBuckets buckets new
buckets_endless buckets state place old new are removes = buckets_kept buckets state old new are (ap entrance_in removes.here ∙ ends_entry (swap_remove (ends_at old state) place removes.gone) (state_at old state)) removes.others

-- where none of the states in the bucket of a hop is entered by it, none is
pub none_entered : {S : Type 0} (buckets : HashMap ℕ (List ℕ) S) (net : Net) (before hash : ℕ) (hop : Hop) (states : List ℕ) (found : Option ℕ) → AreInBuckets buckets net → hash ≡ hash_of before hop.step hop.wait → bucket_at buckets hash ≡ states
    → IfNone found ((next : ℕ) → Contains states next → entrance_at net next ≡ Some (entrance.Waiting before hop) → ⊥) → IfNone found ((next : ℕ) → entrance_at net next ≡ Some (entrance.Waiting before hop) → ⊥)
none_entered buckets net before hash hop states (Some next) are is in_bucket absent = absent
none_entered buckets net before hash hop states None are is in_bucket absent = λ next entered.
    absent next (subst (λ ns. Contains ns next) (ap (bucket_at buckets) (sym is) ∙ in_bucket) (waiting_in buckets net next before hop are entered)) entered
