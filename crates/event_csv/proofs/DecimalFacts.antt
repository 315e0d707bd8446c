-- The units of a decimal, by the digits before its point and those behind it.
use Rattle.std.proofs.Common.{◌≡◌, ◌∙◌, ℕ, zero, suc, ◌+◌, ◌*◌, ◌/◌, ◌-◌, ◌^◌, ◌≤◌, ◌<◌, Bool, true, false, List, [], ◌∷◌, ◌++◌, Option, Some, None, option_map, length, take, drop, get_or, refl, sym, ap, add-one, arith, cond, drop-cons, eqb-true, length-append}
use Rattle.std.specs.Prelude.{◌==◌, ◌&&◌, MatchOption, not, nat_le, replicate, if◌then◌else◌}
use Rattle.std.specs.Char.{digit_value, is_ascii_digit}
use Rattle.std.specs.List.{position_or_len}
use Rattle.std.specs.Option.{option_and_then}
use Rattle.std.specs.Str.Parse.{digits_value, digits_value_after}
use Rattle.std.proofs.Math.Nat.{pow-zero, pow-succ', pow-le-pow_right, one-le-pow, le-mul_of_pos_right, mul-le-mul_left}
use Rattle.std.proofs.lemmas.Bool.{le-leb, leb-false, lt-leb}
use Rattle.std.proofs.lemmas.List.{get_or-take, length-take, take-append-drop}
use Rattle.std.proofs.lemmas.List.Folds.{list_all-append}
use Rattle.std.proofs.lemmas.List.Sums.{fails_before_first, passes_at_first, position_or_len_is}
use Rattle.std.proofs.lemmas.Nat.{pow-add}
use Rattle.event_csv.specs.Decimals.{places_behind, units_up_to, with_all_places}
use Rattle.event_csv.specs.Numbers.{are_digits, number_up_to}

-- digits behind others go on with their value
pub value-append : (n : ℕ) (s t : List ℕ) → digits_value_after 10 n (s ++ t) ≡ digits_value_after 10 (digits_value_after 10 n s) t
value-append n [] t = refl
value-append n (b ∷ s) t = value-append (n * 10 + digit_value b) s t

-- a number before digits counts by their places, by induction on the digits
pub value-places : (n : ℕ) (s : List ℕ) → digits_value_after 10 n s ≡ n * 10 ^ length s + digits_value 10 s
value-places n [] = omega (arith, ap (λ p. n * p) (pow-zero 10))
value-places n (b ∷ s) =
    omega (arith, value-places (n * 10 + digit_value b) s, value-places (0 * 10 + digit_value b) s, ap (λ p. n * p) (pow-succ' 10 (length s)))

-- zeros behind a number make a power of ten times it
pub value-zeros : (n k : ℕ) → digits_value_after 10 n (replicate k 48) ≡ n * 10 ^ k
value-zeros n zero = omega (arith, ap (λ p. n * p) (pow-zero 10))
value-zeros n (suc k) = omega (arith, value-zeros (n * 10 + 0) k, ap (λ p. n * p) (pow-succ' 10 k))

-- zeros are digits
pub digits-zeros : (k : ℕ) → are_digits (replicate k 48) ≡ true
digits-zeros zero = refl
digits-zeros (suc k) = digits-zeros k

-- the value of digits before a point and behind it, with zeros for the missing places
value-parts : (front behind : List ℕ) (k : ℕ)
    → digits_value 10 (front ++ (behind ++ replicate k 48)) ≡ digits_value 10 front * 10 ^ (length behind + k) + digits_value 10 behind * 10 ^ k
value-parts front behind k =
    let whole = value-append 0 front (behind ++ replicate k 48) ∙ value-append (digits_value 10 front) behind (replicate k 48) in
    let zeros = value-zeros (digits_value_after 10 (digits_value 10 front) behind) k in
    let shifted = ap (λ n. n * 10 ^ k) (value-places (digits_value 10 front) behind) in
    let power = ap (λ p. digits_value 10 front * p) (pow-add 10 (length behind) k) in
    grind (arith, whole, zeros, shifted, power)

-- without a point all places are zeros, by induction on the digits
pub places-none : (places : ℕ) (s : List ℕ) → position_or_len (λ b. b == 46) s ≡ length s → with_all_places places s ≡ Some (s ++ replicate places 48)
places-none places [] h = refl
places-none places (b ∷ s) h = by (b == 46) h (λ k. places-none places s k)
  where
    by : (d : Bool) → cond (not d) (1 + position_or_len (λ b. b == 46) s) 0 ≡ suc (length s)
        → (position_or_len (λ b. b == 46) s ≡ length s → with_all_places places s ≡ Some (s ++ replicate places 48))
        → (if d then places_behind places s else option_map (λ digits. b ∷ digits) (with_all_places places s)) ≡ Some (b ∷ (s ++ replicate places 48))
    by true k more = absurd (omega arith)
    by false k more = rw (more (omega arith)) refl

-- digits and a point stand before the places behind it, by induction on the digits
pub places-point : (places : ℕ) (s behind : List ℕ) → position_or_len (λ b. b == 46) s ≡ length s
    → with_all_places places (s ++ 46 ∷ behind) ≡ option_map (λ digits. s ++ digits) (places_behind places behind)
places-point places [] behind h = same (places_behind places behind)
  where
    same : (found : Option (List ℕ)) → found ≡ option_map (λ digits. digits) found
    same None = refl
    same (Some digits) = refl
places-point places (b ∷ s) behind h = by (b == 46) h (λ k. places-point places s behind k)
  where
    onto : (found : Option (List ℕ)) → option_map (λ digits. b ∷ digits) (option_map (λ digits. s ++ digits) found) ≡ option_map (λ digits. b ∷ (s ++ digits)) found
    onto None = refl
    onto (Some digits) = refl

    by : (d : Bool) → cond (not d) (1 + position_or_len (λ b. b == 46) s) 0 ≡ suc (length s)
        → (position_or_len (λ b. b == 46) s ≡ length s → with_all_places places (s ++ 46 ∷ behind) ≡ option_map (λ digits. s ++ digits) (places_behind places behind))
        → (if d then places_behind places (s ++ 46 ∷ behind) else option_map (λ digits. b ∷ digits) (with_all_places places (s ++ 46 ∷ behind)))
        ≡ option_map (λ digits. b ∷ (s ++ digits)) (places_behind places behind)
    by true k more = absurd (omega arith)
    by false k more = rw (more (omega arith)) (onto (places_behind places behind))

-- one more zero behind a number
pub zero-more : (n k : ℕ) → n * 10 ^ (k + 1) ≡ n * 10 ^ k * 10
zero-more n k = grind (arith, ap (λ p. n * p) (pow-succ' 10 k), add-one)

-- a number past `most` with one zero more is past it with further ones
pub zeros-past : (most n i k : ℕ) → most / 10 < n * 10 ^ i → i < k → most < n * 10 ^ k
zeros-past most n i k past fewer =
    let power : 10 ^ (i + 1) ≤ 10 ^ k = pow-le-pow_right {n = 10} (omega arith) {i = i + 1} {j = k} (omega (arith, fewer)) in
    omega (arith, past, zero-more n i, mul-le-mul_left n power)

-- no point stands before the first one
pub none-before : (s : List ℕ) (i : ℕ) → i ≡ position_or_len (λ b. b == 46) s → i < length s → position_or_len (λ b. b == 46) (take i s) ≡ length (take i s)
none-before s i first within =
    let many : length (take i s) ≡ i = omega (arith, length-take i s, within) in
    position_or_len_is (λ b. b == 46) (take i s) (length (take i s)) 0 (omega arith)
    (λ k lt. let before : k < i = omega (arith, many, lt) in rw (get_or-take i s k 0 before) (fails_before_first (λ b. b == 46) s k 0 (omega (arith, first, before))))
    (λ lt. absurd (omega arith))

-- the first point stands between what is before it and what is behind it
pub around-point : (s : List ℕ) (i : ℕ) → i ≡ position_or_len (λ b. b == 46) s → i < length s → take i s ++ 46 ∷ drop (i + 1) s ≡ s
around-point s i first within =
    let lt : position_or_len (λ b. b == 46) s < length s = omega (arith, first, within) in
    let here : get_or s i 0 ≡ 46 = rw first (eqb-true _ _ (passes_at_first (λ b. b == 46) s 0 lt)) in
    let rest : drop i s ≡ 46 ∷ drop (i + 1) s = rw (drop-cons s i 0, here, add-one) refl in
    rw (← rest) (take-append-drop i s)

-- a number with so many zeros behind it, where that is at most `most`
abbrev pub times_at_most : ℕ → ℕ → Option ℕ → Option ℕ
times_at_most most p None = None
times_at_most most p (Some x) = if nat_le (x * p) most then Some (x * p) else None

-- two numbers, each with so many zeros behind it, where their sum is at most `most`
abbrev pub sum_at_most : ℕ → ℕ → ℕ → Option ℕ → Option ℕ → Option ℕ
sum_at_most most p q None y = None
sum_at_most most p q (Some x) None = None
sum_at_most most p q (Some x) (Some y) = if nat_le (x * p + y * q) most then Some (x * p + y * q) else None

-- the number of a test of digits, where it is at most `most`
abbrev number_by : Bool → ℕ → ℕ → Option ℕ
number_by test most x = if test && nat_le x most then Some x else None

-- a number with zeros behind it is at most `most` only where the number is
times-by : (test : Bool) (most x p : ℕ) → 1 ≤ p → number_by test most (x * p) ≡ times_at_most most p (number_by test most x)
times-by false most x p some = refl
times-by true most x p some = by (nat_le x most) refl
  where
    by : (d : Bool) → nat_le x most ≡ d → number_by true most (x * p) ≡ times_at_most most p (if d then Some x else None)
    by true e = refl
    by false e = rw (lt-leb (x * p) most (omega (arith, leb-false x most e, le-mul_of_pos_right {m = p} x some))) refl

-- so is the sum of two
sum-by : (front behind : Bool) (most x y p q : ℕ) → 1 ≤ p → 1 ≤ q
    → number_by (front && behind) most (x * p + y * q) ≡ sum_at_most most p q (number_by front most x) (number_by behind most y)
sum-by false behind most x y p q some more = refl
sum-by true false most x y p q some more = by (nat_le x most)
  where
    by : (d : Bool) → None ≡ sum_at_most most p q (if d then Some x else None) None
    by true = refl
    by false = refl
sum-by true true most x y p q some more = by (nat_le x most) (nat_le y most) refl refl
  where
    by : (d e : Bool) → nat_le x most ≡ d → nat_le y most ≡ e → number_by true most (x * p + y * q) ≡ sum_at_most most p q (if d then Some x else None) (if e then Some y else None)
    by true true d e = refl
    by false f d e = rw (lt-leb (x * p + y * q) most (omega (arith, leb-false x most d, le-mul_of_pos_right {m = p} x some))) refl
    by true false d e = rw (lt-leb (x * p + y * q) most (omega (arith, leb-false y most e, le-mul_of_pos_right {m = q} y more))) refl

-- the test of the digits of a number
abbrev is_number : List ℕ → Bool
is_number digits = nat_le 1 (length digits) && are_digits digits

-- a number is at most `most` by the test of its digits
number-by : (most : ℕ) (digits : List ℕ) → number_up_to most digits ≡ number_by (is_number digits) most (digits_value 10 digits)
number-by most digits = by (nat_le 1 (length digits)) (are_digits digits)
  where
    by : (a b : Bool) → (if a && (b && nat_le (digits_value 10 digits) most) then Some (digits_value 10 digits) else None) ≡ number_by (a && b) most (digits_value 10 digits)
    by true b = refl
    by false b = refl

-- whether bytes are digits, some at least
some-digits : (s : List ℕ) → 1 ≤ length s → is_number s ≡ are_digits s
some-digits s some = rw (le-leb 1 (length s) some) refl

and-true : (b : Bool) → (b && true) ≡ b
and-true true = refl
and-true false = refl

-- digits with zeros behind them are a number where the digits are
number-zeros : (s : List ℕ) (k : ℕ) → 1 ≤ length s → is_number (s ++ replicate k 48) ≡ is_number s
number-zeros s k some =
    let long : 1 ≤ length (s ++ replicate k 48) = omega (arith, length-append s (replicate k 48), some) in
    some-digits (s ++ replicate k 48) long
    ∙ rw (list_all-append is_ascii_digit s (replicate k 48), digits-zeros k, and-true (are_digits s)) (sym (some-digits s some))

-- so are digits behind digits
number-append : (s t : List ℕ) → 1 ≤ length s → 1 ≤ length t → is_number (s ++ t) ≡ (is_number s && is_number t)
number-append s t some more =
    let long : 1 ≤ length (s ++ t) = omega (arith, length-append s t, some) in
    some-digits (s ++ t) long ∙ rw (some-digits s some, some-digits t more) (list_all-append is_ascii_digit s t)

ten-power : (k : ℕ) → 1 ≤ 10 ^ k
ten-power k = one-le-pow k 10 (omega arith)

-- the number of digits with zeros behind them
number-times : (most k : ℕ) (s : List ℕ) → 1 ≤ length s → number_up_to most (s ++ replicate k 48) ≡ times_at_most most (10 ^ k) (number_up_to most s)
number-times most k s some =
    let value = value-append 0 s (replicate k 48) ∙ value-zeros (digits_value 10 s) k in
    number-by most (s ++ replicate k 48)
    ∙ rw (number-zeros s k some, value) (times-by (is_number s) most (digits_value 10 s) (10 ^ k) (ten-power k))
    ∙ ap (times_at_most most (10 ^ k)) (sym (number-by most s))

-- the number of digits before a point and behind it, with zeros for the missing places
number-parts : (most k : ℕ) (front behind : List ℕ) → 1 ≤ length front → 1 ≤ length behind
    → number_up_to most (front ++ (behind ++ replicate k 48)) ≡ sum_at_most most (10 ^ (length behind + k)) (10 ^ k) (number_up_to most front) (number_up_to most behind)
number-parts most k front behind some more =
    let long : 1 ≤ length (behind ++ replicate k 48) = omega (arith, length-append behind (replicate k 48), more) in
    let test : is_number (front ++ (behind ++ replicate k 48)) ≡ (is_number front && is_number behind) =
    number-append front (behind ++ replicate k 48) some long ∙ ap (λ t. is_number front && t) (number-zeros behind k more) in
    number-by most (front ++ (behind ++ replicate k 48))
    ∙ rw (test, value-parts front behind k)
    (sum-by (is_number front) (is_number behind) most (digits_value 10 front) (digits_value 10 behind) (10 ^ (length behind + k)) (10 ^ k) (ten-power (length behind + k)) (ten-power k))
    ∙ ap (λ x. sum_at_most most (10 ^ (length behind + k)) (10 ^ k) x (number_by (is_number behind) most (digits_value 10 behind))) (sym (number-by most front))
    ∙ ap (sum_at_most most (10 ^ (length behind + k)) (10 ^ k) (number_up_to most front)) (sym (number-by most behind))

-- what begins with no point is read by its digits
units-digit : (most places b : ℕ) (s t : List ℕ) → position_or_len (λ c. c == 46) (b ∷ s) ≡ length (b ∷ s)
    → units_up_to most places (b ∷ t) ≡ option_and_then (number_up_to most) (with_all_places places (b ∷ t))
units-digit most places b s t none = by (b == 46) none (option_and_then (number_up_to most) (with_all_places places (b ∷ t)))
  where
    by : (d : Bool) → cond (not d) (1 + position_or_len (λ c. c == 46) s) 0 ≡ suc (length s) → (x : Option ℕ) → (if d then None else x) ≡ x
    by true k x = absurd (omega arith)
    by false k x = refl

-- the units of digits without a point
pub units-whole : (most places : ℕ) (s : List ℕ) → position_or_len (λ b. b == 46) s ≡ length s → units_up_to most places s ≡ times_at_most most (10 ^ places) (number_up_to most s)
units-whole most places [] none = refl
units-whole most places (b ∷ s) none =
    units-digit most places b s s none ∙ ap (option_and_then (number_up_to most)) (places-none places (b ∷ s) none) ∙ number-times most places (b ∷ s) (omega arith)

-- digits with a point between them are read as the digits with zeros for the missing places
pub units-digits : (most places : ℕ) (s behind : List ℕ) → position_or_len (λ b. b == 46) s ≡ length s → 1 ≤ length s → 1 ≤ length behind → length behind ≤ places
    → units_up_to most places (s ++ 46 ∷ behind) ≡ number_up_to most (s ++ (behind ++ replicate (places - length behind) 48))
units-digits most places [] behind none some more few = absurd (omega arith)
units-digits most places (b ∷ s) behind none some more few =
    let k : ℕ = places - length behind in
    let all : places_behind places behind ≡ Some (behind ++ replicate k 48) = rw (le-leb 1 (length behind) more, le-leb (length behind) places few) refl in
    units-digit most places b s (s ++ 46 ∷ behind) none
    ∙ ap (option_and_then (number_up_to most)) (places-point places (b ∷ s) behind none ∙ ap (option_map (λ digits. (b ∷ s) ++ digits)) all)

-- the units of digits with a point between them
pub units-parts : (most places : ℕ) (s behind : List ℕ) → position_or_len (λ b. b == 46) s ≡ length s → length behind ≤ places
    → units_up_to most places (s ++ 46 ∷ behind) ≡ sum_at_most most (10 ^ places) (10 ^ (places - length behind)) (number_up_to most s) (number_up_to most behind)
units-parts most places [] behind none few = refl
units-parts most places (b ∷ s) [] none few = read ∙ no-part (number_up_to most (b ∷ s))
  where
    read : units_up_to most places ((b ∷ s) ++ 46 ∷ []) ≡ None
    read = units-digit most places b s (s ++ 46 ∷ []) none ∙ ap (option_and_then (number_up_to most)) (places-point places (b ∷ s) [] none)

    no-part : (x : Option ℕ) → None ≡ sum_at_most most (10 ^ places) (10 ^ (places - 0)) x None
    no-part None = refl
    no-part (Some x) = refl
units-parts most places (b ∷ s) (c ∷ t) none few =
    let front : List ℕ = b ∷ s in
    let behind : List ℕ = c ∷ t in
    let k : ℕ = places - length behind in
    let all : length behind + k ≡ places = omega (arith, few) in
    units-digits most places front behind none (omega arith) (omega arith) few
    ∙ number-parts most k front behind (omega arith) (omega arith)
    ∙ ap (λ n. sum_at_most most (10 ^ n) (10 ^ k) (number_up_to most front) (number_up_to most behind)) all

-- there are no units where too many places stand behind the point
pub units-too_many : (most places : ℕ) (s behind : List ℕ) → position_or_len (λ b. b == 46) s ≡ length s → places < length behind → units_up_to most places (s ++ 46 ∷ behind) ≡ None
units-too_many most places [] behind none many = refl
units-too_many most places (b ∷ s) behind none many =
    let none_left : places_behind places behind ≡ None = rw (lt-leb (length behind) places many, and-false (nat_le 1 (length behind))) refl in
    units-digit most places b s (s ++ 46 ∷ behind) none
    ∙ ap (option_and_then (number_up_to most)) (places-point places (b ∷ s) behind none ∙ ap (option_map (λ digits. (b ∷ s) ++ digits)) none_left)
  where
    and-false : (d : Bool) → (d && false) ≡ false
    and-false true = refl
    and-false false = refl

-- no number with zeros is at most `most` where none is read
pub times-none : (most p : ℕ) (f : Option ℕ) → f ≡ None → times_at_most most p f ≡ None
times-none most p f none = rw none refl

-- and else it is the number with the zeros, unless that is past `most`
pub times-some : (most p x : ℕ) (f r : Option ℕ) → f ≡ Some x → MatchOption r (most < x * p) (λ found. (found ≡ x * p) × (found ≤ most)) → r ≡ times_at_most most p f
times-some most p x f None is past = rw (is, lt-leb (x * p) most past) refl
times-some most p x f (Some found) is fits = rw (is, le-leb (x * p) most (omega (arith, fits))) (ap Some fits.0)

-- no sum is at most `most` where the first number isn't read
pub sum-none : (most p q : ℕ) (f g : Option ℕ) → f ≡ None → sum_at_most most p q f g ≡ None
sum-none most p q f g none = rw none refl

-- nor where the second isn't
pub sum-none_behind : (most p q : ℕ) (f g : Option ℕ) → g ≡ None → sum_at_most most p q f g ≡ None
sum-none_behind most p q None g none = refl
sum-none_behind most p q (Some x) g none = rw none refl

-- nor where both are past `most` together
pub sum-past : (most p q x y : ℕ) (f g : Option ℕ) → f ≡ Some x → g ≡ Some y → most < x * p + y * q → sum_at_most most p q f g ≡ None
sum-past most p q x y f g is too past = rw (is, too, lt-leb (x * p + y * q) most past) refl

-- nor where the first one is
pub sum-past_first : (most p q x : ℕ) (f g : Option ℕ) → f ≡ Some x → most < x * p → sum_at_most most p q f g ≡ None
sum-past_first most p q x f None is past = sum-none_behind most p q f None refl
sum-past_first most p q x f (Some y) is past = sum-past most p q x y f (Some y) is refl (omega (arith, past))

-- and else it is their sum
pub sum-some : (most p q x y : ℕ) (f g : Option ℕ) → f ≡ Some x → g ≡ Some y → x * p + y * q ≤ most → sum_at_most most p q f g ≡ Some (x * p + y * q)
sum-some most p q x y f g is too fits = rw (is, too, le-leb (x * p + y * q) most fits) refl
