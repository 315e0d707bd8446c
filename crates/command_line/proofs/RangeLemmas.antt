-- The numbers that words write are in their ranges.
use Rattle.std.proofs.Common.{◌≡◌, sym, subst, refl, ℕ, ◌<◌, ◌≤◌, ◌^◌, Bool, true, false, cond, ◌&&◌, List, [], ◌∷◌, length, Option, Some, None, Result, Ok, Err, IfOk, arith, leb-true}
use Rattle.std.specs.Prelude.{nat_le, codes, option_and_then, option_map}
use Rattle.std.specs.Char.{is_ascii_digit}
use Rattle.std.specs.Str.{bytes_eq}
use Rattle.std.specs.Str.Parse.{AllDigits, ParsesUnsigned, digits_value}
use Rattle.std.proofs.lemmas.Bool.{and_parts}
use Rattle.std.proofs.lemmas.Str.{digit_value_digit}
use Rattle.std.proofs.lemmas.Str.Parse.{IsNumeralModel, parse_digits}
use Rattle.clap.specs.Walk.{Row, Text, all_of, first_of}
use Rattle.command_line.specs.declared.job.Job.{Job}
use Rattle.command_line.specs.declared.job.Job.TheVariants.{Check, Explain, Load, Plan}
use Rattle.command_line.specs.Numbers.{are_digits, number_within}
use Rattle.command_line.specs.Table.{IsInRange, explain_of, has_stats, job_found, job_given, load_of, only, run_of}

-- a value that stands where a test is true
chosen : (b : Bool) (value number : ℕ) → cond b (Some value) None ≡ Some number → (b ≡ true) × (value ≡ number)
chosen true value number e = (refl, cc)
chosen false value number e = absurd cc

-- a number within its bounds
within : (least most : ℕ) (word : Text) (number : ℕ) → number_within least most word ≡ Some number → (least ≤ number) × (number ≤ most)
within least most word number e =
    let value = digits_value 10 word in
    let found = chosen (nat_le 1 (length word) && (are_digits word && (nat_le least value && nat_le value most))) value number e in
    let some = and_parts (nat_le 1 (length word)) (are_digits word && (nat_le least value && nat_le value most)) found.0 in
    let digits = and_parts (are_digits word) (nat_le least value && nat_le value most) some.1 in
    let bounds = and_parts (nat_le least value) (nat_le value most) digits.1 in
    let low = leb-true least value bounds.0 in
    let high = leb-true value most bounds.1 in
    let same = found.1 in
    (omega (arith, low, same), omega (arith, high, same))

-- no job is no load
no-job : IsInRange None
no-job seed events e = absurd cc

-- of a seed and a number of events, where both are there
both : (x y : Option ℕ) → ((n : ℕ) → x ≡ Some n → n ≤ 2147483647) → ((n : ℕ) → y ≡ Some n → (1 ≤ n) × (n ≤ 200000)) → IsInRange (option_and_then (λ s. option_map (λ n. Load s n) y) x)
both None y f g seed events e = absurd cc
both (Some s) None f g seed events e = absurd cc
both (Some s) (Some n) f g seed events e =
    let seed_is : s ≡ seed = cc in
    let events_is : n ≡ events = cc in
    let small = f s refl in
    let few = g n refl in
    (omega (arith, seed_is, small), omega (arith, events_is, few.0), omega (arith, events_is, few.1))

load-in_range : (values : List Text) → IsInRange (load_of values)
load-in_range [] = no-job
load-in_range (first ∷ []) = no-job
load-in_range (first ∷ second ∷ []) =
    both (number_within 0 2147483647 first) (number_within 1 200000 second) (λ n e. (within 0 2147483647 first n e).1) (λ n e. within 1 200000 second n e)
load-in_range (first ∷ second ∷ third ∷ more) = no-job

run-in_range : (stats : Bool) (values : List Text) → IsInRange (run_of stats values)
run-in_range stats [] seed events e = absurd cc
run-in_range stats (first ∷ []) seed events e = absurd cc
run-in_range stats (first ∷ second ∷ []) seed events e = absurd cc
run-in_range stats (first ∷ second ∷ third ∷ more) seed events e = absurd cc

check-in_range : (value : Option Text) → IsInRange (option_map Check value)
check-in_range None seed events e = absurd cc
check-in_range (Some queries) seed events e = absurd cc

plan-in_range : (value : Option Text) → IsInRange (option_map Plan value)
plan-in_range None seed events e = absurd cc
plan-in_range (Some queries) seed events e = absurd cc

explain-in_range : (values : List Text) → IsInRange (explain_of values)
explain-in_range [] seed events e = absurd cc
explain-in_range (first ∷ []) seed events e = absurd cc
explain-in_range (first ∷ second ∷ []) seed events e = absurd cc
explain-in_range (first ∷ second ∷ third ∷ more) seed events e = absurd cc

-- by the row of the table
row-in_range : (run checks plans explains loads stats : Bool) (values : List Text)
    → IsInRange (cond run (run_of stats values) (cond stats None (cond checks (option_map Check (only values)) (cond plans (option_map Plan (only values)) (cond explains (explain_of values) (cond loads (load_of values) None))))))
row-in_range true checks plans explains loads stats values = run-in_range stats values
row-in_range false checks plans explains loads true values = no-job
row-in_range false true plans explains loads false values = check-in_range (only values)
row-in_range false false true explains loads false values = plan-in_range (only values)
row-in_range false false false true loads false values = explain-in_range values
row-in_range false false false false true false values = load-in_range values
row-in_range false false false false false false values = no-job

given-in_range : (stats : Bool) (action : Option Text) (values : Option (List Text)) → IsInRange (job_given stats action values)
given-in_range stats None None = no-job
given-in_range stats None (Some values) = no-job
given-in_range stats (Some action) None = no-job
given-in_range stats (Some action) (Some values) =
    row-in_range (bytes_eq action (codes "run")) (bytes_eq action (codes "check")) (bytes_eq action (codes "plan")) (bytes_eq action (codes "explain")) (bytes_eq action (codes "load")) stats values

-- the job of what the command found
pub found-in_range : {E : Type 0} (result : Result (Option Job) E) (rows : List Row) → IfOk result (λ asked. asked ≡ job_found rows) → IfOk result (λ asked. IsInRange asked)
found-in_range (Ok asked) rows same = subst IsInRange (sym same) (given-in_range (has_stats rows) (first_of (codes "action") rows) (all_of (codes "values") rows))
found-in_range (Err fault) rows same = tt

-- digits are a numeral
all-digits : (word : Text) → are_digits word ≡ true → AllDigits 10 word
all-digits [] digits = tt
all-digits (byte ∷ bytes) digits =
    let parts = and_parts (is_ascii_digit byte) (are_digits bytes) digits in
    let bounds = and_parts (nat_le 48 byte) (nat_le byte 57) parts.0 in
    let low = leb-true 48 byte bounds.0 in
    let high = leb-true byte 57 bounds.1 in
    let value = digit_value_digit byte (low, high) in
    (omega (arith, value, low, high), all-digits bytes parts.1)

own : IsNumeralModel (λ word. AllDigits 10 word) (digits_value 10)
own = record { to = λ word digits. digits; from = λ word digits. digits; same = λ word digits. refl }

-- no number is within its bounds where each test can't be true
nowhere : (some digits low high : Bool) (value : ℕ) → (some ≡ true → digits ≡ true → high ≡ true → ⊥) → None ≡ cond (some && (digits && (low && high))) (Some value) None
nowhere false digits low high value bad = refl
nowhere true false low high value bad = refl
nowhere true true false high value bad = refl
nowhere true true true false value bad = refl
nowhere true true true true value bad = absurd (bad refl refl refl)

-- digits that aren't parsed write no number within its bounds
pub unparsed : {E : Type 0} (least most : ℕ) (word : Text) (fault : E) → most < 2 ^ 64 → ParsesUnsigned 64 10 word (Err fault) → None ≡ number_within least most word
unparsed least most word fault fits parses =
    let value = digits_value 10 word in
    nowhere (nat_le 1 (length word)) (are_digits word) (nat_le least value) (nat_le value most) value
    (λ some digits high.
    let long = leb-true 1 (length word) some in
    let few = leb-true value most high in
    parse_digits own 64 word (Err fault) parses (all-digits word digits) (omega (arith, long), omega (arith, few, fits)))
