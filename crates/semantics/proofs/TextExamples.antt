-- Examples of result lines and of decimals in them, each worked out by hand. No contract cites them.
use Rattle.std.proofs.Common.{◌≡◌, lit<, ℕ, pos, negsuc, List, [], ◌∷◌, ◌++◌}
use Rattle.std.specs.Prelude.{codes}
use Rattle.std.specs.List.{join_with_byte}
use Rattle.std.proofs.lemmas.Fmt.{decimal_digit}
use Rattle.event_types.specs.declared.value.Value.TheVariants as value
use Rattle.semantics.specs.Report.{decimal_text, quoted, line}

-- OVER is written by its name, a text with a comma stands in quotes, and a quote in it is doubled
line_of_texts : line (codes "Q") (record { vals = value.Over ∷ value.Text (codes "a,b") ∷ value.Text (codes "say \"x\"") ∷ value.Text (codes "plain one") ∷ []; from = 2; at = 3 }) ≡ codes "Q,2,3,OVER,\"a,b\",\"say \"\"x\"\"\",plain one\n"
line_of_texts =
    let two = decimal_digit 2 (lit< tt) in
    let three = decimal_digit 3 (lit< tt) in
    let values = quoted (codes "a,b") ∷ quoted (codes "say \"x\"") ∷ quoted (codes "plain one") ∷ [] in
    λ i. join_with_byte 44 (codes "Q" ∷ two i ∷ three i ∷ codes "OVER" ∷ values) ++ 10 ∷ []

-- a decimal is written with all its places, with its sign also below 1, and without a point where it has none
places_are_written : decimal_text 3 (pos 1050) ≡ codes "1.050"
places_are_written = let one = decimal_digit 1 (lit< tt) in λ i. (((one i ++ 46 ∷ []) ++ 48 ∷ []) ++ 53 ∷ []) ++ 48 ∷ []

sign_is_written_below_one : decimal_text 2 (negsuc 4) ≡ codes "-0.05"
sign_is_written_below_one = let none = decimal_digit 0 (lit< tt) in λ i. 45 ∷ (((none i ++ 46 ∷ []) ++ 48 ∷ []) ++ 53 ∷ [])

no_point_without_places : decimal_text 0 (negsuc 6) ≡ codes "-7"
no_point_without_places = let seven = decimal_digit 7 (lit< tt) in λ i. 45 ∷ seven i

-- a text and digits behind it, one by one
abbrev digits_behind : List ℕ → List ℕ → List ℕ
digits_behind text [] = text
digits_behind text (digit ∷ more) = digits_behind (text ++ digit ∷ []) more

minus_one_hundredth : decimal_text 2 (negsuc 0) ≡ codes "-0.01"
minus_one_hundredth = let none = decimal_digit 0 (lit< tt) in λ i. 45 ∷ digits_behind (none i ++ 46 ∷ []) (codes "01")

minus_ninety_nine_hundredths : decimal_text 2 (negsuc 98) ≡ codes "-0.99"
minus_ninety_nine_hundredths = let none = decimal_digit 0 (lit< tt) in λ i. 45 ∷ digits_behind (none i ++ 46 ∷ []) (codes "99")

none_of_two_places : decimal_text 2 (pos 0) ≡ codes "0.00"
none_of_two_places = let none = decimal_digit 0 (lit< tt) in λ i. digits_behind (none i ++ 46 ∷ []) (codes "00")

none_without_places : decimal_text 0 (pos 0) ≡ codes "0"
none_without_places = decimal_digit 0 (lit< tt)

least_of_eighteen_places : decimal_text 18 (pos 1) ≡ codes "0.000000000000000001"
least_of_eighteen_places = let none = decimal_digit 0 (lit< tt) in λ i. digits_behind (none i ++ 46 ∷ []) (codes "000000000000000001")

one_and_a_half_of_eighteen_places : decimal_text 18 (negsuc 1499999999999999999) ≡ codes "-1.500000000000000000"
one_and_a_half_of_eighteen_places = let one = decimal_digit 1 (lit< tt) in λ i. 45 ∷ digits_behind (one i ++ 46 ∷ []) (codes "500000000000000000")
