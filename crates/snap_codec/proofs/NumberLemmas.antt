-- Numbers, and numbers of 128 bits, are read from their bytes.
use Rattle.std.proofs.Common.{◌≡◌, ℕ, ℤ, ◌+◌, ◌*◌, ◌^◌, ◌/◌, ◌%◌, ◌<◌, ◌≤◌, ltb, false, List, [], ◌∷◌, ◌++◌, length, take, drop, Ok, refl, sym, ap, subst, ◌∙◌, arith, to_z, of_z}
use Rattle.std.proofs.Math.Facts as facts
use Rattle.std.specs.Prelude.{FitsSigned}
use Rattle.std.specs.Int.{w64, w128, from_be_bytes}
use Rattle.std.proofs.lemmas.Bool.{ltb-false, le-ltb}
use Rattle.std.proofs.lemmas.List.{take_at, drop_at, take-append-drop, length-append, length-drop, length-take}
use Rattle.std.proofs.lemmas.Int.{of_z-to_z, to_z-of_z}
use Rattle.std.proofs.lemmas.Nat.{be_bytes_8, from_be_bytes-to_be_bytes_8}
use Rattle.std.proofs.Math.Nat.{div-div-eq-div-mul}
use Rattle.snap_codec.specs.declared.fault.SnapFault.TheVariants.{Cut}
use Rattle.snap_codec.specs.Fitting.{IsNumber}
use Rattle.snap_codec.specs.Reading.{number_from, whole_from}
use Rattle.snap_codec.specs.Spelling.{bits_bytes, number_bytes, whole_bytes}
use Rattle.snap_codec.proofs.Taking.{IsBytes, IsBytes-drop, IsBytes-take, Reads, Takes, guard_ok, ok_is}

-- a number of 64 bits has eight bytes
pub number_long : (n : ℕ) → length (number_bytes n) ≡ 8
unfolding number_bytes
number_long n = refl

-- eight bytes are those of the number that they are
number_back : (bytes : List ℕ) → length bytes ≡ 8 → IsBytes bytes → number_bytes (from_be_bytes w64 bytes) ≡ bytes
unfolding number_bytes
number_back bytes len fits = be_bytes_8 bytes _ len fits refl

-- a number is the one that its bytes are
number_is : (n : ℕ) → IsNumber n → from_be_bytes w64 (number_bytes n) ≡ n
unfolding number_bytes
number_is n lt = from_be_bytes-to_be_bytes_8 n lt

-- it is of 64 bits
number_below : (bytes : List ℕ) → IsBytes bytes → IsNumber (from_be_bytes w64 bytes)
number_below bytes fits = omega (arith, fits 0, fits 1, fits 2, fits 3, fits 4, fits 5, fits 6, fits 7)

number_takes : (place : ℕ) (bytes : List ℕ) (n : ℕ) (rest : List ℕ) → IsBytes bytes → number_from place bytes ≡ Ok (n, rest) → Takes bytes (number_bytes n) rest × IsNumber n
unfolding number_from
number_takes place bytes n rest fits e =
    let g = guard_ok (ltb (length bytes) 8) (Cut place) (Ok (from_be_bytes w64 (take 8 bytes), drop 8 bytes)) (Ok (n, rest)) (n, rest) refl e in
    let long : 8 ≤ length bytes = ltb-false _ _ g.0 in
    let is = ok_is (from_be_bytes w64 (take 8 bytes), drop 8 bytes) (n, rest) g.1 in
    let n-is : from_be_bytes w64 (take 8 bytes) ≡ n = ap (λ (p : ℕ × List ℕ). p.0) is in
    let rest-is : drop 8 bytes ≡ rest = ap (λ (p : ℕ × List ℕ). p.1) is in
    let front_fits = IsBytes-take 8 bytes fits in
    let front : number_bytes n ≡ take 8 bytes = subst (λ (m : ℕ). number_bytes m ≡ take 8 bytes) n-is (number_back (take 8 bytes) (omega (arith, length-take 8 bytes)) front_fits) in
    let parts : bytes ≡ number_bytes n ++ rest = sym (take-append-drop 8 bytes) ∙ (λ i. sym front i ++ rest-is i) in
    (record { parts = parts; rest_fits = subst IsBytes rest-is (IsBytes-drop 8 bytes fits) }, subst IsNumber n-is (number_below (take 8 bytes) front_fits))

number_again : (place n : ℕ) (rest : List ℕ) → IsNumber n → number_from place (number_bytes n ++ rest) ≡ Ok (n, rest)
unfolding number_from
number_again place n rest lt =
    let len = number_long n in
    let long : ltb (length (number_bytes n ++ rest)) 8 ≡ false = le-ltb _ _ (omega (arith, length-append (number_bytes n) rest)) in
    rw (long, take_at (number_bytes n) rest 8 len, drop_at (number_bytes n) rest 8 len, number_is n lt) refl

-- a number is read from its bytes
pub number_reads : (place : ℕ) → Reads number_bytes IsNumber (number_from place)
number_reads place = record { takes = number_takes place; again = number_again place }

-- sixteen bytes are eight, and eight
written_16 : (bytes : List ℕ) → length bytes ≡ 16 → from_be_bytes w128 bytes ≡ from_be_bytes w64 (take 8 bytes) * 18446744073709551616 + from_be_bytes w64 (drop 8 bytes)
written_16 (a ∷ b ∷ c ∷ d ∷ e ∷ f ∷ g ∷ h ∷ bytes) len = omega arith
written_16 bytes len = absurd (omega arith)

-- a byte of the upper half
high_byte : (n p : ℕ) → n / (18446744073709551616 * p) % 256 ≡ n / 18446744073709551616 / p % 256
high_byte n p = ap (λ (m : ℕ). m % 256) (sym (div-div-eq-div-mul n 18446744073709551616 p))

-- the bytes of both halves
bits_halves : (n : ℕ) → bits_bytes n ≡ number_bytes (n / 18446744073709551616) ++ number_bytes (n % 18446744073709551616)
unfolding bits_bytes number_bytes
bits_halves n =
    let a : n / 1329227995784915872903807060280344576 % 256 ≡ n / 18446744073709551616 / 72057594037927936 % 256 = high_byte n 72057594037927936 in
    let b : n / 5192296858534827628530496329220096 % 256 ≡ n / 18446744073709551616 / 281474976710656 % 256 = high_byte n 281474976710656 in
    let c : n / 20282409603651670423947251286016 % 256 ≡ n / 18446744073709551616 / 1099511627776 % 256 = high_byte n 1099511627776 in
    let d : n / 79228162514264337593543950336 % 256 ≡ n / 18446744073709551616 / 4294967296 % 256 = high_byte n 4294967296 in
    let e : n / 309485009821345068724781056 % 256 ≡ n / 18446744073709551616 / 16777216 % 256 = high_byte n 16777216 in
    let f : n / 1208925819614629174706176 % 256 ≡ n / 18446744073709551616 / 65536 % 256 = high_byte n 65536 in
    let g : n / 4722366482869645213696 % 256 ≡ n / 18446744073709551616 / 256 % 256 = high_byte n 256 in
    let i : n / 72057594037927936 % 256 ≡ n % 18446744073709551616 / 72057594037927936 % 256 = omega arith in
    let j : n / 281474976710656 % 256 ≡ n % 18446744073709551616 / 281474976710656 % 256 = omega arith in
    let k : n / 1099511627776 % 256 ≡ n % 18446744073709551616 / 1099511627776 % 256 = omega arith in
    let l : n / 4294967296 % 256 ≡ n % 18446744073709551616 / 4294967296 % 256 = omega arith in
    let m : n / 16777216 % 256 ≡ n % 18446744073709551616 / 16777216 % 256 = omega arith in
    let o : n / 65536 % 256 ≡ n % 18446744073709551616 / 65536 % 256 = omega arith in
    let p : n / 256 % 256 ≡ n % 18446744073709551616 / 256 % 256 = omega arith in
    let q : n % 256 ≡ n % 18446744073709551616 % 256 = omega arith in
    λ x. a x ∷ b x ∷ c x ∷ d x ∷ e x ∷ f x ∷ g x ∷ (n / 18446744073709551616 % 256) ∷ i x ∷ j x ∷ k x ∷ l x ∷ m x ∷ o x ∷ p x ∷ q x ∷ []

-- so sixteen bytes are those of the number that they are
bits_back : (bytes : List ℕ) → length bytes ≡ 16 → IsBytes bytes → bits_bytes (from_be_bytes w128 bytes) ≡ bytes
bits_back bytes len fits =
    let high = from_be_bytes w64 (take 8 bytes) in
    let low = from_be_bytes w64 (drop 8 bytes) in
    let low_fits : low < 18446744073709551616 = number_below (drop 8 bytes) (IsBytes-drop 8 bytes fits) in
    let is = written_16 bytes len in
    let upper : from_be_bytes w128 bytes / 18446744073709551616 ≡ high = halves_high (from_be_bytes w128 bytes) high low low_fits is in
    let lower : from_be_bytes w128 bytes % 18446744073709551616 ≡ low = halves_low (from_be_bytes w128 bytes) high low low_fits is in
    let front : number_bytes high ≡ take 8 bytes = number_back (take 8 bytes) (omega (arith, length-take 8 bytes)) (IsBytes-take 8 bytes fits) in
    let back : number_bytes low ≡ drop 8 bytes = number_back (drop 8 bytes) (omega (arith, length-drop 8 bytes)) (IsBytes-drop 8 bytes fits) in
    bits_halves (from_be_bytes w128 bytes) ∙ (λ i. number_bytes (upper i) ++ number_bytes (lower i)) ∙ (λ i. front i ++ back i) ∙ take-append-drop 8 bytes
  where
    halves_high : (n high low : ℕ) → low < 18446744073709551616 → n ≡ high * 18446744073709551616 + low → n / 18446744073709551616 ≡ high
    halves_high n high low lt is = omega arith

    halves_low : (n high low : ℕ) → low < 18446744073709551616 → n ≡ high * 18446744073709551616 + low → n % 18446744073709551616 ≡ low
    halves_low n high low lt is = omega arith

-- a number of 128 bits is the one that its bytes are
bits_is : (n : ℕ) → n < 2 ^ 128 → from_be_bytes w128 (bits_bytes n) ≡ n
bits_is n lt =
    let high = n / 18446744073709551616 in
    let low = n % 18446744073709551616 in
    let high_lt : high < 2 ^ 64 = omega arith in
    let low_lt : low < 2 ^ 64 = omega arith in
    let halves : bits_bytes n ≡ number_bytes high ++ number_bytes low = bits_halves n in
    let both = number_bytes high ++ number_bytes low in
    let long : length both ≡ 16 = omega (arith, length-append (number_bytes high) (number_bytes low), number_long high, number_long low) in
    let is = written_16 both long in
    let front : from_be_bytes w64 (take 8 both) ≡ high = ap (from_be_bytes w64) (take_at (number_bytes high) (number_bytes low) 8 (number_long high)) ∙ number_is high high_lt in
    let back : from_be_bytes w64 (drop 8 both) ≡ low = ap (from_be_bytes w64) (drop_at (number_bytes high) (number_bytes low) 8 (number_long high)) ∙ number_is low low_lt in
    ap (from_be_bytes w128) halves ∙ is ∙ joined (from_be_bytes w64 (take 8 both)) (from_be_bytes w64 (drop 8 both)) n front back
  where
    joined : (h l n : ℕ) → h ≡ n / 18446744073709551616 → l ≡ n % 18446744073709551616 → h * 18446744073709551616 + l ≡ n
    joined h l n is-h is-l = omega arith

-- it has sixteen bytes
bits_long : (n : ℕ) → length (bits_bytes n) ≡ 16
unfolding bits_bytes
bits_long n = refl

-- sixteen bytes are below 2^128
bits_below : (bytes : List ℕ) → length bytes ≡ 16 → IsBytes bytes → from_be_bytes w128 bytes < 2 ^ 128
bits_below bytes len fits =
    let high = number_below (take 8 bytes) (IsBytes-take 8 bytes fits) in
    let low = number_below (drop 8 bytes) (IsBytes-drop 8 bytes fits) in
    omega (arith, written_16 bytes len, high, low)

whole_takes : (place : ℕ) (bytes : List ℕ) (z : ℤ) (rest : List ℕ) → IsBytes bytes → whole_from place bytes ≡ Ok (z, rest) → Takes bytes (whole_bytes z) rest × FitsSigned w128 z
unfolding whole_from
whole_takes place bytes z rest fits e =
    let n = from_be_bytes w128 (take 16 bytes) in
    let g = guard_ok (ltb (length bytes) 16) (Cut place) (Ok (to_z w128 n, drop 16 bytes)) (Ok (z, rest)) (z, rest) refl e in
    let long : 16 ≤ length bytes = ltb-false _ _ g.0 in
    let len : length (take 16 bytes) ≡ 16 = omega (arith, length-take 16 bytes) in
    let is = ok_is (to_z w128 n, drop 16 bytes) (z, rest) g.1 in
    let z-is : to_z w128 n ≡ z = ap (λ (p : ℤ × List ℕ). p.0) is in
    let rest-is : drop 16 bytes ≡ rest = ap (λ (p : ℤ × List ℕ). p.1) is in
    let front_fits = IsBytes-take 16 bytes fits in
    let below : n < 2 ^ 128 = bits_below (take 16 bytes) len front_fits in
    let same : of_z w128 (to_z w128 n) ≡ n = of_z-to_z w128 n below in
    let front : whole_bytes (to_z w128 n) ≡ take 16 bytes = ap bits_bytes same ∙ bits_back (take 16 bytes) len front_fits in
    let front_z : whole_bytes z ≡ take 16 bytes = subst (λ (y : ℤ). whole_bytes y ≡ take 16 bytes) z-is front in
    let parts : bytes ≡ whole_bytes z ++ rest = sym (take-append-drop 16 bytes) ∙ (λ i. sym front_z i ++ rest-is i) in
    (record { parts = parts; rest_fits = subst IsBytes rest-is (IsBytes-drop 16 bytes fits) }, subst (FitsSigned w128) z-is (facts.sfits_to_z (record { fits = below })))

whole_again : (place : ℕ) (z : ℤ) (rest : List ℕ) → FitsSigned w128 z → whole_from place (whole_bytes z ++ rest) ≡ Ok (z, rest)
unfolding whole_from
whole_again place z rest fits =
    let len = bits_long (of_z w128 z) in
    let below : of_z w128 z < 2 ^ 128 = (facts.Fits-of_z {w = w128} {z = z} fits).fits in
    let long : ltb (length (whole_bytes z ++ rest)) 16 ≡ false = le-ltb _ _ (omega (arith, length-append (whole_bytes z) rest)) in
    rw (long, take_at (whole_bytes z) rest 16 len, drop_at (whole_bytes z) rest 16 len, bits_is (of_z w128 z) below, to_z-of_z w128 z fits) refl

-- a number of 128 bits is read from its bytes
pub whole_reads : (place : ℕ) → Reads whole_bytes (FitsSigned w128) (whole_from place)
whole_reads place = record { takes = whole_takes place; again = whole_again place }
