-- Text literals, a byte at a time.
use Rattle.std.proofs.Common.{◌≡◌, ◌≢◌, ◌∙◌, ℕ, zero, suc, ◌+◌, ◌-◌, ◌≤◌, ◌<◌, true, false, List, [], ◌∷◌, length, take, drop, get_or, refl, ap, arith, add-one, drop-cons, length-drop, zero-add, inl, inr, Option, Some, None}
use Rattle.std.specs.Prelude.{◌==◌, if◌then◌else◌}
use Rattle.std.proofs.lemmas.Bool.{cases_Bool, eqb-true}
use Rattle.std.proofs.lemmas.Bool.Decides.{nat_tests}
use Rattle.std.proofs.lemmas.List.{drop-drop}
use Rattle.cel_lexer.proofs.Lines.{lines_in}
use Rattle.cel_lexer.specs.Bytes.{is_first}
use Rattle.cel_lexer.specs.Literals.{literal_rest, more}

-- two additions are one of the sum
pub more-more : (i k : ℕ) (o : Option ℕ) → more i (more k o) ≡ more (i + k) o
more-more i k None = refl
more-more i k (Some n) = ap Some (omega arith)

-- adding nothing changes nothing
pub more-zero : (o : Option ℕ) → more 0 o ≡ o
more-zero None = refl
more-zero (Some n) = ap Some (zero-add n)

-- what a literal does at a byte, by the byte behind it
abbrev pub rest_at : ℕ → List ℕ → Option ℕ
rest_at b rest =
    if b == 10 then None
    else if b == 39 then if is_first (λ first. first == 39) rest then more 2 (literal_rest (drop 1 rest)) else Some 1
    else more 1 (literal_rest rest)

literal_rest-cons : (b : ℕ) (rest : List ℕ) → literal_rest (b ∷ rest) ≡ rest_at b rest
literal_rest-cons b [] = elim (cases_Bool (b == 10)) [
  | inl line ↦ rw (eqb-true b 10 line) refl
  | inr here ↦ elim (cases_Bool (b == 39)) [ inl quote ↦ rw (here, quote) refl | inr other ↦ rw (here, other) refl ]
]
literal_rest-cons b (next ∷ rest) = refl

at-place : (s : List ℕ) (i : ℕ) → i < length s → literal_rest s ≡ more i (literal_rest (drop i s))
    → literal_rest s ≡ more i (rest_at (get_or s i 0) (drop (i + 1) s))
at-place s i h whole = whole ∙ ap (more i) (rw (drop-cons s i 0, add-one) (literal_rest-cons (get_or s i 0) (drop (suc i) s)))

-- a line feed at a place leaves the literal open
pub open-at : (s : List ℕ) (i : ℕ) → i < length s → get_or s i 0 ≡ 10
    → literal_rest s ≡ more i (literal_rest (drop i s)) → literal_rest s ≡ None
open-at s i h line whole = let here = at-place s i h whole in rw line at here

-- a byte that is neither a line feed nor a quote goes on with it
pub byte-at : (s : List ℕ) (i : ℕ) → i < length s → get_or s i 0 ≢ 10 → get_or s i 0 ≢ 39
    → literal_rest s ≡ more i (literal_rest (drop i s)) → literal_rest s ≡ more (i + 1) (literal_rest (drop (i + 1) s))
byte-at s i h line quote whole =
    let no_line : (get_or s i 0 == 10) ≡ false = grind (arith, nat_tests) in
    let no_quote : (get_or s i 0 == 39) ≡ false = grind (arith, nat_tests) in
    let here = at-place s i h whole in
    (rw (no_line, no_quote) at here) ∙ more-more i 1 _

-- so do two quotes
pub doubled-at : (s : List ℕ) (i : ℕ) → i < length s → get_or s i 0 ≡ 39
    → is_first (λ first. first == 39) (drop (i + 1) s) ≡ true
    → literal_rest s ≡ more i (literal_rest (drop i s))
    → (i + 2 ≤ length s) × (literal_rest s ≡ more (i + 2) (literal_rest (drop (i + 2) s)))
doubled-at s i h quote same whole =
    let place : i + 1 + 1 ≡ i + 2 = omega arith in
    let here = at-place s i h whole in
    let there = not_empty (drop (i + 1) s) same in (
      omega (arith, there, length-drop (i + 1) s),
      (rw (quote, same, drop-drop 1 (i + 1) s, place) at here) ∙ more-more i 2 _,
    )
  where
    not_empty : (t : List ℕ) → is_first (λ first. first == 39) t ≡ true → 0 < length t
    not_empty [] e = absurd cc
    not_empty (b ∷ t) e = omega arith

-- and one quote ends it
pub closed-at : (s : List ℕ) (i : ℕ) → i < length s → get_or s i 0 ≡ 39
    → is_first (λ first. first == 39) (drop (i + 1) s) ≡ false
    → literal_rest s ≡ more i (literal_rest (drop i s)) → literal_rest s ≡ Some (i + 1)
closed-at s i h quote other whole = let here = at-place s i h whole in rw (quote, other) at here

-- a literal's bytes behind the opening quote stand on one line and end with a quote
pub record Closes (s : List ℕ) (n : ℕ) : Type 0 where
  pub some : 0 < n
  pub in_text : n ≤ length s
  pub one_line : lines_in (take n s) ≡ 0
  pub quote : get_or s (n - 1) 0 ≡ 39

AllClose : List ℕ → Option ℕ → Type 0
AllClose s None = Unit {0}
AllClose s (Some n) = Closes s n

one-closes : (b : ℕ) (rest : List ℕ) → b ≡ 39 → Closes (b ∷ rest) 1
one-closes b rest quote = rw quote (record { some = omega arith; in_text = omega arith; one_line = refl; quote = refl })

one-more : (b : ℕ) (rest : List ℕ) (n : ℕ) → (b == 10) ≡ false → Closes rest n → Closes (b ∷ rest) (1 + n)
one-more b rest zero here closes = absurd (omega (arith, closes.some))
one-more b rest (suc n) here closes =
    let next : 1 + suc n ≡ suc (suc n) = omega arith in
    let last : suc (suc n) - 1 ≡ suc n = omega arith in
    let before : suc n - 1 ≡ n = omega arith in
    rw next (record {
      some = omega arith;
      in_text = omega (arith, closes.in_text);
      one_line = rw here (zero-add _ ∙ closes.one_line);
      quote = rw last (rw before at closes.quote);
    })

all-more : (b : ℕ) (rest : List ℕ) (o : Option ℕ) → (b == 10) ≡ false → AllClose rest o → AllClose (b ∷ rest) (more 1 o)
unfolding AllClose
all-more b rest None here closes = closes
all-more b rest (Some n) here closes = one-more b rest n here closes

all-close : (s : List ℕ) → AllClose s (literal_rest s)
unfolding AllClose
all-close [] = tt
all-close (b ∷ []) = elim (cases_Bool (b == 39)) [
  | inl quote ↦ rw quote (one-closes b [] (eqb-true b 39 quote))
  | inr other ↦ rw other tt
]
all-close (b ∷ next ∷ rest) = elim (cases_Bool (b == 10)) [
  | inl line ↦ rw line tt
  | inr here ↦ elim (cases_Bool (b == 39)) [
    | inl quote ↦ elim (cases_Bool (next == 39)) [
      | inl same ↦
          let next_line : (next == 10) ≡ false = rw (eqb-true next 39 same) refl in
          let two = all-more b (next ∷ rest) _ here (all-more next rest _ next_line (all-close rest)) in
          rw (here, quote, same) (rw more-more at two)
      | inr other ↦ rw (here, quote, other) (one-closes b (next ∷ rest) (eqb-true b 39 quote))
    ]
    | inr other ↦ rw (here, other) (all-more b (next ∷ rest) _ here (all-close (next ∷ rest)))
  ]
]

-- where the rest of a literal has an end, it closes there
pub literal-closes : (s : List ℕ) (n : ℕ) → literal_rest s ≡ Some n → Closes s n
unfolding AllClose
literal-closes s n e = let closes = all-close s in rw e at closes
