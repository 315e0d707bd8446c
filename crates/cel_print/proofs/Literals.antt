-- Text literals of the canonical text. No public clause cites it.
use Rattle.std.proofs.Common.{◌≡◌, ◌∙◌, ℕ, ◌+◌, ◌<◌, Bool, true, false, List, [], ◌∷◌, ◌++◌, length, refl, ap, arith}
use Rattle.std.specs.Prelude.{Some, ◌==◌, codes, if◌then◌else◌}
use Rattle.std.proofs.lemmas.Bool.{eqb-true}
use Rattle.std.proofs.lemmas.Bool.Decides.{nat_tests}
use Rattle.cel_lexer.specs.Bytes.{is_comment_byte, is_first}
use Rattle.cel_lexer.specs.Literals.{literal_rest, more}
use Rattle.cel_grammar.specs.Spellings.{undoubled}
use Rattle.cel_print.specs.Spelled.{doubled}
use Rattle.cel_print.proofs.Bytes.{passes, both_true}

-- a quote that ends a literal
literal_end : (rest : List ℕ) → is_first (λ c. c == 39) rest ≡ false → literal_rest (39 ∷ rest) ≡ Some 1
literal_end [] stop = refl
literal_end (c ∷ rest) stop = rw stop refl

-- a byte that is no quote and ends no line goes on with it
literal_step : (b : ℕ) (s : List ℕ) → 0 < length s → (b == 10) ≡ false → (b == 39) ≡ false → literal_rest (b ∷ s) ≡ more 1 (literal_rest s)
literal_step b [] some line quote = absurd (omega arith)
literal_step b (c ∷ s) some line quote = rw (line, quote) refl

-- a byte of a comment ends no line
no_line : (b : ℕ) → is_comment_byte b ≡ true → (b == 10) ≡ false
no_line b h = grind (arith, nat_tests)

-- the rest of a literal is not empty
some_left : (u rest : List ℕ) → 0 < length ((u ++ codes "'") ++ rest)
some_left [] rest = omega arith
some_left (b ∷ u) rest = omega arith

literal_case : (b : ℕ) (t rest : List ℕ) → is_comment_byte b ≡ true → literal_rest ((doubled t ++ codes "'") ++ rest) ≡ Some (length (doubled t) + 1) → (c : Bool) → (b == 39) ≡ c
    → literal_rest ((((if c then 39 ∷ 39 ∷ [] else b ∷ []) ++ doubled t) ++ codes "'") ++ rest) ≡ Some (length ((if c then 39 ∷ 39 ∷ [] else b ∷ []) ++ doubled t) + 1)
literal_case b t rest line later true e = ap (more 2) later ∙ ap Some (omega arith)
literal_case b t rest line later false e = literal_step b ((doubled t ++ codes "'") ++ rest) (some_left (doubled t) rest) (no_line b line) e ∙ ap (more 1) later ∙ ap Some (omega arith)

-- the bytes up to the closing quote and with it
pub literal_is : (t rest : List ℕ) → passes is_comment_byte t ≡ true → is_first (λ c. c == 39) rest ≡ false → literal_rest ((doubled t ++ codes "'") ++ rest) ≡ Some (length (doubled t) + 1)
literal_is [] rest h stop = literal_end rest stop
literal_is (b ∷ t) rest h stop =
    let parts = both_true (is_comment_byte b) (passes is_comment_byte t) h in
    literal_case b t rest parts.0 (literal_is t rest parts.1 stop) (b == 39) refl

undoubled_step : (b : ℕ) (s : List ℕ) → (b == 39) ≡ false → undoubled (b ∷ s) ≡ b ∷ undoubled s
undoubled_step b [] e = refl
undoubled_step b (c ∷ s) e = rw e refl

undoubled_case : (b : ℕ) (t : List ℕ) → undoubled (doubled t) ≡ t → (c : Bool) → (b == 39) ≡ c → undoubled ((if c then 39 ∷ 39 ∷ [] else b ∷ []) ++ doubled t) ≡ b ∷ t
undoubled_case b t later true e = rw (eqb-true b 39 e) (ap (λ (s : List ℕ). 39 ∷ s) later)
undoubled_case b t later false e = undoubled_step b (doubled t) e ∙ ap (λ (s : List ℕ). b ∷ s) later

-- doubled quotes stand once again
pub undoubled_is : (t : List ℕ) → undoubled (doubled t) ≡ t
undoubled_is [] = refl
undoubled_is (b ∷ t) = undoubled_case b t (undoubled_is t) (b == 39) refl

doubled_case : (b : ℕ) (t : List ℕ) → is_comment_byte b ≡ true → passes is_comment_byte (doubled t) ≡ true → (c : Bool) → passes is_comment_byte ((if c then 39 ∷ 39 ∷ [] else b ∷ []) ++ doubled t) ≡ true
doubled_case b t line later true = later
doubled_case b t line later false = rw line later

-- a doubled text stays on its line
pub doubled_passes : (t : List ℕ) → passes is_comment_byte t ≡ true → passes is_comment_byte (doubled t) ≡ true
doubled_passes [] h = refl
doubled_passes (b ∷ t) h =
    let parts = both_true (is_comment_byte b) (passes is_comment_byte t) h in
    doubled_case b t parts.0 (doubled_passes t parts.1) (b == 39)
