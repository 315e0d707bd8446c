-- What counting the places of a byte gives. No contract cites these laws.
use Rattle.std.proofs.Common.{◌≡◌, ℕ, zero, suc, ◌+◌, ◌-◌, ◌==◌, Bool, true, false, List, ◌∷◌, sym, ap, ◌∙◌, arith, length, drop, get_or, cond}
use Rattle.std.specs.Prelude.{if◌then◌else◌}
use Rattle.std.proofs.lemmas.List.{drop_all, drop_more}
use Rattle.std.proofs.lemmas.List.Sums.{sum_by-cons}
use Rattle.memchr.specs.Find.{is_byte, places, places_from}
use Rattle.cay_host.specs.Output.{count_lf}

length_if : (has : Bool) (place : ℕ) (later : List ℕ) → length (if has then place ∷ later else later) ≡ cond has 1 0 + length later
length_if true place later = omega arith
length_if false place later = omega arith

-- from a place on, as many places have an LF as stand behind it
count_places_from : (bytes : List ℕ) (i n : ℕ) → i + n ≡ length bytes → length (places_from (is_byte 10) bytes i n) ≡ count_lf (drop i bytes)
unfolding places_from
count_places_from bytes i zero end = sym (ap count_lf (drop_all i bytes (omega arith)))
count_places_from bytes i (suc n) end =
    length_if (is_byte 10 (get_or bytes i 0)) i (places_from (is_byte 10) bytes (i + 1) n)
    ∙ ap (λ m. cond (get_or bytes i 0 == 10) 1 0 + m) (count_places_from bytes (i + 1) n (omega arith))
    ∙ sym (ap count_lf (drop_more bytes i 0 (omega arith)) ∙ sum_by-cons _ (get_or bytes i 0) (drop (i + 1) bytes))

-- as many places have an LF as bytes are one
pub count_places : (bytes : List ℕ) → length (places (is_byte 10) bytes) ≡ count_lf bytes
count_places bytes = ap (λ n. length (places_from (is_byte 10) bytes 0 n)) whole ∙ count_places_from bytes 0 (length bytes) (omega arith)
  where
    whole : length bytes - 0 ≡ length bytes
    whole = omega arith
