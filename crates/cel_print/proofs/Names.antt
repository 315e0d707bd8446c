-- An attribute under its own name.
use Rattle.std.proofs.Common.{◌≡◌, ℕ, true, List, refl}
use Rattle.std.specs.Str.{bytes_eq}
use Rattle.std.proofs.lemmas.Slice.Eq.{bytes_eq-Decides}
use Rattle.cel_grammar.specs.declared.mark.Mark.TheVariants as mark
use Rattle.cel_grammar.specs.Trees.{Scalar, Attr}
use Rattle.cel_print.specs.SourceWords.{is_own_name}

-- texts that are found equal are equal
pub bytes_eq_is : (a b : List ℕ) → bytes_eq a b ≡ true → a ≡ b
bytes_eq_is a b e = (bytes_eq-Decides a b).0 e

-- it is an attribute without a mark
pub own_name_is : (x : Scalar) (a : List ℕ) → is_own_name x a ≡ true → x ≡ Attr mark.Bare a
own_name_is (Attr mark.Bare b) a e = rw (bytes_eq_is b a e) refl
own_name_is x a e = absurd cc

-- a bare attribute of this name is it
pub own_name : (a : List ℕ) → is_own_name (Attr mark.Bare a) a ≡ true
own_name a = (bytes_eq-Decides a a).1 refl
