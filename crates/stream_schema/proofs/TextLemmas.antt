-- No text is the name of a retired stream.
use Rattle.std.proofs.Common.{◌≡◌, ◌∙◌, ℕ, ◌<◌, List, [], ◌∷◌, ◌++◌, ◌&&◌, Bool, true, false, refl, inl, inr, arith, w8, Fits, get_or}
use Rattle.std.specs.Prelude.{String, string_bytes}
use Rattle.std.specs.Str.{IsUtf8}
use Rattle.std.proofs.Math.Utf8.{encode, encodes, scalar, scalar_cases}
use Rattle.std.proofs.lemmas.Bool.Decides.{nat_tests}
use Rattle.std.proofs.lemmas.Str.{IsUtf8-string_bytes}
use Rattle.stream_schema.specs.Streams.{retired_name}
use Rattle.stream_schema.specs.Table.{IsOwn}

-- bytes are below 256
pub own-from_bytes : (name : List ℕ) → ((i : ℕ) → Fits w8 (get_or name i 0)) → IsOwn name
own-from_bytes name fits number same = let first : Fits w8 256 = rw same at fits 0 in omega (arith, first)

-- both tests pass
head-true : (x y : Bool) → x && y ≡ true → x ≡ true
head-true true y e = refl
head-true false y e = cc

-- the first byte of a character
first-below : (c : ℕ) (rest : List ℕ) → c < 1114112 → get_or (encode c ++ rest) 0 0 < 256
unfolding encode
first-below c rest low = grind (arith, nat_tests)

-- a character is below its bound
scalar-below : (c : ℕ) → scalar c ≡ true → c < 1114112
scalar-below c is = elim (scalar_cases c is) [ inl low ↦ omega (arith, low) | inr high ↦ high.1 ]

-- a text in UTF-8 is no retired stream's name, by its first byte
pub own-from_utf8 : (name : List ℕ) → IsUtf8 name → IsOwn name
own-from_utf8 name ([], (is, spelled)) number same = let none : [] ≡ retired_name number = spelled ∙ same in cc
own-from_utf8 name (c ∷ cs, (is, spelled)) number same =
    let first = first-below c (encodes cs) (scalar-below c (head-true _ _ is)) in
    let there : encode c ++ encodes cs ≡ retired_name number = spelled ∙ same in
    let past : 256 < 256 = rw there at first in
    omega (arith, past)

-- the bytes of a string
pub own-string : {A : Type 0} (k : String A) → IsOwn (string_bytes k)
own-string k = own-from_utf8 (string_bytes k) (IsUtf8-string_bytes k)
