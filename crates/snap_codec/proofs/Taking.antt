-- What a reader takes from the front of bytes, and what it reads again.
use Rattle.std.proofs.Common.{◌≡◌, ℕ, suc, ◌+◌, ◌<◌, Bool, true, false, cond, List, ◌∷◌, ◌++◌, get_or, take, drop, Result, Ok, Err, refl, sym, ap, ◌∙◌, append_assoc, arith, inl, inr}
use Rattle.std.proofs.lemmas.Bool.{cases_lt}
use Rattle.std.proofs.lemmas.List.{length-take, get_or-drop, get_or-take, get_or_past}
use Rattle.snap_codec.specs.declared.fault.SnapFault.{SnapFault}
use Rattle.snap_codec.specs.Reading.{◌>>=◌, Read}

-- each is a byte
abbrev pub IsBytes : List ℕ → Type 0
IsBytes bytes = (i : ℕ) → get_or bytes i 0 < 256

-- those behind some are bytes too
pub IsBytes-drop : (n : ℕ) (bytes : List ℕ) → IsBytes bytes → IsBytes (drop n bytes)
IsBytes-drop n bytes h i = rw get_or-drop (h (n + i))

-- and so are the first ones
pub IsBytes-take : (n : ℕ) (bytes : List ℕ) → IsBytes bytes → IsBytes (take n bytes)
IsBytes-take n bytes h i =
    elim (cases_lt i n) [
      | inl lt ↦ rw (get_or-take n bytes i 0 lt) (h i)
      | inr le ↦ rw (get_or_past (take n bytes) i 0 (omega (arith, length-take n bytes))) (omega arith)
    ]

-- and those behind the first
pub IsBytes-rest : (b : ℕ) (bytes : List ℕ) → IsBytes (b ∷ bytes) → IsBytes bytes
IsBytes-rest b bytes h i = h (suc i)

-- a step that didn't fail
pub bind_ok : {A B : Type 0} (r : Result A SnapFault) (f : A → Result B SnapFault) (y : B) → (r >>= f) ≡ Ok y → (x : A) × (r ≡ Ok x) × (f x ≡ Ok y)
bind_ok (Ok x) f y e = (x, refl, e)
bind_ok (Err fault) f y e = absurd cc

-- a test that didn't fail
pub guard_ok : {A : Type 0} (b : Bool) (fault : SnapFault) (x y : Result A SnapFault) (z : A) → y ≡ Ok z → cond b (Err fault) x ≡ y → (b ≡ false) × (x ≡ Ok z)
guard_ok true fault x y z is e = absurd cc
guard_ok false fault x y z is e = (refl, e ∙ is)

-- a value that was read
abbrev pub done : {A : Type 0} → A → Result A SnapFault
done x = Ok x

-- what is read is one value
pub ok_is : {A : Type 0} (x y : A) → done x ≡ done y → x ≡ y
ok_is x y e = cc

-- the bytes are these, and the rest, which are bytes too
pub record Takes (bytes text rest : List ℕ) : Type 0 where
  pub parts : bytes ≡ text ++ rest
  pub rest_fits : IsBytes rest

-- one after the other
pub Takes-then : (a x b y c : List ℕ) → Takes a x b → Takes b y c → Takes a (x ++ y) c
Takes-then a x b y c p q = record { parts = p.parts ∙ ap (λ (t : List ℕ). x ++ t) q.parts ∙ sym (append_assoc x y c); rest_fits = q.rest_fits }

-- a reader reads values that fit, each exactly from its bytes, whatever follows
pub record Reads {X : Type 0} (bytes_of : X → List ℕ) (Fits : X → Type 0) (read : List ℕ → Read X) : Type 0 where
  pub takes : (bytes : List ℕ) (x : X) (rest : List ℕ) → IsBytes bytes → read bytes ≡ Ok (x, rest) → Takes bytes (bytes_of x) rest × Fits x
  pub again : (x : X) (rest : List ℕ) → Fits x → read (bytes_of x ++ rest) ≡ Ok (x, rest)
