-- Texts and times are read from their bytes.
use Rattle.std.proofs.Common.{◌≡◌, ℕ, zero, suc, ◌≤◌, ltb, Bool, true, false, cond, List, [], ◌∷◌, ◌++◌, length, take, drop, Option, Some, None, Ok, Err, refl, sym, ap, subst, ◌∙◌, append_assoc, arith}
use Rattle.std.specs.Str.{is_utf8}
use Rattle.std.proofs.lemmas.Bool.{ltb-false, le-ltb}
use Rattle.std.proofs.lemmas.List.{take_at, drop_at, take-append-drop, length-append, length-take}
use Rattle.std.proofs.lemmas.Str.{IsUtf8-from_is_utf8, is_utf8-from_IsUtf8}
use Rattle.snap_codec.specs.declared.fault.SnapFault.{SnapFault}
use Rattle.snap_codec.specs.declared.fault.SnapFault.TheVariants.{BadByte, Cut}
use Rattle.snap_codec.specs.Fitting.{IsNumber, IsTime}
use Rattle.snap_codec.specs.Reading.{chars_from, number_from, place_in, text_from, time_at}
use Rattle.snap_codec.specs.Spelling.{number_bytes, text_bytes, time_bytes}
use Rattle.snap_codec.proofs.NumberLemmas.{number_reads}
use Rattle.snap_codec.proofs.Short.{ShortText}
use Rattle.snap_codec.proofs.Taking.{IsBytes, IsBytes-drop, IsBytes-rest, Reads, Takes, Takes-then, bind_ok, done, guard_ok, ok_is}

-- a test that must be true didn't fail
must_ok : {A : Type 0} (b : Bool) (fault : SnapFault) (x z : A) → cond b (Ok x) (Err fault) ≡ done z → (b ≡ true) × (x ≡ z)
must_ok true fault x z e = (refl, ok_is x z e)
must_ok false fault x z e = absurd cc

text_takes : (place : ℕ) (bytes text rest : List ℕ) → IsBytes bytes → text_from place bytes ≡ Ok (text, rest) → Takes bytes (text_bytes text) rest × ShortText text
unfolding text_from
text_takes place bytes text rest fits e =
    let b = bind_ok (number_from place bytes) (λ n. chars_from place n.0 n.1) (text, rest) e in
    let count = b.0.0 in
    let behind = b.0.1 in
    let t = (number_reads place).takes bytes count behind fits b.1 in
    let g = guard_ok (ltb (length behind) count) (Cut place) (cond (is_utf8 (take count behind)) (Ok (take count behind, drop count behind)) (Err (BadByte place))) (Ok (text, rest)) (text, rest) refl b.2 in
    let long : count ≤ length behind = ltb-false _ _ g.0 in
    let u = must_ok (is_utf8 (take count behind)) (BadByte place) (take count behind, drop count behind) (text, rest) g.1 in
    let len : length (take count behind) ≡ count = omega (arith, length-take count behind) in
    let second : Takes behind (take count behind) (drop count behind) = record { parts = sym (take-append-drop count behind); rest_fits = IsBytes-drop count behind t.0.rest_fits } in
    let both = Takes-then bytes (number_bytes count) behind (take count behind) (drop count behind) t.0 second in
    let whole : Takes bytes (text_bytes (take count behind)) (drop count behind) = subst (λ (k : ℕ). Takes bytes (number_bytes k ++ take count behind) (drop count behind)) (sym len) both in
    let is_text : ShortText (take count behind) = record { utf8 = IsUtf8-from_is_utf8 (take count behind) u.0; long = subst IsNumber (sym len) t.1 } in
    subst (λ (p : List ℕ × List ℕ). Takes bytes (text_bytes p.0) p.1 × ShortText p.0) u.1 (whole, is_text)

text_again : (place : ℕ) (text rest : List ℕ) → ShortText text → text_from place (text_bytes text ++ rest) ≡ Ok (text, rest)
unfolding text_from
text_again place text rest is_text =
    let long : ltb (length (text ++ rest)) (length text) ≡ false = le-ltb _ _ (omega (arith, length-append text rest)) in
    let regrouped : text_bytes text ++ rest ≡ number_bytes (length text) ++ (text ++ rest) = append_assoc (number_bytes (length text)) text rest in
    ap (text_from place) regrouped ∙ rw ((number_reads place).again (length text) (text ++ rest) is_text.long, long, take_at text rest (length text) refl, drop_at text rest (length text) refl, is_utf8-from_IsUtf8 text is_text.utf8) refl

-- a text is read from its bytes
pub text_reads : (place : ℕ) → Reads text_bytes ShortText (text_from place)
text_reads place = record { takes = text_takes place; again = text_again place }

-- what is read behind a tag is read with it
pub tagged : (tag : ℕ) (bytes text rest : List ℕ) → Takes bytes text rest → Takes (tag ∷ bytes) (tag ∷ text) rest
tagged tag bytes text rest takes = record { parts = ap (λ (xs : List ℕ). tag ∷ xs) takes.parts; rest_fits = takes.rest_fits }

time_takes : (total : ℕ) (bytes : List ℕ) (time : Option ℕ) (rest : List ℕ) → IsBytes bytes → time_at total bytes ≡ Ok (time, rest) → Takes bytes (time_bytes time) rest × IsTime time
unfolding time_at
time_takes total [] time rest fits e = absurd cc
time_takes total (zero ∷ bytes) time rest fits e =
    subst (λ (x : Option ℕ × List ℕ). Takes (0 ∷ bytes) (time_bytes x.0) x.1 × IsTime x.0) (ok_is (None, bytes) (time, rest) e) (record { parts = refl; rest_fits = IsBytes-rest 0 bytes fits }, tt)
time_takes total (suc zero ∷ bytes) time rest fits e =
    let b = bind_ok (number_from (place_in total (1 ∷ bytes)) bytes) (λ n. Ok (Some n.0, n.1)) (time, rest) e in
    let t = (number_reads (place_in total (1 ∷ bytes))).takes bytes b.0.0 b.0.1 (IsBytes-rest 1 bytes fits) b.1 in
    subst (λ (x : Option ℕ × List ℕ). Takes (1 ∷ bytes) (time_bytes x.0) x.1 × IsTime x.0) (ok_is (Some b.0.0, b.0.1) (time, rest) b.2) (tagged 1 bytes (number_bytes b.0.0) b.0.1 t.0, t.1)
time_takes total (suc (suc tag) ∷ bytes) time rest fits e = absurd cc

time_again : (total : ℕ) (time : Option ℕ) (rest : List ℕ) → IsTime time → time_at total (time_bytes time ++ rest) ≡ Ok (time, rest)
unfolding time_at
time_again total None rest h = refl
time_again total (Some n) rest h = rw ((number_reads (place_in total (1 ∷ (number_bytes n ++ rest)))).again n rest h) refl

-- a time that may be none is read from its bytes
pub time_reads : (total : ℕ) → Reads time_bytes IsTime (time_at total)
time_reads total = record { takes = time_takes total; again = time_again total }
