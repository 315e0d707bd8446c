-- Names in tables of streams.
use Rattle.std.proofs.Common.{◌≡◌, ◌≢◌, ◌∙◌, ℕ, zero, suc, ◌<◌, ◌≤◌, List, [], ◌∷◌, ◌++◌, true, false, cond, nat_lt, length, get_or, refl, sym, ap, inl, inr, arith}
use Rattle.std.specs.Prelude.{Some, None, slice_get, Contains, AllPairs}
use Rattle.std.specs.Str.{bytes_eq}
use Rattle.std.proofs.lemmas.Bool.{cases_Bool}
use Rattle.std.proofs.lemmas.Bool.Decides.{nat_tests}
use Rattle.std.proofs.lemmas.List.{get_or-map, get_or_append_left, length-append, length-map}
use Rattle.std.proofs.lemmas.List.Quantifiers.{position-Some}
use Rattle.std.proofs.lemmas.List.Sums.{position_or_len_is}
use Rattle.std.proofs.lemmas.Option.{get_or_from_slice_get, slice_get_within}
use Rattle.std.proofs.lemmas.Slice.Eq.{bytes_eq-Decides}
use Rattle.stream_schema.specs.Streams.{Entry, number_of, stream_names}
use Rattle.stream_schema.proofs.PlaceLemmas.{position-found}

-- what stands in a list stands there with more behind it
pub get-append : {X : Type 0} (xs ys : List X) (i : ℕ) (x : X) → slice_get xs i ≡ Some x → slice_get (xs ++ ys) i ≡ Some x
get-append [] ys i x e = cc
get-append (z ∷ xs) ys zero x e = e
get-append (z ∷ xs) ys (suc i) x e = get-append xs ys i x e

-- an item behind a list
pub get-end : {X : Type 0} (xs : List X) (x : X) (ys : List X) → slice_get (xs ++ x ∷ ys) (length xs) ≡ Some x
get-end [] x ys = refl
get-end (z ∷ xs) x ys = get-end xs x ys

-- what stands at the front of two lists, or behind it
pub get-front : {X : Type 0} (xs ys : List X) (i : ℕ) (x : X) → slice_get (xs ++ ys) i ≡ Some x → i < length xs → slice_get xs i ≡ Some x
get-front [] ys i x e lt = absurd (omega arith)
get-front (z ∷ xs) ys zero x e lt = e
get-front (z ∷ xs) ys (suc i) x e lt = get-front xs ys i x e (omega arith)

-- past the first items stands one of the second
pub get-back : {X : Type 0} (xs ys : List X) (i : ℕ) (x : X) → slice_get (xs ++ ys) i ≡ Some x → length xs ≤ i → Contains ys x
get-back [] ys i x e le = (i, slice_get_within ys i x e, get_or_from_slice_get ys i x x e)
get-back (z ∷ xs) ys zero x e le = absurd (omega arith)
get-back (z ∷ xs) ys (suc i) x e le = get-back xs ys i x e (omega arith)

-- the test of two numbers
below : (m n : ℕ) → m < n → nat_lt m n ≡ true
below m n lt = grind (arith, nat_tests)

-- a name that differs
pub other_name : (x y : List ℕ) → x ≢ y → bytes_eq x y ≡ false
other_name x y other = elim (cases_Bool (bytes_eq x y)) [
  | inl same ↦ absurd (other ((bytes_eq-Decides x y).0 same))
  | inr apart ↦ apart
]

-- a number is that of the first stream of a name
pub number-is : (name : List ℕ) (streams : List Entry) (n : ℕ) (d : Entry) → n < length streams → ((k : ℕ) → k < n → bytes_eq name (get_or streams k d).name ≡ false) → bytes_eq name (get_or streams n d).name ≡ true
    → number_of name streams ≡ Some n
number-is name streams n d lt before here =
    ap (λ i. cond (nat_lt i (length streams)) (Some i) None) (position_or_len_is (λ (s : Entry). bytes_eq name s.name) streams n d (omega arith) before (λ inside. here))
    ∙ ap (λ b. cond b (Some n) None) (below n (length streams) lt)

-- the stream with the number of a name has the name
pub number-found : (name : List ℕ) (streams : List Entry) (n : ℕ) → number_of name streams ≡ Some n → (e : Entry) × (slice_get streams n ≡ Some e) × (e.name ≡ name)
number-found name streams n found = let (e, at, same) = position-found (λ (s : Entry). bytes_eq name s.name) streams n found in (e, at, sym ((bytes_eq-Decides name e.name).0 same))

-- a stream keeps its number where streams come behind
pub number-append : (name : List ℕ) (streams more : List Entry) (n : ℕ) → number_of name streams ≡ Some n → number_of name (streams ++ more) ≡ Some n
number-append name streams more n found =
    let (d, at, named) = number-found name streams n found in
    let first = position-Some (λ (s : Entry). bytes_eq name s.name) streams n d found in
    let size = length-append streams more in
    let inside : n < length (streams ++ more) = omega (arith, size, first.0) in
    number-is name (streams ++ more) n d inside
    (λ k lt. let within : k < length streams = omega (arith, first.0) in ap (λ (s : Entry). bytes_eq name s.name) (get_or_append_left streams more d k within) ∙ first.2 k lt)
    (ap (λ (s : Entry). bytes_eq name s.name) (get_or_append_left streams more d n first.0) ∙ first.1)

-- a stream that is found at the front has its number there
pub number-front : (name : List ℕ) (streams more : List Entry) (n : ℕ) → number_of name (streams ++ more) ≡ Some n → n < length streams → number_of name streams ≡ Some n
number-front name streams more n found lt =
    let (d, at, named) = number-found name (streams ++ more) n found in
    let first = position-Some (λ (s : Entry). bytes_eq name s.name) (streams ++ more) n d found in
    number-is name streams n d lt
    (λ k before. let within : k < length streams = omega arith in ap (λ (s : Entry). bytes_eq name s.name) (sym (get_or_append_left streams more d k within)) ∙ first.2 k before)
    (ap (λ (s : Entry). bytes_eq name s.name) (sym (get_or_append_left streams more d n lt)) ∙ first.1)

-- where no two streams have one name, each has the number of its place
pub number-at : (streams : List Entry) → AllPairs (λ x y. x ≢ y) (stream_names streams) → (n : ℕ) (e : Entry) → slice_get streams n ≡ Some e → number_of e.name streams ≡ Some n
number-at streams apart n e at =
    let inside : n < length streams = slice_get_within streams n e at in
    let size : length (stream_names streams) ≡ length streams = length-map streams (λ (s : Entry). s.name) in
    let here : get_or streams n e ≡ e = get_or_from_slice_get streams n e e at in
    let name_at = λ (k : ℕ) (lt : k < length streams). get_or-map (λ (s : Entry). s.name) streams k e [] lt in
    number-is e.name streams n e inside
    (λ k lt. other_name e.name (get_or streams k e).name
    (λ same. apart k n [] lt (omega arith) (name_at k (omega arith) ∙ sym same ∙ sym (ap (λ (s : Entry). s.name) here) ∙ sym (name_at n inside))))
    ((bytes_eq-Decides e.name (get_or streams n e).name).1 (sym (ap (λ (s : Entry). s.name) here)))
