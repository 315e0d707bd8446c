-- Where names stand among streams, with one more stream, and with one renamed.
use Rattle.std.proofs.Common.{◌≡◌, ◌∙◌, ℕ, zero, suc, ◌<◌, ◌≢◌, List, [], ◌∷◌, ◌++◌, Bool, true, false, cond, length, refl, sym, ap, inl, inr, ◌⊎◌, get_or, subst}
use Rattle.std.specs.Prelude.{Option, Some, None, slice_get, option_map, position}
use Rattle.std.specs.List.{AllByRecursion, IsDistinct}
use Rattle.std.specs.Map.{update}
use Rattle.std.specs.Str.{bytes_eq}
use Rattle.std.proofs.lemmas.Bool.{cases_Bool}
use Rattle.std.proofs.lemmas.List.{map-append}
use Rattle.std.proofs.lemmas.List.Elements.{Contains-get_or}
use Rattle.std.proofs.lemmas.List.Quantifiers.{all_pairs_push}
use Rattle.std.proofs.lemmas.Map.Made.{AllPairs-from_IsDistinct, IsDistinct-from_AllPairs}
use Rattle.std.proofs.lemmas.Slice.Eq.{bytes_eq-Decides}
use Rattle.stream_schema.specs.Streams.{AreThere, Entry, number_of, renamed, retired_name, stream_names}
use Rattle.stream_schema.specs.Table.{IsOwn}
use Rattle.stream_schema.proofs.NameLemmas.{absent-from_none, all-at, other-name}
use Rattle.stream_schema.proofs.PlaceLemmas.{position-here, position-past}

-- the place among more names
shifted : (o : Option ℕ) (b : Bool) (n : ℕ) → o ≡ None → option_map suc (cond b (Some n) o) ≡ cond b (Some (suc n)) (option_map suc o)
shifted o true n e = refl
shifted o false n e = refl

-- no place further back is no place
unshifted : (o : Option ℕ) → option_map suc o ≡ None → o ≡ None
unshifted None e = refl
unshifted (Some i) e = cc

-- a name is itself
itself : (x y : List ℕ) → y ≡ x → bytes_eq x y ≡ true
itself x y e = (bytes_eq-Decides x y).1 (sym e)

-- the first place with one more item, where none passes before it, by induction on the list
position-push : {X : Type 0} (p : X → Bool) (xs : List X) (y : X) → position p xs ≡ None → position p (xs ++ y ∷ []) ≡ cond (p y) (Some (length xs)) None
position-push p [] y none =
    elim (cases_Bool (p y)) [
      | inl here ↦ position-here p y [] here ∙ rw here refl
      | inr past ↦ position-past p y [] past ∙ rw past refl
    ]
position-push p (x ∷ xs) y none =
    elim (cases_Bool (p x)) [
      | inl here ↦ let at = sym (position-here p x xs here) ∙ none in cc
      | inr past ↦
          let behind : position p xs ≡ None = unshifted (position p xs) (sym (position-past p x xs past) ∙ none) in
          position-past p x (xs ++ y ∷ []) past ∙ ap (option_map suc) (position-push p xs y behind) ∙ shifted None (p y) (length xs) refl
    ]

-- the first place with one more item, which fails, by induction on the list
pub position-kept : {X : Type 0} (p : X → Bool) (xs : List X) (y : X) → p y ≡ false → position p (xs ++ y ∷ []) ≡ position p xs
position-kept p [] y past = position-past p y [] past
position-kept p (x ∷ xs) y past =
    elim (cases_Bool (p x)) [
      | inl here ↦ position-here p x (xs ++ y ∷ []) here ∙ sym (position-here p x xs here)
      | inr other ↦ position-past p x (xs ++ y ∷ []) other ∙ ap (option_map suc) (position-kept p xs y past) ∙ sym (position-past p x xs other)
    ]

-- one more stream, of a new name
pub number_of-push : (streams : List Entry) (s : Entry) → number_of s.name streams ≡ None → (name : List ℕ) → update bytes_eq (λ n. number_of n streams) s.name (Some (length streams)) name ≡ number_of name (streams ++ s ∷ [])
number_of-push streams s absent name =
    elim (cases_Bool (bytes_eq s.name name)) [
      | inl same ↦
          let is : s.name ≡ name = (bytes_eq-Decides s.name name).0 same in
          rw same (sym (position-push (λ (t : Entry). bytes_eq name t.name) streams s (rw is at absent) ∙ rw (itself name s.name is) refl))
      | inr apart ↦ rw apart (sym (position-kept (λ (t : Entry). bytes_eq name t.name) streams s (other-name s.name name apart)))
    ]

-- no name is another one's, with one more stream of a new name
pub distinct-push : (streams : List Entry) (s : Entry) → number_of s.name streams ≡ None → IsDistinct bytes_eq (stream_names streams) → IsDistinct bytes_eq (stream_names (streams ++ s ∷ []))
distinct-push streams s absent distinct =
    let names = stream_names streams in
    let others : (k : ℕ) (d : List ℕ) → k < length names → get_or names k d ≢ s.name =
    (λ k d lt same. absent-from_none (λ (t : Entry). t.name) s.name streams absent (rw same at (Contains-get_or names k d lt))) in
    rw (map-append (λ (t : Entry). t.name) streams (s ∷ []))
    (IsDistinct-from_AllPairs bytes_eq-Decides (names ++ s.name ∷ []) (all_pairs_push (λ x y. x ≢ y) names s.name (AllPairs-from_IsDistinct bytes_eq-Decides names distinct) others))

-- what stands in a list with one more item
at-push : {X : Type 0} (xs : List X) (y : X) (i : ℕ) (z : X) → slice_get (xs ++ y ∷ []) i ≡ Some z → (slice_get xs i ≡ Some z) ⊎ (y ≡ z)
at-push [] y zero z e = inr cc
at-push [] y (suc i) z e = cc
at-push (x ∷ xs) y zero z e = inl e
at-push (x ∷ xs) y (suc i) z e = at-push xs y i z e

-- none is retired, with one more
pub there-push : (streams : List Entry) (s : Entry) → IsOwn s.name → AreThere streams → AreThere (streams ++ s ∷ [])
there-push streams s own there number is =
    elim (at-push (stream_names streams) s.name number (retired_name number) (rw (map-append (λ (t : Entry). t.name) streams (s ∷ [])) at is)) [
      | inl before ↦ there number before
      | inr last ↦ own number last
    ]

-- a name that is none of these has no place among them
pub none-from_apart : (name : List ℕ) (streams : List Entry) → AllByRecursion (λ y. bytes_eq name y ≡ false) (stream_names streams) → number_of name streams ≡ None
none-from_apart name [] apart = refl
none-from_apart name (s ∷ streams) apart = position-past (λ (t : Entry). bytes_eq name t.name) s streams apart.0 ∙ ap (option_map suc) (none-from_apart name streams apart.1)

-- what holds of all names and of one more holds with that in the place of another
all-renamed : (P : List ℕ → Type 0) (streams : List Entry) (i : ℕ) (new : List ℕ) → AllByRecursion P (stream_names streams) → P new → AllByRecursion P (stream_names (renamed streams i new))
all-renamed P [] i new all has = tt
all-renamed P (s ∷ streams) zero new all has = (has, all.1)
all-renamed P (s ∷ streams) (suc i) new all has = (all.0, all-renamed P streams i new all.1 has)

-- no name is another one's, where one is replaced by a new one
pub distinct-renamed : (streams : List Entry) (i : ℕ) (new : List ℕ) → AllByRecursion (λ y. bytes_eq new y ≡ false) (stream_names streams) → IsDistinct bytes_eq (stream_names streams)
    → IsDistinct bytes_eq (stream_names (renamed streams i new))
unfolding IsDistinct
distinct-renamed [] i new apart distinct = tt
distinct-renamed (s ∷ streams) zero new apart distinct = (apart.1, distinct.1)
distinct-renamed (s ∷ streams) (suc i) new apart distinct =
    (all-renamed (λ y. bytes_eq s.name y ≡ false) streams i new distinct.0 (other-name new s.name apart.0), distinct-renamed streams i new apart.1 distinct.1)

-- the old name of a renamed stream is no stream's then
none-renamed : (streams : List Entry) (i : ℕ) (old new : List ℕ) → slice_get (stream_names streams) i ≡ Some old → bytes_eq old new ≡ false → IsDistinct bytes_eq (stream_names streams) → number_of old (renamed streams i new) ≡ None
unfolding IsDistinct
none-renamed [] i old new at apart distinct = cc
none-renamed (s ∷ streams) zero old new at apart distinct =
    let same : s.name ≡ old = cc in
    position-past (λ (t : Entry). bytes_eq old t.name) (record { name = new; schema = s.schema; declared = s.declared }) streams apart
    ∙ ap (option_map suc) (none-from_apart old streams (subst (λ n. AllByRecursion (λ y. bytes_eq n y ≡ false) (stream_names streams)) same distinct.0))
none-renamed (s ∷ streams) (suc i) old new at apart distinct =
    position-past (λ (t : Entry). bytes_eq old t.name) s (renamed streams i new) (other-name s.name old (all-at (λ y. bytes_eq s.name y ≡ false) (stream_names streams) i old distinct.0 at))
    ∙ ap (option_map suc) (none-renamed streams i old new at apart distinct.1)

-- the other names keep their places
kept-renamed : (streams : List Entry) (i : ℕ) (old new name : List ℕ) → slice_get (stream_names streams) i ≡ Some old → bytes_eq name old ≡ false → bytes_eq name new ≡ false → number_of name (renamed streams i new) ≡ number_of name streams
kept-renamed [] i old new name at other apart = cc
kept-renamed (s ∷ streams) zero old new name at other apart =
    let not_here : bytes_eq name s.name ≡ false = (let same : s.name ≡ old = cc in rw same other) in
    position-past (λ (t : Entry). bytes_eq name t.name) (record { name = new; schema = s.schema; declared = s.declared }) streams apart
    ∙ sym (position-past (λ (t : Entry). bytes_eq name t.name) s streams not_here)
kept-renamed (s ∷ streams) (suc i) old new name at other apart =
    elim (cases_Bool (bytes_eq name s.name)) [
      | inl here ↦ position-here (λ (t : Entry). bytes_eq name t.name) s (renamed streams i new) here ∙ sym (position-here (λ (t : Entry). bytes_eq name t.name) s streams here)
      | inr past ↦
          position-past (λ (t : Entry). bytes_eq name t.name) s (renamed streams i new) past ∙ ap (option_map suc) (kept-renamed streams i old new name at other apart)
          ∙ sym (position-past (λ (t : Entry). bytes_eq name t.name) s streams past)
    ]

-- where names stand once one of them is replaced by another
pub number_of-renamed : (streams : List Entry) (i : ℕ) (old new : List ℕ) → slice_get (stream_names streams) i ≡ Some old → bytes_eq old new ≡ false → IsDistinct bytes_eq (stream_names streams)
    → (name : List ℕ) → bytes_eq name new ≡ false → update bytes_eq (λ n. number_of n streams) old None name ≡ number_of name (renamed streams i new)
number_of-renamed streams i old new at apart distinct name other =
    elim (cases_Bool (bytes_eq old name)) [
      | inl same ↦ rw same (sym (subst (λ n. number_of n (renamed streams i new) ≡ None) ((bytes_eq-Decides old name).0 same) (none-renamed streams i old new at apart distinct)))
      | inr not_old ↦ rw not_old (sym (kept-renamed streams i old new name at (other-name old name not_old) other))
    ]
