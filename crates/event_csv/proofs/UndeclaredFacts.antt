-- Streams that aren't declared stand behind others, and no line tells.
use Rattle.std.proofs.Common.{◌≡◌, ◌∙◌, ℕ, zero, suc, List, [], ◌∷◌, ◌++◌, Bool, true, false, refl, sym, ap, subst, inl, inr}
use Rattle.std.specs.Prelude.{Option, Some, None, option_map, position, slice_get}
use Rattle.std.specs.List.{All}
use Rattle.std.specs.Str.{bytes_eq}
use Rattle.std.proofs.lemmas.Bool.{cases_Bool}
use Rattle.std.proofs.lemmas.Option.{get_or_from_slice_get, slice_get_within}
use Rattle.stream_schema.specs.Streams.{Entry, number_of}
use Rattle.stream_schema.proofs.PlaceLemmas.{position-found, position-here, position-past}
use Rattle.event_csv.specs.Event.{declared_stream, if_declared, known_event, record_event}
use Rattle.event_csv.specs.Fields.{line_fields}
use Rattle.event_csv.specs.Undeclared.{UndeclaredChangeNoEvent}

-- no place further back is no place
unshifted : (o : Option ℕ) → option_map suc o ≡ None → o ≡ None
unshifted None e = refl
unshifted (Some i) e = cc

-- a place that is one further back than another
place-before : (o : Option ℕ) (i : ℕ) → option_map suc o ≡ Some i → (j : ℕ) × (o ≡ Some j) × (suc j ≡ i)
place-before None i e = cc
place-before (Some j) i e = (j, refl, cc)

module _ {X : Type 0} (p : X → Bool) where
  -- what was found is found with more behind, by induction on the list
  found-before : (xs ys : List X) (i : ℕ) → position p xs ≡ Some i → position p (xs ++ ys) ≡ Some i
  found-before [] ys i e = cc
  found-before (x ∷ xs) ys i e = elim (cases_Bool (p x)) [
    | inl here ↦ position-here p x (xs ++ ys) here ∙ sym (position-here p x xs here) ∙ e
    | inr past ↦
        let at = place-before (position p xs) i (sym (position-past p x xs past) ∙ e) in
        position-past p x (xs ++ ys) past ∙ ap (option_map suc) (found-before xs ys at.0 at.1) ∙ ap Some at.2
  ]

  -- what passes stands behind, where none of the others does, by induction on these
  stands-behind : (xs ys : List X) (k : ℕ) (x : X) → position p xs ≡ None → slice_get (xs ++ ys) k ≡ Some x → p x ≡ true → (j : ℕ) × (slice_get ys j ≡ Some x)
  stands-behind [] ys k x none at passes = (k, at)
  stands-behind (z ∷ xs) ys zero x none at passes =
      let same : z ≡ x = cc in
      let first = sym (position-here p z xs (subst (λ y. p y ≡ true) (sym same) passes)) ∙ none in
      absurd cc
  stands-behind (z ∷ xs) ys (suc k) x none at passes = elim (cases_Bool (p z)) [
    | inl here ↦ let first = sym (position-here p z xs here) ∙ none in absurd cc
    | inr past ↦ stands-behind xs ys k x (unshifted (position p xs) (sym (position-past p z xs past) ∙ none)) at passes
  ]

-- what stands at a place of a list still does with more behind
at-before : {X : Type 0} (xs ys : List X) (i : ℕ) (x : X) → slice_get xs i ≡ Some x → slice_get (xs ++ ys) i ≡ Some x
at-before [] ys i x e = cc
at-before (z ∷ xs) ys zero x e = e
at-before (z ∷ xs) ys (suc i) x e = at-before xs ys i x e

-- a stream that isn't declared is none for a line
none-declared : (number : ℕ) (entry : Entry) → entry.declared ≡ false → if_declared number (Some entry) ≡ None
none-declared number entry e = rw e refl

module _ (streams more : List Entry) (undeclared : All (λ s. s.declared ≡ false) more) (name : List ℕ) where
  -- an entry behind isn't declared
  undeclared-at : (j : ℕ) (x : Entry) → slice_get more j ≡ Some x → x.declared ≡ false
  undeclared-at j x at = subst (λ (y : Entry). y.declared ≡ false) (get_or_from_slice_get more j x x at) (undeclared j x (slice_get_within more j x at))

  -- a name that isn't there is none of a declared stream behind
  behind : (o : Option ℕ) → position (λ s. bytes_eq name s.name) streams ≡ None → position (λ s. bytes_eq name s.name) (streams ++ more) ≡ o → declared_stream (streams ++ more) o ≡ None
  behind None none e = refl
  behind (Some k) none e =
      let (x, at, passes) = position-found (λ (s : Entry). bytes_eq name s.name) (streams ++ more) k e in
      let (j, there) = stands-behind (λ (s : Entry). bytes_eq name s.name) streams more k x none at passes in
      ap (if_declared k) at ∙ none-declared k x (undeclared-at j x there)

  -- the declared stream of a name is the same
  by-number : (o : Option ℕ) → number_of name streams ≡ o → declared_stream (streams ++ more) (number_of name (streams ++ more)) ≡ declared_stream streams o
  by-number None e = behind (number_of name (streams ++ more)) e refl
  by-number (Some i) e =
      let (x, at, passes) = position-found (λ (s : Entry). bytes_eq name s.name) streams i e in
      ap (declared_stream (streams ++ more)) (found-before (λ (s : Entry). bytes_eq name s.name) streams more i e)
      ∙ ap (if_declared i) (at-before streams more i x at ∙ sym at)

-- so is the event of a record
same-record : (streams more : List Entry) → All (λ s. s.declared ≡ false) more → (record_fields : Option (List (List ℕ))) → record_event (streams ++ more) record_fields ≡ record_event streams record_fields
same-record streams more undeclared None = refl
same-record streams more undeclared (Some []) = refl
same-record streams more undeclared (Some (name ∷ fields)) = ap (λ stream. known_event stream fields) (by-number streams more undeclared name (number_of name streams) refl)

-- and of a line
pub undeclared_change_no_event : UndeclaredChangeNoEvent
undeclared_change_no_event streams more line undeclared = rw (same-record streams more undeclared (line_fields line)) refl
