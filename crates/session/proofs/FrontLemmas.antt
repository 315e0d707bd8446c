-- Fronts of rows by stream, before and after one is made or forgotten.
use Rattle.std.proofs.Common.{◌≡◌, ◌∙◌, sym, ap, subst, refl, ℕ, zero, suc, ◌<◌, ◌≤◌, ◌≢◌, List, [], ◌∷◌, ◌++◌, Option, Some, None, inl, inr, get_or, length, slice_get, arith}
use Rattle.std.specs.Prelude.{◌⊎◌, slice_set}
use Rattle.std.proofs.lemmas.List.{get_or_append_left, length-append, length-map, length-set, map-append}
use Rattle.std.proofs.lemmas.Option.{slice_get_within}
use Rattle.stream_schema.specs.Streams.{Entry, retired, retired_name, stream_names}
use Rattle.catalogue.proofs.LeftLemmas.{streams_many}
use Rattle.catalogue.proofs.LeftProgramLemmas.{name_kept}
use Rattle.result_text.specs.Front.{front_of}
use Rattle.session.specs.Fronts.{AreFronts, name_in}

-- where no front is made, none has another name
pub no_fronts : (streams : List Entry) → AreFronts streams []
no_fronts streams = record { within = omega arith; named = λ stream front made. cc }

-- what stands at a place was put there, or it is another place, where it stood before, by induction on the items
set_at : {X : Type 0} (xs : List X) (i j : ℕ) (x y : X) → slice_get (slice_set xs i x) j ≡ Some y → ((j ≡ i) × (x ≡ y)) ⊎ ((j ≢ i) × (slice_get xs j ≡ Some y))
set_at [] i j x y e = cc
set_at (z ∷ xs) zero zero x y e = inl (refl, cc)
set_at (z ∷ xs) zero (suc j) x y e = inr ((λ same. cc), e)
set_at (z ∷ xs) (suc i) zero x y e = inr ((λ same. cc), e)
set_at (z ∷ xs) (suc i) (suc j) x y e = elim (set_at xs i j x y e) [ inl p ↦ inl (ap suc p.0, p.1) | inr p ↦ inr ((λ same. p.0 (omega (arith, same))), p.1) ]

-- a place without a front brings none, by induction on the fronts
none_more : {X : Type 0} (xs : List (Option X)) (j : ℕ) (y : X) → slice_get (xs ++ None ∷ []) j ≡ Some (Some y) → slice_get xs j ≡ Some (Some y)
none_more [] zero y e = cc
none_more [] (suc j) y e = cc
none_more (x ∷ xs) zero y e = e
none_more (x ∷ xs) (suc j) y e = none_more xs j y e

none_some : {X : Type 0} {x : X} → ◌≡◌ {A = Option X} None (Some x) → ⊥
none_some e = cc

some_is : {X : Type 0} {x y : X} → ◌≡◌ {A = Option X} (Some x) (Some y) → x ≡ y
some_is e = cc

module _ (streams : List Entry) (fronts : List (Option (List ℕ))) (are : AreFronts streams fronts) where
  -- one place more, without a front
  pub place_more : length fronts < length streams → AreFronts streams (fronts ++ None ∷ [])
  place_more less = record {
    within = omega (arith, less, length-append fronts (None ∷ []));
    named = λ stream front made. are.named stream front (none_more fronts stream front made);
  }

  -- the front of a stream is made
  pub front_made : (stream : ℕ) (front : List ℕ) → front ≡ front_of (name_in streams stream) → AreFronts streams (slice_set fronts stream (Some front))
  front_made stream front is = record {
    within = subst (λ n. n ≤ length streams) (sym (length-set fronts stream (Some front))) are.within;
    named = λ other found made. elim (set_at fronts stream other (Some front) (Some found) made) [
      | inl here ↦ sym (some_is here.1) ∙ is ∙ ap (λ s. front_of (name_in streams s)) (sym here.0)
      | inr there ↦ are.named other found there.1
    ];
  }

  module _ (stream : ℕ) where
    as_many : length fronts ≤ length (retired streams stream)
    as_many = subst (λ n. length fronts ≤ n) (sym (streams_many streams stream (retired_name stream))) are.within

    still_named : (other : ℕ) (front : List ℕ) → other ≢ stream → slice_get fronts other ≡ Some (Some front) → front ≡ front_of (name_in (retired streams stream) other)
    still_named other front apart made = are.named other front made ∙ ap front_of (sym (name_kept streams stream other (retired_name stream) apart))

    -- where the front of a stream is forgotten that is retired, the others have the names of theirs
    pub front_forgotten : AreFronts (retired streams stream) (slice_set fronts stream None)
    front_forgotten = record {
      within = subst (λ n. n ≤ length (retired streams stream)) (sym (length-set fronts stream None)) as_many;
      named = λ other front made. elim (set_at fronts stream other None (Some front) made) [ inl here ↦ absurd (none_some here.1) | inr there ↦ still_named other front there.0 there.1 ];
    }

    -- where it wasn't made, so have all
    pub front_past : length fronts ≤ stream → AreFronts (retired streams stream) fronts
    front_past past = record {
      within = as_many;
      named = λ other front made. still_named other front (λ same. absurd (let less = slice_get_within fronts other (Some front) made in omega (arith, less, past, same))) made;
    }

  -- where streams come, so have all
  pub streams_more : (more : List Entry) → AreFronts (streams ++ more) fronts
  streams_more more = record {
    within = omega (arith, are.within, length-append streams more);
    named = λ stream front made.
        let less = slice_get_within fronts stream (Some front) made in
        are.named stream front made
        ∙ ap front_of (sym (ap (λ names. get_or names stream []) (map-append (λ (s : Entry). s.name) streams more) ∙ get_or_append_left (stream_names streams) (stream_names more) [] stream (omega (arith, less, are.within, length-map streams (λ (s : Entry). s.name)))));
  }
