-- Queries that are found by the names of their streams.
use Rattle.std.proofs.Common.{◌≡◌, ◌≢◌, ◌∙◌, ℕ, zero, suc, ◌<◌, List, [], ◌∷◌, Bool, length, get_or, refl, sym, ap, subst, true, false, inl, inr, arith}
use Rattle.std.specs.Prelude.{◌==◌, AllPairs, Contains, None, Option, Some, option_map, position, slice_get}
use Rattle.std.proofs.lemmas.Bool.{cases_Bool, cases_lt}
use Rattle.std.proofs.lemmas.List.{length-map}
use Rattle.std.proofs.lemmas.List.Elements.{Contains-get_or}
use Rattle.std.proofs.lemmas.List.Quantifiers.{position-Some}
use Rattle.std.proofs.lemmas.Option.{get_or_from_slice_get, slice_get_within}
use Rattle.event_types.proofs.NumberLemmas.{is_same, same_number}
use Rattle.stream_schema.proofs.PlaceLemmas.{position-here, position-past}
use Rattle.stream_schema.specs.Streams.{Entry, stream_names}
use Rattle.catalogue.specs.declared.numbering.Published.{Published}
use Rattle.catalogue.specs.Catalogued.{Catalogued, query_in}
use Rattle.catalogue.specs.Leaving.{HasName, HasNoQuery, IsFirstNamed, place_of}
use Rattle.catalogue.specs.Standing.{StandsInOrder}
use Rattle.catalogue.proofs.LeftProgramLemmas.{at_within, name_there, other_stream}
use Rattle.work_order.proofs.NumbersLemmas.{place_back}
use Rattle.catalogue.proofs.StandingLemmas.{item_there, name_at, publication_small, stream_at, stream_known}

none_later : (o : Option ℕ) → option_map suc o ≡ None → o ≡ None
none_later None e = refl
none_later (Some k) e = cc

not_none : (k : ℕ) → Some k ≡ None → ⊥
not_none k e = cc

-- where none passes, no item does
none_passes : {X : Type 0} (p : X → Bool) (xs : List X) (k : ℕ) (x : X) → position p xs ≡ None → slice_get xs k ≡ Some x → p x ≡ false
none_passes p [] k x none there = cc
none_passes p (y ∷ xs) zero x none there = elim (cases_Bool (p y)) [
  | inl here ↦ absurd (not_none 0 (sym (position-here p y xs here) ∙ none))
  | inr past ↦ (let same : y ≡ x = cc in subst (λ z. p z ≡ false) same past)
]
none_passes p (y ∷ xs) (suc k) x none there = elim (cases_Bool (p y)) [
  | inl here ↦ absurd (not_none 0 (sym (position-here p y xs here) ∙ none))
  | inr past ↦ none_passes p xs k x (none_later (position p xs) (sym (position-past p y xs past) ∙ none)) there
]

module _ (c : Catalogued) (stands : StandsInOrder c) (name : List ℕ) where
  abbrev names : List (List ℕ)
  names = stream_names c.streams

  -- the name of a query is that of its stream
  its_name : (number : ℕ) → number < length c.order → ((query_in c number).stream < length names) × ((query_in c number).name ≡ get_or names (query_in c number).stream [])
  its_name number small =
      let within = at_within c stands number small in
      let known = stream_known c stands number (place_of c number) refl within in
      (omega (arith, known.within, length-map c.streams (λ (s : Entry). s.name)), name_at c stands number (place_of c number) refl within)

  -- where no stream has the name, no query has it
  pub no_stream : (Contains names name → ⊥) → HasNoQuery c name
  no_stream absent number small same =
      let (within, is) = its_name number small in
      absent (subst (Contains names) (sym is ∙ same) (Contains-get_or names (query_in c number).stream [] within))

  module _ (stream : ℕ) (there : slice_get names stream ≡ Some name) (distinct : AllPairs (λ x y. x ≢ y) names) where
    -- a query that has the name publishes its stream
    its_stream : (number : ℕ) → number < length c.order → (query_in c number).name ≡ name → (query_in c number).stream ≡ stream
    its_stream number small same =
        let other : ℕ = (query_in c number).stream in
        let (within, is) = its_name number small in
        let stream_within : stream < length names = slice_get_within names stream name there in
        let both : get_or names other [] ≡ get_or names stream [] = sym is ∙ same ∙ sym (get_or_from_slice_get names stream name [] there) in
        elim (cases_lt other stream) [
          | inl before ↦ absurd (distinct other stream [] before stream_within both)
          | inr past ↦ elim (cases_lt stream other) [
            | inl after ↦ absurd (distinct stream other [] after within (sym both))
            | inr equal ↦ (omega (arith, past, equal))
          ]
        ]

    -- where none publishes the stream, no query has the name
    pub no_publisher : position (λ (q : Published). q.stream == stream) c.published ≡ None → HasNoQuery c name
    no_publisher none number small same =
        let within = at_within c stands number small in
        let (p, here) = item_there c.published (place_of c number) (publication_small c stands number (place_of c number) refl within) in
        let is : p.stream ≡ stream = stream_at c stands number (place_of c number) refl within p here ∙ its_stream number small same in
        let told : (p.stream == stream) ≡ false = none_passes (λ (q : Published). q.stream == stream) c.published (place_of c number) p none here in
        let yes : (p.stream == stream) ≡ true = is_same p.stream stream is in
        cc

    module _ (place number : ℕ) (found : position (λ (q : Published). q.stream == stream) c.published ≡ Some place) (here : slice_get c.order place ≡ Some number) where
      inside : place < length c.order
      inside = slice_get_within c.order place number here

      is_number : get_or c.order place 0 ≡ number
      is_number = get_or_from_slice_get c.order place number 0 here

      small : number < length c.order
      small = subst (λ n. n < length c.order) is_number ((stands.numbered.all (get_or c.order place 0)).0 (Contains-get_or c.order place 0 inside))

      at : place_of c number ≡ place
      at = subst (λ n. place_of c n ≡ place) is_number (place_back c.order stands.numbered place inside)

      own : (query_in c number).stream ≡ stream
      own =
          let (p, published) = item_there c.published place (omega (arith, inside, stands.publish)) in
          let (within, passes, none) = position-Some (λ (q : Published). q.stream == stream) c.published place p found in
          let same : p.stream ≡ stream = same_number p.stream stream (ap (λ (q : Published). q.stream == stream) (sym (get_or_from_slice_get c.published place p p published)) ∙ passes) in
          sym (stream_at c stands number place (sym at) inside p published) ∙ same

      -- the query that publishes it has the name
      pub has_name : HasName c name number
      has_name = record { within = small; name_is = name_there c stands number small c.streams stream name refl (sym own) there }

      -- and no other one has it
      pub first_named : IsFirstNamed c name number
      first_named earlier less same =
          let early : earlier < length c.order = omega (arith, less, small) in
          other_stream c stands number small earlier early (λ is. absurd (omega (arith, is, less))) (its_stream earlier early same ∙ sym own)
