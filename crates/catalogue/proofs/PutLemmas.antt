-- The stream of a query that leaves may be retired.
use Rattle.std.proofs.Common.{◌≡◌, ◌∙◌, ℕ, ◌<◌, List, length, false, ap, subst, inl, inr, arith}
use Rattle.std.specs.Prelude.{Some, slice_get}
use Rattle.std.specs.List.{range_with_len}
use Rattle.std.proofs.lemmas.Bool.{cases_Bool}
use Rattle.std.proofs.lemmas.List.Elements.{All-get_or}
use Rattle.semantics.specs.Programs.{Query}
use Rattle.stream_schema.specs.Streams.{Entry, declared_of}
use Rattle.cel_types.specs.SourceLaws.{kinds_in}
use Rattle.catalogue.specs.declared.numbering.Published.{Published}
use Rattle.catalogue.specs.Catalogued.{Catalogued, query_in, work_in}
use Rattle.catalogue.specs.Leaving.{place_of}
use Rattle.catalogue.specs.Standing.{StandsInOrder}
use Rattle.catalogue.proofs.LeftLemmas.{own_known}
use Rattle.catalogue.proofs.LeftProgramLemmas.{at_within, at_work, behind_all, none_such}
use Rattle.catalogue.proofs.PermutationLemmas.{to_range}
use Rattle.catalogue.proofs.PlaceLemmas.{slice_get-map}
use Rattle.catalogue.proofs.StandingLemmas.{item_there, stream_at}

module _ (c : Catalogued) (stands : StandsInOrder c) (number : ℕ) (small : number < length c.order) where
  -- it is no declared stream
  not_declared : (query_in c number).stream < c.declared → ⊥
  not_declared low =
      let stream : ℕ = (query_in c number).stream in
      let less : stream < stream =
      All-get_or (λ (q : Query). stream < q.stream) (work_in c) (place_of c number) (none_such c stands) (at_work c stands number small)
      (behind_all (kinds_in c.streams) (range_with_len 0 c.declared) (work_in c) stands.wide.typed.in_turn stream (to_range c.declared stream low)) in
      absurd (omega (arith, less))

  told_none : slice_get (declared_of c.streams) (query_in c number).stream ≡ Some false
  told_none =
      let stream : ℕ = (query_in c number).stream in
      let (entry, there) = item_there c.streams stream (own_known c stands number small).within in
      slice_get-map (λ (e : Entry). e.declared) c.streams stream entry there
      ∙ ap Some (elim (cases_Bool entry.declared) [ inl told ↦ absurd (not_declared ((stands.told stream entry there).0 told)) | inr not ↦ not ])

  module _ (published : List Published) (streams : List Entry) (same : published ≡ c.published) (same_streams : streams ≡ c.streams) (place : ℕ) (is : place ≡ place_of c number) (p : Published) (there : slice_get published place ≡ Some p) where
    -- what is told at the query's place is its stream
    pub stream_is : p.stream ≡ (query_in c number).stream
    stream_is = stream_at c stands number place is (omega (arith, is, at_within c stands number small)) p (subst (λ ps. slice_get ps place ≡ Some p) same there)

    -- it is there
    pub stream_within : p.stream < length streams
    stream_within = omega (arith, stream_is, (own_known c stands number small).within, ap length same_streams)

    -- and a query publishes it
    pub stream_published : slice_get (declared_of streams) p.stream ≡ Some false
    stream_published = (λ t. slice_get (declared_of (same_streams t)) (stream_is t)) ∙ told_none
