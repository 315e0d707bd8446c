-- The names of queries by their numbers.
use Rattle.std.proofs.Common.{◌≡◌, ◌∙◌, sym, ap, subst, refl, ℕ, ◌+◌, ◌<◌, ◌==◌, List, [], map, length, get_or, Some, slice_get, arith}
use Rattle.std.specs.List.{position_or_len, range_with_len}
use Rattle.std.specs.Option.{option_map_or}
use Rattle.std.proofs.lemmas.List.{get_or_default}
use Rattle.std.proofs.lemmas.List.FromFn.{get_or-range_with_len, length-range_with_len}
use Rattle.std.proofs.lemmas.Option.{get_or_from_slice_get, slice_get-get_or}
use Rattle.semantics.specs.Programs.{Query}
use Rattle.stream_schema.specs.Streams.{stream_names}
use Rattle.catalogue.specs.Catalogued.{Catalogued, program_in, query_in}
use Rattle.catalogue.specs.Standing.{StandsInOrder}
use Rattle.catalogue.proofs.OrderedLemmas.{position_at}
use Rattle.catalogue.proofs.PlaceLemmas.{slice_get-map}
use Rattle.catalogue.proofs.StandingLemmas.{name_at}
use Rattle.explanation.specs.Explained.{name_of_query}

module _ (c : Catalogued) (standing : StandsInOrder c) (number : ℕ) (small : number < length c.order) where
  abbrev place : ℕ
  place = position_or_len (λ other. number == other) c.order

  -- the query stands in the order of work
  stands_there : place < length c.order
  stands_there =
      let (at, within, same) = (standing.numbered.all number).1 small in
      let here : get_or c.order at 0 ≡ number = sym (get_or_default c.order at number 0 within) ∙ same in
      let is : place ≡ at = ap (λ n. position_or_len (λ other. n == other) c.order) (sym here) ∙ position_at c.order standing.numbered.distinct at within in
      subst (λ n. n < length c.order) (sym is) within

  -- among the queries it has its number
  query_there : slice_get (program_in c).queries number ≡ Some (query_in c number)
  query_there =
      let numbers = range_with_len 0 (length c.order) in
      let none_more : 0 + number ≡ number = omega arith in
      let long : length numbers ≡ length c.order = length-range_with_len 0 (length c.order) in
      slice_get-map (query_in c) numbers number number (slice_get-get_or numbers number 0 (omega (arith, long, small)) ∙ ap Some (get_or-range_with_len 0 (length c.order) number 0 small ∙ none_more))

  -- and the name of its stream
  pub name_is : (name : List ℕ) → slice_get (stream_names c.streams) (query_in c number).stream ≡ Some name → name_of_query (program_in c).queries number ≡ name
  name_is name there =
      ap (λ o. option_map_or (λ (q : Query). q.name) o []) query_there ∙ name_at c standing number place refl stands_there
      ∙ get_or_from_slice_get (stream_names c.streams) (query_in c number).stream name [] there
