-- The queries of a catalogue in the order of work.
use Rattle.std.proofs.Common.{◌≡◌, ◌∙◌, sym, ap, ℕ, zero, suc, ◌+◌, ◌<◌, ◌≤◌, ◌==◌, List, [], ◌∷◌, ◌++◌, get_or, length, map, take, arith}
use Rattle.std.specs.Prelude.{Contains, None, Some, slice_get}
use Rattle.std.specs.List.{position_or_len, range_with_len}
use Rattle.std.proofs.lemmas.List.{map-append, take_all, take_more}
use Rattle.std.proofs.lemmas.List.Elements.{Contains-append_left}
use Rattle.std.proofs.lemmas.Option.{get_or_from_slice_get}
use Rattle.semantics.specs.Expressions.{Read}
use Rattle.semantics.specs.Programs.{Query}
use Rattle.semantics.proofs.StatementLemmas.{declared_there}
use Rattle.catalogue.specs.Catalogued.{Catalogued, query_in, work_in}
use Rattle.catalogue.specs.Standing.{StandsInOrder}
use Rattle.catalogue.proofs.OrderedLemmas.{position_at}
use Rattle.catalogue.proofs.StandingLemmas.{queries_many}
use Rattle.derivations.specs.Queries.{query_of, work_of}
use Rattle.derivations.specs.declared.publishing.Query.{Query as Asked}

module _ (c : Catalogued) (stands : StandsInOrder c) where
  -- what is read where no query is
  abbrev none : Query
  none = record { name = []; stream = 0; hidden = 0; expr = Read 0; birth = None }

  -- as many queries are worked on as there are numbers
  pub work_many : length (work_in c) ≡ length c.order
  work_many = queries_many c.streams c.published c.expressions (stands.publish ∙ sym stands.express) ∙ stands.express

  -- the query at a place in the order of work is that of the number there
  pub query_at : (place number : ℕ) → place < length c.order → slice_get c.order place ≡ Some number → query_in c number ≡ get_or (work_in c) place none
  query_at place number within at =
      let here : get_or c.order place 0 ≡ number = get_or_from_slice_get c.order place number 0 at in
      let is : position_or_len (λ other. number == other) c.order ≡ place = ap (λ n. position_or_len (λ other. n == other) c.order) (sym here) ∙ position_at c.order stands.numbered.distinct place within in
      ap (λ k. get_or (work_in c) k none) is

  -- one more query publishes as it does in the order of work
  pub work_step : (place number : ℕ) (done more : List Asked) (one : Asked) → place < length c.order → slice_get c.order place ≡ Some number → work_of (query_of one) ≡ work_of (query_in c number)
      → map work_of (map query_of done) ≡ map work_of (take place (work_in c)) → more ≡ done ++ one ∷ [] → map work_of (map query_of more) ≡ map work_of (take (place + 1) (work_in c))
  work_step place number done more one within at same so longer =
      ap (λ asked. map work_of (map query_of asked)) longer
      ∙ ap (map work_of) (map-append query_of done (one ∷ []))
      ∙ map-append work_of (map query_of done) (query_of one ∷ [])
      ∙ (λ i. so i ++ (same ∙ ap work_of (query_at place number within at)) i ∷ [])
      ∙ sym (map-append work_of (take place (work_in c)) (get_or (work_in c) place none ∷ []))
      ∙ ap (map work_of) (sym (take_more (work_in c) place none (let many = work_many in omega (arith, within, many))))

  -- all of them are the whole order of work
  pub work_whole : (asked : List Asked) (place : ℕ) → place ≡ length c.order → map work_of (map query_of asked) ≡ map work_of (take place (work_in c)) → map work_of (map query_of asked) ≡ map work_of (work_in c)
  work_whole asked place is so = so ∙ ap (map work_of) (take_all place (work_in c) (let many = work_many in omega (arith, is, many)))

  -- the declared streams are among all
  pub declared_within : c.declared ≤ length c.streams
  declared_within = go c.declared (λ stream less. declared_there c.declared stream less)
    where
      go : (n : ℕ) → ((stream : ℕ) → stream < n → Contains (range_with_len 0 c.declared) stream) → n ≤ length c.streams
      go zero there = omega arith
      go (suc n) there =
          let known = (stands.known n).0 (Contains-append_left (range_with_len 0 c.declared) (map (λ (query : Query). query.stream) (work_in c)) n (there n (omega arith))) in
          let within = known.within in omega (arith, within)
