-- The names and the streams of the queries of a catalogue.
use Rattle.std.proofs.Common.{◌≡◌, ◌∙◌, ℕ, ◌<◌, ◌==◌, length, get_or, refl, sym, ap, subst, arith}
use Rattle.std.specs.List.{All, position_or_len, range_with_len}
use Rattle.std.proofs.lemmas.List.{get_or_default}
use Rattle.std.proofs.lemmas.List.Elements.{All-map}
use Rattle.semantics.specs.Programs.{Query}
use Rattle.splitter.specs.Chains.{outs_of}
use Rattle.splitter.proofs.ApartLemmas.{range_all}
use Rattle.catalogue.specs.Catalogued.{Catalogued, query_in}
use Rattle.catalogue.specs.Standing.{IsKnown, StandsInOrder}
use Rattle.catalogue.proofs.OrderedLemmas.{position_at}
use Rattle.catalogue.proofs.StandingLemmas.{name_at, stream_known}
use Rattle.session.specs.Fronts.{name_in}
use Rattle.session.specs.Standing.{program_over}

module _ (c : Catalogued) (standing : StandsInOrder c) where
  -- each query stands in the order of work
  stands_there : (number : ℕ) → number < length c.order → position_or_len (λ other. number == other) c.order < length c.order
  stands_there number less =
      let (place, within, same) = (standing.numbered.all number).1 less in
      let here : get_or c.order place 0 ≡ number = sym (get_or_default c.order place number 0 within) ∙ same in
      let is : position_or_len (λ other. number == other) c.order ≡ place = ap (λ n. position_or_len (λ other. n == other) c.order) (sym here) ∙ position_at c.order standing.numbered.distinct place within in
      subst (λ n. n < length c.order) (sym is) within

  -- what is so of the query with each number is so of all
  each_query : (P : Query → Type 0) → ((number : ℕ) → number < length c.order → P (query_in c number)) → All P (program_over c).queries
  each_query P each = All-map P (query_in c) (range_with_len 0 (length c.order)) (range_all (λ number. P (query_in c number)) 0 (length c.order) (λ number low high. each number (omega (arith, high))))

  -- the queries have the names of their streams
  pub all_named : All (λ query. name_in c.streams query.stream ≡ query.name) (program_over c).queries
  all_named =
      each_query (λ query. name_in c.streams query.stream ≡ query.name) (λ number less. sym (name_at c standing number (position_or_len (λ other. number == other) c.order) refl (stands_there number less)))

  -- and their streams are known
  pub all_known : All (IsKnown c.streams) (outs_of (program_over c))
  all_known =
      All-map (IsKnown c.streams) (λ (query : Query). query.stream) (program_over c).queries
      (each_query (λ query. IsKnown c.streams query.stream) (λ number less. stream_known c standing number (position_or_len (λ other. number == other) c.order) refl (stands_there number less)))
