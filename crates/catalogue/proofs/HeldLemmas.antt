-- The places of queries in the order of work, and what stands there.
use Rattle.std.proofs.Common.{◌≡◌, ◌∙◌, ℕ, ◌+◌, ◌<◌, List, [], length, get_or, map, sym, ap, subst, arith}
use Rattle.std.specs.Prelude.{◌==◌, ◌↔◌, Contains, None}
use Rattle.std.specs.List.{position_or_len}
use Rattle.std.proofs.lemmas.List.{get_or_default, length-map}
use Rattle.std.proofs.lemmas.List.Sums.{position_or_len_is}
use Rattle.semantics.specs.Expressions.{Read}
use Rattle.cel_grammar.specs.Views.{statement_of}
use Rattle.resubscribe.specs.Laws.{HasEachOnce}
use Rattle.event_types.proofs.NumberLemmas.{is_other, self_equal}
use Rattle.resubscribe.proofs.OrderLemmas.{HasEachOnce-order}
use Rattle.catalogue.specs.Parts.{Parts, IsAccepted, judged_of, queries_by}
use Rattle.catalogue.specs.Judgement.{query_at}
use Rattle.catalogue.specs.Reading.{reads_in}
use Rattle.work_order.specs.Numbers.{AreNumbers}
use Rattle.work_order.specs.Places.{HasPlaces}
use Rattle.catalogue.proofs.CountLemmas.{order_count, statement_count}
use Rattle.catalogue.proofs.PartLemmas.{published_count, stream_by}

module _ (order places : List ℕ) (are : AreNumbers order) (placed : HasPlaces order places) (query : ℕ) (small : query < length order) where
  -- the query stands at its place
  pub at_place : (get_or places query 0 < length order) × (get_or order (get_or places query 0) 0 ≡ query)
  at_place =
      let (k, within, same) = (are.all query).1 small in
      let here : get_or order k 0 ≡ query = sym (get_or_default order k query 0 within) ∙ same in
      let is : get_or places query 0 ≡ k = ap (λ q. get_or places q 0) (sym here) ∙ placed.there k within in
      (subst (λ p. p < length order) (sym is) within, ap (λ p. get_or order p 0) is ∙ here)

  -- a query is worked on at one of the places
  pub place_small : get_or places query 0 < length order
  place_small = at_place.0

  -- and at no other
  pub place_is : position_or_len (λ other. query == other) order ≡ get_or places query 0
  place_is =
      let small_place : get_or places query 0 < length order = at_place.0 in
      position_or_len_is (λ other. query == other) order (get_or places query 0) 0 (omega arith)
      (λ k before. is_other query (get_or order k 0) (λ same. are.distinct k (get_or places query 0) 0 before at_place.0 (sym same ∙ sym at_place.1)))
      (λ within. ap (λ n. query == n) at_place.1 ∙ self_equal query)

module _ (c : Parts) (accepted : IsAccepted c) where
  once : HasEachOnce (reads_in (map statement_of c.file.statements)) c.order
  once = HasEachOnce-order (reads_in (map statement_of c.file.statements)) c.order accepted.accepts.in_order

  -- the order has each number once
  pub order_numbers : AreNumbers c.order
  order_numbers = record {
    distinct = once.distinct;
    all = λ number.
        let many : length c.order ≡ length (reads_in (map statement_of c.file.statements)) = order_count (reads_in (map statement_of c.file.statements)) c.order accepted.accepts.in_order in
        subst (λ (n : ℕ). Contains c.order number ↔ (number < n)) (sym many) (once.all number);
  }

  -- the statements are declarations and queries
  pub sizes : length c.declared + length c.order ≡ length c.file.statements
  sizes = statement_count (map statement_of c.file.statements) c.declared c.order accepted.accepts.declares accepted.accepts.in_order ∙ length-map c.file.statements statement_of

  -- as many queries are published as stand in the order
  pub queries_long : length (queries_by (length c.declared) (length c.file.statements) c.published c.expressions) ≡ length c.order
  queries_long = published_count accepted.accepts.publishes

  typed_there : (place : ℕ) → place < length c.order → place < length (queries_by (length c.declared) (length c.file.statements) c.published c.expressions)
  typed_there place within = subst (λ n. place < n) (sym queries_long) within

  module _ (query place : ℕ) (is : place ≡ position_or_len (λ other. query == other) c.order) (within : place < length c.order) where
    -- the query's stream stands at its place among those that are published
    pub stream_at : length c.declared + place ≡ (query_at (judged_of c) query).stream
    stream_at =
        sym (ap (λ p. (get_or (queries_by (length c.declared) (length c.file.statements) c.published c.expressions) p (record { name = []; stream = 0; hidden = 0; expr = Read 0; birth = None })).stream) (sym is)
        ∙ stream_by (length c.declared) (length c.file.statements) c.published c.expressions place (record { name = []; stream = 0; hidden = 0; expr = Read 0; birth = None }) (typed_there place within))
