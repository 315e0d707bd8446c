-- What a catalogue that stands in order tells of its queries.
use Rattle.std.proofs.Common.{◌≡◌, ◌∙◌, ℕ, zero, suc, ◌<◌, List, [], ◌∷◌, length, get_or, map, refl, sym, ap, subst, arith}
use Rattle.std.specs.Prelude.{◌==◌, Contains, Some, slice_get, None}
use Rattle.std.specs.List.{position_or_len, range_with_len}
use Rattle.std.proofs.lemmas.List.Elements.{Contains-append_right, Contains-get_or}
use Rattle.expressions.specs.declared.expression.Expr.{Expr}
use Rattle.expressions.specs.Views.{ex_of}
use Rattle.semantics.specs.Expressions.{Read}
use Rattle.semantics.specs.Programs.{Query}
use Rattle.stream_schema.specs.Streams.{Entry, stream_names}
use Rattle.catalogue.specs.declared.numbering.Published.{Published}
use Rattle.catalogue.specs.Catalogued.{Catalogued, queries_of, query_in, query_of, work_in}
use Rattle.catalogue.specs.Standing.{IsKnown, StandsInOrder}
use Rattle.catalogue.proofs.StandLemmas.{Contains-map}

-- a query by its place, by induction on the place
pub queries_at : (streams : List Entry) (published : List Published) (expressions : List Expr) (place : ℕ) (d : Query) (p : Published) (x : Expr) → slice_get published place ≡ Some p → slice_get expressions place ≡ Some x
    → get_or (queries_of streams published expressions) place d ≡ query_of streams p x
queries_at streams [] xs place d p x there is = cc
queries_at streams (q ∷ published) [] place d p x there is = cc
queries_at streams (q ∷ published) (y ∷ xs) zero d p x there is =
    let same : q ≡ p = cc in
    let also : y ≡ x = cc in λ i. query_of streams (same i) (also i)
queries_at streams (q ∷ published) (y ∷ xs) (suc place) d p x there is = queries_at streams published xs place d p x there is

-- there are as many queries as of both
pub queries_many : (streams : List Entry) (published : List Published) (expressions : List Expr) → length published ≡ length expressions → length (queries_of streams published expressions) ≡ length expressions
queries_many streams [] [] same = refl
queries_many streams [] (x ∷ xs) same = absurd (omega (arith, same))
queries_many streams (p ∷ published) [] same = absurd (omega (arith, same))
queries_many streams (p ∷ published) (x ∷ xs) same = let rest = queries_many streams published xs (omega (arith, same)) in omega (arith, rest)

-- an item within a list
pub item_there : {X : Type 0} (xs : List X) (i : ℕ) → i < length xs → (x : X) × (slice_get xs i ≡ Some x)
item_there [] i within = absurd (omega (arith, within))
item_there (x ∷ xs) zero within = (x, refl)
item_there (x ∷ xs) (suc i) within = item_there xs i (omega (arith, within))

module _ (c : Catalogued) (stands : StandsInOrder c) (query place : ℕ) (is : place ≡ position_or_len (λ other. query == other) c.order) (within : place < length c.order) where
  query_there : (p : Published) (x : Expr) → slice_get c.published place ≡ Some p → slice_get c.expressions place ≡ Some x → query_of c.streams p x ≡ query_in c query
  query_there p x there express =
      let d : Query = record { name = []; stream = 0; hidden = 0; expr = Read 0; birth = None } in
      sym (queries_at c.streams c.published c.expressions place d p x there express) ∙ ap (λ n. get_or (work_in c) n d) is

  -- what the query publishes stands at its place
  pub publication_small : place < length c.published
  publication_small = omega (arith, within, stands.publish)

  -- and so does its expression
  pub expression_small : place < length c.expressions
  expression_small = omega (arith, within, stands.express)

  -- the query's stream
  pub stream_at : (p : Published) → slice_get c.published place ≡ Some p → p.stream ≡ (query_in c query).stream
  stream_at p there = let (x, express) = item_there c.expressions place expression_small in ap (λ (q : Query). q.stream) (query_there p x there express)

  -- its name is that of its stream
  pub name_at : (query_in c query).name ≡ get_or (stream_names c.streams) (query_in c query).stream []
  name_at =
      let (p, there) = item_there c.published place publication_small in
      let (x, express) = item_there c.expressions place expression_small in
      let is : query_of c.streams p x ≡ query_in c query = query_there p x there express in
      sym (ap (λ (q : Query). q.name) is) ∙ ap (λ (q : Query). get_or (stream_names c.streams) q.stream []) is

  -- its birth
  pub birth_at : (p : Published) → slice_get c.published place ≡ Some p → p.birth ≡ (query_in c query).birth
  birth_at p there = let (x, express) = item_there c.expressions place expression_small in ap (λ (q : Query). q.birth) (query_there p x there express)

  -- its expression
  pub expression_at : (x : Expr) → slice_get c.expressions place ≡ Some x → ex_of x ≡ (query_in c query).expr
  expression_at x express = let (p, there) = item_there c.published place publication_small in ap (λ (q : Query). q.expr) (query_there p x there express)

  -- the stream is known by its name
  pub stream_known : IsKnown c.streams (query_in c query).stream
  stream_known =
      let d : Query = record { name = []; stream = 0; hidden = 0; expr = Read 0; birth = None } in
      let small : place < length (work_in c) = omega (arith, within, queries_many c.streams c.published c.expressions (stands.publish ∙ sym stands.express), stands.express) in
      let works : Contains (work_in c) (query_in c query) = subst (λ (n : ℕ). Contains (work_in c) (get_or (work_in c) n d)) is (Contains-get_or (work_in c) place d small) in
      (stands.known (query_in c query).stream).0
      (Contains-append_right (range_with_len 0 c.declared) (map (λ (q : Query). q.stream) (work_in c)) (query_in c query).stream (Contains-map (λ (q : Query). q.stream) (work_in c) (query_in c query) works))
