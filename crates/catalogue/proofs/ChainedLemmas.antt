-- The lines of an accepted query text.
use Rattle.std.proofs.Common.{◌≡◌, ◌∙◌, sym, ap, refl, subst, ℕ, zero, suc, ◌+◌, ◌<◌, ◌^◌, length, get_or, take, drop, List, [], ◌∷◌, ◌++◌, map, arith}
use Rattle.std.specs.Prelude.{Some, slice_get}
use Rattle.std.specs.List.{All, range_with_len}
use Rattle.std.proofs.lemmas.List.{ext_get_or, get_or-map, length-map, length_push}
use Rattle.std.proofs.lemmas.List.Elements.{All-from_get_or}
use Rattle.std.proofs.lemmas.List.FromFn.{get_or-map-range_with_len, length-range_with_len}
use Rattle.event_types.specs.declared.kind.Kind.{Kind}
use Rattle.semantics.specs.Programs.{Program, Query}
use Rattle.semantics.specs.TypedPrograms.{PublishInTurn}
use Rattle.expressions.specs.declared.expression.Expr.{Expr}
use Rattle.expressions.specs.Views.{ex_of}
use Rattle.splitter.specs.Splitting.{parts_of}
use Rattle.stream_schema.specs.Schema.{Attr, kinds_of}
use Rattle.stream_schema.specs.Streams.{Entry, schemas_of}
use Rattle.cel_grammar.specs.Trees.{Statement}
use Rattle.cel_grammar.specs.Views.{statement_of}
use Rattle.splitter.specs.Chains.{chain_end, outs_of}
use Rattle.splitter.specs.declared.chains.Chains.{Chains}
use Rattle.splitter.specs.SourceWidths.{HasWidths}
use Rattle.splitter.specs.Work.{AreChains, kinds_by, work_of}
use Rattle.splitter.proofs.NumberedLemmas.{AreNumbered}
use Rattle.splitter.proofs.ProgramLemmas.{expressions_of, layout_made, lines_made, work_end, work_typed, work_wide}
use Rattle.cel_types.specs.SourceLaws.{kinds_in}
use Rattle.catalogue.specs.Parts.{Parts, IsAccepted, judged_of, queries_by}
use Rattle.catalogue.specs.Chained.{AreChained, kinds_of_each}
use Rattle.catalogue.specs.Judgement.{program_of, query_at}
use Rattle.work_order.specs.Places.{HasPlaces}
use Rattle.catalogue.specs.Typing.{Publish, none, next, published_by}
use Rattle.catalogue.proofs.FewLemmas.{numbers_left}
use Rattle.catalogue.proofs.HeldLemmas.{order_numbers, place_is, place_small, queries_long, sizes, stream_at}
use Rattle.catalogue.proofs.TurnLemmas.{in_turn, numbered}
use Rattle.catalogue.proofs.WideLemmas.{published_wide}

-- each query publishes a stream
pub all_count : {queries : List Statement} {streams all : List Entry} {hidden : ℕ} {order : List ℕ} {done : List Query} → Publish queries streams hidden order all done → length all ≡ length streams + length order
all_count (none {streams = streams}) = let e : length streams ≡ length streams + 0 = omega arith in e
all_count (next {streams = streams} {order = order} {s = s} schema x there typed rest) = let later = all_count rest in omega (arith, later, length_push streams (published_by s schema))

-- queries by their expressions
by_expressions : (number hidden : ℕ) (streams : List Entry) (xs : List Expr) → length (queries_by number hidden streams xs) ≡ length xs → expressions_of (queries_by number hidden streams xs) ≡ map ex_of xs
by_expressions number hidden [] [] same = refl
by_expressions number hidden [] (x ∷ xs) same = absurd (omega (arith, same))
by_expressions number hidden (s ∷ streams) [] same = refl
by_expressions number hidden (s ∷ streams) (x ∷ xs) same = let rest = by_expressions (number + 1) (parts_of (ex_of x) hidden).next streams xs (omega (arith, same)) in λ i. ex_of x ∷ rest i

-- the kinds of a stream by its schema
pub kinds_mapped : (schemas : List (List Attr)) (stream : ℕ) → get_or (map kinds_of schemas) stream [] ≡ kinds_of (get_or schemas stream [])
kinds_mapped [] stream = refl
kinds_mapped (s ∷ schemas) zero = refl
kinds_mapped (s ∷ schemas) (suc stream) = kinds_mapped schemas stream

-- the kinds of one stream more
pub taken_more : (schemas : List (List Attr)) (stream : ℕ) (schema : List Attr) → slice_get schemas stream ≡ Some schema → take (suc stream) (map kinds_of schemas) ≡ take stream (map kinds_of schemas) ++ kinds_of schema ∷ []
taken_more [] stream schema e = cc
taken_more (s ∷ schemas) zero schema e = let same : s ≡ schema = cc in ap (λ x. kinds_of x ∷ []) same
taken_more (s ∷ schemas) (suc stream) schema e = ap (λ ks. kinds_of s ∷ ks) (taken_more schemas stream schema e)

-- both parts of the streams are all of them
pub streams_whole : (many : ℕ) (streams : List Entry) → take many streams ++ drop many streams ≡ streams
streams_whole zero streams = refl
streams_whole (suc many) [] = refl
streams_whole (suc many) (s ∷ streams) = ap (λ ss. s ∷ ss) (streams_whole many streams)

-- each statement has a stream
pub many_streams : (c : Parts) → IsAccepted c → length (c.declared ++ c.published) ≡ length c.file.statements
many_streams c accepted = all_count accepted.accepts.publishes ∙ sizes c accepted

-- what the making of lines asks
pub record Asks (expressions : List Expr) (places : List ℕ) (declared : ℕ) (kinds : List (List Kind)) : Type 0 where
  pub typed : PublishInTurn (kinds_by kinds) (range_with_len 0 declared) (work_of declared expressions)
  pub wide : All (λ query. HasWidths (kinds_by kinds) query.expr) (work_of declared expressions)
  pub given : length kinds ≡ declared + length expressions
  pub placed : All (λ place. place < length expressions) places
  pub room : chain_end (work_of declared expressions) declared < 2 ^ 64

module _ (c : Parts) (accepted : IsAccepted c) (typed : length c.expressions ≡ length c.order) (places : List ℕ) (placed : HasPlaces c.order places) where
  abbrev program : Program
  program = program_of (judged_of c)

  abbrev lists : List (List Kind)
  lists = kinds_of_each (c.declared ++ c.published)

  kinds_same : kinds_in (c.declared ++ c.published) ≡ kinds_by lists
  kinds_same = λ i stream. sym (kinds_mapped (schemas_of (c.declared ++ c.published)) stream) i

  turns : PublishInTurn (kinds_by lists) (range_with_len 0 (length c.declared)) program.order
  turns = subst (λ (kinds : ℕ → List Kind). PublishInTurn kinds (range_with_len 0 (length c.declared)) program.order) kinds_same (in_turn accepted.accepts.publishes)

  widths : All (λ query. HasWidths (kinds_by lists) query.expr) program.order
  widths = subst (λ (kinds : ℕ → List Kind). All (λ (q : Query). HasWidths kinds q.expr) program.order) kinds_same (published_wide accepted.accepts.publishes)

  same : expressions_of program.order ≡ map ex_of c.expressions
  same = by_expressions (length c.declared) (length c.file.statements) c.published c.expressions (queries_long c accepted ∙ sym typed)

  -- each has the next numbers
  turned : AreNumbered (length c.declared) (length c.declared + length program.order) program.order
  turned =
      let many : length (map statement_of c.file.statements) ≡ length c.declared + length program.order =
      length-map c.file.statements statement_of ∙ sym (sizes c accepted) ∙ ap (λ n. length c.declared + n) (sym (queries_long c accepted)) in
      subst (λ n. AreNumbered (length c.declared) n program.order) many (numbered accepted.accepts.publishes)

  long : length lists ≡ length c.declared + length c.expressions
  long =
      let all = all_count accepted.accepts.publishes in
      let schemas = length-map (schemas_of (c.declared ++ c.published)) kinds_of ∙ length-map (c.declared ++ c.published) (λ s. s.schema) in omega (arith, all, schemas, typed)

  -- numbers are left behind their hidden streams
  pub work_room : chain_end (work_of (length c.declared) c.expressions) (length c.declared) < 2 ^ 64
  work_room = let end = work_end lists program c.expressions same turned in omega (arith, numbers_left c accepted, end)

  place_within : (query : ℕ) → query < length places → get_or places query 0 < length c.expressions
  place_within query within = let small = place_small c.order places (order_numbers c accepted) placed query (omega (arith, within, placed.long)) in omega (arith, small, typed)

  asked : Asks c.expressions places (length c.declared) lists
  asked = record {
    typed = work_typed lists program c.expressions same turned turns;
    wide = work_wide lists program c.expressions same turned widths;
    given = long;
    placed = All-from_get_or (λ place. place < length c.expressions) places 0 place_within;
    room = work_room;
  }

  -- each query's stream stands at its place behind the declared ones
  outs : map (λ place. length c.declared + place) places ≡ outs_of program
  outs =
      ext_get_or 0 (map (λ place. length c.declared + place) places) (outs_of program)
      (length-map places (λ place. length c.declared + place) ∙ placed.long ∙ sym (length-map (map (query_at (judged_of c)) (range_with_len 0 (length c.order))) (λ q. q.stream) ∙ length-map (range_with_len 0 (length c.order)) (query_at (judged_of c)) ∙ length-range_with_len 0 (length c.order)))
      (λ query within. one query (subst (λ n. query < n) (length-map places (λ place. length c.declared + place)) within))
    where
      query_there : (query : ℕ) → query < length c.order → get_or (map (λ (q : Query). q.stream) (map (query_at (judged_of c)) (range_with_len 0 (length c.order)))) query 0 ≡ (query_at (judged_of c) query).stream
      query_there query small =
          let all = map (query_at (judged_of c)) (range_with_len 0 (length c.order)) in
          get_or-map (λ (q : Query). q.stream) all query (query_at (judged_of c) query) 0 (let many = length-map (range_with_len 0 (length c.order)) (query_at (judged_of c)) in omega (arith, small, many, length-range_with_len 0 (length c.order)))
          ∙ ap (λ (q : Query). q.stream) (get_or-map-range_with_len (query_at (judged_of c)) 0 (length c.order) query query (query_at (judged_of c) query) small (omega arith))

      one : (query : ℕ) → query < length places → get_or (map (λ place. length c.declared + place) places) query 0 ≡ get_or (outs_of (program_of (judged_of c))) query 0
      one query within =
          let small : query < length c.order = omega (arith, within, placed.long) in
          let place = get_or places query 0 in
          get_or-map (λ place. length c.declared + place) places query 0 0 within
          ∙ stream_at c accepted query place (sym (place_is c.order places (order_numbers c accepted) placed query small)) (place_small c.order places (order_numbers c accepted) placed query small) ∙ sym (query_there query small)

  module _ (declared : ℕ) (kinds : List (List Kind)) (declared_is : declared ≡ length c.declared) (kinds_are : kinds ≡ lists) where
    -- the chains are asked for the catalogue's expressions
    pub asks : Asks c.expressions places declared kinds
    asks = subst (λ (s : ℕ × List (List Kind)). Asks c.expressions places s.0 s.1) (λ i. (sym declared_is i, sym kinds_are i)) asked

    -- and made of them
    pub chained : (chains : Chains) → AreChains declared c.expressions places kinds chains → AreChained c chains
    chained chains made =
        let own = subst (λ (s : ℕ × List (List Kind)). AreChains s.0 c.expressions places s.1 chains) (λ i. (declared_is i, kinds_are i)) made in record {
          lines = lines_made lists program c.expressions same turned places outs chains own;
          layout = layout_made lists program c.expressions same turned places outs chains own;
        }
