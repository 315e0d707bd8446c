-- The queries of a catalogue as it was loaded, each with what it publishes and reads.
use Rattle.std.proofs.Common.{◌≡◌, ◌∙◌, ℕ, zero, suc, ◌+◌, ◌-◌, ◌<◌, ◌≤◌, List, [], ◌∷◌, ◌++◌, inl, inr, length, map, get_or, ap, sym, subst, arith}
use Rattle.std.specs.Prelude.{Contains, Some, option_map, slice_get}
use Rattle.std.proofs.lemmas.Bool.{cases_lt}
use Rattle.std.proofs.lemmas.List.{get_or-append-add, length-append, length-map, map-append}
use Rattle.std.proofs.lemmas.List.Elements.{Contains-get_or}
use Rattle.std.proofs.lemmas.List.FromFn.{get_or-map-range_with_len, length-map-range_with_len}
use Rattle.std.proofs.lemmas.Option.{get_or_from_slice_get, slice_get-get_or, slice_get-map}
use Rattle.stream_schema.specs.Schema.{Attr}
use Rattle.stream_schema.specs.Streams.{Entry, IsRetired, hidden_entries, hidden_entry, schemas_of, stream_names}
use Rattle.cel_grammar.specs.Views.{statement_of}
use Rattle.cel_grammar.specs.Trees.{Statement}
use Rattle.catalogue.specs.Catalogued.{Catalogued, query_in}
use Rattle.catalogue.specs.Holding.{IsAsLoaded, judged_in}
use Rattle.catalogue.specs.Judgement.{Judged, query_at}
use Rattle.catalogue.specs.Standing.{StandsInOrder}
use Rattle.catalogue.specs.Statements.{queries_in, reads_by}
use Rattle.catalogue.proofs.CountLemmas.{query_count}
use Rattle.catalogue.proofs.HoldingLemmas.{loaded_holds}
use Rattle.catalogue.proofs.PlaceLemmas.{slice_get-within}
use Rattle.plan_text.specs.Plan.{plan_line, plan_line_at}
use Rattle.plan_text.specs.Reads.{once, reads_once}

-- the numbers in the order of work are those of queries
pub order-within : (c : Catalogued) → StandsInOrder c → (place query : ℕ) → slice_get c.order place ≡ Some query → query < length c.order
order-within c stands place query there =
    let contained = Contains-get_or c.order place query (slice_get-within c.order place query there) in
    (stands.numbered.all query).0 (subst (λ (n : ℕ). Contains c.order n) (get_or_from_slice_get c.order place query query there) contained)

-- it is known of each query what it reads
pub reads_once-within : (c : Catalogued) → IsAsLoaded c → (query : ℕ) → query < length c.order → query < length (reads_once (map statement_of c.file.statements))
reads_once-within c known query within =
    let holds = known.loaded.holds in
    let statements = known.loaded.judged.statements in
    let long = ap length holds.order ∙ query_count statements known.loaded.judged.order known.loaded.accepts.in_order ∙ sym (length-map (queries_in statements) (λ s. once (reads_by s))) in
    subst (λ (ss : List Statement). query < length (reads_once ss)) (sym holds.statements) (subst (λ (n : ℕ). query < n) long within)

-- what stands at a place of a list stands there without what follows it
slice_get-left : {X : Type 0} (xs ys : List X) (i : ℕ) (x : X) → i < length xs → slice_get (xs ++ ys) i ≡ Some x → slice_get xs i ≡ Some x
slice_get-left [] ys i x within e = absurd (omega (arith, within))
slice_get-left (y ∷ xs) ys zero x within e = e
slice_get-left (y ∷ xs) ys (suc i) x within e = slice_get-left xs ys i x (omega (arith, within)) e

-- so do its images
map-left : {X Y : Type 0} (f : X → Y) (xs ys : List X) (i : ℕ) (y : Y) → i < length xs → slice_get (map f (xs ++ ys)) i ≡ Some y → slice_get (map f xs) i ≡ Some y
map-left f xs ys i y within e =
    slice_get-left (map f xs) (map f ys) i y (omega (arith, within, length-map xs f)) (subst (λ all. slice_get all i ≡ Some y) (map-append f xs ys) e)

-- a stream that is not hidden stands before those that are
not-hidden : (streams now : List Entry) (many stream : ℕ) → now ≡ streams ++ hidden_entries (length streams) many → stream < length now → (IsRetired now stream → ⊥) → stream < length streams
not-hidden streams now many stream is within there = elim (cases_lt stream (length streams)) [
  | inl before ↦ before
  | inr past ↦ absurd (there (retired past))
]
  where
    hidden : List Entry
    hidden = hidden_entries (length streams) many

    retired : length streams ≤ stream → IsRetired now stream
    retired past =
        let place = stream - length streams in
        let from : length streams + place ≡ stream = omega (arith, past) in
        let long : length now ≡ length streams + many = ap length is ∙ length-append streams hidden ∙ ap (λ n. length streams + n) (length-map-range_with_len hidden_entry (length streams) many) in
        let entry = get_or-append-add streams hidden place (hidden_entry 0) ∙ get_or-map-range_with_len hidden_entry (length streams) many place stream (hidden_entry 0) (omega (arith, within, long, past)) from in
        let at = slice_get-get_or now stream (hidden_entry 0) within in
        slice_get-map (λ (s : Entry). s.name) now stream ∙ ap (option_map (λ (s : Entry). s.name)) (at ∙ ap Some ((λ i. get_or (is i) (sym from i) (hidden_entry 0)) ∙ entry))

-- the line of a query that publishes this stream and reads these names
pub plan_line-at : (judged : Judged) (query stream : ℕ) (name : List ℕ) (schema : List Attr) (reads : List (List ℕ))
    → stream ≡ (query_at judged query).stream
    → slice_get (stream_names judged.streams) stream ≡ Some name
    → slice_get (schemas_of judged.streams) stream ≡ Some schema
    → slice_get (reads_once judged.statements) query ≡ Some reads
    → plan_line name schema reads ≡ plan_line_at judged query
plan_line-at judged query stream name schema reads published named typed read =
    let names = stream_names judged.streams in
    let schemas = schemas_of judged.streams in
    let all_reads = reads_once judged.statements in
    ap (λ (n : List ℕ). plan_line n schema reads) (sym (get_or_from_slice_get names stream name [] named))
    ∙ ap (λ (s : List Attr). plan_line (get_or names stream []) s reads) (sym (get_or_from_slice_get schemas stream schema [] typed))
    ∙ ap (λ (r : List (List ℕ)). plan_line (get_or names stream []) (get_or schemas stream []) r) (sym (get_or_from_slice_get all_reads query reads [] read))
    ∙ ap (λ (s : ℕ). plan_line (get_or names s []) (get_or schemas s []) (get_or all_reads query [])) published

module _ (c : Catalogued) (known : IsAsLoaded c) where
  -- the line of a query, by what the catalogue tells of its stream
  pub line-held : (query stream : ℕ) (name : List ℕ) (schema : List Attr) (reads : List (List ℕ))
      → stream ≡ (query_in c query).stream → stream < length c.streams → (IsRetired c.streams stream → ⊥)
      → slice_get (stream_names c.streams) stream ≡ Some name
      → slice_get (schemas_of c.streams) stream ≡ Some schema
      → slice_get (reads_once (map statement_of c.file.statements)) query ≡ Some reads
      → plan_line name schema reads ≡ plan_line_at (judged_in c) query
  line-held query stream name schema reads published within there named typed read =
      let holds = loaded_holds known.text c known.loaded in
      let streams = (judged_in c).streams in
      let hidden = hidden_entries (length streams) _ in
      let before = not-hidden streams c.streams _ stream holds.streams within there in
      plan_line-at (judged_in c) query stream name schema reads published
      (map-left (λ (s : Entry). s.name) streams hidden stream name before (subst (λ (all : List Entry). slice_get (stream_names all) stream ≡ Some name) holds.streams named))
      (map-left (λ (s : Entry). s.schema) streams hidden stream schema before (subst (λ (all : List Entry). slice_get (schemas_of all) stream ≡ Some schema) holds.streams typed))
      read
