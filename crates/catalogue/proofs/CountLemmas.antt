-- How many streams are declared, and how many queries there are.
use Rattle.std.proofs.Common.{◌≡◌, ◌≢◌, ◌∙◌, ℕ, ◌+◌, ◌≤◌, List, length, get_or, refl, arith}
use Rattle.std.specs.Prelude.{◌==◌, AllPairs}
use Rattle.std.specs.List.{IsDistinct}
use Rattle.std.proofs.lemmas.List.{length-map}
use Rattle.std.proofs.lemmas.Map.Keys.{IsDistinct-from_apart}
use Rattle.std.proofs.lemmas.Map.Steps.{le-length_from_below, length-le_from_distinct_below}
use Rattle.stream_schema.specs.Streams.{Entry}
use Rattle.cel_grammar.specs.Trees.{Statement}
use Rattle.resubscribe.specs.Laws.{HasEachOnce}
use Rattle.resubscribe.specs.Order.{IsOrder}
use Rattle.resubscribe.proofs.AmongLemmas.{Contains-from_among, among-from_Contains}
use Rattle.resubscribe.proofs.OrderLemmas.{HasEachOnce-order}
use Rattle.catalogue.specs.Reading.{numbers_of, reads_in}
use Rattle.catalogue.specs.Statements.{queries_in, query_names, reads_by}
use Rattle.catalogue.specs.Typing.{FileDeclares, none, stream, query}
use Rattle.event_types.proofs.NumberLemmas.{is_other}

-- each statement declares a stream or is a query
declared_count : {ss : List Statement} {streams : List Entry} → FileDeclares ss streams → length streams + length (queries_in ss) ≡ length ss
declared_count none = refl
declared_count (stream {later = later} {streams = streams} first rest) = let e : length streams + length (queries_in later) ≡ length later = declared_count rest in omega arith
declared_count (query {later = later} {streams = streams} rest) = let e : length streams + length (queries_in later) ≡ length later = declared_count rest in omega arith

-- distinct numbers are distinct by their test
pub distinct_by_test : (xs : List ℕ) → AllPairs (λ x y. x ≢ y) xs → IsDistinct ◌==◌ xs
distinct_by_test xs apart = IsDistinct-from_apart ◌==◌ xs (λ i j d lt within. is_other (get_or xs i d) (get_or xs j d) (apart i j d lt within))

-- an order has as many numbers as there are queries
pub order_count : (reads : List (List ℕ)) (order : List ℕ) → IsOrder reads order → length order ≡ length reads
order_count reads order is_order =
    let once : HasEachOnce reads order = HasEachOnce-order reads order is_order in
    let most : length order ≤ length reads = length-le_from_distinct_below order (length reads) (distinct_by_test order once.distinct) (λ q among. (once.all q).0 (Contains-from_among order q among)) in
    let least : length reads ≤ length order = le-length_from_below order (length reads) (λ q small. among-from_Contains order q ((once.all q).1 small)) in
    omega arith

-- the order has as many numbers as there are queries
pub query_count : (ss : List Statement) (order : List ℕ) → IsOrder (reads_in ss) order → length order ≡ length (queries_in ss)
query_count ss order is_order = order_count (reads_in ss) order is_order ∙ length-map (queries_in ss) (λ query. numbers_of (query_names ss) (reads_by query))

-- as many streams are declared as statements are no queries
pub statement_count : (ss : List Statement) (streams : List Entry) (order : List ℕ) → FileDeclares ss streams → IsOrder (reads_in ss) order → length streams + length order ≡ length ss
statement_count ss streams order declared is_order =
    let e : length order ≡ length (queries_in ss) = query_count ss order is_order in
    let f : length streams + length (queries_in ss) ≡ length ss = declared_count declared in
    omega arith
