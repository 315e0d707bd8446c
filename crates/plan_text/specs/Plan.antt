-- The plan of an accepted query text.
use Rattle.std.specs.Prelude.{ℕ, List, [], ◌++◌, codes, slice_index_or}
use Rattle.std.specs.List.{flat_map}
use Rattle.stream_schema.specs.Schema.{Attr}
use Rattle.stream_schema.specs.Streams.{schemas_of, stream_names}
use Rattle.catalogue.specs.Judgement.{Judged, query_at}
use Rattle.plan_text.specs.Reads.{reads_once}
use Rattle.plan_text.specs.Texts.{listed, schema_text}

-- a line: the name and the schema of the stream that a query publishes, ` <- `, and the names that it reads
abbrev pub plan_line : List ℕ → List Attr → List (List ℕ) → List ℕ
plan_line name schema reads = name ++ (codes " " ++ (schema_text schema ++ (codes " <- " ++ (listed reads ++ codes "\n"))))

-- the line of the query with a number
abbrev pub plan_line_at : Judged → ℕ → List ℕ
plan_line_at judged number =
    let stream = (query_at judged number).stream in
    plan_line (slice_index_or (stream_names judged.streams) stream []) (slice_index_or (schemas_of judged.streams) stream []) (slice_index_or (reads_once judged.statements) number [])

-- the plan: the lines of the queries in the order of work
abbrev pub plan_of : Judged → List ℕ
plan_of judged = flat_map (plan_line_at judged) judged.order
