use Rattle.std.proofs.Common.{◌≡◌, ◌<◌, ◌++◌, ℕ, List, length, string_bytes, subst, sym}
use Rattle.std.specs.Prelude.{OnOk, Some, slice_get}
use Rattle.stream_schema.specs.Streams.{Entry, schemas_of, stream_names}
use Rattle.plan_text.proofs.PlanLemmas.{line-held, reads_once-within}
use Rattle.plan_text.proofs.planning.append_query.Goals as goal

pub get-requires : goal.get-requires
get-requires c =
    subst (λ (reads : List (List (List ℕ))). c.args.query < length reads) (sym c.requires.reads)
    (reads_once-within c.args.catalogue.now c.requires.loaded c.args.query c.requires.within)

pub returns : goal.returns
returns c =
    let named = subst (λ (streams : List Entry). slice_get (stream_names streams) c.stream_of-stream.result ≡ Some c.name-name.result.now) c.streams-streams.ensures.value c.name-name.ensures in
    let typed = subst (λ (streams : List Entry). slice_get (schemas_of streams) c.stream_of-stream.result ≡ Some c.schema-schema.result.now) c.streams-streams.ensures.value c.schema-schema.ensures in
    let read = subst (λ (reads : List (List (List ℕ))). slice_get reads c.args.query ≡ Some c.get.result.now) c.requires.reads c.get.ensures in
    let line = line-held c.args.catalogue.now c.requires.loaded c.args.query c.stream_of-stream.result c.name-name.result.now c.schema-schema.result.now c.get.result.now
    c.stream_of-stream.ensures.value c.stream_of-stream.ensures.within c.stream_of-stream.ensures.named named typed read in
    subst (λ (bytes : List ℕ). OnOk c.append_line.result (string_bytes c.append_line.new.text ≡ string_bytes c.args.text.now ++ bytes)) line c.append_line.ensures
