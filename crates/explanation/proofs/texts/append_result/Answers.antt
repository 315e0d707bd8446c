use Rattle.std.proofs.Common.{◌≡◌, ◌∙◌, ◌<◌, ◌++◌, ◌∷◌, [], ap, codes, length, slice_get, string_bytes, subst, sym, ℕ, List, Some, arith}
use Rattle.std.proofs.lemmas.List.FromFn.{length-map-range_with_len}
use Rattle.stream_schema.specs.Streams.{stream_names}
use Rattle.catalogue.specs.Catalogued.{program_in, query_in}
use Rattle.explanation.specs.Explained.{explained_text}
use Rattle.explanation.specs.declared.results.Explained.{Explained}
use Rattle.explanation.proofs.NameLemmas.{name_is}
use Rattle.explanation.proofs.ResultLemmas.{told_text}
use Rattle.explanation.proofs.texts.append_result.Goals as goal

-- the query is there
pub stream_of-requires : goal.stream_of-requires
stream_of-requires c =
    let same = ap (λ (told : Explained). told.query) c.told.view_is in
    let less = c.requires.query in
    let long = length-map-range_with_len (query_in c.args.catalogue.now) 0 (length c.args.catalogue.now.order) in
    omega (arith, same, less, long)

-- its name, the line and the derivation stand behind the text
pub returns : goal.returns
returns c =
    let cat = c.args.catalogue.now in
    let text = string_bytes c.args.text.now in
    let same = ap (λ (told : Explained). told.query) c.told.view_is in
    let less = c.requires.query in
    let long = length-map-range_with_len (query_in cat) 0 (length cat.order) in
    let there = (λ i. slice_get (stream_names (sym c.streams.ensures.value i)) (sym c.stream_of.ensures.value i)) ∙ c.name-name.ensures in
    let name = name_is cat c.streams.ensures.stands _ (omega (arith, same, less, long)) c.name-name.result.now there in
    let told = c.as_str.ensures ∙ (rw (sym name) at c.in_ok-line.ensures) in
    let by = c.as_str-2.ensures ∙ c.in_ok-by.ensures in
    subst (λ (one : Explained). string_bytes c.push_str-4.new.self ≡ text ++ explained_text (program_in cat) c.args.history.now one) c.told.view_is
    (c.in_ok-push_str-4.ensures.bytes
    ∙ ap (λ (bytes : List ℕ). bytes ++ 10 ∷ [])
    (c.in_ok-push_str-3.ensures.bytes ∙ ap (λ (bytes : List ℕ). bytes ++ c.as_str-2.result.now) (c.in_ok-push_str-2.ensures.bytes ∙ ap (λ (bytes : List ℕ). bytes ++ codes "  ") c.in_ok-push_str.ensures.bytes))
    ∙ (λ i. (((text ++ told i) ++ codes "  ") ++ by i) ++ 10 ∷ [])
    ∙ told_text text _ (codes "  ") _)
