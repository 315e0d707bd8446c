use Rattle.std.proofs.Common.{◌≡◌, ◌∙◌, ◌++◌, ◌∷◌, [], ℕ, get_or, sym, ap, arith}
use Rattle.std.proofs.lemmas.List.{map_more}
use Rattle.std.proofs.lemmas.Option.{get_or_from_slice_get}
use Rattle.stream_schema.specs.Streams.{stream_names}
use Rattle.catalogue.proofs.arranging.names_of.Goals as goal

-- one more name was added
pub loop-number-preserved : goal.loop-number-preserved
loop-number-preserved c =
    let number : ℕ = get_or c.args.numbers.now c.loop-number.number-index 0 in
    let put : c.add.new.self ≡ c.loop-number.names ++ c.in_ok-name.name ∷ [] = c.in_ok-add.ensures.ok in
    let is : c.in_ok-name.name ≡ get_or (stream_names c.args.queries.now) (get_or c.args.numbers.now c.loop-number.number-index 0) [] =
    c.in_ok-name.ensures ∙ sym (get_or_from_slice_get (stream_names c.args.queries.now) (get_or c.args.numbers.now c.loop-number.number-index 0) c.name.result.now [] c.name.ensures) in
    put ∙ ap (λ x. c.loop-number.names ++ x ∷ []) is
    ∙ ap (λ xs. xs ++ get_or (stream_names c.args.queries.now) (get_or c.args.numbers.now c.loop-number.number-index 0) [] ∷ []) c.loop-number.invariant
    ∙ sym (map_more (λ (n : ℕ). get_or (stream_names c.args.queries.now) n []) c.args.numbers.now c.loop-number.number-index 0 (omega arith))
