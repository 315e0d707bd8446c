use Rattle.std.proofs.Common.{◌≡◌, ◌∙◌, ◌+◌, true, false, filter, drop, sym, ap}
use Rattle.stream_schema.specs.Joining.{is_taken}
use Rattle.stream_schema.specs.Schema.{names_of}
use Rattle.cel_types.proofs.SplitLemmas.{filter-free, filter-found}
use Rattle.cel_types.proofs.items.first_there.Goals as goal

pub returns-then-has_name : goal.returns-then-has_name
returns-then-has_name c =
    let test = is_taken c.args.made.now.attributes in
    let names = names_of c.args.schema.now in
    let place = c.loop-place.place in
    let name = c.name-name.result.now in
    let taken : test name ≡ true = sym (c.has_name.ensures ∙ ap (λ a. is_taken a name) c.as_slice.ensures) ∙ c.if-has_name.true in
    (filter test (drop (place + 1) names), filter-found test names place name c.name-name.ensures taken c.loop-place.invariant)

pub loop-place-preserved : goal.loop-place-preserved
loop-place-preserved c =
    let test = is_taken c.args.made.now.attributes in
    let names = names_of c.args.schema.now in
    let place = c.loop-place.place in
    let name = c.name-name.result.now in
    let free : test name ≡ false = sym (c.has_name.ensures ∙ ap (λ a. is_taken a name) c.as_slice.ensures) ∙ c.if-has_name.false in
    filter-free test names place name c.name-name.ensures free c.loop-place.invariant
