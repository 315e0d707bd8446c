use Rattle.std.proofs.Common.{◌≡◌, ◌∙◌, ◌++◌, ap, arith, append_assoc, codes, decimal}
use Rattle.std.specs.List.{flat_map, range_with_len}
use Rattle.load_texts.specs.QueryText.{declaration, query_line, query_text, query_count}
use Rattle.load_texts.proofs.QueryLemmas.{flat_map-next}
use Rattle.load_texts.proofs.queries.query_text.Goals as goal

-- one more line stands behind the others
pub loop-place-preserved : goal.loop-place-preserved
loop-place-preserved c =
    let place = c.loop-place.place-counter in
    let line : c.deref.result.now ≡ query_line place = c.deref.ensures ∙ c.in_ok-line.ensures.ok ∙ ap (λ text. text ++ (codes " PUBLISH Q" ++ (decimal place ++ codes ";\n"))) c.in_ok-selection.ensures in
    rw (flat_map-next query_line place) (c.in_ok-push_str.ensures.bytes ∙ rw (line, c.loop-place.invariant) (append_assoc declaration (flat_map query_line (range_with_len 0 place)) (query_line place)))

-- all lines are written
pub returns : goal.returns
unfolding query_text
returns c =
    let all : c.loop-place.place-counter ≡ query_count c.args.events = omega arith in
    let text = c.deref-2.ensures ∙ c.loop-place.invariant in
    rw (text, all) at c.make.ensures
