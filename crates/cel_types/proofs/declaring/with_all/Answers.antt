use Rattle.std.proofs.Common.{◌≡◌, ◌<◌, ◌∙◌, ◌++◌, ◌∷◌, [], sym, length, rules, arith}
use Rattle.cel_types.proofs.DeclarationLemmas.{absent_before, seen-more}
use Rattle.cel_types.proofs.declaring.with_all.Goals as goal

pub add-requires : goal.add-requires
add-requires c =
    let inside : c.loop-attr.attr-index < length c.args.attrs.now = omega arith in
    rw (c.as_str.ensures, c.loop-attr.invariant) (absent_before c.args.attrs.now c.loop-attr.attr-index c.attr-item.result inside c.attr-item.is c.requires.distinct)

pub loop-attr-preserved : goal.loop-attr-preserved
loop-attr-preserved c =
    let inside : c.loop-attr.attr-index < length c.args.attrs.now = omega arith in
    let more = seen-more c.args.attrs.now c.loop-attr.attr-index c.attr-item.result inside c.attr-item.is in
    let put : c.add.new.self ≡ c.loop-attr.schema ++ record { name = c.as_str.result.now; kind = c.attr-item.result.kind } ∷ [] = search rules in
    put ∙ (λ i. c.loop-attr.invariant i ++ record { name = c.as_str.ensures i; kind = c.attr-item.result.kind } ∷ []) ∙ sym more
