use Rattle.std.proofs.Common.{◌≡◌, ◌<◌, ◌∙◌, sym, length, take, false, true, arith}
use Rattle.std.specs.List.{list_any}
use Rattle.std.specs.Str.{bytes_eq}
use Rattle.std.proofs.lemmas.List.{take_all}
use Rattle.cel_grammar.specs.declared.statement.Attr.{Attr}
use Rattle.cel_types.proofs.DeclarationLemmas.{distinct-more, fails_twice}
use Rattle.cel_types.proofs.declaring.test_names.Goals as goal

pub loop-place-preserved : goal.loop-place-preserved
loop-place-preserved c =
    let attr = c.index-attrs-place.result in
    let inside : c.loop-place.place < length c.args.attrs.now = omega arith in
    let absent : list_any (λ (b : Attr). bytes_eq attr.name b.name) (take c.loop-place.place c.args.attrs.now) ≡ false = rw (← c.as_str.ensures) (sym c.is_among.ensures ∙ c.if-is_among.false) in
    distinct-more c.args.attrs.now c.loop-place.place attr inside c.index-attrs-place.is c.loop-place.invariant absent

pub returns-then-is_among-clause-err : goal.returns-then-is_among-clause-err
returns-then-is_among-clause-err c _ =
    let attr = c.index-attrs-place.result in
    let inside : c.loop-place.place < length c.args.attrs.now = omega arith in
    let present : list_any (λ (b : Attr). bytes_eq attr.name b.name) (take c.loop-place.place c.args.attrs.now) ≡ true = rw (← c.as_str.ensures) (sym c.is_among.ensures ∙ c.if-is_among.true) in
    fails_twice c.args.attrs.now c.loop-place.place attr inside c.index-attrs-place.is c.in_ok-copied.field-0 c.in_ok-copied.ensures c.loop-place.invariant present

pub returns-clause-ok : goal.returns-clause-ok
returns-clause-ok c =
    let all : take c.loop-place.place c.args.attrs.now ≡ c.args.attrs.now = take_all c.loop-place.place c.args.attrs.now (omega arith) in
    rw all at c.loop-place.invariant
