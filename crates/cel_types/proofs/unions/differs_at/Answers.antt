use Rattle.std.proofs.Common.{◌<◌, [], length, get_or, arith}
use Rattle.std.proofs.lemmas.Option.{slice_get-get_or}
use Rattle.event_types.specs.declared.kind.Kind.TheVariants.{Int}
use Rattle.stream_schema.specs.Schema.{Attr}
use Rattle.cel_types.proofs.UnionLemmas.{difference-at, difference-past}
use Rattle.cel_types.proofs.unions.differs_at.Goals as goal

pub returns-then-place-size-clause-value : goal.returns-then-place-size-clause-value
returns-then-place-size-clause-value c =
    λ n. difference-past n c.args.place c.args.left.now c.args.right.now c.requires.left (omega (arith, c.size.ensures.value))

pub returns-clause-value : goal.returns-clause-value
returns-clause-value c =
    let left = c.args.left.now in
    let right = c.args.right.now in
    let place = c.args.place in
    let none : Attr = record { name = []; kind = Int } in
    let within : place < length right = omega (arith, c.size.ensures.value) in
    let a = slice_get-get_or left place none c.requires.left in
    let b = slice_get-get_or right place none within in
    λ n. difference-at n place left right (get_or left place none) (get_or right place none) c.is_same_at.result a b (c.is_same_at.ensures (get_or left place none) (get_or right place none) a b)
