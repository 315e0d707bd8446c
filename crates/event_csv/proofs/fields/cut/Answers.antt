use Rattle.std.proofs.Common.{◌≡◌, ◌-◌, arith, get_or}
use Rattle.std.specs.Prelude.{◌==◌, not}
use Rattle.std.proofs.lemmas.Str.{IsCharBoundary-after_ascii, IsCharBoundary-before_ascii}
use Rattle.std.proofs.lemmas.List.Sums.{prefix_len-le-length}
use Rattle.std.specs.List.{position_or_len}
use Rattle.event_csv.specs.Fields.{comma}
use Rattle.event_csv.proofs.CutFacts.{comma-byte, parts-none, parts-first}
use Rattle.event_csv.proofs.fields.cut.Goals as goal

pub range-requires-clause-end_boundary : goal.range-requires-clause-end_boundary
range-requires-clause-end_boundary c =
    let i = c.place_of-end.result in
    let s = c.args.text.now in
    let b : get_or s i 0 ≡ 44 = comma-byte s c.as_bytes.result.now i c.as_bytes.ensures.value c.place_of-end.ensures c.if-end-text.true in
    IsCharBoundary-before_ascii s i c.if-end-text.true (omega arith)

pub range_from-requires : goal.range_from-requires
range_from-requires c =
    let i = c.place_of-end.result in
    let s = c.args.text.now in
    let b : get_or s i 0 ≡ 44 = comma-byte s c.as_bytes.result.now i c.as_bytes.ensures.value c.place_of-end.ensures c.if-end-text.true in
    λ _. IsCharBoundary-after_ascii s i c.utf8.text c.if-end-text.true (omega arith)

pub returns-then-end-text : goal.returns-then-end-text
returns-then-end-text c =
    let i = c.place_of-end.result in
    let s = c.args.text.now in
    let p = parts-first s i (rw c.as_bytes.ensures.value at c.place_of-end.ensures) c.if-end-text.true in
    let v = c.range.ensures.value in
    let w = c.range_from.ensures.value in
    let z : i - 0 ≡ i = omega arith in
    rw (v, w, z) p

pub returns-else-end-text : goal.returns-else-end-text
returns-else-end-text c =
    let i = c.place_of-end.result in
    let s = c.args.text.now in
    let q : i ≡ position_or_len (λ b. b == comma) s = rw c.as_bytes.ensures.value at c.place_of-end.ensures in
    parts-none s (omega (arith, prefix_len-le-length (λ x. not (x == comma)) s, q))
