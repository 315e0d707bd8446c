use Rattle.std.proofs.Common.{◌≡◌, ◌<◌, ◌+◌, List, ℕ, Some, arith, drop, get_or, length, subst, take, true}
use Rattle.std.specs.List.{list_all}
use Rattle.std.proofs.lemmas.List.{take_rest}
use Rattle.event_csv.specs.Quick.{IsFirst, is_inner}
use Rattle.event_csv.proofs.QuickFacts.{first-named, inner-beyond, none-first, same-more}
use Rattle.event_csv.proofs.quick.behind_name.Goals as goal

pub loop-place-preserved : goal.loop-place-preserved
loop-place-preserved c =
    let s = c.args.text.now in
    let t = c.as_bytes-bytes.result.now in
    let i = c.loop-place.place in
    let in_t : i < length t = c.loop-place-test.true in
    let in_s : i < length s = omega (arith, in_t, c.if-text-end.false) in
    let beyond : 44 < get_or s i 0 = omega (arith, c.if-text-place.false, c.if-byte-le44.false) in
    record {
      same = same-more s t i in_s in_t c.if-text-place.false c.loop-place.invariant.same;
      inner = inner-beyond s i in_s beyond c.loop-place.invariant.inner;
      first = none-first s i beyond c.loop-place.invariant.first;
    }

pub returns : goal.returns
returns c =
    let s = c.args.text.now in
    let t = c.as_bytes-bytes.result.now in
    let all : c.loop-place.place ≡ length t = omega (arith, c.loop-place-test.false, c.loop-place.auto.place-end) in
    let same : take (length t) s ≡ take (length t) t = rw all at c.loop-place.invariant.same in
    let inner : list_all is_inner (take (length t) s) ≡ true = rw all at c.loop-place.invariant.inner in
    let first : 0 < length t → get_or s 0 0 ≡ 34 → ⊥ = rw all at c.loop-place.invariant.first in
    rw (take_rest s (length t + 1)) (
    subst (λ (field : List ℕ). IsFirst s field (Some (drop (length t + 1) s))) c.as_bytes-bytes.ensures.value
    (first-named s t c.if-text-end.false c.if-text-end-ne44.false same inner first c.as_bytes-bytes.ensures.utf8)
    )
