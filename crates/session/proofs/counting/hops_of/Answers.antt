use Rattle.std.proofs.Common.{◌≡◌, ◌∙◌, ◌+◌, ◌++◌, ◌∷◌, [], ap, length, take, arith}
use Rattle.std.specs.Prelude.{sum_by}
use Rattle.std.proofs.lemmas.List.{take_more}
use Rattle.std.proofs.lemmas.List.Sums.{sum_by-append}
use Rattle.std.proofs.lemmas.Option.{get_or_from_slice_get}
use Rattle.automaton.specs.declared.line.Line.{Line}
use Rattle.session.proofs.counting.hops_of.Goals as goal

-- the hops of one line more
pub loop-place-preserved : goal.loop-place-preserved
loop-place-preserved c =
    let lines = c.args.lines.now in
    let i = c.loop-place.place in
    let line = c.get.result.now in
    let more : sum_by (λ (l : Line). length l.hops) (take (i + 1) lines) ≡ sum_by (λ (l : Line). length l.hops) (take i lines) + (0 + length line.hops) =
    ap (sum_by (λ (l : Line). length l.hops)) (take_more lines i line (omega arith) ∙ ap (λ l. take i lines ++ l ∷ []) (get_or_from_slice_get lines i line line c.get.ensures)) ∙ sum_by-append (λ (l : Line). length l.hops) (take i lines) (line ∷ []) in
    omega (arith, more, c.len.ensures, c.loop-place.invariant, c.saturating_add-count.ensures)
