use Rattle.std.proofs.Common.{◌≡◌, ◌+◌, ◌*◌, ◌∙◌, ap, arith, refl, drop, take, ◌-◌}
use Rattle.std.proofs.lemmas.List.{length-drop, take_all}
use Rattle.load_texts.specs.Draws.{drawn}
use Rattle.load_texts.specs.EventText.{event_line}
use Rattle.load_texts.proofs.LineLemmas.{three-draws, moves-line, next-fewer}
use Rattle.load_texts.proofs.lines.Lines.append_next.Goals as goal

-- three draws were made
pub invariant_of-self-2 : goal.invariant_of-self-2
invariant_of-self-2 c =
    let made = c.self.inside.made in
    let draws = three-draws c.self.inside.seed made c.drawn-first.result c.drawn-second.result c.drawn-third.result
    (c.drawn-first.ensures.value ∙ ap drawn c.self.invariant.2) c.drawn-second.ensures.value c.drawn-third.ensures.value in
    let next : 3 * (made + 1) ≡ 3 * made + 3 = omega arith in
    (omega arith, c.drawn-third.ensures.small, rw next draws.2)

-- the next line is put behind the text
pub returns-clause-moved : goal.returns-clause-moved
returns-clause-moved c =
    let made = c.self.inside.made in
    let seed = c.self.inside.seed in
    let draws = three-draws seed made c.drawn-first.result c.drawn-second.result c.drawn-third.result
    (c.drawn-first.ensures.value ∙ ap drawn c.self.invariant.2) c.drawn-second.ensures.value c.drawn-third.ensures.value in
    let text = drop c.write_line-begin.result c.write_line-begin.new.room in
    let line : text ≡ event_line seed made =
    rw (c.write_line-begin.ensures.written, c.given-name.ensures, c.given-price.ensures, c.given-volume.ensures, draws.0, draws.1, draws.2) refl in
    let all : take (92 - c.write_line-begin.result) text ≡ text = take_all (92 - c.write_line-begin.result) text (omega (arith, length-drop c.write_line-begin.result c.write_line-begin.new.room)) in
    rw (c.in_ok-extend_from_slice.ensures.items, all, ← c.self.view_is) (moves-line seed made c.self.inside.events c.args.text.now.items text (omega arith) line)

-- the lines that are left are shorter
pub returns-clause-fewer : goal.returns-clause-fewer
returns-clause-fewer c = rw (← c.self.view_is) (λ more. next-fewer c.self.inside.seed c.self.inside.made c.self.inside.events (omega arith))
