use Rattle.std.proofs.Common.{◌≡◌, ◌∙◌, ◌++◌, append-nil}
use Rattle.load_texts.specs.EventText.{event_text, lines_from}
use Rattle.load_texts.proofs.text.event_text.Goals as goal

-- all lines were made
pub returns-in-Ok : goal.returns-in-Ok
unfolding event_text
returns-in-Ok c =
    let none = c.in_ok-append_next.ensures.none c.if-branch.false in
    let all : c.append_next.new.text.items ≡ c.lines.text.items ++ c.lines.lines = rw (none, append-nil c.append_next.new.text.items) at (c.in_ok-append_next.ensures.moved) in
    let text : c.in-Ok.text.now ≡ lines_from c.args.seed 0 c.args.events = c.in-Ok.ensures.cases.0 ∙ c.deref.ensures.value ∙ all ∙ c.lines.invariant in
    rw text at c.make.ensures
