use Rattle.std.proofs.Common.{◌≡◌, ◌∙◌, ℕ, List, ◌++◌, ap, sym, Some, None}
use Rattle.std.proofs.lemmas.Bool.Decides.{Decides-eqb}
use Rattle.std.proofs.lemmas.Slice.Eq.{strip_prefix_is}
use Rattle.event_csv.specs.Control.{add_word, drop_word}
use Rattle.event_csv.proofs.ControlFacts.{adds, no_word, not_text, removes}
use Rattle.event_csv.proofs.control.read_control.Goals as goal

pub returns-in_default-clause-err : goal.returns-in_default-clause-err
returns-in_default-clause-err c = not_text c.args.line.now c.in_default.ensures.cases.0

pub returns-in-Some-clause-ok : goal.returns-in-Some-clause-ok
returns-in-Some-clause-ok c =
    adds c.args.line.now c.in-Some.query.now c.in-Ok.ensures.cases.1 (strip_prefix_is Decides-eqb c.args.line.now add_word (Some c.in-Some.query) c.in-Some.ensures.cases)

pub returns-in-Some-strip_prefix-clause-ok :
    goal.returns-in-Some-strip_prefix-clause-ok
returns-in-Some-strip_prefix-clause-ok c =
    let (n, found, rest, size) = c.in-Some-strip_prefix.ensures.cases in
    let line : c.args.line.now ≡ drop_word ++ c.in-Some-strip_prefix.name.now =
    sym c.in-Ok.ensures.cases.0 ∙ found.1 ∙ ap (λ (name : List ℕ). drop_word ++ name) (sym rest) in
    removes c.args.line.now c.in-Some-strip_prefix.name.now c.in-Ok.ensures.cases.1 line

pub returns-in-None-clause-err : goal.returns-in-None-clause-err
returns-in-None-clause-err c =
    let no_add = strip_prefix_is Decides-eqb c.args.line.now add_word None c.in_default-strip_prefix.ensures.cases in
    no_word c.args.line.now c.in-Ok.ensures.cases.1 no_add (λ rest e. c.in-None.ensures.cases rest (c.in-Ok.ensures.cases.0 ∙ e))
