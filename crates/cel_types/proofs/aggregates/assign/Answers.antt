use Rattle.std.proofs.Common.{◌≡◌, ◌∙◌, sym, rules}
use Rattle.std.proofs.lemmas.List.{map-set}
use Rattle.scalar_expr.specs.Views.{sc_of}
use Rattle.cel_types.proofs.AssignLemmas.{assigns-one}
use Rattle.cel_types.proofs.aggregates.assign.Goals as goal

pub returns-clause-ok : goal.returns-clause-ok
returns-clause-ok c =
    let place = c.in-Some.found.0 in
    let want = c.in-Some.found.1 in
    let same : want ≡ c.in_ok-term.got = search rules in
    let term = sc_of c.in_ok-term.term in
    assigns-one place term want (rw c.as_str-name.ensures at c.in-Some.ensures.value) (rw c.as_str-name.ensures at (sym c.has_name.ensures ∙ c.if-has_name.false)) (rw same c.in_ok-term.ensures.ok)
    (map-set sc_of c.args.terms.now.items place c.in_ok-term.term)
