use Rattle.std.proofs.Common.{◌≡◌, ◌∙◌, sym, ap, subst, arith}
use Rattle.automaton.specs.declared.growth.Sizes.{Sizes}
use Rattle.automaton.specs.Layouts.{cut_back, growth_behind, grown}
use Rattle.expressions.specs.Views.{ex_of}
use Rattle.catalogue.specs.Fitting.{IsGrown}
use Rattle.catalogue.proofs.GrownLemmas.{grown_again, grown_back, kinds_more}
use Rattle.catalogue.proofs.growing.lines_of_one.Goals as goal

pub growth_behind-growth-requires-clause-all : goal.growth_behind-growth-requires-clause-all
growth_behind-growth-requires-clause-all c =
    omega (arith, kinds_more c.args.layout.now c.args.schema.now (ex_of c.args.expr.now) c.in_ok-lines.lines c.add_one.new.layout c.in_ok-lines.ensures.ok, ap (λ (s : Sizes). s.all) c.sizes-sizes.ensures)

-- the layout is as it was, with memory or without
pub returns-in_err-growth-clause-same : goal.returns-in_err-growth-clause-same
returns-in_err-growth-clause-same c =
    c.cut_back.ensures ∙ ap (cut_back c.add_one.new.layout) c.sizes-sizes.ensures
    ∙ grown_back c.args.layout.now c.args.schema.now (ex_of c.args.expr.now) c.in_ok-lines.lines c.add_one.new.layout c.in_ok-lines.ensures.ok

pub returns-clause-same : goal.returns-clause-same
returns-clause-same c =
    c.cut_back.ensures ∙ ap (cut_back c.add_one.new.layout) c.sizes-sizes.ensures
    ∙ grown_back c.args.layout.now c.args.schema.now (ex_of c.args.expr.now) c.in_ok-lines.lines c.add_one.new.layout c.in_ok-lines.ensures.ok

-- this is what it grows by
pub returns-clause-ok : goal.returns-clause-ok
returns-clause-ok c =
    let e = ex_of c.args.expr.now in
    let again : grown c.args.layout.now c.in_ok-growth.field-0 ≡ c.add_one.new.layout = ap (grown c.args.layout.now) (c.in_ok-growth.ensures ∙ ap (growth_behind c.add_one.new.layout) c.sizes-sizes.ensures)
    ∙ grown_again c.args.layout.now c.args.schema.now e c.in_ok-lines.lines c.add_one.new.layout c.in_ok-lines.ensures.ok in
    subst (IsGrown c.args.layout.now c.args.schema.now e c.in_ok-lines.lines) (sym again) c.in_ok-lines.ensures.ok
