use Rattle.std.proofs.Common.{arith}
use Rattle.std.proofs.lemmas.Grind.{common_steps}
use Rattle.cel_grammar.specs.Views.{pred_of, scalar_of}
use Rattle.cel_print.proofs.TextPredicates.{test_text, and_text, or_text, not_text}
use Rattle.cel_print.proofs.predicates.+append_pred.Goals as goal

pub returns-in_ok-append-in-Test-3 : goal.returns-in_ok-append-in-Test-3
returns-in_ok-append-in-Test-3 t c = grind (arith, common_steps, test_text c.args.place (scalar_of c.in-Test.x) c.in-Test.comparison (scalar_of c.in-Test.y))

pub returns-in_ok-append_pred-in-And-2 : goal.returns-in_ok-append_pred-in-And-2
returns-in_ok-append_pred-in-And-2 t c = grind (arith, common_steps, and_text c.args.place (pred_of c.in-And.p.value) (pred_of c.in-And.q.value))

pub returns-in_ok-append_pred-in-Or-2 : goal.returns-in_ok-append_pred-in-Or-2
returns-in_ok-append_pred-in-Or-2 t c = grind (arith, common_steps, or_text c.args.place (pred_of c.in-Or.p.value) (pred_of c.in-Or.q.value))

pub returns-in_ok-append-in-Not : goal.returns-in_ok-append-in-Not
returns-in_ok-append-in-Not t c = grind (arith, common_steps, not_text c.args.place (pred_of c.in-Not.p.value))
