use Rattle.std.proofs.Common.{arith}
use Rattle.std.proofs.lemmas.Grind.{common_steps}
use Rattle.cel_grammar.specs.Views.{scalar_of}
use Rattle.cel_print.proofs.TextScalars.{sum_text, difference_text, product_text, least_text, greatest_text}
use Rattle.cel_print.proofs.scalars.+append_scalar.Goals as goal

pub returns-in_ok-append_scalar-in-Add-2 : goal.returns-in_ok-append_scalar-in-Add-2
returns-in_ok-append_scalar-in-Add-2 t c = grind (arith, common_steps, sum_text c.args.place (scalar_of c.in-Add.x.value) (scalar_of c.in-Add.y.value))

pub returns-in_ok-append_scalar-in-Sub-2 : goal.returns-in_ok-append_scalar-in-Sub-2
returns-in_ok-append_scalar-in-Sub-2 t c = grind (arith, common_steps, difference_text c.args.place (scalar_of c.in-Sub.x.value) (scalar_of c.in-Sub.y.value))

pub returns-in_ok-append_scalar-in-Mul-2 : goal.returns-in_ok-append_scalar-in-Mul-2
returns-in_ok-append_scalar-in-Mul-2 t c = grind (arith, common_steps, product_text c.args.place (scalar_of c.in-Mul.x.value) (scalar_of c.in-Mul.y.value))

pub returns-in_ok-append_scalar-in-Min-2 : goal.returns-in_ok-append_scalar-in-Min-2
returns-in_ok-append_scalar-in-Min-2 t c = grind (arith, common_steps, least_text c.args.place (scalar_of c.in-Min.x.value) (scalar_of c.in-Min.y.value))

pub returns-in_ok-append_scalar-in-Max-2 : goal.returns-in_ok-append_scalar-in-Max-2
returns-in_ok-append_scalar-in-Max-2 t c = grind (arith, common_steps, greatest_text c.args.place (scalar_of c.in-Max.x.value) (scalar_of c.in-Max.y.value))
