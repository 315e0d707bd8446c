use Rattle.std.proofs.Common.{◌≡◌, ◌<◌, subst, ℕ, length, map, arith}
use Rattle.std.proofs.lemmas.List.{length-map}
use Rattle.cel_grammar.specs.Views.{column_of}
use Rattle.cel_types.specs.declared.fault.TypeFault.TheVariants.{TooWide}
use Rattle.cel_types.specs.Declarations.{FailsToDeclare, wide}
use Rattle.cel_types.proofs.declaring.declared.Goals as goal

pub returns-then-attrs-gt-MOST-clause-err : goal.returns-then-attrs-gt-MOST-clause-err
returns-then-attrs-gt-MOST-clause-err c _ =
    let columns = map column_of c.args.attrs.now in
    let many : length columns ≡ length c.args.attrs.now = length-map c.args.attrs.now column_of in
    let past : 256 < length columns = rw many (omega arith) in
    subst (λ (n : ℕ). FailsToDeclare columns (TooWide n)) many (wide c.in_ok-test_names.ensures.ok past)
