use Rattle.static_index.specs.declared.column.Column.{Column}
use Rattle.static_index.proofs.ColumnLemmas.{column_kept}
use Rattle.static_index.proofs.column.Column.put.Goals as goal

pub returns-in-Span-clause-kept : goal.returns-in-Span-clause-kept
returns-in-Span-clause-kept c = λ label n has.
    let old = c.args.self.now in
    let new : Column = record { equal = old.equal; above = old.above; below = old.below; unequal = old.unequal; spans = c.put_span.new.spans } in
    column_kept old new n (λ k h. h) (λ k h. h) (λ k h. h) (λ h. h) (λ span h. c.put_span.ensures.kept span n h) label has
