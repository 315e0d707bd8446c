use Rattle.static_index.specs.declared.column.Column.{Column}
use Rattle.static_index.proofs.ColumnLemmas.{column_kept}
use Rattle.static_index.proofs.column.Column.take.Goals as goal

pub returns-in-Span : goal.returns-in-Span
returns-in-Span c = λ label n apart has.
    let old = c.args.self.now in
    let new : Column = record { equal = old.equal; above = old.above; below = old.below; unequal = old.unequal; spans = c.take_span.new.spans } in
    column_kept old new n (λ k h. h) (λ k h. h) (λ k h. h) (λ h. h) (λ span h. c.take_span.ensures span n apart h) label has
