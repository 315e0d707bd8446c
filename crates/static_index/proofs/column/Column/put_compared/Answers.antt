use Rattle.static_index.specs.declared.column.Column.{Column}
use Rattle.static_index.proofs.ColumnLemmas.{column_kept}
use Rattle.static_index.proofs.column.Column.put_compared.Goals as goal

pub returns-in-Eq-clause-kept : goal.returns-in-Eq-clause-kept
returns-in-Eq-clause-kept c = λ label n has.
    let new : Column = record { equal = c.put_hashed.new.buckets; above = c.args.self.now.above; below = c.args.self.now.below; unequal = c.args.self.now.unequal; spans = c.args.self.now.spans } in
    column_kept c.args.self.now new n (λ k h. c.put_hashed.ensures.kept k n h) (λ k h. h) (λ k h. h) (λ h. h) (λ span h. h) label has

pub returns-in-Gt-clause-kept : goal.returns-in-Gt-clause-kept
returns-in-Gt-clause-kept c = λ label n has.
    let new : Column = record { equal = c.args.self.now.equal; above = c.put.new.self; below = c.args.self.now.below; unequal = c.args.self.now.unequal; spans = c.args.self.now.spans } in
    column_kept c.args.self.now new n (λ k h. h) (λ k h. c.put.ensures.kept k n h) (λ k h. h) (λ h. h) (λ span h. h) label has

pub returns-in-Lt-clause-kept : goal.returns-in-Lt-clause-kept
returns-in-Lt-clause-kept c = λ label n has.
    let new : Column = record { equal = c.args.self.now.equal; above = c.args.self.now.above; below = c.put-in-Lt.new.self; unequal = c.args.self.now.unequal; spans = c.args.self.now.spans } in
    column_kept c.args.self.now new n (λ k h. h) (λ k h. h) (λ k h. c.put-in-Lt.ensures.kept k n h) (λ h. h) (λ span h. h) label has

pub returns-in-Ne-clause-kept : goal.returns-in-Ne-clause-kept
returns-in-Ne-clause-kept c = λ label n has.
    let new : Column = record { equal = c.args.self.now.equal; above = c.args.self.now.above; below = c.args.self.now.below; unequal = c.put-in-Ne.new.self; spans = c.args.self.now.spans } in
    column_kept c.args.self.now new n (λ k h. h) (λ k h. h) (λ k h. h) (λ h. c.put-in-Ne.ensures.kept n h) (λ span h. h) label has
