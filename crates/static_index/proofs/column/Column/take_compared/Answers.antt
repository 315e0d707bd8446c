use Rattle.static_index.specs.declared.column.Column.{Column}
use Rattle.static_index.proofs.ColumnLemmas.{column_kept}
use Rattle.static_index.proofs.IdLemmas.{others_stay}
use Rattle.static_index.proofs.column.Column.take_compared.Goals as goal

pub returns-in-Eq : goal.returns-in-Eq
returns-in-Eq c = λ label n apart has.
    let new : Column = record { equal = c.take_hashed.new.buckets; above = c.args.self.now.above; below = c.args.self.now.below; unequal = c.args.self.now.unequal; spans = c.args.self.now.spans } in
    column_kept c.args.self.now new n (λ k h. c.take_hashed.ensures k n apart h) (λ k h. h) (λ k h. h) (λ h. h) (λ span h. h) label has

pub returns-in-Gt : goal.returns-in-Gt
returns-in-Gt c = λ label n apart has.
    let new : Column = record { equal = c.args.self.now.equal; above = c.take.new.self; below = c.args.self.now.below; unequal = c.args.self.now.unequal; spans = c.args.self.now.spans } in
    column_kept c.args.self.now new n (λ k h. h) (λ k h. c.take.ensures k n apart h) (λ k h. h) (λ h. h) (λ span h. h) label has

pub returns-in-Lt : goal.returns-in-Lt
returns-in-Lt c = λ label n apart has.
    let new : Column = record { equal = c.args.self.now.equal; above = c.args.self.now.above; below = c.take-in-Lt.new.self; unequal = c.args.self.now.unequal; spans = c.args.self.now.spans } in
    column_kept c.args.self.now new n (λ k h. h) (λ k h. h) (λ k h. c.take-in-Lt.ensures k n apart h) (λ h. h) (λ span h. h) label has

pub returns-in-Ne : goal.returns-in-Ne
returns-in-Ne c = λ label n apart has.
    let new : Column = record { equal = c.args.self.now.equal; above = c.args.self.now.above; below = c.args.self.now.below; unequal = c.take_out.new.self; spans = c.args.self.now.spans } in
    column_kept c.args.self.now new n (λ k h. h) (λ k h. h) (λ k h. h) (λ h. others_stay _ _ c.take_out.ensures n apart h) (λ span h. h) label has
