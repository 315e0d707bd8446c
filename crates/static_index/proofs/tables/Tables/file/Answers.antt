use Rattle.static_index.specs.declared.tables.Tables.{Tables}
use Rattle.static_index.proofs.TablesLemmas.{filed_kept}
use Rattle.static_index.proofs.tables.Tables.file.Goals as goal

pub returns-in-None-clause-kept : goal.returns-in-None-clause-kept
returns-in-None-clause-kept c = λ other n has.
    let new : Tables = record { rest = c.put.new.self; columns = c.args.self.now.columns } in
    filed_kept c.args.self.now new n (c.put.ensures.kept n) (λ part h. h) other has
