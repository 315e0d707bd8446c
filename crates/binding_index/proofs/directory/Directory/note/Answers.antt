use Rattle.binding_index.proofs.directory.Directory.note.Goals as goal

pub returns-clause-ok : goal.returns-clause-ok
returns-clause-ok c = rw (← c.self.view_is) c.in_ok-added.ensures.ok
