use Rattle.cel_types.proofs.elaborating.elaborate.Goals as goal

pub query-requires : goal.query-requires
query-requires c = rw c.in-Query.is at c.requires
