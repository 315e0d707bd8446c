use Rattle.inst_chain.proofs.run.one.Goals as goal

pub show_start-held-requires : goal.show_start-held-requires
show_start-held-requires g c = (_, (_, _, c.lodge-held.ensures))
