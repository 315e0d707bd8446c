use Rattle.std.proofs.Common.{◌∙◌, sym}
use Rattle.std.proofs.lemmas.Result.{on_ok_weaker}
use Rattle.stream_readers.proofs.GrownLemmas.{edge_comes, no_edge_comes}
use Rattle.stream_readers.proofs.filing.file_edge.Goals as goal

-- the state before is a root
pub returns-in-Some-clause-targets : goal.returns-in-Some-clause-targets
returns-in-Some-clause-targets c =
    let old = c.args.network.now in
    on_ok_weaker c.file_target.result
    (λ files new adds. edge_comes old new c.places.ensures.network c.args.number c.args.before c.args.hop.now c.requires.free c.requires.before adds c.in-Some.stream c.args.readers.now c.file_target.new.readers (sym c.in-Some.is ∙ c.root.ensures) files (λ s. (c.requires.readers s).targets)) c.file_target.ensures

-- it isn't
pub returns-in-None-clause-targets : goal.returns-in-None-clause-targets
returns-in-None-clause-targets c = λ new adds.
    no_edge_comes c.args.network.now new c.places.ensures.network c.args.number c.args.before c.args.hop.now c.requires.free c.requires.before adds c.args.readers.now (sym c.in-None.is ∙ c.root.ensures) (λ s. (c.requires.readers s).targets)
