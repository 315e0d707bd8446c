use Rattle.std.proofs.Common.{◌∙◌, sym}
use Rattle.std.proofs.lemmas.Result.{on_ok_weaker}
use Rattle.stream_readers.proofs.MakeLemmas.{no_root_made, root_made}
use Rattle.stream_readers.proofs.making.add_root.Goals as goal

pub returns-in-Some : goal.returns-in-Some
returns-in-Some c =
    let n = c.args.number in
    on_ok_weaker c.file_root.result (λ files. root_made c.args.network.now n n c.in-Some.stream c.args.readers.now c.file_root.new.readers (sym c.in-Some.is ∙ c.root.ensures) files c.requires.below) c.file_root.ensures

pub returns-in-None : goal.returns-in-None
returns-in-None c = let n = c.args.number in no_root_made c.args.network.now n n c.args.readers.now (sym c.in-None.is ∙ c.root.ensures) c.requires.below
