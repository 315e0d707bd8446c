use Rattle.std.proofs.Common.{◌≡◌, ◌∙◌, sym, true, get_or}
use Rattle.std.specs.Str.{bytes_eq}
use Rattle.cay_host.proofs.FilesLemmas.{found_at}
use Rattle.cay_host.proofs.files.find.Goals as goal

pub returns-then-eq : goal.returns-then-eq
returns-then-eq c =
    let e : bytes_eq (get_or c.args.files.now c.loop-index.index c.index-files-index.result).name.items c.args.name.now ≡ true = cc in
    sym c.loop-index.invariant ∙ found_at _ _ _ _ c.loop-index-test.true e
