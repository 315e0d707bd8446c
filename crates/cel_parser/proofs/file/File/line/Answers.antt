use Rattle.std.proofs.Common.{◌≡◌, length, ap, arith}
use Rattle.cel_parser.specs.Filed.{Filed}
use Rattle.cel_parser.proofs.SentenceLemmas.{lines-of}
use Rattle.cel_parser.proofs.file.File.line.Goals as goal

pub get-requires : goal.get-requires
get-requires c =
    let of_now : length c.self.inside.statements ≡ length c.args.self.now.statements = ap (λ (f : Filed). length f.statements) c.self.view_is in
    omega (arith, of_now, lines-of _ c.self.invariant, c.requires)
