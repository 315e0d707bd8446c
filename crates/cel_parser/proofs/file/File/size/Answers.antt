use Rattle.std.proofs.Common.{◌∙◌, length, ap}
use Rattle.cel_parser.specs.Filed.{Filed}
use Rattle.cel_parser.proofs.SentenceLemmas.{lines-of}
use Rattle.cel_parser.proofs.file.File.size.Goals as goal

pub returns-clause-lines : goal.returns-clause-lines
returns-clause-lines c =
    c.len.ensures ∙ lines-of _ c.self.invariant ∙ ap (λ (f : Filed). length f.lines) c.self.view_is
