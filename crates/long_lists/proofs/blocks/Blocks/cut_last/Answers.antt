use Rattle.std.proofs.Common.{◌∙◌, ◌+◌, ◌++◌, ◌∷◌, [], length, take, ap}
use Rattle.long_lists.specs.Blocks.{closed_of, joined}
use Rattle.long_lists.proofs.BlocksLemmas.{cut_view}
use Rattle.long_lists.proofs.blocks.Blocks.cut_last.Goals as goal

pub returns-clause-items : goal.returns-clause-items
returns-clause-items g c =
    ap (λ last. joined (c.self.inside.closed ++ last ∷ [])) c.truncate.ensures ∙ cut_view c.self.inside.closed c.self.inside.last c.args.len
    ∙ ap (λ blocks. take (length (joined (closed_of blocks)) + c.args.len) (joined blocks)) c.self.view_is
