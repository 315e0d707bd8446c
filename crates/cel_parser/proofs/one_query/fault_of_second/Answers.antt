use Rattle.std.proofs.Common.{◌∙◌, ap}
use Rattle.std.specs.Prelude.{unwrap_or}
use Rattle.cel_parser.specs.Cutting.{left_at}
use Rattle.cel_parser.specs.declared.fault.SyntaxFault.TheVariants as fault
use Rattle.cel_parser.proofs.QueryLemmas.{too-many}
use Rattle.cel_parser.proofs.one_query.fault_of_second.Goals as goal

pub returns : goal.returns
returns c =
    let is = c.unwrap_or.ensures ∙ ap (λ e. unwrap_or e (fault.BadStatement 2 c.get.result.now.line)) c.err.ensures.value in
    too-many c.read_sentence-read.result (left_at c.args.tokens.now c.args.at) (left_at c.args.tokens.now) c.get.result.now.line c.read_sentence-read.ensures.ok c.read_sentence-read.ensures.err c.unwrap_or.result is
