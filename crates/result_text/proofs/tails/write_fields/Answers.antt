use Rattle.std.proofs.Common.{◌≡◌, ◌∙◌, ◌++◌, ◌∷◌, [], ap, take, append_assoc, arith}
use Rattle.std.specs.Prelude.{decimal}
use Rattle.std.proofs.lemmas.Grind.{common_steps}
use Rattle.result_text.specs.Written.{bytes_of}
use Rattle.result_text.specs.Tails.{tail_text}
use Rattle.result_text.proofs.LineLemmas.{join-fields}
use Rattle.result_text.proofs.tails.write_fields.Goals as goal

pub returns-clause-bytes : goal.returns-clause-bytes
returns-clause-bytes c =
    let tuple = c.args.tuple.now in
    let before = bytes_of c.args.writer.now in
    let all : take c.loop-value.value-index c.as_slice-value-items.result.now ≡ tuple.vals = grind (arith, common_steps) in
    let fields = rw all at c.loop-value.invariant.bytes in
    let whole : bytes_of c.loop-value.writer ++ 10 ∷ [] ≡ before ++ tail_text tuple =
    ap (λ bytes. bytes ++ 10 ∷ []) fields ∙ append_assoc before _ (10 ∷ []) ∙ ap (λ text. before ++ text) (join-fields (decimal tuple.from) (decimal tuple.at) tuple.vals) in
    rw whole at c.end.ensures.bytes
