-- A tail that is written field by field from its end to its start.
use Rattle.std.proofs.Common.{◌∙◌, ℕ, List, [], ◌∷◌, Option, None, Some, length, append_assoc}
use Rattle.std.specs.Prelude.{decimal, IfSome}
use Rattle.std.specs.List.{flat_map}
use Rattle.std.proofs.Math.Seq.{drop-length}
use Rattle.event_types.specs.Tuple.{TupleView}
use Rattle.semantics.specs.Report.{value_text}
use Rattle.result_text.specs.Quick.{IsAtEnd, IsBefore}
use Rattle.result_text.specs.Tails.{tail_text}
use Rattle.result_text.proofs.LineLemmas.{join-fields}

-- the LF, the values behind their commas, the detection, a comma and the start make a tail
pub tail_written : (tuple : TupleView) (empty ended valued detected parted whole : List ℕ) (lf vals at comma : ℕ) (start : Option ℕ) → IsBefore (10 ∷ []) empty (length empty) ended lf → IsBefore (flat_map (λ value. 44 ∷ value_text value) tuple.vals) ended lf valued vals → IsBefore (decimal tuple.at) valued vals detected at → IsBefore (44 ∷ []) detected at parted comma → IfSome start (IsBefore (decimal tuple.from) parted comma whole) → IfSome start (IsAtEnd (tail_text tuple) whole)
tail_written tuple empty ended valued detected parted whole lf vals at comma None a b c d e = e
tail_written tuple empty ended valued detected parted whole lf vals at comma (Some start) a b c d e = record {
  within = e.within;
  bytes = e.bytes ∙ rw (d.bytes, c.bytes, b.bytes, a.bytes, drop-length empty) (simp append_assoc (simp append_assoc at (join-fields (decimal tuple.from) (decimal tuple.at) tuple.vals)));
}
