use Rattle.std.proofs.Common.{◌≡◌, ◌<◌, ◌++◌, ◌∷◌, take}
use Rattle.std.specs.Prelude.{decimal}
use Rattle.std.specs.List.{flat_map}
use Rattle.csv.specs.Writing.{fields_written, writer_setup}
use Rattle.result_text.specs.Written.{any_width, bytes_of}
use Rattle.semantics.specs.Report.{value_text}
use Rattle.result_text.proofs.tails.write_fields.Given as goal

abbrev pub invariant-loop-value : goal.invariant-loop-value
invariant-loop-value l = record {
  bytes : bytes_of l.writer ≡ bytes_of l.fn.writer ++ (decimal l.tuple.from ++ 44 ∷ decimal l.tuple.at ++ flat_map (λ value. 44 ∷ value_text value) (take l.value-index l.value-items));
  setup : writer_setup l.writer ≡ any_width;
  several : 1 < fields_written l.writer;
}
