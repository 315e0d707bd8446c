use Rattle.std.proofs.Common.{◌≢◌, ◌∙◌, ap, ◌++◌, ◌∷◌}
use Rattle.csv.specs.declared.writer.QuoteStyle.TheVariants as style
use Rattle.csv.specs.Writing.{fields_written, writer_setup}
use Rattle.result_text.specs.Written.{bytes_of}
use Rattle.result_text.proofs.FieldLemmas.{field_text-quoted, next_sep-later}
use Rattle.result_text.proofs.fields.add.Goals as goal
use Rattle.result_text.proofs.fields.add.Goals.{in-Ok, in-Err}

pub returns-clause-bytes : goal.returns-clause-bytes
returns-clause-bytes c =
    elim c.match-write_field.branch [
      | in-Ok w ↦
          let plain : (writer_setup c.args.writer.now).style ≢ style.NonNumeric = rw c.requires.setup (λ e. cc) in
          let appended = rw (c.requires.setup, next_sep-later (fields_written c.args.writer.now) c.requires.begun) at (w.in-Ok.ensures.text plain) in
          rw w.result-is (appended ∙ ap (λ text. bytes_of c.args.writer.now ++ 44 ∷ text) (field_text-quoted c.args.field.now))
      | in-Err w ↦ rw w.result-is tt
    ]
