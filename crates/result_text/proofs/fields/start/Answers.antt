use Rattle.std.proofs.Common.{◌≢◌, ◌∙◌, ap, ◌++◌}
use Rattle.csv.specs.declared.writer.QuoteStyle.TheVariants as style
use Rattle.csv.specs.Writing.{writer_setup}
use Rattle.result_text.specs.Written.{bytes_of}
use Rattle.result_text.proofs.FieldLemmas.{field_text-quoted}
use Rattle.result_text.proofs.fields.start.Goals as goal
use Rattle.result_text.proofs.fields.start.Goals.{in-Ok, in-Err}

pub returns-clause-bytes : goal.returns-clause-bytes
returns-clause-bytes c =
    elim c.match-write_field.branch [
      | in-Ok w ↦
          let plain : (writer_setup c.args.writer.now).style ≢ style.NonNumeric = rw c.requires.setup (λ e. cc) in
          let appended = rw (c.requires.setup, c.requires.between) at (w.in-Ok.ensures.text plain) in
          rw w.result-is (appended ∙ ap (λ text. bytes_of c.args.writer.now ++ text) (field_text-quoted c.args.field.now))
      | in-Err w ↦ rw w.result-is tt
    ]
