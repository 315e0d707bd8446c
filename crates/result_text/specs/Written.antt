-- What a writer of result lines has written. No public clause cites it.
use Rattle.std.specs.Prelude.{◌≡◌, ℕ, List, [], ◌++◌, true}
use Rattle.std.specs.Prelude.{Vec}
use Rattle.csv.specs.Writing.{default_writer, fields_written, writer_pending, writer_setup, writer_under}
use Rattle.csv.specs.declared.writer.Writer.{Writer}
use Rattle.csv.specs.declared.writer.WriterBuilder.{WriterBuilder}

-- the defaults of `csv`, for lines of any number of fields
abbrev pub any_width : WriterBuilder
any_width = record default_writer { flexible = true }

-- the bytes that are written, the buffered ones included
abbrev pub bytes_of : {A : Type 0} → Writer (Vec ℕ A) → List ℕ
bytes_of writer = (writer_under writer).items ++ writer_pending writer

-- no line is begun, and no byte waits
pub record IsBetween {A : Type 0} (writer : Writer (Vec ℕ A)) : Type 0 where
  pub setup : writer_setup writer ≡ any_width
  pub between : fields_written writer ≡ 0
  pub none : writer_pending writer ≡ []
