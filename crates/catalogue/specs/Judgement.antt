-- What a query text is judged to be.
use Rattle.std.specs.Prelude.{◌==◌, ℕ, List, [], length, map, slice_index_or, None}
use Rattle.std.specs.List.{position_or_len, range_with_len}
use Rattle.semantics.specs.Expressions.{Read}
use Rattle.semantics.specs.Programs.{Program, Query}
use Rattle.stream_schema.specs.Streams.{Entry}
use Rattle.cel_grammar.specs.Trees.{Statement}
use Rattle.cel_types.specs.declared.fault.TypeFault.{TypeFault}
use Rattle.resubscribe.specs.Order.{IsOrder}
use Rattle.catalogue.specs.declared.fault.QueryFault.{QueryFault}
use Rattle.catalogue.specs.Faults.{IsOfTypes}
use Rattle.catalogue.specs.Filing.{FailsAsFile, IsFileWithinLimit}
use Rattle.catalogue.specs.Arranging.{AreSound, FailInNames, HaveCycle}
use Rattle.catalogue.specs.Reading.{reads_in}
use Rattle.catalogue.specs.Statements.{queries_in}
use Rattle.catalogue.specs.Typing.{FileDeclares, FileFailsToDeclare, FailToPublish, Publish, query_lines}

-- a query text as a program: its statements, the streams by number, the numbers of its queries in the order of work, and the same queries typed
pub record Judged : Type 0 where
  pub statements : List Statement
  pub lines : List ℕ
  pub declared : List Entry
  pub streams : List Entry
  pub order : List ℕ
  pub published : List Query

-- the text is accepted as this: the declarations and then the queries in their order are typed, and hidden streams stand behind those of all statements
pub record Accepts (text : List ℕ) (judged : Judged) : Type 0 where
  pub file : IsFileWithinLimit text judged.statements judged.lines
  pub sound : AreSound judged.statements
  pub in_order : IsOrder (reads_in judged.statements) judged.order
  pub declares : FileDeclares judged.statements judged.declared
  pub publishes : Publish (queries_in judged.statements) judged.declared (length judged.statements) judged.order judged.streams judged.published

-- the text is refused: it is no file; or else its names have a fault, or the types of its declarations, or those of its queries
pub data Refuses (text : List ℕ) : ℕ → QueryFault → Type 0 where
  file : {line : ℕ} {why : QueryFault} → FailsAsFile text line why → Refuses text line why
  names : {statements : List Statement} {lines : List ℕ} {line : ℕ} {why : QueryFault} → IsFileWithinLimit text statements lines → FailInNames statements lines line why → Refuses text line why
  declared : {statements : List Statement} {lines order : List ℕ} {line : ℕ} {f : TypeFault} {why : QueryFault}
      → IsFileWithinLimit text statements lines → AreSound statements → IsOrder (reads_in statements) order → FileFailsToDeclare statements lines line f → IsOfTypes f why → Refuses text line why
  query : {statements : List Statement} {lines order : List ℕ} {streams : List Entry} {line : ℕ} {f : TypeFault} {why : QueryFault}
      → IsFileWithinLimit text statements lines → AreSound statements → IsOrder (reads_in statements) order → FileDeclares statements streams → FailToPublish (queries_in statements) (query_lines statements lines) streams order line f → IsOfTypes f why → Refuses text line why

-- the text reads as statements whose queries have the cycle of these names
pub record Circles (text : List ℕ) (names : List (List ℕ)) : Type 0 where
  pub statements : List Statement
  pub lines : List ℕ
  pub file : IsFileWithinLimit text statements lines
  pub have_cycle : HaveCycle statements names

-- a query with a number: its name, its stream and its expression, which it has at its place in the order of work
abbrev pub query_at : Judged → ℕ → Query
query_at judged number = slice_index_or judged.published (position_or_len (λ other. number == other) judged.order) (record { name = []; stream = 0; hidden = 0; expr = Read 0; birth = None })

-- the program: how many streams are declared, the queries in the order of the file, and the same in the order of work
abbrev pub program_of : Judged → Program
program_of judged = record {
  declared = length judged.declared;
  queries = map (query_at judged) (range_with_len 0 (length judged.order));
  order = judged.published;
}

-- a query text is accepted, refused with a fault on a line, or refused for a cycle of names
pub data Verdict : Type 0 where
  Accepted : Judged → Verdict
  Refused : ℕ → QueryFault → Verdict
  Circle : List (List ℕ) → Verdict

-- the text is judged so
abbrev pub Judges : List ℕ → Verdict → Type 0
Judges text (Accepted judged) = Accepts text judged
Judges text (Refused line why) = Refuses text line why
Judges text (Circle told) = Circles text told
