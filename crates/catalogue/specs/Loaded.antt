-- What a catalogue is as it is loaded from a query text.
use Rattle.std.specs.Prelude.{◌≡◌, ◌++◌, ◌-◌, List, ℕ, length, map}
use Rattle.std.specs.List.{All, range_with_len}
use Rattle.semantics.specs.Programs.{IsUnborn}
use Rattle.splitter.specs.Chains.{end_of, lines_of}
use Rattle.stream_schema.specs.Streams.{hidden_entries}
use Rattle.cel_grammar.specs.Views.{statement_of}
use Rattle.catalogue.specs.Catalogued.{Catalogued, program_in, work_in}
use Rattle.catalogue.specs.Judgement.{Accepts, Judged, program_of}

-- a catalogue holds what a text was judged to be: its statements with their lines, its streams with the hidden ones behind them, the numbers of its queries in the order of work, and its program
pub record HoldsJudged (judged : Judged) (c : Catalogued) : Type 0 where
  pub statements : map statement_of c.file.statements ≡ judged.statements
  pub lines : c.file.lines ≡ judged.lines
  pub streams : c.streams ≡ judged.streams ++ hidden_entries (length judged.streams) (end_of (program_of judged) - length judged.streams)
  pub order : c.order ≡ judged.order
  pub program : program_in c ≡ program_of judged

-- a catalogue is as if all its queries were there from the start: none has a birth, and the ends of the lines have the first numbers, in the order of the lines
pub record IsUnchanged (c : Catalogued) : Type 0 where
  pub unborn : All IsUnborn (work_in c)
  pub ends : c.ends ≡ range_with_len 0 (length (lines_of (program_in c)))
  pub next : c.next_end ≡ length c.ends

-- a catalogue was loaded from a text: the text is accepted, the catalogue holds what it is judged to be, and all queries are there from the start
pub record IsLoadedFrom (text : List ℕ) (c : Catalogued) : Type 0 where
  pub judged : Judged
  pub accepts : Accepts text judged
  pub holds : HoldsJudged judged c
  pub unchanged : IsUnchanged c
