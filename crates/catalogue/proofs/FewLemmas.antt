-- An accepted query text has few lines, and takes few numbers for hidden streams.
use Rattle.std.proofs.Common.{◌≡◌, ◌+◌, ◌*◌, ◌<◌, ◌≤◌, ◌^◌, length, List, map, arith}
use Rattle.std.specs.List.{All}
use Rattle.std.proofs.lemmas.List.{length-map}
use Rattle.semantics.specs.Programs.{Program}
use Rattle.splitter.proofs.FewLemmas.{size}
use Rattle.splitter.specs.Chains.{end_of, lines_of}
use Rattle.splitter.proofs.ProgramLemmas.{IsShort, few_lines, few_taken}
use Rattle.cel_grammar.specs.Trees.{Statement}
use Rattle.cel_grammar.specs.Views.{statement_of}
use Rattle.catalogue.specs.Parts.{Parts, IsAccepted, judged_of}
use Rattle.catalogue.specs.Filing.{most_bytes}
use Rattle.catalogue.specs.Judgement.{program_of}
use Rattle.catalogue.proofs.HeldLemmas.{queries_long, sizes}
use Rattle.catalogue.proofs.RoomLemmas.{file_few, published_short, queries_few}
use Rattle.catalogue.proofs.TurnLemmas.{numbered}

module _ (c : Parts) (accepted : IsAccepted c) where
  abbrev program : Program
  program = program_of (judged_of c)

  abbrev statements : List Statement
  statements = map statement_of c.file.statements

  -- its queries are short
  short : All (λ query. IsShort query.expr) program.order
  short = published_short (queries_few accepted.text statements c.file.lines accepted.accepts.file) accepted.accepts.publishes

  -- and there are few statements
  few : length c.declared + length program.order ≤ most_bytes
  few =
      let all : length statements ≤ most_bytes = file_few accepted.text statements c.file.lines accepted.accepts.file in
      let queries : length program.order ≡ length c.order = queries_long c accepted in omega (arith, all, queries, sizes c accepted, length-map c.file.statements statement_of)

  -- numbers are left behind its streams
  pub numbers_left : end_of program < 2 ^ 64
  numbers_left =
      let all : length statements ≤ most_bytes = file_few accepted.text statements c.file.lines accepted.accepts.file in
      let before : length c.declared ≤ length statements = omega (arith, sizes c accepted, length-map c.file.statements statement_of) in
      let most : end_of program ≤ length statements + 1024 * length program.order =
      few_taken (length c.declared) (length statements) (length c.declared) program.order (numbered accepted.accepts.publishes) short before in omega (arith, most, all, few)

  -- its lines and their hops are few
  pub lines_few : size (lines_of program) < 2 ^ 64
  lines_few = omega (arith, few_lines program.order short, few)
