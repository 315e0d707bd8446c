-- Words that the command takes, and words that it refuses.
use Rattle.std.proofs.Common.{◌≡◌, ◌∙◌, ap, sym}
use Rattle.clap.specs.Faults.{fault_of, is_simple_and_free}
use Rattle.clap.specs.Simple.{App, app_of, is_simple, matches_of}
use Rattle.command_line.proofs.CommandLemmas.{rows_without-none, rows_without-some, some-kind, the_command-is_free, the_command-is_simple}
use Rattle.command_line.specs.Command.{the_command}
use Rattle.command_line.specs.Table.{rows_taken, texts_of}
use Rattle.command_line.proofs.command.matches_in.Goals as goal

pub returns-in-Ok : goal.returns-in-Ok
unfolding rows_taken
returns-in-Ok c =
    let is : app_of c.in_ok-command.command ≡ the_command = c.in_ok-command.ensures in
    let words = texts_of c.args.words.now in
    let found = c.in-Ok.ensures.matches (ap is_simple is ∙ the_command-is_simple) in
    let free = c.in-Ok.ensures.kinds (ap is_simple_and_free is ∙ the_command-is_free) in
    rows_without-none _ _ _ (sym (ap (λ (a : App). fault_of a words) is) ∙ free) (found.0 ∙ ap (λ (a : App). matches_of a words) is)

pub returns : goal.returns
unfolding rows_taken
returns c =
    let is : app_of c.in_ok-command.command ≡ the_command = c.in_ok-command.ensures in
    let words = texts_of c.args.words.now in
    let kinds = c.in-Err.ensures.kinds (ap is_simple_and_free is ∙ the_command-is_free) in
    let some = some-kind _ c.in-Err.error kinds (λ e. c.in_default.not-OutOfMemory (c.kind.ensures ∙ e)) in
    rows_without-some _ _ (λ none. some (ap (λ (a : App). fault_of a words) is ∙ none))
