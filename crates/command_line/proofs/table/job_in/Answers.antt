-- What the command found, by the texts that it lends.
use Rattle.std.proofs.Common.{◌∙◌, codes}
use Rattle.clap.proofs.WalkLemmas.{first_value-rows, raw_values-rows}
use Rattle.clap.specs.Matches.{found_of}
use Rattle.command_line.proofs.table.job_in.Goals as goal

pub returns : goal.returns
returns c =
    let found = found_of c.args.found.now in
    let stats = c.get_str.ensures ∙ first_value-rows found (codes "stats") in
    let action = c.get_str-2.ensures ∙ first_value-rows found (codes "action") in
    let values = c.get_strs.ensures ∙ raw_values-rows found (codes "values") in
    rw (stats, action, values) at c.job_given.ensures
