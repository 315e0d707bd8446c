-- The command by which the words of the command line are read.
use Rattle.std.specs.Prelude.{true, [], Some, codes}
use Rattle.clap.specs.Lexer.{usize_max}
use Rattle.clap.specs.Simple.{App, Shape, new_rule, new_shape, with_rule}
use Rattle.clap.specs.Walk.{Rule}
use Rattle.clap.specs.declared.builder.action.ArgAction.TheVariants.{SetTrue}

-- the flag `--stats`
abbrev pub stats_rule : Rule
stats_rule = record (new_rule (codes "stats")) { long = Some (codes "stats"); action = Some SetTrue }

-- the action, which is required
abbrev pub action_rule : Rule
action_rule = record (new_rule (codes "action")) { required = true }

-- the values behind the action, one or more where any is given
abbrev pub values_rule : Rule
values_rule = record (new_rule (codes "values")) { range = Some (record { start_inclusive = 1; end_inclusive = usize_max }) }

-- a command whose words begin after the program's name, with no flag for help or a version
abbrev pub bare_shape : Shape
bare_shape = record (new_shape (codes "cayuga")) {
  no_binary_name = true;
  disable_help_flag = true;
  disable_version_flag = true;
}

-- the command before its flag, its action and its values
abbrev pub bare_command : App
bare_command = record { top = bare_shape; subs = [] }

-- the command: the flag `--stats`, a required action and a last argument of several values
unfoldable pub the_command : App
the_command = with_rule (with_rule (with_rule bare_command stats_rule) action_rule) values_rule
