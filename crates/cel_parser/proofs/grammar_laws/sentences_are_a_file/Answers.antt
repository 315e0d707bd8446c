use Rattle.cel_parser.proofs.Files.{sentences_are_a_file}
use Rattle.cel_parser.proofs.grammar_laws.sentences_are_a_file.Goals as goal

pub returns : goal.returns
returns c = sentences_are_a_file
