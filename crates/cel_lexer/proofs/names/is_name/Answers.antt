use Rattle.std.proofs.Common.{rules, ◌≡◌}
use Rattle.cel_lexer.specs.Names.{is_name}
use Rattle.cel_lexer.proofs.NameLemmas.{one_token}
use Rattle.cel_lexer.proofs.names.is_name.Goals as goal

pub returns-clause-one_token : goal.returns-clause-one_token
returns-clause-one_token c =
    let same : c.is_name_of.result ≡ is_name c.args.word.now = search rules in
    rw same (one_token c.args.word.now c.utf8.word)
