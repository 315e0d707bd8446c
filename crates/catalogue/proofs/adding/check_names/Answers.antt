use Rattle.std.proofs.Common.{◌≡◌, ◌∙◌, ap, subst, sym}
use Rattle.std.specs.List.{All}
use Rattle.stream_schema.specs.Streams.{stream_names}
use Rattle.cel_grammar.specs.Views.{statement_of}
use Rattle.cel_grammar.specs.declared.statement.Statement.{Statement}
use Rattle.catalogue.specs.Adding as adding
use Rattle.catalogue.specs.Taking.{IsKnownName}
use Rattle.catalogue.specs.Naming.{name_fault, read_fault}
use Rattle.catalogue.specs.Statements.{reads_by}
use Rattle.catalogue.proofs.adding.check_names.Goals as goal

-- its name has a fault
pub returns-in-Some-clause-err : goal.returns-in-Some-clause-err
returns-in-Some-clause-err c = adding.named (ap (name_fault (stream_names c.args.streams.now)) (sym c.name.ensures) ∙ sym c.in_ok-why.ensures.fault ∙ c.in-Some.is)

-- a name that it reads has one
pub returns-in-Some-2-clause-err : goal.returns-in-Some-2-clause-err
returns-in-Some-2-clause-err c =
    let names : c.as_slice.result.now ≡ reads_by (statement_of c.args.statement.now) = c.as_slice.ensures ∙ c.in_ok-names-in-Query.ensures ∙ sym (ap (λ (s : Statement). reads_by (statement_of s)) c.in-Query.is) in
    adding.reads (ap (name_fault (stream_names c.args.streams.now)) (sym c.name.ensures) ∙ sym c.in_ok-why.ensures.fault ∙ c.in_default.is)
    (ap (read_fault (stream_names c.args.streams.now)) (sym names) ∙ sym c.in_ok-why-in-Query.ensures.fault ∙ c.in-Some-2.is)

-- all are known
pub returns-clause-known : goal.returns-clause-known
returns-clause-known c =
    let names : c.as_slice.result.now ≡ reads_by (statement_of c.args.statement.now) = c.as_slice.ensures ∙ c.in_ok-names-in-Query.ensures ∙ sym (ap (λ (s : Statement). reads_by (statement_of s)) c.in-Query.is) in
    subst (All (IsKnownName c.args.streams.now)) names (c.in_ok-why-in-Query.ensures.known c.in_default-2.is)
