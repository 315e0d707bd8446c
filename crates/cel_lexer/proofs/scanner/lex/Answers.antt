use Rattle.std.proofs.Common.{◌≡◌, ◌∙◌, ◌+◌, Err, Ok, ap, sym}
use Rattle.std.proofs.lemmas.Result.{err_from_is_err_and}
use Rattle.std.specs.Str.Lossy.{utf8_valid_len}
use Rattle.cel_lexer.proofs.AscentLemmas.{tokens-ascend}
use Rattle.cel_lexer.proofs.FaultLemmas.{tokens_of-broken, tokens_of-utf8}
use Rattle.cel_lexer.specs.declared.fault.LexFault.TheVariants.{NotUtf8}
use Rattle.cel_lexer.proofs.scanner.lex.Goals as goal

pub returns-in-Err-clause-err : goal.returns-in-Err-clause-err
returns-in-Err-clause-err c _ =
    let place : c.valid_up_to.result ≡ utf8_valid_len c.args.text.now = c.valid_up_to.ensures ∙ c.in-Err.ensures.valid_len in
    let count = rw place at c.line_feeds-line.ensures in
    tokens_of-broken c.args.text.now c.in-Err.ensures.cases.0 ∙ ap (λ n. Err (NotUtf8 (n + 1))) (sym count)

pub over-requires : goal.over-requires
over-requires c =
    let source : c.as_bytes.result.now ≡ c.in-Ok.source.now = c.as_bytes.ensures.value in
    let same : c.in-Ok.source.now ≡ c.args.text.now = c.in-Ok.ensures.cases.0 in
    let found = rw (source, same) at c.in_ok-items.ensures.items in
    let spans = rw source at c.in_ok-items.ensures.spans in
    record { all = rw same (tokens_of-utf8 c.args.text.now c.in-Ok.ensures.cases.1 ∙ found); spans = spans }

pub returns-clause-items : goal.returns-clause-items
returns-clause-items c =
    let found = rw (c.as_bytes.ensures.value, c.in-Ok.ensures.cases.0) at c.in_ok-items.ensures.items in
    tokens_of-utf8 c.args.text.now c.in-Ok.ensures.cases.1 ∙ found ∙ ap Ok (sym c.over.ensures.items)

pub returns-in_err-items-clause-err : goal.returns-in_err-items-clause-err
returns-in_err-items-clause-err c =
    let p = err_from_is_err_and c.from_residual.result c.from_residual.ensures.1 in
    rw (p.1, p.2) (λ other.
    let fault = rw (c.as_bytes.ensures.value, c.in-Ok.ensures.cases.0) at c.in_err-items.ensures.err other in
    tokens_of-utf8 c.args.text.now c.in-Ok.ensures.cases.1 ∙ fault)

pub returns-clause-spans : goal.returns-clause-spans
returns-clause-spans c =
    let found = rw (c.as_bytes.ensures.value, c.in-Ok.ensures.cases.0) at c.in_ok-items.ensures.items in
    rw c.over.ensures.items (tokens-ascend c.args.text.now c.in_ok-items.items.items found)
