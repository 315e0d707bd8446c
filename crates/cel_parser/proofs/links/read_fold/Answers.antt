use Rattle.std.proofs.Common.{◌≡◌, ap, map, ℕ, List, subst, sym}
use Rattle.std.specs.Prelude.{IsErr, Option, Some, Result, Ok, Err}
use Rattle.std.specs.Result.{IsErrAnd}
use Rattle.cel_grammar.specs.Symbols.{Symbol}
use Rattle.cel_grammar.specs.Trees.{Agg, Pred}
use Rattle.cel_parser.specs.declared.unread.Unread.{Unread}
use Rattle.cel_parser.specs.declared.unread.Unread.TheVariants as unread
use Rattle.cel_parser.specs.ReturnsReading.{ReturnsNothing, ReturnsReading}
use Rattle.cel_parser.specs.Links.{fold_at, link_of, Fold}
use Rattle.cel_parser.specs.GrammarSymbols.{grammar_symbol_of}
use Rattle.cel_parser.specs.PredicateReader.{pred_at}
use Rattle.cel_parser.specs.ScalarReader.{◌>>=◌, comma_at, done}
use Rattle.cel_parser.specs.SourceReader.{aggs_at, brace_at}
use Rattle.cel_parser.proofs.links.read_fold.Goals as goal

-- what goes on behind what fails, fails too
still_fails : {X Y : Type 0} (e : Unread) (r : Option X) (f : X → Option Y) → ReturnsNothing e r → ReturnsNothing e (r >>= f)
still_fails unread.Memory r f fails = tt
still_fails unread.Bad r f fails = ap (λ s. s >>= f) fails

-- without the closing brace there is no FOLD
no_brace : (n : ℕ) (first second third fourth last : List Symbol) (p q : Pred) (aggs : List Agg) (e : Unread) → pred_at n first ≡ Some (p, second) → comma_at second ≡ Some third → pred_at n third ≡ Some (q, fourth) → aggs_at n fourth ≡ Some (aggs, last) → ReturnsNothing e (brace_at last) → ReturnsNothing e (fold_at n first)
unfolding fold_at
no_brace n first second third fourth last p q aggs e choice comma goes_on sets fails =
    rw (choice, comma, goes_on, sets) (still_fails e (brace_at last) (done (Fold p q aggs)) fails)

-- the fault that is passed on
passed_on : {X Y : Type 0} (view : X → Y) (result : Result X Unread) (read : Option Y) (field : Unread) → IsErr result → IsErrAnd result (λ e. e ≡ field) → ReturnsNothing field read → ReturnsReading view result read
passed_on view (Ok x) read field is same fails = cc
passed_on view (Err e) read field is same fails = subst (λ u. ReturnsNothing u read) (sym same) fails

-- src/links.rt:86:16
pub returns-in_err-rest-2 : goal.returns-in_err-rest-2
returns-in_err-rest-2 c =
    passed_on (λ k. (link_of k.0, map grammar_symbol_of k.1.now)) c.from_residual-in_err-rest-2.result (fold_at c.args.fuel (map grammar_symbol_of c.args.symbols.now)) c.in_err-rest-2.field-0.0 c.from_residual-in_err-rest-2.ensures.0 c.from_residual-in_err-rest-2.ensures.1
    (no_brace _ _ _ _ _ _ _ _ _ _ c.in_ok-choice.ensures c.in_ok-rest.ensures c.in_ok-goes_on.ensures c.in_ok-aggs.ensures c.in_err-rest-2.ensures)
