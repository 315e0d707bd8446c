use Rattle.std.proofs.Common.{◌≡◌, ◌≢◌, ◌∙◌, false, true, length, sym, ap, subst, inl, inr, arith}
use Rattle.std.proofs.lemmas.Bool.{cases_eq}
use Rattle.semantics.specs.Reading.{ReadsOnly}
use Rattle.expressions.specs.Views.{ex_of}
use Rattle.semantics.specs.Programs.{Query}
use Rattle.std.proofs.lemmas.List.Elements.{All-get_or}
use Rattle.catalogue.specs.Catalogued.{Catalogued, work_in}
use Rattle.catalogue.specs.Counting.{reads}
use Rattle.catalogue.specs.Leaving.{LeavesUnread, place_of}
use Rattle.catalogue.specs.Tables.{IsHeld}
use Rattle.catalogue.specs.Tallies.{reads_all}
use Rattle.catalogue.proofs.CountedLemmas.{not_read, unread}
use Rattle.catalogue.proofs.LeftProgramLemmas.{at_work, none_such}
use Rattle.catalogue.proofs.TallyLemmas.{all_unread}
use Rattle.catalogue.proofs.accepted.Catalogue.reader_of.Goals as goal

-- a stream without reads is read by no query
pub returns-then-tally_at-eq0-clause-none : goal.returns-then-tally_at-eq0-clause-none
returns-then-tally_at-eq0-clause-none c = λ number less.
    let now = c.args.self.now in
    let held : IsHeld now c.self.inside.chains.lines c.self.inside.chains.shares c.self.inside.reads =
    subst (λ (v : Catalogued). IsHeld v c.self.inside.chains.lines c.self.inside.chains.shares c.self.inside.reads) c.self.view_is c.self.invariant.held in
    let none : reads_all c.args.stream now.expressions ≡ 0 = sym (held.tallied c.args.stream) ∙ sym c.tally_at.ensures ∙ c.if-tally_at-eq0.true in
    All-get_or (λ (query : Query). ReadsOnly (λ read. read ≢ c.args.stream) query.expr) (work_in now) (place_of now number) (none_such now held.stands) (at_work now held.stands number less)
    (all_unread c.args.stream now.streams now.published now.expressions none)

-- a query that reads the stream
pub returns-then-does_read-clause-found : goal.returns-then-does_read-clause-found
returns-then-does_read-clause-found c = record {
  within = (let many = ap (λ (v : Catalogued). length v.order) c.self.view_is in omega (arith, c.loop-query-test.true, c.len-query-end.ensures.value, many));
  reads = λ leaves.
      let not : reads c.args.stream (ex_of c.expr.result.now) ≡ false = not_read c.args.stream (ex_of c.expr.result.now) (subst (ReadsOnly (λ read. read ≢ c.args.stream)) (sym c.expr.ensures) leaves) in
      let told : reads c.args.stream (ex_of c.expr.result.now) ≡ true = sym c.does_read.ensures ∙ c.if-does_read.true in
      cc;
  earlier = c.loop-query.invariant;
}

-- one query more doesn't read it
pub loop-query-preserved : goal.loop-query-preserved
loop-query-preserved c = λ number less. elim (cases_eq number c.loop-query.query) [
  | inl here ↦
      subst (LeavesUnread c.args.self.now c.args.stream) (sym here)
      (subst (ReadsOnly (λ read. read ≢ c.args.stream)) c.expr.ensures (unread c.args.stream (ex_of c.expr.result.now) (sym c.does_read.ensures ∙ c.if-does_read.false)))
  | inr other ↦ c.loop-query.invariant number (omega (arith, less, other))
]
