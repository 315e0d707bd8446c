use Rattle.std.proofs.Common.{◌≡◌, ◌∙◌, ◌+◌, ◌-◌, length, refl, sym, ap, subst, arith}
use Rattle.std.proofs.lemmas.List.{length-append}
use Rattle.std.proofs.lemmas.List.Sums.{sum_by-append}
use Rattle.automaton.specs.declared.line.Line.{Line}
use Rattle.work_order.proofs.NumbersLemmas.{added_last}
use Rattle.catalogue.specs.declared.held_lines.Before.{Before}
use Rattle.catalogue.specs.declared.held_lines.HeldLines.{HeldLines}
use Rattle.catalogue.specs.declared.held_queries.HeldQueries.{HeldQueries}
use Rattle.catalogue.specs.Catalogued.{Catalogued, work_in}
use Rattle.catalogue.specs.Coming.{HasCome, IsLatest}
use Rattle.catalogue.specs.Fitting.{MayTell}
use Rattle.catalogue.specs.HeldParts.{with_lines}
use Rattle.catalogue.specs.Tables.{IsHeld}
use Rattle.catalogue.specs.Taking.{IsFit, added_of}
use Rattle.catalogue.specs.Tallies.{AddsReads}
use Rattle.expressions.specs.declared.expression.Expr.{Expr}
use Rattle.expressions.specs.Views.{ex_of}
use Rattle.catalogue.proofs.ComingLemmas.{come_held, come_of, has_come, kinds_up, made_is}
use Rattle.catalogue.proofs.HeldPartLemmas.{kept_back, last_is, lines_back, queries_back, view_of}
use Rattle.catalogue.proofs.ShareLemmas.{shares_even}
use Rattle.catalogue.proofs.SizeLemmas.{size}
use Rattle.catalogue.proofs.accepted.Catalogue.take.Goals as goal

-- numbers are left for its streams
pub overflow_add-publication : goal.overflow_add-publication
overflow_add-publication c =
    let view : Catalogued = view_of c.self.inside.file c.self.inside.declared c.self.inside.streams c.self.inside.work c.self.inside.chains c.self.inside.next_end in
    let is : view ≡ c.args.self.now = c.self.view_is ∙ c.in_ok-told.ensures.same in
    let grows : MayTell view (added_of c.args.query) c.in_ok-told.told = subst (λ (v : Catalogued). MayTell v (added_of c.args.query) c.in_ok-told.told) (sym is) c.in_ok-told.ensures.told in
    omega (arith, grows.lines.room, ap (λ (b : Before). b.sizes.all) c.sizes-before.ensures)

pub overflow_sub-hidden : goal.overflow_sub-hidden
overflow_sub-hidden c =
    let view : Catalogued = view_of c.self.inside.file c.self.inside.declared c.self.inside.streams c.self.inside.work c.self.inside.chains c.self.inside.next_end in
    let is : view ≡ c.args.self.now = c.self.view_is ∙ c.in_ok-told.ensures.same in
    let fit : IsFit view.streams (added_of c.args.query) = subst (λ (v : Catalogued). IsFit v.streams (added_of c.args.query)) (sym is) c.requires.fit in
    let grows : MayTell view (added_of c.args.query) c.in_ok-told.told = subst (λ (v : Catalogued). MayTell v (added_of c.args.query) c.in_ok-told.told) (sym is) c.in_ok-told.ensures.told in
    let latest : IsLatest c.args.since view = subst (IsLatest c.args.since) (sym is) c.requires.born in
    omega (arith, kinds_up view c.self.invariant.held.stands c.args.query fit c.args.since latest c.in_ok-told.told grows, length-append c.self.inside.chains.layout.kinds c.in_ok-told.told.growth.kinds, c.len-hidden.ensures)

-- there are as many shares of lines as of streams
pub put-requires : goal.put-requires
put-requires c =
    let view : Catalogued = view_of c.self.inside.file c.self.inside.declared c.self.inside.streams c.self.inside.work c.self.inside.chains c.self.inside.next_end in
    shares_even (work_in view) c.self.inside.chains.shares c.self.invariant.held.shared

-- the query that was put is the last one
pub take_back-requires-in-Err-published-2 : goal.take_back-requires-in-Err-published-2
take_back-requires-in-Err-published-2 c = added_last c.self.inside.work.order c.put-2.new.self.order (ap (λ (w : HeldQueries). w.order) c.in_default.ensures.ok)

-- where there was no memory, the lines are taken back
pub invariant_of-self-in-Err : goal.invariant_of-self-in-Err
invariant_of-self-in-Err c =
    let inside = c.self.inside in
    let view : Catalogued = view_of inside.file inside.declared inside.streams inside.work inside.chains inside.next_end in
    let even = shares_even (work_in view) inside.chains.shares c.self.invariant.held.shared in
    let chains : c.take_back.new.self ≡ inside.chains = c.take_back.ensures ∙ lines_back inside.chains c.sizes-before.result c.sizes-before.ensures even c.put.new.self c.in_ok-told.told c.in_ok-put.ensures.ok in
    kept_back inside.file inside.declared inside.streams inside.work inside.chains inside.next_end inside.reads inside.size c.self.invariant inside.streams c.put-2.new.self c.take_back.new.self inside.reads refl c.in-Err.ensures.kept chains (λ stream. refl)

-- and so is the query
pub invariant_of-self-in-Err-published : goal.invariant_of-self-in-Err-published
invariant_of-self-in-Err-published c =
    let inside = c.self.inside in
    let view : Catalogued = view_of inside.file inside.declared inside.streams inside.work inside.chains inside.next_end in
    let held = c.self.invariant.held in
    let even = shares_even (work_in view) inside.chains.shares held.shared in
    let chains : c.take_back-in-Err-published.new.self ≡ inside.chains =
    c.take_back-in-Err-published.ensures ∙ lines_back inside.chains c.sizes-before.result c.sizes-before.ensures even c.put.new.self c.in_ok-told.told c.in_ok-put.ensures.ok in
    let work : c.take_back-in-Err-published-2.new.self ≡ inside.work =
    c.take_back-in-Err-published-2.ensures
    ∙ queries_back inside.work c.put-2.new.self _ c.args.query.expr c.in_default.ensures.ok held.stands.publish held.stands.express in
    kept_back inside.file inside.declared inside.streams inside.work inside.chains inside.next_end inside.reads inside.size c.self.invariant c.publish-published.new.streams c.take_back-in-Err-published-2.new.self c.take_back-in-Err-published.new.self c.publish-published.new.reads c.in-Err-published.ensures.kept
    work chains c.in-Err-published.ensures.tallies_kept

-- else the query came
module _ (c : goal.After-drop-statement-2) where
  abbrev was : Catalogued
  was = view_of c.self.inside.file c.self.inside.declared c.self.inside.streams c.self.inside.work c.self.inside.chains c.self.inside.next_end

  was_is : was ≡ c.args.self.now
  was_is = c.self.view_is ∙ c.in_ok-told.ensures.same

  fit_then : IsFit was.streams (added_of c.args.query)
  fit_then = subst (λ (v : Catalogued). IsFit v.streams (added_of c.args.query)) (sym was_is) c.requires.fit

  grows_then : MayTell was (added_of c.args.query) c.in_ok-told.told
  grows_then = subst (λ (v : Catalogued). MayTell v (added_of c.args.query) c.in_ok-told.told) (sym was_is) c.in_ok-told.ensures.told

  latest_then : IsLatest c.args.since was
  latest_then = subst (IsLatest c.args.since) (sym was_is) c.requires.born

  abbrev came : Catalogued
  came = come_of was c.self.invariant.held.stands c.args.query fit_then c.args.since latest_then c.in_ok-told.told grows_then

  made : view_of c.self.inside.file c.self.inside.declared c.publish-published.new.streams c.put-2.new.self c.put.new.self (c.self.inside.next_end + c.len.result) ≡ came
  made =
      let up = kinds_up was c.self.invariant.held.stands c.args.query fit_then c.args.since latest_then c.in_ok-told.told grows_then in
      let long = length-append c.self.inside.chains.layout.kinds c.in_ok-told.told.growth.kinds in
      let stream : c.sizes-before.result.sizes.all ≡ length c.self.inside.chains.layout.kinds = ap (λ (b : Before). b.sizes.all) c.sizes-before.ensures in
      let put = c.in_default.ensures.ok in
      (λ i. view_of c.self.inside.file c.self.inside.declared c.publish-published.new.streams c.put-2.new.self (c.in_ok-put.ensures.ok i) (c.self.inside.next_end + c.len.result))
      ∙ made_is was c.self.invariant.held.stands c.args.query fit_then c.args.since latest_then c.in_ok-told.told grows_then c.name.result.now c.sizes-before.result.sizes.all (c.len-hidden.result - 1) c.len.result c.publish-published.new.streams c.put-2.new.self.order
      c.put-2.new.self.published c.put-2.new.self.expressions (with_lines c.self.inside.chains c.in_ok-told.told).ends c.name.ensures stream (omega (arith, stream, long, up, c.len-hidden.ensures)) c.len.ensures c.in_default-published.ensures.ok
      (ap (λ (w : HeldQueries). w.order) put) (ap (λ (w : HeldQueries). w.published) put) (ap (λ (w : HeldQueries). w.expressions) put) refl

  -- its reads are tallied
  tallied : AddsReads (ex_of c.args.query.expr) c.self.inside.reads c.publish-published.new.reads
  tallied =
      let inside = c.self.inside in
      let own : c.get.result.now ≡ c.args.query.expr =
      last_is inside.work.expressions c.put-2.new.self.expressions c.args.query.expr c.get.result.now c.len-queries.result (ap (λ (w : HeldQueries). w.expressions) c.in_default.ensures.ok) (c.len-queries.ensures.value ∙ sym c.self.invariant.held.stands.express) c.get.ensures in
      subst (λ (x : Expr). AddsReads (ex_of x) inside.reads c.publish-published.new.reads) own c.in_default-published.ensures.tallied

-- its lines and the hops on them are few
pub size_of-requires : goal.size_of-requires
size_of-requires c =
    let view : Catalogued = view_of c.self.inside.file c.self.inside.declared c.self.inside.streams c.self.inside.work c.self.inside.chains c.self.inside.next_end in
    let is : view ≡ c.args.self.now = c.self.view_is ∙ c.in_ok-told.ensures.same in
    let grows : MayTell view (added_of c.args.query) c.in_ok-told.told = subst (λ (v : Catalogued). MayTell v (added_of c.args.query) c.in_ok-told.told) (sym is) c.in_ok-told.ensures.told in
    let few = c.requires.fit.few.lines (length view.layout.kinds) (length view.layout.kinds + 1) in
    omega (arith, few, ap size grows.lines.lines_are, ap size c.as_slice.ensures)

-- and so they are with those of the others
pub overflow_add-self-2 : goal.overflow_add-self-2
overflow_add-self-2 c =
    let view : Catalogued = view_of c.self.inside.file c.self.inside.declared c.self.inside.streams c.self.inside.work c.self.inside.chains c.self.inside.next_end in
    let is : view ≡ c.args.self.now = c.self.view_is ∙ c.in_ok-told.ensures.same in
    let grows : MayTell view (added_of c.args.query) c.in_ok-told.told = subst (λ (v : Catalogued). MayTell v (added_of c.args.query) c.in_ok-told.told) (sym is) c.in_ok-told.ensures.told in
    let few = c.requires.fit.few.lines (length view.layout.kinds) (length view.layout.kinds + 1) in
    omega (arith, few, ap size grows.lines.lines_are, c.size_of.ensures, ap size c.as_slice.ensures, c.self.invariant.sized, ap size c.self.invariant.held.lines_are, grows.few)

pub invariant_of-self-2 : goal.invariant_of-self-2
invariant_of-self-2 c =
    let inside = c.self.inside in
    let held =
    come_held (was c) c.self.invariant.held.stands c.args.query (fit_then c) c.args.since (latest_then c) c.in_ok-told.told (grows_then c) inside.chains.lines inside.chains.shares inside.reads c.publish-published.new.reads c.self.invariant.held (tallied c) in
    let is_held = subst (λ (s : Catalogued × HeldLines). IsHeld s.0 s.1.lines s.1.shares c.publish-published.new.reads) (λ i. (sym (made c) i, sym c.in_ok-put.ensures.ok i)) held in
    let lines : size c.put.new.self.lines ≡ size inside.chains.lines + size c.in_ok-told.told.lines =
    ap (λ (h : HeldLines). size h.lines) c.in_ok-put.ensures.ok ∙ sum_by-append (λ (line : Line). 1 + length line.hops) inside.chains.lines c.in_ok-told.told.lines in
    record {
      held = is_held;
      sized = omega (arith, c.self.invariant.sized, lines, c.size_of.ensures, ap size c.as_slice.ensures);
    }

pub returns-clause-come : goal.returns-clause-come
returns-clause-come c =
    subst (λ (s : Catalogued × Catalogued). HasCome s.0 (added_of c.args.query) c.args.since s.1) (λ i. (was_is c i, sym (made c) i))
    (has_come (was c) c.self.invariant.held.stands c.args.query (fit_then c) c.args.since (latest_then c) c.in_ok-told.told (grows_then c))

-- and they stand in order
pub returns-clause-stands : goal.returns-clause-stands
returns-clause-stands c = (invariant_of-self-2 c).held.stands
