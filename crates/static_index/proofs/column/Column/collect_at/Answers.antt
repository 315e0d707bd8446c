use Rattle.std.proofs.lemmas.Result.{on_ok_weaker}
use Rattle.static_index.proofs.ColumnLemmas.{collected, stays}
use Rattle.static_index.proofs.column.Column.collect_at.Goals as goal

pub returns-clause-kept : goal.returns-clause-kept
returns-clause-kept c = on_ok_weaker c.append.result (λ last. λ n has.
    stays c.args.self.now c.args.value.now n c.args.found.now c.collect_hashed.new.found c.collect_up_to.new.found c.collect_from.new.found c.collect_spans.new.found c.append.new.found c.in_ok-collect_hashed.ensures
    (c.in_ok-collect_up_to.ensures.kept n) (λ l. c.in_ok-collect_up_to.ensures.found l n) (c.in_ok-collect_from.ensures.kept n) (λ l. c.in_ok-collect_from.ensures.found l n)
    (c.in_ok-collect_spans.ensures.kept n) (λ span. c.in_ok-collect_spans.ensures.found span n) last has) c.append.ensures

pub returns-clause-found : goal.returns-clause-found
returns-clause-found c = on_ok_weaker c.append.result (λ last. λ label n met has.
    collected c.args.self.now c.args.value.now n c.args.found.now c.collect_hashed.new.found c.collect_up_to.new.found c.collect_from.new.found c.collect_spans.new.found c.append.new.found c.in_ok-collect_hashed.ensures
    (c.in_ok-collect_up_to.ensures.kept n) (λ k. c.in_ok-collect_up_to.ensures.found k n) (c.in_ok-collect_from.ensures.kept n) (λ k. c.in_ok-collect_from.ensures.found k n)
    (c.in_ok-collect_spans.ensures.kept n) (λ span. c.in_ok-collect_spans.ensures.found span n) last label met has) c.append.ensures
