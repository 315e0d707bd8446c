use Rattle.std.proofs.Common.{◌≡◌, sym, subst, rules, map, Contains}
use Rattle.std.specs.Map.Iter.{deref_pair}
use Rattle.std.proofs.lemmas.List.{map-append}
use Rattle.std.proofs.lemmas.List.Elements.{Contains-append_right}
use Rattle.std.proofs.lemmas.Map.Iter.{iter_end}
use Rattle.static_index.proofs.TablesLemmas.{FoundIn, FoundIn-more, filed_found}
use Rattle.static_index.proofs.tables.Tables.collect.Goals as goal

pub columns-preserved : goal.columns-preserved
columns-preserved c = record {
  kept = λ n has. c.in_ok-collect.ensures.kept n (c.columns.invariant.kept n has);
  found =
      subst (λ ps. FoundIn c.args.event.now ps c.collect.new.found) (sym (map-append deref_pair c.columns.yielded _))
      (FoundIn-more c.args.event.now (map deref_pair c.columns.yielded) (c.in-Some.attr.now, c.in-Some.column.now) c.columns.found c.collect.new.found c.in_ok-collect.ensures.kept c.in_ok-collect.ensures.found c.columns.invariant.found);
}

pub returns : goal.returns
returns c =
    let all : map deref_pair c.columns.yielded ≡ c.args.self.now.columns.entries = search (rules, iter_end) in
    filed_found c.args.event.now c.args.self.now c.columns.found (λ n has. c.columns.invariant.kept n (subst (λ ids. Contains ids n) (sym c.in_ok-append.ensures) (Contains-append_right c.args.found.now _ n has)))
    (subst (λ ps. FoundIn c.args.event.now ps c.columns.found) all c.columns.invariant.found)
