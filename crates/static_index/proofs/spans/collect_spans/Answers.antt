use Rattle.std.proofs.Common.{◌≡◌, sym, subst, rules, map}
use Rattle.std.specs.Map.Iter.{deref_pair}
use Rattle.std.proofs.lemmas.List.{map-append}
use Rattle.std.proofs.lemmas.Map.Iter.{iter_end}
use Rattle.static_index.proofs.SpanLemmas.{FoundAmong, FoundAmong-more, found_spans}
use Rattle.static_index.proofs.spans.collect_spans.Goals as goal

pub reaches-preserved : goal.reaches-preserved
reaches-preserved c = record {
  kept = λ n has. c.in_ok-collect_near.ensures.kept n (c.reaches.invariant.kept n has);
  found =
      subst (λ ps. FoundAmong c.args.value.now ps c.collect_near.new.found) (sym (map-append deref_pair c.reaches.yielded _))
      (FoundAmong-more c.args.value.now (map deref_pair c.reaches.yielded) (c.in-Some.reach.now, c.in-Some.lows.now) c.reaches.found c.collect_near.new.found c.in_ok-collect_near.ensures.kept c.in_ok-collect_near.ensures.found c.reaches.invariant.found);
}

pub returns-clause-found : goal.returns-clause-found
returns-clause-found c =
    let all : map deref_pair c.reaches.yielded ≡ c.args.spans.now.entries = search (rules, iter_end) in
    found_spans c.args.value.now c.args.spans.now c.reaches.found (subst (λ ps. FoundAmong c.args.value.now ps c.reaches.found) all c.reaches.invariant.found)
