use Rattle.std.proofs.Common.{◌∙◌, ◌++◌, ◌∷◌, [], List, ℕ, ap, sym, get_or, set, map, map-id}
use Rattle.std.proofs.lemmas.Iterator.Adapters.{YieldsList-from_vec}
use Rattle.std.proofs.lemmas.Iterator.Consumers.{YieldsList-end}
use Rattle.std.proofs.lemmas.List.{get_or-set_same, set-set}
use Rattle.event_types.specs.Tuple.{TupleView}
use Rattle.epoch_draft.specs.Made.{placed}
use Rattle.epoch_draft.proofs.MadeLemmas.{cleared_is}
use Rattle.epoch_draft.proofs.made.Made.put.Goals as goal

pub loop-tuple-init : goal.loop-tuple-init
loop-tuple-init c = record {
  can_next = tt;
  is_finite = tt;
  put = ap (λ (ps : List ℕ). map (placed c.self.inside.tuples) (set c.self.inside.places c.args.stream ps)) c.clear.ensures ∙ cleared_is c.self.inside.tuples c.self.inside.places c.args.self.now c.args.stream c.self.view_is;
}

-- one tuple more
pub loop-tuple-preserved : goal.loop-tuple-preserved
loop-tuple-preserved c =
    let old = c.args.self.now in
    let s = c.args.stream in
    let rows = c.loop-tuple.yielded in
    let x = c.in-Some.tuple in
    record {
      can_next = tt;
      is_finite = tt;
      put =
          c.in_ok-add.ensures ∙ ap (λ (xss : List (List TupleView)). set xss s (get_or xss s [] ++ x ∷ [])) c.loop-tuple.invariant.put ∙ ap (λ (xs : List TupleView). set (set old s rows) s (xs ++ x ∷ [])) (get_or-set_same old s rows [] c.requires)
          ∙ set-set old s rows (rows ++ x ∷ []);
    }

-- all tuples were gone through
pub returns : goal.returns
returns c =
    let gives = c.into_iter-tuple-iterator.ensures.into_iter_gives in
    let end = YieldsList-end (YieldsList-from_vec {s = c.into_iter-tuple-iterator.result} c.args.tuples.items gives.0 (gives.1 ∙ c.args.tuples.ok.0)) c.loop-tuple.yielded c.loop-tuple.tuple-iterator c.loop-tuple.yielded_by c.next.result c.next.new.self c.in-None.is c.next.ensures.steps in
    c.loop-tuple.invariant.put ∙ ap (λ (xs : List TupleView). set c.args.self.now c.args.stream xs) (sym (map-id c.loop-tuple.yielded) ∙ end.0)
