use Rattle.std.proofs.Common.{◌∙◌}
use Rattle.std.proofs.lemmas.Option.{slice_get_within}
use Rattle.binding_index.specs.KeyParts.{key_of_part}
use Rattle.binding_index.proofs.StoreLemmas.{value_is}
use Rattle.binding_index.proofs.TakeLemmas.{found_are, none_are}
use Rattle.binding_index.proofs.keyed_store.KeyedStoreWaiting.candidates.Goals as goal

-- no instance has the event's key
pub returns-in_default : goal.returns-in_default
returns-in_default c =
    rw (← c.self.view_is) (c.none.ensures ∙ none_are (key_of_part c.self.inside.key) c.args.event.now c.self.inside.buckets.entries c.self.invariant.keyed c.self.invariant.distinct c.get-key.result.now
    (value_is c.args.event.now c.vals.result.now c.self.inside.key.event c.get-key.result.now c.vals.ensures c.get-key.ensures) c.in_default.ensures.absent)

pub index-requires : goal.index-requires
index-requires c = slice_get_within _ _ _ c.in-Some.ensures.found.at

-- the bucket has the candidates
pub returns : goal.returns
returns c =
    rw (← c.self.view_is) (c.look.ensures ∙ found_are (key_of_part c.self.inside.key) c.args.event.now c.self.inside.buckets.entries c.self.invariant.keyed c.self.invariant.distinct c.get-key.result.now
    (value_is c.args.event.now c.vals.result.now c.self.inside.key.event c.get-key.result.now c.vals.ensures c.get-key.ensures) c.in-Some.place c.in-Some.ensures.found c.index.result.now c.index.ensures)
