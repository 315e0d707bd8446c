use Rattle.static_index.proofs.HalvingLemmas.{halved}
use Rattle.static_index.proofs.ids.place_in.Goals as goal

pub returns-clause-found : goal.returns-clause-found
returns-clause-found c =
    let facts = c.binary_search.ensures in
    rw (← c.as_slice.ensures) (halved c.as_slice.result.now (rw c.as_slice.ensures c.requires) c.args.id c.binary_search.result facts.bound facts.position).found

pub returns-clause-missing : goal.returns-clause-missing
returns-clause-missing c =
    let facts = c.binary_search.ensures in
    rw (← c.as_slice.ensures) (halved c.as_slice.result.now (rw c.as_slice.ensures c.requires) c.args.id c.binary_search.result facts.bound facts.position).missing
