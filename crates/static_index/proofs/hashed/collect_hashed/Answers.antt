use Rattle.std.proofs.Common.{◌∙◌, ◌++◌, ap, sym, append-nil}
use Rattle.std.specs.Option.{option_copied}
use Rattle.static_index.specs.Buckets.{ids_in}
use Rattle.static_index.proofs.hashed.collect_hashed.Goals as goal

pub returns-in-None : goal.returns-in-None
returns-in-None c =
    let none = sym c.get.ensures.value ∙ ap option_copied c.in-None.is in
    sym (ap (λ o. c.args.found.now ++ ids_in o) none ∙ append-nil c.args.found.now)
