-- The rules of items, named by what they are the rules of, for searches.
use Rattle.cel_types.specs.Items as items
use Rattle.cel_types.proofs.MakeLemmas.{extends-named, extends-all, fail-append, fail-more, make-more}

-- a scalar under its name
pub ruleset named_rules = (items.scalar, items.there, extends-named)

-- all attributes of a schema
pub ruleset star_rules = (items.all_there, extends-all)

-- the items one by one
pub ruleset item_rules = (items.none, make-more)
