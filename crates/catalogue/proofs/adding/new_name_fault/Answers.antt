use Rattle.stream_schema.proofs.TextLemmas.{own-from_bytes}
use Rattle.catalogue.proofs.adding.new_name_fault.Goals as goal

-- a text can have the name
pub returns-clause-own : goal.returns-clause-own
returns-clause-own c = own-from_bytes c.args.name.now c.type_inv.name
