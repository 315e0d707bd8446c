-- The code by which the logic stores a plain store. No public clause cites this module.
use Rattle.std.specs.Prelude.{List, refl}
use Rattle.std.specs.Coded.{Coded, code_by, coded×, coded_list}
use Rattle.semantics.specs.Codes.{conj_code}
use Rattle.semantics.specs.Scalars.{Pr}
use Rattle.instances.specs.Plain.{Plain}
use Rattle.instances.specs.contracts.instance.Instance as instance
use Rattle.instances.specs.declared.instance.Instance.{Instance}

-- a plain store is stored as the pair of its condition and its instances
abbrev pub plain_code : Coded Plain
plain_code =
    code_by (List Pr × List Instance) (coded× conj_code (coded_list instance.the_row.coded)) (λ p. (p.condition, p.instances)) (λ p. record { condition = p.0; instances = p.1 }) (λ _. refl)
