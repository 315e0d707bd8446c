-- What is found in steps: each value is as it should be, and each fault is the first one and can be told.
use Rattle.std.proofs.Common.{Ok, Err}
use Rattle.std.specs.Prelude.{Result}
use Rattle.cel_types.specs.declared.fault.TypeFault.{TypeFault}
use Rattle.catalogue.specs.Faults.{IsOfTypes}
use Rattle.courses.specs.FirstFault.{◌>>=◌}
use Rattle.courses.specs.ToldFaults.{type_told}

-- what was found is as it should be; or the fault is, and it can be told
abbrev pub IsFound : {A : Type 0} → (A → Type 0) → (TypeFault → Type 0) → Result A TypeFault → Type 0
IsFound good bad (Ok x) = good x
IsFound good bad (Err why) = bad why × IsOfTypes why (type_told why)

-- one step behind another
pub found-then : {A B : Type 0} (good : A → Type 0) (bad : TypeFault → Type 0) (then : B → Type 0) (fails : TypeFault → Type 0) (r : Result A TypeFault) (find : A → Result B TypeFault)
    → IsFound good bad r → ((why : TypeFault) → bad why → fails why) → ((x : A) → good x → IsFound then fails (find x)) → IsFound then fails (r >>= find)
found-then good bad then fails (Ok x) find is by_fault by_value = by_value x is
found-then good bad then fails (Err why) find is by_fault by_value = (by_fault why is.0, is.1)
