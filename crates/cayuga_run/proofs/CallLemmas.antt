-- What a call promises of its result, where it is known which one came.
use Rattle.std.proofs.Common.{◌≡◌, false, true, Result, Ok, Err}
use Rattle.std.specs.Result.{OnErr, OnOk, is_err}

-- what a call promises of its Ok, where it is no Err
pub from_ok : {T E P : Type 0} (r : Result T E) → false ≡ is_err r → OnOk r P → P
from_ok (Ok value) none holds = holds
from_ok (Err fault) none holds = absurd cc

-- and of its Err, where it is one
pub from_err : {T E P : Type 0} (r : Result T E) → true ≡ is_err r → OnErr r P → P
from_err (Ok value) failed holds = absurd cc
from_err (Err fault) failed holds = holds
