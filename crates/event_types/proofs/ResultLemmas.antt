-- What is promised of a result that was tested.
use Rattle.std.proofs.Common.{◌≡◌, true, false}
use Rattle.std.specs.Prelude.{Result, Ok, Err, OnOk, OnErr, is_err}

-- what holds on Ok holds where there is no error
pub when_ok : {T E P : Type 0} (r : Result T E) → is_err r ≡ false → OnOk r P → P
when_ok (Ok x) e h = h
when_ok (Err x) e h = cc

-- what holds on Err holds where there is one
pub when_err : {T E P : Type 0} (r : Result T E) → is_err r ≡ true → OnErr r P → P
when_err (Ok x) e h = cc
when_err (Err x) e h = h
