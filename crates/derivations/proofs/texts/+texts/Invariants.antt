use Rattle.std.proofs.Common.{◌≡◌, ◌++◌, map, take}
use Rattle.std.specs.Prelude.{string_bytes}
use Rattle.derivations.specs.Derivation.{listed}
use Rattle.derivations.specs.Texts.{all_text}
use Rattle.derivations.specs.Views.{derivation_of}
use Rattle.derivations.proofs.texts.+texts.Given as goal

-- the texts of the derivations so far were put
abbrev pub invariant-append_all-loop-place : goal.invariant-append_all-loop-place
invariant-append_all-loop-place l = string_bytes l.text ≡ string_bytes l.initial.text ++ all_text l.lines (listed (map derivation_of (take l.place l.derivs)))
