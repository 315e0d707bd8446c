-- What was written of a text after other texts.
use Rattle.std.proofs.Common.{◌≡◌, ◌∙◌, sym, ap, subst, ℕ, ◌+◌, List, ◌++◌, length, take, length-append, arith}
use Rattle.std.proofs.lemmas.List.{take-append-le}
use Rattle.std.proofs.Math.Seq.{take-append-add}
use Rattle.cay_host.specs.Output.{Wrote, WrotePart}
use Rattle.cay_host.specs.Told.{Told}
use Rattle.cay_host.proofs.OutputLemmas.{Wrote-append}
use Rattle.session.specs.WroteFront.{Beyond, WroteFront}
use Rattle.cayuga_run.specs.StoppedWriting.{WroteUpTo}

-- a front of a longer text
pub front_of_more : {text : List ℕ} {a b : Told} (more : List ℕ) → WroteFront text a b → WroteFront (text ++ more) a b
front_of_more {text} {a} {b} more w =
    let size = length-append text more in
    let within = w.within in
    record { size = w.size; within = omega (arith, size, within); wrote = subst (λ t. Wrote t a b) (sym (take-append-le w.size text more w.within)) w.wrote }

module _ {earlier later : List ℕ} {a b c : Told} (first : Wrote earlier a b) where
  -- what was written first, and what the later text has beyond it, is the later text
  pub wrote_beyond : Beyond Wrote earlier later b c → Wrote later a c
  wrote_beyond w = subst (λ t. Wrote t a c) (sym w.goes_on) (Wrote-append first w.wrote)

  -- a proper prefix of what it has beyond it was written
  pub part_beyond : Beyond WrotePart earlier later b c → WroteUpTo earlier later a c
  part_beyond w = record { more = w.more; goes_on = w.goes_on; size = w.wrote.0; within = w.wrote.1; wrote = Wrote-append first w.wrote.2 }

  -- a front of it was written
  pub front_beyond : Beyond WroteFront earlier later b c → WroteFront later a c
  front_beyond w =
      let size = ap length w.goes_on ∙ length-append earlier w.more in
      let within = w.wrote.within in
      let cut : earlier ++ take w.wrote.size w.more ≡ take (length earlier + w.wrote.size) later =
      sym (take-append-add earlier w.more w.wrote.size) ∙ ap (take (length earlier + w.wrote.size)) (sym w.goes_on) in
      record { size = length earlier + w.wrote.size; within = omega (arith, size, within); wrote = subst (λ t. Wrote t a c) cut (Wrote-append first w.wrote.wrote) }
