-- What is written one after the other.
use Rattle.std.proofs.Common.{◌≡◌, ◌∙◌, sym, ap, refl, subst, ℕ, ◌+◌, List, [], ◌++◌, length, take, length-append, append_assoc, append-nil, arith}
use Rattle.std.proofs.Math.Seq.{take-append-add}
use Rattle.cay_host.specs.Output.{Wrote, WrotePart}
use Rattle.cay_host.specs.Told.{Told}
use Rattle.cay_host.proofs.OutputLemmas.{Wrote-nil, Wrote-append}
use Rattle.session.specs.WroteFront.{WroteFront}
use Rattle.session.specs.Owes.{Owes}

-- where nothing was written, all is owed
pub Owes-refl : (text : List ℕ) (a : Told) → Owes text text a a
Owes-refl text a = record { front = []; wrote = Wrote-nil a; all = refl }

-- what is written twice leaves what the second leaves
pub Owes-trans : {s t u : List ℕ} {a b c : Told} → Owes s t a b → Owes t u b c → Owes s u a c
Owes-trans {s} {t} {u} p q = record {
  front = p.front ++ q.front;
  wrote = Wrote-append p.wrote q.wrote;
  all = append_assoc p.front q.front u ∙ ap (λ r. p.front ++ r) q.all ∙ p.all;
}

-- nothing is owed any more
pub Owes-all : {text : List ℕ} {a b : Told} → Owes text [] a b → Wrote text a b
Owes-all {text} {a} {b} o = let same = sym (append-nil o.front) ∙ o.all in subst (λ t. Wrote t a b) same o.wrote

-- a front of a longer text
take-past : (front rest : List ℕ) (k : ℕ) → take (length front + k) (front ++ rest) ≡ front ++ take k rest
take-past front rest k = take-append-add front rest k

-- a part of what is owed, behind what was written, is a part of all
pub part_after : {text rest : List ℕ} {a b c : Told} → Owes text rest a b → WrotePart rest b c → WrotePart text a c
part_after {text} {rest} {a} {b} {c} o part =
    let longer : length o.front + length rest ≡ length text = sym (length-append o.front rest) ∙ ap length o.all in
    let less = part.1 in
    let same : o.front ++ take part.0 rest ≡ take (length o.front + part.0) text = sym (take-past o.front rest part.0) ∙ ap (take (length o.front + part.0)) o.all in
    (length o.front + part.0, omega (arith, longer, less), subst (λ t. Wrote t a c) same (Wrote-append o.wrote part.2))

-- so is a front of it
pub front_after : {text rest : List ℕ} {a b c : Told} → Owes text rest a b → WroteFront rest b c → WroteFront text a c
front_after {text} {rest} {a} {b} {c} o part =
    let longer : length o.front + length rest ≡ length text = sym (length-append o.front rest) ∙ ap length o.all in
    let less = part.within in
    let same : o.front ++ take part.size rest ≡ take (length o.front + part.size) text = sym (take-past o.front rest part.size) ∙ ap (take (length o.front + part.size)) o.all in
    record { size = length o.front + part.size; within = omega (arith, longer, less); wrote = subst (λ t. Wrote t a c) same (Wrote-append o.wrote part.wrote) }

-- nothing was written of a text
pub front_none : (text : List ℕ) (a : Told) → WroteFront text a a
front_none text a = record { size = 0; within = omega arith; wrote = Wrote-nil a }

-- a text of which all was appended is owed no more
pub all_written : {text : List ℕ} {a b : Told} → Wrote text a b → Owes text [] a b
all_written {text} w = record { front = text; wrote = w; all = append-nil text }
