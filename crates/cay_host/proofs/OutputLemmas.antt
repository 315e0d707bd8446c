-- What is told of an output after several writes. No contract cites these laws.
use Rattle.std.proofs.Common.{◌≡◌, ℕ, ◌+◌, List, [], ◌++◌, None, Some, refl, sym, ap, ◌∙◌, arith, append_assoc, append-nil, length, take, drop, ◌-◌, length-drop}
use Rattle.std.specs.Prelude.{Option}
use Rattle.std.proofs.Math.Seq.{take-add, take-length}
use Rattle.std.proofs.lemmas.List.Sums.{sum_by-append}
use Rattle.std.specs.Io.KnownBytes.{append_known}
use Rattle.cay_host.specs.Faults.{saturating_add}
use Rattle.cay_host.specs.Output.{add_lines, count_lf, Wrote, SameButOutput}
use Rattle.cay_host.specs.Told.{Told}

append_known-nil : (a : Option (List ℕ)) → a ≡ append_known a []
append_known-nil None = refl
append_known-nil (Some x) = ap Some (sym (append-nil x))

append_known-append : (a : Option (List ℕ)) (bs cs : List ℕ) → append_known (append_known a bs) cs ≡ append_known a (bs ++ cs)
append_known-append None bs cs = refl
append_known-append (Some x) bs cs = ap Some (append_assoc x bs cs)

saturating-nil : (n : ℕ) → n ≡ saturating_add n 0
saturating-nil n = omega arith

saturating-add : (n j k : ℕ) → saturating_add (saturating_add n j) k ≡ saturating_add n (j + k)
saturating-add n j k = omega arith

add_lines-nil : (a : Option ℕ) → a ≡ add_lines a []
add_lines-nil None = refl
add_lines-nil (Some n) = ap Some (saturating-nil n)

count_lf-append : (bs cs : List ℕ) → count_lf (bs ++ cs) ≡ count_lf bs + count_lf cs
count_lf-append bs cs = sum_by-append _ bs cs

add_lines-append : (a : Option ℕ) (bs cs : List ℕ) → add_lines (add_lines a bs) cs ≡ add_lines a (bs ++ cs)
add_lines-append None bs cs = refl
add_lines-append (Some n) bs cs = ap Some (saturating-add n (count_lf bs) (count_lf cs) ∙ ap (saturating_add n) (sym (count_lf-append bs cs)))

-- no bytes were written
pub Wrote-nil : (a : Told) → Wrote [] a a
Wrote-nil a = record { written = append_known-nil a.written; lines = add_lines-nil a.lines }

-- one write after another
pub Wrote-append : {bs cs : List ℕ} {a b c : Told} → Wrote bs a b → Wrote cs b c → Wrote (bs ++ cs) a c
Wrote-append {bs} {cs} {a} {b} {c} p q = record {
  written = q.written ∙ ap (λ x. append_known x cs) p.written ∙ append_known-append a.written bs cs;
  lines = q.lines ∙ ap (λ x. add_lines x cs) p.lines ∙ add_lines-append a.lines bs cs;
}

-- `&all[i..]`
pub tail_slice : (all : List ℕ) (i : ℕ) → take (length all - i) (drop i all) ≡ drop i all
tail_slice all i = rw (← length-drop i all) (take-length (drop i all))

-- the next bytes of a list are written
pub Wrote-next : (all : List ℕ) (i k : ℕ) {a b c : Told}
    → Wrote (take i all) a b → Wrote (take k (take (length all - i) (drop i all))) b c → Wrote (take (i + k) all) a c
Wrote-next all i k p q = rw (take-add i k all) (Wrote-append p (rw tail_slice at q))

-- nothing changed where nothing was done
pub SameButOutput-refl : (a : Told) → SameButOutput a a
SameButOutput-refl a = record {
  later = omega arith;
  attach_faults = refl;
  read_faults = refl;
  attached = refl;
  files = refl;
  left = refl;
}

-- what two calls left the same is the same after both
pub SameButOutput-trans : {a b c : Told} → SameButOutput a b → SameButOutput b c → SameButOutput a c
SameButOutput-trans {a} {b} {c} p q = record {
  later = omega arith;
  attach_faults = q.attach_faults ∙ p.attach_faults;
  read_faults = q.read_faults ∙ p.read_faults;
  attached = q.attached ∙ p.attached;
  files = q.files ∙ p.files;
  left = q.left ∙ p.left;
}
