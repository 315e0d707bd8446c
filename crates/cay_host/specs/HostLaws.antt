-- How the calls of a host follow each other. No contract cites these laws.
use Rattle.std.proofs.Common.{◌≡◌, ℕ, List, [], ◌++◌, None, Some, refl, sym, ap, ◌∙◌, arith, append_assoc, Option}
use mathlib.Core.Path.{fun_ext}
use Rattle.std.specs.Io.KnownBytes.{prepend_known}
use Rattle.cay_host.specs.declared.call.Call.{Call}
use Rattle.cay_host.specs.declared.side.Side.{Side}
use Rattle.cay_host.specs.declared.side.Side.TheVariants.{Queries, Events}
use Rattle.cay_host.specs.Sides.{with_side}
use Rattle.cay_host.specs.Told.{Told}
use Rattle.cay_host.specs.Calls.{FailedLast}
use Rattle.cay_host.specs.Input.{SameButRead}

-- functions of a side that agree at both agree at each
each_side : {A : Type 0} (f g : Side → A) → f Queries ≡ g Queries → f Events ≡ g Events → (s : Side) → f s ≡ g s
each_side f g p q Queries = p
each_side f g p q Events = q

-- functions of a side that agree at both are equal
pub side_ext : {A : Type 0} (f g : Side → A) → f Queries ≡ g Queries → f Events ≡ g Events → f ≡ g
side_ext f g p q = fun_ext (each_side f g p q)

-- with its own value at a side a function is as it was
pub with_side-same : {A : Type 0} (s : Side) (f : Side → A) → f ≡ with_side s (f s) f
with_side-same Queries f = side_ext _ _ refl refl
with_side-same Events f = side_ext _ _ refl refl

-- of two values at a side the later one stays
pub with_side-twice : {A : Type 0} (s : Side) (x y : A) (f : Side → A) → with_side s y (with_side s x f) ≡ with_side s y f
with_side-twice Queries x y f = side_ext _ _ refl refl
with_side-twice Events x y f = side_ext _ _ refl refl

-- no bytes before what is known leave it as it is
pub prepend_known-nil : (a : Option (List ℕ)) → a ≡ prepend_known [] a
prepend_known-nil None = refl
prepend_known-nil (Some x) = refl

-- bytes before bytes before what is known are both before it
pub prepend_known-append : (bs cs : List ℕ) (a : Option (List ℕ)) → prepend_known bs (prepend_known cs a) ≡ prepend_known (bs ++ cs) a
prepend_known-append bs cs None = refl
prepend_known-append bs cs (Some x) = ap Some (sym (append_assoc bs cs x))

-- behind calls of which the last didn't fail, the last call came out as it says of itself
pub FailedLast-after : (tells : Option Call) (a b c : Told) → FailedLast None a b → FailedLast tells b c → FailedLast tells a c
FailedLast-after None a b c p q = λ none. q (p none)
FailedLast-after (Some call) a b c p q = q

-- where nothing changes, nothing but a read does
pub SameButRead-refl : (s : Side) (a : Told) → SameButRead s a a
SameButRead-refl s a = record {
  later = omega arith;
  attach_faults = refl;
  write_faults = refl;
  attached = refl;
  files = refl;
  others = with_side-same s a.left;
  written = refl;
  lines = refl;
}

-- two reads one after the other change what a read does
pub SameButRead-trans : {s : Side} {a b c : Told} → SameButRead s a b → SameButRead s b c → SameButRead s a c
SameButRead-trans {s} {a} {b} {c} p q = record {
  later = omega arith;
  attach_faults = q.attach_faults ∙ p.attach_faults;
  write_faults = q.write_faults ∙ p.write_faults;
  attached = q.attached ∙ p.attached;
  files = q.files ∙ p.files;
  others = q.others ∙ ap (with_side s (c.left s)) p.others ∙ with_side-twice s (b.left s) (c.left s) a.left;
  written = q.written ∙ p.written;
  lines = q.lines ∙ p.lines;
}
