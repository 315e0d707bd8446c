-- Which streams the lines of an expression read.
use Rattle.std.proofs.Common.{◌≡◌, ◌≢◌, sym, refl, subst, ℕ, ◌<◌, ◌≤◌, List, [], ◌∷◌, map, arith}
use Rattle.std.specs.Prelude.{None, Some}
use Rattle.std.specs.List.{All}
use Rattle.std.proofs.lemmas.List.Elements.{All-nil, All-cons, All-append, All-map, All-weaker}
use Rattle.semantics.specs.Expressions.{Ex, Read, Filter, Select, Union, Next, Fold}
use Rattle.semantics.specs.Reading.{ReadsOnly}
use Rattle.automaton.specs.declared.line.Hop.{Hop}
use Rattle.automaton.specs.declared.line.Line.{Line}
use Rattle.automaton.specs.declared.step.Stage.{Stage}
use Rattle.automaton.specs.declared.step.Stage.TheVariants.{Keep, Make}
use Rattle.automaton.specs.declared.wait.Wait.{Wait}
use Rattle.splitter.specs.declared.open.Open.{Open}
use Rattle.splitter.specs.Splitting.{Parts, parts_of, published_on, right_side_of, waiting_on, with_hop, with_stage}
use Rattle.splitter.proofs.NumberingLemmas.{parts_up, source_up}

-- a stream below a number, and not the one that is published
pub record Reads (out most stream : ℕ) : Type 0 where
  pub below : stream < most
  pub apart : stream ≡ out → ⊥

-- the same of the root and the hops of a line
pub record LineReads (out most root : ℕ) (hops : List Hop) : Type 0 where
  pub root_read : Reads out most root
  pub hops_read : All (λ hop. Reads out most hop.wait.stream) hops

more : (out most other stream : ℕ) → most ≤ other → Reads out most stream → Reads out other stream
more out most other stream up r = record { below = omega (arith, r.below); apart = r.apart }

line_more : (out most other root : ℕ) (hops : List Hop) → most ≤ other → LineReads out most root hops → LineReads out other root hops
line_more out most other root hops up r = record {
  root_read = more out most other root up r.root_read;
  hops_read = All-weaker (λ hop. Reads out most hop.wait.stream) (λ hop. Reads out other hop.wait.stream) (λ hop h. more out most other hop.wait.stream up h) hops r.hops_read;
}

-- each open line reads other streams than this one, below a number
abbrev pub OpenRead : ℕ → ℕ → List Open → Type 0
OpenRead out most lines = All (λ line. LineReads out most line.root line.hops) lines

-- a hidden line reads streams below its own
abbrev pub HiddenRead : ℕ → List Line → Type 0
HiddenRead out lines = All (λ line. LineReads out line.out line.root line.hops) lines

open_more : (out most other : ℕ) (lines : List Open) → most ≤ other → OpenRead out most lines → OpenRead out other lines
open_more out most other lines up all =
    All-weaker (λ line. LineReads out most line.root line.hops) (λ line. LineReads out other line.root line.hops) (λ line r. line_more out most other line.root line.hops up r) lines all

-- so do all lines of the parts
pub record PartsRead (out : ℕ) (parts : Parts) : Type 0 where
  pub opens : OpenRead out parts.next parts.open_lines
  pub hiddens : HiddenRead out parts.hidden

hop_read : (out most : ℕ) (wait : Wait) (line : Open) → Reads out most wait.stream → LineReads out most line.root line.hops → LineReads out most line.root (with_hop wait line).hops
hop_read out most wait line waited r = record {
  root_read = r.root_read;
  hops_read =
      All-append (λ hop. Reads out most hop.wait.stream) line.hops (record { step = line.last; wait = wait } ∷ []) r.hops_read
      (All-cons (λ hop. Reads out most hop.wait.stream) (record { step = line.last; wait = wait }) [] waited (All-nil (λ hop. Reads out most hop.wait.stream)));
}

hops_read : (out most : ℕ) (wait : Wait) (lines : List Open) → Reads out most wait.stream → OpenRead out most lines → OpenRead out most (map (with_hop wait) lines)
hops_read out most wait lines waited all =
    All-map (λ line. LineReads out most line.root line.hops) (with_hop wait) lines
    (All-weaker (λ line. LineReads out most line.root line.hops) (λ line. LineReads out most line.root (with_hop wait line).hops) (λ line r. hop_read out most wait line waited r) lines all)

stages_read : (out most : ℕ) (stage : Stage) (lines : List Open) → OpenRead out most lines → OpenRead out most (map (with_stage stage) lines)
stages_read out most stage lines all = All-map (λ line. LineReads out most line.root line.hops) (with_stage stage) lines all

-- the hidden lines of a right side, and the stream on which it is waited for
pub record SourceRead (out : ℕ) (f : Ex) (right : Parts) : Type 0 where
  pub stream : Reads out (right_side_of f right).next (right_side_of f right).stream
  pub hiddens : HiddenRead out (right_side_of f right).hidden

source_read : (out first : ℕ) (f : Ex) (right : Parts) → out < first → first ≤ right.next → ReadsOnly (λ stream. (stream < first) × (stream ≢ out)) f → PartsRead out right → SourceRead out f right
source_read out first (Read stream) right above up reads parts = record {
  stream = record { below = omega (arith, reads.0); apart = λ e. reads.1 e };
  hiddens = All-nil (λ line. LineReads out line.out line.root line.hops);
}
source_read out first f right above up reads parts = record {
  stream = record { below = omega arith; apart = λ e. absurd (omega arith) };
  hiddens =
      All-append (λ line. LineReads out line.out line.root line.hops) right.hidden (map (published_on right.next) right.open_lines) parts.hiddens
      (All-map (λ line. LineReads out line.out line.root line.hops) (published_on right.next) right.open_lines parts.opens);
}

joined_read : (out : ℕ) (wait : ℕ → Wait) (left : Parts) (f : Ex) (right : Parts) → ((stream : ℕ) → (wait stream).stream ≡ stream) → left.next ≤ (right_side_of f right).next → PartsRead out left → SourceRead out f right
    → PartsRead out (waiting_on wait left (right_side_of f right))
joined_read out wait left f right named up l s = record {
  opens =
      hops_read out (right_side_of f right).next (wait (right_side_of f right).stream) left.open_lines (subst (Reads out (right_side_of f right).next) (sym (named (right_side_of f right).stream)) s.stream)
      (open_more out left.next (right_side_of f right).next left.open_lines up l.opens);
  hiddens = All-append (λ line. LineReads out line.out line.root line.hops) left.hidden (right_side_of f right).hidden l.hiddens s.hiddens;
}

-- the lines of an expression read what it reads, and its hidden streams
pub parts_read : (out first : ℕ) (e : Ex) (next : ℕ) → out < first → first ≤ next → ReadsOnly (λ stream. (stream < first) × (stream ≢ out)) e → PartsRead out (parts_of e next)
parts_read out first (Read stream) next above up reads = record {
  opens =
      All-cons (λ line. LineReads out next line.root line.hops) (record { root = stream; hops = []; last = [] }) []
      (record { root_read = record { below = omega (arith, reads.0); apart = λ e. reads.1 e }; hops_read = All-nil (λ hop. Reads out next hop.wait.stream) }) (All-nil (λ line. LineReads out next line.root line.hops));
  hiddens = All-nil (λ line. LineReads out line.out line.root line.hops);
}
parts_read out first (Filter p e) next above up reads =
    let inner = parts_read out first e next above up reads in record { opens = stages_read out (parts_of e next).next (Keep p) (parts_of e next).open_lines inner.opens; hiddens = inner.hiddens }
parts_read out first (Select m e) next above up reads =
    let inner = parts_read out first e next above up reads in record { opens = stages_read out (parts_of e next).next (Make m) (parts_of e next).open_lines inner.opens; hiddens = inner.hiddens }
parts_read out first (Union e f) next above up reads =
    let left = parts_read out first e next above up reads.0 in
    let high : first ≤ (parts_of e next).next = omega (arith, parts_up e next) in
    let right = parts_read out first f (parts_of e next).next above high reads.1 in
    record {
      opens =
          All-append (λ line. LineReads out (parts_of f (parts_of e next).next).next line.root line.hops) (parts_of e next).open_lines (parts_of f (parts_of e next).next).open_lines
          (open_more out (parts_of e next).next (parts_of f (parts_of e next).next).next (parts_of e next).open_lines (parts_up f (parts_of e next).next) left.opens) right.opens;
      hiddens = All-append (λ line. LineReads out line.out line.root line.hops) (parts_of e next).hidden (parts_of f (parts_of e next).next).hidden left.hiddens right.hiddens;
    }
parts_read out first (Next p e f) next above up reads =
    let high : first ≤ (parts_of e next).next = omega (arith, parts_up e next) in
    let higher : first ≤ (parts_of f (parts_of e next).next).next = omega (arith, parts_up f (parts_of e next).next) in
    joined_read out (λ stream. record { stream = stream; choose = p; fold = None }) (parts_of e next) f (parts_of f (parts_of e next).next) (λ stream. refl) (omega (arith, parts_up f (parts_of e next).next, source_up f (parts_of f (parts_of e next).next)))
    (parts_read out first e next above up reads.0) (source_read out first f (parts_of f (parts_of e next).next) above higher reads.1 (parts_read out first f (parts_of e next).next above high reads.1))
parts_read out first (Fold p q m e f) next above up reads =
    let high : first ≤ (parts_of e next).next = omega (arith, parts_up e next) in
    let higher : first ≤ (parts_of f (parts_of e next).next).next = omega (arith, parts_up f (parts_of e next).next) in
    joined_read out (λ stream. record { stream = stream; choose = p; fold = Some (record { on = q; set = m }) }) (parts_of e next) f (parts_of f (parts_of e next).next) (λ stream. refl) (omega (arith, parts_up f (parts_of e next).next, source_up f (parts_of f (parts_of e next).next)))
    (parts_read out first e next above up reads.0) (source_read out first f (parts_of f (parts_of e next).next) above higher reads.1 (parts_read out first f (parts_of e next).next above high reads.1))
