-- Plain networks, as networks that have their lines.
use Rattle.std.proofs.Common.{◌≡◌, refl, ℕ, ◌+◌, List, [], ◌∷◌, map}
use Rattle.automaton.specs.declared.layout.Layout.{Layout}
use Rattle.automaton.specs.declared.line.Line.{Line}
use Rattle.automaton.specs.Layouts.{LayoutFits}
use Rattle.automaton.specs.NetworkLines.{Ending, HasLines, NetworkFits}
use Rattle.automaton.specs.Plain.{IsPlain, numbered}
use Rattle.automaton.specs.States.{Net}

numbered_lines : (number : ℕ) (lines : List Line) → map (λ (ending : Ending). ending.line) (numbered number lines) ≡ lines
numbered_lines number [] = refl
numbered_lines number (line ∷ lines) = λ i. line ∷ numbered_lines (number + 1) lines i

-- a plain network has its lines
pub plain_has_lines : (lines : List Line) (net : Net) → IsPlain lines net → HasLines net lines
plain_has_lines lines net plain = (numbered 0 lines, plain.endings, numbered_lines 0 lines, plain.prefixes_only)

-- and a layout that fits them fits it
pub plain_fits : (lines : List Line) (layout : Layout) (net : Net) → LayoutFits lines layout → IsPlain lines net → NetworkFits net layout
plain_fits lines layout net fits plain = (lines, plain_has_lines lines net plain, fits)
