-- A kind in words.
use Rattle.std.specs.Prelude.{ℕ, List, ◌++◌, codes, decimal}
use Rattle.event_types.specs.declared.kind.Kind.{Kind}
use Rattle.event_types.specs.declared.kind.Kind.TheVariants as kind

-- a kind as it stands in a declaration: INT, TEXT, or DEC and its places
abbrev pub kind_word : Kind → List ℕ
kind_word kind.Int = codes "INT"
kind_word kind.Text = codes "TEXT"
kind_word (kind.Dec places) = codes "DEC " ++ decimal places
