-- Where two schemas of a UNION differ.
use Rattle.std.specs.Prelude.{◌≡◌, ℕ, ◌+◌, ◌==◌, Bool, false, true, ◌&&◌, if◌then◌else◌, List, [], ◌∷◌, drop, Option, Some, None}
use Rattle.std.specs.Str.{bytes_eq}
use Rattle.event_types.specs.declared.kind.Kind.{Kind}
use Rattle.event_types.specs.declared.kind.Kind.TheVariants as kind
use Rattle.stream_schema.specs.Schema.{Attr}

-- whether two kinds are one
abbrev pub is_kind : Kind → Kind → Bool
is_kind kind.Int kind.Int = true
is_kind kind.Text kind.Text = true
is_kind (kind.Dec places) (kind.Dec others) = places == others
is_kind k l = false

-- whether two attributes have one name and one kind
abbrev pub is_same : Attr → Attr → Bool
is_same a b = bytes_eq a.name b.name && is_kind a.kind b.kind

-- the first place, counted on from this one, at which a name or a kind differs or one schema has ended, if there is one
abbrev pub difference_from : ℕ → List Attr → List Attr → Option ℕ
difference_from place [] [] = None
difference_from place (a ∷ left) (b ∷ right) = if is_same a b then difference_from (place + 1) left right else Some place
difference_from place left right = Some place

-- whether two schemas differ at a place: there they first differ in what is left of them, or as what is left behind it does
abbrev pub TellsDifference : List Attr → List Attr → ℕ → Bool → Type 0
TellsDifference left right place differs =
    (n : ℕ) → difference_from n (drop place left) (drop place right) ≡ (if differs then Some n else difference_from (n + 1) (drop (place + 1) left) (drop (place + 1) right))
