-- The schema of NEXT (this project's profile): the left attributes, then the right ones under free names.
use Rattle.std.specs.Prelude.{◌≡◌, ◌<◌, ◌≤◌, ℕ, zero, suc, ◌+◌, Bool, true, false, not, is_some, if◌then◌else◌, List, [], ◌∷◌, ◌++◌, length, fold, codes, decimal}
use Rattle.stream_schema.specs.Schema.{Attr, place_of}

-- whether an attribute has the name
abbrev pub is_taken : List Attr → List ℕ → Bool
is_taken attrs name = is_some (place_of name attrs)

-- the name with a number behind it, as `a_2`
abbrev pub suffixed : List ℕ → ℕ → List ℕ
suffixed name number = name ++ codes "_" ++ decimal number

-- the least number from `low` on that passes the test, if one of the next `many` does, else the one behind them
abbrev pub least_from : (ℕ → Bool) → ℕ → ℕ → ℕ
least_from test low zero = low
least_from test low (suc many) = if test low then low else least_from test (low + 1) many

-- the suffix: the least number of at least 2 that makes the name free, which needs no more tries than there are attributes
abbrev pub suffix_of : List Attr → List ℕ → ℕ
suffix_of attrs name = least_from (λ number. not (is_taken attrs (suffixed name number))) 2 (length attrs)

-- the name, or where it is taken the name with its suffix
abbrev pub free_name : List Attr → List ℕ → List ℕ
free_name attrs name = if is_taken attrs name then suffixed name (suffix_of attrs name) else name

-- the attributes with one more at the end, under a free name
abbrev pub with_free : List Attr → Attr → List Attr
with_free attrs attr = attrs ++ record { name = free_name attrs attr.name; kind = attr.kind } ∷ []

-- the left attributes, then each right one under a name that is free among those before it
abbrev pub joined_schema : List Attr → List Attr → List Attr
joined_schema left right = fold with_free left right

-- a number of at least 2 makes the name free, and no smaller one of at least 2 does
pub record IsLeastSuffix (attrs : List Attr) (name : List ℕ) (number : ℕ) : Type 0 where
  pub from_two : 2 ≤ number
  pub free : is_taken attrs (suffixed name number) ≡ false
  pub least : (smaller : ℕ) → 2 ≤ smaller → smaller < number → is_taken attrs (suffixed name smaller) ≡ true
