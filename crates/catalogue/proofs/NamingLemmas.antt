-- The fault of a name.
use Rattle.std.proofs.Common.{◌≡◌, ◌∙◌, ℕ, List, Bool, true, false, cond, sym, ap, inl, inr}
use Rattle.std.specs.Prelude.{Option, Some, None}
use Rattle.std.specs.Str.{bytes_eq}
use Rattle.std.proofs.lemmas.Bool.{cases_Bool}
use Rattle.cel_types.specs.Aggregates.{is_among}
use Rattle.catalogue.specs.declared.fault.QueryFault.{QueryFault}
use Rattle.catalogue.specs.declared.fault.QueryFault.TheVariants.{Reserved, Duplicate}
use Rattle.catalogue.specs.Naming.{name_fault, reserved_name}

abbrev by_tests : Bool → Bool → List ℕ → Option QueryFault
by_tests reserved there name = cond reserved (Some (Reserved name)) (cond there (Some (Duplicate name)) None)

-- a name that is taken
pub name_fault-taken : (names : List (List ℕ)) (name : List ℕ) → bytes_eq name reserved_name ≡ false → is_among names name ≡ true → name_fault names name ≡ Some (Duplicate name)
name_fault-taken names name free taken = ap (λ b. by_tests b (is_among names name) name) free ∙ ap (λ b. by_tests false b name) taken

-- a name that is free
pub name_fault-none : (names : List (List ℕ)) (name : List ℕ) → bytes_eq name reserved_name ≡ false → is_among names name ≡ false → name_fault names name ≡ None
name_fault-none names name free new = ap (λ b. by_tests b (is_among names name) name) free ∙ ap (λ b. by_tests false b name) new

-- a name without a fault isn't among the others
pub new-name : (names : List (List ℕ)) (name : List ℕ) → name_fault names name ≡ None → is_among names name ≡ false
new-name names name none = elim (cases_Bool (bytes_eq name reserved_name)) [
  | inl reserved ↦ let e : Some (Reserved name) ≡ None = sym (ap (λ b. by_tests b (is_among names name) name) reserved) ∙ none in absurd cc
  | inr free ↦ elim (cases_Bool (is_among names name)) [
    | inl taken ↦ let e : Some (Duplicate name) ≡ None = sym (name_fault-taken names name free taken) ∙ none in absurd cc
    | inr new ↦ new
  ]
]
