-- The names that are read: their fault, and the numbers of their queries.
use Rattle.std.proofs.Common.{◌≡◌, ◌∙◌, ℕ, suc, ◌+◌, ◌<◌, List, [], ◌∷◌, ◌++◌, Bool, true, false, not, cond, length, take, drop, get_or, refl, sym, ap, inl, inr}
use Rattle.std.specs.Prelude.{Option, Some, None, position}
use Rattle.std.specs.List.{find}
use Rattle.std.specs.Option.{option_map}
use Rattle.std.specs.Str.{bytes_eq}
use Rattle.std.proofs.lemmas.Bool.{cases_Bool}
use Rattle.std.proofs.Math.Seq.{drop-cons}
use Rattle.std.proofs.lemmas.List.{length-map, take-append-drop, take_more}
use Rattle.std.proofs.lemmas.List.Elements.{filter_map-append}
use Rattle.stream_schema.specs.Streams.{Entry, number_of, stream_names}
use Rattle.cel_types.specs.Aggregates.{is_among}
use Rattle.catalogue.specs.declared.fault.QueryFault.{QueryFault}
use Rattle.catalogue.specs.declared.fault.QueryFault.TheVariants.{Unknown}
use Rattle.catalogue.specs.Naming.{read_fault}
use Rattle.catalogue.specs.Reading.{numbers_of}
use Rattle.stream_schema.proofs.TableLemmas.{prefix_len-map}

-- a later fault where the name is there, else that it isn't
abbrev pub fault_by : Bool → List ℕ → Option QueryFault → Option QueryFault
fault_by there name later = cond there later (Some (Unknown name))

-- the fault of one name before others
pub read_fault-cons : (names : List (List ℕ)) (x : List ℕ) (xs : List (List ℕ)) → read_fault names (x ∷ xs) ≡ fault_by (is_among names x) x (read_fault names xs)
read_fault-cons names x xs = elim (cases_Bool (is_among names x)) [
  | inl there ↦ ap (λ b. option_map Unknown (cond (not b) (Some x) (find (λ name. not (is_among names name)) xs))) there ∙ sym (ap (λ b. fault_by b x (read_fault names xs)) there)
  | inr absent ↦ ap (λ b. option_map Unknown (cond (not b) (Some x) (find (λ name. not (is_among names name)) xs))) absent ∙ sym (ap (λ b. fault_by b x (read_fault names xs)) absent)
]

-- names without a fault before others
pub read_fault-second : (names xs ys : List (List ℕ)) → read_fault names xs ≡ None → read_fault names (xs ++ ys) ≡ read_fault names ys
read_fault-second names [] ys none = refl
read_fault-second names (x ∷ xs) ys none = elim (cases_Bool (is_among names x)) [
  | inl there ↦
      read_fault-cons names x (xs ++ ys) ∙ ap (λ b. fault_by b x (read_fault names (xs ++ ys))) there
      ∙ read_fault-second names xs ys (sym (read_fault-cons names x xs ∙ ap (λ b. fault_by b x (read_fault names xs)) there) ∙ none)
  | inr absent ↦ let e : Some (Unknown x) ≡ None = sym (read_fault-cons names x xs ∙ ap (λ b. fault_by b x (read_fault names xs)) absent) ∙ none in absurd cc
]

-- names with a fault before others
pub read_fault-first : (names xs ys : List (List ℕ)) (f : QueryFault) → read_fault names xs ≡ Some f → read_fault names (xs ++ ys) ≡ Some f
read_fault-first names [] ys f e = cc
read_fault-first names (x ∷ xs) ys f e = elim (cases_Bool (is_among names x)) [
  | inl there ↦
      read_fault-cons names x (xs ++ ys) ∙ ap (λ b. fault_by b x (read_fault names (xs ++ ys))) there
      ∙ read_fault-first names xs ys f (sym (read_fault-cons names x xs ∙ ap (λ b. fault_by b x (read_fault names xs)) there) ∙ e)
  | inr absent ↦
      read_fault-cons names x (xs ++ ys) ∙ ap (λ b. fault_by b x (read_fault names (xs ++ ys))) absent
      ∙ sym (read_fault-cons names x xs ∙ ap (λ b. fault_by b x (read_fault names xs)) absent) ∙ e
]

-- a name that is there, and one that isn't
pub read_fault-there : (names : List (List ℕ)) (x : List ℕ) → is_among names x ≡ true → read_fault names (x ∷ []) ≡ None
read_fault-there names x there = read_fault-cons names x [] ∙ ap (λ b. fault_by b x None) there

-- a name that isn't there is the fault
pub read_fault-absent : (names : List (List ℕ)) (x : List ℕ) → is_among names x ≡ false → read_fault names (x ∷ []) ≡ Some (Unknown x)
read_fault-absent names x absent = read_fault-cons names x [] ∙ ap (λ b. fault_by b x None) absent

-- the numbers of names and others
pub numbers_of-append : (queries xs ys : List (List ℕ)) → numbers_of queries (xs ++ ys) ≡ numbers_of queries xs ++ numbers_of queries ys
numbers_of-append queries xs ys = filter_map-append (λ name. position (bytes_eq name) queries) xs ys

-- the number of a table's stream is the place of its name
pub number_of-position : (name : List ℕ) (streams : List Entry) → position (bytes_eq name) (stream_names streams) ≡ number_of name streams
number_of-position name streams = rw (prefix_len-map (λ (s : Entry). s.name) (λ y. not (bytes_eq name y)) streams, length-map streams (λ (s : Entry). s.name)) refl

-- behind names without a fault the next one's fault is that of all
pub read_fault-at : (names xs : List (List ℕ)) (i : ℕ) (d : List ℕ) (f : QueryFault) → i < length xs → read_fault names (take i xs) ≡ None → read_fault names (get_or xs i d ∷ []) ≡ Some f → read_fault names xs ≡ Some f
read_fault-at names xs i d f within none some =
    ap (read_fault names) (sym (take-append-drop i xs)) ∙ read_fault-second names (take i xs) (drop i xs) none
    ∙ ap (read_fault names) (drop-cons xs i d within) ∙ read_fault-first names (get_or xs i d ∷ []) (drop (suc i) xs) f some

-- with the next one they have none where it has none
pub read_fault-more : (names xs : List (List ℕ)) (i : ℕ) (d : List ℕ) → i < length xs → read_fault names (take i xs) ≡ None → read_fault names (get_or xs i d ∷ []) ≡ None → read_fault names (take (i + 1) xs) ≡ None
read_fault-more names xs i d within none one = ap (read_fault names) (take_more xs i d within) ∙ read_fault-second names (take i xs) (get_or xs i d ∷ []) none ∙ one

-- the numbers of names with the next one's
pub numbers_of-more : (queries xs : List (List ℕ)) (i : ℕ) (d : List ℕ) → i < length xs → numbers_of queries (take (i + 1) xs) ≡ numbers_of queries (take i xs) ++ numbers_of queries (get_or xs i d ∷ [])
numbers_of-more queries xs i d within = ap (numbers_of queries) (take_more xs i d within) ∙ numbers_of-append queries (take i xs) (get_or xs i d ∷ [])
