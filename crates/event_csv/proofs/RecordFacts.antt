-- A read of one record over a whole line gives the fields of the line.
use Rattle.std.proofs.Common.{◌≡◌, ℕ, zero, suc, ◌+◌, arith, drop, ◌∷◌, List, [], Bool, true, false, Option, Some, None, refl, ap}
use Rattle.std.specs.Prelude.{option_map}
use Rattle.std.proofs.lemmas.List.{drop_all}
use Rattle.csv.specs.Records.{field_at}
use Rattle.csv.specs.Machine.{Read}
use Rattle.csv.specs.Reading.{NextIs, ReadRecord, ReadsNext, pending_of, source_of, strip_bom}
use Rattle.csv.specs.declared.reader.Reader.{Reader}
use Rattle.csv.specs.declared.parser.State.{State}
use Rattle.csv.specs.declared.parser.State.TheVariants as st
use Rattle.event_csv.specs.Fields.{line_config, line_fields}

-- what a next record that was found, or not, says of the fields
abbrev pub found_fields : Bool → List (List ℕ) → Option (List (List ℕ))
found_fields true fields = Some fields
found_fields false fields = None

next-fields : (p : Option Read) (found : Bool) (fields : List (List ℕ)) (s : State) (ys : List ℕ)
    → NextIs p found fields s ys → option_map (λ q. q.0) p ≡ found_fields found fields
next-fields None found fields s ys h = rw h refl
next-fields (Some p) found fields s ys h = rw (h.0, h.1) refl

known-fields : (xs : List ℕ) (after : Option (List ℕ)) (found : Bool) (fields : List (List ℕ)) (s : State)
    → ReadsNext line_config st.StartRecord (Some (strip_bom xs)) after found fields s
    → line_fields xs ≡ found_fields found fields
unfolding line_fields
known-fields xs None found fields s h = absurd h
known-fields xs (Some ys) found fields s h = next-fields _ found fields s ys h

-- the fields that a reader has found from the front of a line on are the line's
pub read-fields : {R : Type 0} (rem : R → Option (List ℕ)) (a b : Reader R) (found : Bool) (fields : List (List ℕ)) (xs : List ℕ)
    → a.config ≡ line_config → a.state ≡ st.StartRecord → source_of rem a ≡ Some (strip_bom xs)
    → ReadRecord rem a b found fields → line_fields xs ≡ found_fields found fields
read-fields rem a b found fields xs config start source h =
    known-fields xs (pending_of (rem b.rdr) b) found fields b.state (rw (config, start, source) at h.0)

-- the field at a place is the first of those from there on
pub fields-none : (fs : List (List ℕ)) (place : ℕ) → field_at fs place ≡ None → drop place fs ≡ []
unfolding field_at
fields-none [] place h = drop_all place [] (omega arith)
fields-none (f ∷ fs) zero h = cc
fields-none (f ∷ fs) (suc place) h = fields-none fs place h

-- the fields from a place on begin with the field there
pub fields-some : (fs : List (List ℕ)) (place : ℕ) (f : List ℕ) → field_at fs place ≡ Some f → drop place fs ≡ f ∷ drop (place + 1) fs
unfolding field_at
fields-some [] place f h = cc
fields-some (g ∷ fs) zero f h = let same : g ≡ f = cc in ap (λ (x : List ℕ). x ∷ fs) same
fields-some (g ∷ fs) (suc place) f h = let e : suc place + 1 ≡ suc (place + 1) = omega arith in rw e (fields-some fs place f h)
