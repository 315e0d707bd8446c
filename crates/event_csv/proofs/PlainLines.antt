-- A line with no quote is cut at its commas.
use Rattle.std.proofs.Common.{◌≡◌, ◌∙◌, ℕ, List, [], ◌∷◌, ◌++◌, Bool, true, false, Option, Some, None, refl, ap, cond, append_assoc, get_or, length, arith, ◌<◌}
use Rattle.std.proofs.lemmas.List.{append-nil}
use Rattle.std.specs.Prelude.{◌==◌, ◌||◌, not, option_map}
use Rattle.std.specs.List.{list_all, onto_first}
use Rattle.csv.specs.Machine.{Read, field_after, fields_after, is_end, next_record, step, line_feed}
use Rattle.csv.specs.Reading.{strip_bom}
use Rattle.csv.specs.declared.parser.State.{State}
use Rattle.csv.specs.declared.parser.State.TheVariants as st
use Rattle.csv.specs.declared.parser.Action.{Action}
use Rattle.csv.specs.declared.parser.Action.TheVariants as act
use Rattle.event_csv.specs.Fields.{line_config, line_fields}
use Rattle.event_csv.specs.Fields.{comma, is_plain, parts_of, quote}
use Rattle.std.proofs.lemmas.Bool.{and_parts}

-- the states within a record with no quote
abbrev pub field_state : Bool → State
field_state false = st.StartField
field_state true = st.InField

-- what the reader does in a record with no quote: at a comma it ends the field, else it copies the byte
abbrev pub plain_step : Bool → State × Action
plain_step true = (st.StartField, act.EndField)
plain_step false = (st.InField, act.Copy)

-- neither of two
pub not_either : (q l : Bool) → not (q || l) ≡ true → (q ≡ false) × (l ≡ false)
not_either false false h = (refl, refl)
not_either false true h = cc
not_either true l h = cc

-- what a plain byte does within a record
pub step-plain : (b : Bool) (c : ℕ) → is_plain c ≡ true → step line_config (field_state b) c ≡ plain_step (c == comma)
step-plain true c h =
    let e = not_either (c == quote) (c == line_feed) h in
    by (c == comma) refl
  where
    by : (d : Bool) → (c == comma) ≡ d → step line_config st.InField c ≡ plain_step d
    by true e = rw e refl
    by false e = rw (e, (not_either (c == quote) (c == line_feed) h).1) refl
step-plain false c h = by (c == comma) refl
  where
    by : (d : Bool) → (c == comma) ≡ d → step line_config st.StartField c ≡ plain_step d
    by true e = rw ((not_either (c == quote) (c == line_feed) h).0, e) refl
    by false e = rw ((not_either (c == quote) (c == line_feed) h).0, e, (not_either (c == quote) (c == line_feed) h).1) refl

-- the parts of a text around its commas, where `field` stands before it
abbrev pub parts_after : List ℕ → List ℕ → List (List ℕ)
parts_after field [] = field ∷ []
parts_after field (c ∷ rest) = cond (c == comma) (field ∷ parts_after [] rest) (parts_after (field ++ c ∷ []) rest)

before_parts : List ℕ → List (List ℕ) → List (List ℕ)
before_parts field [] = field ∷ []
before_parts field (part ∷ more) = (field ++ part) ∷ more

before-onto : (field : List ℕ) (c : ℕ) (ps : List (List ℕ)) → before_parts (field ++ c ∷ []) ps ≡ before_parts field (onto_first c ps)
unfolding before_parts
before-onto field c [] = refl
before-onto field c (part ∷ more) = rw (append_assoc field (c ∷ []) part) refl

before-onto_first : (c : ℕ) (ps : List (List ℕ)) → before_parts [] (onto_first c ps) ≡ onto_first c ps
unfolding before_parts
before-onto_first c [] = refl
before-onto_first c (part ∷ more) = refl

before-none : (xs : List ℕ) → before_parts [] (parts_of xs) ≡ parts_of xs
unfolding before_parts
before-none [] = refl
before-none (c ∷ rest) = by (c == comma)
  where
    by : (d : Bool) → before_parts [] (cond d ([] ∷ parts_of rest) (onto_first c (parts_of rest))) ≡ cond d ([] ∷ parts_of rest) (onto_first c (parts_of rest))
    by true = refl
    by false = before-onto_first c (parts_of rest)

parts-after : (field xs : List ℕ) → parts_after field xs ≡ before_parts field (parts_of xs)
unfolding before_parts
parts-after field [] = rw (append-nil field) refl
parts-after field (c ∷ rest) = by (c == comma) (λ (f : List ℕ). parts-after f rest)
  where
    by : (d : Bool) → ((f : List ℕ) → parts_after f rest ≡ before_parts f (parts_of rest))
        → cond d (field ∷ parts_after [] rest) (parts_after (field ++ c ∷ []) rest) ≡ before_parts field (cond d ([] ∷ parts_of rest) (onto_first c (parts_of rest)))
    by true more = rw (append-nil field, more [], before-none rest) refl
    by false more = more (field ++ c ∷ []) ∙ before-onto field c (parts_of rest)

-- a plain text within a record
pub record-plain : (b : Bool) (fields : List (List ℕ)) (field xs : List ℕ) → list_all is_plain xs ≡ true
    → next_record line_config (field_state b) fields field xs ≡ Some (fields ++ parts_after field xs, st.StartRecord, [])
unfolding next_record
record-plain true fields field [] h = refl
record-plain false fields field [] h = refl
record-plain b fields field (c ∷ rest) h =
    rw (step-plain b c (and_parts (is_plain c) (list_all is_plain rest) h).0)
    (by (c == comma) (λ (d : Bool) (fs : List (List ℕ)) (f : List ℕ). record-plain d fs f rest (and_parts (is_plain c) (list_all is_plain rest) h).1))
  where
    by : (d : Bool) → ((e : Bool) (fs : List (List ℕ)) (f : List ℕ) → next_record line_config (field_state e) fs f rest ≡ Some (fs ++ parts_after f rest, st.StartRecord, []))
        → (cond (is_end (plain_step d).1) (Some (fields_after (plain_step d).1 fields field, (plain_step d).0, rest))
        (next_record line_config (plain_step d).0 (fields_after (plain_step d).1 fields field) (field_after (plain_step d).1 c field) rest))
        ≡ Some (fields ++ cond d (field ∷ parts_after [] rest) (parts_after (field ++ c ∷ []) rest), st.StartRecord, [])
    by true more = more false (fields ++ field ∷ []) [] ∙ rw (append_assoc fields (field ∷ []) (parts_after [] rest)) refl
    by false more = more true fields (field ++ c ∷ [])

-- a record that starts with a plain byte starts as a field does
start-plain : (c : ℕ) → is_plain c ≡ true → step line_config st.StartRecord c ≡ step line_config st.StartField c
start-plain c h = rw (not_either (c == quote) (c == line_feed) h).1 refl

-- the fields of a text: an empty one has no record
abbrev plain_fields : List ℕ → Option (List (List ℕ))
plain_fields [] = None
plain_fields (c ∷ rest) = Some (parts_of (c ∷ rest))

-- a plain text as a whole record
plain-text : (xs : List ℕ) → list_all is_plain xs ≡ true
    → option_map (λ (p : Read). p.0) (next_record line_config st.StartRecord [] [] xs) ≡ plain_fields xs
unfolding next_record
plain-text [] h = refl
plain-text (c ∷ rest) h =
    let p = and_parts (is_plain c) (list_all is_plain rest) h in
    let one : next_record line_config st.StartRecord [] [] (c ∷ rest) ≡ next_record line_config st.StartField [] [] (c ∷ rest) = rw (start-plain c p.0) refl in
    ap (λ (q : Option Read). option_map (λ (p : Read). p.0) q) (one ∙ record-plain false [] [] (c ∷ rest) h)
    ∙ ap (λ (fs : List (List ℕ)). Some fs) (parts-after [] (c ∷ rest) ∙ before-none (c ∷ rest))

-- the fields of a line with neither quotes nor a mark
pub line_fields-plain : (line : List ℕ) → strip_bom line ≡ line → list_all is_plain line ≡ true → 0 < length line → line_fields line ≡ Some (parts_of line)
unfolding line_fields
line_fields-plain [] s h some = absurd (omega arith)
line_fields-plain (c ∷ rest) s h some = rw s (plain-text (c ∷ rest) h)

-- a line that begins otherwise than the mark keeps all its bytes
pub strip-head : (xs : List ℕ) → (get_or xs 0 0 == 239) ≡ false → strip_bom xs ≡ xs
unfolding strip_bom
strip-head [] h = refl
strip-head (a ∷ []) h = refl
strip-head (a ∷ b ∷ []) h = refl
strip-head (a ∷ b ∷ c ∷ rest) h = rw h refl
