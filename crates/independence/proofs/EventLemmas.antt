-- How event lines are read where queries are added.
use Rattle.std.proofs.Common.{◌≡◌, ◌∙◌, ℕ, ◌+◌, ◌==◌, List, [], ◌∷◌, Bool, true, false, cond, length, refl, sym, ap, subst, ◌⊎◌, inl, inr}
use Rattle.std.specs.Prelude.{Option, Some, None, Result, Ok, Err, Contains, option_map, slice_get}
use Rattle.std.specs.Str.{is_utf8}
use Rattle.std.proofs.lemmas.Bool.{cases_Bool}
use Rattle.std.proofs.lemmas.List.Elements.{All-contains}
use Rattle.std.proofs.lemmas.Option.{slice_get-map}
use Rattle.event_types.specs.declared.kind.Kind.{Kind}
use Rattle.event_types.specs.declared.value.Value.{Value}
use Rattle.stream_schema.specs.Schema.{kinds_of}
use Rattle.stream_schema.specs.Streams.{Entry, number_of}
use Rattle.cel_grammar.specs.Trees.{Statement}
use Rattle.cel_grammar.specs.Trees as tree
use Rattle.catalogue.specs.Judgement.{Judged}
use Rattle.catalogue.specs.Statements.{is_query}
use Rattle.event_csv.specs.declared.event.Seen.{Seen}
use Rattle.event_csv.specs.declared.fault.LineFault.{LineFault}
use Rattle.event_csv.specs.declared.fault.LineFault.TheVariants as fault
use Rattle.event_csv.specs.Event.{Span, declared_stream, event, event_of, event_with, if_declared, known_event, record_event, span_of, values_of}
use Rattle.event_csv.specs.Fields.{line_fields}
use Rattle.event_csv.specs.Lines.{is_long}
use Rattle.independence.specs.Enlarging.{AddQueries, AreReadAlike, Enlarge}
use Rattle.independence.specs.Hearing.{HaveOneName}
use Rattle.independence.proofs.AcceptedLemmas.{IsOfDeclaration, Stands, declaration-of, declared-number, entry_of}
use Rattle.independence.proofs.TableLemmas.{number-found}

-- the declared stream of a name in both tables, with the same kinds, or in neither
pub data AreFoundAlike (streams others : List Entry) : Option (ℕ × List Kind) → Option (ℕ × List Kind) → Type 0 where
  neither : AreFoundAlike streams others None None
  both : {m n : ℕ} {kinds : List Kind} → HaveOneName streams others m n → AreFoundAlike streams others (Some (m, kinds)) (Some (n, kinds))

module _ (streams others : List Entry) where
  -- of one stream by name, the same times and values are one event or one fault
  with-alike : (m n : ℕ) → HaveOneName streams others m n → (span : Result Span LineFault) (vals : Result (List Value) LineFault) → AreReadAlike streams others (event_with m span vals) (event_with n span vals)
  with-alike m n one (Err f) vals = refl
  with-alike m n one (Ok span) (Err f) = refl
  with-alike m n one (Ok span) (Ok vals) = (one, refl)

  -- so are the same fields
  of-alike : (m n : ℕ) (kinds : List Kind) → HaveOneName streams others m n → (fields : List (List ℕ)) → AreReadAlike streams others (event_of m kinds fields) (event_of n kinds fields)
  of-alike m n kinds one [] = refl
  of-alike m n kinds one (start ∷ []) = refl
  of-alike m n kinds one (start ∷ detection ∷ fields) = with-alike m n one (span_of start detection) (values_of 4 kinds fields)

  -- as many as the attributes, or more or fewer
  by-count : (b : Bool) (m n : ℕ) (kinds : List Kind) → HaveOneName streams others m n → (fields : List (List ℕ)) (why : LineFault) → AreReadAlike streams others (cond b (event_of m kinds fields) (Err why)) (cond b (event_of n kinds fields) (Err why))
  by-count true m n kinds one fields why = of-alike m n kinds one fields
  by-count false m n kinds one fields why = refl

  -- so are the fields behind a name that is found alike
  known-alike : {p q : Option (ℕ × List Kind)} → AreFoundAlike streams others p q → (fields : List (List ℕ)) → AreReadAlike streams others (known_event p fields) (known_event q fields)
  known-alike neither fields = refl
  known-alike (both {m = m} {n = n} {kinds = kinds} one) fields =
      by-count (length fields + 1 == length kinds + 3) m n kinds one fields (fault.FieldCount (length kinds + 3) (length fields + 1))

  module _ (alike : (name : List ℕ) → AreFoundAlike streams others (declared_stream streams (number_of name streams)) (declared_stream others (number_of name others))) where
    -- so are the fields of a line
    record-alike : (record_fields : Option (List (List ℕ))) → AreReadAlike streams others (record_event streams record_fields) (record_event others record_fields)
    record-alike None = refl
    record-alike (Some []) = refl
    record-alike (Some (name ∷ fields)) = known-alike (alike name) fields

    -- so is a line of any bytes
    by-bytes : (long utf8 : Bool) (record_fields : Option (List (List ℕ)))
        → AreReadAlike streams others (cond long (Err fault.LineTooLong) (cond utf8 (record_event streams record_fields) (Err fault.NotUtf8))) (cond long (Err fault.LineTooLong) (cond utf8 (record_event others record_fields) (Err fault.NotUtf8)))
    by-bytes true utf8 record_fields = refl
    by-bytes false true record_fields = record-alike record_fields
    by-bytes false false record_fields = refl

    pub lines-alike : (line : List ℕ) → AreReadAlike streams others (event streams line) (event others line)
    lines-alike line = by-bytes (is_long line) (is_utf8 line) (line_fields line)

  module _ (taken : (name : List ℕ) → (declared_stream streams (number_of name streams) ≡ None) ⊎ AreFoundAlike streams others (declared_stream streams (number_of name streams)) (declared_stream others (number_of name others))) where
    -- where the first fields are an event, so are the second, and it is the same one
    known-taken : (p q : Option (ℕ × List Kind)) → (p ≡ None) ⊎ AreFoundAlike streams others p q → (fields : List (List ℕ)) (seen : Seen) → known_event p fields ≡ Ok seen → AreReadAlike streams others (Ok seen) (known_event q fields)
    known-taken p q (inl none) fields seen is = let refused : Err fault.UnknownStream ≡ Ok seen = sym (ap (λ o. known_event o fields) none) ∙ is in cc
    known-taken p q (inr alike) fields seen is = subst (λ found. AreReadAlike streams others found (known_event q fields)) is (known-alike alike fields)

    record-taken : (record_fields : Option (List (List ℕ))) (seen : Seen) → record_event streams record_fields ≡ Ok seen → AreReadAlike streams others (Ok seen) (record_event others record_fields)
    record-taken None seen is = cc
    record-taken (Some []) seen is = cc
    record-taken (Some (name ∷ fields)) seen is = known-taken (declared_stream streams (number_of name streams)) (declared_stream others (number_of name others)) (taken name) fields seen is

    bytes-taken : (long utf8 : Bool) (record_fields : Option (List (List ℕ))) (seen : Seen) → cond long (Err fault.LineTooLong) (cond utf8 (record_event streams record_fields) (Err fault.NotUtf8)) ≡ Ok seen
        → AreReadAlike streams others (Ok seen) (cond long (Err fault.LineTooLong) (cond utf8 (record_event others record_fields) (Err fault.NotUtf8)))
    bytes-taken true utf8 record_fields seen is = cc
    bytes-taken false true record_fields seen is = record-taken record_fields seen is
    bytes-taken false false record_fields seen is = cc

    lines-taken : (line : List ℕ) (seen : Seen) → event streams line ≡ Ok seen → AreReadAlike streams others (Ok seen) (event others line)
    lines-taken line = bytes-taken (is_long line) (is_utf8 line) (line_fields line)

-- the declared stream of a name, if there is one
pub found-declared : (streams : List Entry) (n : ℕ) (e : Entry) → slice_get streams n ≡ Some e → e.declared ≡ true → declared_stream streams (Some n) ≡ Some (n, kinds_of e.schema)
found-declared streams n e at is = ap (if_declared n) at ∙ ap (λ b. cond b (Some (n, kinds_of e.schema)) None) is

-- a stream that a query publishes is no declared one
pub found-other : (streams : List Entry) (n : ℕ) (e : Entry) → slice_get streams n ≡ Some e → e.declared ≡ false → declared_stream streams (Some n) ≡ None
found-other streams n e at is = ap (if_declared n) at ∙ ap (λ b. cond b (Some (n, kinds_of e.schema)) None) is

-- a name is that of a declared stream, or of none
data IsDeclaredName (ss : List Statement) (streams : List Entry) (name : List ℕ) : Type 0 where
  is_declared : (n : ℕ) (e : Entry) → number_of name streams ≡ Some n → slice_get streams n ≡ Some e → e.name ≡ name → IsOfDeclaration ss e → IsDeclaredName ss streams name
  is_other : declared_stream streams (number_of name streams) ≡ None → IsDeclaredName ss streams name

module _ (judged : Judged) (s : Stands judged) (name : List ℕ) where
  by-entry : (n : ℕ) (e : Entry) → number_of name judged.streams ≡ Some n → slice_get judged.streams n ≡ Some e → e.name ≡ name → IsDeclaredName judged.statements judged.streams name
  by-entry n e found at named = elim (cases_Bool e.declared) [
    | inl is ↦ is_declared n e found at named (declaration-of judged s n e at is)
    | inr miss ↦ is_other (ap (declared_stream judged.streams) found ∙ found-other judged.streams n e at miss)
  ]

  by-number : (o : Option ℕ) → number_of name judged.streams ≡ o → IsDeclaredName judged.statements judged.streams name
  by-number None found = is_other (ap (declared_stream judged.streams) found)
  by-number (Some n) found = let (e, at, named) = number-found name judged.streams n found in by-entry n e found at named

  -- each name is of one kind or the other
  name-declared : IsDeclaredName judged.statements judged.streams name
  name-declared = by-number (number_of name judged.streams) refl

module _ (a b : Judged) (s : Stands a) (t : Stands b) (enlarges : Enlarge a.statements b.statements) (name : List ℕ) where
  -- a declared stream of the first text, in both
  both-declared : (n : ℕ) (e : Entry) → number_of name a.streams ≡ Some n → slice_get a.streams n ≡ Some e → e.name ≡ name → IsOfDeclaration a.statements e
      → AreFoundAlike a.streams b.streams (declared_stream a.streams (number_of name a.streams)) (declared_stream b.streams (number_of name b.streams))
  both-declared n e found at named is =
      let stands = All-contains (Contains b.statements) a.statements (tree.Stream e.name is.columns) enlarges is.stands in
      let (m, schema, is_too, inside, there, there_found) = declared-number b t e.name is.columns stands in
      let schemas : schema ≡ e.schema = is_too.value ∙ sym is.schema_is.value in
      let first : declared_stream a.streams (number_of name a.streams) ≡ Some (n, kinds_of e.schema) = ap (declared_stream a.streams) found ∙ found-declared a.streams n e at is.declared in
      let second : declared_stream b.streams (number_of name b.streams) ≡ Some (m, kinds_of e.schema) =
      ap (declared_stream b.streams) (ap (λ x. number_of x b.streams) (sym named) ∙ there_found) ∙ found-declared b.streams m (entry_of e.name schema) there refl ∙ ap (λ x. Some (m, kinds_of x)) schemas in
      let one : HaveOneName a.streams b.streams n m = record {
        name = e.name;
        first = slice_get-map (λ (x : Entry). x.name) a.streams n ∙ ap (option_map (λ (x : Entry). x.name)) at;
        second = slice_get-map (λ (x : Entry). x.name) b.streams m ∙ ap (option_map (λ (x : Entry). x.name)) there;
      } in
      rw (first, second) (both one)

  -- so a name is found alike, or is that of no declared stream of the first text
  found-alike : IsDeclaredName a.statements a.streams name
      → (declared_stream a.streams (number_of name a.streams) ≡ None) ⊎ AreFoundAlike a.streams b.streams (declared_stream a.streams (number_of name a.streams)) (declared_stream b.streams (number_of name b.streams))
  found-alike (is_declared n e found at named is) = inr (both-declared n e found at named is)
  found-alike (is_other none) = inl none

module _ (a b : Judged) (s : Stands a) (t : Stands b) (adds : AddQueries a.statements b.statements) (name : List ℕ) where
  -- a name of no declared stream of the first text is that of none of the second
  neither-declared : declared_stream a.streams (number_of name a.streams) ≡ None → IsDeclaredName b.statements b.streams name
      → AreFoundAlike a.streams b.streams (declared_stream a.streams (number_of name a.streams)) (declared_stream b.streams (number_of name b.streams))
  neither-declared none (is_other none_too) = rw (none, none_too) neither
  neither-declared none (is_declared n e found at named is) =
      let stands = All-contains (λ u. is_query u ≡ false → Contains a.statements u) b.statements (tree.Stream e.name is.columns) adds.no_stream_more is.stands refl in
      let (m, schema, is_too, inside, there, there_found) = declared-number a s e.name is.columns stands in
      let some : declared_stream a.streams (number_of name a.streams) ≡ Some (m, kinds_of schema) =
      ap (declared_stream a.streams) (ap (λ x. number_of x a.streams) (sym named) ∙ there_found) ∙ found-declared a.streams m (entry_of e.name schema) there refl in
      absurd cc

  -- so each name is found alike
  by-first : IsDeclaredName a.statements a.streams name → AreFoundAlike a.streams b.streams (declared_stream a.streams (number_of name a.streams)) (declared_stream b.streams (number_of name b.streams))
  by-first (is_declared n e found at named is) = both-declared a b s t adds.all_stand name n e found at named is
  by-first (is_other none) = neither-declared none (name-declared b t name)

-- each line is read alike where no stream is declared beside
pub read-alike : (a b : Judged) → Stands a → Stands b → AddQueries a.statements b.statements → (line : List ℕ) → AreReadAlike a.streams b.streams (event a.streams line) (event b.streams line)
read-alike a b s t adds line = lines-alike a.streams b.streams (λ name. by-first a b s t adds name (name-declared a s name)) line

-- and each event of the first text is the same one of an enlarged text
pub taken-alike : (a b : Judged) → Stands a → Stands b → Enlarge a.statements b.statements → (line : List ℕ) (seen : Seen) → event a.streams line ≡ Ok seen → AreReadAlike a.streams b.streams (Ok seen) (event b.streams line)
taken-alike a b s t enlarges = lines-taken a.streams b.streams (λ name. found-alike a b s t enlarges name (name-declared a s name))
