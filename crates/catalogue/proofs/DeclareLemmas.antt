-- One more declaration.
use Rattle.std.proofs.Common.{◌≡◌, ◌≢◌, ◌∙◌, ℕ, List, [], ◌∷◌, ◌++◌, true, false, ◌||◌, ◌<◌, ◌+◌, length, take, drop, refl, sym, ap, subst, arith, length-take-le, take-append-drop}
use Rattle.std.specs.Prelude.{Some, None, slice_get}
use Rattle.std.specs.Str.{bytes_eq}
use Rattle.std.proofs.lemmas.List.{drop_more, take-map, take_more}
use Rattle.std.proofs.lemmas.Option.{get_or_from_slice_get}
use Rattle.stream_schema.specs.Streams.{Entry, number_of, stream_names}
use Rattle.cel_grammar.specs.Trees.{Statement, Stream, Query}
use Rattle.cel_types.specs.declared.fault.TypeFault.{TypeFault}
use Rattle.cel_types.specs.declared.fault.TypeFault.TheVariants as type
use Rattle.cel_types.specs.Aggregates.{is_among}
use Rattle.cel_types.specs.Statements.{FailsAsDeclaration}
use Rattle.catalogue.specs.declared.fault.LoadFault.{LoadFault}
use Rattle.catalogue.specs.declared.fault.LoadFault.TheVariants.{Bad, Cycle, Memory}
use Rattle.catalogue.specs.declared.fault.QueryFault.{QueryFault}
use Rattle.catalogue.specs.Faults.{IsOfTypes, unknown, kinds, absent, twice, union, wide, fine}
use Rattle.catalogue.specs.Naming.{name_fault, name_fault_at}
use Rattle.catalogue.specs.Statements.{name_of, names_in}
use Rattle.catalogue.specs.Telling.{TellsBad}
use Rattle.catalogue.specs.Typing.{Adds, FileDeclares, FileFailsToDeclare, FailsInDeclarations, FailsOn, none, stream, query, here, behind}
use Rattle.catalogue.proofs.NameLemmas.{number_of-absent}
use Rattle.catalogue.proofs.NamingLemmas.{new-name}
use Rattle.catalogue.proofs.PlaceLemmas.{name-at, slice_get-within}
use Rattle.std.proofs.lemmas.Bool.{or_parts}

-- one more statement behind others
Declare-push : {ss : List Statement} {streams : List Entry} → FileDeclares ss streams → (s : Statement) (new : List Entry) → Adds s streams new → FileDeclares (ss ++ s ∷ []) new
Declare-push none (Stream name columns) new (schema, is, same) = subst (FileDeclares (Stream name columns ∷ [])) (sym same) (stream is none)
Declare-push none (Query items source name) new same = subst (FileDeclares (Query items source name ∷ [])) (sym same) (query none)
Declare-push (stream {name = own} {schema = own_schema} {streams = streams} first rest) (Stream name columns) new (schema, is, same) =
    subst (FileDeclares _) (sym same) (stream first (Declare-push rest (Stream name columns) (streams ++ record { name = name; schema = schema; declared = true } ∷ []) (schema, is, refl)))
Declare-push (stream {streams = streams} first rest) (Query items source name) new same = subst (FileDeclares _) (sym same) (stream first (Declare-push rest (Query items source name) streams refl))
Declare-push (query rest) s new adds = query (Declare-push rest s new adds)

types_told : {f : TypeFault} {why : QueryFault} → IsOfTypes f why → f ≢ type.Memory
types_told unknown e = cc
types_told kinds e = cc
types_told absent e = cc
types_told twice e = cc
types_told union e = cc
types_told wide e = cc
types_told fine e = cc

-- a declaration with a fault, behind declarations without one
fails_after : {before : List Statement} {streams : List Entry} → FileDeclares before streams → (s : Statement) (later : List Statement) (lines : List ℕ) (line : ℕ) (f : TypeFault)
    → FailsAsDeclaration s f → slice_get lines (length before) ≡ Some line → FileFailsToDeclare (before ++ s ∷ later) lines line f
fails_after d s later [] line f fails on_line = cc
fails_after none (Stream name columns) later (l ∷ lines) line f fails on_line = let same : l ≡ line = cc in subst (λ (at : ℕ). FileFailsToDeclare (Stream name columns ∷ later) (l ∷ lines) at f) same (here fails)
fails_after none (Query items source name) later (l ∷ lines) line f fails on_line = absurd fails
fails_after (stream first rest) s later (l ∷ lines) line f fails on_line = behind first (fails_after rest s later lines line f fails on_line)
fails_after (query rest) s later (l ∷ lines) line f fails on_line = query (fails_after rest s later lines line f fails on_line)

-- a name that no statement has is no declared stream's
pub absent-streams : {ss : List Statement} {streams : List Entry} → FileDeclares ss streams → (name : List ℕ) → is_among (names_in ss) name ≡ false → is_among (stream_names streams) name ≡ false
absent-streams none name e = refl
absent-streams (stream {name = own} {streams = streams} first rest) name e =
    let parts : (bytes_eq name own ≡ false) × (is_among (names_in _) name ≡ false) = or_parts (bytes_eq name own) (is_among (names_in _) name) e in
    ap (λ b. b || is_among (stream_names streams) name) parts.0 ∙ absent-streams rest name parts.1
absent-streams (query {name = own} rest) name e = absent-streams rest name (or_parts (bytes_eq name own) (is_among (names_in _) name) e).1

module _ (ss : List Statement) (place : ℕ) (s : Statement) (there : slice_get ss place ≡ Some s) where
  parts : take place ss ++ s ∷ drop (place + 1) ss ≡ ss
  parts =
      let within : place < length ss = slice_get-within ss place s there in
      ap (λ z. take place ss ++ z ∷ drop (place + 1) ss) (sym (get_or_from_slice_get ss place s s there)) ∙ ap (λ zs. take place ss ++ zs) (sym (drop_more ss place s within)) ∙ take-append-drop place ss

  -- the declarations so far, with one more statement
  pub Declare-more : (old new : List Entry) → FileDeclares (take place ss) old → Adds s old new → FileDeclares (take (place + 1) ss) new
  Declare-more old new d adds =
      let within : place < length ss = slice_get-within ss place s there in
      subst (λ (zs : List Statement). FileDeclares zs new) (ap (λ z. take place ss ++ z ∷ []) (sym (get_or_from_slice_get ss place s s there)) ∙ sym (take_more ss place s within)) (Declare-push d s new adds)

  -- the fault of the declaration at the place, behind declarations without one
  pub FailToDeclare-at : (streams : List Entry) (lines : List ℕ) (line : ℕ) (f : TypeFault) → FileDeclares (take place ss) streams → FailsAsDeclaration s f → slice_get lines place ≡ Some line → FileFailsToDeclare ss lines line f
  FailToDeclare-at streams lines line f d fails on_line =
      let within : place < length ss = slice_get-within ss place s there in
      let long : length (take place ss) ≡ place = length-take-le place ss (omega arith) in
      subst (λ (zs : List Statement). FileFailsToDeclare zs lines line f) parts (fails_after d s (drop (place + 1) ss) lines line f fails (ap (slice_get lines) long ∙ on_line))

  -- the name at the place is new among the names before it
  pub new_at : name_fault_at ss place ≡ None → is_among (names_in (take place ss)) (name_of s) ≡ false
  new_at no_fault =
      ap (λ xs. is_among xs (name_of s)) (sym (take-map name_of place ss))
      ∙ new-name (take place (names_in ss)) (name_of s) (ap (name_fault (take place (names_in ss))) (sym (name-at ss place s there)) ∙ no_fault)

  -- so it is no declared stream's
  pub absent_at : (streams : List Entry) → FileDeclares (take place ss) streams → name_fault_at ss place ≡ None → number_of (name_of s) streams ≡ None
  absent_at streams d no_fault = number_of-absent (name_of s) streams (stream_names streams) refl (absent-streams d (name_of s) (new_at no_fault))

  -- its fault is the file's
  pub tells_declared : (streams : List Entry) (lines : List ℕ) (line : ℕ) (told : LoadFault) → FileDeclares (take place ss) streams → slice_get lines place ≡ Some line → TellsBad (FailsOn line (FailsAsDeclaration s)) told → TellsBad (FailsInDeclarations ss lines) told
  tells_declared streams lines line (Bad at why) d on_line h = record {
    fault = h.fault;
    fails = FailToDeclare-at streams lines at h.fault d h.is (on_line ∙ ap Some (sym h.on_line));
    same = h.same;
  }
  tells_declared streams lines line (Cycle names) d on_line h = h
  tells_declared streams lines line Memory d on_line h = tt

-- a fault of types on a line is that of the statement
pub tells_types : (P : TypeFault → Type 0) (line : ℕ) (f : TypeFault) (told : LoadFault) → (f ≢ type.Memory → P f) → TellsBad (λ at why. (at ≡ line) × IsOfTypes f why) told → TellsBad (FailsOn line P) told
tells_types P line f (Bad at why) fails h = record { on_line = h.0; fault = f; is = fails (types_told h.1); same = h.1 }
tells_types P line f (Cycle names) fails h = h
tells_types P line f Memory fails h = tt

-- what is told of a fault of types on a line
pub told_on : (line : ℕ) (f given : TypeFault) (why : QueryFault) (told : LoadFault) → f ≡ given → told ≡ Bad line why → IsOfTypes given why → TellsBad (λ at why. (at ≡ line) × IsOfTypes f why) told
told_on line f given why told is bad same = subst (TellsBad (λ at why. (at ≡ line) × IsOfTypes f why)) (sym bad) (refl, subst (λ (g : TypeFault). IsOfTypes g why) (sym is) same)
