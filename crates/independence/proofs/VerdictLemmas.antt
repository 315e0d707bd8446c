-- An added query has one fault over two sets of queries of which each is within the other.
use Rattle.std.proofs.Common.{◌≡◌, ◌∙◌, ℕ, List, [], ◌∷◌, true, cond, refl, sym, ap, subst}
use Rattle.std.specs.Prelude.{Some, None, Contains, slice_get}
use Rattle.std.specs.List.{All}
use Rattle.std.specs.Str.{bytes_eq}
use Rattle.std.proofs.lemmas.List.Elements.{All-contains, All-head, All-tail}
use Rattle.std.proofs.lemmas.Option.{slice_get-map}
use Rattle.semantics.specs.Programs.{Program}
use Rattle.stream_schema.specs.Streams.{Entry, stream_names}
use Rattle.stream_schema.specs.Table.{IsOwn}
use Rattle.cel_grammar.specs.Trees.{Statement}
use Rattle.cel_parser.specs.OneQuery.{IsOneQuery}
use Rattle.cel_types.specs.Aggregates.{is_among}
use Rattle.catalogue.specs.declared.fault.QueryFault.{QueryFault}
use Rattle.catalogue.specs.declared.fault.QueryFault.TheVariants.{Reserved, Duplicate}
use Rattle.catalogue.specs.Adding.{JudgesAdded, JudgesStatement, NotTaken}
use Rattle.catalogue.specs.Adding as adding
use Rattle.catalogue.specs.Naming.{name_fault, read_fault, reserved_name}
use Rattle.catalogue.specs.Statements.{name_of, reads_by}
use Rattle.catalogue.proofs.ReadingLemmas.{fault_by, read_fault-cons}
use Rattle.catalogue.proofs.StandLemmas.{Contains-map, among-there, stands-from}
use Rattle.courses.specs.QuerySet.{QuerySet}
use Rattle.independence.proofs.BothLemmas.{AreBothInside}
use Rattle.independence.proofs.EnlargingLemmas.{image-of}
use Rattle.independence.proofs.InsideLemmas.{Tables}
use Rattle.independence.proofs.OwnLemmas.{OwnNames, reads-own}
use Rattle.independence.proofs.PublishedLemmas.{contains-at, place-of}
use Rattle.independence.proofs.TwinLemmas.{IsWithin, means-same}
use Rattle.independence.proofs.TypingLemmas.{AreAlike, queries-fail}
use Rattle.independence.proofs.ZipLemmas.{same-test}

-- a name that a stream has is that of a stream of a larger set
among-too : (number first : ℕ → ℕ) (streams others : List Entry) (program other : Program) → IsWithin number first streams others program other → (name : List ℕ) → IsOwn name → is_among (stream_names streams) name ≡ true
    → is_among (stream_names others) name ≡ true
among-too number first streams others program other within name own among =
    let (n, at) = place-of (stream_names streams) name (stands-from (stream_names streams) name among) in
    let (e, there, named) = image-of (λ (z : Entry). z.name) (slice_get streams n) name (sym (slice_get-map (λ (z : Entry). z.name) streams n) ∙ at) in
    let is = within.alike n e there (subst IsOwn (sym named) own) in
    among-there (stream_names others) name (subst (Contains (stream_names others)) (is.name_is ∙ named) (Contains-map (λ (z : Entry). z.name) others is.entry (contains-at others (number n) is.entry is.there)))

module _ (a b : Tables) (first last : ℕ → ℕ) (set other : QuerySet) (both : AreBothInside a b first last set other) where
  -- the same names are those of streams
  among-same : (name : List ℕ) → IsOwn name → is_among (stream_names set.streams) name ≡ is_among (stream_names other.streams) name
  among-same name own =
      same-test (is_among (stream_names set.streams) name) (is_among (stream_names other.streams) name)
      (among-too both.there.number first set.streams other.streams set.program other.program both.there.within name own)
      (among-too both.back.number last other.streams set.streams other.program set.program both.back.within name own)

  -- so a name has the same fault
  name-same : (name : List ℕ) → IsOwn name → name_fault (stream_names set.streams) name ≡ name_fault (stream_names other.streams) name
  name-same name own = ap (λ among. cond (bytes_eq name reserved_name) (Some (Reserved name)) (cond among (Some (Duplicate name)) None)) (among-same name own)

  -- and names that are read, by induction on them
  reads-same : (names : List (List ℕ)) → All IsOwn names → read_fault (stream_names set.streams) names ≡ read_fault (stream_names other.streams) names
  reads-same [] own = refl
  reads-same (name ∷ names) own =
      read_fault-cons (stream_names set.streams) name names
      ∙ (λ i. fault_by (among-same name (All-head IsOwn name names own) i) name (reads-same names (All-tail IsOwn name names own) i)) ∙ sym (read_fault-cons (stream_names other.streams) name names)

  -- names that are read have the same schemas
  alike : (s : Statement) → OwnNames s → AreAlike set.streams other.streams both.there.number (reads_by s)
  alike s names name read n schema has =
      means-same both.there.number first a.declared b.declared set.streams other.streams set.program other.program both.there.kept both.there.kept_too both.there.within name n schema
      (All-contains IsOwn (reads_by s) name names.reads read) has

  -- a statement is refused with the same fault
  statement-refused : (s : Statement) (at line : ℕ) (why : QueryFault) → OwnNames s → JudgesStatement set.streams s at (NotTaken line why) → JudgesStatement other.streams s at (NotTaken line why)
  statement-refused s at _ _ names (adding.named fault) = adding.named (sym (name-same (name_of s) names.name) ∙ fault)
  statement-refused s at _ _ names (adding.reads free fault) = adding.reads (sym (name-same (name_of s) names.name) ∙ free) (sym (reads-same (reads_by s) names.reads) ∙ fault)
  statement-refused s at _ _ names (adding.typed {f = f} free known fails is) =
      adding.typed (sym (name-same (name_of s) names.name) ∙ free) (sym (reads-same (reads_by s) names.reads) ∙ known) (queries-fail set.streams other.streams both.there.number s f fails (alike s names)) is

  -- the names of one query
  one-names : (text : List ℕ) (s : Statement) (line : ℕ) → IsOneQuery text s line → OwnNames s
  one-names text s line is = All-head OwnNames s [] (reads-own text (s ∷ []) (line ∷ []) is.reads)

  -- so is a text
  pub refused-too : (text : List ℕ) (line : ℕ) (why : QueryFault) → JudgesAdded set.streams text (NotTaken line why) → JudgesAdded other.streams text (NotTaken line why)
  refused-too text _ _ (adding.text fails) = adding.text fails
  refused-too text line why (adding.one {s = s} {line = at} short is judged) = adding.one short is (statement-refused s at line why (one-names text s at is) judged)
