-- The text of an added query has exactly one verdict.
use Rattle.std.proofs.Common.{◌≡◌, ◌∙◌, ℕ, zero, suc, ◌≤◌, List, [], ◌∷◌, length, refl, sym, ap, subst, inl, inr, Ok, Err, arith}
use Rattle.std.specs.Prelude.{Contains, Option, Some, None}
use Rattle.std.proofs.lemmas.Bool.{cases_Bool, cases_lt}
use Rattle.cel_lexer.specs.Faults.{tokens_of}
use Rattle.cel_lexer.specs.Tokens.{Lexed}
use Rattle.cel_lexer.specs.declared.fault.LexFault.{LexFault}
use Rattle.cel_lexer.specs.declared.fault.LexFault.TheVariants as lex
use Rattle.cel_lexer.proofs.MemoryLemmas.{never_memory}
use Rattle.semantics.specs.Expressions.{Ex}
use Rattle.stream_schema.specs.Schema.{Attr}
use Rattle.stream_schema.specs.Streams.{Entry, stream_names}
use Rattle.cel_grammar.specs.Trees.{Item, Source, Statement}
use Rattle.cel_grammar.specs.Trees as tree
use Rattle.cel_parser.specs.OneQuery.{IsNotOneQuery, IsOneQuery, IsQuery}
use Rattle.cel_parser.specs.declared.fault.SyntaxFault.{SyntaxFault}
use Rattle.cel_parser.specs.declared.fault.SyntaxFault.TheVariants as syntax_fault
use Rattle.cel_parser.proofs.QueryLemmas.{one-query-fault, one-query-reading, query-no-memory, query-not-both, query-or-fault}
use Rattle.cel_types.specs.Aggregates.{is_among}
use Rattle.cel_types.specs.Statements.{FailsAsQuery, Queries}
use Rattle.cel_types.specs.declared.fault.TypeFault.{TypeFault}
use Rattle.cel_types.proofs.QueryLaws.{FailsAsQuery-one, Queries-no_fault, Queries-one}
use Rattle.catalogue.specs.declared.fault.QueryFault.{QueryFault}
use Rattle.catalogue.specs.declared.fault.QueryFault.TheVariants.{Unknown}
use Rattle.catalogue.specs.Adding.{AddedVerdict, FailsAsOneQuery, JudgesAdded, JudgesStatement, NotTaken, OneAddedVerdict, SomeAddedVerdict, Taken}
use Rattle.catalogue.specs.Adding as adding
use Rattle.catalogue.specs.Faults.{IsOfSyntax, IsOfTypes}
use Rattle.catalogue.specs.Faults as told
use Rattle.catalogue.specs.Filing.{most_bytes}
use Rattle.catalogue.specs.Laws.{SameFault}
use Rattle.catalogue.specs.Naming.{name_fault, read_fault}
use Rattle.catalogue.specs.Statements.{reads_by}
use Rattle.catalogue.proofs.LawLemmas.{syntax_same, tokens_same}
use Rattle.catalogue.proofs.ReadingLemmas.{fault_by, read_fault-cons}
use Rattle.catalogue.proofs.StandLemmas.{stands-from}
use Rattle.catalogue.proofs.TotalTypes.{Case, bad, good, query_case}
use Rattle.catalogue.proofs.VerdictLemmas.{types_same}

-- a text that isn't one query is so for one fault
text-one : (text : List ℕ) {line other_line : ℕ} {why other : QueryFault} → FailsAsOneQuery text line why → FailsAsOneQuery text other_line other → SameFault line other_line why other
text-one text (adding.long h) (adding.long k) = record { lines = refl; faults = refl }
text-one text (adding.long h) (adding.tokens short e is) = absurd (omega (arith, h, short))
text-one text (adding.long h) (adding.syntax short not is) = absurd (omega (arith, h, short))
text-one text (adding.tokens short e is) (adding.long h) = absurd (omega (arith, h, short))
text-one text {other_line = other_line} {other = other} (adding.tokens {f = f} short e is) (adding.tokens {f = g} short_too e_too is_too) =
    let same : f ≡ g = cc in tokens_same is (subst (λ (x : LexFault). told.IsOfTokens x other_line other) (sym same) is_too)
text-one text (adding.tokens short e is) (adding.syntax short_too not is_too) = let lexed = not.all in absurd cc
text-one text (adding.syntax short not is) (adding.long h) = absurd (omega (arith, h, short))
text-one text (adding.syntax short not is) (adding.tokens short_too e is_too) = let lexed = not.all in absurd cc
text-one text {other_line = other_line} {other = other} (adding.syntax {f = f} short not is) (adding.syntax {f = g} short_too not_too is_too) =
    syntax_same is (subst (λ (x : SyntaxFault). IsOfSyntax x other_line other) (sym (one-query-fault text f g not not_too)) is_too)

-- a text that is one query has no such fault
query-alone : (text : List ℕ) {s : Statement} {line other_line : ℕ} {why : QueryFault} → length text ≤ most_bytes → IsOneQuery text s line → FailsAsOneQuery text other_line why → ⊥
query-alone text short one (adding.long h) = omega (arith, h, short)
query-alone text short one (adding.tokens short_too e told) = let lexed = one.reads.all in cc
query-alone text {s = s} {line = line} short one (adding.syntax {f = f} short_too not told) = query-not-both text s line f one not

-- an option is something or nothing
some-none : {X : Type 0} {o : Option X} {x : X} → o ≡ Some x → o ≡ None → ⊥
some-none some none = let both = sym some ∙ none in cc

not-taken : {line : ℕ} {why other : QueryFault} {o : Option QueryFault} → o ≡ Some why → o ≡ Some other → NotTaken line why ≡ NotTaken line other
not-taken {line = line} {why = why} {other = other} some some_too = let same : why ≡ other = (let both = sym some ∙ some_too in cc) in ap (NotTaken line) same

-- a statement has at most one verdict
statement-one : (streams : List Entry) (s : Statement) (line : ℕ) {v w : AddedVerdict} → JudgesStatement streams s line v → JudgesStatement streams s line w → v ≡ w
statement-one streams s line (adding.named some) (adding.named some_too) = not-taken some some_too
statement-one streams s line (adding.named some) (adding.reads none _) = absurd (some-none some none)
statement-one streams s line (adding.named some) (adding.typed none _ _ _) = absurd (some-none some none)
statement-one streams s line (adding.named some) (adding.taken none _ _) = absurd (some-none some none)
statement-one streams s line (adding.reads none _) (adding.named some) = absurd (some-none some none)
statement-one streams s line (adding.reads _ some) (adding.reads _ some_too) = not-taken some some_too
statement-one streams s line (adding.reads _ some) (adding.typed _ none _ _) = absurd (some-none some none)
statement-one streams s line (adding.reads _ some) (adding.taken _ none _) = absurd (some-none some none)
statement-one streams s line (adding.typed none _ _ _) (adding.named some) = absurd (some-none some none)
statement-one streams s line (adding.typed _ none _ _) (adding.reads _ some) = absurd (some-none some none)
statement-one streams s line (adding.typed {f = f} _ _ fails is) (adding.typed {f = g} {why = other} _ _ fails_too is_too) =
    ap (NotTaken line) (types_same is (subst (λ (h : TypeFault). IsOfTypes h other) (sym (FailsAsQuery-one streams s f g fails fails_too)) is_too))
statement-one streams s line (adding.typed {f = f} _ _ fails is) (adding.taken {schema = schema} {x = x} _ _ gives) = absurd (Queries-no_fault streams s schema x f gives fails)
statement-one streams s line (adding.taken none _ _) (adding.named some) = absurd (some-none some none)
statement-one streams s line (adding.taken _ none _) (adding.reads _ some) = absurd (some-none some none)
statement-one streams s line (adding.taken {schema = schema} {x = x} _ _ gives) (adding.typed {f = f} _ _ fails is) = absurd (Queries-no_fault streams s schema x f gives fails)
statement-one streams s line (adding.taken {schema = schema} {x = x} _ _ gives) (adding.taken {schema = other} {x = y} _ _ gives_too) =
    let one = Queries-one streams s schema other x y gives gives_too in λ i. Taken (record { statement = s; schema = one.0 i; expr = one.1 i })

-- and so has a text
pub one_added_verdict : OneAddedVerdict
one_added_verdict streams text _ _ (adding.text h) (adding.text k) = let same = text-one text h k in λ i. NotTaken (same.lines i) (same.faults i)
one_added_verdict streams text _ _ (adding.text h) (adding.one short is judged) = absurd (query-alone text short is h)
one_added_verdict streams text _ _ (adding.one short is judged) (adding.text h) = absurd (query-alone text short is h)
one_added_verdict streams text _ w (adding.one {s = s} {line = line} short is judged) (adding.one {s = other} {line = other_line} short_too is_too judged_too) =
    let same = one-query-reading text s other line other_line is is_too in
    statement-one streams s line judged
    (subst (λ (s : Statement). JudgesStatement streams s line w) (sym same.statements) (subst (λ (line : ℕ). JudgesStatement streams other line w) (sym same.lines) judged_too))

-- names without a fault are all there, by induction on them
pub names-there : (names xs : List (List ℕ)) → read_fault names xs ≡ None → (name : List ℕ) → Contains xs name → Contains names name
names-there names [] none name stands = absurd (omega arith)
names-there names (x ∷ xs) none name stands = elim (cases_Bool (is_among names x)) [
  | inl there ↦ by-place name stands
      (stands-from names x there)
      (names-there names xs (sym (read_fault-cons names x xs ∙ ap (λ b. fault_by b x (read_fault names xs)) there) ∙ none))
  | inr absent ↦ let e : Some (Unknown x) ≡ None = sym (read_fault-cons names x xs ∙ ap (λ b. fault_by b x (read_fault names xs)) absent) ∙ none in absurd cc
]
  where
    by-place : (name : List ℕ) → Contains (x ∷ xs) name → Contains names x → ((other : List ℕ) → Contains xs other → Contains names other) → Contains names name
    by-place name (zero, within, same) first rest = subst (Contains names) same first
    by-place name (suc k, within, same) first rest = rest name (k, omega arith, same)

abbrev HasVerdict : List Entry → List ℕ → Type 0
HasVerdict streams text = (verdict : AddedVerdict) × JudgesAdded streams text verdict

module _ (streams : List Entry) (items : List Item) (source : Source) (name : List ℕ) (line : ℕ) where
  -- a statement whose names are sound
  by-types : name_fault (stream_names streams) name ≡ None → read_fault (stream_names streams) (reads_by (tree.Query items source name)) ≡ None
      → Case ((schema : List Attr) × (x : Ex) × Queries streams (tree.Query items source name) schema x) (FailsAsQuery streams (tree.Query items source name)) → (verdict : AddedVerdict) × JudgesStatement streams (tree.Query items source name) line verdict
  by-types names reads (good (schema, x, gives)) = (_, adding.taken names reads gives)
  by-types names reads (bad is fails) = (_, adding.typed names reads fails is)

  by-reads : name_fault (stream_names streams) name ≡ None → (found : Option QueryFault) → read_fault (stream_names streams) (reads_by (tree.Query items source name)) ≡ found → (verdict : AddedVerdict) × JudgesStatement streams (tree.Query items source name) line verdict
  by-reads names (Some why) is = (_, adding.reads names is)
  by-reads names None is = by-types names is (query_case streams items source name (names-there (stream_names streams) (reads_by (tree.Query items source name)) is))

  by-name : (found : Option QueryFault) → name_fault (stream_names streams) name ≡ found → (verdict : AddedVerdict) × JudgesStatement streams (tree.Query items source name) line verdict
  by-name (Some why) is = (_, adding.named is)
  by-name None is = by-reads is (read_fault (stream_names streams) (reads_by (tree.Query items source name))) refl

-- so is a query
by-query : (streams : List Entry) (s : Statement) (line : ℕ) → IsQuery s → (verdict : AddedVerdict) × JudgesStatement streams s line verdict
by-query streams (tree.Stream name columns) line is = elim is [ ]
by-query streams (tree.Query items source name) line is = by-name streams items source name line (name_fault (stream_names streams) name) refl

module _ (streams : List Entry) (text : List ℕ) (short : length text ≤ most_bytes) where
  -- a fault of statements tells itself
  by-syntax : (f : SyntaxFault) → IsNotOneQuery text f → HasVerdict streams text
  by-syntax (syntax_fault.TooManyTokens number line) not = (_, adding.text (adding.syntax short not told.many))
  by-syntax (syntax_fault.TooDeep number line) not = (_, adding.text (adding.syntax short not told.deep))
  by-syntax (syntax_fault.BadStatement number line) not = (_, adding.text (adding.syntax short not told.bad))
  by-syntax syntax_fault.Memory not = absurd (query-no-memory text not)

  by-fault : (f : LexFault) → tokens_of text ≡ Err f → HasVerdict streams text
  by-fault (lex.NotUtf8 line) is = (_, adding.text (adding.tokens short is told.not_utf8))
  by-fault (lex.BadToken line) is = (_, adding.text (adding.tokens short is told.bad_token))
  by-fault (lex.NumberPast128 line) is = (_, adding.text (adding.tokens short is told.number))
  by-fault lex.Memory is = absurd (never_memory text is)

  by-tokens : (found : Lexed) → tokens_of text ≡ found → HasVerdict streams text
  by-tokens (Ok found) is = elim (query-or-fault text found is) [
    | inl one ↦ let judged = by-query streams one.0 one.1 one.2.query in (judged.0, adding.one short one.2 judged.1)
    | inr not ↦ by-syntax not.0 not.1
  ]
  by-tokens (Err f) is = by-fault f is

-- each text has a verdict
pub some_added_verdict : SomeAddedVerdict
some_added_verdict streams text = elim (cases_lt most_bytes (length text)) [
  | inl more ↦ (_, adding.text (adding.long more))
  | inr short ↦ by-tokens streams text short (tokens_of text) refl
]
