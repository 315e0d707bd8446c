-- What is told of the text of a query that comes.
use Rattle.std.proofs.Common.{◌≡◌, ◌≢◌, ◌∙◌, ℕ, ◌<◌, ◌≤◌, List, [], length, get_or, sym, subst, arith}
use Rattle.std.specs.Prelude.{IfSome, None, Option, Some, Err, slice_get}
use Rattle.std.proofs.lemmas.List.Elements.{All-head, Contains-get_or}
use Rattle.std.proofs.lemmas.Nat.{mul-le}
use Rattle.cel_lexer.specs.Faults.{tokens_of}
use Rattle.cel_lexer.specs.declared.fault.LexFault.{LexFault}
use Rattle.cel_lexer.specs.declared.fault.LexFault.TheVariants as lex
use Rattle.semantics.specs.Expressions.{Ex}
use Rattle.splitter.proofs.FewLemmas.{nodes, numbers_few, split_few}
use Rattle.splitter.proofs.ProgramLemmas.{IsShort}
use Rattle.stream_schema.specs.Schema.{Attr}
use Rattle.stream_schema.specs.Streams.{Entry, number_of, retired_name, stream_names}
use Rattle.stream_schema.specs.Table.{IsOwn}
use Rattle.cel_grammar.specs.Trees.{Statement}
use Rattle.cel_grammar.specs.Trees as tree
use Rattle.cel_parser.specs.OneQuery.{IsNotOneQuery, IsOneQuery, IsQuery}
use Rattle.cel_parser.specs.declared.fault.SyntaxFault.{SyntaxFault}
use Rattle.cel_parser.specs.declared.fault.SyntaxFault.TheVariants as syntax_fault
use Rattle.cel_types.specs.Statements.{FailsAsQuery, IsQueryOver, Queries, read_names}
use Rattle.cel_types.specs.declared.fault.TypeFault.{TypeFault}
use Rattle.cel_types.specs.declared.fault.TypeFault.TheVariants as type_fault
use Rattle.catalogue.specs.declared.fault.LoadFault.{LoadFault}
use Rattle.catalogue.specs.declared.fault.LoadFault.TheVariants.{Bad, Cycle, Memory}
use Rattle.catalogue.specs.declared.fault.QueryFault.{QueryFault}
use Rattle.catalogue.specs.Adding.{FailsAsOneQuery, JudgesAdded, JudgesStatement, NotTaken}
use Rattle.catalogue.specs.Adding as adding
use Rattle.catalogue.specs.Faults.{IsOfSyntax, IsOfTokens, IsOfTypes}
use Rattle.catalogue.specs.Faults as told
use Rattle.catalogue.specs.Filing.{most_bytes}
use Rattle.catalogue.specs.Taking.{IsFew, IsKnownName}
use Rattle.catalogue.specs.Naming.{name_fault, read_fault}
use Rattle.catalogue.specs.Statements.{name_of, reads_by}
use Rattle.catalogue.specs.Telling.{TellsBad}
use Rattle.catalogue.proofs.AddingLemmas.{names-there}
use Rattle.catalogue.proofs.FilingLemmas.{syntax_told, tokens_told}
use Rattle.catalogue.proofs.RoomLemmas.{HasFew, query_short, say_few}

-- a fault of tokens
pub one_in_tokens : (text : List ℕ) (f : LexFault) (told : LoadFault) → length text ≤ most_bytes → (f ≢ lex.Memory → tokens_of text ≡ Err f) → TellsBad (IsOfTokens f) told → TellsBad (FailsAsOneQuery text) told
one_in_tokens text f (Bad line why) short is of = adding.tokens short (is (tokens_told of)) of
one_in_tokens text f (Cycle names) short is of = of
one_in_tokens text f Memory short is of = tt

-- a fault of statements
pub one_in_syntax : (text source : List ℕ) (f : SyntaxFault) (told : LoadFault) → source ≡ text → length text ≤ most_bytes → (f ≢ syntax_fault.Memory → IsNotOneQuery source f) → TellsBad (IsOfSyntax f) told → TellsBad (FailsAsOneQuery text) told
one_in_syntax text source f (Bad line why) same short is of = adding.syntax short (subst (λ (t : List ℕ). IsNotOneQuery t f) same (is (syntax_told of))) of
one_in_syntax text source f (Cycle names) same short is of = of
one_in_syntax text source f Memory same short is of = tt

-- a text that isn't one query is refused
pub refused_as_text : (streams : List Entry) (text : List ℕ) (told : LoadFault) → TellsBad (FailsAsOneQuery text) told → TellsBad (λ line why. JudgesAdded streams text (NotTaken line why)) told
refused_as_text streams text (Bad line why) h = adding.text h
refused_as_text streams text (Cycle names) h = h
refused_as_text streams text Memory h = tt

-- and so is one whose statement is
pub refused_as_statement : (streams : List Entry) (text : List ℕ) (s : Statement) (line : ℕ) (told : LoadFault) → length text ≤ most_bytes → IsOneQuery text s line → TellsBad (λ at why. JudgesStatement streams s line (NotTaken at why)) told
    → TellsBad (λ at why. JudgesAdded streams text (NotTaken at why)) told
refused_as_statement streams text s line (Bad at why) short one h = adding.one short one h
refused_as_statement streams text s line (Cycle names) short one h = h
refused_as_statement streams text s line Memory short one h = tt

types_told : {f : TypeFault} {why : QueryFault} → IsOfTypes f why → f ≢ type_fault.Memory
types_told told.unknown e = cc
types_told told.kinds e = cc
types_told told.absent e = cc
types_told told.twice e = cc
types_told told.union e = cc
types_told told.wide e = cc
types_told told.fine e = cc

-- a fault of types
pub refused_in_types : (streams : List Entry) (s : Statement) (line : ℕ) (f : TypeFault) (told : LoadFault) → name_fault (stream_names streams) (name_of s) ≡ None → read_fault (stream_names streams) (reads_by s) ≡ None → (f ≢ type_fault.Memory → FailsAsQuery streams s f)
    → TellsBad (λ at why. (at ≡ line) × IsOfTypes f why) told → TellsBad (λ at why. JudgesStatement streams s line (NotTaken at why)) told
refused_in_types streams s line f (Bad at why) names reads fails h = subst (λ (n : ℕ). JudgesStatement streams s line (NotTaken n why)) (sym h.0) (adding.typed names reads (fails (types_told h.1)) h.1)
refused_in_types streams s line f (Cycle names) none reads fails h = h
refused_in_types streams s line f Memory names reads fails h = tt

-- a query reads none but names of streams, where none is unknown
pub query_over : (streams : List Entry) (s : Statement) → IsQuery s → read_fault (stream_names streams) (reads_by s) ≡ None → IsQueryOver streams s
query_over streams (tree.Stream name columns) is none = elim is [ ]
query_over streams (tree.Query items e name) is none =
    λ k d inside. names-there (stream_names streams) (read_names e) none (get_or (read_names e) k d) (Contains-get_or (read_names e) k d inside)

-- the query of a text has few lines and takes few numbers
pub one_few : (streams : List Entry) (text : List ℕ) (s : Statement) (line : ℕ) (schema : List Attr) (x : Ex) → IsOneQuery text s line → Queries streams s schema x → IsFew x
one_few streams text s line schema x one typed =
    let short : IsShort x = query_short streams s schema x (All-head HasFew s [] (say_few one.reads.said)) typed in
    record {
      numbers = λ next. omega (arith, short, numbers_few x next);
      lines = λ out next. (let square = mul-le (nodes x) (nodes x) 1024 1024 short short in omega (arith, square, split_few x out next));
    }

-- the stream of a name that a text can have is known
pub found_known : (streams : List Entry) (name : List ℕ) (found : Option ℕ) → IsOwn name → found ≡ number_of name streams → IfSome found (λ number. slice_get (stream_names streams) number ≡ Some name) → IfSome found (λ number. number < length streams) → IsKnownName streams name
found_known streams name found own is there within stream at =
    let some : found ≡ Some stream = is ∙ at in
    let here : slice_get (stream_names streams) stream ≡ Some name = subst (λ (o : Option ℕ). IfSome o (λ number. slice_get (stream_names streams) number ≡ Some name)) some there in
    record {
      within = subst (λ (o : Option ℕ). IfSome o (λ number. number < length streams)) some within;
      named = λ retired. own stream (let both : Some name ≡ Some (retired_name stream) = sym here ∙ retired in cc);
    }
