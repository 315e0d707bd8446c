-- Examples of what control lines say over the queries that are there, each worked out by hand: the text behind `>ADD ` is read and typed by computing. No contract cites them.
use Rattle.std.proofs.Common.{◌≡◌, refl, lit<, [], ◌∷◌, ◌++◌}
use Rattle.std.specs.Prelude.{codes, None, Ok, Err, Result}
use Rattle.std.specs.Str.{chars, is_utf8}
use Rattle.std.specs.Str.Lossy.{utf8_valid_len}
use Rattle.std.proofs.lemmas.Fmt.{decimal_digit}
use Rattle.cel_lexer.specs.Numbers.{numeral_piece}
use Rattle.cel_lexer.specs.Signs.{is_sign}
use Rattle.cel_lexer.specs.Tokens.{tokens_from}
use Rattle.cel_lexer.specs.Words.{is_keyword}
use Rattle.event_types.specs.declared.comparison.Cmp.TheVariants as cmp
use Rattle.event_types.specs.declared.kind.Kind.TheVariants as kind
use Rattle.semantics.specs.Expressions.{Next, Read, Select}
use Rattle.semantics.specs.Scalars.{Binding, Test}
use Rattle.semantics.specs.Scalars.{Event as EventAt}
use Rattle.cel_grammar.specs.declared.mark.Mark.TheVariants.{First, Second}
use Rattle.cel_grammar.specs.Sentences.{placed_of}
use Rattle.cel_grammar.specs.Trees as tree
use Rattle.cel_parser.specs.PredicateReader.{pred_at, test_at}
use Rattle.cel_parser.specs.ScalarReader.{scalar_at}
use Rattle.cel_parser.specs.SourceReader.{aggs_at, item_at, items_at, named_at, source_at}
use Rattle.cel_parser.specs.StatementReader.{column_at, columns_at, kind_at, statement_at}
use Rattle.catalogue.specs.declared.fault.QueryFault.{QueryFault}
use Rattle.catalogue.specs.declared.fault.QueryFault.TheVariants.{BadStatement, BadToken, Duplicate, DuplicateAttr, KindMismatch, NotAssignable, NotUtf8, TooFine, UnionMismatch, Unknown, UnknownAttr}
use Rattle.catalogue.specs.Adding.{AddedQuery, NotTaken}
use Rattle.courses.specs.declared.fault.ControlFault.TheVariants as fault
use Rattle.courses.specs.AddedVerdicts.{verdict_of}
use Rattle.courses.specs.ControlLines.{EntryFault, OfControl, entry_of}
use Rattle.courses.specs.Course.{Adds, CourseEntry}
use Rattle.courses.specs.QuerySet.{QuerySet, with_added}
use Rattle.courses.proofs.Examples.{all_of_s, declared, int, one_query, pair_more}

-- the text behind `>ADD ` is refused so
abbrev refused : QueryFault → Result CourseEntry EntryFault
refused why = Err (OfControl (fault.Query why))

-- all of S is selected
line_adds : entry_of one_query (codes ">ADD SELECT * FROM S PUBLISH Q;") ≡ Ok (Adds all_of_s)
unfolding is_utf8 chars lib.Utf8.encode verdict_of is_keyword is_sign tokens_from placed_of statement_at items_at item_at named_at source_at
line_adds = refl

-- the second attribute of a pair has the least number that makes its name free
line_adds_pair : entry_of one_query (codes ">ADD SELECT * FROM S NEXT {$2.a > $1.a} S PUBLISH Pair2;") ≡ Ok (Adds pair_more)
unfolding is_utf8 chars lib.Utf8.encode verdict_of is_keyword is_sign tokens_from placed_of statement_at items_at item_at named_at source_at pred_at test_at scalar_at
line_adds_pair = λ i. Ok (Adds (record { statement = pair_more.statement; schema = int (codes "a") ∷ int (codes "a_" ++ decimal_digit 2 (lit< tt) i) ∷ []; expr = pair_more.expr }))

-- all of S is selected behind the pairs too
line_adds_behind : entry_of (with_added one_query pair_more None) (codes ">ADD SELECT * FROM S PUBLISH Q;") ≡ Ok (Adds all_of_s)
unfolding is_utf8 chars lib.Utf8.encode verdict_of is_keyword is_sign tokens_from placed_of statement_at items_at item_at named_at source_at
line_adds_behind = refl

-- STREAM S (a INT); STREAM T (b INT);
abbrev two_streams : QuerySet
two_streams = record {
  streams = declared (codes "S") (int (codes "a") ∷ []) ∷ declared (codes "T") (int (codes "b") ∷ []) ∷ [];
  program = record { declared = 2; queries = []; order = [] };
}

-- the condition is turned round: the binding's attribute is below that of the event
abbrev follows : AddedQuery
follows = record {
  statement = tree.Query (tree.All ∷ [])
      (tree.Next (tree.Test (tree.Attr Second (codes "b")) cmp.Gt (tree.Attr First (codes "a"))) (tree.Name (codes "S")) (tree.Name (codes "T"))) (codes "Q");
  schema = int (codes "a") ∷ int (codes "b") ∷ [];
  expr = Select (record { width = 2; parts = EventAt 0 ∷ EventAt 1 ∷ [] }) (Next (Test (Binding 0) cmp.Lt (EventAt 0) ∷ []) (Read 0) (Read 1));
}

line_adds_next : entry_of two_streams (codes ">ADD SELECT * FROM S NEXT {$2.b > $1.a} T PUBLISH Q;") ≡ Ok (Adds follows)
unfolding is_utf8 chars lib.Utf8.encode verdict_of is_keyword is_sign tokens_from placed_of statement_at items_at item_at named_at source_at pred_at test_at scalar_at
line_adds_next = refl

-- over queries of which one publishes Q, or none of whose streams is S, the same text is refused
line_is_second : entry_of (with_added one_query all_of_s None) (codes ">ADD SELECT * FROM S PUBLISH Q;") ≡ refused (Duplicate (codes "Q"))
unfolding is_utf8 chars lib.Utf8.encode verdict_of is_keyword is_sign tokens_from placed_of statement_at items_at item_at named_at source_at
line_is_second = refl

abbrev has_no_stream : QuerySet
has_no_stream = record { streams = []; program = record { declared = 0; queries = []; order = [] } }

line_reads_nothing : entry_of has_no_stream (codes ">ADD SELECT * FROM S PUBLISH Q;") ≡ refused (Unknown (codes "S"))
unfolding is_utf8 chars lib.Utf8.encode verdict_of is_keyword is_sign tokens_from placed_of statement_at items_at item_at named_at source_at
line_reads_nothing = refl

-- no token begins with ?
line_has_no_token : entry_of one_query (codes ">ADD SELECT ? FROM S PUBLISH Q;") ≡ refused BadToken
unfolding is_utf8 chars lib.Utf8.encode verdict_of is_keyword is_sign tokens_from
line_has_no_token = refl

-- behind `>ADD ` stands nothing
line_is_empty : entry_of one_query (codes ">ADD ") ≡ refused (BadStatement 1)
unfolding is_utf8 chars lib.Utf8.encode verdict_of tokens_from placed_of
line_is_empty = refl

-- no semicolon ends the query
line_is_unended : entry_of one_query (codes ">ADD SELECT * FROM S PUBLISH Q") ≡ refused (BadStatement 1)
unfolding is_utf8 chars lib.Utf8.encode verdict_of is_keyword is_sign tokens_from placed_of
line_is_unended = refl

-- no item stands behind SELECT
line_lacks_items : entry_of one_query (codes ">ADD SELECT FROM S PUBLISH Q;") ≡ refused (BadStatement 1)
unfolding is_utf8 chars lib.Utf8.encode verdict_of is_keyword is_sign tokens_from placed_of statement_at items_at item_at named_at scalar_at
line_lacks_items = refl

-- a declaration is no query
line_declares : entry_of one_query (codes ">ADD STREAM T (b INT);") ≡ refused (BadStatement 1)
unfolding is_utf8 chars lib.Utf8.encode verdict_of is_keyword is_sign tokens_from placed_of statement_at columns_at column_at kind_at
line_declares = refl

-- of two queries the second one is refused
line_has_two : entry_of one_query (codes ">ADD SELECT * FROM S PUBLISH Q; SELECT * FROM S PUBLISH R;") ≡ refused (BadStatement 2)
unfolding is_utf8 chars lib.Utf8.encode verdict_of is_keyword is_sign tokens_from placed_of statement_at items_at item_at named_at source_at
line_has_two = refl

-- an attribute of whole numbers is compared with a text
line_mixes_kinds : entry_of one_query (codes ">ADD SELECT * FROM FILTER {a = 'x'} S PUBLISH Q;") ≡ refused (KindMismatch kind.Int kind.Text)
unfolding is_utf8 chars lib.Utf8.encode verdict_of is_keyword is_sign tokens_from placed_of statement_at items_at item_at named_at source_at pred_at test_at scalar_at
line_mixes_kinds = refl

-- T has no attribute a, which is told with its mark
line_lacks_attribute : entry_of two_streams (codes ">ADD SELECT * FROM S NEXT {$2.a > 1} T PUBLISH Q;") ≡ refused (UnknownAttr (codes "$2.a"))
unfolding is_utf8 chars lib.Utf8.encode verdict_of is_keyword is_sign numeral_piece tokens_from placed_of statement_at items_at item_at named_at source_at pred_at test_at scalar_at
line_lacks_attribute = refl

-- * has the attribute that stands before it once more
line_selects_twice : entry_of one_query (codes ">ADD SELECT a, * FROM S PUBLISH Q;") ≡ refused (DuplicateAttr (codes "a"))
unfolding is_utf8 chars lib.Utf8.encode verdict_of is_keyword is_sign tokens_from placed_of statement_at items_at item_at named_at source_at
line_selects_twice = refl

-- the first attributes have other names
line_unites_others : entry_of two_streams (codes ">ADD SELECT * FROM S UNION T PUBLISH Q;") ≡ refused (UnionMismatch 1)
unfolding is_utf8 chars lib.Utf8.encode verdict_of is_keyword is_sign tokens_from placed_of statement_at items_at item_at named_at source_at
line_unites_others = refl

-- the tuples of S, over which FOLD goes, have no attribute b
line_assigns_none : entry_of two_streams (codes ">ADD SELECT * FROM S FOLD {TRUE, TRUE, $2.b AS b} T PUBLISH Q;") ≡ refused (NotAssignable (codes "b"))
unfolding is_utf8 chars lib.Utf8.encode verdict_of is_keyword is_sign tokens_from placed_of statement_at items_at item_at named_at source_at pred_at aggs_at scalar_at
line_assigns_none = refl

-- STREAM D (d DEC 10);
abbrev decimals : QuerySet
decimals = record { streams = declared (codes "D") (record { name = codes "d"; kind = kind.Dec 10 } ∷ []) ∷ []; program = record { declared = 1; queries = []; order = [] } }

-- a product of two decimals of ten places would have twenty
line_is_too_fine : entry_of decimals (codes ">ADD SELECT d * d AS e FROM D PUBLISH Q;") ≡ refused (TooFine 20)
unfolding is_utf8 chars lib.Utf8.encode verdict_of is_keyword is_sign tokens_from placed_of statement_at items_at item_at named_at scalar_at source_at
line_is_too_fine = refl

-- no name stands behind `>DROP `
line_drops_no_name : entry_of one_query (codes ">DROP 2nd") ≡ Err (OfControl fault.BadForm)
unfolding is_utf8 chars lib.Utf8.encode numeral_piece
line_drops_no_name = refl

-- no character has the byte 255, which stands in the second line of a text
text_is_broken : verdict_of one_query.streams (10 ∷ 255 ∷ []) ≡ NotTaken 2 NotUtf8
unfolding is_utf8 chars lib.Utf8.encode utf8_valid_len verdict_of
text_is_broken = refl
