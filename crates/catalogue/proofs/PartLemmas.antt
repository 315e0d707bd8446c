-- What typed queries are judged to be, by parts.
use Rattle.std.proofs.Common.{◌≡◌, ◌∙◌, ℕ, zero, suc, ◌+◌, ◌-◌, ◌<◌, ◌≤◌, List, [], ◌∷◌, ◌++◌, length, take, drop, get_or, map, refl, sym, ap, subst, arith, append_assoc}
use Rattle.std.specs.Prelude.{None}
use Rattle.std.proofs.Math.Seq.{take-append_seam, drop-append_seam}
use Rattle.std.proofs.lemmas.List.{append-nil, length-map, length_push}
use Rattle.expressions.specs.declared.expression.Expr.{Expr}
use Rattle.expressions.specs.Views.{ex_of}
use Rattle.semantics.specs.Programs.{Query}
use Rattle.splitter.specs.Splitting as split
use Rattle.stream_schema.specs.Streams.{Entry}
use Rattle.cel_grammar.specs.Trees.{Statement}
use Rattle.cel_grammar.specs.Views.{statement_of}
use Rattle.cel_parser.specs.Filed.{Filed}
use Rattle.resubscribe.specs.Order.{IsOrder}
use Rattle.catalogue.specs.Arranging.{AreSound}
use Rattle.catalogue.specs.Parts.{parts_of, judged_of, queries_by}
use Rattle.catalogue.specs.Filing.{IsFileWithinLimit}
use Rattle.catalogue.specs.Judgement.{Accepts}
use Rattle.catalogue.specs.Reading.{reads_in}
use Rattle.catalogue.specs.Statements.{queries_in}
use Rattle.catalogue.specs.Typing.{ArePublished, FileDeclares, Publish, none, next, published_by}
use Rattle.catalogue.proofs.CountLemmas.{statement_count}

-- the streams of the queries stand behind the others, and the queries are those that publish them
record HasParts (streams all : List Entry) (hidden : ℕ) (done : List Query) (expressions : List Expr) : Type 0 where
  -- the streams that the queries publish
  pub more : List Entry
  -- they stand behind the others
  pub all_are : all ≡ streams ++ more
  -- the typed queries are those of the expressions, which publish them
  pub done_are : done ≡ queries_by (length streams) hidden more expressions

-- by induction on the queries
has_parts : {queries : List Statement} {streams all : List Entry} {hidden : ℕ} {order : List ℕ} {done : List Query} → Publish queries streams hidden order all done
    → (expressions : List Expr) → map (λ q. q.expr) done ≡ map ex_of expressions → HasParts streams all hidden done expressions
has_parts (none {streams = streams}) xs same = record { more = []; all_are = sym (append-nil streams); done_are = refl }
has_parts (next schema x there typed rest) [] same = cc
has_parts (next {streams = streams} {all = all} {hidden = hidden} {s = s} {more = done} schema x there typed rest) (y ∷ ys) same =
    let is : x ≡ ex_of y = cc in
    let later : map (λ q. q.expr) done ≡ map ex_of ys = cc in
    let behind : HasParts (streams ++ published_by s schema ∷ []) all (split.parts_of x hidden).next done ys = has_parts rest ys later in
    let done_later : done ≡ queries_by (length streams + 1) (split.parts_of (ex_of y) hidden).next behind.more ys =
    behind.done_are ∙ (λ i. queries_by (length_push streams (published_by s schema) i) (split.parts_of (is i) hidden).next behind.more ys) in
    record {
      more = published_by s schema ∷ behind.more;
      all_are = behind.all_are ∙ append_assoc streams (published_by s schema ∷ []) behind.more;
      done_are = λ i. record { name = (published_by s schema).name; stream = length streams; hidden = hidden; expr = is i; birth = None } ∷ done_later i;
    }

-- a file whose names are sound, whose queries have this order, and whose statements are typed, is accepted
pub accepts : (text : List ℕ) (file : Filed) (streams all : List Entry) (order : List ℕ) (expressions : List Expr)
    → IsFileWithinLimit text (map statement_of file.statements) file.lines → AreSound (map statement_of file.statements) → IsOrder (reads_in (map statement_of file.statements)) order
    → FileDeclares (map statement_of file.statements) streams → ArePublished (map statement_of file.statements) streams order all expressions → Accepts text (judged_of (parts_of file all order expressions))
accepts text file streams all order expressions is_file sound in_order declared published =
    let ss : List Statement = map statement_of file.statements in
    let parts : HasParts streams all (length ss) published.queries expressions = has_parts published.publish expressions published.expressions_are in
    let counted : length streams + length order ≡ length (map statement_of file.statements) = statement_count (map statement_of file.statements) streams order declared in_order in
    let as_many : length (map statement_of file.statements) ≡ length file.statements = length-map file.statements statement_of in
    let many : length file.statements - length order ≡ length streams = omega arith in
    let front : streams ≡ take (length file.statements - length order) all = sym (ap (λ n. take n all) many ∙ ap (take (length streams)) parts.all_are ∙ take-append_seam streams parts.more) in
    let back : parts.more ≡ drop (length file.statements - length order) all = sym (ap (λ n. drop n all) many ∙ ap (drop (length streams)) parts.all_are ∙ drop-append_seam streams parts.more) in
    let by_parts : Publish (queries_in ss) streams (length ss) order (streams ++ parts.more) (queries_by (length streams) (length ss) parts.more expressions) =
    subst (Publish (queries_in ss) streams (length ss) order (streams ++ parts.more)) parts.done_are
    (subst (λ (es : List Entry). Publish (queries_in ss) streams (length ss) order es published.queries) parts.all_are published.publish) in
    let at_front : Publish (queries_in ss) (take (length file.statements - length order) all) (length ss) order (take (length file.statements - length order) all ++ parts.more) (queries_by (length (take (length file.statements - length order) all)) (length file.statements) parts.more expressions) =
    subst (λ (t : List Entry × ℕ). Publish (queries_in ss) t.0 (length ss) order (t.0 ++ parts.more) (queries_by (length t.0) t.1 parts.more expressions)) (λ i. (front i, as_many i)) by_parts in
    record {
      file = is_file;
      sound = sound;
      in_order = in_order;
      declares = subst (FileDeclares (map statement_of file.statements)) front declared;
      publishes = subst (λ (es : List Entry). Publish (queries_in ss) (take (length file.statements - length order) all) (length ss) order (take (length file.statements - length order) all ++ es) (queries_by (length (take (length file.statements - length order) all)) (length file.statements) es expressions)) back at_front;
    }

-- as many queries are typed as are worked on
pub published_count : {queries : List Statement} {streams all : List Entry} {hidden : ℕ} {order : List ℕ} {done : List Query} → Publish queries streams hidden order all done → length done ≡ length order
published_count none = refl
published_count (next schema x there typed rest) = ap suc (published_count rest)

-- and as many expressions are there
pub expressions_count : (ss : List Statement) (streams : List Entry) (order : List ℕ) (all : List Entry) (expressions : List Expr) → ArePublished ss streams order all expressions → length expressions ≡ length order
expressions_count ss streams order all expressions published =
    sym (length-map expressions ex_of) ∙ ap length (sym published.expressions_are) ∙ length-map published.queries (λ q. q.expr) ∙ published_count published.publish

-- a query by its place: its stream
pub stream_by : (number hidden : ℕ) (streams : List Entry) (expressions : List Expr) (place : ℕ) (d : Query) → place < length (queries_by number hidden streams expressions)
    → (get_or (queries_by number hidden streams expressions) place d).stream ≡ number + place
stream_by number hidden [] xs place d within = absurd (omega arith)
stream_by number hidden (s ∷ streams) [] place d within = absurd (omega arith)
stream_by number hidden (s ∷ streams) (x ∷ xs) zero d within = omega arith
stream_by number hidden (s ∷ streams) (x ∷ xs) (suc place) d within =
    let after = (split.parts_of (ex_of x) hidden).next in
    let later : (get_or (queries_by (number + 1) after streams xs) place d).stream ≡ (number + 1) + place = stream_by (number + 1) after streams xs place d (omega arith) in
    let past : (number + 1) + place ≡ number + suc place = omega arith in
    later ∙ past

-- each has a stream
pub streams_reach : (number hidden : ℕ) (streams : List Entry) (expressions : List Expr) → length (queries_by number hidden streams expressions) ≤ length streams
streams_reach number hidden [] xs = omega arith
streams_reach number hidden (s ∷ streams) [] = omega arith
streams_reach number hidden (s ∷ streams) (x ∷ xs) =
    let after = (split.parts_of (ex_of x) hidden).next in
    let later : length (queries_by (number + 1) after streams xs) ≤ length streams = streams_reach (number + 1) after streams xs in omega arith
