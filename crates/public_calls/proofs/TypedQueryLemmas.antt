-- Each query of a catalogue is typed over the streams before its own.
use Rattle.std.proofs.Common.{◌≡◌, ◌∙◌, sym, ap, subst, ℕ, ◌<◌, ◌==◌, get_or, length, List, [], ◌∷◌, ◌++◌, None, arith}
use Rattle.std.specs.List.{All, position_or_len, range_with_len}
use Rattle.std.proofs.lemmas.List.{get_or_default}
use Rattle.std.proofs.lemmas.List.Elements.{All-nil, All-cons, All-get_or}
use Rattle.std.proofs.lemmas.List.Sums.{position_or_len_is}
use Rattle.event_types.proofs.NumberLemmas.{is_other, self_equal}
use Rattle.event_types.specs.declared.kind.Kind.{Kind}
use Rattle.semantics.specs.Denotation.{Streams}
use Rattle.semantics.specs.Expressions.{Read}
use Rattle.semantics.specs.Kinds.{HaveKinds}
use Rattle.semantics.specs.Programs.{Query}
use Rattle.semantics.specs.TypedPrograms.{PublishInTurn}
use Rattle.semantics.specs.Typing.{IsTypedOver}
use Rattle.algebra.specs.Suits.{Suits}
use Rattle.algebra.proofs.TypingLemmas.{typed_suits}
use Rattle.cel_types.specs.SourceLaws.{kinds_in}
use Rattle.catalogue.specs.Catalogued.{Catalogued, query_in, work_in}
use Rattle.catalogue.specs.Standing.{StandsInOrder}
use Rattle.catalogue.proofs.StandingLemmas.{queries_many}

-- the query's expression gives tuples of the kinds of its stream, over the streams before it
abbrev IsTyped : (ℕ → List Kind) → Query → Type 0
IsTyped kinds query = IsTypedOver query.expr query.stream kinds (kinds query.stream)

-- queries that publish one after another are typed, by induction on them
typed_in_turn : (kinds : ℕ → List Kind) (there : List ℕ) (order : List Query) → PublishInTurn kinds there order → All (IsTyped kinds) order
typed_in_turn kinds there [] turn = All-nil (IsTyped kinds)
typed_in_turn kinds there (query ∷ order) turn = All-cons (IsTyped kinds) query order turn.2 (typed_in_turn kinds (there ++ query.stream ∷ []) order turn.3)

-- so is the query with a number
typed : (c : Catalogued) → StandsInOrder c → (number : ℕ) → number < length c.order → IsTypedOver (query_in c number).expr (query_in c number).stream (kinds_in c.streams) (kinds_in c.streams (query_in c number).stream)
typed c standing number small =
    let (place, within, same) = (standing.numbered.all number).1 small in
    let here : get_or c.order place 0 ≡ number = sym (get_or_default c.order place number 0 within) ∙ same in
    let is : position_or_len (λ other. number == other) c.order ≡ place =
    position_or_len_is (λ other. number == other) c.order place 0 (omega (arith, within))
    (λ earlier before. is_other number (get_or c.order earlier 0) (λ also. standing.numbered.distinct earlier place 0 before within (sym also ∙ sym here)))
    (λ _. ap (λ n. number == n) here ∙ self_equal number) in
    let many = queries_many c.streams c.published c.expressions (standing.publish ∙ sym standing.express) in
    let worked : place < length (work_in c) = omega (arith, within, many, standing.express) in
    let none : Query = record { name = []; stream = 0; hidden = 0; expr = Read 0; birth = None } in
    subst (λ n. IsTyped (kinds_in c.streams) (get_or (work_in c) n none)) (sym is)
    (All-get_or (IsTyped (kinds_in c.streams)) (work_in c) place none worked (typed_in_turn (kinds_in c.streams) (range_with_len 0 c.declared) (work_in c) standing.wide.typed.in_turn))

-- over streams of their kinds it may be evaluated
pub query_suits :
    (c : Catalogued) → StandsInOrder c → (number : ℕ) → number < length c.order → (count : ℕ) (streams : Streams) → count ≡ (query_in c number).stream → HaveKinds (kinds_in c.streams) count streams
    → Suits (query_in c number).expr count streams
query_suits c standing number small count streams many have =
    typed_suits (query_in c number).expr count (kinds_in c.streams) (kinds_in c.streams (query_in c number).stream) streams have
    (subst (λ n. IsTypedOver (query_in c number).expr n (kinds_in c.streams) (kinds_in c.streams (query_in c number).stream)) (sym many) (typed c standing number small))
