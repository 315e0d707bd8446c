-- Lines that are left, as they are read.
use Rattle.std.proofs.Common.{◌≡◌, ◌∙◌, ◌==◌, sym, ap, subst, ℕ, Bool, true, false, cond, slice_index, arith, List, [], ◌∷◌, ◌++◌, Some, Result, Ok, Err, refl, slice_get, append-nil}
use Rattle.std.specs.Prelude.{IsTrue}
use Rattle.event_types.proofs.NumberLemmas.{is_other}
use Rattle.event_csv.specs.declared.fault.LineFault.TheVariants as fault
use Rattle.std.proofs.lemmas.Bool.{le-ltb}
use Rattle.event_csv.specs.declared.control.ControlError.{ControlError}
use Rattle.event_csv.specs.Control.{Asked, control_of, is_control}
use Rattle.event_csv.specs.Event.{event}
use Rattle.event_csv.specs.Fed.{Fed, IsLine, HandsOutLines, TakesLine, IsLongNext, IsPart, fed_more, unread_lines}
use Rattle.event_csv.specs.Lines.{Line, is_long}
use Rattle.cel_lexer.specs.Names.{is_name}
use Rattle.catalogue.specs.Catalogued.{Catalogued, query_in}
use Rattle.catalogue.specs.Leaving.{HasName, HasNoQuery, IsFirstNamed, IsInUse, IsUnread}
use Rattle.courses.specs.declared.fault.ControlFault.TheVariants as control
use Rattle.courses.proofs.NamedLemmas.{named_first, named_none, reader_first, reader_none}
use Rattle.courses.specs.declared.refusal.Refusal.TheVariants.{HasFault}
use Rattle.courses.specs.ControlLines.{EntryFault, OfControl, OfLine, control_entry, dropped_entry, dropped_unless_read, entry_of, event_entry, query_named}
use Rattle.courses.specs.Course.{CourseEntry, Drops}
use Rattle.courses.specs.QuerySet.{QuerySet, set_in}
use Rattle.session.specs.declared.reading.Next.{Next}
use Rattle.session.specs.declared.reading.Next.TheVariants as next
use Rattle.courses.proofs.ControlLemmas.{control_line}
use Rattle.session.specs.declared.control.Change.{Change}
use Rattle.stream_schema.specs.Streams.{Entry}
use Rattle.session.specs.Says.{Asks, MayBeMade, entry_by, Finds, FitsNext, Says, Shows, ShowsLast, refusal_for}

-- a feed that is given nothing more
pub same_left : (fed : Fed) (ended : Bool) → unread_lines (fed_more fed []) ended ≡ unread_lines fed ended
same_left fed ended = ap (λ r. unread_lines (record fed { rest = r }) ended) (append-nil fed.rest)

gives_now : (given : List Line) (old new : Fed) (ended : Bool) → HandsOutLines given old new → unread_lines old ended ≡ given ++ unread_lines new ended
gives_now given old new ended gives = sym (same_left old ended) ∙ gives [] ended ∙ ap (λ l. given ++ l) (same_left new ended)

-- a line that is taken comes next
pub shows_line : (c : Catalogued) (old new : Fed) (number : ℕ) (bytes : List ℕ) (n : Next) → TakesLine (record { number = number; bytes = bytes }) old new → Says c number bytes n → Shows c old new n
shows_line c old new number bytes (next.Event line) takes says = (record { number = number; bytes = bytes }, says, λ ended. gives_now (record { number = number; bytes = bytes } ∷ []) old new ended takes.given)
shows_line c old new number bytes (next.Change made) takes says = (record { number = number; bytes = bytes }, says, λ ended. gives_now (record { number = number; bytes = bytes } ∷ []) old new ended takes.given)
shows_line c old new number bytes (next.Refused refusal) takes says = (
  record { number = number; bytes = bytes },
  says,
  λ ended. (unread_lines new ended, gives_now (record { number = number; bytes = bytes } ∷ []) old new ended takes.given),
)
shows_line c old new number bytes next.NotYet takes says = absurd says

-- the head of a list that begins so
first_is : {X : Type 0} (xs : List X) (x : X) → slice_get xs 0 ≡ Some x → (rest : List X) × (xs ≡ x ∷ rest)
first_is [] x e = cc
first_is (y ∷ ys) x e = let same : y ≡ x = cc in (ys, ap (λ z. z ∷ ys) same)

-- a line that is too long is a fault
pub shows_long : (c : Catalogued) (old new : Fed) (number : ℕ) → HandsOutLines [] old new → IsLongNext number new → Shows c old new (next.Refused (HasFault number fault.LineTooLong))
shows_long c old new number gives long =
    let line : Line = record { number = number; bytes = long.bytes } in
    let says : entry_of (set_in c) long.bytes ≡ Err (OfLine fault.LineTooLong) =
    ap (λ b. cond b (Err (OfLine fault.LineTooLong)) (cond (is_control long.bytes) (control_entry (set_in c) (control_of long.bytes)) (event_entry (event (set_in c).streams long.bytes)))) long.long in (
      line,
      (OfLine fault.LineTooLong, says, refl),
      λ ended.
          let first = first_is (unread_lines new ended) line (ap (λ l. slice_get l 0) (sym (same_left new ended)) ∙ long.next [] ended) in (first.0, gives_now [] old new ended gives ∙ first.1),
    )

-- where no line has its end, none comes next
pub shows_none : (c : Catalogued) (old new : Fed) → HandsOutLines [] old new → IsPart new → Shows c old new next.NotYet
shows_none c old new gives part = (part, λ ended. gives_now [] old new ended gives)

-- the last line is the one that is left
pub shows_last : (c : Catalogued) (fed : Fed) (number : ℕ) (bytes : List ℕ) (n : Next) → unread_lines fed true ≡ record { number = number; bytes = bytes } ∷ [] → Says c number bytes n → ShowsLast c fed n
shows_last c fed number bytes (next.Event line) left says = (record { number = number; bytes = bytes }, says, left)
shows_last c fed number bytes (next.Change made) left says = (record { number = number; bytes = bytes }, says, left)
shows_last c fed number bytes (next.Refused refusal) left says = (record { number = number; bytes = bytes }, says, left)
shows_last c fed number bytes next.NotYet left says = absurd says

-- a line that begins with > is a control line
pub begins_control : (bytes : List ℕ) → IsLine bytes → slice_index bytes 0 ≡ 62 → IsTrue (is_control bytes)
begins_control [] line e = absurd (let some = line.nonempty in omega (arith, some))
begins_control (byte ∷ rest) line e = ap (λ b. b == 62) e

-- and no other one is
pub begins_plain : (bytes : List ℕ) → IsLine bytes → (slice_index bytes 0 ≡ 62 → ⊥) → is_control bytes ≡ false
begins_plain [] line other = refl
begins_plain (byte ∷ rest) line other = is_other byte 62 other

-- what a control line says is what it asks for
pub says_control : (c : Catalogued) (number : ℕ) (bytes : List ℕ) (asks : Result Asked ControlError) → IsLine bytes → IsTrue (is_control bytes) → control_of bytes ≡ asks → (n : Next) → Finds c number (control_entry (set_in c) asks) n → Says c number bytes n
says_control c number bytes asks line begins e n finds =
    let short : is_long bytes ≡ false = le-ltb _ _ line.short in subst (λ found. Finds c number found n) (sym (control_line (set_in c) bytes short begins ∙ ap (control_entry (set_in c)) e)) finds

-- a line with a fault is refused for it
pub refused_finds : (c : Catalogued) (number : ℕ) (why : EntryFault) (found : Result CourseEntry EntryFault) (n : Next) → found ≡ Err why → n ≡ next.Refused (refusal_for number why) → Finds c number found n
refused_finds c number why found n e is = subst (Finds c number found) (sym is) (why, e, refl)

-- what follows >DROP is no name
pub no_name : (set : QuerySet) (name : List ℕ) → is_name name ≡ false → control_entry set (Ok (Asked.Removing name)) ≡ Err (OfControl control.BadForm)
no_name set name other = ap (λ b. cond b (dropped_entry set name (query_named set name)) (Err (OfControl control.BadForm))) other

module _ (c : Catalogued) (name : List ℕ) (one : is_name name ≡ true) where
  named : control_entry (set_in c) (Ok (Asked.Removing name)) ≡ dropped_entry (set_in c) name (query_named (set_in c) name)
  named = ap (λ b. cond b (dropped_entry (set_in c) name (query_named (set_in c) name)) (Err (OfControl control.BadForm))) one

  -- a query that is there and that none reads leaves
  pub leaves : (number : ℕ) → HasName c name number → IsFirstNamed c name number → IsUnread c number → control_entry (set_in c) (Ok (Asked.Removing name)) ≡ Ok (Drops (query_in c number))
  leaves number has first unread =
      named ∙ ap (dropped_entry (set_in c) name) (named_first c name number has first) ∙ ap (dropped_unless_read (query_in c number)) (reader_none c (query_in c number).stream unread)

  -- no query has the name
  pub no_query : (told : List ℕ) → told ≡ name → HasNoQuery c name → control_entry (set_in c) (Ok (Asked.Removing name)) ≡ Err (OfControl (control.UnknownQuery told))
  no_query told same none = named ∙ ap (dropped_entry (set_in c) name) (named_none c name none) ∙ ap (λ n. Err (OfControl (control.UnknownQuery n))) (sym same)

  -- the query of the name is read
  pub is_read : (told reader : List ℕ) → told ≡ name → IsInUse c name reader → control_entry (set_in c) (Ok (Asked.Removing name)) ≡ Err (OfControl (control.InUse told reader))
  is_read told reader same used =
      named ∙ ap (dropped_entry (set_in c) name) (named_first c name used.number used.named used.first_named)
      ∙ ap (dropped_unless_read (query_in c used.number)) (reader_first c (query_in c used.number).stream used.other used.first)
      ∙ (λ i. Err (OfControl (control.InUse ((used.named.name_is ∙ sym same) i) (sym used.reader_is i))))

-- what asks for a change that a line says is what is read of the line
pub asked_finds : (c : Catalogued) (number : ℕ) (made : Change) (found : Result CourseEntry EntryFault) (n : Next) → found ≡ Ok (entry_by c made) → MayBeMade c made → Asks made n → Finds c number found n
asked_finds c number made found (next.Event line) e may is = absurd is
asked_finds c number made found (next.Change other) e may is = (e ∙ ap (λ m. Ok (entry_by c m)) (sym is), subst (MayBeMade c) (sym is) may)
asked_finds c number made found (next.Refused refusal) e may is = absurd is
asked_finds c number made found next.NotYet e may is = absurd is

-- it is no event
pub asked_fits : (streams : List Entry) (made : Change) (n : Next) → Asks made n → FitsNext streams n
asked_fits streams made (next.Event line) is = absurd is
asked_fits streams made (next.Change other) is = tt
asked_fits streams made (next.Refused refusal) is = absurd is
asked_fits streams made next.NotYet is = absurd is
