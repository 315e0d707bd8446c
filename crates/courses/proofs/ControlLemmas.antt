-- What control lines say, by what they ask for.
use Rattle.std.proofs.Common.{◌≡◌, ◌∙◌, ap, ℕ, true, false, cond, List, Some, None, Ok, Err}
use Rattle.cel_lexer.specs.Names.{is_name}
use Rattle.semantics.specs.Programs.{Query}
use Rattle.catalogue.specs.declared.fault.QueryFault.{QueryFault}
use Rattle.catalogue.specs.Adding.{AddedQuery, JudgesAdded, NotTaken, Taken}
use Rattle.event_csv.specs.Control.{Asked, control_of, is_control}
use Rattle.event_csv.specs.Event.{event}
use Rattle.event_csv.specs.Lines.{is_long}
use Rattle.event_csv.specs.declared.control.ControlError.TheVariants as error
use Rattle.event_csv.specs.declared.fault.LineFault.TheVariants as line
use Rattle.courses.specs.declared.fault.ControlFault.TheVariants as fault
use Rattle.courses.specs.ControlLines.{OfControl, OfLine, added_entry, control_entry, dropped_entry, dropped_unless_read, entry_of, event_entry, first_reader, query_named}
use Rattle.courses.specs.Course.{Adds, Drops}
use Rattle.courses.specs.QuerySet.{QuerySet}
use Rattle.courses.proofs.VerdictLemmas.{verdict_is}

module _ (set : QuerySet) (bytes : List ℕ) (short : is_long bytes ≡ false) (begins : is_control bytes ≡ true) where
  -- a line that begins with > and isn't too long is a control line
  pub control_line : entry_of set bytes ≡ control_entry set (control_of bytes)
  control_line = λ i. cond (short i) (Err (OfLine line.LineTooLong)) (cond (begins i) (control_entry set (control_of bytes)) (event_entry (event set.streams bytes)))

  -- it isn't UTF-8, or has neither form
  pub not_text : control_of bytes ≡ Err error.NotUtf8 → entry_of set bytes ≡ Err (OfLine line.NotUtf8)
  not_text e = control_line ∙ ap (control_entry set) e

  pub bad_form : control_of bytes ≡ Err error.BadForm → entry_of set bytes ≡ Err (OfControl fault.BadForm)
  bad_form e = control_line ∙ ap (control_entry set) e

  -- the text of a query is taken, or isn't
  pub adds_query : (text : List ℕ) (added : AddedQuery) → control_of bytes ≡ Ok (Asked.Adding text) → JudgesAdded set.streams text (Taken added) → entry_of set bytes ≡ Ok (Adds added)
  adds_query text added e judged = control_line ∙ ap (control_entry set) e ∙ ap added_entry (verdict_is set.streams text (Taken added) judged)

  pub adds_none : (text : List ℕ) (at : ℕ) (why : QueryFault) → control_of bytes ≡ Ok (Asked.Adding text) → JudgesAdded set.streams text (NotTaken at why) → entry_of set bytes ≡ Err (OfControl (fault.Query why))
  adds_none text at why e judged = control_line ∙ ap (control_entry set) e ∙ ap added_entry (verdict_is set.streams text (NotTaken at why) judged)

  -- no name is behind >DROP
  pub no_name : (name : List ℕ) → control_of bytes ≡ Ok (Asked.Removing name) → is_name name ≡ false → entry_of set bytes ≡ Err (OfControl fault.BadForm)
  no_name name e not_one = control_line ∙ ap (control_entry set) e ∙ ap (λ b. cond b (dropped_entry set name (query_named set name)) (Err (OfControl fault.BadForm))) not_one

  module _ (name : List ℕ) (e : control_of bytes ≡ Ok (Asked.Removing name)) (one : is_name name ≡ true) where
    drop_line : entry_of set bytes ≡ dropped_entry set name (query_named set name)
    drop_line = control_line ∙ ap (control_entry set) e ∙ ap (λ b. cond b (dropped_entry set name (query_named set name)) (Err (OfControl fault.BadForm))) one

    -- no query has the name
    pub drops_unknown : query_named set name ≡ None → entry_of set bytes ≡ Err (OfControl (fault.UnknownQuery name))
    drops_unknown none = drop_line ∙ ap (dropped_entry set name) none

    -- the query of the name leaves, where none reads it
    pub drops_query : (query : Query) → query_named set name ≡ Some query → first_reader set query.stream ≡ None → entry_of set bytes ≡ Ok (Drops query)
    drops_query query is unread = drop_line ∙ ap (dropped_entry set name) is ∙ ap (dropped_unless_read query) unread

    -- the query of the name is read
    pub drops_none : (query reader : Query) → query_named set name ≡ Some query → first_reader set query.stream ≡ Some reader → entry_of set bytes ≡ Err (OfControl (fault.InUse query.name reader.name))
    drops_none query reader is read = drop_line ∙ ap (dropped_entry set name) is ∙ ap (dropped_unless_read query) read
