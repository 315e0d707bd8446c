-- The text of each status (this project's profile): one line without its end.
use Rattle.std.specs.Prelude.{ℕ, List, [], ◌++◌, ◌==◌, if◌then◌else◌, codes, decimal}
use Rattle.std.specs.List.{join_by}
use Rattle.cay_host.specs.declared.side.Side.TheVariants.{Queries, Events}
use Rattle.event_types.specs.KindWord.{kind_word}
use Rattle.event_csv.specs.declared.fault.LineFault.{LineFault}
use Rattle.event_csv.specs.declared.fault.LineFault.TheVariants as event
use Rattle.catalogue.specs.declared.fault.QueryFault.{QueryFault}
use Rattle.catalogue.specs.declared.fault.QueryFault.TheVariants as query
use Rattle.courses.specs.declared.fault.ControlFault.{ControlFault}
use Rattle.courses.specs.declared.fault.ControlFault.TheVariants as control
use Rattle.cayuga_run.specs.declared.status.Status.{Status}
use Rattle.cayuga_run.specs.declared.status.Status.TheVariants.{Done, Usage, BadQuery, Cycle, BadEvent, OutOfOrder, AttachFault, ReadFault, WriteFault, TooMuch, Memory, BadControl}

-- names, joined by a comma and a space
abbrev pub names_joined : List (List ℕ) → List ℕ
names_joined names = join_by (λ name. name) (codes ", ") names

-- what is wrong with the queries, in words
abbrev pub query_words : QueryFault → List ℕ
query_words query.NotUtf8 = codes "not UTF-8"
query_words query.BadToken = codes "bad token"
query_words query.NumberPast128 = codes "number past 128 bits"
query_words (query.TooManyTokens number) = codes "statement " ++ (decimal number ++ codes " has more than 1024 tokens")
query_words (query.TooDeep number) = codes "statement " ++ (decimal number ++ codes " is nested more than 64 deep")
query_words (query.BadStatement number) = codes "statement " ++ (decimal number ++ codes " is not in the grammar")
query_words query.TooLong = codes "more than 1048576 bytes of queries"
query_words (query.Reserved name) = codes "name " ++ (name ++ codes " is reserved")
query_words (query.Duplicate name) = codes "name " ++ (name ++ codes " is taken")
query_words (query.Unknown name) = codes "stream " ++ (name ++ codes " is unknown")
query_words (query.UnknownAttr name) = codes "attribute " ++ (name ++ codes " is unknown")
query_words (query.KindMismatch want got) = kind_word want ++ (codes " wanted, " ++ (kind_word got ++ codes " given"))
query_words (query.NotAssignable name) = codes "attribute " ++ (name ++ codes " cannot be assigned")
query_words (query.DuplicateAttr name) = codes "attribute " ++ (name ++ codes " stands twice")
query_words (query.UnionMismatch place) = codes "union differs at attribute " ++ decimal place
query_words (query.TooWide count) = decimal count ++ codes " attributes, at most 256"
query_words (query.TooFine places) = decimal places ++ codes " places, at most 18"

-- what is wrong with an event line, in words
abbrev pub line_words : LineFault → List ℕ
line_words event.LineTooLong = codes "more than 65536 bytes"
line_words event.NotUtf8 = codes "not UTF-8"
line_words event.UnknownStream = codes "unknown stream"
line_words (event.FieldCount want got) = decimal want ++ (codes " fields wanted, " ++ (decimal got ++ codes " given"))
line_words (event.BadTime field) = codes "field " ++ (decimal field ++ codes " is not a time")
line_words event.StartAfterDetection = codes "start after detection"
line_words (event.BadInt field) = codes "field " ++ (decimal field ++ codes " is not a whole number of 128 bits")
line_words (event.BadDec field places) = codes "field " ++ (decimal field ++ (codes " is not a decimal of " ++ (decimal places ++ codes " places")))

-- what is wrong with a control line, in words
abbrev pub control_words : ControlFault → List ℕ
control_words control.BadForm = codes "not a control line"
control_words (control.Query why) = query_words why
control_words (control.UnknownQuery name) = codes "no query " ++ name
control_words (control.InUse name reader) = name ++ (codes " is read by " ++ reader)
control_words control.NotHere = codes "not in explain"

-- what is wrong with an event that comes too late, in words: its time is before that of the last event, or was closed by a control line
abbrev pub late_words : ℕ → ℕ → List ℕ
late_words at seen = codes "detection " ++ (decimal at ++ (if at == seen then codes " is already closed" else codes " is below " ++ decimal seen))

-- the text of a status: nothing where the job was done, else the program's name, the place, and what was found there
abbrev pub text_of : Status → List ℕ
text_of Done = []
text_of Usage = codes "cayuga: usage: cayuga [--stats] run QUERIES EVENTS, check QUERIES, plan QUERIES, load SEED N"
text_of (BadQuery line why) = codes "cayuga: queries line " ++ (decimal line ++ (codes ": " ++ query_words why))
text_of (Cycle names) = codes "cayuga: cycle: " ++ names_joined names
text_of (BadEvent line why) = codes "cayuga: events line " ++ (decimal line ++ (codes ": " ++ line_words why))
text_of (OutOfOrder line at seen) = codes "cayuga: events line " ++ (decimal line ++ (codes ": " ++ late_words at seen))
text_of (AttachFault Queries) = codes "cayuga: cannot open the queries"
text_of (AttachFault Events) = codes "cayuga: cannot open the events"
text_of (ReadFault Queries) = codes "cayuga: cannot read the queries"
text_of (ReadFault Events) = codes "cayuga: cannot read the events"
text_of WriteFault = codes "cayuga: cannot write the results"
text_of (TooMuch limit) = codes "cayuga: more than " ++ (decimal limit ++ codes " bytes of events")
text_of Memory = codes "cayuga: no memory"
text_of (BadControl line why) = codes "cayuga: control line " ++ (decimal line ++ (codes ": " ++ control_words why))
