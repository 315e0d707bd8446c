use Rattle.std.proofs.Common.{ℕ, List, Bor, Some, sym, inr}
use Rattle.event_csv.proofs.RecordFacts.{read-fields}
use Rattle.event_csv.proofs.fields.record_of.Goals as goal

pub returns-in-Ok-true : goal.returns-in-Ok-true
returns-in-Ok-true c =
    let fr = c.from_reader-reader.ensures in
    let made = c.terminator.ensures in
    let had = c.has_headers.ensures in
    let config = rw (made, had, c.new.ensures.config) at fr.config in
    let trim = rw (made, had, c.new.ensures.trim) at fr.trim in
    let plain = rw (made, had) at fr.has_headers in
    let read = rw c.in-Ok-true.field-0-test at (c.in-Ok-true.ensures.reads trim (inr (inr (plain, fr.headers)))) in
    sym (read-fields (λ (s : Bor (List ℕ)). Some s.now) c.from_reader-reader.result c.read_record.new.self _ _ c.args.line.now config fr.state fr.source read)

pub returns-in-Ok-false : goal.returns-in-Ok-false
returns-in-Ok-false c =
    let fr = c.from_reader-reader.ensures in
    let made = c.terminator.ensures in
    let had = c.has_headers.ensures in
    let config = rw (made, had, c.new.ensures.config) at fr.config in
    let trim = rw (made, had, c.new.ensures.trim) at fr.trim in
    let plain = rw (made, had) at fr.has_headers in
    let read = rw c.in-Ok-false.field-0-test at (c.in-Ok-false.ensures.reads trim (inr (inr (plain, fr.headers)))) in
    sym (read-fields (λ (s : Bor (List ℕ)). Some s.now) c.from_reader-reader.result c.read_record.new.self _ _ c.args.line.now config fr.state fr.source read)
