use Rattle.std.proofs.Common.{◌≡◌, ◌∙◌, ◌⊎◌, ◌↔◌, sym, ap, subst, ℕ, [], List, get_or, set}
use Rattle.std.proofs.lemmas.Option.{get_or_from_slice_get}
use Rattle.event_types.specs.declared.value.Value.{Value}
use Rattle.binding_index.specs.Leads.{Entries, Leads}
use Rattle.stream_readers.specs.KeyTables.{IsNoted, KeyTable}
use Rattle.stream_readers.proofs.KeyTableLemmas.{noted}
use Rattle.stream_readers.proofs.key_readers.KeyReaders.note.Goals as goal

-- the key leads to the state besides
pub returns-clause-ok : goal.returns-clause-ok
returns-clause-ok c =
    let s = c.args.stream in
    let a = c.args.attribute in
    let table : KeyTable = c.lengthen.new.streams in
    let columns : List Entries = c.widen.new.directories in
    let entries : Entries = c.note.new.self in
    let directories : get_or table s [] ≡ c.get_mut-directories.result.now = get_or_from_slice_get table s c.get_mut-directories.result.now [] c.get_mut-directories.ensures.value in
    let directory : get_or columns a [] ≡ c.get_mut-directory.result.now = get_or_from_slice_get columns a c.get_mut-directory.result.now [] c.get_mut-directory.ensures.value in
    subst (λ (old : KeyTable). IsNoted s a c.args.key.now c.args.state old (set table s (set columns a entries))) c.self.view_is
    (noted c.self.inside.streams table s a c.args.key.now c.args.state columns entries c.in_ok-lengthen.ensures.long c.in_ok-widen.ensures.wide c.lengthen.ensures.same
    (λ at. c.widen.ensures.same at ∙ ap (λ (cs : List Entries). get_or cs at []) (sym directories))
    (subst (λ (es : Entries). (other : Value) (number : ℕ) → Leads entries other number ↔ (Leads es other number ⊎ ((c.args.key.now ≡ other) × (c.args.state ≡ number)))) (sym directory) c.in_ok-note.ensures.ok))
