use Rattle.std.proofs.Common.{rules, [], ◌∷◌, ◌++◌, ◌≡◌, ◌∙◌, ap, sym, length}
use Rattle.std.specs.Prelude.{Some, string_bytes}
use Rattle.std.proofs.lemmas.Map.Text.{hash_map_updates_text}
use Rattle.stream_schema.specs.Streams.{Entry, number_of}
use Rattle.stream_schema.specs.Table.{streams_of}
use Rattle.stream_schema.specs.declared.streams.Stream.{Stream}
use Rattle.stream_schema.proofs.RetiredLemmas.{distinct-push, number_of-push, there-push}
use Rattle.stream_schema.proofs.TableLemmas.{length-streams_from, streams_from-push}
use Rattle.stream_schema.proofs.TextLemmas.{own-from_bytes}
use Rattle.stream_schema.proofs.streams.Streams.add.Goals.{in-Ok, in-Err}
use Rattle.stream_schema.proofs.streams.Streams.add.Goals as goal

pub invariant_of-self-in-Ok : goal.invariant_of-self-in-Ok
invariant_of-self-in-Ok c =
    let streams = c.args.self.now in
    let name = c.args.name.now in
    let entry : Entry = record { name = name; schema = c.args.schema; declared = c.args.declared } in
    let stream : Stream = record { name = Some c.in_ok-from_str.field-0; schema = c.args.schema; declared = c.args.declared } in
    let more : streams_of c.add.new.self ≡ streams ++ entry ∷ [] =
    ap streams_of c.in_ok-add.ensures.ok ∙ streams_from-push 0 c.self.inside.streams stream name (λ k. c.in_ok-from_str.ensures.ok) ∙ ap (λ ss. ss ++ entry ∷ []) c.self.view_is in
    let put = hash_map_updates_text (string_bytes c.in_ok-key.key) c.self.inside.numbers c.insert.new.self (Some c.len-number.result) c.in-Ok.ensures.updates in
    let number : c.len-number.result ≡ length streams = c.len-number.ensures ∙ sym (length-streams_from 0 c.self.inside.streams) ∙ ap length c.self.view_is in
    record {
      found = λ other own.
          put other
          ∙ rw (c.in_ok-key.ensures.ok, number, c.self.invariant.found other own, c.self.view_is) (number_of-push streams entry c.requires other)
          ∙ ap (number_of other) (sym more);
      distinct = rw more (distinct-push streams entry c.requires (rw (← c.self.view_is) c.self.invariant.distinct));
    }

pub returns-clause-number : goal.returns-clause-number
returns-clause-number c = elim c.match-insert.branch [
  | in-Ok w ↦ rw w.result-is (c.len-number.ensures ∙ sym (length-streams_from 0 c.self.inside.streams) ∙ ap length c.self.view_is)
  | in-Err w ↦ rw w.result-is (search rules)
]

pub returns-clause-ok : goal.returns-clause-ok
returns-clause-ok c =
    let entry : Entry = record { name = c.args.name.now; schema = c.args.schema; declared = c.args.declared } in
    let stream : Stream = record { name = Some c.in_ok-from_str.field-0; schema = c.args.schema; declared = c.args.declared } in
    let more : streams_of c.add.new.self ≡ c.args.self.now ++ entry ∷ [] =
    ap streams_of c.in_ok-add.ensures.ok ∙ streams_from-push 0 c.self.inside.streams stream c.args.name.now (λ k. c.in_ok-from_str.ensures.ok) ∙ ap (λ ss. ss ++ entry ∷ []) c.self.view_is in
    elim c.match-insert.branch [
      | in-Ok w ↦ rw w.result-is (w.self-is ∙ more)
      | in-Err w ↦ rw w.result-is (search rules)
    ]

pub returns-clause-there : goal.returns-clause-there
returns-clause-there c =
    let entry : Entry = record { name = c.args.name.now; schema = c.args.schema; declared = c.args.declared } in
    let stream : Stream = record { name = Some c.in_ok-from_str.field-0; schema = c.args.schema; declared = c.args.declared } in
    let more : streams_of c.add.new.self ≡ c.args.self.now ++ entry ∷ [] =
    ap streams_of c.in_ok-add.ensures.ok ∙ streams_from-push 0 c.self.inside.streams stream c.args.name.now (λ k. c.in_ok-from_str.ensures.ok) ∙ ap (λ ss. ss ++ entry ∷ []) c.self.view_is in
    elim c.match-insert.branch [
      | in-Ok w ↦ rw w.result-is (rw (w.self-is, more) (there-push c.args.self.now entry (own-from_bytes c.args.name.now c.type_inv.name)))
      | in-Err w ↦ rw w.result-is (search rules)
    ]
