use Rattle.std.proofs.Common.{rules, [], ◌∷◌, ◌++◌, ◌+◌, ◌≡◌, ◌∙◌, ap, sym, false, length, append_assoc, arith}
use Rattle.std.specs.Prelude.{Some, List, string_bytes}
use Rattle.std.proofs.lemmas.List.{length_push}
use Rattle.std.proofs.lemmas.Map.Text.{hash_map_updates_text}
use Rattle.stream_schema.specs.Streams.{Entry, hidden_entries, number_of}
use Rattle.stream_schema.specs.Table.{streams_of}
use Rattle.stream_schema.specs.declared.streams.Stream.{Stream}
use Rattle.stream_schema.proofs.HiddenLemmas.{distinct-unnamed, number_of-unnamed, streams_of-unnamed}
use Rattle.stream_schema.proofs.RetiredLemmas.{distinct-push, number_of-push}
use Rattle.stream_schema.proofs.TableLemmas.{length-streams_from, streams_from-push}
use Rattle.stream_schema.proofs.streams.Streams.publish.Goals.{in-Ok, in-Err}
use Rattle.stream_schema.proofs.streams.Streams.publish.Goals as goal

pub invariant_of-self-in-Ok : goal.invariant_of-self-in-Ok
invariant_of-self-in-Ok c =
    let streams = c.args.self.now in
    let entry : Entry = record { name = c.args.name.now; schema = c.args.schema; declared = false } in
    let stream : Stream = record { name = Some c.in_ok-from_str.field-0; schema = c.args.schema; declared = false } in
    let own : List Stream = c.self.inside.streams ++ stream ∷ [] in
    let one : streams_of own ≡ streams ++ entry ∷ [] =
    streams_from-push 0 c.self.inside.streams stream c.args.name.now (λ k. c.in_ok-from_str.ensures.ok) ∙ ap (λ ss. ss ++ entry ∷ []) c.self.view_is in
    let put = hash_map_updates_text (string_bytes c.in_ok-key.key) c.self.inside.numbers c.insert.new.self (Some c.len-number.result) c.in-Ok.ensures.updates in
    let number : c.len-number.result ≡ length streams = c.len-number.ensures ∙ sym (length-streams_from 0 c.self.inside.streams) ∙ ap length c.self.view_is in
    rw c.in_ok-put_with_hidden.ensures.ok (record {
      found = λ other is_own.
          put other
          ∙ rw (c.in_ok-key.ensures.ok, number, c.self.invariant.found other is_own, c.self.view_is) (number_of-push streams entry c.requires other)
          ∙ ap (number_of other) (sym one)
          ∙ sym (number_of-unnamed own c.args.hidden other is_own);
      distinct = distinct-unnamed own c.args.hidden (rw one (distinct-push streams entry c.requires (rw (← c.self.view_is) c.self.invariant.distinct)));
    })

pub returns-clause-number : goal.returns-clause-number
returns-clause-number c = elim c.match-insert.branch [
  | in-Ok w ↦ rw w.result-is (c.len-number.ensures ∙ sym (length-streams_from 0 c.self.inside.streams) ∙ ap length c.self.view_is)
  | in-Err w ↦ rw w.result-is (search rules)
]

pub returns-clause-ok : goal.returns-clause-ok
returns-clause-ok c =
    let streams = c.args.self.now in
    let entry : Entry = record { name = c.args.name.now; schema = c.args.schema; declared = false } in
    let stream : Stream = record { name = Some c.in_ok-from_str.field-0; schema = c.args.schema; declared = false } in
    let own : List Stream = c.self.inside.streams ++ stream ∷ [] in
    let one : streams_of own ≡ streams ++ entry ∷ [] =
    streams_from-push 0 c.self.inside.streams stream c.args.name.now (λ k. c.in_ok-from_str.ensures.ok) ∙ ap (λ ss. ss ++ entry ∷ []) c.self.view_is in
    let long : length own ≡ length streams + 1 = length_push c.self.inside.streams stream ∙ (let same = length-streams_from 0 c.self.inside.streams in let is = ap length c.self.view_is in omega (arith, same, is)) in
    let all : streams_of c.put_with_hidden.new.streams ≡ streams ++ entry ∷ hidden_entries (length streams + 1) c.args.hidden =
    ap streams_of c.in_ok-put_with_hidden.ensures.ok ∙ streams_of-unnamed own c.args.hidden ∙ (λ i. one i ++ hidden_entries (long i) c.args.hidden) ∙ append_assoc streams (entry ∷ []) (hidden_entries (length streams + 1) c.args.hidden) in
    elim c.match-insert.branch [
      | in-Ok w ↦ rw w.result-is (w.self-is ∙ all)
      | in-Err w ↦ rw w.result-is (search rules)
    ]
