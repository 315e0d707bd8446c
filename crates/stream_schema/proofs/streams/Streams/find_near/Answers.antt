use Rattle.std.proofs.Common.{◌≡◌, ◌∙◌, Some, sym}
use Rattle.std.proofs.lemmas.Slice.Eq.{bytes_eq-Decides}
use Rattle.stream_schema.specs.Streams.{Entry, number_of}
use Rattle.stream_schema.proofs.NameLemmas.{absent-from_none, named-at, none-from_absent, within-at}
use Rattle.stream_schema.proofs.streams.Streams.find_near.Goals as goal

pub returns-then-eq : goal.returns-then-eq
returns-then-eq c =
    let name = c.args.name.now in
    let streams = c.args.self.now in
    let same : c.in-Some.known.now ≡ name = (bytes_eq-Decides c.in-Some.known.now name).0 (sym c.eq.ensures ∙ c.if-eq.true) in
    let value : Some c.args.near ≡ number_of name streams = sym (rw same at c.in-Some.ensures.number) in
    record {
      value = value;
      found = named-at (λ (s : Entry). s.name) name streams (Some c.args.near) value;
      within = within-at (λ (s : Entry). s.name) name streams (Some c.args.near) value;
      absent = (
        λ none. absent-from_none (λ (s : Entry). s.name) name streams (sym value ∙ none),
        λ absent. value ∙ none-from_absent (λ (s : Entry). s.name) name streams absent,
      );
      distinct = c.in-Some.ensures.distinct;
    }
