use Rattle.std.proofs.Common.{◌≡◌, ◌∙◌, sym}
use Rattle.std.proofs.lemmas.Map.Made.{AllPairs-from_IsDistinct}
use Rattle.std.proofs.lemmas.Slice.Eq.{bytes_eq-Decides}
use Rattle.stream_schema.specs.Streams.{Entry, number_of}
use Rattle.stream_schema.proofs.NameLemmas.{absent-from_none, named-at, none-from_absent, within-at}
use Rattle.stream_schema.proofs.TextLemmas.{own-from_bytes}
use Rattle.stream_schema.proofs.streams.Streams.find.Goals as goal

pub returns : goal.returns
returns c =
    let name = c.args.name.now in
    let streams = c.args.self.now in
    let value : c.copied.result ≡ number_of name streams = c.copied.ensures ∙ c.get.ensures.value ∙ rw (← c.self.view_is) (c.self.invariant.found name (own-from_bytes name c.type_inv.name)) in
    record {
      value = value;
      found = named-at (λ (s : Entry). s.name) name streams c.copied.result value;
      within = within-at (λ (s : Entry). s.name) name streams c.copied.result value;
      absent = (
        λ none. absent-from_none (λ (s : Entry). s.name) name streams (sym value ∙ none),
        λ absent. value ∙ none-from_absent (λ (s : Entry). s.name) name streams absent,
      );
      distinct = rw (← c.self.view_is) (AllPairs-from_IsDistinct bytes_eq-Decides _ c.self.invariant.distinct);
    }
