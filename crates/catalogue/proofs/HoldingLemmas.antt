-- A catalogue that was loaded holds what its text was judged to be.
use Rattle.std.proofs.Common.{◌≡◌, ◌∙◌, ℕ, ◌+◌, ◌-◌, List, [], ◌∷◌, ◌++◌, length, take, ap, sym, subst, append_assoc, length-append, arith}
use Rattle.std.proofs.Math.Seq.{take-append_seam}
use Rattle.semantics.specs.Programs.{Query}
use Rattle.splitter.specs.Chains.{end_of}
use Rattle.stream_schema.specs.Streams.{Entry, hidden_entries}
use Rattle.cel_grammar.specs.Trees.{Statement}
use Rattle.catalogue.specs.Catalogued.{Catalogued}
use Rattle.catalogue.specs.Holding.{LoadedAreAccepted, judged_in}
use Rattle.catalogue.specs.Judgement.{Accepts, Judged, program_of}
use Rattle.catalogue.specs.Loaded.{HoldsJudged, IsLoadedFrom}
use Rattle.catalogue.specs.Typing.{Publish, next, none, published_by}
use Rattle.catalogue.proofs.TurnLemmas.{stands_behind}

-- each query publishes one stream, by induction on the queries
streams_count : {queries : List Statement} {streams all : List Entry} {hidden : ℕ} {order : List ℕ} {done : List Query} → Publish queries streams hidden order all done → length all ≡ length streams + length order
streams_count none = omega arith
streams_count (next {streams = streams} {s = s} schema x there typed rest) = let more = streams_count rest in let one = length-append streams (published_by s schema ∷ []) in omega (arith, more, one)

module _ (text : List ℕ) (judged : Judged) (c : Catalogued) (accepts : Accepts text judged) (holds : HoldsJudged judged c) where
  abbrev hidden : List Entry
  hidden = hidden_entries (length judged.streams) (end_of (program_of judged) - length judged.streams)

  declared_count : c.declared ≡ length judged.declared
  declared_count = ap (λ p. p.declared) holds.program

  declared_is : take c.declared c.streams ≡ judged.declared
  declared_is =
      let behind = stands_behind accepts.publishes in
      let all : c.streams ≡ judged.declared ++ (behind.more ++ hidden) = holds.streams ∙ ap (λ streams. streams ++ hidden) behind.all_are ∙ append_assoc judged.declared behind.more hidden in
      (λ i. take (declared_count i) (all i)) ∙ take-append_seam judged.declared (behind.more ++ hidden)

  streams_are : take (c.declared + length c.order) c.streams ≡ judged.streams
  streams_are =
      let long : c.declared + length c.order ≡ length judged.streams = (λ i. declared_count i + length (holds.order i)) ∙ sym (streams_count accepts.publishes) in
      (λ i. take (long i) (holds.streams i)) ∙ take-append_seam judged.streams hidden

  -- what it holds is what the text was judged to be
  pub judged_in_is : judged_in c ≡ judged
  judged_in_is i = record {
    statements = holds.statements i;
    lines = holds.lines i;
    declared = declared_is i;
    streams = streams_are i;
    order = holds.order i;
    published = (holds.program i).order;
  }

-- so the text is accepted as that
pub loaded_are_accepted : LoadedAreAccepted
loaded_are_accepted text c loaded = subst (Accepts text) (sym (judged_in_is text loaded.judged c loaded.accepts loaded.holds)) loaded.accepts

-- and that is held
pub loaded_holds : (text : List ℕ) (c : Catalogued) → IsLoadedFrom text c → HoldsJudged (judged_in c) c
loaded_holds text c loaded = subst (λ (judged : Judged). HoldsJudged judged c) (sym (judged_in_is text loaded.judged c loaded.accepts loaded.holds)) loaded.holds
