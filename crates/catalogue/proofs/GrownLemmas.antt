-- Layouts that grew by the streams of a query.
use Rattle.std.proofs.Common.{◌≡◌, ◌∙◌, ◌≤◌, ◌++◌, ◌∷◌, [], List, length, take, drop, refl, sym, ap, arith}
use Rattle.std.proofs.Math.Seq.{take-append_seam}
use Rattle.std.proofs.lemmas.List.{length-append, take-append-drop}
use Rattle.semantics.specs.Expressions.{Ex}
use Rattle.automaton.specs.declared.layout.Layout.{Layout}
use Rattle.automaton.specs.declared.line.Line.{Line}
use Rattle.automaton.specs.Layouts.{cut_back, growth_behind, grown, sizes_of}
use Rattle.splitter.proofs.GrowLemmas.{IsLonger, longer, longer_take, longer_twice}
use Rattle.stream_schema.specs.Schema.{Attr, kinds_of}
use Rattle.catalogue.specs.Fitting.{IsGrown}

module _ (layout : Layout) (schema : List Attr) (e : Ex) (lines : List Line) (new : Layout) (grows : IsGrown layout schema e lines new) where
  longer_kinds : IsLonger layout.kinds new.kinds
  longer_kinds =
      longer_twice layout.kinds (layout.kinds ++ kinds_of schema ∷ []) new.kinds (record { more = kinds_of schema ∷ []; is = refl }) (longer (layout.kinds ++ kinds_of schema ∷ []) lines new.kinds grows.kinds)

  pub kinds_more : length layout.kinds ≤ length new.kinds
  kinds_more = omega (arith, ap length longer_kinds.is, length-append layout.kinds longer_kinds.more)

  -- without what came it is what it was
  pub grown_back : cut_back new (sizes_of layout) ≡ layout
  grown_back =
      λ i. record {
        order = (ap (take (length layout.order)) grows.order ∙ take-append_seam layout.order _) i;
        outs = (ap (take (length layout.outs)) grows.outs ∙ take-append_seam layout.outs _) i;
        kinds = longer_take layout.kinds new.kinds longer_kinds i;
      }

  -- and with it what it is now
  pub grown_again : grown layout (growth_behind new (sizes_of layout)) ≡ new
  grown_again =
      (λ i. record {
        order = (sym grown_back i).order ++ drop (length layout.order) new.order;
        outs = (sym grown_back i).outs ++ drop (length layout.outs) new.outs;
        kinds = (sym grown_back i).kinds ++ drop (length layout.kinds) new.kinds;
      })
      ∙ (λ i. record {
        order = take-append-drop (length layout.order) new.order i;
        outs = take-append-drop (length layout.outs) new.outs i;
        kinds = take-append-drop (length layout.kinds) new.kinds i;
      })
