use Rattle.std.proofs.Common.{arith}
use Rattle.std.proofs.lemmas.Grind.{common_steps}
use Rattle.std.proofs.Common.{map}
use Rattle.cel_grammar.specs.Views.{agg_of, item_of, pred_of, source_of}
use Rattle.cel_print.proofs.TextSources.{filter_text, select_text, union_text, next_text, fold_text}
use Rattle.cel_print.proofs.sources.+append_source.Goals as goal

pub returns-in_ok-append-in-Filter-2 : goal.returns-in_ok-append-in-Filter-2
returns-in_ok-append-in-Filter-2 t c = grind (arith, common_steps, filter_text c.args.place (pred_of c.in-Filter.condition) (source_of c.in-Filter.inner.value))

pub returns-in_ok-append_source-in-Select : goal.returns-in_ok-append_source-in-Select
returns-in_ok-append_source-in-Select t c = grind (arith, common_steps, select_text c.args.place (map item_of c.in-Select.items) (source_of c.in-Select.inner.value))

pub returns-in_ok-append_source-in-Union-2 : goal.returns-in_ok-append_source-in-Union-2
returns-in_ok-append_source-in-Union-2 t c = grind (arith, common_steps, union_text c.args.place (source_of c.in-Union.left.value) (source_of c.in-Union.right.value))

pub returns-in_ok-append_source-in-Next-2 : goal.returns-in_ok-append_source-in-Next-2
returns-in_ok-append_source-in-Next-2 t c = grind (arith, common_steps, next_text c.args.place (pred_of c.in-Next.condition) (source_of c.in-Next.left.value) (source_of c.in-Next.right.value))

pub returns-in_ok-append_source-in-Fold-2 : goal.returns-in_ok-append_source-in-Fold-2
returns-in_ok-append_source-in-Fold-2 t c = grind (arith, common_steps, fold_text c.args.place (pred_of c.in-Fold.choose) (pred_of c.in-Fold.on) (map agg_of c.in-Fold.aggs) (source_of c.in-Fold.left.value) (source_of c.in-Fold.right.value))
