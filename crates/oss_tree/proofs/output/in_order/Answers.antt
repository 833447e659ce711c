use Rattle.std.proofs.Common.{◌≡◌, ◌++◌, rules, ◌∙◌, ap, map, take, List, Bor}
use Rattle.std.proofs.lemmas.List.{take_all}
use Rattle.std.proofs.lemmas.List.Sorted.{answers_always}
use Rattle.oss_tree.specs.declared.output.Print.{Print}
use Rattle.oss_tree.specs.Output.{texts}
use Rattle.oss_tree.proofs.OutputLemmas.{earlier, in_point_order, ranks, texts_more}
use Rattle.oss_tree.proofs.output.in_order.Goals as goal

pub loop-print-preserved : goal.loop-print-preserved
loop-print-preserved c =
    let added : c.extend.new.self ≡ c.loop-print.texts ++ c.print-item.result.now.text = search rules in
    added ∙ texts_more (λ r. r.now) c.deref-print-items.result.now c.loop-print.print-index c.print-item.result c.loop-print.texts c.loop-print-test.true c.print-item.is c.loop-print.invariant

pub returns : goal.returns
returns c =
    let shown = c.sort_by.new.self.items in
    let sorted = c.in_ok-sort_by.ensures.sorted (earlier (λ r. r.now)) (ranks (λ r. r.now)) (answers_always _ _ _ (λ f a r g h. search rules)) in
    let stable = c.sort_by.ensures.stable (earlier (λ r. r.now)) (ranks (λ r. r.now)) (answers_always _ _ _ (λ f a r g h. search rules)) in
    let whole : take c.loop-print.print-index c.deref-print-items.result.now ≡ shown = take_all c.loop-print.print-index c.deref-print-items.result.now c.loop-print-test.false ∙ c.deref-print-items.ensures.value in
    record {
      shown = map (λ (r : Bor Print). r.now) shown;
      ordered = in_point_order (λ r. r.now) c.args.shown.items shown sorted stable;
      output_is = c.loop-print.invariant ∙ ap (λ (xs : List (Bor Print)). texts (map (λ (r : Bor Print). r.now) xs)) whole;
    }
