use Rattle.std.proofs.Common.{sym, ◌∙◌, ap, map, Bor, Vec, Global}
use Rattle.oss_tree.specs.declared.output.Print.{Print}
use Rattle.oss_tree.specs.Output.{is_up_to}
use Rattle.oss_tree.proofs.OutputLemmas.{kept_more, left_out, lent_more}
use Rattle.oss_tree.proofs.output.output_before.Goals as goal
use Rattle.oss_tree.proofs.output.output_before.Goals.{then-is_up_to+in_ok-push, else-is_up_to}

pub loop-print-preserved : goal.loop-print-preserved
loop-print-preserved c =
    let test = is_up_to c.args.last.now in
    let prints = c.args.prints.now in
    let old = map (λ (r : Bor Print). r.now) c.loop-print.shown.items in
    let seen = λ (v : Vec (Bor Print) Global). map (λ (r : Bor Print). r.now) v.items in
    elim c.if-is_up_to.branch [
      | then-is_up_to+in_ok-push w ↦
          ap seen w.shown-is ∙ lent_more (λ (r : Bor Print). r.now) w.push.new.self.items c.loop-print.shown.items _ w.in_ok-push.ensures.items
          ∙ kept_more test prints old c.loop-print.print-index c.print-item.result c.loop-print-test.true c.print-item.is c.loop-print.invariant (sym c.is_up_to.ensures ∙ w.if-is_up_to.true)
      | else-is_up_to w ↦ ap seen w.shown-is ∙ left_out test prints old c.loop-print.print-index c.print-item.result c.loop-print-test.true c.print-item.is c.loop-print.invariant (sym c.is_up_to.ensures ∙ w.if-is_up_to.false)
    ]
