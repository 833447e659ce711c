use Rattle.std.proofs.Common.{◌∙◌, ◌+◌, List, refl, sym, ap, subst, false}
use Rattle.oss_syntax.specs.declared.access.Access.{Access}
use Rattle.oss_model.specs.Rights.{right_from}
use Rattle.oss_task_edges.specs.declared.siblings.Siblings.{Siblings}
use Rattle.oss_task_edges.specs.Kept.{Keeps}
use Rattle.oss_graph.specs.Finding.{IsEmpty}
use Rattle.oss_graph.proofs.FollowLemmas.{on_ok}
use Rattle.oss_graph.proofs.found.Found.go_down.Goals as goal

pub returns : goal.returns
returns c =
    on_ok c.push-2.result
    (λ above. record {
      layout = refl;
      node = record { task = c.in_ok-task.task; line = c.args.coming.line; entry = c.args.coming.entry; edges = c.in_ok-edges.edges };
      nodes = c.in_ok-push.ensures.ok;
      point = λ code start found h. c.in_ok-task.ensures ∙ c.point.ensures code start found h;
      line = refl;
      entry = refl;
      creator = c.replace-creator.result;
      above = above;
      top = subst (λ (s : Siblings). IsEmpty s) (sym c.replace-creator.ensures.after) c.new.ensures;
      keeps = λ a k code start found h e. subst (λ (s : Siblings). Keeps a (c.args.coming.number + 1) s) (sym c.replace-creator.ensures.value)
          (c.in_ok-edges.ensures.keeps a k (λ x. ap (λ (xs : List Access). right_from false xs x) c.as_slice.ensures ∙ c.in_ok-accesses.ensures.rights code start found h x ∙ sym (e x)));
      edges = λ all l a k code start found h e.
          c.in_ok-edges.ensures.edges all l a k (λ x. ap (λ (xs : List Access). right_from false xs x) c.as_slice.ensures ∙ c.in_ok-accesses.ensures.rights code start found h x ∙ sym (e x));
    })
    c.push-2.ensures.ok
