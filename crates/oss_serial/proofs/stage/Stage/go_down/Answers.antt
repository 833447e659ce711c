use Rattle.std.proofs.Common.{◌∷◌, [], refl, sym, subst}
use Rattle.oss_model.specs.Bodies.{child_start, stack_from}
use Rattle.oss_machine.specs.Machines.{asks}
use Rattle.oss_body.specs.Acts.{act_seen, answer_to}
use Rattle.oss_body.specs.Relation.{IsBody, pending_of}
use Rattle.oss_serial.proofs.stage.Stage.go_down.Goals as goal

pub returns : goal.returns
returns c = λ start found is.
    record {
      creator = c.replace-creator.result;
      is_creator = subst (λ k. IsBody c.args.code.now start (answer_to (act_seen (pending_of c.args.self.now.current)) 0 ∷ found) k) (sym c.replace-creator.ensures.value) (c.in_ok-advance.ensures.ok start found is);
      is_child = λ o e. subst (λ k. IsBody c.args.code.now (child_start (stack_from (asks c.args.code.now) start found).base o) [] k) (sym c.replace-creator.ensures.after) (c.in_ok-child.ensures start found o is e);
      above = c.in_ok-push.ensures.ok;
      cells = refl;
      output = refl;
      tasks = c.saturating_add-self.ensures;
    }
