use Rattle.std.proofs.Common.{◌≡◌, ◌∷◌, [], List, ap, ◌∙◌, take}
use Rattle.std.specs.Prelude.{slice_index_or}
use Rattle.oss_machine.specs.declared.activation.Activation.{Activation}
use Rattle.oss_machine.specs.Activations.{base_in, frame_on, no_base}
use Rattle.oss_machine.specs.Runs.{stacked}
use Rattle.oss_machine.proofs.CommitLemmas.{popped_rest}
use Rattle.oss_machine.proofs.running.commit.settle_lowest.Goals as goal

pub returns-in-Some-clause-callers : goal.returns-in-Some-clause-callers
returns-in-Some-clause-callers c =
    let old = c.args.still.now in
    let lowest = frame_on (base_in (slice_index_or old.callers.items c.args.live old.top).gathered) c.args.moved.now in
    let below = stacked no_base (take c.args.live old.callers.items) [] in
    let all : stacked no_base c.truncate.new.self.items [] ≡ lowest ∷ below =
    ap (λ (xs : List Activation). stacked no_base xs []) c.truncate.ensures.items ∙ c.in_ok-replace_caller.ensures.ok old.top in
    popped_rest c.truncate.new.self.items c.pop.new.self.items c.in-Some.base lowest below c.in-Some.ensures.items all
