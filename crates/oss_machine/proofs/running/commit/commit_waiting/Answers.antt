use Rattle.std.proofs.Common.{◌≡◌, ◌∙◌, [], List, ap, take}
use Rattle.std.specs.Prelude.{slice_index_or}
use Rattle.oss_machine.specs.declared.activation.Activation.{Activation}
use Rattle.oss_machine.specs.declared.running.body.Still.{Still}
use Rattle.oss_machine.specs.Activations.{base_in, no_base}
use Rattle.oss_machine.specs.Runs.{base_at, below_live, stacked}
use Rattle.oss_machine.proofs.CommitLemmas.{kept_config, raised_config}
use Rattle.oss_machine.proofs.running.commit.commit_waiting.Goals as goal

-- the room that was taken changes nothing of what stood
pub returns-clause-ok : goal.returns-clause-ok
returns-clause-ok c =
    let still = c.args.still.now in
    let run = c.args.run.now in
    let roomy : Still = record { callers = c.reserve.new.self; top = still.top } in
    let base : base_at roomy run.live ≡ base_at still run.live = ap (λ (xs : List Activation). base_in (slice_index_or xs run.live still.top).gathered) c.reserve.ensures.items in
    let below : below_live roomy run.live ≡ below_live still run.live = ap (λ (xs : List Activation). stacked no_base (take run.live xs) []) c.reserve.ensures.items in
    let first = c.in_ok-spare.ensures in
    raised_config roomy c.settle_first.new.still c.raise.new.still run c.settle_first.new.waiting.items c.requires.some first.frame first.callers first.rest c.raise.ensures.frame c.raise.ensures.callers
    ∙ kept_config still roomy run base below
