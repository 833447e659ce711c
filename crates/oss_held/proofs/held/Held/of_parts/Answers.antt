use Rattle.oss_body.specs.Mains.{code_main}
use Rattle.oss_held.proofs.held.Held.of_parts.Goals as goal

pub invariant_of-result : goal.invariant_of-result
invariant_of-result c =
    let run = c.requires.run in
    record {
      code = run.code;
      fuel = run.fuel;
      state = run.state;
      is = record { core = c.in_ok-core.ensures.core run.code (code_main run.code run.fuel) run.code.first run.state run.are; needed = run.needed };
    }
