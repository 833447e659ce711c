use Rattle.oss_core.proofs.CallLemmas.{if_ok}
use Rattle.oss_run_tests.proofs.core_tests.anew.Goals as goal

pub returns : goal.returns
returns g c =
    let run = c.requires.core in
    if_ok c.together.result (λ core stands. record {
      main = run.main;
      first = run.first;
      state = run.state;
      core = stands c.args.code.now run.main run.first run.state (c.apart-parts.ensures.parts c.args.code.now run.main run.first run.state run.core);
    }) c.together.ensures.core
