use Rattle.std.proofs.Common.{Result, Ok, Err}
use Rattle.std.specs.Prelude.{OnOk}
use Rattle.oss_run_tests.proofs.core_tests.make.Goals as goal

on_ok : {A E P Q : Type 0} (r : Result A E) → (P → Q) → OnOk r P → OnOk r Q
on_ok (Ok x) f p = f p
on_ok (Err e) f p = tt

pub returns : goal.returns
returns g c =
    let run = c.requires in
    on_ok c.apply.result (λ made. let n = made run.main run.first run.state run.core in record { main = run.main; first = run.first; state = n.0; core = n.2 }) c.apply.ensures.ok
