use Rattle.std.proofs.Common.{refl}
use Rattle.oss_body.specs.Mains.{code_main}
use Rattle.oss_model.specs.Moves.{opening}
use Rattle.oss_held.proofs.NeedLemmas.{begins}
use Rattle.oss_held.proofs.held.Held.opening.Goals as goal

pub invariant_of-result : goal.invariant_of-result
invariant_of-result c = record {
  code = c.args.code.now;
  fuel = c.args.fuel;
  state = opening (code_main c.args.code.now c.args.fuel) c.args.code.now.first;
  is = begins c.args.code.now c.args.fuel _ c.in_ok-core.ensures refl;
}

pub returns : goal.returns
returns c = begins c.args.code.now c.args.fuel _ c.in_ok-core.ensures refl
