use Rattle.std.proofs.Common.{subst, ◌∙◌}
use Rattle.oss_machine.specs.Frames.{CodeScript}
use Rattle.oss_model.proofs.Exclusive.{every_main_is_a_setting}
use Rattle.oss_model.specs.Agreement.{AreWords}
use Rattle.oss_body.specs.Mains.{main_order}
use Rattle.oss_body.proofs.mains.main_is_set.Goals as goal

pub returns : goal.returns
returns c = every_main_is_a_setting CodeScript main_order c.args.code.now.first c.args.fuel (subst AreWords (c.as_slice.ensures ∙ c.first.ensures) c.are_words.ensures)
