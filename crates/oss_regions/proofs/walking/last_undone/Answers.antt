use Rattle.std.proofs.Common.{sym, ap, subst, ◌∙◌, arith}
use Rattle.oss_access_lists.specs.declared.hang.Hang.{Hang}
use Rattle.oss_access_lists.specs.Flags.{is_over}
use Rattle.oss_regions.specs.Walks.{IsWalkingIn}
use Rattle.oss_regions.proofs.WalkLemmas.{in_not_main, walks_in}
use Rattle.oss_regions.proofs.walking.last_undone.Goals as goal

pub back-preserved : goal.back-preserved
back-preserved c =
    subst (λ (h : Hang). IsWalkingIn c.args.line.now.hangs c.args.line.now.stand c.args.above h.before) (sym c.hang-here.ensures)
    (walks_in c.args.line.now.hangs c.args.line.now.stand (c.is_settled-settled.ensures.rest c.requires.settled) c.is_settled-settled.ensures.listed c.args.above c.back.here c.back.invariant
    (sym (ap is_over c.flags.ensures.stand) ∙ (sym c.is_over.ensures ∙ c.if-not-is_over.false))).0

pub unreachable-requires : goal.unreachable-requires
unreachable-requires c =
    in_not_main c.args.line.now.hangs c.args.line.now.stand (c.is_settled-settled.ensures.rest c.requires.settled) c.is_settled-settled.ensures.listed c.args.above c.back.here c.back.invariant (omega (arith, c.back-test.false))
