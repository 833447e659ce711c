use Rattle.std.proofs.Common.{◌≡◌, ◌<◌, ◌+◌, suc, ◌∙◌, sym, subst, arith, ℕ, List}
use Rattle.oss_tree.specs.Tasks.{HasPoint}
use Rattle.oss_core.specs.Cores.{kept_of}
use Rattle.oss_replay.specs.Making.{MakesParts}
use Rattle.oss_replay.specs.Replays.{parts_in}
use Rattle.oss_replay.proofs.MakingLemmas.{no_parts, more_parts, all_parts, part_runs, refuses_absent, refuses_move}
use Rattle.oss_replay.proofs.making.make.Goals as goal

pub returns-in-None-clause-refused : goal.returns-in-None-clause-refused
returns-in-None-clause-refused g c = λ e.
    refuses_absent c.args.code.now (kept_of g.D.Deps.seen c.args.core.now) c.args.what.now
    (λ t h. c.in-None.ensures t (subst (λ (p : List ℕ). HasPoint c.args.core.now.tree.tasks t p) (sym (c.as_slice.ensures.numbers ∙ c.point_of.ensures)) h))

pub parts-init : goal.parts-init
parts-init g c = (
  c.requires,
  no_parts c.args.code.now (kept_of g.D.Deps.seen c.args.core.now) c.args.what.now c.in-Some.field-0.0
      (subst (λ (p : List ℕ). HasPoint c.args.core.now.tree.tasks c.in-Some.field-0.0 p) (c.as_slice.ensures.numbers ∙ c.point_of.ensures) c.in-Some.ensures),
)

pub returns-then-not-branch-clause-refused : goal.returns-then-not-branch-clause-refused
returns-then-not-branch-clause-refused g c = λ e.
    let l : c.parts.k < parts_in c.args.what.now = omega arith in
    refuses_move c.args.code.now (kept_of g.D.Deps.seen c.args.core.now) (kept_of g.D.Deps.seen c.parts.core) c.args.what.now c.parts.k l c.parts.invariant.1
    (c.in_ok-make_part.ensures.refused c.if-not-branch.true)

pub parts-preserved : goal.parts-preserved
parts-preserved g c =
    let made = c.in_ok-make_part.ensures.made c.if-not-branch.false in
    let e : suc c.parts.k ≡ c.parts.k + 1 = omega arith in (
      part_runs c.args.code.now (kept_of g.D.Deps.seen c.parts.core) (kept_of g.D.Deps.seen c.make_part.new.core) c.args.what.now c.parts.k c.parts.invariant.0 made,
      subst (λ (k : ℕ). MakesParts c.args.code.now (kept_of g.D.Deps.seen c.args.core.now) (kept_of g.D.Deps.seen c.make_part.new.core) c.args.what.now k) e
          (more_parts c.args.code.now (kept_of g.D.Deps.seen c.args.core.now) (kept_of g.D.Deps.seen c.parts.core) (kept_of g.D.Deps.seen c.make_part.new.core) c.args.what.now c.parts.k c.parts.invariant.1 made),
    )

pub returns-clause-made : goal.returns-clause-made
returns-clause-made g c = λ e.
    let l : c.parts.k ≡ parts_in c.args.what.now = omega arith in
    all_parts c.args.code.now (kept_of g.D.Deps.seen c.args.core.now) (kept_of g.D.Deps.seen c.parts.core) c.args.what.now
    (subst (λ (k : ℕ). MakesParts c.args.code.now (kept_of g.D.Deps.seen c.args.core.now) (kept_of g.D.Deps.seen c.parts.core) c.args.what.now k) l c.parts.invariant.1)
