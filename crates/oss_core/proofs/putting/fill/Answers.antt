use Rattle.std.proofs.Common.{◌≡◌, ℕ, Some, arith, subst}
use Rattle.oss_core.specs.Putting.{IsRunPut}
use Rattle.oss_core.proofs.WriteLemmas.{more_put, none_put}
use Rattle.oss_core.proofs.putting.fill.Goals as goal

pub loop-cell-init : goal.loop-cell-init
loop-cell-init c = record { put = none_put c.args.from (Some c.args.value) c.args.cells.now; from = omega arith }

pub loop-cell-preserved : goal.loop-cell-preserved
loop-cell-preserved c =
    let le = c.loop-cell.invariant.from in
    record { put = more_put c.args.from c.loop-cell.cell c.args.value c.args.cells.now c.loop-cell.cells c.set.new.cells le c.loop-cell.invariant.put c.set.ensures; from = omega (arith, le) }

pub returns : goal.returns
returns c =
    let last : c.loop-cell.cell ≡ c.args.to = omega arith in
    subst (λ (n : ℕ). IsRunPut c.args.from n (Some c.args.value) c.args.cells.now c.loop-cell.cells) last c.loop-cell.invariant.put
