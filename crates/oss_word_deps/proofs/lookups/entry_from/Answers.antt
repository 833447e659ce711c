use Rattle.std.proofs.Common.{ℕ, ◌+◌, ◌-◌, ◌/◌, ◌<◌, ◌≤◌, arith}
use Rattle.oss_word_deps.proofs.LookupLemmas.{greater_behind, lesser_before}
use Rattle.oss_word_deps.proofs.lookups.entry_from.Goals as goal

pub halves-preserved-then-entries-middle : goal.halves-preserved-then-entries-middle
halves-preserved-then-entries-middle c =
    let i = c.halves.invariant in
    let m : ℕ = c.halves.lo + (c.halves.hi - c.halves.lo) / 2 in
    let low : c.halves.lo ≤ m = omega (arith, c.halves-test.true) in
    let high : m < c.halves.hi = omega (arith, c.halves-test.true) in
    record {
      from = omega (arith, i.from, low);
      order = omega (arith, high);
      upto = i.upto;
      before = lesser_before c.args.entries.now c.args.job c.requires m c.args.cell _ (omega (arith, i.from, low)) (omega (arith, i.upto, high)) c.if-entries-middle.true;
      behind = i.behind;
    }

pub halves-preserved : goal.halves-preserved
halves-preserved c =
    let i = c.halves.invariant in
    let m : ℕ = c.halves.lo + (c.halves.hi - c.halves.lo) / 2 in
    let low : c.halves.lo ≤ m = omega (arith, c.halves-test.true) in
    let high : m < c.halves.hi = omega (arith, c.halves-test.true) in
    record {
      from = i.from;
      order = low;
      upto = omega (arith, i.upto, high);
      before = i.before;
      behind = greater_behind c.args.entries.now c.args.job c.requires m c.args.cell _ (omega (arith, i.from, low)) (omega (arith, i.upto, high)) c.if-entries-middle.false;
    }
