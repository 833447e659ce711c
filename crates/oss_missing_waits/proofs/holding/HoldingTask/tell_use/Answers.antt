use Rattle.std.proofs.Common.{◌≡◌, ◌∙◌, sym, refl, true, false}
use Rattle.oss_missing_waits.specs.Kept.{has_line}
use Rattle.oss_missing_waits.proofs.ToldLemmas.{use_known, use_none, use_told}
use Rattle.oss_missing_waits.proofs.holding.HoldingTask.tell_use.Goals as goal

pub returns-in-None : goal.returns-in-None
returns-in-None c = use_none c.args.layout.now c.args.used.now c.args.line c.args.self.now c.in-None.ensures

pub returns-then-known : goal.returns-then-known
returns-then-known c =
    let e : has_line c.args.self.now.uses c.args.line ≡ true = sym c.contains-known.ensures ∙ c.if-known.true in
    use_known c.args.layout.now c.args.used.now c.args.line c.args.self.now e

pub returns-in_ok-insert-in-Some : goal.returns-in_ok-insert-in-Some
returns-in_ok-insert-in-Some c =
    let old = c.args.self.now in
    let e : has_line old.uses c.args.line ≡ false = sym c.contains-known.ensures ∙ c.if-known.false in
    use_told c.args.layout.now c.args.used.now c.args.line c.in-Some._cell c.in_ok-cells-in-Some.cells old (record old { told = c.push.new.self; uses = c.insert.new.self }) c.in-Some.ensures e c.in_ok-cells-in-Some.ensures refl refl
    c.in_ok-push-in-Some.ensures.ok refl c.in_ok-insert-in-Some.ensures.updates.0
