use Rattle.std.proofs.Common.{◌≡◌, ◌∙◌, sym, refl, true, false}
use Rattle.oss_missing_waits.specs.Kept.{has_line, touch_of}
use Rattle.oss_missing_waits.proofs.ToldLemmas.{wait_known, wait_told}
use Rattle.oss_missing_waits.proofs.holding.HoldingTask.tell_wait.Goals as goal

pub returns-then-known : goal.returns-then-known
returns-then-known c =
    let e : has_line c.args.self.now.waits c.args.line ≡ true = sym c.contains-known.ensures ∙ c.if-known.true in
    wait_known (touch_of c.args.touch) c.args.cell c.args.line c.args.child c.args.self.now e

pub returns : goal.returns
returns c =
    let old = c.args.self.now in
    let e : has_line old.waits c.args.line ≡ false = sym c.contains-known.ensures ∙ c.if-known.false in
    wait_told c.args.touch c.args.cell c.args.line c.args.child old (record old { told = c.push.new.self; waits = c.insert.new.self }) c.word_of_clause-word.result e c.word_of_clause-word.ensures refl refl
    c.in_ok-push.ensures.ok c.in_ok-insert.ensures.updates.0 refl
