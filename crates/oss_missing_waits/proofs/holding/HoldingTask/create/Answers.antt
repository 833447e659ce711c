use Rattle.std.proofs.Common.{ℕ, Bool, subst}
use Rattle.std.specs.Prelude.{is_some}
use Rattle.oss_ranges.specs.Cells.{value_at}
use Rattle.oss_missing_waits.specs.Holding.{lent_when}
use Rattle.oss_lent_cells.specs.Lent.{all_counted}
use Rattle.oss_missing_waits.specs.Holding.{IsUse}
use Rattle.oss_missing_waits.specs.Kept.{Leads}
use Rattle.oss_missing_waits.proofs.ToldLemmas.{all_some, use_after}
use Rattle.oss_missing_waits.proofs.holding.HoldingTask.create.Goals as goal

pub returns : goal.returns
returns c =
    let k = c.args.child in
    let said : ℕ → _ = value_at c.args.clauses.now.pieces in
    use_after c.args.layout.now (λ d. is_some (all_counted k.is_final said d)) k.line (lent_when c.args.lends k.number k.line (all_counted k.is_final said)) c.args.self.now c.use_map.new.self c.lend.new.self
    (subst (λ (test : ℕ → Bool). Leads c.args.layout.now (IsUse test k.line) c.args.self.now c.use_map.new.self) (all_some k.is_final said) c.in_ok-use_map.ensures) c.in_ok-lend.ensures
