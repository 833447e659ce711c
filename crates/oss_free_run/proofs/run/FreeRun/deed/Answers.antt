use Rattle.std.proofs.Common.{ap, ◌∙◌, ℕ, List, length}
use Rattle.oss_free_run.proofs.TurnLemmas.{deed_from}
use Rattle.oss_free_run.proofs.run.FreeRun.deed.Goals as goal

pub returns-clause-deed : goal.returns-clause-deed
returns-clause-deed c = λ fuel s.
    deed_from c.args.code.now fuel c.args.self.now s c.deed.result _ _ _ (ap (λ (xs : List ℕ). length xs) (c.as_slice-2.ensures ∙ c.first.ensures)) c.len.ensures c.as_slice.ensures.value c.deed.ensures.deed
