use Rattle.std.proofs.Common.{◌≡◌, ℕ, List, sym, subst, ◌∙◌}
use Rattle.oss_model.specs.declared.answer.Answer.TheVariants as answers
use Rattle.oss_core.specs.Cores.{kept_of}
use Rattle.oss_core.specs.Stops.{IsAnswerOf, done}
use Rattle.oss_core.proofs.machine.Core.done_answer.Goals as goal

pub returns : goal.returns
returns g c =
    let cells : c.from_vec.result ≡ c.args.self.now.cells.items = c.from_vec.ensures ∙ c.in_ok-cells.ensures.items ∙ c.as_slice.ensures.value in
    subst (λ (xs : List ℕ). IsAnswerOf (kept_of g.D.Deps.seen c.args.self.now) (answers.Done c.in_ok-output.output xs)) (sym cells) (done c.requires c.in_ok-output.ensures)
