-- The answer of each state in which no move is left is that of the sequential run, and so is the reply.
use Rattle.std.proofs.Common.{◌∙◌, ℕ, List, sym, ap}
use Rattle.oss_grammar.specs.TaskLoops.{program_written}
use Rattle.oss_model.specs.Agreement.{AgreesWithRun, Setting}
use Rattle.oss_model.specs.Answers.{IsResult}
use Rattle.oss_model.specs.Answers.IsResult.{ends as result_ends, fails as result_fails}
use Rattle.oss_model.specs.Bodies.{Program as Asks, Start}
use Rattle.oss_model.specs.Machine.{State}
use Rattle.oss_model.specs.Moves.{Reached}
use Rattle.oss_model.proofs.AgreementTheorem.{every_state_agrees}
use Rattle.oss_model.proofs.ResultTheorem.{every_answer_is_the_result, every_result_is_the_answer}
use Rattle.oss_meaning.specs.Expressions.{TreeScript}
use Rattle.oss_meaning.specs.Meaning.{asks_of}
use Rattle.oss_meaning.specs.Results.{IsOutcome, Outcome, first_cells, main_of}
use Rattle.oss_meaning.specs.Results.IsOutcome.{ends, fails}
use Rattle.oss_lower_laws.proofs.TextPlaces.{accepted_setting}
use Rattle.oss_top.specs.EveryOrder.{IsRunInEveryOrder}
use Rattle.oss_top.specs.Forms.{run_reply}

-- the answer of an outcome is the result of the run
result-of : {S : Type 0} (P : Asks S) (main : Start S) (cells : List ℕ) (o : Outcome) → IsOutcome P main cells o → IsResult P main cells o.answer
result-of P main cells o (ends run end over) = result_ends run end over
result-of P main cells o (fails run end fault) = result_fails run end fault

agrees : {S : Type 0} (P : Asks S) (main : Start S) (cells : List ℕ) (s : State S) → Setting main cells → Reached P main cells s → AgreesWithRun P main cells s
agrees {S} P main cells s setting reached z run = every_state_agrees S P main cells z s setting run reached

pub in-every-order : (text : List ℕ) → IsRunInEveryOrder text
in-every-order text p accepts options reply told s reached stopped = record {
  some = (told.outcome.answer, every_result_is_the_answer TreeScript P main cells s told.outcome.answer setting same stopped result);
  lines = told.lines;
  are_lines = told.are_lines;
  each = λ a is.
      told.is_reply ∙ ap (run_reply options.dump (program_written p) told.lines) (sym (every_answer_is_the_result TreeScript P main cells s a told.outcome.answer setting same stopped is result));
}
  where
    P : Asks TreeScript
    P = asks_of (program_written p).items

    main : Start TreeScript
    main = main_of (program_written p).items options.fuel

    cells : List ℕ
    cells = first_cells (program_written p).items

    setting : Setting main cells
    setting = accepted_setting text p accepts.is_text accepts.obeys options.fuel

    same : AgreesWithRun P main cells s
    same = agrees P main cells s setting reached

    result : IsResult P main cells told.outcome.answer
    result = result-of P main cells told.outcome told.is_outcome
