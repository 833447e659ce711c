-- Runs that end alike have one answer.
use Rattle.std.proofs.Common.{◌≡◌, refl, subst, ap, ◌∙◌, ℕ, List}
use Rattle.oss_syntax.specs.declared.fault.FaultKind.{FaultKind}
use Rattle.oss_model.specs.declared.answer.Answer.{Answer}
use Rattle.oss_model.specs.declared.answer.Answer.TheVariants as answers
use Rattle.oss_model.specs.Agreement.{main_start}
use Rattle.oss_model.specs.Answers.{IsResult, ends, fails}
use Rattle.oss_model.specs.Bodies.{Act, Program, Start}
use Rattle.oss_model.specs.Bodies.Act.{Fault, Over}
use Rattle.oss_model.specs.Moves.{act_now}
use Rattle.oss_model.specs.Sequence.{IsAtEnd, Running, Sequential}
use Rattle.std.specs.Prelude.{length}
use Rattle.oss_freed.specs.Freed.{freed}
use Rattle.oss_missing_laws.specs.Missing.{AnswersAreOne}
use Rattle.oss_missing_laws.specs.Programs.{EndsAlike, StopAlike}
use Rattle.oss_missing_laws.proofs.MissingTheorem.{runs_end_alike, walked_run}
use Rattle.oss_missing_laws.proofs.SameLemmas.{IsSame}
use Rattle.oss_missing_laws.proofs.UniqueLemmas.{one_end, one_stop}

over_only : {S : Type 0} (a : Act S) → StopAlike a Over → a ≡ Over
over_only Over h = refl
over_only (Fault kind line key) h = absurd h
over_only _ h = absurd h

record IsFaultAlike {S : Type 0} (a : Act S) (kind : FaultKind) (line : ℕ) : Type 0 where
  key : List ℕ
  is : a ≡ Fault kind line key

fault_only : {S : Type 0} (a : Act S) (kind : FaultKind) (line : ℕ) (key : List ℕ) → StopAlike a (Fault kind line key) → IsFaultAlike a kind line
fault_only Over kind line key h = absurd h
fault_only (Fault other there here) kind line key h = record { key = here; is = ap (λ (k : FaultKind). Fault k there here) h.0 ∙ ap (λ (n : ℕ). Fault kind n here) h.1 }
fault_only _ kind line key h = absurd h

module _ {S : Type 0} (P : Program S) (main : Start S) (first : List ℕ) (z : Running S) (end : IsAtEnd (freed (length first) P) z) (run : Sequential (freed (length first) P) main first z) (own : EndsAlike P main first z end) where
  one_answer : (answer : Answer) → IsResult (freed (length first) P) main first answer → IsResult P main first answer
  one_answer _ (ends {z = x} other stop over) =
      let e : IsSame (freed (length first) P) z x = one_end (freed (length first) P) main first z x run end other stop in
      let a : act_now (freed (length first) P) end.task.body ≡ Over = one_stop (freed (length first) P) main first z x run end other stop ∙ over in
      let o : act_now P own.own.task.body ≡ Over = over_only (act_now P own.own.task.body) (subst (λ (b : Act S). StopAlike (act_now P own.own.task.body) b) a own.alike) in
      subst (λ (b : Answer). IsResult P main first b)
      (ap (λ (t : List ℕ). answers.Done t own.stage.state.cells) (own.printed ∙ e.printed) ∙ ap (λ (cells : List ℕ). answers.Done x.printed cells) (own.cells ∙ e.cells))
      (ends own.run own.own o)
  one_answer _ (fails {z = x} {kind = kind} {line = line} {key = key} other stop fault) =
      let e : IsSame (freed (length first) P) z x = one_end (freed (length first) P) main first z x run end other stop in
      let a : act_now (freed (length first) P) end.task.body ≡ Fault kind line key = one_stop (freed (length first) P) main first z x run end other stop ∙ fault in
      let o = fault_only (act_now P own.own.task.body) kind line key (subst (λ (b : Act S). StopAlike (act_now P own.own.task.body) b) a own.alike) in
      subst (λ (b : Answer). IsResult P main first b) (ap (λ (t : List ℕ). answers.Fault kind line t) (own.printed ∙ e.printed)) (fails own.run own.own o.is)

pub answers_are_one : (S : Type 0) → AnswersAreOne S
answers_are_one S P order first fuel z end few two named h answer r =
    one_answer P (main_start order (length first) fuel) first z end (walked_run P (main_start order (length first) fuel) first h.walks) (runs_end_alike S P order first fuel z end few two named h) answer r
