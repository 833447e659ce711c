-- At the end of the run the record tells exactly whether links are a chain.
use Rattle.std.proofs.Common.{◌≡◌, refl, sym, subst, ap, ◌∙◌, ℕ, Bool, true, false, List, ◌∷◌, arith}
use Rattle.std.specs.Prelude.{nat_eq, ◌&&◌, ◌↔◌, IsTrue}
use Rattle.std.proofs.lemmas.Bool.Decides.{nat_tests}
use Rattle.oss_syntax.specs.declared.fault.FaultKind.{FaultKind}
use Rattle.oss_code.specs.declared.code.CodeParts.{CodeParts}
use Rattle.oss_machine.specs.Machines.{asks}
use Rattle.oss_meaning.specs.Results.{IsOutcome, Outcome}
use Rattle.oss_meaning.specs.Results.IsOutcome.{ends, fails}
use Rattle.oss_model.specs.Agreement.{MainStarts}
use Rattle.oss_model.specs.Bodies.{Act, Program, Start}
use Rattle.oss_model.specs.Bodies.Act.{Fault, Over}
use Rattle.oss_model.specs.History.{IsMade}
use Rattle.oss_model.specs.Machine.{At, State, Task, find}
use Rattle.oss_model.specs.Moves.{act_now}
use Rattle.oss_model.specs.Order.{whole}
use Rattle.oss_model.specs.Sequence.{IsAtEnd, Running, Sequential}
use Rattle.oss_model.specs.declared.answer.Answer.TheVariants as answers
use Rattle.oss_model.proofs.SequenceLemmas.{stands}
use Rattle.oss_body.specs.Mains.{code_main}
use Rattle.oss_chain_laws.specs.Happenings.{EndsWith, IsHappening}
use Rattle.oss_chain_laws.proofs.RunTheorem.{Extends}
use Rattle.oss_chain_laws.proofs.SpanTheorem.{all_ended}
use Rattle.oss_span.specs.declared.link.Link.{Link}
use Rattle.oss_span_check.specs.declared.record.Record.{Record}
use Rattle.oss_span_check.specs.Certified.{IsCertified, IsChainOf}
use Rattle.oss_span_check.specs.Holding.{holds, is_told, ticks_of}
use Rattle.oss_span_check.specs.Recording.{IsEndRecorded}
use Rattle.oss_span_check.specs.Records.{IsRecord}
use Rattle.oss_span_check.proofs.HoldingLemmas.{holds_back, holds_forth}
use Rattle.oss_span_check.proofs.ListLemmas.{and_both, and_parts}
use Rattle.oss_span_check.proofs.OneEndLemmas.{one_end, same_task}
use Rattle.oss_span_check.proofs.OrderLemmas.{in_each}
use Rattle.oss_span_check.proofs.StepLemmas.{does_on}
use Rattle.oss_span_check.proofs.TickLemmas.{ticks_are}

-- a record of one state is one of each state with the same tasks
module _ {S : Type 0} (P : Program S) (x y : State S) (same : (p : List ℕ) → find x.tasks p ≡ find y.tasks p) (r : Record) (so : IsRecord P x r) where
  forth : Extends x y
  forth = record { grown = λ q u h. (u, sym (same q) ∙ h, refl, whole) }

  back : Extends y x
  back = record { grown = λ q u h. (u, same q ∙ h, refl, whole) }

  pub record_same : IsRecord P y r
  record_same = record {
    notes_so = λ n i. let t = so.notes_so n i in record { path = t.path; created = t.created; act = t.act; point = t.point; does = does_on P x y forth t.does; seen = t.seen };
    noted = λ p n k a d i. so.noted p n k a (does_on P y x back d) i;
    once = so.once;
    made_so = λ m i. let t = so.made_so m i in record { number = t.number; path = t.path; task = t.task; order = t.order; point = t.point; at_ = sym (same _) ∙ t.at_; does = does_on P x y forth t.does; wait = t.wait; rights = t.rights };
    made = λ k p t h. so.made k p t (same (k ∷ p) ∙ h);
  }

is_same : (x y : ℕ) → nat_eq x y ≡ true → x ≡ y
is_same x y e = grind (arith, nat_tests)

same_eq : (x y : ℕ) → x ≡ y → nat_eq x y ≡ true
same_eq x y e = grind (arith, nat_tests)

module _ {S : Type 0} (P : Program S) (main : Start S) (cells : List ℕ) (ms : MainStarts main) (z : Running S) (run : Sequential P main cells z) (end_ : IsAtEnd P z) (over : act_now P end_.task.body ≡ Over) (r : Record) (so : IsRecord P z.state r) where
  made : IsMade P main z.state
  made = (stands P main cells ms z run).made

  ended : (p : List ℕ) (u : Task S) → At z.state p u → (n : ℕ) × EndsWith P z.state p n
  ended = all_ended P main cells ms z run end_ over (λ e. 0)

  told_forth : (ls : List Link) (ticks : ℕ) → is_told r ls ticks ≡ true → IsChainOf P main cells ls ticks
  told_forth ls ticks h =
      let g = and_parts (holds r ls) (nat_eq (ticks_of r 0 ls) ticks) h in
      let x = holds_forth P main z.state ms made ended r so ls g.0 in
      record {
        stage = z;
        run = run;
        end_ = end_;
        over = over;
        events = x.0;
        unfolds = x.1;
        is_chain = x.2;
        ticks_are = sym (ticks_are P main z.state ms made ended r so x.1 (in_each (IsHappening P z.state) x.0 (λ e i. (x.2.happen e i).happens))) ∙ is_same (ticks_of r 0 ls) ticks g.1;
      }

module _ {S : Type 0} (P : Program S) (main : Start S) (cells : List ℕ) (ms : MainStarts main) (z : Running S) (run : Sequential P main cells z) (end_ : IsAtEnd P z) (r : Record) (so : IsRecord P z.state r) where
  told_back : (ls : List Link) (ticks : ℕ) → IsChainOf P main cells ls ticks → is_told r ls ticks ≡ true
  told_back ls ticks c =
      let same = one_end P run end_ c.run c.end_ in
      let k = record_same P z.state c.stage.state same.found r so in
      let m = made P main cells ms c.stage c.run c.end_ c.over r k in
      let e = ended P main cells ms c.stage c.run c.end_ c.over r k in
      and_both (holds_back P main c.stage.state ms m e r k c.unfolds c.is_chain)
      (same_eq (ticks_of r 0 ls) ticks (ticks_are P main c.stage.state ms m e r k c.unfolds (in_each (IsHappening P c.stage.state) c.events (λ e i. (c.is_chain.happen e i).happens)) ∙ c.ticks_are))

abbrev IsFaulty : {S : Type 0} → Act S → Type 0
IsFaulty (Fault kind line key) = Unit {0}
IsFaulty _ = ⊥

-- a fault at the end of the run
record FaultAt {S : Type 0} (P : Program S) (main : Start S) (cells : List ℕ) : Type 0 where
  stage : Running S
  run : Sequential P main cells stage
  end_ : IsAtEnd P stage
  faulty : IsFaulty (act_now P end_.task.body)

fault_of : {S : Type 0} (P : Program S) (main : Start S) (cells : List ℕ) {o : Outcome} (kind : FaultKind) (line : ℕ) (text : List ℕ) → IsOutcome P main cells o → o.answer ≡ answers.Fault kind line text → FaultAt P main cells
fault_of P main cells kind line text (ends run end over) e = absurd cc
fault_of P main cells kind line text (fails {z = z} run end fault) e = record { stage = z; run = run; end_ = end; faulty = subst IsFaulty (sym fault) tt }

-- where a fault stopped the run nothing is a chain of it
no_chain : {S : Type 0} (P : Program S) (main : Start S) (cells : List ℕ) (ls : List Link) (ticks : ℕ) → FaultAt P main cells → IsChainOf P main cells ls ticks → ⊥
no_chain P main cells ls ticks f c =
    let same = one_end P f.run f.end_ c.run c.end_ in
    let t : f.end_.task ≡ c.end_.task = same_task P f.stage c.stage f.end_.task c.end_.task same f.end_.at_ c.end_.at_ in
    subst IsFaulty (ap (λ (x : Task _). act_now P x.body) t ∙ c.over) f.faulty

-- the answer
pub certified : (code : CodeParts) (fuel : ℕ) (r : Record) (ended : Bool) (told : Bool) (ls : List Link) (ticks : ℕ) → IsEndRecorded code fuel r ended → told ≡ (ended && is_told r ls ticks) → IsTrue told ↔ IsCertified code fuel ls ticks
certified code fuel r true told ls ticks d e = (
  λ h. told_forth (asks code) (code_main code fuel) code.first d.setting.starts d.stage d.run d.end_ d.over r d.kept ls ticks (sym e ∙ h),
  λ c. e ∙ told_back (asks code) (code_main code fuel) code.first d.setting.starts d.stage d.run d.end_ r d.kept ls ticks c,
)
certified code fuel r false told ls ticks d e =
    (λ h. absurd (clash (sym e ∙ h)), λ c. absurd (no_chain (asks code) (code_main code fuel) code.first ls ticks (fault_of (asks code) (code_main code fuel) code.first d.kind d.line d.output d.outcome refl) c))
  where
    clash : false ≡ true → ⊥
    clash h = cc
