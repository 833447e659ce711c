-- The run of a program ends in one way, and its fault has one explanation.
use Rattle.std.proofs.Common.{◌≡◌, ℕ, refl, sym, subst, ap, ◌∙◌, List, Option}
use Rattle.oss_syntax.specs.declared.fault.FaultKind.{FaultKind}
use Rattle.oss_syntax.specs.declared.tree.program.Item.{Item}
use Rattle.oss_model.specs.Agreement.{MainStarts}
use Rattle.oss_model.specs.Bodies.{Act, Frame, Program, Start, ask_of}
use Rattle.oss_model.specs.Bodies.Act.{Fault, Over}
use Rattle.oss_model.specs.declared.answer.Answer.TheVariants as answers
use Rattle.oss_model.specs.History.{IsMade}
use Rattle.oss_model.specs.Machine.{At, State, Task, find}
use Rattle.oss_model.specs.Moves.{act_now}
use Rattle.oss_model.specs.Sequence.{IsAtEnd, Running}
use Rattle.oss_model.proofs.SequenceLemmas.{stands}
use Rattle.oss_model.proofs.TreeLemmas.{at_same, path_found}
use Rattle.oss_meaning.specs.Results.{IsOutcome}
use Rattle.oss_meaning.specs.Results.IsOutcome.{ends, fails}
use Rattle.oss_body.specs.Acting.{acting}
use Rattle.oss_lower_laws.proofs.OneResult.{one_end}
use Rattle.oss_explain.specs.declared.ending.Ending.{Ending}
use Rattle.oss_explain.specs.declared.ending.Ending.TheVariants as ending
use Rattle.oss_explanation.specs.declared.explained.Explained.{Explained}
use Rattle.oss_explanation.specs.declared.explained.Word.{Word}
use Rattle.oss_explain.specs.Endings.{IsEnding}
use Rattle.oss_explain.specs.Endings.IsEnding.{done, fault}
use Rattle.oss_explanation.specs.Explanations.{Explains, IsExplained, IsReason, wanted}
use Rattle.oss_explanation.specs.Held.{AreHeld, all_words}
use Rattle.oss_explanation.proofs.OneLemmas.{one_deed, one_held}
use Rattle.oss_explain_laws.specs.Claims.{EndingsAreOne}
use Rattle.oss_explain_laws.proofs.Alike.{ask_self, explains_there, listed_alike}
use Rattle.oss_explain_laws.proofs.OneReason.{one_chain, one_reason, one_words}

explained_is : (a b : Explained) → a.task ≡ b.task → a.next ≡ b.next → a.line ≡ b.line → a.deed ≡ b.deed → a.reason ≡ b.reason → a.chain ≡ b.chain → a.holds ≡ b.holds → a.wants ≡ b.wants → a ≡ b
explained_is a b e f g h j k l m i = record { task = e i; next = f i; line = g i; deed = h i; reason = j i; chain = k i; holds = l i; wants = m i }

module _ {S : Type 0} (P : Program S) (spot : S → ℕ) (main : Start S) (s : State S) (made : IsMade P main s) (t : Task S) (at : At s t.body.start.path t) (all : List Item) where
  abbrev f : Frame S
  f = acting P t.body.start t.body.found

  one_explained : (kind : FaultKind) (line : ℕ) (a b : Explained) → Explains P spot s all f kind line a → Explains P spot s all f kind line b → a ≡ b
  one_explained kind line a b h g =
      let own = one_words P spot main s made f.path h.own g.own h.words g.words in
      explained_is a b
      (h.task ∙ sym g.task)
      (h.next ∙ sym g.next)
      (h.on_line ∙ sym g.on_line)
      (one_deed all (ask_of P f).ask a.deed b.deed h.deed_is g.deed_is)
      (one_reason P spot main s made t at all h.own kind (ask_of P f).ask a.reason b.reason h.reason_is (subst (λ (w : ℕ → Option Word). IsReason P spot s all f w kind (ask_of P f).ask b.reason) (sym own) g.reason_is))
      (one_chain P spot main s made f.path a.chain b.chain h.chain g.chain)
      (one_held all h.own all_words a.holds b.holds h.holds (subst (λ (w : ℕ → Option Word). AreHeld all w all_words b.holds) (sym own) g.holds))
      (one_held all (wanted kind (ask_of P f).ask f.context) all_words a.wants b.wants h.wants g.wants)

module _ {S : Type 0} (P : Program S) (spot : S → ℕ) (main : Start S) (ms : MainStarts main) (first : List ℕ) (all : List Item) where
  kind_one : (j k : FaultKind) (l m : ℕ) (p q : List ℕ) → ◌≡◌ {A = Act S} (Fault j l p) (Fault k m q) → j ≡ k
  kind_one j k l m p q e = cc

  line_one : (j k : FaultKind) (l m : ℕ) (p q : List ℕ) → ◌≡◌ {A = Act S} (Fault j l p) (Fault k m q) → l ≡ m
  line_one j k l m p q e = cc

  module _ (a b : Explained) (h : IsExplained P spot main first all a) (g : IsExplained P spot main first all b) where
    there : At g.stage.state g.stage.active h.end.task
    there = let same = one_end P h.run h.end g.run g.end in sym (same.found g.stage.active) ∙ ap (λ (p : List ℕ). find h.stage.state.tasks p) (sym same.active) ∙ h.end.at_

    task : h.end.task ≡ g.end.task
    task = at_same g.stage.state g.stage.active h.end.task g.end.task there g.end.at_

    act : ◌≡◌ {A = Act S} (Fault h.kind h.line h.key) (Fault g.kind g.line g.key)
    act = sym h.fails ∙ ap (λ (x : Task S). act_now P x.body) task ∙ g.fails

    same_kind : h.kind ≡ g.kind
    same_kind = kind_one h.kind g.kind h.line g.line h.key g.key act

    same_line : h.line ≡ g.line
    same_line = line_one h.kind g.kind h.line g.line h.key g.key act

    own_at : At h.stage.state h.end.task.body.start.path h.end.task
    own_at = subst (λ (p : List ℕ). At h.stage.state p h.end.task) (sym (path_found h.stage.state.tasks h.stage.active h.end.task h.end.at_)) h.end.at_

    explained : Explains P spot h.stage.state all (acting P h.end.task.body.start h.end.task.body.found) h.kind h.line b
    explained =
        let same = one_end P h.run h.end g.run g.end in
        let x = acting P g.end.task.body.start g.end.task.body.found in
        let moved = explains_there P P g.stage.state h.stage.state (listed_alike spot P g.stage.state h.stage.state (λ p. sym (same.found p))) all x x g.kind g.line b refl refl (ask_self spot (ask_of P x).ask) g.explains in
        let at_task = subst (λ (u : Task S). Explains P spot h.stage.state all (acting P u.body.start u.body.found) g.kind g.line b) (sym task) moved in
        let of_kind = subst (λ (k : FaultKind). Explains P spot h.stage.state all (acting P h.end.task.body.start h.end.task.body.found) k g.line b) (sym same_kind) at_task in
        subst (λ (l : ℕ). Explains P spot h.stage.state all (acting P h.end.task.body.start h.end.task.body.found) h.kind l b) (sym same_line) of_kind

    one_explanation : a ≡ b
    one_explanation = one_explained P spot main h.stage.state (stands P main first ms h.stage h.run).made h.end.task own_at all h.kind h.line a b h.explains explained

  -- a run that comes to its end comes to no fault
  not_done : {output cells : List ℕ} {tasks entries : ℕ} → IsOutcome P main first (record { answer = answers.Done output cells; tasks = tasks; entries = entries })
      → (e : Explained) → IsExplained P spot main first all e → ⊥
  not_done (ends {z = z} run end over) e is =
      let same = one_end P run end is.run is.end in
      let at : At is.stage.state is.stage.active end.task = sym (same.found is.stage.active) ∙ ap (λ (p : List ℕ). find z.state.tasks p) (sym same.active) ∙ end.at_ in
      let k : end.task ≡ is.end.task = at_same is.stage.state is.stage.active end.task is.end.task at is.end.at_ in
      let no : ◌≡◌ {A = Act S} Over (Fault is.kind is.line is.key) = sym over ∙ ap (λ (x : Task S). act_now P x.body) k ∙ is.fails in
      cc

  one_ending : (a b : Ending) → IsEnding P spot main first all a → IsEnding P spot main first all b → a ≡ b
  one_ending _ _ (done o) (done u) = refl
  one_ending _ _ (done o) (fault {e = e} is k l) = absurd (not_done o e is)
  one_ending _ _ (fault {e = e} is k l) (done o) = absurd (not_done o e is)
  one_ending _ _ (fault {kind} {line} {e} h k l) (fault {kind = kind'} {line = line'} {e = e'} g m n) =
      let x : kind ≡ kind' = sym k ∙ same_kind e e' h g ∙ m in
      let y : line ≡ line' = sym l ∙ same_line e e' h g ∙ n in
      let w : e ≡ e' = one_explanation e e' h g in
      λ i. ending.Fault (x i) (y i) (w i)

pub endings_are_one : (S : Type 0) → EndingsAreOne S
endings_are_one S P spot main ms first all a b h k = one_ending P spot main ms first all a b h k
