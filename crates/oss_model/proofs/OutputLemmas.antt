-- The output of the sequential run, and the keys of prints and faults.
use Rattle.std.proofs.Common.{◌≡◌, ◌≢◌, ℕ, ◌⊎◌, inl, inr, refl, sym, subst, ap, ◌∙◌, List, [], ◌∷◌, ◌++◌, append_assoc, append-nil, Bool, true, false, Option, Some, None}
use Rattle.oss_syntax.specs.declared.fault.FaultKind.{FaultKind}
use Rattle.oss_model.specs.Order.{IsSuffix, IsIn}
use Rattle.oss_model.specs.Rights.{Right, Reads, Writes, Folds, touch_fault, is_fold}
use Rattle.oss_model.specs.Context.{create_fault, tick_fault, release_fault, wait_on_fault, right_of, lent_of, mark_of}
use Rattle.oss_model.specs.Bodies.{Ask, Program, Act, Frame, Start, key_of, top_frame, judged_act, act_of_ask, ask_of, frame_act, stack_act, stack_from, act_of, stage_act, stage_key, word_of}
use Rattle.oss_model.specs.Bodies.Act.{Ticked, Load, Store, Folded, Created, Awaited, Waited, WaitedOn, Releases, Printed, Ended, Fault, Over}
use Rattle.oss_model.specs.Machine.{Task}
use Rattle.oss_model.specs.Moves.{act_now}
use Rattle.oss_model.specs.Memory.{Event, Happened}
use Rattle.oss_model.specs.Sequence.{Running, printed_after, RunsOn, Sequential, opens, runs_on}
use Rattle.oss_model.specs.Agreement.{MainStarts, InMemory}
use Rattle.oss_model.specs.Answers.{DonePrint, text_of, texts, IsOutput}
use Rattle.oss_model.proofs.Places.{IsPlaced}
use Rattle.oss_model.proofs.SortLemmas.{in_append, in_left, in_last, sorted_append}
use Rattle.oss_model.proofs.SequenceLemmas.{Stands, stands, event_back, opening_at}
use Rattle.oss_model.proofs.RecallLemmas.{Recalls, recalls, ev, happened_forth, happened_new, before_new}
use Rattle.oss_model.proofs.KeyOrder.{keyed}

-- the key that a print or a fault bears
pub HasKey : {S : Type 0} → Act S → List ℕ → Type 0
HasKey (Printed key text) k = key ≡ k
HasKey (Fault kind line key) k = key ≡ k
HasKey _ k = Unit {0}

judged_key : {S : Type 0} (f : Frame S) (line : ℕ) (r : Option FaultKind) (a : Act S) → HasKey a (key_of f) → HasKey (judged_act f line r a) (key_of f)
unfolding HasKey
judged_key f line None a h = h
judged_key f line (Some kind) a h = refl

ask_key : {S : Type 0} (slots : ℕ → Right) (included : Bool) (f : Frame S) (a : Ask S) (line : ℕ) → HasKey (act_of_ask slots included f a line) (key_of f)
unfolding HasKey
ask_key slots inc f Ask.Begin line = judged_key f line (create_fault f.context) _ refl
ask_key slots inc f Ask.Tick line = judged_key f line (tick_fault f.context) Ticked tt
ask_key slots inc f (Ask.Read c) line = judged_key f line (touch_fault (right_of f.context c) (lent_of f.context c) (mark_of f.context c) Reads) (Load c) tt
ask_key slots inc f (Ask.Write c v) line = judged_key f line (touch_fault (right_of f.context c) (lent_of f.context c) (mark_of f.context c) Writes) (Store c (word_of v)) tt
ask_key slots inc f (Ask.Fold c op v) line = judged_key f line (touch_fault (right_of f.context c) (lent_of f.context c) (mark_of f.context c) (Folds op)) (Folded c op (word_of v) (is_fold (slots c))) tt
ask_key slots inc f (Ask.Create o) line = judged_key f line _ (Created o f.context.final) tt
ask_key slots inc f Ask.Await line = refl
ask_key slots inc f Ask.Wait line = tt
ask_key slots inc f (Ask.WaitOn named) line = judged_key f line (wait_on_fault f.context named) (WaitedOn named) tt
ask_key slots inc f (Ask.Release clauses) line = judged_key f line (release_fault f.context clauses) (Releases clauses inc) tt
ask_key slots inc f (Ask.Print text) line = refl
ask_key slots inc f Ask.End line = tt
ask_key slots inc f (Ask.Fails kind) line = refl

frame_key : {S : Type 0} (P : Program S) (slots : ℕ → Right) (inc : Bool) (f : Frame S) (w : Bool) → HasKey (frame_act P slots inc f w) (key_of f)
unfolding HasKey
frame_key P slots inc f true = tt
frame_key P slots inc f false = ask_key slots inc f (ask_of P f).ask (ask_of P f).line

stack_key : {S : Type 0} (P : Program S) (slots : ℕ → Right) (base : Frame S) (inner : List (Frame S)) (over : Bool) → HasKey (stack_act P slots base inner over) (key_of (top_frame base inner))
unfolding HasKey
stack_key P slots base inner true = tt
stack_key P slots base [] false = frame_key P slots false base base.awaits
stack_key P slots base (f ∷ fs) false = frame_key P slots true f f.awaits

act_key : {S : Type 0} (P : Program S) (b : Start S) (past : List ℕ) → HasKey (stage_act P b past) (stage_key P b past)
unfolding stage_act act_of stage_key
act_key P b past = let x = stack_from P b past in stack_key P (right_of b.context) x.base x.inner x.ended

-- a print and a fault bear the key of their stage
pub print_key : {S : Type 0} (P : Program S) (b : Start S) (past key text : List ℕ) → stage_act P b past ≡ Printed key text → key ≡ stage_key P b past
unfolding HasKey
print_key P b past key text e = subst (λ (z : Act _). HasKey z (stage_key P b past)) e (act_key P b past)

pub fault_key : {S : Type 0} (P : Program S) (b : Start S) (past : List ℕ) (kind : FaultKind) (line : ℕ) (key : List ℕ) → stage_act P b past ≡ Fault kind line key → key ≡ stage_key P b past
unfolding HasKey
fault_key P b past kind line key e = subst (λ (z : Act _). HasKey z (stage_key P b past)) e (act_key P b past)

texts-append : {S : Type 0} (P : Program S) (es : List (Event S)) (e : Event S) → texts P (es ++ e ∷ []) ≡ texts P es ++ text_of (stage_act P e.start e.past)
texts-append P [] e = append-nil (text_of (stage_act P e.start e.past))
texts-append P (x ∷ es) e =
    let a = text_of (stage_act P x.start x.past) in
    ap (λ (z : List ℕ). a ++ z) (texts-append P es e) ∙ sym (append_assoc a (texts P es) (text_of (stage_act P e.start e.past)))

-- an act is a print, or leaves the output
print_or : {S : Type 0} (a : Act S) → ((key : List ℕ) × (text : List ℕ) × (a ≡ Printed key text)) ⊎ (((key text : List ℕ) → a ≢ Printed key text) × ((output : List ℕ) → printed_after a output ≡ output))
print_or (Printed key text) = inl (key, text, refl)
print_or Ticked = inr ((λ k t e. cc), (λ o. refl))
print_or (Load c) = inr ((λ k t e. cc), (λ o. refl))
print_or (Store c v) = inr ((λ k t e. cc), (λ o. refl))
print_or (Folded c op v slot) = inr ((λ k t e. cc), (λ o. refl))
print_or (Created o i) = inr ((λ k t e. cc), (λ o. refl))
print_or Awaited = inr ((λ k t e. cc), (λ o. refl))
print_or Waited = inr ((λ k t e. cc), (λ o. refl))
print_or (WaitedOn named) = inr ((λ k t e. cc), (λ o. refl))
print_or (Releases clauses i) = inr ((λ k t e. cc), (λ o. refl))
print_or Ended = inr ((λ k t e. cc), (λ o. refl))
print_or (Fault kind line key) = inr ((λ k t e. cc), (λ o. refl))
print_or Over = inr ((λ k t e. cc), (λ o. refl))

-- the output of the run, by places
pub record PlacedOutput {S : Type 0} (P : Program S) (z : Running S) : Type 0 where
  pub list : List (Event S)
  pub sorted : IsPlaced P list
  pub only : (e : Event S) → IsIn e list → DonePrint P z.state None e
  pub all : (e : Event S) → DonePrint P z.state None e → IsIn e list
  pub output_is : z.printed ≡ texts P list

module _ {S : Type 0} (P : Program S) (main : Start S) (cells : List ℕ) (z y : Running S) (ms : MainStarts main) (mem : InMemory main cells) (st : Stands P main z) (r : RunsOn P z y) (re : Recalls P cells z) (out : PlacedOutput P z) where
  abbrev new : Event S
  new = ev P main cells z y ms mem st r re

  print_forth : (e : Event S) → DonePrint P z.state None e → DonePrint P y.state None e
  print_forth e d = record { key = d.key; text = d.text; prints = d.prints; within = tt; happened = happened_forth P main cells z y ms mem st r re e d.happened }

  print_back : (e : Event S) → DonePrint P y.state None e → DonePrint P z.state None e ⊎ (e ≡ new)
  print_back e d = go (event_back P main z y ms st r e d.happened)
    where
      go : Happened z.state e ⊎ (e ≡ new) → DonePrint P z.state None e ⊎ (e ≡ new)
      go (inl h) = inl (record { key = d.key; text = d.text; prints = d.prints; within = tt; happened = h })
      go (inr q) = inr q

  output_on : PlacedOutput P y
  output_on = go (print_or (act_now P r.task.body))
    where
      go : ((key : List ℕ) × (text : List ℕ) × (act_now P r.task.body ≡ Printed key text)) ⊎ (((key text : List ℕ) → act_now P r.task.body ≢ Printed key text) × ((output : List ℕ) → printed_after (act_now P r.task.body) output ≡ output)) → PlacedOutput P y
      go (inl (key, text, a)) =
          record {
            list = out.list ++ new ∷ [];
            sorted = sorted_append P new out.list out.sorted (λ g i. before_new P main cells z y ms mem st r re g (out.only g i).happened);
            only = λ e i. only e (in_append out.list i);
            all = λ e d. all e (print_back e d);
            output_is = r.printed ∙ (ap (λ (x : Act S). printed_after x z.printed) a ∙ (ap (λ (x : List ℕ). x ++ text) out.output_is ∙ (ap (λ (x : Act S). texts P out.list ++ text_of x) (sym a) ∙ sym (texts-append P out.list new))));
          }
        where
          only : (e : Event S) → IsIn e out.list ⊎ (e ≡ new) → DonePrint P y.state None e
          only e (inl i) = print_forth e (out.only e i)
          only e (inr q) = subst (λ (x : Event S). DonePrint P y.state None x) (sym q) (record { key = key; text = text; prints = a; within = tt; happened = happened_new P main cells z y ms mem st r re })

          all : (e : Event S) → DonePrint P z.state None e ⊎ (e ≡ new) → IsIn e (out.list ++ new ∷ [])
          all e (inl d) = in_left new out.list (out.all e d)
          all e (inr q) = subst (λ (x : Event S). IsIn x (out.list ++ new ∷ [])) (sym q) (in_last out.list)
      go (inr k) =
          record {
            list = out.list;
            sorted = out.sorted;
            only = λ e i. print_forth e (out.only e i);
            all = λ e d. all e d (print_back e d);
            output_is = r.printed ∙ (k.1 z.printed ∙ out.output_is);
          }
        where
          all : (e : Event S) → DonePrint P y.state None e → DonePrint P z.state None e ⊎ (e ≡ new) → IsIn e out.list
          all e d (inl x) = out.all e x
          all e d (inr q) = absurd (k.0 d.key d.text (subst (λ (x : Event S). stage_act P x.start x.past ≡ Printed d.key d.text) q d.prints))

placed_output : {S : Type 0} (P : Program S) (main : Start S) (cells : List ℕ) → MainStarts main → InMemory main cells → (z : Running S) → Sequential P main cells z → PlacedOutput P z
placed_output {S = S} P main cells ms mem z opens = record { list = []; sorted = tt; only = λ e i. elim i [ ]; all = λ e d. absurd (nothing e d.happened); output_is = refl }
  where
    nothing : (e : Event S) → Happened (record { cells = cells; tasks = record { body = record { start = main; found = [] }; given = [] } ∷ [] }) e → ⊥
    nothing e g = none (subst (λ (x : Task S). IsSuffix (e.answer ∷ e.past) x.body.found) (opening_at main cells e.start.path g.task ms.path g.at_).1 g.found)
      where
        none : IsSuffix (e.answer ∷ e.past) [] → ⊥
        none h = elim h [ ]
placed_output P main cells ms mem z (runs_on {z = w} run step) =
    output_on P main cells w z ms mem (stands P main cells ms w run) step (recalls P main cells ms mem w run) (placed_output P main cells ms mem w run)

-- what the run has printed is the output of its state
pub run_output : {S : Type 0} (P : Program S) (main : Start S) (cells : List ℕ) → MainStarts main → InMemory main cells → (z : Running S) → Sequential P main cells z → IsOutput P z.state None z.printed
run_output P main cells ms mem z run =
    let o = placed_output P main cells ms mem z run in
    record { list = o.list; sorted = keyed P main z.state (stands P main cells ms z run).made o.list (λ e i. (o.only e i).happened) o.sorted; only = o.only; all = o.all; output_is = o.output_is }
