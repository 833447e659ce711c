-- Bodies of a program and bodies of its code do the same acts, whose scripts are moved.
use Rattle.std.proofs.Common.{◌≡◌, ◌∙◌, ℕ, Bool, true, false, List, [], ◌∷◌, map, Option, Some, None, refl, sym, ap}
use Rattle.std.specs.Prelude.{if◌then◌else◌}
use Rattle.oss_syntax.specs.declared.fault.FaultKind.{FaultKind}
use Rattle.oss_syntax.specs.declared.tree.program.Item.{Item}
use Rattle.oss_model.specs.Bodies.{Act, Ask, Frame, Program, Stack, Start, act_of, act_of_ask, ask_of, frame_act, judged_act, next_stack, past_ask, past_silent, settled_frame, settled_parts, settled_stack, stack_act, stack_after, stack_from, stage_act, stage_created, start_frame}
use Rattle.oss_model.specs.Bodies.Ask.{Await, Begin, Create, End, Fails, Fold, Print, Read, Release, Tick, Wait, WaitOn, Write}
use Rattle.oss_model.specs.Bodies.Act.{Awaited, Created, Ended, Fault, Folded, Load, Over, Printed, Releases, Store, Ticked, Waited, WaitedOn}
use Rattle.oss_model.specs.Context.{create_fault, right_of}
use Rattle.oss_model.specs.Rights.{Right}
use Rattle.oss_meaning.specs.Expressions.{TaskBody, TreeScript}
use Rattle.oss_meaning.specs.Meaning.{asks_of}
use Rattle.oss_code.specs.declared.code.CodeParts.{CodeParts}
use Rattle.oss_machine.specs.Frames.{CodeScript}
use Rattle.oss_machine.specs.Machines.{asks}
use Rattle.oss_lower_laws.specs.Programs.{IsCodeOf, moved_ask, moved_asked, moved_order, moved_script, moved_start}

-- the same act
abbrev pub moved_act : (TaskBody → ℕ) → Act TreeScript → Act CodeScript
moved_act places Ticked = Ticked
moved_act places (Load cell) = Load cell
moved_act places (Store cell v) = Store cell v
moved_act places (Folded cell o v slot) = Folded cell o v slot
moved_act places (Created o included) = Created (moved_order places o) included
moved_act places Awaited = Awaited
moved_act places Waited = Waited
moved_act places (WaitedOn named) = WaitedOn named
moved_act places (Releases clauses included) = Releases clauses included
moved_act places (Printed key text) = Printed key text
moved_act places Ended = Ended
moved_act places (Fault kind line key) = Fault kind line key
moved_act places Over = Over

abbrev pub moved_frame : (TaskBody → ℕ) → Frame TreeScript → Frame CodeScript
moved_frame places f = record { script = moved_script places f.script; context = f.context; path = f.path; answers = f.answers; awaits = f.awaits }

abbrev pub moved_stack : (TaskBody → ℕ) → Stack TreeScript → Stack CodeScript
moved_stack places s = record { base = moved_frame places s.base; inner = map (moved_frame places) s.inner; ended = s.ended }

module _ (places : TaskBody → ℕ) where
  judged : (f : Frame TreeScript) (line : ℕ) (o : Option FaultKind) (a : Act TreeScript) → judged_act (moved_frame places f) line o (moved_act places a) ≡ moved_act places (judged_act f line o a)
  judged f line None a = refl
  judged f line (Some kind) a = refl

  ask_act : (slots : ℕ → Right) (included : Bool) (f : Frame TreeScript) (a : Ask TreeScript) (line : ℕ) → act_of_ask slots included (moved_frame places f) (moved_ask places a) line ≡ moved_act places (act_of_ask slots included f a line)
  ask_act slots included f Begin line = judged f line _ (Fault _ _ _)
  ask_act slots included f Tick line = judged f line _ Ticked
  ask_act slots included f (Read cell) line = judged f line _ (Load cell)
  ask_act slots included f (Write cell v) line = judged f line _ (Store cell _)
  ask_act slots included f (Fold cell o v) line = judged f line _ (Folded cell o _ _)
  ask_act slots included f (Create o) line = judged f line _ (Created o _)
  ask_act slots included f Await line = refl
  ask_act slots included f Wait line = refl
  ask_act slots included f (WaitOn named) line = judged f line _ (WaitedOn named)
  ask_act slots included f (Release clauses) line = judged f line _ (Releases clauses included)
  ask_act slots included f (Print text) line = refl
  ask_act slots included f End line = refl
  ask_act slots included f (Fails kind) line = refl

  after_is : (a : Act TreeScript) (v : ℕ) (base : Frame TreeScript) (inner : List (Frame TreeScript)) → stack_after (moved_act places a) v (moved_frame places base) (map (moved_frame places) inner) ≡ moved_stack places (stack_after a v base inner)
  after_is Ticked v base [] = refl
  after_is Ticked v base (f ∷ fs) = refl
  after_is (Load cell) v base [] = refl
  after_is (Load cell) v base (f ∷ fs) = refl
  after_is (Store cell x) v base [] = refl
  after_is (Store cell x) v base (f ∷ fs) = refl
  after_is (Folded cell o x slot) v base [] = refl
  after_is (Folded cell o x slot) v base (f ∷ fs) = refl
  after_is (Created o true) v base [] = refl
  after_is (Created o false) v base [] = refl
  after_is (Created o included) v base (f ∷ fs) = refl
  after_is Awaited v base [] = refl
  after_is Awaited v base (f ∷ fs) = refl
  after_is Waited v base [] = refl
  after_is Waited v base (f ∷ fs) = refl
  after_is (WaitedOn named) v base [] = refl
  after_is (WaitedOn named) v base (f ∷ fs) = refl
  after_is (Releases clauses included) v base [] = refl
  after_is (Releases clauses included) v base (f ∷ fs) = refl
  after_is (Printed key text) v base [] = refl
  after_is (Printed key text) v base (f ∷ fs) = refl
  after_is Ended v base [] = refl
  after_is Ended v base (f ∷ fs) = refl
  after_is (Fault kind line key) v base [] = refl
  after_is (Fault kind line key) v base (f ∷ fs) = refl
  after_is Over v base [] = refl
  after_is Over v base (f ∷ fs) = refl

module _ (all : List Item) (code : CodeParts) (of : IsCodeOf all code) where
  abbrev P : Program TreeScript
  P = asks_of all

  abbrev Q : Program CodeScript
  Q = asks code

  ask_is : (f : Frame TreeScript) → ask_of Q (moved_frame of.places f) ≡ moved_asked of.places (ask_of P f)
  ask_is f = sym (of.alike f.script f.answers)

  frame_is : (slots : ℕ → Right) (included : Bool) (f : Frame TreeScript) (awaits : Bool) → frame_act Q slots included (moved_frame of.places f) awaits ≡ moved_act of.places (frame_act P slots included f awaits)
  frame_is slots included f true = refl
  frame_is slots included f false =
      ap (λ x. act_of_ask slots included (moved_frame of.places f) x.ask x.line) (ask_is f) ∙ ask_act of.places slots included f (ask_of P f).ask (ask_of P f).line

  stack_is : (slots : ℕ → Right) (base : Frame TreeScript) (inner : List (Frame TreeScript)) (ended : Bool)
      → stack_act Q slots (moved_frame of.places base) (map (moved_frame of.places) inner) ended ≡ moved_act of.places (stack_act P slots base inner ended)
  stack_is slots base inner true = refl
  stack_is slots base [] false = frame_is slots false base base.awaits
  stack_is slots base (f ∷ fs) false = frame_is slots true f f.awaits

  begun_is : (f : Frame TreeScript) (o : Option FaultKind) → create_fault f.context ≡ o → past_ask Q (moved_frame of.places f) Begin ≡ moved_frame of.places (past_ask P f Begin)
  begun_is f None e =
      ap (λ x. elim x as (λ u. Frame CodeScript) [ None ↦ record (moved_frame of.places f) { answers = 0 ∷ f.answers } | Some kind ↦ moved_frame of.places f ]) e
      ∙ sym (ap (λ x. moved_frame of.places (elim x as (λ u. Frame TreeScript) [ None ↦ record f { answers = 0 ∷ f.answers } | Some kind ↦ f ])) e)
  begun_is f (Some kind) e =
      ap (λ x. elim x as (λ u. Frame CodeScript) [ None ↦ record (moved_frame of.places f) { answers = 0 ∷ f.answers } | Some kind ↦ moved_frame of.places f ]) e
      ∙ sym (ap (λ x. moved_frame of.places (elim x as (λ u. Frame TreeScript) [ None ↦ record f { answers = 0 ∷ f.answers } | Some kind ↦ f ])) e)

  awaited_is : (f : Frame TreeScript) (awaits : Bool) → f.awaits ≡ awaits → past_ask Q (moved_frame of.places f) Await ≡ moved_frame of.places (past_ask P f Await)
  awaited_is f true e =
      ap (λ x. if x then moved_frame of.places f else record (moved_frame of.places f) { answers = 0 ∷ f.answers }) e
      ∙ sym (ap (λ x. moved_frame of.places (if x then f else record f { answers = 0 ∷ f.answers })) e)
  awaited_is f false e =
      ap (λ x. if x then moved_frame of.places f else record (moved_frame of.places f) { answers = 0 ∷ f.answers }) e
      ∙ sym (ap (λ x. moved_frame of.places (if x then f else record f { answers = 0 ∷ f.answers })) e)

  past_is : (f : Frame TreeScript) (a : Ask TreeScript) → past_ask Q (moved_frame of.places f) (moved_ask of.places a) ≡ moved_frame of.places (past_ask P f a)
  past_is f Begin = begun_is f (create_fault f.context) refl
  past_is f Tick = refl
  past_is f (Read cell) = refl
  past_is f (Write cell v) = refl
  past_is f (Fold cell o v) = refl
  past_is f (Create o) = refl
  past_is f Await = awaited_is f f.awaits refl
  past_is f Wait = refl
  past_is f (WaitOn named) = refl
  past_is f (Release clauses) = refl
  past_is f (Print text) = refl
  past_is f End = refl
  past_is f (Fails kind) = refl

  silent_is : (f : Frame TreeScript) → past_silent Q (moved_frame of.places f) ≡ moved_frame of.places (past_silent P f)
  silent_is f = ap (λ x. past_ask Q (moved_frame of.places f) x.ask) (ask_is f) ∙ past_is f (ask_of P f).ask

  settled_is : (f : Frame TreeScript) → settled_frame Q (moved_frame of.places f) ≡ moved_frame of.places (settled_frame P f)
  settled_is f = ap (λ g. past_silent Q g) (silent_is f) ∙ silent_is (past_silent P f)

  parts_are : (base : Frame TreeScript) (inner : List (Frame TreeScript)) (ended : Bool)
      → settled_parts Q (moved_frame of.places base) (map (moved_frame of.places) inner) ended ≡ moved_stack of.places (settled_parts P base inner ended)
  parts_are base [] ended = ap {B = Stack CodeScript} (λ f. record { base = f; inner = []; ended = ended }) (settled_is base)
  parts_are base (f ∷ fs) ended = ap {B = Stack CodeScript} (λ g. record { base = moved_frame of.places base; inner = g ∷ map (moved_frame of.places) fs; ended = ended }) (settled_is f)

  next_is : (slots : ℕ → Right) (v : ℕ) (s : Stack TreeScript) → next_stack Q slots v (moved_stack of.places s) ≡ moved_stack of.places (next_stack P slots v s)
  next_is slots v s =
      let a = stack_act P slots s.base s.inner s.ended in
      let after = stack_after a v s.base s.inner in
      ap (λ x. settled_stack Q (stack_after x v (moved_frame of.places s.base) (map (moved_frame of.places) s.inner))) (stack_is slots s.base s.inner s.ended)
      ∙ ap (λ x. settled_stack Q x) (after_is of.places a v s.base s.inner)
      ∙ parts_are after.base after.inner after.ended

  -- A body of the code stands as the body of the program does.
  pub stands_alike : (b : Start TreeScript) (found : List ℕ) → stack_from Q (moved_start of.places b) found ≡ moved_stack of.places (stack_from P b found)
  unfolding stack_from
  stands_alike b [] = ap {B = Stack CodeScript} (λ f. record { base = f; inner = []; ended = false }) (settled_is (start_frame P b))
  stands_alike b (v ∷ vs) = ap (λ s. next_stack Q (right_of b.context) v s) (stands_alike b vs) ∙ next_is (right_of b.context) v (stack_from P b vs)

  -- So it does the same act next,
  pub acts_alike : (b : Start TreeScript) (past : List ℕ) → stage_act Q (moved_start of.places b) past ≡ moved_act of.places (stage_act P b past)
  unfolding stage_act act_of
  acts_alike b past =
      ap (λ s. stack_act Q (right_of b.context) s.base s.inner s.ended) (stands_alike b past)
      ∙ stack_is (right_of b.context) (stack_from P b past).base (stack_from P b past).inner (stack_from P b past).ended

  -- and has created as many tasks.
  pub created_alike : (b : Start TreeScript) (past : List ℕ) → stage_created Q (moved_start of.places b) past ≡ stage_created P b past
  unfolding stage_created
  created_alike b past = ap (λ s. s.base.context.created) (stands_alike b past)
