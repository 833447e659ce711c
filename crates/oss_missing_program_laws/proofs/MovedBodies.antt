-- Bodies of two programs that ask alike, of which the scripts of the one are moved to those of the other, do the same acts.
use Rattle.std.proofs.Common.{◌≡◌, ◌∙◌, ℕ, Bool, true, false, List, [], ◌∷◌, map, Option, Some, None, refl, sym, ap}
use Rattle.std.specs.Prelude.{if◌then◌else◌}
use Rattle.oss_syntax.specs.declared.fault.FaultKind.{FaultKind}
use Rattle.oss_model.specs.Bodies.{Act, Ask, Asked, Frame, Order, Program, Stack, Start, act_of, act_of_ask, ask_of, frame_act, judged_act, next_stack, past_ask, past_silent, settled_frame, settled_parts, settled_stack, stack_act, stack_after, stack_from, stage_act, stage_created, start_frame}
use Rattle.oss_model.specs.Bodies.Ask.{Await, Begin, Create, End, Fails, Fold, Print, Read, Release, Tick, Wait, WaitOn, Write}
use Rattle.oss_model.specs.Bodies.Act.{Awaited, Created, Ended, Fault, Folded, Load, Over, Printed, Releases, Store, Ticked, Waited, WaitedOn}
use Rattle.oss_model.specs.Context.{create_fault, right_of}
use Rattle.oss_model.specs.Rights.{Right}

-- the same task with the other script
abbrev pub moved_order : {S T : Type 0} → (S → T) → Order S → Order T
moved_order move o = record { script = move o.script; clauses = o.clauses; when = o.when; last = o.last; wait = o.wait; priority = o.priority }

-- the same beginning of a body
abbrev pub moved_start : {S T : Type 0} → (S → T) → Start S → Start T
moved_start move b = record { order = moved_order move b.order; context = b.context; path = b.path }

-- the same ask
abbrev pub moved_ask : {S T : Type 0} → (S → T) → Ask S → Ask T
moved_ask move Begin = Begin
moved_ask move Tick = Tick
moved_ask move (Read cell) = Read cell
moved_ask move (Write cell v) = Write cell v
moved_ask move (Fold cell o v) = Fold cell o v
moved_ask move (Create o) = Create (moved_order move o)
moved_ask move Await = Await
moved_ask move Wait = Wait
moved_ask move (WaitOn named) = WaitOn named
moved_ask move (Release clauses) = Release clauses
moved_ask move (Print text) = Print text
moved_ask move End = End
moved_ask move (Fails kind) = Fails kind

-- the same ask on the same line
abbrev pub moved_asked : {S T : Type 0} → (S → T) → Asked S → Asked T
moved_asked move a = record { ask = moved_ask move a.ask; line = a.line }

-- the same act
abbrev pub moved_act : {S T : Type 0} → (S → T) → Act S → Act T
moved_act move Ticked = Ticked
moved_act move (Load cell) = Load cell
moved_act move (Store cell v) = Store cell v
moved_act move (Folded cell o v slot) = Folded cell o v slot
moved_act move (Created o included) = Created (moved_order move o) included
moved_act move Awaited = Awaited
moved_act move Waited = Waited
moved_act move (WaitedOn named) = WaitedOn named
moved_act move (Releases clauses included) = Releases clauses included
moved_act move (Printed key text) = Printed key text
moved_act move Ended = Ended
moved_act move (Fault kind line key) = Fault kind line key
moved_act move Over = Over

-- the same task of a body
abbrev pub moved_frame : {S T : Type 0} → (S → T) → Frame S → Frame T
moved_frame move f = record { script = move f.script; context = f.context; path = f.path; answers = f.answers; awaits = f.awaits }

-- the same body as it stands
abbrev pub moved_stack : {S T : Type 0} → (S → T) → Stack S → Stack T
moved_stack move s = record { base = moved_frame move s.base; inner = map (moved_frame move) s.inner; ended = s.ended }

module _ {S T : Type 0} (move : S → T) where
  pub judged : (f : Frame S) (line : ℕ) (o : Option FaultKind) (a : Act S) → judged_act (moved_frame move f) line o (moved_act move a) ≡ moved_act move (judged_act f line o a)
  judged f line None a = refl
  judged f line (Some kind) a = refl

  ask_act : (slots : ℕ → Right) (included : Bool) (f : Frame S) (a : Ask S) (line : ℕ) → act_of_ask slots included (moved_frame move f) (moved_ask move a) line ≡ moved_act move (act_of_ask slots included f a line)
  ask_act slots included f Begin line = judged f line _ (Fault _ _ _)
  ask_act slots included f Tick line = judged f line _ Ticked
  ask_act slots included f (Read cell) line = judged f line _ (Load cell)
  ask_act slots included f (Write cell v) line = judged f line _ (Store cell _)
  ask_act slots included f (Fold cell o v) line = judged f line _ (Folded cell o _ _)
  ask_act slots included f (Create o) line = judged f line _ (Created o _)
  ask_act slots included f Await line = refl
  ask_act slots included f Wait line = refl
  ask_act slots included f (WaitOn named) line = judged f line _ (WaitedOn named)
  ask_act slots included f (Release clauses) line = judged f line _ (Releases clauses included)
  ask_act slots included f (Print text) line = refl
  ask_act slots included f End line = refl
  ask_act slots included f (Fails kind) line = refl

  after_is : (a : Act S) (v : ℕ) (base : Frame S) (inner : List (Frame S)) → stack_after (moved_act move a) v (moved_frame move base) (map (moved_frame move) inner) ≡ moved_stack move (stack_after a v base inner)
  after_is Ticked v base [] = refl
  after_is Ticked v base (f ∷ fs) = refl
  after_is (Load cell) v base [] = refl
  after_is (Load cell) v base (f ∷ fs) = refl
  after_is (Store cell x) v base [] = refl
  after_is (Store cell x) v base (f ∷ fs) = refl
  after_is (Folded cell o x slot) v base [] = refl
  after_is (Folded cell o x slot) v base (f ∷ fs) = refl
  after_is (Created o true) v base [] = refl
  after_is (Created o false) v base [] = refl
  after_is (Created o included) v base (f ∷ fs) = refl
  after_is Awaited v base [] = refl
  after_is Awaited v base (f ∷ fs) = refl
  after_is Waited v base [] = refl
  after_is Waited v base (f ∷ fs) = refl
  after_is (WaitedOn named) v base [] = refl
  after_is (WaitedOn named) v base (f ∷ fs) = refl
  after_is (Releases clauses included) v base [] = refl
  after_is (Releases clauses included) v base (f ∷ fs) = refl
  after_is (Printed key text) v base [] = refl
  after_is (Printed key text) v base (f ∷ fs) = refl
  after_is Ended v base [] = refl
  after_is Ended v base (f ∷ fs) = refl
  after_is (Fault kind line key) v base [] = refl
  after_is (Fault kind line key) v base (f ∷ fs) = refl
  after_is Over v base [] = refl
  after_is Over v base (f ∷ fs) = refl

-- Both ask alike.
abbrev pub AskAlike : {S T : Type 0} → (S → T) → Program S → Program T → Type 0
AskAlike {S} {T} move P Q = (s : S) (answers : List ℕ) → moved_asked move (P s answers) ≡ Q (move s) answers

module _ {S T : Type 0} (move : S → T) (P : Program S) (Q : Program T) (alike : AskAlike move P Q) where
  pub ask_is : (f : Frame S) → ask_of Q (moved_frame move f) ≡ moved_asked move (ask_of P f)
  ask_is f = sym (alike f.script f.answers)

  frame_is : (slots : ℕ → Right) (included : Bool) (f : Frame S) (awaits : Bool) → frame_act Q slots included (moved_frame move f) awaits ≡ moved_act move (frame_act P slots included f awaits)
  frame_is slots included f true = refl
  frame_is slots included f false =
      ap (λ x. act_of_ask slots included (moved_frame move f) x.ask x.line) (ask_is f) ∙ ask_act move slots included f (ask_of P f).ask (ask_of P f).line

  stack_is : (slots : ℕ → Right) (base : Frame S) (inner : List (Frame S)) (ended : Bool)
      → stack_act Q slots (moved_frame move base) (map (moved_frame move) inner) ended ≡ moved_act move (stack_act P slots base inner ended)
  stack_is slots base inner true = refl
  stack_is slots base [] false = frame_is slots false base base.awaits
  stack_is slots base (f ∷ fs) false = frame_is slots true f f.awaits

  begun_is : (f : Frame S) (o : Option FaultKind) → create_fault f.context ≡ o → past_ask Q (moved_frame move f) Begin ≡ moved_frame move (past_ask P f Begin)
  begun_is f None e =
      ap (λ x. elim x as (λ u. Frame T) [ None ↦ record (moved_frame move f) { answers = 0 ∷ f.answers } | Some kind ↦ moved_frame move f ]) e
      ∙ sym (ap (λ x. moved_frame move (elim x as (λ u. Frame S) [ None ↦ record f { answers = 0 ∷ f.answers } | Some kind ↦ f ])) e)
  begun_is f (Some kind) e =
      ap (λ x. elim x as (λ u. Frame T) [ None ↦ record (moved_frame move f) { answers = 0 ∷ f.answers } | Some kind ↦ moved_frame move f ]) e
      ∙ sym (ap (λ x. moved_frame move (elim x as (λ u. Frame S) [ None ↦ record f { answers = 0 ∷ f.answers } | Some kind ↦ f ])) e)

  awaited_is : (f : Frame S) (awaits : Bool) → f.awaits ≡ awaits → past_ask Q (moved_frame move f) Await ≡ moved_frame move (past_ask P f Await)
  awaited_is f true e =
      ap (λ x. if x then moved_frame move f else record (moved_frame move f) { answers = 0 ∷ f.answers }) e
      ∙ sym (ap (λ x. moved_frame move (if x then f else record f { answers = 0 ∷ f.answers })) e)
  awaited_is f false e =
      ap (λ x. if x then moved_frame move f else record (moved_frame move f) { answers = 0 ∷ f.answers }) e
      ∙ sym (ap (λ x. moved_frame move (if x then f else record f { answers = 0 ∷ f.answers })) e)

  past_is : (f : Frame S) (a : Ask S) → past_ask Q (moved_frame move f) (moved_ask move a) ≡ moved_frame move (past_ask P f a)
  past_is f Begin = begun_is f (create_fault f.context) refl
  past_is f Tick = refl
  past_is f (Read cell) = refl
  past_is f (Write cell v) = refl
  past_is f (Fold cell o v) = refl
  past_is f (Create o) = refl
  past_is f Await = awaited_is f f.awaits refl
  past_is f Wait = refl
  past_is f (WaitOn named) = refl
  past_is f (Release clauses) = refl
  past_is f (Print text) = refl
  past_is f End = refl
  past_is f (Fails kind) = refl

  silent_is : (f : Frame S) → past_silent Q (moved_frame move f) ≡ moved_frame move (past_silent P f)
  silent_is f = ap (λ x. past_ask Q (moved_frame move f) x.ask) (ask_is f) ∙ past_is f (ask_of P f).ask

  pub settled_is : (f : Frame S) → settled_frame Q (moved_frame move f) ≡ moved_frame move (settled_frame P f)
  settled_is f = ap (λ g. past_silent Q g) (silent_is f) ∙ silent_is (past_silent P f)

  parts_are : (base : Frame S) (inner : List (Frame S)) (ended : Bool)
      → settled_parts Q (moved_frame move base) (map (moved_frame move) inner) ended ≡ moved_stack move (settled_parts P base inner ended)
  parts_are base [] ended = ap {B = Stack T} (λ f. record { base = f; inner = []; ended = ended }) (settled_is base)
  parts_are base (f ∷ fs) ended = ap {B = Stack T} (λ g. record { base = moved_frame move base; inner = g ∷ map (moved_frame move) fs; ended = ended }) (settled_is f)

  next_is : (slots : ℕ → Right) (v : ℕ) (s : Stack S) → next_stack Q slots v (moved_stack move s) ≡ moved_stack move (next_stack P slots v s)
  next_is slots v s =
      let a = stack_act P slots s.base s.inner s.ended in
      let after = stack_after a v s.base s.inner in
      ap (λ x. settled_stack Q (stack_after x v (moved_frame move s.base) (map (moved_frame move) s.inner))) (stack_is slots s.base s.inner s.ended)
      ∙ ap (λ x. settled_stack Q x) (after_is move a v s.base s.inner)
      ∙ parts_are after.base after.inner after.ended

  -- A body of the code stands as the body of the program does.
  pub stands_alike : (b : Start S) (found : List ℕ) → stack_from Q (moved_start move b) found ≡ moved_stack move (stack_from P b found)
  unfolding stack_from
  stands_alike b [] = ap {B = Stack T} (λ f. record { base = f; inner = []; ended = false }) (settled_is (start_frame P b))
  stands_alike b (v ∷ vs) = ap (λ s. next_stack Q (right_of b.context) v s) (stands_alike b vs) ∙ next_is (right_of b.context) v (stack_from P b vs)

  -- So it does the same act next,
  pub acts_alike : (b : Start S) (past : List ℕ) → stage_act Q (moved_start move b) past ≡ moved_act move (stage_act P b past)
  unfolding stage_act act_of
  acts_alike b past =
      ap (λ s. stack_act Q (right_of b.context) s.base s.inner s.ended) (stands_alike b past)
      ∙ stack_is (right_of b.context) (stack_from P b past).base (stack_from P b past).inner (stack_from P b past).ended

  -- and has created as many tasks.
  pub created_alike : (b : Start S) (past : List ℕ) → stage_created Q (moved_start move b) past ≡ stage_created P b past
  unfolding stage_created
  created_alike b past = ap (λ s. s.base.context.created) (stands_alike b past)
