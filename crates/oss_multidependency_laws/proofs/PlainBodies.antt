-- Two programs that ask alike, each cell of a creation in an access of its own: their bodies do the same acts, the clauses written alike.
use Rattle.std.proofs.Common.{◌≡◌, ◌∙◌, ℕ, Bool, true, false, List, [], ◌∷◌, Option, Some, None, refl, sym, ap, subst}
use Rattle.std.specs.Prelude.{if◌then◌else◌, ◌||◌}
use Rattle.oss_syntax.specs.declared.fault.FaultKind.{FaultKind}
use Rattle.oss_model.specs.Bodies.{Act, Ask, Frame, Order, Program, Stack, Start, act_of, act_of_ask, after_creation, answered_frame, ask_of, child_frame, frame_act, including_frame, judged_act, lent_when, next_stack, one_more_created, past_ask, past_silent, settled_frame, settled_parts, settled_stack, stack_act, stack_after, stack_from, stage_act, stage_created, start_frame, with_context}
use Rattle.oss_model.specs.Bodies.Ask.{Await, Begin, Create, End, Fails, Fold, Print, Read, Release, Tick, Wait, WaitOn, Write}
use Rattle.oss_model.specs.Bodies.Act.{Awaited, Created, Ended, Fault, Folded, Load, Over, Printed, Releases, Store, Ticked, Waited, WaitedOn}
use Rattle.oss_model.specs.Context.{create_fault, made, right_of}
use Rattle.oss_model.specs.Rights.{Right}
use Rattle.oss_multidependency_laws.specs.Grouping.{plain_ask, plain_asked, plain_order, plain_start, singles}
use Rattle.oss_multidependency_laws.proofs.Singles.{child_same, creation_same, release_fault_same, release_same, wait_fault_same, waited_same}

-- the same act
abbrev pub plain_act : {S : Type 0} → Act S → Act S
plain_act Ticked = Ticked
plain_act (Load cell) = Load cell
plain_act (Store cell v) = Store cell v
plain_act (Folded cell o v slot) = Folded cell o v slot
plain_act (Created o included) = Created (plain_order o) included
plain_act Awaited = Awaited
plain_act Waited = Waited
plain_act (WaitedOn named) = WaitedOn (singles named)
plain_act (Releases clauses included) = Releases (singles clauses) included
plain_act (Printed key text) = Printed key text
plain_act Ended = Ended
plain_act (Fault kind line key) = Fault kind line key
plain_act Over = Over

-- the script that a creation runs is one of these
abbrev pub IsGoodAsk : {S : Type 0} → (S → Type 0) → Ask S → Type 0
IsGoodAsk Good (Create o) = Good o.script
IsGoodAsk Good _ = Unit {0}

abbrev pub IsGoodAct : {S : Type 0} → (S → Type 0) → Act S → Type 0
IsGoodAct Good (Created o included) = Good o.script
IsGoodAct Good _ = Unit {0}

module _ {S : Type 0} where
  judged : (f : Frame S) (line : ℕ) (o : Option FaultKind) (a : Act S) → judged_act f line o (plain_act a) ≡ plain_act (judged_act f line o a)
  judged f line None a = refl
  judged f line (Some kind) a = refl

  ask_act : (slots : ℕ → Right) (included : Bool) (f : Frame S) (a : Ask S) (line : ℕ) → act_of_ask slots included f (plain_ask a) line ≡ plain_act (act_of_ask slots included f a line)
  ask_act slots included f Begin line = judged f line _ (Fault _ _ _)
  ask_act slots included f Tick line = judged f line _ Ticked
  ask_act slots included f (Read cell) line = judged f line _ (Load cell)
  ask_act slots included f (Write cell v) line = judged f line _ (Store cell _)
  ask_act slots included f (Fold cell o v) line = judged f line _ (Folded cell o _ _)
  ask_act slots included f (Create o) line =
      ap (λ k. judged_act f line k (Created (plain_order o) f.context.final)) (creation_same f.context o.clauses (f.context.final || o.last))
      ∙ judged f line _ (Created o _)
  ask_act slots included f Await line = refl
  ask_act slots included f Wait line = refl
  ask_act slots included f (WaitOn named) line = ap (λ k. judged_act f line k (WaitedOn (singles named))) (wait_fault_same f.context named) ∙ judged f line _ (WaitedOn named)
  ask_act slots included f (Release clauses) line =
      ap (λ k. judged_act f line k (Releases (singles clauses) included)) (release_fault_same f.context clauses) ∙ judged f line _ (Releases clauses included)
  ask_act slots included f (Print text) line = refl
  ask_act slots included f End line = refl
  ask_act slots included f (Fails kind) line = refl

  pub child_frame_same : (f : Frame S) (o : Order S) → child_frame f (plain_order o) ≡ child_frame f o
  child_frame_same f o = ap {B = Frame S} (λ x. record { script = o.script; context = x; path = f.context.created ∷ f.path; answers = []; awaits = false }) (child_same f.context o.clauses o.last)

  creation_is : (f : Frame S) (o : Order S) → after_creation (plain_order o) f ≡ after_creation o f
  creation_is f o =
      ap {B = Frame S} (λ x. record (after_creation o f) { context = made (right_of x) (lent_when o.when (right_of x) (one_more_created f.context)) }) (child_same f.context o.clauses o.last)

  including_is : (f : Frame S) (o : Order S) → including_frame (plain_order o) f ≡ including_frame o f
  including_is f o = ap {B = Frame S} (λ x. record (including_frame o f) { context = made (right_of x) (one_more_created f.context) }) (child_same f.context o.clauses o.last)

  after_is : (a : Act S) (v : ℕ) (base : Frame S) (inner : List (Frame S)) → stack_after (plain_act a) v base inner ≡ stack_after a v base inner
  after_is (Created o true) v base [] = λ i. record { base = including_is base o i; inner = child_frame_same base o i ∷ []; ended = false }
  after_is (Created o false) v base [] = λ i. record { base = creation_is base o i; inner = []; ended = false }
  after_is (Created o included) v base (f ∷ fs) = λ i. record { base = base; inner = child_frame_same f o i ∷ including_is f o i ∷ fs; ended = false }
  after_is Ticked v base [] = refl
  after_is Ticked v base (f ∷ fs) = refl
  after_is (Load cell) v base [] = refl
  after_is (Load cell) v base (f ∷ fs) = refl
  after_is (Store cell x) v base [] = refl
  after_is (Store cell x) v base (f ∷ fs) = refl
  after_is (Folded cell o x slot) v base [] = refl
  after_is (Folded cell o x slot) v base (f ∷ fs) = refl
  after_is Awaited v base [] = refl
  after_is Awaited v base (f ∷ fs) = refl
  after_is Waited v base [] = refl
  after_is Waited v base (f ∷ fs) = refl
  after_is (WaitedOn named) v base [] = λ i. record { base = answered_frame v (with_context (waited_same base.context named i) base); inner = []; ended = false }
  after_is (WaitedOn named) v base (f ∷ fs) = λ i. record { base = base; inner = answered_frame v (with_context (waited_same f.context named i) f) ∷ fs; ended = false }
  after_is (Releases clauses included) v base [] = λ i. record { base = answered_frame v (with_context (release_same base.context clauses i) base); inner = []; ended = false }
  after_is (Releases clauses included) v base (f ∷ fs) = λ i. record { base = base; inner = answered_frame v (with_context (release_same f.context clauses i) f) ∷ fs; ended = false }
  after_is (Printed key text) v base [] = refl
  after_is (Printed key text) v base (f ∷ fs) = refl
  after_is Ended v base [] = refl
  after_is Ended v base (f ∷ fs) = refl
  after_is (Fault kind line key) v base [] = refl
  after_is (Fault kind line key) v base (f ∷ fs) = refl
  after_is Over v base [] = refl
  after_is Over v base (f ∷ fs) = refl

-- Scripts that are good

module _ {S : Type 0} (Good : S → Type 0) where
  abbrev pub AllGood : List (Frame S) → Type 0
  AllGood [] = Unit {0}
  AllGood (f ∷ fs) = Good f.script × AllGood fs

  pub record IsGoodStack (s : Stack S) : Type 0 where
    pub base : Good s.base.script
    pub inner : AllGood s.inner

  judged_good : (f : Frame S) (line : ℕ) (o : Option FaultKind) (a : Act S) → IsGoodAct Good a → IsGoodAct Good (judged_act f line o a)
  judged_good f line None a h = h
  judged_good f line (Some kind) a h = tt

  ask_good : (slots : ℕ → Right) (included : Bool) (f : Frame S) (a : Ask S) (line : ℕ) → IsGoodAsk Good a → IsGoodAct Good (act_of_ask slots included f a line)
  ask_good slots included f Begin line h = judged_good f line _ (Fault _ _ _) tt
  ask_good slots included f Tick line h = judged_good f line _ Ticked tt
  ask_good slots included f (Read cell) line h = judged_good f line _ (Load cell) tt
  ask_good slots included f (Write cell v) line h = judged_good f line _ (Store cell _) tt
  ask_good slots included f (Fold cell o v) line h = judged_good f line _ (Folded cell o _ _) tt
  ask_good slots included f (Create o) line h = judged_good f line _ (Created o _) h
  ask_good slots included f Await line h = tt
  ask_good slots included f Wait line h = tt
  ask_good slots included f (WaitOn named) line h = judged_good f line _ (WaitedOn named) tt
  ask_good slots included f (Release clauses) line h = judged_good f line _ (Releases clauses included) tt
  ask_good slots included f (Print text) line h = tt
  ask_good slots included f End line h = tt
  ask_good slots included f (Fails kind) line h = tt

  after_good : (a : Act S) (v : ℕ) (base : Frame S) (inner : List (Frame S)) → IsGoodAct Good a → Good base.script → AllGood inner → IsGoodStack (stack_after a v base inner)
  after_good (Created o true) v base [] h b fs = record { base = b; inner = (h, tt) }
  after_good (Created o false) v base [] h b fs = record { base = b; inner = tt }
  after_good (Created o included) v base (f ∷ fs) h b gs = record { base = b; inner = (h, (gs.0, gs.1)) }
  after_good Ticked v base [] h b fs = record { base = b; inner = tt }
  after_good Ticked v base (f ∷ fs) h b gs = record { base = b; inner = gs }
  after_good (Load cell) v base [] h b fs = record { base = b; inner = tt }
  after_good (Load cell) v base (f ∷ fs) h b gs = record { base = b; inner = gs }
  after_good (Store cell x) v base [] h b fs = record { base = b; inner = tt }
  after_good (Store cell x) v base (f ∷ fs) h b gs = record { base = b; inner = gs }
  after_good (Folded cell o x slot) v base [] h b fs = record { base = b; inner = tt }
  after_good (Folded cell o x slot) v base (f ∷ fs) h b gs = record { base = b; inner = gs }
  after_good Awaited v base [] h b fs = record { base = b; inner = tt }
  after_good Awaited v base (f ∷ fs) h b gs = record { base = b; inner = gs }
  after_good Waited v base [] h b fs = record { base = b; inner = tt }
  after_good Waited v base (f ∷ fs) h b gs = record { base = b; inner = gs }
  after_good (WaitedOn named) v base [] h b fs = record { base = b; inner = tt }
  after_good (WaitedOn named) v base (f ∷ fs) h b gs = record { base = b; inner = gs }
  after_good (Releases clauses included) v base [] h b fs = record { base = b; inner = tt }
  after_good (Releases clauses included) v base (f ∷ fs) h b gs = record { base = b; inner = gs }
  after_good (Printed key text) v base [] h b fs = record { base = b; inner = tt }
  after_good (Printed key text) v base (f ∷ fs) h b gs = record { base = b; inner = gs }
  after_good Ended v base [] h b fs = record { base = b; inner = tt }
  after_good Ended v base (f ∷ fs) h b gs = record { base = b; inner = gs.1 }
  after_good (Fault kind line key) v base [] h b fs = record { base = b; inner = tt }
  after_good (Fault kind line key) v base (f ∷ fs) h b gs = record { base = b; inner = gs }
  after_good Over v base [] h b fs = record { base = b; inner = tt }
  after_good Over v base (f ∷ fs) h b gs = record { base = b; inner = gs }

  -- an ask that is passed leaves the script
  passed_script : (P : Program S) (f : Frame S) (a : Ask S) → (past_ask P f a).script ≡ f.script
  passed_script P f Begin = by (create_fault f.context)
    where
      by : (o : Option FaultKind) → (elim o as (λ u. Frame S) [ None ↦ record f { answers = 0 ∷ f.answers } | Some kind ↦ f ]).script ≡ f.script
      by None = refl
      by (Some kind) = refl
  passed_script P f Await = by f.awaits
    where
      by : (b : Bool) → (if b then f else record f { answers = 0 ∷ f.answers }).script ≡ f.script
      by true = refl
      by false = refl
  passed_script P f Tick = refl
  passed_script P f (Read cell) = refl
  passed_script P f (Write cell v) = refl
  passed_script P f (Fold cell o v) = refl
  passed_script P f (Create o) = refl
  passed_script P f Wait = refl
  passed_script P f (WaitOn named) = refl
  passed_script P f (Release clauses) = refl
  passed_script P f (Print text) = refl
  passed_script P f End = refl
  passed_script P f (Fails kind) = refl

  settled_script : (P : Program S) (f : Frame S) → (settled_frame P f).script ≡ f.script
  settled_script P f = passed_script P (past_silent P f) (ask_of P (past_silent P f)).ask ∙ passed_script P f (ask_of P f).ask

  settled_good : (P : Program S) (f : Frame S) → Good f.script → Good (settled_frame P f).script
  settled_good P f h = subst Good (sym (settled_script P f)) h

  parts_good : (P : Program S) (base : Frame S) (inner : List (Frame S)) (ended : Bool) → Good base.script → AllGood inner → IsGoodStack (settled_parts P base inner ended)
  parts_good P base [] ended b fs = record { base = settled_good P base b; inner = tt }
  parts_good P base (f ∷ fs) ended b gs = record { base = b; inner = (settled_good P f gs.0, gs.1) }

-- The two programs ask alike of good scripts, and create with good scripts alone.
pub record AskAlike {S : Type 0} (P N : Program S) : Type 1 where
  pub Good : S → Type 0
  pub alike : (s : S) → Good s → (answers : List ℕ) → plain_asked (P s answers) ≡ N s answers
  pub stays : (s : S) → Good s → (answers : List ℕ) → IsGoodAsk Good (P s answers).ask

module _ {S : Type 0} (P N : Program S) (of : AskAlike P N) where
  abbrev Good : S → Type 0
  Good = of.Good

  ask_is : (f : Frame S) → Good f.script → ask_of N f ≡ plain_asked (ask_of P f)
  ask_is f h = sym (of.alike f.script h f.answers)

  frame_is : (slots : ℕ → Right) (included : Bool) (f : Frame S) (awaits : Bool) → Good f.script → frame_act N slots included f awaits ≡ plain_act (frame_act P slots included f awaits)
  frame_is slots included f true h = refl
  frame_is slots included f false h = ap (λ x. act_of_ask slots included f x.ask x.line) (ask_is f h) ∙ ask_act slots included f (ask_of P f).ask (ask_of P f).line

  frame_good : (slots : ℕ → Right) (included : Bool) (f : Frame S) (awaits : Bool) → Good f.script → IsGoodAct Good (frame_act P slots included f awaits)
  frame_good slots included f true h = tt
  frame_good slots included f false h = ask_good Good slots included f (ask_of P f).ask (ask_of P f).line (of.stays f.script h f.answers)

  stack_is : (slots : ℕ → Right) (base : Frame S) (inner : List (Frame S)) (ended : Bool) → Good base.script → AllGood Good inner → stack_act N slots base inner ended ≡ plain_act (stack_act P slots base inner ended)
  stack_is slots base inner true b fs = refl
  stack_is slots base [] false b fs = frame_is slots false base base.awaits b
  stack_is slots base (f ∷ fs) false b gs = frame_is slots true f f.awaits gs.0

  stack_good : (slots : ℕ → Right) (base : Frame S) (inner : List (Frame S)) (ended : Bool) → Good base.script → AllGood Good inner → IsGoodAct Good (stack_act P slots base inner ended)
  stack_good slots base inner true b fs = tt
  stack_good slots base [] false b fs = frame_good slots false base base.awaits b
  stack_good slots base (f ∷ fs) false b gs = frame_good slots true f f.awaits gs.0

  past_is : (f : Frame S) (a : Ask S) → past_ask N f (plain_ask a) ≡ past_ask P f a
  past_is f Begin = refl
  past_is f Tick = refl
  past_is f (Read cell) = refl
  past_is f (Write cell v) = refl
  past_is f (Fold cell o v) = refl
  past_is f (Create o) = refl
  past_is f Await = refl
  past_is f Wait = refl
  past_is f (WaitOn named) = refl
  past_is f (Release clauses) = refl
  past_is f (Print text) = refl
  past_is f End = refl
  past_is f (Fails kind) = refl

  silent_is : (f : Frame S) → Good f.script → past_silent N f ≡ past_silent P f
  silent_is f h = ap (λ x. past_ask N f x.ask) (ask_is f h) ∙ past_is f (ask_of P f).ask

  settled_is : (f : Frame S) → Good f.script → settled_frame N f ≡ settled_frame P f
  settled_is f h = ap (λ g. past_silent N g) (silent_is f h) ∙ silent_is (past_silent P f) (subst Good (sym (passed_script Good P f (ask_of P f).ask)) h)

  parts_are : (base : Frame S) (inner : List (Frame S)) (ended : Bool) → Good base.script → AllGood Good inner → settled_parts N base inner ended ≡ settled_parts P base inner ended
  parts_are base [] ended b fs = ap {B = Stack S} (λ f. record { base = f; inner = []; ended = ended }) (settled_is base b)
  parts_are base (f ∷ fs) ended b gs = ap {B = Stack S} (λ g. record { base = base; inner = g ∷ fs; ended = ended }) (settled_is f gs.0)

  -- a stage of a body: the same in both, and good
  pub record Stands (b : Start S) (found : List ℕ) : Type 0 where
    pub same : stack_from N (plain_start b) found ≡ stack_from P b found
    pub good : IsGoodStack Good (stack_from P b found)

  next_is : (slots : ℕ → Right) (v : ℕ) (s : Stack S) → IsGoodStack Good s → next_stack N slots v s ≡ next_stack P slots v s
  next_is slots v s g =
      let a = stack_act P slots s.base s.inner s.ended in
      let after = after_good Good a v s.base s.inner (stack_good slots s.base s.inner s.ended g.base g.inner) g.base g.inner in
      ap (λ x. settled_stack N (stack_after x v s.base s.inner)) (stack_is slots s.base s.inner s.ended g.base g.inner)
      ∙ ap (λ x. settled_stack N x) (after_is a v s.base s.inner)
      ∙ parts_are (stack_after a v s.base s.inner).base (stack_after a v s.base s.inner).inner (stack_after a v s.base s.inner).ended after.base after.inner

  next_good : (slots : ℕ → Right) (v : ℕ) (s : Stack S) → IsGoodStack Good s → IsGoodStack Good (next_stack P slots v s)
  next_good slots v s g =
      let a = stack_act P slots s.base s.inner s.ended in
      let after = after_good Good a v s.base s.inner (stack_good slots s.base s.inner s.ended g.base g.inner) g.base g.inner in
      parts_good Good P (stack_after a v s.base s.inner).base (stack_after a v s.base s.inner).inner (stack_after a v s.base s.inner).ended after.base after.inner

  pub stands_alike : (b : Start S) → Good b.order.script → (found : List ℕ) → Stands b found
  unfolding stack_from
  stands_alike b h [] = record {
    same = ap {B = Stack S} (λ f. record { base = f; inner = []; ended = false }) (settled_is (start_frame P b) h);
    good = record { base = settled_good Good P (start_frame P b) h; inner = tt };
  }
  stands_alike b h (v ∷ vs) =
      let before = stands_alike b h vs in record {
        same = ap (λ s. next_stack N (right_of b.context) v s) before.same ∙ next_is (right_of b.context) v (stack_from P b vs) before.good;
        good = next_good (right_of b.context) v (stack_from P b vs) before.good;
      }

  -- So it does the same act next,
  pub acts_alike : (b : Start S) → Good b.order.script → (past : List ℕ) → stage_act N (plain_start b) past ≡ plain_act (stage_act P b past)
  unfolding stage_act act_of
  acts_alike b h past =
      let stands = stands_alike b h past in
      ap (λ s. stack_act N (right_of b.context) s.base s.inner s.ended) stands.same
      ∙ stack_is (right_of b.context) (stack_from P b past).base (stack_from P b past).inner (stack_from P b past).ended stands.good.base stands.good.inner

  pub acts_good : (b : Start S) → Good b.order.script → (past : List ℕ) → IsGoodAct Good (stage_act P b past)
  unfolding stage_act act_of
  acts_good b h past =
      let stands = stands_alike b h past in
      stack_good (right_of b.context) (stack_from P b past).base (stack_from P b past).inner (stack_from P b past).ended stands.good.base stands.good.inner

  -- and has created as many tasks.
  pub created_alike : (b : Start S) → Good b.order.script → (past : List ℕ) → stage_created N (plain_start b) past ≡ stage_created P b past
  unfolding stage_created
  created_alike b h past = ap (λ s. s.base.context.created) (stands_alike b h past).same
