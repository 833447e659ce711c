-- How deep a task stands and what its creator has: it stands as deep as its path is long, a creation that the judge passes makes none deeper than 64, and the creator of a
-- task has a right to each of its cells, which covers that of the task.
use Rattle.std.proofs.Common.{◌≡◌, ℕ, suc, ◌<◌, ◌⊎◌, inl, inr, sym, ap, ◌∙◌, refl, arith, List, [], ◌∷◌, length, Bool, true, false, Option, Some, None}
use Rattle.std.specs.Prelude.{nat_le, ◌||◌}
use Rattle.std.proofs.lemmas.Bool.Decides.{nat_tests}
use Rattle.oss_syntax.specs.declared.access.Mode.{Mode}
use Rattle.oss_syntax.specs.declared.access.Mode.TheVariants.{Read, Write, Fold}
use Rattle.oss_syntax.specs.declared.fault.FaultKind.{FaultKind}
use Rattle.oss_syntax.specs.declared.fault.FaultKind.TheVariants as fault
use Rattle.oss_model.specs.Rights.{Right, Released, Holds, Reads, Writes, Folds, covers, touch_fault}
use Rattle.oss_model.specs.Context.{Context, create_fault, tick_fault, creation_fault, clause_fault, or_else, release_fault, wait_on_fault, right_of, lent_of, mark_of}
use Rattle.oss_model.specs.Bodies.{Order, Ask, Program, Act, Frame, Start, Body, act_of_ask, ask_of, frame_act, stack_act, stack_after, base_after, inner_after, settled_parts, stack_from, act_of, stage_act, child_start}
use Rattle.oss_model.specs.Bodies.Act.{Ticked, Load, Created, WaitedOn, Releases, Ended}
use Rattle.oss_model.specs.History.{IsMade}
use Rattle.oss_model.specs.Machine.{Task, State, At}
use Rattle.oss_model.specs.Moves.{act_now, new_task}
use Rattle.oss_model.proofs.BodyLemmas.{judged_goes, stack_ok}
use Rattle.oss_model.proofs.JudgeLemmas.{Covered, op_eq_is}
use Rattle.oss_model.proofs.RunLemmas.{child_depth}
use Rattle.oss_model.proofs.StageLemmas.{creating}
use Rattle.oss_model.proofs.TerminationTheorem.{after_depth, settled_depth}
use Rattle.oss_model.proofs.TreeLemmas.{at_same, covered_stage}

-- a creation that passes

no_fault : (a b : Option FaultKind) → or_else a b ≡ None → a ≡ None
no_fault None b h = refl
no_fault (Some kind) b h = cc

shallow : (x : Context) → create_fault x ≡ None → x.depth < 64
shallow x h = go (nat_le 64 x.depth) refl
  where
    go : (b : Bool) → nat_le 64 x.depth ≡ b → x.depth < 64
    go true e = let k : Some fault.TooDeep ≡ None = rw e at h in cc
    go false e = grind (arith, nat_tests, e)

created_passed : {S : Type 0} (slots : ℕ → Right) (inc : Bool) (f : Frame S) (k : Ask S) (line : ℕ) (o : Order S) (i : Bool) → act_of_ask slots inc f k line ≡ Created o i → create_fault f.context ≡ None
created_passed slots inc f Ask.Begin line o i h = let k = judged_goes f line (create_fault f.context) _ (Created o i) h (λ s. s) in cc
created_passed slots inc f Ask.Tick line o i h = let k = judged_goes f line (tick_fault f.context) Ticked (Created o i) h (λ s. s) in cc (k.1)
created_passed slots inc f (Ask.Read c) line o i h = let k = judged_goes f line (touch_fault ((right_of f.context) c) ((lent_of f.context) c) ((mark_of f.context) c) Reads) (Load c) (Created o i) h (λ s. s) in cc (k.1)
created_passed slots inc f (Ask.Write c v) line o i h = let k = judged_goes f line (touch_fault ((right_of f.context) c) ((lent_of f.context) c) ((mark_of f.context) c) Writes) _ (Created o i) h (λ s. s) in cc (k.1)
created_passed slots inc f (Ask.Fold c op v) line o i h = let k = judged_goes f line (touch_fault ((right_of f.context) c) ((lent_of f.context) c) ((mark_of f.context) c) (Folds op)) _ (Created o i) h (λ s. s) in cc (k.1)
created_passed slots inc f (Ask.Create p) line o i h =
    let k = judged_goes f line (creation_fault f.context p.clauses (f.context.final || p.last)) (Created p f.context.final) (Created o i) h (λ s. s) in
    no_fault (create_fault f.context) (clause_fault f.context p.clauses (f.context.final || p.last)) k.0
created_passed slots inc f Ask.Await line o i h = cc
created_passed slots inc f Ask.Wait line o i h = cc
created_passed slots inc f (Ask.WaitOn named) line o i h = let k = judged_goes f line (wait_on_fault f.context named) (WaitedOn named) (Created o i) h (λ s. s) in cc (k.1)
created_passed slots inc f (Ask.Release clauses) line o i h = let k = judged_goes f line (release_fault f.context clauses) (Releases clauses inc) (Created o i) h (λ s. s) in cc (k.1)
created_passed slots inc f (Ask.Print text) line o i h = cc
created_passed slots inc f Ask.End line o i h = cc
created_passed slots inc f (Ask.Fails kind) line o i h = cc

frame_passed : {S : Type 0} (P : Program S) (slots : ℕ → Right) (inc : Bool) (f : Frame S) (w : Bool) (o : Order S) (i : Bool) → frame_act P slots inc f w ≡ Created o i → create_fault f.context ≡ None
frame_passed P slots inc f true o i h = cc
frame_passed P slots inc f false o i h = created_passed slots inc f (ask_of P f).ask (ask_of P f).line o i h

stack_passed : {S : Type 0} (P : Program S) (slots : ℕ → Right) (base : Frame S) (inner : List (Frame S)) (over : Bool) (o : Order S) → inner ≡ [] → stack_act P slots base inner over ≡ Created o false → create_fault base.context ≡ None
stack_passed P slots base inner true o e h = cc
stack_passed P slots base [] false o e h = frame_passed P slots false base base.awaits o false h
stack_passed P slots base (f ∷ fs) false o e h = cc

-- an act keeps how deep a body's own task stands

base_depth : {S : Type 0} (a : Act S) (v : ℕ) (base : Frame S) → (base_after a v base).base.context.depth ≡ base.context.depth
base_depth Ended v base = refl
base_depth (Created o true) v base = refl
base_depth (Created o false) v base = after_depth (Created o false) v base
base_depth _ v base = refl

inner_depth : {S : Type 0} (a : Act S) (v : ℕ) (base f : Frame S) (fs : List (Frame S)) → (inner_after a v base f fs).base.context.depth ≡ base.context.depth
inner_depth Ended v base f fs = refl
inner_depth (Created o i) v base f fs = refl
inner_depth _ v base f fs = refl

after_stack_depth : {S : Type 0} (a : Act S) (v : ℕ) (base : Frame S) (inner : List (Frame S)) → (stack_after a v base inner).base.context.depth ≡ base.context.depth
after_stack_depth a v base [] = base_depth a v base
after_stack_depth a v base (f ∷ fs) = inner_depth a v base f fs

parts_depth : {S : Type 0} (P : Program S) (base : Frame S) (inner : List (Frame S)) (over : Bool) → (settled_parts P base inner over).base.context.depth ≡ base.context.depth
parts_depth P base [] over = settled_depth P base
parts_depth P base (f ∷ fs) over = refl

stage_depth : {S : Type 0} (P : Program S) (b : Start S) (past : List ℕ) → (stack_from P b past).base.context.depth ≡ b.context.depth
unfolding stack_from
stage_depth P b [] = settled_depth P _
stage_depth P b (v ∷ past) =
    let x = stack_from P b past in
    let n = stack_after (stack_act P (right_of b.context) x.base x.inner x.ended) v x.base x.inner in
    parts_depth P n.base n.inner n.ended ∙ (after_stack_depth (stack_act P (right_of b.context) x.base x.inner x.ended) v x.base x.inner ∙ stage_depth P b past)

-- a task stands as deep as its path is long
pub path_depth : {S : Type 0} (P : Program S) (main : Start S) (s : State S) → IsMade P main s → main.context.depth ≡ 0 → (p : List ℕ) (t : Task S) → At s p t → t.body.start.context.depth ≡ length p
path_depth P main s made zero_ [] t h = ap (λ (x : Start _). x.context.depth) (ap (λ (x : Task _). x.body.start) (at_same s [] t made.main_task h made.main_at) ∙ made.main_start) ∙ zero_
path_depth P main s made zero_ (k ∷ p) t h =
    let b = made.child k p t h in
    let d = path_depth P main s made zero_ p b.creator b.at_ in
    let e = stage_depth P b.creator.body.start b.past in
    let c = child_depth (stack_from P b.creator.body.start b.past).base b.order in
    let f : t.body.start.context.depth ≡ (child_start (stack_from P b.creator.body.start b.past).base b.order).context.depth = ap (λ (x : Start _). x.context.depth) b.start in
    let one : length (k ∷ p) ≡ suc (length p) = refl in
    omega (arith, d, e, c, f, one)

-- a body before a creation stands less deep than 64
pub creates_shallow : {S : Type 0} (P : Program S) (b : Body S) (o : Order S) → act_now P b ≡ Created o false → b.start.context.depth < 64
unfolding stage_act act_of
creates_shallow P b o act =
    let s = stack_from P b.start b.found in
    let none = stack_passed P (right_of b.start.context) s.base s.inner s.ended o (creating P b.start b.found o act).alone act in
    let d = shallow s.base.context none in
    let same = stage_depth P b.start b.found in
    omega (arith, d, same)

-- the right of the creator

held_before : (x now : Right) (m : Mode) (strong : Bool) → (now ≡ x) ⊎ (now ≡ Released) → now ≡ Holds m strong → x ≡ Holds m strong
held_before x now m strong (inl e) h = sym e ∙ h
held_before x now m strong (inr e) h = cc

pub creator_right : {S : Type 0} (P : Program S) (b : Body S) (o : Order S) → act_now P b ≡ Created o false → (c : ℕ) (m : Mode) (strong : Bool) → right_of (new_task P b o).body.start.context c ≡ Holds m strong → Covered (right_of b.start.context c) m
creator_right P b o act c m strong right =
    let x = covered_stage P c m strong (record { body = b; given = [] }) b.found o (creating P b.start b.found o act) (new_task P b o) refl right in
    record {
      mode = x.mode;
      strong = x.strong;
      holds = held_before (right_of b.start.context c) (right_of (stack_from P b.start b.found).base.context c) x.mode x.strong ((stack_ok P b.start b.found).right c) x.holds;
      covers = x.covers;
    }

-- a mode that covers another writes, or is that one
pub covers_is : (a b : Mode) → covers a b ≡ true → (a ≡ Write) ⊎ (a ≡ b)
covers_is Write m h = inl refl
covers_is Read Read h = inr refl
covers_is Read Write h = cc
covers_is Read (Fold op) h = cc
covers_is (Fold a) Read h = cc
covers_is (Fold a) Write h = cc
covers_is (Fold a) (Fold b) h = inr (ap (λ z. Fold z) (op_eq_is a b h))
