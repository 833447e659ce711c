-- A body of code that follows a run of the tree: where its instructions stand, and what one of them does.
use Rattle.std.proofs.Common.{◌≡◌, ◌∙◌, ℕ, suc, ◌+◌, ◌<◌, ◌≤◌, List, [], ◌∷◌, ◌++◌, length, Option, Some, None, true, false, ap, subst, arith, Result, Ok, Err}
use Rattle.std.specs.Prelude.{nat_le, if◌then◌else◌, slice_get, slice_index_or}
use Rattle.oss_syntax.specs.declared.fault.FaultKind.{FaultKind}
use Rattle.oss_syntax.specs.declared.fault.FaultKind.TheVariants as fault
use Rattle.oss_syntax.specs.declared.tree.program.Item.{Item}
use Rattle.oss_model.specs.Bodies.{Ask}
use Rattle.oss_model.specs.Bodies.Ask.{Fails}
use Rattle.oss_meaning.specs.declared.value.Value.{Value}
use Rattle.oss_meaning.specs.Clauses.{Made, nothing_made}
use Rattle.oss_meaning.specs.Expressions.{Calls, Going, Here, TaskBody, TreeRun, TreeScript, at_cell, is_task_function, unless_fault}
use Rattle.oss_meaning.specs.Names.{functions_of}
use Rattle.oss_meaning.specs.Pointers.{cell_of, extents_of}
use Rattle.oss_meaning.specs.Runs.{asking, ending}
use Rattle.oss_code.specs.Globals.{extents_in}
use Rattle.oss_code.specs.declared.code.CodeParts.{CodeParts}
use Rattle.oss_machine.specs.Frames.{Config, Frame, Turning, counted, first_frame, open_functions}
use Rattle.oss_machine.specs.Steps.{On, Stops, Asks, Effect, Waits, after_effect, effect, entry_of, line_of_newest, one_step, onward, or_line, spawned, step_at, touched, unless_failed}
use Rattle.oss_lower_laws.specs.declared.lined.Lined.{Lined}
use Rattle.oss_lower_laws.specs.Programs.{moved_ask}
use Rattle.oss_lower_laws.proofs.StepLemmas.{Follows, fewer_follow, follow_goes, follow_stays, follow_waits}

-- This instruction stands at this place of the code, with its line.
pub record IsAt (code : CodeParts) (pc : ℕ) (x : Lined) : Type 0 where
  pub instr : slice_get code.instrs pc ≡ Some x.what
  pub line : slice_index_or code.lines pc 0 ≡ x.line

-- These instructions stand there from this place on.
abbrev pub HasAt : CodeParts → ℕ → List Lined → Type 0
HasAt code pc [] = Unit {0}
HasAt code pc (x ∷ xs) = IsAt code pc x × HasAt code (pc + 1) xs

pub has_front : (code : CodeParts) (pc : ℕ) (a b : List Lined) → HasAt code pc (a ++ b) → HasAt code pc a
has_front code pc [] b h = tt
has_front code pc (x ∷ a) b h = (h.0, has_front code (pc + 1) a b h.1)

pub has_back : (code : CodeParts) (pc : ℕ) (a b : List Lined) → HasAt code pc (a ++ b) → HasAt code (pc + length a) b
has_back code pc [] b h = let e : pc ≡ pc + 0 = omega arith in subst (λ n. HasAt code n b) e h
has_back code pc (x ∷ a) b h =
    let e : pc + 1 + length a ≡ pc + length (x ∷ a) = omega arith in
    subst (λ n. HasAt code n b) e (has_back code (pc + 1) a b h.1)

-- What a frame has beside its place, its values and the line of its call.
pub record Side : Type 0 where
  pub locals : List Value
  pub made : Made
  pub turning : Option Turning

abbrev pub framed : Option ℕ → ℕ → List Value → Side → Frame
framed cl pc stack b = record { at = pc; stack = stack; locals = b.locals; made = b.made; turning = b.turning; call_line = cl }

-- inside a directive whose clauses have given this, with no multidependency under way
abbrev pub kept : List Value → Made → Side
kept locals made = record { locals = locals; made = made; turning = None }

-- between directives
abbrev pub plain : List Value → Side
plain locals = kept locals nothing_made

-- What calls do for so many answers: the code of a function follows what its body means.
abbrev pub CallsDo : List Item → CodeParts → (TaskBody → ℕ) → ℕ → Calls → Type 0
CallsDo all code places m call = (f frames : ℕ) (arguments : List Value) (k : Frame) (ks : List Frame) (go : Value → TreeRun)
    → is_task_function (slice_get (functions_of all) f) ≡ false → frames ≡ suc (open_functions (k ∷ ks)) → nat_le 257 frames ≡ false
    → ((v : Value) → Follows code places m (record { frame = onward (v ∷ k.stack) k; callers = ks }) (go v))
    → Follows code places m (record { frame = first_frame None (entry_of code f) arguments; callers = k ∷ ks }) (call f arguments frames go)

-- What calls of task functions do: a step that goes to a creation, or fails in one.
abbrev pub CreatesDo : List Item → CodeParts → (TaskBody → ℕ) → ℕ → Option ℕ → List Frame → (ℕ → List Value → ℕ → Going) → Type 0
CreatesDo all code places n cl callers create = (f line pc : ℕ) (arguments stack rest : List Value) (b : Side) (go : Value → TreeRun)
    → is_task_function (slice_get (functions_of all) f) ≡ true
    → one_step code (record { frame = framed cl pc stack b; callers = callers })
    ≡ after_effect (spawned cl (entry_of code f) arguments (framed cl pc rest b)) (or_line cl line) (record { frame = framed cl pc stack b; callers = callers })
    → ((v : Value) → Follows code places n (record { frame = framed cl (pc + 1 + 0) (v ∷ rest) b; callers = callers }) (go v))
    → Follows code places n (record { frame = framed cl pc stack b; callers = callers }) (create f arguments (or_line cl line) go)

-- A body inside a function, or inside a creation at the call of a task function: the code and the callers, and what is known of both for so
-- many answers.
pub record Standing (all : List Item) (n : ℕ) (cl : Option ℕ) : Type 0 where
  pub code : CodeParts
  pub places : TaskBody → ℕ
  pub callers : List Frame
  pub here : Here
  pub globals : extents_in code.globals ≡ extents_of all
  pub fits : nat_le 257 (counted cl + open_functions callers) ≡ false
  pub frames : here.frames ≡ counted cl + open_functions callers
  pub turns : n ≤ here.turns
  pub calls : (m : ℕ) → m < n → CallsDo all code places m here.call
  pub creates : (m : ℕ) → m ≤ n → CreatesDo all code places m cl callers here.create

-- for fewer answers no less is known
abbrev pub fewer : {all : List Item} {n : ℕ} {cl : Option ℕ} (S : Standing all n cl) (m : ℕ) → m ≤ n → Standing all m cl
fewer S m le = record {
  code = S.code;
  places = S.places;
  callers = S.callers;
  here = S.here;
  globals = S.globals;
  fits = S.fits;
  frames = S.frames;
  turns = omega (arith, S.turns, le);
  calls = λ k h. S.calls k (omega (arith, h, le));
  creates = λ k h. S.creates k (omega (arith, h, le));
}

module _ {all : List Item} {n : ℕ} {cl : Option ℕ} (S : Standing all n cl) where
  -- the body at a place of the code
  abbrev pub body_at : ℕ → List Value → Side → Config
  body_at pc stack b = record { frame = framed cl pc stack b; callers = S.callers }

  -- the body there follows the run
  abbrev pub Comes : ℕ → List Value → Side → TreeRun → Type 0
  Comes pc stack b r = Follows S.code S.places n (body_at pc stack b) r

  pub step_is : (pc : ℕ) (stack : List Value) (b : Side) (x : Lined) → IsAt S.code pc x
      → one_step S.code (body_at pc stack b) ≡ after_effect (effect S.code (framed cl pc stack b) x.what) (or_line cl x.line) (body_at pc stack b)
  step_is pc stack b x e =
      ap (λ t. if t then Waits (record { ask = Fails fault.TooDeep; line = line_of_newest S.code S.callers }) (λ u. body_at pc stack b) else step_at S.code (body_at pc stack b) (slice_get S.code.instrs pc)) S.fits
      ∙ ap (λ o. step_at S.code (body_at pc stack b) o) e.instr
      ∙ ap (λ l. after_effect (effect S.code (framed cl pc stack b) x.what) (or_line cl l) (body_at pc stack b)) e.line

  -- the same where the effect is known
  pub step_by : (pc : ℕ) (stack : List Value) (b : Side) (x : Lined) (f : Effect) → IsAt S.code pc x → effect S.code (framed cl pc stack b) x.what ≡ f
      → one_step S.code (body_at pc stack b) ≡ after_effect f (or_line cl x.line) (body_at pc stack b)
  step_by pc stack b x f e is = step_is pc stack b x e ∙ ap (λ o. after_effect o (or_line cl x.line) (body_at pc stack b)) is

  pub comes_at : (pc to : ℕ) (stack : List Value) (b : Side) (r : TreeRun) → to ≡ pc → Comes to stack b r → Comes pc stack b r
  comes_at pc to stack b r e = subst (λ p. Comes p stack b r) e

  -- a silent instruction, wherever it leads
  pub comes_to : (pc to : ℕ) (stack more : List Value) (b c : Side) (x : Lined) (r : TreeRun) → IsAt S.code pc x
      → effect S.code (framed cl pc stack b) x.what ≡ On (framed cl to more c) → Comes to more c r → Comes pc stack b r
  comes_to pc to stack more b c x r e is comes = follow_goes S.code S.places n (body_at pc stack b) (body_at to more c) r (step_by pc stack b x _ e is) comes

  -- one that leads on
  pub comes_on : (pc skip to : ℕ) (stack more : List Value) (b c : Side) (x : Lined) (r : TreeRun) → IsAt S.code pc x
      → effect S.code (framed cl pc stack b) x.what ≡ On (framed cl (pc + 1 + skip) more c) → to ≡ pc + 1 + skip → Comes to more c r → Comes pc stack b r
  comes_on pc skip to stack more b c x r e is t comes = comes_to pc (pc + 1 + skip) stack more b c x r e is (comes_at (pc + 1 + skip) to more c r t comes)

  -- an instruction that asks, and goes on with the answer
  pub comes_asking : (pc to : ℕ) (stack : List Value) (more : ℕ → List Value) (b c : Side) (x : Lined) (a : Ask TreeScript) (go : ℕ → TreeRun) → IsAt S.code pc x
      → effect S.code (framed cl pc stack b) x.what ≡ Asks (moved_ask S.places a) (λ v. framed cl (pc + 1 + 0) (more v) c) → to ≡ pc + 1
      → ((v : ℕ) → Comes to (more v) c (go v)) → Comes pc stack b (asking a (or_line cl x.line) go)
  comes_asking pc to stack more b c x a go e is t comes =
      follow_waits S.code S.places n (body_at pc stack b) a (or_line cl x.line) go (λ v. body_at (pc + 1 + 0) (more v) c) (step_by pc stack b x _ e is)
      (λ m v h. fewer_follow S.code S.places m n (body_at (pc + 1 + 0) (more v) c) (go v) (omega (arith, h)) (comes_at (pc + 1 + 0) to (more v) c (go v) (omega (arith, t)) (comes v)))

  -- an instruction that fails
  pub comes_failing : (pc : ℕ) (stack : List Value) (b : Side) (x : Lined) (k : FaultKind) → IsAt S.code pc x
      → effect S.code (framed cl pc stack b) x.what ≡ Stops k → Comes pc stack b (ending (Fails k) (or_line cl x.line))
  comes_failing pc stack b x k e is = follow_stays S.code S.places n (body_at pc stack b) (Fails k) (or_line cl x.line) (step_by pc stack b x _ e is)

  -- a touch of the cell to which a pointer points
  pub comes_touching : (pc to : ℕ) (p : Value) (stack : List Value) (more : ℕ → List Value) (b : Side) (x : Lined) (a : ℕ → Ask TreeScript) (go : ℕ → TreeRun) → IsAt S.code pc x
      → effect S.code (framed cl pc stack b) x.what
      ≡ touched (cell_of (extents_in S.code.globals) p) (λ cell. Asks (moved_ask S.places (a cell)) (λ v. framed cl (pc + 1 + 0) (more v) b))
      → to ≡ pc + 1 → ((v : ℕ) → Comes to (more v) b (go v))
      → Comes pc stack b (at_cell (cell_of (extents_of all) p) (or_line cl x.line) (λ c. asking (a c) (or_line cl x.line) go))
  comes_touching pc to p stack more b x a go e is t comes = by_cell (cell_of (extents_of all) p) (ap (λ g. cell_of g p) S.globals)
    where
      touch : Option ℕ → Effect
      touch o = touched o (λ cell. Asks (moved_ask S.places (a cell)) (λ v. framed cl (pc + 1 + 0) (more v) b))

      by_cell : (o : Option ℕ) → cell_of (extents_in S.code.globals) p ≡ o → Comes pc stack b (at_cell o (or_line cl x.line) (λ c. asking (a c) (or_line cl x.line) go))
      by_cell None f = comes_failing pc stack b x fault.OutOfRange e (is ∙ ap touch f)
      by_cell (Some c) f = comes_asking pc to stack more b b x (a c) go e (is ∙ ap touch f) t comes

  -- an instruction that gives something, or fails
  pub comes_result : {A : Type 0} (pc to : ℕ) (x : Lined) (o : Result A FaultKind) (stack : List Value) (b : Side) (more : A → List Value) (c : A → Side) (go : A → TreeRun) → IsAt S.code pc x
      → effect S.code (framed cl pc stack b) x.what ≡ unless_failed o (λ a. On (framed cl (pc + 1 + 0) (more a) (c a))) → to ≡ pc + 1
      → ((a : A) → Comes to (more a) (c a) (go a)) → Comes pc stack b (unless_fault o (or_line cl x.line) go)
  comes_result pc to x (Ok a) stack b more c go e is t comes = comes_on pc 0 to stack (more a) b (c a) x (go a) e is (omega (arith, t)) (comes a)
  comes_result pc to x (Err k) stack b more c go e is t comes = comes_failing pc stack b x k e is
