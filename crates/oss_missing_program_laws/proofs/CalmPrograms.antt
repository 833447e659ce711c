-- Each body of a program goes on calmly: no three silent asks stand in a row in it, and it releases plainly if the releases of the tree have dependencies alone.
use Rattle.std.proofs.Common.{◌≡◌, ℕ, zero, suc, List, [], ◌∷◌, ◌++◌, length, reverse, Option, Some, None, refl, subst}
use Rattle.std.specs.Prelude.{slice_get}
use Rattle.std.proofs.lemmas.List.{reverse-append}
use Rattle.oss_syntax.specs.declared.fault.FaultKind.TheVariants as fault
use Rattle.oss_syntax.specs.declared.tree.program.Function.{Function}
use Rattle.oss_syntax.specs.declared.tree.program.Item.{Item}
use Rattle.oss_syntax.specs.declared.tree.program.Item.TheVariants as items
use Rattle.oss_model.specs.Bodies.{Ask}
use Rattle.oss_model.specs.Bodies.Ask.{End, Fails}
use Rattle.oss_meaning.specs.declared.value.Value.{Value}
use Rattle.oss_meaning.specs.declared.value.Value.TheVariants as value
use Rattle.oss_meaning.specs.Expressions.{Calls, Here, TaskBody, TreeRun, TreeScript}
use Rattle.oss_meaning.specs.Meaning.{bodies_from, bodies_in, body_run, bound, calls_of, clauses_of, ended_by, function_created, function_place, function_run, gives, in_clauses, main_number, out_of, run_within, script_run, task_function_run, tasks_before, tasks_behind, within}
use Rattle.oss_meaning.specs.Names.{functions_of}
use Rattle.oss_meaning.specs.Operators.{kept_value}
use Rattle.oss_meaning.specs.Runs.{ending}
use Rattle.oss_meaning.specs.Statements.{Ways, bodies_of_all, meanings_of}
use Rattle.oss_missing_program_laws.specs.Asks.{ProgramsReleasePlainly, ProgramsSettleInTwo, ReleasesByDependencies}
use Rattle.oss_missing_laws.specs.Programs.{IsSilent}
use Rattle.oss_missing_program_laws.proofs.CalmRuns.{Calm, IsPlain, Level, ending_calm, over_calm, weakened}
use Rattle.oss_missing_program_laws.proofs.CalmRuns.Level.{in_function, in_statement, outside}
use Rattle.oss_missing_program_laws.proofs.CalmExpressions.{Goes, HereCalm}
use Rattle.oss_missing_program_laws.proofs.CalmClauses.{task_function_created}
use Rattle.oss_missing_program_laws.proofs.CalmMeanings.{AllSteady, BodiesCalm, Places, WaysCalm, all_bodies_calm, bodies_append, body_calm, in_order_calm}
use Rattle.oss_missing_program_laws.proofs.CalmStatements.{statements_steady}

module _ (all : List Item) where
  -- what is asked of the tree, so that its releases are plain
  abbrev W : Type 0
  W = ReleasesByDependencies all

  -- Functions

  abbrev FunctionSteady : Function → Type 0
  FunctionSteady f = AllSteady W (meanings_of all f.body)

  abbrev AllFunctions : List Function → Type 0
  AllFunctions [] = Unit {0}
  AllFunctions (f ∷ rest) = FunctionSteady f × AllFunctions rest

  abbrev SomeFunction : Option Function → Type 0
  SomeFunction None = Unit {0}
  SomeFunction (Some f) = FunctionSteady f

  functions_steady : (rest : List Item) → (W → ReleasesByDependencies rest) → AllFunctions (functions_of rest)
  functions_steady [] fine = tt
  functions_steady (items.Global g ∷ rest) fine = functions_steady rest fine
  functions_steady (items.Function f ∷ rest) fine = (statements_steady W all f.body (λ w. (fine w).0), functions_steady rest (λ w. (fine w).1))

  whole : AllFunctions (functions_of all)
  whole = functions_steady all (λ w. w)

  function_at : (fs : List Function) → AllFunctions fs → (n : ℕ) → SomeFunction (slice_get fs n)
  function_at [] steady n = tt
  function_at (f ∷ rest) steady zero = steady.0
  function_at (f ∷ rest) steady (suc n) = function_at rest steady.1 n

  bodies_calm : (fs : List Function) → AllFunctions fs → (tasks : ℕ) → BodiesCalm W (bodies_from all fs tasks)
  bodies_calm [] steady tasks = tt
  bodies_calm (f ∷ rest) steady tasks =
      bodies_append W (bodies_of_all (meanings_of all f.body) (function_place f.params tasks)) (bodies_from all rest (tasks_behind all f tasks))
      (all_bodies_calm W (meanings_of all f.body) steady.0 (function_place f.params tasks)) (bodies_calm rest steady.1 (tasks_behind all f tasks))

  -- the ways out of a function
  out_calm : (line : ℕ) (go on more : ℕ → Value → TreeRun) → ((place : ℕ) (v : Value) → Calm W outside (go place v) (on place v) (more place v)) → WaysCalm W (out_of line go) (out_of line on) (out_of line more)
  out_calm line go on more ok = record { next = λ us. ok line (value.Num 0); stop = λ us. ok line (value.Num 0); again = λ us. ok line (value.Num 0); give = ok }

  module _ (x y z : Here) (h : Places W x y z) where
    body_run_calm : (number : ℕ) (f : Function) → FunctionSteady f → (a b c : Ways) → WaysCalm W a b c → (locals : List Value)
        → Calm W outside (body_run all number x f a locals) (body_run all number y f b locals) (body_run all number z f c locals)
    body_run_calm number f steady a b c ways locals =
        in_order_calm W (meanings_of all f.body) steady (function_place f.params (tasks_before all (functions_of all) number 0)) x y z h a b c ways locals

    function_calm : (number : ℕ) (o : Option Function) → SomeFunction o → (arguments : List Value) (go on more : Value → TreeRun) → Goes W outside go on more
        → Calm W outside (function_run all number x o arguments go) (function_run all number y o arguments on) (function_run all number z o arguments more)
    function_calm number None steady arguments go on more ok = ending_calm W outside End 0 tt
    function_calm number (Some f) steady arguments go on more ok =
        body_run_calm number f steady _ _ _ (out_calm f.line (gives f.result (λ line v. go v)) (gives f.result (λ line v. on v)) (gives f.result (λ line v. more v)) (λ place v. ok (kept_value f.result v))) (bound 0 f.params arguments)

    -- Scripts

    task_calm : (number : ℕ) (o : Option Function) → SomeFunction o → (copies : List Value)
        → Calm W outside (task_function_run all number x o copies) (task_function_run all number y o copies) (task_function_run all number z o copies)
    task_calm number None steady copies = ending_calm W outside End 0 tt
    task_calm number (Some f) steady copies =
        body_run_calm number f steady (ended_by f.line) (ended_by f.line) (ended_by f.line)
        (out_calm f.line (λ place v. ending End place) (λ place v. ending End place) (λ place v. ending End place) (λ place v. ending_calm W outside End place tt)) copies

    script_calm : (b : TaskBody) (copies : List Value)
        → Calm W outside (script_run all x (record { body = b; copies = copies })) (script_run all y (record { body = b; copies = copies })) (script_run all z (record { body = b; copies = copies }))
    script_calm TaskBody.main copies = task_calm (main_number all) (slice_get (functions_of all) (main_number all)) (function_at (functions_of all) whole (main_number all)) copies
    script_calm (TaskBody.function f) copies = task_calm f (slice_get (functions_of all) f) (function_at (functions_of all) whole f) copies
    script_calm (TaskBody.statement k) copies = body_calm W (bodies_in all) (bodies_calm (functions_of all) whole 0) k x y z h copies

  -- Calls and creations

  abbrev CallsCalm : Calls → Calls → Calls → Type 0
  CallsCalm p q r = (f : ℕ) (vs : List Value) (frames : ℕ) (go on more : Value → TreeRun) → Goes W outside go on more → Calm W outside (p f vs frames go) (q f vs frames on) (r f vs frames more)

  module _ (p q r : Calls) (calls : CallsCalm p q r) (turns frames : ℕ) where
    clauses_calm : HereCalm W in_function (in_clauses p turns frames) (in_clauses q (suc turns) frames) (in_clauses r (suc (suc turns)) frames)
    clauses_calm = record {
      frames = refl;
      others = refl;
      turns = refl;
      longer = refl;
      call = calls;
      create = λ f vs line go on more ok. ending_calm W in_function (Fails fault.TooDeep) line tt;
    }

    -- a creation at a call, if there is such a function
    abbrev creation : Calls → ℕ → ℕ → List Value → ℕ → (Value → TreeRun) → TreeRun
    creation s k f vs line go = function_created all (in_clauses s k frames) f (slice_get (functions_of all) f) vs line go

    creation_calm : (f : ℕ) (o : Option Function) (vs : List Value) (line : ℕ) (go on more : Value → TreeRun) (l : Level) → ((x y z : TreeRun) → Calm W in_statement x y z → Calm W l x y z) → Goes W l go on more
        → Calm W l (function_created all (in_clauses p turns frames) f o vs line go) (function_created all (in_clauses q (suc turns) frames) f o vs line on)
        (function_created all (in_clauses r (suc (suc turns)) frames) f o vs line more)
    creation_calm f None vs line go on more l up ok = ok (value.Num 0)
    creation_calm f (Some d) vs line go on more l up ok =
        up _ _ _ (task_function_created W all line (in_clauses p turns frames) (in_clauses q (suc turns) frames) (in_clauses r (suc (suc turns)) frames) d.params (bound 0 d.params vs) (TaskBody.function f)
        (clauses_of d.mark) (go (value.Num 0)) (on (value.Num 0)) (more (value.Num 0)) (weakened W l _ _ _ (ok (value.Num 0))) clauses_calm)

    place_calm : (l : Level) → ((x y z : TreeRun) → Calm W in_statement x y z → Calm W l x y z) → HereCalm W l (within all p turns frames) (within all q (suc turns) frames) (within all r (suc (suc turns)) frames)
    place_calm l up = record {
      frames = refl;
      others = refl;
      turns = refl;
      longer = refl;
      call = calls;
      create = λ f vs line go on more ok. creation_calm f (slice_get (functions_of all) f) vs line go on more l up ok;
    }

    within_calm : Places W (within all p turns frames) (within all q (suc turns) frames) (within all r (suc (suc turns)) frames)
    within_calm = record { outer = place_calm outside (weakened W in_statement); inner = place_calm in_statement (λ x y z calm. calm) }

  calls_calm : (n : ℕ) → CallsCalm (calls_of all n) (calls_of all (suc n)) (calls_of all (suc (suc n)))
  calls_calm zero f vs frames go on more ok = over_calm W 0 _ _
  calls_calm (suc n) f vs frames go on more ok =
      function_calm (within all (calls_of all n) n frames) (within all (calls_of all (suc n)) (suc n) frames) (within all (calls_of all (suc (suc n))) (suc (suc n)) frames)
      (within_calm (calls_of all n) (calls_of all (suc n)) (calls_of all (suc (suc n))) (calls_calm n) n frames)
      f (slice_get (functions_of all) f) (function_at (functions_of all) whole f) vs go on more ok

  -- What a body asks for, within three bounds.
  pub runs_calm : (n : ℕ) (s : TreeScript) → Calm W outside (run_within all n s) (run_within all (suc n) s) (run_within all (suc (suc n)) s)
  runs_calm n s =
      script_calm (within all (calls_of all n) n 1) (within all (calls_of all (suc n)) (suc n) 1) (within all (calls_of all (suc (suc n))) (suc (suc n)) 1)
      (within_calm (calls_of all n) (calls_of all (suc n)) (calls_of all (suc (suc n))) (calls_calm n) n 1) s.body s.copies

-- The laws

-- answers that came later stand behind
one_later : (vs : List ℕ) → reverse (0 ∷ vs) ≡ reverse vs ++ 0 ∷ []
one_later vs = reverse-append (0 ∷ []) vs

two_later : (vs : List ℕ) → reverse (0 ∷ 0 ∷ vs) ≡ reverse vs ++ 0 ∷ 0 ∷ []
two_later vs = reverse-append (0 ∷ 0 ∷ []) vs

pub programs_settle_in_two : ProgramsSettleInTwo
programs_settle_in_two all s answers first second third =
    (runs_calm all (suc (length answers)) s).settles (reverse answers) first
    (subst (λ vs. IsSilent (run_within all (suc (suc (length answers))) s vs).ask) (one_later answers) second)
    (subst (λ vs. IsSilent (run_within all (suc (suc (suc (length answers)))) s vs).ask) (two_later answers) third)

pub programs_release_plainly : ProgramsReleasePlainly
programs_release_plainly all fine s answers clauses is = subst (λ (a : Ask TreeScript). IsPlain a) is ((runs_calm all (suc (length answers)) s).plain (reverse answers) fine)
