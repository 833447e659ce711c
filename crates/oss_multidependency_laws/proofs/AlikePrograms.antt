-- A program in which calls and declarations fit, and the program with its multidependencies unrolled, ask alike of each body that begins with as many values as it has
-- locals in scope, and create with such bodies alone.
use Rattle.std.proofs.Common.{◌≡◌, ◌∙◌, ℕ, zero, suc, ◌+◌, Bool, true, List, [], ◌∷◌, ◌++◌, length, map, Option, Some, None, option_map, refl, sym, ap, subst, arith, length-append, append_assoc}
use Rattle.std.specs.Prelude.{◌==◌, codes, slice_get, slice_set}
use Rattle.std.proofs.lemmas.Bool.Decides.{nat_tests}
use Rattle.std.proofs.lemmas.List.{length-map, length-set}
use Rattle.std.proofs.lemmas.Option.{slice_get_past}
use Rattle.oss_syntax.specs.declared.fault.FaultKind.TheVariants as fault
use Rattle.oss_syntax.specs.declared.tree.pragma.Section.{Section}
use Rattle.oss_syntax.specs.declared.tree.pragma.TaskMark.{TaskMark}
use Rattle.oss_syntax.specs.declared.tree.program.Function.{Function}
use Rattle.oss_syntax.specs.declared.tree.program.Item.{Item}
use Rattle.oss_syntax.specs.declared.tree.program.Local.{Local}
use Rattle.oss_model.specs.Bodies.Ask.{End, Fails, Tick}
use Rattle.oss_meaning.specs.declared.names.Found.{Found}
use Rattle.oss_meaning.specs.declared.names.Found.TheVariants as names
use Rattle.oss_meaning.specs.declared.value.Value.{Value}
use Rattle.oss_meaning.specs.declared.value.Value.TheVariants as value
use Rattle.oss_meaning.specs.Clauses.{created}
use Rattle.oss_meaning.specs.Expressions.{Calls, Here, TaskBody, TreeRun, TreeScript, value_at}
use Rattle.oss_meaning.specs.Meaning.{bodies_from, body_run as runs_body, bound, calls_of, clauses_of, function_created, function_place, function_run, gives, in_clauses, main_number, number_of_function, out_of, run_within, script_run, statement_run, task_function_run, tasks_before, tasks_behind, within}
use Rattle.oss_meaning.specs.Names.{functions_of, item_found}
use Rattle.oss_meaning.specs.Operators.{kept_value}
use Rattle.oss_meaning.specs.Runs.{ending}
use Rattle.oss_meaning.specs.Statements.{Around, bodies_of_all, in_order, meanings_of}
use Rattle.oss_multidependency_laws.specs.Fitting.{body_fits, function_fits, function_takes, functions_fit, mark_fits, program_fits, takes}
use Rattle.oss_multidependency_laws.specs.Unrolling.{function_unrolled, items_unrolled, unrolled, unrolled_mark}
use Rattle.oss_multidependency_laws.proofs.AlikeRuns.{ending_like}
use Rattle.oss_multidependency_laws.proofs.AlikeExpressions.{Goes, Takes, and_left, and_right}
use Rattle.oss_multidependency_laws.proofs.AlikeClauses.{created_like}
use Rattle.oss_multidependency_laws.proofs.AlikeMeanings.{Alike, BodiesLike, Has, IsScript, Places, Runs, bodies_append, body_run, has_locals, listed}
use Rattle.oss_multidependency_laws.proofs.AlikeStatements.{statements_alike}
use Rattle.oss_multidependency_laws.proofs.SameNames.{function_same, functions_same, item_same}

-- Lists

abbrev IsSomething : {A : Type 0} → Option A → Type 0
IsSomething None = ⊥
IsSomething (Some a) = Unit {0}

abbrev value_or : {A : Type 0} → Option A → A → A
value_or None d = d
value_or (Some a) d = a

seam : (pre : List ℕ) (x : ℕ) (xs : List ℕ) → slice_get (pre ++ x ∷ xs) (length pre) ≡ Some x
seam [] x xs = refl
seam (p ∷ pre) x xs = seam pre x xs

-- a list has what stands in it behind a front
has_seam : (total xs pre post : List ℕ) → total ≡ pre ++ (xs ++ post) → Has total (length pre) xs
has_seam total [] pre post e = tt
has_seam total (x ∷ xs) pre post e =
    let over : pre ++ (x ∷ (xs ++ post)) ≡ (pre ++ x ∷ []) ++ (xs ++ post) = sym (append_assoc pre (x ∷ []) (xs ++ post)) in
    let one_more : length (pre ++ x ∷ []) ≡ length pre + 1 = omega (arith, length-append pre (x ∷ [])) in (
      ap (λ l. slice_get l (length pre)) e ∙ seam pre x (xs ++ post),
      subst (λ k. Has total k xs) one_more (has_seam total xs (pre ++ x ∷ []) post (e ∙ over)),
    )

-- arguments that are bound are as many
bound_length : (slot : ℕ) (ps : List Local) (vs : List Value) → length (bound slot ps vs) ≡ length vs
bound_length slot [] vs = refl
bound_length slot (p ∷ ps) vs = bound_length (slot + 1) ps (slice_set vs slot (kept_value p.kind (value_at vs slot))) ∙ length-set vs slot (kept_value p.kind (value_at vs slot))

module _ (chosen : Section → Bool) (all : List Item) where
  abbrev flat : List Item
  flat = items_unrolled chosen all

  abbrev flattened : Function → Function
  flattened = function_unrolled chosen

  -- the statements of a function
  of_function : (f : Function) → function_fits all f ≡ true → Alike all true (listed all (meanings_of all f.body)) (listed all (meanings_of flat (map (unrolled chosen) f.body)))
  of_function f fit = statements_alike chosen all f.body (and_right (mark_fits all f.mark) (body_fits all f.body) fit)

  behind_function : (f : Function) (fit : function_fits all f ≡ true) (tasks : ℕ) → tasks_behind all f tasks ≡ tasks + length ((of_function f fit).sizes (function_place f.params tasks))
  behind_function f fit tasks = (of_function f fit).counted (function_place f.params tasks)

  behind_same : (f : Function) → function_fits all f ≡ true → (tasks : ℕ) → tasks_behind flat (flattened f) tasks ≡ tasks_behind all f tasks
  behind_same f fit tasks = ap (λ (z : Around → Around). (z (function_place f.params tasks)).tasks) (of_function f fit).behind

  before_same : (fs : List Function) → functions_fit all fs ≡ true → (n tasks : ℕ) → tasks_before flat (map flattened fs) n tasks ≡ tasks_before all fs n tasks
  before_same [] fit n tasks = refl
  before_same (f ∷ rest) fit zero tasks = refl
  before_same (f ∷ rest) fit (suc n) tasks =
      ap (λ t. tasks_before flat (map flattened rest) n t) (behind_same f (and_left (function_fits all f) (functions_fit all rest) fit) tasks)
      ∙ before_same rest (and_right (function_fits all f) (functions_fit all rest) fit) n (tasks_behind all f tasks)

  -- before how many locals each task statement of these functions stands, in text order
  sizes_from : (fs : List Function) → functions_fit all fs ≡ true → ℕ → List ℕ
  sizes_from [] fit tasks = []
  sizes_from (f ∷ rest) fit tasks =
      (of_function f (and_left (function_fits all f) (functions_fit all rest) fit)).sizes (function_place f.params tasks)
      ++ sizes_from rest (and_right (function_fits all f) (functions_fit all rest) fit) (tasks_behind all f tasks)

  -- a function whose task statements stand in the program with these sizes, behind so many others
  record Stands (total : List ℕ) (tasks : ℕ) (f : Function) : Type 0 where
    marked : mark_fits all f.mark ≡ true
    like : Alike all true (listed all (meanings_of all f.body)) (listed all (meanings_of flat (map (unrolled chosen) f.body)))
    has : Has total tasks (like.sizes (function_place f.params tasks))

  stands_from : (total : List ℕ) (fs : List Function) (fit : functions_fit all fs ≡ true) (tasks : ℕ) (pre : List ℕ) → total ≡ pre ++ sizes_from fs fit tasks → tasks ≡ length pre
      → (n : ℕ) (f : Function) → slice_get fs n ≡ Some f → Stands total (tasks_before all fs n tasks) f
  unfolding sizes_from
  stands_from total [] fit tasks pre e place n f is = absurd (subst IsSomething (sym is) tt)
  stands_from total (g ∷ rest) fit tasks pre e place zero f is = subst (λ h. Stands total tasks h) (ap (λ o. value_or o g) is) (record {
    marked = and_left (mark_fits all g.mark) (body_fits all g.body) (and_left (function_fits all g) (functions_fit all rest) fit);
    like = of_function g (and_left (function_fits all g) (functions_fit all rest) fit);
    has = subst (λ t. Has total t ((of_function g (and_left (function_fits all g) (functions_fit all rest) fit)).sizes (function_place g.params tasks))) (sym place)
        (has_seam total ((of_function g (and_left (function_fits all g) (functions_fit all rest) fit)).sizes (function_place g.params tasks)) pre
        (sizes_from rest (and_right (function_fits all g) (functions_fit all rest) fit) (tasks_behind all g tasks)) e);
  })
  stands_from total (g ∷ rest) fit tasks pre e place (suc n) f is =
      let own = (of_function g (and_left (function_fits all g) (functions_fit all rest) fit)).sizes (function_place g.params tasks) in
      let others = sizes_from rest (and_right (function_fits all g) (functions_fit all rest) fit) (tasks_behind all g tasks) in
      stands_from total rest (and_right (function_fits all g) (functions_fit all rest) fit) (tasks_behind all g tasks) (pre ++ own)
      (e ∙ sym (append_assoc pre own others))
      (behind_function g (and_left (function_fits all g) (functions_fit all rest) fit) tasks ∙ omega (arith, place, length-append pre own)) n f is

  bodies_like : (total : List ℕ) (fs : List Function) (fit : functions_fit all fs ≡ true) (tasks : ℕ) (pre : List ℕ) → total ≡ pre ++ sizes_from fs fit tasks → tasks ≡ length pre
      → BodiesLike all total (bodies_from all fs tasks) (bodies_from flat (map flattened fs) tasks) (sizes_from fs fit tasks)
  unfolding sizes_from
  bodies_like total [] fit tasks pre e place = tt
  bodies_like total (g ∷ rest) fit tasks pre e place =
      let one = of_function g (and_left (function_fits all g) (functions_fit all rest) fit) in
      let own = one.sizes (function_place g.params tasks) in
      let others = sizes_from rest (and_right (function_fits all g) (functions_fit all rest) fit) (tasks_behind all g tasks) in
      bodies_append all total (bodies_of_all (meanings_of all g.body) (function_place g.params tasks)) (bodies_of_all (meanings_of flat (map (unrolled chosen) g.body)) (function_place g.params tasks)) own
      (bodies_from all rest (tasks_behind all g tasks)) (bodies_from flat (map flattened rest) (tasks_behind flat (flattened g) tasks)) others
      (one.bodies total (function_place g.params tasks) (subst (λ t. Has total t own) (sym place) (has_seam total own pre others e)))
      (subst (λ t. BodiesLike all total (bodies_from all rest (tasks_behind all g tasks)) (bodies_from flat (map flattened rest) t) others) (sym (behind_same g (and_left (function_fits all g) (functions_fit all rest) fit) tasks))
      (bodies_like total rest (and_right (function_fits all g) (functions_fit all rest) fit) (tasks_behind all g tasks) (pre ++ own)
      (e ∙ sym (append_assoc pre own others))
      (behind_function g (and_left (function_fits all g) (functions_fit all rest) fit) tasks ∙ omega (arith, place, length-append pre own))))

  number_same : (f : Found) → number_of_function flat f ≡ number_of_function all f
  number_same (names.Function f) = refl
  number_same (names.Variable slot k) = ap (λ l. length l) (functions_same chosen all) ∙ length-map (functions_of all) flattened
  number_same (names.Scalar g n) = ap (λ l. length l) (functions_same chosen all) ∙ length-map (functions_of all) flattened
  number_same (names.Array g n) = ap (λ l. length l) (functions_same chosen all) ∙ length-map (functions_of all) flattened
  number_same (names.Grid g n) = ap (λ l. length l) (functions_same chosen all) ∙ length-map (functions_of all) flattened
  number_same names.Unknown = ap (λ l. length l) (functions_same chosen all) ∙ length-map (functions_of all) flattened

  main_same : main_number flat ≡ main_number all
  main_same = ap (λ f. number_of_function flat f) (item_same chosen all (codes "main")) ∙ number_same (item_found all (codes "main"))

  -- what stands for no function has no parameters
  main_takes : (f : Found) → takes all f 0 ≡ true → function_takes (slice_get (functions_of all) (number_of_function all f)) 0 ≡ true
  main_takes (names.Function f) fit = fit
  main_takes (names.Variable slot k) fit = ap (λ o. function_takes o 0) (slice_get_past (functions_of all) (length (functions_of all)) (omega arith))
  main_takes (names.Scalar g n) fit = ap (λ o. function_takes o 0) (slice_get_past (functions_of all) (length (functions_of all)) (omega arith))
  main_takes (names.Array g n) fit = ap (λ o. function_takes o 0) (slice_get_past (functions_of all) (length (functions_of all)) (omega arith))
  main_takes (names.Grid g n) fit = ap (λ o. function_takes o 0) (slice_get_past (functions_of all) (length (functions_of all)) (omega arith))
  main_takes names.Unknown fit = ap (λ o. function_takes o 0) (slice_get_past (functions_of all) (length (functions_of all)) (omega arith))

  module _ (fit : functions_fit all (functions_of all) ≡ true) where
    -- before how many locals each task statement of the program stands
    pub total : List ℕ
    total = sizes_from (functions_of all) fit 0

    abbrev Good : TreeScript → Type 0
    Good = IsScript all total

    stands : (n : ℕ) (f : Function) → slice_get (functions_of all) n ≡ Some f → Stands total (tasks_before all (functions_of all) n 0) f
    unfolding total
    stands n f is = stands_from total (functions_of all) fit 0 [] refl refl n f is

    -- Functions

    -- the body of a function
    body_like : (n : ℕ) (f : Function) → slice_get (functions_of all) n ≡ Some f → (x y : Here) → Places all total x y → (line : ℕ) (give on : ℕ → Value → TreeRun)
        → ((place : ℕ) (v : Value) → Runs all total (give place v) (on place v)) → (locals : List Value) → length locals ≡ length f.params
        → Runs all total (runs_body all n x f (out_of line give) locals) (runs_body flat n y (flattened f) (out_of line on) locals)
    body_like n f is x y h line give on ok locals size =
        let s = stands n f is in
        let before : tasks_before flat (functions_of flat) n 0 ≡ tasks_before all (functions_of all) n 0 =
        ap (λ l. tasks_before flat l n 0) (functions_same chosen all) ∙ before_same (functions_of all) fit n 0 in
        subst (λ t. Runs all total (runs_body all n x f (out_of line give) locals) (in_order (meanings_of flat (map (unrolled chosen) f.body)) (function_place f.params t) y (out_of line on) locals)) (sym before)
        (s.like.does total (function_place f.params (tasks_before all (functions_of all) n 0)) s.has x y h 0 (omega arith) (out_of line give) (out_of line on)
        (record { next = λ us e. ok line (value.Num 0); stop = λ us e. ok line (value.Num 0); again = λ us e. ok line (value.Num 0); give = ok }) locals size)

    -- a number of arguments that a function takes
    few : (n : ℕ) (f : Function) → slice_get (functions_of all) n ≡ Some f → (k : ℕ) → Takes all Good n k → k ≡ length f.params
    few n f is k fit_call =
        let here : (k == length f.params) ≡ true = sym (ap (λ o. function_takes o k) is) ∙ fit_call in
        grind (arith, nat_tests)

    function_like : (n : ℕ) (x y : Here) → Places all total x y → (vs : List Value) (go on : Value → TreeRun) → Takes all Good n (length vs) → Goes all Good go on
        → (o : Option Function) → slice_get (functions_of all) n ≡ o → Runs all total (function_run all n x o vs go) (function_run flat n y (option_map flattened o) vs on)
    function_like n x y h vs go on fit_call ok None is = ending_like Good End 0 tt
    function_like n x y h vs go on fit_call ok (Some f) is =
        body_like n f is x y h f.line (gives f.result (λ line v. go v)) (gives f.result (λ line v. on v)) (λ place v. ok (kept_value f.result v)) (bound 0 f.params vs)
        (bound_length 0 f.params vs ∙ few n f is (length vs) fit_call)

    -- Calls and creations

    module _ (call other : Calls)
        (calls : (f : ℕ) (vs : List Value) (frames : ℕ) (go on : Value → TreeRun) → Takes all Good f (length vs) → Goes all Good go on → Runs all total (call f vs frames go) (other f vs frames on)) (turns frames : ℕ) where
      clauses_place : Places all total (in_clauses call turns frames) (in_clauses other turns frames)
      clauses_place = record { frames = refl; turns = refl; call = calls; create = λ f vs line go on fit_call ok. ending_like Good (Fails fault.TooDeep) line tt }

      created_at : (n : ℕ) (vs : List Value) (line : ℕ) (go on : Value → TreeRun) → Takes all Good n (length vs) → Goes all Good go on
          → (o : Option Function) → slice_get (functions_of all) n ≡ o
          → Runs all total (function_created all (in_clauses call turns frames) n o vs line go) (function_created flat (in_clauses other turns frames) n (option_map flattened o) vs line on)
      created_at n vs line go on fit_call ok None is = ok (value.Num 0)
      created_at n vs line go on fit_call ok (Some f) is = by_mark f.mark (stands n f is).marked
        where
          by_mark : (m : Option TaskMark) → mark_fits all m ≡ true
              → Runs all total (created all f.params (TaskBody.function n) (clauses_of m) line (in_clauses call turns frames) (bound 0 f.params vs) (go (value.Num 0)))
              (created flat f.params (TaskBody.function n) (clauses_of (option_map (unrolled_mark chosen) m)) line (in_clauses other turns frames) (bound 0 f.params vs) (on (value.Num 0)))
          by_mark None fit_mark =
              created_like chosen all Good line (in_clauses call turns frames) (in_clauses other turns frames) clauses_place f.params (bound 0 f.params vs) (bound_length 0 f.params vs ∙ few n f is (length vs) fit_call)
              (TaskBody.function n) [] refl (subst (λ k. Takes all Good n k) (sym (bound_length 0 f.params vs)) fit_call) (go (value.Num 0)) (on (value.Num 0)) (ok (value.Num 0))
          by_mark (Some mark) fit_mark =
              created_like chosen all Good line (in_clauses call turns frames) (in_clauses other turns frames) clauses_place f.params (bound 0 f.params vs) (bound_length 0 f.params vs ∙ few n f is (length vs) fit_call)
              (TaskBody.function n) mark.clauses fit_mark (subst (λ k. Takes all Good n k) (sym (bound_length 0 f.params vs)) fit_call) (go (value.Num 0)) (on (value.Num 0)) (ok (value.Num 0))

      -- the bodies of functions
      within_like : Places all total (within all call turns frames) (within flat other turns frames)
      within_like = record {
        frames = refl;
        turns = refl;
        call = calls;
        create = λ f vs line go on fit_call ok.
            subst (λ o. Runs all total (function_created all (in_clauses call turns frames) f (slice_get (functions_of all) f) vs line go) (function_created flat (in_clauses other turns frames) f o vs line on))
            (sym (function_same chosen all f)) (created_at f vs line go on fit_call ok (slice_get (functions_of all) f) refl);
      }

    calls_like : (n f : ℕ) (vs : List Value) (frames : ℕ) (go on : Value → TreeRun) → Takes all Good f (length vs) → Goes all Good go on → Runs all total (calls_of all n f vs frames go) (calls_of flat n f vs frames on)
    calls_like zero f vs frames go on fit_call ok = ending_like Good Tick 0 tt
    calls_like (suc n) f vs frames go on fit_call ok =
        subst (λ o. Runs all total (function_run all f (within all (calls_of all n) n frames) (slice_get (functions_of all) f) vs go) (function_run flat f (within flat (calls_of flat n) n frames) o vs on))
        (sym (function_same chosen all f))
        (function_like f (within all (calls_of all n) n frames) (within flat (calls_of flat n) n frames) (within_like (calls_of all n) (calls_of flat n) (calls_like n) n frames) vs go on fit_call ok (slice_get (functions_of all) f) refl)

    -- Scripts

    module _ (x y : Here) (h : Places all total x y) where
      task_like : (n : ℕ) (copies : List Value) → Takes all Good n (length copies) → (o : Option Function) → slice_get (functions_of all) n ≡ o
          → Runs all total (task_function_run all n x o copies) (task_function_run flat n y (option_map flattened o) copies)
      task_like n copies fit_call None is = ending_like Good End 0 tt
      task_like n copies fit_call (Some f) is =
          body_like n f is x y h f.line (λ place v. ending End place) (λ place v. ending End place) (λ place v. ending_like Good End place tt) copies (few n f is (length copies) fit_call)

      numbered_like : (n : ℕ) (copies : List Value) → Takes all Good n (length copies)
          → Runs all total (task_function_run all n x (slice_get (functions_of all) n) copies) (task_function_run flat n y (slice_get (functions_of flat) n) copies)
      numbered_like n copies fit_call =
          subst (λ o. Runs all total (task_function_run all n x (slice_get (functions_of all) n) copies) (task_function_run flat n y o copies)) (sym (function_same chosen all n))
          (task_like n copies fit_call (slice_get (functions_of all) n) refl)

      script_like : (b : TaskBody) (copies : List Value) → has_locals all total b (length copies)
          → Runs all total (script_run all x (record { body = b; copies = copies })) (script_run flat y (record { body = b; copies = copies }))
      unfolding total
      script_like TaskBody.main copies good =
          subst (λ n. Runs all total (task_function_run all (main_number all) x (slice_get (functions_of all) (main_number all)) copies) (task_function_run flat n y (slice_get (functions_of flat) n) copies)) (sym main_same)
          (numbered_like (main_number all) copies good)
      script_like (TaskBody.function n) copies good = numbered_like n copies good
      script_like (TaskBody.statement k) copies good =
          subst (λ fs. Runs all total (statement_run (slice_get (bodies_from all (functions_of all) 0) k) x copies) (statement_run (slice_get (bodies_from flat fs 0) k) y copies)) (sym (functions_same chosen all))
          (body_run all total (bodies_from all (functions_of all) 0) (bodies_from flat (map flattened (functions_of all)) 0) total (bodies_like total (functions_of all) fit 0 [] refl refl) k x y h copies good)

    -- What a body asks for, within bounds.
    pub run_like : (n : ℕ) (s : TreeScript) → IsScript all total s → Runs all total (run_within all n s) (run_within flat n s)
    run_like n s good = script_like (within all (calls_of all n) n 1) (within flat (calls_of flat n) n 1) (within_like (calls_of all n) (calls_of flat n) (calls_like n) n 1) s.body s.copies good

  -- main is such a body
  pub main_script : (fit : program_fits all ≡ true) → IsScript all (total (and_left (functions_fit all (functions_of all)) (takes all (item_found all (codes "main")) 0) fit)) (record { body = TaskBody.main; copies = [] })
  main_script fit = main_takes (item_found all (codes "main")) (and_right (functions_fit all (functions_of all)) (takes all (item_found all (codes "main")) 0) fit)
