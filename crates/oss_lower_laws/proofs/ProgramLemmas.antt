-- The code of a program asks as its tree does.
use Rattle.std.proofs.Common.{◌≡◌, ◌∙◌, ℕ, zero, suc, ◌+◌, ◌-◌, ◌<◌, ◌≤◌, List, [], ◌∷◌, ◌++◌, length, Option, Some, None, Bool, true, false, refl, sym, ap, subst, arith, length-append, reverse}
use Rattle.std.specs.Prelude.{is_some, nat_le, if◌then◌else◌, slice_get, slice_set, slice_index_or}
use Rattle.std.proofs.lemmas.List.{length-reverse}
use Rattle.std.proofs.lemmas.Option.{slice_get_past}
use Rattle.oss_syntax.specs.declared.fault.FaultKind.TheVariants as fault
use Rattle.oss_syntax.specs.declared.tree.pragma.TaskMark.{TaskMark}
use Rattle.oss_syntax.specs.declared.tree.program.Function.{Function}
use Rattle.oss_syntax.specs.declared.tree.program.Item.{Item}
use Rattle.oss_syntax.specs.declared.tree.program.Local.{Local}
use Rattle.oss_model.specs.Bodies.Ask.{End, Fails}
use Rattle.oss_meaning.specs.declared.value.Value.{Value}
use Rattle.oss_meaning.specs.declared.value.Value.TheVariants as value
use Rattle.oss_meaning.specs.Clauses.{created}
use Rattle.oss_meaning.specs.Expressions.{TaskBody, TreeRun, TreeScript, is_task_function, value_at}
use Rattle.oss_meaning.specs.Meaning.{asks_of, body_run, bound, calls_of, clauses_of, ended_by, function_created, function_run, gives, in_clauses, main_number, out_of, run_within, script_run, statement_run, task_function_run, tasks_before, within}
use Rattle.oss_meaning.specs.Meaning as meant
use Rattle.oss_meaning.specs.Names.{functions_of}
use Rattle.oss_meaning.specs.Operators.{kept_value}
use Rattle.oss_meaning.specs.Runs.{ending}
use Rattle.oss_meaning.specs.Statements.{Body, in_order, meanings_of}
use Rattle.oss_code.specs.declared.code.CodeParts.{CodeParts}
use Rattle.oss_code.specs.declared.instr.Instr.TheVariants as i
use Rattle.oss_machine.specs.Frames.{Config, Frame, first_frame, open_functions, start_of}
use Rattle.oss_machine.specs.Machines.{asks}
use Rattle.oss_machine.specs.Steps.{Waits, entry_of, given, line_of_newest, onward, step_at}
use Rattle.oss_lower_laws.specs.declared.lined.Lined.{Lined}
use Rattle.oss_lower_laws.specs.ExpressionCode.{one}
use Rattle.oss_lower_laws.specs.SectionCode.{created_code}
use Rattle.oss_lower_laws.specs.StatementCode.{codes_in_order, end_length, entries_in_order, given_code, stmt_codes}
use Rattle.oss_lower_laws.specs.Lowered.{IsLowered, body_place, bound_code, end_entry, entered_code, first_entry, function_spot, head_code, place_of, program_code, statements_from}
use Rattle.oss_lower_laws.specs.Programs.{BoundsAreEnough, CodesAskAlike, moved_asked, moved_script}
use Rattle.oss_lower_laws.proofs.StepLemmas.{Follows, asks_is, follow_goes, follow_stays}
use Rattle.oss_lower_laws.proofs.CodeLemmas.{CallsDo, Comes, CreatesDo, HasAt, Side, Standing, body_at, comes_at, comes_on, framed, has_back, has_front, plain, step_by}
use Rattle.oss_lower_laws.proofs.SectionLemmas.{created_ok}
use Rattle.oss_lower_laws.proofs.StatementLemmas.{Bodied, NumberedAt}
use Rattle.oss_lower_laws.proofs.TaskLemmas.{enclosed_ok, ends_ok}
use Rattle.oss_lower_laws.proofs.PlaceLemmas.{FunctionAt, at_program, bodies_here, body_behind, function_here, list_ok, missing_body, no_entry}

abbrev IsTrueHere : Bool → Type 0
IsTrueHere true = Unit {0}
IsTrueHere false = ⊥

module _ (all : List Item) where
  -- Functions

  -- each parameter keeps what its type can
  bound_ok : (line slot : ℕ) (ps : List Local) (n : ℕ) (cl : Option ℕ) (S : Standing all n cl) (pc to : ℕ) (locals : List Value) (r : TreeRun)
      → HasAt S.code pc (bound_code line slot ps) → to ≡ pc + length (bound_code line slot ps) → Comes S to [] (plain (bound slot ps locals)) r → Comes S pc [] (plain locals) r
  bound_ok line slot [] n cl S pc to locals r has t comes = comes_at S pc to [] (plain locals) r (omega (arith, t)) comes
  bound_ok line slot (p ∷ ps) n cl S pc to locals r has t comes =
      comes_on S pc 0 (pc + 1) [] (value_at locals slot ∷ []) (plain locals) (plain locals) _ r has.0 refl (omega arith)
      (comes_on S (pc + 1) 0 (pc + 1 + 1) (value_at locals slot ∷ []) [] (plain locals) (plain (slice_set locals slot (kept_value p.kind (value_at locals slot)))) _ r has.1.0 refl (omega arith)
      (bound_ok line (slot + 1) ps n cl S (pc + 1 + 1) to (slice_set locals slot (kept_value p.kind (value_at locals slot))) r has.1.1 (omega (arith, t)) comes))

  -- the body of a function where it stands
  body_ok : (f : Function) (number : ℕ) (n : ℕ) (S : Standing all n None) (entry place : ℕ) (give : ℕ → Value → TreeRun) (locals : List Value)
      → S.places ≡ place_of all → FunctionAt all S.code f entry (tasks_before all (functions_of all) number 0) place
      → ((at line : ℕ) (v : Value) (us : List Value) → HasAt S.code at (given_code line f.result) → Comes S at (v ∷ []) (plain us) (give line v))
      → Comes S place [] (plain locals) (body_run all number S.here f (out_of f.line give) locals)
  body_ok f number n S entry place give locals places_are stands gives_ok =
      comes_at S place (entry + length (head_code all f) + end_length) [] (plain locals) _ (omega (arith, stands.place_is))
      (enclosed_ok all (in_order (meanings_of all f.body)) (codes_in_order (stmt_codes all f.body)) (entries_in_order (stmt_codes all f.body)) (list_ok all f.body) n S (function_spot f)
      (tasks_before all (functions_of all) number 0) (entry + length (head_code all f)) f.line give locals (has_back S.code entry (head_code all f) _ stands.has)
      (subst (λ p. NumberedAt p (tasks_before all (functions_of all) number 0) (entries_in_order (stmt_codes all f.body) (function_spot f) (entry + length (head_code all f) + end_length))) (sym places_are)
      (subst (λ q. NumberedAt (place_of all) (tasks_before all (functions_of all) number 0) (entries_in_order (stmt_codes all f.body) (function_spot f) q)) (omega arith) stands.numbered))
      gives_ok)

  -- what is no task function goes on to its body
  unmarked_ok : (f : Function) (number : ℕ) (n : ℕ) (S : Standing all n None) (entry place : ℕ) (give : ℕ → Value → TreeRun) (locals : List Value) (mark : Option TaskMark)
      → f.mark ≡ mark → is_some mark ≡ false → S.places ≡ place_of all → FunctionAt all S.code f entry (tasks_before all (functions_of all) number 0) place
      → ((at line : ℕ) (v : Value) (us : List Value) → HasAt S.code at (given_code line f.result) → Comes S at (v ∷ []) (plain us) (give line v))
      → Comes S entry [] (plain locals) (body_run all number S.here f (out_of f.line give) (bound 0 f.params locals))
  unmarked_ok f number n S entry place give locals (Some mark) same unmarked places_are stands gives_ok = absurd (subst IsTrueHere unmarked tt)
  unmarked_ok f number n S entry place give locals None same unmarked places_are stands gives_ok =
      bound_ok f.line 0 f.params n None S entry (entry + length bounds) locals _ (has_front S.code entry bounds skip head_has) refl
      (comes_on S (entry + length bounds) end_length place [] [] (plain (bound 0 f.params locals)) (plain (bound 0 f.params locals)) _ _ (has_back S.code entry bounds skip head_has).0 refl
      (omega (arith, stands.place_is, long)) (body_ok f number n S entry place give (bound 0 f.params locals) places_are stands gives_ok))
    where
      bounds : List Lined
      bounds = bound_code f.line 0 f.params

      skip : List Lined
      skip = one f.line 0 (i.Skip end_length)

      head_is : head_code all f ≡ bounds ++ skip
      head_is = ap (λ m. bounds ++ entered_code all f m) same

      head_has : HasAt S.code entry (bounds ++ skip)
      head_has = subst (λ l. HasAt S.code entry l) head_is (has_front S.code entry (head_code all f) _ stands.has)

      long : length (head_code all f) ≡ length bounds + 1
      long = ap (λ l. length l) head_is ∙ length-append bounds skip

  -- a task function creates a task of its body, and gives 0 to its caller
  marked_ok : (f : Function) (number : ℕ) (n line : ℕ) (S : Standing all n (Some line)) (k : Frame) (ks : List Frame) (entry place : ℕ) (arguments : List Value) (go : Value → TreeRun) (mark : Option TaskMark)
      → f.mark ≡ mark → is_some mark ≡ true → S.places ≡ place_of all → S.callers ≡ k ∷ ks → place_of all (TaskBody.function number) ≡ place
      → FunctionAt all S.code f entry (tasks_before all (functions_of all) number 0) place
      → ((v : Value) → Follows S.code S.places n (record { frame = onward (v ∷ k.stack) k; callers = ks }) (go v))
      → Comes S entry [] (plain arguments) (function_created all S.here number (Some f) arguments line go)
  marked_ok f number n line S k ks entry place arguments go None same marked places_are callers_are place_is stands comes = absurd (subst IsTrueHere (sym marked) tt)
  marked_ok f number n line S k ks entry place arguments go (Some mark) same marked places_are callers_are place_is stands comes =
      bound_ok f.line 0 f.params n (Some line) S entry p1 arguments _ (has_front S.code entry bounds rest head_has) refl
      (subst (λ m. Comes S p1 [] (plain locals) (created all f.params (TaskBody.function number) (clauses_of m) line S.here locals (go (value.Num 0)))) (sym same)
      (created_ok all f.params (TaskBody.function number) (2 + end_length) mark.clauses n (Some line) S p1 p2 f.line locals (go (value.Num 0)) (has_front S.code p1 creation last rest_has) refl
      (ap (λ p. p (TaskBody.function number)) places_are ∙ place_is ∙ omega (arith, stands.place_is, long))
      (comes_on S p2 0 (p2 + 1) [] (value.Num 0 ∷ []) (plain locals) (plain locals) _ (go (value.Num 0)) last_has.0 refl (omega arith)
      (follow_goes S.code S.places n (body_at S (p2 + 1) (value.Num 0 ∷ []) (plain locals)) (record { frame = onward (value.Num 0 ∷ k.stack) k; callers = ks }) (go (value.Num 0))
      (step_by S (p2 + 1) (value.Num 0 ∷ []) (plain locals) _ _ last_has.1.0 refl ∙ ap (λ l. given l (value.Num 0) line (body_at S (p2 + 1) (value.Num 0 ∷ []) (plain locals))) callers_are)
      (comes (value.Num 0))))))
    where
      locals : List Value
      locals = bound 0 f.params arguments

      bounds : List Lined
      bounds = bound_code f.line 0 f.params

      creation : List Lined
      creation = created_code all f.params (2 + end_length) mark.clauses f.line

      last : List Lined
      last = one f.line 0 (i.Push 0) ++ one f.line 1 i.Return

      rest : List Lined
      rest = creation ++ last

      p1 : ℕ
      p1 = entry + length bounds

      p2 : ℕ
      p2 = p1 + length creation

      head_is : head_code all f ≡ bounds ++ rest
      head_is = ap (λ m. bounds ++ entered_code all f m) same

      head_has : HasAt S.code entry (bounds ++ rest)
      head_has = subst (λ l. HasAt S.code entry l) head_is (has_front S.code entry (head_code all f) _ stands.has)

      rest_has : HasAt S.code p1 (creation ++ last)
      rest_has = has_back S.code entry bounds rest head_has

      last_has : HasAt S.code p2 last
      last_has = has_back S.code p1 creation last rest_has

      long : length (head_code all f) ≡ length bounds + (length creation + 2)
      long = ap (λ l. length l) head_is ∙ omega (arith, length-append bounds rest, length-append creation last)

  module _ (code : CodeParts) (low : IsLowered all code) where
    places : TaskBody → ℕ
    places = place_of all

    -- Standing

    abbrev CallsHere : ℕ → ℕ → Type 0
    CallsHere turns m = CallsDo all code (place_of all) m (calls_of all turns)

    -- inside a creation at the call of a task function
    in_creation : (turns m frames line : ℕ) (callers : List Frame) → m ≤ turns → frames ≡ open_functions callers → nat_le 257 frames ≡ false → ((j : ℕ) → j < m → CallsHere turns j) → Standing all m (Some line)
    in_creation turns m frames line callers le frames_are fits calls = record {
      code = code;
      places = place_of all;
      callers = callers;
      here = in_clauses (calls_of all turns) turns frames;
      globals = low.globals;
      fits = ap (λ k. nat_le 257 k) (omega (arith, frames_are)) ∙ fits;
      frames = omega (arith, frames_are);
      turns = le;
      calls = calls;
      creates = λ j small f at pc arguments stack rest b go marked step comes. follow_stays code (place_of all) j (record { frame = framed (Some line) pc stack b; callers = callers }) (Fails fault.TooDeep) line step;
    }

    creates_ok : (turns m frames : ℕ) (callers : List Frame) → m ≤ turns → frames ≡ 1 + open_functions callers → nat_le 257 frames ≡ false → ((j : ℕ) → j < m → CallsHere turns j)
        → CreatesDo all code (place_of all) m None callers (within all (calls_of all turns) turns frames).create
    unfolding in_creation
    creates_ok turns m frames callers le frames_are fits calls f line pc arguments stack rest b go marked step comes = by_function (slice_get (functions_of all) f) refl
      where
        caller : Frame
        caller = framed None pc rest b

        S : Standing all m (Some line)
        S = in_creation turns m frames line (caller ∷ callers) le frames_are fits calls

        by_function : (o : Option Function) → slice_get (functions_of all) f ≡ o
            → Follows code (place_of all) m (record { frame = framed None pc stack b; callers = callers }) (function_created all (in_clauses (calls_of all turns) turns frames) f o arguments line go)
        by_function None is = absurd (subst IsTrueHere (sym (ap is_task_function (sym is) ∙ marked)) tt)
        by_function (Some fn) is =
            follow_goes code (place_of all) m (record { frame = framed None pc stack b; callers = callers }) (record { frame = framed (Some line) (entry_of code f) [] (plain arguments); callers = caller ∷ callers }) _ step
            (marked_ok fn f m line S caller callers (entry_of code f) (place_of all (TaskBody.function f)) arguments go fn.mark refl (ap is_task_function (sym is) ∙ marked) refl refl refl
            (function_here all code low f (length code.instrs) fn is) comes)

    in_function : (turns m frames : ℕ) (callers : List Frame) → m ≤ turns → frames ≡ 1 + open_functions callers → nat_le 257 frames ≡ false → ((j : ℕ) → j < m → CallsHere turns j) → Standing all m None
    in_function turns m frames callers le frames_are fits calls = record {
      code = code;
      places = place_of all;
      callers = callers;
      here = within all (calls_of all turns) turns frames;
      globals = low.globals;
      fits = ap (λ k. nat_le 257 k) (sym frames_are) ∙ fits;
      frames = frames_are;
      turns = le;
      calls = calls;
      creates = λ j small. creates_ok turns j frames callers (omega (arith, small, le)) frames_are fits (λ k less. calls k (omega (arith, less, small)));
    }

    -- behind the last instruction a body ends
    past_ok : (m : ℕ) (stack : List Value) (b : Side) (callers : List Frame) → nat_le 257 (1 + open_functions callers) ≡ false
        → Follows code (place_of all) m (record { frame = framed None (length code.instrs) stack b; callers = callers }) (ending End 0)
    past_ok m stack b callers fits =
        follow_stays code (place_of all) m c End 0
        (ap (λ t. if t then Waits (record { ask = Fails fault.TooDeep; line = line_of_newest code callers }) (λ u. c) else step_at code c (slice_get code.instrs (length code.instrs))) fits
        ∙ ap (λ o. step_at code c o) (slice_get_past code.instrs (length code.instrs) (omega arith)))
      where
        c : Config
        c = record { frame = framed None (length code.instrs) stack b; callers = callers }

    -- functions do what their bodies mean, for fewer answers than they may make turns
    calls_ok : (turns m : ℕ) → m < turns → CallsHere turns m
    unfolding in_function
    calls_ok zero m less f frames arguments k ks go unmarked frames_are fits goes = absurd (omega (arith, less))
    calls_ok (suc turns) m less f frames arguments k ks go unmarked frames_are fits goes = called (λ j small. calls_ok turns j (omega (arith, small, less)))
      where
        is_framed : frames ≡ 1 + open_functions (k ∷ ks)
        is_framed = omega (arith, frames_are)

        called : ((j : ℕ) → j < m → CallsHere turns j)
            → Follows code (place_of all) m (record { frame = first_frame None (entry_of code f) arguments; callers = k ∷ ks }) (calls_of all (suc turns) f arguments frames go)
        called calls = by_function (slice_get (functions_of all) f) refl
          where
            S : Standing all m None
            S = in_function turns m frames (k ∷ ks) (omega (arith, less)) is_framed fits calls

            by_function : (o : Option Function) → slice_get (functions_of all) f ≡ o
                → Follows code (place_of all) m (record { frame = first_frame None (entry_of code f) arguments; callers = k ∷ ks }) (function_run all f (within all (calls_of all turns) turns frames) o arguments go)
            by_function None is =
                subst (λ q. Follows code (place_of all) m (record { frame = framed None q [] (plain arguments); callers = k ∷ ks }) (ending End 0)) (sym (no_entry all code low f (length code.instrs) is))
                (past_ok m [] (plain arguments) (k ∷ ks) (ap (λ x. nat_le 257 x) (sym is_framed) ∙ fits))
            by_function (Some fn) is =
                unmarked_ok fn f m S (entry_of code f) (place_of all (TaskBody.function f)) (gives fn.result (λ line v. go v)) arguments fn.mark refl (ap is_task_function (sym is) ∙ unmarked) refl
                (function_here all code low f (length code.instrs) fn is)
                (λ at line v us has. comes_on S at 0 (at + 1) (v ∷ []) (kept_value fn.result v ∷ []) (plain us) (plain us) _ (go (kept_value fn.result v)) has.0 refl (omega arith)
                (follow_goes code (place_of all) m (body_at S (at + 1) (kept_value fn.result v ∷ []) (plain us)) (record { frame = onward (kept_value fn.result v ∷ k.stack) k; callers = ks }) (go (kept_value fn.result v))
                (step_by S (at + 1) (kept_value fn.result v ∷ []) (plain us) _ _ has.1.0 refl) (goes (kept_value fn.result v))))

    -- Bodies

    -- a body without callers
    alone : (n : ℕ) → Standing all n None
    alone n = in_function n n 1 [] (omega arith) refl refl (λ j small. calls_ok n j small)

    -- the end to which a body comes that is not there
    end_ok : (n : ℕ) (S : Standing all n None) (locals : List Value) → S.code ≡ code → S.callers ≡ [] → Comes S end_entry [] (plain locals) (ending End 0)
    end_ok n S locals code_is none =
        let has : HasAt S.code 0 (program_code all) = subst (λ c. HasAt c 0 (program_code all)) (sym code_is) (at_program all code low) in
        comes_on S end_entry 0 2 [] (value.Num 0 ∷ []) (plain locals) (plain locals) _ (ending End 0) has.1.0 refl refl
        (follow_stays S.code S.places n (body_at S 2 (value.Num 0 ∷ []) (plain locals)) End 0
        (step_by S 2 (value.Num 0 ∷ []) (plain locals) _ _ has.1.1.0 refl ∙ ap (λ ks. given ks (value.Num 0) 0 (body_at S 2 (value.Num 0 ∷ []) (plain locals))) none))

    -- the body of a function by its number
    numbered_ok : (n number : ℕ) (copies : List Value) → Comes (alone n) (body_place all number) [] (plain copies) (task_function_run all number (alone n).here (slice_get (functions_of all) number) copies)
    unfolding alone in_function
    numbered_ok n number copies = by_function (slice_get (functions_of all) number) refl
      where
        by_function : (o : Option Function) → slice_get (functions_of all) number ≡ o → Comes (alone n) (body_place all number) [] (plain copies) (task_function_run all number (alone n).here o copies)
        by_function None is =
            comes_at (alone n) (body_place all number) end_entry [] (plain copies) (ending End 0) (sym (missing_body all (functions_of all) first_entry number end_entry is)) (end_ok n (alone n) copies refl refl)
        by_function (Some fn) is =
            body_ok fn number n (alone n) (slice_index_or code.functions number 0) (body_place all number) (λ at v. ending End at) copies refl (function_here all code low number 0 fn is) (ends_ok all n (alone n) fn.result refl)

    -- that of a task statement by its number
    abbrev statement_place : List ℕ → ℕ → ℕ
    statement_place es k = slice_index_or es k end_entry

    statement_in : (n : ℕ) (S : Standing all n None) (bs : List Body) (es : List ℕ) (k : ℕ) (copies : List Value) → S.code ≡ code → S.callers ≡ [] → Bodied all n S bs es
        → Comes S (statement_place es k) [] (plain copies) (statement_run (slice_get bs k) S.here copies)
    statement_in n S [] [] k copies code_is none bodied = end_ok n S copies code_is none
    statement_in n S [] (e ∷ es) k copies code_is none bodied = absurd bodied
    statement_in n S (b ∷ bs) [] k copies code_is none bodied = absurd bodied
    statement_in n S (b ∷ bs) (e ∷ es) zero copies code_is none bodied = bodied.0 copies
    statement_in n S (b ∷ bs) (e ∷ es) (suc k) copies code_is none bodied = statement_in n S bs es k copies code_is none bodied.1

    -- The code follows what a body runs.
    script_ok : (n : ℕ) (body : TaskBody) (copies : List Value)
        → Follows code (place_of all) n (start_of (moved_script (place_of all) (record { body = body; copies = copies }))) (run_within all n (record { body = body; copies = copies }))
    unfolding alone in_function
    script_ok n TaskBody.main copies =
        comes_on (alone n) 0 (body_place all (main_number all) - 1) (body_place all (main_number all)) [] [] (plain copies) (plain copies) _ _ (at_program all code low).0 refl
        (omega (arith, body_behind all (functions_of all) first_entry (main_number all) end_entry (omega arith) (omega arith))) (numbered_ok n (main_number all) copies)
    script_ok n (TaskBody.function number) copies = numbered_ok n number copies
    script_ok n (TaskBody.statement k) copies =
        statement_in n (alone n) (meant.bodies_in all) (statements_from all first_entry (functions_of all)) k copies refl refl (bodies_here all code low n (alone n) refl refl refl)

    -- The tree and the code ask alike, after any answers.
    pub asks_alike : (s : TreeScript) (answers : List ℕ) → moved_asked (place_of all) (asks_of all s answers) ≡ asks code (moved_script (place_of all) s) answers
    asks_alike s answers =
        let few : length (reverse answers) ≤ suc (length answers) = omega (arith, length-reverse answers) in
        script_ok (suc (length answers)) s.body s.copies (reverse answers) few ∙ asks_is code (moved_script (place_of all) s) answers

    pub bound_is_enough : (s : TreeScript) (bound more : ℕ) (answers : List ℕ) → length answers ≤ bound → length answers ≤ more
        → moved_asked (place_of all) (run_within all bound s answers) ≡ moved_asked (place_of all) (run_within all more s answers)
    bound_is_enough s bound more answers few fewer_more = script_ok bound s.body s.copies answers few ∙ sym (script_ok more s.body s.copies answers fewer_more)

pub codes_ask_alike : CodesAskAlike
codes_ask_alike all code low = record { places = place_of all; main_first = refl; alike = asks_alike all code low; first = low.first }

pub bounds_are_enough : BoundsAreEnough
bounds_are_enough all code low = bound_is_enough all code low
