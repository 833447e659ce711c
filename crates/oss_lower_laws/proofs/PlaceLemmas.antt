-- Where the functions of a program stand in its code, and the bodies of its task statements.
use Rattle.std.proofs.Common.{◌≡◌, ◌∙◌, ℕ, zero, suc, ◌+◌, ◌≤◌, List, [], ◌∷◌, ◌++◌, length, map, Option, Some, None, refl, sym, ap, subst, arith, length-append, append_assoc}
use Rattle.std.specs.Prelude.{slice_get, slice_index_or}
use Rattle.oss_syntax.specs.declared.tree.program.Function.{Function}
use Rattle.oss_syntax.specs.declared.tree.program.Item.{Item}
use Rattle.oss_syntax.specs.declared.tree.stmt.Stmt.{Stmt}
use Rattle.oss_meaning.specs.Expressions.{TaskBody}
use Rattle.oss_meaning.specs.Meaning.{tasks_before, tasks_behind}
use Rattle.oss_meaning.specs.Meaning as meant
use Rattle.oss_meaning.specs.Names.{functions_of}
use Rattle.oss_meaning.specs.Statements.{behind_all, bodies_of_all, in_order, meaning_of, meanings_of}
use Rattle.oss_code.specs.declared.code.CodeParts.{CodeParts}
use Rattle.oss_lower_laws.specs.declared.lined.Lined.{Lined}
use Rattle.oss_lower_laws.specs.StatementCode.{codes_in_order, end_code, enclosed_code, entries_in_order, stmt_code, stmt_codes}
use Rattle.oss_lower_laws.specs.Lowered.{IsLowered, bodies_from, body_code, body_entry, end_entry, entries_from, first_entry, function_code, function_codes, function_spot, head_code, place_of, program_code, statements_from}
use Rattle.oss_lower_laws.proofs.ExpressionFolds.{map_twice}
use Rattle.oss_lower_laws.proofs.CodeLemmas.{HasAt, Standing, has_back, has_front}
use Rattle.oss_lower_laws.proofs.StatementLemmas.{Bodied, BodiesDo, Executes, NumberedAt, bodied_append, placed}
use Rattle.oss_lower_laws.proofs.NestedLemmas.{Agreeing, code_in, in_order_bodies, in_order_ok, entries_long, meaning_in}
use Rattle.oss_lower_laws.proofs.NestedLemmas as nested
use Rattle.oss_lower_laws.proofs.TaskLemmas.{statements_agree}

-- Lists

seam : {A B : Type 0} (f : A → B) (pre : List A) (x : A) (xs : List A) → slice_get (map f (pre ++ x ∷ xs)) (length pre) ≡ Some (f x)
seam f [] x xs = refl
seam f (p ∷ pre) x xs = seam f pre x xs

seam_or : {A B : Type 0} (f : A → B) (pre : List A) (x : A) (xs : List A) (d : B) → slice_index_or (map f (pre ++ x ∷ xs)) (length pre) d ≡ f x
seam_or f [] x xs d = refl
seam_or f (p ∷ pre) x xs d = seam_or f pre x xs d

seam_in : (pre : List ℕ) (x : ℕ) (xs : List ℕ) (d : ℕ) → slice_index_or (pre ++ x ∷ xs) (length pre) d ≡ x
seam_in [] x xs d = refl
seam_in (p ∷ pre) x xs d = seam_in pre x xs d

-- instructions and lines that are those of a list hold it
has_all : (code : CodeParts) (xs pre : List Lined) → code.instrs ≡ map (λ l. l.what) (pre ++ xs) → code.lines ≡ map (λ l. l.line) (pre ++ xs) → HasAt code (length pre) xs
has_all code [] pre instrs lines = tt
has_all code (x ∷ xs) pre instrs lines =
    let over : (pre ++ x ∷ []) ++ xs ≡ pre ++ (x ∷ xs) = append_assoc pre (x ∷ []) xs in
    let one_more : length (pre ++ x ∷ []) ≡ length pre + 1 = omega (arith, length-append pre (x ∷ [])) in (
      record { instr = ap (λ l. slice_get l (length pre)) instrs ∙ seam (λ l. l.what) pre x xs; line = ap (λ l. slice_index_or l (length pre) 0) lines ∙ seam_or (λ l. l.line) pre x xs 0 },
      subst (λ m. HasAt code m xs) one_more
          (has_all code xs (pre ++ x ∷ []) (instrs ∙ ap (λ l. map (λ y. y.what) l) (sym over)) (lines ∙ ap (λ l. map (λ y. y.line) l) (sym over))),
    )

abbrev pub value_or : {A : Type 0} → Option A → A → A
value_or None d = d
value_or (Some a) d = a

abbrev pub IsSomething : {A : Type 0} → Option A → Type 0
IsSomething None = ⊥
IsSomething (Some a) = Unit {0}

module _ (all : List Item) where
  -- Lists of statements

  abbrev pairs : List Stmt → List (Agreeing all)
  pairs ss = map (λ s. record { left = meaning_of all s; right = stmt_code all s; related = statements_agree all s }) ss

  meanings_are : (ss : List Stmt) → map (meaning_in all) (pairs ss) ≡ meanings_of all ss
  meanings_are ss = map_twice _ (meaning_in all) ss

  codes_are : (ss : List Stmt) → map (code_in all) (pairs ss) ≡ stmt_codes all ss
  codes_are ss = map_twice _ (code_in all) ss

  pub list_ok : (ss : List Stmt) → Executes all (in_order (meanings_of all ss)) (codes_in_order (stmt_codes all ss)) (entries_in_order (stmt_codes all ss))
  list_ok ss =
      subst (λ ms. Executes all (in_order ms) (codes_in_order (stmt_codes all ss)) (entries_in_order (stmt_codes all ss))) (meanings_are ss)
      (subst (λ cs. Executes all (in_order (map (meaning_in all) (pairs ss))) (codes_in_order cs) (entries_in_order cs)) (codes_are ss) (in_order_ok all (pairs ss)))

  pub list_bodies : (ss : List Stmt) → BodiesDo all (bodies_of_all (meanings_of all ss)) (codes_in_order (stmt_codes all ss)) (entries_in_order (stmt_codes all ss))
  list_bodies ss =
      subst (λ ms. BodiesDo all (bodies_of_all ms) (codes_in_order (stmt_codes all ss)) (entries_in_order (stmt_codes all ss))) (meanings_are ss)
      (subst (λ cs. BodiesDo all (bodies_of_all (map (meaning_in all) (pairs ss))) (codes_in_order cs) (entries_in_order cs)) (codes_are ss) (in_order_bodies all (pairs ss)))

  -- as many task statements stand behind a function as there are bodies of it
  entries_of : Function → ℕ → List ℕ
  entries_of f from = entries_in_order (stmt_codes all f.body) (function_spot f) (body_entry all f from)

  behind_function : (f : Function) (from tasks : ℕ) → tasks_behind all f tasks ≡ tasks + length (entries_of f from)
  unfolding entries_of
  behind_function f from tasks =
      ap (λ ms. (behind_all ms (placed (function_spot f) tasks)).tasks) (sym (meanings_are f.body))
      ∙ nested.tasks_behind all (pairs f.body) (placed (function_spot f) tasks)
      ∙ ap (λ k. tasks + k) (sym (entries_long all (pairs f.body) (function_spot f) (body_entry all f from)))
      ∙ ap (λ cs. tasks + length (entries_in_order cs (function_spot f) (body_entry all f from))) (codes_are f.body)

  -- Where a function stands

  pub record FunctionAt (code : CodeParts) (f : Function) (entry tasks place : ℕ) : Type 0 where
    pub has : HasAt code entry (function_code all f)
    pub place_is : place ≡ body_entry all f entry
    pub numbered : NumberedAt (place_of all) tasks (entries_in_order (stmt_codes all f.body) (function_spot f) (body_entry all f entry))

  -- the bodies of task statements, in text order
  abbrev statements : List ℕ
  statements = statements_from all first_entry (functions_of all)

  numbered_seam : (es pre post : List ℕ) → statements ≡ pre ++ (es ++ post) → NumberedAt (place_of all) (length pre) es
  numbered_seam [] pre post e = tt
  numbered_seam (x ∷ es) pre post e =
      let over : pre ++ (x ∷ (es ++ post)) ≡ (pre ++ x ∷ []) ++ (es ++ post) = sym (append_assoc pre (x ∷ []) (es ++ post)) in
      let one_more : length (pre ++ x ∷ []) ≡ length pre + 1 = omega (arith, length-append pre (x ∷ [])) in (
        ap (λ l. slice_index_or l (length pre) end_entry) e ∙ seam_in pre x (es ++ post) end_entry,
        subst (λ t. NumberedAt (place_of all) t es) one_more (numbered_seam es (pre ++ x ∷ []) post (e ∙ over)),
      )

  function_at : (code : CodeParts) (fs : List Function) (from : ℕ) (pre : List ℕ) → statements ≡ pre ++ statements_from all from fs → HasAt code from (function_codes all fs)
      → (f d e tasks : ℕ) (fn : Function) → tasks ≡ length pre → slice_get fs f ≡ Some fn
      → FunctionAt code fn (slice_index_or (entries_from all from fs) f d) (tasks_before all fs f tasks) (slice_index_or (bodies_from all from fs) f e)
  unfolding entries_of
  function_at code [] from pre same has f d e tasks fn tasks_is is = absurd (subst IsSomething (sym is) tt)
  function_at code (g ∷ fs) from pre same has zero d e tasks fn tasks_is is =
      subst (λ h. FunctionAt code h from tasks (body_entry all g from)) (ap (λ o. value_or o g) is)
      (record {
        has = has_front code from (function_code all g) _ has;
        place_is = refl;
        numbered = subst (λ t. NumberedAt (place_of all) t (entries_of g from)) (sym tasks_is) (numbered_seam (entries_of g from) pre (statements_from all (from + length (function_code all g)) fs) same);
      })
  function_at code (g ∷ fs) from pre same has (suc f) d e tasks fn tasks_is is =
      function_at code fs (from + length (function_code all g)) (pre ++ entries_of g from)
      (same ∙ sym (append_assoc pre (entries_of g from) (statements_from all (from + length (function_code all g)) fs)))
      (has_back code from (function_code all g) _ has) f d e (tasks_behind all g tasks) fn
      (behind_function g from tasks ∙ omega (arith, tasks_is, length-append pre (entries_of g from))) is

  -- the bodies of all task statements
  bodies_at : (n : ℕ) (S : Standing all n None) (fs : List Function) (from : ℕ) (pre : List ℕ) (tasks : ℕ) → S.places ≡ place_of all → S.callers ≡ [] → statements ≡ pre ++ statements_from all from fs
      → HasAt S.code from (function_codes all fs) → tasks ≡ length pre → Bodied all n S (meant.bodies_from all fs tasks) (statements_from all from fs)
  unfolding entries_of
  bodies_at n S [] from pre tasks places_are none same has tasks_is = tt
  bodies_at n S (g ∷ fs) from pre tasks places_are none same has tasks_is =
      bodied_append all n S (bodies_of_all (meanings_of all g.body) (placed (function_spot g) tasks)) (meant.bodies_from all fs (tasks_behind all g tasks)) (entries_of g from) (statements_from all (from + length (function_code all g)) fs)
      (list_bodies g.body n S (function_spot g) tasks (body_entry all g from) none inside
      (subst (λ p. NumberedAt p tasks (entries_of g from)) (sym places_are)
      (subst (λ t. NumberedAt (place_of all) t (entries_of g from)) (sym tasks_is) (numbered_seam (entries_of g from) pre (statements_from all (from + length (function_code all g)) fs) same))))
      (bodies_at n S fs (from + length (function_code all g)) (pre ++ entries_of g from) (tasks_behind all g tasks) places_are none
      (same ∙ sym (append_assoc pre (entries_of g from) (statements_from all (from + length (function_code all g)) fs)))
      (has_back S.code from (function_code all g) _ has) (behind_function g from tasks ∙ omega (arith, tasks_is, length-append pre (entries_of g from))))
    where
      end : List Lined
      end = end_code g.line g.result

      enclosed : HasAt S.code (from + length (head_code all g)) (enclosed_code g.line g.result (body_code all g))
      enclosed = has_back S.code from (head_code all g) _ (has_front S.code from (function_code all g) _ has)

      inside : HasAt S.code (body_entry all g from) (body_code all g)
      inside =
          subst (λ q. HasAt S.code q (body_code all g)) (omega arith)
          (has_front S.code (from + length (head_code all g) + length end) (body_code all g) end (has_back S.code (from + length (head_code all g)) end _ enclosed))

  -- The whole code

  module _ (code : CodeParts) (low : IsLowered all code) where
    pub at_program : HasAt code 0 (program_code all)
    at_program = has_all code (program_code all) [] low.instrs low.lines

    -- a function by its number
    pub function_here : (f d : ℕ) (fn : Function) → slice_get (functions_of all) f ≡ Some fn
        → FunctionAt code fn (slice_index_or code.functions f d) (tasks_before all (functions_of all) f 0) (place_of all (TaskBody.function f))
    function_here f d fn is =
        subst (λ fs. FunctionAt code fn (slice_index_or fs f d) (tasks_before all (functions_of all) f 0) (place_of all (TaskBody.function f))) (sym low.functions)
        (function_at code (functions_of all) first_entry [] refl at_program.1.1.1 f d end_entry 0 fn refl is)

    pub bodies_here : (n : ℕ) (S : Standing all n None) → S.code ≡ code → S.places ≡ place_of all → S.callers ≡ [] → Bodied all n S (meant.bodies_in all) statements
    bodies_here n S code_is places_are none =
        bodies_at n S (functions_of all) first_entry [] 0 places_are none refl (subst (λ c. HasAt c first_entry (function_codes all (functions_of all))) (sym code_is) at_program.1.1.1) refl

  missing_entry : (fs : List Function) (from f d : ℕ) → slice_get fs f ≡ None → slice_index_or (entries_from all from fs) f d ≡ d
  missing_entry [] from f d e = refl
  missing_entry (g ∷ fs) from zero d e = absurd (subst IsSomething e tt)
  missing_entry (g ∷ fs) from (suc f) d e = missing_entry fs (from + length (function_code all g)) f d e

  pub no_entry : (code : CodeParts) → IsLowered all code → (f d : ℕ) → slice_get (functions_of all) f ≡ None → slice_index_or code.functions f d ≡ d
  no_entry code low f d e = ap (λ fs. slice_index_or fs f d) low.functions ∙ missing_entry (functions_of all) first_entry f d e

  pub missing_body : (fs : List Function) (from f d : ℕ) → slice_get fs f ≡ None → slice_index_or (bodies_from all from fs) f d ≡ d
  missing_body [] from f d e = refl
  missing_body (g ∷ fs) from zero d e = absurd (subst IsSomething e tt)
  missing_body (g ∷ fs) from (suc f) d e = missing_body fs (from + length (function_code all g)) f d e

  -- a body begins behind the first instruction
  pub body_behind : (fs : List Function) (from f d : ℕ) → 1 ≤ from → 1 ≤ d → 1 ≤ slice_index_or (bodies_from all from fs) f d
  body_behind [] from f d le few = few
  body_behind (g ∷ fs) from zero d le few = omega (arith, le)
  body_behind (g ∷ fs) from (suc f) d le few = body_behind fs (from + length (function_code all g)) f d (omega (arith, le)) few
