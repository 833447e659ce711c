-- Tasks: a creation asks for the task whose body stands behind it, and that body is done there. With it each kind of statement does what it
-- means.
use Rattle.std.proofs.Common.{◌≡◌, ◌∙◌, ℕ, ◌+◌, ◌-◌, ◌≤◌, List, [], ◌∷◌, ◌++◌, length, Some, None, refl, sym, ap, subst, arith, length-append}
use Rattle.oss_syntax.specs.declared.tree.pragma.Clause.{Clause}
use Rattle.oss_syntax.specs.declared.tree.program.Item.{Item}
use Rattle.oss_syntax.specs.declared.tree.program.Kind.{Kind}
use Rattle.oss_syntax.specs.declared.tree.program.Local.{Local}
use Rattle.oss_syntax.specs.declared.tree.stmt.Stmt.{Stmt}
use Rattle.oss_syntax.specs.declared.tree.stmt.StmtKind.TheOpen.{StmtKind-F}
use Rattle.oss_syntax.specs.declared.tree.stmt.StmtKind.TheOpen as open_stmt
use Rattle.oss_model.specs.Bodies.Ask.{End}
use Rattle.oss_meaning.specs.declared.value.Value.{Value}
use Rattle.oss_meaning.specs.declared.value.Value.TheVariants as value
use Rattle.oss_meaning.specs.Clauses.{created}
use Rattle.oss_meaning.specs.Expressions.{TaskBody, TreeRun}
use Rattle.oss_meaning.specs.Meaning.{out_of}
use Rattle.oss_meaning.specs.Operators.{kept_value}
use Rattle.oss_meaning.specs.Runs.{ending}
use Rattle.oss_meaning.specs.Statements.{Around, Body, Does, body_ends, declare, declared, in_task, meaning_of, stmt_step, task}
use Rattle.oss_code.specs.declared.instr.Instr.TheVariants as i
use Rattle.oss_machine.specs.Steps.{given}
use Rattle.oss_lower_laws.specs.declared.lined.Lined.{Lined}
use Rattle.oss_lower_laws.specs.ExpressionCode.{one}
use Rattle.oss_lower_laws.specs.SectionCode.{created_code}
use Rattle.oss_lower_laws.specs.StatementCode.{Codes, Entries, Spot, behind, declare_code, declared_code, enclosed_code, enclosed_spot, end_code, end_length, given_code, no_code, no_entries, stmt_code, stmt_code_step, task_code, task_codes, task_entries, task_entry}
use Rattle.oss_lower_laws.proofs.ExpressionFolds.{Pair}
use Rattle.oss_lower_laws.proofs.StatementFolds as folds
use Rattle.oss_lower_laws.proofs.StatementFolds.{AtLines, Keeps}
use Rattle.oss_lower_laws.proofs.StepLemmas.{Follows, fewer_follow, follow_stays}
use Rattle.oss_lower_laws.proofs.CodeLemmas.{Comes, HasAt, Standing, body_at, comes_on, has_back, has_front, plain, step_by}
use Rattle.oss_lower_laws.proofs.SectionLemmas.{created_ok}
use Rattle.oss_lower_laws.proofs.StatementLemmas.{BodiesDo, Executes, NumberedAt, StmtAgrees, assignment_ok, break_ok, call_done_ok, continue_ok, declare_ok, none_more, nothing_ok, placed, print_ok, release_ok, returned_ok, simple_ok, ticked_bodies, ticked_ok, wait_ok}
use Rattle.oss_lower_laws.proofs.NestedLemmas.{Agreeing, blocked_ok, choice_ok}
use Rattle.oss_lower_laws.proofs.LoopLemmas.{for_ok}

module _ (all : List Item) where
  -- A body of a function or of a task: jumps that lead out of it, and its end, give 0.
  pub enclosed_ok : (does : Does) (code : Codes) (entries : Entries) → Executes all does code entries
      → (n : ℕ) (S : Standing all n None) (spot : Spot) (tasks pc line : ℕ) (give : ℕ → Value → TreeRun) (locals : List Value)
      → HasAt S.code pc (enclosed_code line spot.result (code (enclosed_spot spot))) → NumberedAt S.places tasks (entries (enclosed_spot spot) (pc + end_length))
      → ((at l : ℕ) (v : Value) (us : List Value) → HasAt S.code at (given_code l spot.result) → Comes S at (v ∷ []) (plain us) (give l v))
      → Comes S (pc + end_length) [] (plain locals) (does (placed (enclosed_spot spot) tasks) S.here (out_of line give) locals)
  enclosed_ok does code entries ok n S spot tasks pc line give locals has num gives =
      ok n S (enclosed_spot spot) tasks (out_of line give) (pc + end_length) (pc + end_length + length body) locals (has_front S.code (pc + end_length) body end back) refl num
      (record {
        next = λ us. ends (pc + end_length + length body) us (has_back S.code (pc + end_length) body end back);
        stop = λ m less us. out m (omega (arith, less)) us;
        again = λ m less us. out m (omega (arith, less)) us;
        give = gives;
      })
    where
      body : List Lined
      body = code (enclosed_spot spot)

      end : List Lined
      end = end_code line spot.result

      back : HasAt S.code (pc + end_length) (body ++ end)
      back = has_back S.code pc end (body ++ end) has

      ends : (at : ℕ) (us : List Value) → HasAt S.code at end → Comes S at [] (plain us) (give line (value.Num 0))
      ends at us h = comes_on S at 0 (at + 1) [] (value.Num 0 ∷ []) (plain us) (plain us) _ _ h.0 refl (omega arith) (gives (at + 1) line (value.Num 0) us h.1)

      out : (m : ℕ) → m ≤ n → (us : List Value) → Follows S.code S.places m (body_at S (pc + end_length - end_length) [] (plain us)) (give line (value.Num 0))
      out m le us =
          subst (λ q. Follows S.code S.places m (body_at S q [] (plain us)) (give line (value.Num 0))) (omega arith)
          (fewer_follow S.code S.places m n (body_at S pc [] (plain us)) (give line (value.Num 0)) le (ends pc us (has_front S.code pc end (body ++ end) has)))

  -- where no function waits, a value that is given ends the body
  pub ends_ok : (n : ℕ) (S : Standing all n None) (result : Kind) → S.callers ≡ [] → (at line : ℕ) (v : Value) (us : List Value) → HasAt S.code at (given_code line result)
      → Comes S at (v ∷ []) (plain us) (ending End line)
  ends_ok n S result none at line v us has =
      comes_on S at 0 (at + 1) (v ∷ []) (kept_value result v ∷ []) (plain us) (plain us) _ (ending End line) has.0 refl (omega arith)
      (follow_stays S.code S.places n (body_at S (at + 1) (kept_value result v ∷ []) (plain us)) End line
      (step_by S (at + 1) (kept_value result v ∷ []) (plain us) _ _ has.1.0 refl
      ∙ ap (λ ks. given ks (kept_value result v) line (body_at S (at + 1) (kept_value result v ∷ []) (plain us))) none))

  module _ (line : ℕ) (clauses : List Clause) (body : Agreeing all) where
    abbrev task_does : Does
    task_does around here ways locals = created all around.scope (TaskBody.statement around.tasks) clauses line here locals (ways.next locals)

    task_runs : Executes all task_does (task_codes all line clauses body.right) (task_entries all line clauses body.right)
    task_runs n S spot tasks ways pc to locals has t num l =
        created_ok all spot.scope (TaskBody.statement tasks) (1 + end_length) clauses n None S pc (pc + length creation) line locals (ways.next locals) (has_front S.code pc creation rest has) refl
        (num.0 ∙ omega arith)
        (comes_on S (pc + length creation) (length inside) to [] [] (plain locals) (plain locals) _ (ways.next locals) (has_back S.code pc creation rest has).0 refl
        (omega (arith, t, length-append creation rest)) (l.next locals))
      where
        creation : List Lined
        creation = created_code all spot.scope (1 + end_length) clauses line

        inside : List Lined
        inside = enclosed_code line spot.result (body.right.code (enclosed_spot spot))

        rest : List Lined
        rest = one line 0 (i.Skip (length inside)) ++ inside

    abbrev task_in : Around → List Body
    task_in around = (λ here copies. body.left.does (in_task around) here (body_ends line) copies) ∷ body.left.bodies (in_task around)

    task_bodies : BodiesDo all task_in (task_codes all line clauses body.right) (task_entries all line clauses body.right)
    task_bodies n S spot tasks pc none has num = (
      λ copies. subst (λ q. Comes S q [] (plain copies) (body.left.does (in_task (placed spot tasks)) S.here (body_ends line) copies)) start_is
          (enclosed_ok body.left.does body.right.code body.right.entries body.related.runs n S spot (tasks + 1) start line (λ at v. ending End at) copies inside_has
          (subst (λ q. NumberedAt S.places (tasks + 1) (body.right.entries (enclosed_spot spot) q)) (sym start_is) num.1) (ends_ok n S spot.result none)),
      body.related.bodies n S (enclosed_spot spot) (tasks + 1) (pc + task_entry all line clauses spot) none
          (subst (λ q. HasAt S.code q (body.right.code (enclosed_spot spot))) start_is (has_front S.code (start + end_length) (body.right.code (enclosed_spot spot)) (end_code line spot.result) (has_back S.code start (end_code line spot.result) _ inside_has))) num.1,
    )
      where
        creation : List Lined
        creation = created_code all spot.scope (1 + end_length) clauses line

        inside : List Lined
        inside = enclosed_code line spot.result (body.right.code (enclosed_spot spot))

        start : ℕ
        start = pc + length creation + 1

        inside_has : HasAt S.code start inside
        inside_has = (has_back S.code pc creation (one line 0 (i.Skip (length inside)) ++ inside) has).1

        start_is : start + end_length ≡ pc + task_entry all line clauses spot
        start_is = omega arith

    pub task_ok : StmtAgrees all (task all line clauses body.left) (task_code all line clauses body.right)
    task_ok = record {
      behind = λ around. ap {B = Around} (λ a. record { scope = around.scope; tasks = a.tasks }) (body.related.behind (in_task around)) ∙ ap {B = Around} (λ k. record { scope = around.scope; tasks = k }) (omega arith);
      long = λ spot at. omega (arith, body.related.long (enclosed_spot (behind 1 spot)) (at + 1 + task_entry all line clauses (behind 1 spot)));
      runs = ticked_ok all line task_does (task_codes all line clauses body.right) (task_entries all line clauses body.right) task_runs;
      bodies = ticked_bodies all line task_in (task_codes all line clauses body.right) (task_entries all line clauses body.right) task_bodies;
    }

  jump_ok : (line : ℕ) (does : Does) (code : Codes) → Executes all does code no_entries → StmtAgrees all (record { behind = λ around. around; does = does; bodies = λ around. [] }) (record { scope = λ scope. scope; code = code; tasks = 0; entries = no_entries })
  jump_ok line does code ok = record {
    behind = λ around. none_more around around.scope;
    long = λ spot at. refl;
    runs = ok;
    bodies = λ n S spot tasks pc none has num. tt;
  }

  declares_ok : (line : ℕ) (ls : List Local) → StmtAgrees all (declare all line ls) (declare_code all line ls)
  declares_ok line ls = record {
    behind = λ around. none_more around (around.scope ++ ls);
    long = λ spot at. refl;
    runs = ticked_ok all line (λ around here ways locals. declared all line ls around.scope here locals ways.next) (λ spot. declared_code all line ls spot.scope) no_entries (declare_ok all line ls);
    bodies = λ n S spot tasks pc none has num. tt;
  }

  -- each kind of statement does what it means, if the statements in it do
  keeps : (z : StmtKind-F (Pair (AtLines (StmtAgrees all))) (Agreeing all)) → Keeps (StmtAgrees all) (stmt_step all) (stmt_code_step all) z
  keeps (open_stmt.Block ms) line = blocked_ok all line ms
  keeps open_stmt.Empty line = simple_ok all line _ no_code (nothing_ok all)
  keeps (open_stmt.Declare ls) line = declares_ok line ls
  keeps (open_stmt.Assign t o e) line = simple_ok all line _ _ (assignment_ok all line t o e)
  keeps (open_stmt.Call name es) line = simple_ok all line _ _ (call_done_ok all line name es)
  keeps (open_stmt.Print format es) line = simple_ok all line _ _ (print_ok all line format es)
  keeps (open_stmt.If e side None) line = choice_ok all line e side None
  keeps (open_stmt.If e side (Some other)) line = choice_ok all line e side (Some other)
  keeps (open_stmt.While e body) line = for_ok all line (Some e) None body None
  keeps (open_stmt.For None test None body) line = for_ok all line test None body None
  keeps (open_stmt.For None test (Some last) body) line = for_ok all line test (Some last) body None
  keeps (open_stmt.For (Some first) test None body) line = for_ok all line test None body (Some first)
  keeps (open_stmt.For (Some first) test (Some last) body) line = for_ok all line test (Some last) body (Some first)
  keeps (open_stmt.Return e) line = simple_ok all line _ _ (returned_ok all line e)
  keeps open_stmt.Break line = jump_ok line _ _ (break_ok all line)
  keeps open_stmt.Continue line = jump_ok line _ _ (continue_ok all line)
  keeps (open_stmt.Task mark body) line = task_ok line mark.clauses body
  keeps (open_stmt.TaskLoop head body) line = simple_ok all line _ no_code (nothing_ok all)
  keeps (open_stmt.TaskWait sections) line = simple_ok all line _ _ (wait_ok all line sections)
  keeps (open_stmt.Release clauses) line = simple_ok all line _ _ (release_ok all line clauses)

  -- The instructions of a statement do what it means.
  pub statements_agree : (s : Stmt) → StmtAgrees all (meaning_of all s) (stmt_code all s)
  statements_agree = folds.both (StmtAgrees all) (stmt_step all) (stmt_code_step all) keeps
