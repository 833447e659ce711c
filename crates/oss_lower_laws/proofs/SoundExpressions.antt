-- The instructions of expressions, sections and clauses are sound.
use Rattle.std.proofs.Common.{◌≡◌, ℕ, ◌+◌, ◌-◌, List, [], ◌∷◌, ◌++◌, length, map, Option, Some, None, Bool, true, false, refl, subst, arith, length-append}
use Rattle.std.specs.Prelude.{slice_get}
use Rattle.std.proofs.lemmas.List.{length-map}
use Rattle.oss_syntax.specs.declared.tree.expr.BinOp.{BinOp}
use Rattle.oss_syntax.specs.declared.tree.expr.BinOp.TheVariants as op
use Rattle.oss_syntax.specs.declared.tree.expr.UnOp.{UnOp}
use Rattle.oss_syntax.specs.declared.tree.expr.UnOp.TheVariants as prefix
use Rattle.oss_syntax.specs.declared.tree.expr.Expr.{Expr}
use Rattle.oss_syntax.specs.declared.tree.expr.ExprKind.TheOpen.{ExprKind-F}
use Rattle.oss_syntax.specs.declared.tree.expr.ExprKind.TheOpen as open_expr
use Rattle.oss_syntax.specs.declared.tree.pragma.Clause.{Clause}
use Rattle.oss_syntax.specs.declared.tree.pragma.Clause.TheVariants as clause
use Rattle.oss_syntax.specs.declared.tree.pragma.Form.{Form}
use Rattle.oss_syntax.specs.declared.tree.pragma.Form.TheVariants as form
use Rattle.oss_syntax.specs.declared.tree.pragma.Section.{Section}
use Rattle.oss_syntax.specs.declared.tree.pragma.Turns.{Turns}
use Rattle.oss_syntax.specs.declared.tree.program.Item.{Item}
use Rattle.oss_syntax.specs.declared.tree.program.Local.{Local}
use Rattle.oss_meaning.specs.declared.clauses.Declared.{Declared}
use Rattle.oss_meaning.specs.declared.names.Found.{Found}
use Rattle.oss_meaning.specs.declared.names.Found.TheVariants as names
use Rattle.oss_meaning.specs.declared.names.Target.{Target}
use Rattle.oss_meaning.specs.declared.names.Target.TheVariants as target
use Rattle.oss_meaning.specs.Expressions.{is_task_function}
use Rattle.oss_meaning.specs.Names.{found, functions_of, item_found}
use Rattle.oss_meaning.specs.Operators.{is_pointer, is_unsigned_kind}
use Rattle.oss_meaning.specs.Sections.{operands_in}
use Rattle.oss_code.specs.Soundness.{IsAtDepth, IsFunction, IsSoundAt}
use Rattle.oss_code.specs.declared.code.CodeParts.{CodeParts}
use Rattle.oss_code.specs.declared.instr.Direction.TheVariants as direction
use Rattle.oss_code.specs.declared.instr.Instr.{Instr}
use Rattle.oss_code.specs.declared.instr.Instr.TheVariants as i
use Rattle.oss_code.specs.declared.instr.SectionBase.{SectionBase}
use Rattle.oss_lower_laws.specs.declared.lined.Lined.{Lined}
use Rattle.oss_lower_laws.specs.ExpressionCode.{ExprCode, Pushes, and_code, arguments_code, binary_code, call_code, call_instr, expr_code, expr_code_step, index_indexed_code, index_place_code, index_value_code, load_code, name_place_code, name_value_code, no_place_code, one, operator, operator_by, or_code, prefix_place_code, prefix_value_code, then_one, then_two}
use Rattle.oss_lower_laws.specs.SectionCode.{base_code, clause_code, clauses_code, created_code, form_code, indices_code, many_code, optional_code, plain_code, section_code, sections_code, turn_code}
use Rattle.oss_lower_laws.proofs.ExpressionFolds as folds
use Rattle.oss_lower_laws.proofs.ExpressionFolds.{Keeps, Pair, map_twice}
use Rattle.oss_lower_laws.proofs.SectionLemmas.{form_count}
use Rattle.oss_lower_laws.proofs.FlowLemmas.{DepthsAt, Flows, IsSimple, SoundFrom, at_depth, call_sound, create_sound, depths_back, depths_front, flows_none, flows_one, flows_then, next_turn_sound, simple_sound, skip_sound, sound_append, spawn_sound, turns_sound, unless_sound}

pub operator_simple : (pointer left right : Bool) (o : BinOp) → IsSimple (operator pointer o left right) 2 1
operator_simple true left right o = record { takes_is = refl; leaves_is = refl; leads_is = refl; enters_is = refl }
operator_simple false left right o = record { takes_is = refl; leaves_is = refl; leads_is = refl; enters_is = refl }

-- each function that a name stands for is there
abbrev pub FunctionsThere : List Item → CodeParts → Type 0
FunctionsThere all code = (name : List ℕ) (f : ℕ) → item_found all name ≡ names.Function f → IsFunction code (slice_get code.functions f)

module _ (all : List Item) (code : CodeParts) (there : FunctionsThere all code) where
  -- Instructions that leave one value more.
  abbrev pub PushesSoundly : Pushes → Type 0
  PushesSoundly p = (pc line depth : ℕ) → Flows code pc (p line depth) depth (depth + 1)

  pub record IsSoundExpr (left c : ExprCode) : Type 0 where
    pub value : PushesSoundly c.value
    pub place : PushesSoundly c.place
    pub indexed : PushesSoundly c.indexed

  -- one instruction that leaves a value
  pub pushed : (what : Instr) → IsSimple what 0 1 → PushesSoundly (λ line depth. one line depth what)
  pushed what simple pc line depth = flows_one code pc line depth 0 1 (depth + 1) what simple (omega arith) (omega arith)

  nowhere : PushesSoundly no_place_code
  nowhere = pushed i.Nothing (record { takes_is = refl; leaves_is = refl; leads_is = refl; enters_is = refl })

  address : (g : ℕ) → PushesSoundly (λ line depth. one line depth (i.Address g))
  address g = pushed (i.Address g) (record { takes_is = refl; leaves_is = refl; leads_is = refl; enters_is = refl })

  pub one_more : (p : Pushes) (what : Instr) → PushesSoundly p → IsSimple what 1 1 → PushesSoundly (then_one p what)
  one_more p what ok simple pc line depth =
      flows_then code pc (p line depth) _ depth (depth + 1) (depth + 1) (ok pc line depth) (flows_one code _ line (depth + 1) 1 1 (depth + 1) what simple (omega arith) (omega arith))

  two_more : (p q : Pushes) (what : Instr) → PushesSoundly p → PushesSoundly q → IsSimple what 2 1 → PushesSoundly (then_two p q what)
  two_more p q what okp okq simple pc line depth =
      flows_then code pc (p line depth) _ depth (depth + 1) (depth + 1) (okp pc line depth)
      (λ depths exit. flows_then code (pc + length (p line depth)) (q line (depth + 1)) _ (depth + 1) (depth + 1 + 1) (depth + 1) (okq _ line (depth + 1))
      (λ ds e. let last = flows_one code _ line (depth + 2) 2 1 (depth + 1) what simple (omega arith) (omega arith) ds e in (at_depth code _ _ (depth + 2) (depth + 1 + 1) refl (omega arith) last.0, last.1)) depths exit)

  loaded : (p : Pushes) → PushesSoundly p → PushesSoundly (load_code p)
  loaded p ok = one_more p i.Load ok (record { takes_is = refl; leaves_is = refl; leads_is = refl; enters_is = refl })

  name_value : (f : Found) → PushesSoundly (name_value_code f)
  name_value (names.Variable slot k) = pushed (i.Local slot) (record { takes_is = refl; leaves_is = refl; leads_is = refl; enters_is = refl })
  name_value (names.Scalar g k) = loaded (λ line depth. one line depth (i.Address g)) (address g)
  name_value (names.Array g k) = address g
  name_value (names.Grid g k) = address g
  name_value _ = nowhere

  name_place : (f : Found) → PushesSoundly (name_place_code f)
  name_place (names.Scalar g k) = address g
  name_place _ = nowhere

  module _ (la lb a b : ExprCode) (oka : IsSoundExpr la a) (okb : IsSoundExpr lb b) where
    index_place : (t : Target) → PushesSoundly (index_place_code t a b)
    index_place (target.Grid g k) = one_more b.value (i.Row g) okb.value (record { takes_is = refl; leaves_is = refl; leads_is = refl; enters_is = refl })
    index_place (target.Row g k) = two_more a.indexed b.value (i.Element g) oka.indexed okb.value (record { takes_is = refl; leaves_is = refl; leads_is = refl; enters_is = refl })
    index_place target.Nothing = two_more a.value b.value (i.Move direction.Forth) oka.value okb.value (record { takes_is = refl; leaves_is = refl; leads_is = refl; enters_is = refl })
    index_place (target.Local slot k) = two_more a.value b.value (i.Move direction.Forth) oka.value okb.value (record { takes_is = refl; leaves_is = refl; leads_is = refl; enters_is = refl })
    index_place (target.Cell k) = two_more a.value b.value (i.Move direction.Forth) oka.value okb.value (record { takes_is = refl; leaves_is = refl; leads_is = refl; enters_is = refl })

    index_value : (t : Target) → PushesSoundly (index_value_code t a b)
    index_value (target.Grid g k) = index_place (target.Grid g k)
    index_value (target.Row g k) = loaded (index_place_code (target.Row g k) a b) (index_place (target.Row g k))
    index_value target.Nothing = loaded (index_place_code target.Nothing a b) (index_place target.Nothing)
    index_value (target.Local slot k) = loaded (index_place_code (target.Local slot k) a b) (index_place (target.Local slot k))
    index_value (target.Cell k) = loaded (index_place_code (target.Cell k) a b) (index_place (target.Cell k))

    index_indexed : (t : Target) → PushesSoundly (index_indexed_code t a b)
    index_indexed (target.Grid g k) = okb.value
    index_indexed (target.Row g k) = index_value (target.Row g k)
    index_indexed target.Nothing = index_value target.Nothing
    index_indexed (target.Local slot k) = index_value (target.Local slot k)
    index_indexed (target.Cell k) = index_value (target.Cell k)

    and_sound : PushesSoundly (and_code a.value b.value)
    and_sound pc line depth depths exit = (left.0, sound_append code pc xs _ left.1 (test, sound_append code (p1 + 1) ys tail right.1 (truth, (jump, (push, tt)))))
      where
        xs : List Lined
        xs = a.value line depth

        ys : List Lined
        ys = b.value line depth

        tail : List Lined
        tail = one line (depth + 1) i.Truth ++ (one line (depth + 1) (i.Skip 1) ++ one line depth (i.Push 0))

        p1 : ℕ
        p1 = pc + length xs

        p2 : ℕ
        p2 = p1 + 1 + length ys

        rest : DepthsAt code p1 (one line (depth + 1) (i.SkipUnless (length ys + 2)) ++ (ys ++ tail))
        rest = depths_back code pc xs _ depths

        last : DepthsAt code p2 tail
        last = depths_back code (p1 + 1) ys tail rest.1

        out : IsAtDepth code (p2 + 1 + 1 + 1) (depth + 1)
        out = at_depth code _ _ (depth + 1) (depth + 1) (omega (arith, length-append xs (one line (depth + 1) (i.SkipUnless (length ys + 2)) ++ (ys ++ tail)), length-append ys tail)) refl exit

        left : IsAtDepth code pc depth × SoundFrom code pc xs
        left = oka.value pc line depth (depths_front code pc xs _ depths) rest.0

        right : IsAtDepth code (p1 + 1) depth × SoundFrom code (p1 + 1) ys
        right = okb.value (p1 + 1) line depth (depths_front code (p1 + 1) ys tail rest.1) last.0

        test : IsSoundAt code p1 (depth + 1) (i.SkipUnless (length ys + 2))
        test = unless_sound code p1 depth (length ys + 2) (p2 + 1 + 1) (omega arith) right.0 last.1.1.0

        truth : IsSoundAt code p2 (depth + 1) i.Truth
        truth = simple_sound code p2 (depth + 1) 1 1 (depth + 1) i.Truth (record { takes_is = refl; leaves_is = refl; leads_is = refl; enters_is = refl }) (omega arith) (omega arith) last.1.0

        jump : IsSoundAt code (p2 + 1) (depth + 1) (i.Skip 1)
        jump = skip_sound code (p2 + 1) (depth + 1) 1 (p2 + 1 + 1 + 1) (omega arith) out

        push : IsSoundAt code (p2 + 1 + 1) depth (i.Push 0)
        push = simple_sound code (p2 + 1 + 1) depth 0 1 (depth + 1) (i.Push 0) (record { takes_is = refl; leaves_is = refl; leads_is = refl; enters_is = refl }) (omega arith) (omega arith) out

    or_sound : PushesSoundly (or_code a.value b.value)
    or_sound pc line depth depths exit = (left.0, sound_append code pc xs _ left.1 (test, (push, (jump, sound_append code (p1 + 1 + 1 + 1) ys tail right.1 (truth, tt)))))
      where
        xs : List Lined
        xs = a.value line depth

        ys : List Lined
        ys = b.value line depth

        tail : List Lined
        tail = one line (depth + 1) i.Truth

        p1 : ℕ
        p1 = pc + length xs

        p2 : ℕ
        p2 = p1 + 1 + 1 + 1 + length ys

        rest : DepthsAt code p1 (one line (depth + 1) (i.SkipUnless 2) ++ (one line depth (i.Push 1) ++ (one line (depth + 1) (i.Skip (length ys + 1)) ++ (ys ++ tail))))
        rest = depths_back code pc xs _ depths

        last : DepthsAt code p2 tail
        last = depths_back code (p1 + 1 + 1 + 1) ys tail rest.1.1.1

        out : IsAtDepth code (p2 + 1) (depth + 1)
        out =
            at_depth code _ _ (depth + 1) (depth + 1)
            (omega (arith, length-append xs (one line (depth + 1) (i.SkipUnless 2) ++ (one line depth (i.Push 1) ++ (one line (depth + 1) (i.Skip (length ys + 1)) ++ (ys ++ tail)))), length-append ys tail)) refl exit

        left : IsAtDepth code pc depth × SoundFrom code pc xs
        left = oka.value pc line depth (depths_front code pc xs _ depths) rest.0

        right : IsAtDepth code (p1 + 1 + 1 + 1) depth × SoundFrom code (p1 + 1 + 1 + 1) ys
        right = okb.value (p1 + 1 + 1 + 1) line depth (depths_front code (p1 + 1 + 1 + 1) ys tail rest.1.1.1) last.0

        test : IsSoundAt code p1 (depth + 1) (i.SkipUnless 2)
        test = unless_sound code p1 depth 2 (p1 + 1 + 1 + 1) (omega arith) rest.1.0 right.0

        push : IsSoundAt code (p1 + 1) depth (i.Push 1)
        push = simple_sound code (p1 + 1) depth 0 1 (depth + 1) (i.Push 1) (record { takes_is = refl; leaves_is = refl; leads_is = refl; enters_is = refl }) (omega arith) (omega arith) rest.1.1.0

        jump : IsSoundAt code (p1 + 1 + 1) (depth + 1) (i.Skip (length ys + 1))
        jump = skip_sound code (p1 + 1 + 1) (depth + 1) (length ys + 1) (p2 + 1) (omega arith) out

        truth : IsSoundAt code p2 (depth + 1) i.Truth
        truth = simple_sound code p2 (depth + 1) 1 1 (depth + 1) i.Truth (record { takes_is = refl; leaves_is = refl; leads_is = refl; enters_is = refl }) (omega arith) (omega arith) out

    binary_sound : (o : BinOp) → PushesSoundly (binary_code o a b)
    binary_sound op.AndAlso = and_sound
    binary_sound op.OrElse = or_sound
    binary_sound o = two_more a.value b.value (operator_by o a.typed.kind b.typed.kind) oka.value okb.value (operator_simple (is_pointer a.typed.kind) (is_unsigned_kind a.typed.kind) (is_unsigned_kind b.typed.kind) o)

  module _ (le e : ExprCode) (ok : IsSoundExpr le e) where
    prefix_value : (o : UnOp) → PushesSoundly (prefix_value_code o e)
    prefix_value prefix.Deref = loaded e.value ok.value
    prefix_value prefix.Address = ok.place
    prefix_value o = one_more e.value (i.Prefix o) ok.value (record { takes_is = refl; leaves_is = refl; leads_is = refl; enters_is = refl })

    prefix_place : (o : UnOp) → PushesSoundly (prefix_place_code o e)
    prefix_place prefix.Deref = ok.value
    prefix_place _ = nowhere

  -- Calls

  abbrev Sound : Type 0
  Sound = Pair IsSoundExpr

  abbrev code_in : Sound → ExprCode
  code_in p = p.right

  arguments_sound : (es : List Sound) (pc line depth : ℕ) → Flows code pc (arguments_code (map code_in es) line depth) depth (depth + length (map code_in es))
  arguments_sound [] pc line depth depths exit = (at_depth code (pc + 0) pc (depth + 0) depth (omega arith) (omega arith) exit, tt)
  arguments_sound (e ∷ es) pc line depth depths exit =
      flows_then code pc (e.right.value line depth) (arguments_code (map code_in es) line (depth + 1)) depth (depth + 1) (depth + length (map code_in (e ∷ es))) (e.related.value pc line depth)
      (λ ds out. arguments_sound es (pc + length (e.right.value line depth)) line (depth + 1) ds
      (at_depth code _ _ (depth + length (map code_in (e ∷ es))) (depth + 1 + length (map code_in es)) refl (omega arith) out)) depths exit

  call_instr_sound : (marked : Bool) (pc line depth f count : ℕ) → IsFunction code (slice_get code.functions f) → Flows code pc (one line (depth + count) (call_instr marked f count)) (depth + count) (depth + 1)
  call_instr_sound false pc line depth f count is depths exit = (depths.0, (call_sound code pc depth f count is exit, tt))
  call_instr_sound true pc line depth f count is depths exit = (depths.0, (spawn_sound code pc depth f count is exit, tt))

  call_found_sound : (f : Found) (es : List Sound) → ((g : ℕ) → f ≡ names.Function g → IsFunction code (slice_get code.functions g)) → PushesSoundly (call_code all f (map code_in es))
  call_found_sound (names.Function f) es known = λ pc line depth.
      flows_then code pc (arguments_code (map code_in es) line depth) _ depth (depth + length (map code_in es)) (depth + 1) (arguments_sound es pc line depth)
      (call_instr_sound (is_task_function (slice_get (functions_of all) f)) _ line depth f (length (map code_in es)) (known f refl))
  call_found_sound _ es known = pushed (i.Push 0) (record { takes_is = refl; leaves_is = refl; leads_is = refl; enters_is = refl })

  -- each kind of expression is sound, if its parts are
  keeps : (scope : List Local) (z : ExprKind-F Sound Sound) → Keeps IsSoundExpr (expr_code_step all scope) (expr_code_step all scope) z
  keeps scope (open_expr.Number k unsigned) = record {
    value = pushed (i.Push k) (record { takes_is = refl; leaves_is = refl; leads_is = refl; enters_is = refl });
    place = nowhere;
    indexed = pushed (i.Push k) (record { takes_is = refl; leaves_is = refl; leads_is = refl; enters_is = refl });
  }
  keeps scope (open_expr.Name name) = record { value = name_value (found all scope name); place = name_place (found all scope name); indexed = name_value (found all scope name) }
  keeps scope (open_expr.Index a e) = record {
    value = index_value a.left e.left a.right e.right a.related e.related a.right.typed.target;
    place = index_place a.left e.left a.right e.right a.related e.related a.right.typed.target;
    indexed = index_indexed a.left e.left a.right e.right a.related e.related a.right.typed.target;
  }
  keeps scope (open_expr.Unary o e) = record {
    value = prefix_value e.left e.right e.related o;
    place = prefix_place e.left e.right e.related o;
    indexed = prefix_value e.left e.right e.related o;
  }
  keeps scope (open_expr.Binary o a b) = record {
    value = binary_sound a.left b.left a.right b.right a.related b.related o;
    place = nowhere;
    indexed = binary_sound a.left b.left a.right b.right a.related b.related o;
  }
  keeps scope (open_expr.Call name es) = record {
    value = call_found_sound (item_found all name) es (there name);
    place = nowhere;
    indexed = call_found_sound (item_found all name) es (there name);
  }

  pub expressions_sound : (scope : List Local) (e : Expr) → IsSoundExpr (expr_code all scope e) (expr_code all scope e)
  expressions_sound scope = folds.both IsSoundExpr (expr_code_step all scope) (expr_code_step all scope) (keeps scope)

  pub value_sound : (scope : List Local) (e : Expr) (pc line depth : ℕ) → Flows code pc ((expr_code all scope e).value line depth) depth (depth + 1)
  value_sound scope e pc line depth = (expressions_sound scope e).value pc line depth

  -- expressions on a stack
  pairs : List Local → List Expr → List Sound
  pairs scope es = map (λ e. record { left = expr_code all scope e; right = expr_code all scope e; related = expressions_sound scope e }) es

  codes_are : (scope : List Local) (es : List Expr) → map code_in (pairs scope es) ≡ map (expr_code all scope) es
  unfolding pairs
  codes_are scope es = map_twice _ _ es

  pub values_sound : (scope : List Local) (es : List Expr) (pc line : ℕ) → Flows code pc (arguments_code (map (expr_code all scope) es) line 0) 0 (length es)
  values_sound scope es pc line =
      subst (λ k. Flows code pc (arguments_code (map (expr_code all scope) es) line 0) 0 k) (omega (arith, length-map es (expr_code all scope)))
      (subst (λ cs. Flows code pc (arguments_code cs line 0) 0 (0 + length cs)) (codes_are scope es) (arguments_sound (pairs scope es) pc line 0))

  pub call_sound_of : (scope : List Local) (name : List ℕ) (es : List Expr) → PushesSoundly (call_code all (item_found all name) (map (expr_code all scope) es))
  call_sound_of scope name es = subst (λ cs. PushesSoundly (call_code all (item_found all name) cs)) (codes_are scope es) (call_found_sound (item_found all name) (pairs scope es) (there name))

  -- Sections

  plain_sound : (scope : List Local) (d : Declared) (s : Section) (pc line : ℕ) → Flows code pc (plain_code all scope d s line) 0 0
  plain_sound scope d s pc line =
      flows_then code pc (arguments_code (map (expr_code all scope) (operands_in s.form)) line 0) _ 0 (length (operands_in s.form)) 0 (values_sound scope (operands_in s.form) pc line)
      (flows_one code _ line (length (operands_in s.form)) (length (operands_in s.form)) 0 0 (i.Section (base_code (found all scope s.base)) (form_code s.form) d)
      (record { takes_is = form_count s.form; leaves_is = refl; leads_is = refl; enters_is = refl }) (omega arith) (omega arith))

  optional_sound : (scope : List Local) (o : Option Expr) (pc line : ℕ) → Flows code pc (optional_code all scope o line) 0 1
  optional_sound scope None pc line = flows_one code pc line 0 0 1 1 (i.Push 0) (record { takes_is = refl; leaves_is = refl; leads_is = refl; enters_is = refl }) (omega arith) (omega arith)
  optional_sound scope (Some e) pc line = value_sound scope e pc line 0

  turn_sound : (scope : List Local) (over : SectionBase) (e : Expr) (o : Option Expr) (pc line : ℕ) → Flows code pc (turn_code all scope over e o line) 0 0
  turn_sound scope over e None pc line =
      flows_then code pc ((expr_code all scope e).value line 0) _ 0 1 0 (value_sound scope e pc line 0)
      (flows_one code _ line 1 1 0 0 (i.Turn over (indices_code None)) (record { takes_is = refl; leaves_is = refl; leads_is = refl; enters_is = refl }) (omega arith) (omega arith))
  turn_sound scope over e (Some f) pc line =
      flows_then code pc ((expr_code all scope e).value line 0) _ 0 1 0 (value_sound scope e pc line 0)
      (flows_then code _ ((expr_code all scope f).value line 1) _ 1 2 0 (value_sound scope f _ line 1)
      (flows_one code _ line 2 2 0 0 (i.Turn over (indices_code (Some f))) (record { takes_is = refl; leaves_is = refl; leads_is = refl; enters_is = refl }) (omega arith) (omega arith)))

  many_sound : (scope : List Local) (d : Declared) (over : SectionBase) (e : Expr) (o : Option Expr) (turns : Turns) (pc line : ℕ) → Flows code pc (many_code all scope d over e o turns line) 0 0
  many_sound scope d over e o turns pc line =
      flows_then code pc (optional_code all scope turns.variable.first line) _ 0 1 0 (optional_sound scope turns.variable.first pc line)
      (flows_then code _ ((expr_code all scope turns.count).value line 1) _ 1 2 0 (value_sound scope turns.count _ line 1) (λ depths exit. loop _ depths exit))
    where
      turn : List Lined
      turn = turn_code all (scope ++ turns.variable ∷ []) over e o line

      tail : List Lined
      tail = one line 0 (i.NextTurn (length turn)) ++ one line 0 (i.EndTurns d)

      loop : (p : ℕ) → Flows code p (one line 2 (i.Turns (length turn + 1)) ++ (turn ++ tail)) 2 0
      loop p depths exit =
          let p2 = p + 1 + length turn in
          let last : DepthsAt code p2 tail = depths_back code (p + 1) turn tail depths.1 in
          let inside = turn_sound (scope ++ turns.variable ∷ []) over e o (p + 1) line (depths_front code (p + 1) turn tail depths.1) last.0 in
          let out : IsAtDepth code (p2 + 1 + 1) 0 = at_depth code _ _ 0 0 (omega (arith, length-append turn tail)) refl exit in (
            depths.0,
            (
              turns_sound code p (length turn + 1) (p2 + 1) (omega arith) inside.0 last.1.0,
              sound_append code (p + 1) turn tail inside.1 (
                next_turn_sound code p2 (length turn) (omega arith) last.1.0 (at_depth code (p + 1) (p2 - length turn) 0 0 (omega arith) refl inside.0),
                (simple_sound code (p2 + 1) 0 0 0 0 (i.EndTurns d) (record { takes_is = refl; leaves_is = refl; leads_is = refl; enters_is = refl }) (omega arith) (omega arith) out, tt),
              ),
            ),
          )

  abbrev section_by : List ℕ → Form → ℕ → ℕ → Section
  section_by base f first name_line = record { base = base; form = f; line = first; base_line = name_line }

  section_by_sound : (scope : List Local) (d : Declared) (base : List ℕ) (f : Form) (first name_line pc line : ℕ) → Flows code pc (section_code all scope d (section_by base f first name_line) line) 0 0
  section_by_sound scope d base (form.Many e o turns) first name_line pc line = many_sound scope d (base_code (found all scope base)) e o turns pc line
  section_by_sound scope d base form.Whole first name_line pc line = plain_sound scope d (section_by base form.Whole first name_line) pc line
  section_by_sound scope d base form.Deref first name_line pc line = plain_sound scope d (section_by base form.Deref first name_line) pc line
  section_by_sound scope d base (form.Shape m) first name_line pc line = plain_sound scope d (section_by base (form.Shape m) first name_line) pc line
  section_by_sound scope d base (form.Element e) first name_line pc line = plain_sound scope d (section_by base (form.Element e) first name_line) pc line
  section_by_sound scope d base (form.Length l m) first name_line pc line = plain_sound scope d (section_by base (form.Length l m) first name_line) pc line
  section_by_sound scope d base (form.Span l u) first name_line pc line = plain_sound scope d (section_by base (form.Span l u) first name_line) pc line
  section_by_sound scope d base (form.Grid rows columns) first name_line pc line = plain_sound scope d (section_by base (form.Grid rows columns) first name_line) pc line

  pub sections_sound : (scope : List Local) (d : Declared) (ss : List Section) (pc line : ℕ) → Flows code pc (sections_code all scope d ss line) 0 0
  sections_sound scope d [] pc line = flows_none code pc 0
  sections_sound scope d (s ∷ ss) pc line =
      flows_then code pc (section_code all scope d s line) _ 0 0 0 (section_by_sound scope d s.base s.form s.line s.base_line pc line) (sections_sound scope d ss _ line)

  -- Clauses

  valued_sound : (scope : List Local) (e : Expr) (what : Instr) → IsSimple what 1 0 → (pc line : ℕ) → Flows code pc ((expr_code all scope e).value line 0 ++ one line 1 what) 0 0
  valued_sound scope e what simple pc line =
      flows_then code pc ((expr_code all scope e).value line 0) _ 0 1 0 (value_sound scope e pc line 0) (flows_one code _ line 1 1 0 0 what simple (omega arith) (omega arith))

  clause_sound : (scope : List Local) (c : Clause) (pc line : ℕ) → Flows code pc (clause_code all scope c line) 0 0
  clause_sound scope (clause.Depend mode strong fresh sections) pc line = sections_sound scope (record { mode = mode; strong = strong; fresh = fresh }) sections pc line
  clause_sound scope (clause.If e) pc line = valued_sound scope e i.When (record { takes_is = refl; leaves_is = refl; leads_is = refl; enters_is = refl }) pc line
  clause_sound scope (clause.Final e) pc line = valued_sound scope e i.Final (record { takes_is = refl; leaves_is = refl; leads_is = refl; enters_is = refl }) pc line
  clause_sound scope clause.Wait pc line = flows_one code pc line 0 0 0 0 i.Late (record { takes_is = refl; leaves_is = refl; leads_is = refl; enters_is = refl }) (omega arith) (omega arith)
  clause_sound scope (clause.Label text) pc line = flows_none code pc 0
  clause_sound scope (clause.Priority e) pc line = valued_sound scope e i.Priority (record { takes_is = refl; leaves_is = refl; leads_is = refl; enters_is = refl }) pc line
  clause_sound scope (clause.Grain e) pc line = flows_none code pc 0

  pub clauses_sound : (scope : List Local) (cs : List Clause) (pc line : ℕ) → Flows code pc (clauses_code all scope cs line) 0 0
  clauses_sound scope [] pc line = flows_none code pc 0
  clauses_sound scope (c ∷ cs) pc line = flows_then code pc (clause_code all scope c line) _ 0 0 0 (clause_sound scope c pc line) (clauses_sound scope cs _ line)

  -- a creation, whose task begins with an empty stack
  pub created_sound : (scope : List Local) (passed : ℕ) (cs : List Clause) (pc line to : ℕ) → to ≡ pc + length (created_code all scope passed cs line) + passed → IsAtDepth code to 0
      → Flows code pc (created_code all scope passed cs line) 0 0
  created_sound scope passed cs pc line to t entered =
      flows_then code pc (one line 0 i.Begin) _ 0 0 0 (flows_one code pc line 0 0 0 0 i.Begin (record { takes_is = refl; leaves_is = refl; leads_is = refl; enters_is = refl }) (omega arith) (omega arith))
      (flows_then code (pc + 1) (clauses_code all scope cs line) (one line 0 (i.Create passed)) 0 0 0 (clauses_sound scope cs (pc + 1) line)
      (λ depths exit. (depths.0, (create_sound code _ passed to (omega (arith, t, length-append (clauses_code all scope cs line) (one line 0 (i.Create passed)))) exit entered, tt))))
