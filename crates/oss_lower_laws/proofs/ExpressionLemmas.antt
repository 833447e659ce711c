-- The instructions of an expression do what it means.
use Rattle.std.proofs.Common.{◌≡◌, ◌∙◌, ℕ, suc, ◌+◌, ◌<◌, List, [], ◌∷◌, ◌++◌, length, map, Option, None, Bool, true, false, pos, refl, sym, ap, subst, arith, length-append, take, drop, reverse}
use Rattle.std.specs.Prelude.{nat_le, if◌then◌else◌, slice_get}
use Rattle.std.proofs.lemmas.List.{length-map}
use Rattle.std.proofs.lemmas.Bool.Decides.{nat_tests}
use Rattle.std.proofs.Math.Seq.{take-append_seam, drop-append_seam}
use Rattle.oss_syntax.specs.declared.fault.FaultKind.TheVariants as fault
use Rattle.oss_syntax.specs.declared.tree.expr.BinOp.{BinOp}
use Rattle.oss_syntax.specs.declared.tree.expr.BinOp.TheVariants as op
use Rattle.oss_syntax.specs.declared.tree.expr.UnOp.{UnOp}
use Rattle.oss_syntax.specs.declared.tree.expr.UnOp.TheVariants as prefix
use Rattle.oss_syntax.specs.declared.tree.expr.Expr.{Expr}
use Rattle.oss_syntax.specs.declared.tree.expr.ExprKind.TheOpen.{ExprKind-F}
use Rattle.oss_syntax.specs.declared.tree.expr.ExprKind.TheOpen as open_expr
use Rattle.oss_syntax.specs.declared.tree.program.Item.{Item}
use Rattle.oss_syntax.specs.declared.tree.program.Local.{Local}
use Rattle.oss_grammar.specs.Kinds.{binary_kind}
use Rattle.oss_model.specs.Bodies.Ask.{Tick, Read, Fails}
use Rattle.oss_meaning.specs.declared.names.Found.{Found}
use Rattle.oss_meaning.specs.declared.names.Found.TheVariants as names
use Rattle.oss_meaning.specs.declared.names.Target.{Target}
use Rattle.oss_meaning.specs.declared.names.Target.TheVariants as target
use Rattle.oss_meaning.specs.declared.value.Value.{Value}
use Rattle.oss_meaning.specs.declared.value.Value.TheVariants as value
use Rattle.oss_meaning.specs.Expressions.{Evaluation, Sense, TreeRun, arguments, binary_value, both, both_then, call_value, called, called_or_created, expr_step, index_indexed, index_place, index_value, is_task_function, name_place, name_value, no_place, prefix_place, prefix_value, sense_of, then_load, typed_index, typed_prefix, typed_value, unless_fault, value_at}
use Rattle.oss_meaning.specs.Names.{found, functions_of, item_found}
use Rattle.oss_meaning.specs.Operators.{is_back, is_pointer, is_unsigned_kind, is_zero, operated, operated_by, applied_to, prefixed, truth_of}
use Rattle.oss_meaning.specs.Pointers.{element_of, extents_of, moved, number_in, row_of}
use Rattle.oss_meaning.specs.Runs.{ending}
use Rattle.oss_code.specs.declared.instr.Instr.{Instr}
use Rattle.oss_code.specs.declared.instr.Instr.TheVariants as i
use Rattle.oss_code.specs.declared.instr.Direction.TheVariants as direction
use Rattle.oss_machine.specs.Frames.{Config, Frame, counted, first_frame, open_functions}
use Rattle.oss_machine.specs.Steps.{On, Asks, Calls, Waits, after_effect, effect, entry_of, line_of_newest, one_step, or_line, spawned, step_at}
use Rattle.oss_machine.specs.Steps as steps
use Rattle.oss_lower_laws.specs.declared.lined.Lined.{Lined}
use Rattle.oss_lower_laws.specs.ExpressionCode.{ExprCode, Pushes, and_code, arguments_code, binary_code, call_code, call_instr, direction_of, expr_code, expr_code_step, index_indexed_code, index_place_code, index_value_code, load_code, name_place_code, name_value_code, no_place_code, one, operator, operator_by, or_code, prefix_place_code, prefix_value_code, then_one, then_two}
use Rattle.oss_lower_laws.proofs.ExpressionFolds as folds
use Rattle.oss_lower_laws.proofs.ExpressionFolds.{Pair, Keeps}
use Rattle.oss_lower_laws.proofs.StepLemmas.{Follows, fewer_follow, follow_stays, follow_waits}
use Rattle.oss_lower_laws.proofs.CodeLemmas.{Comes, HasAt, IsAt, Side, Standing, body_at, comes_at, comes_on, comes_result, comes_touching, framed, has_back, has_front, step_by}

-- The instructions come to their end with the value, and what follows goes on as the meaning does.
abbrev pub Evaluates : List Item → Evaluation → Pushes → Type 0
Evaluates all means code = (n : ℕ) (cl : Option ℕ) (S : Standing all n cl) (pc to line depth : ℕ) (stack : List Value) (b : Side) (go : Value → TreeRun)
    → HasAt S.code pc (code line depth) → to ≡ pc + length (code line depth)
    → ((v : Value) → Comes S to (v ∷ stack) b (go v)) → Comes S pc stack b (means (or_line cl line) S.here b.locals go)

-- An expression's meaning and its instructions.
pub record Agrees (all : List Item) (s : Sense) (e : ExprCode) : Type 0 where
  pub typed : s.typed ≡ e.typed
  pub value : Evaluates all s.value e.value
  pub place : Evaluates all s.place e.place
  pub indexed : Evaluates all s.indexed e.indexed

back_is : (back : Bool) → steps.is_back (direction_of back) ≡ back
back_is true = refl
back_is false = refl

-- one frame more
deeper : (n : ℕ) → nat_le 257 (suc n) ≡ nat_le 256 n
deeper n = grind (arith, nat_tests)

module _ (all : List Item) where
  -- one instruction that leaves a value
  pub pushes : (what : Instr) (v : List Value → Value)
      → ((n : ℕ) (cl : Option ℕ) (S : Standing all n cl) (pc : ℕ) (stack : List Value) (b : Side) → effect S.code (framed cl pc stack b) what ≡ On (framed cl (pc + 1 + 0) (v b.locals ∷ stack) b))
      → Evaluates all (λ line here locals go. go (v locals)) (λ line depth. one line depth what)
  pushes what v f n cl S pc to line depth stack b go has t onward =
      comes_on S pc 0 to stack (v b.locals ∷ stack) b b _ (go (v b.locals)) has.0 (f n cl S pc stack b) (omega (arith, t)) (onward (v b.locals))

  pub nowhere_ok : Evaluates all no_place no_place_code
  nowhere_ok = pushes i.Nothing (λ locals. value.Nowhere) (λ n cl S pc stack b. refl)

  -- a part, and one instruction on its value
  one_ok : (means : Evaluation) (code : Pushes) (what : Instr) (f : Value → Value)
      → ((n : ℕ) (cl : Option ℕ) (S : Standing all n cl) (pc : ℕ) (v : Value) (stack : List Value) (b : Side) → effect S.code (framed cl pc (v ∷ stack) b) what ≡ On (framed cl (pc + 1 + 0) (f v ∷ stack) b))
      → Evaluates all means code → Evaluates all (λ line here locals go. means line here locals (λ v. go (f v))) (then_one code what)
  one_ok means code what f e ok n cl S pc to line depth stack b go has t onward =
      ok n cl S pc (pc + length (code line depth)) line depth stack b (λ v. go (f v)) (has_front S.code pc (code line depth) (one line (depth + 1) what) has) refl
      (λ v. comes_on S (pc + length (code line depth)) 0 to (v ∷ stack) (f v ∷ stack) b b _ (go (f v)) (has_back S.code pc (code line depth) (one line (depth + 1) what) has).0 (e n cl S _ v stack b)
      (omega (arith, t, length-append (code line depth) (one line (depth + 1) what))) (onward (f v)))

  load_ok : (place : Evaluation) (code : Pushes) → Evaluates all place code → Evaluates all (then_load (extents_of all) place) (load_code code)
  load_ok place code ok n cl S pc to line depth stack b go has t onward =
      ok n cl S pc (pc + length (code line depth)) line depth stack b _ (has_front S.code pc (code line depth) (one line (depth + 1) i.Load) has) refl
      (λ p. comes_touching S (pc + length (code line depth)) to p (p ∷ stack) (λ v. value.Num v ∷ stack) b _ (λ c. Read c) (λ v. go (value.Num v))
      (has_back S.code pc (code line depth) (one line (depth + 1) i.Load) has).0 refl (omega (arith, t, length-append (code line depth) (one line (depth + 1) i.Load))) (λ v. onward (value.Num v)))

  address_ok : (g : ℕ) → Evaluates all (λ line here locals go. go (value.Place g (pos 0))) (λ line depth. one line depth (i.Address g))
  address_ok g = pushes (i.Address g) (λ locals. value.Place g (pos 0)) (λ n cl S pc stack b. refl)

  name_value_ok : (f : Found) → Evaluates all (name_value (extents_of all) f) (name_value_code f)
  name_value_ok (names.Variable slot k) = pushes (i.Local slot) (λ locals. value_at locals slot) (λ n cl S pc stack b. refl)
  name_value_ok (names.Scalar g k) = load_ok (λ line here locals go. go (value.Place g (pos 0))) (λ line depth. one line depth (i.Address g)) (address_ok g)
  name_value_ok (names.Array g k) = address_ok g
  name_value_ok (names.Grid g k) = address_ok g
  name_value_ok _ = nowhere_ok

  name_place_ok : (f : Found) → Evaluates all (name_place f) (name_place_code f)
  name_place_ok (names.Scalar g k) = address_ok g
  name_place_ok _ = nowhere_ok

  -- two parts, and what follows both values
  pub two_parts : (va vb : Evaluation) (ca cb : Pushes) (what : Instr) → Evaluates all va ca → Evaluates all vb cb
      → (n : ℕ) (cl : Option ℕ) (S : Standing all n cl) (pc to line depth : ℕ) (stack : List Value) (b : Side) (go : Value → Value → TreeRun)
      → HasAt S.code pc (then_two ca cb what line depth) → to ≡ pc + length (then_two ca cb what line depth)
      → ((v w : Value) (at : ℕ) → IsAt S.code at (record { what = what; line = line; depth = depth + 2 }) → to ≡ at + 1 → Comes S at (w ∷ v ∷ stack) b (go v w))
      → Comes S pc stack b (both va vb (or_line cl line) S.here b.locals go)
  two_parts va vb ca cb what oka okb n cl S pc to line depth stack b go has t onward =
      let la = ca line depth in
      let lb = cb line (depth + 1) in
      let last = one line (depth + 2) what in
      let back = has_back S.code pc la (lb ++ last) has in
      oka n cl S pc (pc + length la) line depth stack b _ (has_front S.code pc la (lb ++ last) has) refl
      (λ v. okb n cl S (pc + length la) (pc + length la + length lb) line (depth + 1) (v ∷ stack) b _ (has_front S.code (pc + length la) lb last back) refl
      (λ w. onward v w (pc + length la + length lb) (has_back S.code (pc + length la) lb last back).0
      (omega (arith, t, length-append la (lb ++ last), length-append lb last))))

  -- the instruction of an operator
  pub operator_ok : (pointer left right : Bool) (o : BinOp) (n : ℕ) (cl : Option ℕ) (S : Standing all n cl) (pc to line depth : ℕ) (v w : Value) (stack : List Value) (b : Side) (go : Value → TreeRun)
      → IsAt S.code pc (record { what = operator pointer o left right; line = line; depth = depth }) → to ≡ pc + 1
      → ((x : Value) → Comes S to (x ∷ stack) b (go x)) → Comes S pc (w ∷ v ∷ stack) b (unless_fault (operated pointer o left right v w) (or_line cl line) go)
  operator_ok true left right o n cl S pc to line depth v w stack b go h t onward =
      comes_on S pc 0 to (w ∷ v ∷ stack) (moved (is_back o) v w ∷ stack) b b _ (go (moved (is_back o) v w)) h (ap (λ d. On (framed cl (pc + 1 + 0) (moved d v w ∷ stack) b)) (back_is (is_back o))) (omega (arith, t))
      (onward (moved (is_back o) v w))
  operator_ok false left right o n cl S pc to line depth v w stack b go h t onward =
      comes_result S pc to _ (applied_to o left right v w) (w ∷ v ∷ stack) b (λ x. x ∷ stack) (λ x. b) go h refl t onward

  module _ (a e : Sense) (ca ce : ExprCode) (oka : Agrees all a ca) (oke : Agrees all e ce) where
    moved_ok : Evaluates all (λ line here locals go. both a.value e.value line here locals (λ p v. go (moved false p v))) (then_two ca.value ce.value (i.Move direction.Forth))
    moved_ok n cl S pc to line depth stack b go has t onward =
        two_parts a.value e.value ca.value ce.value (i.Move direction.Forth) oka.value oke.value n cl S pc to line depth stack b (λ p v. go (moved false p v)) has t
        (λ p v at h k. comes_on S at 0 to (v ∷ p ∷ stack) (moved false p v ∷ stack) b b _ (go (moved false p v)) h refl (omega (arith, k)) (onward (moved false p v)))

    element_ok : (g : ℕ) → Evaluates all (λ line here locals go. both a.indexed e.value line here locals (λ v w. go (element_of (extents_of all) g (number_in v) (number_in w)))) (then_two ca.indexed ce.value (i.Element g))
    element_ok g n cl S pc to line depth stack b go has t onward =
        two_parts a.indexed e.value ca.indexed ce.value (i.Element g) oka.indexed oke.value n cl S pc to line depth stack b (λ v w. go (element_of (extents_of all) g (number_in v) (number_in w))) has t
        (λ v w at h k. comes_on S at 0 to (w ∷ v ∷ stack) (element_of (extents_of all) g (number_in v) (number_in w) ∷ stack) b b _ (go (element_of (extents_of all) g (number_in v) (number_in w))) h
        (ap (λ s. On (framed cl (at + 1 + 0) (element_of s g (number_in v) (number_in w) ∷ stack) b)) S.globals) (omega (arith, k)) (onward (element_of (extents_of all) g (number_in v) (number_in w))))

    index_place_ok : (t : Target) → Evaluates all (index_place (extents_of all) t a e) (index_place_code t ca ce)
    index_place_ok (target.Grid g k) =
        one_ok e.value ce.value (i.Row g) (λ v. row_of (extents_of all) g (number_in v)) (λ n cl S pc v stack b. ap (λ s. On (framed cl (pc + 1 + 0) (row_of s g (number_in v) ∷ stack) b)) S.globals) oke.value
    index_place_ok (target.Row g k) = element_ok g
    index_place_ok target.Nothing = moved_ok
    index_place_ok (target.Local slot k) = moved_ok
    index_place_ok (target.Cell k) = moved_ok

    index_value_ok : (t : Target) → Evaluates all (index_value (extents_of all) t a e) (index_value_code t ca ce)
    index_value_ok (target.Grid g k) = index_place_ok (target.Grid g k)
    index_value_ok (target.Row g k) = load_ok (index_place (extents_of all) (target.Row g k) a e) (index_place_code (target.Row g k) ca ce) (index_place_ok (target.Row g k))
    index_value_ok target.Nothing = load_ok (index_place (extents_of all) target.Nothing a e) (index_place_code target.Nothing ca ce) (index_place_ok target.Nothing)
    index_value_ok (target.Local slot k) = load_ok (index_place (extents_of all) (target.Local slot k) a e) (index_place_code (target.Local slot k) ca ce) (index_place_ok (target.Local slot k))
    index_value_ok (target.Cell k) = load_ok (index_place (extents_of all) (target.Cell k) a e) (index_place_code (target.Cell k) ca ce) (index_place_ok (target.Cell k))

    index_indexed_ok : (t : Target) → Evaluates all (index_indexed (extents_of all) t a e) (index_indexed_code t ca ce)
    index_indexed_ok (target.Grid g k) = oke.value
    index_indexed_ok (target.Row g k) = index_value_ok (target.Row g k)
    index_indexed_ok target.Nothing = index_value_ok target.Nothing
    index_indexed_ok (target.Local slot k) = index_value_ok (target.Local slot k)
    index_indexed_ok (target.Cell k) = index_value_ok (target.Cell k)

    both_ok : (o : BinOp) → Evaluates all (both_then o a e) (then_two ca.value ce.value (operator_by o ca.typed.kind ce.typed.kind))
    both_ok o n cl S pc to line depth stack b go has t onward =
        rw (oka.typed, oke.typed)
        (two_parts a.value e.value ca.value ce.value _ oka.value oke.value n cl S pc to line depth stack b (λ v w. unless_fault (operated_by o ca.typed.kind ce.typed.kind v w) (or_line cl line) go) has t
        (λ v w at h k. operator_ok (is_pointer ca.typed.kind) (is_unsigned_kind ca.typed.kind) (is_unsigned_kind ce.typed.kind) o n cl S at to line (depth + 2) v w stack b go h k onward))

    -- the right side only where the left side is not 0
    and_ok : Evaluates all (binary_value op.AndAlso a e) (and_code ca.value ce.value)
    and_ok n cl S pc to line depth stack b go has t onward =
        oka.value n cl S pc p1 line depth stack b (λ v. if is_zero v then go (value.Num 0) else e.value (or_line cl line) S.here b.locals (λ w. go (truth_of w))) (has_front S.code pc la _ has) refl (λ v. decides v (is_zero v) refl)
      where
        la : List Lined
        la = ca.value line depth

        lb : List Lined
        lb = ce.value line depth

        p1 : ℕ
        p1 = pc + length la

        tail : List Lined
        tail = one line (depth + 1) i.Truth ++ (one line (depth + 1) (i.Skip 1) ++ one line depth (i.Push 0))

        test : HasAt S.code p1 (one line (depth + 1) (i.SkipUnless (length lb + 2)) ++ (lb ++ tail))
        test = has_back S.code pc la _ has

        rest : HasAt S.code (p1 + 1 + length lb) tail
        rest = has_back S.code (p1 + 1) lb _ test.1

        long : to ≡ p1 + 1 + length lb + 1 + 1 + 1
        long = omega (arith, t, length-append la (one line (depth + 1) (i.SkipUnless (length lb + 2)) ++ (lb ++ tail)), length-append lb tail)

        skips : Bool → Value → Config
        skips z v = body_at S (p1 + 1 + (if z then length lb + 2 else 0)) stack b

        decides : (v : Value) (z : Bool) → is_zero v ≡ z → Comes S p1 (v ∷ stack) b (if z then go (value.Num 0) else e.value (or_line cl line) S.here b.locals (λ w. go (truth_of w)))
        decides v true z =
            comes_on S p1 (length lb + 2) (p1 + 1 + length lb + 1 + 1) (v ∷ stack) stack b b _ _ test.0 (ap (λ y. On (framed cl (p1 + 1 + (if y then length lb + 2 else 0)) stack b)) z) (omega arith)
            (comes_on S (p1 + 1 + length lb + 1 + 1) 0 to stack (value.Num 0 ∷ stack) b b _ _ rest.1.1.0 refl (omega (arith, long)) (onward (value.Num 0)))
        decides v false z =
            comes_on S p1 0 (p1 + 1) (v ∷ stack) stack b b _ _ test.0 (ap (λ y. On (framed cl (p1 + 1 + (if y then length lb + 2 else 0)) stack b)) z) (omega arith)
            (oke.value n cl S (p1 + 1) (p1 + 1 + length lb) line depth stack b (λ w. go (truth_of w)) (has_front S.code (p1 + 1) lb _ test.1) refl
            (λ w. comes_on S (p1 + 1 + length lb) 0 (p1 + 1 + length lb + 1) (w ∷ stack) (truth_of w ∷ stack) b b _ _ rest.0 refl (omega arith)
            (comes_on S (p1 + 1 + length lb + 1) 1 to (truth_of w ∷ stack) (truth_of w ∷ stack) b b _ _ rest.1.0 refl (omega (arith, long)) (onward (truth_of w)))))

    -- the right side only where the left side is 0
    or_ok : Evaluates all (binary_value op.OrElse a e) (or_code ca.value ce.value)
    or_ok n cl S pc to line depth stack b go has t onward =
        oka.value n cl S pc p1 line depth stack b (λ v. if is_zero v then e.value (or_line cl line) S.here b.locals (λ w. go (truth_of w)) else go (value.Num 1)) (has_front S.code pc la _ has) refl (λ v. decides v (is_zero v) refl)
      where
        la : List Lined
        la = ca.value line depth

        lb : List Lined
        lb = ce.value line depth

        p1 : ℕ
        p1 = pc + length la

        last : List Lined
        last = one line (depth + 1) i.Truth

        test : HasAt S.code p1 (one line (depth + 1) (i.SkipUnless 2) ++ (one line depth (i.Push 1) ++ (one line (depth + 1) (i.Skip (length lb + 1)) ++ (lb ++ last))))
        test = has_back S.code pc la _ has

        rest : HasAt S.code (p1 + 1 + 1 + 1 + length lb) last
        rest = has_back S.code (p1 + 1 + 1 + 1) lb _ test.1.1.1

        long : to ≡ p1 + 1 + 1 + 1 + length lb + 1
        long = omega (arith, t, length-append la (one line (depth + 1) (i.SkipUnless 2) ++ (one line depth (i.Push 1) ++ (one line (depth + 1) (i.Skip (length lb + 1)) ++ (lb ++ last)))), length-append lb last)

        decides : (v : Value) (z : Bool) → is_zero v ≡ z → Comes S p1 (v ∷ stack) b (if z then e.value (or_line cl line) S.here b.locals (λ w. go (truth_of w)) else go (value.Num 1))
        decides v true z =
            comes_on S p1 2 (p1 + 1 + 1 + 1) (v ∷ stack) stack b b _ _ test.0 (ap (λ y. On (framed cl (p1 + 1 + (if y then 2 else 0)) stack b)) z) (omega arith)
            (oke.value n cl S (p1 + 1 + 1 + 1) (p1 + 1 + 1 + 1 + length lb) line depth stack b (λ w. go (truth_of w)) (has_front S.code (p1 + 1 + 1 + 1) lb _ test.1.1.1) refl
            (λ w. comes_on S (p1 + 1 + 1 + 1 + length lb) 0 to (w ∷ stack) (truth_of w ∷ stack) b b _ _ rest.0 refl (omega (arith, long)) (onward (truth_of w))))
        decides v false z =
            comes_on S p1 0 (p1 + 1) (v ∷ stack) stack b b _ _ test.0 (ap (λ y. On (framed cl (p1 + 1 + (if y then 2 else 0)) stack b)) z) (omega arith)
            (comes_on S (p1 + 1) 0 (p1 + 1 + 1) stack (value.Num 1 ∷ stack) b b _ _ test.1.0 refl (omega arith)
            (comes_on S (p1 + 1 + 1) (length lb + 1) to (value.Num 1 ∷ stack) (value.Num 1 ∷ stack) b b _ _ test.1.1.0 refl (omega (arith, long)) (onward (value.Num 1))))

    binary_ok : (o : BinOp) → Evaluates all (binary_value o a e) (binary_code o ca ce)
    binary_ok op.AndAlso = and_ok
    binary_ok op.OrElse = or_ok
    binary_ok o = both_ok o

  module _ (e : Sense) (ce : ExprCode) (ok : Agrees all e ce) where
    prefix_value_ok : (o : UnOp) → Evaluates all (prefix_value (extents_of all) o e) (prefix_value_code o ce)
    prefix_value_ok prefix.Deref = load_ok e.value ce.value ok.value
    prefix_value_ok prefix.Address = ok.place
    prefix_value_ok o = one_ok e.value ce.value (i.Prefix o) (prefixed o) (λ n cl S pc v stack b. refl) ok.value

    prefix_place_ok : (o : UnOp) → Evaluates all (prefix_place o e) (prefix_place_code o ce)
    prefix_place_ok prefix.Deref = ok.value
    prefix_place_ok _ = nowhere_ok

  -- the meanings, and the instructions, of expressions that agree
  abbrev pub Agreeing : Type 0
  Agreeing = Pair (Agrees all)

  abbrev pub sense_in : Agreeing → Sense
  sense_in p = p.left

  abbrev pub code_in : Agreeing → ExprCode
  code_in p = p.right

  -- arguments: their values come to lie on the stack, the last one on top
  pub arguments_ok : (es : List Agreeing) (n : ℕ) (cl : Option ℕ) (S : Standing all n cl) (pc to line depth : ℕ) (stack made : List Value) (b : Side) (go : List Value → TreeRun)
      → HasAt S.code pc (arguments_code (map code_in es) line depth) → to ≡ pc + length (arguments_code (map code_in es) line depth)
      → ((vs : List Value) → length vs ≡ length es + length made → Comes S to (vs ++ stack) b (go vs))
      → Comes S pc (made ++ stack) b (arguments (map sense_in es) (or_line cl line) S.here b.locals made go)
  arguments_ok [] n cl S pc to line depth stack made b go has t onward = comes_at S pc to (made ++ stack) b (go made) (omega (arith, t)) (onward made (omega arith))
  arguments_ok (e ∷ es) n cl S pc to line depth stack made b go has t onward =
      let first = e.right.value line depth in
      let later = arguments_code (map code_in es) line (depth + 1) in
      e.related.value n cl S pc (pc + length first) line depth (made ++ stack) b _ (has_front S.code pc first later has) refl
      (λ v. arguments_ok es n cl S (pc + length first) to line (depth + 1) stack (v ∷ made) b go (has_back S.code pc first later has) (omega (arith, t, length-append first later))
      (λ vs h. onward vs (omega (arith, h))))

  -- what lies on the stack is taken again
  pub taken_is : (vs stack : List Value) (count : ℕ) → length vs ≡ count → take count (vs ++ stack) ≡ vs
  taken_is vs stack count h = ap (λ k. take k (vs ++ stack)) (sym h) ∙ take-append_seam vs stack

  pub left_is : (vs stack : List Value) (count : ℕ) → length vs ≡ count → drop count (vs ++ stack) ≡ stack
  left_is vs stack count h = ap (λ k. drop k (vs ++ stack)) (sym h) ∙ drop-append_seam vs stack

  -- a call of a function: a tick, and its body
  called_ok : (f count : ℕ) (n : ℕ) (cl : Option ℕ) (S : Standing all n cl) (pc to line depth : ℕ) (vs stack : List Value) (b : Side) (go : Value → TreeRun)
      → is_task_function (slice_get (functions_of all) f) ≡ false → length vs ≡ count
      → IsAt S.code pc (record { what = i.Call f count; line = line; depth = depth }) → to ≡ pc + 1
      → ((v : Value) → Comes S to (v ∷ stack) b (go v)) → Comes S pc (vs ++ stack) b (called f (or_line cl line) S.here (reverse vs) go)
  called_ok f count n cl S pc to line depth vs stack b go plain_function many is_at t onward =
      follow_waits S.code S.places n (body_at S pc (vs ++ stack) b) Tick (or_line cl line) (λ u. test_of (nat_le 256 S.here.frames)) (λ u. inside) calls_is (λ m v less. enters m less (nat_le 256 S.here.frames) refl)
    where
      caller : Frame
      caller = framed cl pc stack b

      inside : Config
      inside = record { frame = first_frame None (entry_of S.code f) (reverse vs); callers = caller ∷ S.callers }

      test_of : Bool → TreeRun
      test_of deep = if deep then ending (Fails fault.TooDeep) (or_line cl line) else S.here.call f (reverse vs) (suc S.here.frames) go

      effect_is : effect S.code (framed cl pc (vs ++ stack) b) (i.Call f count) ≡ Calls (entry_of S.code f) (reverse vs) caller
      effect_is =
          ap (λ l. Calls (entry_of S.code f) (reverse l) (framed cl pc (drop count (vs ++ stack)) b)) (taken_is vs stack count many)
          ∙ ap (λ l. Calls (entry_of S.code f) (reverse vs) (framed cl pc l b)) (left_is vs stack count many)

      calls_is : one_step S.code (body_at S pc (vs ++ stack) b) ≡ Waits (record { ask = Tick; line = or_line cl line }) (λ u. inside)
      calls_is = step_by S pc (vs ++ stack) b _ _ is_at effect_is

      one_more : counted None + (counted cl + open_functions S.callers) ≡ suc S.here.frames
      one_more = omega (arith, S.frames)

      enters : (m : ℕ) → m < n → (deep : Bool) → nat_le 256 S.here.frames ≡ deep → Follows S.code S.places m inside (test_of deep)
      enters m less true is =
          follow_stays S.code S.places m inside (Fails fault.TooDeep) (or_line cl line)
          (ap (λ x. if x then Waits (record { ask = Fails fault.TooDeep; line = line_of_newest S.code (caller ∷ S.callers) }) (λ u. inside) else step_at S.code inside (slice_get S.code.instrs (entry_of S.code f)))
          (ap (λ k. nat_le 257 k) one_more ∙ deeper S.here.frames ∙ is)
          ∙ ap (λ l. Waits (record { ask = Fails fault.TooDeep; line = or_line cl l }) (λ u. inside)) is_at.line)
      enters m less false is =
          S.calls m less f (suc S.here.frames) (reverse vs) caller S.callers go plain_function (ap (λ k. suc k) S.frames) (deeper S.here.frames ∙ is)
          (λ v. fewer_follow S.code S.places m n (body_at S (pc + 1 + 0) (v ∷ stack) b) (go v) (omega (arith, less)) (comes_at S (pc + 1 + 0) to (v ∷ stack) b (go v) (omega (arith, t)) (onward v)))

  -- a call of a task function: a creation
  spawned_ok : (f count : ℕ) (n : ℕ) (cl : Option ℕ) (S : Standing all n cl) (pc to line depth : ℕ) (vs stack : List Value) (b : Side) (go : Value → TreeRun)
      → is_task_function (slice_get (functions_of all) f) ≡ true → length vs ≡ count
      → IsAt S.code pc (record { what = i.Spawn f count; line = line; depth = depth }) → to ≡ pc + 1
      → ((v : Value) → Comes S to (v ∷ stack) b (go v)) → Comes S pc (vs ++ stack) b (S.here.create f (reverse vs) (or_line cl line) go)
  spawned_ok f count n cl S pc to line depth vs stack b go task_function many is_at t onward =
      S.creates n (omega arith) f line pc (reverse vs) (vs ++ stack) stack b go task_function (step_by S pc (vs ++ stack) b _ _ is_at effect_is)
      (λ v. comes_at S (pc + 1 + 0) to (v ∷ stack) b (go v) (omega (arith, t)) (onward v))
    where
      effect_is : effect S.code (framed cl pc (vs ++ stack) b) (i.Spawn f count) ≡ spawned cl (entry_of S.code f) (reverse vs) (framed cl pc stack b)
      effect_is =
          ap (λ l. spawned cl (entry_of S.code f) (reverse l) (framed cl pc (drop count (vs ++ stack)) b)) (taken_is vs stack count many)
          ∙ ap (λ l. spawned cl (entry_of S.code f) (reverse vs) (framed cl pc l b)) (left_is vs stack count many)

  -- a call of a function with this number
  numbered_ok : (f : ℕ) (es : List Agreeing) → Evaluates all (call_value all (names.Function f) (map sense_in es)) (call_code all (names.Function f) (map code_in es))
  numbered_ok f es n cl S pc to line depth stack b go has t onward = by_mark (is_task_function (slice_get (functions_of all) f)) refl has t
    where
      args : List Lined
      args = arguments_code (map code_in es) line depth

      count : ℕ
      count = length (map code_in es)

      last : Bool → List Lined
      last marked = one line (depth + count) (call_instr marked f count)

      long : (marked : Bool) → to ≡ pc + length (args ++ last marked) → to ≡ pc + length args + 1
      long marked k = omega (arith, k, length-append args (last marked))

      many : (vs : List Value) → length vs ≡ length es + 0 → length vs ≡ count
      many vs h = omega (arith, h, length-map es code_in)

      by_mark : (marked : Bool) → is_task_function (slice_get (functions_of all) f) ≡ marked → HasAt S.code pc (args ++ last marked) → to ≡ pc + length (args ++ last marked)
          → Comes S pc stack b (arguments (map sense_in es) (or_line cl line) S.here b.locals [] (λ made. called_or_created marked f (or_line cl line) S.here (reverse made) go))
      by_mark false is has t =
          arguments_ok es n cl S pc (pc + length args) line depth stack [] b _ (has_front S.code pc args (last false) has) refl
          (λ vs h. called_ok f count n cl S (pc + length args) to line (depth + count) vs stack b go is (many vs h) (has_back S.code pc args (last false) has).0 (long false t) onward)
      by_mark true is has t =
          arguments_ok es n cl S pc (pc + length args) line depth stack [] b _ (has_front S.code pc args (last true) has) refl
          (λ vs h. spawned_ok f count n cl S (pc + length args) to line (depth + count) vs stack b go is (many vs h) (has_back S.code pc args (last true) has).0 (long true t) onward)

  -- a call, by what its name stands for
  pub call_ok : (f : Found) (es : List Agreeing) → Evaluates all (call_value all f (map sense_in es)) (call_code all f (map code_in es))
  call_ok (names.Function f) es = numbered_ok f es
  call_ok _ es = pushes (i.Push 0) (λ locals. value.Num 0) (λ n cl S pc stack b. refl)

  -- each kind of expression does what it means, if its parts do
  keeps : (scope : List Local) (z : ExprKind-F Agreeing Agreeing) → Keeps (Agrees all) (expr_step all scope) (expr_code_step all scope) z
  keeps scope (open_expr.Number k unsigned) = record {
    typed = refl;
    value = pushes (i.Push k) (λ locals. value.Num k) (λ n cl S pc stack b. refl);
    place = nowhere_ok;
    indexed = pushes (i.Push k) (λ locals. value.Num k) (λ n cl S pc stack b. refl);
  }
  keeps scope (open_expr.Name name) = record {
    typed = refl;
    value = name_value_ok (found all scope name);
    place = name_place_ok (found all scope name);
    indexed = name_value_ok (found all scope name);
  }
  keeps scope (open_expr.Index a e) = record {
    typed = ap typed_index a.related.typed;
    value = subst (λ t. Evaluates all (index_value (extents_of all) t.target a.left e.left) (index_value_code a.right.typed.target a.right e.right)) (sym a.related.typed)
        (index_value_ok a.left e.left a.right e.right a.related e.related a.right.typed.target);
    place = subst (λ t. Evaluates all (index_place (extents_of all) t.target a.left e.left) (index_place_code a.right.typed.target a.right e.right)) (sym a.related.typed)
        (index_place_ok a.left e.left a.right e.right a.related e.related a.right.typed.target);
    indexed = subst (λ t. Evaluates all (index_indexed (extents_of all) t.target a.left e.left) (index_indexed_code a.right.typed.target a.right e.right)) (sym a.related.typed)
        (index_indexed_ok a.left e.left a.right e.right a.related e.related a.right.typed.target);
  }
  keeps scope (open_expr.Unary o e) = record {
    typed = ap (λ t. typed_prefix o t) e.related.typed;
    value = prefix_value_ok e.left e.right e.related o;
    place = prefix_place_ok e.left e.right e.related o;
    indexed = prefix_value_ok e.left e.right e.related o;
  }
  keeps scope (open_expr.Binary o a b) = record {
    typed = ap (λ t. typed_value (binary_kind o t.kind b.left.typed.kind)) a.related.typed ∙ ap (λ t. typed_value (binary_kind o a.right.typed.kind t.kind)) b.related.typed;
    value = binary_ok a.left b.left a.right b.right a.related b.related o;
    place = nowhere_ok;
    indexed = binary_ok a.left b.left a.right b.right a.related b.related o;
  }
  keeps scope (open_expr.Call name es) = record {
    typed = refl;
    value = call_ok (item_found all name) es;
    place = nowhere_ok;
    indexed = call_ok (item_found all name) es;
  }

  -- The instructions of an expression do what it means.
  pub expressions_agree : (scope : List Local) (e : Expr) → Agrees all (sense_of all scope e) (expr_code all scope e)
  expressions_agree scope = folds.both (Agrees all) (expr_step all scope) (expr_code_step all scope) (keeps scope)
