-- Binary operators of one level are read exactly, if their operands are.
use Rattle.std.proofs.Common.{arith, ◌≡◌, ◌==◌, if◌then◌else◌, ℕ, suc, Bool, true, false, ◌||◌, List, [], ◌∷◌, ◌++◌, refl, sym, ap, ◌∙◌, subst, append_assoc, Option, Some, None}
use Rattle.std.proofs.lemmas.Bool.Decides.{nat_tests}
use Rattle.std.proofs.lemmas.List.{append-nil}
use Rattle.oss_syntax.specs.declared.token.Token.{Token}
use Rattle.oss_syntax.specs.declared.tree.expr.BinOp.{BinOp}
use Rattle.oss_syntax.specs.declared.tree.expr.Expr.{Expr}
use Rattle.oss_grammar.specs.Expressions.{IsExpr, operator_of}
use Rattle.oss_grammar.specs.Expressions.IsExpr.{joined, tighter}
use Rattle.oss_grammar.specs.Fronts.{Viable}
use Rattle.oss_grammar.specs.Grammar.{One, Both, Mapped}
use Rattle.oss_grammar.specs.Levels.{Begins}
use Rattle.oss_grammar.specs.Levels.Begins.{on_the_right, in_tighter}
use Rattle.oss_grammar.specs.Reading.{Reader, begins, has, never, one_of, read_one, read_then, read_mapped}
use Rattle.oss_grammar.proofs.Parts.{Exact, Begun, exact_as}
use Rattle.oss_grammar.proofs.PartLemmas.{Nowhere, nowhere, exact_one, begun_one, exact_mapped, begun_mapped, Then, ThenDeep, exact_then, begun_then}
use Rattle.oss_grammar.proofs.PartLemmas.ThenDeep.{in_first, in_second}
use Rattle.oss_grammar.proofs.PairLemmas.{exact_both, begun_both}
use Rattle.oss_grammar.proofs.StepLemmas.{Steps, StepsDeep, exact_steps, steps_apart, steps_apart_deep}
use Rattle.oss_grammar.proofs.StepLemmas.Steps.{over, once_more}
use Rattle.oss_grammar.proofs.StepLemmas.StepsDeep.{in_this, in_later}
use Rattle.oss_expressions.specs.ExpressionReading.{joined_to, read_operation, read_operations}
use Rattle.oss_expressions.specs.TokenValues.{operator_at, of_level, begins_expression}

-- more steps behind steps
pub steps_more : {S : Type 0} {G : S → List Token → S → Type 0} (s mid end : S) (xs ys : List Token) → Steps G s xs mid → Steps G mid ys end → Steps G s (xs ++ ys) end
steps_more {G = G} s mid end xs ys (over e) more = subst (λ zs. Steps G s (zs ++ ys) end) (sym e) more
steps_more {G = G} s mid end xs ys (once_more {next = next} front back e w rest) more =
    once_more front (back ++ ys) (ap (λ zs. zs ++ ys) e ∙ append_assoc front back ys) w (steps_more next mid end back ys rest more)

pub steps_deep_more : {S : Type 0} {G : S → List Token → S → Type 0} {D : S → List Token → Token → Type 0} (s mid : S) (xs ys : List Token) (t : Token) → Steps G s xs mid → StepsDeep G D mid ys t → StepsDeep G D s (xs ++ ys) t
steps_deep_more {G = G} {D = D} s mid xs ys t (over e) more = subst (λ zs. StepsDeep G D s (zs ++ ys) t) (sym e) more
steps_deep_more {G = G} {D = D} s mid xs ys t (once_more {next = next} front back e w rest) more =
    in_later front (back ++ ys) (ap (λ zs. zs ++ ys) e ∙ append_assoc front back ys) w (steps_deep_more next mid back ys t rest more)

-- an operator of this level
operator_is : (level : ℕ) (o : Option (ℕ × BinOp)) (operator : BinOp) → of_level level o ≡ Some operator → o ≡ Some (level, operator)
operator_is level None operator e = absurd (cc)
operator_is level (Some p) operator e = on (p.0 == level) refl e where
  on : (b : Bool) → (p.0 == level) ≡ b → (if b then Some p.1 else None) ≡ Some operator → Some p ≡ Some (level, operator)
  on false c e = absurd (cc)
  on true c e = let one : p.0 ≡ level = grind (arith, nat_tests) in let two : p.1 ≡ operator = cc in λ i. Some (one i, two i)

operator_value : (level : ℕ) (t : Token) (operator : BinOp) → operator_of t.what ≡ Some (level, operator) → operator_at level t ≡ Some operator
operator_value level t operator e = ap (of_level level) e ∙ same (level == level) (grind (arith, nat_tests)) where
  same : (b : Bool) → b ≡ true → (if b then Some operator else None) ≡ Some operator
  same b e = rw e refl

former_false : (b c : Bool) → (b || c) ≡ false → b ≡ false
former_false false c e = refl
former_false true c e = absurd (cc)

latter_false : (b c : Bool) → (b || c) ≡ false → c ≡ false
latter_false false c e = e
latter_false true c e = absurd (cc)

module _ (m n : ℕ) {f : Reader Expr} {goes : Token → Bool} (part : Exact f (IsExpr (suc (suc m))) (Begins (suc (suc m)) (suc n)) goes) (first : Begun f begins_expression)
    (some : Token) (sign : BinOp) (passes : operator_at (suc (suc (suc m))) some ≡ Some sign) (apart : (t : Token) → has (operator_at (suc (suc (suc m)))) t ≡ true → goes t ≡ false) where
  abbrev tight : ℕ
  tight = suc (suc m)

  abbrev level : ℕ
  level = suc (suc (suc m))

  exact_operator : Exact (read_one (operator_at level)) (One (operator_at level)) Nowhere never
  exact_operator = exact_one (operator_at level) some sign passes never

  abbrev Step : Expr → List Token → Expr → Type 0
  Step left = Mapped (joined_to left) (Both (One (operator_at level)) (IsExpr tight))

  abbrev StepDeep : Expr → List Token → Token → Type 0
  StepDeep left = ThenDeep Nowhere (One (operator_at level)) (λ operator. Begins tight (suc n))

  exact_step : (left : Expr) → Exact (read_mapped (joined_to left) (read_operation level f)) (Step left) (StepDeep left) goes
  unfolding read_operation
  exact_step left = exact_mapped (joined_to left) (exact_both exact_operator part first (λ t e. refl))

  begun_step : (left : Expr) → Begun (read_mapped (joined_to left) (read_operation level f)) (has (operator_at level))
  unfolding read_operation
  begun_step left = begun_mapped (joined_to left) (begun_both exact_operator part first (λ t e. refl) (begun_one (operator_at level)))

  abbrev goes_level : Token → Bool
  goes_level = one_of (has (operator_at level)) goes

  covers : (left : Expr) (t : Token) → goes_level t ≡ false → has (operator_at level) t ≡ false
  covers left t e = former_false (has (operator_at level) t) (goes t) e

  includes : (t : Token) → goes_level t ≡ false → goes t ≡ false
  includes t e = latter_false (has (operator_at level) t) (goes t) e

  exact_operations : (left : Expr) → Exact (read_operations level f left) (Steps Step left) (StepsDeep Step StepDeep left) goes_level
  unfolding read_operations
  exact_operations left = exact_steps exact_step begun_step (λ left. apart) covers includes left

  operations_apart : (left : Expr) (ys : List Token) (e : Expr) (rest : List Token) → Steps Step left ys e → begins goes_level rest ≡ false → begins goes (ys ++ rest) ≡ false
  operations_apart left ys e rest w free = steps_apart exact_step begun_step (λ left. apart) covers includes goes (λ left. apart) includes left ys e rest w free

  operations_apart_deep : (left : Expr) (ys : List Token) (t : Token) (rest : List Token) → StepsDeep Step StepDeep left ys t → begins goes (ys ++ (t ∷ rest)) ≡ false
  operations_apart_deep left ys t rest w = steps_apart_deep exact_step begun_step (λ left. apart) covers includes goes (λ left. apart) left ys t rest w

  some_operations : (left : Expr) → Viable (Steps Step left) []
  some_operations left = record { more = []; value = left; member = over refl }

  abbrev Parts : List Token → Expr → Type 0
  Parts = Then (IsExpr tight) (Steps Step)

  abbrev PartsDeep : List Token → Token → Type 0
  PartsDeep = ThenDeep (Begins tight (suc n)) (IsExpr tight) (StepsDeep Step StepDeep)

  -- one operation more
  one_joined : (before front : List Token) (left e : Expr) → IsExpr level before left → Step left front e → IsExpr level (before ++ front) e
  one_joined before front left e w v =
      let both = v.whole in
      let split : before ++ front ≡ before ++ (both.before.token ∷ both.back) = ap (λ ys. before ++ ys) (both.split ∙ ap (λ ys. ys ++ both.back) both.before.only) in
      subst (λ x. IsExpr level (before ++ front) x) v.made
      (joined before both.before.token v.part.0 both.back split (operator_is level (operator_of both.before.token.what) v.part.0 both.before.passes) w both.behind)

  grown : (before ys : List Token) (left e : Expr) → IsExpr level before left → Steps Step left ys e → IsExpr level (before ++ ys) e
  grown before ys left e w (over none) = subst (λ zs. IsExpr level zs e) (sym (ap (λ zs. before ++ zs) none ∙ append-nil before)) w
  grown before ys left e w (once_more {next = following} front back split v more) =
      subst (λ zs. IsExpr level zs e) (append_assoc before front back ∙ ap (λ zs. before ++ zs) (sym split)) (grown (before ++ front) back following e (one_joined before front left following w v) more)

  into_level : (xs : List Token) (e : Expr) → Parts xs e → IsExpr level xs e
  into_level xs e w = subst (λ ys. IsExpr level ys e) (sym w.split) (grown w.front w.back w.value e (tighter w.before) w.behind)

  step_of : (t : Token) (operator : BinOp) (back : List Token) (left right : Expr) → operator_of t.what ≡ Some (level, operator) → IsExpr tight back right → Step left (t ∷ back) (joined_to left (operator, right))
  step_of t operator back left right is w = record {
    part = (operator, right);
    made = refl;
    whole = record { front = t ∷ []; back = back; split = refl; before = record { token = t; only = refl; passes = operator_value level t operator is }; behind = w };
  }

  out_of_level : (xs : List Token) (e : Expr) → IsExpr level xs e → Parts xs e
  out_of_level xs e (tighter w) = record { front = xs; back = []; value = e; split = sym (append-nil xs); before = w; behind = over refl }
  out_of_level xs e (joined {a = left} {b = right} front t operator back split is w v) = from (out_of_level front left w) where
    from : Parts front left → Parts xs e
    from u = record {
      front = u.front;
      back = u.back ++ (t ∷ back);
      value = u.value;
      before = u.before;
      split = split ∙ (ap (λ ys. ys ++ (t ∷ back)) u.split ∙ append_assoc u.front u.back (t ∷ back));
      behind = steps_more u.value left e u.back (t ∷ back) u.behind (once_more (t ∷ back) [] (sym (append-nil (t ∷ back))) (step_of t operator back left right is v) (over refl));
    }

  grown_deep : (before ys : List Token) (left : Expr) (t : Token) → IsExpr level before left → StepsDeep Step StepDeep left ys t → Begins level (suc n) (before ++ ys) t
  grown_deep before ys left t w (in_this (in_first d)) = nowhere ys t d
  grown_deep before ys left t w (in_this (in_second front back operator e o d)) =
      on_the_right before o.token operator back (ap (λ zs. before ++ zs) (e ∙ ap (λ zs. zs ++ back) o.only)) (operator_is level (operator_of o.token.what) operator o.passes) w d
  grown_deep before ys left t w (in_later {next = following} front back e v more) =
      subst (λ zs. Begins level (suc n) zs t) (append_assoc before front back ∙ ap (λ zs. before ++ zs) (sym e)) (grown_deep (before ++ front) back following t (one_joined before front left following w v) more)

  into_level_deep : (xs : List Token) (t : Token) → PartsDeep xs t → Begins level (suc n) xs t
  into_level_deep xs t (in_first d) = in_tighter d
  into_level_deep xs t (in_second front back left e w d) = subst (λ ys. Begins level (suc n) ys t) (sym e) (grown_deep front back left t (tighter w) d)

  out_of_level_deep : (xs : List Token) (t : Token) → Begins level (suc n) xs t → PartsDeep xs t
  out_of_level_deep xs t (in_tighter d) = in_first d
  out_of_level_deep xs t (on_the_right {left = left} before o operator front e is w d) =
      let u = out_of_level before left w in
      in_second u.front (u.back ++ (o ∷ front)) u.value (e ∙ (ap (λ ys. ys ++ (o ∷ front)) u.split ∙ append_assoc u.front u.back (o ∷ front))) u.before
      (steps_deep_more u.value left u.back (o ∷ front) t u.behind (in_this (in_second (o ∷ []) front operator refl (record { token = o; only = refl; passes = operator_value level o operator is }) d)))

  pub exact_level : Exact (read_then f (read_operations level f)) (IsExpr level) (Begins level (suc n)) goes_level
  exact_level = exact_as into_level out_of_level into_level_deep out_of_level_deep (exact_then part exact_operations operations_apart operations_apart_deep some_operations)

  pub begun_level : Begun (read_then f (read_operations level f)) begins_expression
  begun_level = begun_then part exact_operations operations_apart operations_apart_deep some_operations first
