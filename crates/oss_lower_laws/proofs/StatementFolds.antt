-- Two folds over one statement stand in a relation, if each layer keeps it.
use Rattle.std.proofs.Common.{◌≡◌, ◌∙◌, ℕ, Some, None, sym, map, subst}
use Rattle.oss_syntax.specs.declared.tree.stmt.Stmt.{Stmt}
use Rattle.oss_syntax.specs.declared.tree.stmt.StmtKind.{StmtKind, map-StmtKind, fold-StmtKind}
use Rattle.oss_syntax.specs.declared.tree.stmt.StmtKind.TheOpen.{StmtKind-F, Stmt-F}
use Rattle.oss_syntax.specs.declared.tree.stmt.StmtKind.TheOpen as open_stmt
use Rattle.oss_syntax.specs.declared.tree.stmt.StmtKind.TheFolds.{ind-Stmt, fold-Stmt, fold-roll-Stmt, fold-roll-StmtKind}
use Rattle.oss_lower_laws.proofs.ExpressionFolds.{Pair, map_twice}

-- what is so at each line
abbrev pub AtLines : {A B : Type 0} → (A → B → Type 0) → (ℕ → A) → (ℕ → B) → Type 0
AtLines R a b = (line : ℕ) → R (a line) (b line)

module _ {A B : Type 0} (R : A → B → Type 0) (fa : StmtKind-F (ℕ → A) A → ℕ → A) (fb : StmtKind-F (ℕ → B) B → ℕ → B) where
  abbrev left_of : Pair R → A
  left_of p = p.left

  abbrev right_of : Pair R → B
  right_of p = p.right

  abbrev lines_left : Pair (AtLines R) → ℕ → A
  lines_left p = p.left

  abbrev lines_right : Pair (AtLines R) → ℕ → B
  lines_right p = p.right

  -- what a layer of pairs is to keep
  abbrev pub Keeps : StmtKind-F (Pair (AtLines R)) (Pair R) → Type 0
  Keeps z = AtLines R (fa (map-StmtKind (Pair (AtLines R)) (Pair R) (ℕ → A) A lines_left left_of z)) (fb (map-StmtKind (Pair (AtLines R)) (Pair R) (ℕ → B) B lines_right right_of z))

  abbrev on_left : Stmt → A
  on_left = fold-Stmt (ℕ → A) A fa (λ s. s.what s.line)

  abbrev on_right : Stmt → B
  on_right = fold-Stmt (ℕ → B) B fb (λ s. s.what s.line)

  abbrev kind_left : StmtKind → ℕ → A
  kind_left = fold-StmtKind (ℕ → A) A fa (λ s. s.what s.line)

  abbrev kind_right : StmtKind → ℕ → B
  kind_right = fold-StmtKind (ℕ → B) B fb (λ s. s.what s.line)

  abbrev Ok : Stmt → Type 0
  Ok e = R (on_left e) (on_right e)

  abbrev OkKind : StmtKind → Type 0
  OkKind e = AtLines R (kind_left e) (kind_right e)

  abbrev Done : Type 0
  Done = (e : Stmt) × Ok e

  abbrev DoneKind : Type 0
  DoneKind = (e : StmtKind) × OkKind e

  abbrev paired : Done → Pair R
  paired p = record { left = on_left p.0; right = on_right p.0; related = p.1 }

  module _ (keeps : (z : StmtKind-F (Pair (AtLines R)) (Pair R)) → Keeps z) where
    abbrev Rolled : StmtKind-F StmtKind Stmt → Type 0
    Rolled x = AtLines R (fa (map-StmtKind StmtKind Stmt (ℕ → A) A kind_left on_left x)) (fb (map-StmtKind StmtKind Stmt (ℕ → B) B kind_right on_right x))

    layer : (y : StmtKind-F DoneKind Done) → Rolled (map-StmtKind DoneKind Done StmtKind Stmt (λ p. p.0) (λ p. p.0) y)
    layer (open_stmt.Block es) =
        let on_lefts : map left_of (map paired es) ≡ map on_left (map (λ p. p.0) es) = map_twice paired left_of es ∙ sym (map_twice (λ p. p.0) on_left es) in
        let on_rights : map right_of (map paired es) ≡ map on_right (map (λ p. p.0) es) = map_twice paired right_of es ∙ sym (map_twice (λ p. p.0) on_right es) in
        subst (λ l. AtLines R (fa (open_stmt.Block l)) (fb (open_stmt.Block (map on_right (map (λ p. p.0) es))))) on_lefts
        (subst (λ l. AtLines R (fa (open_stmt.Block (map left_of (map paired es)))) (fb (open_stmt.Block l))) on_rights (keeps (open_stmt.Block (map paired es))))
    layer open_stmt.Empty = keeps open_stmt.Empty
    layer (open_stmt.Declare ls) = keeps (open_stmt.Declare ls)
    layer (open_stmt.Assign t o e) = keeps (open_stmt.Assign t o e)
    layer (open_stmt.Call n es) = keeps (open_stmt.Call n es)
    layer (open_stmt.Print f es) = keeps (open_stmt.Print f es)
    layer (open_stmt.If e s None) = keeps (open_stmt.If e (paired s) None)
    layer (open_stmt.If e s (Some t)) = keeps (open_stmt.If e (paired s) (Some (paired t)))
    layer (open_stmt.While e s) = keeps (open_stmt.While e (paired s))
    layer (open_stmt.For None e None s) = keeps (open_stmt.For None e None (paired s))
    layer (open_stmt.For None e (Some t) s) = keeps (open_stmt.For None e (Some (paired t)) (paired s))
    layer (open_stmt.For (Some i) e None s) = keeps (open_stmt.For (Some (paired i)) e None (paired s))
    layer (open_stmt.For (Some i) e (Some t) s) = keeps (open_stmt.For (Some (paired i)) e (Some (paired t)) (paired s))
    layer (open_stmt.Return e) = keeps (open_stmt.Return e)
    layer open_stmt.Break = keeps open_stmt.Break
    layer open_stmt.Continue = keeps open_stmt.Continue
    layer (open_stmt.Task m s) = keeps (open_stmt.Task m (paired s))
    layer (open_stmt.TaskLoop h s) = keeps (open_stmt.TaskLoop h (paired s))
    layer (open_stmt.TaskWait l) = keeps (open_stmt.TaskWait l)
    layer (open_stmt.Release l) = keeps (open_stmt.Release l)

    pub both : (e : Stmt) → R (on_left e) (on_right e)
    both = ind-Stmt OkKind Ok
        (λ x y is. rw (fold-roll-StmtKind (ℕ → A) A fa (λ s. s.what s.line) x, fold-roll-StmtKind (ℕ → B) B fb (λ s. s.what s.line) x) (subst Rolled is (layer y)))
        (λ x y is. rw (fold-roll-Stmt (ℕ → A) A fa (λ s. s.what s.line) x, fold-roll-Stmt (ℕ → B) B fb (λ s. s.what s.line) x) (subst (λ z. R (kind_left z.what z.line) (kind_right z.what z.line)) is (y.what.1 y.line)))
