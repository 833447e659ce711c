-- What is written by a statement with jumps, the jumps being filled in behind what they pass.
use Rattle.std.proofs.Common.{◌≡◌, ◌≤◌, ◌<◌, ℕ, zero, suc, ◌+◌, ◌-◌, List, [], ◌∷◌, ◌++◌, length, Option, Some, None, option_map, refl, sym, ap, ◌∙◌, arith, append_assoc, length-append, IfSome}
use Rattle.oss_syntax.specs.declared.tree.expr.Expr.{Expr}
use Rattle.oss_syntax.specs.declared.tree.pragma.Clause.{Clause}
use Rattle.oss_syntax.specs.declared.tree.program.Item.{Item}
use Rattle.oss_syntax.specs.declared.tree.program.Local.{Local}
use Rattle.oss_syntax.specs.declared.tree.stmt.Stmt.{Stmt}
use Rattle.oss_code.specs.declared.instr.Instr.{Instr}
use Rattle.oss_code.specs.declared.instr.Instr.TheVariants as i
use Rattle.oss_lower.specs.declared.around.Around.{Around}
use Rattle.oss_lower_laws.specs.declared.lined.Lined.{Lined}
use Rattle.oss_lower_expressions.specs.declared.listing.Jump.{Jump}
use Rattle.oss_lower_expressions.specs.declared.listing.Jump.TheVariants as jump
use Rattle.oss_lower_laws.specs.ExpressionCode.{expr_code, one}
use Rattle.oss_lower_expressions.specs.Jumps.{jump_by}
use Rattle.oss_lower_laws.specs.SectionCode.{created_code}
use Rattle.oss_lower_laws.specs.StatementCode.{Spot, StmtCode, behind, body_spot, choice_code, choice_of, codes_in_order, end_code, for_code, in_scope, last_spot, loop_body, loop_code, loop_last, loop_spot, other_spot, pads_code, part_code, part_scope, side_spot, stmt_code, stmt_codes, task_code, test_code}
use Rattle.oss_lower.specs.Spots.{IsBehind, spot_at}
use Rattle.oss_lower.proofs.SpotLemmas.{behind-at, still-behind}

-- what filling in a jump makes of what is written
abbrev pub Fills : Jump → ℕ → ℕ → List Lined → List Lined → Type 0
Fills j more at old new = (before after : List Lined) (l : Lined) → old ≡ before ++ (l ∷ after) → at ≡ length before → new ≡ before ++ (one l.line l.depth (jump_by j (length after + more)) ++ after)

-- a list, cut where an item stands
cut : (old : List Lined) (at : ℕ) → at < length old → (before : List Lined) × (l : Lined) × (after : List Lined) × (old ≡ before ++ (l ∷ after)) × (at ≡ length before)
cut [] at h = absurd (omega arith)
cut (x ∷ xs) zero h = ([], x, xs, refl, refl)
cut (x ∷ xs) (suc k) h = let c = cut xs k (omega arith) in (x ∷ c.0, c.1, c.2, ap (λ ys. x ∷ ys) c.3, ap suc c.4)

-- as many instructions stand there as before
pub fill-size : (j : Jump) (more at : ℕ) (old new : List Lined) → at < length old → Fills j more at old new → length new ≡ length old
fill-size j more at old new within fills =
    let c = cut old at within in
    let put = one c.1.line c.1.depth (jump_by j (length c.2 + more)) ++ c.2 in
    let n = ap length (fills c.0 c.2 c.1 c.3 c.4) ∙ length-append c.0 put in
    let m = ap length c.3 ∙ length-append c.0 (c.1 ∷ c.2) in
    omega arith

-- the jump of a test is one of what is written
pub test-within : (all : List Item) (line : ℕ) (scope : List Local) (k n : ℕ) (test : Option Expr) → k + length (test_code all test line scope 0) ≤ n
    → IfSome (option_map (λ e. k + length ((expr_code all scope e).value line 0)) test) (λ place. place < n)
test-within all line scope k n None h = tt
test-within all line scope k n (Some e) h =
    let m = length-append ((expr_code all scope e).value line 0) (one line 1 (i.SkipUnless 0)) in
    omega arith

-- Lists of statements

pub order-step : (a : Around) (all : List Item) (s : Stmt) (rest : List Stmt) (scope now : List Local) (out new : List Lined) → IsBehind a (length out)
    → new ≡ out ++ (stmt_code all s).code (spot_at a scope (length out)) → now ≡ (stmt_code all s).scope scope
    → new ++ codes_in_order (stmt_codes all rest) (spot_at a now (length new)) ≡ out ++ codes_in_order (stmt_codes all (s ∷ rest)) (spot_at a scope (length out))
order-step a all s rest scope now out new is written left =
    let spot = spot_at a scope (length out) in
    let x = (stmt_code all s).code spot in
    let behind_it = (stmt_code all s).scope scope in
    let more : List Lined → Spot → List Lined = λ y p. y ++ codes_in_order (stmt_codes all rest) p in
    let size : length new ≡ length out + length x = ap length written ∙ length-append out x in
    let there : spot_at a now (length new) ≡ in_scope behind_it (behind (length x) spot) =
    ap (λ q. spot_at a q (length new)) left ∙ ap (spot_at a behind_it) size ∙ ap (in_scope behind_it) (sym (behind-at a scope (length out) (length x) is)) in
    ap (more new) there ∙ ap (λ y. more y (in_scope behind_it (behind (length x) spot))) written
    ∙ append_assoc out x (codes_in_order (stmt_codes all rest) (in_scope behind_it (behind (length x) spot)))

pub nothing-more : (out : List Lined) → out ≡ out ++ []
nothing-more [] = refl
nothing-more (x ∷ out) = ap (λ xs. x ∷ xs) (nothing-more out)

-- Choices

seam : (xs : List Lined) (x : Lined) (ys zs : List Lined) → ((xs ++ x ∷ []) ++ ys) ++ zs ≡ xs ++ (x ∷ (ys ++ zs))
seam xs x ys zs = append_assoc (xs ++ x ∷ []) ys zs ∙ append_assoc xs (x ∷ []) (ys ++ zs)

module _ (line : ℕ) where
  abbrev line_of : ℕ → Instr → Lined
  line_of depth what = record { what = what; line = line; depth = depth }

  abbrev last : List Lined
  last = one line 0 (i.Skip 0)

  pub first-side : (o2 o3 o4 o5 o6 s : List Lined) → o3 ≡ o2 ++ one line 1 (i.SkipUnless 0) → o4 ≡ o3 ++ s → o5 ≡ o4 ++ one line 0 (i.Skip 0) → Fills jump.Unless 0 (length o2) o5 o6
      → o6 ≡ o2 ++ (line_of 1 (i.SkipUnless (length s + 1)) ∷ (s ++ last))
  first-side o2 o3 o4 o5 o6 s e3 e4 e5 f6 =
      let whole5 : o5 ≡ o2 ++ (line_of 1 (i.SkipUnless 0) ∷ (s ++ last)) = e5 ∙ ap (λ x. x ++ last) (e4 ∙ ap (λ x. x ++ s) e3) ∙ seam o2 (line_of 1 (i.SkipUnless 0)) s last in
      let n = length-append s last in
      let count6 : length (s ++ last) + 0 ≡ length s + 1 = omega arith in
      f6 o2 (s ++ last) (line_of 1 (i.SkipUnless 0)) whole5 refl ∙ ap (λ n. o2 ++ (line_of 1 (i.SkipUnless n) ∷ (s ++ last))) count6

  -- both sides
  both-sides : (o2 o3 o4 o6 o7 o8 s u : List Lined) → o3 ≡ o2 ++ one line 1 (i.SkipUnless 0) → o4 ≡ o3 ++ s → o6 ≡ o2 ++ (line_of 1 (i.SkipUnless (length s + 1)) ∷ (s ++ last))
      → o7 ≡ o6 ++ u → Fills jump.Always 0 (length o4) o7 o8
      → o8 ≡ (o2 ++ (line_of 1 (i.SkipUnless (length s + 1)) ∷ s)) ++ (line_of 0 (i.Skip (length u)) ∷ u)
  both-sides o2 o3 o4 o6 o7 o8 s u e3 e4 w6 e7 f8 =
      let test = line_of 1 (i.SkipUnless (length s + 1)) in
      let first = o2 ++ (test ∷ s) in
      let whole7 : o7 ≡ first ++ (line_of 0 (i.Skip 0) ∷ u) =
      e7 ∙ ap (λ x. x ++ u) w6 ∙ append_assoc o2 (test ∷ (s ++ last)) u
      ∙ ap (λ x. o2 ++ (test ∷ x)) (append_assoc s last u)
      ∙ sym (append_assoc o2 (test ∷ s) (line_of 0 (i.Skip 0) ∷ u)) in
      let n = ap length (e4 ∙ ap (λ x. x ++ s) e3) in
      let m = length-append (o2 ++ one line 1 (i.SkipUnless 0)) s in
      let k = length-append o2 (one line 1 (i.SkipUnless 0)) in
      let j = length-append o2 (test ∷ s) in
      let size4 : length o4 ≡ length first = omega arith in
      let count8 : length u + 0 ≡ length u = omega arith in
      f8 first u (line_of 0 (i.Skip 0)) whole7 size4 ∙ ap (λ n. first ++ (line_of 0 (i.Skip n) ∷ u)) count8

  choice-list : (o0 o1 o2 o8 t s u : List Lined) → o1 ≡ o0 ++ one line 0 i.Tick → o2 ≡ o1 ++ t
      → o8 ≡ (o2 ++ (line_of 1 (i.SkipUnless (length s + 1)) ∷ s)) ++ (line_of 0 (i.Skip (length u)) ∷ u)
      → o8 ≡ o0 ++ (one line 0 i.Tick ++ choice_of line t s u)
  choice-list o0 o1 o2 o8 t s u e1 e2 e8 =
      let test = line_of 1 (i.SkipUnless (length s + 1)) in
      let past = line_of 0 (i.Skip (length u)) in
      e8 ∙ ap (λ x. (x ++ (test ∷ s)) ++ (past ∷ u)) (e2 ∙ ap (λ x. x ++ t) e1)
      ∙ append_assoc ((o0 ++ one line 0 i.Tick) ++ t) (test ∷ s) (past ∷ u)
      ∙ seam o0 (line_of 0 i.Tick) t ((test ∷ s) ++ (past ∷ u))

-- a choice, its sides where they stand
pub choice-written : (a : Around) (all : List Item) (line : ℕ) (e : Expr) (side : StmtCode) (other : Option StmtCode) (scope : List Local) (o0 o1 o2 o3 o4 o5 o6 o7 o8 : List Lined)
    → IsBehind a (length o0) → o1 ≡ o0 ++ one line 0 i.Tick → o2 ≡ o1 ++ (expr_code all scope e).value line 0 → o3 ≡ o2 ++ one line 1 (i.SkipUnless 0)
    → o4 ≡ o3 ++ side.code (spot_at a scope (length o3)) → o5 ≡ o4 ++ one line 0 (i.Skip 0) → Fills jump.Unless 0 (length o2) o5 o6
    → o7 ≡ o6 ++ part_code other (spot_at a scope (length o6)) → Fills jump.Always 0 (length o4) o7 o8
    → o8 ≡ o0 ++ (choice_code all line e side other).code (spot_at a scope (length o0))
choice-written a all line e side other scope o0 o1 o2 o3 o4 o5 o6 o7 o8 is e1 e2 e3 e4 e5 f6 e7 f8 =
    let t = (expr_code all scope e).value line 0 in
    let spot = behind 1 (spot_at a scope (length o0)) in
    let begin : spot ≡ spot_at a scope (length o0 + 1) = behind-at a scope (length o0) 1 is in
    let inside : IsBehind a (length o0 + 1) = still-behind a (length o0) (length o0 + 1) is (omega arith) in
    let n1 = ap length e1 ∙ length-append o0 (one line 0 i.Tick) in
    let n2 = ap length e2 ∙ length-append o1 t in
    let n3 = ap length e3 ∙ length-append o2 (one line 1 (i.SkipUnless 0)) in
    let at3 : length o3 ≡ length o0 + 1 + (length t + 1) = omega arith in
    let there3 : spot_at a scope (length o3) ≡ side_spot all line e spot =
    ap (spot_at a scope) at3 ∙ sym (behind-at a scope (length o0 + 1) (length t + 1) inside) ∙ ap (behind (length t + 1)) (sym begin) in
    let s = side.code (side_spot all line e spot) in
    let w4 : o4 ≡ o3 ++ s = e4 ∙ ap (λ p. o3 ++ side.code p) there3 in
    let w6 = first-side line o2 o3 o4 o5 o6 s e3 w4 e5 f6 in
    let n6 = ap length w6 ∙ length-append o2 (record { what = i.SkipUnless (length s + 1); line = line; depth = 1 } ∷ (s ++ one line 0 (i.Skip 0))) in
    let m6 = length-append s (one line 0 (i.Skip 0)) in
    let at6 : length o6 ≡ length o0 + 1 + (length t + 1 + length s + 1) = omega arith in
    let there6 : spot_at a scope (length o6) ≡ other_spot all line e side spot =
    ap (spot_at a scope) at6 ∙ sym (behind-at a scope (length o0 + 1) (length t + 1 + length s + 1) inside) ∙ ap (behind (length t + 1 + length s + 1)) (sym begin) in
    let w7 : o7 ≡ o6 ++ part_code other (other_spot all line e side spot) = e7 ∙ ap (λ p. o6 ++ part_code other p) there6 in
    let u = part_code other (other_spot all line e side spot) in
    choice-list line o0 o1 o2 o8 t s u e1 e2 (both-sides line o2 o3 o4 o6 o7 o8 s u e3 w4 w6 w7 f8)

-- Tasks

pub task-written : (a : Around) (all : List Item) (line : ℕ) (clauses : List Clause) (body : StmtCode) (scope : List Local) (o0 o1 o2 o3 o4 o5 o6 o7 : List Lined) (inner : Around)
    → inner ≡ (record { result = a.result; stop = length o3; again = length o3 }) → o1 ≡ o0 ++ one line 0 i.Tick → o2 ≡ o1 ++ created_code all scope 4 clauses line → o3 ≡ o2 ++ one line 0 (i.Skip 0)
    → o4 ≡ o3 ++ end_code line a.result → o5 ≡ o4 ++ body.code (spot_at inner scope (length o4)) → o6 ≡ o5 ++ end_code line a.result
    → Fills jump.Always 0 (length o2) o6 o7
    → o7 ≡ o0 ++ (task_code all line clauses body).code (spot_at a scope (length o0))
task-written a all line clauses body scope o0 o1 o2 o3 o4 o5 o6 o7 inner now e1 e2 e3 e4 e5 e6 f7 =
    let c = created_code all scope 4 clauses line in
    let e = end_code line a.result in
    let spot : Spot = record { scope = scope; result = a.result; pads = record { stop = 3; again = 3 } } in
    let n4 = ap length e4 ∙ length-append o3 e in
    let by : length o4 - length o3 ≡ 3 = omega arith in
    let there : spot_at inner scope (length o4) ≡ spot =
    ap (λ x. spot_at x scope (length o4)) now ∙ ap (λ n. record { scope = scope; result = a.result; pads = record { stop = n; again = n } }) by in
    let b = body.code spot in
    let skip : Lined = record { what = i.Skip 0; line = line; depth = 0 } in
    let rest = e ++ (b ++ e) in
    let whole : o6 ≡ o2 ++ (skip ∷ rest) =
    e6 ∙ ap (λ x. x ++ e) (e5 ∙ ap (λ p. o4 ++ body.code p) there ∙ ap (λ x. x ++ b) (e4 ∙ ap (λ x. x ++ e) e3))
    ∙ append_assoc ((o2 ++ skip ∷ []) ++ e) b e ∙ seam o2 skip e (b ++ e) in
    let count : length rest + 0 ≡ length rest = omega arith in
    let put : Lined = record { what = i.Skip (length rest); line = line; depth = 0 } in
    f7 o2 rest skip whole refl ∙ ap (λ n. o2 ++ (record { what = i.Skip n; line = line; depth = 0 } ∷ rest)) count
    ∙ ap (λ x. x ++ (put ∷ rest)) (e2 ∙ ap (λ x. x ++ c) e1) ∙ seam o0 (record { what = i.Tick; line = line; depth = 0 }) c (put ∷ rest)

-- Loops

module _ (line kept : ℕ) where
  abbrev at_line : Instr → Lined
  at_line what = record { what = what; line = line; depth = 0 }

  abbrev fore : List Lined
  fore = at_line (i.Skip 4) ∷ at_line (i.Keep kept) ∷ []

  abbrev fore_four : List Lined
  fore_four = at_line (i.Skip 4) ∷ at_line (i.Keep kept) ∷ at_line (i.Skip 0) ∷ at_line (i.Keep kept) ∷ []

  -- behind the body
  body-list : (n : ℕ) (o0 o1 o2 o3 o4 q b : List Lined) → length q ≡ n → o1 ≡ o0 ++ pads_code line kept 0 0 → o2 ≡ o1 ++ q → o3 ≡ o2 ++ b → Fills jump.Always 0 (length o0 + 4) o3 o4
      → o4 ≡ (o0 ++ fore_four) ++ (at_line (i.Skip (1 + n + length b)) ∷ (at_line i.Tick ∷ (q ++ b)))
  body-list n o0 o1 o2 o3 o4 q b size e1 e2 e3 f4 =
      let whole : o3 ≡ (o0 ++ fore_four) ++ (at_line (i.Skip 0) ∷ (at_line i.Tick ∷ (q ++ b))) =
      e3 ∙ ap (λ x. x ++ b) (e2 ∙ ap (λ x. x ++ q) e1) ∙ append_assoc (o0 ++ pads_code line kept 0 0) q b ∙ append_assoc o0 (pads_code line kept 0 0) (q ++ b)
      ∙ sym (append_assoc o0 fore_four (at_line (i.Skip 0) ∷ (at_line i.Tick ∷ (q ++ b)))) in
      let m = length-append o0 fore_four in
      let place : length o0 + 4 ≡ length (o0 ++ fore_four) = omega arith in
      let k = length-append q b in
      let count : length (at_line i.Tick ∷ (q ++ b)) + 0 ≡ 1 + n + length b = omega arith in
      f4 (o0 ++ fore_four) (at_line i.Tick ∷ (q ++ b)) (at_line (i.Skip 0)) whole place ∙ ap (λ k. (o0 ++ fore_four) ++ (at_line (i.Skip k) ∷ (at_line i.Tick ∷ (q ++ b)))) count

  -- behind the tick that leads back
  loop-list : (n : ℕ) (o0 o4 o5 o6 o7 q b l : List Lined) → length q ≡ n → o4 ≡ (o0 ++ fore_four) ++ (at_line (i.Skip (1 + n + length b)) ∷ (at_line i.Tick ∷ (q ++ b)))
      → o5 ≡ o4 ++ l → o6 ≡ o5 ++ one line 0 (i.Again (length o5 - (length o0 + 6))) → Fills jump.Always 0 (length o0 + 2) o6 o7
      → o7 ≡ o0 ++ (pads_code line kept (4 + n + length b + length l) (1 + n + length b) ++ (q ++ (b ++ (l ++ one line 0 (i.Again (n + length b + length l))))))
  loop-list n o0 o4 o5 o6 o7 q b l size e4 e5 e6 f7 =
      let body = at_line (i.Skip (1 + n + length b)) ∷ (at_line i.Tick ∷ (q ++ b)) in
      let n5 = ap length (e5 ∙ ap (λ x. x ++ l) e4) ∙ length-append ((o0 ++ fore_four) ++ body) l in
      let n4 = length-append (o0 ++ fore_four) body in
      let n0 = length-append o0 fore_four in
      let nq = length-append q b in
      let back : length o5 - (length o0 + 6) ≡ n + length b + length l = omega arith in
      let g = one line 0 (i.Again (n + length b + length l)) in
      let after = at_line (i.Keep kept) ∷ (body ++ (l ++ g)) in
      let whole : o6 ≡ (o0 ++ fore) ++ (at_line (i.Skip 0) ∷ after) =
      e6 ∙ ap (λ k. o5 ++ one line 0 (i.Again k)) back ∙ ap (λ x. x ++ g) (e5 ∙ ap (λ x. x ++ l) e4) ∙ append_assoc ((o0 ++ fore_four) ++ body) l g
      ∙ append_assoc (o0 ++ fore_four) body (l ++ g) ∙ append_assoc o0 fore_four (body ++ (l ++ g)) ∙ sym (append_assoc o0 fore (at_line (i.Skip 0) ∷ after)) in
      let n2 = length-append o0 fore in
      let place : length o0 + 2 ≡ length (o0 ++ fore) = omega arith in
      let nb = length-append (q ++ b) (l ++ g) in
      let ng = length-append l g in
      let count : length after + 0 ≡ 4 + n + length b + length l = omega arith in
      f7 (o0 ++ fore) after (at_line (i.Skip 0)) whole place ∙ ap (λ k. (o0 ++ fore) ++ (at_line (i.Skip k) ∷ after)) count
      ∙ append_assoc o0 fore (at_line (i.Skip (4 + n + length b + length l)) ∷ after)
      ∙ ap (λ x. o0 ++ (pads_code line kept (4 + n + length b + length l) (1 + n + length b) ++ x)) (append_assoc q b (l ++ g))

  -- a loop with a test
  tested-list : (n : ℕ) (o0 o1 o7 o8 t b l : List Lined) → o1 ≡ o0 ++ pads_code line kept 0 0
      → o7 ≡ o0 ++ (pads_code line kept (4 + n + length b + length l) (1 + n + length b) ++ ((t ++ one line 1 (i.SkipUnless 0)) ++ (b ++ (l ++ one line 0 (i.Again (n + length b + length l))))))
      → ((before after : List Lined) (x : Lined) → o7 ≡ before ++ (x ∷ after) → length o1 + length t ≡ length before → o8 ≡ before ++ (one x.line x.depth (i.SkipUnless (length after)) ++ after))
      → o8 ≡ o0 ++ (pads_code line kept (4 + n + length b + length l) (1 + n + length b) ++ ((t ++ one line 1 (i.SkipUnless (1 + length b + length l))) ++ (b ++ (l ++ one line 0 (i.Again (n + length b + length l))))))
  tested-list n o0 o1 o7 o8 t b l e1 e7 some =
      let p = pads_code line kept (4 + n + length b + length l) (1 + n + length b) in
      let g = one line 0 (i.Again (n + length b + length l)) in
      let after = b ++ (l ++ g) in
      let before = o0 ++ (p ++ t) in
      let split : (x : Lined) → o0 ++ (p ++ ((t ++ x ∷ []) ++ after)) ≡ before ++ (x ∷ after) =
      λ x. ap (λ y. o0 ++ (p ++ y)) (append_assoc t (x ∷ []) after) ∙ ap (λ y. o0 ++ y) (sym (append_assoc p t (x ∷ after))) ∙ sym (append_assoc o0 (p ++ t) (x ∷ after)) in
      let n1 = ap length e1 ∙ length-append o0 (pads_code line kept 0 0) in
      let n2 = length-append o0 (p ++ t) in
      let n3 = length-append p t in
      let place : length o1 + length t ≡ length before = omega arith in
      let n4 = length-append b (l ++ g) in
      let n5 = length-append l g in
      let count : length after ≡ 1 + length b + length l = omega arith in
      let put : ℕ → Lined = λ k. record { what = i.SkipUnless k; line = line; depth = 1 } in
      some before after (put 0) (e7 ∙ split (put 0)) place ∙ ap (λ k. before ++ (put k ∷ after)) count ∙ sym (split (put (1 + length b + length l)))

module _ (a inner : Around) (all : List Item) (line : ℕ) (last : Option StmtCode) (body : StmtCode) (scope : List Local) (o0 o1 o2 o3 o4 o5 o6 o7 : List Lined)
    (is : IsBehind a (length o0)) (now : inner ≡ (record { result = a.result; stop = length o0 + 1; again = length o0 + 3 })) where
  abbrev spot : Spot
  spot = spot_at a scope (length o0)

  abbrev body_in : Option Expr → List Lined
  body_in test = loop_body all line test body spot

  abbrev last_in : Option Expr → List Lined
  last_in test = loop_last all line test last body spot

  abbrev tests : Option Expr → List Lined
  tests test = test_code all test line scope 0

  pub body-there : (test : Option Expr) → o1 ≡ o0 ++ pads_code line (length scope) 0 0 → o2 ≡ o1 ++ tests test → spot_at inner scope (length o2) ≡ body_spot all line test spot
  body-there test e1 e2 =
      let n1 = ap length e1 ∙ length-append o0 (pads_code line (length scope) 0 0) in
      let n2 = ap length e2 ∙ length-append o1 (tests test) in
      let stop : length o2 - (length o0 + 1) ≡ 5 + length (tests test) = omega arith in
      let again : length o2 - (length o0 + 3) ≡ 3 + length (tests test) = omega arith in
      ap (λ x. spot_at x scope (length o2)) now
      ∙ ap (λ n. record { scope = scope; result = a.result; pads = record { stop = n; again = length o2 - (length o0 + 3) } }) stop
      ∙ ap (λ n. record { scope = scope; result = a.result; pads = record { stop = 5 + length (tests test); again = n } }) again

  pub last-there : (n : ℕ) (test : Option Expr) → n ≡ length (tests test)
      → o4 ≡ (o0 ++ fore_four line (length scope)) ++ (record { what = i.Skip (1 + n + length (body_in test)); line = line; depth = 0 } ∷ (record { what = i.Tick; line = line; depth = 0 } ∷ (tests test ++ body_in test)))
      → spot_at a scope (length o4) ≡ last_spot all line test body spot
  last-there n test size w4 =
      let tail = record { what = i.Skip (1 + n + length (body_in test)); line = line; depth = 0 } ∷ (record { what = i.Tick; line = line; depth = 0 } ∷ (tests test ++ body_in test)) in
      let n4 = ap length w4 ∙ length-append (o0 ++ fore_four line (length scope)) tail in
      let n0 = length-append o0 (fore_four line (length scope)) in
      let nb = length-append (tests test) (body_in test) in
      let at4 : length o4 ≡ length o0 + (6 + length (tests test) + length (body_in test)) = omega arith in
      ap (spot_at a scope) at4 ∙ sym (behind-at a scope (length o0) (6 + length (tests test) + length (body_in test)) is)

  -- the loop before its test is filled in
  pub untested : (n : ℕ) (test : Option Expr) → length (tests test) ≡ n → o1 ≡ o0 ++ pads_code line (length scope) 0 0 → o2 ≡ o1 ++ tests test
      → o3 ≡ o2 ++ body.code (spot_at inner scope (length o2)) → Fills jump.Always 0 (length o0 + 4) o3 o4
      → o5 ≡ o4 ++ part_code last (spot_at a scope (length o4)) → o6 ≡ o5 ++ one line 0 (i.Again (length o5 - (length o0 + 6))) → Fills jump.Always 0 (length o0 + 2) o6 o7
      → o7 ≡ o0 ++ (pads_code line (length scope) (4 + n + length (body_in test) + length (last_in test)) (1 + n + length (body_in test))
      ++ (tests test ++ (body_in test ++ (last_in test ++ one line 0 (i.Again (n + length (body_in test) + length (last_in test)))))))
  untested n test size e1 e2 e3 f4 e5 e6 f7 =
      let b = body_in test in
      let w3 : o3 ≡ o2 ++ b = e3 ∙ ap (λ p. o2 ++ body.code p) (body-there test e1 e2) in
      let w4 = body-list line (length scope) n o0 o1 o2 o3 o4 (tests test) b size e1 e2 w3 f4 in
      let w5 : o5 ≡ o4 ++ last_in test = e5 ∙ ap (λ p. o4 ++ part_code last p) (last-there n test (sym size) w4) in
      loop-list line (length scope) n o0 o4 o5 o6 o7 (tests test) b (last_in test) size w4 w5 e6 f7

  module _ (o8 : List Lined) (place : Option ℕ)
      (some : (before after : List Lined) (x : Lined) → o7 ≡ before ++ (x ∷ after) → place ≡ Some (length before) → o8 ≡ before ++ (one x.line x.depth (i.SkipUnless (length after)) ++ after))
      (none : place ≡ None → o8 ≡ o7) where
    pub turns-written : (test : Option Expr) → place ≡ option_map (λ e. length o1 + length ((expr_code all scope e).value line 0)) test
        → o1 ≡ o0 ++ pads_code line (length scope) 0 0 → o2 ≡ o1 ++ tests test → o3 ≡ o2 ++ body.code (spot_at inner scope (length o2)) → Fills jump.Always 0 (length o0 + 4) o3 o4
        → o5 ≡ o4 ++ part_code last (spot_at a scope (length o4)) → o6 ≡ o5 ++ one line 0 (i.Again (length o5 - (length o0 + 6))) → Fills jump.Always 0 (length o0 + 2) o6 o7
        → o8 ≡ o0 ++ loop_code all line test last body spot
    turns-written None told e1 e2 e3 f4 e5 e6 f7 = none told ∙ untested 0 None refl e1 e2 e3 f4 e5 e6 f7
    turns-written (Some e) told e1 e2 e3 f4 e5 e6 f7 =
        let t = (expr_code all scope e).value line 0 in
        let b = body_in (Some e) in
        let l = last_in (Some e) in
        let n = length (t ++ one line 1 (i.SkipUnless (1 + length b + length l))) in
        let n1 = length-append t (one line 1 (i.SkipUnless (1 + length b + length l))) in
        let n2 = length-append t (one line 1 (i.SkipUnless 0)) in
        let size : length (tests (Some e)) ≡ n = omega arith in
        tested-list line (length scope) n o0 o1 o7 o8 t b l e1 (untested n (Some e) size e1 e2 e3 f4 e5 e6 f7)
        (λ before after x whole at. some before after x whole (told ∙ ap (λ k. Some k) at))

-- The first part of a `for`, and its loop
pub for-written : (a : Around) (all : List Item) (line : ℕ) (first : Option StmtCode) (test : Option Expr) (last : Option StmtCode) (body : StmtCode) (scope inside : List Local) (o0 o1 o2 o3 o4 : List Lined)
    → IsBehind a (length o0) → o1 ≡ o0 ++ one line 0 i.Tick → o2 ≡ o1 ++ part_code first (spot_at a scope (length o1)) → inside ≡ part_scope first scope
    → o3 ≡ o2 ++ loop_code all line test last body (spot_at a inside (length o2)) → o4 ≡ o3 ++ one line 0 (i.Keep (length scope))
    → o4 ≡ o0 ++ (for_code all line first test last body).code (spot_at a scope (length o0))
for-written a all line first test last body scope inside o0 o1 o2 o3 o4 is e1 e2 left e3 e4 =
    let spot = behind 1 (spot_at a scope (length o0)) in
    let n1 = ap length e1 ∙ length-append o0 (one line 0 i.Tick) in
    let at1 : length o1 ≡ length o0 + 1 = omega arith in
    let there1 : spot_at a scope (length o1) ≡ spot = ap (spot_at a scope) at1 ∙ sym (behind-at a scope (length o0) 1 is) in
    let f = part_code first spot in
    let w2 : o2 ≡ o1 ++ f = e2 ∙ ap (λ p. o1 ++ part_code first p) there1 in
    let n2 = ap length w2 ∙ length-append o1 f in
    let at2 : length o2 ≡ length o0 + 1 + length f = omega arith in
    let inner : IsBehind a (length o0 + 1) = still-behind a (length o0) (length o0 + 1) is (omega arith) in
    let q = part_scope first scope in
    let there2 : spot_at a inside (length o2) ≡ loop_spot first spot =
    ap (λ x. spot_at a x (length o2)) left ∙ ap (spot_at a q) at2 ∙ ap (in_scope q) (sym (behind-at a scope (length o0 + 1) (length f) inner) ∙ ap (behind (length f)) (sym (behind-at a scope (length o0) 1 is))) in
    let l = loop_code all line test last body (loop_spot first spot) in
    let k = one line 0 (i.Keep (length scope)) in
    e4 ∙ ap (λ x. x ++ k) (e3 ∙ ap (λ p. o2 ++ loop_code all line test last body p) there2 ∙ ap (λ x. x ++ l) (w2 ∙ ap (λ x. x ++ f) e1))
    ∙ append_assoc ((o0 ++ one line 0 i.Tick) ++ f) l k ∙ seam o0 (record { what = i.Tick; line = line; depth = 0 }) f (l ++ k)
