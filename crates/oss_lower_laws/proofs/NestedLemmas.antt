-- Blocks, choices and parts of statements: their instructions do what they mean if those of the statements in them do.
use Rattle.std.proofs.Common.{◌≡◌, ◌∙◌, ℕ, ◌+◌, ◌-◌, List, [], ◌∷◌, ◌++◌, length, map, Option, Some, None, Bool, true, false, refl, sym, ap, subst, arith, length-append, take}
use Rattle.std.specs.Prelude.{if◌then◌else◌}
use Rattle.oss_syntax.specs.declared.tree.expr.Expr.{Expr}
use Rattle.oss_syntax.specs.declared.tree.program.Item.{Item}
use Rattle.oss_syntax.specs.declared.tree.program.Local.{Local}
use Rattle.oss_meaning.specs.declared.value.Value.{Value}
use Rattle.oss_meaning.specs.Expressions.{TreeRun, sense_of}
use Rattle.oss_meaning.specs.Operators.{is_zero}
use Rattle.oss_meaning.specs.Statements.{Around, Body, Does, Meaning, behind_all, blocked, bodies_of_all, choice, chosen, in_order, other_place, part_behind, part_bodies, part_does, tested}
use Rattle.oss_code.specs.declared.instr.Instr.TheVariants as i
use Rattle.oss_machine.specs.Steps.{On}
use Rattle.oss_lower_laws.specs.declared.lined.Lined.{Lined}
use Rattle.oss_lower_laws.specs.ExpressionCode.{expr_code, one}
use Rattle.oss_lower_laws.specs.StatementCode.{Spot, StmtCode, behind, blocked_code, choice_code, choice_codes, choice_entries, choice_test, codes_in_order, entries_in_order, in_scope, other_spot, part_code, part_entries, part_scope, part_tasks, side_length, side_spot, tasks_in_order, test_code, test_length}
use Rattle.oss_lower_laws.proofs.ExpressionFolds.{Pair}
use Rattle.oss_lower_laws.proofs.CodeLemmas.{Comes, HasAt, IsAt, Standing, comes_at, comes_on, framed, has_back, has_front, plain}
use Rattle.oss_lower_laws.proofs.ExpressionLemmas.{expressions_agree}
use Rattle.oss_lower_laws.proofs.StatementLemmas.{Bodied, BodiesDo, Executes, NumberedAt, StmtAgrees, bodied_append, from_there, none_more, numbered_back, numbered_front, placed, ticked_bodies, ticked_ok}

module _ (all : List Item) where
  -- the meanings, and the instructions, of statements that agree
  abbrev pub Agreeing : Type 0
  Agreeing = Pair (StmtAgrees all)

  abbrev pub meaning_in : Agreeing → Meaning
  meaning_in p = p.left

  abbrev pub code_in : Agreeing → StmtCode
  code_in p = p.right

  -- Lists of statements

  pub tasks_behind : (ms : List Agreeing) (around : Around) → (behind_all (map meaning_in ms) around).tasks ≡ around.tasks + tasks_in_order (map code_in ms)
  tasks_behind [] around = omega arith
  tasks_behind (m ∷ ms) around =
      ap (λ a. (behind_all (map meaning_in ms) a).tasks) (m.related.behind around)
      ∙ tasks_behind ms (record { scope = m.right.scope around.scope; tasks = around.tasks + m.right.tasks })
      ∙ omega arith

  pub entries_long : (ms : List Agreeing) (spot : Spot) (at : ℕ) → length (entries_in_order (map code_in ms) spot at) ≡ tasks_in_order (map code_in ms)
  entries_long [] spot at = refl
  entries_long (m ∷ ms) spot at =
      let k = length (m.right.code spot) in
      let inner = in_scope (m.right.scope spot.scope) (behind k spot) in
      omega (arith, length-append (m.right.entries spot at) (entries_in_order (map code_in ms) inner (at + k)), m.related.long spot at, entries_long ms inner (at + k))

  pub in_order_ok : (ms : List Agreeing) → Executes all (in_order (map meaning_in ms)) (codes_in_order (map code_in ms)) (entries_in_order (map code_in ms))
  in_order_ok [] n S spot tasks ways pc to locals has t num l = comes_at S pc to [] (plain locals) (ways.next locals) (omega (arith, t)) (l.next locals)
  in_order_ok (m ∷ ms) n S spot tasks ways pc to locals has t num l =
      m.related.runs n S spot tasks _ pc (pc + k) locals (has_front S.code pc first rest has) refl (numbered_front S.places tasks (m.right.entries spot pc) _ num)
      (record {
        next = λ us. subst (λ a. Comes S (pc + k) [] (plain us) (in_order (map meaning_in ms) a S.here ways us)) (sym (m.related.behind (placed spot tasks)))
            (in_order_ok ms n S inner (tasks + m.right.tasks) ways (pc + k) to us (has_back S.code pc first rest has) (omega (arith, t, length-append first rest))
            (numbered_back S.places tasks m.right.tasks (m.right.entries spot pc) _ (m.related.long spot pc) num)
            (from_there all n S (pc - spot.pads.stop) (pc - spot.pads.again) _ _ to spot.result ways (omega arith) (omega arith) l));
        stop = l.stop;
        again = l.again;
        give = l.give;
      })
    where
      first : List Lined
      first = m.right.code spot

      k : ℕ
      k = length first

      inner : Spot
      inner = in_scope (m.right.scope spot.scope) (behind k spot)

      rest : List Lined
      rest = codes_in_order (map code_in ms) inner

  pub in_order_bodies : (ms : List Agreeing) → BodiesDo all (bodies_of_all (map meaning_in ms)) (codes_in_order (map code_in ms)) (entries_in_order (map code_in ms))
  in_order_bodies [] n S spot tasks pc none has num = tt
  in_order_bodies (m ∷ ms) n S spot tasks pc none has num =
      bodied_append all n S (m.left.bodies (placed spot tasks)) _ (m.right.entries spot pc) _
      (m.related.bodies n S spot tasks pc none (has_front S.code pc first rest has) (numbered_front S.places tasks (m.right.entries spot pc) _ num))
      (subst (λ a. Bodied all n S (bodies_of_all (map meaning_in ms) a) (entries_in_order (map code_in ms) inner (pc + k))) (sym (m.related.behind (placed spot tasks)))
      (in_order_bodies ms n S inner (tasks + m.right.tasks) (pc + k) none (has_back S.code pc first rest has)
      (numbered_back S.places tasks m.right.tasks (m.right.entries spot pc) _ (m.related.long spot pc) num)))
    where
      first : List Lined
      first = m.right.code spot

      k : ℕ
      k = length first

      inner : Spot
      inner = in_scope (m.right.scope spot.scope) (behind k spot)

      rest : List Lined
      rest = codes_in_order (map code_in ms) inner

  -- locals behind the first so many are dropped
  pub keep_ok : (n : ℕ) (S : Standing all n None) (pc to kept line : ℕ) (us : List Value) (next : List Value → TreeRun) → IsAt S.code pc (record { what = i.Keep kept; line = line; depth = 0 }) → to ≡ pc + 1
      → ((vs : List Value) → Comes S to [] (plain vs) (next vs)) → Comes S pc [] (plain us) (next (take kept us))
  keep_ok n S pc to kept line us next e t comes = comes_on S pc 0 to [] [] (plain us) (plain (take kept us)) _ (next (take kept us)) e refl (omega (arith, t)) (comes (take kept us))

  pub blocked_ok : (line : ℕ) (ms : List Agreeing) → StmtAgrees all (blocked (map meaning_in ms)) (blocked_code line (map code_in ms))
  blocked_ok line ms = record {
    behind = λ around. ap {B = Around} (λ k. record { scope = around.scope; tasks = k }) (tasks_behind ms around);
    long = entries_long ms;
    runs = λ n S spot tasks ways pc to locals has t num l.
        let code = codes_in_order (map code_in ms) spot in
        let last = one line 0 (i.Keep (length spot.scope)) in
        in_order_ok ms n S spot tasks _ pc (pc + length code) locals (has_front S.code pc code last has) refl num
        (record {
          next = λ us. keep_ok n S (pc + length code) to (length spot.scope) line us ways.next (has_back S.code pc code last has).0 (omega (arith, t, length-append code last)) l.next;
          stop = l.stop;
          again = l.again;
          give = l.give;
        });
    bodies = λ n S spot tasks pc none has num. in_order_bodies ms n S spot tasks pc none (has_front S.code pc (codes_in_order (map code_in ms) spot) _ has) num;
  }

  -- Parts that may be left out

  abbrev pub meaning_part : Option Agreeing → Option Meaning
  meaning_part None = None
  meaning_part (Some m) = Some m.left

  abbrev pub code_part : Option Agreeing → Option StmtCode
  code_part None = None
  code_part (Some m) = Some m.right

  pub part_ok : (o : Option Agreeing) → Executes all (part_does (meaning_part o)) (part_code (code_part o)) (part_entries (code_part o))
  part_ok None n S spot tasks ways pc to locals has t num l = comes_at S pc to [] (plain locals) (ways.next locals) (omega (arith, t)) (l.next locals)
  part_ok (Some m) n S spot tasks ways pc to locals has t num l = m.related.runs n S spot tasks ways pc to locals has t num l

  pub part_bodies_ok : (o : Option Agreeing) → BodiesDo all (part_bodies (meaning_part o)) (part_code (code_part o)) (part_entries (code_part o))
  part_bodies_ok None n S spot tasks pc none has num = tt
  part_bodies_ok (Some m) n S spot tasks pc none has num = m.related.bodies n S spot tasks pc none has num

  pub part_behind_is : (o : Option Agreeing) (around : Around) → part_behind (meaning_part o) around ≡ record { scope = part_scope (code_part o) around.scope; tasks = around.tasks + part_tasks (code_part o) }
  part_behind_is None around = none_more around around.scope
  part_behind_is (Some m) around = m.related.behind around

  pub part_long : (o : Option Agreeing) (spot : Spot) (at : ℕ) → length (part_entries (code_part o) spot at) ≡ part_tasks (code_part o)
  part_long None spot at = refl
  part_long (Some m) spot at = m.related.long spot at

  -- Tests

  -- a test, and a jump where it fails
  pub tested_ok : (o : Option Expr) (n : ℕ) (S : Standing all n None) (pc past line : ℕ) (scope : List Local) (locals : List Value) (out on : TreeRun)
      → HasAt S.code pc (test_code all o line scope past)
      → Comes S (pc + length (test_code all o line scope past) + past) [] (plain locals) out
      → Comes S (pc + length (test_code all o line scope past)) [] (plain locals) on
      → Comes S pc [] (plain locals) (tested all o line scope S.here locals (λ v. if is_zero v then out else on))
  tested_ok None n S pc past line scope locals out on has leaves stays = comes_at S pc (pc + 0) [] (plain locals) on (omega arith) stays
  tested_ok (Some e) n S pc past line scope locals out on has leaves stays =
      (expressions_agree all scope e).value n None S pc p1 line 0 [] (plain locals) _ (has_front S.code pc code last has) refl (λ v. decides v (is_zero v) refl)
    where
      code : List Lined
      code = (expr_code all scope e).value line 0

      last : List Lined
      last = one line 1 (i.SkipUnless past)

      p1 : ℕ
      p1 = pc + length code

      decides : (v : Value) (z : Bool) → is_zero v ≡ z → Comes S p1 (v ∷ []) (plain locals) (if z then out else on)
      decides v true z =
          comes_on S p1 past _ (v ∷ []) [] (plain locals) (plain locals) _ out (has_back S.code pc code last has).0 (ap (λ b. On (framed None (p1 + 1 + (if b then past else 0)) [] (plain locals))) z)
          (omega (arith, length-append code last)) leaves
      decides v false z =
          comes_on S p1 0 _ (v ∷ []) [] (plain locals) (plain locals) _ on (has_back S.code pc code last has).0 (ap (λ b. On (framed None (p1 + 1 + (if b then past else 0)) [] (plain locals))) z)
          (omega (arith, length-append code last)) stays

  -- the length of a test does not depend on the jump
  pub test_long : (o : Option Expr) (line past : ℕ) (scope : List Local) → length (test_code all o line scope past) ≡ test_length all o line scope
  test_long None line past scope = refl
  test_long (Some e) line past scope =
      let code = (expr_code all scope e).value line 0 in
      length-append code (one line 1 (i.SkipUnless past)) ∙ sym (length-append code (one line 1 (i.SkipUnless 0)))

  -- Choices

  module _ (line : ℕ) (e : Expr) (side : Agreeing) (other : Option Agreeing) where
    abbrev choice_does : Does
    choice_does around here ways locals = (sense_of all around.scope e).value line here locals (λ v. chosen side.left (meaning_part other) v around here ways locals)

    choice_runs : Executes all choice_does (choice_codes all line e side.right (code_part other)) (choice_entries all line e side.right (code_part other))
    choice_runs n S spot tasks ways pc to locals has t num l =
        (expressions_agree all spot.scope e).value n None S pc p1 line 0 [] (plain locals) _ (has_front S.code pc tests _ has) refl (λ v. decides v (is_zero v) refl)
      where
        tests : List Lined
        tests = (expr_code all spot.scope e).value line 0

        p1 : ℕ
        p1 = pc + length tests

        sides : List Lined
        sides = side.right.code (side_spot all line e spot)

        others : List Lined
        others = part_code (code_part other) (other_spot all line e side.right spot)

        back : HasAt S.code p1 (one line 1 (i.SkipUnless (length sides + 1)) ++ (sides ++ (one line 0 (i.Skip (length others)) ++ others)))
        back = has_back S.code pc tests _ has

        at_skip : HasAt S.code (p1 + 1 + length sides) (one line 0 (i.Skip (length others)) ++ others)
        at_skip = has_back S.code (p1 + 1) sides _ back.1

        long : to ≡ p1 + 1 + length sides + 1 + length others
        long = omega (arith, t, length-append tests (one line 1 (i.SkipUnless (length sides + 1)) ++ (sides ++ (one line 0 (i.Skip (length others)) ++ others))), length-append sides (one line 0 (i.Skip (length others)) ++ others))

        first_entries : List ℕ
        first_entries = side.right.entries (side_spot all line e spot) (pc + choice_test all line e spot)

        num_side : NumberedAt S.places tasks (side.right.entries (side_spot all line e spot) (p1 + 1))
        num_side = subst (λ q. NumberedAt S.places tasks (side.right.entries (side_spot all line e spot) q)) (omega arith) (numbered_front S.places tasks first_entries _ num)

        num_other : NumberedAt S.places (tasks + side.right.tasks) (part_entries (code_part other) (other_spot all line e side.right spot) (p1 + 1 + length sides + 1))
        num_other =
            subst (λ q. NumberedAt S.places (tasks + side.right.tasks) (part_entries (code_part other) (other_spot all line e side.right spot) q)) (omega arith)
            (numbered_back S.places tasks side.right.tasks first_entries _ (side.related.long (side_spot all line e spot) _) num)

        place_is : other_place side.left (placed spot tasks) ≡ placed spot (tasks + side.right.tasks)
        place_is = ap {B = Around} (λ a. record { scope = spot.scope; tasks = a.tasks }) (side.related.behind (placed spot tasks))

        decides : (v : Value) (z : Bool) → is_zero v ≡ z
            → Comes S p1 (v ∷ []) (plain locals) (if z then part_does (meaning_part other) (other_place side.left (placed spot tasks)) S.here ways locals else side.left.does (placed spot tasks) S.here ways locals)
        decides v true z =
            comes_on S p1 (length sides + 1) (p1 + 1 + length sides + 1) (v ∷ []) [] (plain locals) (plain locals) _ _ back.0 (ap (λ b. On (framed None (p1 + 1 + (if b then length sides + 1 else 0)) [] (plain locals))) z) (omega arith)
            (subst (λ a. Comes S (p1 + 1 + length sides + 1) [] (plain locals) (part_does (meaning_part other) a S.here ways locals)) (sym place_is)
            (part_ok other n S (other_spot all line e side.right spot) (tasks + side.right.tasks) ways (p1 + 1 + length sides + 1) to locals at_skip.1 (omega (arith, long)) num_other
            (from_there all n S (pc - spot.pads.stop) (pc - spot.pads.again) _ _ to spot.result ways (omega arith) (omega arith) l)))
        decides v false z =
            comes_on S p1 0 (p1 + 1) (v ∷ []) [] (plain locals) (plain locals) _ _ back.0 (ap (λ b. On (framed None (p1 + 1 + (if b then length sides + 1 else 0)) [] (plain locals))) z) (omega arith)
            (side.related.runs n S (side_spot all line e spot) tasks ways (p1 + 1) (p1 + 1 + length sides) locals (has_front S.code (p1 + 1) sides _ back.1) refl num_side
            (from_there all n S (pc - spot.pads.stop) (pc - spot.pads.again) _ _ (p1 + 1 + length sides) spot.result ways (omega arith) (omega arith)
            (record {
              next = λ us. comes_on S (p1 + 1 + length sides) (length others) to [] [] (plain us) (plain us) _ (ways.next us) at_skip.0 refl (omega (arith, long)) (l.next us);
              stop = l.stop;
              again = l.again;
              give = l.give;
            })))

    abbrev choice_in : Around → List Body
    choice_in around = side.left.bodies around ++ part_bodies (meaning_part other) (other_place side.left around)

    choice_bodies : BodiesDo all choice_in (choice_codes all line e side.right (code_part other)) (choice_entries all line e side.right (code_part other))
    choice_bodies n S spot tasks pc none has num =
        bodied_append all n S (side.left.bodies (placed spot tasks)) _ first_entries _
        (side.related.bodies n S (side_spot all line e spot) tasks (pc + choice_test all line e spot) none side_has (numbered_front S.places tasks first_entries _ num))
        (subst (λ a. Bodied all n S (part_bodies (meaning_part other) a) (part_entries (code_part other) (other_spot all line e side.right spot) (pc + (choice_test all line e spot + side_length all line e side.right spot + 1)))) (sym place_is)
        (part_bodies_ok other n S (other_spot all line e side.right spot) (tasks + side.right.tasks) _ none other_has
        (numbered_back S.places tasks side.right.tasks first_entries _ (side.related.long (side_spot all line e spot) _) num)))
      where
        tests : List Lined
        tests = (expr_code all spot.scope e).value line 0

        sides : List Lined
        sides = side.right.code (side_spot all line e spot)

        others : List Lined
        others = part_code (code_part other) (other_spot all line e side.right spot)

        back : HasAt S.code (pc + length tests) (one line 1 (i.SkipUnless (length sides + 1)) ++ (sides ++ (one line 0 (i.Skip (length others)) ++ others)))
        back = has_back S.code pc tests _ has

        side_has : HasAt S.code (pc + choice_test all line e spot) sides
        side_has = subst (λ q. HasAt S.code q sides) (omega arith) (has_front S.code (pc + length tests + 1) sides _ back.1)

        other_has : HasAt S.code (pc + (choice_test all line e spot + side_length all line e side.right spot + 1)) others
        other_has = subst (λ q. HasAt S.code q others) (omega arith) (has_back S.code (pc + length tests + 1) sides _ back.1).1

        first_entries : List ℕ
        first_entries = side.right.entries (side_spot all line e spot) (pc + choice_test all line e spot)

        place_is : other_place side.left (placed spot tasks) ≡ placed spot (tasks + side.right.tasks)
        place_is = ap {B = Around} (λ a. record { scope = spot.scope; tasks = a.tasks }) (side.related.behind (placed spot tasks))

    pub choice_ok : StmtAgrees all (choice all line e side.left (meaning_part other)) (choice_code all line e side.right (code_part other))
    choice_ok = record {
      behind = λ around.
          ap {B = Around} (λ a. record { scope = around.scope; tasks = a.tasks }) (part_behind_is other (other_place side.left around))
          ∙ ap {B = Around} (λ a. record { scope = around.scope; tasks = a.tasks + part_tasks (code_part other) }) (side.related.behind around)
          ∙ ap {B = Around} (λ k. record { scope = around.scope; tasks = k }) (omega arith);
      long = λ spot at. omega (
        arith,
        length-append (side.right.entries (side_spot all line e (behind 1 spot)) (at + 1 + choice_test all line e (behind 1 spot)))
            (part_entries (code_part other) (other_spot all line e side.right (behind 1 spot)) (at + 1 + (choice_test all line e (behind 1 spot) + side_length all line e side.right (behind 1 spot) + 1))),
        side.related.long (side_spot all line e (behind 1 spot)) (at + 1 + choice_test all line e (behind 1 spot)),
        part_long other (other_spot all line e side.right (behind 1 spot)) (at + 1 + (choice_test all line e (behind 1 spot) + side_length all line e side.right (behind 1 spot) + 1)),
      );
      runs = ticked_ok all line choice_does _ _ choice_runs;
      bodies = ticked_bodies all line choice_in _ _ choice_bodies;
    }
