-- Loops: their instructions do what they mean, turn by turn, if those of their parts do.
use Rattle.std.proofs.Common.{◌≡◌, ◌∙◌, ℕ, zero, suc, ◌+◌, ◌-◌, ◌≤◌, List, [], ◌++◌, length, Option, None, refl, sym, ap, subst, arith, length-append, append_assoc, take}
use Rattle.oss_syntax.specs.declared.tree.expr.Expr.{Expr}
use Rattle.oss_syntax.specs.declared.tree.program.Item.{Item}
use Rattle.oss_model.specs.Bodies.Ask.{Tick}
use Rattle.oss_meaning.specs.declared.value.Value.{Value}
use Rattle.oss_meaning.specs.Expressions.{TreeRun}
use Rattle.oss_meaning.specs.Runs.{ending}
use Rattle.oss_meaning.specs.Statements.{Around, Body, Does, Ways, body_place, body_ways, for_done, for_loop, going_on, left, looped, loops, part_behind, part_bodies, then_next, turn}
use Rattle.oss_code.specs.declared.instr.Instr.TheVariants as i
use Rattle.oss_machine.specs.Frames.{Config}
use Rattle.oss_machine.specs.Steps.{Waits, one_step}
use Rattle.oss_lower_laws.specs.declared.lined.Lined.{Lined}
use Rattle.oss_lower_laws.specs.ExpressionCode.{one}
use Rattle.oss_lower_laws.specs.StatementCode.{Codes, Entries, Spot, behind, body_spot, for_code, for_codes, for_entries, last_spot, loop_body, loop_code, loop_entries, loop_last, loop_spot, part_code, part_entries, part_scope, part_tasks, test_code, test_length}
use Rattle.oss_lower_laws.proofs.StepLemmas.{Follows, fewer_follow, follow_once, follow_waits}
use Rattle.oss_lower_laws.proofs.CodeLemmas.{Comes, HasAt, IsAt, Standing, body_at, comes_at, comes_on, fewer, has_back, has_front, plain, step_by}
use Rattle.oss_lower_laws.proofs.StatementLemmas.{Bodied, BodiesDo, Executes, Leaves, NumberedAt, StmtAgrees, bodied_append, from_there, later, numbered_back, numbered_front, placed, ticked_ok}
use Rattle.oss_lower_laws.proofs.NestedLemmas.{Agreeing, code_part, keep_ok, meaning_part, part_behind_is, part_bodies_ok, part_long, part_ok, test_long, tested_ok}

module _ (all : List Item) (line : ℕ) (test : Option Expr) (last : Option (Agreeing all)) (body : Agreeing all) where
  -- where the body stands in the tree
  body_place_is : (spot : Spot) (tasks : ℕ) → body_place (meaning_part all last) (placed spot tasks) ≡ placed (body_spot all line test spot) (tasks + part_tasks (code_part all last))
  body_place_is spot tasks = ap {B = Around} (λ a. record { scope = spot.scope; tasks = a.tasks }) (part_behind_is all last (placed spot tasks))

  abbrev codes : Codes
  codes = loop_code all line test (code_part all last) body.right

  abbrev entries : Entries
  entries = loop_entries all line test (code_part all last) body.right

  abbrev does : Does
  does = loops all line test (meaning_part all last) body.left

  pub loop_runs : Executes all does codes entries
  loop_runs n S spot tasks ways pc to locals has t num l =
      comes_on S pc 4 (pc + 1 + 1 + 1 + 1 + 1) [] [] (plain locals) (plain locals) _ _ has.0 refl (omega arith)
      (ticks_ok S.here.turns n S.turns (omega arith) (body_at S (pc + 1 + 1 + 1 + 1 + 1) [] (plain locals)) locals
      (step_by S (pc + 1 + 1 + 1 + 1 + 1) [] (plain locals) _ _ has.1.1.1.1.1.0 refl ∙ ap (λ q. Waits (record { ask = Tick; line = line }) (λ u. body_at S q [] (plain locals))) (omega arith)))
    where
      kept : ℕ
      kept = length spot.scope

      bodies : List Lined
      bodies = loop_body all line test body.right spot

      lasts : List Lined
      lasts = loop_last all line test (code_part all last) body.right spot

      past : ℕ
      past = 1 + length bodies + length lasts

      tests : List Lined
      tests = test_code all test line spot.scope past

      again_code : List Lined
      again_code = one line 0 (i.Again (length tests + length bodies + length lasts))

      q6 : ℕ
      q6 = pc + 1 + 1 + 1 + 1 + 1 + 1

      at_tests : HasAt S.code q6 (tests ++ (bodies ++ (lasts ++ again_code)))
      at_tests = has.1.1.1.1.1.1

      at_bodies : HasAt S.code (q6 + length tests) (bodies ++ (lasts ++ again_code))
      at_bodies = has_back S.code q6 tests _ at_tests

      at_lasts : HasAt S.code (q6 + length tests + length bodies) (lasts ++ again_code)
      at_lasts = has_back S.code (q6 + length tests) bodies _ at_bodies

      at_again : IsAt S.code (q6 + length tests + length bodies + length lasts) (record { what = i.Again (length tests + length bodies + length lasts); line = line; depth = 0 })
      at_again = (has_back S.code (q6 + length tests + length bodies) lasts _ at_lasts).0

      tests_long : length tests ≡ test_length all test line spot.scope
      tests_long = test_long all test line past spot.scope

      to_is : to ≡ q6 + length tests + length bodies + length lasts + 1
      to_is = omega (arith, t, length-append tests (bodies ++ (lasts ++ again_code)), length-append bodies (lasts ++ again_code), length-append lasts again_code)

      last_entries : ℕ → List ℕ
      last_entries at = part_entries (code_part all last) (last_spot all line test body.right spot) at

      num_last : NumberedAt S.places tasks (last_entries (q6 + length tests + length bodies))
      num_last =
          subst (λ q. NumberedAt S.places tasks (last_entries q)) (omega (arith, tests_long))
          (numbered_front S.places tasks (last_entries (pc + (6 + test_length all test line spot.scope + length bodies))) _ num)

      num_body : NumberedAt S.places (tasks + part_tasks (code_part all last)) (body.right.entries (body_spot all line test spot) (q6 + length tests))
      num_body =
          subst (λ q. NumberedAt S.places (tasks + part_tasks (code_part all last)) (body.right.entries (body_spot all line test spot) q)) (omega (arith, tests_long))
          (numbered_back S.places tasks (part_tasks (code_part all last)) (last_entries (pc + (6 + test_length all test line spot.scope + length bodies))) _
          (part_long all last (last_spot all line test body.right spot) _) num)

      after : ℕ → List Value → TreeRun
      after turns ls = looped all line test (meaning_part all last) body.left turns (placed spot tasks) S.here ways ls

      one_turn : (turns k : ℕ) (le : k ≤ n)
          → ((c : Config) (us : List Value) → one_step S.code c ≡ Waits (record { ask = Tick; line = line }) (λ u. body_at S q6 [] (plain us)) → Follows S.code S.places k c (after turns us))
          → (us : List Value) → Follows S.code S.places k (body_at S q6 [] (plain us))
          (turn all line test (meaning_part all last) body.left (λ vs. then_next (meaning_part all last) (after turns) (placed spot tasks) S.here ways vs) (placed spot tasks) S.here ways us)
      one_turn turns k le again us =
          tested_ok all test k T q6 past line spot.scope us (ways.next us) _ (has_front S.code q6 tests _ at_tests)
          (comes_at T _ to [] (plain us) (ways.next us) (omega (arith, to_is)) (out.next us))
          (subst (λ a. Comes T (q6 + length tests) [] (plain us) (body.left.does a S.here (body_ways (placed spot tasks) done ways) us)) (sym (body_place_is spot tasks))
          (body.related.runs k T (body_spot all line test spot) (tasks + part_tasks (code_part all last)) (body_ways (placed spot tasks) done ways) (q6 + length tests) (q6 + length tests + length bodies) us
          (has_front S.code _ bodies _ at_bodies) refl num_body
          (record {
            next = done_ok;
            stop = λ j less vs. subst (λ q. Follows S.code S.places j (body_at S q [] (plain vs)) (ways.next (take kept vs))) (omega (arith, tests_long)) (stop_ok j (omega (arith, less, le)) vs);
            again = λ j less vs. subst (λ q. Follows S.code S.places j (body_at S q [] (plain vs)) (done (take kept vs))) (omega (arith, tests_long)) (again_ok j (omega (arith, less)) vs);
            give = out.give;
          })))
        where
          T : Standing all k None
          T = fewer S k le

          out : Leaves all k T (pc - spot.pads.stop) (pc - spot.pads.again) to spot.result ways
          out = later all k n le S _ _ to spot.result ways l

          done : List Value → TreeRun
          done vs = then_next (meaning_part all last) (after turns) (placed spot tasks) S.here ways vs

          back_is : (ls : List Value) → one_step S.code (body_at S (q6 + length tests + length bodies + length lasts) [] (plain ls)) ≡ Waits (record { ask = Tick; line = line }) (λ u. body_at S q6 [] (plain ls))
          back_is ls = step_by S (q6 + length tests + length bodies + length lasts) [] (plain ls) _ _ at_again refl ∙ ap (λ q. Waits (record { ask = Tick; line = line }) (λ u. body_at S q [] (plain ls))) (omega arith)

          done_ok : (vs : List Value) → Comes T (q6 + length tests + length bodies) [] (plain vs) (done vs)
          done_ok vs =
              part_ok all last k T (last_spot all line test body.right spot) tasks (going_on (after turns) ways) (q6 + length tests + length bodies) (q6 + length tests + length bodies + length lasts) vs
              (has_front S.code _ lasts _ at_lasts) refl num_last
              (from_there all k T (pc - spot.pads.stop) (pc - spot.pads.again) _ _ (q6 + length tests + length bodies + length lasts) spot.result (going_on (after turns) ways) (omega (arith, tests_long)) (omega (arith, tests_long))
              (record {
                next = λ ls. again (body_at S (q6 + length tests + length bodies + length lasts) [] (plain ls)) ls (back_is ls);
                stop = out.stop;
                again = out.again;
                give = out.give;
              }))

          stop_ok : (j : ℕ) (small : j ≤ n) (vs : List Value) → Follows S.code S.places j (body_at S (pc + 1) [] (plain vs)) (ways.next (take kept vs))
          stop_ok j small vs =
              keep_ok all j (fewer S j small) (pc + 1) (pc + 1 + 1) kept line vs ways.next has.1.0 refl
              (λ us. comes_on (fewer S j small) (pc + 1 + 1) (4 + length tests + length bodies + length lasts) to [] [] (plain us) (plain us) _ (ways.next us) has.1.1.0 refl (omega (arith, to_is))
              (fewer_follow S.code S.places j n (body_at S to [] (plain us)) (ways.next us) small (l.next us)))

          again_ok : (j : ℕ) (small : j ≤ k) (vs : List Value) → Follows S.code S.places j (body_at S (pc + 1 + 1 + 1) [] (plain vs)) (done (take kept vs))
          again_ok j small vs =
              keep_ok all j (fewer T j small) (pc + 1 + 1 + 1) (pc + 1 + 1 + 1 + 1) kept line vs done has.1.1.1.0 refl
              (λ us. comes_on (fewer T j small) (pc + 1 + 1 + 1 + 1) (1 + length tests + length bodies) (q6 + length tests + length bodies) [] [] (plain us) (plain us) _ (done us) has.1.1.1.1.0 refl (omega arith)
              (fewer_follow S.code S.places j k (body_at S (q6 + length tests + length bodies) [] (plain us)) (done us) small (done_ok us)))

      -- the tick before a test, and then the turn
      ticks_ok : (turns m : ℕ) → m ≤ turns → (le : m ≤ n) → (c : Config) (us : List Value) → one_step S.code c ≡ Waits (record { ask = Tick; line = line }) (λ u. body_at S q6 [] (plain us))
          → Follows S.code S.places m c (after turns us)
      ticks_ok zero m few le c us e = follow_once S.code S.places m c Tick line (ending Tick line) (λ u. body_at S q6 [] (plain us)) few refl e
      ticks_ok (suc turns) m few le c us e =
          follow_waits S.code S.places m c Tick line _ (λ u. body_at S q6 [] (plain us)) e
          (λ k v less. one_turn turns k (omega (arith, less, le)) (ticks_ok turns k (omega (arith, less, few)) (omega (arith, less, le))) us)

  -- the bodies of tasks in the last part and in the body of a loop
  abbrev loop_bodies_in : Around → List Body
  loop_bodies_in around = part_bodies (meaning_part all last) around ++ body.left.bodies (body_place (meaning_part all last) around)

  pub loop_bodies : BodiesDo all loop_bodies_in codes entries
  loop_bodies n S spot tasks pc none has num =
      bodied_append all n S (part_bodies (meaning_part all last) (placed spot tasks)) _ first_entries _
      (part_bodies_ok all last n S (last_spot all line test body.right spot) tasks _ none last_has (numbered_front S.places tasks first_entries _ num))
      (subst (λ a. Bodied all n S (body.left.bodies a) (body.right.entries (body_spot all line test spot) (pc + (6 + test_length all test line spot.scope)))) (sym (body_place_is spot tasks))
      (body.related.bodies n S (body_spot all line test spot) (tasks + part_tasks (code_part all last)) _ none body_has
      (numbered_back S.places tasks (part_tasks (code_part all last)) first_entries _ (part_long all last (last_spot all line test body.right spot) _) num)))
    where
      bodies : List Lined
      bodies = loop_body all line test body.right spot

      lasts : List Lined
      lasts = loop_last all line test (code_part all last) body.right spot

      tests : List Lined
      tests = test_code all test line spot.scope (1 + length bodies + length lasts)

      tests_long : length tests ≡ test_length all test line spot.scope
      tests_long = test_long all test line _ spot.scope

      at_bodies : HasAt S.code (pc + 1 + 1 + 1 + 1 + 1 + 1 + length tests) (bodies ++ (lasts ++ one line 0 (i.Again (length tests + length bodies + length lasts))))
      at_bodies = has_back S.code _ tests _ has.1.1.1.1.1.1

      body_has : HasAt S.code (pc + (6 + test_length all test line spot.scope)) bodies
      body_has = subst (λ q. HasAt S.code q bodies) (omega (arith, tests_long)) (has_front S.code _ bodies _ at_bodies)

      last_has : HasAt S.code (pc + (6 + test_length all test line spot.scope + length bodies)) lasts
      last_has = subst (λ q. HasAt S.code q lasts) (omega (arith, tests_long)) (has_front S.code _ lasts _ (has_back S.code _ bodies _ at_bodies))

      first_entries : List ℕ
      first_entries = part_entries (code_part all last) (last_spot all line test body.right spot) (pc + (6 + test_length all test line spot.scope + length bodies))

  pub loop_long : (spot : Spot) (at : ℕ) → length (entries spot at) ≡ part_tasks (code_part all last) + body.right.tasks
  loop_long spot at =
      let bodies = loop_body all line test body.right spot in
      let test_is = test_length all test line spot.scope in
      omega (
        arith,
        length-append (part_entries (code_part all last) (last_spot all line test body.right spot) (at + (6 + test_is + length bodies))) (body.right.entries (body_spot all line test spot) (at + (6 + test_is))),
        part_long all last (last_spot all line test body.right spot) (at + (6 + test_is + length bodies)),
        body.related.long (body_spot all line test spot) (at + (6 + test_is)),
      )

  -- A `for`
  module _ (first : Option (Agreeing all)) where
    -- where its loop stands in the tree
    loop_place_is : (spot : Spot) (tasks : ℕ) → part_behind (meaning_part all first) (placed spot tasks) ≡ placed (loop_spot (code_part all first) spot) (tasks + part_tasks (code_part all first))
    loop_place_is spot tasks = part_behind_is all first (placed spot tasks)

    for_runs : Executes all (for_done all line (meaning_part all first) test (meaning_part all last) body.left) (for_codes all line (code_part all first) test (code_part all last) body.right)
        (for_entries all line (code_part all first) test (code_part all last) body.right)
    for_runs n S spot tasks ways pc to locals has t num l =
        part_ok all first n S spot tasks (going_on (λ us. does (part_behind (meaning_part all first) (placed spot tasks)) S.here outer us) ways) pc (pc + k) locals (has_front S.code pc firsts _ has) refl
        (numbered_front S.places tasks (part_entries (code_part all first) spot pc) _ num)
        (record {
          next = λ us. subst (λ a. Comes S (pc + k) [] (plain us) (does a S.here outer us)) (sym (loop_place_is spot tasks))
              (loop_runs n S (loop_spot (code_part all first) spot) (tasks + part_tasks (code_part all first)) outer (pc + k) (pc + k + length loop) us (has_front S.code (pc + k) loop _ back) refl
              (numbered_back S.places tasks (part_tasks (code_part all first)) (part_entries (code_part all first) spot pc) _ (part_long all first spot pc) num)
              (from_there all n S (pc - spot.pads.stop) (pc - spot.pads.again) _ _ (pc + k + length loop) spot.result outer (omega arith) (omega arith)
              (record {
                next = λ vs. keep_ok all n S (pc + k + length loop) to (length spot.scope) line vs ways.next (has_back S.code (pc + k) loop _ back).0 long l.next;
                stop = l.stop;
                again = l.again;
                give = l.give;
              })));
          stop = l.stop;
          again = l.again;
          give = l.give;
        })
      where
        outer : Ways
        outer = going_on (λ ls. ways.next (take (length spot.scope) ls)) ways

        firsts : List Lined
        firsts = part_code (code_part all first) spot

        k : ℕ
        k = length firsts

        loop : List Lined
        loop = codes (loop_spot (code_part all first) spot)

        back : HasAt S.code (pc + k) (loop ++ one line 0 (i.Keep (length spot.scope)))
        back = has_back S.code pc firsts _ has

        long : to ≡ pc + k + length loop + 1
        long = omega (arith, t, length-append firsts (loop ++ one line 0 (i.Keep (length spot.scope))), length-append loop (one line 0 (i.Keep (length spot.scope))))

    abbrev for_in : Around → List Body
    for_in around = part_bodies (meaning_part all first) around ++ loop_bodies_in (part_behind (meaning_part all first) around)

    for_bodies : BodiesDo all for_in (for_codes all line (code_part all first) test (code_part all last) body.right) (for_entries all line (code_part all first) test (code_part all last) body.right)
    for_bodies n S spot tasks pc none has num =
        bodied_append all n S (part_bodies (meaning_part all first) (placed spot tasks)) _ (part_entries (code_part all first) spot pc) _
        (part_bodies_ok all first n S spot tasks pc none (has_front S.code pc firsts _ has) (numbered_front S.places tasks (part_entries (code_part all first) spot pc) _ num))
        (subst (λ a. Bodied all n S (loop_bodies_in a) (entries (loop_spot (code_part all first) spot) (pc + length firsts))) (sym (loop_place_is spot tasks))
        (loop_bodies n S (loop_spot (code_part all first) spot) (tasks + part_tasks (code_part all first)) (pc + length firsts) none
        (has_front S.code (pc + length firsts) (codes (loop_spot (code_part all first) spot)) _ (has_back S.code pc firsts _ has))
        (numbered_back S.places tasks (part_tasks (code_part all first)) (part_entries (code_part all first) spot pc) _ (part_long all first spot pc) num)))
      where
        firsts : List Lined
        firsts = part_code (code_part all first) spot

    -- how many task statements stand before what follows
    for_behind : (around : Around) → (body.left.behind (body_place (meaning_part all last) (part_behind (meaning_part all first) around))).tasks
        ≡ around.tasks + (part_tasks (code_part all first) + (part_tasks (code_part all last) + body.right.tasks))
    for_behind around =
        ap (λ a. (body.left.behind (body_place (meaning_part all last) a)).tasks) (part_behind_is all first around)
        ∙ ap (λ a. (body.left.behind (left inside a)).tasks) (part_behind_is all last inside)
        ∙ ap (λ a. a.tasks) (body.related.behind (record { scope = inside.scope; tasks = inside.tasks + part_tasks (code_part all last) }))
        ∙ omega arith
      where
        inside : Around
        inside = record { scope = part_scope (code_part all first) around.scope; tasks = around.tasks + part_tasks (code_part all first) }

    pub for_ok : StmtAgrees all (for_loop all line (meaning_part all first) test (meaning_part all last) body.left) (for_code all line (code_part all first) test (code_part all last) body.right)
    for_ok = record {
      behind = λ around. ap {B = Around} (λ k. record { scope = around.scope; tasks = k }) (for_behind around);
      long = λ spot at.
          let k = length (part_code (code_part all first) (behind 1 spot)) in
          omega (
            arith,
            length-append (part_entries (code_part all first) (behind 1 spot) (at + 1)) (entries (loop_spot (code_part all first) (behind 1 spot)) (at + 1 + k)),
            part_long all first (behind 1 spot) (at + 1),
            loop_long (loop_spot (code_part all first) (behind 1 spot)) (at + 1 + k),
          );
      runs = ticked_ok all line (for_done all line (meaning_part all first) test (meaning_part all last) body.left)
          (for_codes all line (code_part all first) test (code_part all last) body.right) (for_entries all line (code_part all first) test (code_part all last) body.right) for_runs;
      bodies = λ n S spot tasks pc none has num.
          let inside = part_behind (meaning_part all first) (placed spot tasks) in
          subst (λ bs. Bodied all n S bs (for_entries all line (code_part all first) test (code_part all last) body.right (behind 1 spot) (pc + 1)))
          (sym (append_assoc (part_bodies (meaning_part all first) (placed spot tasks)) (part_bodies (meaning_part all last) inside) (body.left.bodies (body_place (meaning_part all last) inside))))
          (for_bodies n S (behind 1 spot) tasks (pc + 1) none has.1 num);
    }
