-- Choices, loops and tasks of statements that go on calmly do so.
use Rattle.std.proofs.Common.{ℕ, zero, suc, List, ◌++◌, length, Option, Some, None, sym, subst}
use Rattle.std.specs.Prelude.{take}
use Rattle.oss_syntax.specs.declared.tree.expr.Expr.{Expr}
use Rattle.oss_syntax.specs.declared.tree.pragma.Clause.{Clause}
use Rattle.oss_syntax.specs.declared.tree.program.Item.{Item}
use Rattle.oss_syntax.specs.declared.tree.program.Local.{Local}
use Rattle.oss_model.specs.Bodies.Ask.{End, Tick}
use Rattle.oss_meaning.specs.declared.value.Value.{Value}
use Rattle.oss_meaning.specs.declared.value.Value.TheVariants as value
use Rattle.oss_meaning.specs.Expressions.{Here, TaskBody, TreeRun}
use Rattle.oss_meaning.specs.Operators.{is_zero}
use Rattle.oss_meaning.specs.Statements.{Around, Meaning, Ways, body_ends, body_place, body_ways, choice, for_loop, in_task, looped, loops, other_place, part_behind, part_bodies, task, tested, then_next, turn}
use Rattle.oss_missing_program_laws.proofs.CalmRuns.{Calm, asking_calm, ending_calm, if_calm, over_calm}
use Rattle.oss_missing_program_laws.proofs.CalmRuns.Level.{outside}
use Rattle.oss_missing_program_laws.proofs.CalmClauses.{task_statement_created, value_calm}
use Rattle.oss_missing_program_laws.proofs.CalmMeanings.{DoCalm, Onward, PartSteady, Places, Steady, WaysCalm, bodies_append, going_calm, part_bodies_calm, part_calm}

module _ (W : Type 0) (all : List Item) where
  -- Choices

  module _ (line : ℕ) (e : Expr) (m : Meaning) (o : Option Meaning) (one : Steady W m) (other : PartSteady W o) where
    choice_calm : DoCalm W (choice all line e m o).does
    choice_calm around x y z h a b c ways locals = asking_calm W outside Tick line _ _ _ tt (λ t.
        value_calm W outside all around.scope e line x y z h.outer locals _ _ _ (λ v.
        if_calm W outside (is_zero v) _ _ _ _ _ _ (part_calm W o other (other_place m around) x y z h a b c ways locals) (one.does around x y z h a b c ways locals)))

    pub choice_steady : Steady W (choice all line e m o)
    choice_steady = record {
      does = choice_calm;
      bodies = λ around. bodies_append W (m.bodies around) (part_bodies o (other_place m around)) (one.bodies around) (part_bodies_calm W o other (other_place m around));
    }

  -- Loops

  tested_calm : (test : Option Expr) (line : ℕ) (scope : List Local) (x y z : Here) → Places W x y z → (locals : List Value) (go on more : Value → TreeRun)
      → ((v : Value) → Calm W outside (go v) (on v) (more v))
      → Calm W outside (tested all test line scope x locals go) (tested all test line scope y locals on) (tested all test line scope z locals more)
  tested_calm None line scope x y z h locals go on more ok = ok (value.Num 1)
  tested_calm (Some e) line scope x y z h locals go on more ok = value_calm W outside all scope e line x y z h.outer locals go on more ok

  module _ (line : ℕ) (test : Option Expr) (l : Option Meaning) (m : Meaning) (last : PartSteady W l) (body : Steady W m) where
    module _ (around : Around) (x y z : Here) (h : Places W x y z) (a b c : Ways) (ways : WaysCalm W a b c) where
      -- the end of a turn, behind which the other turns go on calmly
      next_calm : (go on more : List Value → TreeRun) → Onward W go on more → Onward W (then_next l go around x a) (then_next l on around y b) (then_next l more around z c)
      next_calm go on more ok us = part_calm W l last around x y z h _ _ _ (going_calm W go on more a b c ok ways) us

      body_ways_calm : (go on more : List Value → TreeRun) → Onward W go on more → WaysCalm W (body_ways around go a) (body_ways around on b) (body_ways around more c)
      body_ways_calm go on more ok = record {
        next = ok;
        stop = λ us. ways.next (take (length around.scope) us);
        again = λ us. ok (take (length around.scope) us);
        give = ways.give;
      }

      turn_calm : (go on more : List Value → TreeRun) → Onward W go on more → Onward W (turn all line test l m go around x a) (turn all line test l m on around y b) (turn all line test l m more around z c)
      turn_calm go on more ok locals =
          tested_calm test line around.scope x y z h locals _ _ _ (λ v.
          if_calm W outside (is_zero v) _ _ _ _ _ _ (ways.next locals) (body.does (body_place l around) x y z h _ _ _ (body_ways_calm go on more ok) locals))

      looped_calm : (n : ℕ) → Onward W (looped all line test l m n around x a) (looped all line test l m (suc n) around y b) (looped all line test l m (suc (suc n)) around z c)
      looped_calm zero locals = over_calm W line _ _
      looped_calm (suc n) locals = asking_calm W outside Tick line _ _ _ tt (λ t.
          turn_calm _ _ _ (λ us. next_calm _ _ _ (λ ls. looped_calm n ls) us) locals)

      loops_calm : Onward W (loops all line test l m around x a) (loops all line test l m around y b) (loops all line test l m around z c)
      loops_calm locals =
          subst (λ k. Calm W outside (looped all line test l m x.turns around x a locals) (looped all line test l m k around y b locals) (looped all line test l m z.turns around z c locals)) (sym h.outer.turns)
          (subst (λ k. Calm W outside (looped all line test l m x.turns around x a locals) (looped all line test l m (suc x.turns) around y b locals) (looped all line test l m k around z c locals)) (sym h.outer.longer)
          (looped_calm x.turns locals))

    module _ (f : Option Meaning) (first : PartSteady W f) where
      for_calm : DoCalm W (for_loop all line f test l m).does
      for_calm around x y z h a b c ways locals = asking_calm W outside Tick line _ _ _ tt (λ t.
          part_calm W f first around x y z h _ _ _ (going_calm W _ _ _ a b c (λ us.
          loops_calm (part_behind f around) x y z h _ _ _ (going_calm W _ _ _ a b c (λ ls. ways.next (take (length around.scope) ls)) ways) us) ways) locals)

      pub for_steady : Steady W (for_loop all line f test l m)
      for_steady = record {
        does = for_calm;
        bodies = λ around.
            bodies_append W (part_bodies f around ++ part_bodies l (part_behind f around)) (m.bodies (body_place l (part_behind f around)))
            (bodies_append W (part_bodies f around) (part_bodies l (part_behind f around)) (part_bodies_calm W f first around) (part_bodies_calm W l last (part_behind f around)))
            (body.bodies (body_place l (part_behind f around)));
      }

  -- Tasks

  ends_calm : (line : ℕ) → WaysCalm W (body_ends line) (body_ends line) (body_ends line)
  ends_calm line = record {
    next = λ us. ending_calm W outside End line tt;
    stop = λ us. ending_calm W outside End line tt;
    again = λ us. ending_calm W outside End line tt;
    give = λ place v. ending_calm W outside End place tt;
  }

  module _ (line : ℕ) (clauses : List Clause) (m : Meaning) (body : Steady W m) where
    pub task_steady : Steady W (task all line clauses m)
    task_steady = record {
      does = λ around x y z h a b c ways locals. asking_calm W outside Tick line _ _ _ tt (λ t.
          task_statement_created W all line x y z around.scope locals (TaskBody.statement around.tasks) clauses (a.next locals) (b.next locals) (c.next locals) (ways.next locals) h.inner);
      bodies = λ around. (λ x y z h copies. body.does (in_task around) x y z h _ _ _ (ends_calm line) copies, body.bodies (in_task around));
    }
