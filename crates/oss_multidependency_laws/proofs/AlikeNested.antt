-- Choices, loops and tasks of statements that are alike are alike.
use Rattle.std.proofs.Common.{◌≡◌, ◌∙◌, ℕ, zero, suc, ◌≤◌, Bool, true, false, List, ◌∷◌, ◌++◌, length, Option, Some, None, refl, sym, ap, subst, arith, length-append, append_assoc}
use Rattle.std.specs.Prelude.{take}
use Rattle.std.proofs.lemmas.List.{length-take-le}
use Rattle.oss_syntax.specs.declared.tree.expr.Expr.{Expr}
use Rattle.oss_syntax.specs.declared.tree.pragma.Clause.{Clause}
use Rattle.oss_syntax.specs.declared.tree.pragma.Section.{Section}
use Rattle.oss_syntax.specs.declared.tree.program.Item.{Item}
use Rattle.oss_syntax.specs.declared.tree.program.Local.{Local}
use Rattle.oss_model.specs.Bodies.Ask.{End, Tick}
use Rattle.oss_meaning.specs.declared.value.Value.{Value}
use Rattle.oss_meaning.specs.declared.value.Value.TheVariants as value
use Rattle.oss_meaning.specs.Expressions.{Here, TaskBody, TreeRun}
use Rattle.oss_meaning.specs.Operators.{is_zero}
use Rattle.oss_meaning.specs.Statements.{Around, Meaning, Ways, body_ends, body_place, body_ways, choice, chosen as side_chosen, for_loop, going_on, in_task, left, looped, loops, other_place, part_behind, part_bodies, part_does, task, tested, then_next, turn}
use Rattle.oss_multidependency_laws.specs.Fitting.{clauses_fit, fits, optional_fits}
use Rattle.oss_multidependency_laws.specs.Unrolling.{items_unrolled, unrolled_clauses}
use Rattle.oss_multidependency_laws.proofs.AlikeRuns.{asking_like, ending_like, if_like}
use Rattle.oss_multidependency_laws.proofs.AlikeClauses.{created_like, value_like}
use Rattle.oss_multidependency_laws.proofs.AlikeMeanings.{Alike, BodiesLike, DoLike, Has, IsScript, Places, Runs, WaysLike, bodies_append, has_back, has_front, part}

module _ (chosen : Section → Bool) (all : List Item) where
  abbrev flat : List Item
  flat = items_unrolled chosen all

  -- ways out behind which as many locals are in scope
  same_ways : (total : List ℕ) (n k low : ℕ) (a b : Ways) → n ≡ k → WaysLike all total n low a b → WaysLike all total k low a b
  same_ways total n k low a b e ways = subst (λ j. WaysLike all total j low a b) e ways

  -- Choices

  module _ (line : ℕ) (e : Expr) (fit : fits all e ≡ true) (m k : Meaning) (o u : Option Meaning) (one : Alike all false m k) (other : Alike all false (part all o) (part all u)) where
    abbrev sides : Around → List ℕ
    sides around = one.sizes around ++ other.sizes (other_place m around)

    other_has : (total : List ℕ) (around : Around) → Has total around.tasks (sides around) → Has total (other_place m around).tasks (other.sizes (other_place m around))
    other_has total around has =
        subst (λ t. Has total t (other.sizes (other_place m around))) (sym (one.counted around)) (has_back total around.tasks (one.sizes around) (other.sizes (other_place m around)) has)

    choice_does : (total : List ℕ) (around : Around) → Has total around.tasks (sides around) → DoLike all total around (length around.scope) (choice all line e m o).does (choice flat line e k u).does
    choice_does total around has x y h low few a b ways locals size = asking_like (IsScript all total) Tick Tick line _ _ refl tt (λ t.
        value_like chosen all (IsScript all total) around.scope e fit line x y h locals (λ v. side_chosen m o v around x a locals) (λ v. side_chosen k u v around y b locals) (λ v.
        if_like (IsScript all total) (is_zero v) (part_does o (other_place m around) x a locals) (part_does u (other_place k around) y b locals) (m.does around x a locals) (k.does around y b locals)
        (subst (λ (z : Around → Around). Runs all total (part_does o (other_place m around) x a locals) (part_does u (left around (z around)) y b locals)) (sym one.behind)
        (other.does total (other_place m around) (other_has total around has) x y h low few a b (same_ways total _ _ low a b (sym (other.keeps refl (other_place m around))) ways) locals size))
        (one.does total around (has_front total around.tasks (one.sizes around) (other.sizes (other_place m around)) has) x y h low few a b (same_ways total _ _ low a b (sym (one.keeps refl around)) ways) locals size)))

    pub choice_alike : Alike all false (choice all line e m o) (choice flat line e k u)
    choice_alike = record {
      behind = λ i. λ around. left around (other.behind i (left around (one.behind i around)));
      grows = λ around. omega arith;
      keeps = λ e around. refl;
      sizes = sides;
      counted = λ around. omega (arith, one.counted around, other.counted (other_place m around), length-append (one.sizes around) (other.sizes (other_place m around)));
      does = choice_does;
      bodies = λ total around has. subst (λ (z : Around → Around). BodiesLike all total (m.bodies around ++ part_bodies o (other_place m around)) (k.bodies around ++ part_bodies u (left around (z around))) (sides around)) (sym one.behind)
          (bodies_append all total (m.bodies around) (k.bodies around) (one.sizes around) (part_bodies o (other_place m around)) (part_bodies u (other_place m around)) (other.sizes (other_place m around))
          (one.bodies total around (has_front total around.tasks (one.sizes around) (other.sizes (other_place m around)) has)) (other.bodies total (other_place m around) (other_has total around has)));
    }

  -- Loops

  tested_like : (total : List ℕ) (test : Option Expr) → optional_fits all test ≡ true → (line : ℕ) (scope : List Local) (x y : Here) → Places all total x y → (locals : List Value) (go on : Value → TreeRun)
      → ((v : Value) → Runs all total (go v) (on v)) → Runs all total (tested all test line scope x locals go) (tested flat test line scope y locals on)
  tested_like total None fit line scope x y h locals go on ok = ok (value.Num 1)
  tested_like total (Some e) fit line scope x y h locals go on ok = value_like chosen all (IsScript all total) scope e fit line x y h locals go on ok

  module _ (line : ℕ) (test : Option Expr) (fit : optional_fits all test ≡ true) (l r : Option Meaning) (m k : Meaning) (last : Alike all false (part all l) (part all r)) (body : Alike all false m k) where
    abbrev turn_sizes : Around → List ℕ
    turn_sizes around = last.sizes around ++ body.sizes (body_place l around)

    body_has : (total : List ℕ) (around : Around) → Has total around.tasks (turn_sizes around) → Has total (body_place l around).tasks (body.sizes (body_place l around))
    body_has total around has =
        subst (λ t. Has total t (body.sizes (body_place l around))) (sym (last.counted around)) (has_back total around.tasks (last.sizes around) (body.sizes (body_place l around)) has)

    module _ (total : List ℕ) (around : Around) (has : Has total around.tasks (turn_sizes around)) (x y : Here) (h : Places all total x y) (low : ℕ) (few : low ≤ length around.scope) (a b : Ways) (ways : WaysLike all total (length around.scope) low a b) where
      -- the end of a turn, behind which the other turns go on alike
      next_like : (go on : List Value → TreeRun) → ((us : List Value) → length us ≡ length around.scope → Runs all total (go us) (on us)) → (us : List Value) → length us ≡ length around.scope
          → Runs all total (then_next l go around x a us) (then_next r on around y b us)
      next_like go on ok us size =
          last.does total around (has_front total around.tasks (last.sizes around) (body.sizes (body_place l around)) has) x y h low few (going_on go a) (going_on on b)
          (record { next = λ vs e. ok vs (e ∙ last.keeps refl around); stop = ways.stop; again = ways.again; give = ways.give }) us size

      turn_like : (go on : List Value → TreeRun) → ((us : List Value) → length us ≡ length around.scope → Runs all total (go us) (on us)) → (locals : List Value) → length locals ≡ length around.scope
          → Runs all total (turn all line test l m go around x a locals) (turn flat line test r k on around y b locals)
      turn_like go on ok locals size =
          tested_like total test fit line around.scope x y h locals _ _ (λ v.
          if_like (IsScript all total) (is_zero v) (a.next locals) (b.next locals) (m.does (body_place l around) x (body_ways around go a) locals) (k.does (body_place r around) y (body_ways around on b) locals)
          (ways.next locals size)
          (subst (λ (z : Around → Around). Runs all total (m.does (body_place l around) x (body_ways around go a) locals) (k.does (left around (z around)) y (body_ways around on b) locals)) (sym last.behind)
          (body.does total (body_place l around) (body_has total around has) x y h (length around.scope) (omega arith) (body_ways around go a) (body_ways around on b)
          (record {
            next = λ us e. ok us (e ∙ body.keeps refl (body_place l around));
            stop = λ us enough. ways.next (take (length around.scope) us) (length-take-le (length around.scope) us enough);
            again = λ us enough. ok (take (length around.scope) us) (length-take-le (length around.scope) us enough);
            give = ways.give;
          }) locals size)))

      looped_like : (n : ℕ) (locals : List Value) → length locals ≡ length around.scope → Runs all total (looped all line test l m n around x a locals) (looped flat line test r k n around y b locals)
      looped_like zero locals size = ending_like (IsScript all total) Tick line tt
      looped_like (suc more) locals size = asking_like (IsScript all total) Tick Tick line _ _ refl tt (λ t.
          turn_like (λ us. then_next l (λ ls. looped all line test l m more around x a ls) around x a us) (λ us. then_next r (λ ls. looped flat line test r k more around y b ls) around y b us)
          (λ us e. next_like (λ ls. looped all line test l m more around x a ls) (λ ls. looped flat line test r k more around y b ls) (λ ls f. looped_like more ls f) us e) locals size)

      loops_like : (locals : List Value) → length locals ≡ length around.scope → Runs all total (loops all line test l m around x a locals) (loops flat line test r k around y b locals)
      loops_like locals size = subst (λ n. Runs all total (looped all line test l m x.turns around x a locals) (looped flat line test r k n around y b locals)) h.turns (looped_like x.turns locals size)

    module _ (c : Bool) (f g : Option Meaning) (first : Alike all c (part all f) (part all g)) where
      abbrev inside : Around → Around
      inside around = part_behind f around

      abbrev for_sizes : Around → List ℕ
      for_sizes around = (first.sizes around ++ last.sizes (inside around)) ++ body.sizes (body_place l (inside around))

      turn_has : (total : List ℕ) (around : Around) → Has total around.tasks (for_sizes around) → Has total (inside around).tasks (turn_sizes (inside around))
      turn_has total around has =
          subst (λ t. Has total t (turn_sizes (inside around))) (sym (first.counted around))
          (has_back total around.tasks (first.sizes around) (turn_sizes (inside around)) (subst (λ ns. Has total around.tasks ns) (append_assoc (first.sizes around) (last.sizes (inside around)) (body.sizes (body_place l (inside around)))) has))

      first_has : (total : List ℕ) (around : Around) → Has total around.tasks (for_sizes around) → Has total around.tasks (first.sizes around)
      first_has total around has =
          has_front total around.tasks (first.sizes around) (last.sizes (inside around))
          (has_front total around.tasks (first.sizes around ++ last.sizes (inside around)) (body.sizes (body_place l (inside around))) has)

      for_does : (total : List ℕ) (around : Around) → Has total around.tasks (for_sizes around) → DoLike all total around (length around.scope) (for_loop all line f test l m).does (for_loop flat line g test r k).does
      for_does total around has x y h low few a b ways locals size = asking_like (IsScript all total) Tick Tick line _ _ refl tt (λ t.
          first.does total around (first_has total around has) x y h low few
          (going_on (λ us. loops all line test l m (part_behind f around) x (going_on (λ ls. a.next (take (length around.scope) ls)) a) us) a)
          (going_on (λ us. loops flat line test r k (part_behind g around) y (going_on (λ ls. b.next (take (length around.scope) ls)) b) us) b)
          (record {
            next = λ us e. subst (λ (z : Around → Around). Runs all total (loops all line test l m (part_behind f around) x (going_on (λ ls. a.next (take (length around.scope) ls)) a) us)
                (loops flat line test r k (z around) y (going_on (λ ls. b.next (take (length around.scope) ls)) b) us)) (sym first.behind)
                (loops_like total (inside around) (turn_has total around has) x y h low (omega (arith, few, first.grows around))
                (going_on (λ ls. a.next (take (length around.scope) ls)) a) (going_on (λ ls. b.next (take (length around.scope) ls)) b)
                (record {
                  next = λ ls w. ways.next (take (length around.scope) ls) (length-take-le (length around.scope) ls (omega (arith, w, first.grows around)));
                  stop = ways.stop;
                  again = ways.again;
                  give = ways.give;
                }) us e);
            stop = ways.stop;
            again = ways.again;
            give = ways.give;
          }) locals size)

      pub for_alike : Alike all false (for_loop all line f test l m) (for_loop flat line g test r k)
      for_alike = record {
        behind = λ i. λ around. left around (body.behind i (left (first.behind i around) (last.behind i (first.behind i around))));
        grows = λ around. omega arith;
        keeps = λ e around. refl;
        sizes = for_sizes;
        counted = λ around. omega (
          arith,
          first.counted around,
          last.counted (inside around),
          body.counted (body_place l (inside around)),
          length-append (first.sizes around ++ last.sizes (inside around)) (body.sizes (body_place l (inside around))),
          length-append (first.sizes around) (last.sizes (inside around)),
        );
        does = for_does;
        bodies = λ total around has.
            subst (λ (z : Around → Around). BodiesLike all total ((part_bodies f around ++ part_bodies l (inside around)) ++ m.bodies (body_place l (inside around)))
            ((part_bodies g around ++ part_bodies r (z around)) ++ k.bodies (body_place r (z around))) (for_sizes around)) (sym first.behind)
            (subst (λ (z : Around → Around). BodiesLike all total ((part_bodies f around ++ part_bodies l (inside around)) ++ m.bodies (body_place l (inside around)))
            ((part_bodies g around ++ part_bodies r (inside around)) ++ k.bodies (left (inside around) (z (inside around)))) (for_sizes around)) (sym last.behind)
            (bodies_append all total (part_bodies f around ++ part_bodies l (inside around)) (part_bodies g around ++ part_bodies r (inside around)) (first.sizes around ++ last.sizes (inside around))
            (m.bodies (body_place l (inside around))) (k.bodies (body_place l (inside around))) (body.sizes (body_place l (inside around)))
            (bodies_append all total (part_bodies f around) (part_bodies g around) (first.sizes around) (part_bodies l (inside around)) (part_bodies r (inside around)) (last.sizes (inside around))
            (first.bodies total around (first_has total around has))
            (last.bodies total (inside around) (has_front total (inside around).tasks (last.sizes (inside around)) (body.sizes (body_place l (inside around))) (turn_has total around has))))
            (body.bodies total (body_place l (inside around)) (body_has total (inside around) (turn_has total around has)))));
      }

  -- Tasks

  module _ (line : ℕ) (clauses : List Clause) (fit : clauses_fit all clauses ≡ true) (c : Bool) (m k : Meaning) (body : Alike all c m k) where
    abbrev task_sizes : Around → List ℕ
    task_sizes around = length around.scope ∷ body.sizes (in_task around)

    abbrev value_or : Option ℕ → ℕ → ℕ
    value_or None d = d
    value_or (Some n) d = n

    ends : (total : List ℕ) (n : ℕ) → WaysLike all total n 0 (body_ends line) (body_ends line)
    ends total n = record {
      next = λ us e. ending_like (IsScript all total) End line tt;
      stop = λ us e. ending_like (IsScript all total) End line tt;
      again = λ us e. ending_like (IsScript all total) End line tt;
      give = λ at_line v. ending_like (IsScript all total) End at_line tt;
    }

    pub task_alike : Alike all false (task all line clauses m) (task flat line (unrolled_clauses chosen clauses) k)
    task_alike = record {
      behind = λ i. λ around. left around (body.behind i (in_task around));
      grows = λ around. omega arith;
      keeps = λ e around. refl;
      sizes = task_sizes;
      counted = λ around. omega (arith, body.counted (in_task around));
      does = λ total around has x y h low few a b ways locals size. asking_like (IsScript all total) Tick Tick line _ _ refl tt (λ t.
          created_like chosen all (IsScript all total) line x y h around.scope locals size (TaskBody.statement around.tasks) clauses fit
          (λ n is. size ∙ ap (λ o. value_or o n) (sym has.0 ∙ is)) (a.next locals) (b.next locals) (ways.next locals size));
      bodies = λ total around has. (λ x y h copies size. body.does total (in_task around) has.1 x y h 0 (omega arith) (body_ends line) (body_ends line) (ends total _) copies size, body.bodies total (in_task around) has.1);
    }
