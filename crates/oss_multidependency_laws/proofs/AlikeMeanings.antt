-- What two statements mean is alike: they stand before the same place, do alike there with locals that are as many as those in scope, and have task statements
-- that stand before as many locals each and whose bodies do alike.
use Rattle.std.proofs.Common.{◌≡◌, ℕ, zero, suc, ◌+◌, ◌≤◌, Bool, true, false, List, [], ◌∷◌, ◌++◌, length, Option, Some, refl, sym, subst, arith, length-append}
use Rattle.std.specs.Prelude.{slice_get, take}
use Rattle.std.proofs.lemmas.List.{length-take-le}
use Rattle.oss_syntax.specs.declared.tree.program.Item.{Item}
use Rattle.oss_model.specs.Bodies.Ask.{End, Tick}
use Rattle.oss_meaning.specs.declared.value.Value.{Value}
use Rattle.oss_meaning.specs.Expressions.{Here, TaskBody, TreeRun, TreeScript}
use Rattle.oss_meaning.specs.Meaning.{main_number, statement_run}
use Rattle.oss_meaning.specs.Names.{functions_of}
use Rattle.oss_meaning.specs.Statements.{Around, Body, Does, Meaning, Ways, alone, behind_all, bodies_of_all, going_on, in_order, left, no_bodies, nothing_done, part_behind, part_bodies, part_does, same_place, simple}
use Rattle.oss_multidependency_laws.specs.Fitting.{function_takes}
use Rattle.oss_multidependency_laws.proofs.AlikeRuns.{Like, asking_like, ending_like}
use Rattle.oss_multidependency_laws.proofs.AlikeExpressions.{HereLike}

-- Scripts

-- A body begins with as many values as it has locals in scope: a function has its parameters, and for the task statements, in text order, they are these many.
abbrev pub has_locals : List Item → List ℕ → TaskBody → ℕ → Type 0
has_locals all sizes TaskBody.main n = function_takes (slice_get (functions_of all) (main_number all)) n ≡ true
has_locals all sizes (TaskBody.function f) n = function_takes (slice_get (functions_of all) f) n ≡ true
has_locals all sizes (TaskBody.statement k) n = (m : ℕ) → slice_get sizes k ≡ Some m → n ≡ m

abbrev pub IsScript : List Item → List ℕ → TreeScript → Type 0
IsScript all sizes s = has_locals all sizes s.body (length s.copies)

-- a list has these from a place on
abbrev pub Has : List ℕ → ℕ → List ℕ → Type 0
Has sizes from [] = Unit {0}
Has sizes from (n ∷ ns) = (slice_get sizes from ≡ Some n) × Has sizes (from + 1) ns

pub has_front : (sizes : List ℕ) (from : ℕ) (xs ys : List ℕ) → Has sizes from (xs ++ ys) → Has sizes from xs
has_front sizes from [] ys has = tt
has_front sizes from (x ∷ xs) ys has = (has.0, has_front sizes (from + 1) xs ys has.1)

pub has_back : (sizes : List ℕ) (from : ℕ) (xs ys : List ℕ) → Has sizes from (xs ++ ys) → Has sizes (from + length xs) ys
has_back sizes from [] ys has = subst (λ k. Has sizes k ys) (omega arith) has
has_back sizes from (x ∷ xs) ys has = subst (λ k. Has sizes k ys) (omega arith) (has_back sizes (from + 1) xs ys has.1)

module _ (all : List Item) (sizes : List ℕ) where
  abbrev pub Runs : TreeRun → TreeRun → Type 0
  Runs r q = Like (IsScript all sizes) r q

  abbrev pub Places : Here → Here → Type 0
  Places x y = HereLike all (IsScript all sizes) x y

  -- ways out that go on alike: with so many locals behind, and with as many or more where a jump stands
  pub record WaysLike (n low : ℕ) (a b : Ways) : Type 0 where
    pub next : (us : List Value) → length us ≡ n → Runs (a.next us) (b.next us)
    pub stop : (us : List Value) → low ≤ length us → Runs (a.stop us) (b.stop us)
    pub again : (us : List Value) → low ≤ length us → Runs (a.again us) (b.again us)
    pub give : (line : ℕ) (v : Value) → Runs (a.give line v) (b.give line v)

  -- two do alike at a place, behind which so many locals are in scope
  abbrev pub DoLike : Around → ℕ → Does → Does → Type 0
  DoLike around n f g = (x y : Here) → Places x y → (low : ℕ) → low ≤ length around.scope → (a b : Ways) → WaysLike n low a b → (locals : List Value) → length locals ≡ length around.scope
      → Runs (f around x a locals) (g around y b locals)

  -- bodies of task statements that do alike with so many locals
  abbrev pub BodyLike : Body → Body → ℕ → Type 0
  BodyLike p q n = (x y : Here) → Places x y → (copies : List Value) → length copies ≡ n → Runs (p x copies) (q y copies)

  abbrev pub BodiesLike : List Body → List Body → List ℕ → Type 0
  BodiesLike [] [] [] = Unit {0}
  BodiesLike (p ∷ ps) (q ∷ qs) (n ∷ ns) = BodyLike p q n × BodiesLike ps qs ns
  BodiesLike _ _ _ = ⊥

  pub bodies_append : (ps qs : List Body) (ns : List ℕ) (vs ws : List Body) (ms : List ℕ) → BodiesLike ps qs ns → BodiesLike vs ws ms → BodiesLike (ps ++ vs) (qs ++ ws) (ns ++ ms)
  bodies_append [] [] [] vs ws ms one other = other
  bodies_append (p ∷ ps) (q ∷ qs) (n ∷ ns) vs ws ms one other = (one.0, bodies_append ps qs ns vs ws ms one.1 other)
  bodies_append [] (q ∷ qs) [] vs ws ms one other = absurd one
  bodies_append [] [] (n ∷ ns) vs ws ms one other = absurd one
  bodies_append [] (q ∷ qs) (n ∷ ns) vs ws ms one other = absurd one
  bodies_append (p ∷ ps) [] [] vs ws ms one other = absurd one
  bodies_append (p ∷ ps) (q ∷ qs) [] vs ws ms one other = absurd one
  bodies_append (p ∷ ps) [] (n ∷ ns) vs ws ms one other = absurd one

  -- the body with this number
  pub body_run : (ps qs : List Body) (ns : List ℕ) → BodiesLike ps qs ns → (k : ℕ) (x y : Here) → Places x y → (copies : List Value) → ((m : ℕ) → slice_get ns k ≡ Some m → length copies ≡ m)
      → Runs (statement_run (slice_get ps k) x copies) (statement_run (slice_get qs k) y copies)
  body_run [] [] [] like k x y h copies size = ending_like (IsScript all sizes) End 0 tt
  body_run (p ∷ ps) (q ∷ qs) (n ∷ ns) like zero x y h copies size = like.0 x y h copies (size n refl)
  body_run (p ∷ ps) (q ∷ qs) (n ∷ ns) like (suc k) x y h copies size = body_run ps qs ns like.1 k x y h copies size
  body_run [] (q ∷ qs) [] like k x y h copies size = absurd like
  body_run [] [] (n ∷ ns) like k x y h copies size = absurd like
  body_run [] (q ∷ qs) (n ∷ ns) like k x y h copies size = absurd like
  body_run (p ∷ ps) [] [] like k x y h copies size = absurd like
  body_run (p ∷ ps) (q ∷ qs) [] like k x y h copies size = absurd like
  body_run (p ∷ ps) [] (n ∷ ns) like k x y h copies size = absurd like

module _ (all : List Item) where
  -- Two meanings that are alike; one that declares nothing leaves the scope.
  pub record Alike (declares : Bool) (m k : Meaning) : Type 0 where
    pub behind : k.behind ≡ m.behind
    pub grows : (around : Around) → length around.scope ≤ length (m.behind around).scope
    pub keeps : declares ≡ false → (around : Around) → length (m.behind around).scope ≡ length around.scope
    -- before how many locals each task statement in it stands
    pub sizes : Around → List ℕ
    pub counted : (around : Around) → (m.behind around).tasks ≡ around.tasks + length (sizes around)
    pub does : (total : List ℕ) (around : Around) → Has total around.tasks (sizes around) → DoLike all total around (length (m.behind around).scope) m.does k.does
    pub bodies : (total : List ℕ) (around : Around) → Has total around.tasks (sizes around) → BodiesLike all total (m.bodies around) (k.bodies around) (sizes around)

  -- a statement without others in it
  pub leaf_alike : (line : ℕ) (f g : Does) → ((total : List ℕ) (around : Around) → DoLike all total around (length around.scope) f g) → Alike false (simple line f) (simple line g)
  leaf_alike line f g like = record {
    behind = refl;
    grows = λ around. omega arith;
    keeps = λ e around. refl;
    sizes = λ around. [];
    counted = λ around. omega arith;
    does = λ total around has x y h low few a b ways locals size. asking_like (IsScript all total) Tick Tick line _ _ refl tt (λ t. like total around x y h low few a b ways locals size);
    bodies = λ total around has. tt;
  }

  -- nothing at all
  abbrev pub nothing : Meaning
  nothing = record { behind = same_place; does = nothing_done; bodies = no_bodies }

  pub nothing_alike : (c : Bool) → Alike c nothing nothing
  nothing_alike c = record {
    behind = refl;
    grows = λ around. omega arith;
    keeps = λ e around. refl;
    sizes = λ around. [];
    counted = λ around. omega arith;
    does = λ total around has x y h low few a b ways locals size. ways.next locals size;
    bodies = λ total around has. tt;
  }

  -- what may declare something need not
  pub loosened : (c : Bool) (m k : Meaning) → Alike c m k → Alike true m k
  loosened c m k one = record {
    behind = one.behind;
    grows = one.grows;
    keeps = λ e around. absurd (subst IsYes e tt);
    sizes = one.sizes;
    counted = one.counted;
    does = one.does;
    bodies = one.bodies;
  }
    where
      IsYes : Bool → Type 0
      IsYes true = Unit {0}
      IsYes false = ⊥

  -- one statement after another
  abbrev pub after : Meaning → Meaning → Meaning
  after m r = record {
    behind = λ around. r.behind (m.behind around);
    does = λ around here ways locals. m.does around here (going_on (λ us. r.does (m.behind around) here ways us) ways) locals;
    bodies = λ around. m.bodies around ++ r.bodies (m.behind around);
  }

  module _ (c d : Bool) (m k r q : Meaning) (one : Alike c m k) (other : Alike d r q) where
    second_has : (total : List ℕ) (around : Around) → Has total around.tasks (one.sizes around ++ other.sizes (m.behind around)) → Has total (m.behind around).tasks (other.sizes (m.behind around))
    second_has total around has =
        subst (λ t. Has total t (other.sizes (m.behind around))) (sym (one.counted around)) (has_back total around.tasks (one.sizes around) (other.sizes (m.behind around)) has)

    after_does : (total : List ℕ) (around : Around) → Has total around.tasks (one.sizes around ++ other.sizes (m.behind around))
        → DoLike all total around (length (r.behind (m.behind around)).scope) (after m r).does (after k q).does
    after_does total around has x y h low few a b ways locals size =
        one.does total around (has_front total around.tasks (one.sizes around) (other.sizes (m.behind around)) has) x y h low few
        (going_on (λ us. r.does (m.behind around) x a us) a) (going_on (λ us. q.does (k.behind around) y b us) b)
        (record {
          next = λ us e. subst (λ (z : Around → Around). Runs all total (r.does (m.behind around) x a us) (q.does (z around) y b us)) (sym one.behind)
              (other.does total (m.behind around) (second_has total around has) x y h low (omega (arith, few, one.grows around)) a b ways us e);
          stop = ways.stop;
          again = ways.again;
          give = ways.give;
        }) locals size

    pub after_alike : Alike true (after m r) (after k q)
    after_alike = record {
      behind = λ i. λ around. other.behind i (one.behind i around);
      grows = λ around. omega (arith, one.grows around, other.grows (m.behind around));
      keeps = λ e around. absurd (subst IsYes e tt);
      sizes = λ around. one.sizes around ++ other.sizes (m.behind around);
      counted = λ around. omega (arith, one.counted around, other.counted (m.behind around), length-append (one.sizes around) (other.sizes (m.behind around)));
      does = after_does;
      bodies = λ total around has. subst (λ (z : Around → Around). BodiesLike all total (m.bodies around ++ r.bodies (m.behind around)) (k.bodies around ++ q.bodies (z around)) (one.sizes around ++ other.sizes (m.behind around))) (sym one.behind)
          (bodies_append all total (m.bodies around) (k.bodies around) (one.sizes around) (r.bodies (m.behind around)) (q.bodies (m.behind around)) (other.sizes (m.behind around))
          (one.bodies total around (has_front total around.tasks (one.sizes around) (other.sizes (m.behind around)) has)) (other.bodies total (m.behind around) (second_has total around has)));
    }
      where
        IsYes : Bool → Type 0
        IsYes true = Unit {0}
        IsYes false = ⊥

  -- what is declared inside is gone behind it
  abbrev pub boxed : Meaning → Meaning
  boxed m = record { behind = λ around. left around (m.behind around); does = alone m.does; bodies = m.bodies }

  pub boxed_alike : (c : Bool) (m k : Meaning) → Alike c m k → Alike false (boxed m) (boxed k)
  boxed_alike c m k one = record {
    behind = λ i. λ around. left around (one.behind i around);
    grows = λ around. omega arith;
    keeps = λ e around. refl;
    sizes = one.sizes;
    counted = one.counted;
    does = λ total around has x y h low few a b ways locals size. one.does total around has x y h low few
        (going_on (λ us. a.next (take (length around.scope) us)) a) (going_on (λ us. b.next (take (length around.scope) us)) b)
        (record {
          next = λ us e. ways.next (take (length around.scope) us) (length-take-le (length around.scope) us (omega (arith, e, one.grows around)));
          stop = ways.stop;
          again = ways.again;
          give = ways.give;
        }) locals size;
    bodies = one.bodies;
  }

  -- a part that may be left out
  abbrev pub part : Option Meaning → Meaning
  part o = record { behind = part_behind o; does = part_does o; bodies = part_bodies o }

  -- statements in order
  abbrev pub listed : List Meaning → Meaning
  listed ms = record { behind = behind_all ms; does = in_order ms; bodies = bodies_of_all ms }
