-- What a statement does goes on calmly at places where calls and creations do, and so do the bodies of the task statements in it.
use Rattle.std.proofs.Common.{ℕ, zero, suc, List, [], ◌∷◌, ◌++◌, length, Option, Some, None}
use Rattle.std.specs.Prelude.{slice_get, take}
use Rattle.oss_model.specs.Bodies.Ask.{End, Tick}
use Rattle.oss_meaning.specs.declared.value.Value.{Value}
use Rattle.oss_meaning.specs.Expressions.{Here, TreeRun}
use Rattle.oss_meaning.specs.Meaning.{statement_run}
use Rattle.oss_meaning.specs.Statements.{Around, Body, Does, Meaning, Ways, blocked, bodies_of_all, going_on, in_order, part_bodies, part_does, simple}
use Rattle.oss_missing_program_laws.proofs.CalmRuns.{Calm, asking_calm, ending_calm}
use Rattle.oss_missing_program_laws.proofs.CalmRuns.Level.{in_statement, outside}
use Rattle.oss_missing_program_laws.proofs.CalmExpressions.{HereCalm}

module _ (W : Type 0) where
  -- three places where calls and creations go on calmly, also from the clauses of a task statement
  pub record Places (x y z : Here) : Type 0 where
    pub outer : HereCalm W outside x y z
    pub inner : HereCalm W in_statement x y z

  -- what goes on with values of the locals
  abbrev pub Onward : (List Value → TreeRun) → (List Value → TreeRun) → (List Value → TreeRun) → Type 0
  Onward go on more = (us : List Value) → Calm W outside (go us) (on us) (more us)

  -- ways out that go on calmly
  pub record WaysCalm (a b c : Ways) : Type 0 where
    pub next : Onward a.next b.next c.next
    pub stop : Onward a.stop b.stop c.stop
    pub again : Onward a.again b.again c.again
    pub give : (line : ℕ) (v : Value) → Calm W outside (a.give line v) (b.give line v) (c.give line v)

  -- it goes on calmly at each place of the text
  abbrev pub DoCalm : Does → Type 0
  DoCalm f = (around : Around) (x y z : Here) → Places x y z → (a b c : Ways) → WaysCalm a b c → (locals : List Value) → Calm W outside (f around x a locals) (f around y b locals) (f around z c locals)

  -- so does the body of a task statement
  abbrev pub BodyCalm : Body → Type 0
  BodyCalm p = (x y z : Here) → Places x y z → (copies : List Value) → Calm W outside (p x copies) (p y copies) (p z copies)

  abbrev pub BodiesCalm : List Body → Type 0
  BodiesCalm [] = Unit {0}
  BodiesCalm (p ∷ ps) = BodyCalm p × BodiesCalm ps

  pub bodies_append : (ps qs : List Body) → BodiesCalm ps → BodiesCalm qs → BodiesCalm (ps ++ qs)
  bodies_append [] qs one other = other
  bodies_append (p ∷ ps) qs one other = (one.0, bodies_append ps qs one.1 other)

  -- the body with this number
  pub body_calm : (ps : List Body) → BodiesCalm ps → (k : ℕ) → BodyCalm (statement_run (slice_get ps k))
  body_calm [] calm k x y z h copies = ending_calm W outside End 0 tt
  body_calm (p ∷ ps) calm zero x y z h copies = calm.0 x y z h copies
  body_calm (p ∷ ps) calm (suc k) x y z h copies = body_calm ps calm.1 k x y z h copies

  -- A statement that does so, with the bodies in it.
  pub record Steady (m : Meaning) : Type 0 where
    pub does : DoCalm m.does
    pub bodies : (around : Around) → BodiesCalm (m.bodies around)

  abbrev pub AllSteady : List Meaning → Type 0
  AllSteady [] = Unit {0}
  AllSteady (m ∷ rest) = Steady m × AllSteady rest

  -- a part that may be left out
  abbrev pub PartSteady : Option Meaning → Type 0
  PartSteady None = Unit {0}
  PartSteady (Some m) = Steady m

  -- Statements without others in them

  pub leaf_steady : (line : ℕ) (f : Does) → DoCalm f → Steady (simple line f)
  leaf_steady line f calm = record { does = λ around x y z h a b c ways locals. asking_calm W outside Tick line _ _ _ tt (λ t. calm around x y z h a b c ways locals); bodies = λ around. tt }

  -- Lists and blocks

  -- the same ways out, but for what stands behind
  pub going_calm : (go on more : List Value → TreeRun) (a b c : Ways) → Onward go on more → WaysCalm a b c → WaysCalm (going_on go a) (going_on on b) (going_on more c)
  going_calm go on more a b c ok ways = record { next = ok; stop = ways.stop; again = ways.again; give = ways.give }

  pub in_order_calm : (ms : List Meaning) → AllSteady ms → DoCalm (in_order ms)
  in_order_calm [] steady around x y z h a b c ways locals = ways.next locals
  in_order_calm (m ∷ rest) steady around x y z h a b c ways locals =
      steady.0.does around x y z h _ _ _ (going_calm _ _ _ a b c (λ us. in_order_calm rest steady.1 (m.behind around) x y z h a b c ways us) ways) locals

  pub all_bodies_calm : (ms : List Meaning) → AllSteady ms → (around : Around) → BodiesCalm (bodies_of_all ms around)
  all_bodies_calm [] steady around = tt
  all_bodies_calm (m ∷ rest) steady around = bodies_append (m.bodies around) (bodies_of_all rest (m.behind around)) (steady.0.bodies around) (all_bodies_calm rest steady.1 (m.behind around))

  pub block_steady : (ms : List Meaning) → AllSteady ms → Steady (blocked ms)
  block_steady ms steady = record {
    does = λ around x y z h a b c ways locals. in_order_calm ms steady around x y z h _ _ _ (going_calm _ _ _ a b c (λ us. ways.next (take (length around.scope) us)) ways) locals;
    bodies = all_bodies_calm ms steady;
  }

  -- Parts

  pub part_calm : (o : Option Meaning) → PartSteady o → DoCalm (part_does o)
  part_calm None steady around x y z h a b c ways locals = ways.next locals
  part_calm (Some m) steady around x y z h a b c ways locals = steady.does around x y z h a b c ways locals

  pub part_bodies_calm : (o : Option Meaning) → PartSteady o → (around : Around) → BodiesCalm (part_bodies o around)
  part_bodies_calm None steady around = tt
  part_bodies_calm (Some m) steady around = steady.bodies around
