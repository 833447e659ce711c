-- What the clauses of a task say (OmpSs-2, the task directive and its clauses): their expressions in text order, and then one creation with
-- what they gave and the values of the locals as they are then.
-- Read against: `task in(a[i;n]) if(x)` evaluates `i`, `n` and `x` in this order; with `n` below 0 it fails with OutOfRange before `x` is loaded. Without
-- `if` it is true, without `final` it is false, and without `priority` it is 0.
use Rattle.std.specs.Prelude.{ℕ, Bool, true, false, not, List, [], ◌∷◌, ℤ, pos}
use Rattle.oss_syntax.specs.declared.access.Access.{Access}
use Rattle.oss_syntax.specs.declared.access.Mode.TheVariants as mode
use Rattle.oss_syntax.specs.declared.tree.expr.Expr.{Expr}
use Rattle.oss_syntax.specs.declared.tree.pragma.Clause.{Clause}
use Rattle.oss_syntax.specs.declared.tree.pragma.Clause.TheVariants as clause
use Rattle.oss_syntax.specs.declared.tree.program.Item.{Item}
use Rattle.oss_syntax.specs.declared.tree.program.Local.{Local}
use Rattle.oss_grammar.specs.SectionCells.{signed}
use Rattle.oss_model.specs.Bodies.{Order}
use Rattle.oss_model.specs.Bodies.Ask.{Begin, Create}
use Rattle.oss_meaning.specs.declared.clauses.Declared.{Declared}
use Rattle.oss_meaning.specs.declared.value.Value.{Value}
use Rattle.oss_meaning.specs.Expressions.{Here, TreeRun, TaskBody, sense_of}
use Rattle.oss_meaning.specs.Operators.{is_zero}
use Rattle.oss_meaning.specs.Pointers.{number_in}
use Rattle.oss_meaning.specs.Runs.{asking}
use Rattle.oss_meaning.specs.Sections.{sections_run}

-- What the clauses so far have given.
pub record Made : Type 0 where
  pub accesses : List Access
  -- the value of `if`, and of `final`; whether the clause `wait` stands
  pub when : Bool
  pub last : Bool
  pub wait : Bool
  pub priority : ℤ

-- before any clause
abbrev pub nothing_made : Made
nothing_made = record { accesses = []; when = true; last = false; wait = false; priority = pos 0 }

-- what holds of a value
abbrev pub holds : Value → Bool
holds v = not (is_zero v)

-- What goes on behind clauses.
abbrev pub Making : Type 0
Making = (Made → TreeRun) → TreeRun

-- the value of an expression of a clause
abbrev pub clause_value : List Item → List Local → Expr → ℕ → Here → List Value → (Value → TreeRun) → TreeRun
clause_value all scope e line here locals go = (sense_of all scope e).value line here locals go

-- One clause, behind what those before it gave. A label says nothing to the run, and a grain size stands on task loops alone.
abbrev pub clause_run : List Item → List Local → Clause → ℕ → Here → List Value → Made → Making
clause_run all scope (clause.Depend mode strong fresh sections) line here locals made go =
    sections_run all scope (record { mode = mode; strong = strong; fresh = fresh }) sections line here locals made.accesses (λ accesses. go (record made { accesses = accesses }))
clause_run all scope (clause.If e) line here locals made go = clause_value all scope e line here locals (λ v. go (record made { when = holds v }))
clause_run all scope (clause.Final e) line here locals made go = clause_value all scope e line here locals (λ v. go (record made { last = holds v }))
clause_run all scope clause.Wait line here locals made go = go (record made { wait = true })
clause_run all scope (clause.Label text) line here locals made go = go made
clause_run all scope (clause.Priority e) line here locals made go = clause_value all scope e line here locals (λ v. go (record made { priority = signed (number_in v) }))
clause_run all scope (clause.Grain e) line here locals made go = go made

-- Clauses in text order.
abbrev pub clauses_run : List Item → List Local → List Clause → ℕ → Here → List Value → Made → Making
clauses_run all scope [] line here locals made go = go made
clauses_run all scope (c ∷ rest) line here locals made go = clause_run all scope c line here locals made (λ more. clauses_run all scope rest line here locals more go)

-- the order of a task that runs this, with what its clauses gave
abbrev pub order_of : {S : Type 0} → S → Made → Order S
order_of script made = record {
  script = script;
  clauses = made.accesses;
  when = made.when;
  last = made.last;
  wait = made.wait;
  priority = made.priority;
}

-- A creation: the tests of one begin, the clauses are evaluated, and a task is created that runs this with a copy of the locals.
abbrev pub created : List Item → List Local → TaskBody → List Clause → ℕ → Here → List Value → TreeRun → TreeRun
created all scope body clauses line here locals go =
    asking Begin line (λ b. clauses_run all scope clauses line here locals nothing_made (λ made.
    asking (Create (order_of (record { body = body; copies = locals }) made)) line (λ c. go)))

-- what a wait on cells, which names them without a mode, declares of them: a strong read
abbrev pub waited_for : Declared
waited_for = record { mode = mode.Read; strong = true; fresh = false }
