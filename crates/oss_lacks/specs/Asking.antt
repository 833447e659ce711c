-- What is known of a task on the way of the free run: where it was created, its clauses, and what it has asked of each cell so far.
-- Read against: a task with `in(x)` that loads x, stores into y and creates a task with `out(z)`. Behind these three asks it has asked of x a load, and of y a store; of z it has asked nothing before the new task ends, and then the
-- creation of one with `out(z)`.
use Rattle.std.specs.Prelude.{ℕ, ◌+◌, Bool, false, ◌||◌, List, [], ◌∷◌, map, Option}
use Rattle.oss_syntax.specs.declared.access.Access.{Access}
use Rattle.oss_syntax.specs.declared.access.Range.{Range}
use Rattle.oss_model.specs.Bodies.{Ask, Frame, Order}
use Rattle.oss_needs.specs.declared.clause.Clause.{Clause}
use Rattle.oss_needs.specs.declared.demand.Demand.TheVariants.{Fold, Load, Store}
use Rattle.oss_needs.specs.Givens.{given_of}
use Rattle.oss_task_needs.specs.Asking.{Asked, asks, asks_for, nothing_asked}
use Rattle.oss_open_needs.specs.Opening.{Open, mended_of, releases, waits}
use Rattle.oss_lacks.specs.Nests.{Nest, closed, opened, with_acting}

pub record Asking : Type 0 where
  pub path : List ℕ
  -- the line of its creation
  pub line : ℕ
  -- the clauses of its creation, and whether a weak one counts as strong
  pub clauses : List Access
  pub final : Bool
  pub asked : Asked

-- No clause says anything of main.
abbrev pub main : Asking
main = record { path = []; line = 0; clauses = []; final = false; asked = nothing_asked }

-- the same without its place
abbrev pub open_of : Asking → Open
open_of t = record { given = given_of t.final t.clauses; asked = t.asked }

-- What it asks has become this.
abbrev pub asking : (Asked → Asked) → Asking → Asking
asking up t = record { path = t.path; line = t.line; clauses = t.clauses; final = t.final; asked = up t.asked }

-- What its clauses say of each cell once what they lack is mended.
abbrev pub mended_clauses : Asking → ℕ → Option Clause
mended_clauses t = mended_of (open_of t)

-- The end of a task: its creator has asked for what the clauses of the task say once they are mended.
abbrev pub tell_creator : Asking → Asking → Asking
tell_creator child creator = asking (asks_for (mended_clauses child)) creator

-- A task that this one creates, by an order on this line.
abbrev pub created_by : {S : Type 0} → Frame S → Order S → ℕ → Asking
created_by f o line = record { path = f.context.created ∷ f.path; line = line; clauses = o.clauses; final = f.context.final || o.last; asked = nothing_asked }

abbrev pub range_of : Access → Range
range_of a = a.range

-- What a task asks of each cell by what it asks of the program.
abbrev pub asked_by : {S : Type 0} → Ask S → Asked → Asked
asked_by (Ask.Read c) asked = asks Load c (c + 1) asked
asked_by (Ask.Write c v) asked = asks Store c (c + 1) asked
asked_by (Ask.Fold c op v) asked = asks (Fold op) c (c + 1) asked
asked_by (Ask.WaitOn named) asked = waits (map range_of named) asked
asked_by (Ask.Release clauses) asked = releases clauses asked
asked_by _ asked = asked

-- What is known behind an ask of the task that acts.
abbrev pub behind_ask : {S : Type 0} → Frame S → Ask S → ℕ → Nest Asking → Nest Asking
behind_ask f (Ask.Create o) line n = opened (created_by f o line) n
behind_ask f Ask.End line n = closed tell_creator n
behind_ask f ask line n = with_acting (asking (asked_by ask) n.acting.task) n
