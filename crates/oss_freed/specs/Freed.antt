-- The freed program: what a program does where no clause binds it.
-- Its sequential run, the free run, does the acts of the program in their order, with the same values, and goes on where the
-- program's own run stops at a clause that is missing. It is no other machine: every task is created with one clause, which is
-- to write every cell with its old value (`inout`), and nothing is lent, released or waited for by name.
-- That a false if lends nothing to the new task, and that its creator then awaits it, are rules of this language.
-- Read against: a main that creates a task without clauses, x = 1, and then does x = x + 1. Its run stands before NoRight at the
-- store of the task; with out(x) it stands before Lent at the load in main. The free run of both ends with x = 2.
use Rattle.std.specs.Prelude.{◌≡◌, ℕ, zero, suc, ◌+◌, ◌<◌, ◌≤◌, false, true, List, [], ◌∷◌, min}
use Rattle.std.proofs.Common.{lit<, zero-le}
use Rattle.std.proofs.Math.Nat.{min-le_right, lt_of_le_of_lt}
use Rattle.std.proofs.Math.Numerals.{lt-add-one, add-one-le}
use Rattle.oss_syntax.specs.declared.access.Access.{Access}
use Rattle.oss_syntax.specs.declared.access.Range.{Range}
use Rattle.oss_syntax.specs.declared.access.Mode.TheVariants.{Write}
use Rattle.oss_syntax.specs.declared.fault.FaultKind.{FaultKind}
use Rattle.oss_syntax.specs.declared.fault.FaultKind.TheVariants as fault
use Rattle.oss_model.specs.Marks.{AsksFor}
use Rattle.oss_model.specs.Bodies.{Order, Ask, Program, Frame, Body, stack_from, top_frame}

-- The first cells, one more than n of them. A program has at most 1,048,576.
abbrev pub first_cells : ℕ → Range
first_cells n = record {
  lo = 0;
  hi = min n 1048575 + 1;
  ordered = lt_of_le_of_lt zero-le (lt-add-one (min n 1048575));
  within = add-one-le (lt_of_le_of_lt (min-le_right n 1048575) (lit< tt));
}

-- The clause by which a task may read and write each of n cells. Of no cells there is none.
abbrev pub all_cells : ℕ → List Access
all_cells zero = []
all_cells (suc n) = record { range = first_cells n; mode = Write; strong = true; fresh = false } ∷ []

-- A creation by which the new task may write all n cells, and its creator lends nothing.
abbrev pub freed_order : {S : Type 0} → ℕ → Order S → Order S
freed_order n o = record o { clauses = all_cells n; when = false }

-- What stands in place of an ask. A wait for named cells and a release name none.
abbrev pub freed_ask : {S : Type 0} → ℕ → Ask S → Ask S
freed_ask n (Ask.Create o) = Ask.Create (freed_order n o)
freed_ask n (Ask.WaitOn named) = Ask.WaitOn []
freed_ask n (Ask.Release clauses) = Ask.Release []
freed_ask n ask = ask

-- The program of n cells without its clauses: the same scripts, answers and lines.
abbrev pub freed : {S : Type 0} → ℕ → Program S → Program S
freed n P script answers = record { ask = freed_ask n (P script answers).ask; line = (P script answers).line }

-- The fault is of annotations: another clause, or a wait, would have prevented it. The other faults are of fuel, of limits and
-- of values.
abbrev pub IsOfAnnotations : FaultKind → Type 0
IsOfAnnotations fault.MixedAccess = Unit {0}
IsOfAnnotations fault.Released = Unit {0}
IsOfAnnotations fault.NoRight = Unit {0}
IsOfAnnotations fault.NotCovered = Unit {0}
IsOfAnnotations fault.BadReduction = Unit {0}
IsOfAnnotations fault.Lent = Unit {0}
IsOfAnnotations fault.Unwritten = Unit {0}
IsOfAnnotations _ = ⊥

-- The task of a body that acts next: the body's own, or one that is included.
abbrev pub acting : {S : Type 0} → Program S → Body S → Frame S
acting P b = top_frame (stack_from P b.start b.found).base (stack_from P b.start b.found).inner

-- The fault is the ask's own: the ask is that fault itself, or a touch of a cell past the n that there are.
abbrev pub IsOwn : {S : Type 0} → ℕ → FaultKind → Ask S → Type 0
IsOwn n kind (Ask.Fails other) = other ≡ kind
IsOwn n kind (Ask.Read c) = n ≤ c
IsOwn n kind (Ask.Write c v) = n ≤ c
IsOwn n kind (Ask.Fold c op v) = n ≤ c
IsOwn n kind _ = ⊥

-- The program touches the first n cells alone.
abbrev pub TouchesItsCells : {S : Type 0} → ℕ → Program S → Type 0
TouchesItsCells {S} n P = (script : S) (answers : List ℕ) (c : ℕ) → AsksFor (P script answers).ask c → c < n

-- No body of the program asks for a fault of annotations: only the judge finds one.
abbrev pub LeavesClausesToTheJudge : {S : Type 0} → Program S → Type 0
LeavesClausesToTheJudge {S} P = (script : S) (answers : List ℕ) (kind : FaultKind) → (P script answers).ask ≡ Ask.Fails kind → IsOfAnnotations kind → ⊥
