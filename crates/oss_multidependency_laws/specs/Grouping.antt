-- How the clauses of a creation or a release, and the sections of a wait, group their cells: two lists of accesses that are the same with each cell in an
-- access of its own.
-- Read against: an access of the cells 1 and 2, and two accesses of one of them each, of one mode, are the same with each cell alone; `in(a[1;2])` and
-- `in(a[1], a[2])` give them.
use Rattle.std.specs.Prelude.{◌≡◌, ℕ, ◌-◌, List, [], ◌∷◌, ◌++◌, map}
use Rattle.std.specs.List.{range_with_len}
use Rattle.oss_syntax.specs.declared.access.Access.{Access}
use Rattle.oss_model.specs.Cells.{cell_range}
use Rattle.oss_model.specs.Bodies.{Ask, Asked, Order, Start}
use Rattle.oss_model.specs.Bodies.Ask.{Await, Begin, Create, End, Fails, Fold, Print, Read, Release, Tick, Wait, WaitOn, Write}
use Rattle.oss_meaning.specs.Clauses.{Made}
use Rattle.oss_meaning.specs.Expressions.{TreeRun}

-- an access of one cell
abbrev pub single : Access → ℕ → Access
single a c = record { range = cell_range c; mode = a.mode; strong = a.strong; fresh = a.fresh }

-- the cells of an access, each alone
abbrev pub singles_of : Access → List Access
singles_of a = map (single a) (range_with_len a.range.lo (a.range.hi - a.range.lo))

-- clauses, each cell alone
abbrev pub singles : List Access → List Access
singles [] = []
singles (a ∷ rest) = singles_of a ++ singles rest

-- the same order, each cell of its clauses alone
abbrev pub plain_order : {S : Type 0} → Order S → Order S
plain_order o = record { script = o.script; clauses = singles o.clauses; when = o.when; last = o.last; wait = o.wait; priority = o.priority }

-- the same ask
abbrev pub plain_ask : {S : Type 0} → Ask S → Ask S
plain_ask Begin = Begin
plain_ask Tick = Tick
plain_ask (Read cell) = Read cell
plain_ask (Write cell v) = Write cell v
plain_ask (Fold cell o v) = Fold cell o v
plain_ask (Create o) = Create (plain_order o)
plain_ask Await = Await
plain_ask Wait = Wait
plain_ask (WaitOn named) = WaitOn (singles named)
plain_ask (Release clauses) = Release (singles clauses)
plain_ask (Print text) = Print text
plain_ask End = End
plain_ask (Fails kind) = Fails kind

-- the same ask on the same line
abbrev pub plain_asked : {S : Type 0} → Asked S → Asked S
plain_asked a = record { ask = plain_ask a.ask; line = a.line }

-- the same beginning of a body
abbrev pub plain_start : {S : Type 0} → Start S → Start S
plain_start b = record { order = plain_order b.order; context = b.context; path = b.path }

-- What goes on with accesses does so in one way for all that are the same with each cell alone.
abbrev pub IsSteady : (List Access → TreeRun) → Type 0
IsSteady go = (a b : List Access) → singles a ≡ singles b → go a ≡ go b

-- So does what goes on with all that clauses have given.
abbrev pub IsSteadyMade : (Made → TreeRun) → Type 0
IsSteadyMade go = (made : Made) (a b : List Access) → singles a ≡ singles b → go (record made { accesses = a }) ≡ go (record made { accesses = b })
