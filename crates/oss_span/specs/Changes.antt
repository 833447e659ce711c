-- What a task keeps of a cell, and how it changes: as tables of single cells, which ranges share.
-- Read against: of a cell that main keeps nothing of and gives to a task `out(x)` with a chain of 2 ticks to its giving, main keeps 2 for what was
-- given and what was changed; a second task `in(x)` then has 2 in the way of its read.
use Rattle.std.specs.Prelude.{Bool, true, false, ◌&&◌, if◌then◌else◌, Option, Some, None}
use Rattle.oss_syntax.specs.declared.access.Mode.{Mode}
use Rattle.oss_syntax.specs.declared.access.Mode.TheVariants.{Read, Write, Fold}
use Rattle.oss_syntax.specs.declared.access.Op.{Op}
use Rattle.oss_model.specs.Rights.{op_eq}
use Rattle.oss_chain_laws.specs.Pass.{is_fold_of as fold_of}
use Rattle.oss_span.specs.declared.best.Mark.{Mark}
use Rattle.oss_span.specs.declared.marks.Marks.{Marks}
use Rattle.oss_span.specs.declared.marks.Change.{Change}
use Rattle.oss_span.specs.declared.marks.Change.TheVariants.{Release, Close}
use Rattle.oss_span.specs.declared.marks.Way.{Way}
use Rattle.oss_span.specs.declared.marks.Way.TheVariants.{Given, Start}
use Rattle.oss_span.specs.Bests.{better_mark, no_mark}

-- The mode is that of a reduction with this operator.
abbrev pub is_fold_of : Op → Mode → Bool
is_fold_of op mode = fold_of op mode

-- No child has named the cell.
abbrev pub unused : Mode → Bool → Marks
unused mode strong = record {
  mode = mode;
  strong = strong;
  given = no_mark;
  changed = no_mark;
  run = None;
  before = no_mark;
  is_freed = false;
  freed = no_mark;
  write_way = no_mark;
  read_way = no_mark;
  join_way = no_mark;
}

-- The run that stands last is one of this reduction.
abbrev pub is_run : Op → Option Op → Bool
is_run op (Some other) = op_eq op other
is_run op None = false

-- The longest chain to what was given up before the run of this reduction that stands last, if it does.
abbrev pub before_of : Op → Marks → Mark
before_of op m = if is_run op m.run then m.before else m.given

-- What stands in the way of the join of a child: what stands before its run, and what stands in the creator's own way.
abbrev pub join_of : Mode → Marks → Mark
join_of (Fold op) m = better_mark (before_of op m) (if is_fold_of op m.mode then m.join_way else m.write_way)
join_of _ m = no_mark

-- What a child keeps at its creation.
abbrev pub opened_by : Marks → Mode → Bool → Marks
opened_by m mode strong = record (unused mode strong) {
  write_way = better_mark m.given m.write_way;
  read_way = better_mark m.changed m.read_way;
  join_way = join_of mode m;
}

-- The same, where the creator may keep nothing.
abbrev pub opened : Option Marks → Mode → Bool → Marks
opened (Some m) mode strong = opened_by m mode strong
opened None mode strong = opened_by (unused mode strong) mode strong

-- The cell is one of a reduction of the task itself.
abbrev pub is_fold_mode : Mode → Bool
is_fold_mode (Fold op) = true
is_fold_mode _ = false

abbrev pub is_strong_fold : Marks → Bool
is_strong_fold m = is_fold_mode m.mode && m.strong

-- A release of the cell, by an act to which this chain leads.
abbrev pub freed : Mark → Marks → Marks
freed mark m = if is_strong_fold m then m else record m { is_freed = true; freed = better_mark m.freed mark }

-- The end of a child with this mode, where this is the longest chain to what was given up of the cell by it and those below it.
abbrev pub closed : Mark → Mode → Marks → Marks
closed gave Read m = record m { given = better_mark m.given gave; run = None }
closed gave Write m = record m { given = better_mark m.given gave; changed = better_mark m.changed gave; run = None }
closed gave (Fold op) m = record m { given = better_mark m.given gave; changed = better_mark m.changed gave; run = Some op; before = before_of op m }

abbrev pub changed : Change → Marks → Marks
changed (Release mark) m = freed mark m
changed (Close gave mode) m = closed gave mode m

-- A change of a cell of which something is kept.
abbrev pub changed_at : Change → Option Marks → Option Marks
changed_at change (Some m) = Some (changed change m)
changed_at change None = None

-- The longest chain that is asked for.
abbrev pub picked : Way → Marks → Mark
picked Given m = m.given
picked Start m = if m.strong then start_of m.mode m else no_mark
  where
    start_of : Mode → Marks → Mark
    start_of Read m = m.read_way
    start_of Write m = m.write_way
    start_of (Fold op) m = no_mark
