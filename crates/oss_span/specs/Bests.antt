-- Longest chains as they are kept, by their ticks and where they end.
-- Read against: of one with 3 ticks and one with 5 the better is the second, and of two with 3 the first.
use Rattle.std.specs.Prelude.{nat_lt, if◌then◌else◌, None}
use Rattle.oss_span.specs.declared.best.Mark.{Mark}
use Rattle.oss_span.specs.declared.best.Best.{Best}

-- No chain.
abbrev pub no_mark : Mark
no_mark = record { ticks = 0; end = None }

-- No chain, at no cell.
abbrev pub no_best : Best
no_best = record { mark = no_mark; cell = 0 }

-- The one with more ticks.
abbrev pub better_mark : Mark → Mark → Mark
better_mark a b = if nat_lt a.ticks b.ticks then b else a

-- The one with more ticks.
abbrev pub better : Best → Best → Best
better a b = if nat_lt a.mark.ticks b.mark.ticks then b else a
