-- Where the pieces of a map are kept.
use Rattle.oss_ranges.specs.Cells.{Kept}
use Rattle.oss_ranges.specs.declared.store.Store.{Store}
use Rattle.oss_ranges.specs.declared.store.Store.TheVariants.{Flat, Tree}

-- what contracts see of a map, wherever its pieces are kept
abbrev pub kept_of : {T : Type 0} → Store T → Kept T
kept_of (Flat flat) = flat
kept_of (Tree tree) = tree.value
