-- The numbers of a point, as they stand in it. No public clause names this.
-- Read against: 0 and 2 that stand in the point itself are 0, 2, and so are they in memory of their own.
use Rattle.std.specs.Prelude.{ℕ, List}
use Rattle.oss_model.specs.declared.numbers.Numbers.{Numbers}
use Rattle.oss_model.specs.declared.numbers.Numbers.TheVariants.{Few, Many}

-- The numbers, wherever they stand.
abbrev pub numbers_in : Numbers → List ℕ
numbers_in (Few few) = few
numbers_in (Many many) = many.value.items
