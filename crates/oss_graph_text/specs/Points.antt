-- Points of tasks in the text of a graph: which stands below which, and how they are written.
-- Read against: 0.2.1 and 0.2.1.0 stand below 0.2, and 0.2 and 0.20 do not; the point above 0.2.1 is 0.2. Main's point is 0; 0.2 is that of a task of main, and 0.2.1 lies deeper. The name of the node 0.2.1 is `"0.2.1"`; on level 3 a line begins
-- with six blanks.
use Rattle.std.specs.Prelude.{ℕ, zero, suc, ◌-◌, ◌==◌, ◌&&◌, nat_eq, nat_lt, Bool, List, [], ◌++◌, length, take, codes}
use Rattle.std.specs.Cmp.Lexicographic.{pointwise}
use Rattle.oss_model.specs.Points.{text_of}

-- the points are one
abbrev pub same_point : List ℕ → List ℕ → Bool
same_point p q = pointwise nat_eq p q

-- the second stands below the first: it goes on from there
abbrev pub stands_below : List ℕ → List ℕ → Bool
stands_below p q = nat_lt (length p) (length q) && same_point p (take (length p) q)

-- the point of main
abbrev pub is_main : List ℕ → Bool
is_main p = length p == 1

-- the point of a task that another task than main has created
abbrev pub is_deep : List ℕ → Bool
is_deep p = nat_lt 2 (length p)

-- the point of the creator
abbrev pub above : List ℕ → List ℕ
above p = take (length p - 1) p

-- the name of a node
abbrev pub quoted : List ℕ → List ℕ
quoted p = codes "\"" ++ text_of p ++ codes "\""

-- two blanks a level
abbrev pub indent : ℕ → List ℕ
indent zero = []
indent (suc n) = codes "  " ++ indent n
