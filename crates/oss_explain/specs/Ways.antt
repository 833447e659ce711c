-- How the tasks on the way to the one that acts came to be, as it is told.
-- Read against: of main alone nothing is told; of a task that main created there is one link, with its point, the line of its creation and the instruction with which its body begins.
use Rattle.std.specs.Prelude.{ℕ, List, [], ◌∷◌}
use Rattle.oss_machine.specs.Frames.{CodeScript}
use Rattle.oss_explain.specs.declared.begun.Begun.{Begun}
use Rattle.oss_explanation.specs.declared.explained.Link.{Link}

-- where the body of a task of a code begins
abbrev pub entry_of : CodeScript → ℕ
entry_of s = s.entry

-- how a task came to be
abbrev pub link_of : Begun → Link
link_of b = record { task = b.point; line = b.line; entry = b.entry; included = b.included }

-- the same of each task but the last, which is main
abbrev pub links_to : List Begun → List Link
links_to [] = []
links_to (b ∷ []) = []
links_to (b ∷ a ∷ rest) = link_of b ∷ links_to (a ∷ rest)
