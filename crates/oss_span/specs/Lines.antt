-- The text of a chain: a line for each link.
-- Read against: of main's acts 2, 3 and 4 and the giving of cell 4 by the task 0.1, the lines are `acts 0 2 3` and `let 0.1 4`, each with a newline; the chain without links has no line.
use Rattle.std.specs.Prelude.{ℕ, List, [], ◌∷◌, ◌++◌, codes}
use Rattle.std.specs.Fmt.{decimal}
use Rattle.std.specs.List.{flat_map}
use Rattle.oss_model.specs.Points.{text_of}
use Rattle.oss_span.specs.declared.link.Link.{Link}
use Rattle.oss_span.specs.declared.link.Link.TheVariants as links

-- the line of a link
abbrev pub link_line : Link → List ℕ
link_line (links.Acts point first count) = codes "acts " ++ text_of point ++ (32 ∷ decimal first ++ 32 ∷ decimal count ++ 10 ∷ [])
link_line (links.Let point cell) = codes "let " ++ text_of point ++ (32 ∷ decimal cell ++ 10 ∷ [])
link_line (links.Join point cell) = codes "join " ++ text_of point ++ (32 ∷ decimal cell ++ 10 ∷ [])

-- the lines of a chain
abbrev pub chain_text : List Link → List ℕ
chain_text chain = flat_map link_line chain
