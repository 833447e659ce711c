-- How a clause is told with the cells that it names, and words one behind the other.
-- Read against: a strong `out` of a[0], a[2], .. a[20] is told as `out(a[0], a[2], a[4], a[6], a[8], a[10], a[12], a[14]) and 3 more cells`, and a weak reduction by `+` of s as `weakreduction(+: s)`. The words `in`, `reduction(|)` and `reduction(+)` are told as
-- `in and reduction(|) and reduction(+)`.
use Rattle.std.specs.Prelude.{ℕ, ◌==◌, if◌then◌else◌, List, [], ◌∷◌, ◌++◌, take, drop, codes}
use Rattle.std.specs.Fmt.{decimal}
use Rattle.oss_syntax.specs.declared.tree.program.Item.{Item}
use Rattle.oss_pieces.specs.declared.piece.Piece.{Piece}
use Rattle.oss_pieces.specs.Names.{cells_in_pieces, joined_pieces, more_cells}
use Rattle.oss_explanation.specs.declared.explained.Use.{Use}
use Rattle.oss_explanation.specs.declared.explained.Use.TheVariants as uses
use Rattle.oss_explanation.specs.declared.explained.Word.{Word}
use Rattle.oss_explanation.specs.Words.{op_text, strength_text, word_text}

-- what a clause says, up to its cells
abbrev pub use_head : Use → List ℕ
use_head uses.In = codes "in("
use_head uses.Out = codes "out("
use_head uses.Inout = codes "inout("
use_head (uses.Reduction o) = codes "reduction(" ++ op_text o ++ codes ": "

-- the same, weak or not
abbrev pub word_head : Word → List ℕ
word_head w = strength_text w.strong ++ use_head w.named

-- how many cells are left out, behind a clause: nothing where there is none
abbrev pub and_more : ℕ → List ℕ
and_more n = if n == 0 then [] else codes " and " ++ decimal n ++ more_cells n

-- a clause with its first eight pieces, and how many cells the others have
abbrev pub clause_text : List Item → Word → List Piece → List ℕ
clause_text all w ps = word_head w ++ joined_pieces all (take 8 ps) ++ codes ")" ++ and_more (cells_in_pieces (drop 8 ps))

-- words, with ` and ` before each
abbrev pub further_old : List Word → List ℕ
further_old [] = []
further_old (w ∷ more) = codes " and " ++ word_text w ++ further_old more

-- words, with ` and ` between them
abbrev pub old_text : List Word → List ℕ
old_text [] = []
old_text (w ∷ more) = word_text w ++ further_old more
