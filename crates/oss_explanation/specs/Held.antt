-- By which words a task has its cells, and which cells of a directive fail.
-- Read against: of `task in(a[0;10]) inout(a[5;3]) weakreduction(+: s)` with the cells 1 to 10 for `a` and 11 for `s` the cells 1 to 5 and 9 to 10 are held by `in`, 6 to 8 by `inout`,
-- and 11 by `weakreduction(+)`: three words, in this order. Of `release in(a[1]) out(a[2;2])` in a task with `in(a[0;4])` the cells of `a[2]` and `a[3]` fail, `a[2]` first.
use Rattle.std.specs.Prelude.{◌≡◌, ◌≤◌, ℕ, Bool, true, false, ◌&&◌, ◌||◌, if◌then◌else◌, List, [], ◌∷◌, ◌++◌, Option, Some, None}
use Rattle.oss_syntax.specs.declared.access.Access.{Access}
use Rattle.oss_syntax.specs.declared.access.Mode.{Mode}
use Rattle.oss_syntax.specs.declared.access.Mode.TheVariants.{Read, Write, Fold}
use Rattle.oss_syntax.specs.declared.access.Op.TheVariants.{Add, And, Or, Xor}
use Rattle.oss_syntax.specs.declared.tree.program.Item.{Item}
use Rattle.oss_model.specs.Context.{Context, mark_of, right_of}
use Rattle.oss_model.specs.Rights.{Holds, Mark, Right, Unwritten, Written, in_access, op_eq}
use Rattle.oss_pieces.specs.Pieces.{ArePieces}
use Rattle.oss_explanation.specs.declared.explained.Failing.{Failing}
use Rattle.oss_explanation.specs.declared.explained.Held.{Held}
use Rattle.oss_explanation.specs.declared.explained.Use.{Use}
use Rattle.oss_explanation.specs.declared.explained.Use.TheVariants as uses
use Rattle.oss_explanation.specs.declared.explained.Word.{Word}

-- What a mode says: a cell that a task may write and that has no value for it at first was named by `out` or `weakout` alone.
abbrev pub use_of : Mode → Mark → Use
use_of Read mark = uses.In
use_of Write Unwritten = uses.Out
use_of Write Written = uses.Inout
use_of (Fold o) mark = uses.Reduction o

-- The word of a right, if it is one that clauses give.
abbrev pub word_of : Right → Mark → Option Word
word_of (Holds m strong) mark = Some (record { named = use_of m mark; strong = strong })
word_of _ mark = None

-- The word by which a task has a cell that starts with this context.
abbrev pub word_in : Context → ℕ → Option Word
word_in x c = word_of (right_of x c) (mark_of x c)

-- the mark that stands for `out` or `weakout`
abbrev pub mark_for : Bool → Mark
mark_for true = Unwritten
mark_for false = Written

-- The word of one clause; of a final task all are strong.
abbrev pub clause_word : Bool → Access → Word
clause_word final a = record { named = use_of a.mode (mark_for a.fresh); strong = final || a.strong }

-- the words of the clauses that name the cell, in text order
abbrev pub clause_words : Bool → List Access → ℕ → List Word
clause_words final [] c = []
clause_words final (a ∷ rest) c = if in_access a c then clause_word final a ∷ clause_words final rest c else clause_words final rest c

-- they say the same
abbrev pub use_eq : Use → Use → Bool
use_eq uses.In uses.In = true
use_eq uses.Out uses.Out = true
use_eq uses.Inout uses.Inout = true
use_eq (uses.Reduction a) (uses.Reduction b) = op_eq a b
use_eq _ _ = false

-- both are strong, or both weak
abbrev pub alike : Bool → Bool → Bool
alike true b = b
alike false true = false
alike false false = true

-- the words are one
abbrev pub word_eq : Word → Word → Bool
word_eq v w = use_eq v.named w.named && alike v.strong w.strong

-- the word is among these
abbrev pub is_listed : List Word → Word → Bool
is_listed [] w = false
is_listed (v ∷ rest) w = word_eq v w || is_listed rest w

-- The words that are not among the first ones, each once.
abbrev pub once : List Word → List Word → List Word
once seen [] = []
once seen (w ∷ rest) = if is_listed seen w then once seen rest else w ∷ once (w ∷ seen) rest

-- the word of a cell is this one
abbrev pub is_word : Option Word → Word → Bool
is_word None w = false
is_word (Some v) w = word_eq v w

-- the words that are strong, or weak
abbrev pub words_so : Bool → List Word
words_so strong = record { named = uses.In; strong = strong } ∷ record { named = uses.Out; strong = strong } ∷ record { named = uses.Inout; strong = strong }
    ∷ record { named = uses.Reduction Add; strong = strong } ∷ record { named = uses.Reduction And; strong = strong }
    ∷ record { named = uses.Reduction Or; strong = strong } ∷ record { named = uses.Reduction Xor; strong = strong } ∷ []

-- all words, in the order in which they are told
abbrev pub all_words : List Word
all_words = words_so true ++ words_so false

-- The list has each of these words that some cell has, in this order, with the pieces of the cells that have it.
pub data AreHeld (all : List Item) (words : ℕ → Option Word) : List Word → List Held → Type 0 where
  none : AreHeld all words [] []
  some : {w : Word} {ws : List Word} {hs : List Held} (h : Held) → h.word ≡ w → ArePieces (λ c. is_word (words c) w) all 0 0 h.cells → (h.cells ≡ [] → ⊥) → AreHeld all words ws hs
      → AreHeld all words (w ∷ ws) (h ∷ hs)
  no_cell : {w : Word} {ws : List Word} {hs : List Held} → ArePieces (λ c. is_word (words c) w) all 0 0 [] → AreHeld all words ws hs → AreHeld all words (w ∷ ws) hs

-- The cells of which the test holds: these fail. There is one, and the first is the one with the lowest number.
pub record AreFailing (all : List Item) (test : ℕ → Bool) (f : Failing) : Type 0 where
  pub fails : test f.first ≡ true
  pub least : (c : ℕ) → test c ≡ true → f.first ≤ c
  pub pieces : ArePieces test all 0 0 f.all
