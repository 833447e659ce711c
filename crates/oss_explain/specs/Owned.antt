-- By which words a task has its cells, told by the accesses with which it started.
-- Read against: by the accesses `in` of 0..5, `inout` of 5..8 and `in` of 8..10 the cells 0 to 4, 8 and 9 are held by `in`, and 5 to 7 by `inout`.
use Rattle.std.specs.Prelude.{ℕ, ◌&&◌, ◌||◌, Bool, false, List, [], ◌∷◌, ◌++◌, Option}
use Rattle.oss_syntax.specs.declared.access.Access.{Access}
use Rattle.oss_syntax.specs.declared.tree.program.Item.{Item}
use Rattle.oss_model.specs.Rights.{in_access, mark_from, right_from}
use Rattle.oss_explanation.specs.declared.explained.Held.{Held}
use Rattle.oss_explanation.specs.declared.explained.Word.{Word}
use Rattle.oss_explanation.specs.Held.{AreHeld, clause_word, word_eq, word_of}

-- the word that clauses give to a cell of a task that is final or not
abbrev pub word_from : Bool → List Access → ℕ → Option Word
word_from final clauses c = word_of (right_from final clauses c) (mark_from final clauses c)

-- the word by which a task has a cell that started with these accesses
abbrev pub own_of : List Access → ℕ → Option Word
own_of accesses c = word_from false accesses c

-- an access names the cell by this word
abbrev pub is_by : List Access → Word → ℕ → Bool
is_by [] w c = false
is_by (a ∷ rest) w c = (in_access a c && word_eq (clause_word false a) w) || is_by rest w c

-- A list of what a task has, with these words more.
abbrev pub AddsWords : List Item → (ℕ → Option Word) → List Word → List Held → List Held → Type 0
AddsWords all words more old new = (ws : List Word) → AreHeld all words ws old → AreHeld all words (ws ++ more) new
