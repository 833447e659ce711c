-- By which words a new task would have its cells.
use Rattle.std.proofs.Common.{◌≡◌, ℕ, ◌+◌, refl, sym, subst, ap, ◌∙◌, List, [], ◌∷◌, arith, Bool, false, true≢false, Option, None}
use Rattle.std.specs.Prelude.{Err, IfOk, Ok, Result}
use Rattle.oss_syntax.specs.declared.access.Access.{Access}
use Rattle.oss_syntax.specs.declared.access.Mode.TheVariants.{Fold as Folding, Read as Reading, Write as Writing}
use Rattle.oss_syntax.specs.declared.fault.FaultKind.{FaultKind}
use Rattle.oss_syntax.specs.declared.fault.FaultKind.TheVariants as fault
use Rattle.oss_syntax.specs.declared.tree.program.Item.{Item}
use Rattle.oss_syntax.specs.declared.tree.program.Item.TheVariants as items
use Rattle.oss_grammar.specs.Layout.{cells_of}
use Rattle.oss_code.specs.declared.order.TaskOrder.{TaskOrder}
use Rattle.oss_machine.specs.Asks.{meant_ask}
use Rattle.oss_machine.specs.Frames.{CodeScript}
use Rattle.oss_machine.specs.declared.ask.Ask.{Ask as CodeAsk}
use Rattle.oss_machine.specs.declared.ask.Ask.TheVariants as ask
use Rattle.oss_model.specs.Bodies.{Create, Order}
use Rattle.oss_model.specs.Context.{Context, mark_of, right_of}
use Rattle.oss_model.specs.Order.{IsIn}
use Rattle.oss_model.specs.Rights.{Holds, Mark, NoRight, Released, Right, mark_from, right_from}
use Rattle.oss_judge.specs.Joined.{IsRising, held_mark, held_right}
use Rattle.oss_pieces.specs.declared.piece.Piece.{Piece}
use Rattle.oss_pieces.specs.Pieces.{ArePieces, ArePiecesTo, IsPiece}
use Rattle.oss_pieces.specs.Pieces.ArePieces.{none as none_of, of_function, of_global}
use Rattle.oss_pieces.specs.Pieces.Rise.{none as none_rise}
use Rattle.oss_pieces.specs.Rows.{Grid, grid_of, row_begin}
use Rattle.oss_explanation.specs.declared.explained.Word.{Word}
use Rattle.oss_explanation.specs.Explanations.{wanted}
use Rattle.oss_explanation.specs.Held.{AreHeld, is_word, word_in, word_of}
use Rattle.oss_explanation.specs.Held.AreHeld.{no_cell, none}
use Rattle.oss_explain.specs.Ledgers.{AreAccesses}
use Rattle.oss_explain.specs.Owned.{own_of}
use Rattle.oss_explain.proofs.HoldingLemmas.{ext}

-- A new task

held_same : (r : Right) (m : Mark) → word_of (held_right r) (held_mark r m) ≡ word_of r m
held_same NoRight m = refl
held_same Released m = refl
held_same (Holds Reading strong) m = refl
held_same (Holds Writing strong) m = refl
held_same (Holds (Folding o) strong) m = refl

-- the accesses with which a task starts say its words
pub words_same : (accesses : List Access) (x : Context) → AreAccesses accesses x → own_of accesses ≡ word_in x
words_same accesses x a = ext (λ c. (λ i. word_of (a.rights c i) (a.marks c i)) ∙ held_same (right_of x c) (mark_of x c))

-- A set without cells

nothing : {A : Type 0} (x : A) → IsIn x [] → ⊥
nothing x i = elim i [ ]

no_piece : (g : Grid) (number : ℕ) (p : Piece) → IsPiece g number (λ c. false) p → ⊥
no_piece g number p h =
    let run = (h.each p.rows.first (omega arith) h.ordered).run in
    true≢false (sym (run.all (row_begin g p.rows.first + p.columns.first) (omega arith) run.some))

no_own : (g : Grid) (number to : ℕ) → ArePiecesTo g number (λ c. false) to []
no_own g number to = record { rise = none_rise; each = λ p i. absurd (nothing p i); every = λ p h l. absurd (no_piece g number p h) }

no_pieces : (all : List Item) (number start : ℕ) → ArePieces (λ c. false) all number start []
no_pieces [] number start = none_of
no_pieces (items.Global g ∷ rest) number start = of_global (no_own (grid_of g start) number (start + cells_of g.cells)) (no_pieces rest (number + 1) (start + cells_of g.cells))
no_pieces (items.Function f ∷ rest) number start = of_function (no_pieces rest number start)

-- no cell has a word
pub none_held : (all : List Item) (words : ℕ → Option Word) → ((c : ℕ) → words c ≡ None) → (ws : List Word) → AreHeld all words ws []
none_held all words h [] = none
none_held all words h (w ∷ ws) = no_cell (subst (λ (t : ℕ → Bool). ArePieces t all 0 0 []) (ext (λ c. sym (ap (λ (o : Option Word). is_word o w) (h c)))) (no_pieces all 0 0)) (none_held all words h ws)

-- What is not told

pub unwanted_kind : (kind : FaultKind) (o : Order CodeScript) (x : Context) → (kind ≡ fault.Released → ⊥) → (kind ≡ fault.NotCovered → ⊥) → (c : ℕ) → wanted {S = CodeScript} kind (Create o) x c ≡ None
unwanted_kind fault.Released o x a b c = absurd (a refl)
unwanted_kind fault.NotCovered o x a b c = absurd (b refl)
unwanted_kind _ o x a b c = refl

pub unwanted_ask : (kind : FaultKind) (a : CodeAsk) (x : Context) → ((o : TaskOrder) → a ≡ ask.Create o → ⊥) → (c : ℕ) → wanted {S = CodeScript} kind (meant_ask a) x c ≡ None
unwanted_ask fault.Released (ask.Create o) x h c = absurd (h o refl)
unwanted_ask fault.NotCovered (ask.Create o) x h c = absurd (h o refl)
unwanted_ask _ _ x h c = refl

pub creation_word : (kind k : FaultKind) (o : Order CodeScript) (x : Context) → kind ≡ k → wanted {S = CodeScript} k (Create o) x ≡ wanted {S = CodeScript} kind (Create o) x
creation_word kind k o x e = sym (ap (λ (j : FaultKind). wanted {S = CodeScript} j (Create o) x) e)

-- what is said of the accesses of a context, clause by clause
pub accesses_are : {E : Type 0} (x : Context) (r : Result (List Access) E) → IfOk r (λ xs. (c : ℕ) → right_from false xs c ≡ held_right (right_of x c))
    → IfOk r (λ xs. (c : ℕ) → mark_from false xs c ≡ held_mark (right_of x c) (mark_of x c)) → IfOk r IsRising → IfOk r (λ xs. AreAccesses xs x)
accesses_are x (Ok xs) r m s = record { rights = r; marks = m; rising = s }
accesses_are x (Err e) r m s = s
