use Rattle.std.proofs.Common.{◌≡◌, ◌∷◌, ◌++◌, [], ℕ, List, Bool, sym, subst, refl}
use Rattle.oss_pieces.specs.CellSets.{has}
use Rattle.oss_pieces.specs.declared.piece.Piece.{Piece}
use Rattle.oss_pieces.specs.Pieces.{ArePieces}
use Rattle.oss_ranges.specs.Cells.{value_at}
use Rattle.oss_explanation.specs.declared.explained.Held.{Held}
use Rattle.oss_explanation.specs.Held.{AreHeld, is_word}
use Rattle.oss_lack_words.specs.Told.{added}
use Rattle.oss_lack_words.proofs.TellLemmas.{ext, held_none, held_some}
use Rattle.oss_lack_words.proofs.adding.add_held.Goals as goal

pub returns-then-is_empty : goal.returns-then-is_empty
returns-then-is_empty c = λ all laid ws h.
    let test : ℕ → Bool = λ k. is_word (added (value_at c.args.lacks.now.pieces k)) c.args.word in
    let e : has c.in_ok-set.set ≡ test = ext c.in_ok-set.ensures in
    let p : ArePieces test all 0 0 c.in-Ok.cells = subst (λ (f : ℕ → Bool). ArePieces f all 0 0 c.in-Ok.cells) e (c.in-Ok.ensures all laid) in
    held_none all (λ k. added (value_at c.args.lacks.now.pieces k)) c.args.word h (subst (λ (ps : List Piece). ArePieces test all 0 0 ps) (c.if-is_empty.ensures.0 refl) p)

pub returns : goal.returns
returns c = λ all laid ws h.
    let test : ℕ → Bool = λ k. is_word (added (value_at c.args.lacks.now.pieces k)) c.args.word in
    let words = λ (k : ℕ). added (value_at c.args.lacks.now.pieces k) in
    let e : has c.in_ok-set.set ≡ test = ext c.in_ok-set.ensures in
    let p : ArePieces test all 0 0 c.in-Ok.cells = subst (λ (f : ℕ → Bool). ArePieces f all 0 0 c.in-Ok.cells) e (c.in-Ok.ensures all laid) in
    let held : Held = record { word = c.args.word; cells = c.in-Ok.cells } in
    subst (λ (hs : List Held). AreHeld all words (ws ++ c.args.word ∷ []) hs) (sym c.in_ok-push.ensures.items)
    (held_some all words c.args.word held h refl p (λ x. let k = c.if-is_empty.ensures.1 x in cc))
