use Rattle.std.proofs.Common.{◌≡◌, ◌∷◌, ◌++◌, [], ℕ, List, Bool, sym, subst, ◌∙◌, refl}
use Rattle.oss_pieces.specs.CellSets.{has}
use Rattle.oss_pieces.specs.declared.piece.Piece.{Piece}
use Rattle.oss_pieces.specs.Pieces.{ArePieces}
use Rattle.oss_explanation.specs.declared.explained.Held.{Held}
use Rattle.oss_explanation.specs.declared.explained.Word.{Word}
use Rattle.oss_explanation.specs.Held.{AreHeld, is_word}
use Rattle.oss_explain.specs.Owned.{own_of}
use Rattle.oss_explain.proofs.HoldingLemmas.{ext, held_none, held_some, own_is_by}
use Rattle.oss_explain.proofs.holding.add_word.Goals as goal

pub returns-then-is_empty : goal.returns-then-is_empty
returns-then-is_empty c = λ ws h.
    let w : Word = record { named = c.args.named; strong = c.args.strong } in
    let all = c.args.program.now.items in
    let e : (λ (k : ℕ). has c.in_ok-set.set k) ≡ (λ (k : ℕ). is_word (own_of c.args.accesses.now k) w) = ext (λ k. c.in_ok-set.ensures k ∙ sym (own_is_by w c.args.accesses.now c.requires.rising k)) in
    let p : ArePieces (λ (k : ℕ). is_word (own_of c.args.accesses.now k) w) all 0 0 c.in-Ok.cells = subst (λ (f : ℕ → Bool). ArePieces f all 0 0 c.in-Ok.cells) e c.in-Ok.ensures in
    held_none all (own_of c.args.accesses.now) w h (subst (λ (ps : List Piece). ArePieces (λ (k : ℕ). is_word (own_of c.args.accesses.now k) w) all 0 0 ps) (c.if-is_empty.ensures.0 refl) p)

pub returns : goal.returns
returns c = λ ws h.
    let w : Word = record { named = c.args.named; strong = c.args.strong } in
    let all = c.args.program.now.items in
    let e : (λ (k : ℕ). has c.in_ok-set.set k) ≡ (λ (k : ℕ). is_word (own_of c.args.accesses.now k) w) = ext (λ k. c.in_ok-set.ensures k ∙ sym (own_is_by w c.args.accesses.now c.requires.rising k)) in
    let p : ArePieces (λ (k : ℕ). is_word (own_of c.args.accesses.now k) w) all 0 0 c.in-Ok.cells = subst (λ (f : ℕ → Bool). ArePieces f all 0 0 c.in-Ok.cells) e c.in-Ok.ensures in
    let held : Held = record { word = w; cells = c.in-Ok.cells } in
    subst (λ (hs : List Held). AreHeld all (own_of c.args.accesses.now) (ws ++ w ∷ []) hs) (sym c.in_ok-push.ensures.items)
    (held_some all (own_of c.args.accesses.now) w held h (λ i. w) p (λ x. let k = c.if-is_empty.ensures.1 x in cc))
