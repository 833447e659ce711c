use Rattle.std.proofs.Common.{◌≡◌, ◌∷◌, ◌++◌, ◌∙◌, [], ℕ, List, Bool, ap, sym, subst, refl}
use Rattle.oss_pieces.specs.CellSets.{has}
use Rattle.oss_pieces.specs.declared.piece.Piece.{Piece}
use Rattle.oss_pieces.specs.Pieces.{ArePieces}
use Rattle.oss_explanation.specs.Held.{is_word, once}
use Rattle.oss_missing_lines.specs.declared.missing.Wanting.{Wanting}
use Rattle.oss_lack_words.specs.Told.{AreWantingOf, words_for}
use Rattle.oss_lack_words.proofs.TellLemmas.{ext, wanting_none, wanting_some}
use Rattle.oss_lack_words.proofs.replacing.add_wanting_of.Goals as goal

pub returns-then-is_empty : goal.returns-then-is_empty
returns-then-is_empty c = λ words same all laid ws h.
    let test : ℕ → Bool = λ k. is_word (words k) c.args.word in
    let e : has c.args.set.now ≡ test = ext same in
    let p : ArePieces test all 0 0 c.in_ok-cells.cells = subst (λ (f : ℕ → Bool). ArePieces f all 0 0 c.in_ok-cells.cells) e (c.in_ok-cells.ensures all laid) in
    wanting_none all words c.args.is_final c.args.clauses.now c.args.word h (subst (λ (ps : List Piece). ArePieces test all 0 0 ps) (c.if-is_empty.ensures.0 refl) p)

pub returns-in_ok-push-in-Ok : goal.returns-in_ok-push-in-Ok
returns-in_ok-push-in-Ok c = λ words same all laid ws h.
    let test : ℕ → Bool = λ k. is_word (words k) c.args.word in
    let e : has c.args.set.now ≡ test = ext same in
    let p : ArePieces test all 0 0 c.in_ok-cells.cells = subst (λ (f : ℕ → Bool). ArePieces f all 0 0 c.in_ok-cells.cells) e (c.in_ok-cells.ensures all laid) in
    let want : Wanting = record { word = c.args.word; cells = c.in_ok-cells.cells; old = c.in-Ok.old } in
    subst (λ (ks : List Wanting). AreWantingOf all words c.args.is_final c.args.clauses.now (ws ++ c.args.word ∷ []) ks) (sym c.in_ok-push-in-Ok.ensures.items)
    (wanting_some all words c.args.is_final c.args.clauses.now c.args.word want h (record {
      word = refl;
      cells = p;
      some = λ x. let k = c.if-is_empty.ensures.1 x in cc;
      old = c.in-Ok.ensures ∙ ap (λ (f : ℕ → Bool). once [] (words_for f c.args.is_final c.args.clauses.now)) e;
    }))
