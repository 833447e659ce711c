use Rattle.std.proofs.Common.{◌≡◌, ◌∙◌, ◌++◌, ℕ, List, [], OnOk, Option, ap, sym, subst}
use Rattle.std.proofs.lemmas.List.{append-nil}
use Rattle.oss_syntax.specs.declared.tree.program.GlobalDef.{GlobalDef}
use Rattle.oss_pieces.specs.Names.{piece_of_global, piece_text}
use Rattle.oss_pieces.proofs.NumberedLemmas.{by_number, piece_if}
use Rattle.oss_pieces.proofs.names.add_piece.Goals as goal

pub returns-in-Some : goal.returns-in-Some
returns-in-Some c =
    let named : piece_of_global c.in-Some.global.now c.args.piece.now ≡ piece_text c.args.globals.now c.args.piece.now =
    ap (λ (o : Option GlobalDef). piece_if o c.args.piece.now) c.in-Some.ensures ∙ sym (by_number c.args.globals.now c.args.piece.now.global c.args.piece.now) in
    subst (λ (xs : List ℕ). OnOk c.add_piece_of.result (c.add_piece_of.new.text.items ≡ c.args.text.now.items ++ xs)) named c.add_piece_of.ensures

pub returns-in-None : goal.returns-in-None
returns-in-None c =
    let named : [] ≡ piece_text c.args.globals.now c.args.piece.now =
    ap (λ (o : Option GlobalDef). piece_if o c.args.piece.now) c.in-None.ensures ∙ sym (by_number c.args.globals.now c.args.piece.now.global c.args.piece.now) in
    sym (append-nil c.args.text.now.items) ∙ ap (λ (xs : List ℕ). c.args.text.now.items ++ xs) named
