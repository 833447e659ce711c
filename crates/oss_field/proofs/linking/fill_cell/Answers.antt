use Rattle.std.proofs.Common.{◌≡◌, sym, subst, refl, ℕ, arith}
use Rattle.std.specs.Prelude.{None}
use Rattle.oss_words.specs.Steps.{no_flags}
use Rattle.oss_field.specs.Layout.{number_word_of}
use Rattle.oss_field.specs.Linking.{told_cell}
use Rattle.oss_field.specs.Steps.{Steps}
use Rattle.oss_field.proofs.FillLemmas.{fills_cell}
use Rattle.oss_field.proofs.linking.fill_cell.Goals as goal

pub write_entry-requires-clause-inside : goal.write_entry-requires-clause-inside
write_entry-requires-clause-inside c =
    let i = c.number_place.ensures in
    let w = c.requires.on.words in
    let m = c.requires.cells in
    let l = c.requires.inside in
    omega (arith, i, w, m, l)

pub write_entry-requires-clause-keeps : goal.write_entry-requires-clause-keeps
write_entry-requires-clause-keeps c =
    let key = c.args.words.now.key in
    let id = c.args.seat.now.id in
    let v = c.args.seat.now.me.0 in
    subst (λ (i : ℕ). Steps key.code.value key.fuel key.entries id v i (λ x. c.args.cell) (λ x l. l ≡ told_cell c.args.cells c.args.entry c.args.cell v.known)) (sym c.number_place.ensures)
    (subst (λ (m : ℕ). Steps key.code.value key.fuel key.entries id v (number_word_of m c.args.entry) (λ x. c.args.cell) (λ x l. l ≡ told_cell m c.args.entry c.args.cell v.known)) (sym c.requires.cells)
    (fills_cell key.code.value key.fuel key.entries id v (record { task = c.args._task; entry = c.args.entry; state = no_flags; info = c.requires.fresh.0; cell = None }) c.requires.fresh.1 refl c.args.cell))
