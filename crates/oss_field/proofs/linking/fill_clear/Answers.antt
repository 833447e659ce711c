use Rattle.std.proofs.Common.{◌≡◌, sym, subst, refl, ℕ, arith}
use Rattle.oss_words.specs.Steps.{no_flags}
use Rattle.oss_field.specs.Layout.{state_word_of}
use Rattle.oss_field.specs.Linking.{told_clear}
use Rattle.oss_field.specs.Steps.{Steps}
use Rattle.oss_field.proofs.ClearLemmas.{clears}
use Rattle.oss_field.proofs.linking.fill_clear.Goals as goal

pub write_entry-requires-clause-inside : goal.write_entry-requires-clause-inside
write_entry-requires-clause-inside c =
    let i = c.state_place.ensures in
    let w = c.requires.on.words in
    let m = c.requires.cells in
    let l = c.requires.inside in
    omega (arith, i, w, m, l)

pub write_entry-requires-clause-keeps : goal.write_entry-requires-clause-keeps
write_entry-requires-clause-keeps c =
    let key = c.args.words.now.key in
    let id = c.args.seat.now.id in
    let v = c.args.seat.now.me.0 in
    subst (λ (i : ℕ). Steps key.code.value key.fuel key.entries id v i (λ x. 32) (λ x l. l ≡ told_clear c.args.cells c.args.entry v.known)) (sym c.state_place.ensures)
    (subst (λ (m : ℕ). Steps key.code.value key.fuel key.entries id v (state_word_of m c.args.entry) (λ x. 32) (λ x l. l ≡ told_clear m c.args.entry v.known)) (sym c.requires.cells)
    (clears key.code.value key.fuel key.entries id v (record { task = c.args._task; entry = c.args.entry; state = no_flags; info = c.requires.fresh.0; cell = c.requires.fresh.1 }) c.requires.fresh.2 refl))
