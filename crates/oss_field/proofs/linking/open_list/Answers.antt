use Rattle.std.proofs.Common.{◌≡◌, sym, subst, ℕ, arith}
use Rattle.oss_field.specs.Layout.{state_word_of}
use Rattle.oss_field.specs.Linking.{began_list}
use Rattle.oss_field.specs.Steps.{Steps}
use Rattle.oss_field.proofs.BeginLemmas.{begins_list_stands}
use Rattle.oss_field.proofs.linking.open_list.Goals as goal

pub write_entry-requires-clause-inside : goal.write_entry-requires-clause-inside
write_entry-requires-clause-inside c =
    let i = c.state_place.ensures in
    let w = c.requires.on.words in
    let m = c.requires.cells in
    let l = c.requires.inside in
    omega (arith, i, w, m, l)

pub write_entry-requires-clause-keeps : goal.write_entry-requires-clause-keeps
write_entry-requires-clause-keeps c =
    let key = c.args.words.now.key in
    let id = c.args.seat.now.id in
    let v = c.args.seat.now.me.0 in
    subst (λ (i : ℕ). Steps key.code.value key.fuel key.entries id v i (λ x. 39) (λ x l. l ≡ began_list c.args.cells c.args.entry v.known)) (sym c.state_place.ensures)
    (subst (λ (m : ℕ). Steps key.code.value key.fuel key.entries id v (state_word_of m c.args.entry) (λ x. 39) (λ x l. l ≡ began_list m c.args.entry v.known)) (sym c.requires.cells)
    (begins_list_stands key.code.value key.fuel key.entries id v c.args.entry c.args._info.now c.requires.may.0 c.requires.may.1))
