use Rattle.std.proofs.Common.{sym, subst, ℕ, ◌+◌, ◌%◌, ◌^◌, arith, length}
use Rattle.oss_field.specs.Hanging.{LinksAt}
use Rattle.oss_field.specs.Layout.{state_word_of}
use Rattle.oss_field.specs.Steps.{Steps}
use Rattle.oss_field.proofs.FollowLemmas.{follows}
use Rattle.oss_field.proofs.hanging.set_next.Goals as goal

pub add_link-requires-clause-inside : goal.add_link-requires-clause-inside
add_link-requires-clause-inside c = let i = c.state_place.ensures in let w = c.requires.on.words in let m = c.requires.cells in let l = c.requires.inside in omega (arith, i, w, m, l)

pub add_link-requires-clause-keeps : goal.add_link-requires-clause-keeps
add_link-requires-clause-keeps c =
    let key = c.args.words.now.key in
    let id = c.args.seat.now.id in
    let v = c.args.seat.now.me.0 in
    subst (λ (i : ℕ). Steps key.code.value key.fuel key.entries id v i (λ x. (x + c.args.by) % 2 ^ 64) (λ x l. LinksAt key.entries c.args.cells c.args.entry c.args.last c.args.word c.args.by x v.known l)) (sym c.state_place.ensures)
    (subst (λ (m : ℕ). Steps key.code.value key.fuel key.entries id v (state_word_of m c.args.last) (λ x. (x + c.args.by) % 2 ^ 64) (λ x l. LinksAt key.entries m c.args.entry c.args.last c.args.word c.args.by x v.known l)) (sym c.requires.cells)
    (subst (λ (b : ℕ). Steps key.code.value key.fuel key.entries id v (state_word_of (length key.code.value.first) c.args.last) (λ x. (x + b) % 2 ^ 64) (λ x l. LinksAt key.entries (length key.code.value.first) c.args.entry c.args.last c.args.word b x v.known l)) (sym c.requires.mask)
    (follows key.code.value key.fuel key.entries id v c.args.entry c.args.last c.args.word c.args._info.now c.args._cell c.requires.may c.requires.few)))
