use Rattle.std.proofs.Common.{sym, subst, ℕ, ◌≤◌, ◌+◌, ◌%◌, ◌^◌, arith}
use Rattle.oss_field.specs.Drawing.{IsDrawn}
use Rattle.oss_field.specs.Steps.{Steps}
use Rattle.oss_field.proofs.DrawLemmas.{draws}
use Rattle.oss_field.proofs.drawing.add_draw.Goals as goal

pub add_word-requires-clause-inside : goal.add_word-requires-clause-inside
add_word-requires-clause-inside c = let w = c.requires.on.words in omega (arith, w)

pub add_word-requires-clause-keeps : goal.add_word-requires-clause-keeps
add_word-requires-clause-keeps c =
    let key = c.args.words.now.key in
    let id = c.args.seat.now.id in
    let v = c.args.seat.now.me.0 in
    subst (λ (n : ℕ). Steps key.code.value key.fuel key.entries id v 0 (λ x. (x + c.args.count) % 2 ^ 64) (λ x l. IsDrawn n c.args.count x v.known l)) (sym c.requires.entries.0)
    (draws key.code.value key.fuel key.entries id v c.args.count c.requires.most (subst (λ (n : ℕ). n ≤ 16777216) c.requires.entries.0 c.requires.entries.1) c.requires.first)
