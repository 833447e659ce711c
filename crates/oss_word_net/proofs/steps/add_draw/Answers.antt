use Rattle.std.proofs.Common.{ℕ, refl, arith}
use Rattle.oss_word_net.proofs.DrawLemmas.{draws}
use Rattle.oss_word_net.specs.Plays.{Draws}
use Rattle.oss_word_net.proofs.TableLemmas.{allow_add}
use Rattle.oss_word_net.proofs.steps.add_draw.Goals as goal

pub fetch_add-requires : goal.fetch_add-requires
fetch_add-requires c =
    let n : ℕ = c.args.words.now.key in
    let d = c.args.words.now.table_id.slots in
    let id = c.args.seat.now.id in
    let me = c.args.seat.now.me in
    let s = me.0 in
    let w = c.requires.on.words in (
      c.requires.on.table,
      omega (arith, w),
      allow_add Draws n d id 0 0 c.args.count c.args.count me c.requires.on.bare refl refl (draws n id s c.args.count c.requires.most c.requires.first c.requires.live.0 c.requires.live.1),
    )
