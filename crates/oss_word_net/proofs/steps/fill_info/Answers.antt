use Rattle.std.proofs.Common.{ℕ, ◌+◌, ◌*◌, refl, arith}
use Rattle.oss_word_net.proofs.FillLemmas.{fills_info}
use Rattle.oss_word_net.specs.Plays.{FillsInfo}
use Rattle.oss_word_net.proofs.TableLemmas.{allow_store}
use Rattle.oss_word_net.proofs.steps.fill_info.Goals as goal

pub store-requires : goal.store-requires
store-requires c =
    let n : ℕ = c.args.words.now.key in
    let d = c.args.words.now.table_id.slots in
    let id = c.args.seat.now.id in
    let me = c.args.seat.now.me in
    let s = me.0 in
    let w = c.requires.on.words in
    let i = c.info_place.ensures in
    let l = c.requires.inside in (
      c.requires.on.table,
      omega (arith, i, w, l),
      allow_store FillsInfo n d id c.info_place.result (2 + 2 * c.args.entry) c.args.info c.args.info me c.requires.on.bare i refl (fills_info n id s c.args.entry c.args.info c.requires.may),
    )
