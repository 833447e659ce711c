use Rattle.std.proofs.Common.{ℕ, ◌+◌, ◌*◌, refl, arith}
use Rattle.oss_word_net.proofs.FillLemmas.{fills_state}
use Rattle.oss_word_net.specs.Plays.{FillsState}
use Rattle.oss_word_net.proofs.TableLemmas.{allow_store}
use Rattle.oss_word_net.proofs.steps.fill_state.Goals as goal

pub store-requires : goal.store-requires
store-requires c =
    let n : ℕ = c.args.words.now.key in
    let d = c.args.words.now.table_id.slots in
    let id = c.args.seat.now.id in
    let me = c.args.seat.now.me in
    let s = me.0 in
    let w = c.requires.on.words in
    let i = c.state_place.ensures in
    let l = c.requires.inside in (
      c.requires.on.table,
      omega (arith, i, w, l),
      allow_store FillsState n d id c.state_place.result (1 + 2 * c.args.entry) 32 32 me c.requires.on.bare i refl (fills_state n id s c.args.entry c.args._info.now c.requires.may),
    )
