use Rattle.std.proofs.Common.{ℕ, ◌+◌, ◌*◌, arith}
use Rattle.oss_word_net.proofs.DeliverLemmas.{delivers}
use Rattle.oss_words.specs.Bits.{weight}
use Rattle.oss_word_net.specs.Plays.{Passes}
use Rattle.oss_word_net.proofs.TableLemmas.{allow_add}
use Rattle.oss_word_net.proofs.steps.set_flag.Goals as goal

pub fetch_add-requires : goal.fetch_add-requires
fetch_add-requires c =
    let n : ℕ = c.args.words.now.key in
    let d = c.args.words.now.table_id.slots in
    let id = c.args.seat.now.id in
    let me = c.args.seat.now.me in
    let s = me.0 in
    let w = c.requires.on.words in
    let i = c.state_place.ensures in
    let l = c.requires.inside in (
      c.requires.on.table,
      omega (arith, i, w, l),
      allow_add Passes n d id c.state_place.result (1 + 2 * c.args.message.entry) c.weight_of.result (weight c.args.message.flag) me c.requires.on.bare i c.weight_of.ensures (delivers n id s c.args.message c.args._info.now c.requires.held.0 c.requires.told c.requires.last c.requires.whole c.requires.live.0 c.requires.live.1),
    )
