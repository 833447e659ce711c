use Rattle.std.proofs.Common.{ℕ, ◌+◌, ◌*◌, refl, arith}
use Rattle.oss_word_net.proofs.GiveLemmas.{gives}
use Rattle.oss_word_net.specs.Plays.{Gives}
use Rattle.oss_word_net.proofs.TableLemmas.{allow_add}
use Rattle.oss_word_net.proofs.steps.give_whole.Goals as goal

pub fetch_add-requires : goal.fetch_add-requires
fetch_add-requires c =
    let n : ℕ = c.args.words.now.key in
    let d = c.args.words.now.table_id.slots in
    let id = c.args.seat.now.id in
    let me = c.args.seat.now.me in
    let s = me.0 in
    let w = c.requires.on.words in
    let i = c.state_place.ensures in
    let l = c.requires.inside in (
      c.requires.on.table,
      omega (arith, i, w, l),
      allow_add Gives n d id c.state_place.result (1 + 2 * c.args.entry) 24 24 me c.requires.on.bare i refl (gives n id s c.args.entry c.requires.may c.args._info.now c.requires.told c.requires.childless),
    )
