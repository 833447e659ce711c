use Rattle.std.proofs.Common.{ℕ, ◌+◌, ◌*◌, refl, arith}
use Rattle.oss_word_net.proofs.FillLemmas.{opens}
use Rattle.oss_word_net.specs.Plays.{Opens}
use Rattle.oss_word_net.proofs.TableLemmas.{allow_store}
use Rattle.oss_word_net.proofs.steps.open_list.Goals as goal

pub store-requires : goal.store-requires
store-requires c =
    let n : ℕ = c.args.words.now.key in
    let d = c.args.words.now.table_id.slots in
    let id = c.args.seat.now.id in
    let me = c.args.seat.now.me in
    let s = me.0 in
    let w = c.requires.on.words in
    let i = c.state_place.ensures in
    let l = c.requires.inside in (
      c.requires.on.table,
      omega (arith, i, w, l),
      allow_store Opens n d id c.state_place.result (1 + 2 * c.args.entry) 39 39 me c.requires.on.bare i refl (opens n id s c.args.entry c.args._info.now c.requires.may c.requires.main.0 c.requires.main.1 c.requires.own.0 c.requires.own.1 (λ q. let z = c.requires.main.2 in omega (arith, q, z))),
    )
