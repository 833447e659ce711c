use Rattle.std.proofs.Common.{ℕ, ◌+◌, ◌*◌, refl, arith}
use Rattle.oss_word_net.proofs.GiveLemmas.{rises}
use Rattle.oss_word_net.specs.Plays.{Rises}
use Rattle.oss_word_net.proofs.TableLemmas.{allow_add}
use Rattle.oss_word_net.proofs.steps.link_last.Goals as goal

pub fetch_add-requires : goal.fetch_add-requires
fetch_add-requires c =
    let n : ℕ = c.args.words.now.key in
    let d = c.args.words.now.table_id.slots in
    let id = c.args.seat.now.id in
    let me = c.args.seat.now.me in
    let s = me.0 in
    let w = c.requires.on.words in
    let i = c.state_place.ensures in
    let l = c.requires.inside.0 in (
      c.requires.on.table,
      omega (arith, i, w, l),
      allow_add Rises n d id c.state_place.result (1 + 2 * c.args.last) (64 + 65536 * c.args.entry) (64 + 65536 * c.args.entry) me c.requires.on.bare i refl (rises n id s c.args.entry c.args.last c.args._info.now c.requires.full c.requires.own c.requires.kin c.requires.youngest c.requires.told c.requires.live.0 c.requires.live.1),
    )
