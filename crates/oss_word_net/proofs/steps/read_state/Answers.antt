use Rattle.std.proofs.Common.{ℕ, ◌+◌, ◌*◌, arith}
use Rattle.oss_word_net.proofs.ReadLemmas.{looks}
use Rattle.oss_word_net.specs.Plays.{Looks}
use Rattle.oss_word_net.proofs.TableLemmas.{allow}
use Rattle.oss_word_net.proofs.steps.read_state.Goals as goal

pub load-requires : goal.load-requires
load-requires c =
    let n : ℕ = c.args.words.now.key in
    let d = c.args.words.now.table_id.slots in
    let id = c.args.seat.now.id in
    let me = c.args.seat.now.me in
    let s = me.0 in
    let w = c.requires.on.words in
    let i = c.state_place.ensures in
    let l = c.requires.inside in (
      c.requires.on.table,
      omega (arith, i, w, l),
      allow Looks n d id c.state_place.result (1 + 2 * c.args.entry) 0 0 me (λ x. x) c.requires.on.bare i (looks n id s c.args.entry c.requires.live.0 c.requires.live.1 c.requires.inside),
    )
