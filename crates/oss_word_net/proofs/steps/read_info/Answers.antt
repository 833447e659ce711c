use Rattle.std.proofs.Common.{ℕ, ◌+◌, ◌*◌, arith}
use Rattle.oss_word_net.proofs.ReadLemmas.{informs}
use Rattle.oss_word_net.specs.Plays.{Informs}
use Rattle.oss_word_net.proofs.TableLemmas.{allow}
use Rattle.oss_word_net.proofs.steps.read_info.Goals as goal

pub load-requires : goal.load-requires
load-requires c =
    let n : ℕ = c.args.words.now.key in
    let d = c.args.words.now.table_id.slots in
    let id = c.args.seat.now.id in
    let me = c.args.seat.now.me in
    let s = me.0 in
    let w = c.requires.on.words in
    let i = c.info_place.ensures in
    let l = c.requires.inside in (
      c.requires.on.table,
      omega (arith, i, w, l),
      allow Informs n d id c.info_place.result (2 + 2 * c.args.entry) 0 0 me (λ x. x) c.requires.on.bare i (informs n id s c.args.entry c.requires.hangs),
    )
