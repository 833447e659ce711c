use Rattle.std.proofs.Common.{ℕ, ◌+◌, ◌*◌, refl, ap, ◌∙◌, arith}
use Rattle.oss_word_net.proofs.LinkLemmas.{heads}
use Rattle.oss_words.specs.Net.{first}
use Rattle.oss_word_net.specs.Moves.{linked_at, clear_alone, child_mask}
use Rattle.oss_word_net.specs.Plays.{Heads}
use Rattle.oss_word_net.proofs.TableLemmas.{allow_add}
use Rattle.oss_word_net.proofs.steps.link_below.Goals as goal

pub fetch_add-requires : goal.fetch_add-requires
fetch_add-requires c =
    let n : ℕ = c.args.words.now.key in
    let d = c.args.words.now.table_id.slots in
    let id = c.args.seat.now.id in
    let me = c.args.seat.now.me in
    let s = me.0 in
    let w = c.requires.on.words in
    let i = c.state_place.ensures in
    let l = c.requires.inside.0 in (
      c.requires.on.table,
      (let b = c.requires.may.above in omega (arith, i, w, l, b)),
      allow_add Heads n d id c.state_place.result (1 + 2 * c.args.info.now.parent) c.mask_of_child.result (child_mask c.args.entry c.args.above.now.mode c.args.info.now.mode) me c.requires.on.bare i c.mask_of_child.ensures (heads n id s c.args.entry clear_alone c.args.info.now c.requires.may c.args.above.now c.requires.how refl),
    )

pub returns-clause-known : goal.returns-clause-known
returns-clause-known c =
    c.fetch_add.ensures.2.3 c.args.entry c.args.info.now.parent c.args.info.now c.args.above.now clear_alone c.state_place.ensures c.requires.may.filling c.requires.how.told
    ∙ ap (λ (x : ℕ). linked_at c.args.entry c.args.info.now (first c.args.info.now.parent) c.args.info.now.parent c.args.above.now x c.fetch_add.result c.args.seat.now.me.0.known) c.mask_of_child.ensures
