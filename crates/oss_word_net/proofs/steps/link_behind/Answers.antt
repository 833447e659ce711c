use Rattle.std.proofs.Common.{ℕ, ◌+◌, ◌*◌, refl, ap, ◌∙◌, arith}
use Rattle.oss_word_net.proofs.LinkLemmas.{follows}
use Rattle.oss_words.specs.Steps.{no_flags}
use Rattle.oss_words.specs.Net.{after}
use Rattle.oss_word_net.specs.Moves.{linked_at, next_mask}
use Rattle.oss_word_net.specs.Plays.{Follows}
use Rattle.oss_word_net.proofs.TableLemmas.{allow_add}
use Rattle.oss_word_net.proofs.steps.link_behind.Goals as goal

pub fetch_add-requires : goal.fetch_add-requires
fetch_add-requires c =
    let n : ℕ = c.args.words.now.key in
    let d = c.args.words.now.table_id.slots in
    let id = c.args.seat.now.id in
    let me = c.args.seat.now.me in
    let s = me.0 in
    let w = c.requires.on.words in
    let i = c.state_place.ensures in
    let l = c.requires.inside.0 in (
      c.requires.on.table,
      (let b = c.requires.how.before in omega (arith, i, w, l, b)),
      allow_add Follows n d id c.state_place.result (1 + 2 * c.args.sibling) c.mask_of_next.result (next_mask c.args.entry c.args.before.now.mode c.args.info.now.mode) me c.requires.on.bare i c.mask_of_next.ensures (follows n id s c.args.entry no_flags c.args.info.now c.requires.may c.args.sibling c.args.before.now c.requires.how refl),
    )

pub returns-clause-known : goal.returns-clause-known
returns-clause-known c =
    c.fetch_add.ensures.2.3 c.args.entry c.args.sibling c.args.info.now c.args.before.now no_flags c.state_place.ensures c.requires.may.filling c.requires.how.told
    ∙ ap (λ (x : ℕ). linked_at c.args.entry c.args.info.now (after c.args.sibling) c.args.sibling c.args.before.now x c.fetch_add.result c.args.seat.now.me.0.known) c.mask_of_next.ensures
