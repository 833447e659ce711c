use Rattle.std.proofs.Common.{sym, ◌∙◌, ap, List, ◌∷◌, [], ◌++◌, ℕ, arith}
use Rattle.std.specs.Slots.{slots_items}
use Rattle.oss_field.proofs.ApartLemmas.{take_next}
use Rattle.oss_field.proofs.closing.move_words.Goals as goal

pub loop-place-preserved : goal.loop-place-preserved
loop-place-preserved c =
    let at = c.loop-place.invariant in
    record {
      words = c.in-Ok.ensures.items ∙ (ap (λ (z : List ℕ). z ++ c.word-word.result ∷ []) at.words ∙ sym (take_next (slots_items c.args.closed.now.words) c.loop-place.place c.word-word.result c.word-word.ensures));
      room = (let a = at.room in let b = c.push.ensures.capacity in omega (arith, a, b));
    }
