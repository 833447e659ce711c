-- What is left of a kept body is what is left of the body, so it falls with each act.
use Rattle.std.proofs.Common.{◌≡◌, ◌≢◌, ℕ, ◌+◌, ◌<◌, refl, sym, ap, ◌∙◌, List, [], ◌∷◌, ◌++◌, arith, Bool, true, false}
use Rattle.oss_model.specs.Bodies.{Body, Frame, IsHalt, Order, stack_from, top_frame}
use Rattle.oss_model.specs.Bodies.Act.{Created}
use Rattle.oss_model.specs.Machine.{Task}
use Rattle.oss_model.specs.Moves.{act_now, after_answer, new_task}
use Rattle.oss_model.specs.Potential.{potential, share, shares, stack_share}
use Rattle.oss_model.proofs.PotentialLemmas.{body_falls, creation_falls}
use Rattle.oss_code.specs.declared.code.CodeParts.{CodeParts}
use Rattle.oss_machine.specs.Frames.{CodeScript}
use Rattle.oss_machine.specs.Machines.{asks}
use Rattle.oss_machine.proofs.LiveTheorem.{lively}
use Rattle.oss_body.specs.declared.body.Body.{Body as Kept}
use Rattle.oss_body.specs.Places.{Framed as KeptFrame}
use Rattle.oss_body.specs.declared.tasks.Tasks.{Tasks}
use Rattle.oss_body.specs.Kept.{kept}
use Rattle.oss_body.specs.Left.{body_left, kept_share, kept_shares}
use Rattle.oss_body.specs.Relation.{IsBody}
use Rattle.oss_body.specs.Stacks.{all_of, rest_of}

shares_last : (code : CodeParts) (fs : List KeptFrame) (f : KeptFrame) → kept_shares code (fs ++ f ∷ []) ≡ kept_share code f + kept_shares code fs
shares_last code [] f = omega arith
shares_last code (x ∷ fs) f = let r = shares_last code fs f in omega (arith, r)

share_kept : (code : CodeParts) (f : Frame CodeScript) → share (lively code) f ≡ kept_share code (kept code f)
unfolding share lively
share_kept code f = refl

all_shares : (code : CodeParts) (base : Frame CodeScript) (fs : List (Frame CodeScript)) → kept_shares code (all_of code base fs) ≡ share (lively code) base + shares (lively code) fs
unfolding shares
all_shares code base [] = let e = share_kept code base in omega (arith, e)
all_shares code base (f ∷ fs) =
    let r = all_shares code base fs in
    let l = shares_last code (all_of code base fs) (kept code f) in
    let e = share_kept code f in
    omega (arith, r, l, e)

stack_left : (code : CodeParts) (base : Frame CodeScript) (fs : List (Frame CodeScript)) → kept_share code (kept code (top_frame base fs)) + kept_shares code (rest_of code base fs) ≡ share (lively code) base + shares (lively code) fs
unfolding shares
stack_left code base [] = let e = share_kept code base in omega (arith, e)
stack_left code base (f ∷ fs) = let r = all_shares code base fs in let e = share_kept code f in omega (arith, r, e)

-- what is left of a kept body is what is left of the body
pub left_is : (code : CodeParts) (b : Body CodeScript) (k : Kept) → IsBody code b.start b.found k → body_left code k ≡ potential (lively code) b
unfolding potential stack_share
left_is code b k i = go k.tasks.ended refl
  where
    over : k.tasks.ended ≡ true → (stack_from (asks code) b.start b.found).ended ≡ true
    over e = sym i.ended ∙ e

    running : k.tasks.ended ≡ false → (stack_from (asks code) b.start b.found).ended ≡ false
    running e = sym i.ended ∙ e

    go : (t : Bool) → k.tasks.ended ≡ t → body_left code k ≡ stack_share (lively code) (stack_from (asks code) b.start b.found).base (stack_from (asks code) b.start b.found).inner (stack_from (asks code) b.start b.found).ended
    go true e = rw (e, over e) refl
    go false e = rw (e, running e) (ap (λ (t : Tasks). kept_share code t.top + kept_shares code t.below) (i.tasks e) ∙ stack_left code (stack_from (asks code) b.start b.found).base (stack_from (asks code) b.start b.found).inner)

-- it falls with each act of the body but the creation of a task
pub left_falls : (code : CodeParts) (t : Task CodeScript) (v : ℕ) (before after : Kept) → IsBody code t.body.start t.body.found before → IsBody code t.body.start (v ∷ t.body.found) after
    → (IsHalt (act_now (asks code) t.body) → ⊥) → ((o : Order CodeScript) → act_now (asks code) t.body ≢ Created o false) → body_left code after < body_left code before
left_falls code t v before after b a goes alone =
    let l = body_falls (asks code) (lively code) t v goes alone in
    let x = left_is code t.body before b in
    let y = left_is code (after_answer v t).body after a in
    omega (arith, l, x, y)

-- and behind a creation the body and that of the new task have less left together
pub left_created : (code : CodeParts) (t : Task CodeScript) (v : ℕ) (o : Order CodeScript) (before after child : Kept) → IsBody code t.body.start t.body.found before → IsBody code t.body.start (v ∷ t.body.found) after
    → IsBody code (new_task (asks code) t.body o).body.start [] child → act_now (asks code) t.body ≡ Created o false → body_left code after + body_left code child < body_left code before
left_created code t v o before after child b a c e =
    let l = creation_falls (asks code) (lively code) t v o e in
    let x = left_is code t.body before b in
    let y = left_is code (after_answer v t).body after a in
    let z = left_is code (new_task (asks code) t.body o).body child c in
    omega (arith, l, x, y, z)
