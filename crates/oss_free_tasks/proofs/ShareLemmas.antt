-- What is left of open tasks together falls with each act of the first of them.
use Rattle.std.proofs.Common.{◌≡◌, ◌≢◌, ℕ, ◌+◌, ◌<◌, ap, List, [], ◌∷◌, ◌++◌, arith, false}
use Rattle.oss_model.specs.Bodies.{Body, Frame, IsHalt, Order, Program, Stack, stack_from}
use Rattle.oss_model.specs.Bodies.Act.{Created}
use Rattle.oss_model.specs.Moves.{act_now, new_task}
use Rattle.oss_model.specs.Potential.{potential, share, shares, stack_share}
use Rattle.oss_model.specs.Termination.{IsLively}
use Rattle.oss_model.proofs.PotentialLemmas.{body_falls, creation_falls}
use Rattle.oss_free_tasks.specs.OpenTasks.{answered, whole_task}

module _ {S : Type 0} {P : Program S} (lively : IsLively P) where
  shares_parts : (inner : List (Frame S)) (base : Frame S) (older : List (Frame S)) → shares lively (inner ++ (base ∷ older)) ≡ (share lively base + shares lively inner) + shares lively older
  unfolding shares
  shares_parts [] base older = omega arith
  shares_parts (f ∷ fs) base older = let r = shares_parts fs base older in omega (arith, r)

  body_share : (b : Body S) (base : Frame S) (inner : List (Frame S)) → stack_from P b.start b.found ≡ record { base = base; inner = inner; ended = false } → potential lively b ≡ share lively base + shares lively inner
  unfolding potential stack_share
  body_share b base inner e = ap (λ (s : Stack S). stack_share lively s.base s.inner s.ended) e

  -- what is left of the body that runs and of those that wait for it
  pub open_share : (b : Body S) (base : Frame S) (inner older tasks : List (Frame S)) → stack_from P b.start b.found ≡ record { base = base; inner = inner; ended = false } → tasks ≡ inner ++ (base ∷ older)
      → shares lively tasks ≡ potential lively b + shares lively older
  open_share b base inner older tasks e p =
      let a = ap (λ (ts : List (Frame S)). shares lively ts) p in
      let c = shares_parts inner base older in
      let d = body_share b base inner e in
      omega (arith, a, c, d)

  -- the body goes on
  pub on_less : (b : Body S) (v : ℕ) (older before tasks : List (Frame S)) → (IsHalt (act_now P b) → ⊥) → ((o : Order S) → act_now P b ≢ Created o false)
      → shares lively before ≡ potential lively b + shares lively older → shares lively tasks ≡ potential lively (answered v b) + shares lively older → shares lively tasks < shares lively before
  on_less b v older before tasks g n e k = let l = body_falls P lively (whole_task b) v g n in omega (arith, l, e, k)

  -- it has ended
  pub end_less : (b : Body S) (older before : List (Frame S)) → (IsHalt (act_now P b) → ⊥) → ((o : Order S) → act_now P b ≢ Created o false)
      → shares lively before ≡ potential lively b + shares lively older → shares lively older < shares lively before
  end_less b older before g n e = let l = body_falls P lively (whole_task b) 0 g n in omega (arith, l, e)

  -- it creates a task
  pub down_less : (b : Body S) (v : ℕ) (o : Order S) (child creator : Frame S) (older before : List (Frame S)) → act_now P b ≡ Created o false
      → shares lively before ≡ potential lively b + shares lively older
      → stack_from P (new_task P b o).body.start [] ≡ record { base = child; inner = []; ended = false } → stack_from P b.start (v ∷ b.found) ≡ record { base = creator; inner = []; ended = false }
      → shares lively (child ∷ creator ∷ older) < shares lively before
  unfolding shares
  down_less b v o child creator older before a e k h =
      let l = creation_falls P lively (whole_task b) v o a in
      let x = body_share (new_task P b o).body child [] k in
      let y = body_share (answered v b) creator [] h in
      omega (arith, l, x, y, e)
