-- An act of a task: what of the core stands for the task behind it.
use Rattle.std.proofs.Common.{◌≡◌, ℕ, refl, sym, subst, ap, ◌∙◌, List, ◌∷◌, Bool, true, false, Some, length-set}
use Rattle.std.specs.Prelude.{slice_get, slice_set}
use Rattle.oss_model.specs.Order.{written}
use Rattle.oss_model.specs.Bodies.{Order, Start, Act, Body, IsHalt}
use Rattle.oss_model.specs.Bodies.Act.{Created}
use Rattle.oss_model.specs.Machine.{Task, State}
use Rattle.oss_model.specs.Moves.{act_now, is_ended, found_by, after_answer, CanStep}
use Rattle.oss_model.proofs.TreeLemmas.{over_stops}
use Rattle.oss_code.specs.declared.code.CodeParts.{CodeParts}
use Rattle.oss_machine.specs.Asks.{meant_order}
use Rattle.oss_machine.specs.Frames.{CodeScript}
use Rattle.oss_machine.specs.Machines.{asks}
use Rattle.oss_body.specs.declared.act.Act.{Act as KeptAct}
use Rattle.oss_body.specs.declared.act.Act.TheVariants as acts
use Rattle.oss_body.specs.Acts.{act_seen, answer_to, creates}
use Rattle.oss_body.specs.Relation.{IsBody}
use Rattle.oss_tree.specs.Tasks.{HasPoint}
use Rattle.oss_tree.proofs.ListLemmas.{get_set_other, get_set_same}
use Rattle.oss_kept_tasks.specs.declared.held.Held.{Held}
use Rattle.oss_core.specs.Kept.{IsCore, Kept, own}
use Rattle.oss_core.specs.Changes.{GoesOn, found_in}
use Rattle.oss_core.specs.Moving as moving
use Rattle.oss_core.specs.Moving.{AreSound, IsAdvanced}
use Rattle.oss_core.proofs.CoreLemmas.{body_at, held_at}
use Rattle.oss_core.proofs.KeepLemmas.{Changed}

-- an act that is seen as the creation of a task that is not included creates a task
pub created_is : (act : KeptAct) (o : Order CodeScript) → act_seen act ≡ Created o false → creates act ≡ true
created_is (acts.Create creation true) o e = cc
created_is (acts.Create creation false) o e = refl
created_is _ o e = cc

-- the order of the task that an act creates
pub created_order : (act : KeptAct) → creates act ≡ true → (o : Order CodeScript) × (act_seen act ≡ Created o false)
created_order (acts.Create creation false) e = (meant_order creation.order, refl)
created_order (acts.Create creation true) e = absurd cc
created_order _ e = absurd cc

-- a creation finds nothing
pub finds_nothing : (act : KeptAct) (cells : List ℕ) → creates act ≡ true → 0 ≡ found_in act cells
finds_nothing (acts.Load c) cells e = absurd cc
finds_nothing _ cells e = refl

-- what an act finds is its answer
pub answered : (act : KeptAct) (cells : List ℕ) → answer_to (act_seen act) (found_in act cells) ≡ found_by (act_seen act) cells
answered (acts.Load c) cells = refl
answered _ cells = refl

-- the answer to an act that finds this is that
pub answered_by : (a : Act CodeScript) (cells : List ℕ) → moving.answer_to a (found_by a cells) ≡ found_by a cells
answered_by (Act.Load c) cells = refl
answered_by _ cells = refl

module _ (code : CodeParts) (main : Start CodeScript) (first : List ℕ) (old : Kept) (s : State CodeScript) (core : IsCore code main first old s) (v : ℕ) (p : List ℕ) (t : Task CodeScript) (point : HasPoint old.tree.tasks v (written p))
    (can : CanStep (asks code) s p t) where
  -- a task that may act has not ended
  pub running : is_ended (asks code) t.body ≡ false
  running = go (is_ended (asks code) t.body) refl
    where
      go : (b : Bool) → is_ended (asks code) t.body ≡ b → is_ended (asks code) t.body ≡ false
      go true e = absurd (can.goes (subst IsHalt (sym (over_stops (asks code) t.body.start t.body.found e)) tt))
      go false e = e

  -- what it finds
  abbrev pub found : ℕ
  found = found_by (act_now (asks code) t.body) s.cells

  -- the body behind the act
  abbrev pub next : Body CodeScript
  next = (after_answer found t).body

  -- all bodies behind the act
  abbrev pub bodies : List (Body CodeScript)
  bodies = slice_set core.bodies v next

  -- one body is another now
  pub bodies_changed : Changed core.bodies bodies v next
  bodies_changed = record {
    now = get_set_same core.bodies v t.body next (body_at code main first old s core v p t point can.at_);
    others = λ w n. get_set_other core.bodies v w next n;
  }

  -- it has gone on by the act
  pub advanced : IsAdvanced (asks code) own (λ b. Unit {0}) found core.bodies bodies v
  advanced = record {
    before = t.body;
    after = next;
    was = body_at code main first old s core v p t point can.at_;
    is = bodies_changed.now;
    of_code = tt;
    body_is = ap (λ (n : ℕ). (after_answer n t).body) (sym (answered_by (act_now (asks code) t.body) s.cells));
    others = bodies_changed.others;
    size = length-set core.bodies v next;
  }

  module _ (act : KeptAct) (before after : Held) (was : slice_get old.tasks v ≡ Some before) (loaded : ℕ) (goes : GoesOn code act loaded before after) where
    -- the act that is kept is the act of the body
    pub act_is : act_seen act ≡ act_now (asks code) t.body
    act_is =
        let h = (held_at code main first old s core v p t point can.at_ before was).body_is in
        ap act_seen (sym goes.act_is) ∙ h.act (h.ended ∙ running)

    -- the body that is kept behind the act is that of the task behind it
    pub body_goes : loaded ≡ found_in act old.cells → IsBody code t.body.start (found ∷ t.body.found) after.body
    body_goes l =
        let h = (held_at code main first old s core v p t point can.at_ before was).body_is in
        let e : answer_to (act_seen act) loaded ≡ found
        = ap (λ (n : ℕ). answer_to (act_seen act) n) l ∙ answered act old.cells ∙ ap (λ (a : Act CodeScript). found_by a old.cells) act_is ∙ ap (λ (cs : List ℕ). found_by (act_now (asks code) t.body) cs) (sym core.stands.cells_are) in
        subst (λ (n : ℕ). IsBody code t.body.start (n ∷ t.body.found) after.body) e (goes.body t.body.start t.body.found h)
