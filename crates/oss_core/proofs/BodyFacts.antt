-- What a kept body tells of the body of the definitions that it is.
use Rattle.std.proofs.Common.{◌≡◌, ℕ, refl, sym, subst, ap, ◌∙◌, List, [], ◌∷◌, Bool, true, false, Some}
use Rattle.oss_syntax.specs.declared.access.Mode.{Mode}
use Rattle.oss_syntax.specs.declared.access.Mode.TheVariants.{Read, Write, Fold}
use Rattle.oss_syntax.specs.declared.access.Op.{Op}
use Rattle.oss_model.specs.Rights.{Right, NoRight, Released, Holds, is_released}
use Rattle.oss_model.specs.Context.{right_of}
use Rattle.oss_model.specs.Bodies.{Body as Meant, stack_from, IsHalt}
use Rattle.oss_model.specs.Moves.{act_now, is_ended}
use Rattle.oss_model.proofs.TreeLemmas.{over_stops}
use Rattle.oss_code.specs.declared.code.CodeParts.{CodeParts}
use Rattle.oss_machine.specs.Frames.{CodeScript}
use Rattle.oss_machine.specs.Machines.{asks}
use Rattle.oss_body.specs.declared.act.Act.{Act}
use Rattle.oss_body.specs.declared.act.Act.TheVariants as acts
use Rattle.oss_body.specs.declared.body.Body.{Body}
use Rattle.oss_body.specs.Acts.{act_seen, goes_on}
use Rattle.oss_body.specs.Places.{Placed}
use Rattle.oss_body.specs.Relation.{IsBody, has_begun, is_over, is_some, pending_of, released_by}
use Rattle.oss_kept_tasks.specs.declared.held.Owed.{Owed}
use Rattle.oss_kept_tasks.specs.declared.held.Owed.TheVariants as owed
use Rattle.oss_core.specs.Kept.{owed_by, owed_of}

-- an act that is no fault does not halt its body
pub goes_told : (a : Act) → goes_on a ≡ true → IsHalt (act_seen a) → ⊥
goes_told (acts.Fault kind line key) e h = cc
goes_told _ e h = h

-- and the other way
pub goes_tells : (a : Act) → (IsHalt (act_seen a) → ⊥) → goes_on a ≡ true
goes_tells (acts.Fault kind line key) f = absurd (f tt)
goes_tells _ f = refl

-- a body that has not begun has no answers
none_found : (found : List ℕ) → is_some found ≡ false → found ≡ []
none_found [] e = refl
none_found (v ∷ vs) e = cc

-- a released right
released_is : (r : Right) → is_released r ≡ true → r ≡ Released
released_is Released e = refl
released_is NoRight e = cc
released_is (Holds m strong) e = cc

-- a task that owes the cell: it is not main, has not given the cell up, and has this right to it
pub record IsOwing (p : List ℕ) (given : Bool) (r : Right) (x : Owed) : Type 0 where
  pub number : ℕ
  pub above : List ℕ
  pub path : p ≡ number ∷ above
  pub kept : given ≡ false
  pub by : owed_by r ≡ Some x

-- what is still to be given up is owed
pub owing : (p : List ℕ) (given : Bool) (r : Right) (x : Owed) → owed_of p given r ≡ Some x → IsOwing p given r x
owing [] given r x e = cc
owing (j ∷ p) true r x e = cc
owing (j ∷ p) false r x e = record { number = j; above = p; path = refl; kept = refl; by = e }

-- a right that is given up by a let
pub record IsLetRight (r : Right) : Type 0 where
  pub mode : Mode
  pub strong : Bool
  pub right : r ≡ Holds mode strong
  pub no_fold : (op : Op) → mode ≡ Fold op → strong ≡ true → ⊥

pub let_right : (r : Right) → owed_by r ≡ Some owed.Let → IsLetRight r
let_right NoRight e = cc
let_right Released e = cc
let_right (Holds (Fold op) true) e = cc
let_right (Holds (Fold op) false) e = record { mode = Fold op; strong = false; right = refl; no_fold = λ o m g. cc }
let_right (Holds Read strong) e = record { mode = Read; strong = strong; right = refl; no_fold = λ o m g. cc }
let_right (Holds Write strong) e = record { mode = Write; strong = strong; right = refl; no_fold = λ o m g. cc }

-- a right that is given up by a join
pub join_right : (r : Right) (op : Op) → owed_by r ≡ Some (owed.Join op) → r ≡ Holds (Fold op) true
join_right NoRight op e = cc
join_right Released op e = cc
join_right (Holds (Fold f) true) op e = cc
join_right (Holds (Fold f) false) op e = cc
join_right (Holds Read strong) op e = cc
join_right (Holds Write strong) op e = cc

-- a right that is not that of a strong reduction is given up by a let
pub owed_let : (m : Mode) (strong : Bool) → ((op : Op) → m ≡ Fold op → strong ≡ true → ⊥) → owed_by (Holds m strong) ≡ Some owed.Let
owed_let (Fold op) true f = absurd (f op refl refl)
owed_let (Fold op) false f = refl
owed_let Read strong f = refl
owed_let Write strong f = refl

-- what is to be given up is a right
pub owed_holds : (x : Owed) (r : Right) → owed_by r ≡ Some x → (m : Mode) × (strong : Bool) × (r ≡ Holds m strong)
owed_holds x NoRight e = cc
owed_holds x Released e = cc
owed_holds x (Holds m strong) e = (m, strong, refl)

module _ {code : CodeParts} {b : Meant CodeScript} {kept : Body} (is : IsBody code b.start b.found kept) where
  -- it has ended
  pub over_told : is_over kept ≡ true → is_ended (asks code) b ≡ true
  over_told h = sym is.ended ∙ h

  -- and the other way
  pub over_tells : is_ended (asks code) b ≡ true → is_over kept ≡ true
  over_tells h = is.ended ∙ h

  -- its next act goes on
  pub act_told : is_over kept ≡ false → goes_on (pending_of kept) ≡ true → IsHalt (act_now (asks code) b) → ⊥
  act_told r g h = goes_told kept.act g (subst IsHalt (sym (is.act r)) h)

  -- a body whose next act goes on has not ended
  pub act_running : (IsHalt (act_now (asks code) b) → ⊥) → is_over kept ≡ false
  act_running f = go (is_over kept) refl
    where
      go : (x : Bool) → is_over kept ≡ x → x ≡ false
      go false e = refl
      go true e = absurd (f (subst IsHalt (sym (over_stops (asks code) b.start b.found (over_told e))) tt))

  -- and its act is no fault
  pub act_tells : (IsHalt (act_now (asks code) b) → ⊥) → goes_on (pending_of kept) ≡ true
  act_tells f = goes_tells kept.act (λ h. f (subst IsHalt (is.act (act_running f)) h))

  -- it has not begun
  pub begun_told : b.found ≡ [] → has_begun kept ≡ false
  begun_told e = is.begun ∙ ap is_some e

  -- and the other way
  pub begun_tells : has_begun kept ≡ false → b.found ≡ []
  begun_tells e = none_found b.found (sym is.begun ∙ e)

  -- the right of its own task to the cell
  right_now : (c : ℕ) → released_by kept c ≡ is_released (right_of (stack_from (asks code) b.start b.found).base.context c)
  right_now c = ap (λ (x : Placed). is_released (right_of x.context c)) is.place

  -- its own task has released the cell
  pub released_told : (c : ℕ) → released_by kept c ≡ true → right_of (stack_from (asks code) b.start b.found).base.context c ≡ Released
  released_told c h = released_is (right_of (stack_from (asks code) b.start b.found).base.context c) (sym (right_now c) ∙ h)

  -- and the other way
  pub released_tells : (c : ℕ) → right_of (stack_from (asks code) b.start b.found).base.context c ≡ Released → released_by kept c ≡ true
  released_tells c h = right_now c ∙ ap is_released h
