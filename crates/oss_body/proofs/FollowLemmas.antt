-- The tasks of a body behind an act, and the act that stands next.
use Rattle.std.proofs.Common.{◌≡◌, ℕ, suc, ◌<◌, refl, sym, ap, ◌∙◌, subst, List, [], ◌∷◌, ◌++◌, length, arith, Bool, true, false, nat_lt, Option, Some, None, Result}
use Rattle.std.specs.Prelude.{not, MatchOption}
use Rattle.std.specs.declared.alloc.AllocError.{AllocError}
use Rattle.std.proofs.lemmas.Bool.{lt-ltb}
use Rattle.std.proofs.lemmas.List.{length-append}
use Rattle.oss_code.specs.declared.code.CodeParts.{CodeParts}
use Rattle.oss_machine.specs.Frames.{CodeScript}
use Rattle.oss_machine.specs.Machines.{asks}
use Rattle.oss_model.specs.Bodies.{Act as MeantAct, Awaited, Created, Ended, Fault, Folded, Frame as Meant, Load, Order, Over, Printed, Releases, Stack, Store, Ticked, Waited, WaitedOn, act_of, child_frame, frame_act, frame_after, including_frame, settled_frame, stack_after, top_frame}
use Rattle.oss_model.specs.Context.{Context}
use Rattle.oss_model.specs.Rights.{Right}
use Rattle.oss_body.specs.declared.act.Act.{Act}
use Rattle.oss_body.specs.declared.act.Act.TheVariants as acts
use Rattle.oss_body.specs.declared.act.Creation.{Creation}
use Rattle.oss_body.specs.declared.tasks.Tasks.{Tasks}
use Rattle.oss_body.specs.Acts.{act_seen}
use Rattle.oss_body.specs.Following.{IsFollowing}
use Rattle.oss_body.specs.Kept.{kept}
use Rattle.oss_body.specs.Places.{Framed}
use Rattle.oss_body.specs.Stacks.{IsFollowed, all_of, including, including_parts, includes_in, is_nil, kept_stack, rest_of, stays_on}
use Rattle.oss_body.proofs.Results.{if_ok}
use Rattle.oss_body.proofs.StackLemmas.{some_task, tasks_of}

-- a body whose task that acts is this one
abbrev pub with_top : Meant CodeScript → Meant CodeScript → List (Meant CodeScript) → Stack CodeScript
with_top g base [] = record { base = g; inner = []; ended = false }
with_top g base (f ∷ fs) = record { base = base; inner = g ∷ fs; ended = false }

-- no task is below exactly where the body's own task acts
abbrev pub is_alone : List (Meant CodeScript) → Bool
is_alone [] = true
is_alone (f ∷ fs) = false

some_is : (xs : List Framed) → (xs ≡ [] → ⊥) → is_nil xs ≡ false
some_is [] h = absurd (h refl)
some_is (x ∷ xs) h = refl

pub nil_rest : (code : CodeParts) (base : Meant CodeScript) (inner : List (Meant CodeScript)) → is_nil (rest_of code base inner) ≡ is_alone inner
nil_rest code base [] = refl
nil_rest code base (f ∷ fs) = some_is (all_of code base fs) (some_task code base fs)

-- an act that leaves the task that acts the one that does
pub stack_on : (a : MeantAct CodeScript) (v : ℕ) (base : Meant CodeScript) (inner : List (Meant CodeScript)) → stays_on a (is_alone inner) ≡ true → stack_after a v base inner ≡ with_top (frame_after a v (top_frame base inner)) base inner
stack_on (Created o true) v base inner h = cc
stack_on (Created o false) v base [] h = refl
stack_on (Created o false) v base (f ∷ fs) h = cc
stack_on Ended v base inner h = cc
stack_on Ticked v base [] h = refl
stack_on Ticked v base (f ∷ fs) h = refl
stack_on (Load c) v base [] h = refl
stack_on (Load c) v base (f ∷ fs) h = refl
stack_on (Store c x) v base [] h = refl
stack_on (Store c x) v base (f ∷ fs) h = refl
stack_on (Folded c op x slot) v base [] h = refl
stack_on (Folded c op x slot) v base (f ∷ fs) h = refl
stack_on Awaited v base [] h = refl
stack_on Awaited v base (f ∷ fs) h = refl
stack_on Waited v base [] h = refl
stack_on Waited v base (f ∷ fs) h = refl
stack_on (WaitedOn named) v base [] h = refl
stack_on (WaitedOn named) v base (f ∷ fs) h = refl
stack_on (Releases clauses included) v base [] h = refl
stack_on (Releases clauses included) v base (f ∷ fs) h = refl
stack_on (Printed key text) v base [] h = refl
stack_on (Printed key text) v base (f ∷ fs) h = refl
stack_on (Fault kind line key) v base [] h = refl
stack_on (Fault kind line key) v base (f ∷ fs) h = refl
stack_on Over v base [] h = refl
stack_on Over v base (f ∷ fs) h = refl

-- tasks that have not ended
runs : (t : Tasks) → t.ended ≡ false → t.ended ≡ true → ⊥
runs t f e = cc

-- the task that acts is settled, and tells the act that stands next
with_top_followed : (code : CodeParts) (slots : ℕ → Right) (g base : Meant CodeScript) (inner : List (Meant CodeScript)) (t : Tasks) (next : Act) (included : Bool) → t ≡ tasks_of (kept code (settled_frame (asks code) g)) (rest_of code base inner) false
    → included ≡ not (is_alone inner) → act_seen next ≡ frame_act (asks code) slots included (settled_frame (asks code) g) (settled_frame (asks code) g).awaits → IsFollowed code slots (with_top g base inner) t next
unfolding act_of
with_top_followed code slots g base [] t next included e i a = record {
  over = λ o. absurd (runs t (ap (λ (x : Tasks). x.ended) e) o);
  on = λ o. e;
  act = λ o. a ∙ ap (λ (b : Bool). frame_act (asks code) slots b (settled_frame (asks code) g) (settled_frame (asks code) g).awaits) i;
}
with_top_followed code slots g base (f ∷ fs) t next included e i a = record {
  over = λ o. absurd (runs t (ap (λ (x : Tasks). x.ended) e) o);
  on = λ o. e;
  act = λ o. a ∙ ap (λ (b : Bool). frame_act (asks code) slots b (settled_frame (asks code) g) (settled_frame (asks code) g).awaits) i;
}

-- an act that leaves the task that acts the one that does
pub followed_on : (code : CodeParts) (slots : ℕ → Right) (a : MeantAct CodeScript) (v : ℕ) (s : Stack CodeScript) (old : Tasks) (top : Framed) (next : Act) (included : Bool) → old ≡ kept_stack code s → old.ended ≡ false
    → stays_on a (is_nil old.below) ≡ true → included ≡ not (is_nil old.below) → top ≡ kept code (settled_frame (asks code) (frame_after a v (top_frame s.base s.inner)))
    → act_seen next ≡ frame_act (asks code) slots included (settled_frame (asks code) (frame_after a v (top_frame s.base s.inner))) (settled_frame (asks code) (frame_after a v (top_frame s.base s.inner))).awaits
    → IsFollowed code slots (stack_after a v s.base s.inner) (tasks_of top old.below old.ended) next
followed_on code slots a v s old top next included e running stays i h acts =
    let below : old.below ≡ rest_of code s.base s.inner = ap (λ (x : Tasks). x.below) e in
    let alone : is_nil old.below ≡ is_alone s.inner = ap is_nil below ∙ nil_rest code s.base s.inner in
    let g = frame_after a v (top_frame s.base s.inner) in
    let on = stack_on a v s.base s.inner (ap (stays_on a) (sym alone) ∙ stays) in
    let t : tasks_of top old.below old.ended ≡ tasks_of (kept code (settled_frame (asks code) g)) (rest_of code s.base s.inner) false = λ j. tasks_of (h j) (below j) (running j) in
    subst (λ (x : Stack CodeScript). IsFollowed code slots x (tasks_of top old.below old.ended) next) (sym on)
    (with_top_followed code slots g s.base s.inner (tasks_of top old.below old.ended) next included t (i ∙ ap not alone) acts)

-- all tasks but the newest, and the newest
pub all_split : (code : CodeParts) (base : Meant CodeScript) (fs : List (Meant CodeScript)) → all_of code base fs ≡ rest_of code base fs ++ kept code (top_frame base fs) ∷ []
all_split code base [] = refl
all_split code base (f ∷ fs) = refl

-- a body whose task that acts is that which does
top_same : (base : Meant CodeScript) (fs : List (Meant CodeScript)) → with_top (top_frame base fs) base fs ≡ record { base = base; inner = fs; ended = false }
top_same base [] = refl
top_same base (f ∷ fs) = refl

-- lists with one more behind them that are the same
pub snoc_same : (xs ys : List Framed) (x y : Framed) → xs ++ x ∷ [] ≡ ys ++ y ∷ [] → (xs ≡ ys) × (x ≡ y)
snoc_same [] [] x y e = (refl, cc)
snoc_same [] (z ∷ zs) x y e = let n : 1 ≡ suc (length (zs ++ y ∷ [])) = ap length e in let m = length-append zs (y ∷ []) in absurd (omega arith)
snoc_same (z ∷ zs) [] x y e = let n : suc (length (zs ++ x ∷ [])) ≡ 1 = ap length e in let m = length-append zs (x ∷ []) in absurd (omega arith)
snoc_same (z ∷ zs) (w ∷ ws) x y e =
    let first : z ≡ w = cc in
    let more : zs ++ x ∷ [] ≡ ws ++ y ∷ [] = cc in
    let k = snoc_same zs ws x y more in
    ((λ j. first j ∷ k.0 j), k.1)

-- the end of an included task: the one that has included it acts next
pub followed_back : (code : CodeParts) (slots : ℕ → Right) (s : Stack CodeScript) (old : Tasks) (top : Framed) (rest : List Framed) (newest : Framed) (next : Act) (included : Bool) → old ≡ kept_stack code s → old.ended ≡ false
    → old.below ≡ rest ++ newest ∷ [] → included ≡ not (is_nil rest)
    → ((g : Meant CodeScript) → newest ≡ kept code g → (top ≡ kept code (settled_frame (asks code) g)) × (act_seen next ≡ frame_act (asks code) slots included (settled_frame (asks code) g) (settled_frame (asks code) g).awaits))
    → IsFollowed code slots (stack_after Ended 0 s.base s.inner) (tasks_of top rest old.ended) next
followed_back code slots s old top rest newest next included e running split i goes = go s.inner (ap (λ (x : Tasks). x.below) e)
  where
    go : (inner : List (Meant CodeScript)) → old.below ≡ rest_of code s.base inner → IsFollowed code slots (stack_after Ended 0 s.base inner) (tasks_of top rest old.ended) next
    go [] below = let n : length (rest ++ newest ∷ []) ≡ 0 = ap length (sym split ∙ below) in let m = length-append rest (newest ∷ []) in absurd (omega arith)
    go (f ∷ fs) below = go_on fs (sym split ∙ below ∙ all_split code s.base fs)
      where
        go_on : (fs : List (Meant CodeScript)) → rest ++ newest ∷ [] ≡ rest_of code s.base fs ++ kept code (top_frame s.base fs) ∷ [] → IsFollowed code slots (record { base = s.base; inner = fs; ended = false }) (tasks_of top rest old.ended) next
        go_on fs both =
            let same = snoc_same rest (rest_of code s.base fs) newest (kept code (top_frame s.base fs)) both in
            let k = goes (top_frame s.base fs) same.1 in
            subst (λ (x : Stack CodeScript). IsFollowed code slots x (tasks_of top rest old.ended) next) (top_same s.base fs)
            (with_top_followed code slots (top_frame s.base fs) s.base fs (tasks_of top rest old.ended) next included (λ j. tasks_of (k.0 j) (same.0 j) (running j)) (i ∙ ap not (ap is_nil same.0 ∙ nil_rest code s.base fs)) k.1)

-- the creation of an included task, which acts next
pub followed_included : (code : CodeParts) (slots : ℕ → Right) (o : Order CodeScript) (s : Stack CodeScript) (old : Tasks) (child top : Framed) (next : Act) → old ≡ kept_stack code s → old.ended ≡ false
    → child ≡ kept code (settled_frame (asks code) (child_frame (top_frame s.base s.inner) o)) → top ≡ kept code (including_frame o (top_frame s.base s.inner))
    → act_seen next ≡ frame_act (asks code) slots true (settled_frame (asks code) (child_frame (top_frame s.base s.inner) o)) (settled_frame (asks code) (child_frame (top_frame s.base s.inner) o)).awaits
    → IsFollowed code slots (including o s) (tasks_of child (old.below ++ top ∷ []) old.ended) next
unfolding act_of
followed_included code slots o s old child top next e running h k acts = go s.inner (ap (λ (x : Tasks). x.below) e) h k acts
  where
    go : (inner : List (Meant CodeScript)) → old.below ≡ rest_of code s.base inner → child ≡ kept code (settled_frame (asks code) (child_frame (top_frame s.base inner) o)) → top ≡ kept code (including_frame o (top_frame s.base inner))
        → act_seen next ≡ frame_act (asks code) slots true (settled_frame (asks code) (child_frame (top_frame s.base inner) o)) (settled_frame (asks code) (child_frame (top_frame s.base inner) o)).awaits
        → IsFollowed code slots (including_parts o s.base inner) (tasks_of child (old.below ++ top ∷ []) old.ended) next
    go [] below c t a = record {
      over = λ x. absurd (runs (tasks_of child (old.below ++ top ∷ []) old.ended) running x);
      on = λ x. (λ j. tasks_of (c j) (below j ++ t j ∷ []) (running j));
      act = λ x. a;
    }
    go (f ∷ fs) below c t a = record {
      over = λ x. absurd (runs (tasks_of child (old.below ++ top ∷ []) old.ended) running x);
      on = λ x. (λ j. tasks_of (c j) (below j ++ t j ∷ []) (running j));
      act = λ x. a;
    }

-- the newest of some tasks, and the others
pub last_split : (xs : List Framed) → 0 < length xs → (rest : List Framed) × ((last : Framed) × (xs ≡ rest ++ last ∷ []))
last_split [] some = absurd (omega arith)
last_split (x ∷ []) some = ([], (x, refl))
last_split (x ∷ y ∷ ys) some = let k = last_split (y ∷ ys) (omega arith) in (x ∷ k.0, (k.1.0, ap (λ (zs : List Framed). x ∷ zs) k.1.1))

-- what is left behind the newest one
pub popped : (r : Option Framed) (old new rest : List Framed) (last : Framed) → MatchOption r ((old ≡ []) × (new ≡ [])) (λ x. old ≡ new ++ x ∷ []) → old ≡ rest ++ last ∷ [] → new ≡ rest
popped (Some x) old new rest last h e = (snoc_same new rest x last (sym h ∙ e)).0
popped None old new rest last h e = let n : length (rest ++ last ∷ []) ≡ 0 = ap length (sym e ∙ h.0) in let m = length-append rest (last ∷ []) in absurd (omega arith)

-- there are others exactly where there is more than one
pub others_are : (xs rest : List Framed) (last : Framed) (count : ℕ) → xs ≡ rest ++ last ∷ [] → count ≡ length xs → nat_lt 1 count ≡ not (is_nil rest)
others_are xs [] last count e n = ap (nat_lt 1) (n ∙ ap length e)
others_are xs (y ∷ ys) last count e n = let m = length-append ys (last ∷ []) in let k : count ≡ suc (length (ys ++ last ∷ [])) = n ∙ ap length e in lt-ltb 1 count (omega (arith, k, m))

-- a task whose creation is included, and not for its own sake, is not alone
pub never_alone : (creation : Creation) (included : Bool) (below : List Framed) → includes_in (acts.Create creation included) (is_nil below) ≡ true → included ≡ false → below ≡ [] → ⊥
never_alone creation true below h i n = cc
never_alone creation false [] h i n = cc
never_alone creation false (x ∷ xs) h i n = cc

-- tasks that go on behind one thing do so behind another, where these who follow the one follow the other
pub following_as : (F G : CodeParts → Context → Stack CodeScript → Tasks → Act → Type 0) (code : CodeParts) (own : Context) (old new : Tasks) (point : Option (List ℕ)) (result : Result Act AllocError)
    → ((next : Act) (s : Stack CodeScript) → old ≡ kept_stack code s → F code own s new next → G code own s new next) → IsFollowing F code own old new point result → IsFollowing G code own old new point result
following_as F G code own old new point result goes is = record {
  followed = if_ok result (λ next h s e. goes next s e (h s e)) is.followed;
  passed = is.passed;
  child = is.child;
  key = is.key;
  err = is.err;
}
