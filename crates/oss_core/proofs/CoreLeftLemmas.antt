-- What is left to do for a core is what is left to do in its state, but for main's cells; so it falls with each move.
use Rattle.std.proofs.Common.{◌≡◌, ◌≢◌, ℕ, zero, suc, ◌+◌, ◌<◌, ◌≤◌, ◌⊎◌, ◌↔◌, inl, inr, refl, sym, subst, ap, ◌∙◌, arith, List, [], ◌∷◌, length, Bool, true, false, Some}
use Rattle.std.specs.Prelude.{◌==◌, ◌&&◌, ◌||◌, not, slice_get, is_some}
use Rattle.std.proofs.lemmas.Bool.Decides.{nat_tests}
use Rattle.oss_syntax.specs.declared.access.Op.{Op}
use Rattle.oss_syntax.specs.declared.access.Mode.TheVariants.{Read, Write, Fold}
use Rattle.oss_model.specs.Order.{IsIn, here, there}
use Rattle.oss_model.specs.Rights.{Right, NoRight, Released, Holds}
use Rattle.oss_model.specs.Context.{right_of}
use Rattle.oss_model.specs.Bodies.{Program, Body, Start}
use Rattle.oss_model.specs.Machine.{Task, State, At}
use Rattle.oss_model.specs.Moves.{found_by, act_now, after_answer, Moved, steps, lets, joins, opening, Reached, opens, moves}
use Rattle.oss_model.specs.Agreement.{Setting}
use Rattle.oss_model.specs.Potential.{times, one_if, potential}
use Rattle.oss_model.proofs.MoveLemmas.{which_path}
use Rattle.oss_model.proofs.SequenceLemmas.{opening_main}
use Rattle.oss_model.proofs.TreeLemmas.{at_same}
use Rattle.oss_wave_laws.specs.AtOnce.{new_from}
use Rattle.oss_wave_laws.specs.Rounds.{weighed}
use Rattle.oss_wave_laws.specs.Left.{is_held, is_given, is_owed, owed, task_left, left, AreApart, AreTasks, summed}
use Rattle.oss_wave_laws.proofs.SumLemmas.{weights_are_summed}
use Rattle.oss_ranges.specs.Cells.{value_at}
use Rattle.oss_ranges.specs.declared.piece.Piece.{Piece}
use Rattle.oss_code.specs.declared.code.CodeParts.{CodeParts}
use Rattle.oss_machine.specs.Frames.{CodeScript}
use Rattle.oss_machine.specs.Machines.{asks}
use Rattle.oss_machine.proofs.LiveTheorem.{lively}
use Rattle.oss_body.specs.Left.{body_left}
use Rattle.oss_body.proofs.LeftLemmas as bodies
use Rattle.oss_kept_tasks.specs.declared.held.Held.{Held}
use Rattle.oss_kept_tasks.specs.declared.held.Owed.{Owed}
use Rattle.oss_core.specs.CoreLeft.{cells_owed, held_left, helds_left, core_left}
use Rattle.oss_core.specs.Kept.{Kept, IsCore, IsHeld, owed_of}
use Rattle.oss_core.proofs.KeepLemmas.{some_is}
use Rattle.oss_core.proofs.TreeFacts.{core_agrees, sizes}

-- Main in a state of a run

-- a task that starts as main and has given up nothing
pub record IsWhole {S : Type 0} (main : Start S) (t : Task S) : Type 0 where
  pub start : t.body.start ≡ main
  pub given : t.given ≡ []

module _ {S : Type 0} (P : Program S) (main : Start S) (cells : List ℕ) (setting : Setting main cells) where
  no_join : (c : ℕ) (op : Op) → right_of main.context c ≡ Holds (Fold op) true → ⊥
  no_join c op e = let f : Fold op ≡ Write = setting.writes c (Fold op) true e in absurd cc

  pub main_whole : {s : State S} → Reached P main cells s → (t : Task S) → At s [] t → IsWhole main t
  main_whole opens t h =
      let e : t ≡ new_from main = at_same (opening main cells) [] t (new_from main) h (opening_main main cells setting.starts.path) in
      record { start = ap (λ (x : Task S). x.body.start) e; given = ap (λ (x : Task S). x.given) e }
  main_whole (moves {s = s} {n = n} r m) t h = by_move m (λ u k. main_whole r u k)
    where
      by_move : Moved P s n → ((u : Task S) → At s [] u → IsWhole main u) → IsWhole main t
      by_move (steps {p = p} {t = u} can a) f = go (which_path [] p)
        where
          v : ℕ
          v = found_by (act_now P u.body) s.cells

          go : ([] ≡ p) ⊎ ([] ≢ p) → IsWhole main t
          go (inl e) =
              let w = f u (subst (λ (q : List ℕ). At s q u) (sym e) can.at_) in
              let k : t ≡ after_answer v u = at_same n [] t (after_answer v u) h (subst (λ (q : List ℕ). At n q (after_answer v u)) (sym e) a.tasks.own) in
              record { start = ap (λ (x : Task S). x.body.start) k ∙ w.start; given = ap (λ (x : Task S). x.given) k ∙ w.given }
          go (inr ne) = f t (sym (a.tasks.others [] ne (λ o e g. cc)) ∙ h)
      by_move (lets {p = p} can a) f = f t (sym (a.tasks.others [] (λ e. can.not_main (sym e))) ∙ h)
      by_move (joins {p = p} {c = c} {op = op} {t = u} can a) f = go (which_path [] p)
        where
          go : ([] ≡ p) ⊎ ([] ≢ p) → IsWhole main t
          go (inl e) =
              let w = f u (subst (λ (q : List ℕ). At s q u) (sym e) can.at_) in
              absurd (no_join c op (subst (λ (b : Start S). right_of b.context c ≡ Holds (Fold op) true) w.start can.right))
          go (inr ne) = f t (sym (a.tasks.others [] ne) ∙ h)

-- Cells that are owed

given_is : (xs : List ℕ) (c : ℕ) → is_given xs c ≡ true → IsIn c xs
given_is [] c e = absurd cc
given_is (x ∷ xs) c e = go (x == c) refl (λ k. given_is xs c k)
  where
    go : (b : Bool) → (x == c) ≡ b → (is_given xs c ≡ true → IsIn c xs) → IsIn c (x ∷ xs)
    go true k f = let q : x ≡ c = grind (arith, nat_tests, k) in subst (λ (y : ℕ). IsIn y (x ∷ xs)) q here
    go false k f = there (f (rw k at e))

is_given_in : (c : ℕ) (xs : List ℕ) → IsIn c xs → is_given xs c ≡ true
is_given_in c [] h = elim h [ ]
is_given_in c (x ∷ xs) here = let e : (c == c) ≡ true = grind (arith, nat_tests) in rw e refl
is_given_in c (x ∷ xs) (there h) = go (x == c) (is_given_in c xs h)
  where
    go : (b : Bool) → is_given xs c ≡ true → (b || is_given xs c) ≡ true
    go true e = refl
    go false e = e

both_true : (a b : Bool) → (a ≡ true → b ≡ true) → (b ≡ true → a ≡ true) → a ≡ b
both_true true b f g = sym (f refl)
both_true false true f g = g refl
both_true false false f g = refl

-- a task but main owes what it has a right to and has not given up
still_owed : (path : List ℕ) (given : Bool) (r : Right) → path ≢ [] → (is_held r && not given) ≡ is_some (owed_of path given r)
still_owed [] given r ne = absurd (ne refl)
still_owed (k ∷ p) true NoRight ne = refl
still_owed (k ∷ p) true Released ne = refl
still_owed (k ∷ p) true (Holds mode strong) ne = refl
still_owed (k ∷ p) false NoRight ne = refl
still_owed (k ∷ p) false Released ne = refl
still_owed (k ∷ p) false (Holds Read strong) ne = refl
still_owed (k ∷ p) false (Holds Write strong) ne = refl
still_owed (k ∷ p) false (Holds (Fold op) true) ne = refl
still_owed (k ∷ p) false (Holds (Fold op) false) ne = refl

module _ (pieces : List (Piece Owed)) where
  -- cells are counted alike
  same_owed : (t : Task CodeScript) (n : ℕ) → ((c : ℕ) → is_owed t c ≡ is_some (value_at pieces c)) → owed t n ≡ cells_owed pieces n
  unfolding owed cells_owed
  same_owed t zero h = refl
  same_owed t (suc n) h = ap (λ (b : Bool). one_if b + owed t n) (h n) ∙ ap (λ (k : ℕ). one_if (is_some (value_at pieces n)) + k) (same_owed t n h)

  none_owed : (n : ℕ) → ((c : ℕ) → is_some (value_at pieces c) ≡ false) → cells_owed pieces n ≡ 0
  unfolding cells_owed one_if
  none_owed zero h = refl
  none_owed (suc n) h = let r = none_owed n h in let e : one_if (is_some (value_at pieces n)) ≡ 0 = rw (h n) refl in omega (arith, r, e)

-- what a task owes hangs on its start and on what it has given up
owed_whole : {S : Type 0} (t u : Task S) (n : ℕ) → t.body.start ≡ u.body.start → t.given ≡ u.given → owed t n ≡ owed u n
unfolding owed
owed_whole t u zero e f = refl
owed_whole {S = S} t u (suc n) e f =
    let a : is_owed t n ≡ is_owed u n = ap (λ (b : Start S). is_held (right_of b.context n) && not (is_given t.given n)) e ∙ ap (λ (xs : List ℕ). is_held (right_of u.body.start.context n) && not (is_given xs n)) f in
    ap (λ (b : Bool). one_if b + owed t n) a ∙ ap (λ (k : ℕ). one_if (is_owed u n) + k) (owed_whole t u n e f)

-- The tasks of a core

module _ {code : CodeParts} {main : Start CodeScript} {first : List ℕ} {k : Kept} {s : State CodeScript} (core : IsCore code main first k s) where
  -- the task of the state with this number, its body, and what is kept of it
  record IsTask (v : ℕ) (b : Body CodeScript) (held : Held) (t : Task CodeScript) : Type 0 where
    pub is : slice_get core.bodies v ≡ Some b
    pub at_ : At s b.start.path t
    pub body : t.body ≡ b
    pub given : (c : ℕ) → (IsIn c t.given ↔ k.seen.given v c ≡ true)
    pub is_held : IsHeld code (k.seen.given v) b held

  -- tasks with numbers one after the other
  data AreListed : ℕ → List (Body CodeScript) → List Held → List (Task CodeScript) → Type 0 where
    no_more : {v : ℕ} → AreListed v [] [] []
    one_more : {v : ℕ} {b : Body CodeScript} {held : Held} {t : Task CodeScript} {bs : List (Body CodeScript)} {hs : List Held} {ts : List (Task CodeScript)} → IsTask v b held t → AreListed (suc v) bs hs ts
        → AreListed v (b ∷ bs) (held ∷ hs) (t ∷ ts)

  list_from : (bs : List (Body CodeScript)) (hs : List Held) (v : ℕ) → length hs ≡ length bs → ((i : ℕ) (b : Body CodeScript) → slice_get bs i ≡ Some b → slice_get core.bodies (i + v) ≡ Some b)
      → ((i : ℕ) (h : Held) → slice_get hs i ≡ Some h → slice_get k.tasks (i + v) ≡ Some h) → (ts : List (Task CodeScript)) × AreListed v bs hs ts
  list_from [] [] v e f g = ([], no_more)
  list_from [] (h ∷ hs) v e f g = absurd cc
  list_from (b ∷ bs) [] v e f g = absurd cc
  list_from (b ∷ bs) (h ∷ hs) v e f g =
      let is : slice_get core.bodies v ≡ Some b = subst (λ (j : ℕ). slice_get core.bodies j ≡ Some b) zero_plus (f zero b refl) in
      let its : slice_get k.tasks v ≡ Some h = subst (λ (j : ℕ). slice_get k.tasks j ≡ Some h) zero_plus (g zero h refl) in
      let r = core.stands.there v b is in
      let q = list_from bs hs (suc v) one_less (λ i c x. subst (λ (j : ℕ). slice_get core.bodies j ≡ Some c) (on i) (f (suc i) c x)) (λ i c x. subst (λ (j : ℕ). slice_get k.tasks j ≡ Some c) (on i) (g (suc i) c x)) in
      (r.0 ∷ q.0, one_more (record { is = is; at_ = r.1; body = r.2; given = r.3; is_held = core.held.each v b h is its }) q.1)
    where
      zero_plus : zero + v ≡ v
      zero_plus = omega arith

      on : (i : ℕ) → suc i + v ≡ i + suc v
      on i = omega arith

      one_less : length hs ≡ length bs
      one_less = omega (arith, e)

  record Found (v : ℕ) (t : Task CodeScript) : Type 0 where
    pub number : ℕ
    pub body : Body CodeScript
    pub held : Held
    pub from : v ≤ number
    pub is_task : IsTask number body held t

  in_list : {v : ℕ} {bs : List (Body CodeScript)} {hs : List Held} {ts : List (Task CodeScript)} → AreListed v bs hs ts → (t : Task CodeScript) → IsIn t ts → Found v t
  in_list no_more t i = elim i [ ]
  in_list (one_more {v = v} {b = b} {held = h} is rest) t here = record { number = v; body = b; held = h; from = omega arith; is_task = is }
  in_list (one_more {v = v} is rest) t (there i) = let a = in_list rest t i in record { number = a.number; body = a.body; held = a.held; from = let l = a.from in omega (arith, l); is_task = a.is_task }

  at_index : {v : ℕ} {bs : List (Body CodeScript)} {hs : List Held} {ts : List (Task CodeScript)} → AreListed v bs hs ts → (i : ℕ) (b : Body CodeScript) → slice_get bs i ≡ Some b → (t : Task CodeScript) × IsIn t ts × At s b.start.path t
  at_index no_more i b e = absurd cc
  at_index (one_more {t = t} is rest) zero b e = (t, here, subst (λ (x : Body CodeScript). At s x.start.path t) (some_is e) is.at_)
  at_index (one_more is rest) (suc i) b e = let a = at_index rest i b e in (a.0, there a.1, a.2)

  path_same : {v : ℕ} {b : Body CodeScript} {held : Held} {t : Task CodeScript} → IsTask v b held t → t.body.start.path ≡ b.start.path
  path_same is = ap (λ (x : Body CodeScript). x.start.path) is.body

  apart : {v : ℕ} {bs : List (Body CodeScript)} {hs : List Held} {ts : List (Task CodeScript)} → AreListed v bs hs ts → AreApart ts
  apart no_more = tt
  apart (one_more {v = v} {b = b} {t = t} {ts = ts} is rest) = (different, apart rest)
    where
      different : (u : Task CodeScript) → IsIn u ts → u.body.start.path ≢ t.body.start.path
      different u i e =
          let a = in_list rest u i in
          let l = a.from in
          let n : v ≡ a.number = core.sound.tasks.one_number v a.number b a.body is.is a.is_task.is (sym (path_same is) ∙ (sym e ∙ path_same a.is_task)) in
          absurd (omega (arith, l, n))

  are_tasks : {ts : List (Task CodeScript)} → AreListed zero core.bodies k.tasks ts → AreTasks s ts
  are_tasks {ts = ts} list = record { all = all; only = only; once = apart list }
    where
      all : (p : List ℕ) (t : Task CodeScript) → At s p t → IsIn t ts
      all p t at_ =
          let b = core.stands.back p t at_ in
          let a = at_index list b.0 b.1.one b.1.is in
          subst (λ (x : Task CodeScript). IsIn x ts) (at_same s p a.0 t (subst (λ (q : List ℕ). At s q a.0) b.1.path a.2) at_) a.1

      only : (t : Task CodeScript) → IsIn t ts → At s t.body.start.path t
      only t i = let a = in_list list t i in subst (λ (q : List ℕ). At s q t) (sym (path_same a.is_task)) a.is_task.at_

  -- What they count for

  n : ℕ
  n = length k.cells

  not_main : {v : ℕ} {b : Body CodeScript} {held : Held} {t : Task CodeScript} → 0 < v → IsTask v b held t → b.start.path ≢ []
  not_main {v = v} {b = b} l is e =
      let m = core.sound.tasks.main in
      let z : 0 ≡ v = core.sound.tasks.one_number 0 v m.one b m.is is.is (m.path ∙ sym e) in
      absurd (omega (arith, l, z))

  body_same : {v : ℕ} {b : Body CodeScript} {held : Held} {t : Task CodeScript} → IsTask v b held t → potential (lively code) t.body ≡ body_left code held.body
  body_same {b = b} {held = held} is = ap (λ (x : Body CodeScript). potential (lively code) x) is.body ∙ sym (bodies.left_is code b held.body is.is_held.body_is)

  owes_same : {v : ℕ} {b : Body CodeScript} {held : Held} {t : Task CodeScript} → 0 < v → IsTask v b held t → (c : ℕ) → is_owed t c ≡ is_some (value_at held.owed.pieces c)
  owes_same {v = v} {b = b} {held = held} {t = t} l is c =
      ap (λ (x : Body CodeScript). is_held (right_of x.start.context c) && not (is_given t.given c)) is.body
      ∙ (ap (λ (x : Bool). is_held (right_of b.start.context c) && not x) given_same
      ∙ (still_owed b.start.path (k.seen.given v c) (right_of b.start.context c) (not_main l is) ∙ ap (λ x. is_some x) (sym (is.is_held.owed_is c))))
    where
      given_same : is_given t.given c ≡ k.seen.given v c
      given_same = both_true (is_given t.given c) (k.seen.given v c) (λ e. (is.given c).0 (given_is t.given c e)) (λ e. is_given_in c t.given ((is.given c).1 e))

  each_same : {v : ℕ} {b : Body CodeScript} {held : Held} {t : Task CodeScript} → 0 < v → IsTask v b held t → task_left (lively code) n t ≡ held_left code n held
  unfolding task_left held_left
  each_same {held = held} {t = t} l is =
      ap (λ (x : ℕ). times x (n + 1) + owed t n) (body_same is) ∙ ap (λ (x : ℕ). times (body_left code held.body) (n + 1) + x) (same_owed held.owed.pieces t n (owes_same l is))

  rest_same : {v : ℕ} {bs : List (Body CodeScript)} {hs : List Held} {ts : List (Task CodeScript)} → 0 < v → AreListed v bs hs ts → summed (task_left (lively code) n) ts ≡ helds_left code n hs
  unfolding summed helds_left
  rest_same l no_more = refl
  rest_same l (one_more is rest) = let e = each_same l is in let r = rest_same (omega (arith, l)) rest in omega (arith, e, r)

  main_same : {v : ℕ} {b : Body CodeScript} {held : Held} {t : Task CodeScript} → v ≡ 0 → IsTask v b held t → task_left (lively code) n t ≡ held_left code n held + owed (new_from main) n
  unfolding task_left held_left
  main_same {v = v} {b = b} {held = held} {t = t} e is =
      let w = main_whole (asks code) main first core.setting core.reached t (subst (λ (q : List ℕ). At s q t) path is.at_) in
      let o = owed_whole t (new_from main) n w.start w.given in
      let x = ap (λ (x : ℕ). times x (n + 1)) (body_same is) in
      let z = none_owed held.owed.pieces n (λ c. ap (λ x. is_some x) (is.is_held.owed_is c ∙ ap (λ (q : List ℕ). owed_of q (k.seen.given v c) (right_of b.start.context c)) path)) in
      omega (arith, o, x, z)
    where
      path : b.start.path ≡ []
      path =
          let m = core.sound.tasks.main in
          let f : slice_get core.bodies 0 ≡ Some b = subst (λ (j : ℕ). slice_get core.bodies j ≡ Some b) e is.is in
          ap (λ (x : Body CodeScript). x.start.path) (some_is (sym f ∙ m.is)) ∙ m.path

  all_same : {v : ℕ} {bs : List (Body CodeScript)} {hs : List Held} {ts : List (Task CodeScript)} → v ≡ 0 → (b : Body CodeScript) → slice_get bs 0 ≡ Some b → AreListed v bs hs ts
      → summed (task_left (lively code) n) ts ≡ helds_left code n hs + owed (new_from main) n
  unfolding summed helds_left
  all_same e b f no_more = absurd cc
  all_same e b f (one_more is rest) = let m = main_same e is in let r = rest_same (omega arith) rest in omega (arith, m, r)

  -- what is left to do in the state is what is left for the core, and main's cells
  pub left_is : left (lively code) s ≡ core_left code k + owed (new_from main) (length k.cells)
  unfolding left core_left n
  left_is =
      let list = list_from core.bodies k.tasks zero core.held.size (λ i b e. subst (λ (j : ℕ). slice_get core.bodies j ≡ Some b) (plus_zero i) e) (λ i h e. subst (λ (j : ℕ). slice_get k.tasks j ≡ Some h) (plus_zero i) e) in
      let m = core.sound.tasks.main in
      weights_are_summed CodeScript s list.0 (task_left (lively code) (length s.cells)) (are_tasks list.1)
      ∙ (ap (λ (cells : List ℕ). summed (task_left (lively code) (length cells)) list.0) core.stands.cells_are ∙ all_same refl m.one m.is list.1)
    where
      plus_zero : (i : ℕ) → i ≡ i + zero
      plus_zero i = omega arith

  -- the memory is as large as at the beginning
  pub memory_size : length k.cells ≡ length first
  memory_size = ap length (sym core.stands.cells_are) ∙ (core_agrees core).size

  each_once : {v : ℕ} {bs : List (Body CodeScript)} {hs : List Held} {ts : List (Task CodeScript)} → AreListed v bs hs ts → summed (λ (t : Task CodeScript). 1) ts ≡ length hs
  unfolding summed
  each_once no_more = refl
  each_once (one_more is rest) = let r = each_once rest in omega (arith, r)

  -- the state has as many tasks as the tree
  pub tasks_counted : weighed (λ (t : Task CodeScript). 1) [] s.tasks ≡ length k.tree.tasks
  tasks_counted =
      let list = list_from core.bodies k.tasks zero core.held.size (λ i b e. subst (λ (j : ℕ). slice_get core.bodies j ≡ Some b) (on i) e) (λ i h e. subst (λ (j : ℕ). slice_get k.tasks j ≡ Some h) (on i) e) in
      weights_are_summed CodeScript s list.0 (λ (t : Task CodeScript). 1) (are_tasks list.1) ∙ each_once list.1 ∙ sym (sizes core)
    where
      on : (i : ℕ) → i ≡ i + zero
      on i = omega arith
