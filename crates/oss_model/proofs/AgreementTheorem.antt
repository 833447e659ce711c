-- Each move takes a state that agrees to a state that agrees.
use Rattle.std.proofs.Common.{◌≡◌, ◌≢◌, ℕ, ◌^◌, ◌<◌, ◌≤◌, ◌⊎◌, inl, inr, refl, sym, subst, ap, ◌∙◌, List, [], ◌∷◌, length, arith, Bool, true, false, Option, Some, None, get_or, get_or-set_same, get_or-set_other, length-set}
use Rattle.oss_syntax.specs.declared.access.Mode.{Mode}
use Rattle.oss_syntax.specs.declared.access.Op.{Op}
use Rattle.oss_syntax.specs.declared.access.Op.TheVariants.{Add, And, Or, Xor}
use Rattle.oss_syntax.specs.declared.access.Mode.TheVariants.{Fold}
use Rattle.oss_syntax.specs.declared.fault.FaultKind.{FaultKind}
use Rattle.std.specs.Prelude.{slice_index, slice_set, ◌==◌, if◌then◌else◌}
use Rattle.std.proofs.lemmas.Nat.{or_lt, xor_lt, and_le_l}
use Rattle.std.proofs.lemmas.List.{get_or_past}
use Rattle.oss_model.specs.Order.{IsSuffix, IsIn}
use Rattle.oss_model.specs.Rights.{Right, Holds, Reads, Writes, Folds, touch_fault, is_fold}
use Rattle.oss_model.specs.Context.{create_fault, tick_fault, release_fault, wait_on_fault, right_of, lent_of, mark_of}
use Rattle.oss_model.specs.Bodies.{Ask, Program, Act, Frame, Start, judged_act, act_of_ask, ask_of, frame_act, stack_act, stack_from, act_of, stage_act, word_of}
use Rattle.oss_model.specs.Bodies.Act.{Created, WaitedOn, Ticked, Load, Store, Folded, Releases}
use Rattle.oss_model.specs.Machine.{Task, State, At}
use Rattle.oss_model.specs.History.{IsComparable}
use Rattle.oss_model.specs.Moves.{act_now, combine, cells_after, slot_more, slot_of, neutral_value, CanStep, Stepped, CanLet, CanJoin, GaveUp, LetGo, Joined, Moved, steps, lets, joins, opening, Reached, opens, moves}
use Rattle.oss_model.specs.Memory.{Event, Happened, Changes}
use Rattle.oss_model.specs.Sequence.{Running, Sequential}
use Rattle.oss_model.specs.Agreement.{AreWords, Setting, Compatible, Agrees}
use Rattle.oss_model.specs.Claims.{OpeningAgrees, StepAgrees, LetAgrees, JoinAgrees, EveryStateAgrees}
use Rattle.oss_model.proofs.Places.{PlacedValue}
use Rattle.oss_model.proofs.TreeLemmas.{at_same, starts_well, path_found}
use Rattle.oss_model.proofs.StageLemmas.{stage_touch}
use Rattle.oss_model.proofs.MoveLemmas.{step_made, step_started, gave_made, gave_started, gave_view, GaveUpView, own, old, MayGive, let_may, join_may}
use Rattle.oss_model.proofs.MemoryLemmas.{value_step, cells_length, change_touch, fold_mode}
use Rattle.oss_model.proofs.SequenceLemmas.{opening_at, opening_made, stands}
use Rattle.oss_model.proofs.RecallLemmas.{suffix_nil}
use Rattle.oss_model.proofs.LoadTheorem.{step_same}
use Rattle.oss_model.proofs.JoinLemmas.{gave_value, join_value}
use Rattle.oss_model.proofs.KeyOrder.{keyed_value, placed_value}

-- the program's store values are words
abbrev pub IsWordAct : {S : Type 0} → Act S → Type 0
IsWordAct (Store c v) = v < 2 ^ 64
IsWordAct (Folded c op v slot) = v < 2 ^ 64
IsWordAct _ = Unit {0}

word_is : (v : ℕ) → word_of v < 2 ^ 64
word_is v = omega arith

judged_word : {S : Type 0} (f : Frame S) (line : ℕ) (r : Option FaultKind) (a : Act S) → IsWordAct a → IsWordAct (judged_act f line r a)
judged_word f line None a h = h
judged_word f line (Some k) a h = tt

ask_word : {S : Type 0} (slots : ℕ → Right) (inc : Bool) (f : Frame S) (a : Ask S) (line : ℕ) → IsWordAct (act_of_ask slots inc f a line)
ask_word slots inc f Ask.Begin line = judged_word f line (create_fault f.context) _ tt
ask_word slots inc f Ask.Tick line = judged_word f line (tick_fault f.context) Ticked tt
ask_word slots inc f (Ask.Read c) line = judged_word f line (touch_fault ((right_of f.context) c) ((lent_of f.context) c) ((mark_of f.context) c) Reads) (Load c) tt
ask_word slots inc f (Ask.Write c v) line = judged_word f line (touch_fault ((right_of f.context) c) ((lent_of f.context) c) ((mark_of f.context) c) Writes) (Store c (word_of v)) (word_is v)
ask_word slots inc f (Ask.Fold c op v) line = judged_word f line (touch_fault ((right_of f.context) c) ((lent_of f.context) c) ((mark_of f.context) c) (Folds op)) (Folded c op (word_of v) (is_fold (slots c))) (word_is v)
ask_word slots inc f (Ask.Create o) line = judged_word f line _ (Created o f.context.final) tt
ask_word slots inc f Ask.Await line = tt
ask_word slots inc f Ask.Wait line = tt
ask_word slots inc f (Ask.WaitOn named) line = judged_word f line (wait_on_fault f.context named) (WaitedOn named) tt
ask_word slots inc f (Ask.Release cl) line = judged_word f line (release_fault f.context cl) (Releases cl inc) tt
ask_word slots inc f (Ask.Print text) line = tt
ask_word slots inc f Ask.End line = tt
ask_word slots inc f (Ask.Fails k) line = tt

frame_word : {S : Type 0} (P : Program S) (slots : ℕ → Right) (inc : Bool) (f : Frame S) (w : Bool) → IsWordAct (frame_act P slots inc f w)
frame_word P slots inc f true = tt
frame_word P slots inc f false = ask_word slots inc f (ask_of P f).ask (ask_of P f).line

stack_word : {S : Type 0} (P : Program S) (slots : ℕ → Right) (base : Frame S) (inner : List (Frame S)) (over : Bool) → IsWordAct (stack_act P slots base inner over)
stack_word P slots base inner true = tt
stack_word P slots base [] false = frame_word P slots false base base.awaits
stack_word P slots base (f ∷ fs) false = frame_word P slots true f f.awaits

stage_word : {S : Type 0} (P : Program S) (b : Start S) (past : List ℕ) → IsWordAct (stage_act P b past)
unfolding stage_act act_of
stage_word P b past = let x = stack_from P b past in stack_word P (right_of b.context) x.base x.inner x.ended

combine_word : (op : Op) (a b : ℕ) → a < 2 ^ 64 → b < 2 ^ 64 → combine op a b < 2 ^ 64
combine_word Add a b h k = omega arith
combine_word And a b h k = let l = and_le_l a b in omega arith
combine_word Or a b h k = or_lt 64 a b h k
combine_word Xor a b h k = xor_lt 64 a b h k

set_word : (cells : List ℕ) (d v c : ℕ) → v < 2 ^ 64 → AreWords cells → slice_index (slice_set cells d v) c < 2 ^ 64
set_word cells d v c h w = go (which c d)
  where
    which : (x y : ℕ) → (x ≡ y) ⊎ (x ≢ y)
    which x y = grind arith

    le_or : (m n : ℕ) → (m < n) ⊎ (n ≤ m)
    le_or m n = grind arith

    at : (c < length cells) ⊎ (length cells ≤ c) → c ≡ d → slice_index (slice_set cells d v) c < 2 ^ 64
    at (inl l) e = rw (e, get_or-set_same cells d v 0 (subst (λ (z : ℕ). z < length cells) e l)) h
    at (inr l) e = rw (get_or_past (slice_set cells d v) c 0 (let k = length-set cells d v in omega arith)) (omega arith)

    go : (c ≡ d) ⊎ (c ≢ d) → slice_index (slice_set cells d v) c < 2 ^ 64
    go (inl e) = at (le_or c (length cells)) e
    go (inr e) = rw (get_or-set_other cells d c v 0 e) (w c)

words_after : {S : Type 0} (a : Act S) (cells : List ℕ) → IsWordAct a → AreWords cells → AreWords (cells_after a cells)
words_after (Store d v) cells h w c = set_word cells d v c h w
words_after (Folded d op v false) cells h w c = set_word cells d (combine op (get_or cells d 0) v) c (combine_word op (get_or cells d 0) v (w d) h) w
words_after (Folded d op v true) cells h w c = w c
words_after _ cells h w c = w c

neutral_word : (op : Op) → neutral_value op < 2 ^ 64
neutral_word Add = omega arith
neutral_word And = omega arith
neutral_word Or = omega arith
neutral_word Xor = omega arith

slot_more_word : {S : Type 0} (a : Act S) (c : ℕ) (op : Op) (w : ℕ) → IsWordAct a → w < 2 ^ 64 → slot_more a c op w < 2 ^ 64
slot_more_word (Folded d q v true) c op w h k = go (d == c)
  where
    go : (b : Bool) → (if b then combine op w v else w) < 2 ^ 64
    go true = combine_word op w v k h
    go false = k
slot_more_word _ c op w h k = k

slot_word : {S : Type 0} (P : Program S) (b : Start S) (c : ℕ) (op : Op) (past : List ℕ) → slot_of P b c op past < 2 ^ 64
unfolding slot_of
slot_word P b c op [] = neutral_word op
slot_word P b c op (v ∷ vs) = slot_more_word (stage_act P b vs) c op (slot_of P b c op vs) (stage_word P b vs) (slot_word P b c op vs)

module _ {S : Type 0} (P : Program S) (main : Start S) (cells : List ℕ) (z : Running S) (set_ : Setting main cells) (run : Sequential P main cells z) where
  none_happened : (e : Event S) → Happened (opening main cells) e → ⊥
  none_happened e g = none (subst (λ (x : Task S). IsSuffix (e.answer ∷ e.past) x.body.found) (opening_at main cells e.start.path g.task set_.starts.path g.at_).1 g.found)
    where
      none : IsSuffix (e.answer ∷ e.past) [] → ⊥
      none h = elim h [ ]

  opening_task : (p : List ℕ) (t : Task S) → At (opening main cells) p t → t ≡ record { body = record { start = main; found = [] }; given = [] }
  opening_task p t h = (opening_at main cells p t set_.starts.path h).1

  nothing_done : (p : List ℕ) (t : Task S) (v : ℕ) (past : List ℕ) → At (opening main cells) p t → IsSuffix (v ∷ past) t.body.found → ⊥
  nothing_done p t v past h f = none (subst (λ (x : Task S). IsSuffix (v ∷ past) x.body.found) (opening_task p t h) f)
    where
      none : IsSuffix (v ∷ past) [] → ⊥
      none h = elim h [ ]

  nothing_given : (p : List ℕ) (t : Task S) (c : ℕ) → At (opening main cells) p t → IsIn c t.given → ⊥
  nothing_given p t c h f = none (subst (λ (x : Task S). IsIn c x.given) (opening_task p t h) f)
    where
      none : IsIn c [] → ⊥
      none h = elim h [ ]

  pub opening_agrees : Agrees P main cells z (opening main cells)
  opening_agrees =
      record {
        made = opening_made P main cells set_.starts.path;
        started = record {
          ready = λ p t v past h f. absurd (nothing_done p t v past h f);
          joined = λ p t c op h r g. absurd (nothing_given p t c h g);
          waited = λ p t v past h f. absurd (nothing_done p t v past h f);
          given = λ p t c h g. absurd (nothing_given p t c h g);
        };
        same = λ p u t h k. compare p u t h k;
        size = refl;
        words = set_.words;
        value = λ c l. record { list = []; sorted = tt; only = λ e i. elim i [ ]; all = λ e d. absurd (none_happened e d.happened); value = refl };
      }
    where
      compare : (p : List ℕ) (u t : Task S) → At z.state p u → At (opening main cells) p t → IsComparable u.body t.body
      compare p u t h k =
          let o = opening_at main cells p t set_.starts.path k in
          let m = (stands P main cells set_.starts z run).made in
          let e : u ≡ m.main_task = at_same z.state [] u m.main_task (subst (λ (x : List ℕ). At z.state x u) o.0 h) m.main_at in
          subst (λ (x : Task S). IsComparable u.body x.body) (sym o.1) (record { start = ap (λ (x : Task S). x.body.start) e ∙ m.main_start; found = inr (suffix_nil u.body.found) })

  pub step_agrees : (s n : State S) (p : List ℕ) (t : Task S) → Agrees P main cells z s → CanStep P s p t → Stepped P s p t n → Agrees P main cells z n
  step_agrees s n p t a can step =
      record {
        made = step_made P main s n p t _ a.made can.at_ can.goes step.tasks;
        started = step_started P main s n p t _ a.made a.started can step.tasks;
        same = step_same P main cells z s n p t set_.starts set_.memory run a.made a.started a.same (λ c l. placed_value P main s a.made cells c (a.value c l)) can step;
        size = ap (λ (x : List ℕ). length x) step.cells ∙ (cells_length (act_now P t.body) s.cells ∙ a.size);
        words = subst AreWords (sym step.cells) (words_after (act_now P t.body) s.cells (stage_word P t.body.start t.body.found) a.words);
        value = λ c l. keyed_value P main n (step_made P main s n p t _ a.made can.at_ can.goes step.tasks) cells c
            (value_step P main s n p t set_.starts a.made a.started can step (path_found s.tasks p t can.at_) cells c (let k = a.size in omega arith) (placed_value P main s a.made cells c (a.value c l)));
      }

  gave_same : (s n : State S) (p : List ℕ) (c : ℕ) (t : Task S) → Agrees P main cells z s → At s p t → MayGive P s p c t → GaveUp s p c t n → Compatible z.state n
  gave_same s n p c t a at_ may gave q u v h k = view q v (gave_view P main s n p c t a.made a.started at_ may gave q v k) u h
    where
      view : (q : List ℕ) (v : Task S) → GaveUpView s p c t q v → (u : Task S) → At z.state q u → IsComparable u.body v.body
      view q v own u h = a.same q u t h at_
      view q v (old e g) u h = a.same q u v h g

  pub let_agrees : (s n : State S) (p : List ℕ) (c : ℕ) (t : Task S) → Agrees P main cells z s → CanLet P s p c t → LetGo s p c t n → Agrees P main cells z n
  let_agrees s n p c t a can go =
      let may = let_may P s p c t can in
      record {
        made = gave_made P main s n p c t a.made a.started can.at_ may go.tasks;
        started = gave_started P main s n p c t a.made a.started can.at_ may go.tasks;
        same = gave_same s n p c t a can.at_ may go.tasks;
        size = ap (λ (x : List ℕ). length x) go.cells ∙ a.size;
        words = subst AreWords (sym go.cells) a.words;
        value = λ d l. keyed_value P main n (gave_made P main s n p c t a.made a.started can.at_ may go.tasks) cells d
            (gave_value P main s n p c t a.made a.started can.at_ may go.tasks cells d (inl go.cells) (ap (λ (x : List ℕ). slice_index x d) go.cells) (λ e q r k. no_slot e d q r k) (placed_value P main s a.made cells d (a.value d l)));
      }
    where
      no_slot : (e : Event S) (d : ℕ) → d ≡ c → e.start ≡ t.body.start → Changes (stage_act P e.start e.past) d true → ⊥
      no_slot e d q r k =
          let ct = change_touch k in
          let f = ct.fold refl in
          let w = subst (λ (x : Start S). (y : ℕ) (m : Mode) (b : Bool) → x.context.final ≡ true → (right_of x.context) y ≡ Holds m b → b ≡ true) (sym r) (starts_well P main s set_.starts a.made p t can.at_).0 in
          let h = stage_touch P e.start e.past d ct.touch true w ct.touches in
          let m = fold_mode h.mode ct.touch true f.0 h.permits f.1 refl in
          can.no_fold f.0 (subst (λ (x : ℕ). (right_of t.body.start.context) x ≡ Holds (Fold f.0) true) q (subst (λ (x : Start S). (right_of x.context) d ≡ Holds (Fold f.0) true) r (h.holds ∙ ap (λ (x : Mode). Holds x true) m)))

  pub join_agrees : (s n : State S) (p : List ℕ) (c : ℕ) (op : Op) (t : Task S) → Agrees P main cells z s → CanJoin P s p c op t → Joined P s p c op t n → Agrees P main cells z n
  join_agrees s n p c op t a can go =
      let may = join_may P s p c op t can in
      record {
        made = gave_made P main s n p c t a.made a.started can.at_ may go.tasks;
        started = gave_started P main s n p c t a.made a.started can.at_ may go.tasks;
        same = gave_same s n p c t a can.at_ may go.tasks;
        size = ap (λ (x : List ℕ). length x) go.cells ∙ (length-set s.cells c (combine op (get_or s.cells c 0) (slot_of P t.body.start c op t.body.found)) ∙ a.size);
        words = λ d. subst (λ (x : List ℕ). slice_index x d < 2 ^ 64) (sym go.cells) (set_word s.cells c (combine op (get_or s.cells c 0) (slot_of P t.body.start c op t.body.found)) d
            (combine_word op (get_or s.cells c 0) (slot_of P t.body.start c op t.body.found) (a.words c) (slot_word P t.body.start c op t.body.found)) a.words);
        value = λ d l. keyed_value P main n (gave_made P main s n p c t a.made a.started can.at_ may go.tasks) cells d (value_of d l (which d c));
      }
    where
      which : (x y : ℕ) → (x ≡ y) ⊎ (x ≢ y)
      which x y = grind arith

      value_of : (d : ℕ) → d < length cells → (d ≡ c) ⊎ (d ≢ c) → PlacedValue P n cells d
      value_of d l (inl e) =
          let k = a.size in
          subst (λ (x : ℕ). PlacedValue P n cells x) (sym e) (join_value P main s n p c op t set_.starts a.made a.started can go.tasks go.cells cells (subst (λ (x : ℕ). x < length s.cells) e (omega arith)) (a.words c) (subst (λ (x : ℕ). PlacedValue P s cells x) e (placed_value P main s a.made cells d (a.value d l))))
      value_of d l (inr ne) =
          gave_value P main s n p c t a.made a.started can.at_ (join_may P s p c op t can) go.tasks cells d (inr ne)
          (ap (λ (x : List ℕ). slice_index x d) go.cells ∙ get_or-set_other s.cells c d (combine op (get_or s.cells c 0) (slot_of P t.body.start c op t.body.found)) 0 ne)
          (λ e q r k. ne q) (placed_value P main s a.made cells d (a.value d l))

  pub moved_agrees : (s n : State S) → Agrees P main cells z s → Moved P s n → Agrees P main cells z n
  moved_agrees s n a (steps {p = p} {t = t} can step) = step_agrees s n p t a can step
  moved_agrees s n a (lets {p = p} {c = c} {t = t} can go) = let_agrees s n p c t a can go
  moved_agrees s n a (joins {p = p} {c = c} {op = op} {t = t} can go) = join_agrees s n p c op t a can go

  -- every state of every run agrees with the sequential run
  pub reached_agrees : (s : State S) → Reached P main cells s → Agrees P main cells z s
  reached_agrees s opens = opening_agrees
  reached_agrees s (moves {s = b} r m) = moved_agrees b s (reached_agrees b r) m

pub every_state_agrees : (S : Type 0) → EveryStateAgrees S
every_state_agrees S P main cells z s set_ run r = reached_agrees P main cells z set_ run s r

pub opening_agrees_law : (S : Type 0) → OpeningAgrees S
opening_agrees_law S P main cells z set_ run = opening_agrees P main cells z set_ run

pub step_agrees_law : (S : Type 0) → StepAgrees S
step_agrees_law S P main cells z s n p t set_ run a can step = step_agrees P main cells z set_ run s n p t a can step

pub let_agrees_law : (S : Type 0) → LetAgrees S
let_agrees_law S P main cells z s n p c t set_ run a can go = let_agrees P main cells z set_ run s n p c t a can go

pub join_agrees_law : (S : Type 0) → JoinAgrees S
join_agrees_law S P main cells z s n p c op t set_ run a can go = join_agrees P main cells z set_ run s n p c op t a can go
