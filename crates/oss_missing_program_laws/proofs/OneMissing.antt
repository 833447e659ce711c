-- What is missing of a code is told in one way: both walks are one, and each list of what is known is one.
use Rattle.std.proofs.Common.{◌≡◌, ◌∙◌, ℕ, ◌==◌, ◌&&◌, not, Bool, true, false, true≢false, List, [], ◌∷◌, length, Option, Some, None, is_some, refl, sym, ap, subst}
use Rattle.oss_syntax.specs.declared.access.Access.{Access}
use Rattle.oss_syntax.specs.declared.fault.FaultKind.{FaultKind}
use Rattle.oss_syntax.specs.declared.tree.program.Item.{Item}
use Rattle.oss_model.specs.Bodies.{Act, Ask, Frame, Program, Start, ask_of}
use Rattle.oss_model.specs.Bodies.Act.{Fault, Over}
use Rattle.oss_model.specs.Context.{in_clauses}
use Rattle.oss_model.specs.Moves.{act_now}
use Rattle.oss_model.specs.Rights.{Folds, Reads, Touch, Writes}
use Rattle.oss_model.specs.Sequence.{Running}
use Rattle.oss_pieces.proofs.OneListLemmas.{one_list}
use Rattle.oss_explanation.specs.declared.explained.Word.{Word}
use Rattle.oss_explanation.specs.Held.{all_words, is_word}
use Rattle.oss_explanation.proofs.OneLemmas.{one_held}
use Rattle.oss_machine.specs.Machines.{asks}
use Rattle.oss_freed.specs.Freed.{freed}
use Rattle.oss_free_run.specs.FreeTasks.{free_main, free_program}
use Rattle.oss_lent_cells.specs.declared.holder.Holder.{Holder}
use Rattle.oss_missing_lines.specs.declared.missing.Late.{Late}
use Rattle.oss_missing_lines.specs.declared.missing.Late.TheVariants as late
use Rattle.oss_missing_lines.specs.declared.missing.LateUse.{LateUse}
use Rattle.oss_missing_lines.specs.declared.missing.MissingWait.{MissingWait}
use Rattle.oss_missing_lines.specs.declared.missing.RunFault.{RunFault}
use Rattle.oss_missing_lines.specs.declared.missing.TaskMissing.{TaskMissing}
use Rattle.oss_missing_lines.specs.declared.missing.Wanting.{Wanting}
use Rattle.oss_lacks.specs.Asking.{Asking, main as main_asking}
use Rattle.oss_lacks.specs.Nests.{Nest, alone, opened, with_acting}
use Rattle.oss_lacks.specs.Walks.{Walks, at_stop, behind}
use Rattle.oss_lacks.specs.Walks.Walks.{opens as first_opens, runs_on as first_runs_on}
use Rattle.oss_lack_words.specs.Told.{AreWantingOf, added, replacing}
use Rattle.oss_lack_words.specs.Told.AreWantingOf.{no_cell, none, some}
use Rattle.oss_missing_waits.specs.Holding.{Holding, IsUse, Told, Uses, Waits as WaitsBefore, lent_when, main as main_holding, new_task, releases, touched, waits_on}
use Rattle.oss_missing_waits.specs.Holding.IsUse.{known, none as nothing_used, told}
use Rattle.oss_missing_waits.specs.Lines.{AreLines, IsLateUse, IsLine, IsWait}
use Rattle.oss_missing_waits.specs.Waits.{IsBehind, IsBehindAsk, IsBehindIf, IsCreation, IsDirective, IsTouched, Mended, Waits, at_stop as at_second_stop, mended_in}
use Rattle.oss_missing_waits.specs.Waits.Waits.{opens as second_opens, runs_on as second_runs_on}
use Rattle.oss_missing.specs.Making.{others}
use Rattle.oss_missing.specs.Missing.{AreAllMissing, AreLinesOf, AreTasksMissing, IsMainMissing, IsTaskMissing, first_known, lacks_of}
use Rattle.oss_missing_program_laws.specs.Once.{MissingIsOne}
use Rattle.oss_missing_program_laws.proofs.OneWalk.{Walk, one_act, one_walk}
use Rattle.oss_missing_program_laws.proofs.OneWalk.Walk.{opens, runs_on}

-- The first walk

-- what is known behind an act
abbrev IsBehindFirst : {S : Type 0} → Program S → Frame S → Nest Asking → Nest Asking → Type 0
IsBehindFirst Q f old new = new ≡ behind Q f old

first_walk : {S : Type 0} (Q : Program S) (main : Start S) (cells : List ℕ) (z : Running S) (n : Nest Asking) → Walks Q main cells z n → Walk (freed (length cells) Q) (IsBehindFirst Q) main cells (alone main_asking) z n
first_walk Q main cells _ _ first_opens = opens
first_walk Q main cells _ _ (first_runs_on {z} {y} {f} {n} w a r) = runs_on (first_walk Q main cells z n w) a r refl

-- how an act stops a run
abbrev Stops : {S : Type 0} → Act S → Option RunFault → Type 0
Stops a None = a ≡ Over
Stops a (Some f) = (key : List ℕ) × (a ≡ Fault f.kind f.line key)

fault_parts : {S : Type 0} (k j : FaultKind) (l m : ℕ) (key other : List ℕ) → ◌≡◌ {A = Act S} (Fault k l key) (Fault j m other) → (k ≡ j) × (l ≡ m)
fault_parts k j l m key other e = (cc, cc)

no_fault : {S : Type 0} (k : FaultKind) (l : ℕ) (key : List ℕ) → ◌≡◌ {A = Act S} Over (Fault k l key) → ⊥
no_fault k l key e = cc

one_fault : {S : Type 0} (a b : Act S) → a ≡ b → (f g : Option RunFault) → Stops a f → Stops b g → f ≡ g
one_fault a b e None None x y = refl
one_fault a b e None (Some g) x y = absurd (no_fault g.kind g.line y.0 (sym x ∙ e ∙ y.1))
one_fault a b e (Some f) None x y = absurd (no_fault f.kind f.line x.0 (sym y ∙ sym e ∙ x.1))
one_fault a b e (Some f) (Some g) x y =
    let parts = fault_parts f.kind g.kind f.line g.line x.0 y.0 (sym x.1 ∙ e ∙ y.1) in
    (λ i. Some (record { kind = parts.0 i; line = parts.1 i }))

-- The second walk

one_use : (cells : ℕ → Bool) (line : ℕ) (h x y : Holding) → IsUse cells line h x → IsUse cells line h y → x ≡ y
one_use cells line h _ _ (nothing_used a) (nothing_used b) = refl
one_use cells line h _ _ (nothing_used a) (known b) = refl
one_use cells line h _ _ (nothing_used a) (told c i r n) = absurd (a c i r)
one_use cells line h _ _ (known a) (nothing_used b) = refl
one_use cells line h _ _ (known a) (known b) = refl
one_use cells line h _ _ (known a) (told c i r n) = absurd (true≢false (sym a ∙ n))
one_use cells line h _ _ (told c i r n) (nothing_used b) = absurd (b c i r)
one_use cells line h _ _ (told c i r n) (known b) = absurd (true≢false (sym b ∙ n))
one_use cells line h _ _ (told c i r n) (told d j s m) = refl

one_touch : (t : Touch) (c line : ℕ) (old n m : Nest Holding) → IsTouched t c line old n → IsTouched t c line old m → n ≡ m
one_touch t c line old n m x y =
    x.new_is ∙ ap (λ (u : Holding). with_acting (touched t c line u) old) (one_use (λ d. c == d) line old.acting.task x.used y.used x.use_is y.use_is) ∙ sym y.new_is

one_creation : {S : Type 0} (w : Mended) (f : Frame S) (lends : Bool) (line : ℕ) (old n m : Nest Holding) → IsCreation w f lends line old n → IsCreation w f lends line old m → n ≡ m
one_creation w f lends line old n m x y =
    x.new_is
    ∙ ap (λ (u : Holding). opened (new_task (f.context.created ∷ f.path) line (w (length old.ended))) (with_acting (lent_when lends f.context.created line (w (length old.ended)) u) old))
    (one_use (λ d. is_some (w (length old.ended) d)) line old.acting.task x.used y.used x.use_is y.use_is)
    ∙ sym y.new_is

one_directive : (cells : ℕ → Bool) (line : ℕ) (after : Holding → Holding) (old n m : Nest Holding) → IsDirective cells line after old n → IsDirective cells line after old m → n ≡ m
one_directive cells line after old n m x y =
    x.new_is ∙ ap (λ (u : Holding). with_acting (after u) old) (one_use cells line old.acting.task x.used y.used x.use_is y.use_is) ∙ sym y.new_is

one_behind_ask : {S : Type 0} (w : Mended) (f : Frame S) (a : Ask S) (line : ℕ) (old n m : Nest Holding) → IsBehindAsk w f a line old n → IsBehindAsk w f a line old m → n ≡ m
one_behind_ask w f (Ask.Read c) line old n m x y = one_touch Reads c line old n m x y
one_behind_ask w f (Ask.Write c v) line old n m x y = one_touch Writes c line old n m x y
one_behind_ask w f (Ask.Fold c o v) line old n m x y = one_touch (Folds o) c line old n m x y
one_behind_ask w f (Ask.Create o) line old n m x y = one_creation w f (o.when && not f.context.final) line old n m x y
one_behind_ask w f (Ask.Release clauses) line old n m x y = one_directive (in_clauses clauses) line (releases clauses) old n m x y
one_behind_ask w f (Ask.WaitOn named) line old n m x y = one_directive (in_clauses named) line (waits_on named) old n m x y
one_behind_ask w f Ask.Wait line old n m x y = x ∙ sym y
one_behind_ask w f Ask.End line old n m x y = x ∙ sym y
one_behind_ask w f _ line old n m x y = x ∙ sym y

one_behind_if : {S : Type 0} (b : Bool) (w : Mended) (f : Frame S) (a : Ask S) (line : ℕ) (old n m : Nest Holding) → IsBehindIf b w f a line old n → IsBehindIf b w f a line old m → n ≡ m
one_behind_if true w f a line old n m x y = x ∙ sym y
one_behind_if false w f a line old n m x y = one_behind_ask w f a line old n m x y

one_behind : {S : Type 0} (w : Mended) (Q : Program S) (f : Frame S) (old n m : Nest Holding) → IsBehind w Q f old n → IsBehind w Q f old m → n ≡ m
one_behind w Q f old n m x y = one_behind_if f.awaits w f (ask_of Q f).ask (ask_of Q f).line old n m x y

second_walk : {S : Type 0} (w : Mended) (Q : Program S) (main : Start S) (cells : List ℕ) (z : Running S) (n : Nest Holding) → Waits w Q main cells z n → Walk (freed (length cells) Q) (IsBehind w Q) main cells (alone main_holding) z n
second_walk w Q main cells _ _ second_opens = opens
second_walk w Q main cells _ _ (second_runs_on {z} {y} {f} {n} {m} h a r b) = runs_on (second_walk w Q main cells z n h) a r b

-- Lists

wanting_is : (k g : Wanting) → k.word ≡ g.word → k.cells ≡ g.cells → k.old ≡ g.old → k ≡ g
wanting_is k g e f h = (λ i. record { word = e i; cells = f i; old = h i })

one_wanting : (all : List Item) (words : ℕ → Option Word) (final : Bool) (clauses : List Access) (ws : List Word) (ks gs : List Wanting) → AreWantingOf all words final clauses ws ks → AreWantingOf all words final clauses ws gs → ks ≡ gs
one_wanting all words final clauses _ _ _ none none = refl
one_wanting all words final clauses _ _ _ (some {w} {ws} {k} {ks} a rest) (some {k = g} {ks = gs} b more) =
    ap (λ (x : Wanting). x ∷ ks) (wanting_is k g (a.word ∙ sym b.word) (one_list (λ c. is_word (words c) w) all 0 0 k.cells g.cells a.cells b.cells) (a.old ∙ sym b.old))
    ∙ ap (λ (xs : List Wanting). g ∷ xs) (one_wanting all words final clauses ws ks gs rest more)
one_wanting all words final clauses _ _ _ (some {w} {ws} {k} a rest) (no_cell b more) = absurd (a.some (one_list (λ c. is_word (words c) w) all 0 0 k.cells [] a.cells b))
one_wanting all words final clauses _ _ _ (no_cell {w} a rest) (some {k = g} b more) = absurd (b.some (one_list (λ c. is_word (words c) w) all 0 0 g.cells [] b.cells a))
one_wanting all words final clauses _ _ _ (no_cell {w} {ws} {ks} a rest) (no_cell {ks = gs} b more) = one_wanting all words final clauses ws ks gs rest more

one_wait : (t : Touch) (c line : ℕ) (child : Holder) (v w : MissingWait) → IsWait t c line child v → IsWait t c line child w → v ≡ w
one_wait t c line child v w a b = (λ i. record {
  touch = (a.touch ∙ sym b.touch) i;
  cell = (a.cell ∙ sym b.cell) i;
  line = (a.line_is ∙ sym b.line_is) i;
  child = (a.number ∙ sym b.number) i;
  created = (a.created ∙ sym b.created) i;
  word = (a.word ∙ sym b.word) i;
})

one_late_use : (all : List Item) (cells : ℕ → Bool) (line : ℕ) (u v : LateUse) → IsLateUse all cells line u → IsLateUse all cells line v → u ≡ v
one_late_use all cells line u v a b =
    let pieces : u.cells ≡ v.cells = one_list cells all 0 0 u.cells v.cells a.pieces b.pieces in
    (λ i. record { cells = pieces i; line = (a.line_is ∙ sym b.line_is) i })

one_line : (all : List Item) (t : Told) (l k : Late) → IsLine all t l → IsLine all t k → l ≡ k
one_line all (WaitsBefore t c line child) (late.Wait v) (late.Wait w) a b = ap late.Wait (one_wait t c line child v w a b)
one_line all (WaitsBefore t c line child) (late.Wait v) (late.Use u) a b = absurd b
one_line all (WaitsBefore t c line child) (late.Use u) k a b = absurd a
one_line all (Uses cells line) (late.Use u) (late.Use v) a b = ap late.Use (one_late_use all cells line u v a b)
one_line all (Uses cells line) (late.Use u) (late.Wait w) a b = absurd b
one_line all (Uses cells line) (late.Wait w) k a b = absurd a

are_one_lines : (all : List Item) (ts : List Told) (ls ks : List Late) → AreLines all ts ls → AreLines all ts ks → ls ≡ ks
are_one_lines all [] [] [] a b = refl
are_one_lines all [] [] (k ∷ ks) a b = absurd b
are_one_lines all [] (l ∷ ls) ks a b = absurd a
are_one_lines all (t ∷ ts) [] ks a b = absurd a
are_one_lines all (t ∷ ts) (l ∷ ls) [] a b = absurd b
are_one_lines all (t ∷ ts) (l ∷ ls) (k ∷ ks) a b = ap (λ (x : Late). x ∷ ls) (one_line all t l k a.0 b.0) ∙ ap (λ (xs : List Late). k ∷ xs) (are_one_lines all ts ls ks a.1 b.1)

one_lines_of : (all : List Item) (o : Option Holding) (ls ks : List Late) → AreLinesOf all o ls → AreLinesOf all o ks → ls ≡ ks
one_lines_of all None ls ks a b = a ∙ sym b
one_lines_of all (Some h) ls ks a b = are_one_lines all h.told ls ks a b

one_task_missing : (all : List Item) (t : Asking) (h : Option Holding) (k j : TaskMissing) → IsTaskMissing all t h k → IsTaskMissing all t h j → k ≡ j
one_task_missing all t h k j a b =
    let lacks : k.lacks ≡ j.lacks = one_held all (λ c. added (lacks_of t c)) all_words k.lacks j.lacks a.lacks b.lacks in
    let wants : k.wants ≡ j.wants = one_wanting all (λ c. replacing (lacks_of t c)) t.final t.clauses all_words k.wants j.wants a.wants b.wants in
    let lines : k.late ≡ j.late = one_lines_of all h k.late j.late a.lines b.lines in
    (λ i. record { task = (a.task ∙ sym b.task) i; line = (a.line ∙ sym b.line) i; lacks = lacks i; wants = wants i; late = lines i })

one_tasks_missing : (all : List Item) (ts : List (Option Asking)) (hs : List (Option Holding)) (ks js : List TaskMissing) → AreTasksMissing all ts hs ks → AreTasksMissing all ts hs js → ks ≡ js
one_tasks_missing all [] hs [] [] a b = refl
one_tasks_missing all [] hs [] (j ∷ js) a b = absurd b
one_tasks_missing all [] hs (k ∷ ks) js a b = absurd a
one_tasks_missing all (None ∷ ts) hs ks js a b = absurd a
one_tasks_missing all (Some t ∷ ts) hs [] js a b = absurd a
one_tasks_missing all (Some t ∷ ts) hs (k ∷ ks) [] a b = absurd b
one_tasks_missing all (Some t ∷ ts) hs (k ∷ ks) (j ∷ js) a b =
    ap (λ (x : TaskMissing). x ∷ ks) (one_task_missing all t (first_known hs) k j a.0 b.0) ∙ ap (λ (xs : List TaskMissing). j ∷ xs) (one_tasks_missing all ts (others hs) ks js a.1 b.1)

one_main_missing : (all : List Item) (ts : List Told) (k j : TaskMissing) → IsMainMissing all ts k → IsMainMissing all ts j → k ≡ j
one_main_missing all ts k j a b =
    let lines : k.late ≡ j.late = are_one_lines all ts k.late j.late a.lines b.lines in
    (λ i. record { task = (a.task ∙ sym b.task) i; line = (a.line ∙ sym b.line) i; lacks = (a.lacks ∙ sym b.lacks) i; wants = (a.wants ∙ sym b.wants) i; late = lines i })

one_all_missing : (all : List Item) (ts : List (Option Asking)) (n : Nest Holding) (ks js : List TaskMissing) → AreAllMissing all ts n ks → AreAllMissing all ts n js → ks ≡ js
one_all_missing all ts n [] js a b = absurd a
one_all_missing all ts n (k ∷ ks) [] a b = absurd b
one_all_missing all ts n (k ∷ ks) (j ∷ js) a b =
    ap (λ (x : TaskMissing). x ∷ ks) (one_main_missing all n.acting.task.told k j a.0 b.0) ∙ ap (λ (xs : List TaskMissing). j ∷ xs) (one_tasks_missing all ts n.ended ks js a.1 b.1)

-- What is missing

pub missing_is_one : MissingIsOne
missing_is_one code fuel all m n a b =
    let P = free_program code in
    let main = free_main code fuel in
    let first = one_walk P (IsBehindFirst (asks code)) (λ f old x y k l. k ∙ sym l) main code.first (alone main_asking) a.walked.stage b.walked.stage a.nest b.nest
    (first_walk (asks code) main code.first a.walked.stage a.nest a.walked.walks) a.walked.end (first_walk (asks code) main code.first b.walked.stage b.nest b.walked.walks) b.walked.end in
    let w : Mended = mended_in (at_stop b.nest).ended in
    let walks : Waits w (asks code) main code.first a.stage a.held = subst (λ (k : Nest Asking). Waits (mended_in (at_stop k).ended) (asks code) main code.first a.stage a.held) first.1 a.walks in
    let second = one_walk P (IsBehind w (asks code)) (one_behind w (asks code)) main code.first (alone main_holding) a.stage b.stage a.held b.held
    (second_walk w (asks code) main code.first a.stage a.held walks) a.end (second_walk w (asks code) main code.first b.stage b.held b.walks) b.end in
    let faults : m.fault ≡ n.fault =
    one_fault (act_now P a.walked.end.task.body) (act_now P b.walked.end.task.body) (one_act P a.walked.stage b.walked.stage first.0 a.walked.end b.walked.end) m.fault n.fault a.walked.stop b.walked.stop in
    let told_there : AreAllMissing all (at_stop b.nest).ended (at_second_stop b.held) m.tasks =
    subst (λ (h : Nest Holding). AreAllMissing all (at_stop b.nest).ended (at_second_stop h) m.tasks) second.1
    (subst (λ (k : Nest Asking). AreAllMissing all (at_stop k).ended (at_second_stop a.held) m.tasks) first.1 a.tasks) in
    let tasks : m.tasks ≡ n.tasks = one_all_missing all (at_stop b.nest).ended (at_second_stop b.held) m.tasks n.tasks told_there b.tasks in
    (λ i. record { tasks = tasks i; fault = faults i })
