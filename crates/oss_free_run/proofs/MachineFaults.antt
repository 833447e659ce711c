-- A machine fails by a division by 0, a shift, a place that is not there, or too deep calls: it leaves the faults of annotations to the judge.
use Rattle.std.proofs.Common.{ℕ, ◌+◌, ◌*◌, ◌/◌, sym, subst, List, [], ◌∷◌, Bool, true, false, Option, Some, None}
use Rattle.std.specs.Prelude.{◌==◌, ◌&&◌, ◌||◌, ◌^◌, if◌then◌else◌, drop, map, nat_abs, nat_le, reverse, slice_get, take, Result, Ok, Err}
use Rattle.std.specs.List.{range_with_len}
use Rattle.oss_syntax.specs.declared.fault.FaultKind.{FaultKind}
use Rattle.oss_syntax.specs.declared.fault.FaultKind.TheVariants as fault
use Rattle.oss_syntax.specs.declared.tree.expr.BinOp.{BinOp}
use Rattle.oss_syntax.specs.declared.tree.expr.BinOp.TheVariants as op
use Rattle.oss_grammar.specs.SectionCells.{Base, Extent, Part, Stretch, all_columns, and_cells, cells_of_extent, cells_of_rows, grid_cells, is_empty, is_inside, is_negative_size, most_turns, place_cells, places_cells, section_cells, stretch_cells, stretch_of}
use Rattle.oss_grammar.specs.Values.{Number, applied, is_unsigned, kept, quotient, remainder, shifted_right, wrapped}
use Rattle.oss_model.specs.Bodies.{Ask, Asked}
use Rattle.oss_meaning.specs.declared.value.Value.{Value}
use Rattle.oss_meaning.specs.declared.value.Value.TheVariants as value
use Rattle.oss_meaning.specs.Operators.{applied_to, as_value, number_of}
use Rattle.oss_meaning.specs.Pointers.{cell_of, number_in}
use Rattle.oss_meaning.specs.Expressions.{value_at}
use Rattle.oss_code.specs.declared.code.CodeParts.{CodeParts}
use Rattle.oss_code.specs.Globals.{extents_in}
use Rattle.oss_code.specs.Shapes.{indices_in, operands_of}
use Rattle.oss_code.specs.declared.instr.Instr.{Instr}
use Rattle.oss_code.specs.declared.instr.Instr.TheVariants as i
use Rattle.oss_machine.specs.Frames.{CodeScript, Config, Frame, Turning, open_functions}
use Rattle.oss_machine.specs.Machines.{asked_in, asked_now, asks, machine_at}
use Rattle.oss_machine.specs.Steps.{Effect, Step, after_effect, ahead, all_but_last, base_at, effect, entry_of, extent_from, given, line_of, line_of_newest, onward, place_from, spawned, step_at, touched, turned, turns_begun, turns_ended, turns_from, unless_failed, with_section, with_stack, with_turn, with_turning}
use Rattle.oss_machine.proofs.LiveTheorem.{machine_asks}
use Rattle.oss_freed.specs.Freed.{IsOfAnnotations, LeavesClausesToTheJudge}
use Rattle.oss_freed.proofs.FreedRuns.{freed_runs_need_no_clauses}
use Rattle.oss_free_run.specs.Claims.{FreeRunsNeedNoClauses}
use Rattle.oss_free_run.specs.FreeTasks.{main_order}

abbrev IsMild : {A : Type 0} → Result A FaultKind → Type 0
IsMild (Ok a) = Unit {0}
IsMild (Err kind) = IsOfAnnotations kind → ⊥

abbrev MildAsk : Ask CodeScript → Type 0
MildAsk (Ask.Fails kind) = IsOfAnnotations kind → ⊥
MildAsk _ = Unit {0}

abbrev MildEffect : Effect → Type 0
MildEffect (Effect.Stops kind) = IsOfAnnotations kind → ⊥
MildEffect (Effect.Asks a next) = MildAsk a
MildEffect _ = Unit {0}

unless_mild : {A : Type 0} (r : Result A FaultKind) (go : A → Effect) → IsMild r → ((a : A) → MildEffect (go a)) → MildEffect (unless_failed r go)
unless_mild (Ok a) go h k = k a
unless_mild (Err kind) go h k = h

touched_mild : (o : Option ℕ) (go : ℕ → Effect) → ((c : ℕ) → MildEffect (go c)) → MildEffect (touched o go)
touched_mild None go k = λ h. h
touched_mild (Some c) go k = k c

-- sections

three : (a b c : Bool) (cells : List ℕ) → IsMild (if a then Err fault.OutOfRange else if b then Ok [] else if c then Ok cells else Err fault.OutOfRange)
three true b c cells = λ h. h
three false true c cells = tt
three false false true cells = tt
three false false false cells = λ h. h

stretch_mild : (start count : ℕ) (s : Stretch) → IsMild (stretch_cells start count s)
stretch_mild start count s = three (is_negative_size s) (is_empty s) (is_inside count s) (range_with_len (start + nat_abs s.from) (nat_abs s.size))

grid_mild : (start rows columns : ℕ) (r c : Stretch) → IsMild (grid_cells start rows columns r c)
grid_mild start rows columns r c =
    three (is_negative_size r || is_negative_size c) (is_empty r || is_empty c) (is_inside rows r && is_inside columns c)
    (cells_of_rows columns (nat_abs c.size) (start + (nat_abs r.from * columns + nat_abs c.from)) (nat_abs r.size))

place_mild : (b : Base) (m : Option ℕ) (p : ℕ × Option ℕ) → IsMild (place_cells b m p)
place_mild b None (k, None) = stretch_mild b.start b.count (stretch_of b.count b.index (Part.elements k 1))
place_mild b None (k, Some j) = λ h. h
place_mild b (Some m) (k, None) = grid_mild b.start (b.count / m) m (stretch_of (b.count / m) b.index (Part.elements k 1)) (all_columns m)
place_mild b (Some m) (k, Some j) = grid_mild b.start (b.count / m) m (stretch_of (b.count / m) b.index (Part.elements k 1)) (stretch_of m 0 (Part.elements j 1))

both_mild : (r s : Result (List ℕ) FaultKind) → IsMild r → IsMild s → IsMild (and_cells r s)
both_mild (Ok a) (Ok b) h k = tt
both_mild (Ok a) (Err kind) h k = k
both_mild (Err kind) s h k = h

places_mild : (b : Base) (m : Option ℕ) (ps : List (ℕ × Option ℕ)) → IsMild (places_cells b m ps)
places_mild b m [] = tt
places_mild b m (p ∷ ps) = both_mild (place_cells b m p) (places_cells b m ps) (place_mild b m p) (places_mild b m ps)

many_mild : (t : Bool) (r : Result (List ℕ) FaultKind) → IsMild r → IsMild (if t then r else Err fault.OutOfRange)
many_mild true r h = h
many_mild false r h = λ k. k

extent_mild : (b : Base) (m : Option ℕ) (e : Extent) → IsMild (cells_of_extent b m e)
extent_mild b m Extent.whole = tt
extent_mild b m (Extent.many turns places) = many_mild (nat_le turns most_turns) (places_cells b m places) (places_mild b m places)
extent_mild b None (Extent.part p) = stretch_mild b.start b.count (stretch_of b.count b.index p)
extent_mild b None (Extent.grid r c) = λ h. h
extent_mild b (Some m) (Extent.part r) = grid_mild b.start (b.count / m) m (stretch_of (b.count / m) b.index r) (all_columns m)
extent_mild b (Some m) (Extent.grid r c) = grid_mild b.start (b.count / m) m (stretch_of (b.count / m) b.index r) (stretch_of m 0 c)

-- operators

divided_mild : (t : Bool) (n : Number) → IsMild (if t then Err fault.DivideByZero else Ok n)
divided_mild true n = λ h. h
divided_mild false n = tt

shifted_mild : (t : Bool) (n : Number) → IsMild (if t then Err fault.ShiftRange else Ok n)
shifted_mild true n = λ h. h
shifted_mild false n = tt

applied_mild : (o : BinOp) (a b : Number) → IsMild (applied o a b)
applied_mild op.Left a b = shifted_mild (nat_le 64 b.value) (record { value = wrapped (a.value * 2 ^ b.value); unsigned = a.unsigned })
applied_mild op.Right a b = shifted_mild (nat_le 64 b.value) (record { value = shifted_right a.unsigned a.value b.value; unsigned = a.unsigned })
applied_mild op.Div a b = divided_mild (b.value == 0) (record { value = quotient (is_unsigned a b) a.value b.value; unsigned = is_unsigned a b })
applied_mild op.Rem a b = divided_mild (b.value == 0) (record { value = remainder (is_unsigned a b) a.value b.value; unsigned = is_unsigned a b })
applied_mild op.OrElse a b = tt
applied_mild op.AndAlso a b = tt
applied_mild op.Or a b = tt
applied_mild op.Xor a b = tt
applied_mild op.And a b = tt
applied_mild op.Equal a b = tt
applied_mild op.Differ a b = tt
applied_mild op.Less a b = tt
applied_mild op.LessEqual a b = tt
applied_mild op.More a b = tt
applied_mild op.MoreEqual a b = tt
applied_mild op.Add a b = tt
applied_mild op.Sub a b = tt
applied_mild op.Mul a b = tt

value_mild : (r : Result Number FaultKind) → IsMild r → IsMild (as_value r)
value_mild (Ok n) h = tt
value_mild (Err kind) h = h

-- multidependencies

turning_mild : (o : Option Turning) (go : Turning → Effect) → ((t : Turning) → MildEffect (go t)) → MildEffect (with_turning o go)
turning_mild None go k = λ h. h
turning_mild (Some t) go k = k t

either_mild : (b : Bool) (next : Frame) → MildEffect (if b then Effect.On next else Effect.Stops fault.OutOfRange)
either_mild true next = tt
either_mild false next = λ h. h

begun_mild : (o : Option Turning) (passed : ℕ) (l n : Value) (rest : List Value) (f : Frame) → MildEffect (turns_from o passed l n rest f)
begun_mild (Some t) passed l n rest f = λ h. h
begun_mild None passed l n rest f = either_mild (nat_le (number_in n) most_turns) (turns_begun passed (number_in l) (number_in n) rest f)

spawned_mild : (line : Option ℕ) (entry : ℕ) (vs : List Value) (f : Frame) → MildEffect (spawned line entry vs f)
spawned_mild None entry vs f = tt
spawned_mild (Some line) entry vs f = λ h. h

-- instructions

effect_mild : (code : CodeParts) (f : Frame) (instr : Instr) → MildEffect (effect code f instr)
effect_mild code f i.Load = touched_mild (cell_of (extents_in code.globals) (value_at f.stack 0)) (λ cell. Effect.Asks (Ask.Read cell) (λ v. onward (value.Num v ∷ drop 1 f.stack) f)) (λ c. tt)
effect_mild code f (i.Store n) =
    touched_mild (cell_of (extents_in code.globals) (value_at f.stack 1)) (λ cell. Effect.Asks (Ask.Write cell (kept n (number_in (value_at f.stack 0)))) (λ t. onward (drop 2 f.stack) f)) (λ c. tt)
effect_mild code f (i.Fold o) =
    touched_mild (cell_of (extents_in code.globals) (value_at f.stack 1)) (λ cell. Effect.Asks (Ask.Fold cell o (number_in (value_at f.stack 0))) (λ t. onward (drop 2 f.stack) f)) (λ c. tt)
effect_mild code f (i.Apply o) =
    let a = number_of o.left_unsigned (value_at f.stack 1) in
    let b = number_of o.right_unsigned (value_at f.stack 0) in
    unless_mild (applied_to o.op o.left_unsigned o.right_unsigned (value_at f.stack 1) (value_at f.stack 0)) (λ x. Effect.On (onward (x ∷ drop 2 f.stack) f)) (value_mild (applied o.op a b) (applied_mild o.op a b)) (λ x. tt)
effect_mild code f (i.Section b s d) =
    let e = extent_from s (map number_in (reverse (take (operands_of s) f.stack))) in
    unless_mild (section_cells (base_at code b f.locals) e) (λ cells. Effect.On (record (onward (drop (operands_of s) f.stack) f) { made = with_section d cells f.made }))
    (extent_mild (base_at code b f.locals) (base_at code b f.locals).columns e) (λ cells. tt)
effect_mild code f (i.Turns passed) = begun_mild f.turning passed (value_at f.stack 1) (value_at f.stack 0) (drop 2 f.stack) f
effect_mild code f (i.Turn b count) =
    let p = place_from count (map number_in (reverse (take (indices_in count) f.stack))) in
    turning_mild f.turning
    (λ t. unless_failed (place_cells (base_at code b f.locals) (base_at code b f.locals).columns (place_from count (map number_in (reverse (take (indices_in count) f.stack)))))
    (λ cells. Effect.On (record (onward (drop (indices_in count) f.stack) f) { turning = Some (with_turn cells t) })))
    (λ t. unless_mild (place_cells (base_at code b f.locals) (base_at code b f.locals).columns p) (λ cells. Effect.On (record (onward (drop (indices_in count) f.stack) f) { turning = Some (with_turn cells t) }))
    (place_mild (base_at code b f.locals) (base_at code b f.locals).columns p) (λ cells. tt))
effect_mild code f (i.NextTurn n) = turning_mild f.turning (λ t. Effect.On (turned n t f)) (λ t. tt)
effect_mild code f (i.EndTurns d) =
    turning_mild f.turning (λ t. turns_ended d t f)
    (λ t. either_mild (nat_le t.start f.at) (record (ahead 0 f) { locals = all_but_last f.locals; made = with_section d t.cells f.made; turning = None }))
effect_mild code f (i.Spawn g count) = spawned_mild f.call_line (entry_of code g) (reverse (take count f.stack)) (with_stack (drop count f.stack) f)
effect_mild code f _ = tt

-- steps

given_mild : (ks : List Frame) (v : Value) (line : ℕ) (c : Config) → MildAsk (asked_in (given ks v line c)).ask
given_mild [] v line c = tt
given_mild (k ∷ ks) v line c = tt

after_mild : (e : Effect) (line : ℕ) (c : Config) → MildEffect e → MildAsk (asked_in (after_effect e line c)).ask
after_mild (Effect.On next) line c h = tt
after_mild (Effect.Gives v) line c h = given_mild c.callers v line c
after_mild (Effect.Stops kind) line c h = h
after_mild (Effect.Asks a next) line c h = h
after_mild (Effect.Calls entry vs caller) line c h = tt
after_mild (Effect.Creates entry vs caller) line c h = tt

at_mild : (code : CodeParts) (c : Config) (instr : Option Instr) → MildAsk (asked_in (step_at code c instr)).ask
at_mild code c None = tt
at_mild code c (Some instr) = after_mild (effect code c.frame instr) (line_of code c.frame) c (effect_mild code c.frame instr)

step_mild : (code : CodeParts) (c : Config) → MildAsk (asked_now code c).ask
step_mild code c = go (nat_le 257 (open_functions (c.frame ∷ c.callers)))
  where
    go : (b : Bool) → MildAsk (asked_in (if b then Step.Waits (record { ask = Ask.Fails fault.TooDeep; line = line_of_newest code c.callers }) (λ t. c) else step_at code c (slice_get code.instrs c.frame.at))).ask
    go true = λ h. h
    go false = at_mild code c (slice_get code.instrs c.frame.at)

pub codes_leave_clauses : (code : CodeParts) → LeavesClausesToTheJudge (asks code)
codes_leave_clauses code s answers kind e a =
    let m : MildAsk (asks code s answers).ask = subst (λ (x : Asked CodeScript). MildAsk x.ask) (sym (machine_asks code s answers)) (step_mild code (machine_at code s answers).config) in
    let g : IsOfAnnotations kind → ⊥ = subst (λ (q : Ask CodeScript). MildAsk q) e m in
    g a

pub free_runs_need_no_clauses : FreeRunsNeedNoClauses
free_runs_need_no_clauses code fuel kind line output few touches r a =
    freed_runs_need_no_clauses CodeScript (asks code) main_order code.first fuel kind line output few touches (codes_leave_clauses code) r a
