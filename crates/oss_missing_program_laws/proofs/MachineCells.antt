-- What a machine asks for lies within its cells, and so does what its clauses name.
-- A frame fits if its clauses, and the multidependency under way, name such cells alone. Each step keeps that, whatever the stack has: the places of pointers are tested where cells are touched or named.
use Rattle.std.proofs.Common.{◌≡◌, ℕ, zero, suc, ◌+◌, ◌-◌, ◌<◌, ◌≤◌, ℤ, pos, negsuc, Bool, true, false, List, [], ◌∷◌, ◌++◌, Option, Some, None, refl, sym, subst, arith}
use Rattle.std.specs.Prelude.{◌&&◌, if◌then◌else◌, drop, int_le, int_lt, map, nat_le, nat_lt, reverse, slice_get, take, Result, Ok, Err}
use Rattle.oss_syntax.specs.declared.access.Access.{Access}
use Rattle.oss_syntax.specs.declared.fault.FaultKind.{FaultKind}
use Rattle.oss_syntax.specs.declared.fault.FaultKind.TheVariants as fault
use Rattle.oss_grammar.specs.SectionCells.{most_turns, place_cells, section_cells}
use Rattle.oss_grammar.specs.Values.{kept}
use Rattle.oss_model.specs.Bodies.{Ask, Asked}
use Rattle.oss_meaning.specs.declared.clauses.Declared.{Declared}
use Rattle.oss_meaning.specs.declared.value.Value.{Value}
use Rattle.oss_meaning.specs.declared.value.Value.TheVariants as value
use Rattle.oss_meaning.specs.Clauses.{waited_for}
use Rattle.oss_meaning.specs.Expressions.{value_at}
use Rattle.oss_meaning.specs.Operators.{applied_to}
use Rattle.oss_meaning.specs.Pointers.{Extent, cell_in, cell_of, global_base, number_in, pointed_base, value_base}
use Rattle.oss_meaning.specs.Sections.{declared_on, ranges_of}
use Rattle.oss_code.specs.declared.code.CodeParts.{CodeParts}
use Rattle.oss_code.specs.declared.instr.Instr.{Instr}
use Rattle.oss_code.specs.declared.instr.Instr.TheVariants as i
use Rattle.oss_code.specs.declared.instr.SectionBase.{SectionBase}
use Rattle.oss_code.specs.declared.instr.SectionBase.TheVariants as section_base
use Rattle.oss_code.specs.Globals.{extents_in}
use Rattle.oss_code.specs.Shapes.{indices_in, operands_of}
use Rattle.oss_machine.specs.Frames.{CodeScript, Config, Frame, Turning, open_functions, start_of}
use Rattle.oss_machine.specs.Machines.{asked_in, asks, machine_at, resumed, resumed_by, room, settled}
use Rattle.oss_machine.specs.Steps.{Effect, Step, Goes, Waits, after_effect, ahead, all_but_last, base_at, effect, entry_of, extent_from, given, line_of, line_of_newest, one_step, onward, place_from, spawned, step_at, stepped, touched, turned, turns_begun, turns_ended, turns_from, unless_failed, with_section, with_stack, with_turn, with_turning}
use Rattle.oss_machine.proofs.LiveTheorem.{machine_asks}
use Rattle.oss_machine.proofs.SettleLemmas.{settled_keeps}
use Rattle.oss_missing_program_laws.proofs.WithinLemmas.{AreBelow, AreFound, IsBaseWithin, NameWithin, below_both, both_within, declared_within, extent_below, lt_is, named_within, place_below, ranges_within, second_true}

-- Globals

-- each global lies within the first so many cells
abbrev pub LieWithin : ℕ → List Extent → Type 0
LieWithin n [] = Unit {0}
LieWithin n (e ∷ rest) = (e.start + e.count ≤ n) × LieWithin n rest

-- so does one that may not be there
abbrev MayLieWithin : ℕ → Option Extent → Type 0
MayLieWithin n None = Unit {0}
MayLieWithin n (Some e) = e.start + e.count ≤ n

found_within : (n : ℕ) (es : List Extent) (g : ℕ) → LieWithin n es → MayLieWithin n (slice_get es g)
found_within n [] g h = tt
found_within n (e ∷ rest) zero h = h.0
found_within n (e ∷ rest) (suc g) h = found_within n rest g h.1

-- there is no such cell, or it is one of the first so many
abbrev MayBeBelow : ℕ → Option ℕ → Type 0
MayBeBelow n None = Unit {0}
MayBeBelow n (Some c) = c < n

cell_in_below : (n : ℕ) (o : Option Extent) (k : ℤ) → MayLieWithin n o → MayBeBelow n (cell_in o k)
cell_in_below n None k h = tt
cell_in_below n (Some e) (negsuc k) h = tt
cell_in_below n (Some e) (pos k) h = by_test (int_le (pos 0) (pos k) && int_lt (pos k) (pos e.count)) refl
  where
    by_test : (b : Bool) → (int_le (pos 0) (pos k) && nat_lt k e.count) ≡ b → MayBeBelow n (if b then Some (e.start + k) else None)
    by_test true f = omega (arith, lt_is k e.count (second_true (int_le (pos 0) (pos k)) (nat_lt k e.count) f), h)
    by_test false f = tt

pointed_below : (n : ℕ) (es : List Extent) (v : Value) → LieWithin n es → MayBeBelow n (cell_of es v)
pointed_below n es (value.Place g k) h = cell_in_below n (slice_get es g) k (found_within n es g h)
pointed_below n es (value.Num k) h = tt
pointed_below n es value.Nowhere h = tt

-- Bases of sections

global_within : (n : ℕ) (o : Option Extent) → MayLieWithin n o → IsBaseWithin n (global_base o)
global_within n None h = omega arith
global_within n (Some e) h = h

pointer_within : (n : ℕ) (o : Option Extent) (k : ℤ) → MayLieWithin n o → IsBaseWithin n (pointed_base o k)
pointer_within n None k h = omega arith
pointer_within n (Some e) k h = h

value_within : (n : ℕ) (es : List Extent) (v : Value) → LieWithin n es → IsBaseWithin n (value_base es v)
value_within n es (value.Place g k) h = pointer_within n (slice_get es g) k (found_within n es g h)
value_within n es (value.Num k) h = omega arith
value_within n es value.Nowhere h = omega arith

-- What fits

abbrev TurningFits : ℕ → Option Turning → Type 0
TurningFits n None = Unit {0}
TurningFits n (Some t) = AreBelow n t.cells

abbrev FrameFits : ℕ → Frame → Type 0
FrameFits n f = NameWithin n f.made.accesses × TurningFits n f.turning

abbrev FramesFit : ℕ → List Frame → Type 0
FramesFit n [] = Unit {0}
FramesFit n (f ∷ rest) = FrameFits n f × FramesFit n rest

abbrev ConfigFits : ℕ → Config → Type 0
ConfigFits n c = FrameFits n c.frame × FramesFit n c.callers

-- the ask touches or names cells of the first so many alone
abbrev pub AskFits : ℕ → Ask CodeScript → Type 0
AskFits n (Ask.Read c) = c < n
AskFits n (Ask.Write c v) = c < n
AskFits n (Ask.Fold c o v) = c < n
AskFits n (Ask.Create o) = NameWithin n o.clauses
AskFits n (Ask.WaitOn named) = NameWithin n named
AskFits n (Ask.Release clauses) = NameWithin n clauses
AskFits n _ = Unit {0}

abbrev EffectFits : ℕ → Effect → Type 0
EffectFits n (Effect.On next) = FrameFits n next
EffectFits n (Effect.Gives v) = Unit {0}
EffectFits n (Effect.Stops kind) = Unit {0}
EffectFits n (Effect.Asks a next) = AskFits n a × ((v : ℕ) → FrameFits n (next v))
EffectFits n (Effect.Calls entry vs caller) = FrameFits n caller
EffectFits n (Effect.Creates entry vs caller) = FrameFits n caller

abbrev StepFits : ℕ → Step → Type 0
StepFits n (Goes next) = ConfigFits n next
StepFits n (Waits asked next) = AskFits n asked.ask × ((v : ℕ) → ConfigFits n (next v))

-- Parts of instructions

touched_fits : (n : ℕ) (o : Option ℕ) (go : ℕ → Effect) → MayBeBelow n o → ((c : ℕ) → c < n → EffectFits n (go c)) → EffectFits n (touched o go)
touched_fits n None go h k = tt
touched_fits n (Some c) go h k = k c h

value_fits : (n : ℕ) (r : Result Value FaultKind) (go : Value → Effect) → ((v : Value) → EffectFits n (go v)) → EffectFits n (unless_failed r go)
value_fits n (Ok v) go k = k v
value_fits n (Err kind) go k = tt

cells_fit : (n : ℕ) (r : Result (List ℕ) FaultKind) (go : List ℕ → Effect) → AreFound n r → ((cells : List ℕ) → AreBelow n cells → EffectFits n (go cells)) → EffectFits n (unless_failed r go)
cells_fit n (Ok cells) go h k = k cells h
cells_fit n (Err kind) go h k = tt

turning_fits : (n : ℕ) (o : Option Turning) (go : Turning → Effect) → TurningFits n o → ((t : Turning) → AreBelow n t.cells → EffectFits n (go t)) → EffectFits n (with_turning o go)
turning_fits n None go h k = tt
turning_fits n (Some t) go h k = k t h

begun_fits : (n : ℕ) (o : Option Turning) (passed : ℕ) (l m : Value) (rest : List Value) (f : Frame) → FrameFits n f → EffectFits n (turns_from o passed l m rest f)
begun_fits n (Some t) passed l m rest f h = tt
begun_fits n None passed l m rest f h = by_count (nat_le (number_in m) most_turns)
  where
    by_count : (b : Bool) → EffectFits n (if b then Effect.On (turns_begun passed (number_in l) (number_in m) rest f) else Effect.Stops fault.OutOfRange)
    by_count true = (h.0, tt)
    by_count false = tt

turned_fits : (n passed : ℕ) (t : Turning) (f : Frame) → FrameFits n f → AreBelow n t.cells → FrameFits n (turned passed t f)
turned_fits n passed t f h k = by_left (nat_le t.left 1)
  where
    by_left : (b : Bool) → FrameFits n (if b then record f { at = f.at + 1; turning = Some (record t { left = 0 }) } else record f { at = f.at - passed; locals = stepped f.locals; turning = Some (record t { left = t.left - 1 }) })
    by_left true = (h.0, k)
    by_left false = (h.0, k)

section_fits : (n : ℕ) (d : Declared) (cells : List ℕ) (accesses : List Access) → NameWithin n accesses → AreBelow n cells → NameWithin n (accesses ++ declared_on d (ranges_of cells))
section_fits n d cells accesses h k = both_within n accesses (declared_on d (ranges_of cells)) h (declared_within n d (ranges_of cells) (ranges_within n cells k))

ended_fits : (n : ℕ) (d : Declared) (t : Turning) (f : Frame) → FrameFits n f → AreBelow n t.cells → EffectFits n (turns_ended d t f)
ended_fits n d t f h k = by_place (nat_le t.start f.at)
  where
    by_place : (b : Bool) → EffectFits n (if b then Effect.On (record (ahead 0 f) { locals = all_but_last f.locals; made = with_section d t.cells f.made; turning = None }) else Effect.Stops fault.OutOfRange)
    by_place true = (section_fits n d t.cells f.made.accesses h.0 k, tt)
    by_place false = tt

spawned_fits : (n : ℕ) (line : Option ℕ) (entry : ℕ) (vs : List Value) (f : Frame) → FrameFits n f → EffectFits n (spawned line entry vs f)
spawned_fits n None entry vs f h = h
spawned_fits n (Some line) entry vs f h = tt

-- Steps

module _ (code : CodeParts) (n : ℕ) (lie : LieWithin n (extents_in code.globals)) where
  base_within : (b : SectionBase) (locals : List Value) → IsBaseWithin n (base_at code b locals)
  base_within (section_base.Global g) locals = global_within n (slice_get (extents_in code.globals) g) (found_within n (extents_in code.globals) g lie)
  base_within (section_base.Pointer slot) locals = value_within n (extents_in code.globals) (value_at locals slot) lie
  base_within section_base.Nothing locals = global_within n None tt

  effect_fits : (f : Frame) (instr : Instr) → FrameFits n f → EffectFits n (effect code f instr)
  effect_fits f (i.Push k) h = h
  effect_fits f i.Nothing h = h
  effect_fits f (i.Local slot) h = h
  effect_fits f (i.Address g) h = h
  effect_fits f (i.Row g) h = h
  effect_fits f (i.Element g) h = h
  effect_fits f (i.Move d) h = h
  effect_fits f i.Load h =
      touched_fits n (cell_of (extents_in code.globals) (value_at f.stack 0)) (λ cell. Effect.Asks (Ask.Read cell) (λ v. onward (value.Num v ∷ drop 1 f.stack) f))
      (pointed_below n (extents_in code.globals) (value_at f.stack 0) lie) (λ c l. (l, λ v. h))
  effect_fits f (i.Prefix o) h = h
  effect_fits f (i.Apply o) h =
      value_fits n (applied_to o.op o.left_unsigned o.right_unsigned (value_at f.stack 1) (value_at f.stack 0)) (λ x. Effect.On (onward (x ∷ drop 2 f.stack) f)) (λ x. h)
  effect_fits f i.Truth h = h
  effect_fits f (i.Convert k) h = h
  effect_fits f (i.Store k) h =
      touched_fits n (cell_of (extents_in code.globals) (value_at f.stack 1)) (λ cell. Effect.Asks (Ask.Write cell (kept k (number_in (value_at f.stack 0)))) (λ t. onward (drop 2 f.stack) f))
      (pointed_below n (extents_in code.globals) (value_at f.stack 1) lie) (λ c l. (l, λ t. h))
  effect_fits f (i.Fold o) h =
      touched_fits n (cell_of (extents_in code.globals) (value_at f.stack 1)) (λ cell. Effect.Asks (Ask.Fold cell o (number_in (value_at f.stack 0))) (λ t. onward (drop 2 f.stack) f))
      (pointed_below n (extents_in code.globals) (value_at f.stack 1) lie) (λ c l. (l, λ t. h))
  effect_fits f (i.SetLocal slot k) h = h
  effect_fits f (i.Bind k) h = h
  effect_fits f (i.Keep k) h = h
  effect_fits f i.Drop h = h
  effect_fits f i.Under h = h
  effect_fits f i.Swap h = h
  effect_fits f (i.Skip k) h = h
  effect_fits f (i.SkipUnless k) h = h
  effect_fits f (i.Again k) h = (tt, λ t. h)
  effect_fits f i.Tick h = (tt, λ t. h)
  effect_fits f (i.Call g count) h = h
  effect_fits f i.Return h = tt
  effect_fits f (i.Print pieces count) h = (tt, λ t. h)
  effect_fits f i.Wait h = (tt, λ t. h)
  effect_fits f i.Begin h = (tt, λ t. h)
  effect_fits f (i.Section b s d) h =
      let e = extent_from s (map number_in (reverse (take (operands_of s) f.stack))) in
      cells_fit n (section_cells (base_at code b f.locals) e) (λ cells. Effect.On (record (onward (drop (operands_of s) f.stack) f) { made = with_section d cells f.made }))
      (extent_below n (base_at code b f.locals) (base_at code b f.locals).columns e (base_within b f.locals)) (λ cells l. (section_fits n d cells f.made.accesses h.0 l, h.1))
  effect_fits f (i.Turns passed) h = begun_fits n f.turning passed (value_at f.stack 1) (value_at f.stack 0) (drop 2 f.stack) f h
  effect_fits f (i.Turn b count) h =
      let p = place_from count (map number_in (reverse (take (indices_in count) f.stack))) in
      turning_fits n f.turning
      (λ t. unless_failed (place_cells (base_at code b f.locals) (base_at code b f.locals).columns (place_from count (map number_in (reverse (take (indices_in count) f.stack)))))
      (λ cells. Effect.On (record (onward (drop (indices_in count) f.stack) f) { turning = Some (with_turn cells t) })))
      h.1
      (λ t l. cells_fit n (place_cells (base_at code b f.locals) (base_at code b f.locals).columns p) (λ cells. Effect.On (record (onward (drop (indices_in count) f.stack) f) { turning = Some (with_turn cells t) }))
      (place_below n (base_at code b f.locals) (base_at code b f.locals).columns p (base_within b f.locals)) (λ cells m. (h.0, below_both n t.cells cells l m)))
  effect_fits f (i.NextTurn k) h = turning_fits n f.turning (λ t. Effect.On (turned k t f)) h.1 (λ t l. turned_fits n k t f h l)
  effect_fits f (i.EndTurns d) h = turning_fits n f.turning (λ t. turns_ended d t f) h.1 (λ t l. ended_fits n d t f h l)
  effect_fits f i.When h = h
  effect_fits f i.Final h = h
  effect_fits f i.Late h = h
  effect_fits f i.Priority h = h
  effect_fits f (i.Create k) h = (h.0, λ t. (tt, h.1))
  effect_fits f (i.Spawn g count) h = spawned_fits n f.call_line (entry_of code g) (reverse (take count f.stack)) (with_stack (drop count f.stack) f) h
  effect_fits f i.WaitOn h = (declared_within n waited_for (map (λ a. a.range) f.made.accesses) (named_within n f.made.accesses h.0), λ t. (tt, h.1))
  effect_fits f i.Release h = (h.0, λ t. (tt, h.1))

  given_fits : (ks : List Frame) (v : Value) (line : ℕ) (c : Config) → FramesFit n ks → ConfigFits n c → StepFits n (given ks v line c)
  given_fits [] v line c h k = (tt, λ t. k)
  given_fits (f ∷ ks) v line c h k = (h.0, h.1)

  after_fits : (e : Effect) (line : ℕ) (c : Config) → EffectFits n e → ConfigFits n c → StepFits n (after_effect e line c)
  after_fits (Effect.On next) line c h k = (h, k.1)
  after_fits (Effect.Gives v) line c h k = given_fits c.callers v line c k.1 k
  after_fits (Effect.Stops kind) line c h k = (tt, λ t. k)
  after_fits (Effect.Asks a next) line c h k = (h.0, λ v. (h.1 v, k.1))
  after_fits (Effect.Calls entry vs caller) line c h k = (tt, λ t. ((tt, tt), (h, k.1)))
  after_fits (Effect.Creates entry vs caller) line c h k = ((tt, tt), (h, k.1))

  at_fits : (c : Config) (instr : Option Instr) → ConfigFits n c → StepFits n (step_at code c instr)
  at_fits c None h = (tt, λ t. h)
  at_fits c (Some instr) h = after_fits (effect code c.frame instr) (line_of code c.frame) c (effect_fits c.frame instr h.0) h

  step_fits : (c : Config) → ConfigFits n c → StepFits n (one_step code c)
  step_fits c h = by_depth (nat_le 257 (open_functions (c.frame ∷ c.callers)))
    where
      by_depth : (b : Bool) → StepFits n (if b then Waits (record { ask = Ask.Fails fault.TooDeep; line = line_of_newest code c.callers }) (λ t. c) else step_at code c (slice_get code.instrs c.frame.at))
      by_depth true = (tt, λ t. h)
      by_depth false = at_fits c (slice_get code.instrs c.frame.at) h

  -- Machines

  settled_fits : (c : Config) → ConfigFits n c → ConfigFits n (settled code c)
  settled_fits c h = settled_keeps code (ConfigFits n) (λ d e step k. subst (StepFits n) step (step_fits d k)) (suc (room code c)) c h

  resumed_fits : (v : ℕ) (c : Config) → ConfigFits n c → ConfigFits n (resumed code v c)
  resumed_fits v c h = by_step (one_step code c) (step_fits c h)
    where
      by_step : (s : Step) → StepFits n s → ConfigFits n (resumed_by s v c)
      by_step (Goes d) k = h
      by_step (Waits asked next) k = k.1 v

  machine_fits : (s : CodeScript) (answers : List ℕ) → ConfigFits n (machine_at code s answers).config
  machine_fits s [] = settled_fits (start_of s) ((tt, tt), tt)
  machine_fits s (v ∷ vs) = settled_fits (resumed code v (machine_at code s vs).config) (resumed_fits v (machine_at code s vs).config (machine_fits s vs))

  asked_fits : (s : Step) → StepFits n s → AskFits n (asked_in s).ask
  asked_fits (Goes d) h = tt
  asked_fits (Waits asked next) h = h.0

  -- what a body asks for
  pub asks_fit : (s : CodeScript) (answers : List ℕ) → AskFits n (asks code s answers).ask
  asks_fit s answers =
      subst (λ (a : Asked CodeScript). AskFits n a.ask) (sym (machine_asks code s answers)) (asked_fits (one_step code (machine_at code s answers).config) (step_fits (machine_at code s answers).config (machine_fits s answers)))
