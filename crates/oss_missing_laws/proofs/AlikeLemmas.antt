-- Tasks of a program's own run and of its free run, side by side.
use Rattle.std.proofs.Common.{◌≡◌, refl, sym, subst, ap, ◌∙◌, ℕ, Bool, true, false, List, ◌∷◌, Option, Some, None}
use Rattle.std.specs.Prelude.{if◌then◌else◌, nat_le, nat_lt}
use Rattle.oss_syntax.specs.declared.fault.FaultKind.{FaultKind}
use Rattle.oss_syntax.specs.declared.fault.FaultKind.TheVariants as fault
use Rattle.oss_model.specs.Context.{create_fault, tick_fault}
use Rattle.oss_model.specs.Bodies.{Ask, Frame, Program, answered_frame, ask_of, past_ask, past_silent, settled_frame}
use Rattle.oss_missing_laws.specs.Programs.{IsSilent, SettlesInTwo}

-- Both run the same, with the same answers and the same counts. What they may do is another matter.
pub record IsAlike {S : Type 0} (f g : Frame S) : Type 0 where
  pub script : f.script ≡ g.script
  pub answers : f.answers ≡ g.answers
  pub ticks : f.context.ticks ≡ g.context.ticks
  pub fuel : f.context.fuel ≡ g.context.fuel
  pub created : f.context.created ≡ g.context.created
  pub depth : f.context.depth ≡ g.context.depth
  pub final : f.context.final ≡ g.context.final
  pub awaits : f.awaits ≡ g.awaits

pub create_alike : {S : Type 0} {f g : Frame S} → IsAlike f g → create_fault f.context ≡ create_fault g.context
create_alike {f = f} {g = g} a =
    ap (λ (d : ℕ). if nat_le 64 d then Some fault.TooDeep else if nat_le 65535 f.context.created then Some fault.TooManyTasks else None) a.depth
    ∙ ap (λ (k : ℕ). if nat_le 64 g.context.depth then Some fault.TooDeep else if nat_le 65535 k then Some fault.TooManyTasks else None) a.created

pub tick_alike : {S : Type 0} {f g : Frame S} → IsAlike f g → tick_fault f.context ≡ tick_fault g.context
tick_alike {f = f} {g = g} a =
    ap (λ (k : ℕ). if nat_lt k f.context.fuel then None else Some fault.OutOfFuel) a.ticks ∙ ap (λ (k : ℕ). if nat_lt g.context.ticks k then None else Some fault.OutOfFuel) a.fuel

pub ask_alike : {S : Type 0} (P : Program S) {f g : Frame S} → IsAlike f g → ask_of P f ≡ ask_of P g
ask_alike P {f = f} {g = g} a = ap (λ (s : _). P s f.answers) a.script ∙ ap (λ (vs : List ℕ). P g.script vs) a.answers

-- the answers of a task that has passed an ask which is no act
abbrev pub passed : {S : Type 0} → Ask S → Option FaultKind → Bool → List ℕ → List ℕ
passed Ask.Begin None awaits answers = 0 ∷ answers
passed Ask.Await o false answers = 0 ∷ answers
passed _ o awaits answers = answers

module _ {S : Type 0} (P : Program S) where
  past_is : (f : Frame S) (q : Ask S) → past_ask P f q ≡ record f { answers = passed q (create_fault f.context) f.awaits f.answers }
  past_is f Ask.Begin = go (create_fault f.context)
    where
      go : (o : Option FaultKind) → elim o [ None ↦ answered_frame 0 f | Some kind ↦ f ] ≡ record f { answers = passed {S = S} Ask.Begin o f.awaits f.answers }
      go None = refl
      go (Some kind) = refl
  past_is f Ask.Await = go f.awaits
    where
      go : (b : Bool) → (if b then f else answered_frame 0 f) ≡ record f { answers = passed {S = S} Ask.Await (create_fault f.context) b f.answers }
      go true = refl
      go false = refl
  past_is f Ask.Tick = refl
  past_is f (Ask.Read c) = refl
  past_is f (Ask.Write c v) = refl
  past_is f (Ask.Fold c op v) = refl
  past_is f (Ask.Create o) = refl
  past_is f Ask.Wait = refl
  past_is f (Ask.WaitOn named) = refl
  past_is f (Ask.Release clauses) = refl
  past_is f (Ask.Print text) = refl
  past_is f Ask.End = refl
  past_is f (Ask.Fails kind) = refl

  -- one ask passed, and two
  abbrev pub once : S → Option FaultKind → Bool → List ℕ → List ℕ
  once script o awaits answers = passed (P script answers).ask o awaits answers

  abbrev pub twice : S → Option FaultKind → Bool → List ℕ → List ℕ
  twice script o awaits answers = once script o awaits (once script o awaits answers)

  pub settled_is : (f : Frame S) → settled_frame P f ≡ record f { answers = twice f.script (create_fault f.context) f.awaits f.answers }
  settled_is f =
      ap (λ (g : Frame S). past_silent P g) (past_is f (ask_of P f).ask)
      ∙ past_is (record f { answers = once f.script (create_fault f.context) f.awaits f.answers }) (P f.script (once f.script (create_fault f.context) f.awaits f.answers)).ask

  pub settled_alike : (f g : Frame S) → IsAlike f g → IsAlike (settled_frame P f) (settled_frame P g)
  settled_alike f g a = subst (λ (x : Frame S). IsAlike x (settled_frame P g)) (sym (settled_is f)) (subst (λ (x : Frame S). IsAlike (record f { answers = twice f.script (create_fault f.context) f.awaits f.answers }) x) (sym (settled_is g)) both)
    where
      same : twice f.script (create_fault f.context) f.awaits f.answers ≡ twice g.script (create_fault g.context) g.awaits g.answers
      same =
          ap (λ (s : S). twice s (create_fault f.context) f.awaits f.answers) a.script ∙ ap (λ (o : Option FaultKind). twice g.script o f.awaits f.answers) (create_alike a)
          ∙ ap (λ (b : Bool). twice g.script (create_fault g.context) b f.answers) a.awaits ∙ ap (λ (vs : List ℕ). twice g.script (create_fault g.context) g.awaits vs) a.answers

      both : IsAlike (record f { answers = twice f.script (create_fault f.context) f.awaits f.answers }) (record g { answers = twice g.script (create_fault g.context) g.awaits g.answers })
      both = record { script = a.script; answers = same; ticks = a.ticks; fuel = a.fuel; created = a.created; depth = a.depth; final = a.final; awaits = a.awaits }

  -- A task that awaits another passes what stands before its next act only in part, and the rest behind the await.
  data Passes (q : Ask S) (o : Option FaultKind) (awaits : Bool) (answers : List ℕ) : Type 0 where
    stays : passed q o awaits answers ≡ answers → Passes q o awaits answers
    goes : passed q o awaits answers ≡ 0 ∷ answers → passed q o false answers ≡ 0 ∷ answers → IsSilent q → Passes q o awaits answers

  passes : (q : Ask S) (o : Option FaultKind) (awaits : Bool) (answers : List ℕ) → Passes q o awaits answers
  passes Ask.Begin None awaits answers = goes refl refl tt
  passes Ask.Begin (Some kind) awaits answers = stays refl
  passes Ask.Await o true answers = stays refl
  passes Ask.Await o false answers = goes refl refl tt
  passes Ask.Tick o awaits answers = stays refl
  passes (Ask.Read c) o awaits answers = stays refl
  passes (Ask.Write c v) o awaits answers = stays refl
  passes (Ask.Fold c op v) o awaits answers = stays refl
  passes (Ask.Create order) o awaits answers = stays refl
  passes Ask.Wait o awaits answers = stays refl
  passes (Ask.WaitOn named) o awaits answers = stays refl
  passes (Ask.Release clauses) o awaits answers = stays refl
  passes (Ask.Print text) o awaits answers = stays refl
  passes Ask.End o awaits answers = stays refl
  passes (Ask.Fails kind) o awaits answers = stays refl

  module _ (two : SettlesInTwo P) (script : S) (o : Option FaultKind) where
    stand : (awaits : Bool) (answers : List ℕ) → Passes (P script answers).ask o awaits answers
    stand awaits answers = passes (P script answers).ask o awaits answers

    -- behind two of them stands none
    third : (answers : List ℕ) → IsSilent (P script answers).ask → IsSilent (P script (0 ∷ answers)).ask → once script o false (0 ∷ 0 ∷ answers) ≡ 0 ∷ 0 ∷ answers
    third answers a b = go (stand false (0 ∷ 0 ∷ answers))
      where
        go : Passes (P script (0 ∷ 0 ∷ answers)).ask o false (0 ∷ 0 ∷ answers) → once script o false (0 ∷ 0 ∷ answers) ≡ 0 ∷ 0 ∷ answers
        go (stays e) = e
        go (goes e f c) = absurd (two script answers a b c)

    late : (answers : List ℕ) → twice script o false (twice script o true answers) ≡ twice script o false answers
    late answers = go (stand true answers)
      where
        -- the second ask is passed behind the await
        after : IsSilent (P script answers).ask → Passes (P script (0 ∷ answers)).ask o false (0 ∷ answers) → once script o false (once script o false (0 ∷ answers)) ≡ once script o false (0 ∷ answers)
        after a (stays e) = ap (λ (vs : List ℕ). once script o false vs) e
        after a (goes e f b) = ap (λ (vs : List ℕ). once script o false vs) e ∙ third answers a b ∙ sym e

        second : IsSilent (P script answers).ask → once script o true answers ≡ 0 ∷ answers → once script o false answers ≡ 0 ∷ answers → Passes (P script (0 ∷ answers)).ask o true (0 ∷ answers)
            → twice script o false (twice script o true answers) ≡ twice script o false answers
        second a e f (stays k) =
            ap (λ (vs : List ℕ). twice script o false (once script o true vs)) e ∙ ap (λ (vs : List ℕ). twice script o false vs) k
            ∙ after a (stand false (0 ∷ answers)) ∙ sym (ap (λ (vs : List ℕ). once script o false vs) f)
        second a e f (goes k l b) =
            ap (λ (vs : List ℕ). twice script o false (once script o true vs)) e ∙ ap (λ (vs : List ℕ). twice script o false vs) k
            ∙ ap (λ (vs : List ℕ). once script o false vs) (third answers a b) ∙ third answers a b ∙ sym (ap (λ (vs : List ℕ). once script o false vs) f ∙ l)

        go : Passes (P script answers).ask o true answers → twice script o false (twice script o true answers) ≡ twice script o false answers
        go (stays e) = ap (λ (vs : List ℕ). twice script o false (once script o true vs)) e ∙ ap (λ (vs : List ℕ). twice script o false vs) e
        go (goes e f a) = second a e f (stand true (0 ∷ answers))

  abbrev pub awaiting : Bool → Frame S → Frame S
  awaiting b f = record f { awaits = b }

  pub settled_late : SettlesInTwo P → (x : Frame S) → settled_frame P (awaiting false (settled_frame P (awaiting true x))) ≡ settled_frame P (awaiting false x)
  settled_late two x =
      ap (λ (g : Frame S). settled_frame P (awaiting false g)) (settled_is (awaiting true x))
      ∙ settled_is (record x { answers = twice x.script (create_fault x.context) true x.answers; awaits = false })
      ∙ ap (λ (vs : List ℕ). record x { answers = vs; awaits = false }) (late two x.script (create_fault x.context) x.answers)
      ∙ sym (settled_is (awaiting false x))

  -- The tasks stand side by side; or the free run stands at an await that the program's own run does not have, and has passed the rest.
  pub data IsBeside (f g : Frame S) : Type 0 where
    even : IsAlike f g → IsBeside f g
    ahead : (x : Frame S) → IsAlike f (settled_frame P (awaiting false x)) → g ≡ settled_frame P (awaiting true x) → x.context.final ≡ false → IsBeside f g
