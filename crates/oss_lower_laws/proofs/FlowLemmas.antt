-- Pieces of a code that are sound: their depths, where they lead, and how pieces that follow each other are put together.
use Rattle.std.proofs.Common.{◌≡◌, ◌∙◌, ℕ, ◌+◌, ◌-◌, ◌≤◌, List, [], ◌∷◌, ◌++◌, length, refl, sym, ap, subst, arith, length-append}
use Rattle.std.specs.Prelude.{slice_get}
use Rattle.oss_code.specs.Shapes.{enters, leads, leaves, takes}
use Rattle.oss_code.specs.Soundness.{AreWays, IsAtDepth, IsEntry, IsFunction, IsSoundAt}
use Rattle.oss_code.specs.declared.code.CodeParts.{CodeParts}
use Rattle.oss_code.specs.declared.instr.Instr.{Instr}
use Rattle.oss_code.specs.declared.instr.Instr.TheVariants as i
use Rattle.oss_code.specs.declared.ways.Entry.TheVariants as entry
use Rattle.oss_code.specs.declared.ways.Way.TheVariants as way
use Rattle.oss_code.specs.declared.ways.Ways.TheVariants as ways
use Rattle.oss_lower_laws.specs.declared.lined.Lined.{Lined}

-- The depths of these instructions stand in the code from this place on.
abbrev pub DepthsAt : CodeParts → ℕ → List Lined → Type 0
DepthsAt code pc [] = Unit {0}
DepthsAt code pc (x ∷ xs) = IsAtDepth code pc x.depth × DepthsAt code (pc + 1) xs

-- These instructions are sound there.
abbrev pub SoundFrom : CodeParts → ℕ → List Lined → Type 0
SoundFrom code pc [] = Unit {0}
SoundFrom code pc (x ∷ xs) = IsSoundAt code pc x.depth x.what × SoundFrom code (pc + 1) xs

-- A piece that begins with so many values and comes to its end with so many: if its depths stand there, and at its end that one, then it is
-- sound, and begins with its own.
abbrev pub Flows : CodeParts → ℕ → List Lined → ℕ → ℕ → Type 0
Flows code pc xs from after = DepthsAt code pc xs → IsAtDepth code (pc + length xs) after → IsAtDepth code pc from × SoundFrom code pc xs

-- An instruction that takes so many values, leaves so many, leads to the next one, and enters nothing.
pub record IsSimple (what : Instr) (taken left : ℕ) : Type 0 where
  pub takes_is : takes what ≡ taken
  pub leaves_is : leaves what ≡ left
  pub leads_is : leads what ≡ ways.One (way.Ahead 0)
  pub enters_is : enters what ≡ entry.Nothing

module _ (code : CodeParts) where
  pub depths_front : (pc : ℕ) (a b : List Lined) → DepthsAt code pc (a ++ b) → DepthsAt code pc a
  depths_front pc [] b h = tt
  depths_front pc (x ∷ a) b h = (h.0, depths_front (pc + 1) a b h.1)

  pub depths_back : (pc : ℕ) (a b : List Lined) → DepthsAt code pc (a ++ b) → DepthsAt code (pc + length a) b
  depths_back pc [] b h = let e : pc ≡ pc + 0 = omega arith in subst (λ n. DepthsAt code n b) e h
  depths_back pc (x ∷ a) b h =
      let e : pc + 1 + length a ≡ pc + length (x ∷ a) = omega arith in
      subst (λ n. DepthsAt code n b) e (depths_back (pc + 1) a b h.1)

  pub sound_append : (pc : ℕ) (a b : List Lined) → SoundFrom code pc a → SoundFrom code (pc + length a) b → SoundFrom code pc (a ++ b)
  sound_append pc [] b h k = let e : pc + 0 ≡ pc = omega arith in subst (λ n. SoundFrom code n b) e k
  sound_append pc (x ∷ a) b h k =
      let e : pc + length (x ∷ a) ≡ pc + 1 + length a = omega arith in
      (h.0, sound_append (pc + 1) a b h.1 (subst (λ n. SoundFrom code n b) e k))

  pub at_depth : (p q d e : ℕ) → p ≡ q → d ≡ e → IsAtDepth code p d → IsAtDepth code q e
  at_depth p q d e same deep h = subst (λ x. IsAtDepth code q x) deep (subst (λ x. IsAtDepth code x d) same h)

  -- one piece after the other
  pub flows_then : (pc : ℕ) (a b : List Lined) (from mid after : ℕ) → Flows code pc a from mid → Flows code (pc + length a) b mid after → Flows code pc (a ++ b) from after
  flows_then pc a b from mid after fa fb depths exit =
      let right = fb (depths_back pc a b depths) (at_depth (pc + length (a ++ b)) (pc + length a + length b) after after (omega (arith, length-append a b)) refl exit) in
      let left = fa (depths_front pc a b depths) right.0 in
      (left.0, sound_append pc a b left.1 right.1)

  pub flows_none : (pc depth : ℕ) → Flows code pc [] depth depth
  flows_none pc depth depths exit = (at_depth (pc + 0) pc depth depth (omega arith) refl exit, tt)

  -- Instructions

  pub simple_sound : (pc depth taken left after : ℕ) (what : Instr) → IsSimple what taken left → taken ≤ depth → depth - taken + left ≡ after → IsAtDepth code (pc + 1) after → IsSoundAt code pc depth what
  simple_sound pc depth taken left after what simple le same exit = record {
    taken = subst (λ k. k ≤ depth) (sym simple.takes_is) le;
    ways =
        subst (λ w. AreWays code pc (depth - takes what + leaves what) w) (sym simple.leads_is)
        (at_depth (pc + 1) (pc + 1 + 0) after (depth - takes what + leaves what) (omega arith) (sym same ∙ ap (λ k. depth - k + left) (sym simple.takes_is) ∙ ap (λ k. depth - takes what + k) (sym simple.leaves_is)) exit);
    entered = subst (λ e. IsEntry code pc e) (sym simple.enters_is) tt;
  }

  -- one such instruction
  pub flows_one : (pc line depth taken left after : ℕ) (what : Instr) → IsSimple what taken left → taken ≤ depth → depth - taken + left ≡ after
      → Flows code pc (record { what = what; line = line; depth = depth } ∷ []) depth after
  flows_one pc line depth taken left after what simple le same depths exit = (depths.0, (simple_sound pc depth taken left after what simple le same exit, tt))

  pub skip_sound : (pc depth passed to : ℕ) → to ≡ pc + 1 + passed → IsAtDepth code to depth → IsSoundAt code pc depth (i.Skip passed)
  skip_sound pc depth passed to t h = record { taken = omega arith; ways = at_depth to (pc + 1 + passed) depth (depth - 0 + 0) t (omega arith) h; entered = tt }

  pub unless_sound : (pc depth passed to : ℕ) → to ≡ pc + 1 + passed → IsAtDepth code (pc + 1) depth → IsAtDepth code to depth → IsSoundAt code pc (depth + 1) (i.SkipUnless passed)
  unless_sound pc depth passed to t h k = record {
    taken = omega arith;
    ways = (at_depth (pc + 1) (pc + 1 + 0) depth (depth + 1 - 1 + 0) (omega arith) (omega arith) h, at_depth to (pc + 1 + passed) depth (depth + 1 - 1 + 0) t (omega arith) k);
    entered = tt;
  }

  pub again_sound : (pc passed : ℕ) → passed ≤ pc → IsAtDepth code (pc - passed) 0 → IsSoundAt code pc 0 (i.Again passed)
  again_sound pc passed le h = record { taken = omega arith; ways = (le, h); entered = tt }

  pub return_sound : (pc : ℕ) → IsSoundAt code pc 1 i.Return
  return_sound pc = record { taken = omega arith; ways = tt; entered = tt }

  pub create_sound : (pc passed to : ℕ) → to ≡ pc + 1 + passed → IsAtDepth code (pc + 1) 0 → IsAtDepth code to 0 → IsSoundAt code pc 0 (i.Create passed)
  create_sound pc passed to t h k = record { taken = omega arith; ways = at_depth (pc + 1) (pc + 1 + 0) 0 0 (omega arith) refl h; entered = at_depth to (pc + 1 + passed) 0 0 t refl k }

  pub turns_sound : (pc passed to : ℕ) → to ≡ pc + 1 + passed → IsAtDepth code (pc + 1) 0 → IsAtDepth code to 0 → IsSoundAt code pc 2 (i.Turns passed)
  turns_sound pc passed to t h k = record { taken = omega arith; ways = (at_depth (pc + 1) (pc + 1 + 0) 0 0 (omega arith) refl h, at_depth to (pc + 1 + passed) 0 0 t refl k); entered = tt }

  pub next_turn_sound : (pc passed : ℕ) → passed ≤ pc → IsAtDepth code (pc + 1) 0 → IsAtDepth code (pc - passed) 0 → IsSoundAt code pc 0 (i.NextTurn passed)
  next_turn_sound pc passed le h k = record { taken = omega arith; ways = (at_depth (pc + 1) (pc + 1 + 0) 0 0 (omega arith) refl h, (le, k)); entered = tt }

  pub call_sound : (pc depth f count : ℕ) → IsFunction code (slice_get code.functions f) → IsAtDepth code (pc + 1) (depth + 1) → IsSoundAt code pc (depth + count) (i.Call f count)
  call_sound pc depth f count there h = record { taken = omega arith; ways = at_depth (pc + 1) (pc + 1 + 0) (depth + 1) (depth + count - count + 1) (omega arith) (omega arith) h; entered = there }

  pub spawn_sound : (pc depth f count : ℕ) → IsFunction code (slice_get code.functions f) → IsAtDepth code (pc + 1) (depth + 1) → IsSoundAt code pc (depth + count) (i.Spawn f count)
  spawn_sound pc depth f count there h = record { taken = omega arith; ways = at_depth (pc + 1) (pc + 1 + 0) (depth + 1) (depth + count - count + 1) (omega arith) (omega arith) h; entered = there }
