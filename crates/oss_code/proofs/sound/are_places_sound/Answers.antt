use Rattle.std.proofs.Common.{◌<◌, below_more, refl, arith}
use Rattle.std.proofs.lemmas.Option.{slice_get_within}
use Rattle.oss_code.proofs.sound.are_places_sound.Goals as goal

pub returns-then-not-is_place_sound : goal.returns-then-not-is_place_sound
returns-then-not-is_place_sound c =
    (λ e. absurd cc, λ all. let sound = c.is_place_sound.ensures.1 (all c.loop-at.at) in cc sound)

pub loop-at-preserved : goal.loop-at-preserved
loop-at-preserved c = below_more _ _ c.loop-at.invariant (c.is_place_sound.ensures.0 c.if-not-is_place_sound.false)

pub returns : goal.returns
returns c = (
  λ _. λ at depth instr is stated.
      let within = slice_get_within c.args.parts.now.instrs at instr is in
      let passed : at < c.loop-at.at = omega (arith, within) in
      c.loop-at.invariant at passed depth instr is stated,
  λ _. refl,
)
