use Rattle.std.proofs.Common.{arith}
use Rattle.oss_code.proofs.sound.is_sound.Goals as goal

pub returns : goal.returns
returns c = (
  λ e. record {
    lined = omega arith;
    deep = omega arith;
    main = c.is_at_depth.ensures.0 c.if-not-is_at_depth.false;
    functions = c.are_functions_sound.ensures.0 c.if-not-are_functions_sound.false;
    each = c.are_places_sound.ensures.0 e;
  },
  λ sound. c.are_places_sound.ensures.1 sound.each,
)
