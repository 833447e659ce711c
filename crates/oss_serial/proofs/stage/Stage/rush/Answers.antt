use Rattle.std.proofs.Common.{refl}
use Rattle.oss_serial.proofs.RushLemmas.{rushed_on}
use Rattle.oss_serial.proofs.stage.Stage.rush.Goals as goal

pub returns-clause-further : goal.returns-clause-further
returns-clause-further c = λ main first st. rushed_on c.args.code.now main first c.args.self.now _ c.rush.result st (c.rush.ensures.rushed st.current.start st.current.found st.is_current) refl refl refl
