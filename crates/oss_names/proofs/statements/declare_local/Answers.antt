use Rattle.std.proofs.Common.{◌∙◌, sym}
use Rattle.oss_names.proofs.EndLemmas.{local-declared}
use Rattle.oss_names.proofs.statements.declare_local.Goals as goal

pub returns-in-Ok : goal.returns-in-Ok
returns-in-Ok c =
    local-declared c.args.globals.now c.args.start c.args.local.now c.args.locals.now c.add.new.self (sym c.refusal_of_local.ensures ∙ c.in-None.is) c.in-Ok.ensures.added
