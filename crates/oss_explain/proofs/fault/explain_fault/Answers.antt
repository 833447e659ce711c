use Rattle.std.proofs.Common.{subst, sym}
use Rattle.oss_machine.specs.Asks.{meant_ask}
use Rattle.oss_explain.specs.declared.ending.Ending.TheVariants as ending
use Rattle.oss_explain.specs.Endings.{IsEndingOf}
use Rattle.oss_explain.proofs.FaultLemmas.{asked_here, ending_here, failure_here, noted_here, runs_here}
use Rattle.oss_explain.proofs.fault.explain_fault.Goals as goal

pub pending-requires : goal.pending-requires
pending-requires c = record { running = runs_here c.args.code.now c.args.fuel c.args.current.now c.args.ledger.now c.args.kind c.args.line c.requires.stands }

pub told_of-requires-clause-fault : goal.told_of-requires-clause-fault
told_of-requires-clause-fault c =
    let st = c.requires.stands in
    asked_here c.args.code.now c.args.fuel c.args.current.now c.args.ledger.now c.args.kind c.args.line st c.acting.result.now (meant_ask c.asked.result.now) (c.acting.ensures c.args.code.now st.body.start st.body.found st.is_body)
    (c.asked.ensures c.args.code.now st.body.start st.body.found st.is_body)

pub told_of-requires-clause-noted : goal.told_of-requires-clause-noted
told_of-requires-clause-noted c =
    let st = c.requires.stands in
    noted_here c.args.code.now c.args.fuel c.args.current.now c.args.ledger.now c.args.kind c.args.line st c.acting.result.now (c.acting.ensures c.args.code.now st.body.start st.body.found st.is_body)

pub failure-failure-requires : goal.failure-failure-requires
failure-failure-requires c = record { running = runs_here c.args.code.now c.args.fuel c.args.current.now c.args.ledger.now c.args.kind c.args.line c.requires.stands }

pub returns-in-Ok : goal.returns-in-Ok
returns-in-Ok c =
    let st = c.requires.stands in
    record {
      ending = subst (λ found. IsEndingOf c.args.code.now c.args.fuel c.args.program.now.items (ending.Fault c.args.kind c.args.line found)) (sym c.explained.ensures)
          (ending_here c.args.code.now c.args.fuel c.args.current.now c.args.ledger.now c.args.kind c.args.line st c.args.program.now.items c.in_ok-who.who c.in-Ok.told c.pending.result.now c.acting.result.now
          (meant_ask c.asked.result.now) (c.pending.ensures.act c.args.code.now st.body.start st.body.found st.is_body) (c.acting.ensures c.args.code.now st.body.start st.body.found st.is_body)
          (c.asked.ensures c.args.code.now st.body.start st.body.found st.is_body) c.in_ok-who.ensures c.in-Ok.ensures);
      failure = failure_here c.args.code.now c.args.fuel c.args.current.now c.args.ledger.now c.args.kind c.args.line st c.failure-failure.result (c.failure-failure.ensures st.body.start st.body.found st.is_body);
    }
