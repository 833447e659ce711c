use Rattle.oss_prior.proofs.run.finish.Goals as goal

-- a final core has an answer
pub unreachable-requires : goal.unreachable-requires
unreachable-requires g c =
    let final = c.requires.1 in
    c.in_ok-answer.ensures.none c.in-None.is c.requires.0 final.main final.first final.state final.core final.stopped

pub returns-clause-answer : goal.returns-clause-answer
returns-clause-answer g c = λ code main first s core. let h = rw c.in-Some.is at c.in_ok-answer.ensures.some in (h code main first s core).1
