use Rattle.oss_program_tests.proofs.tests.schedules.is_made.Goals as goal

pub returns-in-Ok : goal.returns-in-Ok
returns-in-Ok g c =
    let before = c.requires in
    let t = c.in-Ok.ensures.ok before.main before.first before.state before.core in
    record { main = before.main; first = before.first; state = t.0; core = t.2 }
