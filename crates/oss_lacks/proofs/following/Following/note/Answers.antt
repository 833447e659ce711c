use Rattle.std.proofs.Common.{refl}
use Rattle.oss_open_needs.specs.Opening.{releases, waits}
use Rattle.oss_lacks.proofs.KeptLemmas.{asked_more, on_ok}
use Rattle.oss_lacks.proofs.NoteLemmas.{asked_cell, noted_create, noted_end, noted_none, noted_plain, noted_release, noted_wait}
use Rattle.oss_lacks.proofs.following.Following.note.Goals as goal

pub returns-in-Read : goal.returns-in-Read
returns-in-Read c = on_ok c.touch.result (λ h. noted_plain c.args.line c.args.created c.args.is_final c.args.self.now c.touch.new.self c.in-Read.is tt h) c.touch.ensures

pub returns-in-Write : goal.returns-in-Write
returns-in-Write c = on_ok c.touch-in-Write.result (λ h. noted_plain c.args.line c.args.created c.args.is_final c.args.self.now c.touch-in-Write.new.self c.in-Write.is tt h) c.touch-in-Write.ensures

pub returns-in-Fold : goal.returns-in-Fold
returns-in-Fold c = on_ok c.touch-in-Fold.result (λ h. noted_plain c.args.line c.args.created c.args.is_final c.args.self.now c.touch-in-Fold.new.self c.in-Fold.is tt h) c.touch-in-Fold.ensures

pub returns-in-Create : goal.returns-in-Create
returns-in-Create c = on_ok c.create.result (λ h. noted_create c.args.line c.args.created c.args.is_final c.args.self.now c.create.new.self c.in-Create.is c.get.ensures h) c.create.ensures

pub returns-in-WaitOn : goal.returns-in-WaitOn
returns-in-WaitOn c = on_ok c.wait.result (λ h. noted_wait c.args.line c.args.created c.args.is_final c.args.self.now _ c.in-WaitOn.is c.as_slice.ensures (asked_more (waits c.as_slice.result.now) c.args.self.now (record { alloc = c.args.self.now.alloc; needs = c.wait.new.self; current = c.args.self.now.current; above = c.args.self.now.above; tasks = c.args.self.now.tasks }) h refl refl refl)) c.wait.ensures

pub returns-in-Release : goal.returns-in-Release
returns-in-Release c = on_ok c.release.result (λ h. noted_release c.args.line c.args.created c.args.is_final c.args.self.now _ c.in-Release.is c.as_slice-in-Release.ensures (asked_more (releases c.as_slice-in-Release.result.now) c.args.self.now (record { alloc = c.args.self.now.alloc; needs = c.release.new.self; current = c.args.self.now.current; above = c.args.self.now.above; tasks = c.args.self.now.tasks }) h refl refl refl)) c.release.ensures

pub returns-in-End : goal.returns-in-End
returns-in-End c = on_ok c.end.result (λ h. noted_end c.args.line c.args.created c.args.is_final c.args.self.now c.end.new.self c.in-End.is h) c.end.ensures

pub returns-in-Begin : goal.returns-in-Begin
returns-in-Begin c = noted_none c.args.line c.args.created c.args.is_final c.args.self.now c.in-Begin.is tt (λ asked. refl)

pub returns-in-Tick : goal.returns-in-Tick
returns-in-Tick c = noted_none c.args.line c.args.created c.args.is_final c.args.self.now c.in-Tick.is tt (λ asked. refl)

pub returns-in-Await : goal.returns-in-Await
returns-in-Await c = noted_none c.args.line c.args.created c.args.is_final c.args.self.now c.in-Await.is tt (λ asked. refl)

pub returns-in-Wait : goal.returns-in-Wait
returns-in-Wait c = noted_none c.args.line c.args.created c.args.is_final c.args.self.now c.in-Wait.is tt (λ asked. refl)

pub returns-in-Print : goal.returns-in-Print
returns-in-Print c = noted_none c.args.line c.args.created c.args.is_final c.args.self.now c.in-Print.is tt (λ asked. refl)

pub returns-in-Fault : goal.returns-in-Fault
returns-in-Fault c = noted_none c.args.line c.args.created c.args.is_final c.args.self.now c.in-Fault.is tt (λ asked. refl)

pub touch-requires : goal.touch-requires
touch-requires c = c.requires.touches c.in-Read.cell (asked_cell c.in-Read.is c.in-Read.cell refl)

pub touch-requires-in-Write : goal.touch-requires-in-Write
touch-requires-in-Write c = c.requires.touches c.in-Write.cell (asked_cell c.in-Write.is c.in-Write.cell refl)

pub touch-requires-in-Fold : goal.touch-requires-in-Fold
touch-requires-in-Fold c = c.requires.touches c.in-Fold.cell (asked_cell c.in-Fold.is c.in-Fold.cell refl)
