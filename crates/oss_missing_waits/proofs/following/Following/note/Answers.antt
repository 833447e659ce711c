use Rattle.std.proofs.Common.{refl}
use Rattle.oss_model.specs.Context.{in_clauses}
use Rattle.oss_lent_cells.specs.Kept.{in_ranges}
use Rattle.oss_missing_waits.specs.Holding.{releases}
use Rattle.oss_missing_waits.specs.declared.following.Following.{Following}
use Rattle.oss_missing_waits.specs.Kept.{waits_for}
use Rattle.oss_machine.specs.declared.ask.Ask.TheVariants as asked
use Rattle.oss_missing_waits.proofs.FollowLemmas.{directive_more, noted_create, noted_end, noted_fold, noted_none, noted_read, noted_release, noted_wait, noted_wait_on, noted_write}
use Rattle.oss_missing_waits.proofs.following.Following.note.Goals as goal

pub returns-in_ok-touch-in-Read : goal.returns-in_ok-touch-in-Read
returns-in_ok-touch-in-Read c = noted_read c.args.layout.now c.args.tasks.now c.args.line c.args.created c.args.is_final c.args.ask.now _ c.args.self.now c.touch.new.self c.in-Read.is c.in_ok-touch-in-Read.ensures

pub returns-in_ok-touch-in-Write : goal.returns-in_ok-touch-in-Write
returns-in_ok-touch-in-Write c =
    noted_write c.args.layout.now c.args.tasks.now c.args.line c.args.created c.args.is_final c.args.ask.now _ _ c.args.self.now c.touch-in-Write.new.self c.in-Write.is c.in_ok-touch-in-Write.ensures

pub returns-in_ok-touch-in-Fold : goal.returns-in_ok-touch-in-Fold
returns-in_ok-touch-in-Fold c =
    noted_fold c.args.layout.now c.args.tasks.now c.args.line c.args.created c.args.is_final c.args.ask.now _ _ _ c.args.self.now c.touch-in-Fold.new.self c.in-Fold.is c.in_ok-touch-in-Fold.ensures

pub returns-in-End : goal.returns-in-End
returns-in-End c = noted_end c.args.layout.now c.args.tasks.now c.args.line c.args.created c.args.is_final c.args.ask.now c.args.self.now c.close-more.new.self c.close-more.result c.in-End.is c.close-more.ensures

pub returns-in-Wait : goal.returns-in-Wait
returns-in-Wait c =
    let old = c.args.self.now in
    noted_wait c.args.layout.now c.args.tasks.now c.args.line c.args.created c.args.is_final c.args.ask.now old
    (record { alloc = old.alloc; current = record { number = old.current.number; task = c.wait.new.self }; above = old.above; told = old.told }) c.in-Wait.is c.wait.ensures (record { number = refl; above = refl; told = refl })

pub returns-in_ok-wait_on-in-WaitOn : goal.returns-in_ok-wait_on-in-WaitOn
returns-in_ok-wait_on-in-WaitOn c =
    let old = c.args.self.now in
    let xs = c.as_slice.result.now in
    let new : Following = record { alloc = old.alloc; current = record { number = old.current.number; task = c.wait_on.new.self }; above = old.above; told = old.told } in
    noted_wait_on c.args.layout.now c.args.tasks.now c.args.line c.args.created c.args.is_final c.args.ask.now _ xs old new c.in-WaitOn.is c.as_slice.ensures
    (directive_more c.args.layout.now c.args.tasks.now (in_ranges xs) c.args.line (waits_for xs) old new (λ h. refl) c.in_ok-wait_on-in-WaitOn.ensures (record { number = refl; above = refl; told = refl }))

pub returns-in_ok-release-in-Release : goal.returns-in_ok-release-in-Release
returns-in_ok-release-in-Release c =
    let old = c.args.self.now in
    let xs = c.as_slice-in-Release.result.now in
    let new : Following = record { alloc = old.alloc; current = record { number = old.current.number; task = c.release.new.self }; above = old.above; told = old.told } in
    noted_release c.args.layout.now c.args.tasks.now c.args.line c.args.created c.args.is_final c.args.ask.now _ xs old new c.in-Release.is c.as_slice-in-Release.ensures
    (directive_more c.args.layout.now c.args.tasks.now (in_clauses xs) c.args.line (releases xs) old new (λ h. refl) c.in_ok-release-in-Release.ensures (record { number = refl; above = refl; told = refl }))

pub returns-in_ok-create-in-Create : goal.returns-in_ok-create-in-Create
returns-in_ok-create-in-Create c =
    noted_create c.args.layout.now c.args.tasks.now c.args.line c.args.created c.args.is_final c.args.ask.now _ c.get-order.result.now c.lends_to-lends.result c.args.self.now c.create.new.self c.in-Create.is c.get-order.ensures c.lends_to-lends.ensures
    c.in_ok-create-in-Create.ensures

pub returns-in-Begin : goal.returns-in-Begin
returns-in-Begin c = noted_none c.args.layout.now c.args.tasks.now c.args.line c.args.created c.args.is_final c.args.ask.now asked.Begin c.args.self.now c.in-Begin.is tt

pub returns-in-Tick : goal.returns-in-Tick
returns-in-Tick c = noted_none c.args.layout.now c.args.tasks.now c.args.line c.args.created c.args.is_final c.args.ask.now asked.Tick c.args.self.now c.in-Tick.is tt

pub returns-in-Await : goal.returns-in-Await
returns-in-Await c = noted_none c.args.layout.now c.args.tasks.now c.args.line c.args.created c.args.is_final c.args.ask.now asked.Await c.args.self.now c.in-Await.is tt

pub returns-in-Print : goal.returns-in-Print
returns-in-Print c = noted_none c.args.layout.now c.args.tasks.now c.args.line c.args.created c.args.is_final c.args.ask.now _ c.args.self.now c.in-Print.is tt

pub returns-in-Fault : goal.returns-in-Fault
returns-in-Fault c = noted_none c.args.layout.now c.args.tasks.now c.args.line c.args.created c.args.is_final c.args.ask.now _ c.args.self.now c.in-Fault.is tt
