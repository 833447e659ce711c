use Rattle.std.proofs.Common.{refl}
use Rattle.oss_missing_waits.specs.Kept.{touch_of}
use Rattle.oss_missing_waits.proofs.FollowLemmas.{touch_more}
use Rattle.oss_missing_waits.proofs.following.Following.touch.Goals as goal

pub returns : goal.returns
returns c =
    let old = c.args.self.now in
    touch_more c.args.layout.now c.args.tasks.now (touch_of c.args.touch) c.args.cell c.args.line c.clause_at-clause.result old
    (record { alloc = old.alloc; current = record { number = old.current.number; task = c.touch.new.self }; above = old.above; told = old.told })
    c.clause_at-clause.ensures c.in_ok-touch.ensures (record { number = refl; above = refl; told = refl })
