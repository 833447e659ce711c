use Rattle.std.proofs.Common.{refl, sym, ◌∙◌, ap}
use Rattle.std.specs.Prelude.{slice_set}
use Rattle.oss_missing_waits.specs.declared.following.OpenTask.{OpenTask}
use Rattle.oss_missing_waits.proofs.FollowLemmas.{closed_none, closed_some}
use Rattle.oss_missing_waits.proofs.following.Following.close.Goals as goal

pub returns-in-Some : goal.returns-in-Some
returns-in-Some c =
    let old = c.args.self.now in
    closed_some old (record { alloc = old.alloc; current = c.replace-ended.new.dest; above = c.pop.new.self; told = c.fill_slot.new.slots })
    (record {
      creator = c.in-Some.creator;
      above = c.in-Some.ensures;
      current = c.replace-ended.ensures.after;
      told = c.fill_slot.ensures ∙ ap (λ (k : OpenTask). slice_set old.told.items k.number k.task.told) c.replace-ended.ensures.value;
    })

pub returns-in-None : goal.returns-in-None
returns-in-None c =
    let old = c.args.self.now in
    closed_none old (record { alloc = old.alloc; current = old.current; above = c.pop.new.self; told = old.told }) c.in-None.ensures.0 refl (c.in-None.ensures.1 ∙ sym c.in-None.ensures.0) refl
