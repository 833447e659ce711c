use Rattle.std.proofs.Common.{◌∙◌, ap, refl, sym}
use Rattle.oss_kept_tasks.specs.declared.held.Held.{Held}
use Rattle.oss_core.proofs.GoingLemmas.{read_is}
use Rattle.oss_core.proofs.KeepLemmas.{some_is}
use Rattle.oss_core.proofs.TreeFacts.{at_place}
use Rattle.oss_core.proofs.putting.put_body.Goals as goal

pub returns-clause-put : goal.returns-clause-put
returns-clause-put c =
    let y = at_place c.args.tasks.now.items c.args.at c.requires in
    record {
      before = c.index_mut.result.now;
      was = read_is c.args.tasks.now.items c.args.at c.index_mut.result.now y.0 y.1 c.index_mut.ensures.value;
      after = record { body = c.replace.new.dest; owed = c.index_mut.result.now.owed };
      body_is = c.replace.ensures.after;
      owed = refl;
      tasks = refl;
    }

pub returns-clause-taken : goal.returns-clause-taken
returns-clause-taken c =
    λ held h.
    let y = at_place c.args.tasks.now.items c.args.at c.requires in
    ap (λ (x : Held). x.body) (some_is (sym h ∙ read_is c.args.tasks.now.items c.args.at c.index_mut.result.now y.0 y.1 c.index_mut.ensures.value)) ∙ sym c.replace.ensures.value
