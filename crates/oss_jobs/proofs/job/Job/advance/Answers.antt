use Rattle.std.proofs.Common.{refl, subst, ap, ◌∙◌}
use Rattle.oss_body.specs.declared.act.Act.{Act}
use Rattle.oss_body.specs.Acts.{act_seen, answer_to}
use Rattle.oss_body.specs.Relation.{pending_of}
use Rattle.oss_segment.specs.Segments.{IsKeyed, with_print}
use Rattle.oss_jobs.proofs.JobLemmas.{went_on}
use Rattle.oss_jobs.proofs.job.Job.advance.Goals as goal

pub returns-in-Ok-clause-ok : goal.returns-in-Ok-clause-ok
returns-in-Ok-clause-ok c =
    went_on c.args.code.now c.args.self.now _ (answer_to (act_seen (pending_of c.args.self.now.body)) c.args.loaded) c.requires.running c.in-Ok.ensures.ok
    (c.in_ok-add_print.ensures.prints ∙ ap (λ (a : Act). with_print a c.args.self.now.prints.items) c.pending.ensures.kept)
    (subst (λ (a : Act). IsKeyed a) c.pending.ensures.kept c.in_ok-add_print.ensures.keyed)
    (record { task = refl; cells = refl; entries = λ cell. refl; last = record { lasts = λ cell. refl; last_child = refl; room = λ accesses enough. enough } })
