use Rattle.std.proofs.Common.{◌<◌, length, sym, subst, ap, ◌∙◌}
use Rattle.oss_access_lists.specs.Flags.{Means, has}
use Rattle.oss_access_lists.specs.Kept.{Kept}
use Rattle.oss_access_lists.specs.Tables.{marks_at, wires_of}
use Rattle.oss_access_lists.proofs.DeliverLemmas.{rest_told}
use Rattle.oss_access_lists.proofs.access_list.AccessList.flags.Goals as goal

pub returns-clause-sound : goal.returns-clause-sound
returns-clause-sound c = λ f h.
    subst (λ (k : Kept). Means (wires_of k.hangs) f c.args.at) c.self.view_is
    ((rest_told c.self.inside.hangs.items c.self.inside.stand.items c.self.inside.posted.items c.self.inside.behind.items c.self.inside.head c.self.invariant
    (ap (λ (k : Kept). k.head) c.self.view_is ∙ c.requires.rest) f c.args.at c.requires.main
    (subst (λ (k : Kept). c.args.at < length k.hangs) (sym c.self.view_is) c.requires.within)).sound
    (sym (ap (has f) (c.marks_at.ensures ∙ ap (λ y. marks_at y c.args.at) c.as_slice.ensures.value)) ∙ h))

pub returns-clause-complete : goal.returns-clause-complete
returns-clause-complete c = λ f m.
    ap (has f) (c.marks_at.ensures ∙ ap (λ y. marks_at y c.args.at) c.as_slice.ensures.value)
    ∙ (rest_told c.self.inside.hangs.items c.self.inside.stand.items c.self.inside.posted.items c.self.inside.behind.items c.self.inside.head c.self.invariant
    (ap (λ (k : Kept). k.head) c.self.view_is ∙ c.requires.rest) f c.args.at c.requires.main
    (subst (λ (k : Kept). c.args.at < length k.hangs) (sym c.self.view_is) c.requires.within)).complete
    (subst (λ (k : Kept). Means (wires_of k.hangs) f c.args.at) (sym c.self.view_is) m)
