use Rattle.std.proofs.Common.{◌≡◌, ◌<◌, ℕ, length, sym, subst}
use Rattle.oss_access_lists.specs.Wires.{AreWired}
use Rattle.oss_access_lists.specs.Flags.{AreAtRest, IsListed}
use Rattle.oss_access_lists.specs.Kept.{Kept}
use Rattle.oss_access_lists.specs.Tables.{AreTables, AreWithin, marks_at, wires_of}
use Rattle.oss_access_lists.proofs.DeliverLemmas.{tables_rest}
use Rattle.oss_access_lists.proofs.access_list.AccessList.is_settled.Goals as goal

pub returns-clause-wired : goal.returns-clause-wired
returns-clause-wired c = subst (λ (k : Kept). AreWired (wires_of k.hangs)) c.self.view_is c.self.invariant.stands.wired

pub returns-clause-listed : goal.returns-clause-listed
returns-clause-listed c = subst (λ (k : Kept). (v : ℕ) → (v ≡ 0 → ⊥) → v < length k.hangs → IsListed (wires_of k.hangs) v) c.self.view_is c.self.invariant.listed

pub returns-clause-within : goal.returns-clause-within
returns-clause-within c =
    subst (λ (k : Kept). AreWithin k.hangs (length k.hangs)) c.self.view_is
    (subst (λ y. AreWithin c.self.inside.hangs.items y) (sym c.self.invariant.in_all) c.self.invariant.within)

pub returns-clause-rest : goal.returns-clause-rest
returns-clause-rest c =
    subst (λ (k : Kept). k.head ≡ 0 → AreAtRest (wires_of k.hangs) (marks_at k.stand)) c.self.view_is
    (λ e. tables_rest c.self.inside.hangs.items c.self.inside.stand.items c.self.inside.posted.items c.self.inside.behind.items
    (subst (λ y. AreTables c.self.inside.hangs.items c.self.inside.stand.items c.self.inside.posted.items c.self.inside.behind.items y) e c.self.invariant))
