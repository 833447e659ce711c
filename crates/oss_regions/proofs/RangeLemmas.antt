-- What the accesses of a task wait for, over the fragments of their ranges.
use Rattle.std.proofs.Common.{◌≡◌, ℕ, zero, suc, ◌<◌, refl, subst, ap, true, List, [], ◌∷◌, Some, sym}
use Rattle.oss_syntax.specs.declared.access.Access.{Access}
use Rattle.oss_syntax.specs.declared.access.Mode.{Mode}
use Rattle.oss_syntax.specs.declared.access.Mode.TheVariants.{Read, Write, Fold}
use Rattle.oss_model.specs.Order.{IsIn}
use Rattle.oss_model.specs.Rights.{in_access}
use Rattle.oss_deps.specs.declared.opened.Open.{Open}
use Rattle.oss_deps.specs.Columns.{IsNumber}
use Rattle.oss_deps.specs.Opens.{AreOrdered, Asks, HasOpened, IsMet, access_at, is_some_access, opened_forest}
use Rattle.oss_deps.proofs.AskLemmas.{named_within}
use Rattle.oss_deps.proofs.OpenLemmas.{access_found, bounds_in, get_in, in_bounds, one_entry}
use Rattle.oss_fragments.specs.Here.{Here, bare}
use Rattle.oss_fragments.specs.Kept.{here_at}
use Rattle.oss_links.specs.Numbers.{task_by}
use Rattle.oss_links.specs.Readings.{TellOfTask}
use Rattle.oss_retire.specs.Claims.{all_marks}
use Rattle.oss_retire.specs.Tables.{IsCellLeft, given_left}
use Rattle.oss_retire.proofs.ToldLemmas.{gone_tells}
use Rattle.oss_regions.specs.Asked.{IsSatisfied}
use Rattle.oss_regions.specs.Kept.{AreRight, AsksOver, IsAccessMet, Kept, given_at}

-- a task that asks for a cell was opened with it
pub asks_opened : (opens : List Open) (t c : ℕ) (mode : Mode) → Asks opens t c mode → HasOpened opens c t
asks_opened opens t c mode asks = record { entry = asks.entry; listed = asks.listed; number = asks.number; named = ap is_some_access asks.at_ }

pub opened_within : (opens : List Open) (t c : ℕ) → HasOpened opens c t → c < 1048576
opened_within opens t c h = named_within h.entry c h.named

-- where no cell has an access, nothing is waited for: all flags of a task's access stand
pub nothing_there : (kept : Kept) {capacity : ℕ} → AreRight kept.opens capacity kept.cells kept.reserved → ((c : ℕ) → here_at kept.cells c ≡ bare) → (t c : ℕ) → HasOpened kept.opens c t → TellOfTask kept.opens (given_at kept.opens kept.cells) c t all_marks
nothing_there kept right none t c opened =
    gone_tells kept.opens right.opens_are.ordered (given_at kept.opens kept.cells) c bare.hangs bare.tasks (subst (λ (y : Here). IsCellLeft kept.opens c y.hangs y.tasks) (none c) (right.held c))
    (λ s. ap (λ (y : Here). given_left kept.opens c y.hangs y.tasks s) (none c)) right.opens_are.covered t opened no_access
  where
    no_access : (v : ℕ) → task_by kept.opens (0 ∷ []) v ≡ Some t → ⊥
    no_access zero h = cc
    no_access (suc v) h = cc

-- The access of a strong read or write asks for the mode at each of its cells.
pub access_asks : (opens : List Open) (n : ℕ) (o : Open) (a : Access) → ((c : ℕ) → in_access a c ≡ true → access_at o.accesses c ≡ Some a) → IsNumber opens n o → IsIn a o.accesses → a.strong ≡ true → AsksOver opens n a.mode a.range.lo a.range.hi
access_asks opens n o a once number i s = record {
  entry = o;
  is = number;
  asks = λ c l h. record { entry = o; listed = get_in opens number.0 o number.2; number = refl; access = a; at_ = once c (bounds_in a c l h); mode_is = refl; strong = s };
}

-- What all its accesses wait for has come: the task is met.
pub accesses_met : (kept : Kept) (o : Open) → AreOrdered kept.opens → IsIn o kept.opens → ((a : Access) → IsIn a o.accesses → IsAccessMet kept o a) → IsMet kept.opens (given_at kept.opens kept.cells) o.task
accesses_met kept o ord i all = record { reads = λ c k. met Read c k; writes = λ c k. met Write c k }
  where
    met : (mode : Mode) (c : ℕ) (k : Asks kept.opens o.task c mode) → IsSatisfied (opened_forest kept.opens (given_at kept.opens kept.cells) c) mode o.task
    met mode c k =
        let e : access_at o.accesses c ≡ Some k.access = subst (λ (q : Open). access_at q.accesses c ≡ Some k.access) (one_entry ord k.entry o k.listed i k.number) k.at_ in
        let f = access_found o.accesses c k.access e in
        let b = in_bounds k.access c f.1 in
        subst (λ (m : Mode). IsSatisfied (opened_forest kept.opens (given_at kept.opens kept.cells) c) m o.task) k.mode_is (all k.access f.0 k.strong c b.0 b.1)

-- And a task that is met has got what each of its accesses waits for.
pub met_access : (kept : Kept) (n : ℕ) (o : Open) (a : Access) → ((c : ℕ) → in_access a c ≡ true → access_at o.accesses c ≡ Some a) → IsNumber kept.opens n o → IsIn a o.accesses → IsMet kept.opens (given_at kept.opens kept.cells) o.task → IsAccessMet kept o a
met_access kept n o a once number i met s c l h = of_mode a.mode refl (record { entry = o; listed = get_in kept.opens number.0 o number.2; number = refl; access = a; at_ = once c (bounds_in a c l h); mode_is = refl; strong = s })
  where
    of_mode : (m : Mode) → a.mode ≡ m → Asks kept.opens o.task c a.mode → IsSatisfied (opened_forest kept.opens (given_at kept.opens kept.cells) c) a.mode o.task
    of_mode m e asks = subst (λ (x : Mode). IsSatisfied (opened_forest kept.opens (given_at kept.opens kept.cells) c) x o.task) (sym e) (by_mode m (subst (λ (x : Mode). Asks kept.opens o.task c x) e asks))
      where
        by_mode : (x : Mode) → Asks kept.opens o.task c x → IsSatisfied (opened_forest kept.opens (given_at kept.opens kept.cells) c) x o.task
        by_mode Read asks = met.reads c asks
        by_mode Write asks = met.writes c asks
        by_mode (Fold op) asks = tt
