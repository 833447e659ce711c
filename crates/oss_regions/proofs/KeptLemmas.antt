-- The invariant of a system by ranges, and what is seen of it, at its calls.
use Rattle.std.proofs.Common.{◌≡◌, ℕ, ◌+◌, ◌<◌, ◌≤◌, refl, sym, subst, ap, ◌∙◌, inl, inr, Bool, true, false, List, [], ◌∷◌, ◌++◌, Option, Some, None, arith, add-one, length}
use Rattle.std.proofs.lemmas.Bool.Decides.{nat_tests}
use Rattle.std.proofs.lemmas.List.{length-set}
use Rattle.std.specs.Prelude.{IfSome, MatchBool, MatchOption, ◌==◌, ◌&&◌, ◌||◌, nat_le, nat_lt, slice_get}
use Rattle.oss_syntax.specs.declared.access.Access.{Access}
use Rattle.oss_syntax.specs.declared.access.Mode.{Mode}
use Rattle.oss_syntax.specs.declared.access.Range.{Range}
use Rattle.oss_model.specs.Rights.{covers}
use Rattle.oss_deps.specs.declared.opened.Open.{Open}
use Rattle.oss_deps.specs.Columns.{IsNumberOf}
use Rattle.oss_deps.specs.Opens.{AreOpens, AreOrdered, HasOpened, IsOpened as WasOpened, access_at, is_some_access, mode_at, mode_of_access, names}
use Rattle.oss_deps.specs.Seen.{CanGive, CanOpen, Gives, Opens, Prepares, Reserves, Seen, in_range, is_access_end, is_end}
use Rattle.oss_deps.proofs.Basics.{both, some_is}
use Rattle.oss_deps.proofs.NewLemmas.{opens_added, opens_none}
use Rattle.oss_deps.proofs.OpenLemmas.{not_main}
use Rattle.oss_access_lists.specs.declared.hang.Hang.{Hang}
use Rattle.oss_access_lists.specs.Steps.{IsHung}
use Rattle.oss_access_lists.specs.Tables.{given_up, hang_at, opened_in, wires_of}
use Rattle.oss_fragments.specs.Here.{Here, IsGivenUp, IsLess, IsOpened, IsShown, MayHang, bare}
use Rattle.oss_fragments.specs.Kept.{Kept as Cells, here_at, is_cut}
use Rattle.oss_fragments.specs.Stretches.{AreReady}
use Rattle.oss_links.specs.Numbers.{task_by}
use Rattle.oss_links.proofs.NumberLemmas.{task_of_entry}
use Rattle.oss_retire.specs.Tables.{IsCellLeft, given_left}
use Rattle.oss_retire.proofs.CallLemmas.{left_aside, left_given, left_grows, left_later, left_lends, left_opened_within, left_shows}
use Rattle.oss_retire.proofs.TableLemmas.{bare_left}
use Rattle.oss_regions.specs.Kept.{AreRight, Kept, given_at, seen_of}

no_some : {accesses : List Access} → None ≡ Some accesses → ⊥
no_some e = absurd cc

pub right_new : (opens : List Open) (capacity : ℕ) (cells : Cells) → opens ≡ [] → ((c : ℕ) → here_at cells c ≡ bare) → AreRight opens capacity cells None
right_new opens capacity cells e none = record {
  opens_are = subst AreOpens (sym e) opens_none;
  held = λ c. subst (λ (y : Here). IsCellLeft opens c y.hangs y.tasks) (sym (none c)) (subst (λ (xs : List Open). IsCellLeft xs c bare.hangs bare.tasks) (sym e) (bare_left c));
  ready = λ accesses h. absurd (no_some h);
  room = λ accesses h. absurd (no_some h);
}

-- Accesses are left out at most.
module _ (opens : List Open) (capacity : ℕ) (cells new : Cells) (reserved : Option (List Access)) (right : AreRight opens capacity cells reserved) (less : (c : ℕ) → IsLess (here_at cells c) (here_at new c)) where
  given_less : (t c : ℕ) → given_at opens new t c ≡ given_at opens cells t c
  given_less t c = (less c opens c right.opens_are.ordered (right.held c)).1 t

  right_less : (more : List Open) (more_capacity : ℕ) (other : Option (List Access)) → more ≡ opens → ((accesses : List Access) → other ≡ Some accesses → AreReady accesses new.fragments) → ((accesses : List Access) → other ≡ Some accesses → length more < more_capacity)
      → AreRight more more_capacity new other
  right_less more more_capacity other e ready room = record {
    opens_are = subst AreOpens (sym e) right.opens_are;
    held = λ c. subst (λ (xs : List Open). IsCellLeft xs c (here_at new c).hangs (here_at new c).tasks) (sym e) (less c opens c right.opens_are.ordered (right.held c)).0;
    ready = ready;
    room = room;
  }

  -- the same is reserved, or nothing
  pub right_still : (more : List Open) (more_capacity : ℕ) → more ≡ opens → capacity ≤ more_capacity → ((accesses : List Access) → AreReady accesses cells.fragments → AreReady accesses new.fragments) → AreRight more more_capacity new reserved
  right_still more more_capacity e l ready = right_less more more_capacity reserved e (λ accesses h. ready accesses (right.ready accesses h)) (λ accesses h. omega (arith, right.room accesses h, ap length e, l))

  pub right_none : AreRight opens capacity new None
  right_none = right_less opens capacity None refl (λ accesses h. absurd (no_some h)) (λ accesses h. absurd (no_some h))

  -- other accesses are
  pub right_reserved : (more : List Open) (more_capacity : ℕ) (accesses copy : List Access) → more ≡ opens → length more < more_capacity → copy ≡ accesses → AreReady accesses new.fragments → AreRight more more_capacity new (Some copy)
  right_reserved more more_capacity accesses copy e l same ready =
      right_less more more_capacity (Some copy) e (λ xs h. subst (λ (ys : List Access). AreReady ys new.fragments) (sym same ∙ some_is h) ready) (λ xs h. l)

  pub seen_prepares : (range : Range) → ((k : ℕ) → is_cut new k ≡ (is_cut cells k || is_end range k)) → Prepares range (seen_of (record { opens = opens; cells = cells; reserved = reserved })) (seen_of (record { opens = opens; cells = new; reserved = None }))
  seen_prepares range cuts = record { opens = refl; given = given_less; cuts = cuts; reserved = refl }

  pub seen_reserves : (more : List Open) (accesses copy : List Access) → more ≡ opens → copy ≡ accesses → ((k : ℕ) → is_cut new k ≡ is_cut cells k)
      → Reserves accesses (seen_of (record { opens = opens; cells = cells; reserved = reserved })) (seen_of (record { opens = more; cells = new; reserved = Some copy }))
  seen_reserves more accesses copy e same cuts = record {
    opens = e;
    given = λ t c. ap (λ (xs : List Open). given_at xs new t c) e ∙ given_less t c;
    cuts = cuts;
    reserved = ap (λ (xs : List Access). Some xs) same;
  }

-- A task is opened.
module _ (kept : Kept) (capacity : ℕ) (right : AreRight kept.opens capacity kept.cells kept.reserved) (o : Open) (parent : ℕ) (can : CanOpen (seen_of kept) o) (number : IsNumberOf kept.opens parent o.parent) where
  named_of : (c : ℕ) (a : Access) → access_at o.accesses c ≡ Some a → names c o ≡ true
  named_of c a e = ap is_some_access e

  mode_of : (c : ℕ) (a : Access) → access_at o.accesses c ≡ Some a → mode_at c o ≡ a.mode
  mode_of c a e = ap mode_of_access e

  lends : (c : ℕ) (a : Access) → access_at o.accesses c ≡ Some a → MayHang (length kept.opens + 1) parent a.mode (here_at kept.cells c)
  lends c a e =
      let is = right.held c in
      let l = left_lends (seen_of kept) c (here_at kept.cells c).hangs (here_at kept.cells c).tasks o right.opens_are.ordered is (λ t. refl) can parent (named_of c a e) number in
      record {
        above = l.0;
        above_is = l.1;
        held = l.2;
        covered = subst (λ (m : Mode). covers (hang_at (here_at kept.cells c).hangs l.0).mode m ≡ true) (mode_of c a e) l.3;
        newest = λ v t h. let k = left_opened_within kept.opens c (here_at kept.cells c).hangs (here_at kept.cells c).tasks is v t h in omega (arith, k);
      }

  pub may_hang : (c : ℕ) → IfSome (access_at o.accesses c) (λ a. MayHang (length kept.opens + 1) parent a.mode (here_at kept.cells c))
  may_hang c = go (access_at o.accesses c) refl
    where
      go : (x : Option Access) → access_at o.accesses c ≡ x → IfSome x (λ a. MayHang (length kept.opens + 1) parent a.mode (here_at kept.cells c))
      go None e = tt
      go (Some a) e = lends c a e

  module _ (new : Cells) (opened : (c : ℕ) → MatchOption (access_at o.accesses c) (here_at new c ≡ here_at kept.cells c) (λ a. IsOpened (length kept.opens + 1) parent a.mode (here_at kept.cells c) (here_at new c))) where
    abbrev IsGrownCell : ℕ → Type 0
    IsGrownCell c = IsCellLeft (kept.opens ++ o ∷ []) c (here_at new c).hangs (here_at new c).tasks × ((t : ℕ) → given_at (kept.opens ++ o ∷ []) new t c ≡ given_at kept.opens kept.cells t c)

    ordered : AreOrdered (kept.opens ++ o ∷ [])
    ordered = (opens_added (seen_of kept) o right.opens_are can).ordered

    grown : (c : ℕ) → IsGrownCell c
    grown c = go (access_at o.accesses c) refl (opened c)
      where
        old : Here
        old = here_at kept.cells c

        named : (a : Access) → access_at o.accesses c ≡ Some a → IsOpened (length kept.opens + 1) parent a.mode old (here_at new c) → IsGrownCell c
        named a e is =
            let mode = sym (mode_of c a e) in
            let hangs : (here_at new c).hangs ≡ opened_in old.hangs is.above (mode_at c o) = is.hangs ∙ ap (λ (m : Mode). opened_in old.hangs is.above m) mode in
            let g = left_grows (seen_of kept) c old.hangs old.tasks o right.opens_are.ordered (right.held c) (λ t. refl) can parent (named_of c a e) number ordered is.above is.above_is (subst (λ (xs : List Hang). IsHung (wires_of old.hangs) (wires_of xs) is.above (length old.hangs)) hangs is.hung) in (
              subst (λ (xs : List Hang). IsCellLeft (kept.opens ++ o ∷ []) c xs (here_at new c).tasks) (sym hangs) (subst (λ (xs : List ℕ). IsCellLeft (kept.opens ++ o ∷ []) c (opened_in old.hangs is.above (mode_at c o)) xs) (sym is.tasks) g.0),
              λ t. ap (λ (xs : List Hang). given_left (kept.opens ++ o ∷ []) c xs (here_at new c).tasks t) hangs ∙ (ap (λ (xs : List ℕ). given_left (kept.opens ++ o ∷ []) c (opened_in old.hangs is.above (mode_at c o)) xs t) is.tasks ∙ g.1 t),
            )

        aside : access_at o.accesses c ≡ None → here_at new c ≡ old → IsGrownCell c
        aside e same =
            let g = left_aside (seen_of kept) c old.hangs old.tasks o right.opens_are.ordered (right.held c) (λ t. refl) can ordered (ap is_some_access e) in (
              subst (λ (y : Here). IsCellLeft (kept.opens ++ o ∷ []) c y.hangs y.tasks) (sym same) g.0,
              λ t. ap (λ (y : Here). given_left (kept.opens ++ o ∷ []) c y.hangs y.tasks t) same ∙ g.1 t,
            )

        go : (x : Option Access) → access_at o.accesses c ≡ x → MatchOption x (here_at new c ≡ old) (λ a. IsOpened (length kept.opens + 1) parent a.mode old (here_at new c)) → IsGrownCell c
        go None e h = aside e h
        go (Some a) e h = named a e h

    pub right_opened : (more_capacity : ℕ) → AreRight (kept.opens ++ o ∷ []) more_capacity new None
    right_opened more_capacity = record {
      opens_are = opens_added (seen_of kept) o right.opens_are can;
      held = λ c. (grown c).0;
      ready = λ xs h. absurd (no_some h);
      room = λ xs h. absurd (no_some h);
    }

    pub seen_opens : ((k : ℕ) → is_cut new k ≡ (is_cut kept.cells k || is_access_end o.accesses k)) → Opens o (seen_of kept) (seen_of (record { opens = kept.opens ++ o ∷ []; cells = new; reserved = None }))
    seen_opens cuts = record { opens = refl; given = λ t c. (grown c).1 t; cuts = cuts; reserved = refl }

and_true : (b : Bool) → (b && true) ≡ b
and_true true = refl
and_true false = refl

and_false : (b : Bool) → (b && false) ≡ false
and_false true = refl
and_false false = refl

or_false : (b : Bool) → (b || false) ≡ b
or_false true = refl
or_false false = refl

range_has : (range : Range) (c : ℕ) → in_range range c ≡ true → (range.lo ≤ c) × (c < range.hi)
range_has range c h = let k = both (nat_le range.lo c) (nat_lt c range.hi) h in (grind (arith, nat_tests, k.0), grind (arith, nat_tests, k.1))

-- A task gives up a range.
module _ (kept : Kept) (capacity : ℕ) (right : AreRight kept.opens capacity kept.cells kept.reserved) (task n : ℕ) (range : Range) (can : CanGive task range (seen_of kept)) (number : IsNumberOf kept.opens n task) where
  shows : (c : ℕ) → HasOpened kept.opens c task → given_at kept.opens kept.cells task c ≡ false → (v : ℕ) × (slice_get (here_at kept.cells c).tasks v ≡ Some n) × (n ≡ 0 → ⊥) × ((u : ℕ) → slice_get (here_at kept.cells c).tasks u ≡ Some n → task_by kept.opens (here_at kept.cells c).tasks u ≡ Some task)
  shows c opened holds = go number
    where
      go : IsNumberOf kept.opens n task → (v : ℕ) × (slice_get (here_at kept.cells c).tasks v ≡ Some n) × (n ≡ 0 → ⊥) × ((u : ℕ) → slice_get (here_at kept.cells c).tasks u ≡ Some n → task_by kept.opens (here_at kept.cells c).tasks u ≡ Some task)
      go (inl z) = absurd (not_main right.opens_are.ordered opened.entry opened.listed (opened.number ∙ z.1))
      go (inr (o, is, e)) =
          let v = left_shows kept.opens c (here_at kept.cells c).hangs (here_at kept.cells c).tasks o n task right.opens_are.ordered (right.held c) is e opened holds in (
            v.0,
            v.1,
            λ z. let k = is.1 in absurd (omega (arith, k, z)),
            λ u h. task_of_entry kept.opens (here_at kept.cells c).tasks u is.0 o is.2 (h ∙ ap (λ (x : ℕ). Some x) (is.1 ∙ add-one is.0)) ∙ ap (λ (x : ℕ). Some x) e,
          )

  pub gives_shown : (c : ℕ) → range.lo ≤ c → c < range.hi → IsShown n (here_at kept.cells c)
  gives_shown c l h = let v = shows c (can.named c l h) (can.held c l h) in record { not_main = v.2; entry = v.0; entry_is = v.1 }

  module _ (new : Cells) (given : (c : ℕ) → MatchBool (in_range range c) (IsGivenUp n (here_at kept.cells c) (here_at new c)) (here_at new c ≡ here_at kept.cells c)) where
    abbrev IsGivenCell : ℕ → Type 0
    IsGivenCell c = IsCellLeft kept.opens c (here_at new c).hangs (here_at new c).tasks × ((t : ℕ) → given_at kept.opens new t c ≡ (given_at kept.opens kept.cells t c || ((task == t) && in_range range c)))

    gone : (c : ℕ) → IsGivenCell c
    gone c = go (in_range range c) refl (given c)
      where
        old : Here
        old = here_at kept.cells c

        inside : in_range range c ≡ true → IsGivenUp n old (here_at new c) → IsGivenCell c
        inside e is =
            let b = range_has range c e in
            let v = shows c (can.named c b.0 b.1) (can.held c b.0 b.1) in
            let long : length (here_at new c).hangs ≡ length old.hangs = ap length is.hangs ∙ length-set old.hangs is.entry (given_up (hang_at old.hangs is.entry)) in
            let at = v.3 is.entry is.entry_is in (
              subst (λ (xs : List ℕ). IsCellLeft kept.opens c (here_at new c).hangs xs) (sym is.tasks) (left_given kept.opens c old.hangs (here_at new c).hangs old.tasks right.opens_are.ordered (right.held c) task is.entry is.given long at),
              λ t. ap (λ (xs : List ℕ). given_left kept.opens c (here_at new c).hangs xs t) is.tasks
                  ∙ (left_later kept.opens c old.hangs (here_at new c).hangs old.tasks right.opens_are.ordered (right.held c) task is.entry is.given long at t ∙ ap (λ (x : Bool). given_left kept.opens c old.hangs old.tasks t || x) (sym (ap (λ (x : Bool). (task == t) && x) e ∙ and_true (task == t)))),
            )

        outside : in_range range c ≡ false → here_at new c ≡ old → IsGivenCell c
        outside e same = (
          subst (λ (y : Here). IsCellLeft kept.opens c y.hangs y.tasks) (sym same) (right.held c),
          λ t. ap (λ (y : Here). given_left kept.opens c y.hangs y.tasks t) same
              ∙ sym (ap (λ (x : Bool). given_left kept.opens c old.hangs old.tasks t || ((task == t) && x)) e ∙ (ap (λ (x : Bool). given_left kept.opens c old.hangs old.tasks t || x) (and_false (task == t)) ∙ or_false (given_left kept.opens c old.hangs old.tasks t))),
        )

        go : (b : Bool) → in_range range c ≡ b → MatchBool b (IsGivenUp n old (here_at new c)) (here_at new c ≡ old) → IsGivenCell c
        go true e h = inside e h
        go false e h = outside e h

    pub right_given : ((xs : List Access) → AreReady xs kept.cells.fragments → AreReady xs new.fragments) → AreRight kept.opens capacity new kept.reserved
    right_given ready = record { opens_are = right.opens_are; held = λ c. (gone c).0; ready = λ xs h. ready xs (right.ready xs h); room = right.room }

    pub seen_gives : ((k : ℕ) → is_cut new k ≡ is_cut kept.cells k) → Gives task range (seen_of kept) (seen_of (record kept { cells = new }))
    seen_gives cuts = record { opens = refl; given = λ t c. (gone c).1 t; cuts = cuts; reserved = refl }

-- What the code knows of what is kept inside.
pub prepares_seen : {view seen : Kept} {range : Range} (new : Seen) → view ≡ seen → Prepares range (seen_of view) new → Prepares range (seen_of seen) new
prepares_seen {range = range} new is prepares = subst (λ (k : Kept). Prepares range (seen_of k) new) is prepares

pub reserves_seen : {view seen : Kept} {accesses : List Access} (new : Seen) → view ≡ seen → Reserves accesses (seen_of view) new → Reserves accesses (seen_of seen) new
reserves_seen {accesses = accesses} new is reserves = subst (λ (k : Kept). Reserves accesses (seen_of k) new) is reserves

pub can_give : {view seen : Kept} {task : ℕ} {range : Range} → view ≡ seen → CanGive task range (seen_of seen) → CanGive task range (seen_of view)
can_give {task = task} {range = range} is can = subst (λ (k : Kept). CanGive task range (seen_of k)) (sym is) can

pub gives_seen : {view seen : Kept} {task : ℕ} {range : Range} (new : Seen) → view ≡ seen → Gives task range (seen_of view) new → Gives task range (seen_of seen) new
gives_seen {task = task} {range = range} new is gives = subst (λ (k : Kept). Gives task range (seen_of k) new) is gives

pub giver_known : {task : ℕ} {range : Range} {s : Seen} → CanGive task range s → WasOpened s.opens task
giver_known {range = range} can = let h = can.named range.lo (omega arith) range.ordered in record { entry = h.entry; listed = h.listed; number = h.number }

-- the reserved accesses are the ones that were asked for
kept_is : {view seen : Kept} {kept accesses : List Access} → view ≡ seen → view.reserved ≡ Some kept → seen.reserved ≡ Some accesses → kept ≡ accesses
kept_is is e f = some_is (sym e ∙ (ap (λ (k : Kept). k.reserved) is ∙ f))

pub can_open : {view seen : Kept} {task parent : ℕ} {kept accesses : List Access} → view ≡ seen → view.reserved ≡ Some kept → seen.reserved ≡ Some accesses
    → CanOpen (seen_of seen) (record { task = task; parent = parent; accesses = accesses }) → CanOpen (seen_of view) (record { task = task; parent = parent; accesses = kept })
can_open {view} {seen} {task} {parent} {kept} {accesses} is e f can =
    subst (λ (xs : List Access). CanOpen (seen_of view) (record { task = task; parent = parent; accesses = xs })) (sym (kept_is is e f))
    (subst (λ (k : Kept). CanOpen (seen_of k) (record { task = task; parent = parent; accesses = accesses })) (sym is) can)

pub opens_seen_as : {view seen : Kept} {task parent : ℕ} {kept accesses : List Access} (new : Seen) → view ≡ seen → view.reserved ≡ Some kept → seen.reserved ≡ Some accesses
    → Opens (record { task = task; parent = parent; accesses = kept }) (seen_of view) new → Opens (record { task = task; parent = parent; accesses = accesses }) (seen_of seen) new
opens_seen_as {view} {seen} {task} {parent} {kept} {accesses} new is e f opens =
    subst (λ (xs : List Access). Opens (record { task = task; parent = parent; accesses = xs }) (seen_of seen) new) (kept_is is e f)
    (subst (λ (k : Kept). Opens (record { task = task; parent = parent; accesses = kept }) (seen_of k) new) is opens)

-- accesses that are read as a slice, and the number of the open as it is counted
pub may_hang_as : (cells : Cells) (parent n : ℕ) {m : ℕ} {xs ys : List Access} → n ≡ m → xs ≡ ys → ((c : ℕ) → IfSome (access_at ys c) (λ a. MayHang m parent a.mode (here_at cells c))) → (c : ℕ) → IfSome (access_at xs c) (λ a. MayHang n parent a.mode (here_at cells c))
may_hang_as cells parent n {m} {xs} {ys} e f may =
    subst (λ (zs : List Access). (c : ℕ) → IfSome (access_at zs c) (λ a. MayHang n parent a.mode (here_at cells c))) (sym f)
    (subst (λ (k : ℕ). (c : ℕ) → IfSome (access_at ys c) (λ a. MayHang k parent a.mode (here_at cells c))) (sym e) may)

pub opened_as : (old new : Cells) (parent n : ℕ) {m : ℕ} {xs ys : List Access} → n ≡ m → xs ≡ ys → ((c : ℕ) → MatchOption (access_at xs c) (here_at new c ≡ here_at old c) (λ a. IsOpened n parent a.mode (here_at old c) (here_at new c)))
    → (c : ℕ) → MatchOption (access_at ys c) (here_at new c ≡ here_at old c) (λ a. IsOpened m parent a.mode (here_at old c) (here_at new c))
opened_as old new parent n {m} {xs} {ys} e f opened =
    subst (λ (zs : List Access). (c : ℕ) → MatchOption (access_at zs c) (here_at new c ≡ here_at old c) (λ a. IsOpened m parent a.mode (here_at old c) (here_at new c))) f
    (subst (λ (k : ℕ). (c : ℕ) → MatchOption (access_at xs c) (here_at new c ≡ here_at old c) (λ a. IsOpened k parent a.mode (here_at old c) (here_at new c))) e opened)

pub right_as : {opens more : List Open} {capacity : ℕ} {cells : Cells} {reserved : Option (List Access)} → more ≡ opens → reserved ≡ None → AreRight opens capacity cells None → AreRight more capacity cells reserved
right_as {opens} {more} {capacity} {cells} {reserved} e f right =
    subst (λ (xs : List Open). AreRight xs capacity cells reserved) (sym e) (subst (λ (r : Option (List Access)). AreRight opens capacity cells r) (sym f) right)

pub opens_to : (cells : Cells) {o : Open} {old : Seen} {opens more : List Open} {reserved : Option (List Access)} → more ≡ opens → reserved ≡ None → Opens o old (seen_of (record { opens = opens; cells = cells; reserved = None })) → Opens o old (seen_of (record { opens = more; cells = cells; reserved = reserved }))
opens_to cells {o} {old} {opens} {more} {reserved} e f h =
    subst (λ (xs : List Open). Opens o old (seen_of (record { opens = xs; cells = cells; reserved = reserved }))) (sym e)
    (subst (λ (r : Option (List Access)). Opens o old (seen_of (record { opens = opens; cells = cells; reserved = r }))) (sym f) h)
