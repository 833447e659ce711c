-- What a give and a leave ask for is met by a job that is held and flags that were read.
use Rattle.std.proofs.Common.{◌≡◌, ◌≢◌, ◌⊎◌, inl, inr, sym, subst, refl, ◌∙◌, ap, ℕ, zero, suc, ◌<◌, ◌≤◌, ◌+◌, arith, Bool, true, false, ◌==◌, List, [], ◌∷◌, length, Some, None}
use Rattle.std.specs.Prelude.{not, ◌&&◌, ◌||◌}
use Rattle.std.proofs.lemmas.Bool.Decides.{eqb_tells, nat_tests}
use mathlib.Core.Option as maybe
use lib.ListN.{get_elem?}
use Rattle.oss_code.specs.declared.code.CodeParts.{CodeParts}
use Rattle.oss_jobs.specs.declared.job.Job.{Job}
use Rattle.oss_jobs.specs.Jobs.{IsJob}
use Rattle.oss_machine.specs.Frames.{CodeScript}
use Rattle.oss_machine.specs.Machines.{asks}
use Rattle.oss_model.specs.Bodies.{Act, Body, Program}
use Rattle.oss_model.specs.Bodies.Act.{Ticked, Load, Store, Folded, Created, Awaited, Waited, WaitedOn, Releases, Printed, Ended, Fault, Over}
use Rattle.oss_model.specs.Context.{right_of}
use Rattle.oss_model.specs.Moves.{act_now}
use Rattle.oss_model.specs.Rights.{Right, Holds}
use Rattle.oss_ranges.specs.Cells.{is_within}
use Rattle.oss_syntax.specs.declared.access.Mode.{Mode}
use Rattle.oss_syntax.specs.declared.access.Mode.TheVariants.{Fold}
use Rattle.oss_words.specs.Bits.{state_at}
use Rattle.oss_words.specs.Sums.{num}
use Rattle.oss_words.specs.Views.{Among, Seen, among_first, among_later}
use Rattle.oss_words.proofs.CauseLemmas.{clash}
use Rattle.oss_words.proofs.SumLemmas.{same_number}
use Rattle.oss_roles.specs.JobSteps.{MayEnd, ended}
use Rattle.oss_roles.specs.Numbers.{cells_below, has_cell}
use Rattle.oss_roles.specs.Passing.{AllDone, MayGo, MayPass, NewestDone, last_done, newest_done, no_child, no_task, still_there, went_on}
use Rattle.oss_roles.specs.Roles.{Site, itself, on}
use Rattle.oss_roles.specs.Sights.{Bearing, Fixed, Sight}
use Rattle.oss_field.specs.Asks.{IsGiven}
use Rattle.oss_field.specs.Giving.{gives_cell}
use Rattle.oss_field.specs.Known.{Holding, Known, bearing_of, last_of, sight_of}
use Rattle.oss_field.specs.Meeting.{HasEnded, ReadersMayGive, ReadersMayLeave, TakersHold}
use Rattle.oss_field.specs.Owning.{entry_of}
use Rattle.oss_field.specs.Reading.{after_flags, is_entry_of, is_own, kept_still}

-- the entry on a cell is one of the task
more_below : (own : ℕ → Right) (c m : ℕ) → c < m → has_cell (own c) ≡ true → cells_below own c < cells_below own m
more_below own c zero low has = absurd (omega (arith, low))
more_below own c (suc d) low has = elim (same_number c d) [
  | inl q ↦
      let one : num (has_cell (own d)) ≡ 1 = ap (λ (z : ℕ). num (has_cell (own z))) (sym q) ∙ ap num has in
      let same : cells_below own c ≡ cells_below own d = ap (λ (z : ℕ). cells_below own z) q in
      omega (arith, one, same)
  | inr ne ↦ let l = more_below own c d (omega (arith, low, ne)) has in omega (arith, l)
]

pub not_zero : (t : ℕ) → t ≢ 0 → not (t == 0) ≡ true
not_zero t h = go (t == 0) (eqb_tells t 0)
  where
    go : (b : Bool) → ((b ≡ true) × (t ≡ 0)) ⊎ ((b ≡ false) × (t ≢ 0)) → not b ≡ true
    go true (inl q) = absurd (h q.1)
    go true (inr q) = absurd (clash refl q.0)
    go false p = refl

pub in_range : (lo hi e : ℕ) → lo ≤ e → e < hi → is_within lo hi e ≡ true
in_range lo hi e low high = grind (arith, nat_tests)

pub both_are : (a b : Bool) → a ≡ true → b ≡ true → (a && b) ≡ true
both_are true b p q = q
both_are false b p q = p

first_is : (a b : Bool) → a ≡ true → (a || b) ≡ true
first_is true b p = refl
first_is false b p = absurd (cc)

pub entry_is : (m : ℕ) (h : Holding) (cell : ℕ) (mode : Mode) (strong : Bool) → h.number ≢ 0 → cell < m → right_of h.body.start.context cell ≡ Holds mode strong → is_entry_of m h (entry_of h (Some cell)) ≡ true
entry_is m h cell mode strong number low right =
    let less = more_below (right_of h.body.start.context) cell m low (ap has_cell right) in
    both_are (not (h.number == 0)) (is_within h.number (h.number + 1 + cells_below (right_of h.body.start.context) m) (entry_of h (Some cell))) (not_zero h.number number)
    (in_range h.number (h.number + 1 + cells_below (right_of h.body.start.context) m) (entry_of h (Some cell)) (omega arith) (omega (arith, less)))

or_later : (a b : Bool) → b ≡ true → (a || b) ≡ true
or_later true b p = refl
or_later false b p = p

pub own_is : (m : ℕ) (hs : List Holding) (i : ℕ) (h : Holding) (e : ℕ) → get_elem? hs i ≡ maybe.some h → is_entry_of m h e ≡ true → is_own m hs e ≡ true
own_is m [] i h e at own = absurd (maybe.some-ne-none h (sym at))
own_is m (g ∷ hs) zero h e at own = first_is (is_entry_of m g e) (is_own m hs e) (ap (λ (z : Holding). is_entry_of m z e) (maybe.some-injective g h at) ∙ own)
own_is m (g ∷ hs) (suc i) h e at own = or_later (is_entry_of m g e) (is_own m hs e) (own_is m hs i h e at own)

-- what a job may have done by itself is no less, once more was seen
module _ (v w : Sight CodeScript) (b : Bearing CodeScript) (more : (y : Seen) → Among y v.seen → Among y w.seen) where
  pub all_on : (y : Site) → AllDone v b y → AllDone w b y
  all_on y (no_child none) = no_child none
  all_on y (last_done x is among clear done) = last_done x is (more x among) clear done

  pub newest_on : NewestDone v b → NewestDone w b
  newest_on (no_task none) = no_task none
  newest_on (newest_done x is among done) = newest_done x is (more x among) done

  pass_on : (a : Act CodeScript) → MayPass v b a → MayPass w b a
  pass_on Ticked m = m
  pass_on (Load c) m = m
  pass_on (Store c x) m = m
  pass_on (Folded c o x s) m = m
  pass_on (Created o i) m = m
  pass_on Awaited m = newest_on m
  pass_on Waited m = all_on itself m
  pass_on (WaitedOn named) m = λ c q. all_on (on c) (m c q)
  pass_on (Releases l i) m = m
  pass_on (Printed k t) m = m
  pass_on Ended m = m
  pass_on (Fault f l k) m = m
  pass_on Over m = m

  pub go_on : (P : Program CodeScript) (x : Body CodeScript) → MayGo P v b x → MayGo P w b x
  go_on P x still_there = still_there
  go_on P x (went_on {x = y} m own pass) = went_on (go_on P y m) own (pass_on (act_now P y) pass)

pub takers_hold : TakersHold
takers_hold code fuel t job h k taken = record { holds = refl; may = still_there; is = subst (λ (z : ℕ). IsJob code h.before job z h.body (last_of h)) (sym taken.number) taken.is }

module _ (code : CodeParts) (job : Job) (k : Known) (i : ℕ) (h : Holding) (x : Body CodeScript) (e : HasEnded code job k i h x) (cell : ℕ) (mode : Mode) (strong : Bool) (low : cell < length code.first) (right : right_of h.body.start.context cell ≡ Holds mode strong) (word : ℕ) where
  abbrev after : Known
  after = after_flags (length code.first) (entry_of h (Some cell)) word k

  given : IsGiven code job after i h x
  given = record { holds = e.given.holds; may = go_on (sight_of k) (sight_of after) (bearing_of h) (λ y a. among_later a) (asks code) x e.given.may; is = e.given.is }

  abbrev as_read : Fixed
  as_read = record { entry = entry_of h (Some cell); state = state_at word; value = None }

  among_still : Among as_read after.still
  among_still =
      let own = own_is (length code.first) k.bears i h (entry_of h (Some cell)) e.given.holds (entry_is (length code.first) h cell mode strong e.below_main low right) in
      subst (λ (b : Bool). Among as_read (kept_still b (entry_of h (Some cell)) (state_at word) k.still)) (sym own) (among_first refl)

  may_end : MayEnd (sight_of after) (bearing_of h) x
  may_end wait = all_on (sight_of k) (sight_of after) (bearing_of h) (λ y a. among_later a) itself (e.wait wait)

pub readers_may_give : ReadersMayGive
readers_may_give code job k i h x e makes cell mode strong low right plainly word open_yet = record {
  place = i;
  holding = h;
  body = x;
  given = given code job k i h x e cell mode strong low right word;
  below_main = e.below_main;
  makes = makes;
  still = record { it = as_read code job k i h x e cell mode strong low right word; among = among_still code job k i h x e cell mode strong low right word; entry = refl; open_yet = open_yet };
  may = gives_cell cell mode strong right plainly (ended e.ended (may_end code job k i h x e cell mode strong low right word));
  empty = e.empty;
}

pub readers_may_leave : ReadersMayLeave
readers_may_leave code job k i h x e cell op low right word unleft open_yet = record {
  place = i;
  holding = h;
  body = x;
  given = given code job k i h x e cell (Fold op) true low right word;
  below_main = e.below_main;
  op = op;
  right = right;
  ended = e.ended;
  wait = may_end code job k i h x e cell (Fold op) true low right word;
  value_is = refl;
  still = record { it = as_read code job k i h x e cell (Fold op) true low right word; among = among_still code job k i h x e cell (Fold op) true low right word; entry = refl; unleft = unleft; open_yet = open_yet };
  empty = e.empty;
}
