-- The steps of a leave: the value is written beside the state word of the entry, and then the flag is set in the word.
use Rattle.std.proofs.Common.{◌≡◌, ◌≢◌, ◌⊎◌, inl, inr, sym, subst, refl, ◌∙◌, ap, ℕ, ◌<◌, ◌+◌, ◌%◌, ◌^◌, arith, Bool, true, false, not, ◌&&◌, ◌==◌, cond, List, [], ◌∷◌, ◌++◌, map, length, set, Some}
use Rattle.std.specs.Prelude.{slice_index}
use Rattle.std.specs.Global.{Box}
use Rattle.std.proofs.lemmas.Bool.Decides.{eqb_tells}
use mathlib.Core.Option as maybe
use lib.ListN.{get_elem?}
use Rattle.atomic_table.proofs.Lists.{at_map, set_again}
use Rattle.oss_body.specs.Mains.{code_main}
use Rattle.oss_code.specs.declared.code.CodeParts.{CodeParts}
use Rattle.oss_jobs.specs.declared.job.Job.{Job}
use Rattle.oss_machine.specs.Frames.{CodeScript}
use Rattle.oss_machine.specs.Machines.{asks}
use Rattle.oss_model.specs.Context.{right_of}
use Rattle.oss_model.specs.Rights.{Holds}
use Rattle.oss_syntax.specs.declared.access.Mode.TheVariants.{Fold}
use Rattle.oss_syntax.specs.declared.access.Op.{Op}
use Rattle.oss_words.specs.declared.entry.EntryInfo.{EntryInfo}
use Rattle.oss_words.specs.declared.entry.EntryState.{EntryState}
use Rattle.oss_words.specs.declared.message.Message.{Message}
use Rattle.oss_words.specs.Bits.{state_at, state_word, FitsWord}
use Rattle.oss_words.specs.Causes.{heads_folds, heads_reads, heads_writes, joins, part, posted, sent, tells_clear, tells_done, tells_folds, tells_reads, tells_writes}
use Rattle.oss_words.specs.Grown.{Grown}
use Rattle.oss_words.specs.Net.{Net, apart}
use Rattle.oss_words.specs.Views.{Among, among_first, among_later}
use Rattle.oss_words.proofs.CauseLemmas.{clash}
use Rattle.oss_words.proofs.KeptLaw.{at_here}
use Rattle.oss_words.proofs.SeatLemmas.{came_more}
use Rattle.oss_words.proofs.SendLemmas.{sent_is_posted}
use Rattle.oss_words.proofs.StillLemmas.{all_of, grown_same, left_grown}
use Rattle.oss_roles.specs.Field.{Bears, Field, Parts}
use Rattle.oss_roles.specs.JobSteps.{of_other}
use Rattle.oss_roles.specs.Passing.{still_there}
use Rattle.oss_roles.specs.Roles.{Role, on}
use Rattle.oss_roles.specs.Sights.{Fixed}
use Rattle.oss_roles.proofs.JobClaims.{leaves_keep, values_keep}
use Rattle.oss_field.specs.declared.view.SeatView.{SeatView}
use Rattle.oss_field.specs.Known.{Holding, Known, bearing_of, sight_of}
use Rattle.oss_field.specs.Layout.{parts_of, state_word_of, value_word_of}
use Rattle.oss_field.specs.Leaving.{IsWritten, MayWrite, SetsLeft, StandsToLeave, WroteValue, flagged, still_with, wrote}
use Rattle.oss_field.specs.Moves.{with_body}
use Rattle.oss_field.specs.Owning.{entry_of}
use Rattle.oss_field.specs.Steps.{Steps}
use Rattle.oss_field.specs.Table.{Neat, Slot, is_job_of, sights_of, Stands}
use Rattle.oss_field.proofs.CellLemmas.{beside_is, job_goes, told_on}
use Rattle.oss_field.proofs.FlagLemmas.{added, num_off, parts_fit}
use Rattle.oss_field.proofs.GiveLemmas.{still_is}
use Rattle.oss_field.proofs.HearLemmas.{bounded}
use Rattle.oss_field.proofs.OwnLemmas.{cell_filed}
use Rattle.oss_field.proofs.TableLemmas.{chained, sits_at}
use Rattle.oss_field.proofs.ValueTable.{value_else, value_here, value_stands}
use Rattle.oss_field.proofs.WordTable.{state_else, state_here, state_stands}

-- a leave completes no message but the join of its entry
nothing_new : (b : Bool) (e f : ℕ) → part (b && not b) e f ≡ []
nothing_new true e f = refl
nothing_new false e f = refl

pub none_posted : (a : EntryState) (i : EntryInfo) → posted a (record a { left = true }) i ≡ []
none_posted a i = λ j.
    nothing_new (tells_reads a i) a.next 3 j ++ nothing_new (tells_writes a i) a.next 4 j ++ nothing_new (tells_folds a i) a.next 2 j ++ nothing_new (tells_clear a i) a.next 5 j ++ nothing_new (tells_done a i) i.parent 1 j ++ nothing_new (heads_reads a) a.child 3 j ++ nothing_new (heads_writes a) a.child 4 j ++ nothing_new (heads_folds a) a.child 2 j

join_sent : (a : EntryState) (e : ℕ) → a.left ≡ false → part (joins (record a { left = true }) && not (joins a)) e 0 ≡ part a.folds e 0
join_sent a e off = ap (λ (b : Bool). part ((a.folds && true) && not (a.folds && b)) e 0) off ∙ go a.folds
  where
    go : (b : Bool) → part ((b && true) && not (b && false)) e 0 ≡ part b e 0
    go true = refl
    go false = refl

-- and that if the entry may be joined
pub left_sent : (e : ℕ) (a : EntryState) (i : EntryInfo) → a.left ≡ false → sent e a (record a { left = true }) i ≡ part a.folds e 0
left_sent e a i off =
    sent_is_posted e a (record a { left = true }) i
    ∙ (ap (λ (z : List Message). z ++ part (joins (record a { left = true }) && not (joins a)) e 0) (none_posted a i)
    ∙ join_sent a e off)

-- what was read of entries, once a value was written beside the state word of one
pub with_is : (e value : ℕ) (l : List Fixed) (y : Fixed) → Among y (still_with e value l) → (Among y l × (y.entry ≢ e)) ⊎ ((old : Fixed) × Among old l × (old.entry ≡ e) × (y ≡ record { entry = e; state = old.state; value = Some value }))
with_is e value [] y a = elim a [ ]
with_is e value (z ∷ l) y a = elim a [
  | among_first p ↦ go (z.entry == e) (eqb_tells z.entry e) p
  | among_later k ↦ elim (with_is e value l y k) [ inl r ↦ inl (among_later r.0, r.1) | inr r ↦ inr (r.0, among_later r.1, r.2, r.3) ]
]
  where
    go : (b : Bool) → ((b ≡ true) × (z.entry ≡ e)) ⊎ ((b ≡ false) × (z.entry ≢ e)) → ◌≡◌ {A = Fixed} (record z { value = cond b (Some value) z.value }) y
        → (Among y (z ∷ l) × (y.entry ≢ e)) ⊎ ((old : Fixed) × Among old (z ∷ l) × (old.entry ≡ e) × (y ≡ record { entry = e; state = old.state; value = Some value }))
    go true (inl q) p = inr (z, among_first refl, q.1, sym p ∙ (λ i. record { entry = q.1 i; state = z.state; value = Some value }))
    go true (inr q) p = absurd (clash refl q.0)
    go false (inl q) p = absurd (clash q.0 refl)
    go false (inr q) p = inl (among_first p, subst (λ (u : Fixed). u.entry ≢ e) p q.1)

-- what is known of the entry of a strong reduction of a task whose job is held
module _ (code : CodeParts) (fuel n id : ℕ) (v : SeatView) (ws : List ℕ) (homes : List (maybe.Option Slot)) (views : List SeatView) (stands : Stands code fuel n ws homes views) (sits : get_elem? views id ≡ maybe.some v)
    (place : ℕ) (h : Holding) (holds : get_elem? v.known.bears place ≡ maybe.some h) (number : h.number ≢ 0) (cell : ℕ) (op : Op) (right : right_of h.body.start.context cell ≡ Holds (Fold op) true) where
  abbrev parts_now : Parts (Box Job)
  parts_now = parts_of (length code.first) ws homes stands.cells

  abbrev rule_now : Field (asks code) (code_main code fuel) code.first (is_job_of code stands.before) n parts_now (sights_of views)
  rule_now = stands.rule.field

  pub record IsMine : Type 0 where
    pub it : Role
    pub is : stands.rule.field.role (entry_of h (Some cell)) ≡ Some it
    pub hangs : stands.rule.field.net.place (entry_of h (Some cell)) ≢ apart
    pub path : it.path ≡ h.path
    pub site : it.site ≡ on cell
    pub inside : entry_of h (Some cell) < n

  pub mine : IsMine
  mine =
      let x = cell_filed code n parts_now (sights_of views) rule_now id v.known (sits_at views id v sits) place h holds number cell (Fold op) true right in
      let there = subst (λ (z : ℕ). rule_now.net.place z ≢ apart) x.3 x.0.hangs in record {
        it = x.0.it;
        is = ap rule_now.role (sym x.3) ∙ x.0.is;
        hangs = there;
        path = x.0.path;
        site = x.0.site;
        inside = rule_now.words.flow.words.inside (entry_of h (Some cell)) there;
      }

  -- what the seat has read of it is so
  pub record IsRead (y : Fixed) : Type 0 where
    pub unleft : (state_at (slice_index ws (state_word_of (length code.first) (entry_of h (Some cell))))).left ≡ false
    pub open_yet : (state_at (slice_index ws (state_word_of (length code.first) (entry_of h (Some cell))))).given ≡ false
    pub value : (z : ℕ) → y.value ≡ Some z → slice_index ws (value_word_of (length code.first) (entry_of h (Some cell))) ≡ z

  pub read : (y : Fixed) → Among y v.known.still → y.entry ≡ entry_of h (Some cell) → y.state.left ≡ false → y.state.given ≡ false → IsRead y
  read y among same unleft open_yet =
      let t = rule_now.still id (sight_of v.known) (sits_at views id v sits) y among in record {
        unleft = ap (λ (z : ℕ). (parts_now.states z).left) (sym same) ∙ (t.left ∙ unleft);
        open_yet = ap (λ (z : ℕ). (parts_now.states z).given) (sym same) ∙ (t.given (λ o mode strong is_left. clash is_left unleft) ∙ open_yet);
        value = λ z q. ap (λ (u : ℕ). parts_now.values u) (sym same) ∙ t.value z q;
      }

-- the value is written
module _ (code : CodeParts) (fuel n id : ℕ) (v : SeatView) (job : Job) (cell value : ℕ) (s : StandsToLeave code job v.known cell value) (unjoined : v.known.joined ≡ []) where
  write_stands : (ws : List ℕ) (homes : List (maybe.Option Slot)) (views : List SeatView) (stands : Stands code fuel n ws homes views) → get_elem? views id ≡ maybe.some v
      → Stands code fuel n (set ws (value_word_of (length code.first) (entry_of s.holding (Some cell))) value) homes (set views id (record { known = wrote (length code.first) (entry_of s.holding (Some cell)) value s.place s.holding s.body v.known }))
  write_stands ws homes views stands sits =
      let e : ℕ = entry_of s.holding (Some cell) in
      let l : Known = wrote (length code.first) e value s.place s.holding s.body v.known in
      let my = mine code fuel n id v ws homes views stands sits s.place s.holding s.given.holds s.below_main cell s.op s.right in
      let as_read = read code fuel n id v ws homes views stands sits s.place s.holding s.given.holds s.below_main cell s.op s.right s.still.it s.still.among s.still.entry s.still.unleft s.still.open_yet in
      let values' : ℕ → ℕ = λ j. slice_index (set ws (value_word_of (length code.first) e) value) (value_word_of (length code.first) j) in
      let rule = values_keep CodeScript (Box Job) (is_job_of code stands.before) (asks code) (code_main code fuel) code.first n (parts_of (length code.first) ws homes stands.cells) (sights_of views) stands.rule.field
      id (sight_of v.known) (sight_of l) s.place (bearing_of s.holding) (bearing_of (with_body s.body s.holding)) s.body e my.it value values' (record {
        entry = record {
          with_job = record { sits = sits_at views id v sits; job = job_goes code job v.known s.place s.holding s.body s.given s.body refl l refl refl refl refl; alone = s.given.may };
          loaded = λ y a. let r = beside_is s.holding.number v.known.loaded y a in of_other r.0 r.1;
          body = refl;
          is = my.is;
          path = my.path;
          owes = refl;
          none = unjoined;
          seen = refl;
        };
        words = refl;
        unleft = as_read.unleft;
        value_is = value_here code fuel n ws homes views stands e my.inside value;
        others = value_else code fuel n ws homes views stands e my.inside value;
        still = λ y a. with_is e value v.known.still y a;
      }) in
      value_stands code fuel n ws homes views stands e my.inside value id v l sits refl refl as_read.unleft (told_on stands.before v.known.bears s.place s.holding s.body s.given.holds (stands.told id v sits)) (chained stands rule)

  writes : Steps code fuel n id v (value_word_of (length code.first) (entry_of s.holding (Some cell))) (λ x. value) (λ x z. WroteValue code job (length code.first) cell value (entry_of s.holding (Some cell)) v.known z)
  writes ws homes views stands sits bits = (wrote (length code.first) (entry_of s.holding (Some cell)) value s.place s.holding s.body v.known, write_stands ws homes views stands sits, record { may = s; entry = refl; known = refl })

-- the step by which it is written
pub steps_write : (code : CodeParts) (fuel n id : ℕ) (v : SeatView) (job : Job) (cell value e : ℕ) (may : MayWrite code job n v.known cell value e)
    → Steps code fuel n id v (value_word_of (length code.first) e) (λ x. value) (λ x l. WroteValue code job (length code.first) cell value e v.known l)
steps_write code fuel n id v job cell value e may =
    subst (λ (z : ℕ). Steps code fuel n id v (value_word_of (length code.first) z) (λ x. value) (λ x l. WroteValue code job (length code.first) cell value z v.known l)) may.entry
    (writes code fuel n id v job cell value may.may may.unjoined)

-- the flag is set
module _ (code : CodeParts) (fuel n id : ℕ) (v : SeatView) (cell value entry : ℕ) (s : IsWritten code v.known cell value entry) where
  abbrev e : ℕ
  e = entry_of s.holding (Some cell)

  module _ (ws : List ℕ) (homes : List (maybe.Option Slot)) (views : List SeatView) (stands : Stands code fuel n ws homes views) (sits : get_elem? views id ≡ maybe.some v) where
    abbrev k : Parts (Box Job)
    k = parts_of (length code.first) ws homes stands.cells

    abbrev x : ℕ
    x = slice_index ws (state_word_of (length code.first) e)

    abbrev old : EntryState
    old = state_at x

    abbrev c : EntryState
    c = record old { left = true }

    abbrev l : Known
    l = flagged (length code.first) e x v.known

    my : IsMine code fuel n id v ws homes views stands sits s.place s.holding s.holds s.below_main cell s.op s.right
    my = mine code fuel n id v ws homes views stands sits s.place s.holding s.holds s.below_main cell s.op s.right

    as_read : IsRead code fuel n id v ws homes views stands sits s.place s.holding s.holds s.below_main cell s.op s.right (record { entry = entry; state = s.state; value = Some value })
    as_read = read code fuel n id v ws homes views stands sits s.place s.holding s.holds s.below_main cell s.op s.right (record { entry = entry; state = s.state; value = Some value }) s.still (sym s.entry) s.unleft s.open_yet

    fits : FitsWord c
    fits = record { next = (parts_fit x).next; child = (parts_fit x).child }

    neat : Neat c
    neat = record { next = (stands.neat e).next; child = (stands.neat e).child }

    sum : ((x + 256) % 2 ^ 64 ≡ state_word c) × (state_at (x + 256) ≡ c) × (x + 256 < 18446744073709551616)
    sum = added old c x 256 (stands.whole e) (let p = num_off old.left as_read.unleft in omega (arith, p)) fits

    abbrev states' : ℕ → EntryState
    states' j = state_at (slice_index (set ws (state_word_of (length code.first) e) (state_word c)) (state_word_of (length code.first) j))

    now : states' e ≡ c
    now = state_here code fuel n ws homes views stands e my.inside c fits neat

    others : (j : ℕ) → j ≢ e → states' j ≡ k.states j
    others = state_else code fuel n ws homes views stands e my.inside c fits neat

    held_at : Bears (sight_of v.known) s.place (bearing_of s.holding)
    held_at = at_map bearing_of v.known.bears s.place s.holding s.holds

    left_stands : Stands code fuel n (set ws (state_word_of (length code.first) e) (state_word c)) homes (set views id (record { known = l }))
    left_stands =
        let rule = leaves_keep CodeScript (Box Job) (is_job_of code stands.before) (asks code) (code_main code fuel) code.first n k (sights_of views) stands.rule.field
        id (sight_of v.known) (sight_of l) s.place (bearing_of s.holding) (bearing_of s.holding) s.holding.body e my.it states' cell s.op (record {
          entry = record {
            with_job = record {
              sits = sits_at views id v sits;
              job = record {
                has = held_at;
                bears = sym (set_again (map bearing_of v.known.bears) s.place (bearing_of s.holding) held_at);
                number = refl;
                path = refl;
                last = refl;
                start = refl;
                makes = refl;
                ready = refl;
                joined = refl;
              };
              alone = still_there;
            };
            loaded = λ y a. of_other a (s.loaded y a);
            body = refl;
            is = my.is;
            path = my.path;
            owes = refl;
            none = s.unjoined;
            seen = refl;
          };
          hangs = my.hangs;
          word = record {
            empty = s.empty;
            full = s.whole;
            keeps = as_read.open_yet;
            sets = now;
            others = others;
            sends = sym (left_sent e old (k.infos e) as_read.unleft) ∙ ap (λ (z : EntryState). sent e old z (k.infos e)) (sym now);
            whole = s.whole;
          };
          site = my.site;
          right = s.right;
          ended = s.ended;
          wait = s.wait;
          value = as_read.value value refl ∙ s.value_is;
          still = λ y a. still_is e v.known.still y a;
        }) in
        let each : (j : ℕ) → Grown (k.states j) (states' j) = all_of Grown grown_same k.states states' e others (subst (λ (z : EntryState). Grown (k.states e) z) (sym now) (left_grown old)) in
        let come = came_more n stands.net.place k.states states' each in
        state_stands code fuel n ws homes views stands e my.inside c fits neat id v l sits refl refl refl (subst (λ (z : Net). z.place e ≢ apart) stands.rule.same_net my.hangs) (record { left = λ q. refl; none = λ q h. h }) (stands.told id v sits) refl refl refl (omega (arith, come)) stands.gave (chained stands rule)

  leaves : Steps code fuel n id v (state_word_of (length code.first) (entry_of s.holding (Some cell))) (λ y. (y + 256) % 2 ^ 64) (λ y z. SetsLeft n (length code.first) (entry_of s.holding (Some cell)) y v.known z)
  leaves ws homes views stands sits bits =
      let y : ℕ = slice_index ws (state_word_of (length code.first) e) in
      let z : Known = flagged (length code.first) e y v.known in
      let total = sum ws homes views stands sits in
      let new = left_stands ws homes views stands sits in
      let ws' = set ws (state_word_of (length code.first) e) (state_word (record (state_at y) { left = true })) in (
        z,
        subst (λ (u : ℕ). Stands code fuel n (set ws (state_word_of (length code.first) e) u) homes (set views id (record { known = z }))) (sym total.0) new,
        record {
          known = refl;
          bounded = bounded code fuel n ws' homes (set views id (record { known = z })) new id (record { known = z }) (at_here views id v (record { known = z }) sits);
          fits = total.2;
          unleft = (as_read ws homes views stands sits).unleft;
          sets = total.1;
        },
      )

  -- the step by which it is set
  pub steps_left : Steps code fuel n id v (state_word_of (length code.first) entry) (λ y. (y + 256) % 2 ^ 64) (λ y z. SetsLeft n (length code.first) entry y v.known z)
  steps_left =
      subst (λ (u : ℕ). Steps code fuel n id v (state_word_of (length code.first) u) (λ y. (y + 256) % 2 ^ 64) (λ y z. SetsLeft n (length code.first) u y v.known z)) s.entry leaves
