-- The leave of a value as a call of several steps: what the seat knows between them and after them.
use Rattle.std.proofs.Common.{◌≡◌, ◌≢◌, sym, subst, refl, ◌∙◌, ap, ℕ, ◌<◌, ◌+◌, Bool, true, false, ◌==◌, cond, List, [], ◌∷◌, length, Option, Some, None, inl, inr, ◌⊎◌}
use Rattle.std.specs.Prelude.{if◌then◌else◌}
use Rattle.std.proofs.lemmas.Bool.Decides.{eqb_tells}
use Rattle.atomic_table.specs.Seated.{TableId}
use Rattle.oss_code.specs.declared.code.CodeParts.{CodeParts}
use Rattle.oss_jobs.specs.declared.job.Job.{Job}
use Rattle.oss_jobs.specs.Entries.{or_zero}
use Rattle.oss_jobs.specs.Jobs.{IsJob}
use Rattle.oss_machine.specs.Frames.{CodeScript}
use Rattle.oss_machine.specs.Machines.{asks}
use Rattle.oss_model.specs.Bodies.{Body, Start}
use Rattle.oss_model.specs.Context.{right_of}
use Rattle.oss_model.specs.Moves.{act_now}
use Rattle.oss_model.specs.Rights.{Right, Holds}
use Rattle.oss_syntax.specs.declared.access.Mode.{Mode}
use Rattle.oss_syntax.specs.declared.access.Mode.TheVariants.{Fold}
use Rattle.oss_words.specs.declared.entry.EntryInfo.{EntryInfo}
use Rattle.oss_words.specs.declared.entry.EntryState.{EntryState}
use Rattle.oss_words.specs.declared.message.Message.{Message}
use Rattle.oss_words.specs.Bits.{info_at, state_at}
use Rattle.oss_words.specs.Causes.{part, posted, sent}
use Rattle.oss_words.specs.Views.{Among, among_first, among_later}
use Rattle.oss_words.proofs.CauseLemmas.{clash}
use Rattle.oss_words.proofs.KeptLaw.{at_here}
use Rattle.oss_roles.specs.JobSteps.{MayEnd}
use Rattle.oss_roles.specs.Numbers.{entry_number, entry_on, has_cell}
use Rattle.oss_roles.specs.Passing.{AllDone, last_done, no_child}
use Rattle.oss_roles.specs.Roles.{Site, itself}
use Rattle.oss_roles.specs.Sights.{Bearing, Fixed, Sight}
use Rattle.oss_field.specs.declared.held.Held.{Held}
use Rattle.oss_field.specs.Asks.{AreInside, IsInside, StandsBefore}
use Rattle.oss_field.specs.Giving.{gone_on, still_beside}
use Rattle.oss_field.specs.Heard.{Told}
use Rattle.oss_field.specs.Known.{Holding, Known, bearing_of, last_of, sight_of}
use Rattle.oss_field.specs.Layout.{state_word_of}
use Rattle.oss_field.specs.Leaving.{HasLeft, IsWritten, MayLeaveHere, MayWrite, SetsLeft, StandsToLeave, WroteValue, flagged, left_as, still_with, wrote}
use Rattle.oss_field.specs.Messages.{Hangs, Ready, Settled, by_entry, informed}
use Rattle.oss_field.specs.Moves.{touched, with_body}
use Rattle.oss_field.specs.Owning.{entry_of}
use Rattle.oss_field.specs.Standing.{carried}
use Rattle.oss_field.proofs.ActLemmas.{carried_on, inside_after}
use Rattle.oss_field.proofs.CellLemmas.{beside_is, may_start}
use Rattle.oss_field.proofs.GivenLemmas.{sent_ready}
use Rattle.oss_field.proofs.LeaveLemmas.{left_sent, none_posted}
use Rattle.oss_field.proofs.MessageLemmas.{learns_one}
use Rattle.oss_field.proofs.TableLemmas.{among_at}

-- whether a value may be left does not depend on what was told
module _ (code : CodeParts) (job : Job) (k : Known) (cell value : ℕ) (told : List Told) (word found : ℕ) where
  abbrev pub stands_on : StandsToLeave code job k cell value → StandsToLeave code job (record k { told = told; word = word; found = found }) cell value
  stands_on s = record {
    place = s.place;
    holding = s.holding;
    body = s.body;
    given = record { holds = s.given.holds; may = s.given.may; is = s.given.is };
    below_main = s.below_main;
    op = s.op;
    right = s.right;
    ended = s.ended;
    wait = s.wait;
    value_is = s.value_is;
    still = record { it = s.still.it; among = s.still.among; entry = s.still.entry; unleft = s.still.unleft; open_yet = s.still.open_yet };
    empty = s.empty;
  }

  abbrev pub stands_back : StandsToLeave code job (record k { told = told; word = word; found = found }) cell value → StandsToLeave code job k cell value
  stands_back s = record {
    place = s.place;
    holding = s.holding;
    body = s.body;
    given = record { holds = s.given.holds; may = s.given.may; is = s.given.is };
    below_main = s.below_main;
    op = s.op;
    right = s.right;
    ended = s.ended;
    wait = s.wait;
    value_is = s.value_is;
    still = record { it = s.still.it; among = s.still.among; entry = s.still.entry; unleft = s.still.unleft; open_yet = s.still.open_yet };
    empty = s.empty;
  }

-- what was read of an entry, once a value was written beside its state word
written_among : (e value : ℕ) (l : List Fixed) (y : Fixed) → Among y l → y.entry ≡ e → Among (record { entry = e; state = y.state; value = Some value }) (still_with e value l)
written_among e value [] y a same = elim a [ ]
written_among e value (z ∷ l) y a same = elim a [
  | among_first p ↦ among_first (here p (z.entry == e) (eqb_tells z.entry e))
  | among_later k ↦ among_later (written_among e value l y k same)
]
  where
    here : ◌≡◌ {A = Fixed} z y → (b : Bool) → ((b ≡ true) × (z.entry ≡ e)) ⊎ ((b ≡ false) × (z.entry ≢ e)) → ◌≡◌ {A = Fixed} (record z { value = cond b (Some value) z.value }) (record { entry = e; state = y.state; value = Some value })
    here p true (inl q) = λ i. record { entry = q.1 i; state = (p i).state; value = Some value }
    here p true (inr q) = absurd (clash refl q.0)
    here p false (inl q) = absurd (clash q.0 refl)
    here p false (inr q) = absurd (q.1 (ap (λ (u : Fixed). u.entry) p ∙ same))

-- and of the others
beside_written : (e value : ℕ) (l : List Fixed) → still_beside e (still_with e value l) ≡ still_beside e l
beside_written e value [] = refl
beside_written e value (z ∷ l) = go (z.entry == e) (beside_written e value l)
  where
    go : (b : Bool) → still_beside e (still_with e value l) ≡ still_beside e l → cond b (still_beside e (still_with e value l)) (record z { value = cond b (Some value) z.value } ∷ still_beside e (still_with e value l)) ≡ cond b (still_beside e l) (z ∷ still_beside e l)
    go true rest = rest
    go false rest = ap (λ (u : List Fixed). z ∷ u) rest

-- the clause wait asks of a job that has gone on what it asked before
end_on : (v w : Sight CodeScript) (b c : Bearing CodeScript) (x : Body CodeScript) → w.seen ≡ v.seen → c.last itself ≡ b.last itself → MayEnd v b x → MayEnd w c x
end_on v w b c x seen last may on = go (may on)
  where
    go : AllDone v b itself → AllDone w c itself
    go (no_child none) = no_child (last ∙ none)
    go (last_done y is among clear done) = last_done y (last ∙ is) (subst (λ l. Among y l) (sym seen) among) clear done

entry_same : (h : Holding) (x : Body CodeScript) (cell : ℕ) → x.start ≡ h.body.start → entry_of (with_body x h) (Some cell) ≡ entry_of h (Some cell)
entry_same h x cell same = ap (λ (z : Start CodeScript). entry_number h.number (right_of z.context) cell) same

module _ (code : CodeParts) (job : Job) (held : List Held) (n m : ℕ) (k : Known) (cell value e : ℕ) (s : Settled held n k) where
  -- the entry is there
  pub entry_hangs : MayLeaveHere code job n k cell value e → Hangs k e
  entry_hangs here = by_entry here.may.place here.may.holding here.may.given.holds here.may.below_main (Some cell) (Fold here.may.op, true, here.may.right) here.entry

  module _ (w : ℕ) (k1 : Known) (known : k1 ≡ informed m e w k) where
    -- the value may be written
    pub may_write : MayLeaveHere code job n k cell value e → MayWrite code job n k1 cell value e
    may_write here = subst (λ (z : Known). MayWrite code job n z cell value e) (sym known) (record {
      may = stands_on code job k cell value (record { entry = e; info = info_at w } ∷ k.told) _ _ here.may;
      entry = here.entry;
      inside = here.inside;
      unjoined = s.unjoined;
    })

    -- and then it is written
    pub is_written : (k2 : Known) → WroteValue code job m cell value e k1 k2 → IsWritten code k2 cell value e
    is_written k2 = subst (λ (z : Known). WroteValue code job m cell value e z k2 → IsWritten code k2 cell value e) (sym known) direct
      where
        direct : WroteValue code job m cell value e (informed m e w k) k2 → IsWritten code k2 cell value e
        direct g =
            let start = may_start (asks code) (sight_of k) (bearing_of g.may.holding) g.may.body g.may.given.may in
            subst (λ (z : Known). IsWritten code z cell value e) (sym g.known) (record {
              place = g.may.place;
              holding = with_body g.may.body g.may.holding;
              holds = at_here k.bears g.may.place g.may.holding (with_body g.may.body g.may.holding) g.may.given.holds;
              below_main = g.may.below_main;
              op = g.may.op;
              right = subst (λ (z : Start CodeScript). right_of z.context cell ≡ Holds (Fold g.may.op) true) (sym start) g.may.right;
              ended = g.may.ended;
              wait = end_on (sight_of k) (sight_of (wrote m e value g.may.place g.may.holding g.may.body (informed m e w k))) (bearing_of g.may.holding) (bearing_of (with_body g.may.body g.may.holding)) g.may.body refl refl g.may.wait;
              value_is = g.may.value_is;
              entry = entry_same g.may.holding g.may.body cell start ∙ g.entry;
              state = g.may.still.it.state;
              still = written_among e value k.still g.may.still.it g.may.still.among (g.may.still.entry ∙ g.entry);
              unleft = g.may.still.unleft;
              open_yet = g.may.still.open_yet;
              loaded = λ y a. (beside_is g.may.holding.number k.loaded y a).1;
              empty = g.may.empty;
              whole = s.whole;
              unjoined = s.unjoined;
            })

    module _ (found : ℕ) (k2 k3 : Known) (wrote_it : WroteValue code job m cell value e k1 k2) (sets : SetsLeft n m e found k2 k3) (cells : m ≡ length code.first) where
      abbrev Reaches : Known → Type 0
      Reaches z = WroteValue code job m cell value e z k2 → HasLeft code job cell value k k3

      -- what the seat knows after the call
      pub has_left : HasLeft code job cell value k k3
      has_left = subst Reaches (sym known) direct wrote_it
        where
          direct : WroteValue code job m cell value e (informed m e w k) k2 → HasLeft code job cell value k k3
          direct g = record {
            may = stands_back code job k cell value (record { entry = e; info = info_at w } ∷ k.told) _ _ g.may;
            info = w;
            found = found;
            unleft = sets.unleft;
            known = sets.known ∙ ((λ j. flagged m e found (g.known j))
                ∙ ((λ j. touched (state_word_of m e) found (record (gone_on g.may.place g.may.holding g.may.body e k) { words = record k.words { held = part (state_at found).folds e 0 }; told = record { entry = e; info = info_at w } ∷ k.told; still = beside_written e value k.still j }))
                ∙ (λ j. left_as (cells j) (sym g.entry j) w found (gone_on g.may.place g.may.holding g.may.body (sym g.entry j) k))));
          }

      told_is : k3.told ≡ (informed m e w k).told
      told_is = ap (λ (z : Known). z.told) sets.known ∙ (ap (λ (z : Known). z.told) wrote_it.known ∙ ap (λ (z : Known). z.told) known)

      among_told : Among (record { entry = e; info = info_at w }) k3.told
      among_told = subst (λ (l : List Told). Among (record { entry = e; info = info_at w }) l) (sym told_is) (among_first refl)

      -- what is held is what the last step has sent
      held_is : k3.words.held ≡ sent e (state_at found) (state_at (found + 256)) (info_at w)
      held_is = ap (λ (z : Known). z.words.held) sets.known
          ∙ (sym (left_sent e (state_at found) (info_at w) sets.unleft) ∙ ap (λ (z : EntryState). sent e (state_at found) z (info_at w)) (sym sets.sets))

      sent_now : Ready held (sent e (state_at found) (state_at (found + 256)) (info_at w)) k3
      sent_now = sent_ready held (sent e (state_at found) (state_at (found + 256)) (info_at w)) k k3 s.ready (ap (λ (z : Known). z.words.held) (sym known) ∙ wrote_it.may.empty) held_is
          (λ t a. subst (λ (l : List Told). Among t l) (sym told_is) (among_later a))

      -- and nothing is left that is not ready
      pub ready_after : (left : List Held) → ((z : Known) → Among (record { entry = e; info = info_at w }) z.told → Ready held (sent e (state_at found) (state_at (found + 256)) (info_at w)) z → Ready left (posted (state_at found) (state_at (found + 256)) (info_at w)) z) → Ready left [] k3
      ready_after left joined =
          subst (λ (l : List Message). Ready left l k3) (ap (λ (z : EntryState). posted (state_at found) z (info_at w)) sets.sets ∙ none_posted (state_at found) (info_at w)) (joined k3 among_told sent_now)

      pub settled_after : (left : List Held) → ((j : EntryInfo) → Among (record { entry = e; info = j }) k.told → info_at w ≡ j) → Ready left [] k3 → Settled left n k3
      settled_after left again ready = record {
        ready = ready;
        bounded = sets.bounded;
        whole = ap (λ (z : Known). z.words.half) has_left.known ∙ s.whole;
        unjoined = ap (λ (z : Known). z.joined) has_left.known ∙ s.unjoined;
        unowed = ap (λ (z : Known). z.owes) has_left.known ∙ s.unowed;
        one = λ f i j x y. (learns_one m k e w again).one s.one f i j (subst (λ (l : List Told). Among (record { entry = f; info = i }) l) told_is x) (subst (λ (l : List Told). Among (record { entry = f; info = j }) l) told_is y);
      }

-- the entry, as the job tells it
number_is : (t : ℕ) (own : ℕ → Right) (c : ℕ) (mode : Mode) (strong : Bool) → own c ≡ Holds mode strong → or_zero (if has_cell (own c) then Some (entry_number t own c) else None) ≡ entry_number t own c
number_is t own c mode strong right = ap (λ (r : Right). or_zero (if has_cell r then Some (entry_number t own c) else None)) right

pub leaves_here : (code : CodeParts) (job : Job) (d : TableId) (n : ℕ) (k : Known) → d.slots ≡ n → AreInside d k.bears → (cell value e : ℕ) → StandsToLeave code job k cell value
    → ((code : CodeParts) (before : List ℕ) (t : ℕ) (b : Body CodeScript) (last : Site → Option ℕ) → IsJob code before job t b last → e ≡ or_zero (entry_on t (right_of b.start.context) cell))
    → MayLeaveHere code job n k cell value e
leaves_here code job d n k slots inside cell value e s tells =
    let h = s.holding in
    let within : IsInside d h = inside h (among_at k.bears s.place h s.given.holds) in
    let start = may_start (asks code) (sight_of k) (bearing_of h) s.body s.given.may in
    let told : e ≡ or_zero (entry_on h.number (right_of s.body.start.context) cell) = tells code h.before h.number s.body (last_of h) s.given.is in
    let same : entry_of h (Some cell) ≡ e = sym (told ∙ (ap (λ (z : Start CodeScript). or_zero (entry_on h.number (right_of z.context) cell)) start ∙ number_is h.number (right_of h.body.start.context) cell (Fold s.op) true s.right)) in record {
      may = s;
      entry = same;
      inside = subst (λ (z : ℕ). z < n) same (subst (λ (z : ℕ). entry_of h (Some cell) < z) slots (within.entries s.below_main cell (Fold s.op) true s.right));
    }

-- the jobs that the seat holds after a leave
pub left_slots : (code : CodeParts) (job : Job) (cell value : ℕ) (k l : Known) → HasLeft code job cell value k l → carried l.bears ≡ carried k.bears
left_slots code job cell value k l g = ap (λ (z : Known). carried z.bears) g.known ∙ carried_on k.bears g.may.place g.may.holding g.may.body g.may.given.holds

pub left_inside : (d : TableId) (code : CodeParts) (job : Job) (cell value : ℕ) (k l : Known) → AreInside d k.bears → HasLeft code job cell value k l → AreInside d l.bears
left_inside d code job cell value k l inside g =
    let b : StandsBefore code job k (act_now (asks code) g.may.body) = record { place = g.may.place; holding = g.may.holding; body = g.may.body; given = g.may.given; act = refl } in
    subst (λ (z : Known). AreInside d z.bears) (sym g.known) (inside_after d code job k inside (act_now (asks code) g.may.body) b g.may.body refl)
