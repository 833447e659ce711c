-- The give of an entry as a call of several steps: what the seat knows between them and after them.
use Rattle.std.proofs.Common.{◌≡◌, ◌≢◌, sym, subst, refl, ◌∙◌, ap, ℕ, ◌<◌, ◌+◌, ◌*◌, ◌%◌, ◌^◌, arith, Bool, List, [], ◌∷◌, ◌++◌, length, Option, Some, None}
use Rattle.std.specs.Prelude.{if◌then◌else◌}
use Rattle.atomic_table.specs.Seated.{TableId}
use Rattle.oss_code.specs.declared.code.CodeParts.{CodeParts}
use Rattle.oss_jobs.specs.declared.job.Job.{Job}
use Rattle.oss_jobs.specs.Entries.{or_zero}
use Rattle.oss_jobs.specs.Jobs.{IsJob}
use Rattle.oss_machine.specs.Frames.{CodeScript}
use Rattle.oss_machine.specs.Machines.{asks}
use Rattle.oss_model.specs.Bodies.{Body, Start}
use Rattle.oss_model.specs.Context.{right_of}
use Rattle.oss_model.specs.Moves.{act_now}
use Rattle.oss_model.specs.Rights.{Right, Holds}
use Rattle.oss_syntax.specs.declared.access.Mode.{Mode}
use Rattle.oss_words.specs.declared.entry.EntryInfo.{EntryInfo}
use Rattle.oss_words.specs.declared.message.Message.{Message}
use Rattle.oss_words.specs.Bits.{info_at, state_at}
use Rattle.oss_words.specs.Causes.{sent}
use Rattle.oss_words.specs.Sums.{total}
use Rattle.oss_words.specs.Views.{Among, among_first, among_later}
use Rattle.oss_words.proofs.KeptLaw.{at_here}
use Rattle.oss_roles.specs.Numbers.{entry_number, has_cell}
use Rattle.oss_roles.specs.Roles.{Site, itself, on}
use Rattle.oss_field.specs.declared.held.Held.{Held}
use Rattle.oss_field.specs.declared.view.SeatView.{SeatView}
use Rattle.oss_field.specs.Asks.{AreInside, IsInside, StandsBefore}
use Rattle.oss_field.specs.Giving.{Gave, GivesRest, HasGivenHalf, HasGivenWhole, IsHalfGiven, MayGiveHalf, MayGiveHere, MayGiveUp, MayGiveWhole, StandsToGive, gave_rest, gives_cell, gives_own, gone_on, with_last, with_none}
use Rattle.oss_field.specs.Heard.{Told}
use Rattle.oss_field.specs.Known.{Holding, Known, bearing_of, last_of, sight_of}
use Rattle.oss_field.specs.Layout.{state_word_of}
use Rattle.oss_field.specs.Messages.{Bounded, Hangs, Learns, Ready, Settled, by_entry, by_last, informed}
use Rattle.oss_field.specs.Moves.{with_body}
use Rattle.oss_field.specs.Owning.{HasEntry, entry_of, entry_told_at, site_of}
use Rattle.oss_field.specs.Standing.{carried}
use Rattle.oss_field.specs.Steps.{Steps}
use Rattle.oss_field.proofs.ActLemmas.{carried_on, inside_after}
use Rattle.oss_field.proofs.CellLemmas.{may_start}
use Rattle.oss_field.proofs.GiveLemmas.{gives_half, gives_whole}
use Rattle.oss_field.proofs.MessageLemmas.{learns_one, still_bounded}
use Rattle.oss_field.proofs.TableLemmas.{among_at}

-- the step by which an entry with no child is given up
pub steps_whole : (code : CodeParts) (fuel n id : ℕ) (v : SeatView) (job : Job) (cell : Option ℕ) (e w : ℕ) (may : MayGiveWhole code job n v.known cell e w)
    → Steps code fuel n id v (state_word_of (length code.first) e) (λ x. (x + 24) % 2 ^ 64) (λ x l. HasGivenWhole code job n (length code.first) cell e w x v.known l)
steps_whole code fuel n id v job cell e w may =
    subst (λ (z : ℕ). Steps code fuel n id v (state_word_of (length code.first) z) (λ x. (x + 24) % 2 ^ 64) (λ x l. HasGivenWhole code job n (length code.first) cell z w x v.known l)) may.entry
    (λ ws homes views stands sits bits.
    let told = subst (λ (z : ℕ). Among (record { entry = z; info = info_at w }) v.known.told) (sym may.entry) may.told in
    let r = gives_whole code fuel n id v job cell may.may may.whole may.unjoined w told may.none ws homes views stands sits bits in
    (r.0, r.1, record { may = may.may; entry = refl; none = may.none; told = told; step = r.2 }))

-- and the first of two steps
pub steps_half : (code : CodeParts) (fuel n id : ℕ) (v : SeatView) (job : Job) (cell : Option ℕ) (e last : ℕ) (may : MayGiveHalf code job n v.known cell e last)
    → Steps code fuel n id v (state_word_of (length code.first) e) (λ x. (x + 8) % 2 ^ 64) (λ x l. HasGivenHalf code job (length code.first) cell e last x v.known l)
steps_half code fuel n id v job cell e last may =
    subst (λ (z : ℕ). Steps code fuel n id v (state_word_of (length code.first) z) (λ x. (x + 8) % 2 ^ 64) (λ x l. HasGivenHalf code job (length code.first) cell z last x v.known l)) may.entry
    (λ ws homes views stands sits bits.
    let r = gives_half code fuel n id v job cell may.may may.whole may.unjoined last may.last_is ws homes views stands sits bits in
    (r.0, r.1, record { may = may.may; entry = refl; last_is = may.last_is; step = r.2 }))

-- what may be given up does not depend on what was told
module _ (code : CodeParts) (job : Job) (k : Known) (told : List Told) (word found : ℕ) where
  abbrev pub read : Known
  read = record k { told = told; word = word; found = found }

  pub may_on : (h : Holding) (x : Body CodeScript) (cell : Option ℕ) → MayGiveUp code k h x cell → MayGiveUp code (record k { told = told; word = word; found = found }) h x cell
  may_on h x (Some _) (gives_cell c mode strong right plainly may) = gives_cell c mode strong right plainly may
  may_on h x None (gives_own over all) = gives_own over (λ d mode strong right. let y = all d mode strong right in record { it = y.it; among = y.among; entry = y.entry; given = y.given })

  pub may_back : (h : Holding) (x : Body CodeScript) (cell : Option ℕ) → MayGiveUp code (record k { told = told; word = word; found = found }) h x cell → MayGiveUp code k h x cell
  may_back h x (Some _) (gives_cell c mode strong right plainly may) = gives_cell c mode strong right plainly may
  may_back h x None (gives_own over all) = gives_own over (λ d mode strong right. let y = all d mode strong right in record { it = y.it; among = y.among; entry = y.entry; given = y.given })

  abbrev pub stands_on : (cell : Option ℕ) → StandsToGive code job k cell → StandsToGive code job (record k { told = told; word = word; found = found }) cell
  stands_on cell s = record {
    place = s.place;
    holding = s.holding;
    body = s.body;
    given = record { holds = s.given.holds; may = s.given.may; is = s.given.is };
    below_main = s.below_main;
    makes = s.makes;
    still = record { it = s.still.it; among = s.still.among; entry = s.still.entry; open_yet = s.still.open_yet };
    may = may_on s.holding s.body cell s.may;
    empty = s.empty;
  }

  abbrev pub stands_back : (cell : Option ℕ) → StandsToGive code job (record k { told = told; word = word; found = found }) cell → StandsToGive code job k cell
  stands_back cell s = record {
    place = s.place;
    holding = s.holding;
    body = s.body;
    given = record { holds = s.given.holds; may = s.given.may; is = s.given.is };
    below_main = s.below_main;
    makes = s.makes;
    still = record { it = s.still.it; among = s.still.among; entry = s.still.entry; open_yet = s.still.open_yet };
    may = may_back s.holding s.body cell s.may;
    empty = s.empty;
  }

-- the task has the entry
has_entry : (code : CodeParts) (k : Known) (h : Holding) (x : Body CodeScript) (cell : Option ℕ) → MayGiveUp code k h x cell → HasEntry h cell
has_entry code k h x (Some _) (gives_cell c mode strong right plainly may) = (mode, strong, right)
has_entry code k h x None (gives_own over all) = tt

-- also with a body that has gone on
has_on : (h : Holding) (x : Body CodeScript) (cell : Option ℕ) → x.start ≡ h.body.start → HasEntry h cell → HasEntry (with_body x h) cell
has_on h x None same has = tt
has_on h x (Some c) same has = (has.0, has.1, subst (λ (z : Start CodeScript). right_of z.context c ≡ Holds has.0 has.1) (sym same) has.2)

entry_on : (h : Holding) (x : Body CodeScript) (cell : Option ℕ) → x.start ≡ h.body.start → entry_of (with_body x h) cell ≡ entry_of h cell
entry_on h x None same = refl
entry_on h x (Some c) same = subst (λ (z : Start CodeScript). entry_of (record h { body = record { start = z; found = x.found } }) (Some c) ≡ entry_of h (Some c)) (sym same) refl

-- what is ready is what was sent, if nothing was held
pub sent_ready : (held : List Held) (items : List Message) (k l : Known) → Ready held [] k → k.words.held ≡ [] → l.words.held ≡ items → ((t : Told) → Among t k.told → Among t l.told) → Ready held items l
sent_ready held items k l ready none is told = record {
  same = λ h. let x = ready.same h in let y = ap (λ z. total h z) none in let z = ap (λ z. total h z) is in omega (arith, x, y, z);
  told = λ x m. told (record { entry = x.entry; info = info_at x.info }) (ready.told x m);
}

module _ (code : CodeParts) (job : Job) (held : List Held) (n m : ℕ) (k : Known) (cell : Option ℕ) (s : Settled held n k) where
  -- an entry that is known to be there
  module _ (e : ℕ) (last : Option ℕ) (here : MayGiveHere code job n k cell e last) where
    pub entry_hangs : Hangs k e
    entry_hangs = by_entry here.may.place here.may.holding here.may.given.holds here.may.below_main cell (has_entry code k here.may.holding here.may.body cell here.may.may) here.entry

    pub last_hangs : (l : ℕ) → last ≡ Some l → Hangs k l
    last_hangs l is = by_last here.may.place here.may.holding here.may.given.holds (site_of cell) (here.last_is ∙ is)

    on_read : (told : List Told) (word found : ℕ) (k1 : Known) → k1 ≡ record k { told = told; word = word; found = found } → (t : StandsToGive code job k1 cell) × (t.holding ≡ here.may.holding)
    on_read told word found k1 known = subst (λ (z : Known). (t : StandsToGive code job z cell) × (t.holding ≡ here.may.holding)) (sym known) (stands_on code job k told word found cell here.may, refl)

    pub may_whole : (w : ℕ) (k1 : Known) → last ≡ None → k1 ≡ informed m e w k → MayGiveWhole code job n k1 cell e w
    may_whole w k1 none known =
        let t = on_read (record { entry = e; info = info_at w } ∷ k.told) _ _ k1 known in record {
          may = t.0;
          entry = ap (λ (h : Holding). entry_of h cell) t.1 ∙ here.entry;
          none = ap (λ (h : Holding). last_of h (site_of cell)) t.1 ∙ (here.last_is ∙ none);
          told = subst (λ (z : Known). Among (record { entry = e; info = info_at w }) z.told) (sym known) (among_first refl);
          inside = here.inside;
          whole = ap (λ (z : Known). z.words.half) known ∙ s.whole;
          unjoined = ap (λ (z : Known). z.joined) known ∙ s.unjoined;
        }

    pub may_half : (l w : ℕ) (k1 : Known) → last ≡ Some l → k1 ≡ informed m l w k → MayGiveHalf code job n k1 cell e l
    may_half l w k1 is known =
        let t = on_read (record { entry = l; info = info_at w } ∷ k.told) _ _ k1 known in record {
          may = t.0;
          entry = ap (λ (h : Holding). entry_of h cell) t.1 ∙ here.entry;
          last_is = ap (λ (h : Holding). last_of h (site_of cell)) t.1 ∙ (here.last_is ∙ is);
          inside = here.inside;
          whole = ap (λ (z : Known). z.words.half) known ∙ s.whole;
          unjoined = ap (λ (z : Known). z.joined) known ∙ s.unjoined;
        }

  -- after the one step of a give
  module _ (e w found : ℕ) (k2 k3 : Known) where
    abbrev After : Known → Type 0
    After k1 = (g : HasGivenWhole code job n m cell e w found k1 k2) (learns : Learns k2 k3) → Gave code job cell k k3

    whole_direct : After (informed m e w k)
    whole_direct g learns = record {
      may = stands_back code job k (record { entry = e; info = info_at w } ∷ k.told) _ _ cell g.may;
      held = sent e (state_at found) (state_at (found + 24)) (info_at w);
      sends = with_none w found g.none (learns.told (record { entry = entry_of g.may.holding cell; info = info_at w })
          (subst (λ (z : Known). Among (record { entry = entry_of g.may.holding cell; info = info_at w }) z.told) (sym g.step.known)
          (subst (λ (z : ℕ). Among (record { entry = z; info = info_at w }) (record { entry = e; info = info_at w } ∷ k.told)) (sym g.entry) g.told)))
          (ap (λ (z : ℕ). sent z (state_at found) (state_at (found + 24)) (info_at w)) (sym g.entry));
      known = learns.same ∙ ((λ j. record (g.step.known j) { told = k3.told; word = k3.word; found = k3.found })
          ∙ (λ j. record (gone_on g.may.place g.may.holding g.may.body (sym g.entry j) k) { words = record k.words { held = sent e (state_at found) (state_at (found + 24)) (info_at w) }; told = k3.told; word = k3.word; found = k3.found }));
      kept = λ t a. learns.told t (subst (λ (z : Known). Among t z.told) (sym g.step.known) (among_later a));
    }

    pub whole_gave : (k1 : Known) → k1 ≡ informed m e w k → HasGivenWhole code job n m cell e w found k1 k2 → Learns k2 k3 → Gave code job cell k k3
    whole_gave k1 known = subst (λ (z : Known). After z) (sym known) whole_direct

    pub whole_ready : (left : List Held) (k1 : Known) → Ready left [] k → k.words.held ≡ [] → k1 ≡ informed m e w k → HasGivenWhole code job n m cell e w found k1 k2 → Ready left (sent e (state_at found) (state_at (found + 24)) (info_at w)) k2
    whole_ready left k1 ready none known g = sent_ready left (sent e (state_at found) (state_at (found + 24)) (info_at w)) k k2 ready none (ap (λ (z : Known). z.words.held) g.step.known)
        (λ t a. subst (λ (z : List Told). Among t z) (sym (ap (λ (z : Known). z.told) g.step.known ∙ ap (λ (z : Known). z.told) known)) (among_later a))

  -- the seat after the call
  pub settled_after : (left : List Held) (k1 k2 k3 : Known) (e w : ℕ) → Gave code job cell k k3 → k1 ≡ informed m e w k → ((j : EntryInfo) → Among (record { entry = e; info = j }) k.told → info_at w ≡ j) → k2.told ≡ k1.told → Bounded n k2 → Learns k2 k3 → Ready left [] k3 → Settled left n k3
  settled_after left k1 k2 k3 e w b known again same bound learns ready = record {
    ready = ready;
    bounded = still_bounded n k2 k3 learns bound;
    whole = ap (λ (z : Known). z.words.half) b.known ∙ s.whole;
    unjoined = ap (λ (z : Known). z.joined) b.known ∙ s.unjoined;
    unowed = ap (λ (z : Known). z.owes) b.known ∙ s.unowed;
    one = learns.one (λ f i j x y. (learns_one m k e w again).one s.one f i j (subst (λ (z : List Told). Among (record { entry = f; info = i }) z) (same ∙ ap (λ (z : Known). z.told) known) x) (subst (λ (z : List Told). Among (record { entry = f; info = j }) z) (same ∙ ap (λ (z : Known). z.told) known) y));
  }

  -- between the two steps of a give, and after them
  module _ (e l w : ℕ) where
    last_same : (h : Holding) (x : Body CodeScript) (y : Site) → last_of (with_body x h) y ≡ last_of h y
    last_same h x itself = refl
    last_same h x (on c) = refl

    abbrev Half : ℕ → Known → Known → Type 0
    Half f k2 k1 = HasGivenHalf code job m cell e l f k1 k2 → IsHalfGiven k2 cell e l w

    half_direct : (f : ℕ) (k2 : Known) → Half f k2 (informed m l w k)
    half_direct f k2 g =
        let start = may_start (asks code) (sight_of (informed m l w k)) (bearing_of g.may.holding) g.may.body g.may.given.may in
        subst (λ (z : Known). IsHalfGiven z cell e l w) (sym g.step.known) (record {
          place = g.may.place;
          holding = with_body g.may.body g.may.holding;
          holds = at_here k.bears g.may.place g.may.holding (with_body g.may.body g.may.holding) g.may.given.holds;
          below_main = g.may.below_main;
          makes = g.may.makes;
          has = has_on g.may.holding g.may.body cell start (has_entry code (informed m l w k) g.may.holding g.may.body cell g.may.may);
          entry = entry_on g.may.holding g.may.body cell start ∙ g.entry;
          half = ap (λ (z : ℕ). z ∷ []) (sym (entry_on g.may.holding g.may.body cell start ∙ g.entry));
          last_is = last_same g.may.holding g.may.body (site_of cell) ∙ g.last_is;
          told = among_first refl;
          unjoined = s.unjoined;
        })

    pub half_given : (f : ℕ) (k1 k2 : Known) → k1 ≡ informed m l w k → HasGivenHalf code job m cell e l f k1 k2 → IsHalfGiven k2 cell e l w
    half_given f k1 k2 known = subst (λ (z : Known). Half f k2 z) (sym known) (half_direct f k2)

    module _ (f1 f2 : ℕ) (k2 k3 k4 : Known) where
      abbrev Both : Known → Type 0
      Both k1 = HasGivenHalf code job m cell e l f1 k1 k2 → GivesRest n m e l w f2 k2 k3 → Learns k3 k4 → Gave code job cell k k4

      both_direct : Both (informed m l w k)
      both_direct g r learns = record {
        may = stands_back code job k (record { entry = l; info = info_at w } ∷ k.told) _ _ cell g.may;
        held = sent l (state_at f2) (state_at (f2 + (64 + 65536 * e))) (info_at w);
        sends = with_last l w f2 g.last_is (learns.told (record { entry = l; info = info_at w })
            (subst (λ (z : Known). Among (record { entry = l; info = info_at w }) z.told) (sym r.known)
            (subst (λ (z : Known). Among (record { entry = l; info = info_at w }) z.told) (sym g.step.known) (among_first refl))))
            (ap (λ (z : ℕ). sent l (state_at f2) (state_at (f2 + (64 + 65536 * z))) (info_at w)) (sym g.entry));
        known = learns.same ∙ ((λ j. record (r.known j) { told = k4.told; word = k4.word; found = k4.found })
            ∙ ((λ j. record (gave_rest m e l w f2 (g.step.known j)) { told = k4.told; word = k4.word; found = k4.found })
            ∙ (λ j. record (gone_on g.may.place g.may.holding g.may.body (sym g.entry j) k) { words = record k.words { half = sym s.whole j; held = sent l (state_at f2) (state_at (f2 + (64 + 65536 * e))) (info_at w) }; told = k4.told; word = k4.word; found = k4.found })));
        kept = λ t a. learns.told t (subst (λ (z : Known). Among t z.told) (sym r.known) (subst (λ (z : Known). Among t z.told) (sym g.step.known) (among_later a)));
      }

      pub both_gave : (k1 : Known) → k1 ≡ informed m l w k → HasGivenHalf code job m cell e l f1 k1 k2 → GivesRest n m e l w f2 k2 k3 → Learns k3 k4 → Gave code job cell k k4
      both_gave k1 known = subst (λ (z : Known). Both z) (sym known) both_direct

      pub both_told : (k1 : Known) → k1 ≡ informed m l w k → HasGivenHalf code job m cell e l f1 k1 k2 → GivesRest n m e l w f2 k2 k3 → k3.told ≡ k1.told
      both_told k1 known g r = ap (λ (z : Known). z.told) r.known ∙ ap (λ (z : Known). z.told) g.step.known

      pub both_ready : (left : List Held) (k1 : Known) → Ready left [] k → k.words.held ≡ [] → k1 ≡ informed m l w k → HasGivenHalf code job m cell e l f1 k1 k2 → GivesRest n m e l w f2 k2 k3 → Ready left (sent l (state_at f2) (state_at (f2 + (64 + 65536 * e))) (info_at w)) k3
      both_ready left k1 ready none known g r = sent_ready left (sent l (state_at f2) (state_at (f2 + (64 + 65536 * e))) (info_at w)) k k3 ready none
          (ap (λ (z : Known). z.words.held) r.known ∙ ap (λ (z : Known). z.words.held ++ sent l (state_at f2) (state_at (f2 + (64 + 65536 * e))) (info_at w)) g.step.known)
          (λ t a. subst (λ (z : List Told). Among t z) (sym (both_told k1 known g r ∙ ap (λ (z : Known). z.told) known)) (among_later a))

-- the entry and the last child, as the job tells them
told_is : (t : ℕ) (own : ℕ → Right) (c : ℕ) (mode : Mode) (strong : Bool) → own c ≡ Holds mode strong → or_zero (if has_cell (own c) then Some (entry_number t own c) else None) ≡ entry_number t own c
told_is t own c mode strong right = ap (λ (r : Right). or_zero (if has_cell r then Some (entry_number t own c) else None)) right

abbrev pub Tells : Job → Option ℕ → ℕ → Option ℕ → Type 0
Tells job cell e last = (code : CodeParts) (before : List ℕ) (t : ℕ) (b : Body CodeScript) (l : Site → Option ℕ) → IsJob code before job t b l → (e ≡ entry_told_at t (right_of b.start.context) cell) × (last ≡ l (site_of cell))

module _ (code : CodeParts) (job : Job) (d : TableId) (n : ℕ) (k : Known) (slots : d.slots ≡ n) (inside : AreInside d k.bears) where
  entry_is : (h : Holding) (x : Body CodeScript) (cell : Option ℕ) → x.start ≡ h.body.start → MayGiveUp code k h x cell → entry_told_at h.number (right_of x.start.context) cell ≡ entry_of h cell
  entry_is h x (Some _) same (gives_cell c mode strong right plainly may) =
      ap (λ (z : Start CodeScript). entry_told_at h.number (right_of z.context) (Some c)) same ∙ told_is h.number (right_of h.body.start.context) c mode strong right
  entry_is h x None same (gives_own over all) = refl

  entry_inside : (h : Holding) (x : Body CodeScript) (cell : Option ℕ) → IsInside d h → h.number ≢ 0 → MayGiveUp code k h x cell → entry_of h cell < d.slots
  entry_inside h x (Some _) within number (gives_cell c mode strong right plainly may) = within.entries number c mode strong right
  entry_inside h x None within number (gives_own over all) = within.number

  module _ (cell : Option ℕ) (e : ℕ) (last : Option ℕ) (s : StandsToGive code job k cell) (tells : Tells job cell e last) where
    held_inside : IsInside d s.holding
    held_inside = inside s.holding (among_at k.bears s.place s.holding s.given.holds)

    pub here_given : MayGiveHere code job n k cell e last
    here_given =
        let r = tells code s.holding.before s.holding.number s.body (last_of s.holding) s.given.is in
        let start = may_start (asks code) (sight_of k) (bearing_of s.holding) s.body s.given.may in
        let same : entry_of s.holding cell ≡ e = sym (r.0 ∙ entry_is s.holding s.body cell start s.may) in record {
          may = s;
          entry = same;
          last_is = sym r.1;
          inside = subst (λ (z : ℕ). z < n) same (subst (λ (z : ℕ). entry_of s.holding cell < z) slots (entry_inside s.holding s.body cell held_inside s.below_main s.may));
        }

    pub last_inside : (l : ℕ) → last ≡ Some l → l < n
    last_inside l is =
        let r = tells code s.holding.before s.holding.number s.body (last_of s.holding) s.given.is in
        subst (λ (z : ℕ). l < z) slots (held_inside.lasts (site_of cell) l (sym r.1 ∙ is))

-- the jobs that the seat holds after a give
pub given_slots : (code : CodeParts) (job : Job) (cell : Option ℕ) (k l : Known) → Gave code job cell k l → carried l.bears ≡ carried k.bears
given_slots code job cell k l g = ap (λ (z : Known). carried z.bears) g.known ∙ carried_on k.bears g.may.place g.may.holding g.may.body g.may.given.holds

pub given_inside : (d : TableId) (code : CodeParts) (job : Job) (cell : Option ℕ) (k l : Known) → AreInside d k.bears → Gave code job cell k l → AreInside d l.bears
given_inside d code job cell k l inside g =
    let b : StandsBefore code job k (act_now (asks code) g.may.body) = record { place = g.may.place; holding = g.may.holding; body = g.may.body; given = g.may.given; act = refl } in
    subst (λ (z : Known). AreInside d z.bears) (sym g.known) (inside_after d code job k inside (act_now (asks code) g.may.body) b g.may.body refl)
