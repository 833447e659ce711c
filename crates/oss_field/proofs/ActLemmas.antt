-- The act that stands next in a job, and the cell that it touches.
use Rattle.std.proofs.Common.{◌≡◌, ◌≢◌, inl, inr, sym, subst, refl, ◌∙◌, ap, ℕ, ◌<◌, ◌+◌, ◌*◌, arith, Bool, true, false, List, ◌∷◌, set}
use Rattle.std.specs.Prelude.{None}
use mathlib.Core.Option as maybe
use lib.ListN.{get_elem?}
use Rattle.std.proofs.Math.Seq.{map-set}
use Rattle.atomic_table.specs.Seated.{TableId}
use Rattle.atomic_table.specs.Table.{rest}
use Rattle.atomic_table.proofs.Lists.{at_map, set_again}
use Rattle.oss_code.specs.declared.code.CodeParts.{CodeParts}
use Rattle.oss_jobs.specs.declared.job.Job.{Job}
use Rattle.oss_machine.specs.Frames.{CodeScript}
use Rattle.oss_machine.specs.Machines.{asks}
use Rattle.oss_model.specs.Bodies.{Act, Body, Start, Touches, load, store, folded}
use Rattle.oss_model.specs.Bodies.Act.{Load, Store, Folded}
use Rattle.oss_model.specs.Context.{right_of}
use Rattle.oss_model.specs.Rights.{Touch, Holds}
use Rattle.oss_model.proofs.StageLemmas.{StartsWell, stage_touch}
use Rattle.oss_syntax.specs.declared.access.Mode.{Mode}
use Rattle.oss_words.specs.Views.{Among, among_first, among_later}
use Rattle.oss_roles.specs.Numbers.{entry_number}
use Rattle.oss_field.specs.Asks.{AreInside, IsInside, IsLoaded, IsStored, MayLoad, MayStore, StandsBefore, to_load, to_fold, to_store, to_store_fold, has_loaded, has_noted, has_stored, has_folded}
use Rattle.oss_field.specs.Known.{Holding, Known, bearing_of, sight_of}
use Rattle.oss_field.specs.Moves.{with_body}
use Rattle.oss_field.specs.Layout.{words_in}
use Rattle.oss_field.specs.Standing.{carried}
use Rattle.oss_field.specs.Table.{Slot}
use Rattle.oss_field.specs.Taking.{IsPut, IsWithin, MayPut}
use Rattle.oss_field.proofs.CellLemmas.{may_start}
use Rattle.oss_field.proofs.TableLemmas.{among_at, among_set}

module _ (d : TableId) (code : CodeParts) (job : Job) (k : Known) (inside : AreInside d k.bears) (act : Act CodeScript) (at : StandsBefore code job k act) where
  start_is : at.body.start ≡ at.holding.body.start
  start_is = may_start (asks code) (sight_of k) (bearing_of at.holding) at.body at.given.may

  held_inside : IsInside d at.holding
  held_inside = inside at.holding (among_at k.bears at.place at.holding at.given.holds)

  -- the cell that the act touches is one of the table
  pub touch_inside : (c : ℕ) (t : Touch) (slot : Bool) → Touches act c t slot → 1 + c + 6 * d.slots < d.words
  touch_inside c t slot h =
      let well : StartsWell at.body.start.context = subst (λ (z : Start CodeScript). StartsWell z.context) (sym start_is) held_inside.strongly in
      let r = stage_touch (asks code) at.body.start at.body.found c t slot well (subst (λ (z : Act CodeScript). Touches z c t slot) (sym at.act) h) in
      held_inside.inside c r.mode true (subst (λ (z : Start CodeScript). right_of z.context c ≡ Holds r.mode true) start_is r.holds)

  -- the tasks whose jobs are held stay inside
  pub inside_after : (x : Body CodeScript) → x.start ≡ at.body.start → AreInside d (set k.bears at.place (with_body x at.holding))
  inside_after x same h among = elim (among_set k.bears at.place (with_body x at.holding) h among) [
    | inl e ↦ subst (λ (z : Holding). IsInside d z) e (record {
      number = held_inside.number;
      inside = subst (λ (z : Start CodeScript). (c : ℕ) (mode : Mode) (strong : Bool) → right_of z.context c ≡ Holds mode strong → 1 + c + 6 * d.slots < d.words) (sym (same ∙ start_is)) held_inside.inside;
      strongly = subst (λ (z : Start CodeScript). StartsWell z.context) (sym (same ∙ start_is)) held_inside.strongly;
      entries = subst (λ (z : Start CodeScript). at.holding.number ≢ 0 → (c : ℕ) (mode : Mode) (strong : Bool) → right_of z.context c ≡ Holds mode strong → entry_number at.holding.number (right_of z.context) c < d.slots) (sym (same ∙ start_is)) held_inside.entries;
      lasts = held_inside.lasts;
    })
    | inr a ↦ inside h a
  ]

module _ (d : TableId) (code : CodeParts) (job : Job) (cell : ℕ) (k l : Known) (inside : AreInside d k.bears) where
  pub load_inside : MayLoad code job cell k → 1 + cell + 6 * d.slots < d.words
  load_inside (to_load at) = touch_inside d code job k inside (Load cell) at cell _ false load
  load_inside (to_fold op v at) = touch_inside d code job k inside (Folded cell op v false) at cell _ false folded

  pub store_inside : (value : ℕ) → MayStore code job cell value k → 1 + cell + 6 * d.slots < d.words
  store_inside value (to_store at) = touch_inside d code job k inside (Store cell value) at cell _ false store
  store_inside value (to_store_fold op v b) = touch_inside d code job k inside (Folded cell op v false) b.at_fold cell _ false folded

  pub loaded_inside : (value : ℕ) → IsLoaded code job cell value k l → AreInside d l.bears
  loaded_inside value (has_loaded r) = subst (λ (z : Known). AreInside d z.bears) (sym r.known) (inside_after d code job k inside (Load cell) r.at_load _ refl)
  loaded_inside value (has_noted op v r) = subst (λ (z : Known). AreInside d z.bears) (sym r.known) (inside_after d code job k inside (Folded cell op v false) r.at_fold _ refl)

  pub stored_inside : (value : ℕ) → IsStored code job cell value k l → AreInside d l.bears
  stored_inside value (has_stored r) = subst (λ (z : Known). AreInside d z.bears) (sym r.known) (inside_after d code job k inside (Store cell value) r.at_store _ refl)
  stored_inside value (has_folded op v r) = subst (λ (z : Known). AreInside d z.bears) (sym r.known) (inside_after d code job k inside (Folded cell op v false) r.before.at_fold _ refl)

abbrev pub carried_one : Holding → ℕ × Slot
carried_one z = (z.number, None)

-- the slots that a seat holds are as before, if a job of its own has gone on
pub carried_on : (held : List Holding) (i : ℕ) (h : Holding) (x : Body CodeScript) → get_elem? held i ≡ maybe.some h → carried (set held i (with_body x h)) ≡ carried held
carried_on held i h x at =
    map-set (λ (z : Holding). carried_one z) held i (with_body x h)
    ∙ set_again (carried held) i (h.number, None) (at_map (λ (z : Holding). carried_one z) held i h at)

module _ (code : CodeParts) (job : Job) (cell value : ℕ) (k l : Known) where
  pub loaded_slots : IsLoaded code job cell value k l → carried l.bears ≡ carried k.bears
  loaded_slots (has_loaded r) = ap (λ (z : Known). carried z.bears) r.known ∙ carried_on k.bears r.at_load.place r.at_load.holding _ r.at_load.given.holds
  loaded_slots (has_noted op v r) = ap (λ (z : Known). carried z.bears) r.known ∙ carried_on k.bears r.at_fold.place r.at_fold.holding _ r.at_fold.given.holds

  pub stored_slots : IsStored code job cell value k l → carried l.bears ≡ carried k.bears
  stored_slots (has_stored r) = ap (λ (z : Known). carried z.bears) r.known ∙ carried_on k.bears r.at_store.place r.at_store.holding _ r.at_store.given.holds
  stored_slots (has_folded op v r) = ap (λ (z : Known). carried z.bears) r.known ∙ carried_on k.bears r.before.at_fold.place r.before.at_fold.holding _ r.before.at_fold.given.holds

-- what a seat holds after it has put a job
module _ (code : CodeParts) (job : Job) (m : ℕ) (k l : Known) (p : IsPut code job m k l) where
  pub put_slots : (s : List (ℕ × Slot)) → s ≡ carried k.bears → rest s ≡ carried l.bears
  put_slots s e = ap rest (e ∙ ap carried p.may.bears) ∙ ap (λ (z : Known). carried z.bears) (sym p.known)

  pub put_inside : (d : TableId) → AreInside d k.bears → AreInside d l.bears
  put_inside d inside h a = inside h (subst (λ (z : List Holding). Among h z) (sym p.may.bears) (among_later (subst (λ (z : Known). Among h z.bears) p.known a)))

-- and after it has taken one
pub take_inside : (d : TableId) (m n t : ℕ) (h : Holding) (held : List Holding) → d.words ≡ words_in m n → d.slots ≡ n → t < n → h.number ≡ t → IsWithin m n h → AreInside d held → AreInside d (h ∷ held)
take_inside d m n t h held words slots small is within inside z a = elim a [
  | among_first p ↦ subst (λ (x : Holding). IsInside d x) p (record {
    number = omega (arith, is, small, slots);
    inside = λ c mode strong right. let l = within.inside c mode strong right in omega (arith, l, words, slots);
    strongly = within.strongly;
    entries = λ number c mode strong right. subst (λ (z : ℕ). entry_number h.number (right_of h.body.start.context) c < z) (sym slots) (within.entries number c mode strong right);
    lasts = λ y o last. subst (λ (z : ℕ). o < z) (sym slots) (within.lasts y o last);
  })
  | among_later b ↦ inside z b
]

-- the number of a job that may be put is one of the table's
pub put_number : (d : TableId) (code : CodeParts) (job : Job) (k : Known) (may : MayPut code job k) → AreInside d k.bears → may.holding.number < d.slots
put_number d code job k may inside = (inside may.holding (subst (λ (z : List Holding). Among may.holding z) (sym may.bears) (among_first refl))).number
