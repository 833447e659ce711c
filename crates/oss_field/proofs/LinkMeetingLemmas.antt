-- A seat that has begun to make a task may link its entries.
use Rattle.std.proofs.Common.{◌≡◌, sym, subst, refl, ◌∙◌, ap, ℕ, suc, ◌<◌, ◌≤◌, ◌+◌, arith, List, ◌∷◌, ◌++◌, length, Option, Some, None}
use Rattle.oss_code.specs.declared.code.CodeParts.{CodeParts}
use Rattle.oss_machine.specs.Frames.{CodeScript}
use Rattle.oss_model.specs.Bodies.{Body, Order}
use Rattle.oss_words.specs.declared.entry.EntryInfo.{EntryInfo}
use Rattle.oss_words.specs.Steps.{no_flags}
use Rattle.oss_words.specs.Views.{Among, among_first}
use Rattle.oss_words.proofs.KeptLaw.{at_here}
use Rattle.oss_words.proofs.SeatLemmas.{among_left}
use Rattle.oss_roles.specs.Numbers.{cells_below}
use Rattle.oss_roles.specs.Roles.{Site, itself, on}
use Rattle.oss_field.specs.Hanging.{StandsToLink}
use Rattle.oss_field.specs.Known.{Holding, Known, Unlinked, last_of}
use Rattle.oss_field.specs.LinkMeeting.{BegunMayLink, DeliveriesKeepMaking, FoldsKeepMaking, OthersMayLink}
use Rattle.oss_field.specs.Linking.{IsEntryFor, cell_entry, own_entry}
use Rattle.oss_field.specs.Making.{new_cells, unlinked_from}
use Rattle.oss_field.specs.Moves.{with_body}
use Rattle.oss_field.specs.Plans.{new_rights}
use Rattle.oss_field.proofs.FirstLinkLemmas.{may_on}
use Rattle.oss_field.proofs.LooseLemmas.{beside_kept}
use Rattle.oss_field.proofs.PlanLemmas.{fewer, has_held, unlinked_is}

-- the entry is one of those that follow the task's number
in_block : (code : CodeParts) (h : Holding) (order : Order CodeScript) (t e : ℕ) (i : EntryInfo) (cell : Option ℕ) → i.task ≡ t → IsEntryFor code h order e i cell → ((c : ℕ) → cell ≡ Some c → c < length code.first)
    → (t ≤ e) × (e < t + suc (new_cells code h.body order))
in_block code h order t e i None task (own_entry own mode strong) inside = (omega (arith, task, own), omega (arith, task, own))
in_block code h order t e i (Some _) task (cell_entry c right number) inside =
    let z : e ≡ i.task + 1 + cells_below (new_rights code h.body order) c = number in
    let f = fewer (new_rights code h.body order) (length code.first) c (inside c refl) (has_held (new_rights code h.body order c) i.mode i.strong right) in
    (omega (arith, task, z), omega (arith, task, z, f))

last_same : (h : Holding) (x : Body CodeScript) (y : Site) → last_of (with_body x h) y ≡ last_of h y
last_same h x itself = refl
last_same h x (on c) = refl

pub begun_may_link : BegunMayLink
begun_may_link code n job t count k l b empty e i cell after info names =
    let x = b.may.before.body in
    let h = b.may.before.holding in
    let block = in_block code (with_body b.may.before.body b.may.before.holding) b.may.order t e i cell info.task info.entry info.inside in
    subst (λ (z : Known). StandsToLink code job e i cell after z) (sym b.known) (record {
      may = record {
        place = b.may.before.place;
        holding = with_body b.may.before.body b.may.before.holding;
        order = b.may.order;
        stage = 0;
        holds = at_here k.bears b.may.before.place h (with_body b.may.before.body b.may.before.holding) b.may.before.given.holds;
        act = b.may.before.act;
        among = subst (λ (z : ℕ). Among (record { by = b.may.before.holding.number; task = z; stage = 0 }) (record { by = b.may.before.holding.number; task = t; stage = 0 } ∷ k.makes)) (sym info.task) (among_first refl);
        plan = subst (λ (z : ℕ). Among (record { task = z; holding = with_body b.may.before.body b.may.before.holding; order = b.may.order }) (record { task = t; holding = with_body b.may.before.body b.may.before.holding; order = b.may.order } ∷ k.plans)) (sym info.task) (among_first refl);
        entry = info.entry;
        depth = info.depth;
        of_main = info.of_main;
        of_task = info.of_task;
        above = record {
          number = subst (λ (z : ℕ). b.may.before.holding.number < z) (sym info.task) b.may.above.number;
          lasts = λ y o q. subst (λ (z : ℕ). o < z) (sym info.task) (b.may.above.lasts y o (sym (last_same h x y) ∙ q));
        };
      };
      fresh = subst (λ (z : ℕ). Among (record { task = z; entry = e; state = no_flags; info = None; cell = None }) (unlinked_from t t (suc (new_cells code b.may.before.body b.may.order)) ++ k.unlinked)) (sym info.task)
          (among_left (record { task = t; entry = e; state = no_flags; info = None; cell = None }) (unlinked_from t t (suc (new_cells code b.may.before.body b.may.order))) k.unlinked
          (unlinked_is t t (suc (new_cells code b.may.before.body b.may.order)) e block.0 block.1));
      names = names;
      empty = empty;
      last = last_of b.may.before.holding;
      is = b.may.before.given.is;
    })

pub others_may_link : OthersMayLink
others_may_link code job e d i j cell after before k l m s linked ne still empty = record {
  may = may_on code e i cell k m (still.bears ∙ ap (λ (z : Known). z.bears) linked.known) (still.makes ∙ ap (λ (z : Known). z.makes) linked.known)
      (still.plans ∙ ap (λ (z : Known). z.plans) linked.known) s.may;
  fresh = subst (λ (z : List Unlinked). Among (record { task = i.task; entry = e; state = no_flags; info = None; cell = None }) z) (sym (still.unlinked ∙ ap (λ (z : Known). z.unlinked) linked.known))
      (beside_kept d k.unlinked (record { task = i.task; entry = e; state = no_flags; info = None; cell = None }) s.fresh ne);
  names = s.names;
  empty = empty;
  last = s.last;
  is = s.is;
}

pub deliveries_keep_making : DeliveriesKeepMaking
deliveries_keep_making k l result d = record {
  bears = ap (λ (z : Known). z.bears) d.known;
  makes = ap (λ (z : Known). z.makes) d.known;
  plans = ap (λ (z : Known). z.plans) d.known;
  unlinked = ap (λ (z : Known). z.unlinked) d.known;
}

pub folds_keep_making : FoldsKeepMaking
folds_keep_making e k l f = record {
  bears = ap (λ (z : Known). z.bears) f.known;
  makes = ap (λ (z : Known). z.makes) f.known;
  plans = ap (λ (z : Known). z.plans) f.known;
  unlinked = ap (λ (z : Known). z.unlinked) f.known;
}
