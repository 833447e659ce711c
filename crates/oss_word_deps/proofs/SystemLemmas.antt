-- The words stay right beside the lists, whatever is called.
use Rattle.std.proofs.Common.{◌≡◌, ℕ, ◌≤◌, inl, inr, refl, sym, ap, subst, ◌∙◌, List, Option, Some, Result, Ok, Err, length, arith}
use Rattle.std.specs.Prelude.{OnOk, OnErr, IfSome, slice_get}
use Rattle.oss_syntax.specs.declared.access.Access.{Access}
use Rattle.oss_syntax.specs.declared.access.Range.{Range}
use Rattle.oss_deps.specs.declared.opened.Open.{Open}
use Rattle.oss_deps.specs.Kept.{Kept, seen_of}
use Rattle.oss_deps.specs.Opens.{AreOpens, HasOpened, IsKnown, IsOpened}
use Rattle.oss_deps.specs.Seen.{CanGive, CanOpen, Gives, IsNew, IsSame, Opens, Prepares, Reserves, Seen}
use Rattle.oss_deps.proofs.Basics.{some_is, some_none}
use Rattle.oss_deps.proofs.OpenLemmas.{get_in, not_main}
use Rattle.oss_links.specs.Held.{AreHeld, IsAccessOf}
use Rattle.oss_links.proofs.AlikeLemmas.{held_told}
use Rattle.oss_word_deps.specs.declared.entry.Entry.{Entry}
use Rattle.oss_word_deps.specs.declared.entry.Job.{Job}
use Rattle.oss_word_deps.specs.Booked.{AreJobs, IsBooked, IsOfOpen, cell_count}
use Rattle.oss_word_deps.specs.Ledger.{Ledger, lists_of, task_of}
use Rattle.oss_word_deps.specs.Shelved.{AreRight, HasPlace, HasPlaceIn, HasSameRows, IsAsLarge, IsNoSmaller, IsRoomier, MayOpenAs, Shelved}
use Rattle.oss_word_deps.proofs.BookedLemmas.{job_opened}

-- what is seen alike is booked alike
pub booked_same : (s t : Seen) (l : Ledger) → IsBooked s l → t.opens ≡ s.opens → ((u c : ℕ) → t.given u c ≡ s.given u c) → IsBooked t l
booked_same s t l b opens given = record {
  opens_are = subst AreOpens (sym opens) b.opens_are;
  held = λ c. subst (λ (os : List Open). AreHeld os t.given c (lists_of l c) (IsAccessOf (task_of l.entries c))) (sym opens) (held_told s.opens s.given t.given c (lists_of l c) (IsAccessOf (task_of l.entries c)) (λ u. given u c) (b.held c));
  of_open = λ v e h. subst (λ (os : List Open). IsOfOpen os e) (sym opens) (b.of_open v e h);
  jobs = subst (λ (os : List Open). AreJobs os l) (sym opens) b.jobs;
  given_by = λ u c h. subst (λ (os : List Open). HasOpened os c u) (sym opens) (b.given_by u c (sym (given u c) ∙ h));
}

-- with more room as much fits
pub place_more : (n : ℕ) (v w : Shelved) → w.ledger ≡ v.ledger → IsNoSmaller v w → HasPlace n v → HasPlace n w
place_more n v w same more p = record {
  net = (let a = ap (λ (l : Ledger). length l.entries) same in omega (arith, a, p.net, more.size));
  entries = (let a = ap (λ (l : Ledger). length l.entries) same in omega (arith, a, p.entries, more.entries));
  marks = (let a = ap (λ (l : Ledger). length l.entries) same in omega (arith, a, p.marks, more.marks));
  jobs = (let a = ap (λ (l : Ledger). length l.jobs) same in omega (arith, a, p.jobs, more.jobs));
}

pub place_same : (n : ℕ) (v w : Shelved) → HasSameRows v.ledger w.ledger → IsAsLarge v w → HasPlace n v → HasPlace n w
place_same n v w rows large p = record {
  net = (let a = ap (λ (es : List Entry). length es) rows.entries in omega (arith, a, p.net, large.size));
  entries = (let a = ap (λ (es : List Entry). length es) rows.entries in omega (arith, a, p.entries, large.entries));
  marks = (let a = ap (λ (es : List Entry). length es) rows.entries in omega (arith, a, p.marks, large.marks));
  jobs = (let a = ap (λ (js : List Job). length js) rows.jobs in omega (arith, a, p.jobs, large.jobs));
}

pub right_roomier : (most : ℕ) (kept : Kept) (old new : Option Shelved) → AreRight most kept old → IsRoomier most old new → AreRight most kept new
right_roomier most kept old new r more = record {
  bound = r.bound;
  booked = λ w h. let v = more w h in subst (λ (l : Ledger). IsBooked (seen_of kept) l) (sym v.2) (r.booked v.0 v.1);
  size = λ w h. (more w h).4;
  ready = λ w accesses h k. let v = more w h in place_more (cell_count accesses) v.0 w v.2 v.3 (r.ready v.0 accesses v.1 k);
}

pub right_same : (most : ℕ) (old new : Kept) (words : Option Shelved) → AreRight most old words → IsSame (seen_of old) (seen_of new) → AreRight most new words
right_same most old new words r same = record {
  bound = r.bound;
  booked = λ w h. booked_same (seen_of old) (seen_of new) w.ledger (r.booked w h) same.opens same.given;
  size = r.size;
  ready = λ w accesses h k. r.ready w accesses h (sym same.reserved ∙ k);
}

pub right_prepared : (most : ℕ) (old new : Kept) (range : Range) (words : Option Shelved) → AreRight most old words → Prepares range (seen_of old) (seen_of new) → AreRight most new words
right_prepared most old new range words r p = record {
  bound = r.bound;
  booked = λ w h. booked_same (seen_of old) (seen_of new) w.ledger (r.booked w h) p.opens p.given;
  size = r.size;
  ready = λ w accesses h k. absurd (some_none (sym k ∙ p.reserved));
}

pub right_reserved : (most : ℕ) (old new : Kept) (accesses : List Access) (words : Option Shelved) → AreRight most old words → Reserves accesses (seen_of old) (seen_of new) → HasPlaceIn (cell_count accesses) words → AreRight most new words
right_reserved most old new accesses words r p place = record {
  bound = r.bound;
  booked = λ w h. booked_same (seen_of old) (seen_of new) w.ledger (r.booked w h) p.opens p.given;
  size = r.size;
  ready = λ w others h k. subst (λ (xs : List Access). HasPlace (cell_count xs) w) (some_is (sym p.reserved ∙ k)) (place w h);
}

pub right_reserving : {A E : Type 0} (r : Result A E) (most : ℕ) (old new : Kept) (accesses : List Access) (words : Option Shelved) → AreRight most old words → OnOk r (Reserves accesses (seen_of old) (seen_of new)) → OnErr r (IsSame (seen_of old) (seen_of new))
    → HasPlaceIn (cell_count accesses) words → AreRight most new words
right_reserving (Ok x) most old new accesses words right ok err place = right_reserved most old new accesses words right ok place
right_reserving (Err x) most old new accesses words right ok err place = right_same most old new words right err

pub right_preparing : {A E : Type 0} (r : Result A E) (most : ℕ) (old new : Kept) (range : Range) (words : Option Shelved) → AreRight most old words → OnOk r (Prepares range (seen_of old) (seen_of new)) → OnErr r (IsSame (seen_of old) (seen_of new)) → AreRight most new words
right_preparing (Ok x) most old new range words right ok err = right_prepared most old new range words right ok
right_preparing (Err x) most old new range words right ok err = right_same most old new words right err

-- behind an opening nothing is reserved
pub right_opened : (most : ℕ) (old new : Kept) (o : Open) (words : Option Shelved) → most ≤ 16777216 → Opens o (seen_of old) (seen_of new) → ((w : Shelved) → words ≡ Some w → IsBooked (seen_of new) w.ledger × (w.size ≤ most)) → AreRight most new words
right_opened most old new o words bound p f = record {
  bound = bound;
  booked = λ w h. (f w h).0;
  size = λ w h. (f w h).1;
  ready = λ w accesses h k. absurd (some_none (sym k ∙ p.reserved));
}

pub right_given : (most : ℕ) (old new : Kept) (t : ℕ) (range : Range) (before after : Option Shelved) → AreRight most old before → Gives t range (seen_of old) (seen_of new)
    → ((w : Shelved) → after ≡ Some w → (v : Shelved) × (before ≡ Some v) × IsBooked (seen_of new) w.ledger × HasSameRows v.ledger w.ledger × IsAsLarge v w) → AreRight most new after
right_given most old new t range before after r g f = record {
  bound = r.bound;
  booked = λ w h. (f w h).2;
  size = λ w h. let v = f w h in let a = r.size v.0 v.1 in let b = v.4.size in omega (arith, a, b);
  ready = λ w accesses h k. let v = f w h in place_same (cell_count accesses) v.0 w v.3 v.4 (r.ready v.0 accesses v.1 (sym g.reserved ∙ k));
}

-- the task of a job is not main
pub job_not_main : (s : Seen) (l : Ledger) (job : Job) (n : ℕ) → IsBooked s l → slice_get l.jobs n ≡ Some job → job.task ≡ 0 → ⊥
job_not_main s l job n booked at z = let j = job_opened s.opens l booked.jobs n job at in not_main booked.opens_are.ordered j.0 (get_in s.opens n j.0 j.1) (sym j.2 ∙ z)

pub known_opened : (s : Seen) (l : Ledger) (job : Job) (n t : ℕ) → IsBooked s l → slice_get l.jobs n ≡ Some job → job.task ≡ t → IsKnown s.opens t → IsOpened s.opens job.task
known_opened s l job n t booked at same (inl z) = absurd (job_not_main s l job n booked at (same ∙ z))
known_opened s l job n t booked at same (inr o) = subst (λ (x : ℕ). IsOpened s.opens x) (sym same) o

-- main gives up nothing
pub giver_not_main : (s : Seen) (l : Ledger) (t : ℕ) (range : Range) → IsBooked s l → CanGive t range s → t ≡ 0 → ⊥
giver_not_main s l t range booked can z = let o = can.named range.lo (omega arith) range.ordered in not_main booked.opens_are.ordered o.entry o.listed (o.number ∙ z)

pub giver_known : (s : Seen) (t : ℕ) (range : Range) → CanGive t range s → IsKnown s.opens t
giver_known s t range can = let o = can.named range.lo (omega arith) range.ordered in inr (record { entry = o.entry; listed = o.listed; number = o.number })

pub right_new : (most : ℕ) (kept : Kept) (words : Option Shelved) → most ≤ 16777216 → IsNew (seen_of kept) → IfSome words (λ w. (s : Seen) → IsNew s → IsBooked s w.ledger) → IfSome words (λ w. w.size ≤ most) → AreRight most kept words
right_new most kept words bound new booked size = record {
  bound = bound;
  booked = λ w h. subst (λ (o : Option Shelved). IfSome o (λ w. (s : Seen) → IsNew s → IsBooked s w.ledger)) h booked (seen_of kept) new;
  size = λ w h. subst (λ (o : Option Shelved). IfSome o (λ w. w.size ≤ most)) h size;
  ready = λ w accesses h k. absurd (some_none (sym k ∙ new.reserved));
}

-- the words may open what the lists may
pub may_open_in : (most : ℕ) (kept : Kept) (words : Option Shelved) (o : Open) → AreRight most kept words → CanOpen (seen_of kept) o → (w : Shelved) → words ≡ Some w → MayOpenAs (seen_of kept) o o.task o.parent o.accesses w.ledger
may_open_in most kept words o r can w h = record { booked = r.booked w h; can = can; task_is = refl; parent_is = refl; accesses_are = refl }
