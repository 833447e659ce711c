-- A task is begun, its job is put, and it is opened.
use Rattle.std.proofs.Common.{◌≡◌, ◌≢◌, ◌≤◌, ◌⊎◌, inl, inr, ℕ, zero, suc, ◌+◌, ◌-◌, ◌==◌, refl, sym, subst, ap, ◌∙◌, arith, Bool, true, false, List, [], ◌∷◌, ◌++◌, length, if◌then◌else◌, Option, Some, None}
use Rattle.std.specs.Prelude.{cond, ◌&&◌}
use Rattle.std.proofs.lemmas.Bool.Decides.{eqb_tells}
use lib.ListN.{get_elem?}
use Rattle.oss_syntax.specs.declared.access.Access.{Access}
use Rattle.oss_body.specs.declared.act.Act.{Act}
use Rattle.oss_body.specs.declared.act.Act.TheVariants as acts
use Rattle.oss_body.specs.declared.body.Body.{Body as Kept}
use Rattle.oss_body.specs.Acts.{act_seen, answer_to, creates, goes_on}
use Rattle.oss_body.specs.Relation.{IsBody, is_over, pending_of}
use Rattle.oss_code.specs.declared.code.CodeParts.{CodeParts}
use Rattle.oss_judge.specs.Joined.{IsRising, held_right}
use Rattle.oss_jobs.specs.declared.job.Job.{Job}
use Rattle.oss_jobs.specs.Entries.{cells_in}
use Rattle.oss_jobs.specs.Jobs.{IsJob, body_of, last_at, noted, or_else, task_of}
use Rattle.oss_machine.specs.Asks.{meant_order}
use Rattle.oss_machine.specs.Frames.{CodeScript}
use Rattle.oss_machine.specs.Machines.{asks}
use Rattle.oss_model.specs.Bodies.{Act as Meant, Body, Order, Start, child_start, stack_from, stage_act}
use Rattle.oss_model.specs.Bodies.Act.{Created}
use Rattle.oss_model.specs.Context.{right_of}
use Rattle.oss_model.specs.Moves.{act_now}
use Rattle.oss_model.specs.Rights.{Right, NoRight, Released, Holds, right_from}
use Rattle.oss_syntax.specs.declared.access.Mode.{Mode}
use Rattle.oss_words.specs.Sums.{below, num}
use Rattle.oss_words.specs.Views.{Among, among_first, among_later}
use Rattle.oss_words.proofs.SeatLemmas.{among_none}
use Rattle.oss_roles.specs.Alone.{with_answer}
use Rattle.oss_roles.specs.Numbers.{entry_number, entry_on, has_cell}
use Rattle.oss_roles.specs.Passing.{MayGo, still_there}
use Rattle.oss_roles.specs.Roles.{Site, itself, on}
use Rattle.oss_roles.specs.Sights.{Making}
use Rattle.oss_field.specs.Asks.{IsGiven}
use Rattle.oss_field.specs.Known.{Holding, Known, Plan, bearing_of, last_of, sight_of}
use Rattle.oss_field.specs.Making.{HasBegun, IsOpened, IsPutFirst, MayBegin, MayOpen, MayPutFirst, created_by, made_beside, new_cells, new_count, plans_beside, unlinked_from}
use Rattle.oss_field.specs.Moves.{with_body}
use Rattle.oss_field.specs.Plans.{begins_list, is_missing, new_rights, waits_for}
use Rattle.oss_field.proofs.DepthLemmas.{creator_right}
use Rattle.oss_creations.specs.Accesses.{Gives, waits_of}
use Rattle.oss_creations.specs.Creating.{HasBegunTask, HasDrawn, HasLinked, IsChild, IsMaking, OfNew}
use Rattle.oss_acts.specs.Working.{HasActed, IsOfProgram, Works}
use Rattle.oss_creations.specs.Keeping.{HasMade, IsBehind}
use Rattle.oss_acts.proofs.WorkLemmas.{go_start, program_on, set_one, the_place}
use Rattle.oss_creations.proofs.AccessLemmas.{cells_left, left_all, waits_left}
use Rattle.oss_creations.proofs.LinkLemmas.{still_making}

bad_bool : {A : Type 0} → true ≡ false → A
bad_bool e = absurd (let bad : ⊥ = cc in bad)

pub none_among : {A : Type 0} (l : List A) (a : A) → l ≡ [] → Among a l → ⊥
none_among l a e h = among_none a (subst (λ z. Among a z) e h)

-- a job may be told to have other last children that are the same
pub last_changed : (code : CodeParts) (before : List ℕ) (j : Job) (t : ℕ) (b : Body CodeScript) (last new : Site → Option ℕ) → ((y : Site) → last y ≡ new y) → IsJob code before j t b last → IsJob code before j t b new
last_changed code before j t b last new same is = record {
  task = is.task;
  body = is.body;
  since = is.since;
  found = is.found;
  prints = is.prints;
  cells = is.cells;
  numbers = is.numbers;
  entries = is.entries;
  lasts = λ c. is.lasts c ∙ same (on c);
  last_child = is.last_child ∙ same itself;
}

last_same : (h : Holding) (x : Body CodeScript) (y : Site) → last_of (with_body x h) y ≡ last_of h y
last_same h x itself = refl
last_same h x (on c) = refl

-- the creation that stands next
creation_is : (p : Act) → creates p ≡ true → (order : Order CodeScript) × (act_seen p ≡ Created order false)
creation_is acts.Tick e = absurd (let bad : ⊥ = cc in bad)
creation_is (acts.Load c) e = absurd (let bad : ⊥ = cc in bad)
creation_is (acts.Store c v) e = absurd (let bad : ⊥ = cc in bad)
creation_is (acts.Fold c op v slot) e = absurd (let bad : ⊥ = cc in bad)
creation_is (acts.Create creation true) e = absurd (let bad : ⊥ = cc in bad)
creation_is (acts.Create creation false) e = (meant_order creation.order, refl)
creation_is acts.Await e = absurd (let bad : ⊥ = cc in bad)
creation_is acts.Wait e = absurd (let bad : ⊥ = cc in bad)
creation_is (acts.WaitOn ranges) e = absurd (let bad : ⊥ = cc in bad)
creation_is (acts.Release clauses included) e = absurd (let bad : ⊥ = cc in bad)
creation_is (acts.Print key text) e = absurd (let bad : ⊥ = cc in bad)
creation_is acts.End e = absurd (let bad : ⊥ = cc in bad)
creation_is (acts.Fault kind line key) e = absurd (let bad : ⊥ = cc in bad)

-- the second body is that of the task whose creation stands next in the first, at its beginning
abbrev pub Begins : CodeParts → Kept → Kept → Type 0
Begins code creator body = (start : Start CodeScript) (found : List ℕ) (order : Order CodeScript) → IsBody code start found creator → stage_act (asks code) start found ≡ Created order false → IsBody code (child_start (stack_from (asks code) start found).base order) [] body

-- the job of a new task, as its parts are told
pub child_made : (code : CodeParts) (job new : Job) (body : Kept) (xs : List Access)
    → Begins code (body_of job) body
    → ((parts : CodeParts) (start : Start CodeScript) (found : List ℕ) → IsBody parts start found body → ((c : ℕ) → right_from false xs c ≡ held_right (right_of start.context c)) → IsJob parts found new 0 (record { start = start; found = found }) (λ y. None))
    → ((parts : CodeParts) (start : Start CodeScript) (found : List ℕ) → IsBody parts start found body → (c : ℕ) → right_from false xs c ≡ held_right (right_of start.context c))
    → task_of new ≡ 0 → IsChild code job new
child_made code job new body xs child made rights zero_ start found order is act =
    let b = child start found order is act in
    let begun = child_start (stack_from (asks code) start found).base order in
    subst (λ (t : ℕ). IsJob code [] new t (record { start = child_start (stack_from (asks code) start found).base order; found = [] }) (λ y. None)) (sym zero_)
    (made code (child_start (stack_from (asks code) start found).base order) [] b (rights code (child_start (stack_from (asks code) start found).base order) [] b))

pub gives_made : (code : CodeParts) (job : Job) (body : Kept) (xs : List Access) → IsRising xs
    → Begins code (body_of job) body
    → ((parts : CodeParts) (start : Start CodeScript) (found : List ℕ) → IsBody parts start found body → (c : ℕ) → right_from false xs c ≡ held_right (right_of start.context c))
    → OfNew code job (λ own. Gives own xs)
gives_made code job body xs rising child rights start found order is act =
    (rising, λ c. rights code (child_start (stack_from (asks code) start found).base order) [] (child start found order is act) c)

-- the cells of a new task are cells of the program
has_false : (r : Right) → ((mode : Mode) (strong : Bool) → r ≡ Holds mode strong → ⊥) → has_cell r ≡ false
has_false NoRight never = refl
has_false Released never = refl
has_false (Holds mode strong) never = absurd (never mode strong refl)

same_below : (f g : ℕ → ℕ) → ((d : ℕ) → f d ≡ g d) → (c : ℕ) → below f c ≡ below g c
same_below f g e zero = refl
same_below f g e (suc c) = let here = e c in let there = same_below f g e c in omega (arith, here, there)

held_has : (r : Right) → has_cell (held_right r) ≡ has_cell r
held_has NoRight = refl
held_has Released = refl
held_has (Holds mode strong) = refl

module _ (code : CodeParts) (job : Job) (x : Body CodeScript) (order : Order CodeScript) (act : act_now (asks code) x ≡ Created order false) (placed : IsOfProgram code x) (xs : List Access) (gives : Gives (new_rights code x order) xs) where
  none_behind : (c : ℕ) → length code.first ≤ c → has_cell (new_rights code x order c) ≡ false
  none_behind c low = has_false (new_rights code x order c) (λ mode strong e.
      let covered = creator_right (asks code) x order act c mode strong e in
      let high = placed.inside c covered.mode covered.strong covered.holds in
      let bad : ⊥ = omega (arith, low, high) in
      bad)

  pub cells_are : new_cells code x order ≡ cells_in xs
  cells_are =
      let c = cells_left (new_rights code x order) (length code.first) none_behind 0 xs (left_all (new_rights code x order) xs gives) in
      omega (arith, c)

  pub count_is : (h : Holding) → task_of job ≡ h.number → ((c : ℕ) → last_at job c ≡ last_of h (on c)) → 1 + waits_of job xs ≡ new_count code h x order
  count_is h task lasts =
      let c = waits_left (new_rights code x order) (length code.first) none_behind job 0 xs (left_all (new_rights code x order) xs gives) in
      let own = new_rights code x order in
      let same = same_below
      (λ d. num (has_cell (new_rights code x order d) && waits_for (new_rights code x order d) ((task_of job == 0) && is_missing (last_at job d))))
      (λ d. num (has_cell (new_rights code x order d) && waits_for (new_rights code x order d) (begins_list h d)))
      (λ d.
      ap (λ (t : ℕ). num (has_cell (new_rights code x order d) && waits_for (new_rights code x order d) ((t == 0) && is_missing (last_at job d)))) task
      ∙ ap (λ (o : Option ℕ). num (has_cell (new_rights code x order d) && waits_for (new_rights code x order d) ((h.number == 0) && is_missing o))) (lasts d))
      (length code.first) in
      omega (arith, c, same)

-- a seat that has drawn the entries may begin the task
pub may_begin : (code : CodeParts) (n : ℕ) (job : Job) (t count : ℕ) (xs : List Access) (k : Known) → is_over (body_of job) ≡ false → creates (pending_of (body_of job)) ≡ true → OfNew code job (λ own. Gives own xs)
    → HasDrawn code n job t (1 + cells_in xs) k → count ≡ 1 + waits_of job xs → MayBegin code n job t count k
may_begin code n job t count xs k running creating new d counted =
    let next = creation_is (pending_of (body_of job)) creating in
    let act : act_now (asks code) d.body ≡ Created next.0 false = sym (d.works.given.is.body.act running) ∙ next.1 in
    let gives = new d.body.start d.body.found next.0 d.works.given.is.body act in
    let cells : new_cells code d.body next.0 ≡ cells_in xs = cells_are code job d.body next.0 act d.works.of_program xs gives in
    let inside_ = d.inside in record {
      order = next.0;
      before = record { place = 0; holding = d.works.holding; body = d.body; given = d.works.given; act = act };
      makes = λ a among. absurd (none_among k.makes a d.works.makes among);
      above = d.above;
      inside = omega (arith, cells, inside_);
      drawn = λ e low high. d.drawn e low (omega (arith, high, cells));
      count_is = counted ∙ count_is code job d.body next.0 act d.works.of_program xs gives d.works.holding d.works.given.is.task (λ c. d.works.given.is.lasts c);
    }

append_none : {A : Type 0} (xs ys : List A) → ys ≡ [] → xs ++ ys ≡ xs
append_none [] ys e = e
append_none (x ∷ xs) ys e = ap (λ z. x ∷ z) (append_none xs ys e)

-- it is making it then
pub has_begun : (code : CodeParts) (n : ℕ) (job : Job) (t count : ℕ) (xs : List Access) (k l : Known) → OfNew code job (λ own. Gives own xs)
    → HasDrawn code n job t (1 + cells_in xs) k → HasBegun code n job t count k l → HasBegunTask code n job t (t + 1 + cells_in xs) k l
has_begun code n job t count xs k l new d b =
    let w = d.works in
    let s = b.may.before in
    let p = the_place k.bears w.holding s.holding s.place w.bears s.given.holds in
    let start : d.body.start ≡ s.body.start =
    go_start (asks code) (sight_of k) (bearing_of w.holding) d.body w.given.may
    ∙ (ap (λ (z : Holding). z.body.start) (sym p.1) ∙ sym (go_start (asks code) (sight_of k) (bearing_of s.holding) s.body s.given.may)) in
    let placed : IsOfProgram code s.body = program_on code d.body s.body start w.of_program in
    let gives = new s.body.start s.body.found b.may.order s.given.is.body s.act in
    let cells : new_cells code s.body b.may.order ≡ cells_in xs = cells_are code job s.body b.may.order s.act placed xs gives in
    let many : suc (new_cells code s.body b.may.order) ≡ t + 1 + cells_in xs - t = omega (arith, cells) in
    let inside_ = d.inside in record {
      making = record {
        holding = with_body s.body s.holding;
        order = b.may.order;
        bears = ap (λ (z : Known). z.bears) b.known ∙ set_one k.bears w.holding (with_body s.body s.holding) s.place w.bears p.0;
        makes = ap (λ (z : Known). z.makes) b.known ∙ ap (λ (z : List Making). record { by = s.holding.number; task = t; stage = 0 } ∷ z) w.makes;
        plans = ap (λ (z : Known). z.plans) b.known ∙ ap (λ (z : List Plan). record { task = t; holding = with_body s.body s.holding; order = b.may.order } ∷ z) w.plans;
        unlinked =
            ap (λ (z : Known). z.unlinked) b.known
            ∙ (append_none (unlinked_from t t (suc (new_cells code s.body b.may.order))) k.unlinked w.unlinked ∙ ap (unlinked_from t t) many);
        inside = omega (arith, inside_);
        number = omega (arith, inside_);
        held = ap (λ (z : Known). z.words.held) b.known ∙ d.held;
        act = s.act;
        above = record { number = b.may.above.number; lasts = λ y o q. b.may.above.lasts y o (sym (last_same s.holding s.body y) ∙ q) };
        is = last_changed code s.holding.before job s.holding.number s.body (last_of s.holding) (last_of (with_body s.body s.holding)) (λ y. sym (last_same s.holding s.body y)) s.given.is;
        of_program = placed;
      };
      before = record {
        holding = s.holding;
        bears = w.bears ∙ ap (λ (z : Holding). z ∷ []) (sym p.1);
        given = subst (λ (z : ℕ). IsGiven code job k z s.holding s.body) p.0 s.given;
        of_program = placed;
        makes = w.makes;
        plans = w.plans;
        unlinked = w.unlinked;
      };
      failed = ap (λ (z : Known). z.words.failed) b.known;
    }

-- the job of the new task may be put

pub may_put : (code : CodeParts) (n : ℕ) (job new : Job) (t a stop : ℕ) (k : Known) → IsMaking code n job t 0 a stop k → IsChild code job new → task_of new ≡ t → MayPutFirst code new k
may_put code n job new t a stop k m child number = record {
  place = 0;
  holding = m.holding;
  order = m.order;
  holds = ap (λ (z : List Holding). get_elem? z 0) m.bears;
  act = m.act;
  among = subst (λ (z : List Making). Among (record { by = m.holding.number; task = task_of new; stage = 0 }) z) (sym m.makes) (among_first (ap (λ (z : ℕ). record { by = m.holding.number; task = z; stage = 0 }) (sym number)));
  is = child m.holding.body.start m.holding.body.found m.order m.is.body m.act;
}

only_one : {A : Type 0} (a b : A) → Among a (b ∷ []) → b ≡ a
only_one a b (among_first e) = e
only_one a b (among_later h) = among_none a h

made_none : (t : ℕ) (a : Making) → a.task ≡ t → made_beside t (a ∷ []) ≡ []
made_none t a e = go (a.task == t) (eqb_tells a.task t)
  where
    go : (b : Bool) → ((b ≡ true) × (a.task ≡ t)) ⊎ ((b ≡ false) × (a.task ≢ t)) → cond b [] (a ∷ []) ≡ []
    go true q = refl
    go false (inl q) = bad_bool (sym q.0)
    go false (inr q) = absurd (q.1 e)

plans_none : (t : ℕ) (a : Plan) → a.task ≡ t → plans_beside t (a ∷ []) ≡ []
plans_none t a e = go (a.task == t) (eqb_tells a.task t)
  where
    go : (b : Bool) → ((b ≡ true) × (a.task ≡ t)) ⊎ ((b ≡ false) × (a.task ≢ t)) → cond b [] (a ∷ []) ≡ []
    go true q = refl
    go false (inl q) = bad_bool (sym q.0)
    go false (inr q) = absurd (q.1 e)

pub has_put : (code : CodeParts) (n : ℕ) (job new : Job) (t a stop cells : ℕ) (k l : Known) → (m : IsMaking code n job t 0 a stop k) → task_of new ≡ t → IsPutFirst code new cells k l → (x : IsMaking code n job t 2 a stop l) × (x.holding ≡ m.holding)
has_put code n job new t a stop cells k l m number p =
    let same = only_one (record { by = p.may.holding.number; task = task_of new; stage = 0 }) (record { by = m.holding.number; task = t; stage = 0 }) (subst (λ (z : List Making). Among (record { by = p.may.holding.number; task = task_of new; stage = 0 }) z) m.makes p.may.among) in (
      record {
        holding = m.holding;
        order = m.order;
        bears = ap (λ (z : Known). z.bears) p.known ∙ m.bears;
        makes =
            ap (λ (z : Known). z.makes) p.known
            ∙ (ap (λ (z : List Making). record { by = p.may.holding.number; task = task_of new; stage = 2 } ∷ made_beside (task_of new) z) m.makes
            ∙ (ap (λ (z : List Making). record { by = p.may.holding.number; task = task_of new; stage = 2 } ∷ z) (made_none (task_of new) (record { by = m.holding.number; task = t; stage = 0 }) (sym number))
            ∙ (ap (λ (z : ℕ). record { by = z; task = task_of new; stage = 2 } ∷ []) (sym (ap (λ (z : Making). z.by) same))
            ∙ ap (λ (z : ℕ). record { by = m.holding.number; task = z; stage = 2 } ∷ []) number)));
        plans = ap (λ (z : Known). z.plans) p.known ∙ m.plans;
        unlinked = ap (λ (z : Known). z.unlinked) p.known ∙ m.unlinked;
        inside = m.inside;
        number = m.number;
        held = ap (λ (z : Known). z.words.held) p.known ∙ m.held;
        act = m.act;
        above = m.above;
        is = m.is;
        of_program = m.of_program;
      },
      refl,
    )

-- the whole creation, from the draw on
pub made_all : (code : CodeParts) (n : ℕ) (job new job' : Job) (t stop cells : ℕ) (k l m o p : Known) → t ≤ stop → HasBegunTask code n job t stop k l → HasLinked t t stop l m → task_of new ≡ t → IsPutFirst code new cells m o
    → ((x : IsMaking code n job t 2 stop stop o) → IsBehind code job' x.holding.body p) → HasMade code job job' k p
made_all code n job new job' t stop cells k l m o p low begun linked number put opened =
    let a = still_making code n job t 0 t stop stop l m (omega arith) linked begun.making in
    let b = has_put code n job new t stop stop cells m o a.0 number put in record {
      body = begun.making.holding.body;
      before = begun.before;
      after = subst (λ (h : Holding). IsBehind code job' h.body p) (b.1 ∙ a.1) (opened b.0);
    }

-- what stands next goes on
pub creates_goes : (p : Act) → creates p ≡ true → goes_on p ≡ true
creates_goes acts.Tick e = refl
creates_goes (acts.Load c) e = refl
creates_goes (acts.Store c v) e = refl
creates_goes (acts.Fold c op v slot) e = refl
creates_goes (acts.Create creation included) e = refl
creates_goes acts.Await e = refl
creates_goes acts.Wait e = refl
creates_goes (acts.WaitOn ranges) e = refl
creates_goes (acts.Release clauses included) e = refl
creates_goes (acts.Print key text) e = refl
creates_goes acts.End e = refl
creates_goes (acts.Fault kind line key) e = absurd (let bad : ⊥ = cc in bad)

-- the accesses of a new task rise
pub rising_of : (code : CodeParts) (job : Job) (x : Body CodeScript) (k : Known) (xs : List Access) → is_over (body_of job) ≡ false → creates (pending_of (body_of job)) ≡ true → OfNew code job (λ own. Gives own xs) → Works code job x k → IsRising xs
rising_of code job x k xs running creating new w =
    let next = creation_is (pending_of (body_of job)) creating in
    (new x.start x.found next.0 w.given.is.body (sym (w.given.is.body.act running) ∙ next.1)).0

pub rising_making : (code : CodeParts) (n : ℕ) (job : Job) (t stage a stop : ℕ) (k : Known) (xs : List Access) → OfNew code job (λ own. Gives own xs) → IsMaking code n job t stage a stop k → IsRising xs
rising_making code n job t stage a stop k xs new m = (new m.holding.body.start m.holding.body.found m.order m.is.body m.act).0

-- the last children, whether they are told by the accesses or by the rights

entry_same : (t : ℕ) (f g : ℕ → Right) (c : ℕ) → ((d : ℕ) → has_cell (f d) ≡ has_cell (g d)) → entry_on t f c ≡ entry_on t g c
entry_same t f g c e =
    ap (λ (b : Bool). if b then Some (entry_number t f c) else None) (e c)
    ∙ ap (λ (n : ℕ). if has_cell (g c) then Some (t + 1 + n) else None) (same_below (λ d. num (has_cell (f d))) (λ d. num (has_cell (g d))) (λ d. ap num (e d)) c)

noted_same : (t : ℕ) (f g : ℕ → Right) (last : Site → Option ℕ) → ((d : ℕ) → has_cell (f d) ≡ has_cell (g d)) → (y : Site) → noted t f last y ≡ noted t g last y
noted_same t f g last e itself = refl
noted_same t f g last e (on c) = ap (λ (o : Option ℕ). or_else o (last (on c))) (entry_same t f g c e)

no_left : (t stop : ℕ) → unlinked_from t stop (stop - stop) ≡ []
no_left t stop = let e : stop - stop ≡ 0 = omega arith in ap (unlinked_from t stop) e

module _ (code : CodeParts) (n : ℕ) (job : Job) (t stop : ℕ) (k : Known) (m : IsMaking code n job t 2 stop stop k) (xs : List Access) (new : OfNew code job (λ own. Gives own xs)) (noting : Job)
    (notes : (parts : CodeParts) (before : List ℕ) (u : ℕ) (b : Body CodeScript) (last : Site → Option ℕ) → IsJob parts before job u b last → IsJob parts before noting u b (noted t (right_from false xs) last)) where
  noted_is : IsJob code m.holding.before noting m.holding.number m.holding.body (noted t (new_rights code m.holding.body m.order) (last_of m.holding))
  noted_is =
      let gives = new m.holding.body.start m.holding.body.found m.order m.is.body m.act in
      last_changed code m.holding.before noting m.holding.number m.holding.body (noted t (right_from false xs) (last_of m.holding)) (noted t (new_rights code m.holding.body m.order) (last_of m.holding))
      (noted_same t (right_from false xs) (new_rights code m.holding.body m.order) (last_of m.holding) (λ d. ap has_cell (gives.1 d) ∙ held_has (new_rights code m.holding.body m.order d)))
      (notes code m.holding.before m.holding.number m.holding.body (last_of m.holding) m.is)

  -- it may be opened
  pub may_open : MayOpen code noting t k
  may_open = record {
    place = 0;
    holding = m.holding;
    order = m.order;
    holds = ap (λ (z : List Holding). get_elem? z 0) m.bears;
    act = m.act;
    among = subst (λ (z : List Making). Among (record { by = m.holding.number; task = t; stage = 2 }) z) (sym m.makes) (among_first refl);
    plan = subst (λ (z : List Plan). Among (record { task = t; holding = m.holding; order = m.order }) z) (sym m.plans) (among_first refl);
    linked = λ z among. absurd (none_among k.unlinked z (m.unlinked ∙ no_left t stop) among);
    is = noted_is;
  }

  -- and then the job is to go past the creation
  pub opened_behind : (found : ℕ) (l : Known) → IsOpened code noting t found k l → IsBehind code noting m.holding.body l
  opened_behind found l o =
      let p = the_place k.bears m.holding o.may.holding o.may.place m.bears o.may.holds in record {
        holding = created_by noting m.holding;
        order = m.order;
        bears =
            ap (λ (z : Known). z.bears) o.known
            ∙ (set_one k.bears m.holding (created_by noting o.may.holding) o.may.place m.bears p.0 ∙ ap (λ (z : Holding). created_by noting z ∷ []) p.1);
        body = refl;
        act = m.act;
        is = last_changed code m.holding.before noting m.holding.number m.holding.body (noted t (new_rights code m.holding.body m.order) (last_of m.holding)) (last_of (created_by noting m.holding)) noted_last noted_is;
        of_program = m.of_program;
        makes = ap (λ (z : Known). z.makes) o.known ∙ (ap (made_beside t) m.makes ∙ made_none t (record { by = m.holding.number; task = t; stage = 2 }) refl);
        plans = ap (λ (z : Known). z.plans) o.known ∙ (ap (plans_beside t) m.plans ∙ plans_none t (record { task = t; holding = m.holding; order = m.order }) refl);
        unlinked = ap (λ (z : Known). z.unlinked) o.known ∙ (m.unlinked ∙ no_left t stop);
      }
    where
      noted_last : (y : Site) → noted t (new_rights code m.holding.body m.order) (last_of m.holding) y ≡ last_of (created_by noting m.holding) y
      noted_last itself = sym noted_is.last_child
      noted_last (on c) = sym (noted_is.lasts c)

-- a job goes past the creation
abbrev pub Advances : CodeParts → Job → Job → Type 0
Advances code i j = (before : List ℕ) (u : ℕ) (b : Body CodeScript) (last : Site → Option ℕ) → IsJob code before i u b last → IsJob code before j u (with_answer (answer_to (act_seen (pending_of (body_of i))) 0) b) last

pub past_works : (code : CodeParts) (i j : Job) (x : Body CodeScript) (k : Known) → is_over (body_of i) ≡ false → Advances code i j → IsBehind code i x k → Works code j (with_answer 0 x) k
past_works code i j x k running advance b =
    let act : act_seen (pending_of (body_of i)) ≡ Created b.order false = b.is.body.act running ∙ b.act in
    record {
      holding = b.holding;
      bears = b.bears;
      given = record {
        holds = ap (λ (z : List Holding). get_elem? z 0) b.bears;
        may = subst (λ (z : Body CodeScript). MayGo (asks code) (sight_of k) (bearing_of b.holding) z) b.body still_there;
        is = subst (λ (v : ℕ). IsJob code b.holding.before j b.holding.number (with_answer v x) (last_of b.holding)) (ap (λ (a : Meant CodeScript). answer_to a 0) act)
            (advance b.holding.before b.holding.number x (last_of b.holding) b.is);
      };
      of_program = record { inside = b.of_program.inside; depth = b.of_program.depth };
      makes = b.makes;
      plans = b.plans;
      unlinked = b.unlinked;
    }

pub past_acted : (code : CodeParts) (old i j : Job) (k l : Known) → is_over (body_of i) ≡ false → Advances code i j → HasMade code old i k l → HasActed code old j 0 k l
past_acted code old i j k l running advance m = record { body = m.body; before = m.before; after = past_works code i j m.body l running advance m.after }

-- or it stays there
abbrev pub Stays : CodeParts → Job → Job → Type 0
Stays code i j = (before : List ℕ) (u : ℕ) (b : Body CodeScript) (last : Site → Option ℕ) → IsJob code before i u b last → IsJob code before j u b last

pub past_stays : (code : CodeParts) (old i j : Job) (k l : Known) → Stays code i j → HasMade code old i k l → HasMade code old j k l
past_stays code old i j k l stays m = record {
  body = m.body;
  before = m.before;
  after = record {
    holding = m.after.holding;
    order = m.after.order;
    bears = m.after.bears;
    body = m.after.body;
    act = m.after.act;
    is = stays m.after.holding.before m.after.holding.number m.body (last_of m.after.holding) m.after.is;
    of_program = m.after.of_program;
    makes = m.after.makes;
    plans = m.after.plans;
    unlinked = m.after.unlinked;
  };
}
