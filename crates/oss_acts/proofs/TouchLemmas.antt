-- The touches of a job, and the acts that it does by itself.
use Rattle.std.proofs.Common.{◌≡◌, ◌≢◌, refl, sym, subst, ap, ◌∙◌, ℕ, Bool, true, false, List, [], ◌∷◌, set, Option}
use mathlib.Core.Option as maybe
use lib.ListN.{get_elem?}
use Rattle.oss_body.specs.declared.act.Act.{Act as Pending}
use Rattle.oss_body.specs.declared.act.Act.TheVariants as acts
use Rattle.oss_body.specs.Acts.{act_seen, answer_to}
use Rattle.oss_body.specs.Relation.{is_over, pending_of}
use Rattle.oss_code.specs.declared.code.CodeParts.{CodeParts}
use Rattle.oss_jobs.specs.declared.job.Job.{Job}
use Rattle.oss_jobs.specs.Jobs.{IsJob, body_of}
use Rattle.oss_machine.specs.Frames.{CodeScript}
use Rattle.oss_machine.specs.Machines.{asks}
use Rattle.oss_model.specs.Bodies.{Act, Body, Program, word_of}
use Rattle.oss_model.specs.Bodies.Act.{Ticked, Load, Store, Folded, Created, Awaited, Waited, WaitedOn, Releases, Printed, Ended, Fault, Over}
use Rattle.oss_model.specs.Moves.{act_now, combine}
use Rattle.oss_syntax.specs.declared.access.Op.{Op}
use Rattle.oss_words.specs.Views.{Among, Seen, among_first}
use Rattle.oss_roles.specs.Alone.{IsOwnAct, with_answer}
use Rattle.oss_roles.specs.Passing.{AllDone, MayGo, MayPass, NewestDone, last_done, newest_done, no_child, no_task, still_there, went_on}
use Rattle.oss_roles.specs.Roles.{Site, itself, on}
use Rattle.oss_roles.specs.Sights.{Bearing, Noted, Sight}
use Rattle.oss_field.specs.Asks.{HoldsOnce, IsGiven, IsLoaded, IsStored, Loaded, LoadedForFold, MayLoad, MayStore, StandsBefore, to_fold, to_load, to_store, to_store_fold, has_loaded, has_noted, has_stored, has_folded}
use Rattle.oss_field.specs.Known.{Holding, Known, bearing_of, last_of, sight_of}
use Rattle.oss_field.specs.Layout.{cell_word}
use Rattle.oss_field.specs.Moves.{answered, touched, with_body}
use Rattle.oss_acts.specs.Touching.{is_own}
use Rattle.oss_acts.specs.Working.{HasActed, Works}
use Rattle.oss_acts.proofs.WorkLemmas.{go_start, program_on, set_one, the_place}

-- What the advance of a job tells, if a load found this.
abbrev pub Advances : CodeParts → Job → Job → ℕ → Type 0
Advances code job job' found = (before : List ℕ) (t : ℕ) (b : Body CodeScript) (last : Site → Option ℕ) → IsJob code before job t b last
    → IsJob code before job' t (with_answer (answer_to (act_seen (pending_of (body_of job))) found) b) last

answer_zero : (a : Act CodeScript) → answer_to a 0 ≡ 0
answer_zero Ticked = refl
answer_zero (Load c) = refl
answer_zero (Store c v) = refl
answer_zero (Folded c op v slot) = refl
answer_zero (Created o i) = refl
answer_zero Awaited = refl
answer_zero Waited = refl
answer_zero (WaitedOn named) = refl
answer_zero (Releases l i) = refl
answer_zero (Printed k t) = refl
answer_zero Ended = refl
answer_zero (Fault f l k) = refl
answer_zero Over = refl

own_act : (p : Pending) → is_own p ≡ true → IsOwnAct (act_seen p) × ((v : Sight CodeScript) (b : Bearing CodeScript) → MayPass v b (act_seen p))
own_act acts.Tick e = (tt, λ v b. tt)
own_act (acts.Load c) e = absurd (let bad : ⊥ = cc in bad)
own_act (acts.Store c x) e = absurd (let bad : ⊥ = cc in bad)
own_act (acts.Fold c op x true) e = (tt, λ v b. tt)
own_act (acts.Fold c op x false) e = absurd (let bad : ⊥ = cc in bad)
own_act (acts.Create creation true) e = (tt, λ v b. tt)
own_act (acts.Create creation false) e = absurd (let bad : ⊥ = cc in bad)
own_act acts.Await e = absurd (let bad : ⊥ = cc in bad)
own_act acts.Wait e = absurd (let bad : ⊥ = cc in bad)
own_act (acts.WaitOn ranges) e = absurd (let bad : ⊥ = cc in bad)
own_act (acts.Release clauses included) e = (tt, λ v b. tt)
own_act (acts.Print key text) e = (tt, λ v b. tt)
own_act acts.End e = (tt, λ v b. tt)
own_act (acts.Fault kind line key) e = absurd (let bad : ⊥ = cc in bad)

module _ (code : CodeParts) (job : Job) (x : Body CodeScript) (k : Known) (w : Works code job x k) (running : is_over (body_of job) ≡ false) where
  next_is : act_seen (pending_of (body_of job)) ≡ act_now (asks code) x
  next_is = w.given.is.body.act running

  stands : (act : Act CodeScript) → act_seen (pending_of (body_of job)) ≡ act → StandsBefore code job k act
  stands act is = record { place = 0; holding = w.holding; body = x; given = w.given; act = sym next_is ∙ is }

  pub may_load : (c : ℕ) → pending_of (body_of job) ≡ acts.Load c → MayLoad code job c k
  may_load c is = to_load (stands (Load c) (ap act_seen is))

  pub may_store : (c v : ℕ) → word_of v ≡ v → pending_of (body_of job) ≡ acts.Store c v → MayStore code job c v k
  may_store c v small is = to_store (stands (Store c v) (ap act_seen is ∙ ap (λ (z : ℕ). Store c z) small))

  -- an act of its own
  pub own_acted : (job' : Job) → is_own (pending_of (body_of job)) ≡ true → Advances code job job' 0 → HasActed code job job' 0 k k
  own_acted job' own advance =
      let o = own_act (pending_of (body_of job)) own in record {
        body = x;
        before = w;
        after = record {
          holding = w.holding;
          bears = w.bears;
          given = record {
            holds = w.given.holds;
            may = went_on w.given.may (subst (λ (a : Act CodeScript). IsOwnAct a) next_is o.0) (subst (λ (a : Act CodeScript). MayPass (sight_of k) (bearing_of w.holding) a) next_is (o.1 (sight_of k) (bearing_of w.holding)));
            is = subst (λ (v : ℕ). IsJob code w.holding.before job' w.holding.number (with_answer v x) (last_of w.holding)) (answer_zero (act_seen (pending_of (body_of job))))
                (advance w.holding.before w.holding.number x (last_of w.holding) w.given.is);
          };
          of_program = record { inside = w.of_program.inside; depth = w.of_program.depth };
          makes = w.makes;
          plans = w.plans;
          unlinked = w.unlinked;
        };
      }

  -- after a touch with this answer
  goes_on : (job' : Job) (l : Known) (act : Act CodeScript) (answer word found : ℕ) (at : StandsBefore code job k act) → l ≡ touched word found (answered at.place at.holding at.body answer k)
      → ((before : List ℕ) (t : ℕ) (b : Body CodeScript) (last : Site → Option ℕ) → IsJob code before job t b last → IsJob code before job' t (with_answer answer b) last)
      → HasActed code job job' answer k l
  goes_on job' l act answer word found at known advance =
      let p = the_place k.bears w.holding at.holding at.place w.bears at.given.holds in
      let start : x.start ≡ at.body.start =
      go_start (asks code) (sight_of k) (bearing_of w.holding) x w.given.may
      ∙ (ap (λ (z : Holding). z.body.start) (sym p.1) ∙ sym (go_start (asks code) (sight_of k) (bearing_of at.holding) at.body at.given.may)) in
      let placed = program_on code x at.body start w.of_program in
      let h : Holding = with_body (with_answer answer at.body) at.holding in
      let bears : l.bears ≡ h ∷ [] = ap (λ (z : Known). z.bears) known ∙ set_one k.bears w.holding h at.place w.bears p.0 in record {
        body = at.body;
        before = record {
          holding = at.holding;
          bears = w.bears ∙ ap (λ (z : Holding). z ∷ []) (sym p.1);
          given = subst (λ (z : ℕ). IsGiven code job k z at.holding at.body) p.0 at.given;
          of_program = placed;
          makes = w.makes;
          plans = w.plans;
          unlinked = w.unlinked;
        };
        after = record {
          holding = h;
          bears = bears;
          given = record { holds = ap (λ (z : List Holding). get_elem? z 0) bears; may = still_there; is = changed at.holding at.body answer (advance at.holding.before at.holding.number at.body (last_of at.holding) at.given.is) };
          of_program = record { inside = placed.inside; depth = placed.depth };
          makes = ap (λ (z : Known). z.makes) known ∙ w.makes;
          plans = ap (λ (z : Known). z.plans) known ∙ w.plans;
          unlinked = ap (λ (z : Known). z.unlinked) known ∙ w.unlinked;
        };
      }
    where
      changed : (h : Holding) (b : Body CodeScript) (v : ℕ) → IsJob code h.before job' h.number (with_answer v b) (last_of h) → IsJob code h.before job' h.number (with_answer v b) (last_of (with_body (with_answer v b) h))
      changed h b v is = record { task = is.task; body = is.body; since = is.since; found = is.found; prints = is.prints; cells = is.cells; numbers = is.numbers; entries = is.entries; lasts = λ c. is.lasts c; last_child = is.last_child }

  answers : (job' : Job) (a : Pending) (found : ℕ) → pending_of (body_of job) ≡ a → Advances code job job' found
      → (before : List ℕ) (t : ℕ) (b : Body CodeScript) (last : Site → Option ℕ) → IsJob code before job t b last → IsJob code before job' t (with_answer (answer_to (act_seen a) found) b) last
  answers job' a found is advance = subst (λ (z : Pending). (before : List ℕ) (t : ℕ) (b : Body CodeScript) (last : Site → Option ℕ) → IsJob code before job t b last → IsJob code before job' t (with_answer (answer_to (act_seen z) found) b) last) is advance

  load_no_fold : (c : ℕ) (op : Op) (v : ℕ) → ◌≡◌ {A = Act CodeScript} (Load c) (Folded c op v false) → ⊥
  load_no_fold c op v e = cc

  store_no_fold : (c y : ℕ) (op : Op) (v : ℕ) → ◌≡◌ {A = Act CodeScript} (Store c y) (Folded c op v false) → ⊥
  store_no_fold c y op v e = cc

  pub loaded : (job' : Job) (l : Known) (c found : ℕ) → pending_of (body_of job) ≡ acts.Load c → IsLoaded code job c found k l → Advances code job job' found → HasActed code job job' found k l
  loaded job' l c found is (has_loaded r) advance = goes_on job' l (Load c) found _ found r.at_load r.known (answers job' (acts.Load c) found is advance)
  loaded job' l c found is (has_noted op v r) advance = absurd (load_no_fold c op v (sym (ap act_seen is) ∙ (r.at_fold.given.is.body.act running ∙ r.at_fold.act)))

  pub stored : (job' : Job) (l : Known) (c v : ℕ) → pending_of (body_of job) ≡ acts.Store c v → IsStored code job c v k l → Advances code job job' 0 → HasActed code job job' 0 k l
  stored job' l c v is (has_stored r) advance = goes_on job' l (Store c v) 0 _ v r.at_store r.known (answers job' (acts.Store c v) 0 is advance)
  stored job' l c v is (has_folded op y r) advance = absurd (store_no_fold c (word_of v) op y (sym (ap act_seen is) ∙ (r.before.at_fold.given.is.body.act running ∙ r.before.at_fold.act)))

-- what a job does by itself, in two stretches
module _ (v w : Sight CodeScript) (b c : Bearing CodeScript) (more : (y : Seen) → Among y w.seen → Among y v.seen) (last : (y : Site) → c.last y ≡ b.last y) where
  done_back : (y : Site) → AllDone w c y → AllDone v b y
  done_back y (no_child none) = no_child (sym (last y) ∙ none)
  done_back y (last_done x is among clear done) = last_done x (sym (last y) ∙ is) (more x among) clear done

  newest_back : NewestDone w c → NewestDone v b
  newest_back (no_task none) = no_task (sym (last itself) ∙ none)
  newest_back (newest_done x is among done) = newest_done x (sym (last itself) ∙ is) (more x among) done

  pass_back : (a : Act CodeScript) → MayPass w c a → MayPass v b a
  pass_back Ticked m = m
  pass_back (Load d) m = m
  pass_back (Store d x) m = m
  pass_back (Folded d o x s) m = m
  pass_back (Created o i) m = m
  pass_back Awaited m = newest_back m
  pass_back Waited m = done_back itself m
  pass_back (WaitedOn named) m = λ d q. done_back (on d) (m d q)
  pass_back (Releases l i) m = m
  pass_back (Printed k t) m = m
  pass_back Ended m = m
  pass_back (Fault f l k) m = m
  pass_back Over m = m

  go_through : (P : Program CodeScript) (x : Body CodeScript) → MayGo P v b c.body → MayGo P w c x → MayGo P v b x
  go_through P x first still_there = first
  go_through P x first (went_on {x = y} m own pass) = went_on (go_through P y first m) own (pass_back (act_now P y) pass)

-- a fold into a cell, of which the first half loads and the second stores

op_in : Op → Act CodeScript → Op
op_in d (Folded c o v s) = o
op_in d _ = d

value_in : ℕ → Act CodeScript → ℕ
value_in d (Folded c o v s) = v
value_in d _ = d

-- What the seat knows between the two: it works with the job still, at a body from which the job may go on as from the one before, and it keeps what was found.
pub record IsHalfway (code : CodeParts) (job : Job) (found : ℕ) (k l : Known) : Type 0 where
  pub body : Body CodeScript
  pub before : Works code job body k
  pub after : Works code job body l
  pub loaded : Among (record { name = after.holding.number; value = found }) l.loaded
  pub tells : (y : Body CodeScript) → IsJob code after.holding.before job after.holding.number y (last_of after.holding) → IsJob code before.holding.before job before.holding.number y (last_of before.holding)
  pub through : (y : Body CodeScript) → MayGo (asks code) (sight_of l) (bearing_of after.holding) y → MayGo (asks code) (sight_of k) (bearing_of before.holding) y

module _ (code : CodeParts) (job : Job) (x : Body CodeScript) (k : Known) (w : Works code job x k) (running : is_over (body_of job) ≡ false) (c : ℕ) (op : Op) (v : ℕ) (is : pending_of (body_of job) ≡ acts.Fold c op v false) where
  abbrev the_fold : Act CodeScript
  the_fold = Folded c op (word_of v) false

  pub may_load_fold : MayLoad code job c k
  may_load_fold = to_fold op (word_of v) (stands code job x k w running the_fold (ap act_seen is))

  fold_is : (y : Body CodeScript) (h : Holding) → IsJob code h.before job h.number y (last_of h) → act_now (asks code) y ≡ the_fold
  fold_is y h j = sym (j.body.act running) ∙ ap act_seen is

  pub halfway : (found : ℕ) (l : Known) → IsLoaded code job c found k l → IsHalfway code job found k l
  halfway found l (has_loaded r) = absurd (load_no_fold code job x k w running c op (word_of v) (sym r.at_load.act ∙ fold_is r.at_load.body r.at_load.holding r.at_load.given.is))
  halfway found l (has_noted o y r) =
      let at = r.at_fold in
      let p = the_place k.bears w.holding at.holding at.place w.bears at.given.holds in
      let start : x.start ≡ at.body.start =
      go_start (asks code) (sight_of k) (bearing_of w.holding) x w.given.may
      ∙ (ap (λ (z : Holding). z.body.start) (sym p.1) ∙ sym (go_start (asks code) (sight_of k) (bearing_of at.holding) at.body at.given.may)) in
      let placed = program_on code x at.body start w.of_program in
      let h : Holding = with_body at.body at.holding in
      let bears : l.bears ≡ h ∷ [] = ap (λ (z : Known). z.bears) r.known ∙ set_one k.bears w.holding h at.place w.bears p.0 in
      let j = at.given.is in record {
        body = at.body;
        before = record {
          holding = at.holding;
          bears = w.bears ∙ ap (λ (z : Holding). z ∷ []) (sym p.1);
          given = subst (λ (z : ℕ). IsGiven code job k z at.holding at.body) p.0 at.given;
          of_program = placed;
          makes = w.makes;
          plans = w.plans;
          unlinked = w.unlinked;
        };
        after = record {
          holding = with_body at.body at.holding;
          bears = bears;
          given = record {
            holds = ap (λ (z : List Holding). get_elem? z 0) bears;
            may = still_there;
            is = record { task = j.task; body = j.body; since = j.since; found = j.found; prints = j.prints; cells = j.cells; numbers = j.numbers; entries = j.entries; lasts = λ d. j.lasts d; last_child = j.last_child };
          };
          of_program = placed;
          makes = ap (λ (z : Known). z.makes) r.known ∙ w.makes;
          plans = ap (λ (z : Known). z.plans) r.known ∙ w.plans;
          unlinked = ap (λ (z : Known). z.unlinked) r.known ∙ w.unlinked;
        };
        loaded = subst (λ (z : List Noted). Among (record { name = at.holding.number; value = found }) z) (sym (ap (λ (z : Known). z.loaded) r.known)) (among_first refl);
        tells = λ b i. record { task = i.task; body = i.body; since = i.since; found = i.found; prints = i.prints; cells = i.cells; numbers = i.numbers; entries = i.entries; lasts = λ d. i.lasts d; last_child = i.last_child };
        through = λ z g. go_through (sight_of k) (sight_of l) (bearing_of at.holding) (bearing_of (with_body at.body at.holding)) (λ q a. subst (λ (m : List Seen). Among q m) (ap (λ (m : Known). m.seen) r.known) a) (last_here at.holding at.body) (asks code) z at.given.may g;
      }
    where
      last_here : (h : Holding) (b : Body CodeScript) (y : Site) → last_of (with_body b h) y ≡ last_of h y
      last_here h b itself = refl
      last_here h b (on d) = refl

  module _ (found : ℕ) (l : Known) (half : IsHalfway code job found k l) where
    pub may_store_fold : (value : ℕ) → value ≡ combine op found (word_of v) → MayStore code job c value l
    may_store_fold value made = to_store_fold op (word_of v) (record {
      at_fold = record { place = 0; holding = half.after.holding; body = half.body; given = half.after.given; act = fold_is half.body half.after.holding half.after.given.is };
      found = found;
      loaded = half.loaded;
      value_is = made;
    })

    pub stored_fold : (job' : Job) (m : Known) (value : ℕ) → IsStored code job c value l m → Advances code job job' 0 → HasActed code job job' 0 k m
    stored_fold job' m value (has_stored r) advance = absurd (store_no_fold code job x k w running c value op (word_of v) (sym r.at_store.act ∙ fold_is r.at_store.body r.at_store.holding r.at_store.given.is))
    stored_fold job' m value (has_folded o y r) advance =
        let a = goes_on code job half.body l half.after running job' m (Folded c o y false) 0 _ value r.before.at_fold r.known (answers code job half.body l half.after running job' (acts.Fold c op v false) 0 is advance) in
        let p = the_place l.bears half.after.holding a.before.holding 0 half.after.bears a.before.given.holds in record {
          body = a.body;
          before = record {
            holding = half.before.holding;
            bears = half.before.bears;
            given = record {
              holds = half.before.given.holds;
              may = half.through a.body (subst (λ (h : Holding). MayGo (asks code) (sight_of l) (bearing_of h) a.body) p.1 a.before.given.may);
              is = half.tells a.body (subst (λ (h : Holding). IsJob code h.before job h.number a.body (last_of h)) p.1 a.before.given.is);
            };
            of_program = a.before.of_program;
            makes = half.before.makes;
            plans = half.before.plans;
            unlinked = half.before.unlinked;
          };
          after = a.after;
        }

-- a touch leaves what the seat may draw
pub loaded_failed : (code : CodeParts) (job : Job) (c v : ℕ) (k l : Known) → IsLoaded code job c v k l → l.words.failed ≡ k.words.failed
loaded_failed code job c v k l (has_loaded r) = ap (λ (z : Known). z.words.failed) r.known
loaded_failed code job c v k l (has_noted o y r) = ap (λ (z : Known). z.words.failed) r.known

pub stored_failed : (code : CodeParts) (job : Job) (c v : ℕ) (k l : Known) → IsStored code job c v k l → l.words.failed ≡ k.words.failed
stored_failed code job c v k l (has_stored r) = ap (λ (z : Known). z.words.failed) r.known
stored_failed code job c v k l (has_folded o y r) = ap (λ (z : Known). z.words.failed) r.known
