-- A creation by both runs, and the end of a task.
use Rattle.std.proofs.Common.{◌≡◌, refl, sym, subst, ap, ◌∙◌, ℕ, suc, ◌+◌, ◌<◌, ◌≤◌, Bool, true, false, List, [], ◌∷◌, ◌++◌, length, Option, Some, None}
use Rattle.std.specs.Prelude.{◌&&◌, ◌||◌, not, is_some}
use Rattle.oss_syntax.specs.declared.access.Access.{Access}
use Rattle.oss_syntax.specs.declared.fault.FaultKind.{FaultKind}
use Rattle.oss_model.specs.Context.{Context, child_context, clause_fault, create_fault, creation_fault, in_clauses, lend, or_else, right_of}
use Rattle.oss_model.specs.Rights.{is_mixed}
use Rattle.oss_model.specs.Bodies.{Act, Frame, Order, Program, after_creation, child_frame, including_frame, judged_act, lent_when, made_by, one_more_created, settled_frame}
use Rattle.oss_model.specs.Bodies.Act.{Created}
use Rattle.oss_model.specs.Moves.{act_now}
use Rattle.oss_model.specs.Sequence.{Running, RunsOn, printed_after}
use Rattle.oss_model.proofs.BodyLemmas.{judged_goes, settle_same}
use Rattle.oss_needs.specs.declared.clause.Clause.{Clause}
use Rattle.oss_needs.specs.Claims.{all_right, said}
use Rattle.oss_needs.specs.Givens.{given_of}
use Rattle.oss_needs.specs.Meeting.{mark_by, right_by}
use Rattle.oss_task_needs.specs.Asking.{asks_for, creates, nothing_asked}
use Rattle.oss_lent_cells.specs.Lent.{lends, nothing_lent}
use Rattle.oss_freed.specs.Freed.{all_cells, freed_order}
use Rattle.oss_free_tasks.specs.OpenTasks.{Goes}
use Rattle.oss_free_tasks.proofs.FreeTurns.{led, settled_freed}
use Rattle.oss_lacks.specs.Asking.{Asking, created_by, mended_clauses, tell_creator}
use Rattle.oss_lacks.specs.Nests.{Nest, Numbered, opened, with_acting}
use Rattle.oss_missing_waits.specs.Holding.{Holding, lent_when as held_when, new_task as new_holding}
use Rattle.oss_missing_waits.specs.Waits.{IsCreation, mended_in, tell_nothing}
use Rattle.oss_missing_laws.specs.Programs.{AreWithin, LacksNothing}
use Rattle.oss_missing_laws.proofs.AlikeLemmas.{IsAlike, IsBeside, ahead, awaiting, create_alike, even, settled_alike}
use Rattle.oss_missing_laws.proofs.ClearLemmas.{clear_use, lent_told}
use Rattle.oss_missing_laws.proofs.FateLemmas.{HasFate, fate_behind, fate_of_new}
use Rattle.oss_missing_laws.proofs.GrowLemmas.{IsMoreAsked, IsMoreTold, asked_later, asked_still, asked_told, told_later, told_still}
use Rattle.oss_missing_laws.proofs.KnownLemmas.{IsKnown, child_known, child_rights, counted_known, lend_known, made_known}
use Rattle.oss_missing_laws.proofs.LevelLemmas.{AskedFated, AskedFates, Clean, HeldFated, IsTogether, Twin, asked_nest, askeds, frees, given_at, given_at_same, given_by, given_same, has_said, head_of, held_nest, held_told, lacking_unmixed, mended_at, mended_said, nothing_pending, owns, rehead, right_now_asked, untold_now}
use Rattle.oss_missing_laws.proofs.PassLemmas.{clauses_none, named_some}
use Rattle.oss_missing_laws.proofs.RunLevels.{Level, Reach, free_run, gone, start}
use Rattle.oss_missing_laws.proofs.StepLemmas.{alive, below}

or_first : (a b : Option FaultKind) → or_else a b ≡ None → a ≡ None
or_first None b h = refl
or_first (Some kind) b h = h

one_longer : {A B : Type 0} (xs : List (Option A)) (ys : List (Option B)) → length xs ≡ length ys → length (xs ++ None ∷ []) ≡ length (ys ++ None ∷ [])
one_longer xs ys e = longer xs ∙ ap suc e ∙ sym (longer ys)
  where
    longer : {C : Type 0} (zs : List (Option C)) → length (zs ++ None ∷ []) ≡ suc (length zs)
    longer [] = refl
    longer (z ∷ zs) = ap suc (longer zs)

and_no : (b : Bool) → (b && false) ≡ false
and_no true = refl
and_no false = refl

and_yes : (b : Bool) → (b && true) ≡ b
and_yes true = refl
and_yes false = refl

-- a creator that lends, or does not
abbrev made_frame : {S : Type 0} → Bool → Order S → Frame S → Frame S
made_frame w o f = record {
  script = f.script;
  context = made_by o f (lent_when w (right_of (child_context f.context o.clauses o.last)) (one_more_created f.context));
  path = f.path;
  answers = 0 ∷ f.answers;
  awaits = not w;
}

made_alike : {S : Type 0} (w b : Bool) (o p : Order S) (f g : Frame S) → IsAlike f g → IsAlike (record (made_frame w o f) { awaits = b }) (record (made_frame false p g) { awaits = b })
made_alike true b o p f g a = record { script = a.script; answers = ap (λ (vs : List ℕ). 0 ∷ vs) a.answers; ticks = a.ticks; fuel = a.fuel; created = ap (λ (k : ℕ). k + 1) a.created; depth = a.depth; final = a.final; awaits = refl }
made_alike false b o p f g a = record { script = a.script; answers = ap (λ (vs : List ℕ). 0 ∷ vs) a.answers; ticks = a.ticks; fuel = a.fuel; created = ap (λ (k : ℕ). k + 1) a.created; depth = a.depth; final = a.final; awaits = refl }

module _ {S : Type 0} (P : Program S) (order : Order S) (first : List ℕ) (fuel : ℕ) (few : length first ≤ 1048576) (e : Clean) where
  -- the creator goes on beside itself
  creator_beside : (w : Bool) (o : Order S) (f g : Frame S) → IsAlike f g → g.context.final ≡ false → IsBeside P (settled_frame P (made_frame w o f)) (settled_frame (free_run P order first fuel) (after_creation (freed_order (length first) o) g))
  creator_beside false o f g a k =
      let p : Frame S = after_creation (freed_order (length first) o) g in
      subst (λ (x : Frame S). IsBeside P (settled_frame P (made_frame false o f)) x) (sym (settled_freed P (length first) p)) (even (settled_alike P (made_frame false o f) p (made_alike false true o (freed_order (length first) o) f g a)))
  creator_beside true o f g a k =
      let p : Frame S = after_creation (freed_order (length first) o) g in
      ahead p (settled_alike P (made_frame true o f) (awaiting P false p) (made_alike true false o (freed_order (length first) o) f g a)) (settled_freed P (length first) p) k

  module _ (z y : Running S) (t : Twin S) (rest : List (Twin S)) (l : Level P order first fuel z t rest) (r : RunsOn (free_run P order first fuel) z y) (ca : List (Option Asking)) (ch : List (Option Holding)) (counts : length ch ≡ length ca) (al : IsAlike t.own t.free)
      (o : Order S) (line : ℕ) (m : Nest Holding) (inside : AreWithin (length first) o.clauses)
      (fa : AskedFated e (opened (created_by t.free o line) (asked_nest t rest ca))) (fh : HeldFated e m)
      (b : IsCreation (mended_in e.asked) t.free (o.when && not t.free.context.final) line (held_nest t rest ch) m) where
    child : Asking
    child = created_by t.free o line

    fate : HasFate IsMoreAsked asked_still asked_later tell_creator asked_told e.asked (record { number = length ca; task = created_by t.free o line })
    fate = fate_of_new IsMoreAsked asked_still asked_later tell_creator asked_told e.asked e.asked_main (created_by t.free o line) (asked_nest t rest ca) fa

    clean : LacksNothing fate.last
    clean = e.lacks (length ca) fate.last fate.at_

    said_is : (c : ℕ) → c < 1048576 → mended_clauses fate.last c ≡ given_by (created_by t.free o line) c
    said_is c i = mended_said fate.last c i clean ∙ given_same (created_by t.free o line) fate.last fate.more.final fate.more.clauses c

    unmixed_child : (c : ℕ) → c < 1048576 → is_mixed (t.free.context.final || o.last) o.clauses c ≡ false
    unmixed_child c i =
        sym (ap (λ (x : Bool). is_mixed x fate.last.clauses c) fate.more.final ∙ ap (λ (xs : List Access). is_mixed (t.free.context.final || o.last) xs c) fate.more.clauses) ∙ lacking_unmixed fate.last c i clean

    mended_is : (c : ℕ) → c < 1048576 → mended_in e.asked (length ch) c ≡ given_by (created_by t.free o line) c
    mended_is c i = ap (λ (k : ℕ). mended_in e.asked k c) counts ∙ mended_at e.asked (length ca) fate.last fate.at_ c ∙ has_said fate.last c i clean ∙ given_same (created_by t.free o line) fate.last fate.more.final fate.more.clauses c

    -- the creator covers it
    behind_fates : AskedFates e (record { number = t.asked.number; task = tell_creator fate.last t.asked.task }) (askeds rest)
    unfolding fate
    behind_fates = fate_behind IsMoreAsked asked_still asked_later tell_creator asked_told e.asked e.asked_main (created_by t.free o line) (asked_nest t rest ca) fa

    covers : (c : ℕ) → c < 1048576 → all_right (right_by (given_at rest t.asked.task c)) (mark_by (given_at rest t.asked.task c)) (creates (given_by (created_by t.free o line) c) (t.asked.task.asked c)) ≡ true
    covers c i =
        let told : Asking = tell_creator fate.last t.asked.task in
        let g : Option Clause = given_at rest told c in
        let k : Numbered Asking = record { number = t.asked.number; task = told } in
        ap (λ (x : Option Clause). all_right (right_by x) (mark_by x) (creates (given_by (created_by t.free o line) c) (t.asked.task.asked c))) (sym (given_at_same rest t.asked.task told refl refl c))
        ∙ ap (λ (x : Option Clause). all_right (right_by g) (mark_by g) (creates x (t.asked.task.asked c))) (sym (said_is c i))
        ∙ right_now_asked e k rest behind_fates c i

    -- the second walk at the creation
    lending : Holding
    lending = held_when (o.when && not t.free.context.final) t.free.context.created line (mended_in e.asked (length ch)) b.used

    untold : b.used.told ≡ []
    unfolding lending
    untold =
        let new : Holding = new_holding (t.free.context.created ∷ t.free.path) line (mended_in e.asked (length ch)) in
        let nest : Nest Holding = with_acting lending (held_nest t rest ch) in
        let f : HeldFated e (opened new nest) = subst (λ (x : Nest Holding). HeldFated e x) b.new_is fh in
        let h = fate_behind IsMoreTold told_still told_later tell_nothing held_told e.held e.held_main new nest f in
        let k : Numbered Holding = record { number = t.held.number; task = lending } in
        sym (lent_told (o.when && not t.free.context.final) t.free.context.created line (mended_in e.asked (length ch)) b.used) ∙ untold_now e k rest h

    used_is : b.used ≡ t.held.task
    used_is = (clear_use (λ d. is_some (mended_in e.asked (length ch) d)) line t.held.task b.used b.use_is untold).same

    kept : (c : ℕ) → in_clauses o.clauses c ≡ true → t.held.task.released c ≡ false
    kept c i =
        (clear_use (λ d. is_some (mended_in e.asked (length ch) d)) line t.held.task b.used b.use_is untold).kept c
        (ap is_some (mended_is c (below P order first fuel few e c (inside c i))) ∙ named_some (t.free.context.final || o.last) o.clauses c (unmixed_child c (below P order first fuel few e c (inside c i))) i)

    old : IsTogether P (length first) (given_at rest t.asked.task) nothing_pending t
    old = head_of P (length first) nothing_pending t rest l.together

    -- so the judge lets it pass
    passes : create_fault t.free.context ≡ None → creation_fault t.own.context o.clauses (t.own.context.final || o.last) ≡ None
    passes k =
        ap (λ (x : Option FaultKind). or_else x (clause_fault t.own.context o.clauses (t.own.context.final || o.last))) (create_alike al ∙ k)
        ∙ ap (λ (x : Bool). clause_fault t.own.context o.clauses (x || o.last)) al.final
        ∙ clauses_none (length first) (given_at rest t.asked.task) t.asked.task.asked t.held.task.released t.held.task.lent t.own.context old.known o.clauses (t.free.context.final || o.last) inside
        (λ c i. unmixed_child c (below P order first fuel few e c i)) kept (λ c i. covers c (below P order first fuel few e c i))

    -- the rights of the new task
    unmixed_own : (c : ℕ) → c < length first → is_mixed (t.own.context.final || o.last) o.clauses c ≡ false
    unmixed_own c i = ap (λ (x : Bool). is_mixed (x || o.last) o.clauses c) al.final ∙ unmixed_child c (below P order first fuel few e c i)

    rights : (c : ℕ) → c < length first → right_of (child_context t.own.context o.clauses o.last) c ≡ right_by (given_by (created_by t.free o line) c)
    rights c i =
        child_rights (length first) t.own.context o.clauses o.last old.known.size c i (unmixed_own c i)
        ∙ ap (λ (x : Bool). right_by (said (given_of (x || o.last) o.clauses c))) al.final

    new_known : IsKnown (length first) (given_by (created_by t.free o line)) nothing_asked (λ c. false) nothing_lent (child_context t.own.context o.clauses o.last)
    new_known =
        subst (λ (x : Bool). IsKnown (length first) (λ c. said (given_of (x || o.last) o.clauses c)) nothing_asked (λ c. false) nothing_lent (child_context t.own.context o.clauses o.last)) al.final
        (child_known (length first) t.own.context o.clauses o.last old.known.size unmixed_own)

    counted : IsKnown (length first) (given_at rest t.asked.task) t.asked.task.asked t.held.task.released t.held.task.lent (one_more_created t.own.context)
    counted = counted_known (length first) (given_at rest t.asked.task) t.asked.task.asked t.held.task.released t.held.task.lent t.own.context (one_more_created t.own.context) refl old.known

    abbrev Held : Bool → Holding
    Held w = held_when w t.free.context.created line (mended_in e.asked (length ch)) t.held.task

    creator_known : (w : Bool) → IsKnown (length first) (given_at rest t.asked.task) (asks_for (given_by (created_by t.free o line)) t.asked.task.asked) (Held w).released (Held w).lent (made_frame w o t.own).context
    creator_known true =
        let right = right_of (child_context t.own.context o.clauses o.last) in
        let x : Context = one_more_created t.own.context in
        let by = mended_in e.asked (length ch) in
        made_known (length first) (given_at rest t.asked.task) t.asked.task.asked t.held.task.released (lends t.free.context.created line by t.held.task.lent) (lend right x)
        (lend_known (length first) (given_at rest t.asked.task) t.asked.task.asked t.held.task.released t.held.task.lent x counted right t.free.context.created line by (λ c i. rights c i ∙ ap right_by (sym (mended_is c (below P order first fuel few e c i)))))
        right (given_by (created_by t.free o line)) rights
    creator_known false =
        made_known (length first) (given_at rest t.asked.task) t.asked.task.asked t.held.task.released t.held.task.lent (one_more_created t.own.context) counted (right_of (child_context t.own.context o.clauses o.last)) (given_by (created_by t.free o line)) rights

    held_has : (w : Bool) → (Held w).has ≡ t.held.task.has
    held_has true = refl
    held_has false = refl

    -- the stage behind it
    born : (vo vf : Frame S) (h : Holding) → h.has ≡ t.held.task.has → IsBeside P vo vf
        → IsKnown (length first) (given_at rest t.asked.task) (asks_for (given_by (created_by t.free o line)) t.asked.task.asked) h.released h.lent vo.context
        → Goes P (start P order first fuel) first l.owned.stage (t.own ∷ owns rest) (settled_frame P (child_frame t.own o) ∷ vo ∷ owns rest) l.cells
        → Goes (free_run P order first fuel) (start P order first fuel) first l.freely.stage (t.free ∷ frees rest) (settled_frame (free_run P order first fuel) (child_frame t.free (freed_order (length first) o)) ∷ vf ∷ frees rest) l.cells
        → ((out : List ℕ) → printed_after (act_now P l.owned.body) out ≡ printed_after (act_now (free_run P order first fuel) l.freely.body) out)
        → Reach P order first fuel y (opened (created_by t.free o line) (asked_nest t rest ca)) (opened (new_holding (t.free.context.created ∷ t.free.path) line (mended_in e.asked (length ch))) (with_acting h (held_nest t rest ch)))
    born vo vf h has bs kn gp gf out =
        let f : Frame S = child_frame t.own o in
        let g : Frame S = child_frame t.free (freed_order (length first) o) in
        let new : Holding = new_holding (t.free.context.created ∷ t.free.path) line (mended_in e.asked (length ch)) in
        let u : Twin S = record { own = settled_frame P f; free = settled_frame (free_run P order first fuel) g; asked = record { number = length ca; task = created_by t.free o line }; held = record { number = length ch; task = new } } in
        let v : Twin S = record { own = vo; free = vf; asked = t.asked; held = record { number = t.held.number; task = h } } in
        let fg : IsAlike f g = record { script = refl; answers = refl; ticks = refl; fuel = al.fuel; created = refl; depth = ap (λ (k : ℕ). k + 1) al.depth; final = ap (λ (x : Bool). x || o.last) al.final; awaits = refl } in
        let tu : IsTogether P (length first) (given_by (created_by t.free o line)) nothing_pending u = record {
          beside = subst (λ (x : Frame S). IsBeside P (settled_frame P f) x) (sym (settled_freed P (length first) g)) (even (settled_alike P f g fg));
          known = subst (λ (x : Context). IsKnown (length first) (given_by (created_by t.free o line)) nothing_asked (λ c. false) nothing_lent x) (sym (settle_same P f).context) new_known;
          has = mended_is;
        } in
        let tv : IsTogether P (length first) (given_at rest t.asked.task) (given_by (created_by t.free o line)) v = record {
          beside = bs;
          known = kn;
          has = λ c i. ap (λ (x : ℕ → Option Clause). x c) has ∙ old.has c i;
        } in
        gone P order first fuel z y t rest l r u (v ∷ rest) (ca ++ None ∷ []) (ch ++ None ∷ []) l.cells gp gf out
        (tu, rehead P (length first) nothing_pending (given_by (created_by t.free o line)) t v rest l.together refl tv) (one_longer ch ca counts)

    silent : (a w : Act S) (i j : Bool) (p q : Order S) → a ≡ Created p i → w ≡ Created q j → (out : List ℕ) → printed_after a out ≡ printed_after w out
    silent a w i j p q x k out = ap (λ (s : Act S). printed_after s out) x ∙ sym (ap (λ (s : Act S). printed_after s out) k)

    nest_is : (d : Bool) → (o.when && not t.free.context.final) ≡ d → m ≡ opened (new_holding (t.free.context.created ∷ t.free.path) line (mended_in e.asked (length ch))) (with_acting (Held d) (held_nest t rest ch))
    nest_is d k =
        b.new_is
        ∙ ap (λ (x : Bool). opened (new_holding (t.free.context.created ∷ t.free.path) line (mended_in e.asked (length ch))) (with_acting (held_when x t.free.context.created line (mended_in e.asked (length ch)) b.used) (held_nest t rest ch))) k
        ∙ ap (λ (h : Holding). opened (new_holding (t.free.context.created ∷ t.free.path) line (mended_in e.asked (length ch))) (with_acting (held_when d t.free.context.created line (mended_in e.asked (length ch)) h) (held_nest t rest ch))) used_is

    including_alike : IsAlike (including_frame o t.own) (including_frame (freed_order (length first) o) t.free)
    including_alike = record { script = al.script; answers = ap (λ (vs : List ℕ). 0 ∷ vs) al.answers; ticks = al.ticks; fuel = al.fuel; created = ap (λ (k : ℕ). k + 1) al.created; depth = al.depth; final = al.final; awaits = al.awaits }

    pub by_create : act_now P l.owned.body ≡ judged_act t.own line (creation_fault t.own.context o.clauses (t.own.context.final || o.last)) (Created o t.own.context.final)
        → act_now (free_run P order first fuel) l.freely.body ≡ judged_act t.free line (creation_fault t.free.context (all_cells (length first)) (t.free.context.final || o.last)) (Created (freed_order (length first) o) t.free.context.final)
        → Reach P order first fuel y (opened (created_by t.free o line) (asked_nest t rest ca)) m
    by_create hp hf = go t.free.context.final refl
      where
        goal : (d : Bool) → (o.when && not t.free.context.final) ≡ d
            → Reach P order first fuel y (opened (created_by t.free o line) (asked_nest t rest ca)) (opened (new_holding (t.free.context.created ∷ t.free.path) line (mended_in e.asked (length ch))) (with_acting (Held d) (held_nest t rest ch)))
            → Reach P order first fuel y (opened (created_by t.free o line) (asked_nest t rest ca)) m
        goal d k x = subst (λ (n : Nest Holding). Reach P order first fuel y (opened (created_by t.free o line) (asked_nest t rest ca)) n) (sym (nest_is d k)) x

        free_goes : (creation_fault t.free.context (all_cells (length first)) (t.free.context.final || o.last) ≡ None) × (Created (freed_order (length first) o) t.free.context.final ≡ act_now (free_run P order first fuel) l.freely.body)
        free_goes =
            judged_goes t.free line (creation_fault t.free.context (all_cells (length first)) (t.free.context.final || o.last)) (Created (freed_order (length first) o) t.free.context.final)
            (act_now (free_run P order first fuel) l.freely.body) (sym hf) (alive P order first fuel few e z y t rest l r ca ch counts al)

        own_is : act_now P l.owned.body ≡ Created o t.own.context.final
        own_is =
            hp ∙ ap (λ (x : Option FaultKind). judged_act t.own line x (Created o t.own.context.final))
            (passes (or_first (create_fault t.free.context) (clause_fault t.free.context (all_cells (length first)) (t.free.context.final || o.last)) free_goes.0))

        go : (d : Bool) → t.free.context.final ≡ d → Reach P order first fuel y (opened (created_by t.free o line) (asked_nest t rest ca)) m
        go true k =
            let a : act_now P l.owned.body ≡ Created o true = own_is ∙ ap (λ (x : Bool). Created o x) (al.final ∙ k) in
            let w : act_now (free_run P order first fuel) l.freely.body ≡ Created (freed_order (length first) o) true = sym free_goes.1 ∙ ap (λ (x : Bool). Created (freed_order (length first) o) x) k in
            goal false (ap (λ (x : Bool). o.when && not x) k ∙ and_no o.when)
            (born (including_frame o t.own) (including_frame (freed_order (length first) o) t.free) t.held.task refl (even including_alike) (creator_known false)
            (led P (start P order first fuel) first t.own (owns rest) l.cells l.owned (Created o true) a (λ h. h))
            (led (free_run P order first fuel) (start P order first fuel) first t.free (frees rest) l.cells l.freely (Created (freed_order (length first) o) true) w (λ h. h))
            (silent (act_now P l.owned.body) (act_now (free_run P order first fuel) l.freely.body) true true o (freed_order (length first) o) a w))
        go false k =
            let a : act_now P l.owned.body ≡ Created o false = own_is ∙ ap (λ (x : Bool). Created o x) (al.final ∙ k) in
            let w : act_now (free_run P order first fuel) l.freely.body ≡ Created (freed_order (length first) o) false = sym free_goes.1 ∙ ap (λ (x : Bool). Created (freed_order (length first) o) x) k in
            goal o.when (ap (λ (x : Bool). o.when && not x) k ∙ and_yes o.when)
            (born (settled_frame P (after_creation o t.own)) (settled_frame (free_run P order first fuel) (after_creation (freed_order (length first) o) t.free)) (Held o.when) (held_has o.when) (creator_beside o.when o t.own t.free al k)
            (subst (λ (x : Context). IsKnown (length first) (given_at rest t.asked.task) (asks_for (given_by (created_by t.free o line)) t.asked.task.asked) (Held o.when).released (Held o.when).lent x) (sym (settle_same P (after_creation o t.own)).context) (creator_known o.when))
            (led P (start P order first fuel) first t.own (owns rest) l.cells l.owned (Created o false) a (λ h. h))
            (led (free_run P order first fuel) (start P order first fuel) first t.free (frees rest) l.cells l.freely (Created (freed_order (length first) o) false) w (λ h. h))
            (silent (act_now P l.owned.body) (act_now (free_run P order first fuel) l.freely.body) false false o (freed_order (length first) o) a w))
