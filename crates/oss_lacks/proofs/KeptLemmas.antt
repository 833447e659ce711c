-- What is kept of the open tasks, step by step.
use Rattle.std.proofs.Common.{◌≡◌, ℕ, refl, sym, subst, ap, ◌∙◌, List, [], ◌∷◌, ◌++◌, length, arith, Option, Some, None, Bool, true, false, Result, Ok, Err, OnOk, IfOk}
use Rattle.std.specs.Prelude.{◌||◌, map, reverse, slice_set}
use Rattle.std.proofs.lemmas.List.{length-append, reverse-append}
use Rattle.oss_model.specs.Bodies.{Order}
use Rattle.oss_model.specs.Order.{written}
use Rattle.oss_machine.specs.Frames.{CodeScript}
use Rattle.oss_task_needs.specs.Asking.{Asked}
use Rattle.oss_task_needs.specs.Mends.{IsMending}
use Rattle.oss_task_needs.specs.declared.mending.Mending.{Mending}
use Rattle.oss_open_needs.specs.declared.open_needs.OpenNeeds.{OpenNeeds}
use Rattle.oss_open_needs.specs.Opening.{Open, opened as opened_with}
use Rattle.oss_open_needs.specs.Stacks.{AreTasks, Closes, Goes, IsClosedTo, Opens as NeedsOpen}
use Rattle.oss_lacks.specs.declared.creation.Creation.{Creation}
use Rattle.oss_lacks.specs.declared.following.Following.{Following}
use Rattle.oss_lacks.specs.declared.lacks.TaskLacks.{TaskLacks}
use Rattle.oss_lacks.specs.Asking.{Asking, asking, created_by, tell_creator}
use Rattle.oss_lacks.specs.Following.{AreCreations, AreTold, Asks, Follows, IsBack, IsClosed, IsCreation, IsFollowing, IsOneMore, IsReturned, Opens, open_in, told_in, told_of}
use Rattle.oss_lacks.specs.Lacks.{AreTaskLacks, IsTaskLacks}
use Rattle.oss_lacks.specs.Nests.{Nest, Numbered, closed, closed_to}
use Rattle.oss_lacks.specs.Walks.{at_stop}
use Rattle.oss_lacks.proofs.NestLemmas.{all_told, ends_opened, told_length, told_more, told_set}

pub on_ok : {A E P Q : Type 0} (r : Result A E) → (P → Q) → OnOk r P → OnOk r Q
on_ok (Ok v) f p = f p
on_ok (Err e) f p = p

pub if_ok : {A E : Type 0} {F G : A → Type 0} (r : Result A E) → ((x : A) → F x → G x) → IfOk r F → IfOk r G
if_ok (Ok v) f p = f v p
if_ok (Err e) f p = p

-- What it asks says nothing of how it was created.
created_still : (t : Asking) (k : Numbered Asking) (c : Creation) → IsCreation k c → k.task.path ≡ t.path → k.task.line ≡ t.line → k.task.clauses ≡ t.clauses → k.task.final ≡ t.final → IsCreation (record { number = k.number; task = t }) c
created_still t k c h path line clauses final = record {
  number = h.number;
  point = h.point ∙ ap written path;
  line = h.line ∙ line;
  clauses = h.clauses ∙ clauses;
  final = h.final ∙ final;
}

-- The task that acts asks something.
pub asked_more : (up : Asked → Asked) (old new : Following) → Goes up old.needs new.needs → new.current ≡ old.current → new.above ≡ old.above → new.tasks.items ≡ old.tasks.items → Asks up old new
asked_more up old new goes current above tasks n s = record {
  needs = goes (open_in n.acting) (map open_in n.above) s.needs;
  current = created_still (asking up n.acting.task) n.acting new.current (subst (λ (c : Creation). IsCreation n.acting c) (sym current) s.current) refl refl refl refl;
  older = subst (λ (cs : List Creation). AreCreations n.above cs) (ap reverse (sym above)) s.older;
  told = subst (λ (ks : List (Option TaskLacks)). AreTold n.ended ks) (sym tasks) s.told;
  ends = s.ends;
}

reversed : (rest : List Creation) (k : Creation) → reverse (rest ++ k ∷ []) ≡ k ∷ reverse rest
reversed rest k = reverse-append rest (k ∷ [])

point_below : (k : ℕ) (p : List ℕ) → written p ++ k ∷ [] ≡ written (k ∷ p)
point_below k p = ap (λ (xs : List ℕ). 0 ∷ xs) (sym (reverse-append (k ∷ []) p))

-- It creates one.
pub opened_more : (o : Order CodeScript) (line created : ℕ) (final : Bool) (old new : Following) (number : ℕ)
    → NeedsOpen (final || o.last) o.clauses old.needs new.needs
    → new.current ≡ record { number = number; point = old.current.point ++ created ∷ []; line = line; clauses = o.clauses; is_final = final || o.last }
    → new.above ≡ old.above ++ old.current ∷ [] → IsOneMore old.tasks.items new.tasks.items number → Opens o line created final old new
opened_more o line created final old new number needs current above more f n way made last s =
    let child : Asking = created_by f o line in
    let is : IsCreation (record { number = length n.ended; task = child }) (record { number = number; point = old.current.point ++ created ∷ []; line = line; clauses = o.clauses; is_final = final || o.last }) = record {
      number = more.number_is ∙ sym (told_length n.ended old.tasks.items s.told);
      point = ap (λ (p : List ℕ). p ++ created ∷ []) s.current.point ∙ point_below created n.acting.task.path ∙ ap (λ (k : ℕ). written (k ∷ n.acting.task.path)) made ∙ ap (λ (p : List ℕ). written (f.context.created ∷ p)) way;
      line = refl;
      clauses = refl;
      final = ap (λ (b : Bool). b || o.last) last;
    } in
    record {
      needs = subst (λ (b : Bool). AreTasks (opened_with (b || o.last) o.clauses) (open_in n.acting ∷ map open_in n.above) new.needs) last (needs (open_in n.acting) (map open_in n.above) s.needs);
      current = subst (λ (c : Creation). IsCreation (record { number = length n.ended; task = child }) c) (sym current) is;
      older = subst (λ (cs : List Creation). AreCreations (n.acting ∷ n.above) cs) (sym (ap reverse above ∙ reversed old.above old.current)) (s.current, s.older);
      told = subst (λ (ks : List (Option TaskLacks)). AreTold (n.ended ++ None ∷ []) ks) (sym more.more) (told_more n.ended old.tasks.items s.told);
      ends = ends_opened n.acting n.above n.ended s.ends;
    }

-- It ends.
task_told : (k : Numbered Asking) (c : Creation) (m : Mending) → IsCreation k c → IsMending (open_in k).given (open_in k).asked m → IsTaskLacks k.task (told_of c m)
task_told k c m is mends = record { point = is.point; line = is.line; clauses = is.clauses; final = is.final; mending = mends }

returned : (m : Mending) (old mid new : Following) (k : Numbered Asking) (above : List (Numbered Asking)) (ended : List (Option Asking)) → Follows k above ended old
    → mid.current ≡ old.current → mid.above ≡ old.above → mid.tasks.items ≡ old.tasks.items → IsReturned m mid new
    → IsClosedTo (open_in k) (map open_in above) mid.needs (Some m)
    → Follows (closed_to tell_creator k above ended).acting (closed_to tell_creator k above ended).above (closed_to tell_creator k above ended).ended new
returned m old mid new k [] ended s c a t back h = absurd h
returned m old mid new k (creator ∷ above) ended s c a t back h =
    let all : AreCreations (creator ∷ above) (back.creator ∷ reverse new.above) = subst (λ (cs : List Creation). AreCreations (creator ∷ above) cs) (ap reverse (sym a ∙ back.above) ∙ reversed new.above back.creator) s.older in
    let number : old.current.number ≡ k.number = s.current.number in
    let tasks : new.tasks.items ≡ slice_set old.tasks.items k.number (Some (told_of old.current m)) =
    back.tasks ∙ ap (λ (x : Creation). slice_set mid.tasks.items x.number (Some (told_of x m))) c ∙ ap (λ (ks : List (Option TaskLacks)). slice_set ks old.current.number (Some (told_of old.current m))) t
    ∙ ap (λ (i : ℕ). slice_set old.tasks.items i (Some (told_of old.current m))) number in
    record {
      needs = subst (λ (x : OpenNeeds). AreTasks (open_in (record { number = creator.number; task = tell_creator k.task creator.task })) (map open_in above) x) (sym back.needs) h.1;
      current = subst (λ (x : Creation). IsCreation (record { number = creator.number; task = tell_creator k.task creator.task }) x) (sym back.current)
          (record { number = all.0.number; point = all.0.point; line = all.0.line; clauses = all.0.clauses; final = all.0.final });
      older = all.1;
      told = subst (λ (ks : List (Option TaskLacks)). AreTold (slice_set ended k.number (Some k.task)) ks) (sym tasks) (told_set ended old.tasks.items k.number k.task (told_of old.current m) s.told (task_told k old.current m s.current h.0));
      ends = s.ends.1 k.task;
    }

-- That there is none above it is known of what is kept too.
none_above : (k : Numbered Asking) (above : List (Numbered Asking)) (ended : List (Option Asking)) (f : Following) → Follows k above ended f → f.above ≡ [] → above ≡ []
none_above k [] ended f s e = refl
none_above k (c ∷ above) ended f s e = absurd (subst (λ (cs : List Creation). AreCreations (c ∷ above) cs) (ap reverse e) s.older)

-- The creator acts, if there is one.
pub closed_some : (m : Mending) (old mid new : Following) (more : Bool) → mid.current ≡ old.current → mid.above ≡ old.above → mid.tasks.items ≡ old.tasks.items → Closes old.needs mid.needs (Some m) → IsBack m mid new more → IsClosed old new more
closed_some m old mid new true c a t closes back = record {
  ends = λ n s. returned m old mid new n.acting n.above n.ended s c a t back (closes (open_in n.acting) (map open_in n.above) s.needs);
  last = λ e. let x : true ≡ false = e in absurd cc;
  less = λ e. let l = ap (λ (cs : List Creation). length cs) (sym a ∙ back.above) in let k = length-append new.above (back.creator ∷ []) in omega (arith, l, k);
}
closed_some m old mid new false c a t closes back = record {
  ends = λ n s. absurd (none n s (n.above) (map open_in n.above) refl (closes (open_in n.acting) (map open_in n.above) s.needs) (none_above n.acting n.above n.ended old s (sym a ∙ back)));
  last = λ e n s. none_above n.acting n.above n.ended old s (sym a ∙ back);
  less = λ e. let x : false ≡ true = e in absurd cc;
}
  where
    none : (n : Nest Asking) → IsFollowing n old → (above : List (Numbered Asking)) (us : List Open) → map open_in above ≡ us → IsClosedTo (open_in n.acting) us mid.needs (Some m) → above ≡ [] → ⊥
    none n s [] [] u h e = h
    none n s [] (x ∷ us) u h e = let y : [] ≡ x ∷ us = u in absurd cc
    none n s (k ∷ ks) us u h e = let y : k ∷ ks ≡ [] = e in absurd cc

alone_still : (k : Numbered Asking) (above : List (Numbered Asking)) (ended : List (Option Asking)) (old new : Following) → Follows k above ended old
    → new.current ≡ old.current → new.above ≡ old.above → new.tasks.items ≡ old.tasks.items → IsClosedTo (open_in k) (map open_in above) new.needs None
    → Follows (closed_to tell_creator k above ended).acting (closed_to tell_creator k above ended).above (closed_to tell_creator k above ended).ended new × (above ≡ [])
alone_still k [] ended old new s c a t h = (
  record {
    needs = h;
    current = subst (λ (x : Creation). IsCreation k x) (sym c) s.current;
    older = subst (λ (cs : List Creation). AreCreations [] cs) (ap reverse (sym a)) s.older;
    told = subst (λ (ks : List (Option TaskLacks)). AreTold ended ks) (sym t) s.told;
    ends = s.ends;
  },
  refl,
)
alone_still k (creator ∷ above) ended old new s c a t h = absurd h

-- There is none: that was main.
pub closed_none : (old new : Following) → new.current ≡ old.current → new.above ≡ old.above → new.tasks.items ≡ old.tasks.items → Closes old.needs new.needs None → IsClosed old new false
closed_none old new c a t closes = record {
  ends = λ n s. (alone_still n.acting n.above n.ended old new s c a t (closes (open_in n.acting) (map open_in n.above) s.needs)).0;
  last = λ e n s. (alone_still n.acting n.above n.ended old new s c a t (closes (open_in n.acting) (map open_in n.above) s.needs)).1;
  less = λ e. let x : false ≡ true = e in absurd cc;
}

-- All that are open end

-- What is kept has come from what was kept to this by some ends.
pub record HasClosed (old now : Following) (n : Nest Asking) : Type 0 where
  pub nest : Nest Asking
  pub follows : IsFollowing nest now
  pub same : at_stop nest ≡ at_stop n

abbrev pub ClosesOn : Following → Following → Type 0
ClosesOn old now = (n : Nest Asking) → IsFollowing n old → HasClosed old now n

pub closes_none : (f : Following) → ClosesOn f f
closes_none f n s = record { nest = n; follows = s; same = refl }

stop_same : (k : Numbered Asking) (above : List (Numbered Asking)) (ended : List (Option Asking)) → at_stop (closed_to tell_creator k above ended) ≡ at_stop (record { acting = k; above = above; ended = ended })
stop_same k [] ended = refl
stop_same k (creator ∷ above) ended = refl

pub closes_more : (old mid new : Following) (more : Bool) → ClosesOn old mid → IsClosed mid new more → ClosesOn old new
closes_more old mid new more on step n s =
    let k = on n s in
    record { nest = closed tell_creator k.nest; follows = step.ends k.nest k.follows; same = stop_same k.nest.acting k.nest.above k.nest.ended ∙ k.same }

stop_alone : (k : Numbered Asking) (above : List (Numbered Asking)) (ended : List (Option Asking)) (f : Following) → Follows k above ended f → above ≡ [] → AreTaskLacks (at_stop (record { acting = k; above = above; ended = ended })).ended (told_in f.tasks.items)
stop_alone k [] ended f s e = all_told ended f.tasks.items s.ends s.told
stop_alone k (c ∷ above) ended f s e = let x : c ∷ above ≡ [] = e in absurd cc

pub closes_last : (old mid new : Following) → ClosesOn old mid → IsClosed mid new false → (n : Nest Asking) → IsFollowing n old → AreTaskLacks (at_stop n).ended (told_in new.tasks.items)
closes_last old mid new on step n s =
    let k = on n s in
    let none : k.nest.above ≡ [] = step.last refl k.nest k.follows in
    let now : IsFollowing (closed tell_creator k.nest) new = step.ends k.nest k.follows in
    subst (λ (m : Nest Asking). AreTaskLacks m.ended (told_in new.tasks.items)) (stop_same k.nest.acting k.nest.above k.nest.ended ∙ k.same)
    (stop_alone (closed tell_creator k.nest).acting (closed tell_creator k.nest).above (closed tell_creator k.nest).ended new now (still k.nest.acting k.nest.above k.nest.ended none))
  where
    still : (k : Numbered Asking) (above : List (Numbered Asking)) (ended : List (Option Asking)) → above ≡ [] → (closed_to tell_creator k above ended).above ≡ []
    still k [] ended e = refl
    still k (c ∷ above) ended e = let x : c ∷ above ≡ [] = e in absurd cc
