-- Groups to which one more is added, and how many workers are left.
use Rattle.std.proofs.Common.{◌≡◌, ℕ, ◌+◌, ◌*◌, ◌<◌, ◌≤◌, zero, suc, List, [], ◌∷◌, ◌++◌, refl, sym, ap, ◌∙◌, subst, append_assoc, arith, Result, Ok, Err, length, length-append, length-take, length-drop, take, drop}
use Rattle.std.specs.Prelude.{Vec, IfOk}
use Rattle.std.proofs.Math.Nat.{lt_of_not-le, mul-le-mul_right}
use Rattle.std.proofs.lemmas.List.{append-nil, take-append-drop}
use Rattle.std.specs.Int.{div_ceil}
use Rattle.std.specs.List.{AllByRecursion}
use Rattle.std.proofs.lemmas.Grind.{div_ceil_times}
use Rattle.std.specs.declared.alloc.AllocError.{AllocError}
use Rattle.std.specs.declared.alloc.Global.{Global}
use Rattle.oss_thread_groups.specs.declared.group.Group.{Group}
use Rattle.oss_thread_groups.specs.Groups.{AreGiven, AreNumbered, IsJoined, jobs_of}
use Rattle.oss_thread_groups.proofs.ListLemmas.{all_more, given_both}

-- the jobs of one more group
pub jobs_more : {J : Type 0} (groups : List (Group J)) (group : Group J) → jobs_of (groups ++ (group ∷ [])) ≡ jobs_of groups ++ group.jobs.items
jobs_more [] group = append-nil group.jobs.items
jobs_more (first ∷ groups) group = ap (λ xs. first.jobs.items ++ xs) (jobs_more groups group) ∙ sym (append_assoc first.jobs.items (jobs_of groups) group.jobs.items)

-- one more group, with the next worker
pub numbered_more : {J : Type 0} (first : ℕ) (groups : List (Group J)) (group : Group J) → AreNumbered first groups → group.worker ≡ first + length groups → AreNumbered first (groups ++ (group ∷ []))
numbered_more first [] group h e = (omega (arith, e), tt)
numbered_more first (own ∷ groups) group h e = (h.0, numbered_more (first + 1) groups group h.1 (omega (arith, e)))

-- what was made of the jobs of all groups is what was made of all jobs
pub given_in_groups : {J X : Type 0} (R : J → X → Type 0) (groups : List (Group J)) (parts : List (Result (Vec X Global) AllocError)) (all : List X) → AreGiven (λ group part. IfOk part (λ done. AreGiven R group.jobs.items done.items)) groups parts → IsJoined parts all → AreGiven R (jobs_of groups) all
given_in_groups R [] [] all h k = subst (λ xs. AreGiven R [] xs) (sym k) tt
given_in_groups R [] (part ∷ parts) all h k = absurd h
given_in_groups R (group ∷ groups) [] all h k = absurd h
given_in_groups R (group ∷ groups) (Err error ∷ parts) all h k = absurd k
given_in_groups R (group ∷ groups) (Ok done ∷ parts) all h k = subst (λ xs. AreGiven R (group.jobs.items ++ jobs_of groups) xs) (sym k.1) (given_both R group.jobs.items (jobs_of groups) done.items k.0 h.0 (given_in_groups R groups parts k.0 h.1 k.2))

-- where more jobs are left than go into one group, some go into each
pub some_each : (worker workers size rest : ℕ) → worker * size + rest ≤ workers * size → size < rest → 0 < size
some_each worker workers zero rest h k = omega (arith, h, k)
some_each worker workers (suc n) rest h k = omega arith

-- and there is a worker left
pub worker_left : (worker workers size rest : ℕ) → worker * size + rest ≤ workers * size → size < rest → worker + 1 < workers
worker_left worker workers size rest h k = lt_of_not-le (λ few. omega (arith, h, k, mul-le-mul_right size few))

-- as far as the jobs are cut into groups of this size: the groups so far, the next worker, and the jobs that are left, for which the workers that are left have room
pub record IsCut {J : Type 0} (jobs : List J) (workers size : ℕ) (groups : List (Group J)) (worker : ℕ) (rest : List J) : Type 0 where
  pub neighbours : jobs_of groups ++ rest ≡ jobs
  pub numbered : AreNumbered 0 groups
  pub counted : length groups ≡ worker
  pub room : worker < workers
  pub below : AllByRecursion (λ group. group.worker < workers) groups
  pub even : AllByRecursion (λ group. length group.jobs.items ≤ size) groups
  pub left : worker * size + length rest ≤ workers * size

-- no group yet, where a group has as many jobs as there are for each worker, rounded up
pub cut_begins : {J : Type 0} (jobs : List J) (workers size : ℕ) (groups : List (Group J)) → 0 < workers → size ≡ div_ceil (length jobs) workers → groups ≡ [] → IsCut jobs workers size groups 0 jobs
cut_begins jobs workers size groups some is none = subst (λ (begun : List _). IsCut jobs workers size begun 0 jobs) (sym none) (record {
  neighbours = refl;
  numbered = tt;
  counted = refl;
  room = some;
  below = tt;
  even = tt;
  left = omega (arith, (div_ceil_times (length jobs) workers some).0, ap (λ n. workers * n) is);
})

-- the same with one more group, behind which there are more jobs
pub cut_more : {J : Type 0} (jobs : List J) (workers size : ℕ) (groups : List (Group J)) (worker : ℕ) (rest behind : List J) (group : Group J)
    → IsCut jobs workers size groups worker rest → size < length rest → group.worker ≡ worker → group.jobs.items ≡ take size rest → behind ≡ drop size rest
    → IsCut jobs workers size (groups ++ (group ∷ [])) (worker + 1) behind
cut_more jobs workers size groups worker rest behind group cut more own front tail = record {
  neighbours = ap (λ xs. xs ++ behind) (jobs_more groups group) ∙ append_assoc (jobs_of groups) group.jobs.items behind
      ∙ ap (λ xs. jobs_of groups ++ (xs ++ behind)) front ∙ ap (λ xs. jobs_of groups ++ (take size rest ++ xs)) tail
      ∙ ap (λ xs. jobs_of groups ++ xs) (take-append-drop size rest) ∙ cut.neighbours;
  numbered = numbered_more 0 groups group cut.numbered (omega (arith, own, cut.counted));
  counted = length-append groups (group ∷ []) ∙ omega (arith, cut.counted);
  room = worker_left worker workers size (length rest) cut.left more;
  below = all_more (λ one. one.worker < workers) groups group cut.below (omega (arith, own, cut.room));
  even = all_more (λ one. length one.jobs.items ≤ size) groups group cut.even (omega (arith, ap length front, length-take size rest));
  left = omega (arith, cut.left, more, ap length tail, length-drop size rest);
}

-- all jobs are cut, where the last group has those that were left
pub record AreCut {J : Type 0} (jobs : List J) (workers size : ℕ) (groups : List (Group J)) : Type 0 where
  pub neighbours : jobs_of groups ≡ jobs
  pub few : length groups ≤ workers
  pub numbered : AreNumbered 0 groups
  pub below : AllByRecursion (λ group. group.worker < workers) groups
  pub even : AllByRecursion (λ group. length group.jobs.items ≤ size) groups

pub cut_ends : {J : Type 0} (jobs : List J) (workers size most : ℕ) (groups : List (Group J)) (worker : ℕ) (rest : List J) (all : List (Group J)) (group : Group J)
    → IsCut jobs workers size groups worker rest → length rest ≤ size → size ≡ most → group.worker ≡ worker → group.jobs.items ≡ rest → all ≡ groups ++ (group ∷ []) → AreCut jobs workers most all
cut_ends jobs workers size most groups worker rest all group cut few equal own last is = subst (λ (ended : List _). AreCut jobs workers most ended) (sym is) (record {
  neighbours = jobs_more groups group ∙ ap (λ xs. jobs_of groups ++ xs) last ∙ cut.neighbours;
  few = omega (arith, length-append groups (group ∷ []), cut.counted, cut.room);
  numbered = numbered_more 0 groups group cut.numbered (omega (arith, own, cut.counted));
  below = all_more (λ one. one.worker < workers) groups group cut.below (omega (arith, own, cut.room));
  even = all_more (λ one. length one.jobs.items ≤ most) groups group (subst (λ n. AllByRecursion (λ one. length one.jobs.items ≤ n) groups) equal cut.even) (omega (arith, ap length last, few, equal));
})
