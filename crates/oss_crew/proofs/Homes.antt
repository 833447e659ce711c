-- Seats that come back.
use Rattle.std.proofs.Common.{◌≡◌, List, [], ◌∷◌, ◌++◌, refl, sym, ap, ◌∙◌, subst, arith, Result, Ok, Err, ℕ, suc, zero, ◌<◌, length, map, length-append}
use Rattle.std.specs.Prelude.{IfOk, slice_index_or}
use Rattle.std.specs.declared.alloc.AllocError.{AllocError}
use Rattle.oss_crew.specs.Seats.{AreBack, AreHome}

-- one more worker comes home
home_at_end : {S : Type 0} (done : List (Result S AllocError)) (back : List S) (seat : S) → AreHome done back → AreHome (done ++ (Ok seat ∷ [])) (back ++ (seat ∷ []))
home_at_end [] [] seat h = (refl, tt)
home_at_end [] (came ∷ back) seat h = absurd h
home_at_end (Ok first ∷ done) [] seat h = absurd h
home_at_end (Ok first ∷ done) (came ∷ back) seat h = (h.0, home_at_end done back seat h.1)
home_at_end (Err error ∷ done) back seat h = absurd h

-- the same of a list that has grown by its seat
pub home_more : {S : Type 0} (done : List (Result S AllocError)) (back new : List S) (part : Result S AllocError) (seat : S) → part ≡ Ok seat → new ≡ back ++ (seat ∷ []) → AreHome done back → AreHome (done ++ (part ∷ [])) new
home_more done back new part seat e k h = subst (λ (p : Result _ AllocError). AreHome (done ++ (p ∷ [])) new) (sym e) (subst (λ (all : List _). AreHome (done ++ (Ok seat ∷ [])) all) (sym k) (home_at_end done back seat h))

-- what each worker has brought home, place by place
pub all_back : {J S : Type 0} (seat : J → S) (rests : S → Type 0) (mark : S → ℕ) (workers : List J) (done : List (Result S AllocError)) (back : List S) → length done ≡ length workers
    → ((i : ℕ) (d : Result S AllocError) (e : J) → i < length workers → IfOk (slice_index_or done i d) (λ s. rests s × (mark s ≡ mark (seat (slice_index_or workers i e)))))
    → AreHome done back → AreBack rests mark (map seat workers) back
all_back seat rests mark [] [] [] l h k = tt
all_back seat rests mark [] [] (came ∷ back) l h k = absurd k
all_back seat rests mark [] (first ∷ done) back l h k = absurd (omega (arith, l))
all_back seat rests mark (worker ∷ workers) [] back l h k = absurd (omega (arith, l))
all_back seat rests mark (worker ∷ workers) (Err error ∷ done) back l h k = absurd k
all_back seat rests mark (worker ∷ workers) (Ok first ∷ done) [] l h k = absurd k
all_back seat rests mark (worker ∷ workers) (Ok first ∷ done) (came ∷ back) l h k =
    let own = h 0 (Ok first) worker (omega arith) in
    (subst rests k.0 own.0, ap mark (sym k.0) ∙ own.1, all_back seat rests mark workers done back (omega (arith, l)) (λ i d e q. h (suc i) d e (omega (arith, q))) k.1)

-- what follows of an answer
pub if_ok : {A E : Type 0} {F G : A → Type 0} (r : Result A E) → ((x : A) → F x → G x) → IfOk r F → IfOk r G
if_ok (Ok x) h p = h x p
if_ok (Err e) h p = tt

abbrev head_or : {S : Type 0} → S → List S → S
head_or other [] = other
head_or other (first ∷ more) = first

abbrev after_head : {S : Type 0} → List S → List S
after_head [] = []
after_head (first ∷ more) = more

-- what is so of each seat is so of the seat of each worker
pub all_seated : {J S : Type 0} (seat : J → S) (P : S → Type 0) (workers : List J) (seats : List S) → map seat workers ≡ seats → ((k : ℕ) (d : S) → k < length seats → P (slice_index_or seats k d)) → (k : ℕ) (d : J) → k < length workers → P (seat (slice_index_or workers k d))
all_seated seat P [] seats e h k d l = absurd (omega (arith, l))
all_seated seat P (worker ∷ workers) [] e h k d l = absurd (let q = ap length e in omega (arith, q))
all_seated seat P (worker ∷ workers) (own ∷ seats) e h zero d l = subst P (sym (ap (head_or own) e)) (h 0 own (omega arith))
all_seated seat P (worker ∷ workers) (own ∷ seats) e h (suc k) d l = all_seated seat P workers seats (ap after_head e) (λ i x q. h (suc i) x (omega (arith, q))) k d (omega (arith, l))

-- there are as many workers as seats
pub length_seats : {J S : Type 0} (seat : J → S) (workers : List J) (seats : List S) → map seat workers ≡ seats → length workers ≡ length seats
length_seats seat [] [] e = refl
length_seats seat [] (own ∷ seats) e = absurd (let q = ap length e in omega (arith, q))
length_seats seat (worker ∷ workers) [] e = absurd (let q = ap length e in omega (arith, q))
length_seats seat (worker ∷ workers) (own ∷ seats) e = ap suc (length_seats seat workers seats (ap after_head e))

-- numbers below a bound, and one more
below_at_end : {J : Type 0} (number : J → ℕ) (bound : ℕ) (workers : List J) (last : J) → number last < bound → ((k : ℕ) (d : J) → k < length workers → number (slice_index_or workers k d) < bound)
    → (k : ℕ) (d : J) → k < length (workers ++ (last ∷ [])) → number (slice_index_or (workers ++ (last ∷ [])) k d) < bound
below_at_end number bound [] last own all zero d l = own
below_at_end number bound [] last own all (suc k) d l = absurd (omega (arith, l))
below_at_end number bound (worker ∷ workers) last own all zero d l = all 0 d (omega arith)
below_at_end number bound (worker ∷ workers) last own all (suc k) d l = below_at_end number bound workers last own (λ i x q. all (suc i) x (omega (arith, q))) k d (omega (arith, l))

-- one more worker, whose number is how many there were: each number is below how many there are
pub numbered_more : {J : Type 0} (number : J → ℕ) (workers new : List J) (last : J) → new ≡ workers ++ (last ∷ []) → number last ≡ length workers → ((k : ℕ) (d : J) → k < length workers → number (slice_index_or workers k d) < length workers)
    → (k : ℕ) (d : J) → k < length new → number (slice_index_or new k d) < length new
numbered_more number workers new last e own all =
    subst (λ (grown : List _). (k : ℕ) (d : _) → k < length grown → number (slice_index_or grown k d) < length grown) (sym e)
    (below_at_end number (length (workers ++ (last ∷ []))) workers last (omega (arith, own, length-append workers (last ∷ []))) (λ k d l. omega (arith, all k d l, length-append workers (last ∷ []))))
