-- What is sent: what waits afterwards, and that all that is due waits or stands.
use Rattle.std.proofs.Common.{◌≡◌, ℕ, ◌<◌, refl, sym, subst, ap, ◌∙◌, ◌⊎◌, inl, inr, Bool, true, false, List, length, eqb-true, eq-eqb}
use Rattle.std.specs.Prelude.{not, ◌||◌, ◌&&◌, ◌==◌, if◌then◌else◌}
use Rattle.std.proofs.lemmas.List.{get_or-set_same, get_or-set_other, length-set}
use Rattle.oss_access_lists.specs.declared.marks.Marks.{Marks}
use Rattle.oss_access_lists.specs.declared.hang.Hang.{Hang}
use Rattle.oss_access_lists.specs.Flags.{Flag, MayRead, MayJoin, MayWrite, Given, Done, Clear, has, to_next, to_child, is_whole}
use Rattle.oss_access_lists.specs.Tables.{no_marks, only_done, plus, minus, marks_at, hang_at, post_in, next_in, child_in, goes_up, up_in, AreWithin, AreLinked}
use Rattle.oss_access_lists.proofs.SoundLemmas.{bools, both}
use Rattle.oss_access_lists.proofs.StepLemmas.{same_or}

pub up_parts : (hangs : List Hang) (stand : List Marks) (at : ℕ) → goes_up hangs stand at ≡ true
    → ((hang_at hangs (hang_at hangs at).above).gave ≡ true) × ((hang_at hangs (hang_at hangs at).above).last ≡ at) × (is_whole (marks_at stand at) ≡ true)
up_parts hangs stand at up =
    let k = both ((hang_at hangs (hang_at hangs at).above).gave && ((hang_at hangs (hang_at hangs at).above).last == at)) (is_whole (marks_at stand at)) up in
    let j = both (hang_at hangs (hang_at hangs at).above).gave ((hang_at hangs (hang_at hangs at).above).last == at) k.0 in
    (j.0, eqb-true (hang_at hangs (hang_at hangs at).above).last at j.1, k.1)

-- main is told nothing
pub main_gets_none : (hangs : List Hang) (stand : List Marks) (at : ℕ) → (hang_at hangs 0).gave ≡ false → goes_up hangs stand at ≡ true → (hang_at hangs at).above ≡ 0 → ⊥
main_gets_none hangs stand at main up z =
    let k = up_parts hangs stand at up in
    let e = sym k.0 ∙ (ap (λ v. (hang_at hangs v).gave) z ∙ main) in
    absurd cc

pub has_plus : (f : Flag) (a b : Marks) → has f (plus a b) ≡ (has f a || has f b)
has_plus MayRead a b = refl
has_plus MayJoin a b = refl
has_plus MayWrite a b = refl
has_plus Given a b = refl
has_plus Done a b = refl
has_plus Clear a b = refl

pub has_minus : (f : Flag) (a b : Marks) → has f (minus a b) ≡ (has f a && not (has f b))
has_minus MayRead a b = refl
has_minus MayJoin a b = refl
has_minus MayWrite a b = refl
has_minus Given a b = refl
has_minus Done a b = refl
has_minus Clear a b = refl

pub has_none : (f : Flag) → has f no_marks ≡ false
has_none MayRead = refl
has_none MayJoin = refl
has_none MayWrite = refl
has_none Given = refl
has_none Done = refl
has_none Clear = refl

pub has_done : (f : Flag) → has f only_done ≡ true → f ≡ Done
has_done MayRead h = absurd cc
has_done MayJoin h = absurd cc
has_done MayWrite h = absurd cc
has_done Given h = absurd cc
has_done Done h = refl
has_done Clear h = absurd cc

-- a flag of what is posted: it was there, or it is new
added : (a b c : Bool) → (a || (b && not c)) ≡ true → (a ≡ true) ⊎ ((b ≡ true) × (c ≡ false))
added true b c h = inl refl
added false true false h = inr (refl, refl)
added false true true h = absurd cc
added false false c h = absurd cc

stays : (a b c : Bool) → a ≡ true → (a || (b && not c)) ≡ true
stays true b c h = refl
stays false b c h = absurd cc

arrives : (a b c : Bool) → b ≡ true → (c ≡ true) ⊎ ((a || (b && not c)) ≡ true)
arrives a b true h = inl refl
arrives true b false h = inr refl
arrives false true false h = inr refl
arrives false false false h = absurd cc

at_flag : (f : Flag) (a b c : Marks) → has f (plus a (minus b c)) ≡ (has f a || (has f b && not (has f c)))
at_flag f a b c = has_plus f a (minus b c) ∙ ap (λ z. has f a || z) (has_minus f b c)

-- What posting does, flag by flag.
pub record Posts (stand old new : List Marks) (at : ℕ) (flags : Marks) : Type 0 where
  pub kept : (f : Flag) (v : ℕ) → has f (marks_at old v) ≡ true → has f (marks_at new v) ≡ true
  pub news : (f : Flag) (v : ℕ) → has f (marks_at new v) ≡ true → (has f (marks_at old v) ≡ true) ⊎ ((v ≡ at) × (has f flags ≡ true) × (has f (marks_at stand v) ≡ false))
  pub told : (f : Flag) → has f flags ≡ true → (has f (marks_at stand at) ≡ true) ⊎ (has f (marks_at new at) ≡ true)
  pub as_long : length new ≡ length old

pub posts : (stand old : List Marks) (at : ℕ) (flags : Marks) → at < length old → Posts stand old (post_in stand old at flags) at flags
posts stand old at flags l = record {
  kept = λ f v h. kept_of f v h (same_or v at);
  news = λ f v h. news_of f v h (same_or v at);
  told = λ f h. told_of f h (arrives (has f (marks_at old at)) (has f flags) (has f (marks_at stand at)) h);
  as_long = length-set old at now;
}
  where
    now : Marks
    now = plus (marks_at old at) (minus flags (marks_at stand at))

    here_is : marks_at (post_in stand old at flags) at ≡ plus (marks_at old at) (minus flags (marks_at stand at))
    here_is = get_or-set_same old at (plus (marks_at old at) (minus flags (marks_at stand at))) no_marks l

    other : (v : ℕ) → (v ≡ at → ⊥) → marks_at (post_in stand old at flags) v ≡ marks_at old v
    other v n = get_or-set_other old at v (plus (marks_at old at) (minus flags (marks_at stand at))) no_marks n

    flag_is : (f : Flag) → has f (marks_at (post_in stand old at flags) at) ≡ (has f (marks_at old at) || (has f flags && not (has f (marks_at stand at))))
    flag_is f = ap (has f) here_is ∙ at_flag f (marks_at old at) flags (marks_at stand at)

    kept_of : (f : Flag) (v : ℕ) → has f (marks_at old v) ≡ true → (v ≡ at) ⊎ (v ≡ at → ⊥) → has f (marks_at (post_in stand old at flags) v) ≡ true
    kept_of f v h (inl e) =
        subst (λ y. has f (marks_at (post_in stand old at flags) y) ≡ true) (sym e) (flag_is f ∙ stays (has f (marks_at old at)) (has f flags) (has f (marks_at stand at)) (subst (λ y. has f (marks_at old y) ≡ true) e h))
    kept_of f v h (inr n) = ap (has f) (other v n) ∙ h

    news_of : (f : Flag) (v : ℕ) → has f (marks_at (post_in stand old at flags) v) ≡ true → (v ≡ at) ⊎ (v ≡ at → ⊥) → (has f (marks_at old v) ≡ true) ⊎ ((v ≡ at) × (has f flags ≡ true) × (has f (marks_at stand v) ≡ false))
    news_of f v h (inl e) =
        spread (added (has f (marks_at old at)) (has f flags) (has f (marks_at stand at)) (sym (flag_is f) ∙ subst (λ y. has f (marks_at (post_in stand old at flags) y) ≡ true) e h))
      where
        spread : (has f (marks_at old at) ≡ true) ⊎ ((has f flags ≡ true) × (has f (marks_at stand at) ≡ false)) → (has f (marks_at old v) ≡ true) ⊎ ((v ≡ at) × (has f flags ≡ true) × (has f (marks_at stand v) ≡ false))
        spread (inl k) = inl (ap (λ y. has f (marks_at old y)) e ∙ k)
        spread (inr k) = inr (e, k.0, ap (λ y. has f (marks_at stand y)) e ∙ k.1)
    news_of f v h (inr n) = inl (sym (ap (has f) (other v n)) ∙ h)

    told_of : (f : Flag) → has f flags ≡ true → (has f (marks_at stand at) ≡ true) ⊎ ((has f (marks_at old at) || (has f flags && not (has f (marks_at stand at)))) ≡ true) → (has f (marks_at stand at) ≡ true) ⊎ (has f (marks_at (post_in stand old at flags) at) ≡ true)
    told_of f h (inl k) = inl k
    told_of f h (inr k) = inr (flag_is f ∙ k)

-- What one of the three sends does.
pub record Sends (hangs : List Hang) (stand old new : List Marks) (Sent : Flag → ℕ → Type 0) : Type 0 where
  pub kept : (f : Flag) (v : ℕ) → has f (marks_at old v) ≡ true → has f (marks_at new v) ≡ true
  pub news : (f : Flag) (v : ℕ) → has f (marks_at new v) ≡ true → (has f (marks_at old v) ≡ true) ⊎ (Sent f v × (has f (marks_at stand v) ≡ false))
  pub told : (f : Flag) (v : ℕ) → Sent f v → (has f (marks_at stand v) ≡ true) ⊎ (has f (marks_at new v) ≡ true)
  pub as_long : length new ≡ length old

sends_by : (hangs : List Hang) (stand old : List Marks) (b : Bool) (at : ℕ) (flags : Marks) → at < length old
    → Sends hangs stand old (if b then old else post_in stand old at flags) (λ f v. (b ≡ false) × (v ≡ at) × (has f flags ≡ true))
sends_by hangs stand old true at flags l = record {
  kept = λ f v h. h;
  news = λ f v h. inl h;
  told = λ f v s. absurd (let k = s.0 in cc);
  as_long = refl;
}
sends_by hangs stand old false at flags l =
    let p = posts stand old at flags l in
    record {
      kept = p.kept;
      news = λ f v h. news_of f v (p.news f v h);
      told = λ f v s. subst (λ y. (has f (marks_at stand y) ≡ true) ⊎ (has f (marks_at (post_in stand old at flags) y) ≡ true)) (sym s.1) (p.told f s.2);
      as_long = p.as_long;
    }
  where
    news_of : (f : Flag) (v : ℕ) → (has f (marks_at old v) ≡ true) ⊎ ((v ≡ at) × (has f flags ≡ true) × (has f (marks_at stand v) ≡ false)) → (has f (marks_at old v) ≡ true) ⊎ (((false ≡ false) × (v ≡ at) × (has f flags ≡ true)) × (has f (marks_at stand v) ≡ false))
    news_of f v (inl k) = inl k
    news_of f v (inr k) = inr ((refl, k.0, k.1), k.2)

flipped : (hangs : List Hang) (stand old new : List Marks) (b : Bool) → (if b then new else old) ≡ (if not b then old else new)
flipped hangs stand old new true = refl
flipped hangs stand old new false = refl

not_false : (b : Bool) → not b ≡ false → b ≡ true
not_false true h = refl
not_false false h = absurd cc

not_true : (b : Bool) → b ≡ true → not b ≡ false
not_true true h = refl
not_true false h = absurd cc

pub zero_test : (n : ℕ) → (n == 0) ≡ false → n ≡ 0 → ⊥
zero_test n h e = let k = sym (eq-eqb n 0 e) ∙ h in cc

pub test_zero : (n : ℕ) → (n ≡ 0 → ⊥) → (n == 0) ≡ false
test_zero n h = go (bools (n == 0))
  where
    go : ((n == 0) ≡ true) ⊎ ((n == 0) ≡ false) → (n == 0) ≡ false
    go (inl k) = absurd (h (eqb-true n 0 k))
    go (inr k) = k

module _ (hangs : List Hang) (stand : List Marks) (at n : ℕ) (linked : AreLinked hangs) (within : AreWithin hangs n) where
  one : Hang
  one = hang_at hangs at

  abbrev pub ToNext : Flag → ℕ → Type 0
  ToNext f v = (((hang_at hangs at).next == 0) ≡ false) × (v ≡ (hang_at hangs at).next) × (has f (to_next (hang_at hangs at).mode (hang_at hangs (hang_at hangs at).next).mode (marks_at stand at)) ≡ true)

  abbrev pub ToChild : Flag → ℕ → Type 0
  ToChild f v = (((hang_at hangs at).child == 0) ≡ false) × (v ≡ (hang_at hangs at).child) × (has f (to_child (hang_at hangs at).mode (hang_at hangs (hang_at hangs at).child).mode (marks_at stand at)) ≡ true)

  abbrev pub ToAbove : Flag → ℕ → Type 0
  ToAbove f v = (goes_up hangs stand at ≡ true) × (v ≡ (hang_at hangs at).above) × (f ≡ Done)

  pub sends_next : (old : List Marks) → length old ≡ n → Sends hangs stand old (next_in hangs stand old at) ToNext
  sends_next old e =
      sends_by hangs stand old ((hang_at hangs at).next == 0) (hang_at hangs at).next (to_next (hang_at hangs at).mode (hang_at hangs (hang_at hangs at).next).mode (marks_at stand at)) (subst (λ y. (hang_at hangs at).next < y) (sym e) (within.next at))

  pub sends_child : (old : List Marks) → length old ≡ n → Sends hangs stand old (child_in hangs stand old at) ToChild
  sends_child old e =
      sends_by hangs stand old ((hang_at hangs at).child == 0) (hang_at hangs at).child (to_child (hang_at hangs at).mode (hang_at hangs (hang_at hangs at).child).mode (marks_at stand at)) (subst (λ y. (hang_at hangs at).child < y) (sym e) (within.child at))

  pub sends_up : (old : List Marks) → length old ≡ n → Sends hangs stand old (up_in hangs stand old at) ToAbove
  sends_up old e =
      let s = sends_by hangs stand old (not (goes_up hangs stand at)) (hang_at hangs at).above only_done (subst (λ y. (hang_at hangs at).above < y) (sym e) (within.above at)) in
      subst (λ y. Sends hangs stand old y ToAbove) (sym (flipped hangs stand old (post_in stand old (hang_at hangs at).above only_done) (goes_up hangs stand at)))
      (record {
        kept = s.kept;
        news = λ f v h. news_of f v (s.news f v h);
        told = λ f v k. s.told f v (not_true (goes_up hangs stand at) k.0, k.1, ap (λ g. has g only_done) k.2);
        as_long = s.as_long;
      })
    where
      news_of : (f : Flag) (v : ℕ) → (has f (marks_at old v) ≡ true) ⊎ (((not (goes_up hangs stand at) ≡ false) × (v ≡ (hang_at hangs at).above) × (has f only_done ≡ true)) × (has f (marks_at stand v) ≡ false))
          → (has f (marks_at old v) ≡ true) ⊎ (((goes_up hangs stand at ≡ true) × (v ≡ (hang_at hangs at).above) × (f ≡ Done)) × (has f (marks_at stand v) ≡ false))
      news_of f v (inl k) = inl k
      news_of f v (inr k) = inr ((not_false (goes_up hangs stand at) k.0.0, k.0.1, has_done f k.0.2), k.1)
