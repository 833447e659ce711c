-- What stands in the way of an access by its lists does so by the opened tasks; and so does a child that is not done.
use Rattle.std.proofs.Common.{◌≡◌, ℕ, ◌<◌, ◌≤◌, refl, sym, subst, ap, ◌∙◌, Bool, true, false, List}
use Rattle.oss_syntax.specs.declared.access.Mode.{Mode}
use Rattle.oss_syntax.specs.declared.access.Mode.TheVariants.{Read, Write, Fold}
use Rattle.oss_model.specs.Forest.{IsDone}
use Rattle.oss_model.specs.Matching.{Matches, above}
use Rattle.oss_deps.specs.declared.opened.Open.{Open}
use Rattle.oss_deps.specs.Opens.{AreOrdered, Asks, IsEarlier, mode_at, mode_in, opened_forest}
use Rattle.oss_deps.specs.Wants.{is_read as reads, may_pass}
use Rattle.oss_deps.specs.Met.{IsBarred, IsBefore as StandsBefore, stands_above, stands_here}
use Rattle.oss_deps.specs.Hindrances.{HasUndoneChild, Hinders}
use Rattle.oss_deps.proofs.HindranceLemmas.{read_hinders, write_hinders}
use Rattle.oss_deps.proofs.OpenLemmas.{mode_is, precedes_in}
use Rattle.oss_access_lists.specs.declared.marks.Marks.{Marks}
use Rattle.oss_access_lists.specs.Wires.{Wires, wired}
use Rattle.oss_access_lists.specs.Flags.{AreAtRest, is_over}
use Rattle.oss_access_lists.proofs.CompleteLemmas.{listed_before, over_told}
use Rattle.oss_links.specs.Held.{AreHeld, IsAccessOrMain}
use Rattle.oss_links.specs.Search.{IsAbove, IsInTheWay, IsUndoneUpTo, itself, passes, upwards}
use Rattle.oss_links.proofs.HeldLemmas.{held_matches, list_of}
use Rattle.oss_links.proofs.ReadLemmas.{same_as}
use Rattle.oss_links.proofs.ChildLemmas.{is_child}
use Rattle.oss_links.proofs.SearchLemmas.{true_not_false}

-- what a read may not pass is no read
stops_read : (n : Mode) (x : Marks) → passes Read n x ≡ false → reads n ≡ false
stops_read Read x h = absurd cc
stops_read Write x h = refl
stops_read (Fold op) x h = refl

not_over : (m n : Mode) (x : Marks) → passes m n x ≡ false → is_over x ≡ true → ⊥
not_over Read Read x h k = cc
not_over Read Write x h k = true_not_false (is_over x) k h
not_over Read (Fold op) x h k = true_not_false (is_over x) k h
not_over Write n x h k = true_not_false (is_over x) k h
not_over (Fold op) n x h k = cc

module _ (opens : List Open) (given : ℕ → ℕ → Bool) (c : ℕ) (w : Wires) (entry : ℕ → ℕ → Type 0) (are : AreHeld opens given c w entry) where
  -- the list in which an access above hangs, and its task
  listed_level : (t v l : ℕ) → AreOrdered opens → entry t v → IsAbove w.place v l → (s : ℕ) × entry s l
  listed_level t v l ord r itself = (t, r)
  listed_level t v l ord r (upwards {p = p} {y = y} n b up) =
      let k = are.hung p y b in (held_matches opens given c w entry ord are).back k.0 y p k.1 (above (n, b))

module _ (opens : List Open) (given : ℕ → ℕ → Bool) (c : ℕ) (w : Wires) (entry : ℕ → ℕ → Type 0) (ord : AreOrdered opens) (are : AreHeld opens given c w entry) where
  abbrev pairs : Matches (opened_forest opens given c) (wired w) entry
  pairs = held_matches opens given c w entry ord are

  -- it is the access of a task
  pub way_is_task : (F : ℕ → Marks) (m : Mode) (t v u : ℕ) → entry t v → IsInTheWay w F m v u → (s : ℕ) × entry s u
  way_is_task F m t v u r is =
      let k = listed_level opens given c w entry are t v is.level ord r is.above in
      let l = list_of opens given c w entry ord are k.0 is.level k.1 in
      are.hung l.0 u (listed_before w.place l.0 u is.level l.1 is.before)

  down : (want : _) (s t v l : ℕ) → entry t v → IsAbove w.place v l → (q : ℕ) → entry q l → StandsBefore opens c want s q → StandsBefore opens c want s t
  down want s t v l r itself q k b = subst (λ y. StandsBefore opens c want s y) (are.one_task q t v k r) b
  down want s t v l r (upwards {p = p} {y = y} n below up) q k b =
      let x = are.hung p y below in
      down want s t v y r up x.0 x.1 (stands_above ((pairs.child q x.0 p y k x.1).1 (n, below)) b)

  module _ (F : ℕ → Marks) (rest : AreAtRest w F) where
    pub undone_of : (s u : ℕ) → entry s u → is_over (F u) ≡ false → IsDone (opened_forest opens given c) s → ⊥
    undone_of s u r h d =
        true_not_false (is_over (F u)) (over_told w are.wired F rest.due u (are.not_main s u r).1 ((same_as opens given c w entry ord are s u r).done.0 d)) h

    over_is : (b : Bool) → (b ≡ true → ⊥) → b ≡ false
    over_is true f = absurd (f refl)
    over_is false f = refl

    pub barred : (want : _) (m : Mode) (t s v u : ℕ) → ((n : Mode) → passes m n (F u) ≡ false → may_pass want n false ≡ false) → entry t v → entry s u → IsInTheWay w F m v u → IsBarred opens given c want s t
    barred want m t s v u stops r q is = record {
      opened = are.opened s u q;
      undone = undone_of s u q (over_is (is_over (F u)) (not_over m (w.mode u) (F u) is.stops));
      before = down want s t v is.level r is.above level.0 level.1 (stands_here earlier (stops (mode_at c earlier.before) (subst (λ (y : Mode). passes m y (F u) ≡ false) (mode_of earlier) is.stops)));
    }
      where
        level : (x : ℕ) × entry x is.level
        level = listed_level opens given c w entry are t v is.level ord r is.above

        earlier : IsEarlier opens c s level.0
        earlier = (pairs.earlier s level.0 u is.level q level.1).1 is.before

        mode_of : (e : IsEarlier opens c s level.0) → w.mode u ≡ mode_at c e.before
        mode_of e = sym (are.mode s u q) ∙ (ap (mode_in opens c) (sym e.number) ∙ mode_is c ord e.before (precedes_in e.order))

    pub way_hinders : (m : Mode) (t s v u : ℕ) → entry t v → entry s u → Asks opens t c m → IsInTheWay w F m v u → Hinders opens given t s
    way_hinders Read t s v u r q asks is = read_hinders opens given c t s asks (barred _ Read t s v u (λ n h. stops_read n (F u) h) r q is)
    way_hinders Write t s v u r q asks is = write_hinders opens given c t s asks (barred _ Write t s v u (λ n h. refl) r q is)
    way_hinders (Fold op) t s v u r q asks is = absurd (let h = is.stops in cc)

    pub child_search_ends : (t s p x lo hi : ℕ) → IsAccessOrMain entry t p → entry s x → IsUndoneUpTo w F p x → is_over (F x) ≡ false → lo ≤ c → c < hi → HasUndoneChild opens given t lo hi s
    child_search_ends t s p x lo hi is r at h from before =
        let o = are.opened s x r in
        record {
          cell = c;
          from = from;
          before = before;
          entry = o.entry;
          listed = o.listed;
          number = o.number;
          parent = is_child opens given c w entry ord are t p is s x r at.below o;
          named = o.named;
          undone = undone_of s x r h;
        }
