-- The cells of a range are given up, one stretch after the other.
use Rattle.std.proofs.Common.{◌≡◌, ℕ, ◌-◌, ◌<◌, ◌≤◌, suc, refl, sym, ap, subst, ◌∙◌, List, [], ◌∷◌, ◌⊎◌, inl, inr, Bool, true, false, Option, Some, None, arith, length, set}
use Rattle.std.proofs.lemmas.Bool.Decides.{nat_tests}
use Rattle.std.proofs.lemmas.List.{length-set}
use Rattle.std.proofs.lemmas.Option.{slice_get_within}
use Rattle.std.specs.Prelude.{◌&&◌, ◌||◌, ◌==◌, nat_le, nat_lt, slice_get, option_and_then}
use Rattle.oss_syntax.specs.declared.access.Access.{Access}
use Rattle.oss_ranges.specs.declared.piece.Piece.{Piece}
use Rattle.oss_ranges.specs.Cells.{value_at}
use Rattle.oss_deps.specs.declared.opened.Open.{Open}
use Rattle.oss_deps.specs.declared.frame.Frame.{Frame}
use Rattle.oss_deps.specs.declared.column.Column.{Column}
use Rattle.oss_deps.specs.Opens.{names, AreOpens, HasOpened, IsKnown}
use Rattle.oss_deps.specs.Kept.{given_by, given_in, given_at, is_asked}
use Rattle.oss_deps.specs.Places.{AreLinked, AreMarked}
use Rattle.oss_deps.specs.Columns.{IsNumber, IsNumberOf, IsShown, AreShown, IsColumn, AreStretches, AreColumns, IsDivided, HasRoom, AreReady}
use Rattle.oss_deps.proofs.Basics.{bools, both, both_of, clash, some_is, some_none, same_at, options, compared}
use Rattle.oss_deps.proofs.OpenLemmas.{in_get, get_in, one_entry}
use Rattle.oss_deps.proofs.CloseLemmas.{get_set_same, get_set_other, same_number}
use Rattle.oss_deps.proofs.AskLemmas.{named_within}

-- Two stretches that have one cell are one.
pub one_stretch : (pieces : List (Piece ℕ)) (columns : List Column) → AreStretches pieces columns → (i j : ℕ) (a b : Column) (c : ℕ) → slice_get columns i ≡ Some a → slice_get columns j ≡ Some b → a.lo ≤ c → c < a.hi → b.lo ≤ c → c < b.hi → i ≡ j
one_stretch pieces columns s i j a b c e f al ah bl bh = some_is (sym (s.there i a c e al ah) ∙ s.there j b c f bl bh)

-- A stretch ends where no other goes on.
pub end_divides : (pieces : List (Piece ℕ)) (columns : List Column) → AreStretches pieces columns → (i : ℕ) (a : Column) → slice_get columns i ≡ Some a → IsDivided columns a.hi
end_divides pieces columns s i a e j b f = go (compared b.lo a.hi) (compared a.hi b.hi)
  where
    go : (b.lo < a.hi) ⊎ ((b.lo ≡ a.hi) ⊎ (a.hi < b.lo)) → (a.hi < b.hi) ⊎ ((a.hi ≡ b.hi) ⊎ (b.hi < a.hi)) → (a.hi ≤ b.lo) ⊎ (b.hi ≤ a.hi)
    go (inr (inl h)) k = inl (omega (arith, h))
    go (inr (inr h)) k = inl (omega (arith, h))
    go (inl h) (inr (inl k)) = inr (omega (arith, k))
    go (inl h) (inr (inr k)) = inr (omega (arith, k))
    go (inl h) (inl k) =
        let some = (s.some i a e).0 in
        let same = one_stretch pieces columns s i j a b (a.hi - 1) e f (omega (arith, some)) (omega (arith, some)) (omega (arith, h)) (omega (arith, k)) in
        let eq = same_at (subst (λ (x : ℕ). slice_get columns x ≡ Some a) same e) f in
        absurd (omega (arith, k, ap (λ (x : Column). x.hi) eq))

-- A stretch after its marks have changed.
pub record IsTurned (old new : Column) : Type 0 where
  pub lo : new.lo ≡ old.lo
  pub hi : new.hi ≡ old.hi
  pub asked : new.asked ≡ old.asked
  pub frames : new.frames.items ≡ old.frames.items
  pub marked : AreMarked old.frames.items old.marks.items None → AreMarked old.frames.items new.marks.items None
  pub room : HasRoom old → HasRoom new

-- The stretch begins in a part of the cells.
abbrev pub begins_in : ℕ → ℕ → Column → Bool
begins_in lo cell a = nat_le lo a.lo && nat_lt a.lo cell

-- The stretches so far are given up.
pub record IsGivenTo (task lo cell : ℕ) (old new : List Column) : Type 0 where
  pub size : length new ≡ length old
  pub turned : (i : ℕ) (a : Column) → slice_get old i ≡ Some a → (b : Column) × (slice_get new i ≡ Some b) × IsTurned a b × ((t : ℕ) → given_by a.frames.items b.marks.items t ≡ (given_by a.frames.items a.marks.items t || ((task == t) && begins_in lo cell a)))

or_false : (x y : Bool) → x ≡ (x || (y && false))
or_false true y = refl
or_false false true = refl
or_false false false = refl

lt_false : (a b : ℕ) → b ≤ a → nat_lt a b ≡ false
lt_false a b h = go (bools (nat_lt a b))
  where
    go : (nat_lt a b ≡ true) ⊎ (nat_lt a b ≡ false) → nat_lt a b ≡ false
    go (inl e) = absurd (grind (arith, nat_tests, e, h))
    go (inr e) = e

le_false : (a b : ℕ) → b < a → nat_le a b ≡ false
le_false a b h = go (bools (nat_le a b))
  where
    go : (nat_le a b ≡ true) ⊎ (nat_le a b ≡ false) → nat_le a b ≡ false
    go (inl e) = absurd (grind (arith, nat_tests, e, h))
    go (inr e) = e

le_true : (a b : ℕ) → a ≤ b → nat_le a b ≡ true
le_true a b h = grind (arith, nat_tests)

lt_true : (a b : ℕ) → a < b → nat_lt a b ≡ true
lt_true a b h = grind (arith, nat_tests)

pub none_in : (x : Bool) (lo : ℕ) (y : Bool) (a : Column) → x ≡ (x || (y && begins_in lo lo a))
none_in x lo y a = go (compared a.lo lo)
  where
    outside : begins_in lo lo a ≡ false → x ≡ (x || (y && begins_in lo lo a))
    outside e = rw e (or_false x y)

    and_false : (p q : Bool) → (p ≡ false) ⊎ (q ≡ false) → (p && q) ≡ false
    and_false true q (inl e) = absurd cc
    and_false false q (inl e) = refl
    and_false true q (inr e) = e
    and_false false q (inr e) = refl

    go : (a.lo < lo) ⊎ ((a.lo ≡ lo) ⊎ (lo < a.lo)) → x ≡ (x || (y && begins_in lo lo a))
    go (inl h) = outside (and_false (nat_le lo a.lo) (nat_lt a.lo lo) (inl (le_false lo a.lo h)))
    go (inr (inl h)) = outside (and_false (nat_le lo a.lo) (nat_lt a.lo lo) (inr (lt_false a.lo lo (omega (arith, h)))))
    go (inr (inr h)) = outside (and_false (nat_le lo a.lo) (nat_lt a.lo lo) (inr (lt_false a.lo lo (omega (arith, h)))))

pub give_begins : (task lo : ℕ) (columns : List Column) → IsGivenTo task lo lo columns columns
give_begins task lo columns = record {
  size = refl;
  turned = λ i a e. (
    a,
    e,
    record { lo = refl; hi = refl; asked = refl; frames = refl; marked = λ m. m; room = λ r. r },
    λ t. none_in (given_by a.frames.items a.marks.items t) lo (task == t) a,
  );
}

-- the stretches stay stretches
pub given_stretches : (task lo cell : ℕ) (pieces : List (Piece ℕ)) (old new : List Column) → IsGivenTo task lo cell old new → AreStretches pieces old → AreStretches pieces new
given_stretches task lo cell pieces old new g s =
    record { here = λ c i e. here_of c i e; there = λ i b c e l h. let a = back i b e in s.there i a.0 c a.1 (omega (arith, a.2.lo, l)) (omega (arith, a.2.hi, h)); some = λ i b e. let a = back i b e in let k = s.some i a.0 a.1 in (omega (arith, a.2.lo, a.2.hi, k.0), omega (arith, a.2.hi, k.1)); whole = whole s.whole }
  where
    back : (i : ℕ) (b : Column) → slice_get new i ≡ Some b → (a : Column) × (slice_get old i ≡ Some a) × IsTurned a b
    back i b e =
        let a = value_of i (omega (arith, slice_get_within new i b e, g.size)) in
        let t = g.turned i a.0 a.1 in
        (a.0, a.1, subst (λ (x : Column). IsTurned a.0 x) (same_at t.1 e) t.2)
      where
        value_of : (i : ℕ) → i < length old → (a : Column) × (slice_get old i ≡ Some a)
        value_of i l = Rattle.oss_deps.proofs.Basics.value_within old i l

    here_of : (c i : ℕ) → value_at pieces c ≡ Some i → (b : Column) × (slice_get new i ≡ Some b) × (b.lo ≤ c) × (c < b.hi)
    here_of c i e = let a = s.here c i e in let t = g.turned i a.0 a.1 in (t.0, t.1, omega (arith, t.2.lo, a.2), omega (arith, t.2.hi, a.3))

    whole : (old ≡ []) ⊎ ((c : ℕ) → c < 1048576 → (i : ℕ) × (value_at pieces c ≡ Some i)) → (new ≡ []) ⊎ ((c : ℕ) → c < 1048576 → (i : ℕ) × (value_at pieces c ≡ Some i))
    whole (inl z) = inl (empty new (g.size ∙ ap length z))
      where
        empty : (xs : List Column) → length xs ≡ 0 → xs ≡ []
        empty [] e = refl
        empty (x ∷ xs) e = absurd (omega (arith, e))
    whole (inr f) = inr f

turned_back : (task lo cell : ℕ) (old new : List Column) → IsGivenTo task lo cell old new → (i : ℕ) (b : Column) → slice_get new i ≡ Some b → (a : Column) × (slice_get old i ≡ Some a) × IsTurned a b × ((t : ℕ) → given_by a.frames.items b.marks.items t ≡ (given_by a.frames.items a.marks.items t || ((task == t) && begins_in lo cell a)))
turned_back task lo cell old new g i b e =
    let a = Rattle.oss_deps.proofs.Basics.value_within old i (omega (arith, slice_get_within new i b e, g.size)) in
    let t = g.turned i a.0 a.1 in
    let same = same_at t.1 e in
    (a.0, a.1, subst (λ (x : Column). IsTurned a.0 x) same t.2, λ u. ap (λ (x : Column). given_by a.0.frames.items x.marks.items u) (sym same) ∙ t.3 u)

-- and stand for what was opened
pub given_columns : (task lo cell : ℕ) (opens : List Open) (pieces : List (Piece ℕ)) (old new : List Column) → IsGivenTo task lo cell old new → AreColumns opens pieces old → AreColumns opens pieces new
given_columns task lo cell opens pieces old new g k =
    record {
      stretches = given_stretches task lo cell pieces old new g k.stretches;
      right = λ i b c e l h.
          let a = turned_back task lo cell old new g i b e in
          let r = k.right i a.0 c a.1 (omega (arith, a.2.lo, l)) (omega (arith, a.2.hi, h)) in
          record {
            linked = subst AreLinked (sym a.2.frames) r.linked;
            marked = subst (λ (fs : List Frame). AreMarked fs b.marks.items None) (sym a.2.frames) (a.2.marked r.marked);
            shown = subst (λ (fs : List Frame). AreShown opens c fs) (sym a.2.frames) r.shown;
          };
      none = λ z. k.none (empty old (sym g.size ∙ ap length z));
    }
  where
    empty : (xs : List Column) → length xs ≡ 0 → xs ≡ []
    empty [] e = refl
    empty (x ∷ xs) e = absurd (omega (arith, e))

pub given_divided : (task lo cell : ℕ) (old new : List Column) → IsGivenTo task lo cell old new → (k : ℕ) → IsDivided old k → IsDivided new k
given_divided task lo cell old new g k d i b e = let a = turned_back task lo cell old new g i b e in go a.0 a.2 (d i a.0 a.1)
  where
    go : (a : Column) → IsTurned a b → (k ≤ a.lo) ⊎ (a.hi ≤ k) → (k ≤ b.lo) ⊎ (b.hi ≤ k)
    go a t (inl h) = inl (omega (arith, t.lo, h))
    go a t (inr h) = inr (omega (arith, t.hi, h))

pub given_ready : (task lo cell : ℕ) (old new : List Column) → IsGivenTo task lo cell old new → (reserved : Option (List Access)) → AreReady reserved old → AreReady reserved new
given_ready task lo cell old new g None r = tt
given_ready task lo cell old new g (Some accesses) r = (
  λ z. r.0 (empty old (sym g.size ∙ ap length z)),
  λ a i. let k = r.1 a i in record {
    begins = given_divided task lo cell old new g a.range.lo k.begins;
    ends = given_divided task lo cell old new g a.range.hi k.ends;
    room = λ j b e l h. let x = turned_back task lo cell old new g j b e in x.2.room (k.room j x.0 x.1 (omega (arith, x.2.hi, l)) (omega (arith, x.2.lo, h)));
  },
)
  where
    empty : (xs : List Column) → length xs ≡ 0 → xs ≡ []
    empty [] e = refl
    empty (x ∷ xs) e = absurd (omega (arith, e))

pub same_asked : (old new : List Column) (k : ℕ) → length new ≡ length old → ((i : ℕ) (a : Column) → slice_get old i ≡ Some a → (b : Column) × (slice_get new i ≡ Some b) × (b.lo ≡ a.lo) × (b.asked ≡ a.asked)) → is_asked new k ≡ is_asked old k
same_asked [] [] k size f = refl
same_asked [] (b ∷ new) k size f = absurd (omega (arith, size))
same_asked (a ∷ old) [] k size f = absurd (omega (arith, size))
same_asked (a ∷ old) (b ∷ new) k size f =
    let r = f 0 a refl in
    let e : r.0 ≡ b = some_is (sym r.1) in
    rw (ap (λ (x : Column). x.asked) (sym e) ∙ r.3, ap (λ (x : Column). x.lo) (sym e) ∙ r.2, same_asked old new k (omega (arith, size)) (λ i c h. f (suc i) c h)) refl

pub given_asked : (task lo cell : ℕ) (old new : List Column) → IsGivenTo task lo cell old new → (k : ℕ) → is_asked new k ≡ is_asked old k
given_asked task lo cell old new g k = same_asked old new k g.size (λ i a e. let t = g.turned i a e in (t.0, t.1, t.2.lo, t.2.asked))

-- one more stretch is given up
module _ (opens : List Open) (pieces : List (Piece ℕ)) (old now : List Column) (are : AreOpens opens) (k : AreColumns opens pieces old) (task n lo hi cell : ℕ) (number : IsNumberOf opens n task)
    (named : (c : ℕ) → lo ≤ c → c < hi → HasOpened opens c task) (g : IsGivenTo task lo cell old now) (from : lo ≤ cell) (before : cell < hi) (divided : IsDivided old cell) (ends : IsDivided old hi) where
  here_now : AreColumns opens pieces now
  here_now = given_columns task lo cell opens pieces old now g k

  pub give_gap : value_at pieces cell ≡ None → ⊥
  give_gap e = go here_now.stretches.whole
    where
      go : (now ≡ []) ⊎ ((c : ℕ) → c < 1048576 → (i : ℕ) × (value_at pieces c ≡ Some i)) → ⊥
      go (inl z) = let h = named cell from before in let i = in_get opens h.listed in let e : None ≡ Some h.entry = ap (λ (xs : List Open). slice_get xs i.0) (sym (here_now.none z)) ∙ i.1 in absurd cc
      go (inr f) = let h = named cell from before in let i = f cell (named_within h.entry cell h.named) in some_none (sym i.1 ∙ e)

  module _ (at : ℕ) (here : value_at pieces cell ≡ Some at) where
    pub give_within : at < length now
    give_within = let s = here_now.stretches.here cell at here in slice_get_within now at s.0 s.1

    module _ (b : Column) (b_is : slice_get now at ≡ Some b) where
      pub give_in_here : (b.lo ≤ cell) × (cell < b.hi)
      give_in_here = let s = here_now.stretches.here cell at here in subst (λ (x : Column). (x.lo ≤ cell) × (cell < x.hi)) (same_at s.1 b_is) (s.2, s.3)

      pub give_begin : b.lo ≡ cell
      give_begin = go (given_divided task lo cell old now g cell divided at b b_is)
        where
          go : (cell ≤ b.lo) ⊎ (b.hi ≤ cell) → b.lo ≡ cell
          go (inl h) = omega (arith, h, give_in_here.0)
          go (inr h) = absurd (omega (arith, h, give_in_here.1))

      pub give_end : b.hi ≤ hi
      give_end = go (given_divided task lo cell old now g hi ends at b b_is)
        where
          go : (hi ≤ b.lo) ⊎ (b.hi ≤ hi) → b.hi ≤ hi
          go (inl h) = absurd (omega (arith, h, give_begin, before))
          go (inr h) = h

      pub give_right : IsColumn opens cell b
      give_right = here_now.right at b cell b_is give_in_here.0 give_in_here.1

      entry : (o : Open) × IsNumber opens n o × (o.task ≡ task) × (names cell o ≡ true)
      entry = go number (named cell from before)
        where
          go : IsNumberOf opens n task → HasOpened opens cell task → (o : Open) × IsNumber opens n o × (o.task ≡ task) × (names cell o ≡ true)
          go (inl (z, e)) h = absurd (Rattle.oss_deps.proofs.OpenLemmas.not_main are.ordered h.entry h.listed (h.number ∙ e))
          go (inr (o, is, e)) h = (o, is, e, subst (λ (x : Open). names cell x ≡ true) (one_entry are.ordered h.entry o h.listed (get_in opens is.0 o is.2) (h.number ∙ sym e)) h.named)

      pub give_shown : IsShown b.frames.items n
      give_shown = give_right.shown.all entry.0 n entry.1 entry.3

      module _ (d : Column) (lo_same : d.lo ≡ b.lo) (hi_same : d.hi ≡ b.hi) (asked_same : d.asked ≡ b.asked) (frames_same : d.frames.items ≡ b.frames.items) (marked : AreMarked b.frames.items d.marks.items None) (room : HasRoom b → HasRoom d)
          (gives : (p t : ℕ) (f : Frame) → slice_get b.frames.items p ≡ Some f → f.number ≡ n → given_by b.frames.items d.marks.items t ≡ (given_by b.frames.items b.marks.items t || (f.task == t))) where
        frame_task : give_shown.frame.task ≡ task
        frame_task =
            let f = give_right.shown.frame give_shown.place give_shown.frame give_shown.is give_shown.not_main in
            let same = Rattle.oss_deps.proofs.StretchLemmas.one_number opens n f.entry entry.0 (subst (λ (j : ℕ). IsNumber opens j f.entry) give_shown.number f.is) entry.1 in
            sym f.task ∙ ap (λ (x : Open). x.task) same ∙ entry.2

        now_turned : IsTurned b d
        now_turned = record { lo = lo_same; hi = hi_same; asked = asked_same; frames = frames_same; marked = λ m. marked; room = room }

        chain : (a : Column) → IsTurned a b → IsTurned a d
        chain a t = record {
          lo = lo_same ∙ t.lo;
          hi = hi_same ∙ t.hi;
          asked = asked_same ∙ t.asked;
          frames = frames_same ∙ t.frames;
          marked = λ m. subst (λ (fs : List Frame). AreMarked fs d.marks.items None) t.frames marked;
          room = λ r. room (t.room r);
        }

        merged : (x s p q : Bool) → p ≡ false → q ≡ true → ((x || (s && p)) || s) ≡ (x || (s && q))
        merged x s p q e f = rw (e, f) (plain x s)
          where
            plain : (x s : Bool) → ((x || (s && false)) || s) ≡ (x || (s && true))
            plain true s = refl
            plain false true = refl
            plain false false = refl

        not_yet : (a : Column) → IsTurned a b → begins_in lo cell a ≡ false
        not_yet a t = rw (lt_false a.lo cell (omega (arith, t.lo, give_begin))) (last (nat_le lo a.lo))
          where
            last : (x : Bool) → (x && false) ≡ false
            last true = refl
            last false = refl

        now_in : (a : Column) → IsTurned a b → begins_in lo b.hi a ≡ true
        now_in a t = both_of (nat_le lo a.lo) (nat_lt a.lo b.hi) (le_true lo a.lo (omega (arith, t.lo, give_begin, from))) (lt_true a.lo b.hi (omega (arith, t.lo, give_begin, give_in_here.1)))

        -- no other stretch begins in this one
        other_same : (i : ℕ) (a : Column) → slice_get old i ≡ Some a → (i ≡ at → ⊥) → begins_in lo b.hi a ≡ begins_in lo cell a
        other_same i a e other = go (compared a.lo cell) (compared a.lo b.hi)
          where
            ap_lt : (x y : Bool) → x ≡ y → (nat_le lo a.lo && x) ≡ (nat_le lo a.lo && y)
            ap_lt x y h = ap (λ (z : Bool). nat_le lo a.lo && z) h

            go : (a.lo < cell) ⊎ ((a.lo ≡ cell) ⊎ (cell < a.lo)) → (a.lo < b.hi) ⊎ ((a.lo ≡ b.hi) ⊎ (b.hi < a.lo)) → begins_in lo b.hi a ≡ begins_in lo cell a
            go (inl h) k = ap_lt (nat_lt a.lo b.hi) (nat_lt a.lo cell) (lt_true a.lo b.hi (omega (arith, h, give_in_here.1)) ∙ sym (lt_true a.lo cell h))
            go (inr h) (inr k) = ap_lt (nat_lt a.lo b.hi) (nat_lt a.lo cell) (lt_false a.lo b.hi (least k) ∙ sym (lt_false a.lo cell (most h)))
              where
                least : (a.lo ≡ b.hi) ⊎ (b.hi < a.lo) → b.hi ≤ a.lo
                least (inl x) = omega (arith, x)
                least (inr x) = omega (arith, x)

                most : (a.lo ≡ cell) ⊎ (cell < a.lo) → cell ≤ a.lo
                most (inl x) = omega (arith, x)
                most (inr x) = omega (arith, x)
            go (inr h) (inl k) =
                let t = g.turned i a e in
                let some = (here_now.stretches.some i t.0 t.1).0 in
                absurd (other (one_stretch pieces now here_now.stretches i at t.0 b a.lo t.1 b_is (omega (arith, t.2.lo)) (omega (arith, t.2.lo, t.2.hi, some)) (least h) k))
              where
                least : (a.lo ≡ cell) ⊎ (cell < a.lo) → b.lo ≤ a.lo
                least (inl x) = omega (arith, x, give_begin)
                least (inr x) = omega (arith, x, give_begin)

        pub give_goes : IsGivenTo task lo b.hi old (set now at d)
        give_goes = record { size = length-set now at d ∙ g.size; turned = λ i a e. turned_of i a e (same_number i at) }
          where
            turned_of : (i : ℕ) (a : Column) → slice_get old i ≡ Some a → (i ≡ at) ⊎ (i ≡ at → ⊥) → (x : Column) × (slice_get (set now at d) i ≡ Some x) × IsTurned a x × ((t : ℕ) → given_by a.frames.items x.marks.items t ≡ (given_by a.frames.items a.marks.items t || ((task == t) && begins_in lo b.hi a)))
            turned_of i a e (inr other) =
                let r = g.turned i a e in
                (r.0, get_set_other now at i d other ∙ r.1, r.2, λ t. r.3 t ∙ ap (λ (z : Bool). given_by a.frames.items a.marks.items t || ((task == t) && z)) (sym (other_same i a e other)))
            turned_of i a e (inl same) =
                let r = g.turned i a e in
                let b_same : r.0 ≡ b = same_at r.1 (subst (λ (j : ℕ). slice_get now j ≡ Some b) (sym same) b_is) in
                let turned = subst (λ (x : Column). IsTurned a x) b_same r.2 in (
                  d,
                  subst (λ (j : ℕ). slice_get (set now at d) j ≡ Some d) (sym same) (get_set_same now at d (slice_get_within now at b b_is)),
                  chain a turned,
                  λ t. ap (λ (fs : List Frame). given_by fs d.marks.items t) (sym turned.frames) ∙ gives give_shown.place t give_shown.frame give_shown.is give_shown.number
                      ∙ ap (λ (z : ℕ). given_by b.frames.items b.marks.items t || (z == t)) frame_task
                      ∙ ap (λ (z : Bool). z || (task == t)) (ap (λ (fs : List Frame). given_by fs b.marks.items t) turned.frames ∙ ap (λ (x : Column). given_by a.frames.items x.marks.items t) (sym b_same) ∙ r.3 t)
                      ∙ merged (given_by a.frames.items a.marks.items t) (task == t) (begins_in lo cell a) (begins_in lo b.hi a) (not_yet a turned) (now_in a turned),
                )

        pub give_divides : IsDivided old b.hi
        give_divides = λ i a e. let t = g.turned i a e in go i a t.0 t.2 (end_divides pieces now here_now.stretches at b b_is i t.0 t.1)
          where
            go : (i : ℕ) (a x : Column) → IsTurned a x → (b.hi ≤ x.lo) ⊎ (x.hi ≤ b.hi) → (b.hi ≤ a.lo) ⊎ (a.hi ≤ b.hi)
            go i a x t (inl h) = inl (omega (arith, t.lo, h))
            go i a x t (inr h) = inr (omega (arith, t.hi, h))

-- all stretches of the range are given up
pub give_ends : (opens : List Open) (pieces : List (Piece ℕ)) (old new : List Column) → AreOpens opens → AreColumns opens pieces old → (task lo hi : ℕ) → ((c : ℕ) → lo ≤ c → c < hi → HasOpened opens c task) → IsDivided old lo → IsDivided old hi
    → IsGivenTo task lo hi old new → (t c : ℕ) → given_at pieces new t c ≡ (given_at pieces old t c || ((task == t) && (nat_le lo c && nat_lt c hi)))
give_ends opens pieces old new are k task lo hi named begins ends g t c = go (options (value_at pieces c))
  where
    outside : (nat_le lo c && nat_lt c hi) ≡ true → value_at pieces c ≡ None → ⊥
    outside h e =
        let w = both (nat_le lo c) (nat_lt c hi) h in
        let o = named c (grind (arith, nat_tests, w.0)) (grind (arith, nat_tests, w.1)) in
        whole o k.stretches.whole
      where
        whole : HasOpened opens c task → (old ≡ []) ⊎ ((x : ℕ) → x < 1048576 → (i : ℕ) × (value_at pieces x ≡ Some i)) → ⊥
        whole o (inl z) = let i = in_get opens o.listed in let e : None ≡ Some o.entry = ap (λ (xs : List Open). slice_get xs i.0) (sym (k.none z)) ∙ i.1 in absurd cc
        whole o (inr f) = let i = f c (named_within o.entry c o.named) in some_none (sym i.1 ∙ e)

    not_in : value_at pieces c ≡ None → (nat_le lo c && nat_lt c hi) ≡ false
    not_in e = go (bools (nat_le lo c && nat_lt c hi))
      where
        go : ((nat_le lo c && nat_lt c hi) ≡ true) ⊎ ((nat_le lo c && nat_lt c hi) ≡ false) → (nat_le lo c && nat_lt c hi) ≡ false
        go (inl h) = absurd (outside h e)
        go (inr h) = h

    read : (columns : List Column) (o : Option ℕ) → value_at pieces c ≡ o → given_at pieces columns t c ≡ given_in (option_and_then (slice_get columns) o) t
    read columns o e = ap (λ (x : Option ℕ). given_in (option_and_then (slice_get columns) x) t) e

    same_part : (a : Column) (i : ℕ) → slice_get old i ≡ Some a → a.lo ≤ c → c < a.hi → begins_in lo hi a ≡ (nat_le lo c && nat_lt c hi)
    same_part a i e l h = go (begins i a e) (ends i a e)
      where
        go : (lo ≤ a.lo) ⊎ (a.hi ≤ lo) → (hi ≤ a.lo) ⊎ (a.hi ≤ hi) → begins_in lo hi a ≡ (nat_le lo c && nat_lt c hi)
        go (inl x) (inl y) = rw (le_true lo a.lo x, lt_false a.lo hi y, le_true lo c (omega (arith, x, l)), lt_false c hi (omega (arith, y, l))) refl
        go (inl x) (inr y) = rw (le_true lo a.lo x, lt_true a.lo hi (omega (arith, y, l, h)), le_true lo c (omega (arith, x, l)), lt_true c hi (omega (arith, y, h))) refl
        go (inr x) y = rw (le_false lo a.lo (omega (arith, x, l, h)), le_false lo c (omega (arith, x, h))) refl

    go : (value_at pieces c ≡ None) ⊎ ((i : ℕ) × (value_at pieces c ≡ Some i)) → given_at pieces new t c ≡ (given_at pieces old t c || ((task == t) && (nat_le lo c && nat_lt c hi)))
    go (inl e) = read new None e ∙ or_false false (task == t) ∙ ap (λ (z : Bool). false || ((task == t) && z)) (sym (not_in e)) ∙ ap (λ (z : Bool). z || ((task == t) && (nat_le lo c && nat_lt c hi))) (sym (read old None e))
    go (inr (i, e)) =
        let a = k.stretches.here c i e in
        let r = g.turned i a.0 a.1 in
        read new (Some i) e ∙ ap (λ (o : Option Column). given_in o t) r.1 ∙ ap (λ (fs : List Frame). given_by fs r.0.marks.items t) r.2.frames ∙ r.3 t
        ∙ ap (λ (z : Bool). given_by a.0.frames.items a.0.marks.items t || ((task == t) && z)) (same_part a.0 i a.1 a.2 a.3)
        ∙ ap (λ (z : Bool). z || ((task == t) && (nat_le lo c && nat_lt c hi))) (sym (read old (Some i) e ∙ ap (λ (o : Option Column). given_in o t) a.1))

pub known_at : (opens : List Open) (t c : ℕ) → HasOpened opens c t → IsKnown opens t
known_at opens t c h = inr (record { entry = h.entry; listed = h.listed; number = h.number })
