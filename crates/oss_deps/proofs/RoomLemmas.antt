-- Stretches that have got room stand for the same as before.
use Rattle.std.proofs.Common.{◌≡◌, ℕ, ◌<◌, ◌≤◌, refl, sym, ap, subst, ◌∙◌, List, [], ◌∷◌, ◌⊎◌, inl, inr, Option, Some, None, arith, length, set}
use Rattle.std.proofs.lemmas.List.{length-set}
use Rattle.std.proofs.lemmas.Option.{slice_get_within}
use Rattle.std.specs.Prelude.{◌&&◌, ◌||◌, ◌==◌, nat_le, nat_lt, slice_get}
use Rattle.oss_ranges.specs.declared.piece.Piece.{Piece}
use Rattle.oss_ranges.specs.Cells.{value_at}
use Rattle.oss_deps.specs.declared.frame.Frame.{Frame}
use Rattle.oss_deps.specs.declared.frame.Mark.{Mark}
use Rattle.oss_deps.specs.declared.column.Column.{Column}
use Rattle.oss_deps.specs.Kept.{given_by, given_in, given_at}
use Rattle.oss_deps.specs.Places.{AreMarked}
use Rattle.oss_deps.specs.Columns.{AreStretches, IsDivided, HasRoom, HaveRoom, IsFiner}
use Rattle.oss_deps.proofs.Basics.{some_none, same_at, options, compared, value_within}
use Rattle.oss_deps.proofs.CloseLemmas.{same_number, get_set_same, get_set_other}
use Rattle.oss_deps.proofs.GiveLemmas.{IsTurned, IsGivenTo, given_stretches, given_columns, given_divided, given_asked, one_stretch, end_divides, none_in}

-- A stretch has at most got room.
pub record IsRoomier (old new : Column) : Type 0 where
  pub lo : new.lo ≡ old.lo
  pub hi : new.hi ≡ old.hi
  pub asked : new.asked ≡ old.asked
  pub frames : new.frames.items ≡ old.frames.items
  pub marks : new.marks.items ≡ old.marks.items
  pub room : HasRoom old → HasRoom new

-- Each stretch has at most got room, and those that begin before a cell have.
pub record AreRoomier (old new : List Column) (lo cell : ℕ) : Type 0 where
  pub size : length new ≡ length old
  pub each : (i : ℕ) (a : Column) → slice_get old i ≡ Some a → (b : Column) × (slice_get new i ≡ Some b) × IsRoomier a b × (lo ≤ a.lo → a.lo < cell → HasRoom b)

given_to : (old new : List Column) (lo cell : ℕ) → AreRoomier old new lo cell → IsGivenTo 0 0 0 old new
given_to old new lo cell r = record { size = r.size; turned = λ i a e. let x = r.each i a e in (x.0, x.1, turned a x.0 x.2, λ t. ap (λ (ms : List Mark). given_by a.frames.items ms t) x.2.marks ∙ none_in (given_by a.frames.items a.marks.items t) 0 (0 == t) a) }
  where
    turned : (a b : Column) → IsRoomier a b → IsTurned a b
    turned a b k = record { lo = k.lo; hi = k.hi; asked = k.asked; frames = k.frames; marked = λ m. subst (λ (ms : List Mark). AreMarked a.frames.items ms None) (sym k.marks) m; room = k.room }

pub roomier_begins : (columns : List Column) (lo : ℕ) → AreRoomier columns columns lo lo
roomier_begins columns lo = record { size = refl; each = λ i a e. (a, e, record { lo = refl; hi = refl; asked = refl; frames = refl; marks = refl; room = λ r. r }, λ l h. absurd (omega (arith, l, h))) }

pub roomier_finer : (pieces : List (Piece ℕ)) (old new : List Column) (lo cell : ℕ) → AreRoomier old new lo cell → IsFiner pieces old pieces new
roomier_finer pieces old new lo cell r =
    let g = given_to old new lo cell r in
    record {
      stretches = λ s. given_stretches 0 0 0 pieces old new g s;
      columns_are = λ opens k. given_columns 0 0 0 opens pieces old new g k;
      given = λ s t c. given s t c;
      asked = λ k. given_asked 0 0 0 old new g k;
      divided = λ n k d. given_divided 0 0 0 old new g k d;
      room = λ n l h k i b e x y. let a = back i b e in a.2.room (k i a.0 a.1 (omega (arith, a.2.hi, x)) (omega (arith, a.2.lo, y)));
      some = λ n z. n (empty old (sym r.size ∙ ap length z));
    }
  where
    empty : (xs : List Column) → length xs ≡ 0 → xs ≡ []
    empty [] e = refl
    empty (x ∷ xs) e = absurd (omega (arith, e))

    back : (i : ℕ) (b : Column) → slice_get new i ≡ Some b → (a : Column) × (slice_get old i ≡ Some a) × IsRoomier a b
    back i b e =
        let a = value_within old i (omega (arith, slice_get_within new i b e, r.size)) in
        let x = r.each i a.0 a.1 in
        (a.0, a.1, subst (λ (z : Column). IsRoomier a.0 z) (same_at x.1 e) x.2)

    given : AreStretches pieces old → (t c : ℕ) → given_at pieces new t c ≡ given_at pieces old t c
    given s t c = go (options (value_at pieces c))
      where
        read : (xs : List Column) (o : Option ℕ) → value_at pieces c ≡ o → given_at pieces xs t c ≡ given_in (Rattle.std.specs.Prelude.option_and_then (slice_get xs) o) t
        read xs o e = ap (λ (x : Option ℕ). given_in (Rattle.std.specs.Prelude.option_and_then (slice_get xs) x) t) e

        go : (value_at pieces c ≡ None) ⊎ ((i : ℕ) × (value_at pieces c ≡ Some i)) → given_at pieces new t c ≡ given_at pieces old t c
        go (inl e) = read new None e ∙ sym (read old None e)
        go (inr (i, e)) =
            let a = s.here c i e in
            let x = r.each i a.0 a.1 in
            read new (Some i) e ∙ ap (λ (o : Option Column). given_in o t) x.1 ∙ ap (λ (fs : List Frame). given_by fs x.0.marks.items t) x.2.frames ∙ ap (λ (ms : List Mark). given_by a.0.frames.items ms t) x.2.marks
            ∙ sym (read old (Some i) e ∙ ap (λ (o : Option Column). given_in o t) a.1)

pub room_divided : (old new : List Column) (lo cell : ℕ) → AreRoomier old new lo cell → (k : ℕ) → IsDivided old k → IsDivided new k
room_divided old new lo cell r k d = given_divided 0 0 0 old new (given_to old new lo cell r) k d

pub room_stretches : (pieces : List (Piece ℕ)) (old new : List Column) (lo cell : ℕ) → AreRoomier old new lo cell → AreStretches pieces old → AreStretches pieces new
room_stretches pieces old new lo cell r s = given_stretches 0 0 0 pieces old new (given_to old new lo cell r) s

module _ (pieces : List (Piece ℕ)) (old now : List Column) (lo cell : ℕ) (s : AreStretches pieces old) (r : AreRoomier old now lo cell) (from : lo ≤ cell) (divided : IsDivided old cell) where
  now_stretches : AreStretches pieces now
  now_stretches = room_stretches pieces old now lo cell r s

  pub room_gap : (old ≡ [] → ⊥) → cell < 1048576 → value_at pieces cell ≡ None → ⊥
  room_gap some l e = go s.whole
    where
      go : (old ≡ []) ⊎ ((c : ℕ) → c < 1048576 → (i : ℕ) × (value_at pieces c ≡ Some i)) → ⊥
      go (inl z) = some z
      go (inr f) = let i = f cell l in some_none (sym i.1 ∙ e)

  module _ (at : ℕ) (here_is : value_at pieces cell ≡ Some at) where
    pub room_within : at < length now
    room_within = let a = now_stretches.here cell at here_is in slice_get_within now at a.0 a.1

    module _ (b : Column) (b_is : slice_get now at ≡ Some b) where
      pub room_in : (b.lo ≤ cell) × (cell < b.hi)
      room_in = let a = now_stretches.here cell at here_is in subst (λ (x : Column). (x.lo ≤ cell) × (cell < x.hi)) (same_at a.1 b_is) (a.2, a.3)

      room_begin : b.lo ≡ cell
      room_begin = go (room_divided old now lo cell r cell divided at b b_is)
        where
          go : (cell ≤ b.lo) ⊎ (b.hi ≤ cell) → b.lo ≡ cell
          go (inl h) = omega (arith, h, room_in.0)
          go (inr h) = absurd (omega (arith, h, room_in.1))

      -- another stretch that begins before this one ends begins before it
      other_before : (i : ℕ) (a : Column) → slice_get old i ≡ Some a → (i ≡ at → ⊥) → a.lo < b.hi → a.lo < cell
      other_before i a e other h = go (compared a.lo cell)
        where
          at_least : cell ≤ a.lo → ⊥
          at_least l =
              let x = r.each i a e in
              other (one_stretch pieces now now_stretches i at x.0 b a.lo x.1 b_is (omega (arith, x.2.lo)) (omega (arith, x.2.lo, (now_stretches.some i x.0 x.1).0)) (omega (arith, l, room_begin)) h)

          go : (a.lo < cell) ⊎ ((a.lo ≡ cell) ⊎ (cell < a.lo)) → a.lo < cell
          go (inl l) = l
          go (inr (inl l)) = absurd (at_least (omega (arith, l)))
          go (inr (inr l)) = absurd (at_least (omega (arith, l)))

      pub room_set : (d : Column) → d.lo ≡ b.lo → d.hi ≡ b.hi → d.asked ≡ b.asked → d.frames.items ≡ b.frames.items → d.marks.items ≡ b.marks.items → (HasRoom b → HasRoom d) → (to : ℕ) → ((i : ℕ) (a : Column) → slice_get old i ≡ Some a → (i ≡ at → ⊥) → a.lo < to → a.lo < cell)
          → ((a : Column) → a.lo < to → cell ≤ a.lo → HasRoom d) → AreRoomier old (set now at d) lo to
      room_set d dl dh da df dm dr to before ready = record { size = length-set now at d ∙ r.size; each = λ i a e. of i a e (same_number i at) }
        where
          of : (i : ℕ) (a : Column) → slice_get old i ≡ Some a → (i ≡ at) ⊎ (i ≡ at → ⊥) → (x : Column) × (slice_get (set now at d) i ≡ Some x) × IsRoomier a x × (lo ≤ a.lo → a.lo < to → HasRoom x)
          of i a e (inr other) = let x = r.each i a e in (x.0, get_set_other now at i d other ∙ x.1, x.2, λ l h. x.3 l (before i a e other h))
          of i a e (inl same) =
              let x = r.each i a e in
              let b_same : x.0 ≡ b = same_at x.1 (subst (λ (j : ℕ). slice_get now j ≡ Some b) (sym same) b_is) in
              let k = subst (λ (z : Column). IsRoomier a z) b_same x.2 in (
                d,
                subst (λ (j : ℕ). slice_get (set now at d) j ≡ Some d) (sym same) (get_set_same now at d (slice_get_within now at b b_is)),
                record { lo = dl ∙ k.lo; hi = dh ∙ k.hi; asked = da ∙ k.asked; frames = df ∙ k.frames; marks = dm ∙ k.marks; room = λ h. dr (k.room h) },
                λ l h. ready a h (omega (arith, k.lo, room_begin)),
              )

      pub room_goes : (d : Column) → d.lo ≡ b.lo → d.hi ≡ b.hi → d.asked ≡ b.asked → d.frames.items ≡ b.frames.items → d.marks.items ≡ b.marks.items → (HasRoom b → HasRoom d) → HasRoom d → AreRoomier old (set now at d) lo d.hi
      room_goes d dl dh da df dm dr ready = room_set d dl dh da df dm dr d.hi (λ i a e other h. other_before i a e other (omega (arith, h, dh))) (λ a h l. ready)

      -- no room was got
      pub room_stays : (d : Column) → d.lo ≡ b.lo → d.hi ≡ b.hi → d.asked ≡ b.asked → d.frames.items ≡ b.frames.items → d.marks.items ≡ b.marks.items → (HasRoom b → HasRoom d) → AreRoomier old (set now at d) lo cell
      room_stays d dl dh da df dm dr = room_set d dl dh da df dm dr cell (λ i a e other h. h) (λ a h l. absurd (omega (arith, h, l)))

      pub room_divides : IsDivided old b.hi
      room_divides = λ i a e. let x = r.each i a e in go i a x.0 x.2 (end_divides pieces now now_stretches at b b_is i x.0 x.1)
        where
          go : (i : ℕ) (a x : Column) → IsRoomier a x → (b.hi ≤ x.lo) ⊎ (x.hi ≤ b.hi) → (b.hi ≤ a.lo) ⊎ (a.hi ≤ b.hi)
          go i a x t (inl h) = inl (omega (arith, t.lo, h))
          go i a x t (inr h) = inr (omega (arith, t.hi, h))

pub room_ends : (old new : List Column) (lo hi cell : ℕ) → IsDivided old lo → AreRoomier old new lo cell → hi ≤ cell → HaveRoom new lo hi
room_ends old new lo hi cell begins r le i b e l h =
    let a = value_within old i (omega (arith, slice_get_within new i b e, r.size)) in
    let x = r.each i a.0 a.1 in
    let same = same_at x.1 e in
    subst HasRoom same (x.3 (go a.0 (begins i a.0 a.1) (omega (arith, x.2.hi, ap (λ (z : Column). z.hi) same, l))) (omega (arith, x.2.lo, ap (λ (z : Column). z.lo) same, h, le)))
  where
    go : (a : Column) → (lo ≤ a.lo) ⊎ (a.hi ≤ lo) → lo < a.hi → lo ≤ a.lo
    go a (inl x) y = x
    go a (inr x) y = absurd (omega (arith, x, y))
