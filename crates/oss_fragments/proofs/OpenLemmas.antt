-- A task is opened in the fragments of one access after the other.
use Rattle.std.proofs.Common.{◌≡◌, ℕ, ◌+◌, ◌<◌, ◌≤◌, zero, suc, refl, sym, ap, subst, ◌∙◌, List, [], ◌∷◌, ◌++◌, ◌⊎◌, inl, inr, true, false, Option, Some, None, arith, length, get_or, take, drop}
use Rattle.std.proofs.lemmas.List.{take_more, take_all, drop_more}
use Rattle.std.specs.Prelude.{MatchOption, IfSome, slice_get, if◌then◌else◌}
use Rattle.oss_syntax.specs.declared.access.Access.{Access}
use Rattle.oss_model.specs.Order.{IsIn, here, there}
use Rattle.oss_model.specs.Rights.{in_access}
use Rattle.oss_ranges.specs.declared.piece.Piece.{Piece}
use Rattle.oss_deps.specs.Opens.{access_at, IsRising}
use Rattle.oss_deps.proofs.Basics.{bools, some_none, options}
use Rattle.oss_deps.proofs.OpenLemmas.{in_bounds, bounds_in}
use Rattle.oss_deps.proofs.NewLemmas.{rising_once}
use Rattle.oss_deps.proofs.AskLemmas.{item_in}
use Rattle.oss_fragments.specs.declared.fragment.Fragment.{Fragment}
use Rattle.oss_fragments.specs.Here.{Here, here_of, IsOpened, MayHang}
use Rattle.oss_fragments.specs.Kept.{here_by, is_asked}
use Rattle.oss_fragments.specs.Stretches.{AreFragments, AreReady, HasRoom, HaveRoom, IsDivided, IsFragment, IsReady}
use Rattle.oss_fragments.specs.Changes.{AreWalked, HasSameEdges, IsOpenedIn, IsWalked}
use Rattle.oss_fragments.proofs.StretchLemmas.{before_or}
use Rattle.oss_fragments.proofs.WalkLemmas.{walk_back, walk_divided, walk_asked, walk_some, walk_are, walk_in, walk_out}

-- the accesses behind one begin where it ends, or further on
all_behind : (a : Access) (rest : List Access) → IsRising (a ∷ rest) → (b : Access) → IsIn b rest → a.range.hi ≤ b.range.lo
all_behind a [] r b i = elim i [ ]
all_behind a (c ∷ rest) r b here = r.0
all_behind a (c ∷ rest) r b (there i) = omega (arith, r.0, c.range.ordered, all_behind c rest r.1 b i)

rest_rising : (a : Access) (rest : List Access) → IsRising (a ∷ rest) → IsRising rest
rest_rising a [] r = tt
rest_rising a (b ∷ rest) r = r.1

drop_rising : (xs : List Access) (j : ℕ) → IsRising xs → IsRising (drop j xs)
drop_rising [] zero r = tt
drop_rising [] (suc j) r = tt
drop_rising (a ∷ xs) zero r = r
drop_rising (a ∷ xs) (suc j) r = drop_rising xs j (rest_rising a xs r)

-- the accesses before one in the list end where it begins, or before
taken_before : (xs : List Access) → IsRising xs → (j : ℕ) (d : Access) → j < length xs → (c : ℕ) (y : Access) → access_at (take j xs) c ≡ Some y → c < (get_or xs j d).range.lo
taken_before [] r j d h c y e = absurd (omega (arith, h))
taken_before (a ∷ xs) r zero d h c y e = absurd cc
taken_before (a ∷ xs) r (suc j) d h c y e = go (bools (in_access a c)) (taken_before xs (rest_rising a xs r) j d (omega (arith, h)) c y)
  where
    go : (in_access a c ≡ true) ⊎ (in_access a c ≡ false) → (access_at (take j xs) c ≡ Some y → c < (get_or xs j d).range.lo) → c < (get_or xs j d).range.lo
    go (inl t) again = omega (arith, (in_bounds a c t).1, all_behind a xs r (get_or xs j d) (in_list xs j (omega (arith, h))))
      where
        in_list : (ys : List Access) (k : ℕ) → k < length ys → IsIn (get_or ys k d) ys
        in_list [] k l = absurd (omega (arith, l))
        in_list (y ∷ ys) zero l = here
        in_list (y ∷ ys) (suc k) l = there (in_list ys k (omega (arith, l)))
    go (inr t) again = again (let g : access_at (a ∷ take j xs) c ≡ access_at (take j xs) c = rw t refl in sym g ∙ e)

-- one more access behind others
at_front : (xs : List Access) (x y : Access) (c : ℕ) → access_at xs c ≡ Some y → access_at (xs ++ x ∷ []) c ≡ Some y
at_front [] x y c e = absurd cc
at_front (a ∷ xs) x y c e = go (bools (in_access a c)) (at_front xs x y c)
  where
    go : (in_access a c ≡ true) ⊎ (in_access a c ≡ false) → (access_at xs c ≡ Some y → access_at (xs ++ x ∷ []) c ≡ Some y) → access_at (a ∷ (xs ++ x ∷ [])) c ≡ Some y
    go (inl t) again = let f : access_at (a ∷ xs) c ≡ Some a = rw t refl in let g : access_at (a ∷ (xs ++ x ∷ [])) c ≡ Some a = rw t refl in g ∙ sym f ∙ e
    go (inr t) again = let f : access_at (a ∷ xs) c ≡ access_at xs c = rw t refl in let g : access_at (a ∷ (xs ++ x ∷ [])) c ≡ access_at (xs ++ x ∷ []) c = rw t refl in g ∙ again (sym f ∙ e)

at_back : (xs : List Access) (x : Access) (c : ℕ) → access_at xs c ≡ None → access_at (xs ++ x ∷ []) c ≡ (if in_access x c then Some x else None)
at_back [] x c e = refl
at_back (a ∷ xs) x c e = go (bools (in_access a c)) (at_back xs x c)
  where
    go : (in_access a c ≡ true) ⊎ (in_access a c ≡ false) → (access_at xs c ≡ None → access_at (xs ++ x ∷ []) c ≡ (if in_access x c then Some x else None)) → access_at (a ∷ (xs ++ x ∷ [])) c ≡ (if in_access x c then Some x else None)
    go (inl t) again = let f : access_at (a ∷ xs) c ≡ Some a = rw t refl in absurd (some_none (sym f ∙ e))
    go (inr t) again = let f : access_at (a ∷ xs) c ≡ access_at xs c = rw t refl in let g : access_at (a ∷ (xs ++ x ∷ [])) c ≡ access_at (xs ++ x ∷ []) c = rw t refl in g ∙ again (sym f ∙ e)

-- What a cell has, by the access that names it.
abbrev pub IsOpenedBy : ℕ → ℕ → Option Access → Here → Here → Type 0
IsOpenedBy number parent o old new = MatchOption o (new ≡ old) (λ a. IsOpened number parent a.mode old new)

-- The accesses in front of a place are added.
pub record AreOpenedTo (number parent : ℕ) (pieces : List (Piece ℕ)) (accesses : List Access) (j : ℕ) (old now : List Fragment) : Type 0 where
  pub are : AreFragments pieces now
  pub some : now ≡ [] → ⊥
  pub opened : (c : ℕ) → IsOpenedBy number parent (access_at (take j accesses) c) (here_by pieces old c) (here_by pieces now c)
  pub asked : (k : ℕ) → is_asked now k ≡ is_asked old k
  pub divided : (k : ℕ) → IsDivided old k → IsDivided now k
  pub room : (a : Access) → IsIn a (drop j accesses) → HaveRoom now a.range.lo a.range.hi

pub open_keeps : (number parent : ℕ) (x : Access) (a b : Fragment) → IsFragment a → HasSameEdges a b → IsOpenedIn number parent x.mode a b → IsFragment b
open_keeps number parent x a b f e r = r.right

pub opened_begins : (number parent : ℕ) (pieces : List (Piece ℕ)) (accesses : List Access) (old : List Fragment) → AreFragments pieces old → AreReady accesses old → AreOpenedTo number parent pieces accesses 0 old old
opened_begins number parent pieces accesses old s r = record { are = s; some = r.some; opened = λ c. refl; asked = λ k. refl; divided = λ k d. d; room = λ a i. (r.each a (whole i)).room }
  where
    whole : {a : Access} → IsIn a (drop 0 accesses) → IsIn a accesses
    whole i = i

module _ (number parent : ℕ) (pieces : List (Piece ℕ)) (accesses : List Access) (rising : IsRising accesses) (old now : List Fragment) (j : ℕ) (x : Access) (within : j < length accesses) (x_is : x ≡ get_or accesses j x)
    (ready : AreReady accesses old) (may : (c : ℕ) → IfSome (access_at accesses c) (λ a. MayHang number parent a.mode (here_by pieces old c))) (state : AreOpenedTo number parent pieces accesses j old now) where
  in_all : IsIn x accesses
  in_all = item_in accesses j x within x_is

  left : drop j accesses ≡ x ∷ drop (j + 1) accesses
  left = drop_more accesses j x within ∙ ap (λ (y : Access). y ∷ drop (j + 1) accesses) (sym x_is)

  -- no access before it names a cell of it
  not_yet : (c : ℕ) → x.range.lo ≤ c → access_at (take j accesses) c ≡ None
  not_yet c l = go (options (access_at (take j accesses) c))
    where
      go : (access_at (take j accesses) c ≡ None) ⊎ ((y : Access) × (access_at (take j accesses) c ≡ Some y)) → access_at (take j accesses) c ≡ None
      go (inl e) = e
      go (inr (y, e)) = absurd (omega (arith, l, taken_before accesses rising j x within c y e, ap (λ (z : Access). z.range.lo) x_is))

  same_yet : (c : ℕ) → x.range.lo ≤ c → here_by pieces now c ≡ here_by pieces old c
  same_yet c l = subst (λ (o : Option Access). IsOpenedBy number parent o (here_by pieces old c) (here_by pieces now c)) (not_yet c l) (state.opened c)

  pub next_ready : IsReady now x.range.lo x.range.hi
  next_ready = let k = ready.each x in_all in record { begins = state.divided x.range.lo k.begins; ends = state.divided x.range.hi k.ends; room = state.room x (subst (λ ys. IsIn x ys) (sym left) here) }

  pub next_may : (c : ℕ) → x.range.lo ≤ c → c < x.range.hi → MayHang number parent x.mode (here_by pieces now c)
  next_may c l h =
      subst (λ (y : Here). MayHang number parent x.mode y) (sym (same_yet c l))
      (subst (λ (o : Option Access). IfSome o (λ a. MayHang number parent a.mode (here_by pieces old c))) (rising_once accesses rising x c in_all (bounds_in x c l h)) (may c))

  module _ (new : List Fragment) (g : AreWalked (IsOpenedIn number parent x.mode) x.range.lo x.range.hi now new) where
    abbrev R : Fragment → Fragment → Type 0
    R = IsOpenedIn number parent x.mode

    more : take (j + 1) accesses ≡ take j accesses ++ x ∷ []
    more = take_more accesses j x within ∙ ap (λ (z : Access). take j accesses ++ z ∷ []) (sym x_is)

    cell : (c : ℕ) → (in_access x c ≡ true) ⊎ (in_access x c ≡ false) → IsOpenedBy number parent (access_at (take (j + 1) accesses) c) (here_by pieces old c) (here_by pieces new c)
    cell c (inl t) =
        let b = in_bounds x c t in
        let w = walk_in R x.range.lo x.range.hi now new g pieces state.are state.some next_ready.begins x.range.within c b.0 b.1 in
        let at_ : access_at (take (j + 1) accesses) c ≡ Some x = ap (λ (xs : List Access). access_at xs c) more ∙ at_back (take j accesses) x c (not_yet c b.0) ∙ rw t refl in
        subst (λ (o : Option Access). IsOpenedBy number parent o (here_by pieces old c) (here_by pieces new c)) (sym at_)
        (subst (λ (y : Here). IsOpened number parent x.mode y (here_by pieces new c)) (sym w.2 ∙ same_yet c b.0) (subst (λ (y : Here). IsOpened number parent x.mode (here_of w.0) y) (sym w.3) w.4.opened))
    cell c (inr t) =
        let same = walk_out R x.range.lo x.range.hi now new g pieces state.are next_ready.ends c (outside (before_or c x.range.lo) (before_or c x.range.hi)) in
        subst (λ (o : Option Access). IsOpenedBy number parent o (here_by pieces old c) (here_by pieces new c)) (sym (at_ (options (access_at (take j accesses) c))))
        (subst (λ (y : Here). IsOpenedBy number parent (access_at (take j accesses) c) (here_by pieces old c) y) (sym same) (state.opened c))
      where
        outside : (c < x.range.lo) ⊎ (x.range.lo ≤ c) → (c < x.range.hi) ⊎ (x.range.hi ≤ c) → (c < x.range.lo) ⊎ (x.range.hi ≤ c)
        outside (inl l) h = inl l
        outside (inr l) (inr h) = inr h
        outside (inr l) (inl h) = absurd (let e : true ≡ false = sym (bounds_in x c l h) ∙ t in cc)

        at_ : (access_at (take j accesses) c ≡ None) ⊎ ((y : Access) × (access_at (take j accesses) c ≡ Some y)) → access_at (take (j + 1) accesses) c ≡ access_at (take j accesses) c
        at_ (inl e) = ap (λ (xs : List Access). access_at xs c) more ∙ at_back (take j accesses) x c e ∙ rw t (sym e)
        at_ (inr (y, e)) = ap (λ (xs : List Access). access_at xs c) more ∙ at_front (take j accesses) x y c e ∙ sym e

    room_of : (a : Access) → IsIn a (drop (j + 1) accesses) → HaveRoom new a.range.lo a.range.hi
    room_of a i k b e l h = let w = walk_back R x.range.lo x.range.hi now new g k b e in go w.0 w.1 w.2 w.3 (next_ready.ends k w.0 w.1)
      where
        behind : x.range.hi ≤ a.range.lo
        behind = all_behind x (drop (j + 1) accesses) (subst IsRising left (drop_rising accesses j rising)) a i

        go : (z : Fragment) → slice_get now k ≡ Some z → HasSameEdges z b → IsWalked R x.range.lo x.range.hi z b → (x.range.hi ≤ z.lo) ⊎ (z.hi ≤ x.range.hi) → HasRoom b
        go z is edges (inr (n, same)) ends = subst HasRoom same (state.room a (subst (λ ys. IsIn a ys) (sym left) (there i)) k z is (omega (arith, l, edges.hi)) (omega (arith, h, edges.lo)))
        go z is edges (inl (y, u, r)) (inl ends) = absurd (omega (arith, u, ends))
        go z is edges (inl (y, u, r)) (inr ends) = absurd (omega (arith, ends, behind, l, edges.hi))

    pub opened_goes : AreOpenedTo number parent pieces accesses (j + 1) old new
    opened_goes = record {
      are = walk_are R x.range.lo x.range.hi now new g pieces state.are (open_keeps number parent x);
      some = walk_some R x.range.lo x.range.hi now new g state.some;
      opened = λ c. cell c (bools (in_access x c));
      asked = λ k. walk_asked R x.range.lo x.range.hi now new g k ∙ state.asked k;
      divided = λ k d. walk_divided R x.range.lo x.range.hi now new g k (state.divided k d);
      room = room_of;
    }

pub opened_ends : (number parent : ℕ) (pieces : List (Piece ℕ)) (accesses : List Access) (old now : List Fragment) (j : ℕ) → length accesses ≤ j → AreOpenedTo number parent pieces accesses j old now → (c : ℕ) → IsOpenedBy number parent (access_at accesses c) (here_by pieces old c) (here_by pieces now c)
opened_ends number parent pieces accesses old now j l s c = subst (λ (xs : List Access). IsOpenedBy number parent (access_at xs c) (here_by pieces old c) (here_by pieces now c)) (take_all j accesses l) (s.opened c)
