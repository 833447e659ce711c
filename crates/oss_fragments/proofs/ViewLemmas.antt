-- What is known of the fields is known of what contracts see of them.
use Rattle.std.proofs.Common.{◌≡◌, ℕ, ◌<◌, sym, ap, subst, ◌∙◌, List, [], ◌⊎◌, inl, inr, Bool, true, Option, Some, None}
use Rattle.std.specs.Prelude.{IfSome}
use Rattle.oss_syntax.specs.declared.access.Access.{Access}
use Rattle.oss_ranges.specs.Cells.{value_at}
use Rattle.oss_deps.proofs.Basics.{some_none}
use Rattle.oss_fragments.specs.Here.{Here, IsLess, IsShown, MayHang, bare}
use Rattle.oss_fragments.specs.Kept.{Kept, here_at, here_by, is_cut, is_cut_by}
use Rattle.oss_fragments.specs.Stretches.{AreFragments, AreReady}
use Rattle.oss_fragments.proofs.StretchLemmas.{none_placed, read_here}
use Rattle.oss_fragments.proofs.OpenLemmas.{IsOpenedBy}
use Rattle.oss_fragments.proofs.GiveLemmas.{IsGivenBy}

pub ready_fields : (view seen : Kept) → view ≡ seen → (accesses : List Access) → AreReady accesses seen.fragments → AreReady accesses view.fragments
ready_fields view seen e accesses r = subst (λ (k : Kept). AreReady accesses k.fragments) (sym e) r

-- where a cell of the program is in no fragment, there is none
pub all_bare : (view seen : Kept) → view ≡ seen → AreFragments view.pieces view.fragments → (cell : ℕ) → cell < 1048576 → value_at view.pieces cell ≡ None → (c : ℕ) → here_at seen c ≡ bare
all_bare view seen e s cell l none c = ap (λ (k : Kept). here_at k c) (sym e) ∙ read_here view.pieces view.fragments c None (none_placed view.pieces view.fragments s (empty s.whole) c)
  where
    empty : (view.fragments ≡ []) ⊎ ((c : ℕ) → c < 1048576 → (i : ℕ) × (value_at view.pieces c ≡ Some i)) → view.fragments ≡ []
    empty (inl z) = z
    empty (inr f) = let i = f cell l in absurd (some_none (sym i.1 ∙ none))

pub cut_fields : (view seen : Kept) → view ≡ seen → (k : ℕ) → is_cut seen k ≡ true → is_cut_by view.fragments view.ended k ≡ true
cut_fields view seen e k h = ap (λ (x : Kept). is_cut x k) e ∙ h

pub shown_fields : (view seen : Kept) → view ≡ seen → (number c : ℕ) → IsShown number (here_at seen c) → IsShown number (here_by view.pieces view.fragments c)
shown_fields view seen e number c h = subst (λ (x : Kept). IsShown number (here_at x c)) (sym e) h

pub may_fields : (view seen : Kept) → view ≡ seen → (number parent c : ℕ) (o : Option Access) → IfSome o (λ a. MayHang number parent a.mode (here_at seen c)) → IfSome o (λ a. MayHang number parent a.mode (here_by view.pieces view.fragments c))
may_fields view seen e number parent c o h = subst (λ (x : Kept). IfSome o (λ a. MayHang number parent a.mode (here_at x c))) (sym e) h

pub less_seen : (view seen : Kept) → view ≡ seen → (c : ℕ) (new : Here) → IsLess (here_by view.pieces view.fragments c) new → IsLess (here_at seen c) new
less_seen view seen e c new h = subst (λ (x : Kept). IsLess (here_at x c) new) e h

pub given_seen : (view seen : Kept) → view ≡ seen → (number c : ℕ) (is_in : Bool) (new : Here) → IsGivenBy number is_in (here_by view.pieces view.fragments c) new → IsGivenBy number is_in (here_at seen c) new
given_seen view seen e number c is_in new h = subst (λ (x : Kept). IsGivenBy number is_in (here_at x c) new) e h

pub opened_seen : (view seen : Kept) → view ≡ seen → (number parent c : ℕ) (o : Option Access) (mid new : Here) → new ≡ mid → IsOpenedBy number parent o (here_by view.pieces view.fragments c) mid → IsOpenedBy number parent o (here_at seen c) new
opened_seen view seen e number parent c o mid new same h = subst (λ (x : Kept). IsOpenedBy number parent o (here_at x c) new) e (subst (λ (y : Here). IsOpenedBy number parent o (here_by view.pieces view.fragments c) y) (sym same) h)
