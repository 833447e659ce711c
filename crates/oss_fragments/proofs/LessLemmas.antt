-- What tells the same of the opened tasks.
use Rattle.std.proofs.Common.{◌≡◌, ℕ, ◌<◌, sym, ap, subst, ◌∙◌, ◌⊎◌, inl, inr, Bool, true, false, ◌↔◌, List, Some, arith, length}
use Rattle.std.specs.Prelude.{IsTrue, slice_get}
use Rattle.oss_deps.proofs.Basics.{bools, clash}
use Rattle.oss_access_lists.specs.declared.hang.Hang.{Hang}
use Rattle.oss_access_lists.specs.declared.marks.Marks.{Marks}
use Rattle.oss_access_lists.specs.Tables.{marks_at}
use Rattle.oss_retire.specs.Remainder.{AreRising, IsRemainder, is_spent}
use Rattle.oss_retire.specs.Tables.{TellsTheSame}
use Rattle.oss_retire.proofs.TableLemmas.{same_tells, tells_both, whole_remainder}
use Rattle.oss_fragments.specs.declared.fragment.Fragment.{Fragment}
use Rattle.oss_fragments.specs.Here.{Here, IsLess}
use Rattle.oss_fragments.specs.Stretches.{IsFragment, HasRoom}
use Rattle.oss_fragments.specs.Changes.{HasSameEdges, IsThinner}

pub less_same : (a b : Here) → a ≡ b → IsLess a b
less_same a b e = subst (λ (x : Here). IsLess a x) e (same_tells a.hangs a.tasks)

pub less_both : (a b c : Here) → IsLess a b → IsLess b c → IsLess a c
less_both a b c f g = tells_both a.hangs a.tasks b.hangs b.tasks c.hangs c.tasks f g

-- a fragment with what is left in place
pub thinned_of : (a b : Fragment) (numbers : List ℕ) (less : List Hang) (fewer : List ℕ) → IsFragment a → HasSameEdges a b → numbers ≡ a.tasks.items → b.line.hangs ≡ less → b.tasks.items ≡ fewer → TellsTheSame a.line.hangs numbers less fewer → b.line.head ≡ 0
    → length fewer ≡ length less → slice_get fewer 0 ≡ Some 0 → (AreRising numbers → AreRising fewer) → HasRoom b → IsThinner a b
thinned_of a b numbers less fewer f e same hangs tasks tells settled size main rising room = record {
  here = subst (λ (xs : List ℕ). TellsTheSame a.line.hangs xs b.line.hangs b.tasks.items) same
      (subst (λ (hs : List Hang). TellsTheSame a.line.hangs numbers hs b.tasks.items) (sym hangs) (subst (λ (xs : List ℕ). TellsTheSame a.line.hangs numbers less xs) (sym tasks) tells));
  right = record {
    some = omega (arith, e.lo, e.hi, f.some);
    within = omega (arith, e.hi, f.within);
    settled = settled;
    entries = record {
      size = ap length tasks ∙ size ∙ ap length (sym hangs);
      main = subst (λ (xs : List ℕ). slice_get xs 0 ≡ Some 0) (sym tasks) main;
      rising = subst AreRising (sym tasks) (rising (subst AreRising (sym same) f.entries.rising));
    };
  };
  room = λ r. room;
}

-- where nothing is spent, what is kept is what is left
pub none_spent : (hangs : List Hang) (stand : List Marks) (numbers : List ℕ) → length numbers ≡ length hangs → (result : Bool) → (IsTrue result ↔ ((v : ℕ) × (v < length hangs) × ((v ≡ 0 → ⊥) × (is_spent (marks_at stand v) ≡ true)))) → result ≡ false
    → IsRemainder hangs stand numbers hangs numbers
none_spent hangs stand numbers size result told e = whole_remainder hangs stand numbers (λ v n l. go v n l (bools (is_spent (marks_at stand v))))
  where
    go : (v : ℕ) → (v ≡ 0 → ⊥) → v < length numbers → (is_spent (marks_at stand v) ≡ true) ⊎ (is_spent (marks_at stand v) ≡ false) → is_spent (marks_at stand v) ≡ false
    go v n l (inr f) = f
    go v n l (inl f) = clash result (told.1 (v, omega (arith, l, size), (n, f))) e

pub left_as : (hangs : List Hang) (stand : List Marks) (numbers : List ℕ) (less now : List Hang) (fewer kept : List ℕ) (as_slice : List ℕ) → as_slice ≡ numbers → now ≡ less → kept ≡ fewer → IsRemainder hangs stand as_slice less fewer → IsRemainder hangs stand numbers now kept
left_as hangs stand numbers less now fewer kept as_slice e f g rest =
    subst (λ (ns : List ℕ). IsRemainder hangs stand ns now kept) e (subst (λ (hs : List Hang). IsRemainder hangs stand as_slice hs kept) (sym f) (subst (λ (xs : List ℕ). IsRemainder hangs stand as_slice less xs) (sym g) rest))
