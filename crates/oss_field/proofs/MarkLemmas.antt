-- What seats keep of entries whose values are left stays so.
use Rattle.std.proofs.Common.{◌≡◌, ◌≢◌, ◌⊎◌, inl, inr, sym, subst, refl, ◌∙◌, ap, ℕ, true, List, set, Option}
use mathlib.Core.Option as maybe
use lib.ListN.{get_elem?}
use Rattle.atomic_table.proofs.Lists.{at_set}
use Rattle.oss_words.specs.declared.entry.EntryState.{EntryState}
use Rattle.oss_words.specs.Net.{Net, Child, apart, first, after, eldest, younger}
use Rattle.oss_words.specs.Views.{Among}
use Rattle.oss_roles.specs.Roles.{Role}
use Rattle.oss_field.specs.declared.view.SeatView.{SeatView}
use Rattle.oss_field.specs.Known.{Known}
use Rattle.oss_field.specs.Marks.{Fact, Mark, value_is, cell_is, has_none, has_child, has_last}
use Rattle.oss_field.specs.Marked.{AreMarked, IsFact, IsMarked, KeepsMarks, StaysLeft}

pub stays_same : (a c : EntryState) → c ≡ a → StaysLeft a c
stays_same a c q = record { left = λ l. ap (λ (z : EntryState). z.left) q ∙ l; none = λ l h. ap (λ (z : EntryState). z.headed) q ∙ h }

-- a child goes on to be one, if what hangs goes on to hang where it does
pub child_on : (net net' : Net) → ((e : ℕ) → net.place e ≢ apart → net'.place e ≡ net.place e) → (p e : ℕ) → Child net.place p e → Child net'.place p e
child_on net net' same p e (eldest at) = eldest (same e (λ q. let bad : first p ≡ apart = sym at ∙ q in let never : ⊥ = cc in never) ∙ at)
child_on net net' same p e (younger {s = s} at rest) = younger (same e (λ q. let bad : after s ≡ apart = sym at ∙ q in let never : ⊥ = cc in never) ∙ at) (child_on net net' same p s rest)

-- a step that leaves the net and the roles
pub same_keeps : (net : Net) (role : ℕ → Option Role) (states states' : ℕ → EntryState) (values values' : ℕ → ℕ) → ((e : ℕ) → StaysLeft (states e) (states' e)) → ((e : ℕ) → (states e).left ≡ true → values' e ≡ values e)
    → KeepsMarks net net role role states states' values values'
same_keeps net role states states' values values' stays same = record {
  place = λ e hangs. refl;
  last = λ e hangs left. refl;
  role_is = λ e r is. is;
  stays = λ e hangs. stays e;
  value = λ e hangs left. same e left;
}

module _ (net net' : Net) (role role' : ℕ → Option Role) (states states' : ℕ → EntryState) (values values' : ℕ → ℕ) (k : KeepsMarks net net' role role' states states' values values') where
  fact_on : (e : ℕ) (t : Fact) → net.place e ≢ apart → (states e).left ≡ true → IsFact net role states values e t → IsFact net' role' states' values' e t
  fact_on e (value_is z) hangs left q = k.value e hangs left ∙ q
  fact_on e (cell_is c) hangs left q = (q.0, k.role_is e q.0 q.1, q.2)
  fact_on e has_none hangs left q = (k.stays e hangs).none left q
  fact_on e (has_child c) hangs left q = child_on net net' k.place e c q
  fact_on e (has_last c) hangs left q = (child_on net net' k.place e c q.0, k.last e hangs left ∙ q.1)

  pub mark_on : (a : Mark) → IsMarked net role states values a → IsMarked net' role' states' values' a
  mark_on a m = record {
    hangs = λ q. m.hangs (sym (k.place a.entry m.hangs) ∙ q);
    left = (k.stays a.entry m.hangs).left m.left;
    fact = fact_on a.entry a.fact m.hangs m.left m.fact;
  }

  -- after a step of one seat, if what it keeps that is new is so
  pub marked_more : (views : List SeatView) (id : ℕ) (v : SeatView) (l : Known) → get_elem? views id ≡ maybe.some v
      → ((a : Mark) → Among a l.marks → Among a v.known.marks ⊎ IsMarked net' role' states' values' a)
      → AreMarked net role states values views → AreMarked net' role' states' values' (set views id (record { known = l }))
  marked_more views id v l sits fresh marked = record {
    each = λ j x at a among. elim (at_set views id j (record { known = l }) x at) [
      | inl h ↦ elim (fresh a (subst (λ (z : SeatView). Among a z.known.marks) (sym h.1) among)) [
        | inl old ↦ mark_on a (marked.each id v sits a old)
        | inr new ↦ new
      ]
      | inr h ↦ mark_on a (marked.each j x h.1 a among)
    ];
  }

  -- if it keeps nothing that is new
  pub marked_on : (views : List SeatView) (id : ℕ) (v : SeatView) (l : Known) → get_elem? views id ≡ maybe.some v → l.marks ≡ v.known.marks
      → AreMarked net role states values views → AreMarked net' role' states' values' (set views id (record { known = l }))
  marked_on views id v l sits same = marked_more views id v l sits (λ a among. inl (subst (λ (z : List Mark). Among a z) same among))
