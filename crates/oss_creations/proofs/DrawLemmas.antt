-- What a draw for a new task tells.
use Rattle.std.proofs.Common.{◌≡◌, ◌≤◌, ◌<◌, ◌⊎◌, inl, inr, ℕ, zero, suc, ◌+◌, refl, sym, subst, ap, ◌∙◌, arith, List, [], Option, Some, None}
use Rattle.std.specs.Prelude.{IfNone, IfSome}
use Rattle.oss_code.specs.declared.code.CodeParts.{CodeParts}
use Rattle.oss_jobs.specs.declared.job.Job.{Job}
use Rattle.oss_machine.specs.Frames.{CodeScript}
use Rattle.oss_model.specs.Bodies.{Body}
use Rattle.oss_words.specs.SeatSteps.{numbers}
use Rattle.oss_words.specs.Views.{Among, among_first, among_later}
use Rattle.oss_words.proofs.SeatLemmas.{among_left}
use Rattle.oss_field.specs.Drawing.{IsAbove, IsAboveAll, drew, missed}
use Rattle.oss_field.specs.Known.{Holding, Known}
use Rattle.oss_field.specs.Moves.{touched}
use Rattle.oss_creations.specs.Creating.{HasDrawn}
use Rattle.oss_acts.specs.Working.{Works}
use Rattle.oss_creations.specs.Keeping.{KeepsWork}
use Rattle.oss_creations.proofs.KeepLemmas.{works_still}

same_or : (c d : ℕ) → c ≤ d → (c ≡ d) ⊎ (c < d)
same_or c d l = grind arith

number_among : (a k e : ℕ) → a ≤ e → e < a + k → Among e (numbers a k)
number_among a zero e low high = absurd (omega (arith, low, high))
number_among a (suc k) e low high = elim (same_or a e low) [
  | inl q ↦ among_first q
  | inr l ↦ among_later (number_among (suc a) k e (omega (arith, l)) (omega (arith, high)))
]

abbrev pub IsSome : ℕ → ℕ → Known → Known → Option ℕ → Type 0
IsSome n count k l found = IfSome found (λ e. (e + count ≤ n) × IsAboveAll e k × (l ≡ touched 0 e (drew count e k)))

abbrev pub IsNone : ℕ → ℕ → Known → Known → Option ℕ → Type 0
IsNone n count k l found = IfNone found ((e : ℕ) × (n < e + count) × (l ≡ touched 0 e (missed k)))

pub draw_keeps : (n count : ℕ) (found : Option ℕ) (k l : Known) → IsSome n count k l found → IsNone n count k l found → KeepsWork k l
draw_keeps n count (Some e) k l some none = record {
  bears = ap (λ (z : Known). z.bears) some.2;
  makes = ap (λ (z : Known). z.makes) some.2;
  plans = ap (λ (z : Known). z.plans) some.2;
  unlinked = ap (λ (z : Known). z.unlinked) some.2;
  seen = ap (λ (z : Known). z.seen) some.2;
}
draw_keeps n count None k l some none = record {
  bears = ap (λ (z : Known). z.bears) none.2;
  makes = ap (λ (z : Known). z.makes) none.2;
  plans = ap (λ (z : Known). z.plans) none.2;
  unlinked = ap (λ (z : Known). z.unlinked) none.2;
  seen = ap (λ (z : Known). z.seen) none.2;
}

pub has_drawn : (code : CodeParts) (n count : ℕ) (job : Job) (found : Option ℕ) (k l : Known) → (x : Body CodeScript) × Works code job x k → k.words.held ≡ [] → IsSome n count k l found → IsNone n count k l found
    → IfSome found (λ t. HasDrawn code n job t count l)
has_drawn code n count job (Some e) k l work held some none =
    let still = works_still code job work.0 k l (draw_keeps n count (Some e) k l some none) work.1 in record {
      body = work.0;
      works = still.0;
      above = subst (λ (h : Holding). IsAbove e h) (sym still.1) (some.1.1 work.1.holding (subst (λ (z : List Holding). Among work.1.holding z) (sym work.1.bears) (among_first refl)));
      drawn = λ d low high. subst (λ (z : Known). Among d z.drawn) (sym some.2) (among_left d (numbers e count) k.drawn (number_among e count d low high));
      inside = some.0;
      held = ap (λ (z : Known). z.words.held) some.2 ∙ held;
    }
has_drawn code n count job None k l work held some none = tt

pub draws_on : (n count : ℕ) (found : Option ℕ) (k l : Known) → k.words.failed ≡ 0 → IsSome n count k l found → IfSome found (λ t. l.words.failed ≡ 0)
draws_on n count (Some e) k l ok some = ap (λ (z : Known). z.words.failed) some.2 ∙ ok
draws_on n count None k l ok some = tt

pub draws_no_more : (n count : ℕ) (found : Option ℕ) (k l : Known) → IsNone n count k l found → IfNone found (l.words.failed ≡ 1)
draws_no_more n count (Some e) k l none = tt
draws_no_more n count None k l none = ap (λ (z : Known). z.words.failed) none.2
