-- What a seat does while it lets go, one thing after the other.
use Rattle.std.proofs.Common.{◌≡◌, refl, sym, subst, ap, ◌∙◌, ℕ, List, [], ◌∷◌, ◌++◌}
use Rattle.oss_code.specs.declared.code.CodeParts.{CodeParts}
use Rattle.oss_jobs.specs.declared.job.Job.{Job}
use Rattle.oss_words.specs.Views.{Among, Seen}
use Rattle.oss_field.specs.Known.{Known}
use Rattle.oss_acts.specs.News.{Delivers}
use Rattle.oss_acts.specs.Working.{SameWork}
use Rattle.std.proofs.Common.{None}
use Rattle.oss_endings.specs.Ending.{AllGiven, AreDone, IsWaitMet, MayLetGo, has_ended, has_released, none_there, seen_done}
use Rattle.oss_endings.specs.Letting.{Lets, Looks, nothing_yet, looked_more, gave_more, left_more, delivered_more}

append_none : (xs : List ℕ) → xs ++ [] ≡ xs
append_none [] = refl
append_none (x ∷ xs) = ap (λ (z : List ℕ). x ∷ z) (append_none xs)

append_again : (xs ys zs : List ℕ) → (xs ++ ys) ++ zs ≡ xs ++ (ys ++ zs)
append_again [] ys zs = refl
append_again (x ∷ xs) ys zs = ap (λ (z : List ℕ). x ∷ z) (append_again xs ys zs)

module _ (code : CodeParts) (job : Job) where
  lets_on : (k l m : Known) (a b : List ℕ) → Lets code job k l a → Lets code job l m b → Lets code job k m (a ++ b)
  lets_on k l m a b d (nothing_yet same none) =
      subst (λ (z : Known). Lets code job k z (a ++ b)) (sym same) (subst (λ (z : List ℕ). Lets code job k l z) (sym (ap (λ (z : List ℕ). a ++ z) none ∙ append_none a)) d)
  lets_on k l m a b d (looked_more {m = n} e x) = looked_more (lets_on k l n a b d e) x
  lets_on k l m a b d (gave_more {m = n} cell e x) = gave_more cell (lets_on k l n a b d e) x
  lets_on k l m a b d (left_more {m = n} cell v e x) = left_more cell v (lets_on k l n a b d e) x
  lets_on k l m a b d (delivered_more {m = n} {before = p} {after = q} e x s told) =
      delivered_more (lets_on k l n a p d e) x s (ap (λ (z : List ℕ). a ++ z) told ∙ sym (append_again a p q))

  -- What was done tells, in addition to what was told.
  abbrev pub LetsTell : Known → Known → List ℕ → List ℕ → Type 0
  LetsTell k l xs ys = (told : List ℕ) × Lets code job k l told × (ys ≡ xs ++ told)

  pub tell_none : (k : Known) (xs : List ℕ) → LetsTell k k xs xs
  tell_none k xs = ([], nothing_yet refl refl, sym (append_none xs))

  pub tell_news : (k l m : Known) (xs ys zs : List ℕ) → LetsTell k l xs ys → SameWork l m → ((told : List ℕ) × Delivers l m told × (zs ≡ ys ++ told)) → LetsTell k m xs zs
  tell_news k l m xs ys zs t s u = (t.0 ++ u.0, delivered_more t.1 u.1 s refl, u.2 ∙ (ap (λ (z : List ℕ). z ++ u.0) t.2 ∙ append_again xs t.0 u.0))

  pub tell_more : (k l m : Known) (xs ys : List ℕ) → LetsTell k l xs ys → Lets code job l m [] → LetsTell k m xs ys
  tell_more k l m xs ys t u = (t.0 ++ [], lets_on k l m t.0 [] t.1 u, t.2 ∙ ap (λ (z : List ℕ). xs ++ z) (sym (append_none t.0)))

  pub tell_look : (k l m : Known) (xs ys : List ℕ) → LetsTell k l xs ys → Looks l m → LetsTell k m xs ys
  tell_look k l m xs ys t looks = (t.0, looked_more t.1 looks, t.2)

-- deliveries leave what was seen
pub given_same : (job : Job) (k l : Known) → SameWork k l → AllGiven job k → AllGiven job l
given_same job k l s all = λ c mode strong right. let y = all c mode strong right in record { it = y.it; among = subst (λ (z : List Seen). Among y.it z) (sym s.seen) y.among; entry = y.entry; given = y.given }

done_same : (job : Job) (k l : Known) → SameWork k l → AreDone job k None → AreDone job l None
done_same job k l s (none_there none) = none_there none
done_same job k l s (seen_done y last among clear done) = seen_done y last (subst (λ (z : List Seen). Among y z) (sym s.seen) among) clear done

pub wait_same : (job : Job) (k l : Known) → SameWork k l → IsWaitMet job k → IsWaitMet job l
wait_same job k l s met = λ asks_. done_same job k l s (met asks_)

pub let_same : (job : Job) (k l : Known) (c : ℕ) → SameWork k l → MayLetGo job k c → MayLetGo job l c
let_same job k l c s (has_released is) = has_released is
let_same job k l c s (has_ended over met) = has_ended over (wait_same job k l s met)
