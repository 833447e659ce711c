-- Calls that leave what a seat knows of its messages.
use Rattle.std.proofs.Common.{◌≡◌, sym, subst, refl, ◌∙◌, ℕ, zero, suc, ◌+◌, lt_of_not-le}
use Rattle.std.specs.Prelude.{Option, Some, None, IfSome, IfNone, box_value}
use Rattle.std.specs.Global.{Box}
use mathlib.Core.Logic.{dite}
use native.Mathlib.Decide.{dec_le}
use Rattle.oss_code.specs.declared.code.CodeParts.{CodeParts}
use Rattle.oss_jobs.specs.declared.job.Job.{Job}
use Rattle.oss_field.specs.Asks.{IsLoaded, IsStored, has_loaded, has_noted, has_stored, has_folded}
use Rattle.oss_field.specs.Drawing.{IsDrawn}
use Rattle.oss_field.specs.Known.{Holding, Known}
use Rattle.oss_field.specs.Linking.{linked_first}
use Rattle.oss_field.specs.Making.{HasBegun, IsOpened, IsPutFirst}
use Rattle.oss_field.specs.Messages.{SameMessages}
use Rattle.oss_field.specs.Reading.{after_flags}
use Rattle.oss_field.specs.Seats.{parted}
use Rattle.oss_field.specs.Taking.{IsMissing, IsPut, IsTaken, is_out, is_waiting, after_count, after_take}

pub same_then : (k l n : Known) → SameMessages k l → SameMessages l n → SameMessages k n
same_then k l n a b = record { held = b.held ∙ a.held; half = b.half ∙ a.half; told = b.told ∙ a.told; joined = b.joined ∙ a.joined; owes = b.owes ∙ a.owes; last = b.last ∙ a.last }

module _ (code : CodeParts) (job : Job) (cell value : ℕ) (k l : Known) where
  pub loaded_messages : IsLoaded code job cell value k l → SameMessages k l
  loaded_messages (has_loaded r) = subst (λ (z : Known). SameMessages k z) (sym r.known) (record { held = refl; half = refl; told = refl; joined = refl; owes = refl; last = refl })
  loaded_messages (has_noted op v r) = subst (λ (z : Known). SameMessages k z) (sym r.known) (record { held = refl; half = refl; told = refl; joined = refl; owes = refl; last = refl })

  pub stored_messages : IsStored code job cell value k l → SameMessages k l
  stored_messages (has_stored r) = subst (λ (z : Known). SameMessages k z) (sym r.known) (record { held = refl; half = refl; told = refl; joined = refl; owes = refl; last = refl })
  stored_messages (has_folded op x r) = subst (λ (z : Known). SameMessages k z) (sym r.known) (record { held = refl; half = refl; told = refl; joined = refl; owes = refl; last = refl })

pub put_messages : (code : CodeParts) (job : Job) (m : ℕ) (k l : Known) → IsPut code job m k l → SameMessages k l
put_messages code job m k l p = subst (λ (z : Known). SameMessages k z) (sym p.known) (record { held = refl; half = refl; told = refl; joined = refl; owes = refl; last = refl })

pub flags_messages : (m e word : ℕ) (k l : Known) → l ≡ after_flags m e word k → SameMessages k l
flags_messages m e word k l known = subst (λ (z : Known). SameMessages k z) (sym known) (record { held = refl; half = refl; told = refl; joined = refl; owes = refl; last = refl })

pub drawn_messages : (n count found : ℕ) (k l : Known) → IsDrawn n count found k l → SameMessages k l
drawn_messages n count found k l d = dite (dec_le (found + count) n)
    (λ le. subst (λ (z : Known). SameMessages k z) (sym (d.enough le)) (record { held = refl; half = refl; told = refl; joined = refl; owes = refl; last = refl }))
    (λ gt. subst (λ (z : Known). SameMessages k z) (sym (d.too_few (lt_of_not-le gt))) (record { held = refl; half = refl; told = refl; joined = refl; owes = refl; last = refl }))

pub begun_messages : (code : CodeParts) (n : ℕ) (job : Job) (t count : ℕ) (k l : Known) → HasBegun code n job t count k l → SameMessages k l
begun_messages code n job t count k l b = subst (λ (z : Known). SameMessages k z) (sym b.known) (record { held = refl; half = refl; told = refl; joined = refl; owes = refl; last = refl })

pub linked_messages : (m e : ℕ) (k l : Known) → l ≡ linked_first m e k → SameMessages k l
linked_messages m e k l known = subst (λ (z : Known). SameMessages k z) (sym known) (record { held = refl; half = refl; told = refl; joined = refl; owes = refl; last = refl })

pub put_first_messages : (code : CodeParts) (job : Job) (m : ℕ) (k l : Known) → IsPutFirst code job m k l → SameMessages k l
put_first_messages code job m k l p = subst (λ (z : Known). SameMessages k z) (sym p.known) (record { held = refl; half = refl; told = refl; joined = refl; owes = refl; last = refl })

pub opened_messages : (code : CodeParts) (job : Job) (t found : ℕ) (k l : Known) → IsOpened code job t found k l → SameMessages k l
opened_messages code job t found k l o = subst (λ (z : Known). SameMessages k z) (sym o.known) (record { held = refl; half = refl; told = refl; joined = refl; owes = refl; last = refl })

pub parted_messages : (k l : Known) → l ≡ parted k → SameMessages k l
parted_messages k l known = subst (λ (z : Known). SameMessages k z) (sym known) (record { held = refl; half = refl; told = refl; joined = refl; owes = refl; last = refl })

count_messages : (m t n : ℕ) (k : Known) → SameMessages k (after_count m t n k)
count_messages m t zero k = record { held = refl; half = refl; told = refl; joined = refl; owes = refl; last = refl }
count_messages m t (suc n) k = record { held = refl; half = refl; told = refl; joined = refl; owes = refl; last = refl }

missing_messages : (m t : ℕ) (k l : Known) → IsMissing m t k l → SameMessages k l
missing_messages m t k l (is_waiting n ne known) = subst (λ (z : Known). SameMessages k z) (sym known) (count_messages m t n k)
missing_messages m t k l (is_out n ne known) = subst (λ (z : Known). SameMessages k z) (sym known) (record { held = refl; half = refl; told = refl; joined = refl; owes = refl; last = refl })

pub take_messages : (code : CodeParts) (fuel m t : ℕ) (k l : Known) (r : Option (Box Job))
    → IfSome r (λ job. (h : Holding) × IsTaken code fuel t (box_value job) h × (l ≡ after_take m t h (after_count m t 0 k)))
    → IfNone r (IsMissing m t k l) → SameMessages k l
take_messages code fuel m t k l None some none = missing_messages m t k l none
take_messages code fuel m t k l (Some job) some none = subst (λ (z : Known). SameMessages k z) (sym some.2) (record { held = refl; half = refl; told = refl; joined = refl; owes = refl; last = refl })
