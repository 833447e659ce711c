-- What a step has sent: what goes to other entries, and the join of the entry itself.
use Rattle.std.proofs.Common.{◌≡◌, subst, ◌∙◌, ap, ℕ, ◌+◌, arith, Bool, true, false, not, ◌&&◌, List, [], ◌∷◌, ◌++◌, append-nil}
use Rattle.oss_words.specs.declared.entry.EntryInfo.{EntryInfo}
use Rattle.oss_words.specs.declared.entry.EntryState.{EntryState}
use Rattle.oss_words.specs.declared.message.Message.{Message}
use Rattle.oss_words.specs.Bits.{info_at}
use Rattle.oss_words.specs.Causes.{joins, part, posted, sent}
use Rattle.oss_words.specs.Sums.{total}
use Rattle.oss_words.specs.Views.{Among}
use Rattle.oss_words.proofs.SendLemmas.{sent_is_posted}
use Rattle.oss_words.proofs.SumLemmas.{total_append}
use Rattle.oss_field.specs.declared.held.Held.{Held}
use Rattle.oss_field.specs.Known.{Known}
use Rattle.oss_field.specs.Messages.{Ready}
use Rattle.oss_field.proofs.MessageLemmas.{one_ready}

-- if the cause of the entry's own join is not completed, what is posted is all
pub none_joined : (held : List Held) (e : ℕ) (a c : EntryState) (i : EntryInfo) (k : Known) → (joins c && not (joins a)) ≡ false → Ready held (sent e a c i) k → Ready held (posted a c i) k
none_joined held e a c i k off ready =
    subst (λ (z : List Message). Ready held z k) (sent_is_posted e a c i ∙ (ap (λ (b : Bool). posted a c i ++ part b e 0) off ∙ append-nil (posted a c i))) ready

-- and else the join is ready beside it
pub one_joined : (held : List Held) (e w : ℕ) (a c : EntryState) (k : Known) → (joins c && not (joins a)) ≡ true → Among (record { entry = e; info = info_at w }) k.told
    → Ready held (sent e a c (info_at w)) k → Ready (held ++ record { entry = e; flag = 0; info = w } ∷ []) (posted a c (info_at w)) k
one_joined held e w a c k on told ready =
    one_ready held (record { entry = e; flag = 0; info = w }) (posted a c (info_at w)) (sent e a c (info_at w)) k splits told ready
  where
    splits : (h : Message → ℕ) → total h (sent e a c (info_at w)) ≡ total h (posted a c (info_at w)) + h (record { entry = e; flag = 0 })
    splits h =
        let x : total h (sent e a c (info_at w)) ≡ total h (posted a c (info_at w) ++ (record { entry = e; flag = 0 } ∷ [])) = ap (λ z. total h z) (sent_is_posted e a c (info_at w) ∙ ap (λ (b : Bool). posted a c (info_at w) ++ part b e 0) on) in
        let y = total_append h (posted a c (info_at w)) (record { entry = e; flag = 0 } ∷ []) in
        omega (arith, x, y)
