-- What is sent is what is posted, and the join behind it.
use Rattle.std.proofs.Common.{◌≡◌, sym, refl, ◌∙◌, ap, ℕ, not, ◌&&◌, List, [], ◌∷◌, ◌++◌}
use Rattle.oss_words.specs.declared.message.Message.{Message}
use Rattle.oss_words.specs.declared.entry.EntryState.{EntryState}
use Rattle.oss_words.specs.declared.entry.EntryInfo.{EntryInfo}
use Rattle.oss_words.specs.Causes.{part, sent, posted, joins, tells_reads, tells_writes, tells_folds, tells_clear, tells_done, heads_reads, heads_writes, heads_folds}

behind : {A : Type 0} (a b c : List A) → (a ++ b) ++ c ≡ a ++ (b ++ c)
behind [] b c = refl
behind (x ∷ a) b c = ap (λ z. x ∷ z) (behind a b c)

nine : {A : Type 0} (a b c d e f g h j : List A) → a ++ (b ++ (c ++ (d ++ (e ++ (f ++ (g ++ (h ++ j))))))) ≡ (a ++ b ++ c ++ d ++ e ++ f ++ g ++ h) ++ j
nine a b c d e f g h j = sym (behind ((((((a ++ b) ++ c) ++ d) ++ e) ++ f) ++ g) h j ∙ behind (((((a ++ b) ++ c) ++ d) ++ e) ++ f) g (h ++ j) ∙ behind ((((a ++ b) ++ c) ++ d) ++ e) f (g ++ (h ++ j)) ∙ behind (((a ++ b) ++ c) ++ d) e (f ++ (g ++ (h ++ j))) ∙ behind ((a ++ b) ++ c) d (e ++ (f ++ (g ++ (h ++ j)))) ∙ behind (a ++ b) c (d ++ (e ++ (f ++ (g ++ (h ++ j))))) ∙ behind a b (c ++ (d ++ (e ++ (f ++ (g ++ (h ++ j)))))))

pub sent_is_posted : (e : ℕ) (a c : EntryState) (i : EntryInfo) → sent e a c i ≡ posted a c i ++ part (joins c && not (joins a)) e 0
sent_is_posted e a c i = nine (part (tells_reads c i && not (tells_reads a i)) c.next 3) (part (tells_writes c i && not (tells_writes a i)) c.next 4) (part (tells_folds c i && not (tells_folds a i)) c.next 2) (part (tells_clear c i && not (tells_clear a i)) c.next 5) (part (tells_done c i && not (tells_done a i)) i.parent 1) (part (heads_reads c && not (heads_reads a)) c.child 3) (part (heads_writes c && not (heads_writes a)) c.child 4) (part (heads_folds c && not (heads_folds a)) c.child 2) (part (joins c && not (joins a)) e 0)
