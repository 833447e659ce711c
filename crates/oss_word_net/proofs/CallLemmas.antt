-- Calls of several steps: what the seat knows between them and behind them.
use Rattle.std.proofs.Common.{◌≡◌, sym, subst, refl, ◌∙◌, ap, ℕ, ◌<◌, ◌≤◌, ◌+◌, arith, Bool, true, false, not, ◌&&◌, List, [], ◌∷◌, ◌++◌, append-nil}
use Rattle.oss_words.specs.declared.message.Message.{Message}
use Rattle.oss_words.specs.declared.entry.EntryInfo.{EntryInfo}
use Rattle.oss_words.specs.declared.entry.After.{After}
use Rattle.oss_words.specs.declared.entry.After.TheVariants.{FirstOf, FirstOfMain, Sibling}
use Rattle.oss_words.specs.Bits.{state_at, info_at, info_word, FitsInfo}
use Rattle.oss_words.specs.Causes.{sent, posted, joins, part}
use Rattle.oss_words.specs.Net.{Place, first, after}
use Rattle.oss_words.specs.Steps.{no_flags}
use Rattle.oss_words.specs.Views.{Seen, Among, among_first, among_later}
use Rattle.oss_words.proofs.BitLemmas.{infos_are_read}
use Rattle.oss_words.proofs.SendLemmas.{sent_is_posted}
use Rattle.oss_word_net.specs.Asks.{MayFill, MayStart, MayLink, MayFollow, MayHead}
use Rattle.oss_word_net.specs.Calls.{MayHang, Hung, Carries}
use Rattle.oss_word_net.specs.Known.{Known, Told}
use Rattle.oss_word_net.specs.Moves.{informed, filled_info, filled_state, began, linked_at, clear_alone, next_mask, child_mask}
use Rattle.oss_word_net.specs.Plays.{Bounded}
use Rattle.oss_word_net.specs.Standing.{Idle}

-- what a step sends to other entries is all that it sends, where there are no values beside the words
pub posted_sent : (e n x : ℕ) (i : EntryInfo) → (state_at (n + x)).left ≡ false → posted (state_at n) (state_at (n + x)) i ≡ sent e (state_at n) (state_at (n + x)) i
posted_sent e n x i left =
    let none : (joins (state_at (n + x)) && not (joins (state_at n))) ≡ false = ap (λ (b : Bool). ((state_at (n + x)).folds && b) && not (joins (state_at n))) left ∙ nothing (state_at (n + x)).folds (not (joins (state_at n))) in
    sym (sent_is_posted e (state_at n) (state_at (n + x)) i ∙ ap (λ (b : Bool). posted (state_at n) (state_at (n + x)) i ++ part b e 0) none ∙ append-nil (posted (state_at n) (state_at (n + x)) i))
  where
    nothing : (a b : Bool) → ((a && false) && b) ≡ false
    nothing true b = refl
    nothing false b = refl

pub fits_of : (k : Known) (e n : ℕ) (i : EntryInfo) (p : After) → MayHang k e i p → e < n → n ≤ 16777216 → FitsInfo i
fits_of k e n i p may inside most = record {
  depth = (let a = may.shallow in omega (arith, a));
  parent = (let a = may.above in omega (arith, a, inside, most));
  task = may.task;
}

pub may_fill : (k : Known) (e n : ℕ) (i : EntryInfo) (p : After) → MayHang k e i p → Idle n k → MayFill k e
may_fill k e n i p may idle = record { own = may.own; unlinked = may.unlinked; idle = idle.idle; live = idle.live }

carries_same : (a b : Known) → b.entries ≡ a.entries → b.view.owned ≡ a.view.owned → b.view.parts ≡ a.view.parts → b.view.splits ≡ a.view.splits → b.view.failed ≡ a.view.failed → ((t : Told) → Among t a.told → Among t b.told) → b.view.seen ≡ a.view.seen → Carries a b
carries_same a b entries owned parts splits failed told seen = record { entries = entries; owned = owned; parts = parts; splits = splits; failed = failed; told = told; seen = λ s h. subst (λ (z : List Seen). Among s z) (sym seen) h }

pub hung_top : (a b c : Known) (e w : ℕ) (i : EntryInfo) → a.view.held ≡ [] → b ≡ filled_info e w a → c ≡ began e 39 i b → Hung a c e i FirstOfMain
hung_top a b c e w i empty filled now = subst (λ (z : Known). Hung a z e i FirstOfMain) (sym (now ∙ ap (λ (z : Known). began e 39 i z) filled)) record {
  carries = carries_same a (began e 39 i (filled_info e w a)) refl refl refl refl refl (λ t h. among_later h) refl;
  links = refl;
  gives = refl;
  delivered = refl;
  told = among_first refl;
  sends = empty;
}

-- the new entry is ready to be linked as the first child of its parent
module _ (n : ℕ) (a : Known) (e w : ℕ) (i : EntryInfo) (may : MayHang a e i (FirstOf i.parent)) (idle : Idle n a) (again : (j : EntryInfo) → Among (record { entry = i.parent; info = j }) a.told → info_at w ≡ j) where
  abbrev start : Known
  start = informed i.parent w a

  abbrev full : Known
  full = filled_state e 32 i (filled_info e (info_word i) start)

  fits : FitsInfo i
  fits = fits_of a e n i (FirstOf i.parent) may (idle.owned e may.own) idle.some.1

  pub child_start : (b : Known) → b ≡ filled_info e (info_word i) start → MayStart b e i
  child_start b q = subst (λ (z : Known). MayStart z e i) (sym q) record { filling = (λ k. record { entry = e; state = no_flags; info = infos_are_read i fits k } ∷ []); live = idle.live }

  pub child_link : (b : Known) → b ≡ full → MayLink n b e clear_alone i
  child_link b q = subst (λ (z : Known). MayLink n z e clear_alone i) (sym q) record {
    filling = refl;
    empty = may.empty;
    whole = idle.whole;
    own_parent = may.own_parent;
    ungiven = may.ungiven;
    above = may.above;
    shallow = may.shallow;
    covers = λ ne. let c = may.covers ne in (c.0, among_later c.1, c.2);
    live = idle.live;
    size = idle.size;
  }

  pub child_head : (b : Known) → b ≡ full → MayHead b i (info_at w)
  child_head b q = subst (λ (z : Known). MayHead z i (info_at w)) (sym q) record {
    told = among_first refl;
    depth = (let s = may.stands in let d = again s.1 s.2 in let p = s.3 in p ∙ ap (λ (z : EntryInfo). 1 + z.depth) (sym d));
    childless = may.stands.4;
  }

  pub child_hung : (c : Known) (x : ℕ) → c ≡ linked_at e i (first i.parent) i.parent (info_at w) (child_mask e (info_at w).mode i.mode) x full → Hung a c e i (FirstOf i.parent)
  child_hung c x q = subst (λ (z : Known). Hung a z e i (FirstOf i.parent)) (sym q) record {
    carries = carries_same a (linked_at e i (first i.parent) i.parent (info_at w) (child_mask e (info_at w).mode i.mode) x full) refl refl refl refl refl (λ t h. among_later (among_later h)) refl;
    links = refl;
    gives = refl;
    delivered = refl;
    told = among_first refl;
    sends = (let s = may.stands in let d = again s.1 s.2 in (s.1, s.2, record { found = x; step = (λ k. record { entry = i.parent; found = x; more = child_mask e (d k).mode i.mode }); messages = λ k. sent i.parent (state_at x) (state_at (x + child_mask e (d k).mode i.mode)) (d k) }));
  }

-- the same, behind a sibling
module _ (n : ℕ) (a : Known) (e w o : ℕ) (i : EntryInfo) (may : MayHang a e i (Sibling o)) (idle : Idle n a) (again : (j : EntryInfo) → Among (record { entry = o; info = j }) a.told → info_at w ≡ j) where
  abbrev begin : Known
  begin = informed o w a

  abbrev made : Known
  made = filled_info e (info_word i) begin

  fit : FitsInfo i
  fit = fits_of a e n i (Sibling o) may (idle.owned e may.own) idle.some.1

  pub next_link : (b : Known) → b ≡ made → MayLink n b e no_flags i
  next_link b q = subst (λ (z : Known). MayLink n z e no_flags i) (sym q) record {
    filling = (λ k. record { entry = e; state = no_flags; info = infos_are_read i fit k } ∷ []);
    empty = may.empty;
    whole = idle.whole;
    own_parent = may.own_parent;
    ungiven = may.ungiven;
    above = may.above;
    shallow = may.shallow;
    covers = λ ne. let c = may.covers ne in (c.0, among_later c.1, c.2);
    live = idle.live;
    size = idle.size;
  }

  pub next_follow : (b : Known) → b ≡ made → MayFollow b e i o (info_at w)
  next_follow b q = subst (λ (z : Known). MayFollow z e i o (info_at w)) (sym q) (let s = may.stands in let d = again s.0 s.1 in record {
    told = among_first refl;
    parent = ap (λ (z : EntryInfo). z.parent) d ∙ s.2;
    depth = ap (λ (z : EntryInfo). z.depth) d ∙ s.3;
    before = s.4;
    last = s.5;
    kin = s.6;
  })

  pub next_hung : (c : Known) (x : ℕ) → c ≡ linked_at e i (after o) o (info_at w) (next_mask e (info_at w).mode i.mode) x made → Hung a c e i (Sibling o)
  next_hung c x q = subst (λ (z : Known). Hung a z e i (Sibling o)) (sym q) record {
    carries = carries_same a (linked_at e i (after o) o (info_at w) (next_mask e (info_at w).mode i.mode) x made) refl refl refl refl refl (λ t h. among_later (among_later h)) refl;
    links = refl;
    gives = refl;
    delivered = refl;
    told = among_first refl;
    sends = (let s = may.stands in let d = again s.0 s.1 in (s.0, s.1, record { found = x; step = (λ k. record { entry = o; found = x; more = next_mask e (d k).mode i.mode }); messages = λ k. sent o (state_at x) (state_at (x + next_mask e (d k).mode i.mode)) (d k) }));
  }

-- behind a link nothing is left half done
pub linked_idle : (n : ℕ) (a f b : Known) (e o x y : ℕ) (i j : EntryInfo) (p : Place) → Idle n a → f.view.half ≡ a.view.half → f.view.parts ≡ a.view.parts → f.view.owned ≡ a.view.owned → f.entries ≡ a.entries → b ≡ linked_at e i p o j x y f → Bounded b → Idle n b
linked_idle n a f b e o x y i j p idle half parts owned entries q bound = record {
  bounded = bound;
  whole = ap (λ (z : Known). z.view.half) q ∙ half ∙ idle.whole;
  idle = ap (λ (z : Known). z.filling) q;
  live = λ z. idle.live (sym (ap (λ (z : Known). z.view.parts) q ∙ parts) ∙ z);
  size = ap (λ (z : Known). z.entries) q ∙ entries ∙ idle.size;
  some = idle.some;
  owned = λ u m. idle.owned u (subst (λ (z : List ℕ). Among u z) (ap (λ (z : Known). z.view.owned) q ∙ owned) m);
}

-- what is sent is what is held behind a link
pub link_sent : (a b : Known) (items : List Message) (e o n x y w : ℕ) (i j : EntryInfo) (p : Place) → items ≡ posted (state_at n) (state_at (n + x)) (info_at w) → x ≡ y → j ≡ info_at w → (state_at (n + y)).left ≡ false
    → b ≡ linked_at e i p o j y n a → items ≡ b.view.held
link_sent a b items e o n x y w i j p is mask info left q =
    is ∙ (λ k. posted (state_at n) (state_at (n + mask k)) (sym info k)) ∙ posted_sent o n y j left ∙ sym (ap (λ (z : Known). z.view.held) q)
