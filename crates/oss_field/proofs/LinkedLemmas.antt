-- The link of an entry as a call of several steps: what the seat knows between them and after them.
use Rattle.std.proofs.Common.{◌≡◌, ◌≢◌, sym, subst, refl, ◌∙◌, ap, ℕ, ◌<◌, ◌+◌, arith, List, [], ◌∷◌, Option, Some, None}
use Rattle.atomic_table.specs.Seated.{TableId}
use Rattle.oss_code.specs.declared.code.CodeParts.{CodeParts}
use Rattle.oss_jobs.specs.declared.job.Job.{Job}
use Rattle.oss_words.specs.declared.entry.After.{After}
use Rattle.oss_words.specs.declared.entry.After.TheVariants.{FirstOf, FirstOfMain, Sibling}
use Rattle.oss_words.specs.declared.entry.EntryInfo.{EntryInfo}
use Rattle.oss_words.specs.Bits.{FitsInfo, info_at, info_word, state_at}
use Rattle.oss_words.specs.Causes.{sent}
use Rattle.oss_words.specs.Steps.{no_flags}
use Rattle.oss_words.specs.Sums.{total}
use Rattle.oss_words.specs.Views.{Among, among_first, among_later}
use Rattle.oss_field.specs.declared.held.Held.{Held}
use Rattle.oss_field.specs.Asks.{AreInside, IsInside}
use Rattle.oss_field.specs.Hanging.{LinkSends, Linked, LinksAt, MayFollow, MayHead, StandsToLink, linked_at}
use Rattle.oss_field.specs.Known.{Holding, Known}
use Rattle.oss_field.specs.Linking.{IsFresh, MayLink, MayLinkFirst, clear_alone, linked_first, began_list, told_cell_of, told_clear, told_info, unlinked_beside, with_cell, with_info, with_state}
use Rattle.oss_field.specs.Masks.{child_mask, next_mask}
use Rattle.oss_field.specs.Messages.{Hangs, Learns, Ready, Settled, by_entry, by_last, informed}
use Rattle.oss_field.specs.Owning.{HasEntry, entry_of, site_of}
use Rattle.oss_field.specs.Standing.{carried}
use Rattle.oss_field.proofs.FirstLinkLemmas.{cell_written, changed, info_written, may_on}
use Rattle.oss_field.proofs.HangLemmas.{has_entry}
use Rattle.oss_field.proofs.LooseLemmas.{beside_refill}
use Rattle.oss_field.proofs.MessageLemmas.{learns_one, settled_on, still_bounded}
use Rattle.oss_field.proofs.SameLemmas.{linked_messages}
use Rattle.oss_field.proofs.TableLemmas.{among_at}

-- Fills

-- Words of the entry were written, and the seat knows nothing else that is new.
record Filled (e : ℕ) (a b : Known) : Type 0 where
  same : b ≡ record a { unlinked = b.unlinked; word = b.word; found = b.found }
  beside : unlinked_beside e b.unlinked ≡ unlinked_beside e a.unlinked

filled_info : (m e w : ℕ) (a b : Known) → b ≡ told_info m e w a → Filled e a b
filled_info m e w a b known = subst (λ (z : Known). Filled e a z) (sym known) (record { same = refl; beside = beside_refill (with_info (info_at w)) e (λ z. refl) a.unlinked })

filled_cell : (m e : ℕ) (cell : Option ℕ) (a b : Known) → b ≡ told_cell_of m e cell a → Filled e a b
filled_cell m e None a b known = subst (λ (z : Known). Filled e a z) (sym known) (record { same = refl; beside = refl })
filled_cell m e (Some c) a b known = subst (λ (z : Known). Filled e a z) (sym known) (record { same = refl; beside = beside_refill (with_cell c) e (λ z. refl) a.unlinked })

filled_clear : (m e : ℕ) (a b : Known) → b ≡ told_clear m e a → Filled e a b
filled_clear m e a b known = subst (λ (z : Known). Filled e a z) (sym known) (record { same = refl; beside = beside_refill (with_state clear_alone) e (λ z. refl) a.unlinked })

filled_then : (e : ℕ) (a b c : Known) → Filled e a b → Filled e b c → Filled e a c
filled_then e a b c p q = record { same = q.same ∙ (λ j. record (p.same j) { unlinked = c.unlinked; word = c.word; found = c.found }); beside = q.beside ∙ p.beside }

-- the read of an info word leaves what is not linked
pub fresh_read : (m o w t e : ℕ) (k l : Known) → l ≡ informed m o w k → IsFresh t e None None k → IsFresh t e None None l
fresh_read m o w t e k l known fresh = subst (λ (z : Known). IsFresh t e None None z) (sym known) fresh

-- What is asked

module _ (code : CodeParts) (job : Job) (e : ℕ) (i : EntryInfo) (cell : Option ℕ) (k : Known) where
  pub may_first : StandsToLink code job e i cell FirstOfMain k → MayLinkFirst code e i cell k
  may_first s = record { may = s.may; fresh = s.fresh; main = s.names.0; none = s.names.1 }

  pub last_hangs : (o : ℕ) → StandsToLink code job e i cell (Sibling o) k → Hangs k o
  last_hangs o s = by_last s.may.place s.may.holding s.may.holds (site_of cell) s.names

  -- what is named as its parent is the parent that its info tells
  pub parent_named : (after : After) (q : ℕ) → after ≡ FirstOf q → StandsToLink code job e i cell after k → StandsToLink code job e i cell (FirstOf i.parent) k
  parent_named after q is s =
      let t : StandsToLink code job e i cell (FirstOf q) k = subst (λ (z : After). StandsToLink code job e i cell z k) is s in
      subst (λ (z : ℕ). StandsToLink code job e i cell (FirstOf z) k) t.names.2 t

  pub parent_hangs : StandsToLink code job e i cell (FirstOf i.parent) k → Hangs k i.parent
  parent_hangs s = by_entry s.may.place s.may.holding s.may.holds s.names.0 cell (has_entry code e i cell k s.may) (sym (s.may.of_task s.names.0))

  module _ (d : TableId) (n : ℕ) (slots : d.slots ≡ n) (inside : AreInside d k.bears) where
    held_inside : (s : MayLink code e i cell k) → IsInside d s.holding
    held_inside s = inside s.holding (among_at k.bears s.place s.holding s.holds)

    pub last_inside : (o : ℕ) → StandsToLink code job e i cell (Sibling o) k → o < n
    last_inside o s = subst (λ (z : ℕ). o < z) slots ((held_inside s.may).lasts (site_of cell) o s.names)

    entry_inside : (h : Holding) (o : Option ℕ) → IsInside d h → h.number ≢ 0 → HasEntry h o → entry_of h o < d.slots
    entry_inside h None within number has = within.number
    entry_inside h (Some c) within number has = within.entries number c has.0 has.1 has.2

    pub parent_inside : StandsToLink code job e i cell (FirstOf i.parent) k → i.parent < n
    parent_inside s =
        subst (λ (z : ℕ). i.parent < z) slots
        (subst (λ (z : ℕ). z < d.slots) (sym (s.may.of_task s.names.0)) (entry_inside s.may.holding cell (held_inside s.may) s.names.0 (has_entry code e i cell k s.may)))

  -- The words are written, and then the link is set

  module _ (m o w wi : ℕ) (k1 k2 k3 : Known) (whole : k.words.half ≡ []) (fits : FitsInfo i) (word : wi ≡ info_word i) (read : k1 ≡ informed m o w k) (first : k2 ≡ told_info m e wi k1) (second : k3 ≡ told_cell_of m e cell k2) where
    written : Filled e k1 k3
    written = filled_then e k1 k2 k3 (filled_info m e wi k1 k2 first) (filled_cell m e cell k2 k3 second)

    loose_now : IsFresh i.task e None None k → Among (record { task = i.task; entry = e; state = no_flags; info = Some i; cell = cell }) k3.unlinked
    loose_now fresh = cell_written m e i.task i cell k2 k3 (info_written m e i.task i wi k1 k2 fits word (fresh_read m o w i.task e k k1 read fresh) first) second

    -- what is so of any fills
    module _ (kf : Known) (filled : Filled e k1 kf) where
      told_there : Among (record { entry = o; info = info_at w }) kf.told
      told_there = subst (λ (z : Known). Among (record { entry = o; info = info_at w }) z.told) (sym filled.same) (subst (λ (z : Known). Among (record { entry = o; info = info_at w }) z.told) (sym read) (among_first refl))

      abbrev may_now : MayLink code e i cell k → MayLink code e i cell kf
      may_now may = may_on code e i cell k kf
          (ap (λ (z : Known). z.bears) filled.same ∙ ap (λ (z : Known). z.bears) read)
          (ap (λ (z : Known). z.makes) filled.same ∙ ap (λ (z : Known). z.makes) read)
          (ap (λ (z : Known). z.plans) filled.same ∙ ap (λ (z : Known). z.plans) read) may

      empty_now : k.words.held ≡ [] → kf.words.held ≡ []
      empty_now empty = ap (λ (z : Known). z.words.held) filled.same ∙ (ap (λ (z : Known). z.words.held) read ∙ empty)

      whole_now : kf.words.half ≡ []
      whole_now = ap (λ (z : Known). z.words.half) filled.same ∙ (ap (λ (z : Known). z.words.half) read ∙ whole)

    pub may_follow : StandsToLink code job e i cell (Sibling o) k → MayFollow code e o w i cell k3
    may_follow s = record {
      may = may_now k3 written s.may;
      loose = loose_now s.fresh;
      last = s.names;
      told = told_there k3 written;
      empty = empty_now k3 written s.empty;
      whole = whole_now k3 written;
    }

    -- the state word of a first child is written, too
    pub clear_fresh : StandsToLink code job e i cell (FirstOf o) k → IsFresh i.task e (Some i) cell k3
    clear_fresh s = loose_now s.fresh

    module _ (k4 : Known) (third : k4 ≡ told_clear m e k3) where
      cleared : Filled e k1 k4
      cleared = filled_then e k1 k3 k4 written (filled_clear m e k3 k4 third)

      loose_clear : IsFresh i.task e None None k → Among (record { task = i.task; entry = e; state = clear_alone; info = Some i; cell = cell }) k4.unlinked
      loose_clear fresh =
          subst (λ (z : Known). Among (record { task = i.task; entry = e; state = clear_alone; info = Some i; cell = cell }) z.unlinked) (sym third)
          (changed (with_state clear_alone) k3.unlinked (record { task = i.task; entry = e; state = no_flags; info = Some i; cell = cell }) (loose_now fresh))

      pub may_head : o ≡ i.parent → StandsToLink code job e i cell (FirstOf o) k → MayHead code e w i cell k4
      may_head same s = record {
        may = may_now k4 cleared s.may;
        loose = loose_clear s.fresh;
        below_main = s.names.0;
        none = s.names.1;
        told = subst (λ (z : ℕ). Among (record { entry = z; info = info_at w }) k4.told) same (told_there k4 cleared);
        empty = empty_now k4 cleared s.empty;
        whole = whole_now k4 cleared;
      }

    -- after the link, and once what it has completed is held
    module _ (n by found : ℕ) (kf ks : Known) (filled : Filled e k1 kf) (step : LinksAt n m e o w by found kf ks) where
      told_is : ks.told ≡ record { entry = o; info = info_at w } ∷ k.told
      told_is = ap (λ (z : Known). z.told) step.known ∙ (ap (λ (z : Known). z.told) filled.same ∙ ap (λ (z : Known). z.told) read)

      told_then : Among (record { entry = o; info = info_at w }) ks.told
      told_then = subst (λ z. Among (record { entry = o; info = info_at w }) z) (sym told_is) (among_first refl)

      ready_then : (held : List Held) → Ready held [] k → k.words.held ≡ [] → Ready held (sent o (state_at found) (state_at (found + by)) (info_at w)) ks
      ready_then held ready none = record {
        same = λ h. let a = ready.same h in let b = ap (λ z. total h z) none in let d = ap (λ (z : Known). total h z.words.held) step.known in omega (arith, a, b, d);
        told = λ x among. subst (λ z. Among (record { entry = x.entry; info = info_at x.info }) z) (sym told_is) (among_later (ready.told x among));
      }

      module _ (kl : Known) (learns : Learns ks kl) where
        known_then : kl ≡ record k { words = record k.words { held = sent o (state_at found) (state_at (found + by)) (info_at w) }; unlinked = unlinked_beside e k.unlinked; told = kl.told; word = kl.word; found = kl.found }
        known_then =
            learns.same
            ∙ ((λ j. record (step.known j) { told = kl.told; word = kl.word; found = kl.found })
            ∙ ((λ j. record (linked_at m e o w by found (filled.same j)) { told = kl.told; word = kl.word; found = kl.found })
            ∙ ((λ j. record k1 { words = record k1.words { held = sent o (state_at found) (state_at (found + by)) (info_at w) }; unlinked = filled.beside j; told = kl.told; word = kl.word; found = kl.found })
            ∙ (λ j. record (read j) { words = record (read j).words { held = sent o (state_at found) (state_at (found + by)) (info_at w) }; unlinked = unlinked_beside e (read j).unlinked; told = kl.told; word = kl.word; found = kl.found }))))

        linked_then : (after : After) → LinkSends kl e i (sent o (state_at found) (state_at (found + by)) (info_at w)) after → Linked e i after k kl
        linked_then after sends = record {
          held = sent o (state_at found) (state_at (found + by)) (info_at w);
          sends = sends;
          known = known_then;
          kept = λ t a. learns.told t (subst (λ z. Among t z) (sym told_is) (among_later a));
        }

        told_last : Among (record { entry = o; info = info_at w }) kl.told
        told_last = learns.told (record { entry = o; info = info_at w }) told_then

        settled_then : (left held : List Held) → Settled left n k → ((j : EntryInfo) → Among (record { entry = o; info = j }) k.told → info_at w ≡ j) → Ready held [] kl → Settled held n kl
        settled_then left held s again ready = record {
          ready = ready;
          bounded = still_bounded n ks kl learns step.bounded;
          whole = ap (λ (z : Known). z.words.half) known_then ∙ s.whole;
          unjoined = ap (λ (z : Known). z.joined) known_then ∙ s.unjoined;
          unowed = ap (λ (z : Known). z.owes) known_then ∙ s.unowed;
          one = learns.one (λ g a b x y. (learns_one m k o w again).one s.one g a b (subst (λ z. Among (record { entry = g; info = a }) z) told_is x) (subst (λ z. Among (record { entry = g; info = b }) z) told_is y));
        }

    -- behind a sibling
    module _ (n by found : ℕ) (ks : Known) (step : LinksAt n m e o w by found k3 ks) where
      pub behind_told : Among (record { entry = o; info = info_at w }) ks.told
      behind_told = told_then n by found k3 ks written step

      pub behind_ready : (held : List Held) → Ready held [] k → k.words.held ≡ [] → Ready held (sent o (state_at found) (state_at (found + by)) (info_at w)) ks
      behind_ready = ready_then n by found k3 ks written step

      pub behind_linked : (kl : Known) → Learns ks kl → by ≡ next_mask e (info_at w).mode i.mode → Linked e i (Sibling o) k kl
      behind_linked kl learns mask = linked_then n by found k3 ks written step kl learns (Sibling o)
          (w, found, told_last n by found k3 ks written step kl learns, ap (λ (z : ℕ). sent o (state_at found) (state_at (found + z)) (info_at w)) mask)

      pub behind_settled : (kl : Known) → Learns ks kl → (left held : List Held) → Settled left n k → ((j : EntryInfo) → Among (record { entry = o; info = j }) k.told → info_at w ≡ j) → Ready held [] kl → Settled held n kl
      behind_settled kl learns = settled_then n by found k3 ks written step kl learns

    -- below a parent
    module _ (k4 : Known) (third : k4 ≡ told_clear m e k3) (n by found : ℕ) (ks : Known) (step : LinksAt n m e o w by found k4 ks) where
      pub below_told : Among (record { entry = o; info = info_at w }) ks.told
      below_told = told_then n by found k4 ks (cleared k4 third) step

      pub below_ready : (held : List Held) → Ready held [] k → k.words.held ≡ [] → Ready held (sent o (state_at found) (state_at (found + by)) (info_at w)) ks
      below_ready = ready_then n by found k4 ks (cleared k4 third) step

      pub below_linked : (kl : Known) → Learns ks kl → by ≡ child_mask e (info_at w).mode i.mode → Linked e i (FirstOf o) k kl
      below_linked kl learns mask = linked_then n by found k4 ks (cleared k4 third) step kl learns (FirstOf o)
          (w, found, told_last n by found k4 ks (cleared k4 third) step kl learns, ap (λ (z : ℕ). sent o (state_at found) (state_at (found + z)) (info_at w)) mask)

      pub below_settled : (kl : Known) → Learns ks kl → (left held : List Held) → Settled left n k → ((j : EntryInfo) → Among (record { entry = o; info = j }) k.told → info_at w ≡ j) → Ready held [] kl → Settled held n kl
      below_settled kl learns = settled_then n by found k4 ks (cleared k4 third) step kl learns

-- a list of main

pub top_linked : (m e : ℕ) (i : EntryInfo) (k l : Known) → l ≡ linked_first m e k → k.words.held ≡ [] → Linked e i FirstOfMain k l
top_linked m e i k l known empty =
    subst (λ (z : Known). Linked e i FirstOfMain k z) (sym known) (record { held = []; sends = refl; known = λ j. record (began_list m e k) { words = record k.words { held = empty j } }; kept = λ t a. a })

pub top_settled : (m e n : ℕ) (held : List Held) (k l : Known) → l ≡ linked_first m e k → Settled held n k → Settled held n l
top_settled m e n held k l known s = settled_on held n k l (linked_messages m e k l known) s

-- the jobs that the seat holds after a link

pub linked_slots : (e : ℕ) (i : EntryInfo) (after : After) (k l : Known) → Linked e i after k l → carried l.bears ≡ carried k.bears
linked_slots e i after k l linked = ap (λ (z : Known). carried z.bears) linked.known

pub linked_inside : (d : TableId) (e : ℕ) (i : EntryInfo) (after : After) (k l : Known) → AreInside d k.bears → Linked e i after k l → AreInside d l.bears
linked_inside d e i after k l inside linked = subst (λ (z : Known). AreInside d z.bears) (sym linked.known) inside
