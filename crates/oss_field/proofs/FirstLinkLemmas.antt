-- The three steps by which an entry begins a list of main, one after the other.
use Rattle.std.proofs.Common.{◌≡◌, inl, inr, sym, subst, refl, ◌∙◌, ap, ℕ, List, Option, Some, None}
use mathlib.Core.Option as maybe
use lib.ListN.{get_elem?}
use Rattle.oss_code.specs.declared.code.CodeParts.{CodeParts}
use Rattle.oss_words.specs.declared.entry.EntryInfo.{EntryInfo}
use Rattle.oss_words.specs.Bits.{FitsInfo, info_at, info_word}
use Rattle.oss_words.specs.Steps.{no_flags}
use Rattle.oss_words.specs.Views.{Among}
use Rattle.oss_words.proofs.BitLemmas.{infos_are_read}
use Rattle.oss_roles.specs.Sights.{Making}
use Rattle.oss_field.specs.Known.{Holding, Known, Plan, Unlinked}
use Rattle.oss_field.specs.Layout.{state_word_of}
use Rattle.oss_field.specs.Linking.{IsFresh, MayBeginList, MayLink, MayLinkFirst, began_list, linked_first, refill, told_cell_of, told_info, with_cell, with_info}
use Rattle.oss_field.specs.Moves.{touched}
use Rattle.oss_field.proofs.LooseLemmas.{beside_refill, refill_kept}

-- the entry that is written is among those that are not linked, as it is then
pub changed : (up : Unlinked → Unlinked) (l : List Unlinked) (z : Unlinked) → Among z l → Among (up z) (refill up z.entry l)
changed up l z a = elim (refill_kept up z.entry l z a) [ inl r ↦ absurd (r.1 refl) | inr r ↦ r.0 ]

pub info_written : (m e t : ℕ) (i : EntryInfo) (w : ℕ) (k l : Known) → FitsInfo i → w ≡ info_word i → IsFresh t e None None k → l ≡ told_info m e w k → IsFresh t e (Some i) None l
info_written m e t i w k l fits word fresh known =
    let z : Unlinked = record { task = t; entry = e; state = no_flags; info = None; cell = None } in
    let read : info_at w ≡ i = ap info_at word ∙ infos_are_read i fits in
    subst (λ (x : Known). IsFresh t e (Some i) None x) (sym known)
    (subst (λ (x : EntryInfo). Among (record { task = t; entry = e; state = no_flags; info = Some x; cell = None }) (refill (with_info (info_at w)) e k.unlinked)) read
    (changed (with_info (info_at w)) k.unlinked z fresh))

pub cell_written : (m e t : ℕ) (i : EntryInfo) (cell : Option ℕ) (k l : Known) → IsFresh t e (Some i) None k → l ≡ told_cell_of m e cell k → IsFresh t e (Some i) cell l
cell_written m e t i None k l fresh known = subst (λ (x : Known). IsFresh t e (Some i) None x) (sym known) fresh
cell_written m e t i (Some c) k l fresh known =
    subst (λ (x : Known). IsFresh t e (Some i) (Some c) x) (sym known)
    (changed (with_cell c) k.unlinked (record { task = t; entry = e; state = no_flags; info = Some i; cell = None }) fresh)

-- the rest of what the seat knows is as it was
pub cell_bears : (m e : ℕ) (cell : Option ℕ) (k : Known) → ((told_cell_of m e cell k).bears ≡ k.bears) × ((told_cell_of m e cell k).makes ≡ k.makes) × ((told_cell_of m e cell k).plans ≡ k.plans)
cell_bears m e None k = (refl, refl, refl)
cell_bears m e (Some c) k = (refl, refl, refl)

-- so the entry may still be linked
abbrev pub may_on : (code : CodeParts) (e : ℕ) (i : EntryInfo) (cell : Option ℕ) (k l : Known) → l.bears ≡ k.bears → l.makes ≡ k.makes → l.plans ≡ k.plans → MayLink code e i cell k → MayLink code e i cell l
may_on code e i cell k l bears makes plans may = record {
  place = may.place;
  holding = may.holding;
  order = may.order;
  stage = may.stage;
  holds = subst (λ (z : List Holding). get_elem? z may.place ≡ maybe.some may.holding) (sym bears) may.holds;
  act = may.act;
  among = subst (λ (z : List Making). Among (record { by = may.holding.number; task = i.task; stage = may.stage }) z) (sym makes) may.among;
  plan = subst (λ (z : List Plan). Among (record { task = i.task; holding = may.holding; order = may.order }) z) (sym plans) may.plan;
  entry = may.entry;
  depth = may.depth;
  of_main = may.of_main;
  of_task = may.of_task;
  above = may.above;
}

pub may_begin : (code : CodeParts) (m e : ℕ) (i : EntryInfo) (w : ℕ) (cell : Option ℕ) (k a b : Known) → FitsInfo i → w ≡ info_word i → MayLinkFirst code e i cell k → a ≡ told_info m e w k → b ≡ told_cell_of m e cell a → MayBeginList code e i cell b
may_begin code m e i w cell k a b fits word may first second =
    let s = cell_bears m e cell a in record {
      may = may_on code e i cell k b
          (ap (λ (x : Known). x.bears) second ∙ (s.0 ∙ ap (λ (x : Known). x.bears) first))
          (ap (λ (x : Known). x.makes) second ∙ (s.1 ∙ ap (λ (x : Known). x.makes) first))
          (ap (λ (x : Known). x.plans) second ∙ (s.2 ∙ ap (λ (x : Known). x.plans) first)) may.may;
      loose = cell_written m e i.task i cell a b (info_written m e i.task i w k a fits word may.fresh first) second;
      main = may.main;
      none = may.none;
    }

pub linked_whole : (m e : ℕ) (w : ℕ) (cell : Option ℕ) (k a b l : Known) → a ≡ told_info m e w k → b ≡ told_cell_of m e cell a → l ≡ began_list m e b → l ≡ linked_first m e k
linked_whole m e w cell k a b l first second third = third ∙ (ap (λ (x : Known). began_list m e x) second ∙ (of_cell cell ∙ (ap (λ (x : Known). began_list m e x) first ∙ same (with_info (info_at w)) (λ z. refl) k)))
  where
    same : (up : Unlinked → Unlinked) → ((z : Unlinked) → (up z).entry ≡ z.entry) → (x : Known) → began_list m e (record x { unlinked = refill up e x.unlinked }) ≡ began_list m e x
    same up keeps x = ap (λ (l : List Unlinked). touched (state_word_of m e) 39 (record x { unlinked = l })) (beside_refill up e keeps x.unlinked)

    of_cell : (cell : Option ℕ) → began_list m e (told_cell_of m e cell a) ≡ began_list m e a
    of_cell None = refl
    of_cell (Some c) = same (with_cell c) (λ z. refl) a
