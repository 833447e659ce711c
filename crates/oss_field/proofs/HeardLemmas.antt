-- What seats were told of entries stays so.
use Rattle.std.proofs.Common.{◌≡◌, ◌≢◌, ◌⊎◌, inl, inr, sym, subst, ◌∙◌, ℕ, List, set}
use mathlib.Core.Option as maybe
use lib.ListN.{get_elem?}
use Rattle.atomic_table.proofs.Lists.{at_set}
use Rattle.oss_words.specs.declared.entry.EntryInfo.{EntryInfo}
use Rattle.oss_words.specs.Net.{Net, apart}
use Rattle.oss_words.specs.Views.{Among}
use Rattle.oss_field.specs.declared.view.SeatView.{SeatView}
use Rattle.oss_field.specs.Heard.{Told}
use Rattle.oss_field.specs.Known.{Known}
use Rattle.oss_field.specs.Messages.{AreHeard}

-- after a step of one seat, if what it was told that is new is so, and the info words of entries that hang are as they were
pub heard_on : (net : Net) (infos infos' : ℕ → EntryInfo) (views : List SeatView) (id : ℕ) (v : SeatView) (l : Known) → get_elem? views id ≡ maybe.some v
    → ((t : Told) → Among t l.told → Among t v.known.told ⊎ ((net.place t.entry ≢ apart) × (infos' t.entry ≡ t.info)))
    → ((e : ℕ) → net.place e ≢ apart → infos' e ≡ infos e)
    → AreHeard net infos views → AreHeard net infos' (set views id (record { known = l }))
heard_on net infos infos' views id v l sits fresh same heard = record {
  told = λ j x at t a. elim (at_set views id j (record { known = l }) x at) [
    | inl h ↦ elim (fresh t (subst (λ (z : SeatView). Among t z.known.told) (sym h.1) a)) [
      | inl old ↦ let k = heard.told id v sits t old in (k.0, same t.entry k.0 ∙ k.1)
      | inr new ↦ new
    ]
    | inr h ↦ let k = heard.told j x h.1 t a in (k.0, same t.entry k.0 ∙ k.1)
  ];
}

-- if the seat was told nothing
pub heard_same : (net : Net) (infos infos' : ℕ → EntryInfo) (views : List SeatView) (id : ℕ) (v : SeatView) (l : Known) → get_elem? views id ≡ maybe.some v → l.told ≡ v.known.told
    → ((e : ℕ) → infos' e ≡ infos e) → AreHeard net infos views → AreHeard net infos' (set views id (record { known = l }))
heard_same net infos infos' views id v l sits told same heard = heard_on net infos infos' views id v l sits (λ t a. inl (subst (λ (z : List Told). Among t z) told a)) (λ e h. same e) heard
