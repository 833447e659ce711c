-- A net in which one more entry hangs, and a table behind the step that hangs it.
use Rattle.std.proofs.Common.{◌≡◌, ◌≢◌, ◌⊎◌, inl, inr, sym, subst, refl, ◌∙◌, ap, ℕ, ◌<◌, Bool, true, false, ◌==◌, cond, List, [], ◌∷◌, set}
use Rattle.std.specs.Prelude.{slice_index}
use Rattle.std.proofs.lemmas.Bool.Decides.{eqb_tells}
use Rattle.oss_syntax.specs.declared.access.Mode.{Mode}
use Rattle.oss_words.specs.declared.entry.EntryState.{EntryState}
use Rattle.oss_words.specs.declared.entry.EntryInfo.{EntryInfo}
use Rattle.oss_words.specs.Bits.{FitsWord}
use Rattle.oss_words.specs.Net.{Net, Place, apart, top, first, after}
use Rattle.oss_words.specs.Rule.{Rule}
use Rattle.oss_words.specs.Steps.{no_flags}
use Rattle.oss_words.specs.Views.{Among, among_first, among_later}
use Rattle.oss_words.proofs.CauseLemmas.{clash}
use Rattle.oss_words.proofs.SumLemmas.{same_number}
use Rattle.oss_word_net.specs.declared.sight.Sight.{Sight}
use Rattle.oss_word_net.specs.Known.{Told, Filling}
use Rattle.oss_word_net.specs.Table.{states_of, infos_of, views_of, Sits, Neat, filled, Stands}
use mathlib.Core.Option as maybe
use lib.ListN.{get_elem?}
use Rattle.oss_word_net.proofs.TableLemmas.{view_at, still_filled}
use Rattle.oss_word_net.proofs.WordLemmas.{after as behind, apart_from, word_stands}

-- a function with another value at one number
abbrev pub put : {A : Type 0} → (ℕ → A) → ℕ → A → ℕ → A
put f e a j = cond (j == e) a (f j)

pub put_here : {A : Type 0} (f : ℕ → A) (e : ℕ) (a : A) → put f e a e ≡ a
put_here f e a = go (e == e) (eqb_tells e e)
  where
    go : (b : Bool) → ((b ≡ true) × (e ≡ e)) ⊎ ((b ≡ false) × (e ≢ e)) → cond b a (f e) ≡ a
    go true t = refl
    go false (inl t) = absurd (clash t.0 refl)
    go false (inr t) = absurd (t.1 refl)

pub put_else : {A : Type 0} (f : ℕ → A) (e : ℕ) (a : A) (j : ℕ) → j ≢ e → put f e a j ≡ f j
put_else f e a j ne = go (j == e) (eqb_tells j e)
  where
    go : (b : Bool) → ((b ≡ true) × (j ≡ e)) ⊎ ((b ≡ false) × (j ≢ e)) → cond b a (f j) ≡ f j
    go true (inl t) = absurd (ne t.1)
    go true (inr t) = absurd (clash refl t.0)
    go false t = refl

-- the net with the entry e hung up
abbrev pub placed : Net → ℕ → Place → ℕ → ℕ → ℕ → Mode → Net
placed net e p parent lead depth mode = record {
  place = put net.place e p;
  parent = put net.parent e parent;
  lead = put net.lead e lead;
  depth = put net.depth e depth;
  mode = put net.mode e mode;
  last = put net.last parent e;
}

pub apart_or : (p : Place) → (p ≡ apart) ⊎ (p ≢ apart)
apart_or apart = inl refl
apart_or top = inr (λ q. absurd (cc))
apart_or (first p) = inr (λ q. absurd (cc))
apart_or (after s) = inr (λ q. absurd (cc))

module _ (n : ℕ) (ws : List ℕ) (sights : List Sight) (stands : Stands n ws sights) (id : ℕ) (s : Sight) (at : Sits sights id s) where
  -- an own entry with no link hangs nowhere
  pub own_apart : (e : ℕ) → Among e s.known.view.owned → ((p : Place) → Among (record { entry = e; place = p }) s.known.view.links → ⊥) → stands.net.place e ≡ apart
  own_apart e own none = elim (apart_or (stands.net.place e)) [
    | inl q ↦ q
    | inr ne ↦ absurd (none (stands.net.place e) (stands.rule.seats.own_link id s.known.view (view_at sights id s at) e own ne))
  ]

  -- and where its seat fills nothing, its word has no flag
  pub own_blank : (e : ℕ) → Among e s.known.view.owned → stands.net.place e ≡ apart → s.known.filling ≡ [] → states_of ws e ≡ no_flags
  own_blank e own loose none = elim (stands.blank e loose) [
    | inl q ↦ q
    | inr f ↦ elim f [
      | filled j t sits g gs q is ↦
          let theirs = ((stands.knows j t sits).filling g gs q).1 in
          let same = stands.rule.seats.one_owner j id t.known.view s.known.view (view_at sights j t sits) (view_at sights id s at) e (subst (λ (z : ℕ). Among z t.known.view.owned) is theirs) own in
          let here : t ≡ s = maybe.some-injective t s (sym sits ∙ (ap (λ (k : ℕ). get_elem? sights k) same ∙ at)) in
          let clash_is : g ∷ gs ≡ [] = sym q ∙ (ap (λ (z : Sight). z.known.filling) here ∙ none) in absurd (cc)
    ]
  ]

-- a table behind the step that makes c the state of the entry o and hangs e
module _ (n : ℕ) (ws : List ℕ) (sights : List Sight) (stands : Stands n ws sights) (id : ℕ) (s s' : Sight) (at : Sits sights id s) (o : ℕ) (inside : o < n) (c : EntryState) (fits : FitsWord c) (neat : Neat c)
    (e : ℕ) (p : Place) (parent lead depth : ℕ) (mode : Mode) (i : EntryInfo) (hangs : p ≢ apart) (own : Among e s.known.view.owned) (source : (stands.net.place o ≢ apart) ⊎ (o ≡ e)) where
  abbrev pub net' : Net
  net' = placed stands.net e p parent lead depth mode

  still : (j : ℕ) → stands.net.place j ≢ apart → net'.place j ≢ apart
  still j h = elim (same_number j e) [
    | inl q ↦ λ z. hangs (sym (ap (λ (k : ℕ). net'.place k) q ∙ put_here stands.net.place e p) ∙ z)
    | inr ne ↦ λ z. h (sym (put_else stands.net.place e p j ne) ∙ z)
  ]

  new_hangs : net'.place e ≢ apart
  new_hangs z = hangs (sym (put_here stands.net.place e p) ∙ z)

  -- what hangs nowhere yet is neither
  loose_is : (j : ℕ) → net'.place j ≡ apart → (stands.net.place j ≡ apart) × (j ≢ e) × (j ≢ o)
  loose_is j a =
      let ne : j ≢ e = λ q. new_hangs (ap (λ (k : ℕ). net'.place k) (sym q) ∙ a) in
      let old = sym (put_else stands.net.place e p j ne) ∙ a in
      (old, ne, λ q. elim source [ inl h ↦ h (ap (λ (k : ℕ). stands.net.place k) (sym q) ∙ old) | inr g ↦ ne (q ∙ g) ])

  pub placed_stands : Rule n net' stands.gave (states_of (behind n ws sights stands id s s' at o inside c fits neat)) (infos_of ws) (slice_index ws 0) (set (views_of sights) id s'.known.view)
      → infos_of ws e ≡ i → s'.known.told ≡ record { entry = e; info = i } ∷ s.known.told → s'.known.filling ≡ []
      → s'.known.entries ≡ s.known.entries → s'.known.view.parts ≡ s.known.view.parts → s'.known.view.splits ≡ s.known.view.splits → s.known.view.parts ≢ 0
      → ((f : Filling) (fs : List Filling) → s.known.filling ≡ f ∷ fs → f.entry ≡ e) → Stands n (behind n ws sights stands id s s' at o inside c fits neat) (set sights id s')
  placed_stands rule info told filling entries parts splits live mine = word_stands n ws sights stands id s s' at o inside c fits neat net' stands.gave rule still
      (λ j a m.
      let ne : j ≢ e = λ q. m (subst (λ (k : ℕ). Among k s.known.view.owned) (sym q) own) in
      (put_else stands.net.place e p j ne ∙ a, λ q. elim source [ inl h ↦ h (ap (λ (k : ℕ). stands.net.place k) (sym q) ∙ a) | inr g ↦ ne (q ∙ g) ]))
      record {
        told = λ t m. elim (subst (λ z. Among t z) told m) [
          | among_first q ↦ subst (λ (z : Told). (net'.place z.entry ≢ apart) × (infos_of ws z.entry ≡ z.info)) q (new_hangs, info)
          | among_later k ↦ let old = (stands.knows id s at).told t k in (still t.entry old.0, old.1)
        ];
        filling = λ f fs q. let z : f ∷ fs ≡ [] = sym q ∙ filling in absurd (cc);
        entries = λ ne. entries ∙ (stands.knows id s at).entries (λ z. ne (parts ∙ z));
        spent = λ z. absurd (live (sym parts ∙ z));
      }
      parts splits
      (λ j a.
      let k = loose_is j a in
      elim (stands.blank j k.0) [
        | inl q ↦ inl (apart_from n ws sights stands id s s' at o inside c fits neat j k.2 ∙ q)
        | inr f ↦ inr (still_filled sights id s s' j at f (λ g gs q is. absurd (k.1 (sym is ∙ mine g gs q))))
      ])
