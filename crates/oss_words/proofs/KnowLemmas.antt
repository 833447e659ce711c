-- What an owner knows: where its view names no link there, nothing hangs there, and the word has no link; where it names no give, there was none.
use Rattle.std.proofs.Common.{◌≡◌, ◌≢◌, ◌⊎◌, inl, inr, sym, subst, refl, ◌∙◌, ap, ℕ, ◌<◌, Bool, true, false, not, ◌&&◌, ◌==◌, List}
use Rattle.oss_words.specs.declared.entry.EntryState.{EntryState}
use Rattle.oss_words.specs.declared.entry.EntryInfo.{EntryInfo}
use Rattle.oss_words.specs.Net.{Net, apart, first, after}
use Rattle.oss_words.specs.Rule.{Rule}
use Rattle.oss_words.specs.Views.{View, Among, At}
use Rattle.oss_words.proofs.CauseLemmas.{clash, bools}

module _ (n draw : ℕ) (net : Net) (gave : ℕ → Bool) (states : ℕ → EntryState) (infos : ℕ → EntryInfo) (views : List View) (rule : Rule n net gave states infos draw views) where
  pub no_sibling_hangs : (id : ℕ) (v : View) (o : ℕ) → At views id v → Among (net.parent o) v.owned → ((j : ℕ) → Among (record { entry = j; place = after o }) v.links → ⊥) → (j : ℕ) → net.place j ≢ after o
  no_sibling_hangs id v o at own none j p =
      let up = (rule.kept.flow.words.shaped.level j o (rule.kept.flow.words.shaped.behind o j p)).1 in
      none j (subst (λ x. Among (record { entry = j; place = x }) v.links) p (rule.seats.own_children id v at (net.parent o) own j (λ q. let z : after o ≡ apart = sym p ∙ q in cc) up))

  pub no_child_hangs : (id : ℕ) (v : View) (o : ℕ) → At views id v → Among o v.owned → ((j : ℕ) → Among (record { entry = j; place = first o }) v.links → ⊥) → (j : ℕ) → net.place j ≢ first o
  no_child_hangs id v o at own none j p =
      let up = (rule.kept.flow.words.shaped.under o j p).0 in
      none j (subst (λ x. Among (record { entry = j; place = x }) v.links) p (rule.seats.own_children id v at o own j (λ q. let z : first o ≡ apart = sym p ∙ q in cc) up))

  pub not_given : (id : ℕ) (v : View) (e : ℕ) → At views id v → Among e v.owned → (Among e v.gives → ⊥) → (states e).given ≡ false
  not_given id v e at own none = elim (bools (states e).given) [
    | inl g ↦ absurd (none (rule.seats.own_give id v at e own (sym (rule.kept.given e (rule.seats.owned_drawn id v at e own).1) ∙ g)))
    | inr g ↦ g
  ]

  pub last_unlinked : (o : ℕ) → net.place o ≢ apart → ((j : ℕ) → net.place j ≢ after o) → (states (net.parent o)).given ≡ false → (states o).linked ≡ false
  last_unlinked o h none open_yet = elim (bools (states o).linked) [
    | inl l ↦ absurd (leads l ((states o).next == (infos o).parent) refl)
    | inr l ↦ l
  ]
    where
      inside : o < n
      inside = rule.kept.flow.words.inside o h

      both : (x y : Bool) → x ≡ true → y ≡ true → (x && y) ≡ true
      both true y e f = f
      both false y e f = absurd (clash e refl)

      leads : (states o).linked ≡ true → (b : Bool) → ((states o).next == (infos o).parent) ≡ b → ⊥
      leads l true q =
          let up = (rule.kept.flow.words.parents o inside (both (states o).linked ((states o).next == (infos o).parent) l q)).2 in
          clash (subst (λ (x : ℕ). (states x).given ≡ true) (rule.kept.flow.words.told o h) up) open_yet
      leads l false q = none (states o).next ((rule.kept.flow.words.wired o inside).sibling (both (states o).linked (not ((states o).next == (infos o).parent)) l (ap (λ (z : Bool). not z) q)))

  pub childless_unheaded : (o : ℕ) → o < n → ((j : ℕ) → net.place j ≢ first o) → (states o).headed ≡ false
  childless_unheaded o inside none = elim (bools (states o).headed) [
    | inl b ↦ absurd (none (states o).child ((rule.kept.flow.words.wired o inside).child b))
    | inr b ↦ b
  ]

  pub ungiven_undone : (e : ℕ) → e < n → (states e).given ≡ false → (states e).done ≡ false
  ungiven_undone e inside g = elim (bools (states e).done) [
    | inl b ↦ absurd (clash (rule.kept.flow.words.finished e inside b) g)
    | inr b ↦ b
  ]
