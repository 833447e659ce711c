-- What the words tell of a net in which all rows are linked and given up.
use Rattle.std.proofs.Common.{◌≡◌, ◌≢◌, ℕ, refl, sym, ap, ◌∙◌, Bool, true, false, List, [], ◌∷◌, Option, Some, None, length}
use Rattle.oss_words.specs.Net.{Place, apart, top, first, after}
use Rattle.oss_words.proofs.PlaceLaw.{looked_kept}
use Rattle.oss_word_net.specs.Calls.{place_of}
use Rattle.oss_word_net.specs.Ended.{Ended}
use Rattle.oss_word_net.specs.Known.{Known}
use Rattle.oss_filing.specs.declared.row.Row.{Row}
use Rattle.oss_filing.specs.Filed.{IsFiled, info_in, place_in, state_in}
use Rattle.oss_filing.specs.Owned.{HasGiven, HasLinked}
use Rattle.oss_filing.specs.Rows.{given_in, row_of}
use Rattle.oss_filing.proofs.Basics.{clash, none_some}
use Rattle.oss_filing.proofs.FollowLemmas.{row_within}

module _ (n : ℕ) (rows : List Row) (ws : List ℕ) (k : Known) (ended : Ended n ws k) (linked : HasLinked k rows (length rows)) (given : HasGiven k rows (length rows)) where
  -- what hangs has a row
  hung_row : (e : ℕ) → ended.net.place e ≢ apart → row_of rows e ≡ None → ⊥
  hung_row e h none = let l = linked.links e (ended.net.place e) (ended.links e h) in none_some (sym none ∙ l.is)

  unhung : (e : ℕ) (p : Place) → ended.net.place e ≡ p → row_of rows e ≡ None → ended.net.place e ≡ apart
  unhung e apart is none = is
  unhung e top is none = absurd (hung_row e (λ q. let z : top ≡ apart = sym is ∙ q in absurd (let bad : ⊥ = cc in bad)) none)
  unhung e (first p) is none = absurd (hung_row e (λ q. let z : first p ≡ apart = sym is ∙ q in absurd (let bad : ⊥ = cc in bad)) none)
  unhung e (after o) is none = absurd (hung_row e (λ q. let z : after o ≡ apart = sym is ∙ q in absurd (let bad : ⊥ = cc in bad)) none)

  place_is : (e : ℕ) (o : Option Row) → row_of rows e ≡ o → ended.net.place e ≡ place_in o
  place_is e None is = unhung e (ended.net.place e) refl is
  place_is e (Some r) is = (ended.linked e (place_of r.after) (linked.linked e r (row_within rows e r is).1 is)).0

  gave_is : (e : ℕ) (o : Option Row) → row_of rows e ≡ o → (b : Bool) → ended.gave e ≡ b → b ≡ given_in o
  gave_is e o is true g = sym (ap given_in (sym is) ∙ (given.gives e (ended.gives e g)).0)
  gave_is e None is false g = refl
  gave_is e (Some r) is false g = go r.given refl
    where
      go : (b : Bool) → r.given ≡ b → false ≡ b
      go false h = refl
      go true h = clash (ended.gave e) (ended.given e (given.given e (row_within rows e r is).1 (ap given_in is ∙ h))) g

  pub is_filed : IsFiled n rows ws
  is_filed = record {
    net = ended.net;
    gave = ended.gave;
    size = ended.size;
    kept = λ v none whole. looked_kept n ended.net ended.gave (state_in ws) (info_in ws) (k.view ∷ []) ended.kept 0 k.view v refl (none ∙ sym ended.held) (whole ∙ sym ended.half);
    place = λ e. place_is e (row_of rows e) refl;
    given = λ e. gave_is e (row_of rows e) refl (ended.gave e) refl;
    told = λ e r is. ended.told (record { entry = e; info = r.info }) (linked.told e r (row_within rows e r is).1 is);
    whole = ended.whole;
    neat = ended.neat;
    blank = λ e none. ended.blank e (place_is e None none);
  }
