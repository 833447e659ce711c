-- What the flow tells of an entry that has children and is not given up: the first step of its give may be made.
use Rattle.std.proofs.Common.{◌≡◌, ◌≢◌, ◌⊎◌, inl, inr, subst, refl, ◌∙◌, ℕ, ◌<◌, arith, Bool, true, false, not, ◌&&◌, ◌==◌, List}
use Rattle.oss_words.specs.declared.entry.EntryState.{EntryState}
use Rattle.oss_words.specs.declared.entry.EntryInfo.{EntryInfo}
use Rattle.oss_words.specs.Net.{Net, Shaped, apart, Earlier, next, back, Child, eldest, younger}
use Rattle.oss_words.specs.Views.{View}
use Rattle.oss_words.specs.Flow.{Words}
use Rattle.oss_words.specs.Steps.{Parent}
use Rattle.oss_words.proofs.CauseLemmas.{bools, clash}
use Rattle.oss_words.proofs.NetLemmas.{child_parent, child_hangs}

forward : (net : Net) (p u v : ℕ) → Earlier net.place u v → Child net.place p u → Child net.place p v
forward net p u v (next q) c = younger q c
forward net p u v (back {t = x} q b) c = younger q (forward net p u x b c)

earlier_less : (net : Net) → Shaped net → (x y : ℕ) → Earlier net.place x y → x < y
earlier_less net s x y (next p) = s.rises x y p
earlier_less net s x y (back {t = t} p e) = let a = s.rises t y p in let b = earlier_less net s x t e in omega (arith, a, b)

both : (a b : Bool) → a ≡ true → b ≡ true → (a && b) ≡ true
both true b e f = f
both false b e f = absurd (clash e refl)

not_false : (b : Bool) → b ≡ false → not b ≡ true
not_false true e = absurd (clash refl e)
not_false false e = refl

pub parent_facts : (n : ℕ) (net : Net) (states : ℕ → EntryState) (infos : ℕ → EntryInfo) (views : List View) → Words n net states infos views
    → (e : ℕ) → e < n → net.place e ≢ apart → (states e).headed ≡ true → (states e).given ≡ false → Parent n net states infos e
parent_facts n net states infos views r e l h some none = record {
  undone = elim (bools (states e).done) [ inl d ↦ absurd (clash (r.finished e l d) none) | inr d ↦ d ];
  open_yet = none;
  headed = some;
  inside_last = r.inside (net.last e) hangs;
  unlinked = elim (bools (states (net.last e)).linked) [ inl k ↦ absurd (bare k (bools ((states (net.last e)).next == (infos (net.last e)).parent))) | inr k ↦ k ];
  child = child_parent net r.shaped e (net.last e) youngest;
  told = r.told (net.last e) hangs ∙ child_parent net r.shaped e (net.last e) youngest;
  hangs = h;
  hangs_last = hangs;
}
  where
    eldest_child : Child net.place e (states e).child
    eldest_child = eldest ((r.wired e l).child some)

    youngest : Child net.place e (net.last e)
    youngest = elim (r.shaped.youngest e (states e).child eldest_child) [
      | inl q ↦ subst (λ (x : ℕ). Child net.place e x) q eldest_child
      | inr b ↦ forward net e (states e).child (net.last e) b eldest_child
    ]

    hangs : net.place (net.last e) ≢ apart
    hangs = child_hangs net e (net.last e) youngest

    bare : (states (net.last e)).linked ≡ true → (((states (net.last e)).next == (infos (net.last e)).parent) ≡ true) ⊎ (((states (net.last e)).next == (infos (net.last e)).parent) ≡ false) → ⊥
    bare k (inl p) =
        let g = (r.parents (net.last e) (r.inside (net.last e) hangs) (both (states (net.last e)).linked ((states (net.last e)).next == (infos (net.last e)).parent) k p)).2 in
        let up = r.told (net.last e) hangs ∙ child_parent net r.shaped e (net.last e) youngest in
        clash (subst (λ (x : ℕ). (states x).given ≡ true) up g) none
    bare k (inr p) =
        let q = (r.wired (net.last e) (r.inside (net.last e) hangs)).sibling (both (states (net.last e)).linked (not ((states (net.last e)).next == (infos (net.last e)).parent)) k (not_false ((states (net.last e)).next == (infos (net.last e)).parent) p)) in
        let b = r.shaped.rises (net.last e) (states (net.last e)).next q in
        elim (r.shaped.youngest e (states (net.last e)).next (younger q youngest)) [
          | inl u ↦ omega (arith, b, u)
          | inr u ↦ let c = earlier_less net r.shaped (states (net.last e)).next (net.last e) u in omega (arith, b, c)
        ]
