-- Where a new entry hangs, in terms of the net: behind the last of its elder siblings, behind which nothing hangs, or below a parent that has no child there.
use Rattle.std.proofs.Common.{◌≡◌, ◌≢◌, ◌⊎◌, inl, inr, sym, subst, refl, ◌∙◌, ap, ℕ, ◌<◌, arith, Bool, true, false, not, ◌&&◌, ◌==◌, List, ◌∷◌, Option, Some}
use Rattle.oss_words.specs.declared.entry.EntryInfo.{EntryInfo}
use Rattle.oss_words.specs.declared.entry.EntryState.{EntryState}
use Rattle.oss_words.specs.Flow.{Words}
use Rattle.oss_words.specs.Net.{Net, Place, Shaped, apart, top, first as first_place, after, Earlier, next, back}
use Rattle.oss_words.specs.Views.{View}
use Rattle.oss_words.proofs.CauseLemmas.{bools, clash}
use Rattle.oss_roles.specs.Roles.{AreRoles, Hanging, Role, Site, behind, first_top, under}

-- The entry o is that of a task of this path and number, and no later one with this path hangs on the site.
pub record Elder (net : Net) (role : ℕ → Option Role) (o : ℕ) (p : List ℕ) (y : Site) : Type 0 where
  pub it : Role
  pub number : ℕ
  pub is : role o ≡ Some it
  pub hangs : net.place o ≢ apart
  pub path : it.path ≡ number ∷ p
  pub site : it.site ≡ y
  pub last : (x : ℕ) (q : Role) (m : ℕ) → role x ≡ Some q → net.place x ≢ apart → q.path ≡ m ∷ p → q.site ≡ y → (x ≡ o) ⊎ (m < number)

after_same : (a b : ℕ) → after a ≡ after b → a ≡ b
after_same a b q = cc

pub elder_of : {net net' : Net} {role : ℕ → Option Role} {e : ℕ} {r : Role} {k : ℕ} {p : List ℕ} → Hanging net net' role e r k p → (o : ℕ) → net'.place e ≡ after o → Elder net role o p r.site
elder_of {net = net} {role = role} {r = r} {p = p} (behind o' q m at_ is hangs path site less all) o here =
    subst (λ (z : ℕ). Elder net role z p r.site) (after_same o' o (sym at_ ∙ here)) (record { it = q; number = m; is = is; hangs = hangs; path = path; site = site; last = all })
elder_of (under o' q at_ is hangs path site none) o here = absurd (let z : first_place o' ≡ after o = sym at_ ∙ here in let bad : ⊥ = cc in bad)
elder_of (first_top at_ nil none) o here = absurd (let z : top ≡ after o = sym at_ ∙ here in let bad : ⊥ = cc in bad)

-- nothing hangs below the parent on the site
pub none_of : {net net' : Net} {role : ℕ → Option Role} {e : ℕ} {r : Role} {k : ℕ} {p : List ℕ} → Hanging net net' role e r k p → (o : ℕ) → net'.place e ≡ first_place o
    → (x : ℕ) (q : Role) (m : ℕ) → role x ≡ Some q → net.place x ≢ apart → q.path ≡ m ∷ p → q.site ≡ r.site → ⊥
none_of (behind o' q m at_ is hangs path site less all) o here = absurd (let z : after o' ≡ first_place o = sym at_ ∙ here in let bad : ⊥ = cc in bad)
none_of (under o' q at_ is hangs path site none) o here = none
none_of (first_top at_ nil none) o here = none

head_tail : (i j : ℕ) (a c : List ℕ) → i ∷ a ≡ j ∷ c → (i ≡ j) × (a ≡ c)
head_tail i j a c h = (cc, cc)

role_one : (r q : Role) → Some r ≡ Some q → r ≡ q
role_one r q h = cc

-- behind the last elder sibling nothing hangs
pub no_later : (net : Net) (role : ℕ → Option Role) (infos : ℕ → EntryInfo) (roles : AreRoles net infos role) (o : ℕ) (p : List ℕ) (y : Site) → Elder net role o p y → (x : ℕ) → net.place x ≢ after o
no_later net role infos roles o p y e x at_ =
    let h : net.place x ≢ apart = λ z. (let bad : after o ≡ apart = sym at_ ∙ z in cc) in
    let q = roles.hung x h in
    let b = roles.behind_is x o q.0 e.it q.1 e.is at_ in
    let heads = head_tail b.0 e.number b.2 p (sym b.3 ∙ e.path) in
    let low = b.6 in
    let here = heads.0 in
    elim (e.last x q.0 b.1 q.1 h (b.4 ∙ ap (λ (l : List ℕ). b.1 ∷ l) heads.1) (sym b.5 ∙ e.site)) [
      | inl same ↦
          let one = role_one q.0 e.it (sym q.1 ∙ (ap role same ∙ e.is)) in
          let top_head = (head_tail b.1 e.number b.2 p (sym b.4 ∙ (ap (λ (z : Role). z.path) one ∙ e.path))).0 in
          omega (arith, top_head, here, low)
      | inr less ↦ omega (arith, less, here, low)
    ]

pub some_behind : (place : ℕ → Place) (s x : ℕ) → Earlier place s x → (j : ℕ) × (place j ≡ after s)
some_behind place s x (next at_) = (x, at_)
some_behind place s x (back {t = t} at_ rest) = some_behind place s t rest

-- what lies one deep hangs below main
pub top_parent : (net : Net) → Shaped net → (o : ℕ) → net.depth o ≡ 1 → net.parent o ≡ 0
top_parent net shaped o one =
    let d = shaped.deeper o (omega (arith, one)) in
    elim (shaped.parent_is o) [
      | inl q ↦ q
      | inr h ↦ absurd (let p = shaped.hangs (net.parent o) h in omega (arith, d, one, p))
    ]

module _ (n : ℕ) (net : Net) (states : ℕ → EntryState) (infos : ℕ → EntryInfo) (views : List View) (words : Words n net states infos views) where
  -- the last child of an entry that is not given up leads nowhere
  pub last_unlinked : (o : ℕ) → net.place o ≢ apart → ((j : ℕ) → net.place j ≢ after o) → (states (net.parent o)).given ≡ false → (states o).linked ≡ false
  last_unlinked o h none open_yet = elim (bools (states o).linked) [
    | inl l ↦ absurd (leads l ((states o).next == (infos o).parent) refl)
    | inr l ↦ l
  ]
    where
      inside : o < n
      inside = words.inside o h

      both : (x y : Bool) → x ≡ true → y ≡ true → (x && y) ≡ true
      both true y e f = f
      both false y e f = absurd (clash e refl)

      leads : (states o).linked ≡ true → (b : Bool) → ((states o).next == (infos o).parent) ≡ b → ⊥
      leads l true q =
          let up = (words.parents o inside (both (states o).linked ((states o).next == (infos o).parent) l q)).2 in
          clash (subst (λ (x : ℕ). (states x).given ≡ true) (words.told o h) up) open_yet
      leads l false q = none (states o).next ((words.wired o inside).sibling (both (states o).linked (not ((states o).next == (infos o).parent)) l (ap (λ (z : Bool). not z) q)))

  -- an entry below which nothing hangs has no first child
  pub unheaded : (o : ℕ) → o < n → ((j : ℕ) → net.place j ≢ first_place o) → (states o).headed ≡ false
  unheaded o inside none = elim (bools (states o).headed) [
    | inl b ↦ absurd (none (states o).child ((words.wired o inside).child b))
    | inr b ↦ b
  ]

  pub undone : (o : ℕ) → o < n → (states o).given ≡ false → (states o).done ≡ false
  undone o inside g = elim (bools (states o).done) [
    | inl b ↦ absurd (clash (words.finished o inside b) g)
    | inr b ↦ b
  ]
