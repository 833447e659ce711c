-- The fills of a new entry's words before it hangs, and the last fill of one that begins a list of main: the rule after them. No move.
use Rattle.std.proofs.Common.{◌≡◌, ◌≢◌, ◌⊎◌, inl, inr, sym, subst, refl, ◌∙◌, ap, ℕ, zero, suc, ◌+◌, arith, Bool, true, false, List, Option, Some, None}
use Rattle.std.specs.Prelude.{not, ◌&&◌, ◌==◌}
use Rattle.oss_syntax.specs.declared.access.Mode.{Mode}
use Rattle.oss_syntax.specs.declared.access.Mode.TheVariants.{Read, Write, Fold}
use Rattle.oss_model.specs.Bodies.{Program, Start, Body}
use Rattle.oss_model.specs.Moves.{new_task}
use Rattle.oss_words.specs.declared.entry.EntryState.{EntryState}
use Rattle.oss_words.specs.declared.entry.EntryInfo.{EntryInfo}
use Rattle.oss_words.specs.Grown.{Grown}
use Rattle.oss_words.specs.Net.{Net, apart}
use Rattle.oss_words.specs.Rule.{Kept}
use Rattle.oss_words.specs.Steps.{Fills, Begun, no_flags}
use Rattle.oss_words.specs.Sums.{below, num}
use Rattle.oss_words.specs.Views.{View}
use Rattle.oss_words.proofs.PlaceLaw.{fills_kept, begun_kept}
use Rattle.oss_words.proofs.StillLemmas.{grown_on, grown_same}
use Rattle.oss_words.proofs.SumLemmas.{same_number}
use Rattle.oss_roles.specs.Counting.{stands, weight}
use Rattle.oss_roles.specs.Field.{Field, FieldAt, Parts, words_of, owed_by_all, IsSomewhere, at_home, is_out, IsPut, not_put, going, is_put}
use Rattle.oss_roles.specs.Roles.{Role}
use Rattle.oss_roles.specs.Sights.{Sight, Telling}

no_flags_grow : (c : EntryState) → Grown no_flags c
no_flags_grow c = record { reads = λ h. off h; folds = λ h. off h; writes = λ h. off h; given = λ h. off h; done = λ h. off h; clear = λ h. off h; left = λ h. off h; linked = λ h. off h; next = λ h. off h; headed = λ h. off h; child = λ h. off h }
  where
    off : {A : Type 0} → false ≡ true → A
    off h = absurd (let bad : ⊥ = cc in bad)

-- what a fill leaves of a word
record Leaves (a c : EntryState) : Type 0 where
  left : c.left ≡ a.left
  given : c.given ≡ a.given
  grown : Grown a c

module _ {S J : Type 0} (P : Program S) (main : Start S) (first : List ℕ) (is_job : Telling S J) (n : ℕ) (k : Parts J) (sights : List (Sight S)) (f : Field P main first is_job n k sights)
    (e : ℕ) (states' : ℕ → EntryState) (infos' : ℕ → EntryInfo) (cell_of' : ℕ → ℕ) (d : Fills n f.net k.states states' k.infos infos' e)
    (cells : (j : ℕ) → j ≢ e → cell_of' j ≡ k.cell_of j) (rights : (((states' e).reads ≡ (k.states e).reads) × ((states' e).writes ≡ (k.states e).writes)) ⊎ ((r : Role) → f.role e ≡ Some r → r.counts ≡ false)) where
  abbrev k' : Parts J
  k' = record k { states = states'; infos = infos'; cell_of = cell_of' }

  other : (x : ℕ) → f.net.place x ≢ apart → x ≢ e
  other x h q = h (ap (λ (z : ℕ). f.net.place z) q ∙ d.loose)

  each : (R : EntryState → EntryState → Type 0) → ((a : EntryState) → R a a) → R (k.states e) (states' e) → (x : ℕ) → R (k.states x) (states' x)
  each R self one x = elim (same_number x e) [
    | inl q ↦ subst (λ (z : ℕ). R (k.states z) (states' z)) (sym q) one
    | inr ne ↦ subst (λ (z : EntryState). R (k.states x) z) (sym (d.others x ne)) (self (k.states x))
  ]

  here : Leaves (k.states e) (states' e)
  here =
      record {
        left = d.blank_now.left ∙ sym d.blank_before.left;
        given = d.ungiven ∙ sym d.ungiven_before;
        grown = elim d.once [ inl q ↦ grown_same (k.states e) (states' e) q | inr q ↦ subst (λ (z : EntryState). Grown z (states' e)) (sym q) (no_flags_grow (states' e)) ];
      }

  leaves : (x : ℕ) → Leaves (k.states x) (states' x)
  leaves = each Leaves (λ a. record { left = refl; given = refl; grown = grown_same a a refl }) here

  put_on : (y : Body S) (a : _) → IsPut is_job k a y → IsPut is_job k' a y
  put_on y a (not_put one two none) = not_put one two none
  put_on y a (going one two none) = going one two none
  put_on y a (is_put x one two stands job) = is_put x one two stands job

  somewhere_on : (q : ℕ) (a : List ℕ) (y : Body S) → IsSomewhere is_job k sights f.net f.role q a y → IsSomewhere is_job k' sights f.net f.role q a y
  somewhere_on q a y (at_home g last one stands job l none) = at_home g last one stands job l none
  somewhere_on q a y (is_out two stands one) = is_out two stands one

  pub fill_field : FieldAt P main first is_job n f.net f.gave f.role k' sights
  fill_field =
      record {
        field = record {
          net = f.net;
          gave = f.gave;
          role = f.role;
          opened = f.opened;
          state = f.state;
          words = fills_kept n f.net f.gave k.states states' k.infos infos' (words_of sights) e f.words d;
          gave_hangs = f.gave_hangs;
          unused = f.unused;
          roles = record {
            hung = f.roles.hung;
            one = f.roles.one;
            number = f.roles.number;
            below_main = f.roles.below_main;
            main = f.roles.main;
            told = λ x q xis h. let t = f.roles.told x q xis h in let same = d.other_infos x (other x h) in (t.0, ap (λ (z : EntryInfo). z.strong) same ∙ t.1, ap (λ (z : EntryInfo). z.task) same ∙ t.2);
            depth = f.roles.depth;
            parent = f.roles.parent;
            behind_is = f.roles.behind_is;
            topmost = f.roles.topmost;
            below = f.roles.below;
            order = f.roles.order;
          };
          filed = f.filed;
          given = f.given;
          counts = record {
            sum = λ t q is at. f.counts.sum t q is at ∙ ap (λ (z : ℕ). num (not (f.opened t)) + z + owed_by_all sights t) (all_same (λ x. weight t (f.role x) (k.states x)) (λ x. weight t (f.role x) (states' x)) (weighs t) n);
            blank = f.counts.blank;
            main = f.counts.main;
            opened_is = f.counts.opened_is;
            open_start = λ x q is h off strong. subst (λ (z : EntryState). stands q.mode z ≡ true) (sym (d.others x (other x h))) (f.counts.open_start x q is h off strong);
            strong = f.counts.strong;
          };
          cells = f.cells;
          planned = f.planned;
          somewhere = λ q a u num h. somewhere_on q a u.body (f.somewhere q a u num h);
          borne = f.borne;
          made = λ i x sits a am.
              let g = f.made i x sits a am in
              record { creator = g.creator; place = g.place; held = g.held; by = g.by; order = g.order; act = g.act; closed = g.closed; own = g.own; access = g.access; job = put_on (new_task P g.creator.body g.order).body a g.job };
          left = λ x q xis l. f.left x q xis (sym (leaves x).left ∙ l);
          numbered = λ x c q xis h site. cells x (other x h) ∙ f.numbered x c q xis h site;
          loaded = f.loaded;
          joined = f.joined;
          joined_given = f.joined_given;
          ready = f.ready;
          seen = λ i x sits a am. grown_on a.state (k.states a.entry) (states' a.entry) (f.seen i x sits a am) (leaves a.entry).grown;
          still = λ i x sits a am.
              let g = f.still i x sits a am in
              record { bearing = g.bearing; place = g.place; held = g.held; it = g.it; is = g.is; path = g.path; left = (leaves a.entry).left ∙ g.left; given = λ other. (leaves a.entry).given ∙ g.given other; value = g.value };
          setting = f.setting;
          reached = f.reached;
        };
        same_net = refl;
        same_gave = refl;
        same_role = refl;
      }
    where
      all_same : (f g : ℕ → ℕ) → ((x : ℕ) → f x ≡ g x) → (m : ℕ) → below f m ≡ below g m
      all_same f g e zero = refl
      all_same f g e (suc m) = let a = e m in let b = all_same f g e m in omega (arith, a, b)

      stands_as : (m : Mode) (a c : EntryState) → c.reads ≡ a.reads → c.writes ≡ a.writes → stands m c ≡ stands m a
      stands_as Read a c x y = x
      stands_as Write a c x y = y
      stands_as (Fold op) a c x y = refl

      uncounted : (t : ℕ) (r : Role) (c : EntryState) → r.counts ≡ false → weight t (Some r) c ≡ 0
      uncounted t r c off = go (r.task == t) refl
        where
          go : (b : Bool) → (r.task == t) ≡ b → weight t (Some r) c ≡ 0
          go true h = rw (h, off) refl
          go false h = rw h refl

      weigh_here : (t : ℕ) (o : Option Role) → f.role e ≡ o → weight t o (k.states e) ≡ weight t o (states' e)
      weigh_here t None is = refl
      weigh_here t (Some r) is = elim rights [
        | inl q ↦ ap (λ (z : Bool). num ((r.task == t) && (r.counts && not z))) (sym (stands_as r.mode (k.states e) (states' e) q.0 q.1))
        | inr off ↦ uncounted t r (k.states e) (off r is) ∙ sym (uncounted t r (states' e) (off r is))
      ]

      weighs : (t x : ℕ) → weight t (f.role x) (k.states x) ≡ weight t (f.role x) (states' x)
      weighs t x = elim (same_number x e) [
        | inl q ↦ subst (λ (z : ℕ). weight t (f.role z) (k.states z) ≡ weight t (f.role z) (states' z)) (sym q) (weigh_here t (f.role e) refl)
        | inr ne ↦ ap (λ (z : EntryState). weight t (f.role x) z) (sym (d.others x ne))
      ]

-- what the last fill of an entry that begins a list of main tells LinkField: by it the entry hangs
pub begun_words : (n : ℕ) (net net' : Net) (gave : ℕ → Bool) (states : ℕ → EntryState) (infos : ℕ → EntryInfo) (views : List View) (e : ℕ) → Kept n net gave states infos views → Begun n net net' states infos e → Kept n net' gave states infos views
begun_words n net net' gave states infos views e kept d = begun_kept n net net' gave states infos views e kept d

pub begun_starts : (n : ℕ) (net net' : Net) (states : ℕ → EntryState) (infos : ℕ → EntryInfo) (e : ℕ) → Begun n net net' states infos e → (m : Mode) → stands m (states e) ≡ true
begun_starts n net net' states infos e d Read = d.reads
begun_starts n net net' states infos e d Write = d.writes
begun_starts n net net' states infos e d (Fold op) = refl
