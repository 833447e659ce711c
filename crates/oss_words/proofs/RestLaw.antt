-- At rest each flag stands exactly where its condition holds over the links and gives that the views name; when the first seat knows
-- that the words are at rest; and the rule at the start.
use Rattle.std.proofs.Common.{◌≡◌, ◌≢◌, ◌⊎◌, inl, inr, sym, subst, refl, ◌∙◌, ap, ℕ, zero, suc, ◌<◌, ◌≤◌, ◌+◌, ◌*◌, arith, Bool, true, false, List, [], ◌∷◌, set}
use mathlib.Core.Option as maybe
use mathlib.Core.Option.{some-injective, some-ne-none}
use lib.ListN.{get_elem?}
use Rattle.std.proofs.Math.Path.{fun_ext}
use Rattle.oss_syntax.specs.declared.access.Op.{Op}
use Rattle.oss_syntax.specs.declared.access.Mode.TheVariants.{Write, Fold}
use Rattle.oss_model.specs.Forest.{Forest, IsDone, IsWriteSatisfied, IsReadSatisfied, IsJoinSatisfied}
use Rattle.oss_model.proofs.ForestLemmas.{Keeps, Between, done_stays, write_satisfied_stays, read_satisfied_stays, join_satisfied_stays}
use Rattle.oss_words.specs.declared.entry.EntryState.{EntryState}
use Rattle.oss_words.specs.declared.entry.EntryInfo.{EntryInfo}
use Rattle.oss_words.specs.Sums.{total}
use Rattle.oss_words.specs.Net.{Net, Place, apart, top, first, after, Earlier, next, back, Child, eldest, younger, Top, forest, bare}
use Rattle.oss_words.specs.Flow.{Words}
use Rattle.oss_words.specs.Modes.{Modes}
use Rattle.oss_words.specs.Quiet.{Quiet, forest_told, Tell, Exact}
use Rattle.oss_words.specs.Rule.{Kept, Rule}
use Rattle.oss_words.specs.Seats.{Seats}
use Rattle.oss_words.specs.Steps.{no_flags}
use Rattle.oss_words.specs.Views.{View, Among, among_first, among_later, At, Named, named, Released, released, first_view}
use Rattle.oss_words.proofs.SumLemmas.{total_set, total_at, same_number}
use Rattle.oss_words.proofs.CauseLemmas.{clash, bools}
use Rattle.oss_words.proofs.NetLemmas.{child_hangs, parent_hangs}
use Rattle.oss_words.proofs.KeptLaw.{at_other}
use Rattle.oss_words.proofs.QuietLemmas.{reads_stand, writes_stand, folds_stand, clear_stands, done_stands}
use Rattle.oss_words.proofs.SeatLemmas.{among_none}
use Rattle.oss_words.proofs.DrawLaw.{one_view}
use Rattle.oss_words.proofs.ViewLaw.{opening}

is_apart : (p : Place) → (p ≡ apart) ⊎ (p ≢ apart)
is_apart apart = inl refl
is_apart top = inr (λ q. cc)
is_apart (first p) = inr (λ q. cc)
is_apart (after s) = inr (λ q. cc)

same_bits : (a b : Bool) → (a ≡ true → b ≡ true) → (b ≡ true → a ≡ true) → a ≡ b
same_bits true b f g = sym (f refl)
same_bits false true f g = g refl
same_bits false false f g = refl

module _ (n : ℕ) (net : Net) (gave : ℕ → Bool) (states : ℕ → EntryState) (infos : ℕ → EntryInfo) (draw : ℕ) (views : List View) (rule : Rule n net gave states infos draw views) where
  r : Words n net states infos views
  r = rule.kept.flow.words

  -- the net has the places and gives that the views name
  pub views_tell : Tell views net.place gave
  views_tell = record {
    links = rule.seats.link_named;
    linked = λ e p h. elim h [ named id v a k ↦ rule.seats.named_link id v a (record { entry = e; place = p }) k ];
    gives = rule.seats.give_named;
    given = λ e h. elim h [ released id v a k ↦ rule.seats.named_give id v a e k ];
  }

  earlier_hangs : (u v : ℕ) → Earlier net.place u v → net.place u ≢ apart
  earlier_hangs u v (next p) = r.shaped.hung u v (inl p)
  earlier_hangs u v (back {t = t} p b) = earlier_hangs u t b

  abbrev F : Forest ℕ
  F = forest net gave

  abbrev G : Forest ℕ
  G = forest_told net.place gave infos

  there : Keeps (λ j. net.place j ≢ apart) F G
  there = record {
    grows = record { given = λ u g. g; child = λ u v g c. c };
    top = λ v t. t;
    child = λ u v c. c;
    earlier = λ u v k b. b;
    mode = λ u h. rule.kept.modes.mode u h;
    earlier_access = λ u v b. earlier_hangs u v b;
    child_access = λ u v c. parent_hangs net r.shaped u v c;
  }

  again : Keeps (λ j. net.place j ≢ apart) G F
  again = record {
    grows = record { given = λ u g. g; child = λ u v g c. c };
    top = λ v t. t;
    child = λ u v c. c;
    earlier = λ u v k b. b;
    mode = λ u h. sym (rule.kept.modes.mode u h);
    earlier_access = λ u v b. earlier_hangs u v b;
    child_access = λ u v c. parent_hangs net r.shaped u v c;
  }

  module _ (quiet : Quiet views) where
    exact_here : (e : ℕ) → net.place e ≢ apart → Exact G e (states e)
    exact_here e h = let told = rule.kept.truth e (r.inside e h) h in record {
      reads = (λ b. read_satisfied_stays (λ j. net.place j ≢ apart) F G there e (told.reads b), λ s. reads_stand n net gave states infos views r rule.kept.modes rule.kept.truth rule.kept.starts quiet (suc e) e (omega arith) h (read_satisfied_stays (λ j. net.place j ≢ apart) G F again e s));
      writes = (λ b. write_satisfied_stays (λ j. net.place j ≢ apart) F G there e (told.writes b), λ s. writes_stand n net gave states infos views r rule.kept.modes rule.kept.truth rule.kept.starts quiet (suc e) e (omega arith) h (write_satisfied_stays (λ j. net.place j ≢ apart) G F again e s));
      folds = λ op mo. let mo' = sym (rule.kept.modes.mode e h) ∙ mo in
          (λ b. join_satisfied_stays (λ j. net.place j ≢ apart) F G there (λ u w v a b. a) op e (told.folds b op mo'), λ s. folds_stand n net gave states infos views r rule.kept.modes rule.kept.truth rule.kept.starts quiet (suc e) e op (omega arith) h mo' (join_satisfied_stays (λ j. net.place j ≢ apart) G F again (λ u w v a b. a) op e s));
      given = (λ b. sym told.given ∙ b, λ g. told.given ∙ g);
      done = (λ b. done_stays F G there.grows e (told.done b), λ s. (done_stands n net gave states infos views r rule.kept.modes rule.kept.truth rule.kept.starts quiet e (done_stays G F again.grows e s) h).1);
      clear = (λ b u y. done_stays F G there.grows u (told.clear b u y), λ s. clear_stands n net gave states infos views r rule.kept.modes rule.kept.truth rule.kept.starts quiet e h (λ u y. done_stays G F again.grows u (s u y)));
    }

  module _ (place : ℕ → Place) (gives : ℕ → Bool) (tell : Tell views place gives) where
    same_place : (e : ℕ) → place e ≡ net.place e
    same_place e = elim (is_apart (net.place e)) [
      | inl q ↦ elim (is_apart (place e)) [
        | inl p ↦ p ∙ sym q
        | inr p ↦ sym (views_tell.linked e (place e) (tell.links e p)).0
      ]
      | inr h ↦ (tell.linked e (net.place e) (rule.seats.link_named e h)).0
    ]

    same_gives : (e : ℕ) → gives e ≡ gave e
    same_gives e = same_bits (gives e) (gave e) (λ g. views_tell.given e (tell.gives e g)) (λ g. tell.given e (rule.seats.give_named e g))

    -- the law at rest
    pub rest_exact : Quiet views → (e : ℕ) → place e ≢ apart → Exact (forest_told place gives infos) e (states e)
    rest_exact quiet e h =
        subst (λ (p : ℕ → Place). Exact (forest_told p gives infos) e (states e)) (sym (fun_ext same_place))
        (subst (λ (g : ℕ → Bool). Exact (forest_told net.place g infos) e (states e)) (sym (fun_ext same_gives))
        (exact_here quiet e (λ z. h (same_place e ∙ z))))

  -- a seat that has all parts and holds nothing knows that the words are at rest
  pub all_parts : (id : ℕ) (v : View) → At views id v → v.parts ≡ 65537 → v.held ≡ [] → v.half ≡ [] → Quiet views
  all_parts id v at whole held half = record {
    empty = λ j y a. elim (same_number j id) [
      | inl q ↦ ap (λ (x : View). x.held) (sym (mine j y a q)) ∙ held
      | inr ne ↦ (rule.seats.spent j y a (none j y a ne)).0
    ];
    whole = λ j y a. elim (same_number j id) [
      | inl q ↦ ap (λ (x : View). x.half) (sym (mine j y a q)) ∙ half
      | inr ne ↦ (rule.seats.spent j y a (none j y a ne)).1
    ];
  }
    where
      mine : (j : ℕ) (y : View) → At views j y → j ≡ id → v ≡ y
      mine j y a q = one_view views id v y at (subst (λ (x : ℕ). At views x y) q a)

      none : (j : ℕ) (y : View) → At views j y → j ≢ id → y.parts ≡ 0
      none j y a ne =
          let b = total_set (λ (x : View). x.parts) views id v (record v { parts = 0 }) at in
          let c = total_at (λ (x : View). x.parts) (set views id (record v { parts = 0 })) j y (at_other views id j (record v { parts = 0 }) y ne a) in
          let p = rule.seats.parts in
          omega (arith, b, c, p, whole)

-- the rule at the start
pub rule_opening : (n : ℕ) (infos : ℕ → EntryInfo) → 0 < n → n ≤ 16777216 → Rule n bare (λ e. false) (λ e. no_flags) infos 1 (first_view ∷ [])
rule_opening n infos some small = record {
  kept = record {
    flow = opening n infos;
    modes = record {
      mode = λ e h. absurd (h refl);
      depth = λ e h. absurd (h refl);
      shallow = λ e. omega arith;
      next_folds = λ e l b. absurd (clash b refl);
      next_same = λ e l b. absurd (clash b refl);
      next_other = λ e l b. absurd (clash b refl);
      child_folds = λ e l b. absurd (clash b refl);
      child_same = λ e l b. absurd (clash b refl);
      child_other = λ e l b. absurd (clash b refl);
      covers = λ p e c. absurd (child_hangs bare p e c refl);
      sources = λ e l o. absurd (elim o [ inl b ↦ clash b refl | inr b ↦ clash b refl ]);
    };
    starts = record {
      above = λ p e q. let z : apart ≡ first p = q in absurd (cc);
      top_reads = λ e q. let z : apart ≡ top = q in absurd (cc);
      top_writes = λ e q. let z : apart ≡ top = q in absurd (cc);
      top_folds = λ e q. let z : apart ≡ top = q in absurd (cc);
      top_clear = λ e q. let z : apart ≡ top = q in absurd (cc);
      first_clear = λ p e q. let z : apart ≡ first p = q in absurd (cc);
      childless = λ e l b. absurd (clash b refl);
      closed = λ e l b. absurd (clash b refl);
      next_is = λ s e q. let z : apart ≡ after s = q in absurd (cc);
      first_is = λ s e q. let z : apart ≡ first s = q in absurd (cc);
    };
    truth = λ e l h. absurd (h refl);
    given = λ e l. refl;
  };
  seats = record {
    size = small;
    work = omega arith;
    drawn = omega arith;
    failed = λ id v a. let q = ap (λ (x : View). x.failed) (seat id v a).1 in omega (arith, q);
    seats = λ v a. let q = ap (λ (x : View). x.splits) (seat 0 v a).1 in omega (arith, q);
    parts = refl;
    spent = λ id v a z. let q = ap (λ (x : View). x.parts) (seat id v a).1 in absurd (omega (arith, q, z));
    main_drawn = omega arith;
    hung_drawn = λ e h. absurd (h refl);
    gave_drawn = λ e g. absurd (clash g refl);
    owned_drawn = λ id v a e h. let q = main_alone id v a e h in (omega (arith, q), omega (arith, q, some));
    one_owner = λ i j y z a b e h k. let p = (seat i y a).0 in let q = (seat j z b).0 in omega (arith, p, q);
    own_link = λ id v a e h p. absurd (p refl);
    own_children = λ id v a p h e o u. absurd (o refl);
    own_give = λ id v a e h g. absurd (clash g refl);
    seen = λ id v a s h. among_none s (subst (λ (x : View). Among s x.seen) (sym (seat id v a).1) h);
    link_named = λ e h. absurd (h refl);
    named_link = λ id v a l h. among_none l (subst (λ (x : View). Among l x.links) (sym (seat id v a).1) h);
    give_named = λ e g. absurd (clash g refl);
    named_give = λ id v a e h. among_none e (subst (λ (x : View). Among e x.gives) (sym (seat id v a).1) h);
  };
}
  where
    seat : (id : ℕ) (v : View) → At (first_view ∷ []) id v → (id ≡ 0) × (first_view ≡ v)
    seat zero v a = (refl, some-injective first_view v a)
    seat (suc id) v a = absurd (some-ne-none v (sym a))

    main_alone : (id : ℕ) (v : View) → At (first_view ∷ []) id v → (e : ℕ) → Among e v.owned → 0 ≡ e
    main_alone id v a e h = elim (subst (λ (x : View). Among e x.owned) (sym (seat id v a).1) h) [ among_first q ↦ q | among_later k ↦ among_none e k ]
