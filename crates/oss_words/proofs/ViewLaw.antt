-- The flow at the start, and after steps that change views alone: a read, a draw, a split, a join of seats.
use Rattle.std.proofs.Common.{◌≡◌, inl, inr, sym, subst, refl, ◌∙◌, ap, ℕ, zero, suc, arith, false, List, [], ◌∷◌, ◌++◌, set}
use mathlib.Core.Option as maybe
use mathlib.Core.Option.{some-injective, some-ne-none}
use lib.ListN.{get_elem?}
use Rattle.atomic_table.proofs.Lists.{at_set, at_snoc}
use Rattle.oss_words.specs.declared.message.Message.{Message}
use Rattle.oss_words.specs.declared.entry.EntryState.{EntryState}
use Rattle.oss_words.specs.declared.entry.EntryInfo.{EntryInfo}
use Rattle.oss_words.specs.Sums.{total}
use Rattle.oss_words.specs.Net.{Net, bare, apart, first, after, Child, eldest, younger}
use Rattle.oss_words.specs.Causes.{due, got}
use Rattle.oss_words.specs.Members.{Has}
use Rattle.oss_words.specs.Steps.{no_flags}
use Rattle.oss_words.specs.Views.{View, first_view}
use Rattle.oss_words.specs.Flow.{Counted, Words, Half, Holding, message, pending, Flow}
use Rattle.oss_words.proofs.SumLemmas.{total_append, total_set, below_none}
use Rattle.oss_words.proofs.CauseLemmas.{clash}

half_view : (n : ℕ) (net : Net) (states : ℕ → EntryState) (infos : ℕ → EntryInfo) (x : ℕ) (v w : View) → w.held ≡ v.held → Half n net states infos x v → Half n net states infos x w
half_view n net states infos x v w q h = record {
  inside = h.inside;
  inside_last = h.inside_last;
  given = h.given;
  headed = h.headed;
  unlinked = h.unlinked;
  child = h.child;
  told = h.told;
  hangs = h.hangs;
  hangs_last = h.hangs_last;
  late = λ b k. h.late b (subst (λ (z : List Message). Has b z) q k);
}

holding_view : (v w : View) → w.held ≡ v.held → w.half ≡ v.half → (m : Message) → Holding w m → Holding v m
holding_view v w q k m (message h) = message (subst (λ (z : List Message). Has m z) q h)
holding_view v w q k m (pending xs h f) = pending xs (sym k ∙ h) f

module _ (n : ℕ) (net : Net) (states : ℕ → EntryState) (infos : ℕ → EntryInfo) (views : List View) (flow : Flow n net states infos views) where
  -- what the flow's record of words keeps but for the views
  same_words : (views' : List View) → Counted n net.place states infos views'
      → ((id : ℕ) (v : View) → get_elem? views' id ≡ maybe.some v → (x : ℕ) (xs : List ℕ) → v.half ≡ x ∷ xs → Half n net states infos x v)
      → ((i j : ℕ) (y z : View) → get_elem? views' i ≡ maybe.some y → get_elem? views' j ≡ maybe.some z → (x : ℕ) (xs zs : List ℕ) → y.half ≡ x ∷ xs → z.half ≡ x ∷ zs → i ≡ j)
      → Words n net states infos views'
  same_words views' c h s = let r = flow.words in record {
    shaped = r.shaped;
    wired = r.wired;
    parents = r.parents;
    nexts = r.nexts;
    firsts = r.firsts;
    hung_next = r.hung_next;
    hung_first = r.hung_first;
    told = r.told;
    inside = r.inside;
    finished = r.finished;
    count = c;
    halves = h;
    sole = s;
  }

  -- a read, a draw; and both views of a split or a join of seats, one after the other
  pub looked : (id : ℕ) (v w : View) → get_elem? views id ≡ maybe.some v → w.held ≡ v.held → w.half ≡ v.half → Flow n net states infos (set views id w)
  looked id v w at q k = record {
    words = same_words (set views id w)
        (λ h.
        let c = flow.words.count h in
        let x = total_set (λ (y : View). total h y.held) views id v w at in
        let e : total h w.held ≡ total h v.held = ap (λ z. total h z) q in
        omega (arith, c, x, e))
        (λ j y a x xs h. elim (at_set views id j w y a) [
          | inl u ↦ subst (λ (z : View). Half n net states infos x z) u.1 (half_view n net states infos x v w q (flow.words.halves id v at x xs (sym k ∙ ap (λ (z : View). z.half) u.1 ∙ h)))
          | inr u ↦ flow.words.halves j y u.1 x xs h
        ])
        (λ i j y z a b x xs zs hy hz.
        let f = before i y x xs a hy in
        let g = before j z x zs b hz in
        flow.words.sole i j f.0 g.0 f.1 g.1 x xs zs f.2 g.2);
    room = λ j y a b c hb hc. elim (at_set views id j w y a) [
      | inl u ↦ flow.room id v at b c (holding_view v w q k b (subst (λ (z : View). Holding z b) (sym u.1) hb)) (holding_view v w q k c (subst (λ (z : View). Holding z c) (sym u.1) hc))
      | inr u ↦ flow.room j y u.1 b c hb hc
    ];
  }
    where
      before : (i : ℕ) (y : View) (x : ℕ) (xs : List ℕ) → get_elem? (set views id w) i ≡ maybe.some y → y.half ≡ x ∷ xs → (z : View) × (get_elem? views i ≡ maybe.some z) × (z.half ≡ x ∷ xs)
      before i y x xs a h = elim (at_set views id i w y a) [
        | inl u ↦ (v, subst (λ (g : ℕ). get_elem? views g ≡ maybe.some v) (sym u.0) at, sym k ∙ ap (λ (z : View). z.half) u.1 ∙ h)
        | inr u ↦ (y, u.1, h)
      ]

  -- a new seat holds nothing
  pub joined_by : (w : View) → w.held ≡ [] → w.half ≡ [] → Flow n net states infos (views ++ w ∷ [])
  joined_by w q k = record {
    words = same_words (views ++ w ∷ [])
        (λ h.
        let c = flow.words.count h in
        let x = total_append (λ (y : View). total h y.held) views (w ∷ []) in
        let e : total h w.held ≡ 0 = ap (λ z. total h z) q in
        omega (arith, c, x, e))
        (λ j y a x xs h. let u = old j y x xs a h in flow.words.halves j y u x xs h)
        (λ i j y z a b x xs zs hy hz. flow.words.sole i j y z (old i y x xs a hy) (old j z x zs b hz) x xs zs hy hz);
    room = λ j y a b c hb hc. elim (at_snoc views w y j a) [
      | inl u ↦ flow.room j y u b c hb hc
      | inr u ↦ absurd (nothing b (subst (λ (z : View). Holding z b) (sym u) hb))
    ];
  }
    where
      old : (j : ℕ) (y : View) (x : ℕ) (xs : List ℕ) → get_elem? (views ++ w ∷ []) j ≡ maybe.some y → y.half ≡ x ∷ xs → get_elem? views j ≡ maybe.some y
      old j y x xs a h = elim (at_snoc views w y j a) [
        | inl u ↦ u
        | inr u ↦ let z : [] ≡ x ∷ xs = sym k ∙ ap (λ (g : View). g.half) u ∙ h in absurd (cc)
      ]

      nothing : (b : Message) → Holding w b → ⊥
      nothing b (message h) = let g = subst (λ (z : List Message). Has b z) q h in elim g [ ]
      nothing b (pending xs h f) = let z : [] ≡ b.entry ∷ xs = sym k ∙ h in cc

no_child : (p e : ℕ) → Child (λ x. apart) p e → ⊥
no_child p e (eldest q) = let z : apart ≡ first p = q in cc
no_child p e (younger {s = t} q c) = no_child p t c

pub opening : (n : ℕ) (infos : ℕ → EntryInfo) → Flow n bare (λ e. no_flags) infos (first_view ∷ [])
opening n infos =
    record {
      words = record {
        shaped = record {
          under = λ p e q. let z : apart ≡ first p = q in absurd (cc);
          behind = λ s e q. let z : apart ≡ after s = q in absurd (cc);
          heads = λ e f. refl;
          rises = λ s e q. let z : apart ≡ after s = q in absurd (cc);
          level = λ a b q. (refl, refl);
          deeper = λ e h. absurd (omega (arith, h));
          hangs = λ e h. absurd (h refl);
          one_next = λ s a b q k. let z : apart ≡ after s = q in absurd (cc);
          one_first = λ s a b q k. let z : apart ≡ first s = q in absurd (cc);
          main = (refl, refl);
          parent_is = λ e. inl refl;
          lead_is = λ e. inl refl;
          hung = λ s e q. elim q [ inl k ↦ let z : apart ≡ after s = k in absurd (cc) | inr k ↦ let z : apart ≡ first s = k in absurd (cc) ];
          youngest = λ p e c. absurd (no_child p e c);
        };
        wired = λ e l. record { sibling = λ b. absurd (clash b refl); rising = λ b. absurd (clash b refl); child = λ b. absurd (clash b refl); leaving = λ b. absurd (clash b refl) };
        parents = λ e l b. absurd (clash b refl);
        nexts = λ e l b. absurd (clash b refl);
        firsts = λ e l b. absurd (clash b refl);
        hung_next = λ s j p. let z : apart ≡ after s = p in absurd (cc);
        hung_first = λ s j p. let z : apart ≡ first s = p in absurd (cc);
        told = λ j h. absurd (h refl);
        inside = λ j h. absurd (h refl);
        finished = λ e l b. absurd (clash b refl);
        count = λ h.
            let a = below_none (λ e. total h (got apart e no_flags)) n (λ j l. refl) in
            let b = below_none (λ e. total h (due e no_flags (infos e))) n (λ j l. refl) in
            omega (arith, a, b);
        halves = λ id v a x xs h. absurd (no_half id v a x xs h);
        sole = λ i j y z a b x xs zs hy hz. absurd (no_half i y a x xs hy);
      };
      room = λ id v a b c hb hc. absurd (no_message id v a b hb);
    }
  where
    seat : (id : ℕ) (v : View) → get_elem? (first_view ∷ []) id ≡ maybe.some v → (v.held ≡ []) × (v.half ≡ [])
    seat zero v a = let q : first_view ≡ v = some-injective (first_view) v a in (ap (λ (z : View). z.held) (sym q), ap (λ (z : View). z.half) (sym q))
    seat (suc id) v a = absurd (some-ne-none v (sym a))

    no_half : (id : ℕ) (v : View) → get_elem? (first_view ∷ []) id ≡ maybe.some v → (x : ℕ) (xs : List ℕ) → v.half ≡ x ∷ xs → ⊥
    no_half id v a x xs h = let s = seat id v a in let z : [] ≡ x ∷ xs = sym s.1 ∙ h in cc

    no_message : (id : ℕ) (v : View) → get_elem? (first_view ∷ []) id ≡ maybe.some v → (b : Message) → Holding v b → ⊥
    no_message id v a b (message h) = let s = seat id v a in let g = subst (λ (z : List Message). Has b z) s.0 h in elim g [ ]
    no_message id v a b (pending xs h f) = no_half id v a b.entry xs h
