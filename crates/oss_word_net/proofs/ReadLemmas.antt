-- A read of an info word, and of a state word.
use Rattle.std.proofs.Common.{◌≡◌, ◌≢◌, ◌⊎◌, inl, inr, sym, subst, refl, ◌∙◌, ap, ℕ, zero, suc, ◌<◌, ◌≤◌, ◌+◌, ◌*◌, arith, Bool, true, false, ◌&&◌, ◌==◌, List, [], ◌∷◌, set}
use Rattle.std.specs.Prelude.{slice_index}
use Rattle.atomic_table.specs.Table.{step}
use mathlib.Core.Option as maybe
use Rattle.oss_words.specs.declared.message.Message.{Message}
use Rattle.oss_words.specs.declared.entry.EntryState.{EntryState}
use Rattle.oss_words.specs.declared.entry.EntryInfo.{EntryInfo}
use Rattle.oss_words.specs.Bits.{state_at}
use Rattle.oss_words.specs.Causes.{has_sibling, is_last, Due, due_reads, due_writes, due_folds, due_clear, due_done, due_first_reads, due_first_writes, due_first_folds, due_join}
use Rattle.oss_words.specs.Flow.{Wired}
use Rattle.oss_words.specs.Members.{Has}
use Rattle.oss_words.specs.Net.{Net, Place, apart, first, after, Child, eldest as eldest_is, younger as younger_is}
use Rattle.oss_words.proofs.NetLemmas.{child_parent, child_hangs}
use Rattle.oss_words.specs.SeatSteps.{Reads}
use Rattle.oss_words.specs.Sums.{total}
use lib.ListN.{get_elem?}
use Rattle.oss_words.proofs.SumLemmas.{total_at, same_number}
use Rattle.oss_words.proofs.SeatLemmas.{among_none}
use Rattle.oss_words.specs.Views.{View, Hung, Named, named as named_by, Released, released, Among, among_first, among_later, At}
use Rattle.oss_words.proofs.CauseLemmas.{and_true, bools, clash}
use Rattle.oss_words.proofs.CountLemmas.{held_due}
use Rattle.oss_words.proofs.DeliverLemmas.{target_in, small}
use Rattle.std.proofs.lemmas.Bool.Decides.{eqb_tells}
use Rattle.oss_words.proofs.RestLaw.{all_parts, views_tell, rest_exact}
use Rattle.oss_words.proofs.RuleLaw.{rule_read}
use Rattle.oss_words.proofs.DeliverLemmas.{and_both}
use Rattle.oss_word_net.specs.declared.sight.Sight.{Sight}
use Rattle.oss_word_net.specs.Asks.{Hangs, by_link, by_told, by_message}
use Rattle.oss_word_net.specs.Known.{Told, Kin, eldest, younger, Family, Rests}
use Rattle.oss_word_net.specs.Moves.{informed, looked}
use Rattle.oss_word_net.specs.Plays.{Informs, Looks}
use Rattle.oss_word_net.specs.Table.{states_of, infos_of, views_of, Sits, Knows, Stands}
use Rattle.oss_word_net.proofs.TableLemmas.{view_at, sight_at, one_info, views_change, view_stays, read_stands, Steps}

pub clashes : (p q : Place) → p ≡ q → (q ≡ apart → ⊥) → p ≢ apart
clashes p q e ne a = ne (sym e ∙ a)

pub after_hangs : (s : ℕ) → after s ≢ apart
after_hangs s q = absurd (cc)

pub first_hangs : (s : ℕ) → first s ≢ apart
first_hangs s q = absurd (cc)

-- where a message is due there, its entry hangs
due_hangs : (net : Net) (e : ℕ) (c : EntryState) (i : EntryInfo) (m : Message) → Wired net e c i → c.left ≡ false → Due e c i m → (net.place m.entry ≢ apart) × (1 ≤ m.flag)
due_hangs net e c i m w l (due_reads b y f) = (clashes (net.place m.entry) (after e) (subst (λ (x : ℕ). net.place x ≡ after e) y (w.sibling (and_true (has_sibling c i) _ b).0)) (after_hangs e), omega (arith, f))
due_hangs net e c i m w l (due_writes b y f) = (clashes (net.place m.entry) (after e) (subst (λ (x : ℕ). net.place x ≡ after e) y (w.sibling (and_true (has_sibling c i) _ b).0)) (after_hangs e), omega (arith, f))
due_hangs net e c i m w l (due_folds b y f) = (clashes (net.place m.entry) (after e) (subst (λ (x : ℕ). net.place x ≡ after e) y (w.sibling (and_true (has_sibling c i) _ b).0)) (after_hangs e), omega (arith, f))
due_hangs net e c i m w l (due_clear b y f) = (clashes (net.place m.entry) (after e) (subst (λ (x : ℕ). net.place x ≡ after e) y (w.sibling (and_true (has_sibling c i) _ b).0)) (after_hangs e), omega (arith, f))
due_hangs net e c i m w l (due_done b y f) = (subst (λ (x : ℕ). net.place x ≢ apart) y (w.rising (and_true (is_last c i) _ b).0).1, omega (arith, f))
due_hangs net e c i m w l (due_first_reads b y f) = (clashes (net.place m.entry) (first e) (subst (λ (x : ℕ). net.place x ≡ first e) y (w.child (and_true c.headed _ b).0)) (first_hangs e), omega (arith, f))
due_hangs net e c i m w l (due_first_writes b y f) = (clashes (net.place m.entry) (first e) (subst (λ (x : ℕ). net.place x ≡ first e) y (w.child (and_true c.headed _ b).0)) (first_hangs e), omega (arith, f))
due_hangs net e c i m w l (due_first_folds b y f) = (clashes (net.place m.entry) (first e) (subst (λ (x : ℕ). net.place x ≡ first e) y (w.child (and_true c.headed _ b).0)) (first_hangs e), omega (arith, f))
due_hangs net e c i m w l (due_join b y f) = absurd (clash (and_true c.folds c.left b).1 l)

module _ (n : ℕ) (ws : List ℕ) (sights : List Sight) (stands : Stands n ws sights) (id : ℕ) (s : Sight) (at : Sits sights id s) where
  -- what is held names entries of the table that hang, and flags
  pub held_names : (m : Message) → Has m s.known.view.held → (m.entry < n) × (stands.net.place m.entry ≢ apart) × (1 ≤ m.flag) × (m.flag ≤ 5)
  held_names m h =
      let words = stands.rule.kept.flow.words in
      let d = held_due n stands.net (states_of ws) (infos_of ws) (views_of sights) words id s.known.view (view_at sights id s at) m h in
      let k = due_hangs stands.net d.0 (states_of ws d.0) (infos_of ws d.0) m (words.wired d.0 d.1) (stands.neat d.0).left d.2 in
      (target_in n stands.net (states_of ws) (infos_of ws) (views_of sights) words d.0 d.1 m d.2, k.0, k.1, small d.0 (states_of ws d.0) (infos_of ws d.0) m d.2)

  pub hangs : (e : ℕ) → Hangs s.known e → stands.net.place e ≢ apart
  hangs e (by_link p l) = λ a. let q = stands.rule.seats.named_link id s.known.view (view_at sights id s at) (record { entry = e; place = p }) l in q.1 (sym q.0 ∙ a)
  hangs e (by_told i t) = ((stands.knows id s at).told (record { entry = e; info = i }) t).0
  hangs e (by_message m h q) = subst (λ (x : ℕ). stands.net.place x ≢ apart) q (held_names m h).1

pub informs : (n id : ℕ) (s : Sight) (e : ℕ) → Hangs s.known e → Steps n id s (2 + 2 * e) (λ x. x) (Informs (step 0 (2 + 2 * e) 0 0 maybe.none) (s, []))
informs n id s e hang ws sights stands at =
    let x = slice_index ws (2 + 2 * e) in
    let s' : Sight = record { known = informed e x s.known } in
    let old = stands.knows id s at in
    let new : Knows n stands.net (states_of ws) (infos_of ws) s'.known = record {
      told = λ t m. elim m [ among_first q ↦ subst (λ (z : Told). (stands.net.place z.entry ≢ apart) × (infos_of ws z.entry ≡ z.info)) q (hangs n ws sights stands id s at e hang, refl) | among_later k ↦ old.told t k ];
      filling = old.filling;
      entries = old.entries;
      spent = old.spent;
    } in
    (s', read_stands n (2 + 2 * e) ws (set sights id s') (view_stays n ws sights stands id s s' at refl new refl), (refl, (λ f q. ap (λ (z : ℕ). informed z x s.known) (omega (arith, q))), (λ f q j a. let z : e ≡ f = omega (arith, q) in ap (λ (k : ℕ). infos_of ws k) z ∙ (old.told (record { entry = f; info = j }) a).1)))

and_two : (a b : Bool) → a ≡ true → b ≡ true → (a && b) ≡ true
and_two true b p q = q
and_two false b p q = absurd (clash p refl)

-- where a link is set, it leads to an entry of the table
module _ (n : ℕ) (ws : List ℕ) (sights : List Sight) (stands : Stands n ws sights) (e : ℕ) (inside : e < n) where
  pub next_inside : (states_of ws e).linked ≡ true → (states_of ws e).next < n
  next_inside l = go ((states_of ws e).next == (infos_of ws e).parent) refl (eqb_tells (states_of ws e).next (infos_of ws e).parent)
    where
      go : (b : Bool) → ((states_of ws e).next == (infos_of ws e).parent) ≡ b → ((b ≡ true) × ((states_of ws e).next ≡ (infos_of ws e).parent)) ⊎ ((b ≡ false) × ((states_of ws e).next ≢ (infos_of ws e).parent)) → (states_of ws e).next < n
      go true q (inl t) = let k = (stands.rule.kept.flow.words.parents e inside (and_two (states_of ws e).linked ((states_of ws e).next == (infos_of ws e).parent) l q)).0 in let z = t.1 in omega (arith, k, z)
      go true q (inr t) = absurd (clash refl t.0)
      go false q t = stands.rule.kept.flow.words.nexts e inside (and_both (states_of ws e).linked ((states_of ws e).next == (infos_of ws e).parent) l q)

  pub child_inside : (states_of ws e).headed ≡ true → (states_of ws e).child < n
  child_inside h = stands.rule.kept.flow.words.firsts e inside h

-- what the links of a seat say of the net
pub kin_child : (net : Net) (links : List Hung) → ((l : Hung) → Among l links → net.place l.entry ≡ l.place) → (p e : ℕ) → Kin links p e → Child net.place p e
kin_child net links so p e (eldest a) = eldest_is (so _ a)
kin_child net links so p e (younger {e = c} k a) = younger_is (so _ a) (kin_child net links so p c k)

module _ (n : ℕ) (ws : List ℕ) (sights : List Sight) (stands : Stands n ws sights) (id : ℕ) (s : Sight) (at : Sits sights id s) where
  pub named : (l : Hung) → Among l s.known.view.links → stands.net.place l.entry ≡ l.place
  named l a = (stands.rule.seats.named_link id s.known.view (view_at sights id s at) l a).0

  pub child_of : (p e : ℕ) → Kin s.known.view.links p e → Child stands.net.place p e
  child_of p e k = kin_child stands.net s.known.view.links named p e k

  -- an own child is linked by its owner
  pub own_child : (p j : ℕ) → Among p s.known.view.owned → stands.net.place j ≢ apart → stands.net.parent j ≡ p → Among (record { entry = j; place = stands.net.place j }) s.known.view.links
  own_child p j own hung is = stands.rule.seats.own_children id s.known.view (view_at sights id s at) p own j hung is

  pub family : (e : ℕ) → e < n → Family s.known e (states_of ws e)
  family e inside =
      let words = stands.rule.kept.flow.words in record {
        headed = λ own h.
            let p = (words.wired e inside).child h in
            subst (λ (q : Place). Among (record { entry = (states_of ws e).child; place = q }) s.known.view.links) p (own_child e (states_of ws e).child own (clashes (stands.net.place (states_of ws e).child) (first e) p (first_hangs e)) (words.shaped.under e (states_of ws e).child p).0);
        unheaded = λ own h j a. clash (words.hung_first e j (named (record { entry = j; place = first e }) a)).1 h;
        linked = λ p kin own ungiven l.
            let child = child_of p e kin in
            let up = child_parent stands.net words.shaped p e child in
            let hung = child_hangs stands.net p e child in
            elim (bools ((states_of ws e).next == (infos_of ws e).parent)) [
              | inl q ↦
                  let given = (words.parents e inside (and_two (states_of ws e).linked ((states_of ws e).next == (infos_of ws e).parent) l q)).2 in
                  let here = words.told e hung ∙ up in
                  let gave = sym (stands.rule.kept.given (infos_of ws e).parent (words.parents e inside (and_two (states_of ws e).linked ((states_of ws e).next == (infos_of ws e).parent) l q)).0) ∙ given in
                  absurd (ungiven (stands.rule.seats.own_give id s.known.view (view_at sights id s at) p own (ap (λ (x : ℕ). stands.gave x) (sym here) ∙ gave)))
              | inr q ↦
                  let p' = (words.wired e inside).sibling (and_both (states_of ws e).linked ((states_of ws e).next == (infos_of ws e).parent) l q) in
                  let level = (words.shaped.level (states_of ws e).next e (words.shaped.behind e (states_of ws e).next p')).1 in
                  (subst (λ (z : Place). Among (record { entry = (states_of ws e).next; place = z }) s.known.view.links) p' (own_child p (states_of ws e).next own (clashes (stands.net.place (states_of ws e).next) (after e) p' (after_hangs e)) (level ∙ up)), words.shaped.rises e (states_of ws e).next p')
            ];
        unlinked = λ p kin l j a. clash (words.hung_next e j (named (record { entry = j; place = after e }) a)).1 l;
      }

-- a seat with all parts is the only one with any
whole_alone : (views : List View) (i j : ℕ) (v w : View) → total (λ (z : View). z.parts) views ≡ 65537 → At views i v → At views j w → i ≢ j → v.parts ≡ 65537 → w.parts ≡ 0
whole_alone views i j v w sum at bt ne all = let k = two_terms (λ (z : View). z.parts) views i j v w at bt ne in omega (arith, k, sum, all)
  where
    two_terms : (f : View → ℕ) (l : List View) (i j : ℕ) (v w : View) → At l i v → At l j w → i ≢ j → f v + f w ≤ total f l
    two_terms f [] i j v w at bt ne = absurd (maybe.some-ne-none v (sym at))
    two_terms f (x ∷ l) zero zero v w at bt ne = absurd (ne refl)
    two_terms f (x ∷ l) zero (suc j) v w at bt ne = let a : f x ≡ f v = ap f (maybe.some-injective x v at) in let b = total_at f l j w bt in omega (arith, a, b)
    two_terms f (x ∷ l) (suc i) zero v w at bt ne = let a : f x ≡ f w = ap f (maybe.some-injective x w bt) in let b = total_at f l i v at in omega (arith, a, b)
    two_terms f (x ∷ l) (suc i) (suc j) v w at bt ne = let a = two_terms f l i j v w at bt (λ q. ne (ap suc q)) in omega (arith, a)

pub rests : (n : ℕ) (ws : List ℕ) (sights : List Sight) → Stands n ws sights → (id : ℕ) (s : Sight) → Sits sights id s → s.known.view.parts ≡ 65537 → s.known.view.held ≡ [] → s.known.view.half ≡ [] → (e : ℕ) → Rests s.known e (states_of ws e)
rests n ws sights stands id s at all empty whole e =
    let v = s.known.view in
    let here = view_at sights id s at in
    let quiet = all_parts n stands.net stands.gave (states_of ws) (infos_of ws) (slice_index ws 0) (views_of sights) stands.rule id v here all empty whole in
    let tell = views_tell n stands.net stands.gave (states_of ws) (infos_of ws) (slice_index ws 0) (views_of sights) stands.rule in
    let seats = stands.rule.seats in
    let link_here : (j : ℕ) (p : Place) → Named (views_of sights) j p → Among (record { entry = j; place = p }) v.links = λ j p m. elim m [
      | named_by k w bt a ↦ elim (same_number k id) [
        | inl q ↦ subst (λ (z : View). Among (record { entry = j; place = p }) z.links) (maybe.some-injective w v (sym bt ∙ (ap (λ (x : ℕ). get_elem? (views_of sights) x) q ∙ here))) a
        | inr ne ↦
            let t = sight_at sights k w bt in
            let none = ((stands.knows k t.0 t.1).spent (ap (λ (z : View). z.parts) t.2 ∙ whole_alone (views_of sights) id k v w seats.parts here bt (λ q. ne (sym q)) all)).0 in
            among_none (record { entry = j; place = p }) (subst (λ (z : List Hung). Among (record { entry = j; place = p }) z) (sym (ap (λ (z : View). z.links) t.2) ∙ none) a)
      ]
    ] in
    let give_here : (j : ℕ) → Released (views_of sights) j → Among j v.gives = λ j m. elim m [
      | released k w bt a ↦ elim (same_number k id) [
        | inl q ↦ subst (λ (z : View). Among j z.gives) (maybe.some-injective w v (sym bt ∙ (ap (λ (x : ℕ). get_elem? (views_of sights) x) q ∙ here))) a
        | inr ne ↦
            let t = sight_at sights k w bt in
            let none = ((stands.knows k t.0 t.1).spent (ap (λ (z : View). z.parts) t.2 ∙ whole_alone (views_of sights) id k v w seats.parts here bt (λ q. ne (sym q)) all)).1 in
            among_none j (subst (λ (z : List ℕ). Among j z) (sym (ap (λ (z : View). z.gives) t.2) ∙ none) a)
      ]
    ] in
    record {
      place = stands.net.place;
      gave = stands.gave;
      info = infos_of ws;
      links = λ j h. link_here j (stands.net.place j) (seats.link_named j h);
      linked = λ j p a. seats.named_link id v here (record { entry = j; place = p }) a;
      gives = λ j g. give_here j (seats.give_named j g);
      given = λ j a. seats.named_give id v here j a;
      told = λ t a. ((stands.knows id s at).told t a).1;
      exact = λ h. rest_exact n stands.net stands.gave (states_of ws) (infos_of ws) (slice_index ws 0) (views_of sights) stands.rule stands.net.place stands.gave tell quiet e h;
    }

pub looks : (n id : ℕ) (s : Sight) (e : ℕ) → s.known.view.parts ≢ 0 → s.known.entries ≡ n → e < n → Steps n id s (1 + 2 * e) (λ x. x) (Looks (step 0 (1 + 2 * e) 0 0 maybe.none) (s, []))
looks n id s e live size inside ws sights stands at =
    let x = slice_index ws (1 + 2 * e) in
    let s' : Sight = record { known = looked e x s.known } in
    let old = stands.knows id s at in
    let new : Knows n stands.net (states_of ws) (infos_of ws) s'.known = record { told = old.told; filling = old.filling; entries = old.entries; spent = old.spent } in
    let reads : Reads (states_of ws) e s.known.view s'.known.view = record { held = refl; half = refl; owned = refl; links = refl; gives = refl; seen = refl; delivered = refl; parts = refl; splits = refl; failed = refl } in
    let rule = rule_read n stands.net stands.gave (states_of ws) (infos_of ws) (slice_index ws 0) (views_of sights) stands.rule id s.known.view s'.known.view e (view_at sights id s at) live reads in (
      s',
      read_stands n (1 + 2 * e) ws (set sights id s') (views_change n ws sights stands id s s' at rule new refl refl refl),
      (
        refl,
        (λ f q. ap (λ (z : ℕ). looked z x s.known) (omega (arith, q))),
        (λ l. let k = next_inside n ws sights stands e inside l in omega (arith, k, size)),
        (λ h. let k = child_inside n ws sights stands e inside h in omega (arith, k, size)),
        (λ f q. let same : e ≡ f = omega (arith, q) in subst (λ (z : ℕ). Family s.known z (state_at x)) same (family n ws sights stands id s at e inside)),
        (λ f q all empty whole. let same : e ≡ f = omega (arith, q) in subst (λ (z : ℕ). Rests s.known z (state_at x)) same (rests n ws sights stands id s at all empty whole e)),
        one_info n ws sights stands id s at,
      ),
    )
