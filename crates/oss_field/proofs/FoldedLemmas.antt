-- A fold as a call of several steps: what the seat knows between them and after them.
use Rattle.std.proofs.Common.{◌≡◌, ◌⊎◌, inl, inr, sym, subst, refl, ◌∙◌, ap, ℕ, zero, suc, ◌<◌, ◌≤◌, ◌+◌, ◌-◌, ◌*◌, arith, Bool, true, false, List, [], ◌∷◌, ◌++◌, length}
use Rattle.std.specs.List.{swap_remove}
use Rattle.std.specs.Prelude.{if◌then◌else◌, slice_index_or}
use Rattle.oss_syntax.specs.declared.access.Mode.{Mode}
use Rattle.oss_syntax.specs.declared.access.Mode.TheVariants.{Fold}
use Rattle.oss_syntax.specs.declared.access.Op.{Op}
use Rattle.oss_words.specs.declared.entry.EntryInfo.{EntryInfo}
use Rattle.oss_words.specs.declared.entry.EntryState.{EntryState}
use Rattle.oss_words.specs.declared.message.Message.{Message}
use Rattle.oss_words.specs.Bits.{info_at, state_at}
use Rattle.oss_words.specs.Causes.{sent}
use Rattle.oss_words.specs.Members.{Has}
use Rattle.oss_words.specs.Views.{Among, among_first, among_later}
use Rattle.oss_field.specs.declared.held.Held.{Held}
use Rattle.oss_field.specs.declared.touched.Touched.{Touched}
use Rattle.oss_field.specs.Folding.{FindsJoin, Folded, GivesJoin, HasJoined, IsCombined, JoinsHalf, JoinsWhole, MayCombine, Midway, Notes, ReadsBelow, ReadsChild, ReadsNumber, above, behind_it, below_it, childless, combined, join_to, joined_half, joined_whole, marking, read_value}
use Rattle.oss_field.specs.Giving.{GivesRest, gave_rest}
use Rattle.oss_field.specs.Heard.{Told}
use Rattle.oss_field.specs.Known.{Known}
use Rattle.oss_field.specs.Layout.{number_word_of, state_word_of, value_word_of}
use Rattle.oss_field.specs.Marks.{Fact, Mark, cell_is, has_child, has_last, has_none, value_is}
use Rattle.oss_field.specs.Messages.{Informs, JoinFirst, Later, Learns, NoneBefore, OneInfo, Ready, Settled, later, message_of, rank, without}
use Rattle.oss_field.specs.Moves.{touched}
use Rattle.oss_field.proofs.MessageLemmas.{at_among, held_ready, learns_one, left_ready, ready_held, still_bounded}

-- What is read

pub notes_none : (k : Known) → Notes k k
notes_none k = record { same = refl; told = λ t a. a; marks = λ x a. a; one = λ o. o }

pub notes_more : (a b c : Known) → Notes a b → Notes b c → Notes a c
notes_more a b c f g = record {
  same = g.same ∙ (λ i. record (f.same i) { told = c.told; marks = c.marks; word = c.word; found = c.found });
  told = λ t m. g.told t (f.told t m);
  marks = λ x m. g.marks x (f.marks x m);
  one = λ o. g.one (f.one o);
}

pub notes_mark : (k l : Known) (word x e : ℕ) (t : Fact) → l ≡ touched word x (marking e t k) → Notes k l
notes_mark k l word x e t known = subst (λ (z : Known). Notes k z) (sym known) (record { same = refl; told = λ u a. a; marks = λ u a. among_later a; one = λ o. o })

pub notes_learns : (a b : Known) → Learns a b → Notes a b
notes_learns a b l =
    let q : b.marks ≡ a.marks = ap (λ (z : Known). z.marks) l.same in record {
      same = l.same ∙ (λ i. record a { told = b.told; marks = sym q i; word = b.word; found = b.found });
      told = l.told;
      marks = λ x m. subst (λ (z : List Mark). Among x z) (sym q) m;
      one = l.one;
    }

pub notes_held : (a b : Known) (e : ℕ) → Notes a b → Has (join_to e) a.words.held → Has (join_to e) b.words.held
notes_held a b e n h = subst (λ (z : List Message). Has (join_to e) z) (sym (ap (λ (z : Known). z.words.held) n.same)) h

pub marked_here : (k l : Known) (word x e : ℕ) (t u : Fact) → l ≡ touched word x (marking e t k) → t ≡ u → Among (record { entry = e; fact = u }) l.marks
marked_here k l word x e t u known q = subst (λ (z : Known). Among (record { entry = e; fact = u }) z.marks) (sym known) (among_first (λ i. record { entry = e; fact = q i }))

-- what the state word of the entry tells
module _ (n m e x : ℕ) (k l : Known) (r : ReadsBelow n m e x k l) (s : EntryState) (is : s ≡ state_at x) where
  pub below_notes : Notes k l
  below_notes = notes_mark k l (state_word_of m e) x e (below_it (state_at x)) r.known

  pub below_none : s.headed ≡ false → Among (record { entry = e; fact = has_none }) l.marks
  below_none off = marked_here k l (state_word_of m e) x e (below_it (state_at x)) has_none r.known (ap (λ (z : EntryState). below_it z) (sym is) ∙ ap (λ (b : Bool). if b then has_child s.child else has_none) off)

  pub below_child : s.headed ≡ true → Among (record { entry = e; fact = has_child s.child }) l.marks
  below_child on = marked_here k l (state_word_of m e) x e (below_it (state_at x)) (has_child s.child) r.known (ap (λ (z : EntryState). below_it z) (sym is) ∙ ap (λ (b : Bool). if b then has_child s.child else has_none) on)

  pub below_inside : s.headed ≡ true → s.child < n
  below_inside on = subst (λ (z : EntryState). z.child < n) (sym is) (r.inside (ap (λ (z : EntryState). z.headed) (sym is) ∙ on))

-- what is kept while the children are gone along: last is one of them, and s its state
pub record Along (n e last : ℕ) (s : EntryState) (a k : Known) : Type 0 where
  pub notes : Notes a k
  pub linked : s.linked ≡ true → Among (record { entry = e; fact = has_child s.next }) k.marks × (last < s.next) × (s.next < n)
  pub unlinked : s.linked ≡ false → Among (record { entry = e; fact = has_last last }) k.marks

-- behind one more read
pub along : (n m e c x : ℕ) (s : EntryState) (a k l : Known) → Notes a k → ReadsChild n m e c x k l → s ≡ state_at x → Along n e c s a l
along n m e c x s a k l notes r is = subst (λ (z : EntryState). Along n e c z a l) (sym is) (record {
  notes = notes_more a k l notes (notes_mark k l (state_word_of m c) x e (behind_it c (state_at x)) r.known);
  linked = λ on.
      let b = r.behind on in
      (marked_here k l (state_word_of m c) x e (behind_it c (state_at x)) (has_child (state_at x).next) r.known (ap (λ (b : Bool). if b then has_child (state_at x).next else has_last c) on), b.0, b.1);
  unlinked = λ off. marked_here k l (state_word_of m c) x e (behind_it c (state_at x)) (has_last c) r.known (ap (λ (b : Bool). if b then has_child (state_at x).next else has_last c) off);
})

-- The join

pub number_held : (m e x : ℕ) (k l : Known) → ReadsNumber m e x k l → Has (join_to e) k.words.held → Has (join_to e) l.words.held
number_held m e x k l r held = notes_held k l e (notes_mark k l (number_word_of m e) x e (cell_is x) r.known) held

-- the value and the cell are read, and the value is combined
module _ (m e w number value : ℕ) (k k1 k2 : Known) (first : ReadsNumber m e number k k1) (second : k2 ≡ read_value m e value k1) (held : Has (join_to e) k.words.held) (told : Among (record { entry = e; info = info_at w }) k.told) (unjoined : k.joined ≡ []) where
  both_notes : Notes k k2
  both_notes = notes_more k k1 k2 (notes_mark k k1 (number_word_of m e) number e (cell_is number) first.known) (notes_mark k1 k2 (value_word_of m e) value e (value_is value) second)

  pub mode_folds : (op : Op) × ((info_at w).mode ≡ Fold op)
  mode_folds = first.reduces (info_at w) told

  module _ (op : Op) (mode : Mode) (mode_is : mode ≡ (info_at w).mode) (folds : mode ≡ Fold op) (cell : ℕ) (cell_number : cell ≡ number) where
    number_kept : Among (record { entry = e; fact = cell_is cell }) k2.marks
    number_kept = subst (λ (z : ℕ). Among (record { entry = e; fact = cell_is z }) k2.marks) (sym cell_number)
        ((notes_mark k1 k2 (value_word_of m e) value e (value_is value) second).marks (record { entry = e; fact = cell_is number }) (marked_here k k1 (number_word_of m e) number e (cell_is number) (cell_is number) first.known refl))

    value_kept : Among (record { entry = e; fact = value_is value }) k2.marks
    value_kept = marked_here k1 k2 (value_word_of m e) value e (value_is value) (value_is value) second refl

    pub may_combine : MayCombine m k2 e w op cell value
    may_combine = record {
      held = notes_held k k2 e both_notes held;
      told = both_notes.told (record { entry = e; info = info_at w }) told;
      mode = sym mode_is ∙ folds;
      number = number_kept;
      left = value_kept;
      inside = subst (λ (z : ℕ). z < m) (sym cell_number) first.inside;
      unjoined = ap (λ (z : Known). z.joined) both_notes.same ∙ unjoined;
    }

    pub has_joined : (x : ℕ) (k3 : Known) → k3 ≡ combined e cell x k2 → HasJoined e w k k3
    has_joined x k3 known =
        let both_told : k2.told ≡ k.told = ap (λ (z : Known). z.told) second ∙ ap (λ (z : Known). z.told) first.known in
        let marks_are : k3.marks ≡ k2.marks = ap (λ (z : Known). z.marks) known in record {
          op = op;
          cell = cell;
          value = value;
          mode = sym mode_is ∙ folds;
          number = subst (λ (z : List Mark). Among (record { entry = e; fact = cell_is cell }) z) (sym marks_are) number_kept;
          left = subst (λ (z : List Mark). Among (record { entry = e; fact = value_is value }) z) (sym marks_are) value_kept;
          known = known
              ∙ ((λ j. combined e cell x (both_notes.same j))
              ∙ (λ j. record k { told = both_told j; joined = e ∷ []; marks = sym marks_are j; word = sym (ap (λ (z : Known). z.word) known) j; found = sym (ap (λ (z : Known). z.found) known) j }));
          marks = λ y a. subst (λ (z : List Mark). Among y z) (sym marks_are) (both_notes.marks y a);
        }

-- Between the steps

later_on : (k l : Known) (m : Message) (i : EntryInfo) (b : Message) → ((t : Told) → Among t k.told → Among t l.told) → Later k m i b → Later l m i b
later_on k l m i b told (later j a rest) = later j (told (record { entry = b.entry; info = j }) a) rest

pub combined_midway : (left : List Held) (n e w : ℕ) (k : Known) → Midway left n e w (e ∷ []) k → IsCombined n k e w
combined_midway left n e w k s = record { held = s.held; told = s.told; later = s.later; inside = s.inside; whole = s.whole; joined = s.joined }

-- what does not change what is held
midway_on : (left : List Held) (n e w : ℕ) (js hs : List ℕ) (k l : Known) → Midway left n e w js k → l.words ≡ k.words → l.owes ≡ k.owes → l.joined ≡ hs → ((t : Told) → Among t k.told → Among t l.told) → OneInfo l → Midway left n e w hs l
midway_on left n e w js hs k l s words owes joined told one = record {
  held = subst (λ (z : List Message). Has (join_to e) z) (sym (ap (λ z. z.held) words)) s.held;
  told = told (record { entry = e; info = info_at w }) s.told;
  later = λ b h. later_on k l (join_to e) (info_at w) b told (s.later b (subst (λ (z : List Message). Has b z) (ap (λ z. z.held) words) h));
  inside = s.inside;
  whole = ap (λ z. z.half) words ∙ s.whole;
  joined = joined;
  unowed = owes ∙ s.unowed;
  one = one;
  bounded = record {
    room = subst (λ (z : List Message). length z ≤ 390) (sym (ap (λ z. z.held) words)) s.bounded.room;
    names = λ b h. s.bounded.names b (subst (λ (z : List Message). Has b z) (ap (λ z. z.held) words) h);
  };
  ready = λ c items is more. s.ready c items (is ∙ ap (λ (z : List Message). without (join_to e) z ++ items) (ap (λ z. z.held) words)) (λ t a. more t (told t a));
}

pub midway_notes : (left : List Held) (n e w : ℕ) (js : List ℕ) (k l : Known) → Midway left n e w js k → Notes k l → Midway left n e w js l
midway_notes left n e w js k l s notes =
    midway_on left n e w js js k l s (ap (λ (z : Known). z.words) notes.same) (ap (λ (z : Known). z.owes) notes.same) (ap (λ (z : Known). z.joined) notes.same ∙ s.joined) notes.told (notes.one s.one)

pub midway_joined : (left : List Held) (n e w : ℕ) (k l : Known) → Midway left n e w [] k → HasJoined e w k l → Midway left n e w (e ∷ []) l
midway_joined left n e w k l s h =
    let told : l.told ≡ k.told = ap (λ (z : Known). z.told) h.known in
    midway_on left n e w [] (e ∷ []) k l s (ap (λ (z : Known). z.words) h.known) (ap (λ (z : Known). z.owes) h.known) (ap (λ (z : Known). z.joined) h.known) (λ t a. subst (λ (z : List Told). Among t z) (sym told) a)
    (λ f i j a b. s.one f i j (subst (λ (z : List Told). Among (record { entry = f; info = i }) z) told a) (subst (λ (z : List Told). Among (record { entry = f; info = j }) z) told b))

-- The give

-- in one step
module _ (left : List Held) (n m e w x : ℕ) (k k1 k2 : Known) (s : Midway left n e w (e ∷ []) k) (g : JoinsWhole n m e w x k k1) (learns : Learns k1 k2) where
  told_whole : k1.told ≡ k.told
  told_whole = ap (λ (z : Known). z.told) g.known

  pub whole_told : Among (record { entry = e; info = info_at w }) k1.told
  whole_told = subst (λ (z : List Told). Among (record { entry = e; info = info_at w }) z) (sym told_whole) s.told

  pub whole_ready : Ready left (sent e (state_at x) (state_at (x + 24)) (info_at w)) k1
  whole_ready = s.ready k1 (sent e (state_at x) (state_at (x + 24)) (info_at w)) (ap (λ (z : Known). z.words.held) g.known) (λ t a. subst (λ (z : List Told). Among t z) (sym told_whole) a)

  pub whole_settled : (now : List Held) → Ready now [] k2 → Settled now n k2
  whole_settled now ready = record {
    ready = ready;
    bounded = still_bounded n k1 k2 learns g.bounded;
    whole = ap (λ (z : Known). z.words.half) learns.same ∙ (ap (λ (z : Known). z.words.half) g.known ∙ s.whole);
    unjoined = ap (λ (z : Known). z.joined) learns.same ∙ ap (λ (z : Known). z.joined) g.known;
    unowed = ap (λ (z : Known). z.owes) learns.same ∙ (ap (λ (z : Known). z.owes) g.known ∙ s.unowed);
    one = learns.one (λ f i j a b. s.one f i j (subst (λ (z : List Told). Among (record { entry = f; info = i }) z) told_whole a) (subst (λ (z : List Told). Among (record { entry = f; info = j }) z) told_whole b));
  }

  whole_marks : k2.marks ≡ k.marks
  whole_marks = ap (λ (z : Known). z.marks) learns.same ∙ ap (λ (z : Known). z.marks) g.known

  whole_known : k2 ≡ record (joined_whole m e w x k) { told = k2.told; marks = k2.marks; word = k2.word; found = k2.found }
  whole_known = learns.same
      ∙ ((λ j. record (g.known j) { told = k2.told; word = k2.word; found = k2.found })
      ∙ (λ j. record (joined_whole m e w x k) { told = k2.told; marks = sym whole_marks j; word = k2.word; found = k2.found }))

  pub whole_gives : Among (record { entry = e; fact = has_none }) k.marks → GivesJoin e w k k2
  whole_gives childless_is = record {
    state = x + 24;
    sends = sent e (state_at x) (state_at (x + 24)) (info_at w);
    sends_is = childless x (subst (λ (z : List Mark). Among (record { entry = e; fact = has_none }) z) (sym whole_marks) childless_is) refl refl;
    known = whole_known;
    told = λ t a. learns.told t (subst (λ (z : List Told). Among t z) (sym told_whole) a);
    marks = λ y a. subst (λ (z : List Mark). Among y z) (sym whole_marks) a;
  }

  pub whole_last : ◌≡◌ {A = Touched} (record { entry = e; state = x + 24; info = w }) k2.last
  whole_last = sym (ap (λ (z : Known). z.last) whole_known)

  pub whole_work : k2.words.delivered ≤ 6 * n
  whole_work = let a = ap (λ (z : Known). z.words.delivered) learns.same in let b = g.work in omega (arith, a, b)

-- in two, of which the second links the last child l, whose info word was read
module _ (left : List Held) (n m e w l u : ℕ) (k k1 : Known) (s : Midway left n e w (e ∷ []) k) (read : Informs m l u k k1) where
  learned : Learns k k1
  learned = subst (λ (z : Known). Learns k z) (sym read.known) (learns_one m k l u read.again)

  pub above_midway : Midway left n e w (e ∷ []) k1
  above_midway = midway_notes left n e w (e ∷ []) k k1 s (notes_learns k k1 learned)

  pub above_mark : (t : Fact) → Among (record { entry = e; fact = t }) k.marks → Among (record { entry = e; fact = t }) k1.marks
  above_mark t a = (notes_learns k k1 learned).marks (record { entry = e; fact = t }) a

  module _ (x : ℕ) (k2 : Known) (g : JoinsHalf n m e w x k1 k2) where
    told_half : k2.told ≡ k1.told
    told_half = ap (λ (z : Known). z.told) g.known

    pub half_told : Among (record { entry = l; info = info_at u }) k2.told
    half_told = subst (λ (z : List Told). Among (record { entry = l; info = info_at u }) z) (sym told_half) (subst (λ (z : Known). Among (record { entry = l; info = info_at u }) z.told) (sym read.known) (among_first refl))

    pub half_is : k2.words.half ≡ e ∷ []
    half_is = ap (λ (z : Known). z.words.half) g.known

    pub half_unjoined : k2.joined ≡ []
    half_unjoined = ap (λ (z : Known). z.joined) g.known

    pub half_mark : (t : Fact) → Among (record { entry = e; fact = t }) k.marks → Among (record { entry = e; fact = t }) k2.marks
    half_mark t a = subst (λ (z : List Mark). Among (record { entry = e; fact = t }) z) (sym (ap (λ (z : Known). z.marks) g.known)) (above_mark t a)

    module _ (y : ℕ) (k3 k4 : Known) (r : GivesRest n m e l u y k2 k3) (learns : Learns k3 k4) where
      told_rest : k3.told ≡ k1.told
      told_rest = ap (λ (z : Known). z.told) r.known ∙ told_half

      pub rest_told : Among (record { entry = l; info = info_at u }) k3.told
      rest_told = subst (λ (z : List Told). Among (record { entry = l; info = info_at u }) z) (sym (ap (λ (z : Known). z.told) r.known)) half_told

      pub rest_ready : Ready left (sent l (state_at y) (state_at (y + (64 + 65536 * e))) (info_at u)) k3
      rest_ready = above_midway.ready k3 (sent l (state_at y) (state_at (y + (64 + 65536 * e))) (info_at u))
          (ap (λ (z : Known). z.words.held) r.known ∙ ap (λ (z : Known). z.words.held ++ sent l (state_at y) (state_at (y + (64 + 65536 * e))) (info_at u)) g.known)
          (λ t a. subst (λ (z : List Told). Among t z) (sym told_rest) a)

      pub rest_settled : (now : List Held) → Ready now [] k4 → Settled now n k4
      rest_settled now ready = record {
        ready = ready;
        bounded = still_bounded n k3 k4 learns r.bounded;
        whole = ap (λ (z : Known). z.words.half) learns.same ∙ ap (λ (z : Known). z.words.half) r.known;
        unjoined = ap (λ (z : Known). z.joined) learns.same ∙ (ap (λ (z : Known). z.joined) r.known ∙ half_unjoined);
        unowed = ap (λ (z : Known). z.owes) learns.same ∙ (ap (λ (z : Known). z.owes) r.known ∙ (ap (λ (z : Known). z.owes) g.known ∙ above_midway.unowed));
        one = learns.one (λ f i j a b. above_midway.one f i j (subst (λ (z : List Told). Among (record { entry = f; info = i }) z) told_rest a) (subst (λ (z : List Told). Among (record { entry = f; info = j }) z) told_rest b));
      }

      rest_marks : k4.marks ≡ k.marks
      rest_marks = ap (λ (z : Known). z.marks) learns.same ∙ (ap (λ (z : Known). z.marks) r.known ∙ (ap (λ (z : Known). z.marks) g.known ∙ ap (λ (z : Known). z.marks) read.known))

      rest_known : k4 ≡ record k {
        words = record k.words { held = without (join_to e) k.words.held ++ sent l (state_at y) (state_at (y + (64 + 65536 * e))) (info_at u); delivered = 1 + k.words.delivered };
        joined = [];
        last = record { entry = e; state = x + 8; info = w };
        told = k4.told;
        marks = k4.marks;
        word = k4.word;
        found = k4.found;
      }
      rest_known = learns.same
          ∙ ((λ j. record (r.known j) { told = k4.told; word = k4.word; found = k4.found })
          ∙ ((λ j. record (gave_rest m e l u y (g.known j)) { told = k4.told; word = k4.word; found = k4.found })
          ∙ ((λ j. record (gave_rest m e l u y (joined_half m e w x (read.known j))) { told = k4.told; word = k4.word; found = k4.found })
          ∙ (λ j. record k {
            words = record k.words { held = without (join_to e) k.words.held ++ sent l (state_at y) (state_at (y + (64 + 65536 * e))) (info_at u); half = sym s.whole j; delivered = 1 + k.words.delivered };
            joined = [];
            last = record { entry = e; state = x + 8; info = w };
            told = k4.told;
            marks = sym rest_marks j;
            word = k4.word;
            found = k4.found;
          }))))

      pub rest_gives : Among (record { entry = e; fact = has_last l }) k.marks → GivesJoin e w k k4
      rest_gives last_is = record {
        state = x + 8;
        sends = sent l (state_at y) (state_at (y + (64 + 65536 * e))) (info_at u);
        sends_is = above x l u y (subst (λ (z : List Mark). Among (record { entry = e; fact = has_last l }) z) (sym rest_marks) last_is) refl (learns.told (record { entry = l; info = info_at u }) rest_told) refl;
        known = rest_known;
        told = λ t a. learns.told t (subst (λ (z : List Told). Among t z) (sym told_rest) (learned.told t a));
        marks = λ z a. subst (λ (q : List Mark). Among z q) (sym rest_marks) a;
      }

      pub rest_last : ◌≡◌ {A = Touched} (record { entry = e; state = x + 8; info = w }) k4.last
      rest_last = sym (ap (λ (z : Known). z.last) rest_known)

      pub rest_work : k4.words.delivered ≤ 6 * n
      rest_work = let a = ap (λ (z : Known). z.words.delivered) learns.same in let b = ap (λ (z : Known). z.words.delivered) r.known in let c = g.work in omega (arith, a, b, c)

-- behind reads
pub gives_after : (e w : ℕ) (a b c : Known) → Notes a b → GivesJoin e w b c → GivesJoin e w a c
gives_after e w a b c notes g = record {
  state = g.state;
  sends = g.sends;
  sends_is = g.sends_is;
  known = g.known ∙ (λ j. record (notes.same j) {
    words = record (notes.same j).words { held = without (join_to e) (notes.same j).words.held ++ g.sends; delivered = 1 + (notes.same j).words.delivered };
    joined = [];
    last = record { entry = e; state = g.state; info = w };
    told = c.told;
    marks = c.marks;
    word = c.word;
    found = c.found;
  });
  told = λ t m. g.told t (notes.told t m);
  marks = λ x m. g.marks x (notes.marks x m);
}

-- The whole call

-- the join is among the messages that are ready
pub join_there : (held : List Held) (n : ℕ) (k : Known) (e best : ℕ) (x : Held) → Settled held n k → JoinFirst k e → FindsJoin held e (length held) best → (best < length held) × ((slice_index_or held best x).entry ≡ e) × ((slice_index_or held best x).flag ≡ 0)
join_there held n k e best x s first finds = let r = held_ready held k x s.ready (join_to e) first.held in finds r.0 x r.1 r.2 r.3

module _ (held : List Held) (n : ℕ) (k : Known) (e best : ℕ) (x : Held) (s : Settled held n k) (first : JoinFirst k e) (inside : best < length held) (is : x ≡ slice_index_or held best x) (entry : x.entry ≡ e) (flag : x.flag ≡ 0) where
  here : Among x held
  here = subst (λ (z : Held). Among z held) (sym is) (at_among held best x inside)

  told_here : Among (record { entry = e; info = info_at x.info }) k.told
  told_here = subst (λ (z : ℕ). Among (record { entry = z; info = info_at x.info }) k.told) entry (s.ready.told x here)

  info_here : first.info ≡ info_at x.info
  info_here = s.one e first.info (info_at x.info) first.told told_here

  none : NoneBefore held (length held) best
  none i d l =
      let y : Held = slice_index_or held i d in
      let among = at_among held i d l in
      go y (first.later (message_of y) (ready_held held k s.ready y among)) (s.ready.told y among)
    where
      same_here : (d : Held) → rank x ≡ rank (slice_index_or held best d)
      same_here d = ap rank (is ∙ same_at held best inside x d)
        where
          same_at : (xs : List Held) (i : ℕ) → i < length xs → (a b : Held) → slice_index_or xs i a ≡ slice_index_or xs i b
          same_at [] i l a b = absurd (omega (arith, l))
          same_at (z ∷ xs) zero l a b = refl
          same_at (z ∷ xs) (suc i) l a b = same_at xs i (omega (arith, l)) a b

      compare : (p q f : ℕ) → (p < q) ⊎ ((p ≡ q) × (0 ≤ f)) → 8 * p + (7 - f) ≤ 8 * q + (7 - 0)
      compare p q f (inl less) = omega (arith, less)
      compare p q f (inr r) = let z = r.0 in omega (arith, z)

      go : (y : Held) → Later k (join_to e) first.info (message_of y) → Among (record { entry = y.entry; info = info_at y.info }) k.told → rank y ≤ rank (slice_index_or held best d)
      go y (later j a rest) told =
          let p : j.depth ≡ (info_at y.info).depth = ap (λ (z : EntryInfo). z.depth) (s.one y.entry j (info_at y.info) a told) in
          let q = ap (λ (z : EntryInfo). z.depth) info_here in
          let c = compare j.depth first.info.depth y.flag rest in
          let b = same_here d in
          omega (arith, p, q, c, b, flag)

  pub first_midway : (left : List Held) → left ≡ swap_remove held best x → Midway left n e x.info [] k
  first_midway left q = record {
    held = first.held;
    told = told_here;
    later = λ b h. subst (λ (z : EntryInfo). Later k (join_to e) z b) info_here (first.later b h);
    inside = (s.bounded.names (join_to e) first.held).0;
    whole = s.whole;
    joined = s.unjoined;
    unowed = s.unowed;
    one = s.one;
    bounded = s.bounded;
    ready = λ c items held_is told. ready_after c items held_is told;
  }
    where
      joins : message_of x ≡ join_to e
      joins = λ i. record { entry = entry i; flag = flag i }

      ready_after : (c : Known) (items : List Message) → c.words.held ≡ without (join_to e) k.words.held ++ items → ((t : Told) → Among t k.told → Among t c.told) → Ready left items c
      ready_after c items held_is told =
          let r = left_ready held n k s.ready s.bounded best x inside is none (record c { told = k.told }) items (held_is ∙ ap (λ (z : Message). without z k.words.held ++ items) (sym joins)) refl in
          subst (λ (z : List Held). Ready z items c) (sym q) (record { same = r.same; told = λ y a. told (record { entry = y.entry; info = info_at y.info }) (r.told y a) })

  pub all_folded : (a b : Known) → HasJoined e x.info k a → GivesJoin e x.info a b → Folded e k b
  all_folded a b j g = record {
    first = first;
    info = x.info;
    told = told_here;
    op = j.op;
    cell = j.cell;
    value = j.value;
    mode = j.mode;
    number = g.marks (record { entry = e; fact = cell_is j.cell }) j.number;
    left = g.marks (record { entry = e; fact = value_is j.value }) j.left;
    state = g.state;
    sends = g.sends;
    sends_is = g.sends_is;
    known = g.known
        ∙ ((λ i. record (j.known i) {
          words = record (j.known i).words { held = without (join_to e) (j.known i).words.held ++ g.sends; delivered = 1 + (j.known i).words.delivered };
          joined = [];
          last = record { entry = e; state = g.state; info = x.info };
          told = b.told;
          marks = b.marks;
          word = b.word;
          found = b.found;
        })
        ∙ (λ i. record k {
          words = record k.words { held = without (join_to e) k.words.held ++ g.sends; delivered = 1 + k.words.delivered };
          joined = sym s.unjoined i;
          last = record { entry = e; state = g.state; info = x.info };
          told = b.told;
          marks = b.marks;
          word = b.word;
          found = b.found;
        }));
    kept = λ t m. g.told t (subst (λ (z : List Told). Among t z) (sym (ap (λ (z : Known). z.told) j.known)) m);
  }
