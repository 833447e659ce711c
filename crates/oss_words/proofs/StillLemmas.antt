-- Steps that leave the links of the words as they are: what the words know of modes and places is kept. And what each kind of change of a
-- word lets grow.
use Rattle.std.proofs.Common.{◌≡◌, ◌≢◌, ◌⊎◌, inl, inr, sym, subst, refl, ◌∙◌, ap, ℕ, ◌<◌, Bool, true, false, List, [], ◌∷◌}
use Rattle.oss_words.specs.declared.entry.EntryState.{EntryState}
use Rattle.oss_words.specs.declared.entry.EntryInfo.{EntryInfo}
use Rattle.oss_words.specs.Net.{Net, apart, first, after}
use Rattle.oss_words.specs.Causes.{has_sibling, is_last, is_fold, Sets, sets_done, sets_folds, sets_reads, sets_writes, sets_clear}
use Rattle.oss_words.specs.Grown.{Grown}
use Rattle.oss_words.specs.Modes.{Modes, Starts, Closed}
use Rattle.oss_words.specs.Views.{View}
use Rattle.oss_words.proofs.SumLemmas.{same_number}
use Rattle.oss_words.proofs.CauseLemmas.{clash}

-- the links of a word, and the bits beside them
pub record SameWires (a c : EntryState) : Type 0 where
  pub linked : c.linked ≡ a.linked
  pub next : c.next ≡ a.next
  pub headed : c.headed ≡ a.headed
  pub child : c.child ≡ a.child
  pub next_folds : c.next_folds ≡ a.next_folds
  pub next_same : c.next_same ≡ a.next_same
  pub child_folds : c.child_folds ≡ a.child_folds
  pub child_same : c.child_same ≡ a.child_same

pub wires_same : (a c : EntryState) → c ≡ a → SameWires a c
wires_same a c q = record { linked = ap (λ (z : EntryState). z.linked) q; next = ap (λ (z : EntryState). z.next) q; headed = ap (λ (z : EntryState). z.headed) q; child = ap (λ (z : EntryState). z.child) q; next_folds = ap (λ (z : EntryState). z.next_folds) q; next_same = ap (λ (z : EntryState). z.next_same) q; child_folds = ap (λ (z : EntryState). z.child_folds) q; child_same = ap (λ (z : EntryState). z.child_same) q }

pub grown_same : (a c : EntryState) → c ≡ a → Grown a c
grown_same a c q = subst (λ (z : EntryState). Grown a z) (sym q) (record { reads = λ b. b; folds = λ b. b; writes = λ b. b; given = λ b. b; done = λ b. b; clear = λ b. b; left = λ b. b; linked = λ b. b; next = λ b. refl; headed = λ b. b; child = λ b. refl })

pub given_grown : (a : EntryState) → Grown a (record a { given = true; done = true })
given_grown a = record { reads = λ b. b; folds = λ b. b; writes = λ b. b; given = λ b. refl; done = λ b. refl; clear = λ b. b; left = λ b. b; linked = λ b. b; next = λ b. refl; headed = λ b. b; child = λ b. refl }

pub given_wires : (a : EntryState) → SameWires a (record a { given = true; done = true })
given_wires a = record { linked = refl; next = refl; headed = refl; child = refl; next_folds = refl; next_same = refl; child_folds = refl; child_same = refl }

pub begun_grown : (a : EntryState) → Grown a (record a { given = true })
begun_grown a = record { reads = λ b. b; folds = λ b. b; writes = λ b. b; given = λ b. refl; done = λ b. b; clear = λ b. b; left = λ b. b; linked = λ b. b; next = λ b. refl; headed = λ b. b; child = λ b. refl }

pub begun_wires : (a : EntryState) → SameWires a (record a { given = true })
begun_wires a = record { linked = refl; next = refl; headed = refl; child = refl; next_folds = refl; next_same = refl; child_folds = refl; child_same = refl }

pub left_grown : (a : EntryState) → Grown a (record a { left = true })
left_grown a = record { reads = λ b. b; folds = λ b. b; writes = λ b. b; given = λ b. b; done = λ b. b; clear = λ b. b; left = λ b. refl; linked = λ b. b; next = λ b. refl; headed = λ b. b; child = λ b. refl }

pub left_wires : (a : EntryState) → SameWires a (record a { left = true })
left_wires a = record { linked = refl; next = refl; headed = refl; child = refl; next_folds = refl; next_same = refl; child_folds = refl; child_same = refl }

pub set_done_grown : (a : EntryState) → Grown a (record a { done = true })
set_done_grown a = record { reads = λ b. b; folds = λ b. b; writes = λ b. b; given = λ b. b; done = λ b. refl; clear = λ b. b; left = λ b. b; linked = λ b. b; next = λ b. refl; headed = λ b. b; child = λ b. refl }

pub set_done_wires : (a : EntryState) → SameWires a (record a { done = true })
set_done_wires a = record { linked = refl; next = refl; headed = refl; child = refl; next_folds = refl; next_same = refl; child_folds = refl; child_same = refl }

pub set_folds_grown : (a : EntryState) → Grown a (record a { folds = true })
set_folds_grown a = record { reads = λ b. b; folds = λ b. refl; writes = λ b. b; given = λ b. b; done = λ b. b; clear = λ b. b; left = λ b. b; linked = λ b. b; next = λ b. refl; headed = λ b. b; child = λ b. refl }

pub set_folds_wires : (a : EntryState) → SameWires a (record a { folds = true })
set_folds_wires a = record { linked = refl; next = refl; headed = refl; child = refl; next_folds = refl; next_same = refl; child_folds = refl; child_same = refl }

pub set_reads_grown : (a : EntryState) → Grown a (record a { reads = true })
set_reads_grown a = record { reads = λ b. refl; folds = λ b. b; writes = λ b. b; given = λ b. b; done = λ b. b; clear = λ b. b; left = λ b. b; linked = λ b. b; next = λ b. refl; headed = λ b. b; child = λ b. refl }

pub set_reads_wires : (a : EntryState) → SameWires a (record a { reads = true })
set_reads_wires a = record { linked = refl; next = refl; headed = refl; child = refl; next_folds = refl; next_same = refl; child_folds = refl; child_same = refl }

pub set_writes_grown : (a : EntryState) → Grown a (record a { writes = true })
set_writes_grown a = record { reads = λ b. b; folds = λ b. b; writes = λ b. refl; given = λ b. b; done = λ b. b; clear = λ b. b; left = λ b. b; linked = λ b. b; next = λ b. refl; headed = λ b. b; child = λ b. refl }

pub set_writes_wires : (a : EntryState) → SameWires a (record a { writes = true })
set_writes_wires a = record { linked = refl; next = refl; headed = refl; child = refl; next_folds = refl; next_same = refl; child_folds = refl; child_same = refl }

pub set_clear_grown : (a : EntryState) → Grown a (record a { clear = true })
set_clear_grown a = record { reads = λ b. b; folds = λ b. b; writes = λ b. b; given = λ b. b; done = λ b. b; clear = λ b. refl; left = λ b. b; linked = λ b. b; next = λ b. refl; headed = λ b. b; child = λ b. refl }

pub set_clear_wires : (a : EntryState) → SameWires a (record a { clear = true })
set_clear_wires a = record { linked = refl; next = refl; headed = refl; child = refl; next_folds = refl; next_same = refl; child_folds = refl; child_same = refl }

pub risen_grown_word : (p : ℕ) (a : EntryState) → a.linked ≡ false → Grown a (record a { linked = true; next = p })
risen_grown_word p a u = record { reads = λ b. b; folds = λ b. b; writes = λ b. b; given = λ b. b; done = λ b. b; clear = λ b. b; left = λ b. b; linked = λ b. refl; next = λ b. absurd (clash b u); headed = λ b. b; child = λ b. refl }

pub sibling_grown : (e : ℕ) (x y : Bool) (a : EntryState) → a.linked ≡ false → Grown a (record a { linked = true; next = e; next_folds = x; next_same = y })
sibling_grown e x y a u = record { reads = λ b. b; folds = λ b. b; writes = λ b. b; given = λ b. b; done = λ b. b; clear = λ b. b; left = λ b. b; linked = λ b. refl; next = λ b. absurd (clash b u); headed = λ b. b; child = λ b. refl }

pub child_grown : (e : ℕ) (x y : Bool) (a : EntryState) → a.headed ≡ false → Grown a (record a { headed = true; child = e; child_folds = x; child_same = y })
child_grown e x y a u = record { reads = λ b. b; folds = λ b. b; writes = λ b. b; given = λ b. b; done = λ b. b; clear = λ b. b; left = λ b. b; linked = λ b. b; next = λ b. refl; headed = λ b. refl; child = λ b. absurd (clash b u) }

pub sets_grown : (f : ℕ) (a c : EntryState) → Sets a c f → Grown a c
sets_grown f a c (sets_done o q) = subst (λ (z : EntryState). Grown a z) (sym q) (set_done_grown a)
sets_grown f a c (sets_folds o q) = subst (λ (z : EntryState). Grown a z) (sym q) (set_folds_grown a)
sets_grown f a c (sets_reads o q) = subst (λ (z : EntryState). Grown a z) (sym q) (set_reads_grown a)
sets_grown f a c (sets_writes o q) = subst (λ (z : EntryState). Grown a z) (sym q) (set_writes_grown a)
sets_grown f a c (sets_clear o q) = subst (λ (z : EntryState). Grown a z) (sym q) (set_clear_grown a)

pub sets_wires : (f : ℕ) (a c : EntryState) → Sets a c f → SameWires a c
sets_wires f a c (sets_done o q) = subst (λ (z : EntryState). SameWires a z) (sym q) (set_done_wires a)
sets_wires f a c (sets_folds o q) = subst (λ (z : EntryState). SameWires a z) (sym q) (set_folds_wires a)
sets_wires f a c (sets_reads o q) = subst (λ (z : EntryState). SameWires a z) (sym q) (set_reads_wires a)
sets_wires f a c (sets_writes o q) = subst (λ (z : EntryState). SameWires a z) (sym q) (set_writes_wires a)
sets_wires f a c (sets_clear o q) = subst (λ (z : EntryState). SameWires a z) (sym q) (set_clear_wires a)

pub sets_given : (f : ℕ) (a c : EntryState) → Sets a c f → c.given ≡ a.given
sets_given f a c (sets_done o q) = ap (λ (z : EntryState). z.given) q
sets_given f a c (sets_folds o q) = ap (λ (z : EntryState). z.given) q
sets_given f a c (sets_reads o q) = ap (λ (z : EntryState). z.given) q
sets_given f a c (sets_writes o q) = ap (λ (z : EntryState). z.given) q
sets_given f a c (sets_clear o q) = ap (λ (z : EntryState). z.given) q

pub grown_on : (a b c : EntryState) → Grown a b → Grown b c → Grown a c
grown_on a b c g h = record {
  reads = λ x. h.reads (g.reads x);
  folds = λ x. h.folds (g.folds x);
  writes = λ x. h.writes (g.writes x);
  given = λ x. h.given (g.given x);
  done = λ x. h.done (g.done x);
  clear = λ x. h.clear (g.clear x);
  left = λ x. h.left (g.left x);
  linked = λ x. h.linked (g.linked x);
  next = λ x. h.next (g.linked x) ∙ g.next x;
  headed = λ x. h.headed (g.headed x);
  child = λ x. h.child (g.headed x) ∙ g.child x;
}

-- of all words, where one changes
pub all_of : (P : EntryState → EntryState → Type 0) → ((a c : EntryState) → c ≡ a → P a c) → (states states' : ℕ → EntryState) (e : ℕ) → ((j : ℕ) → j ≢ e → states' j ≡ states j) → P (states e) (states' e) → (j : ℕ) → P (states j) (states' j)
all_of P same states states' e others here j = elim (same_number j e) [
  | inl q ↦ subst (λ (x : ℕ). P (states x) (states' x)) (sym q) here
  | inr ne ↦ same (states j) (states' j) (others j ne)
]

pub sibling_kept : (a c : EntryState) (i : EntryInfo) → SameWires a c → has_sibling c i ≡ has_sibling a i
sibling_kept a c i s = let l = s.linked in let x = s.next in cc

pub last_kept : (a c : EntryState) (i : EntryInfo) → SameWires a c → is_last c i ≡ is_last a i
last_kept a c i s = let l = s.linked in let x = s.next in cc

pub modes_still : (n : ℕ) (net : Net) (states states' : ℕ → EntryState) (infos : ℕ → EntryInfo) → ((j : ℕ) → SameWires (states j) (states' j)) → Modes n net states infos → Modes n net states' infos
modes_still n net states states' infos s m = record {
  mode = m.mode;
  depth = m.depth;
  shallow = m.shallow;
  next_folds = λ e l b. (s e).next_folds ∙ m.next_folds e l (sib e b) ∙ ap (λ x. is_fold (net.mode x)) (sym (s e).next);
  next_same = λ e l b t. ap (λ x. net.mode x) (s e).next ∙ m.next_same e l (sib e b) (sym (s e).next_same ∙ t);
  next_other = λ e l b t op z w. m.next_other e l (sib e b) (sym (s e).next_same ∙ t) op (ap (λ x. net.mode x) (sym (s e).next) ∙ z) (ap (λ x. net.mode x) (sym (s e).next) ∙ w);
  child_folds = λ e l b. (s e).child_folds ∙ m.child_folds e l (sym (s e).headed ∙ b) ∙ ap (λ x. is_fold (net.mode x)) (sym (s e).child);
  child_same = λ e l b t. ap (λ x. net.mode x) (s e).child ∙ m.child_same e l (sym (s e).headed ∙ b) (sym (s e).child_same ∙ t);
  child_other = λ e l b t op z w. m.child_other e l (sym (s e).headed ∙ b) (sym (s e).child_same ∙ t) op (ap (λ x. net.mode x) (sym (s e).child) ∙ z) (ap (λ x. net.mode x) (sym (s e).child) ∙ w);
  covers = m.covers;
  sources = λ e l o. m.sources e l (elim o [ inl x ↦ inl (sym (s e).linked ∙ x) | inr x ↦ inr (sym (s e).headed ∙ x) ]);
}
  where
    sib : (e : ℕ) → has_sibling (states' e) (infos e) ≡ true → has_sibling (states e) (infos e) ≡ true
    sib e b = sym (sibling_kept (states e) (states' e) (infos e) (s e)) ∙ b

pub starts_still : (n : ℕ) (net : Net) (states states' : ℕ → EntryState) (infos : ℕ → EntryInfo) (views views' : List View) → ((j : ℕ) → SameWires (states j) (states' j)) → ((j : ℕ) → Grown (states j) (states' j))
    → ((e : ℕ) → e < n → (states' e).given ≡ true → (states' e).headed ≡ false → (states' e).done ≡ true)
    → ((e : ℕ) → e < n → (states' e).given ≡ true → (states' e).headed ≡ true → Closed n net states' infos views' e)
    → Starts n net states infos views → Starts n net states' infos views'
starts_still n net states states' infos views views' s g childless closed t = record {
  above = t.above;
  top_reads = λ e p. (g e).reads (t.top_reads e p);
  top_writes = λ e p. (g e).writes (t.top_writes e p);
  top_folds = λ e p. (g e).folds (t.top_folds e p);
  top_clear = λ e p. (g e).clear (t.top_clear e p);
  first_clear = λ p e q. (g e).clear (t.first_clear p e q);
  childless = childless;
  closed = closed;
  next_is = λ x e p. let k = t.next_is x e p in (sibling_kept (states x) (states' x) (infos x) (s x) ∙ k.0, (s x).next ∙ k.1);
  first_is = λ x e p. let k = t.first_is x e p in ((s x).headed ∙ k.0, (s x).child ∙ k.1);
}

-- all but the link to the next entry is the same
pub record SameBelow (a c : EntryState) : Type 0 where
  pub reads : c.reads ≡ a.reads
  pub folds : c.folds ≡ a.folds
  pub writes : c.writes ≡ a.writes
  pub given : c.given ≡ a.given
  pub done : c.done ≡ a.done
  pub clear : c.clear ≡ a.clear
  pub left : c.left ≡ a.left
  pub headed : c.headed ≡ a.headed
  pub child : c.child ≡ a.child
  pub child_folds : c.child_folds ≡ a.child_folds
  pub child_same : c.child_same ≡ a.child_same

pub below_same : (a c : EntryState) → c ≡ a → SameBelow a c
below_same a c q = record { reads = ap (λ (z : EntryState). z.reads) q; folds = ap (λ (z : EntryState). z.folds) q; writes = ap (λ (z : EntryState). z.writes) q; given = ap (λ (z : EntryState). z.given) q; done = ap (λ (z : EntryState). z.done) q; clear = ap (λ (z : EntryState). z.clear) q; left = ap (λ (z : EntryState). z.left) q; headed = ap (λ (z : EntryState). z.headed) q; child = ap (λ (z : EntryState). z.child) q; child_folds = ap (λ (z : EntryState). z.child_folds) q; child_same = ap (λ (z : EntryState). z.child_same) q }

pub risen_below : (p : ℕ) (a : EntryState) → SameBelow a (record a { linked = true; next = p })
risen_below p a = record { reads = refl; folds = refl; writes = refl; given = refl; done = refl; clear = refl; left = refl; headed = refl; child = refl; child_folds = refl; child_same = refl }

pub sibling_below : (e : ℕ) (x y : Bool) (a : EntryState) → SameBelow a (record a { linked = true; next = e; next_folds = x; next_same = y })
sibling_below e x y a = record { reads = refl; folds = refl; writes = refl; given = refl; done = refl; clear = refl; left = refl; headed = refl; child = refl; child_folds = refl; child_same = refl }

-- all but the link to the first child is the same
pub record SameBeside (a c : EntryState) : Type 0 where
  pub reads : c.reads ≡ a.reads
  pub folds : c.folds ≡ a.folds
  pub writes : c.writes ≡ a.writes
  pub given : c.given ≡ a.given
  pub done : c.done ≡ a.done
  pub clear : c.clear ≡ a.clear
  pub left : c.left ≡ a.left
  pub linked : c.linked ≡ a.linked
  pub next : c.next ≡ a.next
  pub next_folds : c.next_folds ≡ a.next_folds
  pub next_same : c.next_same ≡ a.next_same

pub beside_same : (a c : EntryState) → c ≡ a → SameBeside a c
beside_same a c q = record { reads = ap (λ (z : EntryState). z.reads) q; folds = ap (λ (z : EntryState). z.folds) q; writes = ap (λ (z : EntryState). z.writes) q; given = ap (λ (z : EntryState). z.given) q; done = ap (λ (z : EntryState). z.done) q; clear = ap (λ (z : EntryState). z.clear) q; left = ap (λ (z : EntryState). z.left) q; linked = ap (λ (z : EntryState). z.linked) q; next = ap (λ (z : EntryState). z.next) q; next_folds = ap (λ (z : EntryState). z.next_folds) q; next_same = ap (λ (z : EntryState). z.next_same) q }

pub child_beside : (e : ℕ) (x y : Bool) (a : EntryState) → SameBeside a (record a { headed = true; child = e; child_folds = x; child_same = y })
child_beside e x y a = record { reads = refl; folds = refl; writes = refl; given = refl; done = refl; clear = refl; left = refl; linked = refl; next = refl; next_folds = refl; next_same = refl }
