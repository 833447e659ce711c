-- What a step adds to the messages that are due and that came: exactly those that it sends, and the one that it delivers.
use Rattle.std.proofs.Common.{◌≡◌, inl, sym, subst, refl, ◌∙◌, ap, ℕ, ◌≤◌, ◌+◌, arith, Bool, true, false, not, cond, ◌&&◌, ◌||◌, ◌++◌}
use Rattle.oss_words.specs.declared.message.Message.{Message}
use Rattle.oss_words.specs.declared.entry.EntryState.{EntryState}
use Rattle.oss_words.specs.declared.entry.EntryInfo.{EntryInfo}
use Rattle.oss_words.specs.Sums.{total}
use Rattle.oss_words.specs.Net.{Net, Place, first, after}
use Rattle.oss_words.specs.Causes.{part, due, sent, got, has_sibling, is_last, only_reads, tells_reads, tells_writes, tells_folds, tells_clear, tells_done, heads_reads, heads_writes, heads_folds, joins, Completes, new_reads, new_writes, new_folds, new_clear, new_done, new_first_reads, new_first_writes, new_first_folds, new_join, Sets, sets_done, sets_folds, sets_reads, sets_writes, sets_clear, starts_open, starts_clear}
use Rattle.oss_words.specs.Room.{Sends, along, down, up, self}
use Rattle.oss_words.specs.Flow.{Wired}
use Rattle.oss_words.proofs.SumLemmas.{total_append}
use Rattle.oss_words.proofs.CauseLemmas.{and_true, clash}

pub and_l : (x y b : Bool) → (x ≡ true → y ≡ true) → (x && b) ≡ true → (y && b) ≡ true
and_l true y b f e = let y' = f refl in subst (λ (z : Bool). (z && b) ≡ true) (sym y') e
and_l false y b f e = absurd (cc)

pub and_r : (b x y : Bool) → (x ≡ true → y ≡ true) → (b && x) ≡ true → (b && y) ≡ true
and_r true x y f e = f e
and_r false x y f e = e

pub or_r : (b x y : Bool) → (x ≡ true → y ≡ true) → (b || x) ≡ true → (b || y) ≡ true
or_r true x y f e = e
or_r false x y f e = f e

cond_t : (b x y z : Bool) → (x ≡ true → y ≡ true) → cond b x z ≡ true → cond b y z ≡ true
cond_t true x y z f e = f e
cond_t false x y z f e = e

pub cond_f : (b x y z : Bool) → (x ≡ true → y ≡ true) → cond b z x ≡ true → cond b z y ≡ true
cond_f true x y z f e = e
cond_f false x y z f e = f e

-- each cause of the first word stands in the second, and leads to the same entry
pub record Grows (e : ℕ) (a c : EntryState) (i : EntryInfo) : Type 0 where
  pub row_reads : (tells_reads a i) ≡ true → ((tells_reads c i) ≡ true) × (a.next ≡ c.next)
  pub row_writes : (tells_writes a i) ≡ true → ((tells_writes c i) ≡ true) × (a.next ≡ c.next)
  pub row_folds : (tells_folds a i) ≡ true → ((tells_folds c i) ≡ true) × (a.next ≡ c.next)
  pub row_clear : (tells_clear a i) ≡ true → ((tells_clear c i) ≡ true) × (a.next ≡ c.next)
  pub row_done : (tells_done a i) ≡ true → ((tells_done c i) ≡ true) × (i.parent ≡ i.parent)
  pub row_first_reads : (heads_reads a) ≡ true → ((heads_reads c) ≡ true) × (a.child ≡ c.child)
  pub row_first_writes : (heads_writes a) ≡ true → ((heads_writes c) ≡ true) × (a.child ≡ c.child)
  pub row_first_folds : (heads_folds a) ≡ true → ((heads_folds c) ≡ true) × (a.child ≡ c.child)
  pub row_join : (joins a) ≡ true → ((joins c) ≡ true) × (e ≡ e)

row : (h : Message → ℕ) (p q : Bool) (x y f : ℕ) → (p ≡ true → (q ≡ true) × (x ≡ y)) → total h (part q y f) ≡ total h (part p x f) + total h (part (q && not p) y f)
row h true true x y f g = let e = (g refl).1 in let k : h (record { entry = y; flag = f }) ≡ h (record { entry = x; flag = f }) = ap (λ z. h (record { entry = z; flag = f })) (sym e) in omega (arith, k)
row h true false x y f g = let b = (g refl).0 in absurd (cc)
row h false true x y f g = omega arith
row h false false x y f g = omega arith

pub sent_law : (h : Message → ℕ) (e : ℕ) (a c : EntryState) (i : EntryInfo) → Grows e a c i → total h (due e c i) ≡ total h (due e a i) + total h (sent e a c i)
sent_law h e a c i g =
    let d0 = total_append h (part (tells_reads c i) c.next 3) ((part (tells_writes c i) c.next 4 ++ (part (tells_folds c i) c.next 2 ++ (part (tells_clear c i) c.next 5 ++ (part (tells_done c i) i.parent 1 ++ (part (heads_reads c) c.child 3 ++ (part (heads_writes c) c.child 4 ++ (part (heads_folds c) c.child 2 ++ part (joins c) e 0)))))))) in
    let d1 = total_append h (part (tells_writes c i) c.next 4) ((part (tells_folds c i) c.next 2 ++ (part (tells_clear c i) c.next 5 ++ (part (tells_done c i) i.parent 1 ++ (part (heads_reads c) c.child 3 ++ (part (heads_writes c) c.child 4 ++ (part (heads_folds c) c.child 2 ++ part (joins c) e 0))))))) in
    let d2 = total_append h (part (tells_folds c i) c.next 2) ((part (tells_clear c i) c.next 5 ++ (part (tells_done c i) i.parent 1 ++ (part (heads_reads c) c.child 3 ++ (part (heads_writes c) c.child 4 ++ (part (heads_folds c) c.child 2 ++ part (joins c) e 0)))))) in
    let d3 = total_append h (part (tells_clear c i) c.next 5) ((part (tells_done c i) i.parent 1 ++ (part (heads_reads c) c.child 3 ++ (part (heads_writes c) c.child 4 ++ (part (heads_folds c) c.child 2 ++ part (joins c) e 0))))) in
    let d4 = total_append h (part (tells_done c i) i.parent 1) ((part (heads_reads c) c.child 3 ++ (part (heads_writes c) c.child 4 ++ (part (heads_folds c) c.child 2 ++ part (joins c) e 0)))) in
    let d5 = total_append h (part (heads_reads c) c.child 3) ((part (heads_writes c) c.child 4 ++ (part (heads_folds c) c.child 2 ++ part (joins c) e 0))) in
    let d6 = total_append h (part (heads_writes c) c.child 4) ((part (heads_folds c) c.child 2 ++ part (joins c) e 0)) in
    let d7 = total_append h (part (heads_folds c) c.child 2) (part (joins c) e 0) in
    let o0 = total_append h (part (tells_reads a i) a.next 3) ((part (tells_writes a i) a.next 4 ++ (part (tells_folds a i) a.next 2 ++ (part (tells_clear a i) a.next 5 ++ (part (tells_done a i) i.parent 1 ++ (part (heads_reads a) a.child 3 ++ (part (heads_writes a) a.child 4 ++ (part (heads_folds a) a.child 2 ++ part (joins a) e 0)))))))) in
    let o1 = total_append h (part (tells_writes a i) a.next 4) ((part (tells_folds a i) a.next 2 ++ (part (tells_clear a i) a.next 5 ++ (part (tells_done a i) i.parent 1 ++ (part (heads_reads a) a.child 3 ++ (part (heads_writes a) a.child 4 ++ (part (heads_folds a) a.child 2 ++ part (joins a) e 0))))))) in
    let o2 = total_append h (part (tells_folds a i) a.next 2) ((part (tells_clear a i) a.next 5 ++ (part (tells_done a i) i.parent 1 ++ (part (heads_reads a) a.child 3 ++ (part (heads_writes a) a.child 4 ++ (part (heads_folds a) a.child 2 ++ part (joins a) e 0)))))) in
    let o3 = total_append h (part (tells_clear a i) a.next 5) ((part (tells_done a i) i.parent 1 ++ (part (heads_reads a) a.child 3 ++ (part (heads_writes a) a.child 4 ++ (part (heads_folds a) a.child 2 ++ part (joins a) e 0))))) in
    let o4 = total_append h (part (tells_done a i) i.parent 1) ((part (heads_reads a) a.child 3 ++ (part (heads_writes a) a.child 4 ++ (part (heads_folds a) a.child 2 ++ part (joins a) e 0)))) in
    let o5 = total_append h (part (heads_reads a) a.child 3) ((part (heads_writes a) a.child 4 ++ (part (heads_folds a) a.child 2 ++ part (joins a) e 0))) in
    let o6 = total_append h (part (heads_writes a) a.child 4) ((part (heads_folds a) a.child 2 ++ part (joins a) e 0)) in
    let o7 = total_append h (part (heads_folds a) a.child 2) (part (joins a) e 0) in
    let s0 = total_append h (part (tells_reads c i && not (tells_reads a i)) c.next 3) ((part (tells_writes c i && not (tells_writes a i)) c.next 4 ++ (part (tells_folds c i && not (tells_folds a i)) c.next 2 ++ (part (tells_clear c i && not (tells_clear a i)) c.next 5 ++ (part (tells_done c i && not (tells_done a i)) i.parent 1 ++ (part (heads_reads c && not (heads_reads a)) c.child 3 ++ (part (heads_writes c && not (heads_writes a)) c.child 4 ++ (part (heads_folds c && not (heads_folds a)) c.child 2 ++ part (joins c && not (joins a)) e 0)))))))) in
    let s1 = total_append h (part (tells_writes c i && not (tells_writes a i)) c.next 4) ((part (tells_folds c i && not (tells_folds a i)) c.next 2 ++ (part (tells_clear c i && not (tells_clear a i)) c.next 5 ++ (part (tells_done c i && not (tells_done a i)) i.parent 1 ++ (part (heads_reads c && not (heads_reads a)) c.child 3 ++ (part (heads_writes c && not (heads_writes a)) c.child 4 ++ (part (heads_folds c && not (heads_folds a)) c.child 2 ++ part (joins c && not (joins a)) e 0))))))) in
    let s2 = total_append h (part (tells_folds c i && not (tells_folds a i)) c.next 2) ((part (tells_clear c i && not (tells_clear a i)) c.next 5 ++ (part (tells_done c i && not (tells_done a i)) i.parent 1 ++ (part (heads_reads c && not (heads_reads a)) c.child 3 ++ (part (heads_writes c && not (heads_writes a)) c.child 4 ++ (part (heads_folds c && not (heads_folds a)) c.child 2 ++ part (joins c && not (joins a)) e 0)))))) in
    let s3 = total_append h (part (tells_clear c i && not (tells_clear a i)) c.next 5) ((part (tells_done c i && not (tells_done a i)) i.parent 1 ++ (part (heads_reads c && not (heads_reads a)) c.child 3 ++ (part (heads_writes c && not (heads_writes a)) c.child 4 ++ (part (heads_folds c && not (heads_folds a)) c.child 2 ++ part (joins c && not (joins a)) e 0))))) in
    let s4 = total_append h (part (tells_done c i && not (tells_done a i)) i.parent 1) ((part (heads_reads c && not (heads_reads a)) c.child 3 ++ (part (heads_writes c && not (heads_writes a)) c.child 4 ++ (part (heads_folds c && not (heads_folds a)) c.child 2 ++ part (joins c && not (joins a)) e 0)))) in
    let s5 = total_append h (part (heads_reads c && not (heads_reads a)) c.child 3) ((part (heads_writes c && not (heads_writes a)) c.child 4 ++ (part (heads_folds c && not (heads_folds a)) c.child 2 ++ part (joins c && not (joins a)) e 0))) in
    let s6 = total_append h (part (heads_writes c && not (heads_writes a)) c.child 4) ((part (heads_folds c && not (heads_folds a)) c.child 2 ++ part (joins c && not (joins a)) e 0)) in
    let s7 = total_append h (part (heads_folds c && not (heads_folds a)) c.child 2) (part (joins c && not (joins a)) e 0) in
    let r0 = row h (tells_reads a i) (tells_reads c i) (a.next) (c.next) 3 g.row_reads in
    let r1 = row h (tells_writes a i) (tells_writes c i) (a.next) (c.next) 4 g.row_writes in
    let r2 = row h (tells_folds a i) (tells_folds c i) (a.next) (c.next) 2 g.row_folds in
    let r3 = row h (tells_clear a i) (tells_clear c i) (a.next) (c.next) 5 g.row_clear in
    let r4 = row h (tells_done a i) (tells_done c i) (i.parent) (i.parent) 1 g.row_done in
    let r5 = row h (heads_reads a) (heads_reads c) (a.child) (c.child) 3 g.row_first_reads in
    let r6 = row h (heads_writes a) (heads_writes c) (a.child) (c.child) 4 g.row_first_writes in
    let r7 = row h (heads_folds a) (heads_folds c) (a.child) (c.child) 2 g.row_first_folds in
    let r8 = row h (joins a) (joins c) (e) (e) 0 g.row_join in
    omega (arith, d0, o0, s0, d1, o1, s1, d2, o2, s2, d3, o3, s3, d4, o4, s4, d5, o5, s5, d6, o6, s6, d7, o7, s7, r0, r1, r2, r3, r4, r5, r6, r7, r8)

pub sets_grows : (e f : ℕ) (a c : EntryState) (i : EntryInfo) → Sets a c f → Grows e a c i
sets_grows e f a c i (sets_done o q) = subst (λ (z : EntryState). Grows e a z i) (sym q) (record {
  row_reads = λ b. (and_r (has_sibling a i) (a.reads && (only_reads i.mode || (a.given && a.done))) (a.reads && (only_reads i.mode || (a.given && true))) (and_r a.reads (only_reads i.mode || (a.given && a.done)) (only_reads i.mode || (a.given && true)) (or_r (only_reads i.mode) (a.given && a.done) (a.given && true) (and_r a.given a.done true (λ q. refl)))) b, refl);
  row_writes = λ b. (and_r (has_sibling a i) (a.writes && (a.given && a.done)) (a.writes && (a.given && true)) (and_r a.writes (a.given && a.done) (a.given && true) (and_r a.given a.done true (λ q. refl))) b, refl);
  row_folds = λ b. (and_r (has_sibling a i) (a.next_folds && cond a.next_same a.folds (a.writes && (a.given && a.done))) (a.next_folds && cond a.next_same a.folds (a.writes && (a.given && true))) (and_r a.next_folds (cond a.next_same a.folds (a.writes && (a.given && a.done))) (cond a.next_same a.folds (a.writes && (a.given && true))) (cond_f a.next_same (a.writes && (a.given && a.done)) (a.writes && (a.given && true)) a.folds (and_r a.writes (a.given && a.done) (a.given && true) (and_r a.given a.done true (λ q. refl))))) b, refl);
  row_clear = λ b. (and_r (has_sibling a i) (a.clear && (a.given && a.done)) (a.clear && (a.given && true)) (and_r a.clear (a.given && a.done) (a.given && true) (and_r a.given a.done true (λ q. refl))) b, refl);
  row_done = λ b. (and_r (is_last a i) (a.clear && (a.given && a.done)) (a.clear && (a.given && true)) (and_r a.clear (a.given && a.done) (a.given && true) (and_r a.given a.done true (λ q. refl))) b, refl);
  row_first_reads = λ b. (b, refl);
  row_first_writes = λ b. (b, refl);
  row_first_folds = λ b. (b, refl);
  row_join = λ b. (b, refl);
})
sets_grows e f a c i (sets_folds o q) = subst (λ (z : EntryState). Grows e a z i) (sym q) (record {
  row_reads = λ b. (b, refl);
  row_writes = λ b. (b, refl);
  row_folds = λ b. (and_r (has_sibling a i) (a.next_folds && cond a.next_same a.folds (a.writes && (a.given && a.done))) (a.next_folds && cond a.next_same true (a.writes && (a.given && a.done))) (and_r a.next_folds (cond a.next_same a.folds (a.writes && (a.given && a.done))) (cond a.next_same true (a.writes && (a.given && a.done))) (cond_t a.next_same a.folds true (a.writes && (a.given && a.done)) (λ q. refl))) b, refl);
  row_clear = λ b. (b, refl);
  row_done = λ b. (b, refl);
  row_first_reads = λ b. (b, refl);
  row_first_writes = λ b. (b, refl);
  row_first_folds = λ b. (and_r a.headed (a.child_folds && cond a.child_same a.folds a.writes) (a.child_folds && cond a.child_same true a.writes) (and_r a.child_folds (cond a.child_same a.folds a.writes) (cond a.child_same true a.writes) (cond_t a.child_same a.folds true a.writes (λ q. refl))) b, refl);
  row_join = λ b. (and_l a.folds true a.left (λ q. refl) b, refl);
})
sets_grows e f a c i (sets_reads o q) = subst (λ (z : EntryState). Grows e a z i) (sym q) (record {
  row_reads = λ b. (and_r (has_sibling a i) (a.reads && (only_reads i.mode || (a.given && a.done))) (true && (only_reads i.mode || (a.given && a.done))) (and_l a.reads true (only_reads i.mode || (a.given && a.done)) (λ q. refl)) b, refl);
  row_writes = λ b. (b, refl);
  row_folds = λ b. (b, refl);
  row_clear = λ b. (b, refl);
  row_done = λ b. (b, refl);
  row_first_reads = λ b. (and_r a.headed a.reads true (λ q. refl) b, refl);
  row_first_writes = λ b. (b, refl);
  row_first_folds = λ b. (b, refl);
  row_join = λ b. (b, refl);
})
sets_grows e f a c i (sets_writes o q) = subst (λ (z : EntryState). Grows e a z i) (sym q) (record {
  row_reads = λ b. (b, refl);
  row_writes = λ b. (and_r (has_sibling a i) (a.writes && (a.given && a.done)) (true && (a.given && a.done)) (and_l a.writes true (a.given && a.done) (λ q. refl)) b, refl);
  row_folds = λ b. (and_r (has_sibling a i) (a.next_folds && cond a.next_same a.folds (a.writes && (a.given && a.done))) (a.next_folds && cond a.next_same a.folds (true && (a.given && a.done))) (and_r a.next_folds (cond a.next_same a.folds (a.writes && (a.given && a.done))) (cond a.next_same a.folds (true && (a.given && a.done))) (cond_f a.next_same (a.writes && (a.given && a.done)) (true && (a.given && a.done)) a.folds (and_l a.writes true (a.given && a.done) (λ q. refl)))) b, refl);
  row_clear = λ b. (b, refl);
  row_done = λ b. (b, refl);
  row_first_reads = λ b. (b, refl);
  row_first_writes = λ b. (and_r a.headed a.writes true (λ q. refl) b, refl);
  row_first_folds = λ b. (and_r a.headed (a.child_folds && cond a.child_same a.folds a.writes) (a.child_folds && cond a.child_same a.folds true) (and_r a.child_folds (cond a.child_same a.folds a.writes) (cond a.child_same a.folds true) (cond_f a.child_same a.writes true a.folds (λ q. refl))) b, refl);
  row_join = λ b. (b, refl);
})
sets_grows e f a c i (sets_clear o q) = subst (λ (z : EntryState). Grows e a z i) (sym q) (record {
  row_reads = λ b. (b, refl);
  row_writes = λ b. (b, refl);
  row_folds = λ b. (b, refl);
  row_clear = λ b. (and_r (has_sibling a i) (a.clear && (a.given && a.done)) (true && (a.given && a.done)) (and_l a.clear true (a.given && a.done) (λ q. refl)) b, refl);
  row_done = λ b. (and_r (is_last a i) (a.clear && (a.given && a.done)) (true && (a.given && a.done)) (and_l a.clear true (a.given && a.done) (λ q. refl)) b, refl);
  row_first_reads = λ b. (b, refl);
  row_first_writes = λ b. (b, refl);
  row_first_folds = λ b. (b, refl);
  row_join = λ b. (b, refl);
})

-- what may be sent when a flag is set
sends_done : (net : Net) (e : ℕ) (a : EntryState) (i : EntryInfo) (m : Message) → Wired net e a i → Completes e a (record a { done = true }) i m → Sends net e 1 m
sends_done net e a i m w (new_reads b o y f) = along (subst (λ (x : ℕ). net.place x ≡ after e) y (w.sibling (and_true (has_sibling a i) (a.reads && (only_reads i.mode || (a.given && true))) b).0)) (omega (arith, f))
sends_done net e a i m w (new_writes b o y f) = along (subst (λ (x : ℕ). net.place x ≡ after e) y (w.sibling (and_true (has_sibling a i) (a.writes && (a.given && true)) b).0)) (omega (arith, f))
sends_done net e a i m w (new_folds b o y f) = along (subst (λ (x : ℕ). net.place x ≡ after e) y (w.sibling (and_true (has_sibling a i) (a.next_folds && cond a.next_same a.folds (a.writes && (a.given && true))) b).0)) (omega (arith, f))
sends_done net e a i m w (new_clear b o y f) = along (subst (λ (x : ℕ). net.place x ≡ after e) y (w.sibling (and_true (has_sibling a i) (a.clear && (a.given && true)) b).0)) (omega (arith, f))
sends_done net e a i m w (new_done b o y f) = up (sym y ∙ (w.rising (and_true (is_last a i) (a.clear && (a.given && true)) b).0).2) (sym f)
sends_done net e a i m w (new_first_reads b o y f) = absurd (clash b o)
sends_done net e a i m w (new_first_writes b o y f) = absurd (clash b o)
sends_done net e a i m w (new_first_folds b o y f) = absurd (clash b o)
sends_done net e a i m w (new_join b o y f) = absurd (clash b o)

sends_folds : (net : Net) (e : ℕ) (a : EntryState) (i : EntryInfo) (m : Message) → Wired net e a i → Completes e a (record a { folds = true }) i m → Sends net e 2 m
sends_folds net e a i m w (new_reads b o y f) = along (subst (λ (x : ℕ). net.place x ≡ after e) y (w.sibling (and_true (has_sibling a i) (a.reads && (only_reads i.mode || (a.given && a.done))) b).0)) (omega (arith, f))
sends_folds net e a i m w (new_writes b o y f) = along (subst (λ (x : ℕ). net.place x ≡ after e) y (w.sibling (and_true (has_sibling a i) (a.writes && (a.given && a.done)) b).0)) (omega (arith, f))
sends_folds net e a i m w (new_folds b o y f) = along (subst (λ (x : ℕ). net.place x ≡ after e) y (w.sibling (and_true (has_sibling a i) (a.next_folds && cond a.next_same true (a.writes && (a.given && a.done))) b).0)) (omega (arith, f))
sends_folds net e a i m w (new_clear b o y f) = along (subst (λ (x : ℕ). net.place x ≡ after e) y (w.sibling (and_true (has_sibling a i) (a.clear && (a.given && a.done)) b).0)) (omega (arith, f))
sends_folds net e a i m w (new_done b o y f) = up (sym y ∙ (w.rising (and_true (is_last a i) (a.clear && (a.given && a.done)) b).0).2) (sym f)
sends_folds net e a i m w (new_first_reads b o y f) = down (subst (λ (x : ℕ). net.place x ≡ first e) y (w.child (and_true a.headed a.reads b).0)) (omega (arith, f)) (omega arith)
sends_folds net e a i m w (new_first_writes b o y f) = down (subst (λ (x : ℕ). net.place x ≡ first e) y (w.child (and_true a.headed a.writes b).0)) (omega (arith, f)) (omega arith)
sends_folds net e a i m w (new_first_folds b o y f) = down (subst (λ (x : ℕ). net.place x ≡ first e) y (w.child (and_true a.headed (a.child_folds && cond a.child_same true a.writes) b).0)) (omega (arith, f)) (omega arith)
sends_folds net e a i m w (new_join b o y f) = self (sym y) (sym f) (inl refl)

sends_reads : (net : Net) (e : ℕ) (a : EntryState) (i : EntryInfo) (m : Message) → Wired net e a i → Completes e a (record a { reads = true }) i m → Sends net e 3 m
sends_reads net e a i m w (new_reads b o y f) = along (subst (λ (x : ℕ). net.place x ≡ after e) y (w.sibling (and_true (has_sibling a i) (true && (only_reads i.mode || (a.given && a.done))) b).0)) (omega (arith, f))
sends_reads net e a i m w (new_writes b o y f) = along (subst (λ (x : ℕ). net.place x ≡ after e) y (w.sibling (and_true (has_sibling a i) (a.writes && (a.given && a.done)) b).0)) (omega (arith, f))
sends_reads net e a i m w (new_folds b o y f) = along (subst (λ (x : ℕ). net.place x ≡ after e) y (w.sibling (and_true (has_sibling a i) (a.next_folds && cond a.next_same a.folds (a.writes && (a.given && a.done))) b).0)) (omega (arith, f))
sends_reads net e a i m w (new_clear b o y f) = along (subst (λ (x : ℕ). net.place x ≡ after e) y (w.sibling (and_true (has_sibling a i) (a.clear && (a.given && a.done)) b).0)) (omega (arith, f))
sends_reads net e a i m w (new_done b o y f) = up (sym y ∙ (w.rising (and_true (is_last a i) (a.clear && (a.given && a.done)) b).0).2) (sym f)
sends_reads net e a i m w (new_first_reads b o y f) = down (subst (λ (x : ℕ). net.place x ≡ first e) y (w.child (and_true a.headed true b).0)) (omega (arith, f)) (omega arith)
sends_reads net e a i m w (new_first_writes b o y f) = down (subst (λ (x : ℕ). net.place x ≡ first e) y (w.child (and_true a.headed a.writes b).0)) (omega (arith, f)) (omega arith)
sends_reads net e a i m w (new_first_folds b o y f) = down (subst (λ (x : ℕ). net.place x ≡ first e) y (w.child (and_true a.headed (a.child_folds && cond a.child_same a.folds a.writes) b).0)) (omega (arith, f)) (omega arith)
sends_reads net e a i m w (new_join b o y f) = absurd (clash b o)

sends_writes : (net : Net) (e : ℕ) (a : EntryState) (i : EntryInfo) (m : Message) → Wired net e a i → Completes e a (record a { writes = true }) i m → Sends net e 4 m
sends_writes net e a i m w (new_reads b o y f) = along (subst (λ (x : ℕ). net.place x ≡ after e) y (w.sibling (and_true (has_sibling a i) (a.reads && (only_reads i.mode || (a.given && a.done))) b).0)) (omega (arith, f))
sends_writes net e a i m w (new_writes b o y f) = along (subst (λ (x : ℕ). net.place x ≡ after e) y (w.sibling (and_true (has_sibling a i) (true && (a.given && a.done)) b).0)) (omega (arith, f))
sends_writes net e a i m w (new_folds b o y f) = along (subst (λ (x : ℕ). net.place x ≡ after e) y (w.sibling (and_true (has_sibling a i) (a.next_folds && cond a.next_same a.folds (true && (a.given && a.done))) b).0)) (omega (arith, f))
sends_writes net e a i m w (new_clear b o y f) = along (subst (λ (x : ℕ). net.place x ≡ after e) y (w.sibling (and_true (has_sibling a i) (a.clear && (a.given && a.done)) b).0)) (omega (arith, f))
sends_writes net e a i m w (new_done b o y f) = up (sym y ∙ (w.rising (and_true (is_last a i) (a.clear && (a.given && a.done)) b).0).2) (sym f)
sends_writes net e a i m w (new_first_reads b o y f) = down (subst (λ (x : ℕ). net.place x ≡ first e) y (w.child (and_true a.headed a.reads b).0)) (omega (arith, f)) (omega arith)
sends_writes net e a i m w (new_first_writes b o y f) = down (subst (λ (x : ℕ). net.place x ≡ first e) y (w.child (and_true a.headed true b).0)) (omega (arith, f)) (omega arith)
sends_writes net e a i m w (new_first_folds b o y f) = down (subst (λ (x : ℕ). net.place x ≡ first e) y (w.child (and_true a.headed (a.child_folds && cond a.child_same a.folds true) b).0)) (omega (arith, f)) (omega arith)
sends_writes net e a i m w (new_join b o y f) = absurd (clash b o)

sends_clear : (net : Net) (e : ℕ) (a : EntryState) (i : EntryInfo) (m : Message) → Wired net e a i → Completes e a (record a { clear = true }) i m → Sends net e 5 m
sends_clear net e a i m w (new_reads b o y f) = along (subst (λ (x : ℕ). net.place x ≡ after e) y (w.sibling (and_true (has_sibling a i) (a.reads && (only_reads i.mode || (a.given && a.done))) b).0)) (omega (arith, f))
sends_clear net e a i m w (new_writes b o y f) = along (subst (λ (x : ℕ). net.place x ≡ after e) y (w.sibling (and_true (has_sibling a i) (a.writes && (a.given && a.done)) b).0)) (omega (arith, f))
sends_clear net e a i m w (new_folds b o y f) = along (subst (λ (x : ℕ). net.place x ≡ after e) y (w.sibling (and_true (has_sibling a i) (a.next_folds && cond a.next_same a.folds (a.writes && (a.given && a.done))) b).0)) (omega (arith, f))
sends_clear net e a i m w (new_clear b o y f) = along (subst (λ (x : ℕ). net.place x ≡ after e) y (w.sibling (and_true (has_sibling a i) (true && (a.given && a.done)) b).0)) (omega (arith, f))
sends_clear net e a i m w (new_done b o y f) = up (sym y ∙ (w.rising (and_true (is_last a i) (true && (a.given && a.done)) b).0).2) (sym f)
sends_clear net e a i m w (new_first_reads b o y f) = down (subst (λ (x : ℕ). net.place x ≡ first e) y (w.child (and_true a.headed a.reads b).0)) (omega (arith, f)) (omega arith)
sends_clear net e a i m w (new_first_writes b o y f) = down (subst (λ (x : ℕ). net.place x ≡ first e) y (w.child (and_true a.headed a.writes b).0)) (omega (arith, f)) (omega arith)
sends_clear net e a i m w (new_first_folds b o y f) = down (subst (λ (x : ℕ). net.place x ≡ first e) y (w.child (and_true a.headed (a.child_folds && cond a.child_same a.folds a.writes) b).0)) (omega (arith, f)) (omega arith)
sends_clear net e a i m w (new_join b o y f) = absurd (clash b o)

pub sets_sends : (net : Net) (e f : ℕ) (a c : EntryState) (i : EntryInfo) (m : Message) → Wired net e a i → Sets a c f → Completes e a c i m → Sends net e f m
sets_sends net e f a c i m w (sets_done o q) k = sends_done net e a i m w (subst (λ (z : EntryState). Completes e a z i m) q k)
sets_sends net e f a c i m w (sets_folds o q) k = sends_folds net e a i m w (subst (λ (z : EntryState). Completes e a z i m) q k)
sets_sends net e f a c i m w (sets_reads o q) k = sends_reads net e a i m w (subst (λ (z : EntryState). Completes e a z i m) q k)
sets_sends net e f a c i m w (sets_writes o q) k = sends_writes net e a i m w (subst (λ (z : EntryState). Completes e a z i m) q k)
sets_sends net e f a c i m w (sets_clear o q) k = sends_clear net e a i m w (subst (λ (z : EntryState). Completes e a z i m) q k)

pub part_on : (h : Message → ℕ) (b : Bool) (y f : ℕ) → b ≡ true → total h (part b y f) ≡ h (record { entry = y; flag = f })
part_on h true y f e = omega arith
part_on h false y f e = absurd (cc)

pub part_off : (h : Message → ℕ) (b : Bool) (y f : ℕ) → b ≡ false → total h (part b y f) ≡ 0
part_off h true y f e = absurd (cc)
part_off h false y f e = refl

and_false : (x b : Bool) → x ≡ false → (x && b) ≡ false
and_false true b e = absurd (cc)
and_false false b e = refl

not_false : (b : Bool) → b ≡ false → not b ≡ true
not_false true e = absurd (cc)
not_false false e = refl

-- the message may come there: it is no start
abbrev pub MayCome : Place → EntryState → ℕ → Type 0
MayCome p a f = ((f ≡ 1 → a.headed ≡ true) × (2 ≤ f → f ≤ 4 → starts_open p ≡ false) × (f ≡ 5 → starts_clear p ≡ false))

law_done : (h : Message → ℕ) (p : Place) (e : ℕ) (a : EntryState) → a.done ≡ false → MayCome p a 1 → total h (got p e (record a { done = true })) ≡ total h (got p e a) + h (record { entry = e; flag = 1 })
law_done h p e a o may =
    let n0 = total_append h (part (true && a.headed) e 1) ((part (a.folds && not (starts_open p)) e 2 ++ (part (a.reads && not (starts_open p)) e 3 ++ (part (a.writes && not (starts_open p)) e 4 ++ (part (a.clear && not (starts_clear p)) e 5 ++ part (a.given && a.left) e 0))))) in
    let m0 = total_append h (part (a.done && a.headed) e 1) ((part (a.folds && not (starts_open p)) e 2 ++ (part (a.reads && not (starts_open p)) e 3 ++ (part (a.writes && not (starts_open p)) e 4 ++ (part (a.clear && not (starts_clear p)) e 5 ++ part (a.given && a.left) e 0))))) in
    let n1 = total_append h (part (a.folds && not (starts_open p)) e 2) ((part (a.reads && not (starts_open p)) e 3 ++ (part (a.writes && not (starts_open p)) e 4 ++ (part (a.clear && not (starts_clear p)) e 5 ++ part (a.given && a.left) e 0)))) in
    let m1 = total_append h (part (a.folds && not (starts_open p)) e 2) ((part (a.reads && not (starts_open p)) e 3 ++ (part (a.writes && not (starts_open p)) e 4 ++ (part (a.clear && not (starts_clear p)) e 5 ++ part (a.given && a.left) e 0)))) in
    let n2 = total_append h (part (a.reads && not (starts_open p)) e 3) ((part (a.writes && not (starts_open p)) e 4 ++ (part (a.clear && not (starts_clear p)) e 5 ++ part (a.given && a.left) e 0))) in
    let m2 = total_append h (part (a.reads && not (starts_open p)) e 3) ((part (a.writes && not (starts_open p)) e 4 ++ (part (a.clear && not (starts_clear p)) e 5 ++ part (a.given && a.left) e 0))) in
    let n3 = total_append h (part (a.writes && not (starts_open p)) e 4) ((part (a.clear && not (starts_clear p)) e 5 ++ part (a.given && a.left) e 0)) in
    let m3 = total_append h (part (a.writes && not (starts_open p)) e 4) ((part (a.clear && not (starts_clear p)) e 5 ++ part (a.given && a.left) e 0)) in
    let n4 = total_append h (part (a.clear && not (starts_clear p)) e 5) (part (a.given && a.left) e 0) in
    let m4 = total_append h (part (a.clear && not (starts_clear p)) e 5) (part (a.given && a.left) e 0) in
    let x = part_on h (true && a.headed) e 1 (may.0 refl) in
    let y = part_off h (a.done && a.headed) e 1 (and_false a.done a.headed o) in
    omega (arith, n0, m0, n1, m1, n2, m2, n3, m3, n4, m4, x, y)

law_folds : (h : Message → ℕ) (p : Place) (e : ℕ) (a : EntryState) → a.folds ≡ false → MayCome p a 2 → total h (got p e (record a { folds = true })) ≡ total h (got p e a) + h (record { entry = e; flag = 2 })
law_folds h p e a o may =
    let n0 = total_append h (part (a.done && a.headed) e 1) ((part (true && not (starts_open p)) e 2 ++ (part (a.reads && not (starts_open p)) e 3 ++ (part (a.writes && not (starts_open p)) e 4 ++ (part (a.clear && not (starts_clear p)) e 5 ++ part (a.given && a.left) e 0))))) in
    let m0 = total_append h (part (a.done && a.headed) e 1) ((part (a.folds && not (starts_open p)) e 2 ++ (part (a.reads && not (starts_open p)) e 3 ++ (part (a.writes && not (starts_open p)) e 4 ++ (part (a.clear && not (starts_clear p)) e 5 ++ part (a.given && a.left) e 0))))) in
    let n1 = total_append h (part (true && not (starts_open p)) e 2) ((part (a.reads && not (starts_open p)) e 3 ++ (part (a.writes && not (starts_open p)) e 4 ++ (part (a.clear && not (starts_clear p)) e 5 ++ part (a.given && a.left) e 0)))) in
    let m1 = total_append h (part (a.folds && not (starts_open p)) e 2) ((part (a.reads && not (starts_open p)) e 3 ++ (part (a.writes && not (starts_open p)) e 4 ++ (part (a.clear && not (starts_clear p)) e 5 ++ part (a.given && a.left) e 0)))) in
    let n2 = total_append h (part (a.reads && not (starts_open p)) e 3) ((part (a.writes && not (starts_open p)) e 4 ++ (part (a.clear && not (starts_clear p)) e 5 ++ part (a.given && a.left) e 0))) in
    let m2 = total_append h (part (a.reads && not (starts_open p)) e 3) ((part (a.writes && not (starts_open p)) e 4 ++ (part (a.clear && not (starts_clear p)) e 5 ++ part (a.given && a.left) e 0))) in
    let n3 = total_append h (part (a.writes && not (starts_open p)) e 4) ((part (a.clear && not (starts_clear p)) e 5 ++ part (a.given && a.left) e 0)) in
    let m3 = total_append h (part (a.writes && not (starts_open p)) e 4) ((part (a.clear && not (starts_clear p)) e 5 ++ part (a.given && a.left) e 0)) in
    let n4 = total_append h (part (a.clear && not (starts_clear p)) e 5) (part (a.given && a.left) e 0) in
    let m4 = total_append h (part (a.clear && not (starts_clear p)) e 5) (part (a.given && a.left) e 0) in
    let x = part_on h (true && not (starts_open p)) e 2 (not_false (starts_open p) (may.1 (omega arith) (omega arith))) in
    let y = part_off h (a.folds && not (starts_open p)) e 2 (and_false a.folds (not (starts_open p)) o) in
    omega (arith, n0, m0, n1, m1, n2, m2, n3, m3, n4, m4, x, y)

law_reads : (h : Message → ℕ) (p : Place) (e : ℕ) (a : EntryState) → a.reads ≡ false → MayCome p a 3 → total h (got p e (record a { reads = true })) ≡ total h (got p e a) + h (record { entry = e; flag = 3 })
law_reads h p e a o may =
    let n0 = total_append h (part (a.done && a.headed) e 1) ((part (a.folds && not (starts_open p)) e 2 ++ (part (true && not (starts_open p)) e 3 ++ (part (a.writes && not (starts_open p)) e 4 ++ (part (a.clear && not (starts_clear p)) e 5 ++ part (a.given && a.left) e 0))))) in
    let m0 = total_append h (part (a.done && a.headed) e 1) ((part (a.folds && not (starts_open p)) e 2 ++ (part (a.reads && not (starts_open p)) e 3 ++ (part (a.writes && not (starts_open p)) e 4 ++ (part (a.clear && not (starts_clear p)) e 5 ++ part (a.given && a.left) e 0))))) in
    let n1 = total_append h (part (a.folds && not (starts_open p)) e 2) ((part (true && not (starts_open p)) e 3 ++ (part (a.writes && not (starts_open p)) e 4 ++ (part (a.clear && not (starts_clear p)) e 5 ++ part (a.given && a.left) e 0)))) in
    let m1 = total_append h (part (a.folds && not (starts_open p)) e 2) ((part (a.reads && not (starts_open p)) e 3 ++ (part (a.writes && not (starts_open p)) e 4 ++ (part (a.clear && not (starts_clear p)) e 5 ++ part (a.given && a.left) e 0)))) in
    let n2 = total_append h (part (true && not (starts_open p)) e 3) ((part (a.writes && not (starts_open p)) e 4 ++ (part (a.clear && not (starts_clear p)) e 5 ++ part (a.given && a.left) e 0))) in
    let m2 = total_append h (part (a.reads && not (starts_open p)) e 3) ((part (a.writes && not (starts_open p)) e 4 ++ (part (a.clear && not (starts_clear p)) e 5 ++ part (a.given && a.left) e 0))) in
    let n3 = total_append h (part (a.writes && not (starts_open p)) e 4) ((part (a.clear && not (starts_clear p)) e 5 ++ part (a.given && a.left) e 0)) in
    let m3 = total_append h (part (a.writes && not (starts_open p)) e 4) ((part (a.clear && not (starts_clear p)) e 5 ++ part (a.given && a.left) e 0)) in
    let n4 = total_append h (part (a.clear && not (starts_clear p)) e 5) (part (a.given && a.left) e 0) in
    let m4 = total_append h (part (a.clear && not (starts_clear p)) e 5) (part (a.given && a.left) e 0) in
    let x = part_on h (true && not (starts_open p)) e 3 (not_false (starts_open p) (may.1 (omega arith) (omega arith))) in
    let y = part_off h (a.reads && not (starts_open p)) e 3 (and_false a.reads (not (starts_open p)) o) in
    omega (arith, n0, m0, n1, m1, n2, m2, n3, m3, n4, m4, x, y)

law_writes : (h : Message → ℕ) (p : Place) (e : ℕ) (a : EntryState) → a.writes ≡ false → MayCome p a 4 → total h (got p e (record a { writes = true })) ≡ total h (got p e a) + h (record { entry = e; flag = 4 })
law_writes h p e a o may =
    let n0 = total_append h (part (a.done && a.headed) e 1) ((part (a.folds && not (starts_open p)) e 2 ++ (part (a.reads && not (starts_open p)) e 3 ++ (part (true && not (starts_open p)) e 4 ++ (part (a.clear && not (starts_clear p)) e 5 ++ part (a.given && a.left) e 0))))) in
    let m0 = total_append h (part (a.done && a.headed) e 1) ((part (a.folds && not (starts_open p)) e 2 ++ (part (a.reads && not (starts_open p)) e 3 ++ (part (a.writes && not (starts_open p)) e 4 ++ (part (a.clear && not (starts_clear p)) e 5 ++ part (a.given && a.left) e 0))))) in
    let n1 = total_append h (part (a.folds && not (starts_open p)) e 2) ((part (a.reads && not (starts_open p)) e 3 ++ (part (true && not (starts_open p)) e 4 ++ (part (a.clear && not (starts_clear p)) e 5 ++ part (a.given && a.left) e 0)))) in
    let m1 = total_append h (part (a.folds && not (starts_open p)) e 2) ((part (a.reads && not (starts_open p)) e 3 ++ (part (a.writes && not (starts_open p)) e 4 ++ (part (a.clear && not (starts_clear p)) e 5 ++ part (a.given && a.left) e 0)))) in
    let n2 = total_append h (part (a.reads && not (starts_open p)) e 3) ((part (true && not (starts_open p)) e 4 ++ (part (a.clear && not (starts_clear p)) e 5 ++ part (a.given && a.left) e 0))) in
    let m2 = total_append h (part (a.reads && not (starts_open p)) e 3) ((part (a.writes && not (starts_open p)) e 4 ++ (part (a.clear && not (starts_clear p)) e 5 ++ part (a.given && a.left) e 0))) in
    let n3 = total_append h (part (true && not (starts_open p)) e 4) ((part (a.clear && not (starts_clear p)) e 5 ++ part (a.given && a.left) e 0)) in
    let m3 = total_append h (part (a.writes && not (starts_open p)) e 4) ((part (a.clear && not (starts_clear p)) e 5 ++ part (a.given && a.left) e 0)) in
    let n4 = total_append h (part (a.clear && not (starts_clear p)) e 5) (part (a.given && a.left) e 0) in
    let m4 = total_append h (part (a.clear && not (starts_clear p)) e 5) (part (a.given && a.left) e 0) in
    let x = part_on h (true && not (starts_open p)) e 4 (not_false (starts_open p) (may.1 (omega arith) (omega arith))) in
    let y = part_off h (a.writes && not (starts_open p)) e 4 (and_false a.writes (not (starts_open p)) o) in
    omega (arith, n0, m0, n1, m1, n2, m2, n3, m3, n4, m4, x, y)

law_clear : (h : Message → ℕ) (p : Place) (e : ℕ) (a : EntryState) → a.clear ≡ false → MayCome p a 5 → total h (got p e (record a { clear = true })) ≡ total h (got p e a) + h (record { entry = e; flag = 5 })
law_clear h p e a o may =
    let n0 = total_append h (part (a.done && a.headed) e 1) ((part (a.folds && not (starts_open p)) e 2 ++ (part (a.reads && not (starts_open p)) e 3 ++ (part (a.writes && not (starts_open p)) e 4 ++ (part (true && not (starts_clear p)) e 5 ++ part (a.given && a.left) e 0))))) in
    let m0 = total_append h (part (a.done && a.headed) e 1) ((part (a.folds && not (starts_open p)) e 2 ++ (part (a.reads && not (starts_open p)) e 3 ++ (part (a.writes && not (starts_open p)) e 4 ++ (part (a.clear && not (starts_clear p)) e 5 ++ part (a.given && a.left) e 0))))) in
    let n1 = total_append h (part (a.folds && not (starts_open p)) e 2) ((part (a.reads && not (starts_open p)) e 3 ++ (part (a.writes && not (starts_open p)) e 4 ++ (part (true && not (starts_clear p)) e 5 ++ part (a.given && a.left) e 0)))) in
    let m1 = total_append h (part (a.folds && not (starts_open p)) e 2) ((part (a.reads && not (starts_open p)) e 3 ++ (part (a.writes && not (starts_open p)) e 4 ++ (part (a.clear && not (starts_clear p)) e 5 ++ part (a.given && a.left) e 0)))) in
    let n2 = total_append h (part (a.reads && not (starts_open p)) e 3) ((part (a.writes && not (starts_open p)) e 4 ++ (part (true && not (starts_clear p)) e 5 ++ part (a.given && a.left) e 0))) in
    let m2 = total_append h (part (a.reads && not (starts_open p)) e 3) ((part (a.writes && not (starts_open p)) e 4 ++ (part (a.clear && not (starts_clear p)) e 5 ++ part (a.given && a.left) e 0))) in
    let n3 = total_append h (part (a.writes && not (starts_open p)) e 4) ((part (true && not (starts_clear p)) e 5 ++ part (a.given && a.left) e 0)) in
    let m3 = total_append h (part (a.writes && not (starts_open p)) e 4) ((part (a.clear && not (starts_clear p)) e 5 ++ part (a.given && a.left) e 0)) in
    let n4 = total_append h (part (true && not (starts_clear p)) e 5) (part (a.given && a.left) e 0) in
    let m4 = total_append h (part (a.clear && not (starts_clear p)) e 5) (part (a.given && a.left) e 0) in
    let x = part_on h (true && not (starts_clear p)) e 5 (not_false (starts_clear p) (may.2 refl)) in
    let y = part_off h (a.clear && not (starts_clear p)) e 5 (and_false a.clear (not (starts_clear p)) o) in
    omega (arith, n0, m0, n1, m1, n2, m2, n3, m3, n4, m4, x, y)

pub got_law : (h : Message → ℕ) (p : Place) (e f : ℕ) (a c : EntryState) → Sets a c f → MayCome p a f → total h (got p e c) ≡ total h (got p e a) + h (record { entry = e; flag = f })
got_law h p e f a c (sets_done o q) may = subst (λ (z : EntryState). total h (got p e z) ≡ total h (got p e a) + h (record { entry = e; flag = 1 })) (sym q) (law_done h p e a o may)
got_law h p e f a c (sets_folds o q) may = subst (λ (z : EntryState). total h (got p e z) ≡ total h (got p e a) + h (record { entry = e; flag = 2 })) (sym q) (law_folds h p e a o may)
got_law h p e f a c (sets_reads o q) may = subst (λ (z : EntryState). total h (got p e z) ≡ total h (got p e a) + h (record { entry = e; flag = 3 })) (sym q) (law_reads h p e a o may)
got_law h p e f a c (sets_writes o q) may = subst (λ (z : EntryState). total h (got p e z) ≡ total h (got p e a) + h (record { entry = e; flag = 4 })) (sym q) (law_writes h p e a o may)
got_law h p e f a c (sets_clear o q) may = subst (λ (z : EntryState). total h (got p e z) ≡ total h (got p e a) + h (record { entry = e; flag = 5 })) (sym q) (law_clear h p e a o may)
