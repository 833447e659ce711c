-- Which messages are due at an entry, which a step sends, and that each is due once.
use Rattle.std.proofs.Common.{◌≡◌, ◌≢◌, ◌⊎◌, inl, inr, sym, refl, ◌∙◌, ℕ, ◌<◌, ◌≤◌, ◌+◌, arith, Bool, true, false, not, cond, ◌&&◌, ◌||◌, ◌==◌, List, [], ◌∷◌, ◌++◌}
use Rattle.std.proofs.lemmas.Bool.Decides.{eqb_tells}
use Rattle.oss_words.specs.declared.message.Message.{Message}
use Rattle.oss_words.specs.declared.entry.EntryState.{EntryState}
use Rattle.oss_words.specs.declared.entry.EntryInfo.{EntryInfo}
use Rattle.oss_words.specs.Sums.{total, num}
use Rattle.oss_words.specs.Causes.{Due, Completes, only_reads, due_reads, new_reads, due_writes, new_writes, due_folds, new_folds, due_clear, new_clear, due_done, new_done, due_first_reads, new_first_reads, due_first_writes, new_first_writes, due_first_folds, new_first_folds, due_join, new_join, part, due, sent, has_sibling, tells_reads, tells_writes, tells_folds, tells_clear, tells_done, heads_reads, heads_writes, heads_folds, joins}
use Rattle.oss_words.specs.Members.{Has, head, tail, only}
use Rattle.oss_words.proofs.SumLemmas.{total_append, same_number}

pub and_true : (a b : Bool) → (a && b) ≡ true → (a ≡ true) × (b ≡ true)
and_true true b e = (refl, e)
and_true false b e = absurd (cc)

pub not_true : (a : Bool) → not a ≡ true → a ≡ false
not_true true e = absurd (cc)
not_true false e = refl

pub clash : {b : Bool} → b ≡ true → b ≡ false → ⊥
clash {b = true} e f = cc
clash {b = false} e f = cc

pub bools : (b : Bool) → (b ≡ true) ⊎ (b ≡ false)
bools true = inl refl
bools false = inr refl

pub has_append : (m : Message) (xs ys : List Message) → Has m (xs ++ ys) → Has m xs ⊎ Has m ys
has_append m [] ys h = inr h
has_append m (x ∷ xs) ys (head e f) = inl (head e f)
has_append m (x ∷ xs) ys (tail h) = elim (has_append m xs ys h) [ inl k ↦ inl (tail k) | inr k ↦ inr k ]

pub has_left : (m : Message) (xs ys : List Message) → Has m xs → Has m (xs ++ ys)
has_left m [] ys h = elim h [ ]
has_left m (x ∷ xs) ys (head e f) = head e f
has_left m (x ∷ xs) ys (tail h) = tail (has_left m xs ys h)

pub has_right : (m : Message) (xs ys : List Message) → Has m ys → Has m (xs ++ ys)
has_right m [] ys h = h
has_right m (x ∷ xs) ys h = tail (has_right m xs ys h)

pub has_part : (m : Message) (b : Bool) (y f : ℕ) → Has m (part b y f) → (b ≡ true) × (y ≡ m.entry) × (f ≡ m.flag)
has_part m true y f (head e g) = (refl, e, g)
has_part m true y f (tail h) = elim h [ ]
has_part m false y f h = elim h [ ]

only_one : (m x : Message) → only m x ≤ 1
only_one m x = go ((x.flag == m.flag) && (x.entry == m.entry))
  where
    go : (b : Bool) → num b ≤ 1
    go true = omega arith
    go false = omega arith

pub only_is : (m x : Message) → x.entry ≡ m.entry → x.flag ≡ m.flag → only m x ≡ 1
only_is m x e f = go (x.flag == m.flag) (x.entry == m.entry) (eqb_tells x.flag m.flag) (eqb_tells x.entry m.entry)
  where
    go : (a b : Bool) → ((a ≡ true) × (x.flag ≡ m.flag)) ⊎ ((a ≡ false) × (x.flag ≢ m.flag)) → ((b ≡ true) × (x.entry ≡ m.entry)) ⊎ ((b ≡ false) × (x.entry ≢ m.entry)) → num (a && b) ≡ 1
    go true true p q = refl
    go true false p (inl q) = absurd (clash q.0 refl)
    go true false p (inr q) = absurd (q.1 e)
    go false b (inl p) q = absurd (clash p.0 refl)
    go false b (inr p) q = absurd (p.1 f)

pub only_so : (m x : Message) → 0 < only m x → (x.entry ≡ m.entry) × (x.flag ≡ m.flag)
only_so m x h = go (x.flag == m.flag) (x.entry == m.entry) (eqb_tells x.flag m.flag) (eqb_tells x.entry m.entry) h
  where
    go : (a b : Bool) → ((a ≡ true) × (x.flag ≡ m.flag)) ⊎ ((a ≡ false) × (x.flag ≢ m.flag)) → ((b ≡ true) × (x.entry ≡ m.entry)) ⊎ ((b ≡ false) × (x.entry ≢ m.entry)) → 0 < num (a && b) → (x.entry ≡ m.entry) × (x.flag ≡ m.flag)
    go true true (inl p) (inl q) h = (q.1, p.1)
    go true true (inl p) (inr q) h = absurd (clash refl q.0)
    go true true (inr p) q h = absurd (clash refl p.0)
    go true false p q h = absurd (omega (arith, h))
    go false b p q h = absurd (omega (arith, h))

pub total_has : (m : Message) (xs : List Message) → 0 < total (only m) xs → Has m xs
total_has m [] h = absurd (omega (arith, h))
total_has m (x ∷ xs) h = elim (positive (only m x)) [
  | inl z ↦ tail (total_has m xs (omega (arith, h, z)))
  | inr p ↦ let s = only_so m x p in head s.0 s.1
]
  where
    positive : (k : ℕ) → (k ≡ 0) ⊎ (0 < k)
    positive k = grind arith

pub has_total : (m : Message) (xs : List Message) → Has m xs → 0 < total (only m) xs
has_total m [] h = elim h [ ]
has_total m (x ∷ xs) (head e f) = let o = only_is m x e f in omega (arith, o)
has_total m (x ∷ xs) (tail h) = let o = has_total m xs h in omega (arith, o)

-- a part of another flag, one part, and two parts of one flag
off : (m : Message) (b : Bool) (y f : ℕ) → f ≢ m.flag → total (only m) (part b y f) ≡ 0
off m b y f n = grind (arith, zero_or (total (only m) (part b y f)))
  where
    zero_or : (k : ℕ) → (k ≡ 0) ⊎ (0 < k)
    zero_or k = grind arith

pub due_is : (e : ℕ) (c : EntryState) (i : EntryInfo) (m : Message) → Has m (due e c i) → Due e c i m
due_is e c i m h = elim (has_append m (part (tells_reads c i) c.next 3) ((part (tells_writes c i) c.next 4 ++ (part (tells_folds c i) c.next 2 ++ (part (tells_clear c i) c.next 5 ++ (part (tells_done c i) i.parent 1 ++ (part (heads_reads c) c.child 3 ++ (part (heads_writes c) c.child 4 ++ (part (heads_folds c) c.child 2 ++ part (joins c) e 0)))))))) h) [
  | inl k0 ↦ let p = has_part m (tells_reads c i) (c.next) 3 k0 in due_reads p.0 p.1 p.2
  | inr r0 ↦ elim (has_append m (part (tells_writes c i) c.next 4) ((part (tells_folds c i) c.next 2 ++ (part (tells_clear c i) c.next 5 ++ (part (tells_done c i) i.parent 1 ++ (part (heads_reads c) c.child 3 ++ (part (heads_writes c) c.child 4 ++ (part (heads_folds c) c.child 2 ++ part (joins c) e 0))))))) r0) [
    | inl k1 ↦ let p = has_part m (tells_writes c i) (c.next) 4 k1 in due_writes p.0 p.1 p.2
    | inr r1 ↦ elim (has_append m (part (tells_folds c i) c.next 2) ((part (tells_clear c i) c.next 5 ++ (part (tells_done c i) i.parent 1 ++ (part (heads_reads c) c.child 3 ++ (part (heads_writes c) c.child 4 ++ (part (heads_folds c) c.child 2 ++ part (joins c) e 0)))))) r1) [
      | inl k2 ↦ let p = has_part m (tells_folds c i) (c.next) 2 k2 in due_folds p.0 p.1 p.2
      | inr r2 ↦ elim (has_append m (part (tells_clear c i) c.next 5) ((part (tells_done c i) i.parent 1 ++ (part (heads_reads c) c.child 3 ++ (part (heads_writes c) c.child 4 ++ (part (heads_folds c) c.child 2 ++ part (joins c) e 0))))) r2) [
        | inl k3 ↦ let p = has_part m (tells_clear c i) (c.next) 5 k3 in due_clear p.0 p.1 p.2
        | inr r3 ↦ elim (has_append m (part (tells_done c i) i.parent 1) ((part (heads_reads c) c.child 3 ++ (part (heads_writes c) c.child 4 ++ (part (heads_folds c) c.child 2 ++ part (joins c) e 0)))) r3) [
          | inl k4 ↦ let p = has_part m (tells_done c i) (i.parent) 1 k4 in due_done p.0 p.1 p.2
          | inr r4 ↦ elim (has_append m (part (heads_reads c) c.child 3) ((part (heads_writes c) c.child 4 ++ (part (heads_folds c) c.child 2 ++ part (joins c) e 0))) r4) [
            | inl k5 ↦ let p = has_part m (heads_reads c) (c.child) 3 k5 in due_first_reads p.0 p.1 p.2
            | inr r5 ↦ elim (has_append m (part (heads_writes c) c.child 4) ((part (heads_folds c) c.child 2 ++ part (joins c) e 0)) r5) [
              | inl k6 ↦ let p = has_part m (heads_writes c) (c.child) 4 k6 in due_first_writes p.0 p.1 p.2
              | inr r6 ↦ elim (has_append m (part (heads_folds c) c.child 2) (part (joins c) e 0) r6) [
                | inl k7 ↦ let p = has_part m (heads_folds c) (c.child) 2 k7 in due_first_folds p.0 p.1 p.2
                | inr r7 ↦ let p = has_part m (joins c) (e) 0 r7 in due_join p.0 p.1 p.2
              ]
            ]
          ]
        ]
      ]
    ]
  ]
]

pub sent_is : (e : ℕ) (a c : EntryState) (i : EntryInfo) (m : Message) → Has m (sent e a c i) → Completes e a c i m
sent_is e a c i m h = elim (has_append m (part (tells_reads c i && not (tells_reads a i)) c.next 3) ((part (tells_writes c i && not (tells_writes a i)) c.next 4 ++ (part (tells_folds c i && not (tells_folds a i)) c.next 2 ++ (part (tells_clear c i && not (tells_clear a i)) c.next 5 ++ (part (tells_done c i && not (tells_done a i)) i.parent 1 ++ (part (heads_reads c && not (heads_reads a)) c.child 3 ++ (part (heads_writes c && not (heads_writes a)) c.child 4 ++ (part (heads_folds c && not (heads_folds a)) c.child 2 ++ part (joins c && not (joins a)) e 0)))))))) h) [
  | inl k0 ↦ let p = has_part m (tells_reads c i && not (tells_reads a i)) (c.next) 3 k0 in let q = and_true (tells_reads c i) (not (tells_reads a i)) p.0 in new_reads q.0 (not_true (tells_reads a i) q.1) p.1 p.2
  | inr r0 ↦ elim (has_append m (part (tells_writes c i && not (tells_writes a i)) c.next 4) ((part (tells_folds c i && not (tells_folds a i)) c.next 2 ++ (part (tells_clear c i && not (tells_clear a i)) c.next 5 ++ (part (tells_done c i && not (tells_done a i)) i.parent 1 ++ (part (heads_reads c && not (heads_reads a)) c.child 3 ++ (part (heads_writes c && not (heads_writes a)) c.child 4 ++ (part (heads_folds c && not (heads_folds a)) c.child 2 ++ part (joins c && not (joins a)) e 0))))))) r0) [
    | inl k1 ↦ let p = has_part m (tells_writes c i && not (tells_writes a i)) (c.next) 4 k1 in let q = and_true (tells_writes c i) (not (tells_writes a i)) p.0 in new_writes q.0 (not_true (tells_writes a i) q.1) p.1 p.2
    | inr r1 ↦ elim (has_append m (part (tells_folds c i && not (tells_folds a i)) c.next 2) ((part (tells_clear c i && not (tells_clear a i)) c.next 5 ++ (part (tells_done c i && not (tells_done a i)) i.parent 1 ++ (part (heads_reads c && not (heads_reads a)) c.child 3 ++ (part (heads_writes c && not (heads_writes a)) c.child 4 ++ (part (heads_folds c && not (heads_folds a)) c.child 2 ++ part (joins c && not (joins a)) e 0)))))) r1) [
      | inl k2 ↦ let p = has_part m (tells_folds c i && not (tells_folds a i)) (c.next) 2 k2 in let q = and_true (tells_folds c i) (not (tells_folds a i)) p.0 in new_folds q.0 (not_true (tells_folds a i) q.1) p.1 p.2
      | inr r2 ↦ elim (has_append m (part (tells_clear c i && not (tells_clear a i)) c.next 5) ((part (tells_done c i && not (tells_done a i)) i.parent 1 ++ (part (heads_reads c && not (heads_reads a)) c.child 3 ++ (part (heads_writes c && not (heads_writes a)) c.child 4 ++ (part (heads_folds c && not (heads_folds a)) c.child 2 ++ part (joins c && not (joins a)) e 0))))) r2) [
        | inl k3 ↦ let p = has_part m (tells_clear c i && not (tells_clear a i)) (c.next) 5 k3 in let q = and_true (tells_clear c i) (not (tells_clear a i)) p.0 in new_clear q.0 (not_true (tells_clear a i) q.1) p.1 p.2
        | inr r3 ↦ elim (has_append m (part (tells_done c i && not (tells_done a i)) i.parent 1) ((part (heads_reads c && not (heads_reads a)) c.child 3 ++ (part (heads_writes c && not (heads_writes a)) c.child 4 ++ (part (heads_folds c && not (heads_folds a)) c.child 2 ++ part (joins c && not (joins a)) e 0)))) r3) [
          | inl k4 ↦ let p = has_part m (tells_done c i && not (tells_done a i)) (i.parent) 1 k4 in let q = and_true (tells_done c i) (not (tells_done a i)) p.0 in new_done q.0 (not_true (tells_done a i) q.1) p.1 p.2
          | inr r4 ↦ elim (has_append m (part (heads_reads c && not (heads_reads a)) c.child 3) ((part (heads_writes c && not (heads_writes a)) c.child 4 ++ (part (heads_folds c && not (heads_folds a)) c.child 2 ++ part (joins c && not (joins a)) e 0))) r4) [
            | inl k5 ↦ let p = has_part m (heads_reads c && not (heads_reads a)) (c.child) 3 k5 in let q = and_true (heads_reads c) (not (heads_reads a)) p.0 in new_first_reads q.0 (not_true (heads_reads a) q.1) p.1 p.2
            | inr r5 ↦ elim (has_append m (part (heads_writes c && not (heads_writes a)) c.child 4) ((part (heads_folds c && not (heads_folds a)) c.child 2 ++ part (joins c && not (joins a)) e 0)) r5) [
              | inl k6 ↦ let p = has_part m (heads_writes c && not (heads_writes a)) (c.child) 4 k6 in let q = and_true (heads_writes c) (not (heads_writes a)) p.0 in new_first_writes q.0 (not_true (heads_writes a) q.1) p.1 p.2
              | inr r6 ↦ elim (has_append m (part (heads_folds c && not (heads_folds a)) c.child 2) (part (joins c && not (joins a)) e 0) r6) [
                | inl k7 ↦ let p = has_part m (heads_folds c && not (heads_folds a)) (c.child) 2 k7 in let q = and_true (heads_folds c) (not (heads_folds a)) p.0 in new_first_folds q.0 (not_true (heads_folds a) q.1) p.1 p.2
                | inr r7 ↦ let p = has_part m (joins c && not (joins a)) (e) 0 r7 in let q = and_true (joins c) (not (joins a)) p.0 in new_join q.0 (not_true (joins a) q.1) p.1 p.2
              ]
            ]
          ]
        ]
      ]
    ]
  ]
]

-- each is due at most once at an entry, where the links lead apart
one : (m : Message) (b : Bool) (y f : ℕ) → total (only m) (part b y f) ≤ 1
one m true y f = let o = only_one m (record { entry = y; flag = f }) in omega (arith, o)
one m false y f = omega arith

two : (m : Message) (b d : Bool) (x y f : ℕ) → (b ≡ true → d ≡ true → x ≢ y) → total (only m) (part b x f) + total (only m) (part d y f) ≤ 1
two m false d x y f n = let o = one m d y f in omega (arith, o)
two m true false x y f n = let o = one m true x f in omega (arith, o)
two m true true x y f n = let a = only_one m (record { entry = x; flag = f }) in let b = only_one m (record { entry = y; flag = f }) in
    elim (pick (only m (record { entry = x; flag = f })) (only m (record { entry = y; flag = f }))) [
      | inl p ↦ absurd (n refl refl ((only_so m (record { entry = x; flag = f }) p.0).0 ∙ sym (only_so m (record { entry = y; flag = f }) p.1).0))
      | inr p ↦ grind (arith, a, b, p)
    ]
  where
    pick : (k l : ℕ) → ((0 < k) × (0 < l)) ⊎ ((k ≡ 0) ⊎ (l ≡ 0))
    pick k l = grind arith

due_sum : (e : ℕ) (c : EntryState) (i : EntryInfo) (m : Message) → total (only m) (due e c i) ≡ (total (only m) (part (tells_reads c i) c.next 3) + (total (only m) (part (tells_writes c i) c.next 4) + (total (only m) (part (tells_folds c i) c.next 2) + (total (only m) (part (tells_clear c i) c.next 5) + (total (only m) (part (tells_done c i) i.parent 1) + (total (only m) (part (heads_reads c) c.child 3) + (total (only m) (part (heads_writes c) c.child 4) + (total (only m) (part (heads_folds c) c.child 2) + total (only m) (part (joins c) e 0)))))))))
due_sum e c i m =
    let s0 = total_append (only m) (part (tells_reads c i) c.next 3) ((part (tells_writes c i) c.next 4 ++ (part (tells_folds c i) c.next 2 ++ (part (tells_clear c i) c.next 5 ++ (part (tells_done c i) i.parent 1 ++ (part (heads_reads c) c.child 3 ++ (part (heads_writes c) c.child 4 ++ (part (heads_folds c) c.child 2 ++ part (joins c) e 0)))))))) in
    let s1 = total_append (only m) (part (tells_writes c i) c.next 4) ((part (tells_folds c i) c.next 2 ++ (part (tells_clear c i) c.next 5 ++ (part (tells_done c i) i.parent 1 ++ (part (heads_reads c) c.child 3 ++ (part (heads_writes c) c.child 4 ++ (part (heads_folds c) c.child 2 ++ part (joins c) e 0))))))) in
    let s2 = total_append (only m) (part (tells_folds c i) c.next 2) ((part (tells_clear c i) c.next 5 ++ (part (tells_done c i) i.parent 1 ++ (part (heads_reads c) c.child 3 ++ (part (heads_writes c) c.child 4 ++ (part (heads_folds c) c.child 2 ++ part (joins c) e 0)))))) in
    let s3 = total_append (only m) (part (tells_clear c i) c.next 5) ((part (tells_done c i) i.parent 1 ++ (part (heads_reads c) c.child 3 ++ (part (heads_writes c) c.child 4 ++ (part (heads_folds c) c.child 2 ++ part (joins c) e 0))))) in
    let s4 = total_append (only m) (part (tells_done c i) i.parent 1) ((part (heads_reads c) c.child 3 ++ (part (heads_writes c) c.child 4 ++ (part (heads_folds c) c.child 2 ++ part (joins c) e 0)))) in
    let s5 = total_append (only m) (part (heads_reads c) c.child 3) ((part (heads_writes c) c.child 4 ++ (part (heads_folds c) c.child 2 ++ part (joins c) e 0))) in
    let s6 = total_append (only m) (part (heads_writes c) c.child 4) ((part (heads_folds c) c.child 2 ++ part (joins c) e 0)) in
    let s7 = total_append (only m) (part (heads_folds c) c.child 2) (part (joins c) e 0) in
    omega (arith, s0, s1, s2, s3, s4, s5, s6, s7)

pub due_once : (e : ℕ) (c : EntryState) (i : EntryInfo) (m : Message) → (has_sibling c i ≡ true → c.headed ≡ true → c.next ≢ c.child) → total (only m) (due e c i) ≤ 1
due_once e c i m apart =
    let s = due_sum e c i m in
    let u0 = one m (tells_reads c i) (c.next) 3 in
    let u1 = one m (tells_writes c i) (c.next) 4 in
    let u2 = one m (tells_folds c i) (c.next) 2 in
    let u3 = one m (tells_clear c i) (c.next) 5 in
    let u4 = one m (tells_done c i) (i.parent) 1 in
    let u5 = one m (heads_reads c) (c.child) 3 in
    let u6 = one m (heads_writes c) (c.child) 4 in
    let u7 = one m (heads_folds c) (c.child) 2 in
    let u8 = one m (joins c) (e) 0 in
    let v3 = two m (tells_reads c i) (heads_reads c) c.next c.child 3 (λ p q. apart (and_true (has_sibling c i) (c.reads && (only_reads i.mode || (c.given && c.done))) p).0 (and_true c.headed c.reads q).0) in
    let v4 = two m (tells_writes c i) (heads_writes c) c.next c.child 4 (λ p q. apart (and_true (has_sibling c i) (c.writes && (c.given && c.done)) p).0 (and_true c.headed c.writes q).0) in
    let v2 = two m (tells_folds c i) (heads_folds c) c.next c.child 2 (λ p q. apart (and_true (has_sibling c i) (c.next_folds && cond c.next_same c.folds (c.writes && (c.given && c.done))) p).0 (and_true c.headed (c.child_folds && cond c.child_same c.folds c.writes) q).0) in
    elim (same_number m.flag 3) [
      | inl w3 ↦ let o1 = off m (tells_writes c i) (c.next) 4 (λ q. omega (arith, q, w3)) in let o2 = off m (tells_folds c i) (c.next) 2 (λ q. omega (arith, q, w3)) in let o3 = off m (tells_clear c i) (c.next) 5 (λ q. omega (arith, q, w3)) in let o4 = off m (tells_done c i) (i.parent) 1 (λ q. omega (arith, q, w3)) in let o6 = off m (heads_writes c) (c.child) 4 (λ q. omega (arith, q, w3)) in let o7 = off m (heads_folds c) (c.child) 2 (λ q. omega (arith, q, w3)) in let o8 = off m (joins c) (e) 0 (λ q. omega (arith, q, w3)) in omega (arith, s, o1, o2, o3, o4, o6, o7, o8, v3)
      | inr n3 ↦ elim (same_number m.flag 4) [
        | inl w4 ↦ let o0 = off m (tells_reads c i) (c.next) 3 (λ q. omega (arith, q, w4)) in let o2 = off m (tells_folds c i) (c.next) 2 (λ q. omega (arith, q, w4)) in let o3 = off m (tells_clear c i) (c.next) 5 (λ q. omega (arith, q, w4)) in let o4 = off m (tells_done c i) (i.parent) 1 (λ q. omega (arith, q, w4)) in let o5 = off m (heads_reads c) (c.child) 3 (λ q. omega (arith, q, w4)) in let o7 = off m (heads_folds c) (c.child) 2 (λ q. omega (arith, q, w4)) in let o8 = off m (joins c) (e) 0 (λ q. omega (arith, q, w4)) in omega (arith, s, o0, o2, o3, o4, o5, o7, o8, v4)
        | inr n4 ↦ elim (same_number m.flag 2) [
          | inl w2 ↦ let o0 = off m (tells_reads c i) (c.next) 3 (λ q. omega (arith, q, w2)) in let o1 = off m (tells_writes c i) (c.next) 4 (λ q. omega (arith, q, w2)) in let o3 = off m (tells_clear c i) (c.next) 5 (λ q. omega (arith, q, w2)) in let o4 = off m (tells_done c i) (i.parent) 1 (λ q. omega (arith, q, w2)) in let o5 = off m (heads_reads c) (c.child) 3 (λ q. omega (arith, q, w2)) in let o6 = off m (heads_writes c) (c.child) 4 (λ q. omega (arith, q, w2)) in let o8 = off m (joins c) (e) 0 (λ q. omega (arith, q, w2)) in omega (arith, s, o0, o1, o3, o4, o5, o6, o8, v2)
          | inr n2 ↦ elim (same_number m.flag 5) [
            | inl w5 ↦ let o0 = off m (tells_reads c i) (c.next) 3 (λ q. omega (arith, q, w5)) in let o1 = off m (tells_writes c i) (c.next) 4 (λ q. omega (arith, q, w5)) in let o2 = off m (tells_folds c i) (c.next) 2 (λ q. omega (arith, q, w5)) in let o4 = off m (tells_done c i) (i.parent) 1 (λ q. omega (arith, q, w5)) in let o5 = off m (heads_reads c) (c.child) 3 (λ q. omega (arith, q, w5)) in let o6 = off m (heads_writes c) (c.child) 4 (λ q. omega (arith, q, w5)) in let o7 = off m (heads_folds c) (c.child) 2 (λ q. omega (arith, q, w5)) in let o8 = off m (joins c) (e) 0 (λ q. omega (arith, q, w5)) in omega (arith, s, o0, o1, o2, o4, o5, o6, o7, o8, u3)
            | inr n5 ↦ elim (same_number m.flag 1) [
              | inl w1 ↦ let o0 = off m (tells_reads c i) (c.next) 3 (λ q. omega (arith, q, w1)) in let o1 = off m (tells_writes c i) (c.next) 4 (λ q. omega (arith, q, w1)) in let o2 = off m (tells_folds c i) (c.next) 2 (λ q. omega (arith, q, w1)) in let o3 = off m (tells_clear c i) (c.next) 5 (λ q. omega (arith, q, w1)) in let o5 = off m (heads_reads c) (c.child) 3 (λ q. omega (arith, q, w1)) in let o6 = off m (heads_writes c) (c.child) 4 (λ q. omega (arith, q, w1)) in let o7 = off m (heads_folds c) (c.child) 2 (λ q. omega (arith, q, w1)) in let o8 = off m (joins c) (e) 0 (λ q. omega (arith, q, w1)) in omega (arith, s, o0, o1, o2, o3, o5, o6, o7, o8, u4)
              | inr n1 ↦ let o0 = off m (tells_reads c i) (c.next) 3 (λ q. n3 (sym q)) in let o1 = off m (tells_writes c i) (c.next) 4 (λ q. n4 (sym q)) in let o2 = off m (tells_folds c i) (c.next) 2 (λ q. n2 (sym q)) in let o3 = off m (tells_clear c i) (c.next) 5 (λ q. n5 (sym q)) in let o4 = off m (tells_done c i) (i.parent) 1 (λ q. n1 (sym q)) in let o5 = off m (heads_reads c) (c.child) 3 (λ q. n3 (sym q)) in let o6 = off m (heads_writes c) (c.child) 4 (λ q. n4 (sym q)) in let o7 = off m (heads_folds c) (c.child) 2 (λ q. n2 (sym q)) in omega (arith, s, o0, o1, o2, o3, o4, o5, o6, o7, u8)
            ]
          ]
        ]
      ]
    ]
