-- In quiet words each flag stands exactly where its condition holds: here the way from the condition to the flag.
use Rattle.std.proofs.Common.{◌≡◌, ◌≢◌, ◌⊎◌, inl, inr, sym, subst, refl, ◌∙◌, ap, ℕ, zero, suc, ◌<◌, arith, Bool, true, false, not, cond, ◌&&◌, ◌||◌, List, [], ◌∷◌, ◌++◌}
use Rattle.oss_words.specs.declared.message.Message.{Message}
use Rattle.oss_words.specs.declared.entry.EntryState.{EntryState}
use Rattle.oss_words.specs.declared.entry.EntryInfo.{EntryInfo}
use Rattle.oss_words.specs.Sums.{total}
use Rattle.oss_words.specs.Net.{Net, Place, apart, top, first, after, Earlier, next, back}
use Rattle.oss_words.specs.Causes.{part, due, got, has_sibling, is_last, only_reads, is_fold, tells_reads, tells_writes, tells_folds, tells_clear, tells_done, heads_reads, heads_writes, heads_folds, joins, starts_open, starts_clear}
use Rattle.oss_words.specs.Members.{Has, only}
use Rattle.oss_syntax.specs.declared.access.Mode.{Mode}
use Rattle.oss_syntax.specs.declared.access.Op.{Op}
use Rattle.oss_syntax.specs.declared.access.Op.TheVariants.{Add, And, Or, Xor}
use Rattle.oss_syntax.specs.declared.access.Mode.TheVariants.{Read, Write, Fold}
use Rattle.oss_model.specs.Forest.{Forest, IsDone, IsWriteSatisfied, IsReadSatisfied, IsJoinSatisfied, IsRead, InRun, done, write_top, write_child, read_top, read_child, join_top, join_below_fold, join_below_write}
use Rattle.oss_words.specs.Net.{Child, eldest, younger, Top, top_first, top_after, forest}
use Rattle.oss_words.specs.Modes.{Modes, Starts, Closed, risen, rising}
use Rattle.oss_words.specs.Truth.{Truth}
use Rattle.oss_words.specs.Views.{View, At}
use Rattle.oss_words.specs.Flow.{Words}
use Rattle.oss_words.specs.Quiet.{Quiet}
use Rattle.oss_words.proofs.SumLemmas.{below_at, below_some}
use Rattle.oss_words.proofs.CauseLemmas.{and_true, bools, has_append, has_part, has_left, has_right, total_has, has_total}
use Rattle.oss_words.proofs.NetLemmas.{child_parent}
use Rattle.oss_words.proofs.DeliverLemmas.{part_has, and_and}

-- where no seat holds a message, none is held
pub all_empty : (h : Message → ℕ) (views : List View) → ((id : ℕ) (v : View) → At views id v → v.held ≡ []) → total (λ (v : View). total h v.held) views ≡ 0
all_empty h [] f = refl
all_empty h (v ∷ vs) f =
    let a : total h v.held ≡ 0 = ap (λ z. total h z) (f 0 v refl) in
    let b = all_empty h vs (λ id w q. f (suc id) w q) in
    omega (arith, a, b)

-- a message that came, by its row
pub data Came (e : ℕ) (c : EntryState) (m : Message) : Type 0 where
  came_done : c.done ≡ true → e ≡ m.entry → 1 ≡ m.flag → Came e c m
  came_folds : c.folds ≡ true → e ≡ m.entry → 2 ≡ m.flag → Came e c m
  came_reads : c.reads ≡ true → e ≡ m.entry → 3 ≡ m.flag → Came e c m
  came_writes : c.writes ≡ true → e ≡ m.entry → 4 ≡ m.flag → Came e c m
  came_clear : c.clear ≡ true → e ≡ m.entry → 5 ≡ m.flag → Came e c m
  came_join : c.given ≡ true → e ≡ m.entry → 0 ≡ m.flag → Came e c m

came_is : (p : Place) (e : ℕ) (c : EntryState) (m : Message) → Has m (got p e c) → Came e c m
came_is p e c m h = elim (has_append m (part (c.done && c.headed) e 1) ((part (c.folds && not (starts_open p)) e 2 ++ (part (c.reads && not (starts_open p)) e 3 ++ (part (c.writes && not (starts_open p)) e 4 ++ (part (c.clear && not (starts_clear p)) e 5 ++ part (c.given && c.left) e 0))))) h) [
  | inl k0 ↦ let q = has_part m (c.done && c.headed) e 1 k0 in came_done (and_true c.done c.headed q.0).0 q.1 q.2
  | inr r0 ↦ elim (has_append m (part (c.folds && not (starts_open p)) e 2) ((part (c.reads && not (starts_open p)) e 3 ++ (part (c.writes && not (starts_open p)) e 4 ++ (part (c.clear && not (starts_clear p)) e 5 ++ part (c.given && c.left) e 0)))) r0) [
    | inl k1 ↦ let q = has_part m (c.folds && not (starts_open p)) e 2 k1 in came_folds (and_true c.folds (not (starts_open p)) q.0).0 q.1 q.2
    | inr r1 ↦ elim (has_append m (part (c.reads && not (starts_open p)) e 3) ((part (c.writes && not (starts_open p)) e 4 ++ (part (c.clear && not (starts_clear p)) e 5 ++ part (c.given && c.left) e 0))) r1) [
      | inl k2 ↦ let q = has_part m (c.reads && not (starts_open p)) e 3 k2 in came_reads (and_true c.reads (not (starts_open p)) q.0).0 q.1 q.2
      | inr r2 ↦ elim (has_append m (part (c.writes && not (starts_open p)) e 4) ((part (c.clear && not (starts_clear p)) e 5 ++ part (c.given && c.left) e 0)) r2) [
        | inl k3 ↦ let q = has_part m (c.writes && not (starts_open p)) e 4 k3 in came_writes (and_true c.writes (not (starts_open p)) q.0).0 q.1 q.2
        | inr r3 ↦ elim (has_append m (part (c.clear && not (starts_clear p)) e 5) (part (c.given && c.left) e 0) r3) [
          | inl k4 ↦ let q = has_part m (c.clear && not (starts_clear p)) e 5 k4 in came_clear (and_true c.clear (not (starts_clear p)) q.0).0 q.1 q.2
          | inr r4 ↦ let q = has_part m (c.given && c.left) e 0 r4 in came_join (and_true c.given c.left q.0).0 q.1 q.2
        ]
      ]
    ]
  ]
]

row_reads : (e : ℕ) (c : EntryState) (i : EntryInfo) → (tells_reads c i) ≡ true → Has (record { entry = c.next; flag = 3 }) (due e c i)
row_reads e c i b = has_left (record { entry = c.next; flag = 3 }) (part (tells_reads c i) c.next 3) ((part (tells_writes c i) c.next 4 ++ (part (tells_folds c i) c.next 2 ++ (part (tells_clear c i) c.next 5 ++ (part (tells_done c i) i.parent 1 ++ (part (heads_reads c) c.child 3 ++ (part (heads_writes c) c.child 4 ++ (part (heads_folds c) c.child 2 ++ part (joins c) e 0)))))))) (part_has (tells_reads c i) (c.next) 3 b)

row_writes : (e : ℕ) (c : EntryState) (i : EntryInfo) → (tells_writes c i) ≡ true → Has (record { entry = c.next; flag = 4 }) (due e c i)
row_writes e c i b = has_right (record { entry = c.next; flag = 4 }) (part (tells_reads c i) c.next 3) ((part (tells_writes c i) c.next 4 ++ (part (tells_folds c i) c.next 2 ++ (part (tells_clear c i) c.next 5 ++ (part (tells_done c i) i.parent 1 ++ (part (heads_reads c) c.child 3 ++ (part (heads_writes c) c.child 4 ++ (part (heads_folds c) c.child 2 ++ part (joins c) e 0)))))))) (has_left (record { entry = c.next; flag = 4 }) (part (tells_writes c i) c.next 4) ((part (tells_folds c i) c.next 2 ++ (part (tells_clear c i) c.next 5 ++ (part (tells_done c i) i.parent 1 ++ (part (heads_reads c) c.child 3 ++ (part (heads_writes c) c.child 4 ++ (part (heads_folds c) c.child 2 ++ part (joins c) e 0))))))) (part_has (tells_writes c i) (c.next) 4 b))

row_folds : (e : ℕ) (c : EntryState) (i : EntryInfo) → (tells_folds c i) ≡ true → Has (record { entry = c.next; flag = 2 }) (due e c i)
row_folds e c i b = has_right (record { entry = c.next; flag = 2 }) (part (tells_reads c i) c.next 3) ((part (tells_writes c i) c.next 4 ++ (part (tells_folds c i) c.next 2 ++ (part (tells_clear c i) c.next 5 ++ (part (tells_done c i) i.parent 1 ++ (part (heads_reads c) c.child 3 ++ (part (heads_writes c) c.child 4 ++ (part (heads_folds c) c.child 2 ++ part (joins c) e 0)))))))) (has_right (record { entry = c.next; flag = 2 }) (part (tells_writes c i) c.next 4) ((part (tells_folds c i) c.next 2 ++ (part (tells_clear c i) c.next 5 ++ (part (tells_done c i) i.parent 1 ++ (part (heads_reads c) c.child 3 ++ (part (heads_writes c) c.child 4 ++ (part (heads_folds c) c.child 2 ++ part (joins c) e 0))))))) (has_left (record { entry = c.next; flag = 2 }) (part (tells_folds c i) c.next 2) ((part (tells_clear c i) c.next 5 ++ (part (tells_done c i) i.parent 1 ++ (part (heads_reads c) c.child 3 ++ (part (heads_writes c) c.child 4 ++ (part (heads_folds c) c.child 2 ++ part (joins c) e 0)))))) (part_has (tells_folds c i) (c.next) 2 b)))

row_clear : (e : ℕ) (c : EntryState) (i : EntryInfo) → (tells_clear c i) ≡ true → Has (record { entry = c.next; flag = 5 }) (due e c i)
row_clear e c i b = has_right (record { entry = c.next; flag = 5 }) (part (tells_reads c i) c.next 3) ((part (tells_writes c i) c.next 4 ++ (part (tells_folds c i) c.next 2 ++ (part (tells_clear c i) c.next 5 ++ (part (tells_done c i) i.parent 1 ++ (part (heads_reads c) c.child 3 ++ (part (heads_writes c) c.child 4 ++ (part (heads_folds c) c.child 2 ++ part (joins c) e 0)))))))) (has_right (record { entry = c.next; flag = 5 }) (part (tells_writes c i) c.next 4) ((part (tells_folds c i) c.next 2 ++ (part (tells_clear c i) c.next 5 ++ (part (tells_done c i) i.parent 1 ++ (part (heads_reads c) c.child 3 ++ (part (heads_writes c) c.child 4 ++ (part (heads_folds c) c.child 2 ++ part (joins c) e 0))))))) (has_right (record { entry = c.next; flag = 5 }) (part (tells_folds c i) c.next 2) ((part (tells_clear c i) c.next 5 ++ (part (tells_done c i) i.parent 1 ++ (part (heads_reads c) c.child 3 ++ (part (heads_writes c) c.child 4 ++ (part (heads_folds c) c.child 2 ++ part (joins c) e 0)))))) (has_left (record { entry = c.next; flag = 5 }) (part (tells_clear c i) c.next 5) ((part (tells_done c i) i.parent 1 ++ (part (heads_reads c) c.child 3 ++ (part (heads_writes c) c.child 4 ++ (part (heads_folds c) c.child 2 ++ part (joins c) e 0))))) (part_has (tells_clear c i) (c.next) 5 b))))

row_done : (e : ℕ) (c : EntryState) (i : EntryInfo) → (tells_done c i) ≡ true → Has (record { entry = i.parent; flag = 1 }) (due e c i)
row_done e c i b = has_right (record { entry = i.parent; flag = 1 }) (part (tells_reads c i) c.next 3) ((part (tells_writes c i) c.next 4 ++ (part (tells_folds c i) c.next 2 ++ (part (tells_clear c i) c.next 5 ++ (part (tells_done c i) i.parent 1 ++ (part (heads_reads c) c.child 3 ++ (part (heads_writes c) c.child 4 ++ (part (heads_folds c) c.child 2 ++ part (joins c) e 0)))))))) (has_right (record { entry = i.parent; flag = 1 }) (part (tells_writes c i) c.next 4) ((part (tells_folds c i) c.next 2 ++ (part (tells_clear c i) c.next 5 ++ (part (tells_done c i) i.parent 1 ++ (part (heads_reads c) c.child 3 ++ (part (heads_writes c) c.child 4 ++ (part (heads_folds c) c.child 2 ++ part (joins c) e 0))))))) (has_right (record { entry = i.parent; flag = 1 }) (part (tells_folds c i) c.next 2) ((part (tells_clear c i) c.next 5 ++ (part (tells_done c i) i.parent 1 ++ (part (heads_reads c) c.child 3 ++ (part (heads_writes c) c.child 4 ++ (part (heads_folds c) c.child 2 ++ part (joins c) e 0)))))) (has_right (record { entry = i.parent; flag = 1 }) (part (tells_clear c i) c.next 5) ((part (tells_done c i) i.parent 1 ++ (part (heads_reads c) c.child 3 ++ (part (heads_writes c) c.child 4 ++ (part (heads_folds c) c.child 2 ++ part (joins c) e 0))))) (has_left (record { entry = i.parent; flag = 1 }) (part (tells_done c i) i.parent 1) ((part (heads_reads c) c.child 3 ++ (part (heads_writes c) c.child 4 ++ (part (heads_folds c) c.child 2 ++ part (joins c) e 0)))) (part_has (tells_done c i) (i.parent) 1 b)))))

row_first_reads : (e : ℕ) (c : EntryState) (i : EntryInfo) → (heads_reads c) ≡ true → Has (record { entry = c.child; flag = 3 }) (due e c i)
row_first_reads e c i b = has_right (record { entry = c.child; flag = 3 }) (part (tells_reads c i) c.next 3) ((part (tells_writes c i) c.next 4 ++ (part (tells_folds c i) c.next 2 ++ (part (tells_clear c i) c.next 5 ++ (part (tells_done c i) i.parent 1 ++ (part (heads_reads c) c.child 3 ++ (part (heads_writes c) c.child 4 ++ (part (heads_folds c) c.child 2 ++ part (joins c) e 0)))))))) (has_right (record { entry = c.child; flag = 3 }) (part (tells_writes c i) c.next 4) ((part (tells_folds c i) c.next 2 ++ (part (tells_clear c i) c.next 5 ++ (part (tells_done c i) i.parent 1 ++ (part (heads_reads c) c.child 3 ++ (part (heads_writes c) c.child 4 ++ (part (heads_folds c) c.child 2 ++ part (joins c) e 0))))))) (has_right (record { entry = c.child; flag = 3 }) (part (tells_folds c i) c.next 2) ((part (tells_clear c i) c.next 5 ++ (part (tells_done c i) i.parent 1 ++ (part (heads_reads c) c.child 3 ++ (part (heads_writes c) c.child 4 ++ (part (heads_folds c) c.child 2 ++ part (joins c) e 0)))))) (has_right (record { entry = c.child; flag = 3 }) (part (tells_clear c i) c.next 5) ((part (tells_done c i) i.parent 1 ++ (part (heads_reads c) c.child 3 ++ (part (heads_writes c) c.child 4 ++ (part (heads_folds c) c.child 2 ++ part (joins c) e 0))))) (has_right (record { entry = c.child; flag = 3 }) (part (tells_done c i) i.parent 1) ((part (heads_reads c) c.child 3 ++ (part (heads_writes c) c.child 4 ++ (part (heads_folds c) c.child 2 ++ part (joins c) e 0)))) (has_left (record { entry = c.child; flag = 3 }) (part (heads_reads c) c.child 3) ((part (heads_writes c) c.child 4 ++ (part (heads_folds c) c.child 2 ++ part (joins c) e 0))) (part_has (heads_reads c) (c.child) 3 b))))))

row_first_writes : (e : ℕ) (c : EntryState) (i : EntryInfo) → (heads_writes c) ≡ true → Has (record { entry = c.child; flag = 4 }) (due e c i)
row_first_writes e c i b = has_right (record { entry = c.child; flag = 4 }) (part (tells_reads c i) c.next 3) ((part (tells_writes c i) c.next 4 ++ (part (tells_folds c i) c.next 2 ++ (part (tells_clear c i) c.next 5 ++ (part (tells_done c i) i.parent 1 ++ (part (heads_reads c) c.child 3 ++ (part (heads_writes c) c.child 4 ++ (part (heads_folds c) c.child 2 ++ part (joins c) e 0)))))))) (has_right (record { entry = c.child; flag = 4 }) (part (tells_writes c i) c.next 4) ((part (tells_folds c i) c.next 2 ++ (part (tells_clear c i) c.next 5 ++ (part (tells_done c i) i.parent 1 ++ (part (heads_reads c) c.child 3 ++ (part (heads_writes c) c.child 4 ++ (part (heads_folds c) c.child 2 ++ part (joins c) e 0))))))) (has_right (record { entry = c.child; flag = 4 }) (part (tells_folds c i) c.next 2) ((part (tells_clear c i) c.next 5 ++ (part (tells_done c i) i.parent 1 ++ (part (heads_reads c) c.child 3 ++ (part (heads_writes c) c.child 4 ++ (part (heads_folds c) c.child 2 ++ part (joins c) e 0)))))) (has_right (record { entry = c.child; flag = 4 }) (part (tells_clear c i) c.next 5) ((part (tells_done c i) i.parent 1 ++ (part (heads_reads c) c.child 3 ++ (part (heads_writes c) c.child 4 ++ (part (heads_folds c) c.child 2 ++ part (joins c) e 0))))) (has_right (record { entry = c.child; flag = 4 }) (part (tells_done c i) i.parent 1) ((part (heads_reads c) c.child 3 ++ (part (heads_writes c) c.child 4 ++ (part (heads_folds c) c.child 2 ++ part (joins c) e 0)))) (has_right (record { entry = c.child; flag = 4 }) (part (heads_reads c) c.child 3) ((part (heads_writes c) c.child 4 ++ (part (heads_folds c) c.child 2 ++ part (joins c) e 0))) (has_left (record { entry = c.child; flag = 4 }) (part (heads_writes c) c.child 4) ((part (heads_folds c) c.child 2 ++ part (joins c) e 0)) (part_has (heads_writes c) (c.child) 4 b)))))))

row_first_folds : (e : ℕ) (c : EntryState) (i : EntryInfo) → (heads_folds c) ≡ true → Has (record { entry = c.child; flag = 2 }) (due e c i)
row_first_folds e c i b = has_right (record { entry = c.child; flag = 2 }) (part (tells_reads c i) c.next 3) ((part (tells_writes c i) c.next 4 ++ (part (tells_folds c i) c.next 2 ++ (part (tells_clear c i) c.next 5 ++ (part (tells_done c i) i.parent 1 ++ (part (heads_reads c) c.child 3 ++ (part (heads_writes c) c.child 4 ++ (part (heads_folds c) c.child 2 ++ part (joins c) e 0)))))))) (has_right (record { entry = c.child; flag = 2 }) (part (tells_writes c i) c.next 4) ((part (tells_folds c i) c.next 2 ++ (part (tells_clear c i) c.next 5 ++ (part (tells_done c i) i.parent 1 ++ (part (heads_reads c) c.child 3 ++ (part (heads_writes c) c.child 4 ++ (part (heads_folds c) c.child 2 ++ part (joins c) e 0))))))) (has_right (record { entry = c.child; flag = 2 }) (part (tells_folds c i) c.next 2) ((part (tells_clear c i) c.next 5 ++ (part (tells_done c i) i.parent 1 ++ (part (heads_reads c) c.child 3 ++ (part (heads_writes c) c.child 4 ++ (part (heads_folds c) c.child 2 ++ part (joins c) e 0)))))) (has_right (record { entry = c.child; flag = 2 }) (part (tells_clear c i) c.next 5) ((part (tells_done c i) i.parent 1 ++ (part (heads_reads c) c.child 3 ++ (part (heads_writes c) c.child 4 ++ (part (heads_folds c) c.child 2 ++ part (joins c) e 0))))) (has_right (record { entry = c.child; flag = 2 }) (part (tells_done c i) i.parent 1) ((part (heads_reads c) c.child 3 ++ (part (heads_writes c) c.child 4 ++ (part (heads_folds c) c.child 2 ++ part (joins c) e 0)))) (has_right (record { entry = c.child; flag = 2 }) (part (heads_reads c) c.child 3) ((part (heads_writes c) c.child 4 ++ (part (heads_folds c) c.child 2 ++ part (joins c) e 0))) (has_right (record { entry = c.child; flag = 2 }) (part (heads_writes c) c.child 4) ((part (heads_folds c) c.child 2 ++ part (joins c) e 0)) (has_left (record { entry = c.child; flag = 2 }) (part (heads_folds c) c.child 2) (part (joins c) e 0) (part_has (heads_folds c) (c.child) 2 b))))))))

read_or : (m : Mode) → (only_reads m ≡ true) ⊎ (IsRead m → ⊥)
read_or Read = inl refl
read_or Write = inr (λ z. z)
read_or (Fold op) = inr (λ z. z)

same_op : (a b : Op) → (a ≡ b) ⊎ (a ≢ b)
same_op Add Add = inl refl
same_op Add And = inr (λ e. cc)
same_op Add Or = inr (λ e. cc)
same_op Add Xor = inr (λ e. cc)
same_op And Add = inr (λ e. cc)
same_op And And = inl refl
same_op And Or = inr (λ e. cc)
same_op And Xor = inr (λ e. cc)
same_op Or Add = inr (λ e. cc)
same_op Or And = inr (λ e. cc)
same_op Or Or = inl refl
same_op Or Xor = inr (λ e. cc)
same_op Xor Add = inr (λ e. cc)
same_op Xor And = inr (λ e. cc)
same_op Xor Or = inr (λ e. cc)
same_op Xor Xor = inl refl

same_mode : (a b : Mode) → (a ≡ b) ⊎ (a ≢ b)
same_mode Read Read = inl refl
same_mode Write Write = inl refl
same_mode Read Write = inr (λ e. cc)
same_mode Write Read = inr (λ e. cc)
same_mode Read (Fold y) = inr (λ e. cc)
same_mode Write (Fold y) = inr (λ e. cc)
same_mode (Fold x) Read = inr (λ e. cc)
same_mode (Fold x) Write = inr (λ e. cc)
same_mode (Fold x) (Fold y) = elim (same_op x y) [ inl e ↦ inl (ap (λ z. Fold z) e) | inr n ↦ inr (λ e. n (cc)) ]

or_l : (a b : Bool) → a ≡ true → (a || b) ≡ true
or_l true b e = refl
or_l false b e = absurd (cc)

or_r' : (a b : Bool) → b ≡ true → (a || b) ≡ true
or_r' true b e = refl
or_r' false b e = e

cond_true : (b x y : Bool) → b ≡ true → x ≡ true → cond b x y ≡ true
cond_true true x y e f = f
cond_true false x y e f = absurd (cc)

cond_false : (b x y : Bool) → b ≡ false → y ≡ true → cond b x y ≡ true
cond_false true x y e f = absurd (cc)
cond_false false x y e f = f

not_so : {b : Bool} → (b ≡ true → ⊥) → b ≡ false
not_so {b = true} f = absurd (f refl)
not_so {b = false} f = refl

not_false_so : {b : Bool} → (b ≡ false → ⊥) → b ≡ true
not_false_so {b = true} f = refl
not_false_so {b = false} f = absurd (f refl)

module _ (n : ℕ) (net : Net) (gave : ℕ → Bool) (states : ℕ → EntryState) (infos : ℕ → EntryInfo) (views : List View)
    (r : Words n net states infos views) (modes : Modes n net states infos) (truth : Truth n net gave states) (q : Starts n net states infos views) (rest : Quiet views) where
  abbrev Q : Forest ℕ
  Q = forest net gave

  -- at rest the last child leads up
  closed_at : {e : ℕ} → Closed n net states infos views e → (net.last e < n) × (is_last (states (net.last e)) (infos (net.last e)) ≡ true)
  closed_at (risen l b) = (l, b)
  closed_at {e = e} (rising id v a xs h) = let z : [] ≡ e ∷ xs = sym (rest.whole id v a) ∙ h in absurd (cc)

  -- a cause that stands has had its message delivered
  arrived : (j : ℕ) → j < n → (m : Message) → Has m (due j (states j) (infos j)) → Came m.entry (states m.entry) m
  arrived j l m h =
      let c = r.count (only m) in
      let z = all_empty (only m) views rest.empty in
      let a = below_at (λ e. total (only m) (due e (states e) (infos e))) n j l in
      let p = has_total m (due j (states j) (infos j)) h in
      let s = below_some (λ e. total (only m) (got (net.place e) e (states e))) n (omega (arith, c, z, a, p)) in
      let k = came_is (net.place s.0) s.0 (states s.0) m (total_has m (got (net.place s.0) s.0 (states s.0)) s.2) in
      subst (λ (x : ℕ). Came x (states x) m) (entry_of k) k
    where
      entry_of : {x : ℕ} → Came x (states x) m → x ≡ m.entry
      entry_of (came_done b e f) = e
      entry_of (came_folds b e f) = e
      entry_of (came_reads b e f) = e
      entry_of (came_writes b e f) = e
      entry_of (came_clear b e f) = e
      entry_of (came_join b e f) = e

  flag_reads : (x : ℕ) → Came x (states x) (record { entry = x; flag = 3 }) → (states x).reads ≡ true
  flag_reads x (came_done b e f) = absurd (omega (arith, f))
  flag_reads x (came_folds b e f) = absurd (omega (arith, f))
  flag_reads x (came_reads b e f) = b
  flag_reads x (came_writes b e f) = absurd (omega (arith, f))
  flag_reads x (came_clear b e f) = absurd (omega (arith, f))
  flag_reads x (came_join b e f) = absurd (omega (arith, f))

  flag_writes : (x : ℕ) → Came x (states x) (record { entry = x; flag = 4 }) → (states x).writes ≡ true
  flag_writes x (came_done b e f) = absurd (omega (arith, f))
  flag_writes x (came_folds b e f) = absurd (omega (arith, f))
  flag_writes x (came_reads b e f) = absurd (omega (arith, f))
  flag_writes x (came_writes b e f) = b
  flag_writes x (came_clear b e f) = absurd (omega (arith, f))
  flag_writes x (came_join b e f) = absurd (omega (arith, f))

  flag_folds : (x : ℕ) → Came x (states x) (record { entry = x; flag = 2 }) → (states x).folds ≡ true
  flag_folds x (came_done b e f) = absurd (omega (arith, f))
  flag_folds x (came_folds b e f) = b
  flag_folds x (came_reads b e f) = absurd (omega (arith, f))
  flag_folds x (came_writes b e f) = absurd (omega (arith, f))
  flag_folds x (came_clear b e f) = absurd (omega (arith, f))
  flag_folds x (came_join b e f) = absurd (omega (arith, f))

  flag_clear : (x : ℕ) → Came x (states x) (record { entry = x; flag = 5 }) → (states x).clear ≡ true
  flag_clear x (came_done b e f) = absurd (omega (arith, f))
  flag_clear x (came_folds b e f) = absurd (omega (arith, f))
  flag_clear x (came_reads b e f) = absurd (omega (arith, f))
  flag_clear x (came_writes b e f) = absurd (omega (arith, f))
  flag_clear x (came_clear b e f) = b
  flag_clear x (came_join b e f) = absurd (omega (arith, f))

  flag_done : (x : ℕ) → Came x (states x) (record { entry = x; flag = 1 }) → (states x).done ≡ true
  flag_done x (came_done b e f) = b
  flag_done x (came_folds b e f) = absurd (omega (arith, f))
  flag_done x (came_reads b e f) = absurd (omega (arith, f))
  flag_done x (came_writes b e f) = absurd (omega (arith, f))
  flag_done x (came_clear b e f) = absurd (omega (arith, f))
  flag_done x (came_join b e f) = absurd (omega (arith, f))

  inside : (e : ℕ) → net.place e ≢ apart → e < n
  inside = r.inside

  from_after : (s e : ℕ) → net.place e ≡ after s → net.place e ≢ apart
  from_after s e p z = let y : after s ≡ apart = sym p ∙ z in cc

  source : (s e : ℕ) → (net.place e ≡ after s) ⊎ (net.place e ≡ first s) → (net.place s ≢ apart) × (s < n)
  source s e p = let h = r.shaped.hung s e p in (h, r.inside s h)

  -- clear stands, where the earlier siblings' words say done
  clear_from : (k e : ℕ) → e < k → net.place e ≢ apart → ((u : ℕ) → Earlier net.place u e → ((states u).given ≡ true) × ((states u).done ≡ true)) → (states e).clear ≡ true
  clear_from zero e l h f = absurd (omega (arith, l))
  clear_from (suc k) e l h f = at (net.place e) refl (λ s p u. clear_from k s (let z = r.shaped.rises s e p in omega (arith, l, z)) (source s e (inl p)).0 u)
    where
      at : (p : Place) → net.place e ≡ p → ((s : ℕ) → net.place e ≡ after s → ((u : ℕ) → Earlier net.place u s → ((states u).given ≡ true) × ((states u).done ≡ true)) → (states s).clear ≡ true) → (states e).clear ≡ true
      at apart z rec = absurd (h z)
      at top z rec = q.top_clear e z
      at (first p) z rec = q.first_clear p e z
      at (after s) z rec =
          let c = rec s z (λ u b. f u (back z b)) in
          let d = f s (next z) in
          let o = source s e (inl z) in
          let x = q.next_is s e z in
          let a = arrived s o.1 (record { entry = (states s).next; flag = 5 }) (row_clear s (states s) (infos s) (and_and (has_sibling (states s) (infos s)) ((states s).clear && ((states s).given && (states s).done)) x.0 (and_and (states s).clear ((states s).given && (states s).done) c (and_and (states s).given (states s).done d.0 d.1)))) in
          subst (λ (y : ℕ). (states y).clear ≡ true) x.1 (flag_clear (states s).next a)

  -- what is done has both flags
  pub done_stands : (e : ℕ) → IsDone Q e → net.place e ≢ apart → ((states e).given ≡ true) × ((states e).done ≡ true)
  done_stands e (done g f) h =
      at (bools (states e).headed) (λ u c w. done_stands u (f u c) w)
    where
      l : e < n
      l = r.inside e h

      given : (states e).given ≡ true
      given = (truth e l h).given ∙ g

      child_hangs : (u : ℕ) → Child net.place e u → net.place u ≢ apart
      child_hangs u (eldest p) z = let y : first e ≡ apart = sym p ∙ z in cc
      child_hangs u (younger {s = t} p c) z = let y : after t ≡ apart = sym p ∙ z in cc

      before : (u v : ℕ) → Earlier net.place u v → Child net.place e v → Child net.place e u
      before u v (next p) (eldest k) = let y : first e ≡ after u = sym k ∙ p in absurd (cc)
      before u v (next p) (younger {s = t} k c) = let y : after t ≡ after u = sym k ∙ p in let z : t ≡ u = cc in subst (λ (x : ℕ). Child net.place e x) z c
      before u v (back {t = x} p b) (eldest k) = let y : first e ≡ after x = sym k ∙ p in absurd (cc)
      before u v (back {t = x} p b) (younger {s = t} k c) = let y : after t ≡ after x = sym k ∙ p in let z : t ≡ x = cc in before u x b (subst (λ (g : ℕ). Child net.place e g) z c)

      at : ((states e).headed ≡ true) ⊎ ((states e).headed ≡ false) → ((u : ℕ) → Child net.place e u → net.place u ≢ apart → ((states u).given ≡ true) × ((states u).done ≡ true)) → ((states e).given ≡ true) × ((states e).done ≡ true)
      at (inr none) rec = (given, q.childless e l given none)
      at (inl some) rec =
          let k = closed_at (q.closed e l given some) in
          let w = r.wired (net.last e) k.0 in
          let t = w.rising k.1 in
          let up : (infos (net.last e)).parent ≡ e = last_of k.0 k.1 some in
          let c = last_child some in
          let d = rec (net.last e) c (child_hangs (net.last e) c) in
          let u = clear_from (suc (net.last e)) (net.last e) (omega arith) (child_hangs (net.last e) c) (λ x b. let cx = before x (net.last e) b c in rec x cx (child_hangs x cx)) in
          let a = arrived (net.last e) k.0 (record { entry = (infos (net.last e)).parent; flag = 1 }) (row_done (net.last e) (states (net.last e)) (infos (net.last e)) (and_and (is_last (states (net.last e)) (infos (net.last e))) ((states (net.last e)).clear && ((states (net.last e)).given && (states (net.last e)).done)) k.1 (and_and (states (net.last e)).clear ((states (net.last e)).given && (states (net.last e)).done) u (and_and (states (net.last e)).given (states (net.last e)).done d.0 d.1)))) in
          (given, subst (λ (y : ℕ). (states y).done ≡ true) up (flag_done (infos (net.last e)).parent a))
        where
          last_child : (states e).headed ≡ true → Child net.place e (net.last e)
          last_child some =
              let p : net.place (states e).child ≡ first e = (r.wired e l).child some in
              elim (r.shaped.youngest e (states e).child (eldest p)) [
                | inl z ↦ subst (λ (x : ℕ). Child net.place e x) z (eldest p)
                | inr b ↦ forward (states e).child (net.last e) b (eldest p)
              ]
            where
              forward : (u v : ℕ) → Earlier net.place u v → Child net.place e u → Child net.place e v
              forward u v (next p) c = younger p c
              forward u v (back {t = x} p b) c = younger p (forward u x b c)

          last_of : net.last e < n → is_last (states (net.last e)) (infos (net.last e)) ≡ true → (states e).headed ≡ true → (infos (net.last e)).parent ≡ e
          last_of k b some = ((r.wired (net.last e) k).rising b).2 ∙ child_parent net r.shaped e (net.last e) (last_child some)

  pub clear_stands : (e : ℕ) → net.place e ≢ apart → ((u : ℕ) → Earlier net.place u e → IsDone Q u) → (states e).clear ≡ true
  clear_stands e h f = clear_from (suc e) e (omega arith) h (λ u b. done_stands u (f u b) (hung_earlier u e b))
    where
      hung_earlier : (u v : ℕ) → Earlier net.place u v → net.place u ≢ apart
      hung_earlier u v (next p) = r.shaped.hung u v (inl p)
      hung_earlier u v (back {t = x} p b) = hung_earlier u x b

  top_back : (s e : ℕ) → net.place e ≡ after s → Top net.place e → Top net.place s
  top_back s e p (top_first z) = let y : after s ≡ top = sym p ∙ z in absurd (cc)
  top_back s e p (top_after {s = t} z h) = let y : after s ≡ after t = sym p ∙ z in let x : t ≡ s = cc in subst (λ (g : ℕ). Top net.place g) x h

  child_back : (s e c : ℕ) → net.place e ≡ after s → Child net.place c e → Child net.place c s
  child_back s e c p (eldest z) = let y : after s ≡ first c = sym p ∙ z in absurd (cc)
  child_back s e c p (younger {s = t} z h) = let y : after s ≡ after t = sym p ∙ z in let x : t ≡ s = cc in subst (λ (g : ℕ). Child net.place c g) x h

  not_top : (p e : ℕ) → net.place e ≡ first p → Top net.place e → ⊥
  not_top p e z (top_first y) = let x : first p ≡ top = sym z ∙ y in cc
  not_top p e z (top_after {s = t} y h) = let x : first p ≡ after t = sym z ∙ y in cc

  one_parent : (p e c : ℕ) → net.place e ≡ first p → Child net.place c e → c ≡ p
  one_parent p e c z (eldest y) = let x : first p ≡ first c = sym z ∙ y in cc
  one_parent p e c z (younger {s = t} y h) = let x : first p ≡ after t = sym z ∙ y in absurd (cc)

  writes_back : (s e : ℕ) → net.place e ≡ after s → IsWriteSatisfied Q e → IsWriteSatisfied Q s × IsDone Q s
  writes_back s e p (write_top h f) = (write_top (top_back s e p h) (λ u b. f u (back p b)), f s (next p))
  writes_back s e p (write_child {p = c} h k f) = (write_child (child_back s e c p h) k (λ u b. f u (back p b)), f s (next p))

  writes_up : (p e : ℕ) → net.place e ≡ first p → IsWriteSatisfied Q e → IsWriteSatisfied Q p
  writes_up p e z (write_top h f) = absurd (not_top p e z h)
  writes_up p e z (write_child {p = c} h k f) = subst (λ (x : ℕ). IsWriteSatisfied Q x) (one_parent p e c z h) k

  pub writes_stand : (k e : ℕ) → e < k → net.place e ≢ apart → IsWriteSatisfied Q e → (states e).writes ≡ true
  writes_stand zero e l h w = absurd (omega (arith, l))
  writes_stand (suc k) e l h w = at (net.place e) refl
      (λ s p. writes_stand k s (let z = r.shaped.rises s e p in omega (arith, l, z)) (source s e (inl p)).0)
      (λ s p. writes_stand k s (let z = q.above s e p in omega (arith, l, z)) (source s e (inr p)).0)
    where
      at : (p : Place) → net.place e ≡ p → ((s : ℕ) → net.place e ≡ after s → IsWriteSatisfied Q s → (states s).writes ≡ true) → ((s : ℕ) → net.place e ≡ first s → IsWriteSatisfied Q s → (states s).writes ≡ true) → (states e).writes ≡ true
      at apart z ra rf = absurd (h z)
      at top z ra rf = q.top_writes e z
      at (first p) z ra rf =
          let c = rf p z (writes_up p e z w) in
          let o = source p e (inr z) in
          let x = q.first_is p e z in
          let a = arrived p o.1 (record { entry = (states p).child; flag = 4 }) (row_first_writes p (states p) (infos p) (and_and (states p).headed (states p).writes x.0 c)) in
          subst (λ (y : ℕ). (states y).writes ≡ true) x.1 (flag_writes (states p).child a)
      at (after s) z ra rf =
          let b = writes_back s e z w in
          let c = ra s z b.0 in
          let o = source s e (inl z) in
          let d = done_stands s b.1 o.0 in
          let x = q.next_is s e z in
          let a = arrived s o.1 (record { entry = (states s).next; flag = 4 }) (row_writes s (states s) (infos s) (and_and (has_sibling (states s) (infos s)) ((states s).writes && ((states s).given && (states s).done)) x.0 (and_and (states s).writes ((states s).given && (states s).done) c (and_and (states s).given (states s).done d.0 d.1)))) in
          subst (λ (y : ℕ). (states y).writes ≡ true) x.1 (flag_writes (states s).next a)

  reads_back : (s e : ℕ) → net.place e ≡ after s → IsReadSatisfied Q e → IsReadSatisfied Q s × ((IsRead (net.mode s) → ⊥) → IsDone Q s)
  reads_back s e p (read_top h f) = (read_top (top_back s e p h) (λ u b m. f u (back p b) m), f s (next p))
  reads_back s e p (read_child {p = c} h k f) = (read_child (child_back s e c p h) k (λ u b m. f u (back p b) m), f s (next p))

  reads_up : (p e : ℕ) → net.place e ≡ first p → IsReadSatisfied Q e → IsReadSatisfied Q p
  reads_up p e z (read_top h f) = absurd (not_top p e z h)
  reads_up p e z (read_child {p = c} h k f) = subst (λ (x : ℕ). IsReadSatisfied Q x) (one_parent p e c z h) k

  pub reads_stand : (k e : ℕ) → e < k → net.place e ≢ apart → IsReadSatisfied Q e → (states e).reads ≡ true
  reads_stand zero e l h w = absurd (omega (arith, l))
  reads_stand (suc k) e l h w = at (net.place e) refl
      (λ s p. reads_stand k s (let z = r.shaped.rises s e p in omega (arith, l, z)) (source s e (inl p)).0)
      (λ s p. reads_stand k s (let z = q.above s e p in omega (arith, l, z)) (source s e (inr p)).0)
    where
      at : (p : Place) → net.place e ≡ p → ((s : ℕ) → net.place e ≡ after s → IsReadSatisfied Q s → (states s).reads ≡ true) → ((s : ℕ) → net.place e ≡ first s → IsReadSatisfied Q s → (states s).reads ≡ true) → (states e).reads ≡ true
      at apart z ra rf = absurd (h z)
      at top z ra rf = q.top_reads e z
      at (first p) z ra rf =
          let c = rf p z (reads_up p e z w) in
          let o = source p e (inr z) in
          let x = q.first_is p e z in
          let a = arrived p o.1 (record { entry = (states p).child; flag = 3 }) (row_first_reads p (states p) (infos p) (and_and (states p).headed (states p).reads x.0 c)) in
          subst (λ (y : ℕ). (states y).reads ≡ true) x.1 (flag_reads (states p).child a)
      at (after s) z ra rf =
          let b = reads_back s e z w in
          let c = ra s z b.0 in
          let o = source s e (inl z) in
          let x = q.next_is s e z in
          let i = modes.mode s o.0 in
          let g : (only_reads (infos s).mode || ((states s).given && (states s).done)) ≡ true = elim (read_or (net.mode s)) [
            | inl k ↦ or_l (only_reads (infos s).mode) ((states s).given && (states s).done) (ap only_reads i ∙ k)
            | inr k ↦ let d = done_stands s (b.1 k) o.0 in or_r' (only_reads (infos s).mode) ((states s).given && (states s).done) (and_and (states s).given (states s).done d.0 d.1)
          ] in
          let a = arrived s o.1 (record { entry = (states s).next; flag = 3 }) (row_reads s (states s) (infos s) (and_and (has_sibling (states s) (infos s)) ((states s).reads && (only_reads (infos s).mode || ((states s).given && (states s).done))) x.0 (and_and (states s).reads (only_reads (infos s).mode || ((states s).given && (states s).done)) c g))) in
          subst (λ (y : ℕ). (states y).reads ≡ true) x.1 (flag_reads (states s).next a)

  -- of a run: the fold before it in the run is satisfied too
  run_back : (op : Op) (s e : ℕ) → net.place e ≡ after s → ((u : ℕ) → Earlier net.place u e → InRun Q op u e ⊎ IsDone Q u) → (u : ℕ) → Earlier net.place u s → InRun Q op u s ⊎ IsDone Q u
  run_back op s e p f u b = elim (f u (back p b)) [
    | inl k ↦ inl (record { first = k.first; between = λ w x y. k.between w x (back p y) })
    | inr d ↦ inr d
  ]

  joins_back : (op : Op) (s e : ℕ) → net.place e ≡ after s → IsJoinSatisfied Q op e → IsJoinSatisfied Q op s
  joins_back op s e p (join_top h f) = join_top (top_back s e p h) (run_back op s e p f)
  joins_back op s e p (join_below_fold {p = c} h m k f) = join_below_fold (child_back s e c p h) m k (run_back op s e p f)
  joins_back op s e p (join_below_write {p = c} h m k f) = join_below_write (child_back s e c p h) m k (run_back op s e p f)

  -- where a run begins, all before it is done
  run_starts : (op : Op) (s e : ℕ) → net.place e ≡ after s → net.mode s ≢ Fold op → ((u : ℕ) → Earlier net.place u e → InRun Q op u e ⊎ IsDone Q u) → IsDone Q s × ((u : ℕ) → Earlier net.place u s → IsDone Q u)
  run_starts op s e p ne f = (elim (f s (next p)) [ inl k ↦ absurd (ne k.first) | inr d ↦ d ], (λ u b. elim (f u (back p b)) [ inl k ↦ absurd (ne (k.between s b (next p))) | inr d ↦ d ]))

  start_back : (op : Op) (s e : ℕ) → net.place e ≡ after s → net.mode s ≢ Fold op → IsJoinSatisfied Q op e → IsWriteSatisfied Q s × IsDone Q s
  start_back op s e p ne (join_top h f) = let k = run_starts op s e p ne f in (write_top (top_back s e p h) k.1, k.0)
  start_back op s e p ne (join_below_fold {p = c} h m k f) = elim (modes.covers c s (child_back s e c p h)) [
    | inl w ↦ let z : Write ≡ Fold op = sym w ∙ m in absurd (cc)
    | inr w ↦ absurd (ne (sym w ∙ m))
  ]
  start_back op s e p ne (join_below_write {p = c} h m k f) = let x = run_starts op s e p ne f in (write_child (child_back s e c p h) k x.1, x.0)

  pub folds_stand : (k e : ℕ) (op : Op) → e < k → net.place e ≢ apart → net.mode e ≡ Fold op → IsJoinSatisfied Q op e → (states e).folds ≡ true
  folds_stand zero e op l h m w = absurd (omega (arith, l))
  folds_stand (suc k) e op l h m w = at (net.place e) refl
      (λ s p. folds_stand k s op (let z = r.shaped.rises s e p in omega (arith, l, z)) (source s e (inl p)).0)
      (λ s p. folds_stand k s op (let z = q.above s e p in omega (arith, l, z)) (source s e (inr p)).0)
    where
      below_one : (p : ℕ) → net.place e ≡ first p → ((s : ℕ) → net.place e ≡ first s → net.mode s ≡ Fold op → IsJoinSatisfied Q op s → (states s).folds ≡ true) → IsJoinSatisfied Q op e → cond (states p).child_same (states p).folds (states p).writes ≡ true
      below_one p z rf (join_top t f) = absurd (not_top p e z t)
      below_one p z rf (join_below_fold {p = c} t mc j f) =
          let u = one_parent p e c z t in
          let mp : net.mode p ≡ Fold op = subst (λ (x : ℕ). net.mode x ≡ Fold op) u mc in
          let x = q.first_is p e z in
          cond_true (states p).child_same (states p).folds (states p).writes
          (not_false_so (λ y. modes.child_other p (source p e (inr z)).1 x.0 y op (ap (λ v. net.mode v) x.1 ∙ m) (ap (λ v. net.mode v) x.1 ∙ m ∙ sym mp)))
          (rf p z mp (subst (λ (v : ℕ). IsJoinSatisfied Q op v) u j))
      below_one p z rf (join_below_write {p = c} t mc j f) =
          let u = one_parent p e c z t in
          let mp : net.mode p ≡ Write = subst (λ (x : ℕ). net.mode x ≡ Write) u mc in
          let x = q.first_is p e z in
          let o = source p e (inr z) in
          cond_false (states p).child_same (states p).folds (states p).writes
          (not_so (λ y. let v : Fold op ≡ Write = sym m ∙ ap (λ v. net.mode v) (sym x.1) ∙ modes.child_same p o.1 x.0 y ∙ mp in cc))
          (writes_stand (suc p) p (omega arith) o.0 (subst (λ (v : ℕ). IsWriteSatisfied Q v) u j))

      behind_one : (s : ℕ) → net.place e ≡ after s → ((s : ℕ) → net.place e ≡ after s → net.mode s ≡ Fold op → IsJoinSatisfied Q op s → (states s).folds ≡ true) → (net.mode s ≡ Fold op) ⊎ (net.mode s ≢ Fold op) → cond (states s).next_same (states s).folds ((states s).writes && ((states s).given && (states s).done)) ≡ true
      behind_one s z ra (inl ms) =
          let x = q.next_is s e z in
          cond_true (states s).next_same (states s).folds ((states s).writes && ((states s).given && (states s).done))
          (not_false_so (λ y. modes.next_other s (source s e (inl z)).1 x.0 y op (ap (λ v. net.mode v) x.1 ∙ m) (ap (λ v. net.mode v) x.1 ∙ m ∙ sym ms)))
          (ra s z ms (joins_back op s e z w))
      behind_one s z ra (inr ms) =
          let x = q.next_is s e z in
          let o = source s e (inl z) in
          let b = start_back op s e z ms w in
          let d = done_stands s b.1 o.0 in
          cond_false (states s).next_same (states s).folds ((states s).writes && ((states s).given && (states s).done))
          (not_so (λ y. ms (sym (modes.next_same s o.1 x.0 y) ∙ ap (λ v. net.mode v) x.1 ∙ m)))
          (and_and (states s).writes ((states s).given && (states s).done) (writes_stand (suc s) s (omega arith) o.0 b.0) (and_and (states s).given (states s).done d.0 d.1))

      at : (p : Place) → net.place e ≡ p → ((s : ℕ) → net.place e ≡ after s → net.mode s ≡ Fold op → IsJoinSatisfied Q op s → (states s).folds ≡ true) → ((s : ℕ) → net.place e ≡ first s → net.mode s ≡ Fold op → IsJoinSatisfied Q op s → (states s).folds ≡ true) → (states e).folds ≡ true
      at apart z ra rf = absurd (h z)
      at top z ra rf = q.top_folds e z
      at (first p) z ra rf =
          let o = source p e (inr z) in
          let x = q.first_is p e z in
          let c = below_one p z rf w in
          let a = arrived p o.1 (record { entry = (states p).child; flag = 2 }) (row_first_folds p (states p) (infos p) (and_and (states p).headed ((states p).child_folds && cond (states p).child_same (states p).folds (states p).writes) x.0 (and_and (states p).child_folds (cond (states p).child_same (states p).folds (states p).writes) (modes.child_folds p o.1 x.0 ∙ ap is_fold (ap (λ v. net.mode v) x.1 ∙ m)) c))) in
          subst (λ (y : ℕ). (states y).folds ≡ true) x.1 (flag_folds (states p).child a)
      at (after s) z ra rf =
          let o = source s e (inl z) in
          let x = q.next_is s e z in
          let c = behind_one s z ra (same_mode (net.mode s) (Fold op)) in
          let a = arrived s o.1 (record { entry = (states s).next; flag = 2 }) (row_folds s (states s) (infos s) (and_and (has_sibling (states s) (infos s)) ((states s).next_folds && cond (states s).next_same (states s).folds ((states s).writes && ((states s).given && (states s).done))) x.0 (and_and (states s).next_folds (cond (states s).next_same (states s).folds ((states s).writes && ((states s).given && (states s).done))) (modes.next_folds s o.1 x.0 ∙ ap is_fold (ap (λ v. net.mode v) x.1 ∙ m)) c))) in
          subst (λ (y : ℕ). (states y).folds ≡ true) x.1 (flag_folds (states s).next a)
