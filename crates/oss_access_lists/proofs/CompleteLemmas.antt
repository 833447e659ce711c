-- Where nothing waits, all that is so stands.
use Rattle.std.proofs.Common.{◌≡◌, ℕ, refl, sym, subst, ◌∙◌, ◌⊎◌, inl, inr, Bool, true, false}
use Rattle.std.specs.Prelude.{◌&&◌, ◌||◌, if◌then◌else◌}
use Rattle.oss_syntax.specs.declared.access.Mode.{Mode}
use Rattle.oss_syntax.specs.declared.access.Op.{Op}
use Rattle.oss_syntax.specs.declared.access.Mode.TheVariants.{Write, Fold}
use Rattle.oss_model.specs.Rights.{covers}
use Rattle.oss_model.specs.Forest.{IsDone, IsRead, IsWriteSatisfied, IsReadSatisfied, IsJoinSatisfied, InRun, done, write_top, write_child, read_top, read_child, join_top, join_below_fold, join_below_write}
use Rattle.oss_access_lists.specs.declared.marks.Marks.{Marks}
use Rattle.oss_access_lists.specs.Wires.{Place, IsBelow, head, tail, IsBefore, next, later, Wires, wired, AreWired}
use Rattle.oss_access_lists.specs.Flags.{Flag, MayRead, MayJoin, MayWrite, Given, Done, Clear, has, Means, is_read, is_fold, same_fold, is_over, IsDue, from_before, from_above, from_last, given, bare, IsListed}
use Rattle.oss_access_lists.proofs.SoundLemmas.{bools, same_after, both_of, read_told, alike, alike_told, fold_covers, is_zero, below_not_main}

either_left : (a b : Bool) → a ≡ true → (a || b) ≡ true
either_left a b h = rw h refl

either_right : (a b : Bool) → b ≡ true → (a || b) ≡ true
either_right true b h = refl
either_right false b h = h

not_alike : (m n : Mode) (op : Op) → n ≡ Fold op → same_fold m n ≡ false → m ≡ Fold op → ⊥
not_alike m n op e h k = go (sym (alike_told m n op k e) ∙ h)
  where
    go : true ≡ false → ⊥
    go q = cc

fold_told : (m : Mode) (op : Op) → m ≡ Fold op → is_fold m ≡ true
fold_told m op e = rw e refl

-- an access before one in the list is in the list
pub listed_before : (place : ℕ → Place) (p u v : ℕ) → IsBelow place p v → IsBefore place u v → IsBelow place p u
listed_before place p u v (head e) (next g) = absurd (let h = sym e ∙ g in cc)
listed_before place p u v (head e) (later g b) = absurd (let h = sym e ∙ g in cc)
listed_before place p u v (tail {u = x} e c) (next g) = subst (λ z. IsBelow place p z) (same_after (sym e ∙ g)) c
listed_before place p u v (tail {u = x} e c) (later {t = t} g b) = listed_before place p u t (subst (λ z. IsBelow place p z) (same_after (sym e ∙ g)) c) b

module _ (w : Wires) (ok : AreWired w) (F : ℕ → Marks) (rest : (f : Flag) (v : ℕ) → IsDue w F f v → has f (F v) ≡ true) where
  -- all that is below a done access has its flags
  all_clear : (p v : ℕ) → IsBelow w.place p v → ((u : ℕ) → IsBefore w.place u v → (F u).done ≡ true) → ((u : ℕ) → IsBefore w.place u v → (F u).given ≡ true) → (F v).clear ≡ true
  all_clear p v (head e) f g = rest Clear v (from_above p e refl)
  all_clear p v (tail {u = u} e b) f g =
      rest Clear v (from_before u e (both_of (F u).clear (is_over (F u)) (all_clear p u b (λ x k. f x (later e k)) (λ x k. g x (later e k))) (both_of (F u).given (F u).done (g u (next e)) (f u (next e)))))

  pub given_told : (v : ℕ) → IsDone (wired w) v → (F v).given ≡ true
  given_told v (done g f) = rest Given v (given g)

  pub done_told : (v : ℕ) → (v ≡ 0 → ⊥) → IsDone (wired w) v → (F v).done ≡ true
  done_told v n (done g f) =
      go g (is_zero (w.last v)) (λ u b. done_told u (below_not_main w ok v u b) (f u (n, b))) (λ u b. given_told u (f u (n, b)))
    where
      go : w.gave v ≡ true → (w.last v ≡ 0) ⊎ (w.last v ≡ 0 → ⊥) → ((u : ℕ) → IsBelow w.place v u → (F u).done ≡ true) → ((u : ℕ) → IsBelow w.place v u → (F u).given ≡ true) → (F v).done ≡ true
      go g (inl z) d k = rest Done v (bare g z)
      go g (inr z) d k =
          let x = w.last v in
          let b = ok.listed v x refl z in
          let c = all_clear v x b (λ u e. d u (listed_before w.place v u x b e)) (λ u e. k u (listed_before w.place v u x b e)) in
          rest Done v (from_last x g refl z (both_of (F x).clear (is_over (F x)) c (both_of (F x).given (F x).done (k x b) (d x b))))

  pub over_told : (v : ℕ) → (v ≡ 0 → ⊥) → IsDone (wired w) v → is_over (F v) ≡ true
  over_told v n d = both_of (F v).given (F v).done (given_told v d) (done_told v n d)

  -- along a list
  pub clear_told : (p v : ℕ) → IsBelow w.place p v → ((u : ℕ) → IsBefore w.place u v → IsDone (wired w) u) → (F v).clear ≡ true
  clear_told p v b f =
      all_clear p v b (λ u k. done_told u (below_not_main w ok p u (listed_before w.place p u v b k)) (f u k)) (λ u k. given_told u (f u k))

  writes_told : (p v : ℕ) → IsBelow w.place p v → (F p).writes ≡ true → ((u : ℕ) → IsBefore w.place u v → IsDone (wired w) u) → (F v).writes ≡ true
  writes_told p v (head e) h f = rest MayWrite v (from_above p e h)
  writes_told p v (tail {u = u} e b) h f =
      rest MayWrite v (from_before u e (both_of (F u).writes (is_over (F u)) (writes_told p u b h (λ x k. f x (later e k))) (over_told u (below_not_main w ok p u b) (f u (next e)))))

  reads_told : (p v : ℕ) → IsBelow w.place p v → (F p).reads ≡ true → ((u : ℕ) → IsBefore w.place u v → (IsRead (w.mode u) → ⊥) → IsDone (wired w) u) → (F v).reads ≡ true
  reads_told p v (head e) h f = rest MayRead v (from_above p e h)
  reads_told p v (tail {u = u} e b) h f =
      rest MayRead v (from_before u e (both_of (F u).reads (is_read (w.mode u) || is_over (F u)) (reads_told p u b h (λ x k. f x (later e k))) (go (bools (is_read (w.mode u))))))
    where
      go : (is_read (w.mode u) ≡ true) ⊎ (is_read (w.mode u) ≡ false) → (is_read (w.mode u) || is_over (F u)) ≡ true
      go (inl r) = either_left (is_read (w.mode u)) (is_over (F u)) r
      go (inr r) =
          either_right (is_read (w.mode u)) (is_over (F u)) (over_told u (below_not_main w ok p u b) (f u (next e) (λ k. let q = sym (read_told (w.mode u) k) ∙ r in cc)))

  -- what is asked of the access above
  abbrev Above : Op → ℕ → Type 0
  Above op p = (w.mode p ≡ Fold op → (F p).joins ≡ true) × ((w.mode p ≡ Fold op → ⊥) → (F p).writes ≡ true)

  joins_told : (op : Op) (p v : ℕ) → IsBelow w.place p v → w.mode v ≡ Fold op → Above op p → ((u : ℕ) → IsBefore w.place u v → InRun (wired w) op u v ⊎ IsDone (wired w) u) → (F v).joins ≡ true
  joins_told op p v (head e) m a f =
      rest MayJoin v (from_above p e (both_of (is_fold (w.mode v)) (if same_fold (w.mode p) (w.mode v) then (F p).joins else (F p).writes) (fold_told (w.mode v) op m) (go (bools (same_fold (w.mode p) (w.mode v))))))
    where
      go : (same_fold (w.mode p) (w.mode v) ≡ true) ⊎ (same_fold (w.mode p) (w.mode v) ≡ false) → (if same_fold (w.mode p) (w.mode v) then (F p).joins else (F p).writes) ≡ true
      go (inl q) = subst (λ z. (if z then (F p).joins else (F p).writes) ≡ true) (sym q) (a.0 (alike (w.mode p) (w.mode v) op m q))
      go (inr q) = subst (λ z. (if z then (F p).joins else (F p).writes) ≡ true) (sym q) (a.1 (not_alike (w.mode p) (w.mode v) op m q))
  joins_told op p v (tail {u = u} e b) m a f =
      rest MayJoin v (from_before u e (both_of (is_fold (w.mode v)) (if same_fold (w.mode u) (w.mode v) then (F u).joins else ((F u).writes && is_over (F u))) (fold_told (w.mode v) op m)
      (go (bools (same_fold (w.mode u) (w.mode v))) (λ k g. joins_told op p u b k a g))))
    where
      -- of the run up to v, what is up to u
      shorter : (x : ℕ) → IsBefore w.place x u → InRun (wired w) op x v ⊎ IsDone (wired w) x → InRun (wired w) op x u ⊎ IsDone (wired w) x
      shorter x k (inl r) = inl (record { first = r.first; between = λ y i j. r.between y i (later e j) })
      shorter x k (inr d) = inr d

      -- u is no part of the run
      apart : (w.mode u ≡ Fold op → ⊥) → (x : ℕ) → IsBefore w.place x u → InRun (wired w) op x v ⊎ IsDone (wired w) x → IsDone (wired w) x
      apart n x k (inl r) = absurd (n (r.between u k (next e)))
      apart n x k (inr d) = d

      itself : (w.mode u ≡ Fold op → ⊥) → InRun (wired w) op u v ⊎ IsDone (wired w) u → IsDone (wired w) u
      itself n (inl r) = absurd (n r.first)
      itself n (inr d) = d

      go : (same_fold (w.mode u) (w.mode v) ≡ true) ⊎ (same_fold (w.mode u) (w.mode v) ≡ false)
          → (w.mode u ≡ Fold op → ((x : ℕ) → IsBefore w.place x u → InRun (wired w) op x u ⊎ IsDone (wired w) x) → (F u).joins ≡ true)
          → (if same_fold (w.mode u) (w.mode v) then (F u).joins else ((F u).writes && is_over (F u))) ≡ true
      go (inl q) again =
          subst (λ z. (if z then (F u).joins else ((F u).writes && is_over (F u))) ≡ true) (sym q) (again (alike (w.mode u) (w.mode v) op m q) (λ x k. shorter x k (f x (later e k))))
      go (inr q) again =
          let n = not_alike (w.mode u) (w.mode v) op m q in
          let d = itself n (f u (next e)) in
          let above : w.mode p ≡ Fold op → ⊥ = λ h. n (fold_covers (w.mode u) op (subst (λ z. covers z (w.mode u) ≡ true) h (ok.covered p u b))) in
          subst (λ z. (if z then (F u).joins else ((F u).writes && is_over (F u))) ≡ true) (sym q)
          (both_of (F u).writes (is_over (F u)) (writes_told p u b (a.1 above) (λ x k. apart n x k (f x (later e k)))) (over_told u (below_not_main w ok p u b) d))

  module _ (main_reads : (F 0).reads ≡ true) (main_writes : (F 0).writes ≡ true) where
    pub write_told : (v : ℕ) → IsWriteSatisfied (wired w) v → (F v).writes ≡ true
    write_told v (write_top b f) = writes_told 0 v b main_writes f
    write_told v (write_child {p = p} c s f) = writes_told p v c.1 (write_told p s) f

    pub read_is_told : (v : ℕ) → IsReadSatisfied (wired w) v → (F v).reads ≡ true
    read_is_told v (read_top b f) = reads_told 0 v b main_reads f
    read_is_told v (read_child {p = p} c s f) = reads_told p v c.1 (read_is_told p s) f

    writes_no_fold : (op : Op) (m : Mode) → m ≡ Write → m ≡ Fold op → ⊥
    writes_no_fold op m e h = let k = sym e ∙ h in cc

    pub join_told : (op : Op) (v : ℕ) → w.mode v ≡ Fold op → IsJoinSatisfied (wired w) op v → (F v).joins ≡ true
    join_told op v m (join_top b f) =
        joins_told op 0 v b m (λ h. absurd (writes_no_fold op (w.mode 0) ok.main_writes h), λ h. main_writes) f
    join_told op v m (join_below_fold {p = p} c h s f) =
        let j = join_told op p h s in joins_told op p v c.1 m (λ k. j, λ n. absurd (n h)) f
    join_told op v m (join_below_write {p = p} c h s f) =
        joins_told op p v c.1 m (λ k. absurd (writes_no_fold op (w.mode p) h k), λ n. write_told p s) f

    -- what is so stands
    pub all_told : (f : Flag) (v : ℕ) → IsListed w v → Means w f v → has f (F v) ≡ true
    all_told MayRead v i h = read_is_told v h
    all_told MayJoin v i h = join_told h.0 v h.1 h.2
    all_told MayWrite v i h = write_told v h
    all_told Given v i h = rest Given v (given h)
    all_told Done v i h = done_told v (below_not_main w ok i.0 v i.1) h
    all_told Clear v i h = clear_told i.0 v i.1 h
