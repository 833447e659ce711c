-- Partners in matching forests have the same flags.
use Rattle.std.proofs.Common.{◌⊎◌, inl, inr, sym, subst, ◌∙◌}
use Rattle.oss_syntax.specs.declared.access.Op.{Op}
use Rattle.oss_model.specs.Forest.{Forest, IsDone, IsWriteSatisfied, IsReadSatisfied, IsJoinSatisfied, IsRead, InRun, done, write_top, write_child, read_top, read_child, join_top, join_below_fold, join_below_write}
use Rattle.std.specs.Prelude.{IsTrue}
use Rattle.oss_model.specs.Machine.{accesses}
use Rattle.oss_model.specs.Matching.{above, below, before, Matches, HaveSameFlags, tested, MatchingForestsAgree, MatchingStateAgrees}

-- the other way round
turned : {K L : Type 0} (F : Forest K) (G : Forest L) (R : K → L → Type 0) → Matches F G R → Matches G F (λ v u. R u v)
turned F G R m =
    record {
      top = λ v u r. let k = m.top u v r in (k.1, k.0);
      child = λ v y u x r q. let k = m.child u x v y r q in (k.1, k.0);
      earlier = λ v y u x r q. let k = m.earlier u x v y r q in (k.1, k.0);
      mode = λ v u r. sym (m.mode u v r);
      given = λ v u r. let k = m.given u v r in (k.1, k.0);
      forth = λ v y u r n. m.back u v y r n;
      back = λ v u x r n. m.forth u x v r n;
    }

module _ {K L : Type 0} (F : Forest K) (G : Forest L) (R : K → L → Type 0) (m : Matches F G R) where
  done_over : (u : K) (v : L) → R u v → IsDone F u → IsDone G v
  done_over u v r (done g f) =
      done ((m.given u v r).0 g) (λ y h. let x = m.back u v y r (below h) in done_over x.0 y x.1 (f x.0 ((m.child u x.0 v y r x.1).1 h)))

  -- what stands before the partner is done
  before_over : (u : K) (v : L) → R u v → ((x : K) → F.Earlier x u → IsDone F x) → (y : L) → G.Earlier y v → IsDone G y
  before_over u v r f y h = let x = m.back u v y r (before h) in done_over x.0 y x.1 (f x.0 ((m.earlier x.0 u y v x.1 r).1 h))

  write_over : (u : K) (v : L) → R u v → IsWriteSatisfied F u → IsWriteSatisfied G v
  write_over u v r (write_top t f) = write_top ((m.top u v r).0 t) (before_over u v r f)
  write_over u v r (write_child {p = p} c s f) =
      let q = m.forth u p v r (above c) in
      write_child ((m.child p u q.0 v q.1 r).0 c) (write_over p q.0 q.1 s) (before_over u v r f)

  unread_over : (u : K) (v : L) → R u v → ((x : K) → F.Earlier x u → (IsRead (F.mode x) → ⊥) → IsDone F x) → (y : L) → G.Earlier y v → (IsRead (G.mode y) → ⊥) → IsDone G y
  unread_over u v r f y h n =
      let x = m.back u v y r (before h) in
      done_over x.0 y x.1 (f x.0 ((m.earlier x.0 u y v x.1 r).1 h) (λ k. n (subst IsRead (m.mode x.0 y x.1) k)))

  read_over : (u : K) (v : L) → R u v → IsReadSatisfied F u → IsReadSatisfied G v
  read_over u v r (read_top t f) = read_top ((m.top u v r).0 t) (unread_over u v r f)
  read_over u v r (read_child {p = p} c s f) =
      let q = m.forth u p v r (above c) in
      read_child ((m.child p u q.0 v q.1 r).0 c) (read_over p q.0 q.1 s) (unread_over u v r f)

  run_over : (op : Op) (u : K) (v : L) → R u v → ((x : K) → F.Earlier x u → InRun F op x u ⊎ IsDone F x) → (y : L) → G.Earlier y v → InRun G op y v ⊎ IsDone G y
  run_over op u v r f y h = let x = m.back u v y r (before h) in go x.0 x.1 (f x.0 ((m.earlier x.0 u y v x.1 r).1 h))
    where
      go : (x : K) → R x y → InRun F op x u ⊎ IsDone F x → InRun G op y v ⊎ IsDone G y
      go x q (inr d) = inr (done_over x y q d)
      go x q (inl k) =
          inl (record {
            first = sym (m.mode x y q) ∙ k.first;
            between = λ w a b. let t = m.back u v w r (before b) in
                sym (m.mode t.0 w t.1) ∙ k.between t.0 ((m.earlier x t.0 y w q t.1).1 a) ((m.earlier t.0 u w v t.1 r).1 b);
          })

  join_over : (op : Op) (u : K) (v : L) → R u v → IsJoinSatisfied F op u → IsJoinSatisfied G op v
  join_over op u v r (join_top t f) = join_top ((m.top u v r).0 t) (run_over op u v r f)
  join_over op u v r (join_below_fold {p = p} c e s f) =
      let q = m.forth u p v r (above c) in
      join_below_fold ((m.child p u q.0 v q.1 r).0 c) (sym (m.mode p q.0 q.1) ∙ e) (join_over op p q.0 q.1 s) (run_over op u v r f)
  join_over op u v r (join_below_write {p = p} c e s f) =
      let q = m.forth u p v r (above c) in
      join_below_write ((m.child p u q.0 v q.1 r).0 c) (sym (m.mode p q.0 q.1) ∙ e) (write_over p q.0 q.1 s) (run_over op u v r f)

-- partners have the same flags, whatever the forests are
pub same_flags : {K L : Type 0} (F : Forest K) (G : Forest L) (R : K → L → Type 0) → Matches F G R → (u : K) (v : L) → R u v → HaveSameFlags F G u v
same_flags F G R m u v r =
    let n = turned F G R m in
    record {
      done = (done_over F G R m u v r, done_over G F (λ y x. R x y) n v u r);
      write = (write_over F G R m u v r, write_over G F (λ y x. R x y) n v u r);
      read = (read_over F G R m u v r, read_over G F (λ y x. R x y) n v u r);
      join = λ op. (join_over F G R m op u v r, join_over G F (λ y x. R x y) n op v u r);
    }

pub matching_forests_agree : (K L : Type 0) → MatchingForestsAgree K L
matching_forests_agree K L F G R m u v r = same_flags (tested F) (tested G) (λ x y. IsTrue (R x y)) m u v r

pub matching_state_agrees : (S L : Type 0) → MatchingStateAgrees S L
matching_state_agrees S L s c G R m p v r = same_flags (accesses s c) (tested G) (λ x y. IsTrue (R x y)) m p v r
