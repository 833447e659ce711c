-- The chain of those that wait.
use Rattle.std.proofs.Common.{◌≡◌, ℕ, ◌<◌, ◌≤◌, refl, sym, subst, ap, ◌∙◌, ◌⊎◌, inl, inr, Bool, true, false, List, ◌∷◌, length, arith}
use Rattle.std.specs.Prelude.{not, ◌||◌}
use Rattle.std.proofs.Math.ListN.{set, get_or-eq_default}
use Rattle.std.proofs.lemmas.List.{get_or-set_same, get_or-set_other}
use Rattle.oss_model.specs.Order.{IsIn, here, there}
use Rattle.oss_access_lists.specs.declared.marks.Marks.{Marks}
use Rattle.oss_access_lists.specs.Tables.{no_marks, is_none, plus, minus, marks_at, number_at, IsChain, stop, step, IsQueue, post_in}
use Rattle.oss_access_lists.proofs.SoundLemmas.{bools}
use Rattle.oss_access_lists.proofs.StepLemmas.{same_or}

-- a number that is no member may be given another successor
pub chain_kept : (f g : ℕ → ℕ) (from : ℕ) (list : List ℕ) (x : ℕ) → ((v : ℕ) → (v ≡ x → ⊥) → g v ≡ f v) → (IsIn x list → ⊥) → IsChain f from list → IsChain g from list
chain_kept f g from list x same out stop = stop
chain_kept f g from list x same out (step {v = v} {rest = rest} n o c) =
    step n o (subst (λ y. IsChain g y rest) (sym (same v (λ h. out (subst (λ y. IsIn y (v ∷ rest)) h here)))) (chain_kept f g (f v) rest x same (λ i. out (there i)) c))

-- where flags wait, the number is one of the table
pub waits_within : (posted : List Marks) (v : ℕ) → is_none (marks_at posted v) ≡ false → v < length posted
waits_within posted v h = go (bools_le v (length posted))
  where
    go : (v < length posted) ⊎ (length posted ≤ v) → v < length posted
    go (inl k) = k
    go (inr k) = absurd (let e = sym (ap is_none (get_or-eq_default posted no_marks {n = v} k)) ∙ h in cc)

    bools_le : (a b : ℕ) → (a < b) ⊎ (b ≤ a)
    bools_le a b = grind arith

pub none_stays : (a b : Marks) → is_none a ≡ false → is_none (plus a b) ≡ false
none_stays a b h = go a.reads a.joins a.writes a.given a.done a.clear b.reads b.joins b.writes b.given b.done b.clear h
  where
    go : (p q r s t u p' q' r' s' t' u' : Bool) → not (p || q || r || s || t || u) ≡ false → not ((p || p') || (q || q') || (r || r') || (s || s') || (t || t') || (u || u')) ≡ false
    go true q r s t u p' q' r' s' t' u' k = refl
    go false true r s t u true q' r' s' t' u' k = refl
    go false true r s t u false q' r' s' t' u' k = refl
    go false false r s t u true q' r' s' t' u' k = refl
    go false false r s t u false true r' s' t' u' k = refl
    go false false true s t u false false r' s' t' u' k = refl
    go false false false s t u false false true s' t' u' k = refl
    go false false false true t u false false false s' t' u' k = refl
    go false false false false t u false false false true t' u' k = refl
    go false false false false true u false false false false t' u' k = refl
    go false false false false false u false false false false true u' k = refl
    go false false false false false true false false false false false u' k = refl
    go false false false false false false false false false false false u' k = absurd cc

-- one more set of flags that is not empty, in the chain before
pub queue_same : (posted next : List Marks) (behind : List ℕ) (from : ℕ) → ((v : ℕ) → is_none (marks_at next v) ≡ is_none (marks_at posted v)) → IsQueue posted behind from → IsQueue next behind from
queue_same posted next behind from same q = record {
  list = q.list;
  chain = q.chain;
  waits = λ v i. same v ∙ q.waits v i;
  all = λ v h. q.all v (sym (same v) ∙ h);
}

module _ (posted : List Marks) (behind : List ℕ) (from at : ℕ) (now : Marks) (within : at < length posted) (as_many : length behind ≡ length posted) where
  same_none : is_none (marks_at posted at) ≡ is_none now → (v : ℕ) → is_none (marks_at (set posted at now) v) ≡ is_none (marks_at posted v)
  same_none h v = go (same_or v at)
    where
      go : (v ≡ at) ⊎ (v ≡ at → ⊥) → is_none (marks_at (set posted at now) v) ≡ is_none (marks_at posted v)
      go (inl e) =
          subst (λ y. is_none (marks_at (set posted at now) y) ≡ is_none (marks_at posted y)) (sym e) (ap is_none (get_or-set_same posted at now no_marks within) ∙ sym h)
      go (inr n) = ap is_none (get_or-set_other posted at v now no_marks n)

  -- the flags at one access change, and it stays in the chain or stays out
  pub queue_keeps : is_none (marks_at posted at) ≡ is_none now → IsQueue posted behind from → IsQueue (set posted at now) behind from
  queue_keeps h q = queue_same posted (set posted at now) behind from (same_none h) q

  -- an access goes in front
  pub queue_grows : (at ≡ 0 → ⊥) → is_none (marks_at posted at) ≡ true → is_none now ≡ false → IsQueue posted behind from → IsQueue (set posted at now) (set behind at from) at
  queue_grows z h k q = record {
    list = at ∷ q.list;
    chain = step z out (subst (λ y. IsChain (number_at (set behind at from)) y q.list) (sym (get_or-set_same behind at from 0 (subst (λ y. at < y) (sym as_many) within)))
        (chain_kept (number_at behind) (number_at (set behind at from)) from q.list at (λ v n. get_or-set_other behind at v from 0 n) out q.chain));
    waits = waits;
    all = λ v i. all v i (same_or v at);
  }
    where
      out : IsIn at q.list → ⊥
      out i = let e = sym h ∙ q.waits at i in cc

      waits : (v : ℕ) → IsIn v (at ∷ q.list) → is_none (marks_at (set posted at now) v) ≡ false
      waits v here = ap is_none (get_or-set_same posted at now no_marks within) ∙ k
      waits v (there i) = ap is_none (get_or-set_other posted at v now no_marks (λ e. out (subst (λ y. IsIn y q.list) e i))) ∙ q.waits v i

      all : (v : ℕ) → is_none (marks_at (set posted at now) v) ≡ false → (v ≡ at) ⊎ (v ≡ at → ⊥) → IsIn v (at ∷ q.list)
      all v i (inl e) = subst (λ y. IsIn y (at ∷ q.list)) (sym e) here
      all v i (inr n) = there (q.all v (sym (ap is_none (get_or-set_other posted at v now no_marks n)) ∙ i))

-- the first of the chain goes out
pub queue_next : (posted : List Marks) (behind : List ℕ) (from : ℕ) → (from ≡ 0 → ⊥) → from < length posted → IsQueue posted behind from → IsQueue (set posted from no_marks) behind (number_at behind from)
queue_next posted behind from z within q = go q.list q.chain q.waits q.all z within
  where
    go : {v : ℕ} (list : List ℕ) → IsChain (number_at behind) v list → ((u : ℕ) → IsIn u list → is_none (marks_at posted u) ≡ false) → ((u : ℕ) → is_none (marks_at posted u) ≡ false → IsIn u list) → (v ≡ 0 → ⊥) → v < length posted → IsQueue (set posted v no_marks) behind (number_at behind v)
    go list stop waits all z l = absurd (z refl)
    go list (step {v = v} {rest = rest} n o c) waits all z l = record {
      list = rest;
      chain = c;
      waits = λ u i. ap is_none (get_or-set_other posted v u no_marks no_marks (λ e. o (subst (λ y. IsIn y rest) e i))) ∙ waits u (there i);
      all = λ u h. all_of u h (same_or u v);
    }
      where
        tail_of : (u : ℕ) → (u ≡ v → ⊥) → IsIn u (v ∷ rest) → IsIn u rest
        tail_of u k here = absurd (k refl)
        tail_of u k (there i) = i

        all_of : (u : ℕ) → is_none (marks_at (set posted v no_marks) u) ≡ false → (u ≡ v) ⊎ (u ≡ v → ⊥) → IsIn u rest
        all_of u h (inl e) = absurd (let k = sym (ap is_none (ap (marks_at (set posted v no_marks)) e ∙ get_or-set_same posted v no_marks no_marks l)) ∙ h in cc)
        all_of u h (inr k) = tail_of u k (all u (sym (ap is_none (get_or-set_other posted v u no_marks no_marks k)) ∙ h))

-- who is in front has flags that wait
pub front_waits : (posted : List Marks) (behind : List ℕ) (from : ℕ) → (from ≡ 0 → ⊥) → IsQueue posted behind from → is_none (marks_at posted from) ≡ false
front_waits posted behind from z q = go q.list q.chain q.waits z
  where
    go : {v : ℕ} (list : List ℕ) → IsChain (number_at behind) v list → ((u : ℕ) → IsIn u list → is_none (marks_at posted u) ≡ false) → (v ≡ 0 → ⊥) → is_none (marks_at posted v) ≡ false
    go list stop waits z = absurd (z refl)
    go list (step n o c) waits z = waits _ here

-- where the chain is empty, nothing waits
pub none_waits : (posted : List Marks) (behind : List ℕ) (from : ℕ) → from ≡ 0 → IsQueue posted behind from → (v : ℕ) → is_none (marks_at posted v) ≡ true
none_waits posted behind from z q v = go q.list q.chain q.all z (bools (is_none (marks_at posted v)))
  where
    go : {x : ℕ} (list : List ℕ) → IsChain (number_at behind) x list → ((u : ℕ) → is_none (marks_at posted u) ≡ false → IsIn u list) → x ≡ 0 → (is_none (marks_at posted v) ≡ true) ⊎ (is_none (marks_at posted v) ≡ false) → is_none (marks_at posted v) ≡ true
    go list c all e (inl h) = h
    go list stop all e (inr h) = elim (all v h) [ ]
    go list (step n o c) all e (inr h) = absurd (n e)

-- what `post` does
pub posted_keeps : (stand posted : List Marks) (behind : List ℕ) (from at : ℕ) (flags : Marks) → at < length posted → length behind ≡ length posted → is_none (marks_at posted at) ≡ false → IsQueue posted behind from → IsQueue (post_in stand posted at flags) behind from
posted_keeps stand posted behind from at flags l m h q =
    queue_keeps posted behind from at (plus (marks_at posted at) (minus flags (marks_at stand at))) l m (h ∙ sym (none_stays (marks_at posted at) (minus flags (marks_at stand at)) h)) q
