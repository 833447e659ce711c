-- One run more behind others; and which cells of a run may be given up.
use Rattle.std.proofs.Common.{◌≡◌, ℕ, suc, ◌<◌, ◌≤◌, ◌⊎◌, inl, inr, refl, sym, subst, ap, ◌∙◌, arith, get_or, length, List, [], ◌∷◌, ◌++◌, Bool, true, false, Option, Some, None}
use Rattle.std.specs.Prelude.{slice_get}
use Rattle.oss_syntax.specs.declared.access.Op.{Op}
use Rattle.oss_ranges.specs.Cells.{value_at}
use Rattle.oss_body.specs.Relation.{released_by}
use Rattle.oss_code.specs.declared.code.CodeParts.{CodeParts}
use Rattle.oss_kept_tasks.specs.declared.held.Held.{Held}
use Rattle.oss_kept_tasks.specs.declared.held.Owed.{Owed}
use Rattle.oss_kept_tasks.specs.declared.held.Owed.TheVariants as owed
use Rattle.oss_enabled_moves.specs.Enabled.{IsThrough, MayFold, MayLet}
use Rattle.oss_core.specs.declared.passing.Passed.{Passed}
use Rattle.oss_core.specs.Giving.{HoldsCell}
use Rattle.oss_core.specs.Kept.{IsRunning, Kept}
use Rattle.oss_core.specs.Passing.{AreBoth, Continues, IsAdded, MayNothing, OwesNoneFrom, OwesRange}
use Rattle.oss_core.proofs.GoingLemmas.{read_is}
use Rattle.oss_core.proofs.KeepLemmas.{some_is}
use Rattle.oss_core.proofs.MakingLemmas.{holds_cell}
use Rattle.oss_core.proofs.TreeFacts.{at_place}

-- where it goes on with the last one
longer_last : (front : List Passed) (last one both : Passed) → Continues last one → AreBoth last one both → IsAdded one (front ++ last ∷ []) (front ++ both ∷ [])
longer_last [] last one both on are = inl (on, (both, are, refl))
longer_last (a ∷ []) last one both on are = (both ∷ [], longer_last [] last one both on are, refl)
longer_last (a ∷ b ∷ front) last one both on are = (b ∷ (front ++ both ∷ []), longer_last (b ∷ front) last one both on are, refl)

pub added_on : (front : List Passed) (last one both : Passed) (old new : List Passed) → old ≡ front ++ last ∷ [] → new ≡ front ++ both ∷ [] → Continues last one → AreBoth last one both → IsAdded one old new
added_on front last one both old new was now on are =
    subst (λ (xs : List Passed). IsAdded one xs new) (sym was) (subst (λ (xs : List Passed). IsAdded one (front ++ last ∷ []) xs) (sym now) (longer_last front last one both on are))

-- where it does not
one_more : (front : List Passed) (last one : Passed) → (Continues last one → ⊥) → IsAdded one (front ++ last ∷ []) ((front ++ last ∷ []) ++ one ∷ [])
one_more [] last one off = inr (off, refl)
one_more (a ∷ []) last one off = (last ∷ one ∷ [], one_more [] last one off, refl)
one_more (a ∷ b ∷ front) last one off = (b ∷ ((front ++ last ∷ []) ++ one ∷ []), one_more (b ∷ front) last one off, refl)

pub added_behind : (front : List Passed) (last one : Passed) (old mid new : List Passed) → old ≡ front ++ last ∷ [] → mid ≡ front ++ last ∷ [] → new ≡ mid ++ one ∷ [] → (Continues last one → ⊥) → IsAdded one old new
added_behind front last one old mid new was back now off =
    subst (λ (xs : List Passed). IsAdded one xs new) (sym was)
    (subst (λ (xs : List Passed). IsAdded one (front ++ last ∷ []) xs) (sym (now ∙ ap (λ (xs : List Passed). xs ++ one ∷ []) back)) (one_more front last one off))

-- the first cells of a range that a task owes
pub owes_less : (tasks : List Held) (v lo hi to : ℕ) → OwesRange tasks v lo hi → to ≤ hi → OwesRange tasks v lo to
owes_less tasks v lo hi to o l = record { held = o.held; is = o.is; owes = λ c low high. o.owes c low (omega (arith, high, l)) }

-- it holds them
pub holds_range : {code : CodeParts} {k : Kept} (running : IsRunning code k) (v lo hi to : ℕ) → OwesRange k.tasks v lo hi → to ≤ hi → (c : ℕ) → lo ≤ c → c < to → HoldsCell k.seen v c
holds_range running v lo hi to o l c low high = holds_cell running.core v c (record { held = o.held; is = o.is; owed = owed.Let; owes = o.owes c low (omega (arith, high, l)) })

module _ (k : Kept) (v lo hi : ℕ) (held : Held) (is : slice_get k.tasks v ≡ Some held) where
  -- cells that it does not owe stay
  pub none_owed : ((c : ℕ) → lo ≤ c → c < hi → value_at held.owed.pieces c ≡ None) → MayNothing k v lo hi
  none_owed none = record {
    no_let = λ c low high may. let a = none c low high in let b = subst (λ (h : Held). value_at h.owed.pieces c ≡ Some owed.Let) (some_is (sym may.is ∙ is)) may.gives.owes in absurd cc;
    no_join = λ c op low high may. let a = none c low high in let b = subst (λ (h : Held). value_at h.owed.pieces c ≡ Some (owed.Join op)) (some_is (sym may.is ∙ is)) may.folds.owes in absurd cc;
  }

  -- of cells that it owes by lets it may give up those that it has released, and all where it is through
  pub lets_none : ((c : ℕ) → lo ≤ c → c < hi → value_at held.owed.pieces c ≡ Some owed.Let) → ((c : ℕ) → lo ≤ c → c < hi → released_by held.body c ≡ false) → (IsThrough k.tree.tasks v held.body → ⊥) → MayNothing k v lo hi
  lets_none owes kept open_ = record {
    no_let = λ c low high may. gone c low high (subst (λ (h : Held). (released_by h.body c ≡ true) ⊎ IsThrough k.tree.tasks v h.body) (some_is (sym may.is ∙ is)) may.gives.gone);
    no_join = λ c op low high may. let a = owes c low high in let b = subst (λ (h : Held). value_at h.owed.pieces c ≡ Some (owed.Join op)) (some_is (sym may.is ∙ is)) may.folds.owes in absurd cc;
  }
    where
      gone : (c : ℕ) → lo ≤ c → c < hi → (released_by held.body c ≡ true) ⊎ IsThrough k.tree.tasks v held.body → ⊥
      gone c low high (inl r) = let e = kept c low high in absurd cc
      gone c low high (inr t) = open_ t

  pub lets_may : ((c : ℕ) → lo ≤ c → c < hi → value_at held.owed.pieces c ≡ Some owed.Let) → (b : Bool) → ((c : ℕ) → lo ≤ c → c < hi → released_by held.body c ≡ b) → (b ≡ true) ⊎ IsThrough k.tree.tasks v held.body
      → (c : ℕ) → lo ≤ c → c < hi → MayLet k.tasks k.tree.tasks v c
  lets_may owes b alike gone c low high = record { held = held; is = is; gives = record { owes = owes c low high; gone = go gone } }
    where
      go : (b ≡ true) ⊎ IsThrough k.tree.tasks v held.body → (released_by held.body c ≡ true) ⊎ IsThrough k.tree.tasks v held.body
      go (inl e) = inl (alike c low high ∙ e)
      go (inr t) = inr t

  -- of slots it may join none before it is through
  pub joins_none : (op : Op) → ((c : ℕ) → lo ≤ c → c < hi → value_at held.owed.pieces c ≡ Some (owed.Join op)) → (IsThrough k.tree.tasks v held.body → ⊥) → MayNothing k v lo hi
  joins_none op owes open_ = record {
    no_let = λ c low high may. let a = owes c low high in let b = subst (λ (h : Held). value_at h.owed.pieces c ≡ Some owed.Let) (some_is (sym may.is ∙ is)) may.gives.owes in absurd cc;
    no_join = λ c other low high may. open_ (subst (λ (h : Held). IsThrough k.tree.tasks v h.body) (some_is (sym may.is ∙ is)) may.folds.through);
  }

  -- and then those whose turn has come
  pub join_waits : (op : Op) → ((c : ℕ) → lo ≤ c → c < hi → value_at held.owed.pieces c ≡ Some (owed.Join op)) → lo < hi → ((other : Op) → MayFold held k.tree.tasks k.seen v lo other → ⊥) → MayNothing k v lo (suc lo)
  join_waits op owes some waits = record {
    no_let = λ c low high may. let a = owes c low (omega (arith, high, some)) in let b = subst (λ (h : Held). value_at h.owed.pieces c ≡ Some owed.Let) (some_is (sym may.is ∙ is)) may.gives.owes in absurd cc;
    no_join = λ c other low high may.
        let e : c ≡ lo = omega (arith, low, high) in
        waits other (subst (λ (d : ℕ). MayFold held k.tree.tasks k.seen v d other) e (subst (λ (h : Held). MayFold h k.tree.tasks k.seen v c other) (some_is (sym may.is ∙ is)) may.folds));
  }

-- a cell is owed in one way
pub one_way : (held : Held) (c : ℕ) (op other : Op) → value_at held.owed.pieces c ≡ Some (owed.Join op) → value_at held.owed.pieces c ≡ Some (owed.Join other) → op ≡ other
one_way held c op other e f = let g : Some (owed.Join op) ≡ Some (owed.Join other) = sym e ∙ f in cc

-- a cell that is owed in neither way is not owed
pub neither_way : (o : Option Owed) → (o ≡ Some owed.Let → ⊥) → ((op : Op) → o ≡ Some (owed.Join op) → ⊥) → o ≡ None
neither_way None f g = refl
neither_way (Some owed.Let) f g = absurd (f refl)
neither_way (Some (owed.Join op)) f g = absurd (g op refl)

-- what was read at a place of a list stands there
pub read_there : (tasks : List Held) (v : ℕ) (x : Held) → v < length tasks → x ≡ get_or tasks v x → slice_get tasks v ≡ Some x
read_there tasks v x l e = let y = at_place tasks v l in read_is tasks v x y.0 y.1 e

-- what is read of the cells past the last
pub none_from : (k : Kept) (v cells : ℕ) (held : Held) → slice_get k.tasks v ≡ Some held → ((c : ℕ) → cells ≤ c → value_at held.owed.pieces c ≡ None) → OwesNoneFrom k v cells
none_from k v cells held is past other e c l = subst (λ (h : Held). value_at h.owed.pieces c ≡ None) (some_is (sym is ∙ e)) (past c l)
