-- Groups of an access list: what their members share.
use Rattle.std.proofs.Common.{◌≡◌, ℕ, ◌≤◌, ◌<◌, refl, sym, ◌∙◌, arith, Bool, true, false}
use Rattle.oss_syntax.specs.declared.access.Mode.TheVariants.{Fold, Read, Write}
use Rattle.oss_syntax.specs.declared.access.Op.{Op}
use Rattle.oss_syntax.specs.declared.access.Op.TheVariants.{Add, And, Or, Xor}
use Rattle.oss_model.specs.Machine.{mode_of}
use Rattle.oss_model.specs.Rights.{Right, NoRight, Released, Holds, op_eq}
use Rattle.oss_task_graph.specs.Groups.{AreOneGroup, StandsOn, go_together, is_held, next, same}

never : (b : Bool) → b ≡ true → b ≡ false → ⊥
never b h k = let e : true ≡ false = sym h ∙ k in cc

op_self : (op : Op) → op_eq op op ≡ true
op_self Add = refl
op_self And = refl
op_self Or = refl
op_self Xor = refl

same_op : (a b : Op) → op_eq a b ≡ true → a ≡ b
same_op Add Add h = refl
same_op And And h = refl
same_op Or Or h = refl
same_op Xor Xor h = refl
same_op Add And h = cc
same_op Add Or h = cc
same_op Add Xor h = cc
same_op And Add h = cc
same_op And Or h = cc
same_op And Xor h = cc
same_op Or Add h = cc
same_op Or And h = cc
same_op Or Xor h = cc
same_op Xor Add h = cc
same_op Xor And h = cc
same_op Xor Or h = cc

-- two that go together are of one mode
pub together_mode : (a b : Right) → go_together a b ≡ true → mode_of a ≡ mode_of b
together_mode (Holds Read s) (Holds Read t) h = refl
together_mode (Holds (Fold f) s) (Holds (Fold g) t) h = let e = same_op f g h in λ i. Fold (e i)
together_mode (Holds Read s) (Holds Write t) h = cc
together_mode (Holds Read s) (Holds (Fold g) t) h = cc
together_mode (Holds Write s) b h = cc
together_mode (Holds (Fold f) s) (Holds Read t) h = cc
together_mode (Holds (Fold f) s) (Holds Write t) h = cc
together_mode (Holds Read s) NoRight h = cc
together_mode (Holds Read s) Released h = cc
together_mode (Holds (Fold f) s) NoRight h = cc
together_mode (Holds (Fold f) s) Released h = cc
together_mode NoRight b h = cc
together_mode Released b h = cc

-- so all of a group are
pub group_mode : (rights : ℕ → Right) (i k : ℕ) → AreOneGroup rights i k → mode_of (rights i) ≡ mode_of (rights k)
group_mode rights i _ same = refl
group_mode rights i k (next {j = j} g n t) = group_mode rights i j g ∙ together_mode (rights j) (rights k) t

-- two reads go together
pub reads_together : (a b : Right) → is_held a ≡ true → is_held b ≡ true → mode_of a ≡ Read → mode_of b ≡ Read → go_together a b ≡ true
reads_together (Holds Read s) (Holds Read t) h k x y = refl
reads_together (Holds Read s) (Holds Write t) h k x y = cc
reads_together (Holds Read s) (Holds (Fold g) t) h k x y = cc
reads_together (Holds Write s) b h k x y = cc
reads_together (Holds (Fold f) s) b h k x y = cc
reads_together (Holds Read s) NoRight h k x y = cc
reads_together (Holds Read s) Released h k x y = cc
reads_together NoRight b h k x y = cc
reads_together Released b h k x y = cc

-- and so do two folds by one operator
pub folds_together : (op : Op) (a b : Right) → is_held a ≡ true → is_held b ≡ true → mode_of a ≡ Fold op → mode_of b ≡ Fold op → go_together a b ≡ true
folds_together op (Holds (Fold f) s) (Holds (Fold g) t) h k x y = let e : f ≡ op = cc in let d : g ≡ op = cc in (λ i. op_eq (e i) (d i)) ∙ op_self op
folds_together op (Holds (Fold f) s) (Holds Read t) h k x y = cc
folds_together op (Holds (Fold f) s) (Holds Write t) h k x y = cc
folds_together op (Holds (Fold f) s) NoRight h k x y = cc
folds_together op (Holds (Fold f) s) Released h k x y = cc
folds_together op (Holds Read s) b h k x y = cc
folds_together op (Holds Write s) b h k x y = cc
folds_together op NoRight b h k x y = cc
folds_together op Released b h k x y = cc

pub group_up : (rights : ℕ → Right) (i k : ℕ) → AreOneGroup rights i k → i ≤ k
group_up rights i _ same = omega arith
group_up rights i k (next {j = j} g n t) = let a = group_up rights i j g in let b = n.rises in omega (arith, a, b)

pub group_held : (rights : ℕ → Right) (i k : ℕ) → AreOneGroup rights i k → is_held (rights i) ≡ true → is_held (rights k) ≡ true
group_held rights i _ same h = h
group_held rights i k (next g n t) h = n.second

group_first : (rights : ℕ → Right) (i k : ℕ) → AreOneGroup rights i k → is_held (rights k) ≡ true → is_held (rights i) ≡ true
group_first rights i _ same h = h
group_first rights i k (next {j = j} g n t) h = group_first rights i j g n.first

module _ (rights : ℕ → Right) (j k : ℕ) (s : StandsOn rights j k) where
  -- a child stands on an earlier one, and both have the cell

  pub stands_up : j < k
  stands_up =
      let a = group_up rights j s.last s.before in
      let b = s.neighbours.rises in
      let c = group_up rights s.first k s.behind in
      omega (arith, a, b, c)

  pub stands_held : is_held (rights k) ≡ true
  stands_held = group_held rights s.first k s.behind s.neighbours.second

  pub stands_first : is_held (rights j) ≡ true
  stands_first = group_first rights j s.last s.before s.neighbours.first

  -- they are not both reads

  pub not_both_read : mode_of (rights j) ≡ Read → mode_of (rights k) ≡ Read → ⊥
  not_both_read x y =
      let l : mode_of (rights s.last) ≡ Read = sym (group_mode rights j s.last s.before) ∙ x in
      let f : mode_of (rights s.first) ≡ Read = group_mode rights s.first k s.behind ∙ y in
      never (go_together (rights s.last) (rights s.first)) (reads_together (rights s.last) (rights s.first) s.neighbours.first s.neighbours.second l f) s.apart

  -- and not both folds by one operator

  pub not_one_fold : (op : Op) → mode_of (rights j) ≡ Fold op → mode_of (rights k) ≡ Fold op → ⊥
  not_one_fold op x y =
      let l : mode_of (rights s.last) ≡ Fold op = sym (group_mode rights j s.last s.before) ∙ x in
      let f : mode_of (rights s.first) ≡ Fold op = group_mode rights s.first k s.behind ∙ y in
      never (go_together (rights s.last) (rights s.first)) (folds_together op (rights s.last) (rights s.first) s.neighbours.first s.neighbours.second l f) s.apart
