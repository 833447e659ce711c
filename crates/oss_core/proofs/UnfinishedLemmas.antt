-- How many tasks of the tree are not complete, task by task, and that as many of the state are not.
use Rattle.std.proofs.Common.{◌≡◌, ℕ, suc, ◌+◌, ◌<◌, ◌⊎◌, inl, inr, refl, sym, subst, ap, ◌∙◌, arith, List, [], ◌∷◌, length, map, Option, Some, None}
use Rattle.std.specs.Prelude.{slice_get}
use Rattle.std.proofs.lemmas.List.{reverse-reverse}
use Rattle.oss_model.specs.Order.{IsIn, here, there}
use Rattle.oss_model.specs.Bodies.{Start}
use Rattle.oss_model.specs.Machine.{State, At}
use Rattle.oss_code.specs.declared.code.CodeParts.{CodeParts}
use Rattle.oss_machine.specs.Frames.{CodeScript}
use Rattle.oss_machine.specs.Machines.{asks}
use Rattle.oss_body.specs.Places.{unwritten}
use Rattle.oss_tree.specs.declared.task.Task.{Task as TreeTask}
use Rattle.oss_tree.specs.Tasks.{IsComplete}
use Rattle.oss_core.specs.Kept.{IsCore, Kept, own}
use Rattle.oss_core.specs.Standing.{IsNumbered}
use Rattle.oss_core.specs.Stops.{AreApart, AreUnfinished, AreUnfinishedTo, HasUnfinished, IsUnfinished}
use Rattle.oss_core.proofs.EntryLemmas.{in_cases}
use Rattle.oss_core.proofs.KeepLemmas.{which}
use Rattle.oss_core.proofs.TreeFacts.{at_number, body_within, complete_tells, point_of_path, sizes}

-- the path of a task of a tree
abbrev path_by : Option TreeTask → List ℕ
path_by None = []
path_by (Some one) = unwritten one.point

-- the path of the task with this number
abbrev path_in : List TreeTask → ℕ → List ℕ
path_in tasks v = path_by (slice_get tasks v)

-- an image that stands in the images of a list
record IsImage {A B : Type 0} (f : A → B) (xs : List A) (y : B) : Type 0 where
  of : A
  listed : IsIn of xs
  is : f of ≡ y

-- the image of what stands in the list
image_in : {A B : Type 0} (f : A → B) {x : A} {xs : List A} → IsIn x xs → IsIn (f x) (map f xs)
image_in f here = here
image_in f (there i) = there (image_in f i)

-- each image is that of something in the list
image_of : {A B : Type 0} (f : A → B) (y : B) (xs : List A) → IsIn y (map f xs) → IsImage f xs y
image_of f y [] i = elim i [ ]
image_of {A = A} {B = B} f y (x ∷ xs) i = go i refl refl (λ j. image_of f y xs j)
  where
    later : IsImage f xs y → IsImage f (x ∷ xs) y
    later h = record { of = h.of; listed = there h.listed; is = h.is }

    go : {z : B} {zs : List B} → IsIn y (z ∷ zs) → z ≡ f x → zs ≡ map f xs → (IsIn y (map f xs) → IsImage f xs y) → IsImage f (x ∷ xs) y
    go here e g rest = record { of = x; listed = here; is = sym e }
    go (there j) e g rest = later (rest (subst (IsIn y) g j))

-- images of what stands in a list once, where no two are one
images_apart : {A B : Type 0} (f : A → B) (xs : List A) → AreApart xs → ((x y : A) → IsIn x xs → IsIn y xs → f x ≡ f y → x ≡ y) → AreApart (map f xs)
images_apart f [] a one = tt
images_apart {A = A} f (x ∷ xs) a one =
    ((λ i. let h = image_of f (f x) xs i in a.0 (subst (λ (z : A). IsIn z xs) (one h.of x (there h.listed) here h.is) h.listed)), images_apart f xs a.1 (λ y z i j e. one y z (there i) (there j) e))

-- there are as many images
images_length : {A B : Type 0} (f : A → B) (xs : List A) → length (map f xs) ≡ length xs
images_length f [] = refl
images_length f (x ∷ xs) = ap suc (images_length f xs)

module _ {code : CodeParts} {main : Start CodeScript} {first : List ℕ} {k : Kept} {s : State CodeScript} (core : IsCore code main first k s) where
  -- the path of a body is that of its task in the tree
  path_is : (v : ℕ) (p : List ℕ) → IsNumbered own core.bodies v p → path_in k.tree.tasks v ≡ p
  path_is v p has =
      let h = point_of_path core v p has in
      ap path_by h.at_ ∙ ap unwritten h.point ∙ reverse-reverse p

  -- a number of the tree is that of a body
  numbered : (v : ℕ) → v < length k.tree.tasks → IsNumbered own core.bodies v (path_in k.tree.tasks v)
  numbered v l =
      let x = at_number core v (subst (λ (n : ℕ). v < n) (sizes core) l) in
      let has : IsNumbered own core.bodies v x.body.start.path = record { one = x.body; is = x.body_at; path = refl } in
      subst (λ (p : List ℕ). IsNumbered own core.bodies v p) (sym (path_is v x.body.start.path has)) has

  -- tasks with one path have one number
  one_number : (v w : ℕ) → v < length k.tree.tasks → w < length k.tree.tasks → path_in k.tree.tasks v ≡ path_in k.tree.tasks w → v ≡ w
  one_number v w l m e =
      let a = numbered v l in
      let b = numbered w m in
      core.sound.tasks.one_number v w a.one b.one a.is b.is (a.path ∙ e ∙ sym b.path)

  -- as many tasks of the state are not complete as of the tree
  pub unfinished_is : (n : ℕ) → AreUnfinished k.tree.tasks n → HasUnfinished (asks code) s n
  unfinished_is n a = record {
    list = map (path_in k.tree.tasks) a.list;
    apart = images_apart (path_in k.tree.tasks) a.list a.apart (λ v w i j e. one_number v w ((a.exact v).0 i).0 ((a.exact w).0 j).0 e);
    exact = λ p. ((λ i. forth p (image_of (path_in k.tree.tasks) p a.list i)), (λ u. back p u));
    count = images_length (path_in k.tree.tasks) a.list ∙ a.count;
  }
    where
      forth : (p : List ℕ) → IsImage (path_in k.tree.tasks) a.list p → IsUnfinished (asks code) s p
      forth p h =
          let x = (a.exact h.of).0 h.listed in
          let has : IsNumbered own core.bodies h.of p = subst (λ (q : List ℕ). IsNumbered own core.bodies h.of q) h.is (numbered h.of x.0) in
          let r = core.stands.there h.of has.one has.is in
          record { task = r.0; at_ = subst (λ (q : List ℕ). At s q r.0) has.path r.1; left = λ c. x.1 ((complete_tells core h.of p has).1 c) }

      back : (p : List ℕ) → IsUnfinished (asks code) s p → IsIn p (map (path_in k.tree.tasks) a.list)
      back p u =
          let v = core.stands.back p u.task u.at_ in
          let l = subst (λ (n : ℕ). v.0 < n) (sym (sizes core)) (body_within core v.0 v.1.one v.1.is) in
          let i = (a.exact v.0).1 (l, λ c. u.left ((complete_tells core v.0 p v.1).0 c)) in
          subst (λ (q : List ℕ). IsIn q (map (path_in k.tree.tasks) a.list)) (path_is v.0 p v.1) (image_in (path_in k.tree.tasks) i)

below_split : (w n : ℕ) → w < n + 1 → (w ≡ n) ⊎ (w ≡ n → ⊥) → (w ≡ n) ⊎ (w < n)
below_split w n l (inl e) = inl e
below_split w n l (inr d) = inr (grind (arith, l, d))

-- one more task that is not complete
pub one_more : (tasks : List TreeTask) (v n : ℕ) → (IsComplete tasks v → ⊥) → AreUnfinishedTo tasks v n → AreUnfinishedTo tasks (v + 1) (n + 1)
one_more tasks v n left told = record {
  list = v ∷ told.list;
  apart = ((λ i. let h = (told.exact v).0 i in let l = h.0 in absurd (omega (arith, l))), told.apart);
  exact = λ w. ((λ i. forth w (in_cases i)), (λ h. back w (below_split w v h.0 (which w v)) h.1));
  count = let e = told.count in omega (arith, e);
}
  where
    forth : (w : ℕ) → (w ≡ v) ⊎ IsIn w told.list → (w < v + 1) × (IsComplete tasks w → ⊥)
    forth w (inl e) = (omega (arith, e), λ c. left (subst (IsComplete tasks) e c))
    forth w (inr i) = let h = (told.exact w).0 i in let l = h.0 in (omega (arith, l), h.1)

    back : (w : ℕ) → (w ≡ v) ⊎ (w < v) → (IsComplete tasks w → ⊥) → IsIn w (v ∷ told.list)
    back w (inl e) c = subst (λ (x : ℕ). IsIn x (v ∷ told.list)) (sym e) here
    back w (inr l) c = there ((told.exact w).1 (l, c))
