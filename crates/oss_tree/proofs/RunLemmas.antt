-- The laws of a tree that keeps the tasks and prints of a state.
use Rattle.std.proofs.Common.{◌≡◌, ℕ, ◌<◌, ◌≤◌, ◌+◌, ◌⊎◌, inl, inr, refl, sym, ap, subst, ◌∙◌, Bool, true, false, List, [], ◌∷◌, ◌++◌, length, map, reverse, arith, append_assoc, Option, Some, None}
use Rattle.std.specs.Prelude.{slice_get, cond}
use Rattle.std.specs.List.{filter}
use Rattle.std.proofs.lemmas.Option.{slice_get_within}
use Rattle.oss_model.specs.Order.{IsBefore, less, same, IsEarlierKey, IsIn, here, there, written}
use Rattle.oss_model.specs.Bodies.{Program, stage_act}
use Rattle.oss_model.specs.Machine as machine
use Rattle.oss_model.specs.Machine.{State, At, Owes}
use Rattle.oss_model.specs.Moves as moves
use Rattle.oss_model.specs.Moves.{is_ended, key_now, IsLeast}
use Rattle.oss_model.specs.Memory.{Event, IsEarlierEvent, IsSorted, key_at}
use Rattle.oss_model.specs.Answers as answers
use Rattle.oss_model.specs.Answers.{DonePrint, IsFinished, IsNotPast, text_of}
use Rattle.oss_model.proofs.OrderLemmas.{before_not, before_trans, reverse_cons}
use Rattle.oss_model.proofs.OutputLemmas.{print_key}
use Rattle.oss_model.proofs.SortLemmas.{reverse_same}
use Rattle.oss_tree.specs.declared.output.Print.{Print}
use Rattle.oss_tree.specs.declared.task.Task.{Task}
use Rattle.oss_tree.specs.Tasks.{AreComplete, IsClosed, IsComplete, IsTree, complete, key_of, number}
use Rattle.oss_tree.specs.Output.{IsOutput, is_at, is_up_to, texts, up_to}
use Rattle.oss_tree.specs.Runs.{CompleteIsComplete, CompleteIsFinished, IsTaskOf, KeepsTasks, LeastIsLeast, OutputBeforeIsOutput, OutputIsOutput, Precedes, first, later, print_of}
use Rattle.oss_tree.proofs.ListLemmas.{some_is}
use Rattle.oss_tree.proofs.TreeLemmas.{on_way, one_point}
use Rattle.oss_tree.proofs.OutputLemmas.{filter_map, up_to_is, up_to_when}
use Rattle.oss_tree.proofs.SortLemmas.{AreOrdered, Earlier, lifted}

-- points as they are written

one_path : (p q : List ℕ) → written p ≡ written q → p ≡ q
one_path p q e = reverse_same p q (tail e)
  where
    tail : {xs ys : List ℕ} → 0 ∷ xs ≡ 0 ∷ ys → xs ≡ ys
    tail f = cc

child_path : (k : ℕ) (p : List ℕ) → written (k ∷ p) ≡ written p ++ k ∷ []
child_path k p = ap (λ (z : List ℕ). 0 ∷ z) (reverse_cons k p)

unwritten : (p q : List ℕ) → IsBefore (written p) (written q) → IsBefore (reverse p) (reverse q)
unwritten p q h = inside h refl
  where
    inside : {x y : ℕ} {xs ys : List ℕ} → IsBefore (x ∷ xs) (y ∷ ys) → x ≡ y → IsBefore xs ys
    inside (less l) e = absurd (omega (arith, l, e))
    inside (same g) e = g

-- complete tasks

module _ {S : Type 0} (P : Program S) (s : State S) (tasks : List Task) (k : KeepsTasks P s tasks) where
  -- the task of the state with the path of a child is that child
  record ChildOf (one : Task) (path : List ℕ) (j c : ℕ) : Type 0 where
    child : Task
    at_ : slice_get tasks c ≡ Some child
    task : machine.Task S
    is : IsTaskOf P s child (j ∷ path) task

  child_task : (t : ℕ) (one : Task) (path : List ℕ) (j c : ℕ) → slice_get tasks t ≡ Some one → one.point ≡ written path → slice_get one.children j ≡ Some (number c) → ChildOf one path j c
  child_task t one path j c e p f =
      let h = k.tree.children t one e j c f in
      let r = k.there c h.task h.at_ in
      let same_path : r.0 ≡ j ∷ path = one_path r.0 (j ∷ path) (sym r.2.point ∙ h.point ∙ ap (λ (z : List ℕ). z ++ j ∷ []) p ∙ sym (child_path j path)) in
      record { child = h.task; at_ = h.at_; task = r.1; is = subst (λ (z : List ℕ). IsTaskOf P s h.task z r.1) same_path r.2 }

  child_number : (t : ℕ) (one : Task) (path : List ℕ) (j : ℕ) (u : machine.Task S) → slice_get tasks t ≡ Some one → one.point ≡ written path → At s (j ∷ path) u → (c : ℕ) × (slice_get one.children j ≡ Some (number c))
  child_number t one path j u e p a =
      let b = k.back (j ∷ path) u a in
      on_way k.tree (b.0 + 1) b.0 b.1.task t one j [] (omega arith) b.1.at_ e (b.1.point ∙ child_path j path ∙ ap (λ (z : List ℕ). z ++ j ∷ []) (sym p))

  sound : {t : ℕ} → IsComplete tasks t → (one : Task) (path : List ℕ) (task : machine.Task S) → slice_get tasks t ≡ Some one → IsTaskOf P s one path task → machine.IsComplete P s path
  sound (complete {t = t} other e closed each) one path task f is =
      let o : other ≡ one = some_is e f in
      let c = subst IsClosed o closed in
      machine.complete is.at_ (is.ended.0 c.0) (is.gave_all.0 c.1)
      (λ j u a. let n = child_number t one path j u f is.point a in
      let x = child_task t one path j n.0 f is.point n.1 in
      sound (each j n.0 (ap (λ (z : Task). slice_get z.children j) o ∙ n.1)) x.child (j ∷ path) x.task x.at_ x.is)

  told : {path : List ℕ} → machine.IsComplete P s path → (t : ℕ) (one : Task) (task : machine.Task S) → slice_get tasks t ≡ Some one → IsTaskOf P s one path task → IsComplete tasks t
  told (machine.complete {p = path} {t = u} a ended given each) t one task f is =
      let o : u ≡ task = some_is a is.at_ in
      complete one f (is.ended.1 (ap (λ (z : machine.Task S). is_ended P z.body) (sym o) ∙ ended), is.gave_all.1 (subst (λ (z : machine.Task S). (c : ℕ) → Owes path z.body.start.context c → IsIn c z.given) o given))
      (λ j c g. let x = child_task t one path j c f is.point g in told (each j x.task x.is.at_) c x.child x.task x.at_ x.is)

  -- the task of the tree with the path of one of the state
  record Kept (path : List ℕ) (task : machine.Task S) : Type 0 where
    t : ℕ
    one : Task
    at_ : slice_get tasks t ≡ Some one
    is : IsTaskOf P s one path task

  kept : (path : List ℕ) (task : machine.Task S) → At s path task → Kept path task
  kept path task a =
      let b = k.back path task a in
      let r = k.there b.0 b.1.task b.1.at_ in
      let same_path : r.0 ≡ path = one_path r.0 path (sym r.2.point ∙ b.1.point) in
      let is_ : IsTaskOf P s b.1.task path r.1 = subst (λ (z : List ℕ). IsTaskOf P s b.1.task z r.1) same_path r.2 in
      let same_task : r.1 ≡ task = some_is is_.at_ a in
      record { t = b.0; one = b.1.task; at_ = b.1.at_; is = subst (λ (z : machine.Task S). IsTaskOf P s b.1.task path z) same_task is_ }

  all_sound : AreComplete tasks → IsFinished P s
  all_sound h path task a = let x = kept path task a in sound (h x.t x.one x.at_) x.one path task x.at_ x.is

  all_told : IsFinished P s → AreComplete tasks
  all_told h t one e = let r = k.there t one e in told (h r.0 r.1 r.2.at_) t one r.1 e r.2

pub complete_law : (S : Type 0) → CompleteIsComplete S
complete_law S P s tasks t one path task k e is = (λ h. sound P s tasks k h one path task e is, λ h. told P s tasks k h t one task e is)

pub finished_law : (S : Type 0) → CompleteIsFinished S
finished_law S P s tasks k = (all_sound P s tasks k, all_told P s tasks k)

-- keys of different tasks

-- how two lists lie
data Sides (p q : List ℕ) : Type 0 where
  left : ((a b : List ℕ) → IsBefore (p ++ a) (q ++ b)) → Sides p q
  right : ((a b : List ℕ) → IsBefore (q ++ a) (p ++ b)) → Sides p q
  down : (i : ℕ) (r : List ℕ) → q ≡ p ++ i ∷ r → Sides p q
  up : (i : ℕ) (r : List ℕ) → p ≡ q ++ i ∷ r → Sides p q
  equal : p ≡ q → Sides p q

sides : (p q : List ℕ) → Sides p q
sides [] [] = equal refl
sides [] (y ∷ q) = down y q refl
sides (x ∷ p) [] = up x p refl
sides (x ∷ p) (y ∷ q) = go (cases x y) (sides p q)
  where
    cases : (x y : ℕ) → (x ≡ y) ⊎ (x < y) ⊎ (y < x)
    cases x y = grind arith

    onto : Sides p q → Sides (x ∷ p) (x ∷ q)
    onto (left f) = left (λ a b. same (f a b))
    onto (right f) = right (λ a b. same (f a b))
    onto (down i r e) = down i r (ap (λ (z : List ℕ). x ∷ z) e)
    onto (up i r e) = up i r (ap (λ (z : List ℕ). x ∷ z) e)
    onto (equal e) = equal (ap (λ (z : List ℕ). x ∷ z) e)

    go : (x ≡ y) ⊎ (x < y) ⊎ (y < x) → Sides p q → Sides (x ∷ p) (y ∷ q)
    go (inl e) w = subst (λ (z : ℕ). Sides (x ∷ p) (z ∷ q)) e (onto w)
    go (inr (inl l)) w = left (λ a b. less l)
    go (inr (inr l)) w = right (λ a b. less l)

in_front : (xs ys zs : List ℕ) → IsBefore ys zs → IsBefore (xs ++ ys) (xs ++ zs)
in_front [] ys zs h = h
in_front (x ∷ xs) ys zs h = same (in_front xs ys zs h)

-- what stands below a child is before what the creator does behind it
below_before : (p q : List ℕ) (i j : ℕ) (r a b : List ℕ) → q ≡ p ++ i ∷ r → i < j → IsBefore (q ++ a) (p ++ j ∷ b)
below_before p q i j r a b e l = subst (λ (z : List ℕ). IsBefore z (p ++ j ∷ b)) (sym (ap (λ (z : List ℕ). z ++ a) e ∙ append_assoc p (i ∷ r) a)) (in_front p (i ∷ (r ++ a)) (j ∷ b) (less l))

key_order : (tasks : List Task) (tree : IsTree tasks) (v t : ℕ) (other own : Task) (i j : ℕ) (a b : List ℕ) → slice_get tasks v ≡ Some other → slice_get tasks t ≡ Some own → (v ≡ t → ⊥) → length other.children ≤ i → length own.children ≤ j
    → IsBefore (other.point ++ i ∷ a) (own.point ++ j ∷ b) → IsBefore (key_of other) (key_of own)
key_order tasks tree v t other own i j a b e f ne l m h = go (sides other.point own.point)
  where
    not_both : IsBefore (own.point ++ j ∷ b) (other.point ++ i ∷ a) → ⊥
    not_both g = before_not (before_trans h g) refl

    go : Sides other.point own.point → IsBefore (key_of other) (key_of own)
    go (left g) = g (length other.children ∷ []) (length own.children ∷ [])
    go (right g) = absurd (not_both (g (j ∷ b) (i ∷ a)))
    go (down x r q) =
        let way = on_way tree (t + 1) t own v other x r (omega arith) f e q in
        let w = slice_get_within other.children x (number way.0) way.1 in
        absurd (not_both (below_before other.point own.point x i r (j ∷ b) a q (omega (arith, w, l))))
    go (up x r q) =
        let way = on_way tree (v + 1) v other t own x r (omega arith) e f q in
        let w = slice_get_within own.children x (number way.0) way.1 in
        below_before own.point other.point x (length own.children) r (length other.children ∷ []) [] q w
    go (equal q) = absurd (ne (one_point tree v t other own e f q))

pub least_law : (S : Type 0) → LeastIsLeast S
least_law S P s tasks t one k stands least e =
    let r = k.there t one e in
    let o : least.task ≡ one = some_is least.at_ e in
    record {
      path = r.0;
      task = r.1;
      is = r.2;
      open_ = λ c. least.open_ (subst IsClosed (sym o) (r.2.ended.1 c.ended, r.2.gave_all.1 c.given));
      least = λ q u a h. closed r.0 r.1 r.2 o q u a h;
    }
  where
    closed : (path : List ℕ) (task : machine.Task S) → IsTaskOf P s one path task → least.task ≡ one → (q : List ℕ) (u : machine.Task S) → At s q u → IsEarlierKey (key_now P u.body) (key_now P task.body) → moves.IsClosed P q u
    closed path task is o q u a h =
        let x = kept P s tasks k q u a in
        let own = stands t one path task e is in
        let others = stands x.t x.one q u x.at_ x.is in
        let ahead : IsBefore (x.one.point ++ others.number ∷ others.more) (one.point ++ own.number ∷ own.more) = subst (λ (z : List ℕ). IsBefore z (one.point ++ own.number ∷ own.more)) others.is (subst (λ (z : List ℕ). IsBefore (written (key_now P u.body)) z) own.is (same h)) in
        let apart : x.t ≡ t → ⊥ = λ (w : x.t ≡ t).
        let same_one : x.one ≡ one = some_is x.at_ (ap (slice_get tasks) w ∙ e) in
        let same_path : q ≡ path = one_path q path (sym x.is.point ∙ ap (λ (z : Task). z.point) same_one ∙ is.point) in
        let same_task : u ≡ task = some_is a (subst (λ (z : List ℕ). At s z task) (sym same_path) is.at_) in
        before_not h (ap (λ (z : machine.Task S). reverse (key_now P z.body)) same_task) in
        let c = least.least x.t x.one x.at_ (subst (λ (z : Task). IsBefore (key_of x.one) (key_of z)) (sym o) (key_order tasks k.tree x.t t x.one one others.number own.number others.more own.more x.at_ e apart others.behind own.behind ahead)) in
        record { ended = x.is.ended.0 c.0; given = x.is.gave_all.0 c.1 }

-- output

module _ {S : Type 0} (P : Program S) (s : State S) where
  same_texts : (es : List (Event S)) → texts (map (print_of P) es) ≡ answers.texts P es
  same_texts [] = refl
  same_texts (e ∷ es) = ap (λ (z : List ℕ). text_of (stage_act P e.start e.past) ++ z) (same_texts es)

  sorted_events : (done es : List (Event S)) → ((e g : Event S) → Precedes e g done → key_at P e ≡ key_at P g → length e.past < length g.past) → AreOrdered (print_of P) done es → IsSorted P es
  sorted_events done [] turn h = tt
  sorted_events done (e ∷ es) turn h = (λ g i. go g (h.0 g i), sorted_events done es turn h.1)
    where
      go : (g : Event S) → Earlier (print_of P) done e g → IsEarlierEvent P e g
      go g (inl b) = inl (unwritten (key_at P e) (key_at P g) b)
      go g (inr (q, p)) = let k = one_path (key_at P e) (key_at P g) q in inr (k, turn e g p k)

  output_of : (bound : Option (List ℕ)) (done : List (Event S)) (prints : List Print) (text : List ℕ) → prints ≡ map (print_of P) done → ((e : Event S) → IsIn e done → DonePrint P s bound e) → ((e : Event S) → DonePrint P s bound e → IsIn e done)
      → ((e g : Event S) → Precedes e g done → key_at P e ≡ key_at P g → length e.past < length g.past) → IsOutput prints text → answers.IsOutput P s bound text
  output_of bound done prints text are only all turn o =
      let l = lifted (print_of P) o.shown done o.ordered.rises (λ p. o.ordered.same p ∙ ap (filter (is_at p)) are) in
      record {
        list = l.list;
        sorted = sorted_events done l.list turn l.ordered;
        only = λ e i. only e (l.only e i);
        all = λ e d. l.all e (all e d);
        output_is = o.output_is ∙ ap texts (sym l.is) ∙ same_texts l.list;
      }

  -- a print up to a key

  key_is : {bound : Option (List ℕ)} (e : Event S) (d : DonePrint P s bound e) → d.key ≡ key_at P e
  key_is e d = print_key P e.start e.past d.key d.text d.prints

  none_bound : (last : List ℕ) (e : Event S) → DonePrint P s (Some last) e → DonePrint P s None e
  none_bound last e d = record { key = d.key; text = d.text; prints = d.prints; within = tt; happened = d.happened }

  passes_bound : (last : List ℕ) (e : Event S) → DonePrint P s (Some last) e → is_up_to (written last) (print_of P e) ≡ true
  passes_bound last e d = up_to_when (written last) (print_of P e) (λ b. d.within (subst (IsEarlierKey last) (sym (key_is e d)) (unwritten last (key_at P e) b)))

  within_bound : (last : List ℕ) (e : Event S) → DonePrint P s None e → is_up_to (written last) (print_of P e) ≡ true → DonePrint P s (Some last) e
  within_bound last e d t = record {
    key = d.key;
    text = d.text;
    prints = d.prints;
    within = λ b. up_to_is (written last) (print_of P e) t (same (subst (IsEarlierKey last) (key_is e d) b));
    happened = d.happened;
  }

-- what a test keeps of a list

module _ {A : Type 0} (f : A → Bool) where
  abbrev keeps : List A → List A
  keeps xs = filter f xs

  kept_in : (x : A) (xs : List A) → IsIn x (keeps xs) → IsIn x xs × (f x ≡ true)
  kept_in x [] i = elim i [ ]
  kept_in x (y ∷ xs) i = go (f y) refl (λ j. kept_in x xs j) i
    where
      tail : IsIn x xs × (f x ≡ true) → IsIn x (y ∷ xs) × (f x ≡ true)
      tail k = (there k.0, k.1)

      front : {z : A} {zs : List A} → f z ≡ true → IsIn x (z ∷ zs) → (IsIn x zs → IsIn x xs × (f x ≡ true)) → z ≡ y → IsIn x (y ∷ xs) × (f x ≡ true)
      front e here rest g = (subst (λ (w : A). IsIn x (w ∷ xs)) g here, e)
      front e (there j) rest g = tail (rest j)

      go : (b : Bool) → f y ≡ b → (IsIn x (keeps xs) → IsIn x xs × (f x ≡ true)) → IsIn x (cond b (y ∷ keeps xs) (keeps xs)) → IsIn x (y ∷ xs) × (f x ≡ true)
      go true e rest j = front e j rest refl
      go false e rest j = tail (rest j)

  in_kept : (x : A) (xs : List A) → IsIn x xs → f x ≡ true → IsIn x (keeps xs)
  in_kept x [] i e = elim i [ ]
  in_kept x (y ∷ xs) here e = subst (λ (b : Bool). IsIn x (cond b (x ∷ keeps xs) (keeps xs))) (sym e) here
  in_kept x (y ∷ xs) (there i) e = go (f y) (in_kept x xs i e)
    where
      go : (b : Bool) → IsIn x (keeps xs) → IsIn x (cond b (y ∷ keeps xs) (keeps xs))
      go true j = there j
      go false j = j

  kept_precedes : (x z : A) (xs : List A) → Precedes x z (keeps xs) → Precedes x z xs
  kept_precedes x z [] h = elim h [ ]
  kept_precedes x z (y ∷ xs) h = go (f y) (λ g. kept_precedes x z xs g) h
    where
      front : {w : A} {ws : List A} → Precedes x z (w ∷ ws) → (IsIn z ws → IsIn z xs) → (Precedes x z ws → Precedes x z xs) → Precedes x z (w ∷ xs)
      front (first i) member rest = first (member i)
      front (later g) member rest = later (rest g)

      go : (b : Bool) → (Precedes x z (keeps xs) → Precedes x z xs) → Precedes x z (cond b (y ∷ keeps xs) (keeps xs)) → Precedes x z (y ∷ xs)
      go true rest g = front g (λ i. (kept_in z xs i).0) rest
      go false rest g = later (rest g)

pub output_law : (S : Type 0) → OutputIsOutput S
output_law S P s done prints text k o = output_of P s None done prints text k.prints_are k.only k.all k.in_turn o

pub output_before_law : (S : Type 0) → OutputBeforeIsOutput S
output_before_law S P s done prints last text k o =
    output_of P s (Some last) (keeps test done) (up_to (written last) prints) text
    (ap (up_to (written last)) k.prints_are ∙ filter_map (print_of P) (is_up_to (written last)) done)
    (λ e i. let j = kept_in test e done i in within_bound P s last e (k.only e j.0) j.1)
    (λ e d. in_kept test e done (k.all e (none_bound P s last e d)) (passes_bound P s last e d))
    (λ e g h. k.in_turn e g (kept_precedes test e g done h))
    o
  where
    test : Event S → Bool
    test e = is_up_to (written last) (print_of P e)
