-- A replay has a reply: each line of a schedule is read or is wrong, and its moves are made one after the other, or one is the first that is not enabled.
-- Whether a move is enabled, whether one is left and which tasks are complete can be found out.
use Rattle.std.proofs.Common.{◌≡◌, ℕ, zero, suc, ◌+◌, ◌<◌, ◌⊎◌, inl, inr, refl, sym, subst, ap, ◌∙◌, arith, List, [], ◌∷◌, length, reverse, true, false, None}
use Rattle.std.proofs.lemmas.List.{reverse-reverse}
use Rattle.oss_syntax.specs.declared.access.Op.{Op}
use Rattle.oss_syntax.specs.declared.access.Op.TheVariants.{Add, And, Or, Xor}
use Rattle.oss_syntax.specs.declared.access.Mode.TheVariants.{Fold}
use Rattle.oss_model.specs.Answers.{IsStopped}
use Rattle.oss_model.specs.Bodies.{Program as Asks}
use Rattle.oss_model.specs.Machine.{Task, State, At, find, IsComplete}
use Rattle.oss_model.specs.Moves.{CanJoin, CanLet, CanStep, a_join, a_let, a_step}
use Rattle.oss_model.specs.Order.{IsBefore, IsIn, here, there, written}
use Rattle.oss_model.proofs.OrderLemmas.{Compared, after, before, before_trans, compare, equal}
use Rattle.oss_model.proofs.SortLemmas.{reverse_same}
use Rattle.oss_model.proofs.TreeLemmas.{at_same, path_found}
use Rattle.oss_wave_laws.proofs.DecideLemmas.{Decided, all_tasks, below, both, by_iff, can_join, can_let, can_step, cell_below, for_all, if_not, is_complete, is_there, most_cells, not_there}
use Rattle.oss_wave_laws.proofs.GatherLemmas.{Gathered, Sorted, gather, never_both}
use Rattle.oss_wave_laws.proofs.SameLemmas.{same_itself}
use Rattle.oss_wave_laws.proofs.SumLemmas.{in_cases, in_none, listed}
use Rattle.oss_core.specs.Stops.{AreApart, HasUnfinished, IsUnfinished}
use Rattle.oss_core.proofs.StopLemmas.{join_made, let_made, step_made}
use Rattle.oss_sched.specs.Reading.{told_in}
use Rattle.oss_sched.specs.Schedules.{IsFirstWrong, IsSchedule}
use Rattle.oss_sched.specs.Schedules.IsFirstWrong.{here as wrong_here, later}
use Rattle.oss_sched.specs.Schedules.IsSchedule.{asked, over, remark}
use Rattle.oss_sched.specs.declared.moves.TextMove.{TextMove}
use Rattle.oss_sched.specs.declared.moves.TextMove.TheVariants.{Join, Let, Step}
use Rattle.oss_sched.specs.declared.told.Told.{Told}
use Rattle.oss_sched.specs.declared.told.Told.TheVariants.{Move, Nothing, Wrong}
use Rattle.oss_sched.proofs.MoveLemmas.{line_tells}
use Rattle.oss_replay.specs.Replays.{IsEnabled, IsPartOf, IsStuckAt, Leads, Makes, Plays, makes_more, makes_none, parts_in, plays_more, plays_none, point_in, stuck_here, stuck_later}
use Rattle.oss_replay.proofs.SameLemmas.{makes_one, one_path, part_forth}
use Rattle.oss_syntax.specs.declared.tree.program.Program.{Program}
use Rattle.oss_meaning.specs.Expressions.{TreeScript}
use Rattle.oss_meaning.specs.Meaning.{asks_of}
use Rattle.oss_meaning.specs.Results.{IsOutcomeOf, Outcome}
use Rattle.oss_report.specs.Replays.{not_enabled_line, unfinished_line}
use Rattle.oss_top.specs.Forms.{answer_reply, error_reply}
use Rattle.oss_top.specs.Replays.{IsReplayReply, beginning}
use Rattle.oss_top.specs.Replays.IsReplayReply.{ended, stuck, unfinished}
use Rattle.oss_top.specs.declared.reply.Reply.{Reply}
use Rattle.oss_top.specs.declared.status.Status.TheVariants as status

-- lines are a schedule, or one is the first wrong one
abbrev pub LinesRead : List (List ℕ) → ℕ → Type 0
LinesRead lines number = ((moves : List TextMove) × IsSchedule lines moves) ⊎ ((at : ℕ) × IsFirstWrong number lines at)

pub lines_read : (lines : List (List ℕ)) (number : ℕ) → LinesRead lines number
lines_read [] number = inl ([], over)
lines_read (line ∷ rest) number = go (told_in line) refl (lines_read rest (number + 1))
  where
    go : (told : Told) → told_in line ≡ told → LinesRead rest (number + 1) → LinesRead (line ∷ rest) number
    go Nothing e (inl (moves, more)) = inl (moves, remark (line_tells line Nothing e) more)
    go Nothing e (inr (at, more)) = inr (at, later (inl (line_tells line Nothing e)) more)
    go (Move what) e (inl (moves, more)) = inl (what ∷ moves, asked (line_tells line (Move what) e) more)
    go (Move what) e (inr (at, more)) = inr (at, later (inr (what, line_tells line (Move what) e)) more)
    go Wrong e more = inr (number, wrong_here (line_tells line Wrong e))

-- every operator is one of these
operators : List Op
operators = Add ∷ And ∷ Or ∷ Xor ∷ []

is_operator : (op : Op) → IsIn op operators
unfolding operators
is_operator Add = here
is_operator And = there here
is_operator Or = there (there here)
is_operator Xor = there (there (there here))

module _ {S : Type 0} (P : Asks S) where
  module _ (s : State S) where
    -- the task makes no move
    abbrev IsIdle : Task S → Type 0
    IsIdle t = (CanStep P s t.body.start.path t → ⊥)
        × ((c : ℕ) → c < most_cells P s → (CanLet P s t.body.start.path c t → ⊥) × ((op : Op) → CanJoin P s t.body.start.path c op t → ⊥))

    idle_or_not : (t : Task S) → At s t.body.start.path t → Decided (IsIdle t)
    idle_or_not t h = both (if_not (can_step P s t.body.start.path t h)) (below (λ c. (CanLet P s t.body.start.path c t → ⊥) × ((op : Op) → CanJoin P s t.body.start.path c op t → ⊥)) (most_cells P s) at_cell)
      where
        no_join : (c : ℕ) → Decided ((op : Op) → CanJoin P s t.body.start.path c op t → ⊥)
        no_join c = by_iff (λ f op. f op (is_operator op)) (λ f op i. f op) (for_all (λ op. CanJoin P s t.body.start.path c op t → ⊥) operators (λ op. if_not (can_join P s t.body.start.path c op t h)))

        at_cell : (c : ℕ) → Decided ((CanLet P s t.body.start.path c t → ⊥) × ((op : Op) → CanJoin P s t.body.start.path c op t → ⊥))
        at_cell c = both (if_not (can_let P s t.body.start.path c t h)) (no_join c)

    all_idle_or_not : (ts : List (Task S)) → ((t : Task S) → IsIn t ts → At s t.body.start.path t) → Decided ((t : Task S) → IsIn t ts → IsIdle t)
    all_idle_or_not [] at_ = inl (λ t h. absurd (in_none h))
    all_idle_or_not (u ∷ ts) at_ =
        by_iff (λ k t h. pick k t (in_cases h)) (λ f. (f u here, (λ t h. f t (there h)))) (both (idle_or_not u (at_ u here)) (all_idle_or_not ts (λ t h. at_ t (there h))))
      where
        pick : IsIdle u × ((t : Task S) → IsIn t ts → IsIdle t) → (t : Task S) → (t ≡ u) ⊎ IsIn t ts → IsIdle t
        pick k t (inl e) = subst (λ (x : Task S). IsIdle x) (sym e) k.0
        pick k t (inr h) = k.1 t h

    stopped_where_idle : ((t : Task S) → IsIn t (all_tasks P s) → IsIdle t) → IsStopped P s
    stopped_where_idle f (a_step {p = p} {t = t} can) = (f t ((listed s).all p t can.at_)).0 (subst (λ (q : List ℕ). CanStep P s q t) (sym (path_found s.tasks p t can.at_)) can)
    stopped_where_idle f (a_let {p = p} {c = c} {t = t} can) =
        ((f t ((listed s).all p t can.at_)).1 c (cell_below P s p t c can.mode can.strong can.at_ can.right)).0 (subst (λ (q : List ℕ). CanLet P s q c t) (sym (path_found s.tasks p t can.at_)) can)
    stopped_where_idle f (a_join {p = p} {c = c} {op = op} {t = t} can) =
        ((f t ((listed s).all p t can.at_)).1 c (cell_below P s p t c (Fold op) true can.at_ can.right)).1 op (subst (λ (q : List ℕ). CanJoin P s q c op t) (sym (path_found s.tasks p t can.at_)) can)

    -- no move is left, or not none
    pub stopped_or_not : Decided (IsStopped P s)
    stopped_or_not =
        by_iff stopped_where_idle (λ stop t h. ((λ can. stop (a_step can)), (λ c l. ((λ can. stop (a_let can)), (λ op can. stop (a_join can))))))
        (all_idle_or_not (all_tasks P s) (λ t h. (listed s).only t h))

    abbrev PathBefore : List ℕ → List ℕ → Type 0
    PathBefore p q = IsBefore (reverse p) (reverse q)

    paths_never : (p q : List ℕ) → PathBefore p q → PathBefore q p → ⊥
    paths_never p q h k = never_both (reverse p) (reverse q) h k

    paths_compared : (p q : List ℕ) → IsUnfinished P s p → IsUnfinished P s q → PathBefore p q ⊎ (p ≡ q) ⊎ PathBefore q p
    paths_compared p q u v = go (compare (reverse p) (reverse q))
      where
        go : Compared (reverse p) (reverse q) → PathBefore p q ⊎ (p ≡ q) ⊎ PathBefore q p
        go (before h) = inl h
        go (equal e) = inr (inl (reverse_same p q e))
        go (after h) = inr (inr h)

    unfinished_or_not : (t : Task S) → At s t.body.start.path t → ((p : List ℕ) × IsUnfinished P s p × (p ≡ t.body.start.path)) ⊎ (IsUnfinished P s t.body.start.path → ⊥)
    unfinished_or_not t h = go (is_complete P s t.body.start.path)
      where
        go : Decided (IsComplete P s t.body.start.path) → ((p : List ℕ) × IsUnfinished P s p × (p ≡ t.body.start.path)) ⊎ (IsUnfinished P s t.body.start.path → ⊥)
        go (inl done) = inr (λ u. u.left done)
        go (inr left) = inl (t.body.start.path, record { task = t; at_ = h; left = left }, refl)

    apart : (ps : List (List ℕ)) → Sorted PathBefore paths_never ps → AreApart ps
    apart [] h = tt
    apart (p ∷ ps) h = ((λ i. let b = h.0 p i in paths_never p p b b), apart ps h.1)

    -- so many tasks are not complete
    pub some_unfinished : (n : ℕ) × HasUnfinished P s n
    some_unfinished =
        (length g.list, record { list = g.list; apart = apart g.list g.sorted; exact = λ p. ((λ i. g.only p i), (λ u. of_task p u (g.all u.task ((listed s).all p u.task u.at_)))); count = refl })
      where
        g : Gathered PathBefore paths_never (IsUnfinished P s) paths_compared (λ p q r h k. before_trans h k) (λ (t : Task S). At s t.body.start.path t) (λ (t : Task S). IsUnfinished P s t.body.start.path → ⊥) (λ t p. p ≡ t.body.start.path) unfinished_or_not (all_tasks P s)
        g = gather PathBefore paths_never (IsUnfinished P s) paths_compared (λ p q r h k. before_trans h k) (λ (t : Task S). At s t.body.start.path t) (λ (t : Task S). IsUnfinished P s t.body.start.path → ⊥) (λ t p. p ≡ t.body.start.path) unfinished_or_not (all_tasks P s) (λ t h. (listed s).only t h)

        of_task : (p : List ℕ) (u : IsUnfinished P s p) → ((q : List ℕ) × IsIn q g.list × (q ≡ u.task.body.start.path)) ⊎ (IsUnfinished P s u.task.body.start.path → ⊥) → IsIn p g.list
        of_task p u (inl q) = subst (λ (r : List ℕ). IsIn r g.list) (q.2 ∙ path_found s.tasks p u.task u.at_) q.1
        of_task p u (inr none) = absurd (none (subst (λ (q : List ℕ). IsUnfinished P s q) (sym (path_found s.tasks p u.task u.at_)) u))

    -- a part of a move leads to a state, or to none
    abbrev PartLeads : List ℕ → TextMove → ℕ → Type 0
    PartLeads p move k = ((n : State S) × IsPartOf P p move k s n) ⊎ ((n : State S) → IsPartOf P p move k s n → ⊥)

    -- one of these operators is that of a join that may be made, or none is
    abbrev JoinFound : List ℕ → Task S → ℕ → List Op → Type 0
    JoinFound p t c ops = ((op : Op) × CanJoin P s p c op t) ⊎ ((op : Op) → IsIn op ops → CanJoin P s p c op t → ⊥)

    join_found : (p : List ℕ) (t : Task S) → At s p t → (c : ℕ) (ops : List Op) → JoinFound p t c ops
    join_found p t h c [] = inr (λ op i can. in_none i)
    join_found p t h c (o ∷ ops) = pick (can_join P s p c o t h) (join_found p t h c ops)
      where
        none_of : (CanJoin P s p c o t → ⊥) → ((op : Op) → IsIn op ops → CanJoin P s p c op t → ⊥) → (op : Op) → (op ≡ o) ⊎ IsIn op ops → CanJoin P s p c op t → ⊥
        none_of first_none rest_none op (inl e) can = first_none (subst (λ (q : Op). CanJoin P s p c q t) e can)
        none_of first_none rest_none op (inr i) can = rest_none op i can

        pick : Decided (CanJoin P s p c o t) → JoinFound p t c ops → JoinFound p t c (o ∷ ops)
        pick (inl can) rest = inl (o, can)
        pick (inr none) (inl found) = inl found
        pick (inr none) (inr never) = inr (λ op i can. none_of none never op (in_cases i) can)

    part_of_task : (p : List ℕ) (t : Task S) → At s p t → (move : TextMove) (k : ℕ) → PartLeads p move k
    part_of_task p t h (Step point count) k = go (can_step P s p t h)
      where
        go : Decided (CanStep P s p t) → PartLeads p (Step point count) k
        go (inl can) = let n = step_made P s p t can in inl (n.0, record { task = t; can = can; stepped = n.1 })
        go (inr none) = inr (λ n i. none (subst (λ (u : Task S). CanStep P s p u) (at_same s p i.task t i.can.at_ h) i.can))
    part_of_task p t h (Let point first count) k = go (can_let P s p (first + k) t h)
      where
        go : Decided (CanLet P s p (first + k) t) → PartLeads p (Let point first count) k
        go (inl can) = let n = let_made P s p (first + k) t can in inl (n.0, record { task = t; can = can; let_go = n.1 })
        go (inr none) = inr (λ n i. none (subst (λ (u : Task S). CanLet P s p (first + k) u) (at_same s p i.task t i.can.at_ h) i.can))
    part_of_task p t h (Join point first count) k = go (join_found p t h (first + k) operators)
      where
        go : JoinFound p t (first + k) operators → PartLeads p (Join point first count) k
        go (inl found) = let n = join_made P s p (first + k) found.0 t found.1 in inl (n.0, record { op = found.0; task = t; can = found.1; joined = n.1 })
        go (inr never) = inr (λ n i. never i.op (is_operator i.op) (subst (λ (u : Task S). CanJoin P s p (first + k) i.op u) (at_same s p i.task t i.can.at_ h) i.can))

    no_task : (p : List ℕ) → find s.tasks p ≡ None → (move : TextMove) (k : ℕ) (n : State S) → IsPartOf P p move k s n → ⊥
    no_task p e (Step point count) k n i = not_there P s p i.task e i.can.at_
    no_task p e (Let point first count) k n i = not_there P s p i.task e i.can.at_
    no_task p e (Join point first count) k n i = not_there P s p i.task e i.can.at_

    part_leads : (p : List ℕ) (move : TextMove) (k : ℕ) → PartLeads p move k
    part_leads p move k = go (is_there P s p)
      where
        go : ((t : Task S) × At s p t) ⊎ (find s.tasks p ≡ None) → PartLeads p move k
        go (inl t) = part_of_task p t.0 t.1 move k
        go (inr e) = inr (λ n i. no_task p e move k n i)

  -- so do the first parts of it
  abbrev PartsLead : State S → List ℕ → TextMove → ℕ → Type 0
  PartsLead s p move k = ((n : State S) × Makes P p move s k n) ⊎ ((n : State S) → Makes P p move s k n → ⊥)

  parts_lead : (s : State S) (p : List ℕ) (move : TextMove) (k : ℕ) → PartsLead s p move k
  parts_lead s p move zero = inl (s, makes_none)
  parts_lead s p move (suc k) = go (parts_lead s p move k)
    where
      stuck_behind : (a : State S) → Makes P p move s k a → ((n : State S) → IsPartOf P p move k a n → ⊥) → (n : State S) → Makes P p move s (suc k) n → ⊥
      stuck_behind a r none n (makes_more {a = b} q i) = none n (part_forth P (makes_one P (same_itself s) p move k q r) p move k n i)

      never_before : ((a : State S) → Makes P p move s k a → ⊥) → (n : State S) → Makes P p move s (suc k) n → ⊥
      never_before never n (makes_more {a = b} q i) = never b q

      by_part : (a : State S) → Makes P p move s k a → PartLeads a p move k → PartsLead s p move (suc k)
      by_part a r (inl (n, i)) = inl (n, makes_more r i)
      by_part a r (inr none) = inr (stuck_behind a r none)

      go : PartsLead s p move k → PartsLead s p move (suc k)
      go (inl (a, r)) = by_part a r (part_leads a p move k)
      go (inr never) = inr (never_before never)

  -- a move leads to a state, or is not enabled
  abbrev MoveLeads : State S → TextMove → Type 0
  MoveLeads s move = ((n : State S) × Leads P move s n) ⊎ (IsEnabled P move s → ⊥)

  move_leads : (s : State S) (move : TextMove) → MoveLeads s move
  move_leads s move = by_point (point_in move) refl
    where
      heads : (a b : ℕ) (xs ys : List ℕ) → a ∷ xs ≡ b ∷ ys → a ≡ b
      heads a b xs ys e = cc

      no_head : (a : ℕ) (xs : List ℕ) → a ∷ xs ≡ [] → ⊥
      no_head a xs e = cc

      at_path : (p : List ℕ) → written p ≡ point_in move → ((t : Task S) × At s p t) ⊎ (find s.tasks p ≡ None) → PartsLead s p move (parts_in move) → MoveLeads s move
      at_path p e (inl t) (inl (n, m)) = inl (n, record { path = p; point = e; task = t.0; at_ = t.1; makes = m })
      at_path p e (inl t) (inr never) = inr (λ l. never l.0 (subst (λ (q : List ℕ). Makes P q move s (parts_in move) l.0) (one_path l.1.path p (l.1.point ∙ sym e)) l.1.makes))
      at_path p e (inr gone) parts = inr (λ l. not_there P s p l.1.task gone (subst (λ (q : List ℕ). At s q l.1.task) (one_path l.1.path p (l.1.point ∙ sym e)) l.1.at_))

      by_point : (point : List ℕ) → point_in move ≡ point → MoveLeads s move
      by_point [] e = inr (λ l. no_head 0 (reverse l.1.path) (l.1.point ∙ e))
      by_point (zero ∷ rest) e =
          let is : written (reverse rest) ≡ point_in move = ap (λ (xs : List ℕ). 0 ∷ xs) (reverse-reverse rest) ∙ sym e in
          at_path (reverse rest) is (is_there P s (reverse rest)) (parts_lead s (reverse rest) move (parts_in move))
      by_point (suc k ∷ rest) e = inr (λ l. let h : 0 ≡ suc k = heads 0 (suc k) (reverse l.1.path) rest (l.1.point ∙ e) in omega (arith, h))

  -- all moves are made, or one is the first that is not enabled
  abbrev MovesLead : State S → ℕ → List TextMove → Type 0
  MovesLead s number list = ((n : State S) × Plays P s list n) ⊎ ((at : ℕ) × IsStuckAt P s number list at)

  pub moves_lead : (list : List TextMove) (s : State S) (number : ℕ) → MovesLead s number list
  moves_lead [] s number = inl (s, plays_none)
  moves_lead (move ∷ rest) s number = go (move_leads s move) (λ m. moves_lead rest m (number + 1))
    where
      behind : (m : State S) → Leads P move s m → MovesLead m (number + 1) rest → MovesLead s number (move ∷ rest)
      behind m l (inl (n, r)) = inl (n, plays_more l r)
      behind m l (inr (at, k)) = inr (at, stuck_later l k)

      go : MoveLeads s move → ((m : State S) → MovesLead m (number + 1) rest) → MovesLead s number (move ∷ rest)
      go (inl (m, l)) f = behind m l (f m)
      go (inr never) f = inr (number, stuck_here never)

-- so moves have a reply
pub replay_reply : (p : Program) (fuel : ℕ) → (o : Outcome) × IsOutcomeOf p.items fuel o → (list : List TextMove) → (reply : Reply) × IsReplayReply p fuel list reply
replay_reply p fuel run list = go (moves_lead (asks_of p.items) list (beginning p fuel) 1)
  where
    at_end : (n : State TreeScript) → Plays (asks_of p.items) (beginning p fuel) list n → Decided (IsStopped (asks_of p.items) n) → (k : ℕ) × HasUnfinished (asks_of p.items) n k → (reply : Reply) × IsReplayReply p fuel list reply
    at_end n r (inl stop) left = (answer_reply false p run.0.answer, ended n run.0 r stop run.1 refl)
    at_end n r (inr moving) left = (error_reply status.NotReplayed (unfinished_line left.0), unfinished n left.0 r moving left.1 refl)

    go : MovesLead (asks_of p.items) (beginning p fuel) 1 list → (reply : Reply) × IsReplayReply p fuel list reply
    go (inl (n, r)) = at_end n r (stopped_or_not (asks_of p.items) n) (some_unfinished (asks_of p.items) n)
    go (inr (at, k)) = (error_reply status.NotReplayed (not_enabled_line at), stuck at k refl)
