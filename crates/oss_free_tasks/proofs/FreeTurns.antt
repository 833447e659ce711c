-- What each deed of the first open task leads to.
use Rattle.std.proofs.Common.{◌≡◌, ℕ, refl, sym, subst, ap, ◌∙◌, List, ◌∷◌, true, false}
use Rattle.oss_model.specs.Bodies.{Act, Ask, Frame, IsHalt, Order, Program, Start, after_creation, ask_of, child_frame, frame_after, including_frame, past_ask, past_silent, settled_frame}
use Rattle.oss_model.specs.Bodies.Act.{Awaited, Created, Ended, Ticked}
use Rattle.oss_model.specs.Moves.{act_now, found_by}
use Rattle.oss_model.specs.Sequence.{IsAtEnd, direct_cells}
use Rattle.oss_model.proofs.TerminationTheorem.{not_halting}
use Rattle.oss_freed.specs.Freed.{freed, freed_ask}
use Rattle.oss_free_tasks.specs.Deeds.{IsFinding, cells_behind}
use Rattle.oss_free_tasks.specs.OpenTasks.{Goes, Leads, Stands, behind, behind_end, whole_task}
use Rattle.oss_free_tasks.proofs.OpenLemmas.{behind_plain, leads}

-- asks that are no acts are those of the program itself
past_freed : {S : Type 0} (P : Program S) (n : ℕ) (f : Frame S) (q : Ask S) → past_ask (freed n P) f (freed_ask n q) ≡ past_ask P f q
past_freed P n f Ask.Begin = refl
past_freed P n f Ask.Tick = refl
past_freed P n f (Ask.Read c) = refl
past_freed P n f (Ask.Write c v) = refl
past_freed P n f (Ask.Fold c op v) = refl
past_freed P n f (Ask.Create o) = refl
past_freed P n f Ask.Await = refl
past_freed P n f Ask.Wait = refl
past_freed P n f (Ask.WaitOn named) = refl
past_freed P n f (Ask.Release clauses) = refl
past_freed P n f (Ask.Print text) = refl
past_freed P n f Ask.End = refl
past_freed P n f (Ask.Fails kind) = refl

pub settled_freed : {S : Type 0} (P : Program S) (n : ℕ) (f : Frame S) → settled_frame (freed n P) f ≡ settled_frame P f
settled_freed P n f =
    past_freed P n (past_silent (freed n P) f) (ask_of P (past_silent (freed n P) f)).ask
    ∙ ap (past_silent P) (past_freed P n f (ask_of P f).ask)

module _ {S : Type 0} (P : Program S) (main : Start S) (first : List ℕ) (f : Frame S) (older : List (Frame S)) (cells : List ℕ) (s : Stands P main first (f ∷ older) cells) where
  -- the act is this one
  pub led : (a : Act S) → act_now P s.body ≡ a → (IsHalt a → ⊥) → Leads P main first s.stage (f ∷ older) (behind P a (found_by a cells) (f ∷ older)) (direct_cells a cells)
  led a e g =
      subst (λ (x : Act S). Leads P main first s.stage (f ∷ older) (behind P x (found_by x cells) (f ∷ older)) (direct_cells x cells)) e
      (leads P main first (f ∷ older) cells s (not_halting e g))

  pub led_tick : act_now P s.body ≡ Ticked → Goes P main first s.stage (f ∷ older) (settled_frame P (frame_after Ticked 0 f) ∷ older) cells
  led_tick e = led Ticked e (λ h. h)

  pub led_await : act_now P s.body ≡ Awaited → Goes P main first s.stage (f ∷ older) (settled_frame P (frame_after Awaited 0 f) ∷ older) cells
  led_await e = led Awaited e (λ h. h)

  pub led_end : act_now P s.body ≡ Ended → Leads P main first s.stage (f ∷ older) (behind_end P older) cells
  led_end e = led Ended e (λ h. h)

  pub led_included : (o : Order S) → act_now P s.body ≡ Created o true → Goes P main first s.stage (f ∷ older) (settled_frame P (child_frame f o) ∷ including_frame o f ∷ older) cells
  led_included o e = led (Created o true) e (λ h. h)

  pub led_created : (o : Order S) → act_now P s.body ≡ Created o false → Goes P main first s.stage (f ∷ older) (settled_frame P (child_frame f o) ∷ settled_frame P (after_creation o f) ∷ older) cells
  led_created o e = led (Created o false) e (λ h. h)

  pub led_found : (q : Ask S) (v : ℕ) → IsFinding f (act_now P s.body) q cells v → Goes P main first s.stage (f ∷ older) (settled_frame P (frame_after (act_now P s.body) v f) ∷ older) (cells_behind q cells)
  led_found q v h =
      let b = behind_plain P main first (act_now P s.body) (found_by (act_now P s.body) cells) f older h.stays h.alone in
      let k : behind P (act_now P s.body) (found_by (act_now P s.body) cells) (f ∷ older) ≡ settled_frame P (frame_after (act_now P s.body) v f) ∷ older =
      b ∙ ap (λ (x : ℕ). settled_frame P (frame_after (act_now P s.body) x f) ∷ older) h.found in
      subst (λ (x : List ℕ). Goes P main first s.stage (f ∷ older) (settled_frame P (frame_after (act_now P s.body) v f) ∷ older) x) h.memory
      (subst (λ (ts : List (Frame S)). Leads P main first s.stage (f ∷ older) ts (direct_cells (act_now P s.body) cells)) k (leads P main first (f ∷ older) cells s h.goes))

  pub led_stop : (a : Act S) → act_now P s.body ≡ a → IsHalt a → IsAtEnd P s.stage
  led_stop a e h = record { task = whole_task s.body; at_ = s.at_; stops = subst IsHalt (sym e) h }
