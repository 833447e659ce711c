-- A message that is held has a flag that does not stand yet, so that setting it is a step of the flow; and what is
-- taken first stands strictly before the rest.
use Rattle.std.proofs.Common.{◌≡◌, ◌⊎◌, inl, inr, sym, subst, refl, ℕ, ◌<◌, ◌≤◌, ◌+◌, arith, Bool, true, false, not, ◌&&◌, List, ◌++◌}
use mathlib.Core.Option as maybe
use lib.ListN.{get_elem?}
use Rattle.oss_words.specs.declared.message.Message.{Message}
use Rattle.oss_words.specs.declared.entry.EntryState.{EntryState}
use Rattle.oss_words.specs.declared.entry.EntryInfo.{EntryInfo}
use Rattle.oss_words.specs.Sums.{total}
use Rattle.oss_words.specs.Net.{Net, Place}
use Rattle.oss_words.specs.Causes.{part, got, starts_open, starts_clear, Unset}
use Rattle.oss_words.specs.Members.{Has, only}
use Rattle.oss_words.specs.Room.{Behind}
use Rattle.oss_words.specs.Views.{View}
use Rattle.oss_words.specs.Flow.{Flow, message}
use Rattle.oss_words.proofs.CauseLemmas.{bools, has_left, has_right, has_total, total_has, only_is}
use Rattle.oss_words.proofs.CountLemmas.{held_due, held_new, held_once}
use Rattle.oss_words.proofs.DeliverLemmas.{may_come, target_in, part_has, and_and, and_both}
use Rattle.oss_words.proofs.DeliverLaw.{has_same}

row_done : (p : Place) (e : ℕ) (c : EntryState) → (c.done && c.headed) ≡ true → Has (record { entry = e; flag = 1 }) (got p e c)
row_done p e c b = has_left (record { entry = e; flag = 1 }) (part (c.done && c.headed) e 1) ((part (c.folds && not (starts_open p)) e 2 ++ (part (c.reads && not (starts_open p)) e 3 ++ (part (c.writes && not (starts_open p)) e 4 ++ (part (c.clear && not (starts_clear p)) e 5 ++ part (c.given && c.left) e 0))))) (part_has (c.done && c.headed) e 1 b)

row_folds : (p : Place) (e : ℕ) (c : EntryState) → (c.folds && not (starts_open p)) ≡ true → Has (record { entry = e; flag = 2 }) (got p e c)
row_folds p e c b = has_right (record { entry = e; flag = 2 }) (part (c.done && c.headed) e 1) ((part (c.folds && not (starts_open p)) e 2 ++ (part (c.reads && not (starts_open p)) e 3 ++ (part (c.writes && not (starts_open p)) e 4 ++ (part (c.clear && not (starts_clear p)) e 5 ++ part (c.given && c.left) e 0))))) (has_left (record { entry = e; flag = 2 }) (part (c.folds && not (starts_open p)) e 2) ((part (c.reads && not (starts_open p)) e 3 ++ (part (c.writes && not (starts_open p)) e 4 ++ (part (c.clear && not (starts_clear p)) e 5 ++ part (c.given && c.left) e 0)))) (part_has (c.folds && not (starts_open p)) e 2 b))

row_reads : (p : Place) (e : ℕ) (c : EntryState) → (c.reads && not (starts_open p)) ≡ true → Has (record { entry = e; flag = 3 }) (got p e c)
row_reads p e c b = has_right (record { entry = e; flag = 3 }) (part (c.done && c.headed) e 1) ((part (c.folds && not (starts_open p)) e 2 ++ (part (c.reads && not (starts_open p)) e 3 ++ (part (c.writes && not (starts_open p)) e 4 ++ (part (c.clear && not (starts_clear p)) e 5 ++ part (c.given && c.left) e 0))))) (has_right (record { entry = e; flag = 3 }) (part (c.folds && not (starts_open p)) e 2) ((part (c.reads && not (starts_open p)) e 3 ++ (part (c.writes && not (starts_open p)) e 4 ++ (part (c.clear && not (starts_clear p)) e 5 ++ part (c.given && c.left) e 0)))) (has_left (record { entry = e; flag = 3 }) (part (c.reads && not (starts_open p)) e 3) ((part (c.writes && not (starts_open p)) e 4 ++ (part (c.clear && not (starts_clear p)) e 5 ++ part (c.given && c.left) e 0))) (part_has (c.reads && not (starts_open p)) e 3 b)))

row_writes : (p : Place) (e : ℕ) (c : EntryState) → (c.writes && not (starts_open p)) ≡ true → Has (record { entry = e; flag = 4 }) (got p e c)
row_writes p e c b = has_right (record { entry = e; flag = 4 }) (part (c.done && c.headed) e 1) ((part (c.folds && not (starts_open p)) e 2 ++ (part (c.reads && not (starts_open p)) e 3 ++ (part (c.writes && not (starts_open p)) e 4 ++ (part (c.clear && not (starts_clear p)) e 5 ++ part (c.given && c.left) e 0))))) (has_right (record { entry = e; flag = 4 }) (part (c.folds && not (starts_open p)) e 2) ((part (c.reads && not (starts_open p)) e 3 ++ (part (c.writes && not (starts_open p)) e 4 ++ (part (c.clear && not (starts_clear p)) e 5 ++ part (c.given && c.left) e 0)))) (has_right (record { entry = e; flag = 4 }) (part (c.reads && not (starts_open p)) e 3) ((part (c.writes && not (starts_open p)) e 4 ++ (part (c.clear && not (starts_clear p)) e 5 ++ part (c.given && c.left) e 0))) (has_left (record { entry = e; flag = 4 }) (part (c.writes && not (starts_open p)) e 4) ((part (c.clear && not (starts_clear p)) e 5 ++ part (c.given && c.left) e 0)) (part_has (c.writes && not (starts_open p)) e 4 b))))

row_clear : (p : Place) (e : ℕ) (c : EntryState) → (c.clear && not (starts_clear p)) ≡ true → Has (record { entry = e; flag = 5 }) (got p e c)
row_clear p e c b = has_right (record { entry = e; flag = 5 }) (part (c.done && c.headed) e 1) ((part (c.folds && not (starts_open p)) e 2 ++ (part (c.reads && not (starts_open p)) e 3 ++ (part (c.writes && not (starts_open p)) e 4 ++ (part (c.clear && not (starts_clear p)) e 5 ++ part (c.given && c.left) e 0))))) (has_right (record { entry = e; flag = 5 }) (part (c.folds && not (starts_open p)) e 2) ((part (c.reads && not (starts_open p)) e 3 ++ (part (c.writes && not (starts_open p)) e 4 ++ (part (c.clear && not (starts_clear p)) e 5 ++ part (c.given && c.left) e 0)))) (has_right (record { entry = e; flag = 5 }) (part (c.reads && not (starts_open p)) e 3) ((part (c.writes && not (starts_open p)) e 4 ++ (part (c.clear && not (starts_clear p)) e 5 ++ part (c.given && c.left) e 0))) (has_right (record { entry = e; flag = 5 }) (part (c.writes && not (starts_open p)) e 4) ((part (c.clear && not (starts_clear p)) e 5 ++ part (c.given && c.left) e 0)) (has_left (record { entry = e; flag = 5 }) (part (c.clear && not (starts_clear p)) e 5) (part (c.given && c.left) e 0) (part_has (c.clear && not (starts_clear p)) e 5 b)))))

module _ (n : ℕ) (net : Net) (states : ℕ → EntryState) (infos : ℕ → EntryInfo) (views : List View) (flow : Flow n net states infos views) (id : ℕ) (v : View) (at : get_elem? views id ≡ maybe.some v) where
  -- no row of what came has a message that is held
  fresh_flag : (m : Message) → Has m v.held → (b : Bool) → (b ≡ true → Has m (got (net.place m.entry) m.entry (states m.entry))) → b ≡ false
  fresh_flag m h b f = elim (bools b) [
    | inl q ↦
        let c = held_due n net states infos views flow.words id v at m h in
        absurd (held_new n net states infos views flow.words id v at m h m.entry (target_in n net states infos views flow.words c.0 c.1 m c.2) (f q))
    | inr q ↦ q
  ]

  pub unset_done : (e : ℕ) → Has (record { entry = e; flag = 1 }) v.held → (states e).done ≡ false
  unset_done e h =
      let c = held_due n net states infos views flow.words id v at (record { entry = e; flag = 1 }) h in
      let y = may_come n net states infos views flow.words c.0 c.1 (record { entry = e; flag = 1 }) c.2 in
      fresh_flag (record { entry = e; flag = 1 }) h (states e).done (λ b. row_done (net.place e) e (states e) (and_and (states e).done (states e).headed b (y.0 refl)))

  pub unset_folds : (e : ℕ) → Has (record { entry = e; flag = 2 }) v.held → (states e).folds ≡ false
  unset_folds e h =
      let c = held_due n net states infos views flow.words id v at (record { entry = e; flag = 2 }) h in
      let y = may_come n net states infos views flow.words c.0 c.1 (record { entry = e; flag = 2 }) c.2 in
      fresh_flag (record { entry = e; flag = 2 }) h (states e).folds (λ b. row_folds (net.place e) e (states e) (and_both (states e).folds (starts_open (net.place e)) b (y.1 (omega arith) (omega arith))))

  pub unset_reads : (e : ℕ) → Has (record { entry = e; flag = 3 }) v.held → (states e).reads ≡ false
  unset_reads e h =
      let c = held_due n net states infos views flow.words id v at (record { entry = e; flag = 3 }) h in
      let y = may_come n net states infos views flow.words c.0 c.1 (record { entry = e; flag = 3 }) c.2 in
      fresh_flag (record { entry = e; flag = 3 }) h (states e).reads (λ b. row_reads (net.place e) e (states e) (and_both (states e).reads (starts_open (net.place e)) b (y.1 (omega arith) (omega arith))))

  pub unset_writes : (e : ℕ) → Has (record { entry = e; flag = 4 }) v.held → (states e).writes ≡ false
  unset_writes e h =
      let c = held_due n net states infos views flow.words id v at (record { entry = e; flag = 4 }) h in
      let y = may_come n net states infos views flow.words c.0 c.1 (record { entry = e; flag = 4 }) c.2 in
      fresh_flag (record { entry = e; flag = 4 }) h (states e).writes (λ b. row_writes (net.place e) e (states e) (and_both (states e).writes (starts_open (net.place e)) b (y.1 (omega arith) (omega arith))))

  pub unset_clear : (e : ℕ) → Has (record { entry = e; flag = 5 }) v.held → (states e).clear ≡ false
  unset_clear e h =
      let c = held_due n net states infos views flow.words id v at (record { entry = e; flag = 5 }) h in
      let y = may_come n net states infos views flow.words c.0 c.1 (record { entry = e; flag = 5 }) c.2 in
      fresh_flag (record { entry = e; flag = 5 }) h (states e).clear (λ b. row_clear (net.place e) e (states e) (and_both (states e).clear (starts_clear (net.place e)) b (y.2 refl)))

  pub held_unset : (m : Message) → Has m v.held → Unset (states m.entry) m.flag
  held_unset m h = (λ f. unset_done m.entry (of 1 f), λ f. unset_folds m.entry (of 2 f), λ f. unset_reads m.entry (of 3 f), λ f. unset_writes m.entry (of 4 f), λ f. unset_clear m.entry (of 5 f))
    where
      of : (k : ℕ) → m.flag ≡ k → Has (record { entry = m.entry; flag = k }) v.held
      of k f = subst (λ (x : ℕ). Has (record { entry = m.entry; flag = x }) v.held) f h

  -- of the greatest depth, and there of the least flag: then it stands strictly before the rest
  pub strictly : (m : Message) (rest : List Message) → ((h : Message → ℕ) → total h v.held ≡ h m + total h rest)
      → ((b : Message) → Has b rest → (net.depth b.entry < net.depth m.entry) ⊎ ((net.depth b.entry ≡ net.depth m.entry) × (m.flag ≤ b.flag)))
      → (b : Message) → Has b rest → Behind net m.entry m.flag b
  strictly m rest took first b h = elim (first b h) [
    | inl l ↦ inl l
    | inr q ↦ inr (q.0, less q.0 q.1)
  ]
    where
      less : net.depth b.entry ≡ net.depth m.entry → m.flag ≤ b.flag → m.flag < b.flag
      less e l = elim (which m.flag b.flag l) [
        | inl k ↦ k
        | inr k ↦
            let tm = took (only m) in
            let om = only_is m m refl refl in
            let tb = took (only b) in
            let hb = has_total b rest h in
            let same = (flow.room id v at b m (message (total_has b v.held (omega (arith, tb, hb)))) (message (total_has m v.held (omega (arith, tm, om))))).alike (sym k) e in
            let hm = has_total m rest (has_same m b rest (sym same) k h) in
            let once = held_once n net states infos views flow.words id v at m in
            absurd (omega (arith, tm, om, hm, once))
      ]
        where
          which : (x y : ℕ) → x ≤ y → (x < y) ⊎ (x ≡ y)
          which x y h = grind (arith, h)
