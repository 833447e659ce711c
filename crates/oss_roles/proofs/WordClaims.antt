-- The rule at the start and at rest, the steps that no job is needed for, as `specs/WordSteps` tells them, and what the rule gives.
use Rattle.std.proofs.Common.{◌≡◌, ◌≢◌, inl, inr, sym, subst, refl, ◌∙◌, ap, ℕ, ◌+◌, arith, Bool, false, List, set}
use Rattle.oss_model.specs.Bodies.{Program, Start}
use Rattle.oss_words.specs.declared.entry.EntryState.{EntryState}
use Rattle.oss_words.specs.declared.message.Message.{Message}
use Rattle.oss_words.specs.Members.{Has}
use Rattle.oss_words.specs.Net.{apart}
use Rattle.oss_words.specs.Rule.{Kept}
use Rattle.oss_words.specs.Steps.{Delivers, GivesUp}
use Rattle.oss_words.specs.Views.{Among, among_first}
use Rattle.oss_words.proofs.CauseLemmas.{bools}
use Rattle.oss_words.proofs.CountLemmas.{held_due}
use Rattle.oss_words.proofs.DeliverLaw.{taken}
use Rattle.oss_words.proofs.DeliverLemmas.{target_hangs}
use Rattle.oss_roles.specs.Claims.{StartsKeep, RestsKeep, AllStandAtHome, IdleFieldsRest, QuietStepsKeep, NewSeatsKeep, CountReadsKeep, WordReadsKeep, LastLinksKeep, JoinsKeep, JoinedGivesKeep, DeliveriesKeep, CountDownsKeep}
use Rattle.oss_roles.specs.Claims.{NoCountIsReady, WhatMayGoGoes, NewPathsAreFree, TasksHaveOneMaker, ParentsAreOpen, CreatorsAreOpen, LastChildrenAreLast}
use Rattle.oss_roles.specs.Field.{Field, Parts, Sits, words_of}
use Rattle.oss_roles.specs.Sights.{Sight, Telling}
use Rattle.oss_roles.specs.WordSteps.{JoinsWord, joins_at_once, joins_begin}
use Rattle.oss_roles.proofs.CallLemmas.{count_read, sole_maker, free_idle, fresh_path, may_go, parent_open, parent_own_open, last_is}
use Rattle.oss_roles.proofs.FoldLaw.{cause, not_given, fold_as}
use Rattle.oss_roles.proofs.GiveLaw.{GivesWord as WordGives}
use Rattle.oss_roles.proofs.LeaveLaw.{gives_word, begins_word, join_give_words, join_begin_words, rise_field, joined_give_field}
use Rattle.oss_roles.proofs.LookLaw.{ready_field, read_field}
use Rattle.oss_roles.proofs.MoveLaw.{agrees}
use Rattle.oss_roles.proofs.OtherLaw.{at_words, deliver_field, down_field}
use Rattle.oss_roles.proofs.RestField.{rest_field, idle_rest}
use Rattle.oss_roles.proofs.SeatLaw.{quiet_field, new_seat_field}
use Rattle.oss_roles.proofs.StartLaw.{start_at, all_home}
use Rattle.oss_roles.proofs.WaitLaw.{ready_of}

module _ {S J : Type 0} (P : Program S) (main : Start S) (first : List ℕ) (is_job : Telling S J) (n : ℕ) (k : Parts J) (sights : List (Sight S)) (f : Field P main first is_job n k sights)
    (id : ℕ) (v w : Sight S) (at : Sits sights id v) where
  -- the entry of a message that is delivered hangs
  delivered_hangs : (states' : ℕ → EntryState) (m : Message) (rest : List Message) → Delivers f.net k.states states' k.infos m rest v.words w.words → f.net.place m.entry ≢ apart
  delivered_hangs states' m rest d =
      let words = at_words sights id v at in
      let held = taken n f.net k.states states' k.infos (words_of sights) m rest id v.words w.words f.words.flow words d in
      let h = held_due n f.net k.states k.infos (words_of sights) f.words.flow.words id v.words words m held in
      target_hangs n f.net k.states k.infos (words_of sights) f.words.flow.words h.0 h.1 m h.2

  -- what the give of an entry that was joined does to the words
  record JoinGiven (e : ℕ) (states' : ℕ → EntryState) (gave' : ℕ → Bool) : Type 0 where
    word : WordGives (k.states e) (states' e)
    others : (j : ℕ) → j ≢ e → states' j ≡ k.states j
    words : Kept n f.net gave' states' k.infos (words_of (set sights id w))

  join_given : (e : ℕ) (states' : ℕ → EntryState) (gave' : ℕ → Bool) → Has (record { entry = e; flag = 0 }) v.words.held → GivesUp f.gave gave' e → JoinsWord f id v w e states' → JoinGiven e states' gave'
  join_given e states' gave' held up (joins_at_once rest d) =
      record {
        word = subst (λ (z : EntryState). WordGives (k.states e) z) (sym d.sets) (gives_word (k.states e));
        others = d.others;
        words = join_give_words P main first is_job n k sights f id v w at states' gave' e (cause P main first is_job n k sights f id v at e held).1 up rest d;
      }
  join_given e states' gave' held up (joins_begin rest headed d) =
      record {
        word = subst (λ (z : EntryState). WordGives (k.states e) z) (sym d.sets) (begins_word (k.states e));
        others = d.others;
        words = join_begin_words P main first is_job n k sights f id v w at states' gave' e (cause P main first is_job n k sights f id v at e held).1 up headed still_open rest d;
      }
    where
      still_open : (k.states e).given ≡ false
      still_open = elim (bools (k.states e).given) [ inl h ↦ absurd (not_given P main first is_job n k sights f id v at e held h) | inr h ↦ h ]

pub starts_keep : (S J : Type 0) (is_job : Telling S J) → StartsKeep S J is_job
starts_keep S J is_job P main first n k j setting low high job d =
    start_at P main first is_job setting n low high j job k d

pub rests_keep : (S J : Type 0) (is_job : Telling S J) → RestsKeep S J is_job
rests_keep S J is_job P main first n net gave role k v s setting reached d =
    rest_field P main first is_job setting n net gave role k v s reached d

pub all_stand_at_home : (S J : Type 0) (is_job : Telling S J) → AllStandAtHome S J is_job
all_stand_at_home S J is_job P main first n k sights f p u idle h =
    all_home P main first is_job n k sights f idle p u h

pub idle_fields_rest : (S J : Type 0) (is_job : Telling S J) → IdleFieldsRest S J is_job
idle_fields_rest S J is_job P main first n k v f unleft = idle_rest P main first is_job n k v f unleft

pub quiet_steps_keep : (S J : Type 0) (is_job : Telling S J) → QuietStepsKeep S J is_job
quiet_steps_keep S J is_job P main first n k sights f id v w at d =
    quiet_field P main first is_job n k sights f id v w at d.held d.half d.bears d.makes d.joined d.owes d.ready d.loaded d.seen d.still

pub new_seats_keep : (S J : Type 0) (is_job : Telling S J) → NewSeatsKeep S J is_job
new_seats_keep S J is_job P main first n k sights f x d =
    new_seat_field P main first is_job n k sights f x d.held d.half d.bears d.makes d.joined d.owes d.ready d.loaded d.seen d.still

pub count_reads_keep : (S J : Type 0) (is_job : Telling S J) → CountReadsKeep S J is_job
count_reads_keep S J is_job P main first n k sights f id v w t d =
    let c = count_read P main first is_job n k sights f t d.inside d.spent in
    ready_field P main first is_job n k sights f id v w d.sits d.same t c.0 c.1 d.spent d.ready d.seen d.still

pub word_reads_keep : (S J : Type 0) (is_job : Telling S J) → WordReadsKeep S J is_job
word_reads_keep S J is_job P main first n k sights f id v w e d =
    read_field P main first is_job n k sights f id v w d.sits d.same e d.ready d.seen d.still

pub deliveries_keep : (S J : Type 0) (is_job : Telling S J) → DeliveriesKeep S J is_job
deliveries_keep S J is_job P main first n k sights f id v w m rest states' d =
    deliver_field P main first is_job n k sights f id v w d.sits d.same states' m rest d.word (delivered_hangs P main first is_job n k sights f id v w d.sits states' m rest d.word) d.none d.owes

pub count_downs_keep : (S J : Type 0) (is_job : Telling S J) → CountDownsKeep S J is_job
count_downs_keep S J is_job P main first n k sights f id v w t counts' d =
    down_field P main first is_job n k sights f id v w d.sits d.same counts' t d.due d.owes d.down d.others
    (λ q. let z : counts' t + 1 ≡ 0 = d.down ∙ ap (λ (j : ℕ). k.counts j) q ∙ f.counts.main in omega (arith, z)) d.words

pub last_links_keep : (S J : Type 0) (is_job : Telling S J) → LastLinksKeep S J is_job
last_links_keep S J is_job P main first n k sights f id v w e states' d =
    rise_field P main first is_job n k sights f id v w d.sits d.same d.owes d.none states' e d.word d.unlinked

pub joins_keep : (S J : Type 0) (is_job : Telling S J) → JoinsKeep S J is_job
joins_keep S J is_job P main first n k sights f id v w e cell op d =
    let z = d.view in
    fold_as P main first is_job n k sights f id v d.sits e d.held (agrees P main first f.state f.setting f.reached).made d.others w z.bears z.makes z.words z.owes z.joined z.ready z.loaded z.seen z.still cell op d.number d.mode

pub joined_gives_keep : (S J : Type 0) (is_job : Telling S J) → JoinedGivesKeep S J is_job
joined_gives_keep S J is_job P main first n k sights f id v w e states' gave' d =
    let held = f.joined id v d.sits e (subst (λ (l : List ℕ). Among e l) (sym d.joined) (among_first refl)) in
    let word = join_given P main first is_job n k sights f id v w d.sits e states' gave' held d.gives d.word in
    joined_give_field P main first is_job n k sights f id v w d.sits d.same d.owes e d.joined d.none states' gave' d.gives word.word word.others word.words

pub no_count_is_ready : (S J : Type 0) (is_job : Telling S J) → NoCountIsReady S J is_job
no_count_is_ready S J is_job P main first n k sights f t low spent =
    let c = count_read P main first is_job n k sights f t low spent in
    let r = ready_of P main first is_job n k sights f t c.0 c.1 spent in
    (c.0, r.0, c.1, r.1, r.2)

pub what_may_go_goes : (S J : Type 0) (is_job : Telling S J) → WhatMayGoGoes S J is_job
what_may_go_goes S J is_job P main first n k sights f id i v b x at has run =
    may_go P main first is_job n k sights f id i v b at has x run

pub new_paths_are_free : (S J : Type 0) (is_job : Telling S J) → NewPathsAreFree S J is_job
new_paths_are_free S J is_job P main first n k sights f id i v b e r at has idle is =
    fresh_path P main first is_job n k sights f id i v b at has idle e r is

pub tasks_have_one_maker : (S J : Type 0) (is_job : Telling S J) → TasksHaveOneMaker S J is_job
tasks_have_one_maker S J is_job P main first n k sights f id j v x m a at among sits made same =
    sole_maker P main first is_job n k sights f id v at m among j x sits a made same

pub parents_are_open : (S J : Type 0) (is_job : Telling S J) → ParentsAreOpen S J is_job
parents_are_open S J is_job P main first n k sights f id i v b order c mode strong at has act right up =
    parent_open P main first is_job n k sights f id i v b at has order act c mode strong right up

pub creators_are_open : (S J : Type 0) (is_job : Telling S J) → CreatorsAreOpen S J is_job
creators_are_open S J is_job P main first n k sights f id i v b order at has act up =
    parent_own_open P main first is_job n k sights f id i v b at has order act up

pub last_children_are_last : (S J : Type 0) (is_job : Telling S J) → LastChildrenAreLast S J is_job
last_children_are_last S J is_job P main first n k sights f id i v b y o at has idle last up =
    last_is P main first is_job n k sights f id i v b at has y o last (free_idle P main first is_job n k sights f id i v b at has idle) up
