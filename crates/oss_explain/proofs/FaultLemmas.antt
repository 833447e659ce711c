-- What is found at a fault before which a run stands explains it.
use Rattle.std.proofs.Common.{◌≡◌, ℕ, refl, sym, subst, ap, ◌∙◌, List, [], ◌∷◌, reverse, false, Option}
use Rattle.std.proofs.lemmas.List.{reverse-reverse}
use Rattle.oss_syntax.specs.declared.fault.FaultKind.{FaultKind}
use Rattle.oss_syntax.specs.declared.tree.program.Item.{Item}
use Rattle.oss_judge.specs.Joined.{IsRising}
use Rattle.oss_model.specs.Bodies.{Act, Ask, Frame, IsHalt, Program, Start, ask_of, key_of, stage_act, stage_key}
use Rattle.oss_model.specs.Bodies.Act.{Fault}
use Rattle.oss_model.specs.Context.{Context}
use Rattle.oss_model.specs.Machine.{State}
use Rattle.oss_model.specs.Order.{written}
use Rattle.oss_model.specs.Points.{IsPoint}
use Rattle.oss_model.specs.Sequence.{IsAtEnd}
use Rattle.oss_model.proofs.OutputLemmas.{fault_key}
use Rattle.oss_code.specs.declared.code.CodeParts.{CodeParts}
use Rattle.oss_machine.specs.declared.failure.Failure.{Failure}
use Rattle.oss_machine.specs.Frames.{CodeScript}
use Rattle.oss_machine.specs.Machines.{asks}
use Rattle.oss_body.specs.declared.act.Act.{Act as CodeAct}
use Rattle.oss_body.specs.declared.act.Act.TheVariants as acts
use Rattle.oss_body.specs.declared.body.Body.{Body as Kept}
use Rattle.oss_body.specs.Acting.{acting}
use Rattle.oss_body.specs.Acts.{act_seen}
use Rattle.oss_body.specs.Mains.{code_main}
use Rattle.oss_body.specs.Places.{unwritten}
use Rattle.oss_body.specs.Relation.{is_over}
use Rattle.oss_serial.specs.Turns.{whole_task}
use Rattle.oss_explanation.specs.declared.explained.Link.{Link}
use Rattle.oss_explanation.specs.declared.explained.Word.{Word}
use Rattle.oss_explanation.specs.Explanations.{Explains, IsExplained, IsReason}
use Rattle.oss_explanation.specs.Held.{AreHeld, all_words}
use Rattle.oss_explanation.specs.Lives.{IsChain}
use Rattle.oss_explain.specs.declared.begun.Begun.{Begun}
use Rattle.oss_explain.specs.declared.ending.Ending.TheVariants as ending
use Rattle.oss_explain.specs.declared.ledger.Ledger.{Ledger}
use Rattle.oss_explain.specs.declared.told.Told.{Told}
use Rattle.oss_explain.specs.declared.who.Who.{Who}
use Rattle.oss_explain.specs.Endings.{IsEndingOf, IsFailureOf, failed_in}
use Rattle.oss_explain.specs.Endings.IsEnding.{fault as comes_to}
use Rattle.oss_explain.specs.Noting.{AreOnWay, StandsBefore, at_child, at_main}
use Rattle.oss_explain.specs.Reasons.{IsAccounted, IsFaultOf, MayFail}
use Rattle.oss_explain.specs.Telling.{IsKeyOf, IsToldOf, IsWho, explained_by}
use Rattle.oss_explain.specs.Ways.{entry_of}
use Rattle.oss_explain.proofs.EndLemmas.{HasOwn, accounted_here, chain_here, fault_here, right_here, words_here}

-- an ask that comes to a fault is one that may
pub may_fail : {S : Type 0} (x : Context) (a : Ask S) (kind : FaultKind) → IsFaultOf x a kind → MayFail a
may_fail x Ask.Begin kind h = tt
may_fail x Ask.Tick kind h = tt
may_fail x (Ask.Read c) kind h = tt
may_fail x (Ask.Write c v) kind h = tt
may_fail x (Ask.Fold c o v) kind h = tt
may_fail x (Ask.Create o) kind h = tt
may_fail x Ask.Await kind h = tt
may_fail x Ask.Wait kind h = absurd h
may_fail x (Ask.WaitOn named) kind h = tt
may_fail x (Ask.Release clauses) kind h = tt
may_fail x (Ask.Print text) kind h = absurd h
may_fail x Ask.End kind h = absurd h
may_fail x (Ask.Fails k) kind h = tt

-- The key of a fault

-- a point is written as its path
point_written : (point : List ℕ) → IsPoint point → written (unwritten point) ≡ point
point_written [] h = let e = h.main in cc
point_written (n ∷ rest) h = let e = h.main in rw (reverse-reverse rest) (cc)

key_same : (kind k : FaultKind) (line l : ℕ) (key path : List ℕ) → ◌≡◌ {A = Act CodeScript} (Fault kind line key) (Fault k l path) → key ≡ path
key_same kind k line l key path e = cc

pub key_is : (a : CodeAct) (kind : FaultKind) (line : ℕ) (key point : List ℕ) → a ≡ acts.Fault kind line key → IsPoint key → point ≡ key → IsKeyOf a point
key_is a kind line key point e h same k l path seen =
    same ∙ sym (point_written key h) ∙ ap (λ (x : List ℕ). written x) (key_same kind k line l (unwritten key) path (ap (λ (x : CodeAct). act_seen x) (sym e) ∙ seen))

acting_key : {S : Type 0} (P : Program S) (b : Start S) (past : List ℕ) → stage_key P b past ≡ key_of (acting P b past)
unfolding stage_key
acting_key P b past = refl

-- what a task has started with names each cell once
way_rising : (P : Program CodeScript) (s : State CodeScript) (q : List ℕ) (count : ℕ) (b : Begun) (rest : List Begun) → AreOnWay P s q count (b ∷ rest) → IsRising b.accesses
way_rising P s q count b rest (at_main h e) = rw e tt
way_rising P s q count b rest (at_child h born more) = born.accesses.rising

module _ (code : CodeParts) (fuel : ℕ) (kept : Kept) (l : Ledger) (kind : FaultKind) (line : ℕ) (st : StandsBefore code fuel kept l kind line) where
  abbrev P : Program CodeScript
  P = asks code

  abbrev f : Frame CodeScript
  f = acting P st.body.start st.body.found

  pub runs_here : is_over kept ≡ false
  runs_here = st.is_body.ended ∙ st.alive

  pub halts_here : (a : CodeAct) → act_seen a ≡ stage_act P st.body.start st.body.found → IsHalt (act_seen a)
  halts_here a e = subst (λ (x : Act CodeScript). IsHalt x) (sym (e ∙ st.fault)) tt

  pub asked_here : (x : Context) (a : Ask CodeScript) → x ≡ f.context → a ≡ (ask_of P f).ask → IsFaultOf x a kind
  asked_here x a e g =
      subst (λ (y : Context). IsFaultOf y a kind) (sym e) (subst (λ (b : Ask CodeScript). IsFaultOf f.context b kind) (sym g) (fault_here code fuel kept l kind line st).0)

  pub noted_here : (x : Context) → x ≡ f.context → IsAccounted x l.top
  noted_here x e = subst (λ (y : Context). IsAccounted y l.top) (sym e) (accounted_here code fuel kept l kind line st)

  pub rising_here : IsRising l.top.accesses
  rising_here = way_rising P st.stage.state f.path f.context.created l.top (reverse l.above) st.way

  module _ (all : List Item) (who : Who) (told : Told) (act : CodeAct) (seen : act_seen act ≡ stage_act P st.body.start st.body.found) (w : IsWho l act who) (t : IsToldOf all f.context l.top kind (ask_of P f).ask told) where
    own : HasOwn P st.stage.state f.path l.top
    own = words_here code fuel kept l kind line st

    key : st.key ≡ key_of f
    key = fault_key P st.body.start st.body.found kind line st.key st.fault ∙ acting_key P st.body.start st.body.found

    explains_here : Explains P entry_of st.stage.state all f kind line (explained_by who told line)
    explains_here =
        record {
          task = w.task ∙ (right_here code fuel kept l kind line st).point;
          next = w.next kind line st.key (seen ∙ st.fault) ∙ ap (λ (x : List ℕ). written x) key;
          on_line = refl;
          deed_is = t.deed_is;
          own = own.own;
          words = own.words;
          reason_is = subst (λ (g : ℕ → Option Word). IsReason P entry_of st.stage.state all f g kind (ask_of P f).ask told.reason) own.same (t.reason_is P st.stage.state f f.context.created refl (right_here code fuel kept l kind line st));
          chain = subst (λ (links : List Link). IsChain P entry_of st.stage.state f.path links) (sym w.chain) (chain_here code fuel kept l kind line st);
          holds = subst (λ (g : ℕ → Option Word). AreHeld all g all_words told.holds) own.same t.holds;
          wants = t.wants;
        }

    abbrev at_end : IsAtEnd P st.stage
    at_end = record { task = whole_task st.body; at_ = st.at_; stops = subst (λ (x : Act CodeScript). IsHalt x) (sym st.fault) tt }

    abbrev is_explained : IsExplained P entry_of (code_main code fuel) code.first all (explained_by who told line)
    is_explained = record { stage = st.stage; run = st.run; end = at_end; kind = kind; line = line; key = st.key; fails = st.fault; explains = explains_here }

    pub explained_here : IsEndingOf code fuel all (ending.Fault kind line (explained_by who told line))
    explained_here = comes_to is_explained refl refl

  -- what failed
  pub failure_here : (failure : Option Failure) → failure ≡ failed_in code f → IsFailureOf code fuel failure
  failure_here failure e = record {
    stage = st.stage;
    run = st.run;
    end = record { task = whole_task st.body; at_ = st.at_; stops = subst (λ (x : Act CodeScript). IsHalt x) (sym st.fault) tt };
    is = e;
  }

  -- the same of what is asked as it is kept
  pub ending_here : (all : List Item) (who : Who) (told : Told) (act : CodeAct) (x : Context) (a : Ask CodeScript) → act_seen act ≡ stage_act P st.body.start st.body.found → x ≡ f.context → a ≡ (ask_of P f).ask
      → IsWho l act who → IsToldOf all x l.top kind a told → IsEndingOf code fuel all (ending.Fault kind line (explained_by who told line))
  ending_here all who told act x a seen e g w t =
      explained_here all who told act seen w
      (subst (λ (b : Ask CodeScript). IsToldOf all f.context l.top kind b told) g (subst (λ (y : Context). IsToldOf all y l.top kind a told) e t))
