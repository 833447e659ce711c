-- An entry of a task whose job a seat holds is given up: at once, or in two steps if its task has a child there.
use Rattle.std.proofs.Common.{◌≡◌, ◌≢◌, ◌⊎◌, inl, inr, sym, subst, refl, ◌∙◌, ap, ℕ, ◌<◌, ◌+◌, ◌%◌, ◌^◌, arith, Bool, true, false, ◌==◌, cond, List, [], ◌∷◌, length, set, Option, Some, None}
use Rattle.std.specs.Prelude.{slice_index}
use Rattle.std.specs.Global.{Box}
use Rattle.std.proofs.lemmas.Bool.Decides.{eqb_tells}
use mathlib.Core.Option as maybe
use lib.ListN.{get_elem?}
use Rattle.oss_body.specs.Mains.{code_main}
use Rattle.oss_code.specs.declared.code.CodeParts.{CodeParts}
use Rattle.oss_jobs.specs.declared.job.Job.{Job}
use Rattle.oss_machine.specs.Frames.{CodeScript}
use Rattle.oss_machine.specs.Machines.{asks}
use Rattle.oss_model.specs.Bodies.{Body}
use Rattle.oss_model.specs.Context.{right_of}
use Rattle.oss_model.specs.Machine.{Task, At}
use Rattle.oss_model.specs.Rights.{Holds}
use Rattle.oss_model.proofs.TreeLemmas.{at_same}
use Rattle.oss_syntax.specs.declared.access.Mode.TheVariants.{Fold}
use Rattle.oss_syntax.specs.declared.access.Op.{Op}
use Rattle.oss_words.specs.declared.entry.EntryState.{EntryState}
use Rattle.oss_words.specs.Bits.{info_at, state_at, state_word, FitsWord}
use Rattle.oss_words.specs.Causes.{sent}
use Rattle.oss_words.specs.Grown.{Grown}
use Rattle.oss_words.specs.Net.{Net, apart}
use Rattle.oss_words.specs.Steps.{GivesUp}
use Rattle.oss_words.specs.Views.{Among, among_first, among_later}
use Rattle.oss_words.proofs.CauseLemmas.{bools, clash}
use Rattle.oss_words.proofs.KeptLaw.{at_here}
use Rattle.oss_words.proofs.SeatLemmas.{came_more}
use Rattle.oss_words.proofs.StillLemmas.{all_of, begun_grown, given_grown, grown_same}
use Rattle.oss_roles.specs.Field.{Field, FieldAt, Parts, Sits}
use Rattle.oss_roles.specs.JobSteps.{GivesEntry, GivesWord, at_once, begins, of_other}
use Rattle.oss_roles.specs.Roles.{Role, Site, itself, on}
use Rattle.oss_roles.specs.Sights.{Fixed, Sight}
use Rattle.oss_roles.proofs.JobClaims.{gives_keep, own_gives_keep}
use Rattle.oss_field.specs.declared.view.SeatView.{SeatView}
use Rattle.oss_field.specs.Giving.{GivesHalf, GivesWhole, MayGiveUp, StandsToGive, gave_half, gave_whole, gives_cell, gives_own, gone_on, still_beside}
use Rattle.oss_field.specs.Known.{Holding, Known, bearing_of, last_of, sight_of}
use Rattle.oss_field.specs.Layout.{info_word_of, parts_of, state_word_of}
use Rattle.oss_field.specs.Marked.{StaysLeft}
use Rattle.oss_field.specs.Plans.{hearing_of, planned_of}
use Rattle.oss_field.specs.Moves.{with_body}
use Rattle.oss_field.specs.Owning.{entry_of, site_of}
use Rattle.oss_field.specs.Steps.{Steps}
use Rattle.oss_field.specs.Table.{Neat, Slot, is_job_of, sights_of, Stands}
use Rattle.oss_field.proofs.CellLemmas.{beside_is, job_goes, told_on}
use Rattle.oss_field.proofs.FlagLemmas.{added, num_off, parts_fit}
use Rattle.oss_field.proofs.HearLemmas.{bounded, told_hangs}
use Rattle.oss_field.proofs.OwnLemmas.{borne, cell_filed, childless, last_child, own_filed}
use Rattle.oss_field.proofs.TableLemmas.{sits_at}
use Rattle.oss_field.proofs.WordTable.{state_else, state_here, state_stands}

-- the gives with one more
abbrev pub more : (ℕ → Bool) → ℕ → ℕ → Bool
more gave e j = cond (j == e) true (gave j)

pub more_up : (gave : ℕ → Bool) (e : ℕ) → GivesUp gave (more gave e) e
more_up gave e = record { now = here_is (e == e) (eqb_tells e e); same = λ j ne. else_is j ne (j == e) (eqb_tells j e) }
  where
    here_is : (b : Bool) → ((b ≡ true) × (e ≡ e)) ⊎ ((b ≡ false) × (e ≢ e)) → cond b true (gave e) ≡ true
    here_is true t = refl
    here_is false (inl t) = absurd (clash t.0 refl)
    here_is false (inr t) = absurd (t.1 refl)

    else_is : (j : ℕ) → j ≢ e → (b : Bool) → ((b ≡ true) × (j ≡ e)) ⊎ ((b ≡ false) × (j ≢ e)) → cond b true (gave j) ≡ gave j
    else_is j ne true (inl t) = absurd (ne t.1)
    else_is j ne true (inr t) = absurd (clash refl t.0)
    else_is j ne false t = refl

-- what was read of other entries
pub still_is : (e : ℕ) (l : List Fixed) (y : Fixed) → Among y (still_beside e l) → Among y l × (y.entry ≢ e)
still_is e [] y a = elim a [ ]
still_is e (z ∷ l) y a = go (z.entry == e) (eqb_tells z.entry e) (still_is e l y) a
  where
    go : (b : Bool) → ((b ≡ true) × (z.entry ≡ e)) ⊎ ((b ≡ false) × (z.entry ≢ e)) → (Among y (still_beside e l) → Among y l × (y.entry ≢ e)) → Among y (cond b (still_beside e l) (z ∷ still_beside e l)) → Among y (z ∷ l) × (y.entry ≢ e)
    go true q f a = let r = f a in (among_later r.0, r.1)
    go false (inl q) f a = absurd (clash q.0 refl)
    go false (inr q) f a = elim a [
      | among_first p ↦ (among_first p, subst (λ (u : Fixed). u.entry ≢ e) p q.1)
      | among_later k ↦ let r = f k in (among_later r.0, r.1)
    ]

module _ (code : CodeParts) (fuel n id : ℕ) (v : SeatView) (job : Job) (cell : Option ℕ) (s : StandsToGive code job v.known cell) (whole : v.known.words.half ≡ []) (unjoined : v.known.joined ≡ []) where
  abbrev h : Holding
  h = s.holding

  abbrev e : ℕ
  e = entry_of s.holding cell

  module _ (ws : List ℕ) (homes : List (maybe.Option Slot)) (views : List SeatView) (stands : Stands code fuel n ws homes views) (sits : get_elem? views id ≡ maybe.some v) where
    abbrev k : Parts (Box Job)
    k = parts_of (length code.first) ws homes stands.cells

    abbrev f : Field (asks code) (code_main code fuel) code.first (is_job_of code stands.before) n k (sights_of views)
    f = stands.rule.field

    seated : Sits (sights_of views) id (sight_of v.known)
    seated = sits_at views id v sits

    -- the entry is one of the task, and its value is not left
    record Mine (o : Option ℕ) : Type 0 where
      it : Role
      is : f.role (entry_of h o) ≡ Some it
      hangs : f.net.place (entry_of h o) ≢ apart
      path : it.path ≡ h.path
      site : it.site ≡ site_of o
      plain : (op : Op) → it.mode ≡ Fold op → it.strong ≡ true → ⊥
      unfolded : (c : ℕ) (op : Op) → it.site ≡ on c → right_of h.body.start.context c ≡ Holds (Fold op) true → ⊥

    mine_of : (o : Option ℕ) → MayGiveUp code v.known h s.body o → Mine o
    mine_of (Some _) (gives_cell c mode strong right plainly may) =
        let x = cell_filed code n k (sights_of views) f id v.known seated s.place h s.given.holds s.below_main c mode strong right in record {
          it = x.0.it;
          is = ap f.role (sym x.3) ∙ x.0.is;
          hangs = subst (λ (z : ℕ). f.net.place z ≢ apart) x.3 x.0.hangs;
          path = x.0.path;
          site = x.0.site;
          plain = λ op q t. plainly op (right ∙ (λ i. Holds ((sym x.1 ∙ q) i) ((sym x.2 ∙ t) i)));
          unfolded = λ d op q r. plainly op (subst (λ (z : ℕ). right_of h.body.start.context z ≡ Holds (Fold op) true) (same_cell d (sym q ∙ x.0.site)) r);
        }
      where
        same_cell : (d : ℕ) → on d ≡ on c → d ≡ c
        same_cell d q = cc
    mine_of None (gives_own over all) =
        let x = own_filed code n k (sights_of views) f id v.known seated s.place h s.given.holds s.below_main in record {
          it = x.0.it;
          is = ap f.role (sym x.1) ∙ x.0.is;
          hangs = subst (λ (z : ℕ). f.net.place z ≢ apart) x.1 x.0.hangs;
          path = x.0.path;
          site = x.0.site;
          plain = λ op q t. stands.selves x.0.entry x.0.it (ap (λ (g : ℕ → Option Role). g x.0.entry) (sym stands.rule.same_role) ∙ x.0.is) x.0.site op q;
          unfolded = λ d op q r. no_cell d (sym x.0.site ∙ q);
        }
      where
        no_cell : (d : ℕ) → itself ≡ on d → ⊥
        no_cell d q = cc

    mine : Mine cell
    mine = mine_of cell s.may

    one_role : (r q : Role) (x : Option Role) → x ≡ Some r → x ≡ Some q → r ≡ q
    one_role r q x a b = let z : Some r ≡ Some q = sym a ∙ b in cc

    -- it is not given up, nor done
    ungiven : (k.states e).given ≡ false
    ungiven =
        let y = s.still in
        let t = f.still id (sight_of v.known) seated y.it y.among in
        let one : t.it ≡ mine.it = one_role t.it mine.it (f.role e) (ap f.role (sym y.entry) ∙ t.is) mine.is in
        ap (λ (z : ℕ). (k.states z).given) (sym y.entry) ∙ (t.given (λ op q strong left. mine.plain op (ap (λ (z : Role). z.mode) (sym one) ∙ q) (ap (λ (z : Role). z.strong) (sym one) ∙ strong)) ∙ y.open_yet)

    inside : e < n
    inside = f.words.flow.words.inside e mine.hangs

    undone : (k.states e).done ≡ false
    undone = elim (bools (k.states e).done) [
      | inr off ↦ off
      | inl on_ ↦ absurd (clash (f.words.flow.words.finished e inside on_) ungiven)
    ]

    unleft : (k.states e).left ≡ false
    unleft = elim (bools (k.states e).left) [
      | inr off ↦ off
      | inl on_ ↦
          let l = f.left e mine.it mine.is on_ in
          let b = borne code n k (sights_of views) f id v.known seated s.place h s.given.holds in
          let same : l.task ≡ b.task = at_same f.state h.path l.task b.task (subst (λ (z : List ℕ). At f.state z l.task) mine.path l.at_) b.at_ in
          let body = ap (λ (z : Task CodeScript). z.body) same ∙ b.body in
          absurd (mine.unfolded l.cell l.op l.site (subst (λ (z : Body CodeScript). right_of z.start.context l.cell ≡ Holds (Fold l.op) true) body l.right))
    ]

    -- the law of the give, whichever entry it is
    gives : (o : Option ℕ) → MayGiveUp code v.known h s.body o → (r : Role) → r.site ≡ site_of o → (w : Sight CodeScript) (states' : ℕ → EntryState) (gave' : ℕ → Bool)
        → GivesEntry f id (sight_of v.known) w s.place (bearing_of h) (bearing_of (with_body s.body h)) s.body (entry_of h o) r states' gave'
        → FieldAt (asks code) (code_main code fuel) code.first (is_job_of code stands.before) n f.net gave' f.role (record k { states = states' }) (set (sights_of views) id w)
    gives (Some _) (gives_cell c mode strong right plainly may) r site w states' gave' up =
        gives_keep CodeScript (Box Job) (is_job_of code stands.before) (asks code) (code_main code fuel) code.first n k (sights_of views) f id (sight_of v.known) w s.place (bearing_of h) (bearing_of (with_body s.body h)) s.body
        (entry_of h (Some c)) r states' gave' c mode strong (record { up = up; site = site; right = right; no_fold = plainly; may = may })
    gives None (gives_own over all) r site w states' gave' up =
        own_gives_keep CodeScript (Box Job) (is_job_of code stands.before) (asks code) (code_main code fuel) code.first n k (sights_of views) f id (sight_of v.known) w s.place (bearing_of h) (bearing_of (with_body s.body h)) s.body
        (entry_of h None) r states' gave' (record {
          up = up;
          site = site;
          ended = over;
          cells = λ d mode strong right.
              let x = cell_filed code n k (sights_of views) f id v.known seated s.place h s.given.holds s.below_main d mode strong right in
              let y = all d mode strong right in
              let same : x.0.entry ≡ y.it.entry = x.3 ∙ sym y.entry in record {
                it = y.it;
                among = y.among;
                given = y.given;
                role = x.0.it;
                is = ap f.role (sym same) ∙ x.0.is;
                hangs = subst (λ (z : ℕ). f.net.place z ≢ apart) same x.0.hangs;
                path = x.0.path;
                site = x.0.site;
              };
        })

    -- what is so of each such step, if the word of the entry becomes that of c
    module _ (c : EntryState) (fits : FitsWord c) (neat : Neat c) (grown : Grown (k.states e) c) (stays : StaysLeft (k.states e) c) (l : Known) (bears : l.bears ≡ set v.known.bears s.place (with_body s.body h)) (loaded : l.loaded ≡ (gone_on s.place h s.body e v.known).loaded) (still : l.still ≡ still_beside e v.known.still)
        (makes : l.makes ≡ v.known.makes) (ready : l.ready ≡ v.known.ready) (joined : l.joined ≡ v.known.joined) (owes : l.owes ≡ v.known.owes) (seen : l.seen ≡ v.known.seen) (drawn : l.drawn ≡ v.known.drawn) (told : hearing_of l ≡ hearing_of v.known) (planned : planned_of l ≡ planned_of v.known)
        (parts : l.words.parts ≡ v.known.words.parts) (splits : l.words.splits ≡ v.known.words.splits) (failed : l.words.failed ≡ v.known.words.failed) (delivered : l.words.delivered ≡ v.known.words.delivered) where
      abbrev states' : ℕ → EntryState
      states' j = state_at (slice_index (set ws (state_word_of (length code.first) e) (state_word c)) (state_word_of (length code.first) j))

      now : states' e ≡ c
      now = state_here code fuel n ws homes views stands e inside c fits neat

      others : (j : ℕ) → j ≢ e → states' j ≡ k.states j
      others = state_else code fuel n ws homes views stands e inside c fits neat

      step_stands : GivesWord f id (sight_of v.known) (sight_of l) e states' → Stands code fuel n (set ws (state_word_of (length code.first) e) (state_word c)) homes (set views id (record { known = l }))
      step_stands word =
          let rule = gives cell s.may mine.it mine.site (sight_of l) states' (more f.gave e) (record {
            entry = record {
              with_job = record { sits = seated; job = job_goes code job v.known s.place h s.body s.given s.body refl l bears makes ready joined; alone = s.given.may };
              loaded = λ y a. let r = beside_is h.number v.known.loaded y (subst (λ z. Among y z) loaded a) in of_other r.0 r.1;
              body = refl;
              is = mine.is;
              path = mine.path;
              owes = owes;
              none = unjoined;
              seen = seen;
            };
            hangs = mine.hangs;
            ungiven = ungiven;
            gives = more_up f.gave e;
            word = word;
            still = λ y a. still_is e v.known.still y (subst (λ (z : List Fixed). Among y z) still a);
          }) in
          let each : (j : ℕ) → Grown (k.states j) (states' j) = all_of Grown grown_same k.states states' e others (subst (λ (z : EntryState). Grown (k.states e) z) (sym now) grown) in
          let come = came_more n stands.net.place k.states states' each in
          state_stands code fuel n ws homes views stands e inside c fits neat id v l sits drawn told planned (subst (λ (z : Net). z.place e ≢ apart) stands.rule.same_net mine.hangs) stays
          (λ g a. told_on stands.before v.known.bears s.place h s.body s.given.holds (stands.told id v sits) g (subst (λ (z : List Holding). Among g z) bears a))
          parts splits failed (omega (arith, come, delivered)) (more f.gave e)
          (record { field = rule.field; same_net = rule.same_net ∙ stands.rule.same_net; same_gave = rule.same_gave; same_role = rule.same_role ∙ stands.rule.same_role })

    info_is : (w : ℕ) → Among (record { entry = e; info = info_at w }) v.known.told → info_at (slice_index ws (info_word_of (length code.first) e)) ≡ info_at w
    info_is w told = (told_hangs code fuel n ws homes views stands id v sits e (info_at w) told).1

  -- an entry with no child, in one step
  pub gives_whole : (w : ℕ) → Among (record { entry = entry_of s.holding cell; info = info_at w }) v.known.told → last_of s.holding (site_of cell) ≡ None
      → Steps code fuel n id v (state_word_of (length code.first) (entry_of s.holding cell)) (λ x. (x + 24) % 2 ^ 64) (λ x l. GivesWhole n (length code.first) (entry_of s.holding cell) w s.place s.holding s.body x v.known l)
  gives_whole w told none ws homes views stands sits bits =
      let x : ℕ = slice_index ws (state_word_of (length code.first) e) in
      let old : EntryState = state_at x in
      let c : EntryState = record old { given = true; done = true } in
      let kept : StaysLeft old c = record { left = λ q. q; none = λ q h. h } in
      let my = mine ws homes views stands sits in
      let off = ungiven ws homes views stands sits in
      let open_yet = undone ws homes views stands sits in
      let fits : FitsWord c = record { next = (parts_fit x).next; child = (parts_fit x).child } in
      let neat : Neat c = record { next = (stands.neat e).next; child = (stands.neat e).child } in
      let sum = added old c x 24 (stands.whole e) (let p = num_off old.given off in let q = num_off old.done open_yet in omega (arith, p, q)) fits in
      let l : Known = gave_whole (length code.first) e w x (gone_on s.place s.holding s.body e v.known) in
      let now_is = now ws homes views stands sits c fits neat (given_grown old) kept l refl refl refl refl refl refl refl refl refl refl refl refl refl refl refl in
      let parts' = parts_of (length code.first) ws homes stands.cells in
      let new = step_stands ws homes views stands sits c fits neat (given_grown old) kept l refl refl refl refl refl refl refl refl refl refl refl refl refl refl refl
      (at_once (record {
        empty = s.empty;
        full = whole;
        childless = childless code n parts' (sights_of views) stands.rule.field id v.known (sits_at views id v sits) s.place s.holding s.given.holds s.makes e my.it my.is my.hangs my.path (ap (λ (z : Site). last_of s.holding z) my.site ∙ none);
        stays = unleft ws homes views stands sits;
        sets = now_is;
        others = others ws homes views stands sits c fits neat (given_grown old) kept l refl refl refl refl refl refl refl refl refl refl refl refl refl refl refl;
        sends = λ j. sent e old ((sum.1 ∙ sym now_is) j) (sym (info_is ws homes views stands sits w told) j);
        whole = whole;
      })) in
      let ws' = set ws (state_word_of (length code.first) e) (state_word c) in (
        l,
        subst (λ (u : ℕ). Stands code fuel n (set ws (state_word_of (length code.first) e) u) homes (set views id (record { known = l }))) (sym sum.0) new,
        record { known = refl; bounded = bounded code fuel n ws' homes (set views id (record { known = l })) new id (record { known = l }) (at_here views id v (record { known = l }) sits); fits = sum.2 },
      )

  -- one with children: the first of two steps
  pub gives_half : (o : ℕ) → last_of s.holding (site_of cell) ≡ Some o
      → Steps code fuel n id v (state_word_of (length code.first) (entry_of s.holding cell)) (λ x. (x + 8) % 2 ^ 64) (λ x l. GivesHalf (length code.first) (entry_of s.holding cell) s.place s.holding s.body x v.known l)
  gives_half o last ws homes views stands sits bits =
      let x : ℕ = slice_index ws (state_word_of (length code.first) e) in
      let old : EntryState = state_at x in
      let c : EntryState = record old { given = true } in
      let kept : StaysLeft old c = record { left = λ q. q; none = λ q h. h } in
      let my = mine ws homes views stands sits in
      let off = ungiven ws homes views stands sits in
      let fits : FitsWord c = record { next = (parts_fit x).next; child = (parts_fit x).child } in
      let neat : Neat c = record { next = (stands.neat e).next; child = (stands.neat e).child } in
      let sum = added old c x 8 (stands.whole e) (let p = num_off old.given off in omega (arith, p)) fits in
      let l : Known = gave_half (length code.first) e x (gone_on s.place s.holding s.body e v.known) in
      let parts' = parts_of (length code.first) ws homes stands.cells in
      let child = last_child code n parts' (sights_of views) stands.rule.field id v.known (sits_at views id v sits) s.place s.holding s.given.holds s.makes e my.it my.is my.hangs my.path o (ap (λ (z : Site). last_of s.holding z) my.site ∙ last) in
      let new = step_stands ws homes views stands sits c fits neat (begun_grown old) kept l refl refl refl refl refl refl refl refl refl refl refl refl refl refl refl
      (begins child.1 (record {
        empty = s.empty;
        full = whole;
        stays = unleft ws homes views stands sits;
        sets = now ws homes views stands sits c fits neat (begun_grown old) kept l refl refl refl refl refl refl refl refl refl refl refl refl refl refl refl;
        others = others ws homes views stands sits c fits neat (begun_grown old) kept l refl refl refl refl refl refl refl refl refl refl refl refl refl refl refl;
        sends = refl;
        whole = refl;
      })) in (
        l,
        subst (λ (u : ℕ). Stands code fuel n (set ws (state_word_of (length code.first) e) u) homes (set views id (record { known = l }))) (sym sum.0) new,
        record { known = refl },
      )
