-- The laws of rows that are filed.
use Rattle.std.proofs.Common.{◌≡◌, ℕ, sym, ap, subst, ◌∙◌, List, Option, arith}
use Rattle.std.specs.Prelude.{slice_index}
use Rattle.oss_words.specs.declared.entry.EntryInfo.{EntryInfo}
use Rattle.oss_words.specs.declared.entry.EntryState.{EntryState}
use Rattle.oss_roles.specs.Roles.{Role}
use Rattle.oss_roles.specs.Sights.{Telling}
use Rattle.oss_filing.specs.declared.row.Row.{Row}
use Rattle.oss_filing.specs.Counted.{HaveTasks}
use Rattle.oss_filing.specs.Filed.{info_in, state_in}
use Rattle.oss_filing.specs.OfState.{CountsStand, StandFor}
use Rattle.oss_filing.specs.Opening.{FiledRowsRest, FiledRowsStand, PlannedRowsFit, RowCountsStand}
use Rattle.oss_filing.specs.Planned.{ArePlanned}
use Rattle.oss_filing.proofs.Basics.{some_is}
use Rattle.oss_filing.proofs.FollowLemmas.{row_within}
use Rattle.oss_filing.proofs.SoundLaw.{are_sound}
use Rattle.oss_filing.proofs.StateLaw.{counts_stand, stand_for}

have_tasks : (rows : List Row) (role : ℕ → Option Role) → ArePlanned rows role → HaveTasks rows
have_tasks rows role planned e row is =
    let r = planned.role_of e row is in
    let x = planned.row e r.0 r.1 in
    let o = planned.number e r.0 r.1 in
    let w = planned.row r.0.task o.0 o.1 in
    let same : x.0 ≡ row = some_is (sym x.1 ∙ is) in
    let task : row.info.task ≡ r.0.task = ap (λ (z : Row). z.info.task) (sym same) ∙ x.2.task in
    let l = row_within rows r.0.task w.0 w.1 in
    let a = l.0 in
    let b = l.1 in
    (omega (arith, a, task), omega (arith, b, task))

pub planned_rows_fit : PlannedRowsFit
planned_rows_fit rows role planned few = (are_sound rows role planned few, have_tasks rows role planned)

pub filed_rows_stand : (S : Type 0) → FiledRowsStand S
filed_rows_stand S P s rows role n ws of filed = stand_for P s rows role of n ws filed

pub row_counts_stand : (S : Type 0) → RowCountsStand S
row_counts_stand S P s rows role n ws counts of room filed counted = counts_stand P s rows role of n ws filed room counts counted

pub filed_rows_rest : (S J : Type 0) (is_job : Telling S J) → FiledRowsRest S J is_job
filed_rows_rest S J is_job P s rows role n ws counts k v of room filed counted opened =
    let stand0 = stand_for P s rows role of n ws filed in
    let states : state_in ws ≡ k.states = λ i e. sym (opened.states e) i in
    let infos : info_in ws ≡ k.infos = λ i e. sym (opened.infos e) i in
    let stand1 = subst (λ (z : ℕ → EntryInfo). StandFor P s n filed.net filed.gave role (state_in ws) z) infos stand0 in
    let stand = subst (λ (z : ℕ → EntryState). StandFor P s n filed.net filed.gave role z k.infos) states stand1 in
    let count0 = counts_stand P s rows role of n ws filed room counts counted in
    let count = subst (λ (z : ℕ → EntryState). CountsStand n role z (slice_index counts)) states count0 in
    record {
      words = stand.words v opened.held opened.half;
      gave_hangs = stand.gave_hangs;
      roles = stand.roles;
      filed = stand.filed;
      given = stand.given;
      cells = opened.cells;
      there = stand.there;
      home = opened.home;
      unused = opened.unused;
      counted = λ t q is site. let w = of.planned.row t q is in let l = (row_within rows t w.0 w.1).1 in opened.counts_are t (omega (arith, l, room)) ∙ count.counted t q is site;
      uncounted = λ t ne l none. opened.counts_are t l ∙ count.uncounted t ne l none;
      main = opened.counts_are 0 (omega (arith, room)) ∙ count.main;
      open_start = stand.open_start;
      strong = stand.strong;
      left = stand.left;
      numbered = λ e c r is h site. opened.numbered e c r is site;
    }
