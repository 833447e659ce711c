-- A text has a reply to each command with one text: its tokens or a first fault, a program or a refusal by the grammar, and its static rules. Two texts have one to a replay: lines that are read or
-- a first wrong one, and what comes of the moves.
use Rattle.std.proofs.Common.{◌≡◌, ℕ, zero, suc, ◌+◌, ◌≤◌, ◌<◌, nat_lt, Bool, true, false, List, [], ◌∷◌, length, Result, Ok, Err, refl, ap, arith, ◌⊎◌, inl, inr}
use Rattle.std.proofs.lemmas.Bool.Decides.{nat_tests}
use Rattle.oss_syntax.specs.declared.token.Token.{Token}
use Rattle.oss_syntax.specs.declared.tree.program.Program.{Program}
use Rattle.oss_grammar.specs.declared.line_part.LinePart.{LinePart}
use Rattle.oss_grammar.specs.declared.line_part.LinePart.TheVariants.{Beginning}
use Rattle.oss_syntax.specs.declared.refusal.Refused.{Refused}
use Rattle.oss_syntax.specs.declared.refusal.RefusedKind.{RefusedKind}
use Rattle.oss_syntax.specs.declared.refusal.Refusal.TheVariants as refusal
use Rattle.oss_grammar.specs.Broken.{first}
use Rattle.oss_grammar.specs.Parsing.{IsProgramText, IsTextRefusal}
use Rattle.oss_grammar.specs.Parsing.IsTextRefusal.{by_tokens}
use Rattle.oss_grammar.specs.ProgramRules.{program_rules}
use Rattle.oss_grammar.specs.TaskLoops.{program_written}
use Rattle.oss_model.specs.Texts.{refusal_line}
use Rattle.oss_grammar.specs.Tokens.{Front, IsFront, Tokens, Stops}
use Rattle.oss_grammar.specs.Tokens.Tokens.{done, step}
use Rattle.oss_grammar.specs.Tokens.Stops.{here, past}
use Rattle.oss_lex.specs.Reading.{Fault, front_at}
use Rattle.oss_lex.proofs.Fronts.{front_fits, faulty, fault_kind, fault_lines}
use Rattle.oss_lex.proofs.Walk.{step_shorter}
use Rattle.oss_parse.specs.Parsed.{told_of}
use Rattle.oss_parse.specs.ProgramReading.{read_text}
use Rattle.oss_parse.proofs.ParsedLemmas.{parsed}
use Rattle.oss_command.specs.Commands.{Command}
use Rattle.oss_command.specs.Commands.Command.{audit, explain, graph, missing, run, check, trace, replay, soak, span}
use Rattle.oss_wave_laws.proofs.ExistLemmas.{has_trace}
use Rattle.oss_meaning.specs.Expressions.{TreeScript}
use Rattle.oss_meaning.specs.Meaning.{asks_of}
use Rattle.oss_meaning.specs.Results.{IsOutcomeOf, Outcome, first_cells, main_of}
use Rattle.oss_lower_laws.proofs.LiveLemmas.{programs_are_lively}
use Rattle.oss_lower_laws.proofs.OutcomeLaws.{programs_have_codes}
use Rattle.oss_lower_laws.proofs.ProgramLemmas.{codes_ask_alike}
use Rattle.oss_lower_laws.proofs.TextPlaces.{accepted_places, accepted_programs_have_one_outcome, accepted_setting}
use Rattle.oss_top.specs.ProgramTexts.{Accepts, Refuses}
use Rattle.oss_top.specs.ProgramTexts.Refuses.{by_grammar, by_rules}
use Rattle.oss_top.specs.Forms.{accepted_line, done_reply, error_reply, most_bytes, run_reply, soak_reply, too_large_line, trace_reply}
use Rattle.oss_top.specs.Reply.{IsFileReply, IsTextReply, IsProgramReply}
use Rattle.oss_top.specs.Reply.IsProgramReply.{audited, checked, ran, soaked, spanned, traced}
use Rattle.oss_top.specs.Traces.{IsTraceOf, text_of}
use Rattle.oss_wave_laws.specs.Rounds.{Trace}
use Rattle.oss_top.specs.Reply.IsTextReply.{accepted, refused_text}
use Rattle.oss_top.specs.Reply.IsFileReply.{too_large, fits}
use Rattle.oss_top.specs.Replays.{IsFilesReply, IsScheduleReply, IsTextsReply, most_schedule}
use Rattle.oss_top.specs.Replays.IsScheduleReply.{replayed, wrong_line}
use Rattle.oss_top.specs.Replays.IsTextsReply.{accepted as texts_accepted, refused_text as texts_refused}
use Rattle.oss_top.specs.Replays.IsFilesReply.{fit, too_large as files_too_large, too_long}
use Rattle.oss_top.specs.declared.reply.Reply.{Reply}
use Rattle.oss_prior_laws.proofs.ExistLemmas.{has_order}
use Rattle.oss_top.specs.Workers.{IsOrderOf}
use Rattle.oss_top.proofs.LineLemmas.{lines_of_order}
use Rattle.oss_top.proofs.SomeAudit.{audit_reply}
use Rattle.oss_top.proofs.SomeSpan.{span_reply}
use Rattle.oss_top.proofs.SomeReplay.{LinesRead, lines_read, replay_reply}
use Rattle.oss_sched.specs.Schedules.{lines_of}
use Rattle.oss_report.specs.Replays.{schedule_line}
use Rattle.oss_top.specs.declared.status.Status.TheVariants as status

-- the tokens of a text from a place on, or the first fault there
abbrev Read : LinePart → ℕ → List ℕ → Type 0
Read part line text = ((ts : List Token) × Tokens part line text ts) ⊎ ((kind : RefusedKind) × (at : ℕ) × Stops part line text kind at)

front_is : (part : LinePart) (text : List ℕ) (told : Front) → front_at part text ≡ Ok told → IsFront part text told
front_is part text told read = rw read at (front_fits part text)

behind : (part : LinePart) (line : ℕ) (text : List ℕ) (told : Front) → IsFront part text told → Read told.part (line + told.lines) told.rest → Read part line text
behind part line text told is (inl (ts, w)) = inl (_, step told ts is w refl)
behind part line text told is (inr (kind, at, w)) = inr (kind, at, past told is w)

some_reading : (n : ℕ) (part : LinePart) (line : ℕ) (text : List ℕ) → length text ≤ n → Read part line text
some_reading n part line [] few = inl ([], done refl)
some_reading zero part line (b ∷ more) few = absurd (omega arith)
some_reading (suc n) part line (b ∷ more) few =
    on (front_at part (b ∷ more)) refl (λ told shorter. some_reading n told.part (line + told.lines) told.rest (omega (arith, shorter, few))) where
      on : (answer : Result Front Fault) → front_at part (b ∷ more) ≡ answer → ((told : Front) → length told.rest < length (b ∷ more) → Read told.part (line + told.lines) told.rest) → Read part line (b ∷ more)
      on (Ok told) e again =
          behind part line (b ∷ more) told (front_is part (b ∷ more) told e) (again told (step_shorter part (b ∷ more) told.what told.part told.lines told.rest e))
      on (Err fault) e again = inr (fault_kind fault, line + fault_lines fault, here (fault_lines fault) (faulty part (b ∷ more) fault (λ none. absurd (cc)) e))

-- a program of the grammar, or why there is none
abbrev Parse : List ℕ → Type 0
Parse text = ((p : Program) × IsProgramText text p) ⊎ ((r : Refused) × IsTextRefusal text r)

some_parse : (text : List ℕ) → Parse text
some_parse text = from (some_reading (length text) Beginning 1 text (omega arith)) where
  told : (ts : List Token) → Tokens Beginning 1 text ts → (answer : Result Program Refused) → told_of text ts (read_text ts) ≡ answer → Parse text
  told ts w (Ok p) e = inl (p, parsed text (Ok p) (record { tokens = ts; are_tokens = w; is_told = e }))
  told ts w (Err r) e = inr (r, parsed text (Err (refusal.Refused r)) (inr (record { tokens = ts; are_tokens = w; is_told = e })))

  from : Read Beginning 1 text → Parse text
  from (inl (ts, w)) = told ts w (told_of text ts (read_text ts)) refl
  from (inr (kind, at, w)) = inr (record { kind = kind; line = at; token = 0 }, by_tokens w refl)

some_outcome : (text : List ℕ) (p : Program) → Accepts text p → (fuel : ℕ) → (o : Outcome) × IsOutcomeOf (program_written p).items fuel o
some_outcome text p a fuel = (accepted_programs_have_one_outcome text p a.is_text a.obeys fuel).some

-- the program has a code, so it is lively, and has a trace
some_trace : (text : List ℕ) (p : Program) → Accepts text p → (fuel : ℕ) → (t : Trace) × IsTraceOf (program_written p) fuel t
some_trace text p a fuel =
    let items = (program_written p).items in
    let code = programs_have_codes items (accepted_places text p a.is_text a.obeys) in
    has_trace TreeScript (asks_of items) (main_of items fuel) (first_cells items) (accepted_setting text p a.is_text a.obeys fuel) (programs_are_lively items code.0 (codes_ask_alike items code.0 code.1))

-- and so one worker begins its tasks in an order
some_order : (text : List ℕ) (p : Program) → Accepts text p → (fuel : ℕ) → (order : List (List ℕ)) × IsOrderOf (program_written p) fuel order
some_order text p a fuel =
    let items = (program_written p).items in
    let code = programs_have_codes items (accepted_places text p a.is_text a.obeys) in
    has_order TreeScript (asks_of items) (main_of items fuel) (first_cells items) (accepted_setting text p a.is_text a.obeys fuel) (programs_are_lively items code.0 (codes_ask_alike items code.0 code.1))

-- the command has the text of a program alone, and does not tell of workers
abbrev pub HasOneText : Command → Type 0
HasOneText (run file options) = options.who ≡ false
HasOneText (check file) = Unit {0}
HasOneText (trace file options) = Unit {0}
HasOneText (replay file schedule fuel) = ⊥
HasOneText (audit file fuel) = Unit {0}
HasOneText (span file fuel) = Unit {0}
HasOneText (explain file fuel) = ⊥
HasOneText (graph file fuel) = ⊥
HasOneText (missing file fuel) = ⊥
HasOneText (soak number size options) = Unit {0}

program_reply : (c : Command) → HasOneText c → (text : List ℕ) (p : Program) → Accepts text p → (reply : Reply) × IsProgramReply c (program_written p) reply
program_reply (check file) of text p a = (done_reply accepted_line, checked refl)
program_reply (replay file schedule fuel) of text p a = absurd of
program_reply (audit file fuel) of text p a = let (reply, is) = audit_reply fuel (program_written p) (some_outcome text p a fuel) in (reply, audited is)
program_reply (explain file fuel) of text p a = absurd of
program_reply (graph file fuel) of text p a = absurd of
program_reply (missing file fuel) of text p a = absurd of
program_reply (span file fuel) of text p a =
    let (o, is) = some_outcome text p a fuel in
    let (reply, told) = span_reply fuel (program_written p) (accepted_setting text p a.is_text a.obeys fuel).starts o is in
    (reply, spanned told)
program_reply (run file options) of text p a =
    let (o, is) = some_outcome text p a options.fuel in
    let (lines, are) = lines_of_order options (program_written p) of (some_order text p a options.fuel).0 (some_order text p a options.fuel).1 in
    (run_reply options.dump (program_written p) lines o.answer, ran (record { outcome = o; is_outcome = is; lines = lines; are_lines = are; is_reply = refl }))
program_reply (trace file options) of text p a =
    let (o, is) = some_outcome text p a options.fuel in
    let (t, has) = some_trace text p a options.fuel in
    (trace_reply (text_of t) o.answer, traced (record { trace = t; is_trace = has; outcome = o; is_outcome = is; is_reply = refl }))
program_reply (soak number size options) of text p a =
    let (o, is) = some_outcome text p a options.fuel in
    (soak_reply o.tasks o.answer, soaked (record { outcome = o; is_outcome = is; is_reply = refl }))

text_reply : (c : Command) → HasOneText c → (text : List ℕ) → (reply : Reply) × IsTextReply c text reply
text_reply c of text = from (some_parse text) where
  refused : (r : Refused) → Refuses text r → (reply : Reply) × IsTextReply c text reply
  refused r w = (error_reply status.TextRefused (refusal_line r.kind r.line), refused_text r w refl)

  ruled : (p : Program) → IsProgramText text p → (rules : List Refused) → program_rules p ≡ rules → (reply : Reply) × IsTextReply c text reply
  ruled p w [] e =
      let accepts : Accepts text p = record { is_text = w; obeys = e } in
      let (reply, is) = program_reply c of text p accepts in
      (reply, accepted p accepts is)
  ruled p w (r ∷ rest) e = refused r (by_rules p w (ap first e))

  from : Parse text → (reply : Reply) × IsTextReply c text reply
  from (inl (p, w)) = ruled p w (program_rules p) refl
  from (inr (r, w)) = refused r (by_grammar w)

pub file_reply : (text : List ℕ) (c : Command) → HasOneText c → (reply : Reply) × IsFileReply c text reply
file_reply text c of = on (nat_lt most_bytes (length text)) refl where
  on : (b : Bool) → nat_lt most_bytes (length text) ≡ b → (reply : Reply) × IsFileReply c text reply
  on true e = (error_reply status.TextRefused too_large_line, too_large (grind (arith, nat_tests)) refl)
  on false e = let (reply, is) = text_reply c of text in (reply, fits (grind (arith, nat_tests)) is)

schedule_reply : (text : List ℕ) (p : Program) → Accepts text p → (fuel : ℕ) (schedule : List ℕ) → (reply : Reply) × IsScheduleReply (program_written p) fuel schedule reply
schedule_reply text p a fuel schedule = from (lines_read (lines_of schedule) 1) where
  from : LinesRead (lines_of schedule) 1 → (reply : Reply) × IsScheduleReply (program_written p) fuel schedule reply
  from (inl (moves, is)) = let (reply, replies) = replay_reply (program_written p) fuel (some_outcome text p a fuel) moves in (reply, replayed moves is replies)
  from (inr (at, is)) = (error_reply status.TextRefused (schedule_line at), wrong_line at is refl)

texts_reply : (fuel : ℕ) (text schedule : List ℕ) → (reply : Reply) × IsTextsReply fuel text schedule reply
texts_reply fuel text schedule = from (some_parse text) where
  refused : (r : Refused) → Refuses text r → (reply : Reply) × IsTextsReply fuel text schedule reply
  refused r w = (error_reply status.TextRefused (refusal_line r.kind r.line), texts_refused r w refl)

  ruled : (p : Program) → IsProgramText text p → (rules : List Refused) → program_rules p ≡ rules → (reply : Reply) × IsTextsReply fuel text schedule reply
  ruled p w [] e =
      let accepts : Accepts text p = record { is_text = w; obeys = e } in
      let (reply, is) = schedule_reply text p accepts fuel schedule in
      (reply, texts_accepted p accepts is)
  ruled p w (r ∷ rest) e = refused r (by_rules p w (ap first e))

  from : Parse text → (reply : Reply) × IsTextsReply fuel text schedule reply
  from (inl (p, w)) = ruled p w (program_rules p) refl
  from (inr (r, w)) = refused r (by_grammar w)

pub files_reply : (fuel : ℕ) (text schedule : List ℕ) → (reply : Reply) × IsFilesReply fuel text schedule reply
files_reply fuel text schedule = on (nat_lt most_bytes (length text)) (nat_lt most_schedule (length schedule)) refl refl where
  on : (b c : Bool) → nat_lt most_bytes (length text) ≡ b → nat_lt most_schedule (length schedule) ≡ c → (reply : Reply) × IsFilesReply fuel text schedule reply
  on true c e f = (error_reply status.TextRefused too_large_line, files_too_large (grind (arith, nat_tests)) refl)
  on false true e f = (error_reply status.TextRefused (schedule_line 1), too_long (grind (arith, nat_tests)) (grind (arith, nat_tests)) refl)
  on false false e f = let (reply, is) = texts_reply fuel text schedule in (reply, fit (grind (arith, nat_tests)) (grind (arith, nat_tests)) is)
