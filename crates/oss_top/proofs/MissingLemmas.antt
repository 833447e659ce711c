-- The reply that tells what is missing: a program has one.
use Rattle.std.proofs.Common.{◌≡◌, ◌∙◌, ℕ, List, sym, ap, subst}
use Rattle.oss_syntax.specs.declared.tree.program.Program.{Program as Tree}
use Rattle.oss_code.specs.declared.code.CodeParts.{CodeParts}
use Rattle.oss_lower_laws.specs.Lowered.{IsLowered}
use Rattle.oss_lower_laws.proofs.OneCode.{lowered_once}
use Rattle.oss_missing_lines.specs.declared.missing.Missing.{Missing}
use Rattle.oss_missing.specs.Missing.{IsMissing}
use Rattle.oss_missing_program_laws.proofs.OneMissing.{missing_is_one}
use Rattle.oss_missing_text.specs.Text.{missing_text}
use Rattle.oss_top.specs.Missed.{IsMissingOfProgram, IsMissingReply, missed_reply}
use Rattle.oss_top.specs.declared.reply.Reply.{Reply}

-- a program has one reply that tells what is missing
pub missing_once : (fuel : ℕ) (p : Tree) (reply other : Reply) → IsMissingReply fuel p reply → IsMissingReply fuel p other → reply ≡ other
missing_once fuel p reply other x y =
    let codes : x.is_missing.code ≡ y.is_missing.code = lowered_once p.items x.is_missing.code y.is_missing.code x.is_missing.lowered y.is_missing.lowered in
    let first : IsMissing y.is_missing.code fuel p.items x.missing = subst (λ (c : CodeParts). IsMissing c fuel p.items x.missing) codes x.is_missing.is in
    let same : x.missing ≡ y.missing = missing_is_one y.is_missing.code fuel p.items x.missing y.missing first y.is_missing.is in
    x.is_reply ∙ ap (λ (m : Missing). missed_reply (missing_text p.items m) m.fault) same ∙ sym y.is_reply

-- the reply that tells what is missing
pub missing_replies : (p : Tree) (fuel : ℕ) (m : Missing) (text : List ℕ) (reply : Reply) → IsMissingOfProgram fuel p m → text ≡ missing_text p.items m → reply ≡ missed_reply text m.fault → IsMissingReply fuel p reply
missing_replies p fuel m text reply is told e = record { missing = m; is_missing = is; is_reply = e ∙ ap (λ t. missed_reply t m.fault) told }

-- what is missing of a code is missing of its program
pub missing_by_code : (p : Tree) (code : CodeParts) (fuel : ℕ) (m : Missing) → IsLowered p.items code → IsMissing code fuel p.items m → IsMissingOfProgram fuel p m
missing_by_code p code fuel m of is = record { code = code; lowered = of; is = is }
