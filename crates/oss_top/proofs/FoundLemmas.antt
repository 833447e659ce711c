-- What was found of a command's files, and what follows of it.
use Rattle.std.proofs.Common.{◌≡◌, ℕ, List, sym, subst}
use Rattle.oss_syntax.specs.declared.tree.program.Program.{Program}
use Rattle.oss_io.specs.Spans.{ShelfQuiet, ShelfSpan}
use Rattle.oss_command.specs.Commands.{Command}
use Rattle.oss_command.specs.Commands.Command.{audit, check, explain, graph, missing, replay, run, soak, span, trace}
use Rattle.oss_command.specs.declared.options.Options.{Options}
use Rattle.oss_gen.specs.Generated.{generated_text}
use Rattle.oss_top.specs.Reads.{IsReadReply}
use Rattle.oss_top.specs.Founds.{IsFound}
use Rattle.oss_top.specs.Reply.{IsFileReply, IsProgramReply, IsTextReply}
use Rattle.oss_top.specs.declared.found.Found.{Found}
use Rattle.oss_top.specs.declared.found.Found.TheVariants.{Accepted, Replied}
use Rattle.oss_top.specs.declared.reply.Reply.{Reply}

-- where each reply of the one kind is one of the other
pub found_more : (c : Command) (A B : Reply → Type 0) → ((reply : Reply) → A reply → B reply) → (found : Found) → IsFound c A found → IsFound c B found
found_more c A B more (Replied reply) is = more reply is
found_more c A B more (Accepted program) is = (is.0, λ reply told. more reply (is.1 reply told))

-- where the shelf counted nothing meanwhile
found_quiet : (c : Command) (A : Reply → Type 0) (shelf : ShelfSpan) (found : Found) → ShelfQuiet shelf → IsFound c A found → IsFound c (λ reply. ShelfQuiet shelf × A reply) found
found_quiet c A shelf found quiet is = found_more c A (λ reply. ShelfQuiet shelf × A reply) (λ reply told. (quiet, told)) found is

-- the command reads one file
abbrev pub ReadsOneFile : Command → Type 0
ReadsOneFile (run file options) = Unit {0}
ReadsOneFile (check file) = Unit {0}
ReadsOneFile (trace file options) = Unit {0}
ReadsOneFile (replay file schedule fuel) = ⊥
ReadsOneFile (soak number size options) = ⊥
ReadsOneFile (audit file fuel) = Unit {0}
ReadsOneFile (span file fuel) = Unit {0}
ReadsOneFile (explain file fuel) = Unit {0}
ReadsOneFile (graph file fuel) = Unit {0}
ReadsOneFile (missing file fuel) = Unit {0}

-- what was found in its text
pub found_of_text : (c : Command) → ReadsOneFile c → (text : List ℕ) (shelf : ShelfSpan) (found : Found) → ShelfQuiet shelf → IsFound c (IsTextReply c text) found → IsFound c (IsReadReply c text shelf) found
found_of_text (run file options) one text shelf found quiet is = found_quiet (run file options) (IsTextReply (run file options) text) shelf found quiet is
found_of_text (check file) one text shelf found quiet is = found_quiet (check file) (IsTextReply (check file) text) shelf found quiet is
found_of_text (trace file options) one text shelf found quiet is = found_quiet (trace file options) (IsTextReply (trace file options) text) shelf found quiet is
found_of_text (replay file schedule fuel) one text shelf found quiet is = absurd one
found_of_text (soak number size options) one text shelf found quiet is = absurd one
found_of_text (audit file fuel) one text shelf found quiet is = found_quiet (audit file fuel) (IsTextReply (audit file fuel) text) shelf found quiet is
found_of_text (span file fuel) one text shelf found quiet is = found_quiet (span file fuel) (IsTextReply (span file fuel) text) shelf found quiet is
found_of_text (explain file fuel) one text shelf found quiet is = found_quiet (explain file fuel) (IsTextReply (explain file fuel) text) shelf found quiet is
found_of_text (graph file fuel) one text shelf found quiet is = found_quiet (graph file fuel) (IsTextReply (graph file fuel) text) shelf found quiet is
found_of_text (missing file fuel) one text shelf found quiet is = found_quiet (missing file fuel) (IsTextReply (missing file fuel) text) shelf found quiet is

-- and in a text that was generated
pub found_of_soak : (number size : ℕ) (options : Options) (text : List ℕ) (shelf : ShelfSpan) (found : Found) → ShelfQuiet shelf
    → IsFound (soak number size options) (IsFileReply (soak number size options) (generated_text number size)) found → IsFound (soak number size options) (IsReadReply (soak number size options) text shelf) found
found_of_soak number size options text shelf found quiet is = found_quiet (soak number size options) (IsFileReply (soak number size options) (generated_text number size)) shelf found quiet is

-- a reply that stands already
pub replied_is : (c : Command) (A : Reply → Type 0) (found : Found) (reply : Reply) → found ≡ Replied reply → A reply → IsFound c A found
replied_is c A found reply e is = subst (λ (f : Found). IsFound c A f) (sym e) is

-- and what stands for a program that was found
pub accepted_replies : (c : Command) (A : Reply → Type 0) (found : Found) (program : Program) (reply : Reply) → found ≡ Accepted program → IsFound c A found → IsProgramReply c program reply → A reply
accepted_replies c A found program reply e is told = (subst (λ (f : Found). IsFound c A f) e is).1 reply told

-- and for a reply that was
pub replied_stands : (c : Command) (A : Reply → Type 0) (found : Found) (reply : Reply) → found ≡ Replied reply → IsFound c A found → A reply
replied_stands c A found reply e is = subst (λ (f : Found). IsFound c A f) e is
